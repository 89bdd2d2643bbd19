-- Whole derivations that are written are read back.
use Rattle.std.proofs.Common.{◌≡◌, ℕ, ◌+◌, ◌<◌, ◌≤◌, Bool, true, ◌&&◌, not, if◌then◌else◌, nat_lt, List, [], ◌∷◌, ◌++◌, length, drop, Option, Some, None, Ok, is_some, option_map, unwrap_or, slice_get, codes, bytes_eq, refl, sym, ap, subst, ◌∙◌, length-append, append_assoc, append-nil, take-append-drop, arith}
use Rattle.std.specs.List.{list_all, list_any, range_with_len}
use Rattle.std.proofs.lemmas.Option.{slice_get_within}
use Rattle.ct_lemmas.proofs.Booleans.{both_parts}
use Rattle.ct_lemmas.proofs.Lists.{slice_get-map_at}
use Rattle.ct_lemmas.proofs.Prefixes.{slice_get-take}
use Rattle.ct_generics.specs.Expression.{Expression, named, head_of}
use Rattle.ct_generics.specs.Declarations.{Head}
use Rattle.ct_sexpr.specs.Expression.{none, more}
use Rattle.ct_sexpr.specs.Written.{written}
use Rattle.ct_sorts.specs.declared.ids.CtorId.{CtorId}
use Rattle.ct_sorts.specs.Declarations.{Declarations, Constructor, IsConstructor, ctor_names, bool_sort, start}
use Rattle.ct_sorts.specs.Consistent.{IsConsistent}
use Rattle.ct_instances.specs.Among.{origin_of}
use Rattle.ct_instances.specs.Fields.{occurs, generic_fields, is_determined, sort_of_ctor, index_among, is_ctor_determined}
use Rattle.ct_instances.proofs.InstanceLemmas.{first_origin, first_plain, origin_is}
use Rattle.ct_terms.specs.declared.term.Core.TheVariants.{Con}
use Rattle.ct_terms.specs.Terms.{Terms, IsTermTable, AreSorted, AreOrdered, AreSingle, most_terms, truth_terms}
use Rattle.ct_log.specs.declared.line.Line.{Line}
use Rattle.ct_log.specs.Recorded.{Recorded}
use Rattle.ct_log_lines.specs.Forms.{number_bound}
use Rattle.ct_log_lines.specs.TermLines.{term_line, is_alone}
use Rattle.ct_log_text.specs.Reading.{ReadOutcome, GivesTerm, read_lines, ReadsTerms, Reads, number_of}
use Rattle.ct_log_text.specs.Written.{sort_item, term_item, header_item, end_item, term_items, line_items, expression_of_record}
use Rattle.ct_log_text.specs.Writable.{is_writable, is_short, are_short, CanBeRead}
use Rattle.ct_log_text.proofs.LinesBack.{lines_back, header_back}
use Rattle.ct_log_text.proofs.TermsBack.{SortTheorems, ctor_sort_in_line, sort_named, term_line_back, term_back}

module _ (d : Declarations) (consistent : IsConsistent d) (theorems : SortTheorems d) (terms : Terms) (table : IsTermTable terms) (sorted : AreSorted d terms) (lines : List Line) (m : ℕ) (count : length lines ≡ m) (writable : list_all (is_writable terms) lines ≡ true) where
  -- where the term lines end
  at_lines : (place : ℕ) (ls : List Line) (outcome : ReadOutcome) → outcome ≡ read_lines place terms [] (line_items 1 ls (more (end_item m) none)) → ReadsTerms d place terms (line_items 1 ls (more (end_item m) none)) outcome
  at_lines place [] outcome h = h
  at_lines place (line ∷ ls) outcome h = h

  -- the terms after others, and the lines
  pub terms_back : (before : Terms) (n : ℕ) (after : Terms) (place : ℕ) → length before ≡ n → terms ≡ before ++ after
      → are_short (term_items d n after (line_items 1 lines (more (end_item m) none))) ≡ true
      → ReadsTerms d place before (term_items d n after (line_items 1 lines (more (end_item m) none))) (Ok (record { terms = terms; lines = lines }))
  terms_back before n [] place long is short =
      let all : length lines ≡ m = count in
      let none_done : 0 + length lines ≡ m = omega (arith, all) in
      subst (λ ts. ReadsTerms d place ts (line_items 1 lines (more (end_item m) none)) (Ok (record { terms = terms; lines = lines }))) (is ∙ append-nil before)
      (at_lines place lines (Ok (record { terms = terms; lines = lines })) (sym (lines_back terms table.few place [] 1 lines m refl none_done writable short)))
  terms_back before n ((core, sort) ∷ after) place long is short =
      let items = term_items d (n + 1) after (line_items 1 lines (more (end_item m) none)) in
      let parts = both_parts (is_short (term_item d n core)) (are_short items) short in
      let given = term_back d consistent theorems before after core sort (subst (λ ts. length ts ≤ most_terms) is table.few) (subst AreOrdered is table.ordered) (subst AreSingle is table.single) (subst (AreSorted d) is sorted)
      (subst (λ k. is_short (term_item d k core) ≡ true) (sym long) parts.0) in
      let longer : length (before ++ (core, sort) ∷ []) ≡ length before + 1 = length-append before ((core, sort) ∷ []) in
      let next : length (before ++ (core, sort) ∷ []) ≡ n + 1 = omega (arith, longer, long) in (
        Ok (before ++ (core, sort) ∷ []),
        subst (λ k. GivesTerm d before (term_item d k core) (Ok (before ++ (core, sort) ∷ []))) long given,
        terms_back (before ++ (core, sort) ∷ []) (n + 1) after (place + 1) next (is ∙ sym (append_assoc before ((core, sort) ∷ []) after)) parts.1,
      )

-- the first two constructors
abbrev true_ctor : Constructor
true_ctor = record { name = codes "true"; sort = bool_sort; sels = [] }

abbrev false_ctor : Constructor
false_ctor = record { name = codes "false"; sort = bool_sort; sels = [] }

truth_there : (d : Declarations) → IsConsistent d → (c : ℕ) (ctor : Constructor) → slice_get start.ctors c ≡ Some ctor → slice_get d.ctors c ≡ Some ctor
truth_there d consistent c ctor at = slice_get-take 2 d.ctors c ctor (ap (λ (xs : List Constructor). slice_get xs c) consistent.first_ctors ∙ at)

pub true_name : (d : Declarations) → IsConsistent d → slice_get (ctor_names d) 0 ≡ Some (codes "true")
true_name d consistent = slice_get-map_at (λ (x : Constructor). x.name) d.ctors 0 true_ctor (truth_there d consistent 0 true_ctor refl)

pub false_name : (d : Declarations) → IsConsistent d → slice_get (ctor_names d) 1 ≡ Some (codes "false")
false_name d consistent = slice_get-map_at (λ (x : Constructor). x.name) d.ctors 1 false_ctor (truth_there d consistent 1 false_ctor refl)

-- no sort stands with a constructor of Bool
bool_determined : (d : Declarations) → IsConsistent d → (c : CtorId) (ctor : Constructor) → slice_get d.ctors c.0 ≡ Some ctor → ctor.sort ≡ bool_sort → is_ctor_determined d c ≡ true
bool_determined d consistent c ctor at of_bool =
    let first : origin_of d (sort_of_ctor d c) ≡ named 0 = ap (origin_of d) (sort_named d c ctor at ∙ of_bool) ∙ origin_is d consistent bool_sort (named 0) (first_origin d consistent) in
    ap (λ (e : Expression). is_determined d (record { 0 = unwrap_or (head_of e) 0 }) (index_among d (sort_of_ctor d c) c)) first
    ∙ ap (λ (n : ℕ). list_all (λ j. list_any (occurs j) (generic_fields d (record { 0 = 0 }) (index_among d (sort_of_ctor d c) c))) (range_with_len 0 n)) (by (slice_get d.declared.heads 0) refl)
  where
    by : (o : Option Head) → slice_get d.declared.heads 0 ≡ o → unwrap_or (option_map (λ (h : Head). h.params) o) 0 ≡ 0
    by None at_head = refl
    by (Some head) at_head = first_plain d consistent head at_head

-- the line of a constructor alone
alone_back : (d : Declarations) → IsConsistent d → (n : ℕ) (c : CtorId) (ctor : Constructor) → n < most_terms → slice_get d.ctors c.0 ≡ Some ctor → ctor.sort ≡ bool_sort → bytes_eq ctor.name ctor.name ≡ true → is_short (term_item d n (Con c [])) ≡ true
    → is_alone ctor.name (term_line n (term_item d n (Con c []))) ≡ true
alone_back d consistent n c ctor few at of_bool same short =
    let within : IsConstructor d c = slice_get_within d.ctors c.0 ctor at in
    let own : unwrap_or (slice_get (ctor_names d) c.0) [] ≡ ctor.name = ap (λ (o : Option (List ℕ)). unwrap_or o []) (slice_get-map_at (λ (x : Constructor). x.name) d.ctors c.0 ctor at) in
    let alone : bytes_eq (unwrap_or (slice_get (ctor_names d) c.0) []) ctor.name ≡ true = ap (λ (name : List ℕ). bytes_eq name ctor.name) own ∙ same in
    let no_sort : ctor_sort_in_line d c ≡ None = ap (λ (b : Bool). if b then None else Some (written (sort_item d (sort_of_ctor d c)))) (bool_determined d consistent c ctor at of_bool) in
    ap (is_alone ctor.name) (term_line_back d consistent n (Con c []) within few short)
    ∙ ap (λ (b : Bool). b && (not (is_some (ctor_sort_in_line d c)) && true)) alone
    ∙ ap (λ (o : Option (List ℕ)). not (is_some o) && true) no_sort

-- the items of a record
record_back : (d : Declarations) (k : ℕ) (others : Terms) (lines : List Line) → IsConsistent d → SortTheorems d → 1 ≤ k → IsTermTable (truth_terms ++ others) → AreSorted d (truth_terms ++ others) → list_all (is_writable (truth_terms ++ others)) lines ≡ true
    → is_short (expression_of_record d k (record { terms = truth_terms ++ others; lines = lines })) ≡ true
    → Reads d (expression_of_record d k (record { terms = truth_terms ++ others; lines = lines })) (Ok (record { terms = truth_terms ++ others; lines = lines }))
record_back d k others lines consistent theorems some table sorted writable short =
    let tail = line_items 1 lines (more (end_item (length lines)) none) in
    let yes = term_item d 0 (Con (record { 0 = 0 }) []) in
    let no_line = term_item d 1 (Con (record { 0 = 1 }) []) in
    let items = term_items d 2 others tail in
    let first = both_parts (is_short (header_item k)) (is_short yes && (is_short no_line && are_short items)) short in
    let number = both_parts (nat_lt k number_bound) true first.0 in
    let second = both_parts (is_short yes) (is_short no_line && are_short items) first.1 in
    let third = both_parts (is_short no_line) (are_short items) second.1 in
    rw (header_back k some number.0)
    (rw (alone_back d consistent 0 (record { 0 = 0 }) true_ctor (omega arith) (truth_there d consistent 0 true_ctor refl) refl refl second.0)
    (rw (alone_back d consistent 1 (record { 0 = 1 }) false_ctor (omega arith) (truth_there d consistent 1 false_ctor refl) refl refl third.0)
    (terms_back d consistent theorems (truth_terms ++ others) table sorted lines (length lines) refl writable truth_terms 2 others 3 refl refl third.1)))

-- what is written with a number is read back
pub read_back : (d : Declarations) (k : ℕ) (rec : Recorded) → IsConsistent d → SortTheorems d → CanBeRead d k rec → Reads d (expression_of_record d k rec) (Ok rec)
read_back d k rec consistent theorems can =
    let is : truth_terms ++ drop 2 rec.terms ≡ rec.terms = ap (λ ts. ts ++ drop 2 rec.terms) (sym can.table.begins) ∙ take-append-drop 2 rec.terms in
    let back = sym is in
    subst (λ ts. Reads d (expression_of_record d k (record { terms = ts; lines = rec.lines })) (Ok (record { terms = ts; lines = rec.lines }))) is
    (record_back d k (drop 2 rec.terms) rec.lines consistent theorems can.some (subst IsTermTable back can.table) (subst (AreSorted d) back can.sorted)
    (subst (λ ts. list_all (is_writable ts) rec.lines ≡ true) back can.lines)
    (subst (λ ts. is_short (expression_of_record d k (record { terms = ts; lines = rec.lines })) ≡ true) back can.short))

-- and so is the number
pub number_read_back : (d : Declarations) (k : ℕ) (rec : Recorded) → CanBeRead d k rec → number_of (expression_of_record d k rec) ≡ Some k
number_read_back d k rec can =
    let items = term_items d 0 rec.terms (line_items 1 rec.lines (more (end_item (length rec.lines)) none)) in
    let first = both_parts (is_short (header_item k)) (are_short items) can.short in
    let number = both_parts (nat_lt k number_bound) true first.0 in
    header_back k can.some number.0
