-- Term lines that are written are read back.
use Rattle.std.proofs.Common.{◌≡◌, ◌⊎◌, ℕ, zero, suc, ◌+◌, ◌<◌, ◌≤◌, Bool, true, false, if◌then◌else◌, ◌&&◌, nat_lt, List, [], ◌∷◌, ◌++◌, length, map, Option, Some, None, Result, Ok, slice_get, unwrap_or, option_map, inl, inr, refl, sym, ap, ap₂, subst, ◌∙◌, length-append, arith}
use Rattle.std.proofs.lemmas.Bool.{eq-eqb, lt-ltb}
use Rattle.std.proofs.lemmas.Option.{same_Some, slice_get_within}
use Rattle.std.specs.List.{AllByRecursion, list_all}
use Rattle.std.specs.Option.{option_and_then}
use Rattle.ct_lemmas.proofs.Booleans.{both_parts}
use Rattle.ct_lemmas.proofs.Lists.{slice_get-prefix, slice_get-map_at, slice_get-there}
use Rattle.ct_generics.specs.Expression.{Expression, args_of, substitute}
use Rattle.ct_sexpr.specs.Expression.{more, word}
use Rattle.ct_sexpr.specs.Written.{written}
use Rattle.ct_sorts.specs.declared.ids.SortId.{SortId}
use Rattle.ct_sorts.specs.declared.ids.Symbol.{Symbol}
use Rattle.ct_sorts.specs.declared.ids.Symbol.TheVariants as symbols
use Rattle.ct_sorts.specs.declared.ids.Symbol.TheVariants.{GenCtor}
use Rattle.ct_sorts.specs.declared.ids.CtorId.{CtorId}
use Rattle.ct_sorts.specs.declared.ids.SelId.{SelId}
use Rattle.ct_sorts.specs.declared.ids.GenId.{GenId}
use Rattle.ct_sorts.specs.Consistent.{IsConsistent}
use Rattle.ct_sorts.specs.Declarations.{Declarations, Constructor, Selector, Function, IsSort, ctor_names, sel_names, function_names}
use Rattle.ct_sorts.specs.Lookup.{IsSymbol, ResolvesTo, IsPlainCtor}
use Rattle.ct_sorts.proofs.StructureLemmas.{of_their_constructors}
use Rattle.ct_instances.specs.declared.among.NamedCtor.TheVariants.{Generic}
use Rattle.ct_instances.specs.Among.{origin_of, nth_sel, ctor_among, field_among}
use Rattle.ct_instances.specs.Fields.{is_determined, is_ctor_determined, sort_of_ctor}
use Rattle.ct_instances.proofs.CtorNameLemmas.{IsOfGeneric, plain_or_generic, origin_at, sort_of_ctor_within}
use Rattle.ct_instances.proofs.InstanceLemmas.{AreMade}
use Rattle.ct_terms.specs.declared.ids.TermId.{TermId}
use Rattle.ct_terms.specs.declared.term.Core.{Core}
use Rattle.ct_terms.specs.declared.term.Core.TheVariants.{Con, Sel, Test, Apply, Eq, Not, And, Or, Iff, Ite}
use Rattle.ct_terms.specs.Children.{core_children, HasArgumentsBelow}
use Rattle.ct_terms.specs.Terms.{Terms, AreSorted, AreOrdered, AreSingle, IsOfSort, Constructs, Selects, HasSort, IsAbsent, Has, most_terms}
use Rattle.ct_log_lines.specs.declared.term_lines.TermLine.{TermLine}
use Rattle.ct_log_lines.specs.Forms.{number_bound, term_numbered}
use Rattle.ct_log_lines.specs.declared.term_lines.TermKind.{TermKind}
use Rattle.ct_log_lines.specs.declared.term_lines.TermKind.TheVariants.{Con as KindCon, Sel as KindSel, Test as KindTest}
use Rattle.ct_log_lines.specs.TermLines.{has_name, has_ctor, may_have, line_of_kind, line_after_kind, term_line}
use Rattle.ct_log_text.specs.Cores.{core_with}
use Rattle.ct_log_text.specs.Fitting.{is_term}
use Rattle.ct_log_text.specs.Named.{first_sort, sort_in, sort_of_arguments, symbol_at}
use Rattle.ct_log_text.specs.Reading.{sorts_of, StandsFor, Adds, GivesLine, GivesTerm}
use Rattle.ct_log_text.specs.Written.{numbers, name, sort_item, qualified_item, ctor_item, term_numbers, kind_of, core_parts, term_item, IsNamed}
use Rattle.ct_log_lines.specs.TermLines.{kind_word}
use Rattle.ct_log_text.specs.Writable.{is_short, are_short}
use Rattle.ct_log_text.proofs.NumbersBack.{number_back, numbers_back, name_back, numbered_back}
use Rattle.ct_log_text.proofs.WriteLemmas.{named}
use Rattle.ct_log_text.proofs.FieldsBack.{zip_origins, sort_back}
use Rattle.ct_log_text.proofs.CtorFields.{instance_parts, fields_made}
use Rattle.ct_log_text.proofs.ReadLemmas.{gives_of}
use Rattle.ct_log_text.proofs.ResolveBack.{OneText}
use Rattle.ct_log_text.proofs.SortFormBack.{qualified_back}
use Rattle.ct_log_text.proofs.StandsBack.{ctor_stands}
use Rattle.ct_log_text.proofs.SortsBack.{slice_get-last, sort_stays}
use Rattle.ct_log_text.proofs.TermSorts.{sort_of_is}

-- the name that stands in a term line
abbrev pub name_in_line : Declarations → Core → List ℕ
name_in_line d (Con c args) = unwrap_or (slice_get (ctor_names d) c.0) []
name_in_line d (Sel s t) = unwrap_or (slice_get (sel_names d) s.0) []
name_in_line d (Test c t) = unwrap_or (slice_get (ctor_names d) c.0) []
name_in_line d (Apply f args) = unwrap_or (slice_get (function_names d) f.0) []
name_in_line d core = []

-- the text of the sort that stands with the constructor in a term line
abbrev pub ctor_sort_in_line : Declarations → CtorId → Option (List ℕ)
ctor_sort_in_line d c = if is_ctor_determined d c then None else Some (written (sort_item d (sort_of_ctor d c)))

abbrev pub sort_in_line : Declarations → Core → Option (List ℕ)
sort_in_line d (Con c args) = ctor_sort_in_line d c
sort_in_line d (Test c t) = ctor_sort_in_line d c
sort_in_line d core = None

-- the term line of a term
abbrev pub line_of : Declarations → Core → TermLine
line_of d core = record { kind = kind_of core; name = name_in_line d core; sort = sort_in_line d core; numbers = term_numbers (core_children core) }

-- a line with a name, and one without
named_back : (bytes : List ℕ) (ns : List ℕ) → are_short (more (name bytes) (numbers ns)) ≡ true → are_short (numbers ns) ≡ true
named_back bytes ns short = (both_parts (is_short (name bytes)) (are_short (numbers ns)) short).1

-- a line of a constructor
ctor_line_back : (d : Declarations) → IsConsistent d → (kind : TermKind) → has_ctor kind ≡ true → has_name kind ≡ true → (c : CtorId) (ns : List ℕ) → IsSort d (sort_of_ctor d c) → may_have kind (length ns) ≡ true → are_short (more (ctor_item d c) (numbers ns)) ≡ true
    → line_of_kind kind (more (ctor_item d c) (numbers ns)) ≡ Some (record { kind = kind; name = unwrap_or (slice_get (ctor_names d) c.0) []; sort = ctor_sort_in_line d c; numbers = ns })
ctor_line_back d consistent kind of_ctor of_name c ns within many short = by (is_ctor_determined d c) ((both_parts (is_short (ctor_item d c)) (are_short (numbers ns)) short).1)
  where
    nm : List ℕ
    nm = unwrap_or (slice_get (ctor_names d) c.0) []

    by : (b : Bool) → are_short (numbers ns) ≡ true
        → line_of_kind kind (more (if b then name nm else qualified_item d c) (numbers ns)) ≡ Some (record { kind = kind; name = nm; sort = if b then None else Some (written (sort_item d (sort_of_ctor d c))); numbers = ns })
    by true rest = rw (of_name, name_back nm, numbers_back ns rest, many) refl
    by false rest = rw (of_name, of_ctor, qualified_back d consistent c within, numbers_back ns rest, many) refl

parts_back : (d : Declarations) → IsConsistent d → (core : Core) → IsNamed d core → are_short (core_parts d core) ≡ true → line_after_kind (word (kind_word (kind_of core)), core_parts d core) ≡ Some (line_of d core)
parts_back d consistent (Con c args) is short = ctor_line_back d consistent KindCon refl refl c (term_numbers args) (sort_of_ctor_within d consistent c is) refl short
parts_back d consistent (Sel s t) is short =
    let nm = unwrap_or (slice_get (sel_names d) s.0) [] in
    rw (name_back nm, numbers_back (t.0 ∷ []) (named_back nm (t.0 ∷ []) short)) refl
parts_back d consistent (Test c t) is short = ctor_line_back d consistent KindTest refl refl c (t.0 ∷ []) (sort_of_ctor_within d consistent c is) refl short
parts_back d consistent (Apply f args) is short =
    let nm = unwrap_or (slice_get (function_names d) f.0) [] in
    rw (name_back nm, numbers_back (term_numbers args) (named_back nm (term_numbers args) short)) refl
parts_back d consistent (Eq a b) is short = rw (numbers_back (a.0 ∷ (b.0 ∷ [])) short) refl
parts_back d consistent (Not t) is short = rw (numbers_back (t.0 ∷ []) short) refl
parts_back d consistent (And args) is short = rw (numbers_back (term_numbers args) short) refl
parts_back d consistent (Or args) is short = rw (numbers_back (term_numbers args) short) refl
parts_back d consistent (Iff a b) is short = rw (numbers_back (a.0 ∷ (b.0 ∷ [])) short) refl
parts_back d consistent (Ite c a b) is short = rw (numbers_back (c.0 ∷ (a.0 ∷ (b.0 ∷ []))) short) refl

-- a term line as it stands in the text
pub term_line_back : (d : Declarations) → IsConsistent d → (n : ℕ) (core : Core) → IsNamed d core → n < most_terms → is_short (term_item d n core) ≡ true → term_line n (term_item d n core) ≡ Some (line_of d core)
term_line_back d consistent n core is few short =
    let first = both_parts (nat_lt n number_bound) (is_short (word (kind_word (kind_of core))) && are_short (core_parts d core)) short in
    let second = both_parts (is_short (word (kind_word (kind_of core)))) (are_short (core_parts d core)) first.1 in
    rw (lt-ltb n 400000 few, number_back n first.0, eq-eqb n n refl) (parts_back d consistent core is second.1)

-- the terms that it names
numbered_all : (count : ℕ) → count ≤ most_terms → (ts : List TermId) → AllByRecursion (λ t. t.0 < count) ts → map term_numbered (term_numbers ts) ≡ ts
numbered_all count few [] below = refl
numbered_all count few (t ∷ ts) below = ap₂ (λ u us. u ∷ us) (numbered_back count t few (lt-ltb t.0 count below.0)) (numbered_all count few ts below.1)

all_terms : (count : ℕ) (ts : List TermId) → AllByRecursion (λ t. t.0 < count) ts → list_all (is_term count) ts ≡ true
all_terms count [] below = refl
all_terms count (t ∷ ts) below = rw (lt-ltb t.0 count below.0) (all_terms count ts below.1)

-- what its name stands for
abbrev symbol_in : Core → Option Symbol
symbol_in (Con c args) = Some (symbols.Ctor c)
symbol_in (Sel s t) = Some (symbols.Sel s)
symbol_in (Test c t) = Some (symbols.Ctor c)
symbol_in (Apply f args) = Some (symbols.Fun f)
symbol_in core = None

core_back : (core : Core) → core_with (kind_of core) (symbol_in core) (core_children core) ≡ Some core
core_back (Con c args) = refl
core_back (Sel s t) = refl
core_back (Test c t) = refl
core_back (Apply f args) = refl
core_back (Eq a b) = refl
core_back (Not t) = refl
core_back (And args) = refl
core_back (Or args) = refl
core_back (Iff a b) = refl
core_back (Ite c a b) = refl

pub name_there : {X : Type 0} (name_of : X → List ℕ) (xs : List X) (i : ℕ) → i < length xs → slice_get (map name_of xs) i ≡ Some (unwrap_or (slice_get (map name_of xs) i) [])
name_there name_of [] i within = absurd (omega (arith, within))
name_there name_of (x ∷ xs) zero within = refl
name_there name_of (x ∷ xs) (suc i) within = name_there name_of xs i (omega (arith, within))

-- the sort of a constructor
pub sort_named : (d : Declarations) (c : CtorId) (ctor : Constructor) → slice_get d.ctors c.0 ≡ Some ctor → sort_of_ctor d c ≡ ctor.sort
sort_named d c ctor at = ap (λ (o : Option Constructor). unwrap_or (option_map (λ (k : Constructor). k.sort) o) (record { 0 = 0 })) at

-- the sort of a term that has one
sort_there : (terms : Terms) (t : TermId) (s : SortId) → IsOfSort terms t s → first_sort (sorts_of terms (t ∷ [])) ≡ Some s
sort_there terms t s is = ap (λ (x : SortId). Some x) (sym (sort_of_is terms t s is))

-- what the theorems on sorts tell: no two sorts have one text, and what the sorts are made of
pub record SortTheorems (d : Declarations) : Type 0 where
  pub one_text : OneText d
  pub made : AreMade d

module _ (d : Declarations) (consistent : IsConsistent d) (theorems : SortTheorems d) where
  -- the sorts of its arguments give the sort of a constructor that they determine
  con_sort : (terms : Terms) (c : CtorId) (args : List TermId) (sort : SortId) → Constructs d terms c.0 args sort → (g : GenId) (i : ℕ) → IsSymbol d (GenCtor g i) → is_determined d g i ≡ true
      → ctor_among d (Generic g i) (sort_of_ctor d c) ≡ Some c → sort_of_arguments d g i (sorts_of terms args) ≡ Some (sort_of_ctor d c)
  con_sort terms c args sort has g i is determined among =
      let s = sort_of_ctor d c in
      let e = origin_of d s in
      let fields = fields_made d consistent theorems.made g i is.0 is.1 c has.ctor has.declared among in
      let origin = origin_at d consistent s (sort_of_ctor_within d consistent c (slice_get_within d.ctors c.0 has.ctor has.declared)) in
      let each : (j : ℕ) (id : SelId) (f : Expression) → slice_get has.ctor.sels j ≡ Some id → slice_get (map (substitute (args_of e)) fields.row) j ≡ Some f → (sel : Selector) × (slice_get d.sels id.0 ≡ Some sel) × (origin_of d sel.sort ≡ f) =
      λ j id f at_id at_f. let field = fields.each j f at_f in (field.sel, ap (λ (x : SelId). slice_get d.sels x.0) (same_Some id field.id (sym at_id ∙ field.at)) ∙ field.there, field.sort_is) in
      sort_back d consistent s e origin g (instance_parts d g i s c among).0 fields.head fields.at_head i fields.row fields.at_row determined (sorts_of terms args)
      (zip_origins d terms args has.ctor.sels (map (substitute (args_of e)) fields.row) has.fields each fields.long)

  -- the name of a constructor in a line of its term, or of a test
  ctor_stands_so : (kind : TermKind) (sorts : List SortId) (numbers : List ℕ) (c : CtorId) (ctor : Constructor) → slice_get d.ctors c.0 ≡ Some ctor
      → ((g : GenId) (i : ℕ) → IsSymbol d (GenCtor g i) → is_determined d g i ≡ true → ctor_among d (Generic g i) (sort_of_ctor d c) ≡ Some c → sort_in d kind g i sorts ≡ Some (sort_of_ctor d c))
      → let line : TermLine = record { kind = kind; name = unwrap_or (slice_get (ctor_names d) c.0) []; sort = ctor_sort_in_line d c; numbers = numbers } in
      (found : Option Symbol) × ResolvesTo d line.name found × (Some (symbols.Ctor c) ≡ symbol_at d line sorts found)
  ctor_stands_so kind sorts numbers c ctor at gives =
      let own : unwrap_or (slice_get (ctor_names d) c.0) [] ≡ ctor.name = ap (λ (o : Option (List ℕ)). unwrap_or o []) (slice_get-map_at (λ (x : Constructor). x.name) d.ctors c.0 ctor at) in
      subst (λ (name : List ℕ). let line : TermLine = record { kind = kind; name = name; sort = ctor_sort_in_line d c; numbers = numbers } in
      (found : Option Symbol) × ResolvesTo d line.name found × (Some (symbols.Ctor c) ≡ symbol_at d line sorts found)) (sym own)
      (ctor_stands d consistent theorems.one_text kind sorts numbers c ctor at gives)

  -- the name of a selector
  sel_stands : (terms : Terms) (s : SelId) (t : TermId) (sort : SortId) (numbers : List ℕ) → Selects d terms s.0 t sort
      → let line : TermLine = record { kind = KindSel; name = unwrap_or (slice_get (sel_names d) s.0) []; sort = None; numbers = numbers } in
      (found : Option Symbol) × ResolvesTo d line.name found × (Some (symbols.Sel s) ≡ symbol_at d line (sorts_of terms (t ∷ [])) found)
  sel_stands terms s t sort numbers has = by (plain_or_generic d consistent has.selector.ctor has.ctor has.constructor)
    where
      there : slice_get (sel_names d) s.0 ≡ Some (unwrap_or (slice_get (sel_names d) s.0) [])
      there = name_there (λ (x : Selector). x.name) d.sels s.0 (slice_get_within d.sels s.0 has.selector has.declared)

      own : unwrap_or (slice_get (sel_names d) s.0) [] ≡ has.selector.name
      own = ap (λ (o : Option (List ℕ)). unwrap_or o []) (slice_get-map_at (λ (x : Selector). x.name) d.sels s.0 has.selector has.declared)

      line : TermLine
      line = record { kind = KindSel; name = unwrap_or (slice_get (sel_names d) s.0) []; sort = None; numbers = numbers }

      by : (IsPlainCtor d has.selector.ctor × (is_ctor_determined d has.selector.ctor ≡ true)) ⊎ IsOfGeneric d has.selector.ctor has.ctor.name → (found : Option Symbol) × ResolvesTo d line.name found × (Some (symbols.Sel s) ≡ symbol_at d line (sorts_of terms (t ∷ [])) found)
      by (inl plain) = (Some (symbols.Sel s), (there, (has.selector, has.declared, plain.0)), refl)
      by (inr k) =
          let place = has.selector.place in
          let home = of_their_constructors d consistent s.0 has.selector has.declared in
          let same_home : home.0 ≡ has.ctor = same_Some home.0 has.ctor (sym home.1 ∙ has.constructor) in
          let at_place : slice_get has.ctor.sels place ≡ Some (record { 0 = s.0 }) = ap (λ (x : Constructor). slice_get x.sels place) (sym same_home) ∙ home.2 in
          let fields = fields_made d consistent theorems.made k.g k.i k.spelling k.known has.selector.ctor has.ctor has.constructor k.among in
          let within : place < length has.ctor.sels = slice_get_within has.ctor.sels place (record { 0 = s.0 }) at_place in
          let f = slice_get-there (map (substitute (args_of (origin_of d (sort_of_ctor d has.selector.ctor)))) fields.row) place (omega (arith, within, fields.long)) in
          let field = fields.each place f.0 f.1 in
          let same_id : field.id ≡ record { 0 = s.0 } = same_Some field.id (record { 0 = s.0 }) (sym field.at ∙ at_place) in
          let same_sel : field.sel ≡ has.selector = same_Some field.sel has.selector (sym field.there ∙ ap (λ (x : SelId). slice_get d.sels x.0) same_id ∙ has.declared) in
          let first : first_sort (sorts_of terms (t ∷ [])) ≡ Some (sort_of_ctor d has.selector.ctor) = sort_there terms t has.ctor.sort has.sorted ∙ ap (λ (x : SortId). Some x) (sym (sort_named d has.selector.ctor has.ctor has.constructor)) in
          let found : option_and_then (field_among d k.g k.i place) (first_sort (sorts_of terms (t ∷ []))) ≡ Some s =
          ap (option_and_then (field_among d k.g k.i place)) first ∙ ap (option_and_then (nth_sel d place)) k.among ∙ ap (option_and_then (λ (x : Constructor). slice_get x.sels place)) has.constructor ∙ at_place in (
            Some (symbols.GenSel k.g k.i place),
            (k.spelling, k.known, field.name_is ∙ ap (λ (x : Selector). Some x.name) same_sel ∙ ap (λ (x : List ℕ). Some x) (sym own)),
            sym (ap (option_map symbols.Sel) found),
          )

  -- what the name in the line of a well sorted term stands for
  stands : (terms : Terms) (core : Core) (sort : SortId) → HasSort d terms core sort → map term_numbered (term_numbers (core_children core)) ≡ core_children core → StandsFor d terms (line_of d core) (symbol_in core)
  stands terms (Con c args) sort has same =
      ctor_stands_so KindCon (sorts_of terms (map term_numbered (term_numbers args))) (term_numbers args) c has.ctor has.declared
      (λ g i is determined among. subst (λ (ts : List TermId). sort_of_arguments d g i (sorts_of terms ts) ≡ Some (sort_of_ctor d c)) (sym same) (con_sort terms c args sort has g i is determined among))
  stands terms (Sel s t) sort has same =
      subst (λ (ts : List TermId). (found : Option Symbol) × ResolvesTo d (name_in_line d (Sel s t)) found × (Some (symbols.Sel s) ≡ symbol_at d (line_of d (Sel s t)) (sorts_of terms ts) found)) (sym same)
      (sel_stands terms s t sort (term_numbers (t ∷ [])) has)
  stands terms (Test c t) sort has same =
      ctor_stands_so KindTest (sorts_of terms (map term_numbered (term_numbers (t ∷ [])))) (term_numbers (t ∷ [])) c has.ctor has.declared
      (λ g i is determined among. subst (λ (ts : List TermId). first_sort (sorts_of terms ts) ≡ Some (sort_of_ctor d c)) (sym same) (sort_there terms t has.ctor.sort has.sorted ∙ ap (λ (x : SortId). Some x) (sym (sort_named d c has.ctor has.declared))))
  stands terms (Apply f args) sort has same = (Some (symbols.Fun f), name_there (λ (x : Function). x.name) d.functions f.0 (slice_get_within d.functions f.0 has.function has.declared), refl)
  stands terms (Eq a b) sort has same = refl
  stands terms (Not t) sort has same = refl
  stands terms (And args) sort has same = refl
  stands terms (Or args) sort has same = refl
  stands terms (Iff a b) sort has same = refl
  stands terms (Ite c a b) sort has same = refl

-- the term is not among those before it
absent : (before after : Terms) (core : Core) (sort : SortId) → AreSingle (before ++ (core, sort) ∷ after) → IsAbsent before core
absent before after core sort single t has =
    let within : t < length before = slice_get_within before t (core, has.0) has.1 in
    let there : Has (before ++ (core, sort) ∷ after) core t = (has.0, slice_get-prefix before ((core, sort) ∷ after) t within ∙ has.1) in
    let here : Has (before ++ (core, sort) ∷ after) core (length before) = (sort, slice_get-last before (core, sort) after) in
    let same : t ≡ length before = single t (length before) core there here in
    absurd (omega (arith, same, within))

-- what the term line gives
pub term_back : (d : Declarations) → IsConsistent d → SortTheorems d → (before after : Terms) (core : Core) (sort : SortId)
    → length (before ++ (core, sort) ∷ after) ≤ most_terms → AreOrdered (before ++ (core, sort) ∷ after) → AreSingle (before ++ (core, sort) ∷ after) → AreSorted d (before ++ (core, sort) ∷ after)
    → is_short (term_item d (length before) core) ≡ true
    → GivesTerm d before (term_item d (length before) core) (Ok (before ++ (core, sort) ∷ []))
term_back d consistent theorems before after core sort few ordered single sorted short =
    let at = slice_get-last before (core, sort) after in
    let below : HasArgumentsBelow (length before) core = ordered (length before) core (sort, at) in
    let has = sort_stays d before ((core, sort) ∷ after) core sort below (sorted (length before) core sort at) in
    let longer : length (before ++ (core, sort) ∷ after) ≡ length before + length ((core, sort) ∷ after) = length-append before ((core, sort) ∷ after) in
    let room : length before < most_terms = omega (arith, longer, few) in
    let low : length before ≤ most_terms = omega (arith, room) in
    let same = numbered_all (length before) low (core_children core) below in
    let means = stands d consistent theorems before core sort has same in
    let outcome : Result Terms ℕ = Ok (before ++ (core, sort) ∷ []) in
    let all : list_all (is_term (length before)) (map term_numbered (term_numbers (core_children core))) ≡ true =
    ap (λ (ts : List TermId). list_all (is_term (length before)) ts) same ∙ all_terms (length before) (core_children core) below in
    let term : core_with (kind_of core) (symbol_in core) (map term_numbered (term_numbers (core_children core))) ≡ Some core =
    ap (λ (ts : List TermId). core_with (kind_of core) (symbol_in core) ts) same ∙ core_back core in
    let adds : Adds d before (Some core) outcome = (sort, has, absent before after core sort single, refl) in
    subst (λ (line : Option TermLine). GivesLine d before line outcome) (sym (term_line_back d consistent (length before) core (named d before core sort has) room short))
    (gives_of d before (line_of d core) (symbol_in core) outcome all means (subst (λ (o : Option Core). Adds d before o outcome) (sym term) adds))
