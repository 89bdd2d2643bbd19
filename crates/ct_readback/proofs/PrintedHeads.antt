-- What constructors and elements read back as where they were printed.
use Rattle.std.proofs.Common.{◌≡◌, ℕ, zero, suc, ◌<◌, Bool, true, false, not, ◌&&◌, ◌||◌, ◌==◌, if◌then◌else◌, List, [], ◌∷◌, ◌++◌, map, take, drop, length, Option, None, Some, option_map, option_and_then, unwrap_or, is_some, slice_get, refl, sym, ap, ◌∙◌, arith, codes, inl, inr, ⊎_elim, append_assoc, true≢false}
use Rattle.std.proofs.lemmas.Option.{none-some, same_Some, slice_get_within}
use Rattle.std.proofs.lemmas.Bool.Decides.{Decides-eqb}
use Rattle.std.proofs.lemmas.Cmp.{nat_eq_equiv}
use Rattle.ct_lemmas.proofs.Booleans.{both_true, or_left, or_right}
use Rattle.ct_lemmas.proofs.Lists.{slice_get-map_at}
use Rattle.ct_sorts.specs.declared.ids.CtorId.{CtorId}
use Rattle.ct_sorts.specs.declared.ids.SortId.{SortId}
use Rattle.ct_sorts.specs.declared.ids.Symbol.TheVariants.{Ctor, GenCtor}
use Rattle.ct_sorts.specs.Declarations.{Declarations, Constructor, Sort, IsSort, ctor_names, start}
use Rattle.ct_sorts.specs.Consistent.{IsConsistent}
use Rattle.ct_sorts.specs.Lookup.{IsPlainCtor}
use Rattle.ct_sorts.proofs.StructureLemmas.{of_their_sorts}
use Rattle.ct_sorts.proofs.SymbolLemmas.{one_symbol}
use Rattle.ct_instances.specs.declared.among.NamedCtor.{NamedCtor}
use Rattle.ct_instances.specs.declared.among.NamedCtor.TheVariants.{Plain, Generic}
use Rattle.ct_instances.specs.Among.{if_of, ctor_among}
use Rattle.ct_instances.specs.Fields.{is_ctor_determined, sort_of_ctor}
use Rattle.ct_instances.proofs.CtorNameLemmas.{IsOfGeneric, plain_or_generic}
use Rattle.ct_sexpr.specs.Expression.{Expression, list, Expressions, none, more, word}
use Rattle.ct_sexpr.specs.Written.{canonical}
use Rattle.ct_values.specs.Fitting.{IsElement}
use Rattle.ct_card.specs.Defaults.{is_free, is_free_sort}
use Rattle.ct_names.specs.Symbols.{ctor_named, symbol_of, as_ctor}
use Rattle.ct_names.proofs.ResolveLemmas.{resolves}
use Rattle.ct_value_text.specs.Numeral.{numeral}
use Rattle.ct_value_text.specs.ValueText.{element_name, bare_sort, sort_expression, ctor_name, ctor_expression, name, qualified}
use Rattle.ct_value_text.proofs.FitNameLemmas.{ctor_fits}
use Rattle.ct_readback.specs.Words.{is_word, name_in, is_name, number_bound, number_in, after}
use Rattle.ct_readback.specs.Parts.{holds, or_other, only_if, two_of, parts_after}
use Rattle.ct_readback.specs.SortText.{is_sort_text, says_sort}
use Rattle.ct_readback.specs.Heads.{ends_numbered, is_own, names_element, is_foreign, may_be_qualified, is_qualified, is_qualified_constructor, is_head, is_constructor_head, constructor_of, constructor_alone, constructor_with, constructor_at, element_named, is_sort_of_elements, element_of, element_at}
use Rattle.ct_readback.proofs.PrintedSorts.{read_sort, sort_reads, sort_form}
use Rattle.ct_readback.proofs.PrintedWords.{read_name, named, name_is, name_no_word, after_own, numeral_reads}

-- ---- constructors

-- a declared constructor has its name
pub ctor_name_at : (d : Declarations) (c : CtorId) (ctor : Constructor) → slice_get d.ctors c.0 ≡ Some ctor → slice_get (ctor_names d) c.0 ≡ Some (ctor_name d c.0)
ctor_name_at d c ctor at =
    let there = slice_get-map_at (λ (k : Constructor). k.name) d.ctors c.0 ctor at in
    there ∙ ap (λ (o : Option (List ℕ)). Some (unwrap_or o [])) (sym there)

name_of_ctor : (d : Declarations) (c : CtorId) (ctor : Constructor) → slice_get d.ctors c.0 ≡ Some ctor → ctor.name ≡ ctor_name d c.0
name_of_ctor d c ctor at = same_Some ctor.name (ctor_name d c.0) (sym (slice_get-map_at (λ (k : Constructor). k.name) d.ctors c.0 ctor at) ∙ ctor_name_at d c ctor at)

pub ctor_sort_is : (d : Declarations) (c : CtorId) (ctor : Constructor) → slice_get d.ctors c.0 ≡ Some ctor → sort_of_ctor d c ≡ ctor.sort
ctor_sort_is d c ctor at = ap (λ (o : Option Constructor). unwrap_or (option_map (λ (k : Constructor). k.sort) o) (record { 0 = 0 })) at

-- its sort is there
ctor_sort_there : (d : Declarations) → IsConsistent d → (c : CtorId) (ctor : Constructor) → slice_get d.ctors c.0 ≡ Some ctor → IsSort d ctor.sort
ctor_sort_there d consistent c ctor at =
    let own = of_their_sorts d consistent c.0 ctor at in
    slice_get_within d.sorts ctor.sort.0 own.0 own.2

-- the name is that of the constructor, among those of its sort
pub ctor_by_name : (d : Declarations) (c : CtorId) (ctor : Constructor) → IsConsistent d → slice_get d.ctors c.0 ≡ Some ctor → constructor_of d ctor.sort (ctor_name d c.0) ≡ Some c
ctor_by_name d c ctor consistent at = ⊎_elim plain generic (plain_or_generic d consistent c ctor at)
  where
    plain : IsPlainCtor d c × (is_ctor_determined d c ≡ true) → constructor_of d ctor.sort (ctor_name d c.0) ≡ Some c
    plain is =
        ap (λ o. option_and_then (λ (n : NamedCtor). ctor_among d n ctor.sort) (as_ctor o)) (one_symbol d (ctor_name d c.0) (Some (Ctor c)) (symbol_of d (ctor_name d c.0)) consistent (ctor_name_at d c ctor at, is.0) (resolves d consistent (ctor_name d c.0)))
        ∙ ap (if_of ctor.sort c) at
        ∙ ap (λ (b : Bool). if b then Some c else None) (nat_eq_equiv.refl ctor.sort.0)

    generic : IsOfGeneric d c ctor.name → constructor_of d ctor.sort (ctor_name d c.0) ≡ Some c
    generic is =
        ap (λ o. option_and_then (λ (n : NamedCtor). ctor_among d n ctor.sort) (as_ctor o)) (one_symbol d (ctor_name d c.0) (Some (GenCtor is.g is.i)) (symbol_of d (ctor_name d c.0)) consistent (is.spelling, is.known, is.named_so ∙ name_of_ctor d c ctor at) (resolves d consistent (ctor_name d c.0)))
        ∙ ap (ctor_among d (Generic is.g is.i)) (sym (ctor_sort_is d c ctor at))
        ∙ is.among

-- the constructor as it reads back: its name, or `(as C S)`
abbrev pub read_ctor : Declarations → CtorId → Expression
read_ctor d c = canonical (ctor_expression d c)

-- what stands after `as`
abbrev pub qualified_parts : Declarations → CtorId → SortId → Expressions
qualified_parts d c s = more (read_name (ctor_name d c.0)) (more (read_sort d s) none)

abbrev pub read_by : Declarations → CtorId → SortId → Bool → Expression
read_by d c s b = canonical (if b then name (ctor_name d c.0) else qualified (ctor_name d c.0) (sort_expression d s.0))

module _ (d : Declarations) (c : CtorId) (ctor : Constructor) (consistent : IsConsistent d) (at : slice_get d.ctors c.0 ≡ Some ctor) where
  abbrev bytes : List ℕ
  bytes = ctor_name d c.0

  -- the sort in the text is the constructor's
  read_is : read_ctor d c ≡ read_by d c ctor.sort (is_ctor_determined d c)
  read_is = ap (λ (s : SortId). read_by d c s (is_ctor_determined d c)) (ctor_sort_is d c ctor at)

  found_by_name : option_and_then (constructor_of d ctor.sort) (name_in (read_name bytes)) ≡ Some c
  found_by_name = ap (option_and_then (constructor_of d ctor.sort)) (named bytes) ∙ ctor_by_name d c ctor consistent at

  says_own : says_sort d ctor.sort (read_sort d ctor.sort) ≡ true
  says_own = sort_reads d consistent ctor.sort (ctor_sort_there d consistent c ctor at)

  reads_by : (b : Bool) → is_ctor_determined d c ≡ b → constructor_at d ctor.sort (read_by d c ctor.sort b) ≡ Some c
  reads_by true is =
      ap (λ (o : Option CtorId). or_other (option_and_then (λ (k : CtorId). only_if (is_ctor_determined d k) k) o) (option_and_then (constructor_with d ctor.sort) (option_and_then two_of (parts_after (codes "as") (read_name bytes))))) found_by_name
      ∙ ap (λ (b : Bool). or_other (only_if b c) (option_and_then (constructor_with d ctor.sort) (option_and_then two_of (parts_after (codes "as") (read_name bytes))))) is
  reads_by false is =
      ap (option_and_then (λ (k : CtorId). only_if (not (is_ctor_determined d k) && says_sort d ctor.sort (read_sort d ctor.sort)) k)) found_by_name
      ∙ ap (λ (b : Bool). only_if b c) (both_true (not (is_ctor_determined d c)) (says_sort d ctor.sort (read_sort d ctor.sort)) (ap not is) says_own)

  -- what is printed of a constructor reads as the constructor
  pub ctor_reads : constructor_at d ctor.sort (read_ctor d c) ≡ Some c
  ctor_reads = ap (constructor_at d ctor.sort) read_is ∙ reads_by (is_ctor_determined d c) refl

  -- no name of a constructor begins as those of elements do
  not_own : is_own bytes ≡ false
  not_own = by bytes refl
    where
      by : (w : List ℕ) → bytes ≡ w → is_own w ≡ false
      by [] is = refl
      by (b ∷ bs) is = by_test (b == 64) refl
        where
          by_test : (t : Bool) → (b == 64) ≡ t → t ≡ false
          by_test false tells = refl
          by_test true tells = absurd (ctor_fits d c.0 bytes consistent (ctor_name_at d c ctor at) (inl (ap (λ (w : List ℕ). slice_get w 0) is ∙ ap Some ((Decides-eqb b 64).0 tells))))

  foreign : is_foreign bytes ≡ true
  foreign = ap not not_own

  qualified_form : is_qualified (qualified_parts d c ctor.sort) ≡ true
  qualified_form =
      both_true (holds may_be_qualified (name_in (read_name bytes))) (is_sort_text (read_sort d ctor.sort))
      (ap (holds may_be_qualified) (named bytes) ∙ or_left (is_foreign bytes) (names_element bytes) foreign)
      (sort_form d consistent ctor.sort (ctor_sort_there d consistent c ctor at))

  qualified_constructor : is_qualified_constructor (qualified_parts d c ctor.sort) ≡ true
  qualified_constructor =
      both_true (holds is_foreign (name_in (read_name bytes))) (is_sort_text (read_sort d ctor.sort))
      (ap (holds is_foreign) (named bytes) ∙ foreign)
      (sort_form d consistent ctor.sort (ctor_sort_there d consistent c ctor at))

  head_by : (b : Bool) → is_head (read_by d c ctor.sort b) ≡ true
  head_by true = or_left (is_name (read_name bytes)) (holds is_qualified (parts_after (codes "as") (read_name bytes))) (name_is bytes)
  head_by false = qualified_form

  -- it has the form of a constructor, also before arguments
  pub ctor_head : is_head (read_ctor d c) ≡ true
  ctor_head = ap is_head read_is ∙ head_by (is_ctor_determined d c)

  constructor_head_by : (b : Bool) → is_constructor_head (read_by d c ctor.sort b) ≡ true
  constructor_head_by true = or_left (is_name (read_name bytes)) (holds is_qualified_constructor (parts_after (codes "as") (read_name bytes))) (name_is bytes)
  constructor_head_by false = qualified_constructor

  pub ctor_constructor_head : is_constructor_head (read_ctor d c) ≡ true
  ctor_constructor_head = ap is_constructor_head read_is ∙ constructor_head_by (is_ctor_determined d c)

  -- what the name is not, the constructor is not
  word_by : (text : List ℕ) (b : Bool) → is_word text (read_name bytes) ≡ false → is_word text (read_by d c ctor.sort b) ≡ false
  word_by text true other = other
  word_by text false other = refl

  ctor_no_word : (text : List ℕ) → is_word text (read_name bytes) ≡ false → is_word text (read_ctor d c) ≡ false
  ctor_no_word text other = ap (is_word text) read_is ∙ word_by text (is_ctor_determined d c) other

  -- it is no element
  unnamed : (w : List ℕ) (sort : List ℕ) → is_own w ≡ false → element_named sort w ≡ None
  unnamed [] sort other = refl
  unnamed (b ∷ bs) sort other = by_test (64 == b) refl
    where
      by_test : (t : Bool) → (64 == b) ≡ t → option_and_then number_in (if t then after (sort ++ 95 ∷ []) bs else None) ≡ None
      by_test false tells = refl
      by_test true tells = absurd (true≢false (sym ((Decides-eqb b 64).1 (sym ((Decides-eqb 64 b).0 tells))) ∙ other))

  element_by : (b : Bool) → option_and_then (element_at d ctor.sort) (parts_after (codes "as") (read_by d c ctor.sort b)) ≡ None
  element_by true = refl
  element_by false =
      ap (option_and_then (λ (w : List ℕ). option_and_then (λ (k : ℕ). only_if (is_sort_of_elements d ctor.sort (read_sort d ctor.sort)) k) (element_named (bare_sort d ctor.sort.0) w))) (named bytes)
      ∙ ap (option_and_then (λ (k : ℕ). only_if (is_sort_of_elements d ctor.sort (read_sort d ctor.sort)) k)) (unnamed bytes (bare_sort d ctor.sort.0) not_own)

  pub ctor_no_element : option_and_then (element_at d ctor.sort) (parts_after (codes "as") (read_ctor d c)) ≡ None
  ctor_no_element = ap (λ (e : Expression). option_and_then (element_at d ctor.sort) (parts_after (codes "as") e)) read_is ∙ element_by (is_ctor_determined d c)

  -- nor does it begin as a graph or a choice does
  graph_by : (b : Bool) → parts_after (codes "@graph") (read_by d c ctor.sort b) ≡ None
  graph_by true = refl
  graph_by false = refl

  pub alone_no_graph : parts_after (codes "@graph") (read_ctor d c) ≡ None
  alone_no_graph = ap (parts_after (codes "@graph")) read_is ∙ graph_by (is_ctor_determined d c)

  ite_alone_by : (b : Bool) → parts_after (codes "ite") (read_by d c ctor.sort b) ≡ None
  ite_alone_by true = refl
  ite_alone_by false = refl

  pub alone_no_ite : parts_after (codes "ite") (read_ctor d c) ≡ None
  alone_no_ite = ap (parts_after (codes "ite")) read_is ∙ ite_alone_by (is_ctor_determined d c)

pub name_head : (bytes : List ℕ) → is_head (read_name bytes) ≡ true
name_head bytes = or_left (is_name (read_name bytes)) (holds is_qualified (parts_after (codes "as") (read_name bytes))) (name_is bytes)

pub name_constructor_head : (bytes : List ℕ) → is_constructor_head (read_name bytes) ≡ true
name_constructor_head bytes = or_left (is_name (read_name bytes)) (holds is_qualified_constructor (parts_after (codes "as") (read_name bytes))) (name_is bytes)

-- ---- a constructor in front of a list is none of the words with a meaning

pub no_as : (d : Declarations) (c : CtorId) (ctor : Constructor) → IsConsistent d → slice_get d.ctors c.0 ≡ Some ctor → is_word (codes "as") (read_ctor d c) ≡ false
no_as d c ctor consistent at = ctor_no_word d c ctor consistent at (codes "as") (name_no_word (codes "as") (ctor_name d c.0) (λ e. none-some (ctor_name d c.0) e))

pub no_graph : (d : Declarations) (c : CtorId) (ctor : Constructor) → IsConsistent d → slice_get d.ctors c.0 ≡ Some ctor → is_word (codes "@graph") (read_ctor d c) ≡ false
no_graph d c ctor consistent at = ctor_no_word d c ctor consistent at (codes "@graph") (name_no_word (codes "@graph") (ctor_name d c.0) (λ e.
    let same : codes "@graph" ≡ ctor_name d c.0 = same_Some (codes "@graph") (ctor_name d c.0) e in
    ctor_fits d c.0 (ctor_name d c.0) consistent (ctor_name_at d c ctor at) (inl (ap (λ (w : List ℕ). slice_get w 0) (sym same)))))

-- `ite` cannot be declared
ite_by : (cs : List Constructor) (n : ℕ) (bytes : List ℕ) → take 2 cs ≡ start.ctors → ((index : ℕ) → slice_get (drop 2 (map (λ (c : Constructor). c.name) cs)) index ≡ Some (codes "ite") → ⊥)
    → slice_get (map (λ (c : Constructor). c.name) cs) n ≡ Some (codes "ite") → ⊥
ite_by [] n bytes first rest at = none-some (codes "ite") at
ite_by (c ∷ []) n bytes first rest at = cc
ite_by (c ∷ (e ∷ cs)) zero bytes first rest at =
    let is : c ≡ record { name = codes "true"; sort = record { 0 = 0 }; sels = [] } = cc in
    let own : codes "true" ≡ codes "ite" = sym (ap (λ (k : Constructor). k.name) is) ∙ same_Some c.name (codes "ite") at in
    absurd (omega (arith, ap length own))
ite_by (c ∷ (e ∷ cs)) (suc zero) bytes first rest at =
    let is : e ≡ record { name = codes "false"; sort = record { 0 = 0 }; sels = [] } = cc in
    let own : codes "false" ≡ codes "ite" = sym (ap (λ (k : Constructor). k.name) is) ∙ same_Some e.name (codes "ite") at in
    absurd (omega (arith, ap length own))
ite_by (c ∷ (e ∷ cs)) (suc (suc n)) bytes first rest at = rest n at

pub no_ite : (d : Declarations) (c : CtorId) (ctor : Constructor) → IsConsistent d → slice_get d.ctors c.0 ≡ Some ctor → is_word (codes "ite") (read_ctor d c) ≡ false
no_ite d c ctor consistent at = ctor_no_word d c ctor consistent at (codes "ite") (name_no_word (codes "ite") (ctor_name d c.0) (λ e.
    let same : codes "ite" ≡ ctor_name d c.0 = same_Some (codes "ite") (ctor_name d c.0) e in
    ite_by d.ctors c.0 [] consistent.first_ctors (λ index listed. consistent.ctors_available index (codes "ite") listed (inr (inl (9, refl))))
    (ctor_name_at d c ctor at ∙ ap Some (sym same))))

-- ---- elements

free_is : (d : Declarations) (s : ℕ) → IsElement d s → is_free_sort d s ≡ true
free_is d s is = ap (λ (o : Option Sort). unwrap_or (option_map (λ (sort : Sort). is_free sort.kind) o) false) is.declared ∙ ap is_free is.free

-- what stands after `as` in an element
abbrev pub element_parts : Declarations → SortId → ℕ → Expressions
element_parts d s n = more (read_name (element_name (bare_sort d s.0) n)) (more (read_sort d s) none)

pulled : (sort : List ℕ) (n : ℕ) → (64 ∷ (sort ++ 95 ∷ [])) ++ numeral n ≡ element_name sort n
pulled sort n = ap (λ (w : List ℕ). 64 ∷ w) (append_assoc sort (95 ∷ []) (numeral n))

number_named : (sort : List ℕ) (n : ℕ) → n < number_bound → element_named sort (element_name sort n) ≡ Some n
number_named sort n small =
    ap (λ w. option_and_then number_in (after (64 ∷ (sort ++ 95 ∷ [])) w)) (sym (pulled sort n))
    ∙ ap (option_and_then number_in) (after_own (64 ∷ (sort ++ 95 ∷ [])) (numeral n)) ∙ numeral_reads n small

element_there : (d : Declarations) (s : SortId) → IsElement d s.0 → IsSort d s
element_there d s is = slice_get_within d.sorts s.0 is.sort is.declared

pub element_reads : (d : Declarations) → IsConsistent d → (s : SortId) (n : ℕ) → IsElement d s.0 → n < number_bound → element_at d s (element_parts d s n) ≡ Some n
element_reads d consistent s n is small =
    let sort = bare_sort d s.0 in
    let text = read_sort d s in
    let own : is_sort_of_elements d s text ≡ true = both_true (is_free_sort d s.0) (says_sort d s text) (free_is d s.0 is) (sort_reads d consistent s (element_there d s is)) in
    ap (option_and_then (λ (w : List ℕ). option_and_then (λ (k : ℕ). only_if (is_sort_of_elements d s text) k) (element_named sort w))) (named (element_name sort n))
    ∙ ap (option_and_then (λ (k : ℕ). only_if (is_sort_of_elements d s text) k)) (number_named sort n small)
    ∙ ap (λ (b : Bool). only_if b n) own

-- its name is an element's
ends_by : (sort rest : List ℕ) → is_some (number_in rest) ≡ true → ends_numbered (sort ++ 95 ∷ rest) ≡ true
ends_by [] rest some = or_left (is_some (number_in rest)) (ends_numbered rest) some
ends_by (b ∷ bs) rest some = or_right (b == 95 && is_some (number_in (bs ++ 95 ∷ rest))) (ends_numbered (bs ++ 95 ∷ rest)) (ends_by bs rest some)

pub element_head : (d : Declarations) → IsConsistent d → (s : SortId) (n : ℕ) → IsElement d s.0 → n < number_bound → is_head (list (more (word (codes "as")) (element_parts d s n))) ≡ true
element_head d consistent s n is small =
    let sort = bare_sort d s.0 in
    let number : is_some (number_in (numeral n)) ≡ true = ap (λ (o : Option ℕ). elim o [ None ↦ false | Some x ↦ true ]) (numeral_reads n small) in
    let own : may_be_qualified (element_name sort n) ≡ true = ends_by sort (numeral n) number in
    both_true (holds may_be_qualified (name_in (read_name (element_name sort n)))) (is_sort_text (read_sort d s))
    (ap (holds may_be_qualified) (named (element_name sort n)) ∙ own)
    (sort_form d consistent s (element_there d s is))
