-- The table: what a look-up by the derived test tells, and what one more term keeps.
use Rattle.std.proofs.Common.{◌≡◌, ℕ, zero, suc, ◌+◌, ◌<◌, ◌≤◌, false, [], ◌∷◌, ◌++◌, length, codes, take, slice_get, get_or, position, Some, None, option_map, if◌then◌else◌, refl, sym, ap, subst, ◌∙◌, inl, inr, arith, length-append, length-take, true≢false}
use Rattle.std.proofs.lemmas.List.{take-append-le, take-take}
use Rattle.std.proofs.lemmas.List.Quantifiers.{position-Some}
use Rattle.std.proofs.lemmas.List.Sums.{fails_before_first}
use Rattle.std.proofs.lemmas.Option.{none-some, same_Some, slice_get_within, slice_get-map, slice_get-get_or, get_or_from_slice_get}
use Rattle.std.specs.List.{position_or_len}
use Rattle.std.specs.Map.{keys_of, values_of}
use Rattle.ct_lemmas.proofs.Booleans.{not_true}
use Rattle.ct_lemmas.proofs.Lists.{slice_get-last, slice_get-push_cases}
use Rattle.ct_lemmas.proofs.Prefixes.{slice_get-take, slice_get-take_below, take-slice_get, take-slice_get_next}
use Rattle.indexmap.specs.IndexMap.{insert_entry}
use Rattle.ct_sorts.specs.declared.ids.SortId.{SortId}
use Rattle.ct_sorts.specs.Declarations.{Declarations, start, bool_sort}
use Rattle.ct_terms.specs.declared.ids.TermId.{TermId}
use Rattle.ct_terms.specs.declared.term.Core.{Core}
use Rattle.ct_terms.specs.declared.term.Core.TheVariants.{Con, Not}
use Rattle.ct_terms.specs.Terms.{Terms, IsTermTable, IsOfSort, HasSort, AreSorted, Has, IsAbsent, Makes, StandsSorted, HasArgumentsBelow, AreOrdered, AreSingle, NegatesBooleans, most_terms, truth_terms}
use Rattle.ct_sorts.specs.Grown.{Extends}
use Rattle.ct_terms.proofs.CoreLemmas.{same_core, Decides-same_core}
use Rattle.ct_terms.proofs.ListLemmas.{position-None}
use Rattle.ct_terms.proofs.SortLemmas.{HasSort-same, HasSort-below, IsOfSort-append, HasSort-append, AreSorted-extends}

-- one number has one term
pub Has-same : (table : Terms) (a b : Core) (t : ℕ) → Has table a t → Has table b t → a ≡ b
Has-same table a b t at_a at_b = ap (λ e. e.0) (same_Some (a, at_a.0) (b, at_b.0) (sym at_a.1 ∙ at_b.1))

-- a term of the table is among its keys, at its number
keys_of-Has : (table : Terms) (core : Core) (t : ℕ) → Has table core t → slice_get (keys_of table) t ≡ Some core
keys_of-Has table core t (sort, e) = slice_get-map (λ e. e.0) table t ∙ ap (option_map (λ e. e.0)) e

-- and back
Has-keys_of : (table : Terms) (core : Core) (t : ℕ) → slice_get (keys_of table) t ≡ Some core → Has table core t
Has-keys_of [] core t e = absurd (none-some core e)
Has-keys_of (e ∷ es) core zero h = (e.1, ap (λ c. Some (c, e.1)) (same_Some e.0 core h))
Has-keys_of (e ∷ es) core (suc t) h = Has-keys_of es core t h

-- a look-up that finds a number finds the number of the term
pub Has-position : (table : Terms) (core : Core) (t : ℕ) → position (same_core core) (keys_of table) ≡ Some t → Has table core t
Has-position table core t e =
    let found = position-Some (same_core core) (keys_of table) t core e in
    let same : core ≡ get_or (keys_of table) t core = (Decides-same_core core (get_or (keys_of table) t core)).0 found.1 in
    Has-keys_of table core t (slice_get-get_or (keys_of table) t core found.0 ∙ ap Some (sym same))

-- a look-up that finds none says that the term is not in the table
pub IsAbsent-position : (table : Terms) (core : Core) → position (same_core core) (keys_of table) ≡ None → IsAbsent table core
IsAbsent-position table core e t has =
    let at = keys_of-Has table core t has in
    let within : t < position_or_len (same_core core) (keys_of table) = omega (arith, slice_get_within (keys_of table) t core at, position-None (same_core core) (keys_of table) e) in
    let fails = fails_before_first (same_core core) (keys_of table) t core within in
    let same : get_or (keys_of table) t core ≡ core = get_or_from_slice_get (keys_of table) t core core at in
    true≢false (sym ((Decides-same_core core (get_or (keys_of table) t core)).1 (sym same)) ∙ fails)

-- a term that is not in the table goes to its end
pub insert_entry-absent : (table : Terms) (core : Core) (sort : SortId) → IsAbsent table core → insert_entry same_core table core sort ≡ table ++ (core, sort) ∷ []
insert_entry-absent [] core sort absent = refl
insert_entry-absent (e ∷ es) core sort absent =
    let other : same_core core e.0 ≡ false =
    not_true (same_core core e.0)
    (λ h. absent 0 (e.1, ap (λ c. Some (c, e.1)) (sym ((Decides-same_core core e.0).0 h)))) in
    let rest = insert_entry-absent es core sort (λ t has. absent (suc t) has) in
    ap (λ b. if b then (e.0, sort) ∷ es else e ∷ insert_entry same_core es core sort) other ∙ ap (λ r. e ∷ r) rest

-- the sort that stands at a number is that of a term there
pub IsOfSort-values_of : (table : Terms) (t : ℕ) (sort : SortId) → slice_get (values_of table) t ≡ Some sort → (core : Core) × (slice_get table t ≡ Some (core, sort))
IsOfSort-values_of [] t sort e = absurd (none-some sort e)
IsOfSort-values_of (e ∷ es) zero sort h = (e.0, ap (λ s. Some (e.0, s)) (same_Some e.1 sort h))
IsOfSort-values_of (e ∷ es) (suc t) sort h = IsOfSort-values_of es t sort h

-- a term after the terms under it keeps the order
AreOrdered-push : (table : Terms) (core : Core) (sort : SortId) → AreOrdered table → HasArgumentsBelow (length table) core → AreOrdered (table ++ (core, sort) ∷ [])
AreOrdered-push table core sort ordered below t c has =
    elim (slice_get-push_cases table (core, sort) (c, has.0) t has.1) [
      | inl h ↦ ordered t c (has.0, h)
      | inr h ↦ subst (λ n. HasArgumentsBelow n c) (sym h.0) (subst (HasArgumentsBelow (length table)) (ap (λ e. e.0) h.1) below)
    ]

-- a term that was not in the table has one number
AreSingle-push : (table : Terms) (core : Core) (sort : SortId) → AreSingle table → IsAbsent table core → AreSingle (table ++ (core, sort) ∷ [])
AreSingle-push table core sort single absent i j c at_i at_j =
    elim (slice_get-push_cases table (core, sort) (c, at_i.0) i at_i.1) [
      | inl p ↦ elim (slice_get-push_cases table (core, sort) (c, at_j.0) j at_j.1) [
        | inl q ↦ single i j c (at_i.0, p) (at_j.0, q)
        | inr q ↦ absurd (absent i (at_i.0, p ∙ ap (λ e. Some (e.0, at_i.0)) (sym q.1)))
      ]
      | inr p ↦ elim (slice_get-push_cases table (core, sort) (c, at_j.0) j at_j.1) [
        | inl q ↦ absurd (absent j (at_j.0, q ∙ ap (λ e. Some (e.0, at_j.0)) (sym p.1)))
        | inr q ↦ p.0 ∙ sym q.0
      ]
    ]

-- a well-sorted negation is over a Boolean term
NegatesBooleans-push : (d : Declarations) (table : Terms) (core : Core) (sort : SortId) → NegatesBooleans table → HasSort d table core sort → NegatesBooleans (table ++ (core, sort) ∷ [])
NegatesBooleans-push d table core sort negates sorted t a has =
    let boolean : IsOfSort table a bool_sort =
    elim (slice_get-push_cases table (core, sort) (Not a, has.0) t has.1) [
      | inl h ↦ negates t a (has.0, h)
      | inr h ↦ (subst (λ c. HasSort d table c sort) (ap (λ e. e.0) h.1) sorted).0
    ] in
    IsOfSort-append table ((core, sort) ∷ []) a bool_sort boolean

-- one more term, well sorted over the table and not yet in it, keeps what every table keeps
pub IsTermTable-push : (d : Declarations) (table : Terms) (core : Core) (sort : SortId) → IsTermTable table → length table < most_terms → IsAbsent table core → HasSort d table core sort → IsTermTable (table ++ (core, sort) ∷ [])
IsTermTable-push d table core sort old room absent sorted =
    let long : 2 ≤ length table = omega (arith, ap length old.begins, length-take 2 table) in
    record {
      few = omega (arith, length-append table ((core, sort) ∷ []));
      begins = take-append-le 2 table ((core, sort) ∷ []) long ∙ old.begins;
      ordered = AreOrdered-push table core sort old.ordered (HasSort-below d table core sort sorted);
      single = AreSingle-push table core sort old.single absent;
      negates = NegatesBooleans-push d table core sort old.negates sorted;
    }

-- one more well-sorted term leaves every term well sorted
pub AreSorted-push : (d : Declarations) (table : Terms) (core : Core) (sort : SortId) → HasSort d table core sort → AreSorted d table → AreSorted d (table ++ (core, sort) ∷ [])
AreSorted-push d table core sort sorted all t c s at =
    HasSort-append d table ((core, sort) ∷ []) c s
    (elim (slice_get-push_cases table (core, sort) (c, s) t at) [
      | inl h ↦ all t c s h
      | inr h ↦ subst (λ e. HasSort d table e.0 e.1) h.1 sorted
    ])

-- in a well-sorted table a term stands with its sort
pub IsOfSort-sorted : (d : Declarations) (table : Terms) (core : Core) (t : TermId) (sort : SortId) → AreSorted d table → Has table core t.0 → HasSort d table core sort → IsOfSort table t sort
IsOfSort-sorted d table core t sort all has sorted =
    (core, has.1 ∙ ap (λ s. Some (core, s)) (HasSort-same d table core has.0 sort (all t.0 core has.0 has.1) sorted))

-- a term that is made in a well-sorted table stands there with its sort
pub StandsSorted-made : (d : Declarations) (old new : Terms) (core : Core) (t : ℕ) → Makes d old new core t → AreSorted d old → StandsSorted d new core t
StandsSorted-made d old new core t (inl same) all =
    let sort = same.1.0 in
    let had : StandsSorted d old core t = (sort, all t core sort same.1.1, same.1.1) in
    subst (λ (table : Terms). StandsSorted d table core t) (sym same.0) had
StandsSorted-made d old new core t (inr grown) all =
    let sort = grown.2.0 in
    let table = old ++ (core, sort) ∷ [] in
    let stands : slice_get table t ≡ Some (core, sort) = ap (slice_get table) grown.1 ∙ slice_get-last old (core, sort) in
    let has : StandsSorted d table core t = (sort, HasSort-append d old ((core, sort) ∷ []) core sort grown.2.1, stands) in
    subst (λ (any : Terms). StandsSorted d any core t) (sym grown.2.2) has

-- the first terms of a table, `true` and `false` among them, keep what every table keeps
pub IsTermTable-take : (table : Terms) (n : ℕ) → 2 ≤ n → IsTermTable table → IsTermTable (take n table)
IsTermTable-take table n two old =
    let has : (core : Core) (t : ℕ) → Has (take n table) core t → Has table core t =
    λ core t h. (h.0, slice_get-take n table t (core, h.0) h.1) in
    record {
      few = omega (arith, old.few, length-take n table);
      begins = take-take 2 n table two ∙ old.begins;
      ordered = λ t core h. old.ordered t core (has core t h);
      single = λ i j core at_i at_j. old.single i j core (has core i at_i) (has core j at_j);
      negates = λ t a h.
          let within : t < n = slice_get-take_below n table t (Not a, h.0) h.1 in
          let below : a.0 < t = (old.ordered t (Not a) (has (Not a) t h)).0 in
          let boolean = old.negates t a (has (Not a) t h) in
          (boolean.0, take-slice_get n table a.0 (boolean.0, bool_sort) (omega arith) boolean.1);
    }

-- the number of the constructor on top, or 2
abbrev con_number : Core → ℕ
con_number (Con c args) = c.0
con_number _ = 2

-- `true` and `false` stand at the numbers of their constructors
con_number-truths : (t : ℕ) (core : Core) → Has truth_terms core t → con_number core ≡ t
con_number-truths zero core has = ap (λ (e : Core × SortId). con_number e.0) (sym (same_Some (Con (record { 0 = 0 }) [], bool_sort) (core, has.0) has.1))
con_number-truths (suc zero) core has = ap (λ (e : Core × SortId). con_number e.0) (sym (same_Some (Con (record { 0 = 1 }) [], bool_sort) (core, has.0) has.1))
con_number-truths (suc (suc t)) core has = absurd (none-some (core, has.0) has.1)

-- no terms are under them
AreOrdered-truths : AreOrdered truth_terms
AreOrdered-truths zero core has = subst (λ (e : Core × SortId). HasArgumentsBelow 0 e.0) (same_Some (Con (record { 0 = 0 }) [], bool_sort) (core, has.0) has.1) tt
AreOrdered-truths (suc zero) core has = subst (λ (e : Core × SortId). HasArgumentsBelow 1 e.0) (same_Some (Con (record { 0 = 1 }) [], bool_sort) (core, has.0) has.1) tt
AreOrdered-truths (suc (suc t)) core has = absurd (none-some (core, has.0) has.1)

-- alone they are a table
pub IsTermTable-truths : IsTermTable truth_terms
IsTermTable-truths =
    record {
      few = omega arith;
      begins = refl;
      ordered = AreOrdered-truths;
      single = λ i j core at_i at_j. sym (con_number-truths i core at_i) ∙ con_number-truths j core at_j;
      negates = λ t a has. absurd (none-some (Not a, has.0) (ap (slice_get truth_terms) (con_number-truths t (Not a) has) ∙ has.1));
    }

-- a term is not among those before it
pub IsAbsent-before : (table : Terms) (core : Core) (t : ℕ) → AreSingle table → Has table core t → IsAbsent (take t table) core
IsAbsent-before table core t single has u before =
    let within : u < t = slice_get-take_below t table u (core, before.0) before.1 in
    let same : u ≡ t = single u t core (before.0, slice_get-take t table u (core, before.0) before.1) has in
    absurd (omega arith)

-- `true` and `false` are well sorted over Bool and whatever else is declared
pub AreSorted-truths : (d : Declarations) → Extends d start → AreSorted d truth_terms
AreSorted-truths d extends = AreSorted-extends d start truth_terms extends over_start
  where
    over_start : AreSorted start truth_terms
    over_start zero core sort at =
        subst (λ (e : Core × SortId). HasSort start truth_terms e.0 e.1) (same_Some (Con (record { 0 = 0 }) [], bool_sort) (core, sort) at)
        (record { ctor = record { name = codes "true"; sort = bool_sort; sels = [] }; declared = refl; fields = tt; result = refl })
    over_start (suc zero) core sort at =
        subst (λ (e : Core × SortId). HasSort start truth_terms e.0 e.1) (same_Some (Con (record { 0 = 1 }) [], bool_sort) (core, sort) at)
        (record { ctor = record { name = codes "false"; sort = bool_sort; sels = [] }; declared = refl; fields = tt; result = refl })
    over_start (suc (suc t)) core sort at = absurd (none-some (core, sort) at)

-- with the next term put after the first ones there is one more of the first
pub insert_entry-next : (table copied : Terms) (core copy : Core) (t : TermId) (sort : SortId) → AreSingle table → Has table core t.0 → copy ≡ core → IsOfSort table t sort → copied ≡ take t.0 table → insert_entry same_core copied copy sort ≡ take (t.0 + 1) table
insert_entry-next table copied core copy t sort single has same of_sort so_far =
    let there : core ≡ of_sort.0 = Has-same table core of_sort.0 t.0 has (sort, of_sort.1) in
    let at : slice_get table t.0 ≡ Some (copy, sort) = of_sort.1 ∙ ap (λ (c : Core). Some (c, sort)) (sym there ∙ sym same) in
    ap (λ (es : Terms). insert_entry same_core es copy sort) so_far
    ∙ insert_entry-absent (take t.0 table) copy sort (IsAbsent-before table copy t.0 single (sort, at))
    ∙ sym (take-slice_get_next table t.0 (copy, sort) at)
