-- Entries of lists as formulas.
use Rattle.std.proofs.Common.{◌≡◌, ℕ, zero, suc, ◌+◌, ◌<◌, ◌≤◌, List, [], ◌∷◌, ◌++◌, length, map, take, get_or, Some, option_map, unwrap_or, slice_get, Contains, refl, sym, ◌∙◌, ap, ap₂, subst, arith}
use Rattle.std.proofs.lemmas.List.{length-map, map-append}
use Rattle.std.proofs.lemmas.Option.{none-some, same_Some, slice_get_within, slice_get-get_or}
use Rattle.ct_lemmas.proofs.Contained.{Contains-from_slice_get}
use Rattle.ct_lemmas.proofs.Lists.{slice_get-map_at}
use Rattle.ct_lemmas.proofs.Prefixes.{take-slice_get_next, take-past}
use Rattle.ct_sorts.specs.declared.ids.CtorId.{CtorId}
use Rattle.ct_sorts.specs.declared.ids.SelId.{SelId}
use Rattle.ct_sorts.specs.declared.ids.SortId.{SortId}
use Rattle.ct_sorts.specs.Declarations.{Declarations}
use Rattle.ct_formulas.specs.declared.tree.Tree.{Tree}
use Rattle.ct_formulas.specs.Formula.{Formula, Con, with_formula}
use Rattle.ct_formulas.specs.TreeFormula.{formula_of, formulas_of}
use Rattle.ct_listing.specs.Closed.{ClosedValue, build, closed_of}
use Rattle.ct_listing.specs.Listable.{field_sort, field_sorts}
use Rattle.ct_listing.specs.Listing.{listed}
use Rattle.ct_listing.proofs.DifferentLemmas.{closed_back}
use Rattle.ct_finite.specs.ClosedFormula.{formula_of_value, formulas_under}
use Rattle.ct_finite.specs.Entries.{AreEntries, IsBuiltOf, under, under_at, weight, weight_under, weight_at}
use Rattle.ct_finite.proofs.StepLemmas.{first_sel}

-- what stands under a value as arguments
pub formulas_closed : (vs : List ClosedValue) → formulas_under (closed_of vs) ≡ formulas_of (map formula_of_value vs)
formulas_closed [] = refl
formulas_closed (v ∷ vs) = ap (with_formula (formula_of_value v)) (formulas_closed vs)

module _ (d : Declarations) where
  -- the entry at a place
  pub entry_at : (sorts : List SortId) (numbers : List ℕ) (vs : List ClosedValue) → AreEntries d sorts numbers vs → (i : ℕ) (s : SortId) (k : ℕ) → slice_get sorts i ≡ Some s → slice_get numbers i ≡ Some k → (v : ClosedValue) × (slice_get (listed d s) k ≡ Some v) × (slice_get vs i ≡ Some v)
  entry_at [] numbers vs h i s k at_s at_k = absurd (none-some _ at_s)
  entry_at (t ∷ sorts) [] vs h i s k at_s at_k = absurd (none-some _ at_k)
  entry_at (t ∷ sorts) (n ∷ numbers) [] h i s k at_s at_k = absurd h
  entry_at (t ∷ sorts) (n ∷ numbers) (v ∷ vs) h zero s k at_s at_k =
      (v, subst (λ m. slice_get (listed d s) m ≡ Some v) (same_Some n k at_k) (subst (λ u. slice_get (listed d u) n ≡ Some v) (same_Some t s at_s) h.0), refl)
  entry_at (t ∷ sorts) (n ∷ numbers) (v ∷ vs) h (suc i) s k at_s at_k = entry_at sorts numbers vs h.1 i s k at_s at_k

  pub entries_long : (sorts : List SortId) (numbers : List ℕ) (vs : List ClosedValue) → AreEntries d sorts numbers vs → (length numbers ≡ length sorts) × (length vs ≡ length sorts)
  entries_long [] [] [] h = (refl, refl)
  entries_long [] [] (v ∷ vs) h = absurd h
  entries_long [] (n ∷ numbers) vs h = absurd h
  entries_long (t ∷ sorts) [] vs h = absurd h
  entries_long (t ∷ sorts) (n ∷ numbers) [] h = absurd h
  entries_long (t ∷ sorts) (n ∷ numbers) (v ∷ vs) h =
      let after = entries_long sorts numbers vs h.1 in
      (ap suc after.0, ap suc after.1)

-- a value weighs more than one under it
lighter : (vs : List ClosedValue) (i : ℕ) (v : ClosedValue) → slice_get vs i ≡ Some v → weight v ≤ weight_under (closed_of vs)
unfolding weight
lighter [] i v at = absurd (none-some _ at)
lighter (w ∷ vs) zero v at = let e : weight w ≡ weight v = ap weight (same_Some w v at) in omega (arith, e)
lighter (w ∷ vs) (suc i) v at = let less = lighter vs i v at in omega (arith, less)

pub weight_less : (d : Declarations) (s f : SortId) (k n : ℕ) (c : CtorId) (vs : List ClosedValue) (i : ℕ) (v : ClosedValue) → slice_get (listed d s) k ≡ Some (build c (closed_of vs)) → slice_get vs i ≡ Some v → slice_get (listed d f) n ≡ Some v → weight_at d f n < weight_at d s k
unfolding weight
weight_less d s f k n c vs i v at_k at_i at_n =
    let here : weight_at d f n ≡ weight v = ap (λ o. unwrap_or (option_map weight o) 0) at_n in
    let there : weight_at d s k ≡ suc (weight_under (closed_of vs)) = ap (λ o. unwrap_or (option_map weight o) 0) at_k in
    omega (arith, here, there, lighter vs i v at_i)

-- what stands under an entry
pub under_entry : (d : Declarations) (s : SortId) (k : ℕ) (c : CtorId) (vs : List ClosedValue) → slice_get (listed d s) k ≡ Some (build c (closed_of vs)) → under_at d s k ≡ vs
under_entry d s k c vs at = ap (λ o. unwrap_or (option_map under o) []) at ∙ closed_back vs

-- what stands at a field of an entry
pub record IsFieldEntry (d : Declarations) (s : SortId) (k : ℕ) (c : CtorId) (vs : List ClosedValue) (i : ℕ) (f : SortId) (n : ℕ) : Type 0 where
  pub value : ClosedValue
  pub entry : slice_get (listed d f) n ≡ Some value
  pub place : slice_get vs i ≡ Some value
  pub inside : n < length (listed d f)
  pub field : Contains (field_sorts d c) f
  pub less : weight_at d f n < weight_at d s k

module _ (d : Declarations) (s : SortId) (k : ℕ) (c : CtorId) (numbers : List ℕ) (built : IsBuiltOf d s k c numbers) where
  pub field_entry : (sels : List SelId) (i : ℕ) → field_sorts d c ≡ map (field_sort d) sels → i < length sels → IsFieldEntry d s k c built.0 i (field_sort d (get_or sels i first_sel)) (get_or numbers i 0)
  field_entry sels i fields within =
      let f = field_sort d (get_or sels i first_sel) in
      let n = get_or numbers i 0 in
      let long = entries_long d (field_sorts d c) numbers built.0 built.2 in
      let many : length (field_sorts d c) ≡ length sels = ap length fields ∙ length-map sels (field_sort d) in
      let at_f : slice_get (field_sorts d c) i ≡ Some f = ap (λ l. slice_get l i) fields ∙ slice_get-map_at (field_sort d) sels i (get_or sels i first_sel) (slice_get-get_or sels i first_sel within) in
      let at_n : slice_get numbers i ≡ Some n = slice_get-get_or numbers i 0 (omega (arith, long.0, many, within)) in
      let found = entry_at d (field_sorts d c) numbers built.0 built.2 i f n at_f at_n in
      record {
        value = found.0;
        entry = found.1;
        place = found.2;
        inside = slice_get_within (listed d f) n found.0 found.1;
        field = Contains-from_slice_get (field_sorts d c) i f at_f;
        less = weight_less d s f k n c built.0 i found.0 built.1 found.2 found.1;
      }

  -- as many numbers as fields
  pub numbers_long : (sels : List SelId) → field_sorts d c ≡ map (field_sort d) sels → length numbers ≡ length sels
  numbers_long sels fields = (entries_long d (field_sorts d c) numbers built.0 built.2).0 ∙ ap length fields ∙ length-map sels (field_sort d)

  -- one more argument
  pub argument_step : (trees : List Tree) (tree : Tree) (i : ℕ) (f : SortId) (n : ℕ) → IsFieldEntry d s k c built.0 i f n → map formula_of trees ≡ map formula_of_value (take i (under_at d s k)) → option_map formula_of_value (slice_get (listed d f) n) ≡ Some (formula_of tree) → map formula_of (trees ++ tree ∷ []) ≡ map formula_of_value (take (i + 1) (under_at d s k))
  argument_step trees tree i f n at before e =
      let vs = built.0 in
      let same = under_entry d s k c vs built.1 in
      let one : formula_of_value at.value ≡ formula_of tree = same_Some _ _ (sym (ap (option_map formula_of_value) at.entry) ∙ e) in
      map-append formula_of trees (tree ∷ [])
      ∙ ap₂ (λ (l : List Formula) (t : Formula). l ++ t ∷ []) (before ∙ ap (λ l. map formula_of_value (take i l)) same) (sym one)
      ∙ sym (map-append formula_of_value (take i vs) (at.value ∷ []))
      ∙ sym (ap (map formula_of_value) (take-slice_get_next vs i at.value at.place))
      ∙ sym (ap (λ l. map formula_of_value (take (i + 1) l)) same)

  -- all arguments
  pub arguments_done : (trees : List Tree) (sels : List SelId) (i : ℕ) → field_sorts d c ≡ map (field_sort d) sels → length sels ≤ i → map formula_of trees ≡ map formula_of_value (take i (under_at d s k)) → option_map formula_of_value (slice_get (listed d s) k) ≡ Some (Con c (formulas_of (map formula_of trees)))
  arguments_done trees sels i fields past all =
      let vs = built.0 in
      let long = entries_long d (field_sorts d c) numbers vs built.2 in
      let many : length (field_sorts d c) ≡ length sels = ap length fields ∙ length-map sels (field_sort d) in
      let whole : map formula_of trees ≡ map formula_of_value vs =
      all ∙ ap (λ l. map formula_of_value (take i l)) (under_entry d s k c vs built.1) ∙ ap (map formula_of_value) (take-past i vs (omega (arith, long.1, many, past))) in
      ap (option_map formula_of_value) built.1 ∙ ap (λ l. Some (Con c l)) (formulas_closed vs ∙ sym (ap formulas_of whole))
