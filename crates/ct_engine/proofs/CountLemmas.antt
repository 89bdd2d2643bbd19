-- Different trees that stand in a table are at most as many as its terms.
use Rattle.std.proofs.Common.{◌≡◌, ℕ, zero, suc, ◌<◌, ◌≤◌, inl, inr, true, false, eqb, List, [], ◌∷◌, length, map, Some, option_map, slice_get, Contains, refl, sym, ap, subst, ◌∙◌, arith, true≢false}
use Rattle.std.specs.List.{IsDistinct, list_any}
use Rattle.std.proofs.lemmas.Bool.Decides.{Decides-eqb}
use Rattle.std.proofs.lemmas.List.{length-map}
use Rattle.std.proofs.lemmas.List.Elements.{recursion_from_All}
use Rattle.std.proofs.lemmas.Map.Steps.{length-le_from_distinct_below}
use Rattle.std.proofs.lemmas.Option.{slice_get-map, none-some, same_Some}
use Rattle.ct_lemmas.proofs.Booleans.{not_true, or_cases}
use Rattle.ct_lemmas.proofs.Contained.{Contains-first, Contains-from_slice_get, Contains-rest, slice_get-from_Contains}
use Rattle.ct_lemmas.proofs.Each.{All-from_Contains}
use Rattle.ct_terms.specs.declared.ids.TermId.{TermId}
use Rattle.ct_terms.specs.Terms.{Terms}
use Rattle.ct_terms.specs.CoreTree.{CoreTree, term_at}

-- no number stands twice in the list
abbrev pub StandOnce : List ℕ → Type 0
StandOnce ns = (i j n : ℕ) → slice_get ns i ≡ Some n → slice_get ns j ≡ Some n → i ≡ j

-- so the list is distinct
IsDistinct-once : (ns : List ℕ) → StandOnce ns → IsDistinct eqb ns
unfolding IsDistinct
IsDistinct-once [] once = tt
IsDistinct-once (n ∷ ns) once = (
  recursion_from_All (λ (m : ℕ). eqb n m ≡ false) ns (All-from_Contains (λ (m : ℕ). eqb n m ≡ false) ns (λ m inside.
      not_true (eqb n m) (λ same.
      let at = slice_get-from_Contains ns m inside in
      let one : n ≡ m = (Decides-eqb n m).0 same in
      let first : zero ≡ suc at.0 = once zero (suc at.0) n refl (at.1 ∙ ap (λ (k : ℕ). Some k) (sym one)) in
      absurd (omega (arith, first))))),
  IsDistinct-once ns (λ i j m here there. let step : suc i ≡ suc j = once (suc i) (suc j) m here there in omega (arith, step)),
)

pub Contains-any : (ns : List ℕ) (q : ℕ) → list_any (eqb q) ns ≡ true → Contains ns q
Contains-any [] q h = absurd (true≢false (sym h))
Contains-any (n ∷ ns) q h =
    elim (or_cases (eqb q n) (list_any (eqb q) ns) h) [
      | inl same ↦ subst (λ (k : ℕ). Contains (n ∷ ns) k) (sym ((Decides-eqb q n).0 same)) (Contains-first n ns)
      | inr rest ↦ Contains-rest n ns q (Contains-any ns q rest)
    ]

-- trees that stand in a table have numbers there
module _ (table : Terms) where
  numbers : (trees : List CoreTree) → ((t : CoreTree) → Contains trees t → (n : TermId) × (n.0 < length table) × (term_at table n ≡ t)) → (ns : List ℕ) × (map (λ (n : ℕ). term_at table (record { 0 = n })) ns ≡ trees) × ((q : ℕ) → Contains ns q → q < length table)
  numbers [] stand = ([], refl, λ q h. let at = slice_get-from_Contains [] q h in absurd (none-some q at.1))
  numbers (t ∷ trees) stand =
      let found = stand t (Contains-first t trees) in
      let rest = numbers trees (λ s h. stand s (Contains-rest t trees s h)) in (
        found.0.0 ∷ rest.0,
        both (term_at table (record { 0 = found.0.0 })) t (map (λ (n : ℕ). term_at table (record { 0 = n })) rest.0) trees found.2 rest.1,
        λ q h. within found.0.0 rest.0 q found.1 rest.2 (slice_get-from_Contains (found.0.0 ∷ rest.0) q h).0 (slice_get-from_Contains (found.0.0 ∷ rest.0) q h).1,
      )
    where
      both : (a b : CoreTree) (xs ys : List CoreTree) → a ≡ b → xs ≡ ys → a ∷ xs ≡ b ∷ ys
      both a b xs ys e f = cc

      within : (n : ℕ) (ns : List ℕ) (q : ℕ) → n < length table → ((k : ℕ) → Contains ns k → k < length table) → (i : ℕ) → slice_get (n ∷ ns) i ≡ Some q → q < length table
      within n ns q here there zero at = subst (λ (k : ℕ). k < length table) (same_Some n q at) here
      within n ns q here there (suc i) at = there q (Contains-from_slice_get ns i q at)

  -- different trees have different numbers
  once_by : (ns : List ℕ) → ((i j : ℕ) (t : CoreTree) → slice_get (map (λ (n : ℕ). term_at table (record { 0 = n })) ns) i ≡ Some t → slice_get (map (λ (n : ℕ). term_at table (record { 0 = n })) ns) j ≡ Some t → i ≡ j) → StandOnce ns
  once_by ns different i j n here there =
      let tree : ℕ → CoreTree = λ (k : ℕ). term_at table (record { 0 = k }) in
      different i j (tree n) (slice_get-map tree ns i ∙ ap (option_map tree) here) (slice_get-map tree ns j ∙ ap (option_map tree) there)

  pub few_trees : (trees : List CoreTree) → ((i j : ℕ) (t : CoreTree) → slice_get trees i ≡ Some t → slice_get trees j ≡ Some t → i ≡ j) → ((t : CoreTree) → Contains trees t → (n : TermId) × (n.0 < length table) × (term_at table n ≡ t)) → length trees ≤ length table
  few_trees trees different stand =
      let found = numbers trees stand in
      let ns = found.0 in
      let is : map (λ (n : ℕ). term_at table (record { 0 = n })) ns ≡ trees = found.1 in
      let differ : (i j : ℕ) (t : CoreTree) → slice_get (map (λ (n : ℕ). term_at table (record { 0 = n })) ns) i ≡ Some t → slice_get (map (λ (n : ℕ). term_at table (record { 0 = n })) ns) j ≡ Some t → i ≡ j =
      subst (λ (ts : List CoreTree). (i j : ℕ) (t : CoreTree) → slice_get ts i ≡ Some t → slice_get ts j ≡ Some t → i ≡ j) (sym is) different in
      let few : length ns ≤ length table = length-le_from_distinct_below ns (length table) (IsDistinct-once ns (once_by ns differ)) (λ q h. found.2 q (Contains-any ns q h)) in
      let long : length trees ≡ length ns = ap (λ (ts : List CoreTree). length ts) (sym is) ∙ length-map ns (λ (n : ℕ). term_at table (record { 0 = n })) in
      omega arith
