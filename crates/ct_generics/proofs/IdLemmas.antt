-- Different numbers in order: what is found among them, one more, and the first of them.
use Rattle.std.proofs.Common.{◌≡◌, ℕ, Bool, true, false, List, [], ◌∷◌, ◌++◌, take, if◌then◌else◌, Option, IfSome, IfNone, slice_get, position, Some, Decides, refl, sym, ap, ◌∙◌}
use Rattle.std.specs.List.{list_any}
use Rattle.std.proofs.lemmas.Bool.Decides.{Decides-eqb}
use Rattle.indexmap.specs.IndexSet.{insert_key}
use Rattle.ct_lemmas.proofs.Prefixes.{slice_get-take}
use Rattle.ct_generics.specs.declared.nodes.ExprId.{ExprId}
use Rattle.ct_generics.specs.declared.nodes.Node.{Node}
use Rattle.ct_generics.specs.contracts.nodes.ExprIdPartialEq.TheImpl as derived
use Rattle.ct_generics.specs.Nodes.{AreUnlike, AreOrdered, AreSingle}
use Rattle.ct_generics.proofs.MarkLemmas.{list_any-source}
use Rattle.ct_generics.proofs.PositionLemmas.{position-Some, position-None}

same_id : (m n : ExprId) → m.0 ≡ n.0 → m ≡ n
same_id m n e i = record { 0 = e i }

decides : (id other : ExprId) → Decides (derived.eq-value.it id other) (id ≡ other)
decides id other = (λ e. same_id id other ((Decides-eqb id.0 other.0).0 e), λ e. (Decides-eqb id.0 other.0).1 (ap (λ (x : ExprId). x.0) e))

pub found-is : (ids : List ExprId) (id : ExprId) (found : Option ℕ) → found ≡ position (derived.eq-value.it id) ids → IfSome found (λ i. slice_get ids i ≡ Some id)
found-is ids id found is = position-Some id (derived.eq-value.it id) (decides id) ids found is

pub none-found : (ids : List ExprId) (id : ExprId) (found : Option ℕ) → found ≡ position (derived.eq-value.it id) ids → IfNone found ((i : ℕ) → slice_get ids i ≡ Some id → ⊥)
none-found ids id found is = position-None id (derived.eq-value.it id) (decides id) ids found is

-- a new number comes last
pub inserted-last : (old new : List ExprId) (id : ExprId) → new ≡ insert_key derived.eq-value.it old id → ((i : ℕ) → slice_get old i ≡ Some id → ⊥) → new ≡ old ++ id ∷ []
inserted-last old new id is fresh = is ∙ by (list_any (derived.eq-value.it id) old) refl
  where
    by : (b : Bool) → list_any (derived.eq-value.it id) old ≡ b → (if b then old else old ++ id ∷ []) ≡ old ++ id ∷ []
    by true e = let found = list_any-source (derived.eq-value.it id) old e in absurd (fresh found.0 (found.2 ∙ ap Some (sym ((decides id found.1).0 found.3))))
    by false e = refl

-- ---- the first of them

pub AreUnlike-take : (ids : List ExprId) (n : ℕ) → AreUnlike ids → AreUnlike (take n ids)
AreUnlike-take ids n unlike i j id at_i at_j = unlike i j id (slice_get-take n ids i id at_i) (slice_get-take n ids j id at_j)

pub AreOrdered-take : (nodes : List Node) (n : ℕ) → AreOrdered nodes → AreOrdered (take n nodes)
AreOrdered-take nodes n ordered k node at = ordered k node (slice_get-take n nodes k node at)

pub AreSingle-take : (nodes : List Node) (n : ℕ) → AreSingle nodes → AreSingle (take n nodes)
AreSingle-take nodes n single m k node at_m at_k = single m k node (slice_get-take n nodes m node at_m) (slice_get-take n nodes k node at_k)
