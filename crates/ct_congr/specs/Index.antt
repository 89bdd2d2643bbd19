-- Maps from terms over representatives to terms of the table.
use Rattle.std.specs.Prelude.{◌≡◌, ℕ, ◌<◌, ◌⊎◌, Bool, List, Some, slice_get}
use Rattle.indexmap.specs.IndexMap.{IndexMap, get}
use Rattle.ct_sorts.specs.declared.ids.CtorId.{CtorId}
use Rattle.ct_terms.specs.declared.ids.TermId.{TermId}
use Rattle.ct_terms.specs.declared.term.Core.{Core}
use Rattle.ct_terms.specs.declared.term.Core.TheVariants.{Con, Test}
use Rattle.ct_terms.specs.contracts.term.CorePartialEq.TheImpl as derived
use Rattle.ct_terms.specs.Terms.{Terms, Has}
use Rattle.ct_congr.specs.Partition.{InOneClass}

-- the derived test of two terms
abbrev pub same_core : Core → Core → Bool
same_core = derived.eq-value.it

-- the map has the term under the key
abbrev pub IsUnder : {S : Type 0} → IndexMap Core TermId S → Core → TermId → Type 0
IsUnder index key t = get same_core index key ≡ Some t

-- the term is under the key now: it was before, or nothing was and it is new
pub record IsEntered {S : Type 0} (old new : IndexMap Core TermId S) (key : Core) (t u : TermId) : Type 0 where
  pub under : IsUnder new key u
  pub first : IsUnder old key u ⊎ (u ≡ t)
  pub stay : (k : Core) (v : TermId) → IsUnder old k v → IsUnder new k v
  pub only : (k : Core) (v : TermId) → IsUnder new k v → IsUnder old k v ⊎ ((k ≡ key) × (v ≡ t))

-- the key of a constructor and a class: the test of the constructor on the representative
abbrev pub class_key : CtorId → TermId → Core
class_key c r = Test c r

-- under the key of a constructor and a class there is a term of the constructor in the class, if there is any below a number
pub record IsConIndex {S : Type 0} (terms : Terms) (reps : List TermId) (n : ℕ) (index : IndexMap Core TermId S) : Type 0 where
  pub listed : (t r : TermId) (c : CtorId) (args : List TermId) → t.0 < n → Has terms (Con c args) t.0 → slice_get reps t.0 ≡ Some r → (u : TermId) × IsUnder index (class_key c r) u
  pub only : (r u : TermId) (c : CtorId) → IsUnder index (class_key c r) u → (args : List TermId) × Has terms (Con c args) u.0 × (slice_get reps u.0 ≡ Some r)

-- the arguments of the two lists are of one class, place by place
abbrev pub ArePairsEqual : List TermId → ℕ → List TermId → List TermId → Type 0
ArePairsEqual reps n xs ys = (k : ℕ) (x y : TermId) → k < n → slice_get xs k ≡ Some x → slice_get ys k ≡ Some y → InOneClass reps x y

-- where the term is a constructor term, its arguments are of one class with those of the term of its constructor and class
abbrev pub IsInjectedAt : {S : Type 0} → Terms → List TermId → IndexMap Core TermId S → TermId → Type 0
IsInjectedAt terms reps index t =
    (c : CtorId) (xs : List TermId) (r : TermId) → Has terms (Con c xs) t.0 → slice_get reps t.0 ≡ Some r
    → (first : TermId) × (ys : List TermId) × IsUnder index (class_key c r) first × Has terms (Con c ys) first.0 × ((k : ℕ) (x y : TermId) → slice_get xs k ≡ Some x → slice_get ys k ≡ Some y → InOneClass reps x y)
