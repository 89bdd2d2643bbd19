-- When points cannot be told apart: they agree at every depth, or some bisimulation relates them. On values of
-- codatatypes this is equality (Reynolds and Blanchette 2015).
use Rattle.std.specs.Prelude.{◌≡◌, ℕ, zero, suc, ◌<◌, Bool, true, ◌&&◌, IsTrue, nat_eq}
use Rattle.std.specs.Cmp.Lexicographic.{pointwise}
use Rattle.ct_partition.specs.Points.{Points}

-- the two points agree to this depth: to depth 0 all do; to a greater one they have one label and as many children,
-- which agree one for one to the depth below
unfoldable pub agree : Points → ℕ → ℕ → ℕ → Bool
agree p zero i j = true
agree p (suc depth) i j = nat_eq (p.label i) (p.label j) && pointwise (agree p depth) (p.children i) (p.children j)

-- they agree at every depth
abbrev pub AgreeAlways : Points → ℕ → ℕ → Type 0
AgreeAlways p i j = (depth : ℕ) → IsTrue (agree p depth i j)

-- a bisimulation: related points have one label and as many children, which it relates one for one
pub record IsBisimulation (p : Points) (relates : ℕ → ℕ → Bool) : Type 0 where
  pub labels : (i j : ℕ) → i < p.count → j < p.count → IsTrue (relates i j) → p.label i ≡ p.label j
  pub children : (i j : ℕ) → i < p.count → j < p.count → IsTrue (relates i j) → IsTrue (pointwise relates (p.children i) (p.children j))

-- some bisimulation relates the two points
pub record AreBisimilar (p : Points) (i j : ℕ) : Type 0 where
  pub relates : ℕ → ℕ → Bool
  pub bisimulation : IsBisimulation p relates
  pub related : IsTrue (relates i j)
