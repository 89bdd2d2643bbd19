-- Heads at the ends of paths: values that are the same have the same ones.
use Rattle.std.proofs.Common.{◌≡◌, ℕ, ◌↔◌, List, [], ◌∷◌, ◌++◌, slice_get, Some, sym, ◌∙◌}
use Rattle.std.specs.List.{AllZip}
use Rattle.ct_lemmas.proofs.Pairs.{AllZip-at_left}
use Rattle.ct_values.specs.declared.node.Head.{Head}
use Rattle.ct_values.specs.Graph.{Nodes, IsClosed}
use Rattle.ct_values.specs.Value.{Value, IsOver}
use Rattle.ct_values.specs.Agreement.{Point, point, head, children, AgreeAlways}
use Rattle.ct_card.specs.Paths.{HasHeadAt}

-- the laws of agreement that the lemmas take
pub record Agrees : Type 0 where
  pub always : (p q : Point) → AgreeAlways p q ↔ ((head p ≡ head q) × AllZip AgreeAlways (children p) (children q))
  pub turned : (p q : Point) → AgreeAlways p q → AgreeAlways q p
  pub grown : (g more : Nodes) (v : Value) → IsClosed g → IsOver g v → AgreeAlways (point (g ++ more) v) (point g v)

module _ (laws : Agrees) where
  pub same_top : (p q : Point) (h : Head) → AgreeAlways p q → head p ≡ Some h → head q ≡ Some h
  same_top p q h same is = sym ((laws.always p q).0 same).0 ∙ is

  pub same_child : (p q : Point) (k : ℕ) (x : Point) → AgreeAlways p q → slice_get (children p) k ≡ Some x → (y : Point) × (slice_get (children q) k ≡ Some y) × AgreeAlways x y
  same_child p q k x same at = AllZip-at_left AgreeAlways (children p) (children q) k x ((laws.always p q).0 same).1 at

  pub same_head_at : (path : List ℕ) (h : Head) (p q : Point) → AgreeAlways p q → HasHeadAt path h p → HasHeadAt path h q
  same_head_at [] h p q same is = same_top p q h same is
  same_head_at (place ∷ path) h p q same (x, at, rest) =
      let y = same_child p q place x same at in
      (y.0, y.1, same_head_at path h x y.0 y.2 rest)
