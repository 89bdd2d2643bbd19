-- Counted lengths of texts stay right where more expressions are stored.
use Rattle.std.proofs.Common.{◌≡◌, ℕ, zero, suc, ◌+◌, ◌<◌, ◌≤◌, List, length, slice_get, Some, refl, subst, arith}
use Rattle.std.proofs.lemmas.Option.{slice_get_within}
use Rattle.ct_lemmas.proofs.Lists.{slice_get-there}
use Rattle.ct_generics.specs.declared.heads.StoredHead.{StoredHead}
use Rattle.ct_generics.specs.declared.nodes.Node.{Node}
use Rattle.ct_generics.specs.declared.nodes.Node.TheVariants.{Param, Head as HeadNode, Apply}
use Rattle.ct_generics.specs.Expression.{Expression, parameter, named, applied}
use Rattle.ct_generics.specs.Nodes.{AreOrdered, Stands, Stay, HasPartsBelow}
use Rattle.ct_generics.specs.SortTable.{IsCounted}
use Rattle.ct_sorts.proofs.TableSortsLemmas.{stands_one, stands_stay}

-- each number stands for some expression
some_below : (nodes : List Node) → AreOrdered nodes → (depth n : ℕ) → n < depth → n < length nodes → (e : Expression) × Stands nodes n e
some_below nodes ordered zero n deep within = absurd (omega (arith, deep))
some_below nodes ordered (suc depth) n deep within =
    let there = slice_get-there nodes n within in
    by there.0 there.1 (ordered n there.0 there.1) (λ k less. some_below nodes ordered depth k (omega (arith, less, deep)) (omega (arith, less, within)))
  where
    by : (node : Node) → slice_get nodes n ≡ Some node → HasPartsBelow n node → ((k : ℕ) → k < n → (e : Expression) × Stands nodes k e) → (e : Expression) × Stands nodes n e
    by (Param i) at below rest = (parameter i, at)
    by (HeadNode h) at below rest = (named h.0, at)
    by (Apply m k) at below rest =
        let left = rest m.0 below.0 in
        let right = rest k.0 below.1 in
        (applied left.0 right.0, (m, k, at, left.1, right.1))

-- more nodes are at least as many
stay_long : {X : Type 0} (old new : List X) → Stay old new → (n : ℕ) → n ≤ length old → n ≤ length new
stay_long old new stay zero within = omega arith
stay_long old new stay (suc n) within =
    let there = slice_get-there old n (omega (arith, within)) in
    let below = slice_get_within new n there.0 (stay n there.0 there.1) in
    omega (arith, below)

pub counted_stay : (heads : List StoredHead) (old new : List Node) (counts : List ℕ) → AreOrdered old → Stay old new → IsCounted heads old counts → IsCounted heads new counts
counted_stay heads old new counts ordered stay is = record {
  within = stay_long old new stay (length counts) is.within;
  counted = λ hs all k n e at stands.
      let below : k < length old = omega (arith, slice_get_within counts k n at, is.within) in
      let stood = some_below old ordered (suc k) k (omega arith) below in
      let same : stood.0 ≡ e = stands_one new k stood.0 e (stands_stay old new stay k stood.0 stood.1) stands in
      is.counted hs all k n e at (subst (Stands old k) same stood.1);
}
