use Rattle.std.proofs.Common.{◌≡◌, ℕ, ◌-◌, List, Some, slice_get, subst, sym, ap, ◌∙◌}
use Rattle.ct_words.specs.NameList.{AreDistinct, names_in}
use Rattle.ct_words.proofs.DistinctLemmas.{only_index}
use Rattle.ct_words.proofs.ChainLemmas.{IsLeft-next}
use Rattle.ct_words.proofs.name_table.NameTable.find.Goals as goal

pub loop-left-preserved : goal.loop-left-preserved
loop-left-preserved g c =
    let left = c.loop-left.left in
    let buckets = c.self.inside.buckets in
    let name = c.name.result.now in
    let at : slice_get (names_in c.self.inside.text.now) (left - 1) ≡ Some name = subst (λ (names : List (List ℕ)). slice_get names (left - 1) ≡ Some name) (sym c.self.view_is) c.name.ensures.name in
    rw c.before-left.ensures.before (IsLeft-next (names_in c.self.inside.text.now) c.args.text.now g.row.N buckets.lasts buckets.befores c.self.invariant.chained left name c.loop-left-test.true c.loop-left.invariant at c.if-equal_bytes.ensures.other)

pub returns-then-equal_bytes-clause-exact : goal.returns-then-equal_bytes-clause-exact
returns-then-equal_bytes-clause-exact g c =
    let distinct : AreDistinct c.args.self.now = subst AreDistinct c.self.view_is c.self.invariant.distinct in
    let at : slice_get c.args.self.now (c.loop-left.left - 1) ≡ Some c.args.text.now = c.name.ensures.name ∙ ap Some c.if-equal_bytes.ensures.same in
    λ other. only_index c.args.self.now c.args.text.now (c.loop-left.left - 1) other distinct at
