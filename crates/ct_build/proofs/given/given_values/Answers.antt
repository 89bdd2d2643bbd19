use Rattle.std.proofs.Common.{ℕ, List, get_or, ◌∙◌, arith}
use Rattle.std.proofs.lemmas.Option.{slice_get-get_or}
use Rattle.ct_build.specs.declared.open_classes.OpenClass.{OpenClass}
use Rattle.ct_build.proofs.ListLemmas.{begins_further}
use Rattle.ct_build.proofs.ListedLemmas.{open_within}
use Rattle.ct_build.proofs.ValueLemmas.{given_more}
use Rattle.ct_build.proofs.given.given_values.Goals as goal

-- the open class at this index
abbrev class_at : List OpenClass → ℕ → OpenClass
class_at unbuilt i = get_or unbuilt i (record { rep = record { 0 = 0 }; rank = 0 })

pub index_mut-requires : goal.index_mut-requires
index_mut-requires c = omega (arith, c.loop-i.values.ok.0, c.loop-i.invariant.given.long, open_within c.args.classes.now c.args.unbuilt.now c.loop-i.i (class_at c.args.unbuilt.now c.loop-i.i) c.requires.classes (slice_get-get_or c.args.unbuilt.now c.loop-i.i (record { rep = record { 0 = 0 }; rank = 0 }) c.loop-i-test.true))

pub loop-i-preserved : goal.loop-i-preserved
loop-i-preserved c =
    let state = c.args.classes.now in
    let unbuilt = c.args.unbuilt.now in
    let old = c.loop-i.invariant in
    let step = c.in_ok-n.ensures in
    let class = class_at unbuilt c.loop-i.i in
    let listed = slice_get-get_or unbuilt c.loop-i.i (record { rep = record { 0 = 0 }; rank = 0 }) c.loop-i-test.true in
    record {
      grown = begins_further c.args.g.now c.loop-i.g c.given_node.new.g old.grown step.grown;
      kept = λ all. step.kept (omega (arith, c.loop-i-test.true, all)) ∙ old.kept all;
      given = given_more state c.loop-i.g c.given_node.new.g c.args.defaults.now unbuilt c.args.chosen.now c.loop-i.i c.loop-i.values.items class c.in_ok-n.n c.requires.classes step.grown listed (open_within state unbuilt c.loop-i.i class c.requires.classes listed) step.given old.given;
    }
