use Rattle.std.proofs.Common.{get_or, refl, ◌∙◌, arith}
use Rattle.std.proofs.lemmas.Option.{slice_get-get_or}
use Rattle.ct_build.proofs.ListLemmas.{set_length}
use Rattle.ct_build.proofs.ValueLemmas.{reserved_more}
use Rattle.ct_build.proofs.numbering.reserve.Goals as goal

pub loop-i-preserved : goal.loop-i-preserved
loop-i-preserved c =
    let rep = get_or c.args.list.now c.loop-i.i (record { 0 = 0 }) in
    let nodes = c.loop-i.nodes.items in
    let listed = slice_get-get_or c.args.list.now c.loop-i.i (record { 0 = 0 }) c.loop-i-test.true in
    record {
      many = set_length nodes rep.0 _ ∙ c.loop-i.invariant.many;
      each = reserved_more c.args.list.now c.args.base nodes c.loop-i.i rep _ listed (omega (arith, c.loop-i.invariant.many, c.requires.inside c.loop-i.i rep listed)) refl c.loop-i.invariant.each;
    }
