use Rattle.std.proofs.Common.{refl}
use Rattle.ct_formulas.specs.TreeFormula.{formula_of}
use Rattle.ct_occurrence.proofs.NameLemmas.{mentions_calls}
use Rattle.ct_occurrence.proofs.WorkingLemmas.{names_below}
use Rattle.ct_occurrence.proofs.under_way.frame_of.Goals as goal

pub returns : goal.returns
returns c =
    let body = formula_of c.body_at-body.result.now in
    let at = c.body_at-body.ensures.value in
    record {
      begins = record {
        definition_is = refl;
        body = body;
        at = at;
        named = c.in_ok-add_names.ensures.named.named;
        before = names_below c.args.k.0 body c.new-left.result.items c.add_names.new.names.items c.new-left.ensures.items c.in_ok-add_names.ensures.named (mentions_calls c.args.k.0 body (c.requires.mentions body at));
      };
    }
