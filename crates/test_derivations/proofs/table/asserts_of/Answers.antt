use Rattle.std.proofs.Common.{All, sym, subst}
use Rattle.std.proofs.lemmas.List.Elements.{All-push}
use Rattle.ct_terms.specs.Terms.{IsBoolean}
use Rattle.test_derivations.proofs.table.asserts_of.Goals as goal

pub loop-part-preserved : goal.loop-part-preserved
loop-part-preserved c =
    subst (All (IsBoolean c.args.table.now)) (sym c.in_ok-push.ensures.items)
    (All-push (IsBoolean c.args.table.now) c.loop-part.asserts.items c.in_ok-boolean_term.field-0 c.loop-part.invariant c.in_ok-boolean_term.ensures.boolean)
