use Rattle.std.proofs.Common.{List, sym, subst, take}
use Rattle.std.specs.List.{Contains}
use Rattle.ct_rules.specs.declared.equation.Equation.{Equation}
use Rattle.ct_congr.specs.Merges.{AreConnected}
use Rattle.ct_explain.specs.Resting.{AreArgumentsPaved, HasNumber}
use Rattle.ct_explain.proofs.ReasonLemmas.{has_premise}
use Rattle.ct_explain.proofs.RestLemmas.{lone_rests}
use Rattle.ct_explain.proofs.merges.write_merge.Goals as goal

pub write_lone-requires-clause-lone : goal.write_lone-requires-clause-lone
write_lone-requires-clause-lone c = has_premise c.args.m.now.why c.in_default.not-Hyp c.in_default.not-Single c.in_default.not-Cong c.in_default.not-Unique

pub write_lone-requires-clause-paved : goal.write_lone-requires-clause-paved
write_lone-requires-clause-paved c =
    lone_rests c.args.classes.now.terms c.args.forest.now.links (AreConnected (take c.args.bound c.args.classes.now.merges)) (HasNumber c.args.done.now) c.args.m.now.right c.args.m.now.why c.requires.rests

pub write_unique-requires-clause-paved : goal.write_unique-requires-clause-paved
write_unique-requires-clause-paved c =
    let rests = rw c.in-Unique.is at c.requires.rests in
    subst (λ (l : List Equation). (e : Equation) → Contains l e → AreArgumentsPaved c.args.classes.now.terms c.args.forest.now.links (AreConnected (take c.args.bound c.args.classes.now.merges)) (HasNumber c.args.done.now) l e.left e.right)
    (sym c.as_slice.ensures.value) rests
