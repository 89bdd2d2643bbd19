use Rattle.ct_theory.proofs.ReadyLemmas.{begins_common, begins_then}
use Rattle.ct_theory.proofs.telling.keep_shared.Goals as goal

pub returns-clause-begins : goal.returns-clause-begins
returns-clause-begins c =
    let old = c.args.classes.now.hypotheses in
    let back = c.go_back.new.classes.hypotheses in
    let new = c.renew.new.classes.hypotheses in
    begins_common new old c.args.literals.now c.args.shared (begins_then new back old c.in_ok-renew.ensures.begins c.go_back.ensures.begins) c.in_ok-renew.ensures.few c.requires.shared.same
