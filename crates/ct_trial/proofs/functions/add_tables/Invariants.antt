use Rattle.ct_trial.proofs.FollowLemmas.{AreFurther}
use Rattle.ct_trial.proofs.functions.add_tables.Given as goal

abbrev pub invariant-loop-f : goal.invariant-loop-f
invariant-loop-f l = AreFurther l.sig l.graph l.initial.funs l.funs l.f
