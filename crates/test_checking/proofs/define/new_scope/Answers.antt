use Rattle.std.proofs.Common.{length, ap, ◌∙◌}
use Rattle.std.proofs.lemmas.Result.{IfOk-weaker}
use Rattle.ct_sorts.specs.Declarations.{Declarations}
use Rattle.test_checking.proofs.ScopeLemmas.{sound_without_definitions}
use Rattle.test_checking.proofs.define.new_scope.Goals as goal

pub returns-clause-new : goal.returns-clause-new
returns-clause-new c = IfOk-weaker c.scope_of.result _ _ (λ scope h. (h.0 ∙ c.in_ok-new.ensures.ok, h.1)) c.scope_of.ensures.new

pub returns-clause-sound : goal.returns-clause-sound
returns-clause-sound c =
    IfOk-weaker c.scope_of.result _ _
    (λ scope h. sound_without_definitions scope.value (ap (λ (d : Declarations). length d.definitions) (h.0 ∙ c.in_ok-new.ensures.ok)) h.1) c.scope_of.ensures.new
