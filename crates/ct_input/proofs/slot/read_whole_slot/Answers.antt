use Rattle.std.proofs.Common.{◌∙◌}
use Rattle.std.proofs.lemmas.Result.{err_from_is_err_and}
use Rattle.ct_input.proofs.FaultLemmas.{HasCause-passed, HasCause-since}
use Rattle.ct_input.proofs.slot.read_whole_slot.Goals as goal

pub returns-in_err-open_slot-clause-cause : goal.returns-in_err-open_slot-clause-cause
returns-in_err-open_slot-clause-cause g c =
    let p = err_from_is_err_and c.from_residual.result c.from_residual.ensures.1 in
    rw (p.1, p.2) (HasCause-passed _ _ _ _ c.in_err-open_slot.ensures.cause)

pub returns-in_err-whole-clause-cause : goal.returns-in_err-whole-clause-cause
returns-in_err-whole-clause-cause g c =
    let p = err_from_is_err_and c.from_residual-in_err-whole.result c.from_residual-in_err-whole.ensures.1 in
    rw (p.1, p.2) (HasCause-since _ _ _ _ _ c.in_ok-open_slot.ensures.cause.uncounted (HasCause-passed _ _ _ _ c.in_err-whole.ensures.cause))

pub returns-clause-held : goal.returns-clause-held
returns-clause-held g c = λ bytes held. c.reader_where.ensures.read bytes (c.in_ok-whole.ensures.left bytes (c.in_ok-open_slot.ensures.opened ∙ held))

pub returns-in_err-whole-clause-other : goal.returns-in_err-whole-clause-other
returns-in_err-whole-clause-other g c = λ s different. c.in_err-whole.ensures.other s different ∙ c.in_ok-open_slot.ensures.other s different

pub returns-clause-other : goal.returns-clause-other
returns-clause-other g c = λ s different. c.in_ok-whole.ensures.other s different ∙ c.in_ok-open_slot.ensures.other s different
