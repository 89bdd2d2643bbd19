use Rattle.std.proofs.Common.{◌∙◌, Bool, Option, None, if◌then◌else◌, sym, ap, subst}
use Rattle.ct_command.specs.Seen.{command_seen}
use Rattle.ct_stack.specs.declared.model_values.ModelValues.{ModelValues}
use Rattle.ct_step.specs.Done.{state_of}
use Rattle.ct_step.specs.Known.{AreKnown}
use Rattle.ct_step.proofs.KnownLemmas.{known_still}
use Rattle.ct_step.proofs.performing.perform.Goals as goal

pub returns-clause-known : goal.returns-clause-known
returns-clause-known c =
    let left = c.pass_on-done.new.known in
    let kept = c.keep_if.ensures.value ∙ ap (λ (asks : Bool). if asks then left else None) c.only_asks-asks.ensures.value in
    subst (λ (known : Option ModelValues). AreKnown (state_of c.pass_on-done.new.state) known) (sym kept)
    (known_still c.args.state.now c.pass_on-done.new.state c.args.number (command_seen c.args.command) c.pass_on-done.result left c.pass_on-done.ensures.done c.pass_on-done.ensures.known)
