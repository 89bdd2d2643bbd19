use Rattle.std.proofs.Common.{◌≡◌, List, Some, sym, subst}
use Rattle.ct_command.specs.Seen.{all_seen}
use Rattle.ct_step.specs.State.{model_kept}
use Rattle.ct_step.specs.Done.{kept_of, state_of}
use Rattle.ct_step.proofs.DoneLemmas.{same_stack}
use Rattle.ct_step.proofs.AskLemmas.{values_answered}
use Rattle.ct_step.proofs.KnownLemmas.{known_in}
use Rattle.ct_step.proofs.ask.values.Goals as goal

pub values-requires : goal.values-requires
values-requires c =
    let i = c.in-Some.interp.now in
    let stands : model_kept (kept_of c.args.state.now.last c.args.state.now.kept) ≡ Some i = sym c.in-Some.ensures.value in
    record { proper = c.requires.sound.own.proper i stands; valued = c.requires.known i stands }

pub returns : goal.returns
returns c =
    let i = c.in-Some.interp.now in
    let stands : model_kept (kept_of c.args.state.now.last c.args.state.now.kept) ≡ Some i = sym c.in-Some.ensures.value in
    record {
      done = λ number.
          values_answered c.args.state.now i stands (all_seen c.args.terms.now) (record c.args.state.now { stack = c.values.new.self }) (same_stack c.args.state.now c.values.new.self c.in_ok-text.ensures.unchanged) number c.in_ok-text.text.items c.said.result c.in_ok-text.ensures.accepted c.in_ok-text.ensures.values c.said.ensures.answer;
      known = known_in (state_of c.args.state.now) c.values.new.values i stands c.in_ok-text.ensures.valued;
    }

pub returns-in_err-text-clause-known : goal.returns-in_err-text-clause-known
returns-in_err-text-clause-known c =
    let i = c.in-Some.interp.now in
    let stands : model_kept (kept_of c.args.state.now.last c.args.state.now.kept) ≡ Some i = sym c.in-Some.ensures.value in
    known_in (state_of c.args.state.now) c.values.new.values i stands c.in_err-text.ensures.valued
