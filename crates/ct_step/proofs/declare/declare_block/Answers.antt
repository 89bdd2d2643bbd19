use Rattle.std.proofs.Common.{◌∙◌, List, map, ap}
use Rattle.std.proofs.lemmas.Result.{err_from_is_err_and}
use Rattle.ct_command.specs.declared.command.SortHead.{SortHead as ReadHead}
use Rattle.ct_command.specs.declared.command.Body.{Body as ReadBody}
use Rattle.ct_command.specs.Seen.{head_seen, body_seen}
use Rattle.ct_command.specs.Command.{declare_block}
use Rattle.ct_step.specs.Done.{state_of}
use Rattle.ct_step.proofs.DoneLemmas.{not_done_as, done_as, changes, quietly, same_stack}
use Rattle.ct_step.proofs.declare.declare_block.Goals as goal

pub returns-in_err-declare_block : goal.returns-in_err-declare_block
returns-in_err-declare_block c =
    let same = ap (λ (x : List ReadHead). declare_block c.args.family (map head_seen x) (map body_seen c.as_slice-2.result.now)) c.as_slice.ensures.value ∙ ap (λ (x : List ReadBody). declare_block c.args.family (map head_seen c.args.heads.items) (map body_seen x)) c.as_slice-2.ensures.value in
    let p = err_from_is_err_and c.from_residual-in_err-declare_block.result c.from_residual-in_err-declare_block.ensures.1 in
    rw (p.1, p.2) (record { done = λ number. not_done_as c.args.state.now _ number (declare_block c.args.family (map head_seen c.as_slice.result.now) (map body_seen c.as_slice-2.result.now)) (declare_block c.args.family (map head_seen c.args.heads.items) (map body_seen c.args.bodies.items)) _ same c.in_err-declare_block.ensures.refused (same_stack c.args.state.now c.declare_block.new.self c.in_err-declare_block.ensures.unchanged) })

pub returns : goal.returns
returns c =
    let same = ap (λ (x : List ReadHead). declare_block c.args.family (map head_seen x) (map body_seen c.as_slice-2.result.now)) c.as_slice.ensures.value ∙ ap (λ (x : List ReadBody). declare_block c.args.family (map head_seen c.args.heads.items) (map body_seen x)) c.as_slice-2.ensures.value in
    record {
      done = λ number.
          done_as c.args.state.now _ number c.in_ok-answer.answer (declare_block c.args.family (map head_seen c.as_slice.result.now) (map body_seen c.as_slice-2.result.now)) (declare_block c.args.family (map head_seen c.args.heads.items) (map body_seen c.args.bodies.items)) same
          (changes c.args.state.now number (declare_block c.args.family (map head_seen c.as_slice.result.now) (map body_seen c.as_slice-2.result.now)) c.in_ok-declare_block.ensures.accepted c.in_ok-answer.answer c.declare_block.new.self
          (let h = c.in_ok-declare_block.ensures.ok in (h.0, h.1, quietly (state_of c.args.state.now) c.declare_block.new.self _ h.2))
          c.in_ok-answer.ensures.answer);
    }
