use Rattle.std.proofs.Common.{◌≡◌, ◌∙◌, ℕ, List, [], ◌∷◌, ◌++◌, Option, ap, refl}
use Rattle.std.proofs.lemmas.Result.{err_from_is_err_and}
use Rattle.ct_sexpr.specs.View.{expression_of}
use Rattle.ct_command.specs.Seen.{bytes_seen}
use Rattle.ct_stack.specs.Stack.{declaring}
use Rattle.ct_command.specs.Command.{assert}
use Rattle.ct_step.proofs.DoneLemmas.{not_done, asserts, same_beside}
use Rattle.ct_step.proofs.declare.assert.Goals as goal

pub returns-in_err-assert : goal.returns-in_err-assert
returns-in_err-assert c =
    let p = err_from_is_err_and c.from_residual-in_err-assert.result c.from_residual-in_err-assert.ensures.1 in
    rw (p.1, p.2) (record { done = λ number. not_done c.args.state.now _ number (assert (expression_of c.args.term.now) (bytes_seen c.args.label)) _ c.in_err-assert.ensures.refused (same_beside c.args.state.now c.assert.new.self c.reserve.new.self c.in_err-assert.ensures.unchanged c.in_ok-reserve.ensures.items) })

pub returns : goal.returns
returns c =
    let label = bytes_seen c.args.label in
    let h = c.in_ok-assert.ensures.ok in
    let pushed : c.push.new.self.items ≡ c.reserve.new.self.items ++ c.in_ok-name.name ∷ [] = rw c.unwrap.ensures at c.push.ensures.items in
    let labels =
    pushed
    ∙ ap (λ (ls : List (Option (List ℕ))). ls ++ c.in_ok-name.name ∷ []) c.in_ok-reserve.ensures.items
    ∙ ap (λ (name : Option (List ℕ)). c.args.state.now.labels.items ++ name ∷ []) c.in_ok-name.ensures.name
    in
    record {
      done = λ number.
          asserts c.args.state.now number (assert (expression_of c.args.term.now) label) c.in_ok-assert.ensures.accepted c.in_ok-answer.answer (declaring c.args.state.now.stack h.0) c.assert.new.self label h.1 c.push.new.self h.3 labels
          (h.0, h.1, h.2, refl) c.in_ok-answer.ensures.answer;
    }
