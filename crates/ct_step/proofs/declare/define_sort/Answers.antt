use Rattle.std.proofs.Common.{◌≡◌, List, ℕ, map, ap}
use Rattle.std.specs.Borrow.{Bor}
use Rattle.std.proofs.lemmas.Result.{err_from_is_err_and}
use Rattle.ct_sexpr.specs.View.{expression_of}
use Rattle.ct_command.specs.Command.{define_sort}
use Rattle.ct_stack.specs.Elaborations.{synonym_body, with_synonym_of}
use Rattle.ct_stack.specs.Stack.{declaring}
use Rattle.ct_step.specs.Done.{state_of}
use Rattle.ct_step.proofs.DoneLemmas.{Gives-map, not_done_as, done_as, changes, quietly, same_stack}
use Rattle.ct_step.proofs.declare.define_sort.Goals as goal

pub returns-in_err-define_sort : goal.returns-in_err-define_sort
returns-in_err-define_sort c =
    let body = expression_of c.args.body.now in
    let same = ap (λ (x : List (Bor (List ℕ))). define_sort c.args.name.now (map (λ p. p.now) x) body) c.as_slice.ensures.value in
    let p = err_from_is_err_and c.from_residual-in_err-define_sort.result c.from_residual-in_err-define_sort.ensures.1 in
    rw (p.1, p.2) (record { done = λ number. not_done_as c.args.state.now _ number (define_sort c.args.name.now (map (λ p. p.now) c.as_slice.result.now) body) (define_sort c.args.name.now (map (λ p. p.now) c.args.params.items) body) _ same c.in_err-define_sort.ensures.refused (same_stack c.args.state.now c.define_sort.new.self c.in_err-define_sort.ensures.unchanged) })

pub returns : goal.returns
returns c =
    let body = expression_of c.args.body.now in
    let same = ap (λ (x : List (Bor (List ℕ))). define_sort c.args.name.now (map (λ p. p.now) x) body) c.as_slice.ensures.value in
    let d = c.args.state.now.stack.top.context.declarations in
    let params = map (λ (p : Bor (List ℕ)). p.now) c.as_slice.result.now in
    record {
      done = λ number.
          done_as c.args.state.now _ number c.in_ok-answer.answer (define_sort c.args.name.now params body) (define_sort c.args.name.now (map (λ p. p.now) c.args.params.items) body) same
          (changes c.args.state.now number (define_sort c.args.name.now params body) c.in_ok-define_sort.ensures.accepted c.in_ok-answer.answer c.define_sort.new.self
          (Gives-map (synonym_body d params body) (λ e. c.define_sort.new.self ≡ declaring c.args.state.now.stack (with_synonym_of d c.args.name.now params e)) _ (λ sort e. quietly (state_of c.args.state.now) c.define_sort.new.self _ e) c.in_ok-define_sort.ensures.ok)
          c.in_ok-answer.ensures.answer);
    }
