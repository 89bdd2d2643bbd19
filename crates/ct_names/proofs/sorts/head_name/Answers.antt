use Rattle.std.proofs.Common.{ℕ, List, map, None, Some, sym, ◌∙◌, ap, arith}
use Rattle.std.specs.Borrow.{Bor}
use Rattle.std.proofs.lemmas.Option.{none-some, same_Some}
use Rattle.ct_sexpr.specs.View.{expression_of}
use Rattle.ct_sorts.specs.Declarations.{start}
use Rattle.ct_names.specs.Sorts.{parameter_at}
use Rattle.ct_names.proofs.PlainLemmas.{name_at}
use Rattle.ct_names.proofs.RefusalLemmas.{refused_number}
use Rattle.ct_names.proofs.sorts.head_name.Goals as goal

pub returns-in_default-clause-refused : goal.returns-in_default-clause-refused
returns-in_default-clause-refused c = λ n e. (refused_number 28 n e, λ name is some at. none-some name (sym (name_at (expression_of c.args.head.now) None (c.in_default.ensures.name start)) ∙ is))

pub returns-then-args-eq0-clause-refused : goal.returns-then-args-eq0-clause-refused
returns-then-args-eq0-clause-refused c = λ n e. (refused_number 28 n e, λ name is some at. absurd (omega (arith, c.if-args-eq0.true, some)))

pub returns-in-Some-parameter_at-clause-refused : goal.returns-in-Some-parameter_at-clause-refused
returns-in-Some-parameter_at-clause-refused c = λ n e. (
  refused_number 28 n e,
  λ name is some at.
      let same = same_Some name c.in-Some.name.now (sym is ∙ name_at (expression_of c.args.head.now) (Some c.in-Some.name.now) (c.in-Some.ensures.name start)) in
      none-some c.in-Some-parameter_at.field-0 (sym at ∙ ap (parameter_at (map (λ (p : Bor (List ℕ)). p.now) c.args.params.now)) same ∙ sym c.parameter_at.ensures.value ∙ c.in-Some-parameter_at.is),
)

pub returns-in-None-clause-ok : goal.returns-in-None-clause-ok
returns-in-None-clause-ok c = (name_at (expression_of c.args.head.now) (Some c.in-Some.name.now) (c.in-Some.ensures.name start), omega (arith, c.if-args-eq0.false), sym c.parameter_at.ensures.value ∙ c.in-None.is)
