use Rattle.std.proofs.Common.{sym, ◌∙◌, ap, true≢false}
use Rattle.std.specs.Option.{is_some}
use Rattle.ct_congr.proofs.ConstructorLemmas.{IsShape-first, IsShape-kept, IsShape-other}
use Rattle.ct_congr.proofs.constructors.with_term.Goals as goal
use Rattle.ct_congr.proofs.constructors.with_term.Goals.{then-is_some-via-then-is_some, then-is_some-via-else-is_some+then-is_built_by}

pub returns-in_default : goal.returns-in_default
returns-in_default c = record { value = λ reps r old built. IsShape-first c.args.table.now reps r c.args.c c.args.t built c.args.shape c.in_default.is old }

pub returns-then-is_some : goal.returns-then-is_some
returns-then-is_some c = record {
  value = λ reps r old built. IsShape-kept c.args.table.now reps r c.args.c c.args.t built c.args.shape c.in-Some.first c.in-Some.is
      (λ none. elim c.then-is_some.branch [
        | then-is_some-via-then-is_some w ↦ absurd (true≢false (sym w.if-is_some.true ∙ c.is_some.ensures ∙ ap is_some none))
        | then-is_some-via-else-is_some+then-is_built_by w ↦ rw w.if-is_built_by.true at w.is_built_by.ensures.value
      ]) old;
}

pub returns : goal.returns
returns c = record {
  value = λ reps r old built. IsShape-other c.args.table.now reps r c.args.c c.args.t built c.args.shape c.in-Some.first c.in-Some.is (rw c.if-is_built_by.false at c.is_built_by.ensures.value) old;
}
