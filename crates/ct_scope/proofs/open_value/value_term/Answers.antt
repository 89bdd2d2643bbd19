use Rattle.std.proofs.Common.{List, Ok, refl, sym, subst, ◌∙◌}
use Rattle.std.proofs.lemmas.Result.{err_from_is_err_and}
use Rattle.ct_terms.specs.declared.error.TermError.TheVariants.{NoMemory}
use Rattle.ct_scope.specs.Values.{MakesValue}
use Rattle.ct_scope.specs.declared.open_value.OpenValue.{OpenValue}
use Rattle.ct_scope.specs.Awaiting.{AreUnderWay}
use Rattle.ct_scope.proofs.ValueLemmas.{of_value, value_known, value_nothing}
use Rattle.ct_scope.proofs.AwaitLemmas.{out_of_memory, under_way_first}
use Rattle.ct_scope.proofs.open_value.value_term.Goals as goal

pub returns-in-Some-clause-outcome : goal.returns-in-Some-clause-outcome
returns-in-Some-clause-outcome c =
    let d = c.args.sig.now in
    let table = c.args.table.now in
    let known = c.requires.right _ c.in-Some.term (sym c.known_value.ensures.value ∙ c.in-Some.is) in
    of_value d c.args.s c.args.k (λ v. MakesValue d table table v (Ok c.in-Some.term)) known.0 known.1 (value_known d table c.in-Some.term known.0 c.requires.kept known.2)

pub returns-in_err-top-clause-outcome : goal.returns-in_err-top-clause-outcome
returns-in_err-top-clause-outcome c = λ v at.
    let p = err_from_is_err_and c.from_residual.result c.from_residual.ensures.1 in
    rw (p.1, p.2) (value_nothing c.args.sig.now c.args.table.now v _ c.in_err-top.ensures.err c.requires.kept)

pub loop-init : goal.loop-init
loop-init c =
    let d = c.args.sig.now in
    let table = c.args.table.now in
    let opened = c.in_ok-top.ensures.opened table in
    record {
      under_way = subst (λ (os : List OpenValue). AreUnderWay d table (record { sort = c.args.s; number = c.args.k }) table os c.in_ok-top.top) (sym c.new-below.ensures.items) (under_way_first d table (record { sort = c.args.s; number = c.args.k }) c.in_ok-top.top opened.0 opened.1);
      kept = c.requires.kept;
      right = c.requires.right;
    }

pub go_on-requires-clause-under_way : goal.go_on-requires-clause-under_way
go_on-requires-clause-under_way c = (c.args.table.now, record { sort = c.args.s; number = c.args.k }, c.loop.invariant.under_way)

pub returns-in_err-next-clause-outcome : goal.returns-in_err-next-clause-outcome
returns-in_err-next-clause-outcome c = λ v at.
    let p = err_from_is_err_and c.from_residual-in_err-next.result c.from_residual-in_err-next.ensures.1 in
    rw (p.1, p.2) (c.in_err-next.ensures.step c.args.table.now (record { sort = c.args.s; number = c.args.k }) c.loop.invariant.under_way v at)

pub returns-in-Made-clause-outcome : goal.returns-in-Made-clause-outcome
returns-in-Made-clause-outcome c = λ v at.
    let step = c.in_ok-next.ensures.step c.args.table.now (record { sort = c.args.s; number = c.args.k }) c.loop.invariant.under_way in
    (rw c.in-Made.is at step) v at

pub loop-preserved : goal.loop-preserved
loop-preserved c =
    let step = c.in_ok-next.ensures.step c.args.table.now (record { sort = c.args.s; number = c.args.k }) c.loop.invariant.under_way in
    record {
      under_way = rw c.in-Open.is at step;
      kept = c.in_ok-next.ensures.kept;
      right = c.in_ok-next.ensures.right;
    }

pub returns-clause-outcome : goal.returns-clause-outcome
returns-clause-outcome c =
    let loop = c.loop in
    out_of_memory c.args.sig.now c.args.table.now (record { sort = c.args.s; number = c.args.k }) loop.table loop.below.items loop.top NoMemory refl loop.invariant.kept loop.invariant.under_way
