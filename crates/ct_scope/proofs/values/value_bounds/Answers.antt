use Rattle.std.proofs.Common.{◌≡◌, ◌-◌, List, [], length, take, drop, get_or, Contains, Ok, refl, sym, subst, arith}
use Rattle.std.proofs.lemmas.Result.{err_from_is_err_and}
use Rattle.ct_lemmas.proofs.Prefixes.{nothing_left, rest-step}
use Rattle.ct_lemmas.proofs.Contained.{Contains-first, Contains-rest}
use Rattle.ct_sorts.specs.declared.ids.SortId.{SortId}
use Rattle.ct_terms.specs.declared.error.TermError.TheVariants.{NoMemory}
use Rattle.ct_scope.specs.declared.bound.Bound.{Bound}
use Rattle.ct_scope.specs.Values.{BindsValues}
use Rattle.ct_scope.proofs.ValueLemmas.{BoundsRest, bounds_start, bounds_some, bounds_split, bounds_stopped, bounds_entry, bounds_more, bounds_lost, bounds_end}
use Rattle.ct_scope.proofs.values.value_bounds.Goals as goal

pub loop-rest-init : goal.loop-rest-init
loop-rest-init c =
    let d = c.args.sig.now in
    record {
      rest = subst (BoundsRest d c.args.sorts.now c.args.numbers.now c.args.flags.now c.args.table.now c.args.table.now c.args.sorts.now c.args.numbers.now c.args.flags.now) (sym c.in_ok-bounds.ensures.items) (bounds_start d c.args.sorts.now c.args.numbers.now c.args.flags.now c.args.table.now c.requires.long);
      kept = c.requires.kept;
      right = c.requires.right;
      sorts = c.requires.sorts;
    }

pub returns-in_err-bounds-clause-outcome : goal.returns-in_err-bounds-clause-outcome
returns-in_err-bounds-clause-outcome c =
    let d = c.args.sig.now in
    let p = err_from_is_err_and c.from_residual.result c.from_residual.ensures.1 in
    rw (p.1, p.2) (bounds_lost d c.args.sorts.now c.args.numbers.now c.args.flags.now c.args.table.now c.args.table.now c.args.sorts.now c.args.numbers.now c.args.flags.now [] (bounds_start d c.args.sorts.now c.args.numbers.now c.args.flags.now c.args.table.now c.requires.long) c.requires.kept NoMemory refl)

pub first_flag-occurs-requires : goal.first_flag-occurs-requires
first_flag-occurs-requires c =
    let d = c.args.sig.now in
    let sorts = c.args.sorts.now in
    let numbers = c.args.numbers.now in
    let flags = c.args.flags.now in
    let old = c.args.table.now in
    let loop = c.loop-rest in
    let more = take (length loop.rest.now - 1) (drop 1 loop.rest.now) in
    let s = get_or loop.rest.now 0 (record { 0 = 0 }) in
    let is = rest-step loop.rest.now (record { 0 = 0 }) c.in-len1-up.len_at_least in
    let some = bounds_some d sorts numbers flags old loop.table loop.rest.now loop.others.now loop.left.now loop.bounds.items s more is c.requires.chosen loop.invariant.rest in
    record { some = some.1 }

pub later_flags-left-requires : goal.later_flags-left-requires
later_flags-left-requires c =
    let d = c.args.sig.now in
    let sorts = c.args.sorts.now in
    let numbers = c.args.numbers.now in
    let flags = c.args.flags.now in
    let old = c.args.table.now in
    let loop = c.loop-rest in
    let more = take (length loop.rest.now - 1) (drop 1 loop.rest.now) in
    let s = get_or loop.rest.now 0 (record { 0 = 0 }) in
    let is = rest-step loop.rest.now (record { 0 = 0 }) c.in-len1-up.len_at_least in
    let some = bounds_some d sorts numbers flags old loop.table loop.rest.now loop.others.now loop.left.now loop.bounds.items s more is c.requires.chosen loop.invariant.rest in
    record { some = some.1 }

pub first_number-k-requires : goal.first_number-k-requires
first_number-k-requires c =
    let d = c.args.sig.now in
    let sorts = c.args.sorts.now in
    let numbers = c.args.numbers.now in
    let flags = c.args.flags.now in
    let old = c.args.table.now in
    let loop = c.loop-rest in
    let more = take (length loop.rest.now - 1) (drop 1 loop.rest.now) in
    let s = get_or loop.rest.now 0 (record { 0 = 0 }) in
    let is = rest-step loop.rest.now (record { 0 = 0 }) c.in-len1-up.len_at_least in
    let some = bounds_some d sorts numbers flags old loop.table loop.rest.now loop.others.now loop.left.now loop.bounds.items s more is c.requires.chosen loop.invariant.rest in
    record { some = some.0 }

pub later_numbers-others-requires : goal.later_numbers-others-requires
later_numbers-others-requires c =
    let d = c.args.sig.now in
    let sorts = c.args.sorts.now in
    let numbers = c.args.numbers.now in
    let flags = c.args.flags.now in
    let old = c.args.table.now in
    let loop = c.loop-rest in
    let more = take (length loop.rest.now - 1) (drop 1 loop.rest.now) in
    let s = get_or loop.rest.now 0 (record { 0 = 0 }) in
    let is = rest-step loop.rest.now (record { 0 = 0 }) c.in-len1-up.len_at_least in
    let some = bounds_some d sorts numbers flags old loop.table loop.rest.now loop.others.now loop.left.now loop.bounds.items s more is c.requires.chosen loop.invariant.rest in
    record { some = some.0 }

pub value_bound-requires : goal.value_bound-requires
value_bound-requires c =
    let d = c.args.sig.now in
    let sorts = c.args.sorts.now in
    let numbers = c.args.numbers.now in
    let flags = c.args.flags.now in
    let old = c.args.table.now in
    let loop = c.loop-rest in
    let more = take (length loop.rest.now - 1) (drop 1 loop.rest.now) in
    let s = get_or loop.rest.now 0 (record { 0 = 0 }) in
    let is = rest-step loop.rest.now (record { 0 = 0 }) c.in-len1-up.len_at_least in
    let k = c.first_number-k.result in
    let occurs = c.first_flag-occurs.result in
    let left = c.later_numbers-others.result.now in
    let left_flags = c.later_flags-left.result.now in
    let split = bounds_split d sorts numbers flags old loop.table loop.rest.now loop.others.now loop.left.now loop.bounds.items s more is c.requires.chosen loop.invariant.rest k left occurs left_flags c.first_number-k.ensures.value c.later_numbers-others.ensures.value c.first_flag-occurs.ensures.value c.later_flags-left.ensures.value in
    let here = loop.invariant.sorts s (subst (λ (l : List SortId). Contains l s) (sym is) (Contains-first s more)) in
    record { counts = c.requires.counts; kept = loop.invariant.kept; listable = here.0; few = here.1; there = split.1; right = loop.invariant.right }

pub returns-in_err-bound-clause-outcome : goal.returns-in_err-bound-clause-outcome
returns-in_err-bound-clause-outcome c =
    let d = c.args.sig.now in
    let sorts = c.args.sorts.now in
    let numbers = c.args.numbers.now in
    let flags = c.args.flags.now in
    let old = c.args.table.now in
    let loop = c.loop-rest in
    let more = take (length loop.rest.now - 1) (drop 1 loop.rest.now) in
    let s = get_or loop.rest.now 0 (record { 0 = 0 }) in
    let is = rest-step loop.rest.now (record { 0 = 0 }) c.in-len1-up.len_at_least in
    let k = c.first_number-k.result in
    let occurs = c.first_flag-occurs.result in
    let left = c.later_numbers-others.result.now in
    let left_flags = c.later_flags-left.result.now in
    let split = bounds_split d sorts numbers flags old loop.table loop.rest.now loop.others.now loop.left.now loop.bounds.items s more is c.requires.chosen loop.invariant.rest k left occurs left_flags c.first_number-k.ensures.value c.later_numbers-others.ensures.value c.first_flag-occurs.ensures.value c.later_flags-left.ensures.value in
    let p = err_from_is_err_and c.from_residual-in_err-bound.result c.from_residual-in_err-bound.ensures.1 in
    rw (p.1, p.2) (bounds_stopped d sorts numbers flags old loop.table s more k left occurs left_flags loop.bounds.items split.0 c.value_bound.new.table _ c.in_err-bound.ensures.outcome)

pub returns-in_err-push-clause-outcome : goal.returns-in_err-push-clause-outcome
returns-in_err-push-clause-outcome c =
    let d = c.args.sig.now in
    let sorts = c.args.sorts.now in
    let numbers = c.args.numbers.now in
    let flags = c.args.flags.now in
    let old = c.args.table.now in
    let loop = c.loop-rest in
    let more = take (length loop.rest.now - 1) (drop 1 loop.rest.now) in
    let s = get_or loop.rest.now 0 (record { 0 = 0 }) in
    let is = rest-step loop.rest.now (record { 0 = 0 }) c.in-len1-up.len_at_least in
    let k = c.first_number-k.result in
    let occurs = c.first_flag-occurs.result in
    let left = c.later_numbers-others.result.now in
    let left_flags = c.later_flags-left.result.now in
    let split = bounds_split d sorts numbers flags old loop.table loop.rest.now loop.others.now loop.left.now loop.bounds.items s more is c.requires.chosen loop.invariant.rest k left occurs left_flags c.first_number-k.ensures.value c.later_numbers-others.ensures.value c.first_flag-occurs.ensures.value c.later_flags-left.ensures.value in
    let entry = bounds_entry d sorts numbers flags old loop.table s more k left occurs left_flags loop.bounds.items split.0 c.requires.chosen in
    let grown = bounds_more d sorts numbers flags old loop.table s more k left occurs left_flags loop.bounds.items split.0 c.value_bound.new.table c.in_ok-bound.bound c.in_ok-bound.ensures.outcome in
    let kept = (c.in_ok-bound.ensures.outcome entry.0 entry.1).grown.1 in
    let p = err_from_is_err_and c.from_residual-in_err-push.result c.from_residual-in_err-push.ensures.1 in
    rw (p.1, p.2) (bounds_lost d sorts numbers flags old c.value_bound.new.table more left left_flags _ grown kept NoMemory refl)

pub loop-rest-preserved : goal.loop-rest-preserved
loop-rest-preserved c =
    let d = c.args.sig.now in
    let sorts = c.args.sorts.now in
    let numbers = c.args.numbers.now in
    let flags = c.args.flags.now in
    let old = c.args.table.now in
    let loop = c.loop-rest in
    let more = take (length loop.rest.now - 1) (drop 1 loop.rest.now) in
    let s = get_or loop.rest.now 0 (record { 0 = 0 }) in
    let is = rest-step loop.rest.now (record { 0 = 0 }) c.in-len1-up.len_at_least in
    let k = c.first_number-k.result in
    let occurs = c.first_flag-occurs.result in
    let left = c.later_numbers-others.result.now in
    let left_flags = c.later_flags-left.result.now in
    let split = bounds_split d sorts numbers flags old loop.table loop.rest.now loop.others.now loop.left.now loop.bounds.items s more is c.requires.chosen loop.invariant.rest k left occurs left_flags c.first_number-k.ensures.value c.later_numbers-others.ensures.value c.first_flag-occurs.ensures.value c.later_flags-left.ensures.value in
    let entry = bounds_entry d sorts numbers flags old loop.table s more k left occurs left_flags loop.bounds.items split.0 c.requires.chosen in
    let grown = bounds_more d sorts numbers flags old loop.table s more k left occurs left_flags loop.bounds.items split.0 c.value_bound.new.table c.in_ok-bound.bound c.in_ok-bound.ensures.outcome in
    let kept = (c.in_ok-bound.ensures.outcome entry.0 entry.1).grown.1 in
    record {
      rest = rw c.in_ok-push.ensures.items grown;
      kept = kept;
      right = c.in_ok-bound.ensures.right;
      sorts = λ f inside. loop.invariant.sorts f (subst (λ (l : List SortId). Contains l f) (sym is) (Contains-rest s more f inside));
    }

pub returns-clause-outcome : goal.returns-clause-outcome
returns-clause-outcome c = λ vs entries.
    let d = c.args.sig.now in
    let loop = c.loop-rest in
    let none : loop.rest.now ≡ [] = nothing_left loop.rest.now (omega (arith, c.in_default.len_below)) in
    subst (λ (xs : List Bound). BindsValues d c.args.table.now loop.table c.args.flags.now vs (Ok xs)) (sym c.new.ensures.value)
    (bounds_end d c.args.sorts.now c.args.numbers.now c.args.flags.now c.args.table.now loop.table loop.others.now loop.left.now loop.bounds.items loop.invariant.kept (subst (λ (l : List SortId). BoundsRest d c.args.sorts.now c.args.numbers.now c.args.flags.now c.args.table.now loop.table l loop.others.now loop.left.now loop.bounds.items) none loop.invariant.rest) vs entries)
