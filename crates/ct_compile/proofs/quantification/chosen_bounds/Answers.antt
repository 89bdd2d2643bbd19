use Rattle.std.proofs.Common.{◌≡◌, List, All, Err, Ok, Contains, slice_get, refl, sym, ◌∙◌, subst}
use Rattle.std.proofs.lemmas.List.Elements.{All-contains}
use Rattle.std.proofs.lemmas.Option.{same_Some}
use Rattle.std.proofs.lemmas.Result.{err_from_is_err_and}
use Rattle.ct_sorts.specs.declared.ids.SortId.{SortId}
use Rattle.ct_terms.specs.declared.error.TermError.TheVariants.{NoMemory}
use Rattle.ct_listing.specs.Closed.{ClosedValue}
use Rattle.ct_listing.specs.Listable.{IsListable}
use Rattle.ct_finite.specs.Choosing.{IsChoice}
use Rattle.ct_finite.specs.Entries.{AreEntries}
use Rattle.ct_scope.proofs.ValueLemmas.{nothing_bound}
use Rattle.ct_compile.proofs.OverLemmas.{flags_long}
use Rattle.ct_compile.proofs.quantification.chosen_bounds.Goals as goal

pub choice-requires : goal.choice-requires
choice-requires c =
    let d = c.args.level.now.scope.now.sig in
    record { may = (d, record { counts_are = c.requires.over.counts; listable = c.requires.over.sorts.listable; few = c.requires.over.sorts.few; there = c.requires.there }) }

pub returns-in_err-numbers-clause-outcome : goal.returns-in_err-numbers-clause-outcome
returns-in_err-numbers-clause-outcome c = λ vs at.
    let p = err_from_is_err_and c.from_residual.result c.from_residual.ensures.1 in
    rw (p.1, p.2) (nothing_bound c.args.level.now.scope.now.sig c.args.table.now c.args.over.now.flags.now vs NoMemory refl c.requires.kept)

pub value_bounds-requires : goal.value_bounds-requires
value_bounds-requires c =
    let d = c.args.level.now.scope.now.sig in
    let sorts = c.args.over.now.sorts.now in
    let is : IsChoice d c.args.over.now.finite.now sorts c.args.k = record { counts_are = c.requires.over.counts; listable = c.requires.over.sorts.listable; few = c.requires.over.sorts.few; there = c.requires.there } in
    let found = c.in_ok-numbers.ensures.choice d is in
    record {
      counts = c.requires.over.counts;
      kept = c.requires.kept;
      sorts = λ s inside. (All-contains (IsListable d) sorts s c.requires.over.sorts.listable inside, c.in_ok-numbers.ensures.few d is s inside);
      chosen = (found.0, rw c.as_slice.ensures.value found.2);
      long = flags_long _ sorts c.args.over.now.flags.now c.requires.over.flags;
      right = c.requires.right;
    }

pub returns-clause-outcome : goal.returns-clause-outcome
returns-clause-outcome c = λ vs at.
    let d = c.args.level.now.scope.now.sig in
    let sorts = c.args.over.now.sorts.now in
    let is : IsChoice d c.args.over.now.finite.now sorts c.args.k = record { counts_are = c.requires.over.counts; listable = c.requires.over.sorts.listable; few = c.requires.over.sorts.few; there = c.requires.there } in
    let found = c.in_ok-numbers.ensures.choice d is in
    let same : found.0 ≡ vs = same_Some found.0 vs (sym found.1 ∙ at) in
    c.value_bounds.ensures.outcome vs (subst (λ (us : List ClosedValue). AreEntries d sorts c.as_slice.result.now us) same (rw c.as_slice.ensures.value found.2))
