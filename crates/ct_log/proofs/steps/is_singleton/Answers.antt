use Rattle.std.proofs.Common.{◌≡◌, sym, subst, ◌∙◌}
use Rattle.ct_card.specs.declared.size.Size.TheVariants.{One, Infinite}
use Rattle.ct_terms.specs.Terms.{IsOfSort}
use Rattle.ct_log.proofs.StepLemmas.{same_sort, IsSingleton-sort}
use Rattle.ct_log.proofs.steps.is_singleton.Goals as goal

pub returns-in-One : goal.returns-in-One
returns-in-One c =
    let same = same_sort c.sort.result c.sort-sort.result (sym c.ne.ensures ∙ c.if-ne.false) in
    record {
      singleton = (
        λ e. record {
          sort = c.sort-sort.result;
          left = c.sort-sort.ensures.value;
          right = subst (IsOfSort c.args.table.now c.args.u) same c.sort.ensures.value;
          single = rw c.in-One.is at (c.size_of.ensures.exact c.args.sig.now c.requires.sizes);
        },
        λ h. cc,
      );
    }

pub returns-in-Finite : goal.returns-in-Finite
returns-in-Finite c = record {
  singleton = (
    λ e. cc,
    λ h. absurd ((rw c.in-Finite.is at (c.size_of.ensures.exact c.args.sig.now c.requires.sizes)).0 (IsSingleton-sort c.args.sig.now c.args.table.now c.args.t c.args.u c.sort-sort.result c.sort-sort.ensures.value h)),
  );
}

pub returns-in-Infinite : goal.returns-in-Infinite
returns-in-Infinite c = record {
  singleton = (
    λ e. cc,
    λ h.
        let single = IsSingleton-sort c.args.sig.now c.args.table.now c.args.t c.args.u c.sort-sort.result c.sort-sort.ensures.value h in
        let same : One ≡ Infinite = c.unique_sizes.ensures.one c.args.sig.now c.sort-sort.result.0 One Infinite single (rw c.in-Infinite.is at (c.size_of.ensures.exact c.args.sig.now c.requires.sizes)) in
        cc,
  );
}
