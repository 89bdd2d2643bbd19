use Rattle.std.proofs.Common.{◌≡◌, ℕ, ◌≤◌, List, length, take, slice_get, sym, ap, subst, ◌∙◌}
use Rattle.ct_eval.specs.declared.interp.Table.{Table}
use Rattle.ct_trial.proofs.FollowLemmas.{IsFitting, fitting}
use Rattle.ct_trial.proofs.GraphLemmas.{well_formed_after, table_after, selectors_after}
use Rattle.ct_trial.proofs.trial.fitted.Goals as goal

pub new-requires : goal.new-requires
new-requires c =
    let e = c.args.sig.now in
    let i = c.args.interp.now in
    let was = c.requires.proper in
    let had : IsFitting e i (take (length e.functions) i.funs) = fitting c.growth_theorems.ensures.growth c.structure.ensures.of_their_constructors was.0 e i was.1 was.2 c.in_ok-have_selectors.ensures.many in
    record { fits = had.graph.fits }

pub add_tables-requires-clause-few : goal.add_tables-requires-clause-few
add_tables-requires-clause-few c =
    let e = c.args.sig.now in
    let i = c.args.interp.now in
    let was = c.requires.proper in
    let had : IsFitting e i (take (length e.functions) i.funs) = fitting c.growth_theorems.ensures.growth c.structure.ensures.of_their_constructors was.0 e i was.1 was.2 c.in_ok-have_selectors.ensures.many in
    let tables : c.cut_tables.new.tables ≡ take (length e.functions) i.funs = c.cut_tables.ensures.cut ∙ ap (λ (n : ℕ). take n i.funs) c.funs.ensures.count in
    subst (λ (l : List Table). length l ≤ length e.functions) (sym tables) had.few

pub add_tables-requires-clause-fit : goal.add_tables-requires-clause-fit
add_tables-requires-clause-fit c = λ f function table at stands.
    let e = c.args.sig.now in
    let i = c.args.interp.now in
    let was = c.requires.proper in
    let had : IsFitting e i (take (length e.functions) i.funs) = fitting c.growth_theorems.ensures.growth c.structure.ensures.of_their_constructors was.0 e i was.1 was.2 c.in_ok-have_selectors.ensures.many in
    let tables : c.cut_tables.new.tables ≡ take (length e.functions) i.funs = c.cut_tables.ensures.cut ∙ ap (λ (n : ℕ). take n i.funs) c.funs.ensures.count in
    table_after e i.graph c.new.new.graph c.in_ok-supply.ensures.appended function.args function.result table (had.fit f function table at (sym (ap (λ (l : List Table). slice_get l f) tables) ∙ stands))

pub returns : goal.returns
returns c =
    let e = c.args.sig.now in
    let i = c.args.interp.now in
    let was = c.requires.proper in
    let growth = c.growth_theorems.ensures.growth in
    let had : IsFitting e i (take (length e.functions) i.funs) = fitting growth c.structure.ensures.of_their_constructors was.0 e i was.1 was.2 c.in_ok-have_selectors.ensures.many in
    let g = c.new.new.graph in
    let after = c.in_ok-supply.ensures.appended in
    record {
      proper = record {
        graph = well_formed_after e i.graph g after (growth.closed e i.graph had.graph.fits) had.graph c.in_ok-supply.ensures.fits;
        functions = c.in_ok-add_tables.ensures.functions;
        selectors = selectors_after e i.graph g after i.offs had.selectors;
      };
    }
