use Rattle.std.proofs.Common.{◌≡◌, ℕ, length, sym, ap, subst, arith}
use Rattle.ct_sorts.specs.Declarations.{Declarations}
use Rattle.ct_eval.specs.Interpretation.{HasSelectors}
use Rattle.ct_build.specs.OpenClasses.{AreOfAllSorts}
use Rattle.ct_build.specs.Tables.{AreSelectorRows}
use Rattle.ct_build.proofs.RowLemmas.{selector_rows_none}
use Rattle.ct_build.proofs.SeenLemmas.{seen_none}
use Rattle.ct_build.proofs.selectors.selector_tables.Goals as goal

pub loop-t-init : goal.loop-t-init
loop-t-init c =
    let e = c.signature.ensures.value in
    let tables = c.in_ok-tables.tables.items in
    record {
      many = subst (λ (d : Declarations). length tables ≡ length d.sels) e c.in_ok-tables.ensures.long;
      selectors = λ g all have. subst (λ (d : Declarations). HasSelectors d g tables) e (c.in_ok-tables.ensures.selectors g (subst (λ (d : Declarations). AreOfAllSorts d g c.args.defaults.now) (sym e) all));
      seen = seen_none c.new-seen.result tables c.new-seen.ensures.empty c.in_ok-tables.ensures.empty;
      rows = selector_rows_none c.args.classes.now c.args.nodes.now tables c.in_ok-tables.ensures.empty;
    }

pub loop-t-preserved : goal.loop-t-preserved
loop-t-preserved c =
    record {
      many = c.in_ok-add_selection.ensures.one_each;
      selectors = λ g all have. c.in_ok-add_selection.ensures.selectors g have (c.loop-t.invariant.selectors g all have);
      seen = c.in_ok-add_selection.ensures.seen;
      rows = c.in_ok-add_selection.ensures.rows c.loop-t.invariant.rows;
    }

pub returns-clause-rows : goal.returns-clause-rows
returns-clause-rows c =
    let state = c.args.classes.now in
    let count : c.loop-t.t ≡ length state.terms = omega (arith, c.len-t-end.ensures.count, ap length c.table.ensures.value, c.loop-t-test.false, c.loop-t.auto.t-end) in
    subst (λ (n : ℕ). AreSelectorRows state c.args.nodes.now n c.loop-t.tables.items) count c.loop-t.invariant.rows
