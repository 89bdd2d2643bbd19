use Rattle.std.proofs.Common.{Bool, false, List, length, option_map, refl, sym, ap, subst}
use Rattle.ct_sorts.proofs.PieceLemmas.{Begins-self, Begins-trans}
use Rattle.ct_sexpr.specs.View.{expression_of}
use Rattle.ct_eval.specs.declared.interp.Row.{Row}
use Rattle.ct_readback.specs.declared.value.Said.{Said}
use Rattle.ct_readback.specs.ValueAt.{IsValueAt}
use Rattle.ct_readback.specs.Rows.{first_row}
use Rattle.ct_readback.specs.Said.{IsSaid}
use Rattle.ct_readback.proofs.BodyLemmas.{body_rest_less}
use Rattle.ct_readback.specs.BodySoFar.{IsBodySoFar, IsReadOn}
use Rattle.ct_readback.proofs.BodySteps.{body_start, body_no_default, body_cyclic_default, body_cyclic, body_fine}
use Rattle.ct_readback.proofs.GrowthLemmas.{body_begins}
use Rattle.ct_readback.proofs.item.read_body.Goals as goal

pub loop-test-init : goal.loop-test-init
loop-test-init c =
    let d = c.args.sig.now in
    let g = c.args.graph.now in
    let body = expression_of c.args.body.now in
    (Begins-self g, c.requires.well_formed, subst (λ (rows : List Row). IsBodySoFar d c.args.args.now c.args.s body g body false rows) (sym c.new.ensures.items) (body_start d c.args.args.now c.args.s body g))

pub returns-then-not-branch-clause-table : goal.returns-then-not-branch-clause-table
returns-then-not-branch-clause-table c =
    let d = c.args.sig.now in
    let args = c.args.args.now in
    let s = c.args.s in
    let body = expression_of c.args.body.now in
    let loop = c.loop-test in
    let found = c.read_rows.new.found in
    subst (λ (b : Bool). IsReadOn d args s body c.read_rows.new.graph (expression_of c.in-Some.rest.now) found.cyclic found.rows.items b) c.if-not-branch.true
    (c.in_ok-read_rows.ensures.read body (expression_of loop.left.now) (expression_of c.in-Some.rest.now) loop.invariant.2 c.in-Some.ensures.value)

pub loop-test-smaller : goal.loop-test-smaller
loop-test-smaller c =
    body_rest_less (length c.args.args.now) (expression_of c.loop-test.left.now) (expression_of c.in-Some.test.now, expression_of c.in-Some.value.now, expression_of c.in-Some.rest.now) c.in-Some.ensures.value

pub loop-test-preserved : goal.loop-test-preserved
loop-test-preserved c =
    let d = c.args.sig.now in
    let args = c.args.args.now in
    let s = c.args.s in
    let g = c.read_rows.new.graph in
    let body = expression_of c.args.body.now in
    let loop = c.loop-test in
    let rest = expression_of c.in-Some.rest.now in
    let found = c.read_rows.new.found in (
      Begins-trans c.args.graph.now loop.graph g loop.invariant.0 c.in_ok-read_rows.ensures.grown,
      c.in_ok-read_rows.ensures.well_formed,
      subst (λ (b : Bool). IsReadOn d args s body g rest found.cyclic found.rows.items b) c.if-not-branch.false
          (c.in_ok-read_rows.ensures.read body (expression_of loop.left.now) rest loop.invariant.2 c.in-Some.ensures.value),
    )

pub returns-then-found-clause-table : goal.returns-then-found-clause-table
returns-then-found-clause-table c =
    let d = c.args.sig.now in
    let args = c.args.args.now in
    let s = c.args.s in
    let g = c.loop-test.graph in
    let h = c.push_value.new.graph in
    let body = expression_of c.args.body.now in
    let left = expression_of c.loop-test.left.now in
    body_cyclic d args s body g h h left c.loop-test.found.rows.items c.in-Value.default (subst (λ (b : Bool). IsBodySoFar d args s body g left b c.loop-test.found.rows.items) c.if-found.true c.loop-test.invariant.2) (ap (option_map first_row) c.in_default.ensures.value)
    (subst (λ (x : Said). IsSaid d h (IsValueAt d s left) s x) c.in-Value.is c.in_ok-push_value.ensures.said)

pub returns-in-Nothing-clause-table : goal.returns-in-Nothing-clause-table
returns-in-Nothing-clause-table c =
    let d = c.args.sig.now in
    let s = c.args.s in
    let h = c.push_value.new.graph in
    let left = expression_of c.loop-test.left.now in
    body_no_default d c.args.args.now s (expression_of c.args.body.now) c.loop-test.graph h h left c.loop-test.found.cyclic c.loop-test.found.rows.items c.loop-test.invariant.2 (ap (option_map first_row) c.in_default.ensures.value)
    (subst (λ (x : Said). IsSaid d h (IsValueAt d s left) s x) c.in-Nothing.is c.in_ok-push_value.ensures.said)

pub returns-in-Cycle-clause-table : goal.returns-in-Cycle-clause-table
returns-in-Cycle-clause-table c =
    let d = c.args.sig.now in
    let s = c.args.s in
    let h = c.push_value.new.graph in
    let left = expression_of c.loop-test.left.now in
    body_cyclic_default d c.args.args.now s (expression_of c.args.body.now) c.loop-test.graph h h left c.loop-test.found.cyclic c.loop-test.found.rows.items c.loop-test.invariant.2 (ap (option_map first_row) c.in_default.ensures.value)
    (subst (λ (x : Said). IsSaid d h (IsValueAt d s left) s x) c.in-Cycle.is c.in_ok-push_value.ensures.said)

pub returns-else-found-clause-table : goal.returns-else-found-clause-table
returns-else-found-clause-table c =
    let d = c.args.sig.now in
    let args = c.args.args.now in
    let s = c.args.s in
    let g = c.loop-test.graph in
    let h = c.push_value.new.graph in
    let body = expression_of c.args.body.now in
    let left = expression_of c.loop-test.left.now in
    let rows = c.loop-test.found.rows.items in
    let n = c.in-Value.default in
    body_fine d args s body h left rows n (record { rows = c.new-in-Value.result; default = n }) c.new-in-Value.ensures.value refl
    (body_begins d g h c.loop-test.invariant.1 c.in_ok-push_value.ensures.grown args s body left false rows (subst (λ (b : Bool). IsBodySoFar d args s body g left b rows) c.if-found.false c.loop-test.invariant.2))
    (ap (option_map first_row) c.in_default.ensures.value) (subst (λ (x : Said). IsSaid d h (IsValueAt d s left) s x) c.in-Value.is c.in_ok-push_value.ensures.said)
