use Rattle.std.proofs.Common.{List, Some, sym, subst, ◌≡◌, length, Bool, true}
use Rattle.ct_sexpr.specs.Expression.{Expression}
use Rattle.ct_sexpr.specs.View.{expression_of}
use Rattle.ct_eval.specs.declared.interp.Row.{Row}
use Rattle.ct_readback.specs.declared.item.Part.{Part}
use Rattle.ct_readback.specs.ItemAt.{values_in_row, IsRowAt}
use Rattle.ct_readback.specs.Said.{IsPart, IsRowOf}
use Rattle.ct_readback.specs.BodySoFar.{IsBodySoFar}
use Rattle.ct_readback.proofs.BodySteps.{body_stop, body_cycle, body_more}
use Rattle.ct_readback.proofs.GrowthLemmas.{body_begins}
use Rattle.ct_readback.proofs.item.add_row.Goals as goal

pub returns-in-Misfit-clause-read : goal.returns-in-Misfit-clause-read
returns-in-Misfit-clause-read c = λ body left rest so_far written.
    let d = c.args.sig.now in
    let sorts = c.args.sorts.now in
    let g = c.read_row.new.graph in
    let test = expression_of c.args.test.now in
    let value = expression_of c.args.value.now in
    body_stop d sorts c.args.s body c.args.graph.now g g left test value rest c.args.found.now.cyclic c.args.found.now.rows.items so_far written
    (subst (λ (x : Part Row). IsPart d (IsRowAt d sorts c.args.s test value) values_in_row (IsRowOf d g sorts c.args.s) x) c.in-Misfit.is c.in_ok-read_row.ensures.row)

pub returns-in-Cycle-clause-read : goal.returns-in-Cycle-clause-read
returns-in-Cycle-clause-read c = λ body left rest so_far written.
    let d = c.args.sig.now in
    let sorts = c.args.sorts.now in
    let g = c.read_row.new.graph in
    let test = expression_of c.args.test.now in
    let value = expression_of c.args.value.now in
    body_cycle d sorts c.args.s body c.args.graph.now g g left test value rest c.args.found.now.cyclic c.args.found.now.rows.items so_far written
    (subst (λ (x : Part Row). IsPart d (IsRowAt d sorts c.args.s test value) values_in_row (IsRowOf d g sorts c.args.s) x) c.in-Cycle.is c.in_ok-read_row.ensures.row)

pub returns-in_ok-push-in-Fine-clause-read : goal.returns-in_ok-push-in-Fine-clause-read
returns-in_ok-push-in-Fine-clause-read c = λ body left rest so_far written.
    let d = c.args.sig.now in
    let sorts = c.args.sorts.now in
    let g = c.read_row.new.graph in
    let test = expression_of c.args.test.now in
    let value = expression_of c.args.value.now in
    let cyclic = c.args.found.now.cyclic in
    let rows = c.args.found.now.rows.items in
    subst (λ (rs : List Row). IsBodySoFar d sorts c.args.s body g rest cyclic rs) (sym c.in_ok-push-in-Fine.ensures.items)
    (body_more d sorts c.args.s body g left test value rest cyclic rows c.in-Fine.row
    (body_begins d c.args.graph.now g c.requires.well_formed c.in_ok-read_row.ensures.grown sorts c.args.s body left cyclic rows so_far) written
    (subst (λ (x : Part Row). IsPart d (IsRowAt d sorts c.args.s test value) values_in_row (IsRowOf d g sorts c.args.s) x) c.in-Fine.is c.in_ok-read_row.ensures.row))
