use Rattle.std.proofs.Common.{◌≡◌, ℕ, length, subst, arith}
use Rattle.ct_build.specs.Tables.{AreFunctionRows}
use Rattle.ct_build.proofs.RowLemmas.{function_rows_none}
use Rattle.ct_build.proofs.SeenLemmas.{seen_none}
use Rattle.ct_build.proofs.functions.function_tables.Goals as goal

pub loop-t-init : goal.loop-t-init
loop-t-init c = record {
  many = c.in_ok-tables.ensures.long;
  functions = λ g all have. c.in_ok-tables.ensures.functions g all;
  seen = seen_none c.new-seen.result c.in_ok-tables.tables.items c.new-seen.ensures.empty c.in_ok-tables.ensures.empty;
  rows = function_rows_none c.args.table.now c.args.nodes.now c.in_ok-tables.tables.items c.in_ok-tables.ensures.empty;
}

pub loop-t-preserved : goal.loop-t-preserved
loop-t-preserved c =
    record {
      many = c.in_ok-add_application.ensures.one_each;
      functions = λ g all have. c.in_ok-add_application.ensures.functions g have (c.loop-t.invariant.functions g all have);
      seen = c.in_ok-add_application.ensures.seen;
      rows = c.in_ok-add_application.ensures.rows c.loop-t.invariant.rows;
    }

pub returns-clause-rows : goal.returns-clause-rows
returns-clause-rows c =
    let count : c.loop-t.t ≡ length c.args.table.now = omega (arith, c.len-t-end.ensures.count, c.loop-t-test.false) in
    subst (λ (n : ℕ). AreFunctionRows c.args.table.now c.args.nodes.now n c.loop-t.tables.items) count c.loop-t.invariant.rows
