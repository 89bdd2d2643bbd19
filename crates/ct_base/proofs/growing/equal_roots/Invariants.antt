use Rattle.std.proofs.Common.{◌≡◌, ◌≤◌, ◌-◌, length, take}
use Rattle.ct_terms.specs.Terms.{Terms}
use Rattle.ct_closure.specs.ClosedTable.{terms_at}
use Rattle.ct_restriction.specs.Renumbered.{AreNumbersOf}
use Rattle.ct_base.proofs.growing.equal_roots.Given as goal

abbrev pub invariant-loop-count : goal.invariant-loop-count
invariant-loop-count l = record {
  within : l.count ≤ length l.roots;
  few : l.count ≤ length l.asserts;
  common : (table from : Terms) → AreNumbersOf from table l.numbers (length l.numbers) → terms_at table (take l.count l.roots) ≡ terms_at from (take l.count l.asserts);
}

abbrev pub decreases-loop-count : goal.decreases-loop-count
decreases-loop-count l = length l.roots - l.count
