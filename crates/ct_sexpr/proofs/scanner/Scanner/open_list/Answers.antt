use Rattle.std.proofs.Common.{◌≡◌, ◌<◌, ◌≤◌, ℕ, nat_lt, false, refl, arith}
use Rattle.std.proofs.lemmas.Bool.Decides.{nat_tests}
use Rattle.ct_sexpr.specs.Reading.{nesting_limit}
use Rattle.ct_sexpr.proofs.Stepped.{opens, refutes_deep}
use Rattle.ct_sexpr.proofs.scanner.Scanner.open_list.Goals as goal

is_full : (depth limit : ℕ) → limit ≤ depth → nat_lt depth limit ≡ false
is_full depth limit h = grind (arith, nat_tests)

pub returns-then-depth-ge-NESTING_LIMIT-clause-steps : goal.returns-then-depth-ge-NESTING_LIMIT-clause-steps
returns-then-depth-ge-NESTING_LIMIT-clause-steps c =
    refutes_deep c.args.self.now c.requires.mode (is_full c.args.self.now.lists.depth nesting_limit (omega arith))

pub returns-clause-steps : goal.returns-clause-steps
returns-clause-steps c =
    let room : c.args.self.now.lists.depth < nesting_limit = omega arith in
    opens c.args.self.now _ c.requires.mode room c.in_ok-open.ensures.ok refl refl refl c.lines_before-before.ensures.lines
