use Rattle.ct_clauses.proofs.ExhaustLemmas.{case_has}
use Rattle.ct_clauses.proofs.exhausts.exhaustion.Goals as goal

pub tests-requires-clause-tested : goal.tests-requires-clause-tested
tests-requires-clause-tested c =
    let d = c.args.sig.now in
    let table = c.args.table.now in
    let split = c.requires.split in
    case_has d table c.args.t c.sort-2.result split.0 c.ctors.result.now split.1 c.sort-2.ensures.value c.ctors.ensures.value
    (c.closed_tables.ensures.splits d table c.args.t split.0 c.len.ensures.ordered c.len.ensures.single c.requires.sorted c.requires.closed split.1)
