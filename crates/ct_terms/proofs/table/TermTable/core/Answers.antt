use Rattle.std.proofs.Common.{length, sym, arith}
use Rattle.ct_terms.specs.Terms.{Has, HasArgumentsBelow}
use Rattle.ct_terms.proofs.SortLemmas.{HasArgumentsBelow-more}
use Rattle.ct_terms.proofs.table.TermTable.core.Goals as goal
use Rattle.ct_terms.proofs.table.TermTable.core.Goals.{In-Some}

-- the term stands in the map
there : (c : In-Some) → Has c.self.inside.terms.entries c.in-Some.core.now c.args.t.0
there c =
    let at = rw c.in-Some.is at c.get_index.ensures.entry in
    (c.in-Some.field-0-1.now, sym at)

-- so the terms under it have smaller numbers
below : (c : In-Some) → HasArgumentsBelow c.args.t.0 c.in-Some.core.now
below c = c.self.invariant.0.ordered c.args.t.0 c.in-Some.core.now (there c)

pub returns-clause-value : goal.returns-clause-value
returns-clause-value c = rw (← c.self.view_is) (there (goal.at.returns-clause-value c).In-Some)

pub returns-clause-below : goal.returns-clause-below
returns-clause-below c = below (goal.at.returns-clause-below c).In-Some

pub returns-clause-inside : goal.returns-clause-inside
returns-clause-inside c =
    HasArgumentsBelow-more c.args.t.0 (length c.args.self.now) c.in-Some.core.now (omega (arith, c.requires.within)) (below (goal.at.returns-clause-inside c).In-Some)
