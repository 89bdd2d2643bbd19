use Rattle.std.proofs.Common.{Result, IfOk, subst}
use Rattle.ct_sorts.specs.declared.ids.SortId.{SortId}
use Rattle.ct_terms.specs.declared.ids.TermId.{TermId}
use Rattle.ct_terms.specs.declared.error.TermError.{TermError}
use Rattle.ct_terms.specs.Terms.{IsOfSort, StandsSorted, HasSort}
use Rattle.ct_closure.proofs.GrowthLemmas.{added_made}
use Rattle.ct_closure.proofs.add.add.Goals as goal

pub returns-then-len-gt-MOST_TERMS-clause-added : goal.returns-then-len-gt-MOST_TERMS-clause-added
returns-then-len-gt-MOST_TERMS-clause-added c =
    added_made c.args.sig.now c.args.table.now c.make-made.new.self c.args.core c.make-made.result c.make-made.ensures.made c.make-made.ensures.refused

pub returns-in-Ok-clause-added : goal.returns-in-Ok-clause-added
returns-in-Ok-clause-added c =
    added_made c.args.sig.now c.args.table.now c.make-made.new.self c.args.core c.make-made.result c.make-made.ensures.made c.make-made.ensures.refused

pub returns-in-Err-clause-added : goal.returns-in-Err-clause-added
returns-in-Err-clause-added c =
    added_made c.args.sig.now c.args.table.now c.make-made.new.self c.args.core c.make-made.result c.make-made.ensures.made c.make-made.ensures.refused

pub returns-in-Ok-clause-stands : goal.returns-in-Ok-clause-stands
returns-in-Ok-clause-stands c =
    let new = c.make-made.new.self in
    let at = subst (λ (r : Result TermId TermError). IfOk r (λ t. StandsSorted c.args.sig.now new c.args.core t.0)) c.in-Ok.is (c.make-made.ensures.stands c.requires.sound.sorted) in
    (at.0, at.2)

pub returns-in-Ok-clause-sort : goal.returns-in-Ok-clause-sort
returns-in-Ok-clause-sort c =
    let new = c.make-made.new.self in
    subst (λ (r : Result TermId TermError). IfOk r (λ t. (s : SortId) → HasSort c.args.sig.now c.args.table.now c.args.core s → IsOfSort new t s)) c.in-Ok.is (c.make-made.ensures.sort c.requires.sound.sorted)
