use Rattle.std.proofs.Common.{List, Contains, sym, subst}
use Rattle.ct_sorts.specs.declared.ids.DefId.{DefId}
use Rattle.ct_formulas.specs.TreeFormula.{formula_of}
use Rattle.ct_occurrence.specs.Calls.{AreBelow}
use Rattle.ct_occurrence.specs.Marks.{worked_in, IsKnown}
use Rattle.ct_occurrence.proofs.NameLemmas.{calls_more, mentions_calls}
use Rattle.ct_occurrence.proofs.WorkingLemmas.{names_below}
use Rattle.ct_occurrence.proofs.needed.work_out_named.Goals as goal

pub work_out_all-requires-clause-below : goal.work_out_all-requires-clause-below
work_out_all-requires-clause-below c =
    let calls = mentions_calls c.args.below (formula_of c.args.tree.now) c.requires.mentions in
    let below = names_below c.args.below (formula_of c.args.tree.now) c.new-names.result.items c.add_names.new.names.items c.new-names.ensures.items c.in_ok-add_names.ensures.named calls in
    subst (AreBelow c.args.below) (sym c.as_slice.ensures.value) below

pub returns-clause-known : goal.returns-clause-known
returns-clause-known c =
    let known = subst (λ (ks : List DefId). (k : DefId) → Contains ks k → IsKnown (worked_in c.work_out_all.new.definitions) k) c.as_slice.ensures.value c.in_ok-work_out_all.ensures.known in
    calls_more (Contains c.add_names.new.names.items) (IsKnown (worked_in c.work_out_all.new.definitions)) known (formula_of c.args.tree.now) c.in_ok-add_names.ensures.named.named
