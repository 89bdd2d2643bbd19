use Rattle.std.proofs.Common.{List, [], ◌∷◌, ◌++◌, sym, ap, subst, ◌∙◌}
use Rattle.ct_formulas.specs.TreeFormula.{formula_of}
use Rattle.ct_occurrence.specs.declared.notes.Notes.{Notes}
use Rattle.ct_occurrence.specs.Marks.{worked_in}
use Rattle.ct_occurrence.specs.Noted.{IsOfFirst, IsNoted}
use Rattle.ct_occurrence.proofs.occurrence.occurring.Goals as goal

pub returns-clause-noted : goal.returns-clause-noted
returns-clause-noted c = λ uses n may.
    let noted = c.in_ok-flags.ensures.noted uses n may in
    subst (IsOfFirst (IsNoted c.args.sig.now (worked_in c.args.definitions.now) uses (formula_of c.args.tree.now))) (sym (noted.1 ∙ ap (λ (ms : List Notes). ms ++ noted.0 ∷ []) c.new-notes.ensures.items)) noted.2
