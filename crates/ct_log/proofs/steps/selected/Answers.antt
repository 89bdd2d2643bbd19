use Rattle.std.proofs.Common.{sym, ◌∙◌}
use Rattle.std.proofs.lemmas.Option.{none-some}
use Rattle.ct_log.specs.Equations.{equation}
use Rattle.ct_log.proofs.LookLemmas.{none_gives, same_id, other_id}
use Rattle.ct_log.proofs.StepLemmas.{Selected, selected-other, selected-none, selected-found}
use Rattle.ct_log.proofs.steps.selected.Goals as goal

pub returns-in-None : goal.returns-in-None
returns-in-None c = record {
  gives = λ x y. none_gives (Selected c.args.sig.now c.args.table.now c.args.given.now c.args.t c.args.i x y) (equation x y)
      (λ h. absurd (none-some (h.1.sel, h.1.argument) ((c.in-None.ensures.selection h.1.sel h.1.argument).0 h.1.stands)));
}

pub returns-then-ne : goal.returns-then-ne
returns-then-ne c =
    let has = (c.selection.ensures.selection c.in-Some.s c.in-Some.u).1 c.in-Some.is in
    let at = sym c.given_at.ensures.value ∙ c.in-Some-given_at.is in
    record {
      gives = λ x y. none_gives (Selected c.args.sig.now c.args.table.now c.args.given.now c.args.t c.args.i x y) (equation x y)
          (selected-other c.args.sig.now c.args.table.now c.args.given.now c.args.t c.args.i c.in-Some.s c.in-Some.u c.in-Some-given_at.e x y has at (other_id c.in-Some-given_at.e.left c.in-Some.u (sym c.ne.ensures ∙ c.if-ne.true)));
    }

pub returns-in-None-field : goal.returns-in-None-field
returns-in-None-field c =
    let has = (c.selection.ensures.selection c.in-Some.s c.in-Some.u).1 c.in-Some.is in
    let at = sym c.given_at.ensures.value ∙ c.in-Some-given_at.is in
    record {
      gives = λ x y. none_gives (Selected c.args.sig.now c.args.table.now c.args.given.now c.args.t c.args.i x y) (equation x y)
          (selected-none c.args.sig.now c.args.table.now c.args.given.now c.args.t c.args.i c.in-Some.s c.in-Some.u c.in-Some-given_at.e x y has at c.in-None-field.ensures.field);
    }

pub returns-in-Some-field : goal.returns-in-Some-field
returns-in-Some-field c =
    let has = (c.selection.ensures.selection c.in-Some.s c.in-Some.u).1 c.in-Some.is in
    let at = sym c.given_at.ensures.value ∙ c.in-Some-given_at.is in
    record {
      gives = selected-found c.args.sig.now c.args.table.now c.args.given.now c.args.t c.args.i c.in-Some.s c.in-Some.u c.in-Some-given_at.e c.in-Some-field.right has at (same_id c.in-Some-given_at.e.left c.in-Some.u (sym c.ne.ensures ∙ c.if-ne.false)) c.in-Some-field.ensures.field;
    }
