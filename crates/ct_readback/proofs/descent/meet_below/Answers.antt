use Rattle.std.proofs.Common.{List, [], map, unwrap_or, Option, Some, sym, ap, subst, ◌∙◌, inr}
use Rattle.std.proofs.lemmas.Result.{IfOk-weaker}
use Rattle.std.proofs.lemmas.Bool.{OnTrue_at, OnTrue_from, OnFalse_at, OnFalse_from}
use Rattle.ct_sorts.specs.declared.ids.SortId.{SortId}
use Rattle.ct_sorts.specs.declared.ids.SelId.{SelId}
use Rattle.ct_values.specs.declared.node.NodeId.{NodeId}
use Rattle.ct_values.specs.declared.node.Node.TheVariants.{Con}
use Rattle.ct_names.specs.Symbols.{field_sort_id}
use Rattle.ct_readback.specs.Descent.{HaveSorts, AreOthers}
use Rattle.ct_readback.proofs.descent.meet_below.Goals as goal

pub returns-in-Some-Con-clause-met : goal.returns-in-Some-Con-clause-met
returns-in-Some-Con-clause-met c =
    let d = c.args.sig.now in
    let sorts = c.meet_children.new.descent.sorts.items in
    let said = sym c.in_ok-node.ensures.value ∙ c.in-Some-Con.is ∙ ap Some c.in-Some-Con.field-0-is in
    let fields = ap (λ (o : Option (List SelId)). map (field_sort_id d) (unwrap_or o [])) (sym c.ctor_sels.ensures.value) in
    IfOk-weaker c.meet_children.result _ _ (λ has met. OnTrue_from has _ (λ is. record {
      declared = c.requires.inside;
      node = Con c.in-Some-Con.c c.in-Some-Con.children;
      said = said;
      children =
          subst (λ (ss : List SortId). HaveSorts sorts c.in-Some-Con.children ss) fields
          (subst (λ (ns : List NodeId). HaveSorts sorts ns (map (field_sort_id d) c.ctor_sels.result.now)) c.as_slice.ensures.value (OnTrue_at is met));
    })) c.meet_children.ensures.met

pub returns-in-Some-Con-clause-stopped : goal.returns-in-Some-Con-clause-stopped
returns-in-Some-Con-clause-stopped c =
    let d = c.args.sig.now in
    let sorts = c.meet_children.new.descent.sorts.items in
    let said = sym c.in_ok-node.ensures.value ∙ c.in-Some-Con.is ∙ ap Some c.in-Some-Con.field-0-is in
    let fields = ap (λ (o : Option (List SelId)). map (field_sort_id d) (unwrap_or o [])) (sym c.ctor_sels.ensures.value) in
    IfOk-weaker c.meet_children.result _ _ (λ has others. OnFalse_from has _ (λ is.
    inr (
      Con c.in-Some-Con.c c.in-Some-Con.children,
      said,
      subst (λ (ss : List SortId). AreOthers sorts c.in-Some-Con.children ss) fields
          (subst (λ (ns : List NodeId). AreOthers sorts ns (map (field_sort_id d) c.ctor_sels.result.now)) c.as_slice.ensures.value (OnFalse_at is others)),
    )))
    c.meet_children.ensures.others
