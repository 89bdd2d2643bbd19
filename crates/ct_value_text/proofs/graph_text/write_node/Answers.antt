use Rattle.std.proofs.Common.{Some, ◌++◌, ap, ◌∙◌}
use Rattle.std.proofs.lemmas.Result.{on_ok_weaker}
use Rattle.ct_sexpr.specs.Written.{written}
use Rattle.ct_values.proofs.FittingLemmas.{ctor_of_head, sort_of_head}
use Rattle.ct_value_text.proofs.TextLemmas.{constructor-at}
use Rattle.ct_value_text.proofs.graph_text.write_node.Goals as goal

pub write_constructor-requires : goal.write_constructor-requires
write_constructor-requires c = record { declared = ctor_of_head c.args.sig.now c.args.g.now c.args.n.0 c.in-Con.c c.requires.fits (c.head.ensures.value ∙ ap Some c.in-Con.is) }

pub write_element-requires : goal.write_element-requires
write_element-requires c = record { declared = sort_of_head c.args.sig.now c.args.g.now c.args.n.0 c.in-Elem.s c.in-Elem.number c.requires.fits (c.head.ensures.value ∙ ap Some c.in-Elem.is) }

pub returns-in-Con : goal.returns-in-Con
returns-in-Con c =
    let d = c.args.sig.now in
    record {
      ok = on_ok_weaker c.write_constructor.result (λ is node at. is ∙ ap (λ e. c.args.out.now.items ++ written e)
          (constructor-at d c.args.g.now c.args.n.0 c.in-Con.c c.children.result.now node (c.head.ensures.value ∙ ap Some c.in-Con.is) c.children.ensures.value at)) c.write_constructor.ensures.ok;
    }
