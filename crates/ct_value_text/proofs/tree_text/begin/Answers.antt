use Rattle.std.proofs.Common.{Some, ap, ◌∙◌, refl, reverse}
use Rattle.std.proofs.lemmas.List.Elements.{recursion_from_All}
use Rattle.std.proofs.lemmas.Result.{on_ok_weaker}
use Rattle.ct_values.proofs.FittingLemmas.{ctor_of_head, sort_of_head}
use Rattle.ct_value_text.proofs.WalkLemmas.{begun-element, begun-constructor, on_both}
use Rattle.ct_value_text.proofs.tree_text.begin.Goals as goal

pub begin_constructor-requires : goal.begin_constructor-requires
begin_constructor-requires c = record { declared = ctor_of_head c.args.sig.now c.args.g.now c.args.n.0 c.in-Con.c c.requires.fits (c.head.ensures.value ∙ ap Some c.in-Con.is) }

pub write_element-requires : goal.write_element-requires
write_element-requires c = record { declared = sort_of_head c.args.sig.now c.args.g.now c.args.n.0 c.in-Elem.s c.in-Elem.number c.requires.fits (c.head.ensures.value ∙ ap Some c.in-Elem.is) }

pub returns-in-Con : goal.returns-in-Con
returns-in-Con c =
    let d = c.args.sig.now in
    let g = c.args.g.now in
    let done = c.begin_constructor.ensures in
    record {
      begun = on_both c.begin_constructor.result
          (begun-constructor d g c.args.n c.in-Con.c c.children.result.now c.args.out.now.items c.begin_constructor.new.out.items (reverse c.args.stack.now.items) (reverse c.begin_constructor.new.stack.items) (c.head.ensures.value ∙ ap Some c.in-Con.is) c.children.ensures.value (recursion_from_All _ c.children.result.now c.children.ensures.below))
          done.text
          done.stack;
    }

pub returns-in-Elem : goal.returns-in-Elem
returns-in-Elem c =
    let d = c.args.sig.now in
    let items = reverse c.args.stack.now.items in
    record {
      begun = on_ok_weaker c.write_element.result (λ is. begun-element d c.args.g.now c.args.n c.in-Elem.s c.in-Elem.number c.args.out.now.items c.write_element.new.out.items items items (c.head.ensures.value ∙ ap Some c.in-Elem.is) is refl) c.write_element.ensures.ok;
    }
