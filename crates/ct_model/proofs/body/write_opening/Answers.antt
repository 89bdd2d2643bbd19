use Rattle.std.proofs.Common.{List, refl, subst}
use Rattle.std.specs.List.{AllZip}
use Rattle.std.proofs.lemmas.Result.{on_ok_weaker}
use Rattle.ct_values.specs.declared.node.NodeId.{NodeId}
use Rattle.ct_value_text.specs.ValueText.{IsValueText}
use Rattle.ct_model.specs.TableText.{equations, conjunction}
use Rattle.ct_model.proofs.BodyLemmas.{opening-parts}
use Rattle.ct_model.proofs.body.write_opening.Goals as goal

pub returns : goal.returns
returns c =
    let test = c.in_ok-write_test.ensures.ok in
    let args = subst (λ (ns : List NodeId). AllZip (IsValueText c.args.sig.now c.args.graph.now) ns test.0) c.as_slice.ensures.value test.1 in
    record {
      ok = on_ok_weaker c.write_after.result
          (λ after. (
            record { args = test.0; result = after.0; joins = c.args.joins },
            record { args_are = args; result_is = after.1 },
            refl,
            opening-parts c.args.first c.args.joins (conjunction (equations 0 test.0)) after.0 c.args.out.now.items c.write_before.new.out.items c.write_test.new.out.items c.write_after.new.out.items
                c.in_ok-write_before.ensures.ok test.2 after.2,
          ))
          c.write_after.ensures.ok;
    }
