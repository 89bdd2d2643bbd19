use Rattle.std.proofs.lemmas.Result.{on_ok_weaker}
use Rattle.ct_value_text.proofs.SortTextLemmas.{written-determined, written-undetermined}
use Rattle.ct_value_text.proofs.text.write_ctor.Goals as goal

pub returns-then-has_determined_sort : goal.returns-then-has_determined_sort
returns-then-has_determined_sort c = record {
  ok = on_ok_weaker c.write_name.result (λ is. written-determined c.args.sig.now c.args.c c.ctor_name.result.now c.has_determined_sort.result c.args.out.now.items c.write_name.new.out.items c.has_determined_sort.ensures.value c.if-has_determined_sort.true c.ctor_name.ensures.value is) c.write_name.ensures.ok;
}

pub returns : goal.returns
returns c = record {
  ok = on_ok_weaker c.write_qualified.result (λ is. written-undetermined c.args.sig.now c.args.c c.ctor_name-2.result.now c.ctor_sort.result c.has_determined_sort.result c.args.out.now.items c.write_qualified.new.out.items c.has_determined_sort.ensures.value c.if-has_determined_sort.false c.ctor_name-2.ensures.value c.ctor_sort.ensures.value is) c.write_qualified.ensures.ok;
}
