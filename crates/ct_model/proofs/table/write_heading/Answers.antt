use Rattle.ct_model.proofs.TableLemmas.{heading-parts}
use Rattle.ct_model.proofs.table.write_heading.Goals as goal

pub returns : goal.returns
returns c = record {
  ok = heading-parts c.args.sig.now c.args.name.now c.args.sorts.now c.args.sort c.args.out.now.items c.write_name.new.out.items c.push.new.self.items c.write_parameters.new.out.items c.push-2.new.self.items c.write_sort.new.out.items c.push-3.new.self.items
      c.in_ok-write_name.ensures.ok c.in_ok-push.ensures.items c.in_ok-write_parameters.ensures.ok c.in_ok-push-2.ensures.items c.in_ok-write_sort.ensures.ok c.in_ok-push-3.ensures.items;
}
