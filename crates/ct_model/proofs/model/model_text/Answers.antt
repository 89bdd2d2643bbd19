use Rattle.ct_model.proofs.ModelLemmas.{model-parts}
use Rattle.ct_model.proofs.model.model_text.Goals as goal

pub returns : goal.returns
returns c =
    let tables = c.in_ok-write_functions.ensures.ok in
    let offs = c.in_ok-write_selectors.ensures.ok in
    record {
      text = record {
        tables = tables.0;
        tables_are = tables.1;
        offs = offs.0;
        offs_are = offs.1;
        text_is = model-parts tables.0 offs.0 c.new-out.result.items c.extend_from_slice.new.self.items c.write_functions.new.out.items c.write_selectors.new.out.items c.push.new.self.items
            c.new-out.ensures.items c.in_ok-extend_from_slice.ensures.items tables.2 offs.2 c.in_ok-push.ensures.items;
      };
    }
