use Rattle.std.proofs.Common.{List, ℕ, ◌++◌, ap, ◌∙◌}
use Rattle.ct_value_text.specs.ValueText.{sort_expression}
use Rattle.ct_value_text.proofs.SortTextLemmas.{written-qualified}
use Rattle.ct_value_text.proofs.text.write_qualified.Goals as goal

pub returns : goal.returns
returns c =
    let spaced = c.push.new.self.items in
    record {
      ok = written-qualified c.args.symbol.now (sort_expression c.args.sig.now c.args.s.0) c.args.out.now.items c.extend_from_slice.new.self.items c.write_name.new.out.items spaced c.extend_from_slice-2.new.self.items c.push-2.new.self.items
          c.in_ok-extend_from_slice.ensures.items c.in_ok-write_name.ensures.ok c.in_ok-push.ensures.items
          (c.in_ok-extend_from_slice-2.ensures.items ∙ ap (λ (w : List ℕ). spaced ++ w) c.sort_text.ensures.value)
          c.in_ok-push-2.ensures.items;
    }
