use Rattle.std.proofs.Common.{sym, subst, ap, ◌++◌, ◌∙◌}
use Rattle.ct_model.specs.TableText.{IsTableText}
use Rattle.ct_model.proofs.table.table_text.Goals as goal

pub returns : goal.returns
returns c =
    let written = c.in_ok-write_function.ensures.ok in
    record { text = subst (IsTableText c.args.sig.now c.args.interp.now c.args.f.0) (sym (written.2 ∙ ap (λ w. w ++ written.0) c.new-out.ensures.items)) written.1 }
