use Rattle.std.proofs.Common.{sym, ◌∙◌}
use Rattle.std.proofs.lemmas.Bool.{true≢false}
use Rattle.ct_generics.proofs.RefusalLemmas.{not-refused}
use Rattle.ct_generics.proofs.refusal.refuse_findings.Goals as goal
use Rattle.ct_generics.proofs.refusal.refuse_findings.Goals.{else-is_data-via-then-is_data+else-found-3, else-is_data-via-else-is_data}

pub returns-clause-ok : goal.returns-clause-ok
returns-clause-ok c first n hs is =
    not-refused first c.args.kind hs c.args.found is n c.if-found.false c.if-found-2.false (elim c.else-is_data.branch [
      | else-is_data-via-then-is_data+else-found-3 w ↦ λ of unfounded. true≢false (sym unfounded ∙ w.if-found-3.false)
      | else-is_data-via-else-is_data w ↦ λ of unfounded. true≢false (sym (c.is_data.ensures.data_kind.1 of) ∙ w.if-is_data.false)
    ])
