use Rattle.ct_model_audit.proofs.TextLemmas.{no_expression}
use Rattle.ct_model_audit.proofs.audit.audit_model.Goals as goal

pub returns-in-None : goal.returns-in-None
returns-in-None c =
    record { audited = no_expression c.one_text.ensures.some_text c.args.number c.args.model.now c.args.script.now.bytes c.in_ok-expr.expr c.departs.result c.requires.model_line c.in-None.is c.departs.ensures.value c.in_ok-expr.ensures.read }
