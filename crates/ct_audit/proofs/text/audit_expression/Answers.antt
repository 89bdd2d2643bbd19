use Rattle.ct_sexpr.specs.View.{expression_of}
use Rattle.ct_audit.proofs.TextLemmas.{no_number}
use Rattle.ct_audit.proofs.text.audit_expression.Goals as goal

pub returns-in-Err : goal.returns-in-Err
returns-in-Err c =
    record { judged = no_number c.one_text.ensures.some_text (expression_of c.args.expr.now) c.args.script.now.bytes c.departs.result c.in-Err.ensures.refused.1 c.departs.ensures.value }
