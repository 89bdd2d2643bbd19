use Rattle.std.proofs.Common.{Err, map, ap}
use Rattle.ct_sexpr.specs.View.{expression_of}
use Rattle.ct_formulas.specs.TreeFormula.{formula_of}
use Rattle.ct_log.specs.declared.error.LogError.{LogError}
use Rattle.ct_stack.specs.Held.{context_in}
use Rattle.ct_audit.proofs.TextLemmas.{read_judged}
use Rattle.ct_audit.proofs.judge.judge.Goals as goal

pub returns-in-Ok : goal.returns-in-Ok
returns-in-Ok c =
    record { judged = read_judged (context_in c.args.scope.now) (map formula_of c.args.asserts.now) (expression_of c.args.expr.now) c.in-Ok.rec c.judge_record.result c.in-Ok.ensures.read c.judge_record.ensures.judged }

pub returns-in-Err-Form : goal.returns-in-Err-Form
returns-in-Err-Form c =
    let item_is = c.in-Err-Form.item-is in
    let code_is = c.in-Err-Form.code-is in
    record { judged = (Err (c.in-Err-Form.item, c.in-Err-Form.code), c.in-Err-Form.ensures.refused _ _ (ap (λ (f : LogError). Err f) c.in-Err-Form.field-0-is), cc) }
