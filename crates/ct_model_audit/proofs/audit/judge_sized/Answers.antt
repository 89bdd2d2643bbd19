use Rattle.std.proofs.Common.{◌≡◌, ap, subst, Ok, Err}
use Rattle.ct_sexpr.specs.View.{expression_of}
use Rattle.ct_sorts.specs.Declarations.{Declarations}
use Rattle.ct_stack.specs.Stack.{in_force}
use Rattle.ct_step.specs.State.{context_of}
use Rattle.ct_readback.specs.declared.error.BackError.{BackError}
use Rattle.ct_readback.specs.ModelReads.{ModelReads}
use Rattle.ct_model_audit.proofs.TextLemmas.{was_read}
use Rattle.ct_model_audit.proofs.audit.judge_sized.Goals as goal

pub returns-in-Ok : goal.returns-in-Ok
returns-in-Ok c =
    let state = c.args.session.now.state in
    let same : c.declared.result.now ≡ (context_of state).declarations = c.declared.ensures.value in
    let read = subst (λ (d : Declarations). ModelReads d c.args.sizes.now (expression_of c.args.expr.now) (Ok c.in-Ok.interp)) same c.in-Ok.ensures.read in
    record { judged = was_read (context_of state) (in_force state.stack) (expression_of c.args.expr.now) c.args.sizes.now c.requires.sizes c.in-Ok.interp read c.judge_interp.result c.judge_interp.ensures.judged }

pub returns-in-Err-Form : goal.returns-in-Err-Form
returns-in-Err-Form c =
    let item_is = c.in-Err-Form.item-is in
    let code_is = c.in-Err-Form.code-is in
    let same : c.declared.result.now ≡ (context_of c.args.session.now.state).declarations = c.declared.ensures.value in
    let refused = c.in-Err-Form.ensures.refused _ _ (ap (λ (f : BackError). Err f) c.in-Err-Form.field-0-is) in
    record {
      judged =
          record {
            sizes = c.args.sizes.now;
            sizes_are = c.requires.sizes;
            outcome = Err (c.in-Err-Form.item, c.in-Err-Form.code);
            read = subst (λ (d : Declarations). ModelReads d c.args.sizes.now (expression_of c.args.expr.now) (Err (c.in-Err-Form.item, c.in-Err-Form.code))) same refused;
            judged = cc;
          };
    }
