use Rattle.std.proofs.Common.{arith}
use Rattle.std.proofs.lemmas.Result.{err_from_is_err_and}
use Rattle.ct_generics.specs.declared.decl.Field.{Field}
use Rattle.ct_generics.specs.declared.nodes.ExprId.{ExprId}
use Rattle.ct_generics.specs.Expression.{Expression}
use Rattle.ct_generics.specs.Nodes.{Stands}
use Rattle.ct_generics.specs.Resolved.{resolved}
use Rattle.ct_generics.proofs.NodeLemmas.{Stay-trans}
use Rattle.ct_generics.proofs.SubstitutionLemmas.{StandFor-stay}
use Rattle.ct_generics.specs.declared.error.GenericError.TheVariants.{Refused}
use Rattle.ct_generics.proofs.OutcomeLemmas.{err_cast}
use Rattle.ct_generics.proofs.ResolveLemmas.{each-all, each-more, each-refused}
use Rattle.ct_generics.proofs.block.resolve_fields.Goals as goal

pub returns-in_err-id-clause-refused : goal.returns-in_err-id-clause-refused
returns-in_err-id-clause-refused c =
    let p = err_from_is_err_and c.from_residual-in_err-id.result c.from_residual-in_err-id.ensures.1 in
    rw (p.1, p.2) (λ n d e is.
    let known = c.loop-field.invariant.known d is in
    each-refused (λ (f : Field). resolved d f.sort) c.args.fields.now c.loop-field.field-index c.field-item.result n c.loop-field-test.true c.field-item.is known.0 known.1 (c.in_err-id.ensures.refused n d (err_cast _ (Refused n) e) is))

pub loop-field-preserved : goal.loop-field-preserved
loop-field-preserved c =
    let begin = c.args.template.now in
    let old = c.loop-field.template in
    let new = c.resolve.new.table in
    let ids = c.loop-field.row.items in
    let id = c.in_ok-id.id in
    record {
      stay = Stay-trans begin old new c.loop-field.invariant.stay c.resolve.ensures.stay;
      known = λ d is.
          let known = c.loop-field.invariant.known d is in
          rw c.in_ok-push.ensures.items (each-more (λ (x : ExprId) (e : Expression). Stands new x.0 e) (λ (f : Field). resolved d f.sort) c.args.fields.now c.loop-field.field-index c.field-item.result ids id c.loop-field-test.true c.field-item.is (known.0, known.1, StandFor-stay old new ids known.0 c.resolve.ensures.stay known.2) (c.in_ok-id.ensures.ok d is));
    }

pub returns-clause-ok : goal.returns-clause-ok
returns-clause-ok c d is =
    each-all (λ (x : ExprId) (e : Expression). Stands c.loop-field.template x.0 e) (λ (f : Field). resolved d f.sort) c.args.fields.now c.loop-field.field-index c.loop-field.row.items (omega (arith, c.loop-field-test.false)) (c.loop-field.invariant.known d is)
