use Rattle.std.proofs.Common.{List}
use Rattle.std.proofs.lemmas.Result.{err_from_is_err_and}
use Rattle.ct_lemmas.proofs.Pairs.{AllZip-weaker}
use Rattle.ct_generics.specs.declared.nodes.ExprId.{ExprId}
use Rattle.ct_generics.specs.Expression.{Expression}
use Rattle.ct_generics.specs.Nodes.{StandFor}
use Rattle.ct_generics.specs.Block.{fields_in}
use Rattle.ct_generics.proofs.NodeLemmas.{Stay-trans}
use Rattle.ct_generics.proofs.SubstitutionLemmas.{StandFor-stay}
use Rattle.ct_generics.specs.declared.error.GenericError.TheVariants.{Refused}
use Rattle.ct_generics.proofs.OutcomeLemmas.{err_cast}
use Rattle.ct_generics.proofs.ResolveLemmas.{each-more, each-refused}
use Rattle.ct_generics.proofs.block.resolve_ctors.Goals as goal

pub returns-in_err-row-clause-refused : goal.returns-in_err-row-clause-refused
returns-in_err-row-clause-refused c =
    let p = err_from_is_err_and c.from_residual-in_err-row.result c.from_residual-in_err-row.ensures.1 in
    rw (p.1, p.2) (λ n d e is.
    let known = c.loop-ctor.invariant.known d is in
    each-refused (fields_in d) c.args.ctors.now c.loop-ctor.ctor-index c.ctor-item.result n c.loop-ctor-test.true c.ctor-item.is known.0 known.1 (rw c.as_slice.ensures.value at (c.in_err-row.ensures.refused n d (err_cast _ (Refused n) e) is)))

pub loop-ctor-preserved : goal.loop-ctor-preserved
loop-ctor-preserved c =
    let begin = c.args.template.now in
    let old = c.loop-ctor.template in
    let new = c.resolve_fields.new.template in
    let rows = c.loop-ctor.rows.items in
    record {
      stay = Stay-trans begin old new c.loop-ctor.invariant.stay c.resolve_fields.ensures.stay;
      known = λ d is.
          let known = c.loop-ctor.invariant.known d is in
          let last = c.in_ok-row.ensures.ok d is in
          let stayed = AllZip-weaker (StandFor old) (StandFor new) (λ (ids : List ExprId) (es : List Expression). StandFor-stay old new ids es c.resolve_fields.ensures.stay) rows known.0 known.2 in
          rw c.in_ok-push.ensures.items (each-more (StandFor new) (fields_in d) c.args.ctors.now c.loop-ctor.ctor-index c.ctor-item.result rows c.new.result c.loop-ctor-test.true c.ctor-item.is (known.0, known.1, stayed) (last.0, rw c.as_slice.ensures.value at last.1, rw c.new.ensures.value last.2));
    }
