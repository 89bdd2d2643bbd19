use Rattle.std.proofs.Common.{◌≡◌, ◌<◌, ℕ, List, Some, map, slice_get, length, ap, sym, subst, ◌∙◌, arith}
use Rattle.ct_generics.specs.declared.nodes.ExprId.{ExprId}
use Rattle.ct_generics.specs.declared.nodes.Node.{Node}
use Rattle.ct_generics.specs.Declarations.{Head}
use Rattle.ct_generics.specs.Denoted.{declared_of}
use Rattle.ct_generics.specs.Expression.{Expression}
use Rattle.ct_generics.specs.Nodes.{StandFor}
use Rattle.ct_sorts.specs.Declarations.{Declarations}
use Rattle.ct_sorts.specs.Lookup.{IsGenericHead}
use Rattle.ct_sorts.specs.Stored.{function_of}
use Rattle.ct_sorts.proofs.GetterLemmas.{generic_within, rows_long, ctors_few}
use Rattle.ct_sorts.proofs.signature.Signature.gen_ctors.Goals as goal

pub rows-requires : goal.rows-requires
rows-requires c =
    let t = c.self.inside.tables in
    record { within = (declared_of t.generics, c.self.invariant.tabled.declared, subst (λ n. n < length (declared_of t.generics).heads) (sym c.from.ensures) (generic_within t _ _ c.args.self.now c.args.g c.self.view_is c.requires.generic)) }

pub overflow_cast-result : goal.overflow_cast-result
overflow_cast-result c =
    let t = c.self.inside.tables in
    let d = declared_of t.generics in
    let fs = map function_of c.self.inside.functions in
    let ds = map function_of c.self.inside.definitions in
    let head = c.requires.generic.0 in
    let at = subst (λ (x : Declarations). slice_get x.declared.heads c.args.g.0 ≡ Some head) (sym c.self.view_is) c.requires.generic.1.0 in
    let long = rows_long t.generics d c.self.invariant.tabled.declared (λ h top template rows. c.denotations.ensures.rows t.generics d h top template rows c.self.invariant.tabled.declared) c.from.result head c.rows.result.now (ap (slice_get d.heads) c.from.ensures ∙ at) c.rows.ensures.value in
    omega (arith, long, ctors_few t c.self.invariant.tabled fs ds c.self.invariant.consistent c.args.g.0 head at c.requires.generic.1.1)

pub returns : goal.returns
returns c =
    let t = c.self.inside.tables in
    let d = declared_of t.generics in
    record {
      count = subst (λ (x : Declarations). (head : Head) → IsGenericHead x c.args.g head → length c.rows.result.now ≡ length head.ctors) c.self.view_is (λ head is.
          rows_long t.generics d c.self.invariant.tabled.declared (λ h top template rows. c.denotations.ensures.rows t.generics d h top template rows c.self.invariant.tabled.declared) c.from.result head c.rows.result.now (ap (slice_get d.heads) c.from.ensures ∙ is.0) c.rows.ensures.value);
    }
