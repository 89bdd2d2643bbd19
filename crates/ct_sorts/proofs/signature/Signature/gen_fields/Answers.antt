use Rattle.std.proofs.Common.{◌≡◌, ◌<◌, ℕ, List, Some, map, slice_get, length, ap, sym, subst, ◌∙◌, arith}
use Rattle.ct_generics.specs.declared.nodes.ExprId.{ExprId}
use Rattle.ct_generics.specs.declared.nodes.Node.{Node}
use Rattle.ct_generics.specs.Declarations.{Head}
use Rattle.ct_generics.specs.Denoted.{declared_of}
use Rattle.ct_generics.specs.Expression.{Expression}
use Rattle.ct_generics.specs.Nodes.{StandFor}
use Rattle.ct_sorts.specs.Declarations.{Declarations}
use Rattle.ct_sorts.specs.Lookup.{IsGenericHead}
use Rattle.ct_sorts.specs.Stored.{function_of}
use Rattle.ct_sorts.proofs.GetterLemmas.{generic_within, rows_long, row_stands}
use Rattle.ct_sorts.proofs.signature.Signature.gen_fields.Goals as goal

pub template-template-requires : goal.template-template-requires
template-template-requires c =
    let t = c.self.inside.tables in
    record { within = (declared_of t.generics, c.self.invariant.tabled.declared, subst (λ n. n < length (declared_of t.generics).heads) (sym c.from.ensures) (generic_within t _ _ c.args.self.now c.args.g c.self.view_is c.requires.generic)) }

pub rows-rows-requires : goal.rows-rows-requires
rows-rows-requires c =
    let t = c.self.inside.tables in
    record { within = (declared_of t.generics, c.self.invariant.tabled.declared, subst (λ n. n < length (declared_of t.generics).heads) (sym c.from.ensures) (generic_within t _ _ c.args.self.now c.args.g c.self.view_is c.requires.generic)) }

pub row_at-requires : goal.row_at-requires
row_at-requires c =
    let t = c.self.inside.tables in
    let d = declared_of t.generics in
    let head = c.requires.generic.0 in
    let at = subst (λ (x : Declarations). slice_get x.declared.heads c.args.g.0 ≡ Some head) (sym c.self.view_is) c.requires.generic.1.0 in
    let long = rows_long t.generics d c.self.invariant.tabled.declared (λ h top template rows. c.denotations.ensures.rows t.generics d h top template rows c.self.invariant.tabled.declared) c.from.result head c.rows-rows.result.now (ap (slice_get d.heads) c.from.ensures ∙ at) c.rows-rows.ensures.value in
    record { within = subst (λ n. c.args.ctor < n) (sym long) (c.requires.below head c.requires.generic.1) }

pub returns : goal.returns
returns c =
    let t = c.self.inside.tables in
    let d = declared_of t.generics in
    record {
      value = subst (λ (x : Declarations). (head : Head) (row : List Expression) → IsGenericHead x c.args.g head → slice_get head.ctors c.args.ctor ≡ Some row → StandFor c.template-template.result.now c.row_at.result.now row) c.self.view_is (λ head sorts is at_sorts.
          row_stands t.generics d c.self.invariant.tabled.declared (λ h top template rows. c.denotations.ensures.rows t.generics d h top template rows c.self.invariant.tabled.declared) c.from.result c.args.ctor head c.template-template.result.now c.rows-rows.result.now c.row_at.result.now sorts (ap (slice_get d.heads) c.from.ensures ∙ is.0) c.template-template.ensures.value c.rows-rows.ensures.value c.row_at.ensures.value at_sorts);
    }
