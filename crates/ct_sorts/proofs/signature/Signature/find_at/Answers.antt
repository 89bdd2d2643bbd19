use Rattle.std.proofs.Common.{◌≡◌, ◌<◌, ℕ, All, List, Some, IfSome, IfNone, map, length, slice_get, refl, sym, ◌∙◌, ap, subst, arith}
use Rattle.std.proofs.lemmas.List.{length-map}
use Rattle.ct_generics.specs.Expression.{Expression}
use Rattle.ct_sorts.specs.declared.ids.SortId.{SortId}
use Rattle.ct_sorts.specs.Applied.{IsAt}
use Rattle.ct_sorts.specs.Declarations.{Declarations, IsSort}
use Rattle.ct_sorts.specs.Instances.{IsOrigin}
use Rattle.ct_sorts.specs.Stored.{function_of, sort_of_entry}
use Rattle.ct_sorts.specs.Tabled.{of_tables}
use Rattle.ct_sorts.proofs.AppliedLemmas.{at_exists, sorts_within}
use Rattle.ct_sorts.proofs.InstanceLemmas.{numbers_few}
use Rattle.ct_sorts.proofs.ResultLemmas.{if_some, if_none}
use Rattle.ct_sorts.proofs.signature.Signature.find_at.Goals as goal

pub find_applied-requires-clause-standing : goal.find_applied-requires-clause-standing
find_applied-requires-clause-standing c = c.self.invariant.tabled.stand

pub find_applied-requires-clause-few : goal.find_applied-requires-clause-few
find_applied-requires-clause-few c = omega (arith, numbers_few c.self.inside.tables (map function_of c.self.inside.functions) (map function_of c.self.inside.definitions) c.self.invariant.consistent)

pub find_applied-requires-clause-sorts : goal.find_applied-requires-clause-sorts
find_applied-requires-clause-sorts c =
    sorts_within c.self.inside.tables c.self.invariant.tabled (map function_of c.self.inside.functions) (map function_of c.self.inside.definitions) c.args.args.now (subst (λ (d : Declarations). All (IsSort d) c.args.args.now) (sym c.self.view_is) c.requires.sorts)

pub returns-clause-some : goal.returns-clause-some
returns-clause-some c =
    let t = c.self.inside.tables in
    let fs = map function_of c.self.inside.functions in
    let ds = map function_of c.self.inside.definitions in
    let within = sorts_within t c.self.invariant.tabled fs ds c.args.args.now (subst (λ (d : Declarations). All (IsSort d) c.args.args.now) (sym c.self.view_is) c.requires.sorts) in
    let e = at_exists t c.args.g c.args.args.now fs ds within in
    subst (λ (d : Declarations). IfSome c.find_applied.result (λ s. (e : Expression) × IsAt d c.args.g c.args.args.now e × IsOrigin d s e)) c.self.view_is
    (if_some c.find_applied.result (λ s at. (e.0, e.1, at e.1.0 e.1.1 ∙ ap Some (sym e.1.2))) c.find_applied.ensures.some)

pub returns-clause-none : goal.returns-clause-none
returns-clause-none c =
    subst (λ (d : Declarations). IfNone c.find_applied.result ((e : Expression) (s : SortId) → IsAt d c.args.g c.args.args.now e → IsOrigin d s e → ⊥)) c.self.view_is
    (if_none c.find_applied.result (λ absent e s is_at origin. absent is_at.0 s.0 is_at.1 (origin ∙ ap Some is_at.2)) c.find_applied.ensures.none)
