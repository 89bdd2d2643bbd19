use Rattle.std.proofs.Common.{◌≡◌, ◌<◌, ℕ, All, List, [], ◌∷◌, IfOk, map, length, slice_get, Some, refl, sym, ◌∙◌, ap, subst}
use Rattle.ct_generics.specs.Expression.{Expression}
use Rattle.ct_sorts.specs.declared.ids.SortId.{SortId}
use Rattle.ct_sorts.specs.Applied.{IsAt, TakesAll}
use Rattle.ct_sorts.specs.Declarations.{Declarations, IsSort}
use Rattle.ct_sorts.specs.Instances.{HasNoRoom, IsOrigin, IsWithSorts}
use Rattle.ct_sorts.specs.Marks.{lengths}
use Rattle.ct_sorts.specs.Refusals.{too_many}
use Rattle.ct_sorts.specs.Stored.{function_of}
use Rattle.ct_sorts.specs.Tabled.{of_tables}
use Rattle.ct_sorts.proofs.AppliedLemmas.{at_exists, sorts_within}
use Rattle.ct_sorts.proofs.ResultLemmas.{if_ok, on_ok, on_err}
use Rattle.ct_sorts.proofs.signature.Signature.instance_at.Goals as goal

pub add_applied-requires-clause-tabled : goal.add_applied-requires-clause-tabled
add_applied-requires-clause-tabled c = c.self.invariant.tabled

pub add_applied-requires-clause-consistent : goal.add_applied-requires-clause-consistent
add_applied-requires-clause-consistent c = (map function_of c.self.inside.functions, map function_of c.self.inside.definitions, c.self.invariant.consistent)

pub add_applied-requires-clause-generic : goal.add_applied-requires-clause-generic
add_applied-requires-clause-generic c =
    let generic = subst (λ (d : Declarations). TakesAll d c.args.g c.args.args.now) (sym c.self.view_is) c.requires.generic in
    (generic.0, generic.1.0, generic.2)

pub add_applied-requires-clause-sorts : goal.add_applied-requires-clause-sorts
add_applied-requires-clause-sorts c =
    sorts_within c.self.inside.tables c.self.invariant.tabled (map function_of c.self.inside.functions) (map function_of c.self.inside.definitions) c.args.args.now (subst (λ (d : Declarations). All (IsSort d) c.args.args.now) (sym c.self.view_is) c.requires.sorts)

pub add_applied-requires-clause-mark : goal.add_applied-requires-clause-mark
add_applied-requires-clause-mark c = (map function_of c.self.inside.functions, map function_of c.self.inside.definitions, c.mark-mark.ensures.lengths ∙ ap lengths (sym c.self.view_is))

pub invariant_of-self : goal.invariant_of-self
invariant_of-self c =
    let fs = map function_of c.self.inside.functions in
    let ds = map function_of c.self.inside.definitions in
    record { consistent = c.add_applied.ensures.consistent fs ds c.self.invariant.consistent; tabled = c.add_applied.ensures.tabled }

pub returns-clause-ok : goal.returns-clause-ok
returns-clause-ok c =
    let t = c.self.inside.tables in
    let fs = map function_of c.self.inside.functions in
    let ds = map function_of c.self.inside.definitions in
    let new = of_tables c.add_applied.new.tables fs ds in
    let within = sorts_within t c.self.invariant.tabled fs ds c.args.args.now (subst (λ (d : Declarations). All (IsSort d) c.args.args.now) (sym c.self.view_is) c.requires.sorts) in
    let e = at_exists t c.args.g c.args.args.now fs ds within in
    subst (λ (d : Declarations). IfOk c.add_applied.result (λ s. (e : Expression) × IsAt d c.args.g c.args.args.now e × IsWithSorts d (e ∷ []) new × IsOrigin new s e)) c.self.view_is
    (if_ok c.add_applied.result (λ s added. let own = added e.0 fs ds e.1 in (e.0, e.1, own.0, own.1)) c.add_applied.ensures.ok)

pub returns-clause-accepted : goal.returns-clause-accepted
returns-clause-accepted c =
    let fs = map function_of c.self.inside.functions in
    let ds = map function_of c.self.inside.definitions in
    on_ok c.add_applied.result (λ accepted. subst (λ (d : Declarations). (e : Expression) → IsAt d c.args.g c.args.args.now e → HasNoRoom d (e ∷ []) → ⊥) c.self.view_is (λ e at without. accepted e fs ds at without)) c.add_applied.ensures.accepted

pub returns-clause-refused : goal.returns-clause-refused
returns-clause-refused c =
    let t = c.self.inside.tables in
    let fs = map function_of c.self.inside.functions in
    let ds = map function_of c.self.inside.definitions in
    let within = sorts_within t c.self.invariant.tabled fs ds c.args.args.now (subst (λ (d : Declarations). All (IsSort d) c.args.args.now) (sym c.self.view_is) c.requires.sorts) in
    let e = at_exists t c.args.g c.args.args.now fs ds within in
    λ n refused.
    let own = c.add_applied.ensures.refused n e.0 fs ds refused e.1 in
    subst (λ (d : Declarations). (e : Expression) × IsAt d c.args.g c.args.args.now e × HasNoRoom d (e ∷ []) × (n ≡ too_many)) c.self.view_is (e.0, e.1, own.1, own.0)

pub returns-clause-unchanged : goal.returns-clause-unchanged
returns-clause-unchanged c =
    let fs = map function_of c.self.inside.functions in
    let ds = map function_of c.self.inside.definitions in
    on_err c.add_applied.result (λ same. same fs ds ∙ c.self.view_is) c.add_applied.ensures.unchanged
