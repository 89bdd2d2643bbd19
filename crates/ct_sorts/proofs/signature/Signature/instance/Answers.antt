use Rattle.std.proofs.Common.{◌≡◌, ℕ, List, map, refl, sym, ◌∙◌, ap, subst}
use Rattle.ct_sorts.specs.declared.ids.SortId.{SortId}
use Rattle.ct_sorts.specs.Declarations.{Declarations}
use Rattle.ct_sorts.specs.Instances.{IsInstanceRefusal, IsWithInstance}
use Rattle.ct_sorts.specs.Marks.{lengths}
use Rattle.ct_sorts.specs.Stored.{function_of}
use Rattle.ct_sorts.specs.Tabled.{of_tables}
use Rattle.ct_sorts.proofs.ResultLemmas.{if_ok, on_ok, on_err}
use Rattle.ct_sorts.proofs.signature.Signature.instance.Goals as goal

pub add_instance-requires-clause-tabled : goal.add_instance-requires-clause-tabled
add_instance-requires-clause-tabled c = c.self.invariant.tabled

pub add_instance-requires-clause-consistent : goal.add_instance-requires-clause-consistent
add_instance-requires-clause-consistent c = (map function_of c.self.inside.functions, map function_of c.self.inside.definitions, c.self.invariant.consistent)

pub add_instance-requires-clause-closed : goal.add_instance-requires-clause-closed
add_instance-requires-clause-closed c = c.requires.closed

pub add_instance-requires-clause-mark : goal.add_instance-requires-clause-mark
add_instance-requires-clause-mark c = (map function_of c.self.inside.functions, map function_of c.self.inside.definitions, c.mark-mark.ensures.lengths ∙ ap lengths (sym c.self.view_is))

pub invariant_of-self : goal.invariant_of-self
invariant_of-self c =
    let fs = map function_of c.self.inside.functions in
    let ds = map function_of c.self.inside.definitions in
    record { consistent = c.add_instance.ensures.consistent fs ds c.self.invariant.consistent; tabled = c.add_instance.ensures.tabled }

pub returns-clause-ok : goal.returns-clause-ok
returns-clause-ok c =
    let fs = map function_of c.self.inside.functions in
    let ds = map function_of c.self.inside.definitions in
    let new = of_tables c.add_instance.new.tables fs ds in
    if_ok c.add_instance.result (λ s with_instance. subst (λ (d : Declarations). IsWithInstance d c.args.expr.now new s) c.self.view_is (with_instance fs ds)) c.add_instance.ensures.ok

pub returns-clause-accepted : goal.returns-clause-accepted
returns-clause-accepted c =
    let fs = map function_of c.self.inside.functions in
    let ds = map function_of c.self.inside.definitions in
    on_ok c.add_instance.result (λ accepted n refusal. accepted n fs ds (subst (λ (d : Declarations). IsInstanceRefusal d c.args.expr.now n) (sym c.self.view_is) refusal)) c.add_instance.ensures.accepted

pub returns-clause-refused : goal.returns-clause-refused
returns-clause-refused c =
    let fs = map function_of c.self.inside.functions in
    let ds = map function_of c.self.inside.definitions in
    λ n refused. subst (λ (d : Declarations). IsInstanceRefusal d c.args.expr.now n) c.self.view_is (c.add_instance.ensures.refused n fs ds refused)

pub returns-clause-unchanged : goal.returns-clause-unchanged
returns-clause-unchanged c =
    let fs = map function_of c.self.inside.functions in
    let ds = map function_of c.self.inside.definitions in
    on_err c.add_instance.result (λ same. same fs ds ∙ c.self.view_is) c.add_instance.ensures.unchanged
