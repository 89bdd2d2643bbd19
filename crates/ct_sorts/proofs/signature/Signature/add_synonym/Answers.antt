use Rattle.std.proofs.Common.{◌≡◌, ℕ, List, Err, IsErrOf, map, refl, sym, ◌∙◌, ap, subst}
use Rattle.std.proofs.lemmas.Result.{err_from_is_err_and}
use Rattle.ct_sorts.specs.Availability.{IsUnavailableSort}
use Rattle.ct_sorts.specs.Declarations.{Declarations, declared_names}
use Rattle.ct_sorts.specs.Marks.{lengths}
use Rattle.ct_sorts.specs.Stored.{function_of}
use Rattle.ct_sorts.specs.Synonyms.{IsLaterRefusal, IsSynonymRefusal, IsWithSynonym}
use Rattle.ct_sorts.specs.Tabled.{of_tables}
use Rattle.ct_sorts.proofs.ResultLemmas.{on_ok, on_err}
use Rattle.ct_sorts.proofs.SynonymLemmas.{all_accepted, later_refused, name_refused, taken_number}
use Rattle.ct_sorts.proofs.signature.Signature.add_synonym.Goals as goal

pub returns-in_err-refuse_name-clause-refused : goal.returns-in_err-refuse_name-clause-refused
returns-in_err-refuse_name-clause-refused c =
    let p = err_from_is_err_and c.from_residual.result c.from_residual.ensures.1 in
    rw (p.1, p.2) (λ n err. name_refused c.args.self.now c.args.name c.args.body n (taken_number n _ c.in_err-refuse_name.ensures.code err) c.in_err-refuse_name.ensures.refused)

pub declare_synonym-requires-clause-tabled : goal.declare_synonym-requires-clause-tabled
declare_synonym-requires-clause-tabled c = c.self.invariant.tabled

pub declare_synonym-requires-clause-consistent : goal.declare_synonym-requires-clause-consistent
declare_synonym-requires-clause-consistent c = ((map function_of c.self.inside.functions), (map function_of c.self.inside.definitions), c.self.invariant.consistent)

pub declare_synonym-requires-clause-free : goal.declare_synonym-requires-clause-free
declare_synonym-requires-clause-free c = subst (λ (d : Declarations). IsUnavailableSort (declared_names d) c.args.name → ⊥) (sym c.self.view_is) c.in_ok-refuse_name.ensures.ok

pub declare_synonym-requires-clause-mark : goal.declare_synonym-requires-clause-mark
declare_synonym-requires-clause-mark c = ((map function_of c.self.inside.functions), (map function_of c.self.inside.definitions), c.mark-mark.ensures.lengths ∙ ap lengths (sym c.self.view_is))

pub invariant_of-self : goal.invariant_of-self
invariant_of-self c = record { consistent = c.declare_synonym.ensures.consistent (map function_of c.self.inside.functions) (map function_of c.self.inside.definitions) c.self.invariant.consistent; tabled = c.declare_synonym.ensures.tabled }

pub returns-clause-ok : goal.returns-clause-ok
returns-clause-ok c =
    let new = of_tables c.declare_synonym.new.tables (map function_of c.self.inside.functions) (map function_of c.self.inside.definitions) in
    on_ok c.declare_synonym.result (λ with_one. subst (λ (d : Declarations). IsWithSynonym d c.args.name c.args.params c.args.body new) c.self.view_is (with_one (map function_of c.self.inside.functions) (map function_of c.self.inside.definitions))) c.declare_synonym.ensures.ok

pub returns-clause-accepted : goal.returns-clause-accepted
returns-clause-accepted c = on_ok c.declare_synonym.result (λ accepted n refusal. all_accepted c.args.self.now c.args.name c.args.body c.in_ok-refuse_name.ensures.ok (λ m later. accepted m (map function_of c.self.inside.functions) (map function_of c.self.inside.definitions) (subst (λ (d : Declarations). IsLaterRefusal d c.args.body m) (sym c.self.view_is) later)) n refusal) c.declare_synonym.ensures.accepted

pub returns-clause-refused : goal.returns-clause-refused
returns-clause-refused c = λ n err. later_refused c.args.self.now c.args.name c.args.body n c.in_ok-refuse_name.ensures.ok (subst (λ (d : Declarations). IsLaterRefusal d c.args.body n) c.self.view_is (c.declare_synonym.ensures.refused n (map function_of c.self.inside.functions) (map function_of c.self.inside.definitions) err))

pub returns-clause-unchanged : goal.returns-clause-unchanged
returns-clause-unchanged c = on_err c.declare_synonym.result (λ same. same (map function_of c.self.inside.functions) (map function_of c.self.inside.definitions) ∙ c.self.view_is) c.declare_synonym.ensures.unchanged
