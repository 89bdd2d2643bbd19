use Rattle.std.proofs.Common.{◌≡◌, ℕ, List, Err, IsErrOf, map, true, refl, sym, ◌∙◌, ap, subst}
use Rattle.std.proofs.lemmas.Bool.{true≢false}
use Rattle.std.proofs.lemmas.Result.{err_from_is_err_and}
use Rattle.ct_generics.specs.declared.decl.SortDecl.{SortDecl}
use Rattle.ct_sorts.specs.declared.error.SigError.{SigError}
use Rattle.ct_sorts.specs.Block.{HasNameTaken, IsBlockRefusal, IsLaterRefusal, IsWithBlock, has_no_constructor}
use Rattle.ct_sorts.specs.Declarations.{Declarations}
use Rattle.ct_sorts.specs.Marks.{lengths}
use Rattle.ct_sorts.specs.Stored.{function_of}
use Rattle.ct_sorts.specs.Tabled.{of_tables}
use Rattle.ct_sorts.specs.Written.{AreBlockParametersBelow}
use Rattle.ct_sorts.proofs.DeclareLemmas.{all_accepted, bare_refused, later_refused, name_refused}
use Rattle.ct_sorts.proofs.ResultLemmas.{err_as, if_ok, on_ok, on_err}
use Rattle.ct_sorts.proofs.signature.Signature.add_block.Goals as goal

pub returns-in_err-admit_block-clause-refused : goal.returns-in_err-admit_block-clause-refused
returns-in_err-admit_block-clause-refused c =
    let p = err_from_is_err_and c.from_residual.result c.from_residual.ensures.1 in
    rw (p.1, p.2) (λ n err. let found = c.in_err-admit_block.ensures.refused n (err_as _ (SigError.Refused n) err) in subst (λ (b : List SortDecl). IsBlockRefusal c.args.self.now c.args.kind b n) c.as_slice-block.ensures.value (name_refused c.args.self.now c.args.kind c.as_slice-block.result.now n found.0 found.1))

pub returns-then-has_no_constructor-clause-refused : goal.returns-then-has_no_constructor-clause-refused
returns-then-has_no_constructor-clause-refused c = λ n err. subst (λ (b : List SortDecl). IsBlockRefusal c.args.self.now c.args.kind b n) c.as_slice-block.ensures.value (bare_refused c.args.self.now c.args.kind c.as_slice-block.result.now n c.in_ok-admit_block.ensures.ok (sym c.if-has_no_constructor.ensures.value) err)

pub declare_block-requires-clause-tabled : goal.declare_block-requires-clause-tabled
declare_block-requires-clause-tabled c = c.self.invariant.tabled

pub declare_block-requires-clause-free : goal.declare_block-requires-clause-free
declare_block-requires-clause-free c = ((map function_of c.self.inside.functions), (map function_of c.self.inside.definitions), c.self.invariant.consistent, (subst (λ (d : Declarations). HasNameTaken d c.as_slice-block.result.now → ⊥) (sym c.self.view_is) c.in_ok-admit_block.ensures.ok))

pub declare_block-requires-clause-parameters : goal.declare_block-requires-clause-parameters
declare_block-requires-clause-parameters c = subst AreBlockParametersBelow (sym c.as_slice-block.ensures.value) c.requires.parameters

pub declare_block-requires-clause-built : goal.declare_block-requires-clause-built
declare_block-requires-clause-built c = λ bare. true≢false (sym bare ∙ sym c.if-has_no_constructor.ensures.value)

pub declare_block-requires-clause-mark : goal.declare_block-requires-clause-mark
declare_block-requires-clause-mark c = ((map function_of c.self.inside.functions), (map function_of c.self.inside.definitions), c.mark-mark.ensures.lengths ∙ ap lengths (sym c.self.view_is))

pub invariant_of-self : goal.invariant_of-self
invariant_of-self c = record { consistent = c.declare_block.ensures.consistent (map function_of c.self.inside.functions) (map function_of c.self.inside.definitions) c.self.invariant.consistent (subst (λ (d : Declarations). HasNameTaken d c.as_slice-block.result.now → ⊥) (sym c.self.view_is) c.in_ok-admit_block.ensures.ok); tabled = c.declare_block.ensures.tabled }

pub returns-clause-ok : goal.returns-clause-ok
returns-clause-ok c =
    let new = of_tables c.declare_block.new.tables (map function_of c.self.inside.functions) (map function_of c.self.inside.definitions) in
    if_ok c.declare_block.result (λ given with_block. subst (λ (b : List SortDecl). IsWithBlock c.args.self.now c.args.kind b given.items new) c.as_slice-block.ensures.value (subst (λ (d : Declarations). IsWithBlock d c.args.kind c.as_slice-block.result.now given.items new) c.self.view_is (with_block (map function_of c.self.inside.functions) (map function_of c.self.inside.definitions)))) c.declare_block.ensures.ok

pub returns-clause-accepted : goal.returns-clause-accepted
returns-clause-accepted c = on_ok c.declare_block.result (λ accepted. subst (λ (b : List SortDecl). (n : ℕ) → IsBlockRefusal c.args.self.now c.args.kind b n → ⊥) c.as_slice-block.ensures.value (all_accepted c.args.self.now c.args.kind c.as_slice-block.result.now c.in_ok-admit_block.ensures.ok (λ bare. true≢false (sym bare ∙ sym c.if-has_no_constructor.ensures.value)) (λ m later. accepted m (map function_of c.self.inside.functions) (map function_of c.self.inside.definitions) (subst (λ (d : Declarations). IsLaterRefusal d c.args.kind c.as_slice-block.result.now m) (sym c.self.view_is) later)))) c.declare_block.ensures.accepted

pub returns-clause-refused : goal.returns-clause-refused
returns-clause-refused c = λ n err. subst (λ (b : List SortDecl). IsBlockRefusal c.args.self.now c.args.kind b n) c.as_slice-block.ensures.value (later_refused c.args.self.now c.args.kind c.as_slice-block.result.now n c.in_ok-admit_block.ensures.ok (λ bare. true≢false (sym bare ∙ sym c.if-has_no_constructor.ensures.value)) (subst (λ (d : Declarations). IsLaterRefusal d c.args.kind c.as_slice-block.result.now n) c.self.view_is (c.declare_block.ensures.refused n (map function_of c.self.inside.functions) (map function_of c.self.inside.definitions) err)))

pub returns-clause-unchanged : goal.returns-clause-unchanged
returns-clause-unchanged c = on_err c.declare_block.result (λ same. same (map function_of c.self.inside.functions) (map function_of c.self.inside.definitions) ∙ c.self.view_is) c.declare_block.ensures.unchanged
