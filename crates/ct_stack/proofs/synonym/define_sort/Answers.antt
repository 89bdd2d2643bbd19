use Rattle.std.proofs.Common.{◌≡◌, ◌∙◌, List, ℕ, true, map, Err, refl, sym, ap, subst, inl, inr}
use Rattle.std.specs.Borrow.{Bor}
use Rattle.std.proofs.lemmas.Bool.{true≢false}
use Rattle.std.proofs.lemmas.Result.{err_from_is_err_and}
use Rattle.ct_sexpr.specs.View.{expression_of}
use Rattle.ct_sorts.specs.declared.error.SigError.{SigError}
use Rattle.ct_sorts.specs.Availability.{IsUnavailableSort}
use Rattle.ct_sorts.specs.Declarations.{declared_names}
use Rattle.ct_names.specs.Refusals.{repeated_variable}
use Rattle.ct_names.specs.Variables.{has_repeated}
use Rattle.ct_stack.specs.Refusal.{IsSynonymRefusal}
use Rattle.ct_stack.proofs.CauseLemmas.{at_code}
use Rattle.ct_stack.proofs.ErrorLemmas.{same_refusal}
use Rattle.ct_stack.proofs.SynonymLemmas.{body_refused, added_refused, added_accepted}
use Rattle.ct_stack.proofs.synonym.define_sort.Goals as goal

pub returns-then-branch-clause-refused : goal.returns-then-branch-clause-refused
returns-then-branch-clause-refused c =
    let d = c.args.sig.now in
    let name = c.args.name.now in
    let params = map (λ (p : Bor (List ℕ)). p.now) c.args.params.now in
    let free : IsUnavailableSort (declared_names d) name → ⊥ = λ h. true≢false (sym (c.if-is_unavailable_sort.ensures.unavailable.1 (subst (λ (n : List ℕ). IsUnavailableSort (declared_names d) n) (sym c.in_ok-name.ensures.ok) h))) in
    let repeated : has_repeated params ≡ true = sym c.in_ok-has_repeated_name.ensures.value ∙ c.if-branch.true in
    at_code (IsSynonymRefusal d name params (expression_of c.args.body.now)) repeated_variable (inr (free, inl (refl, repeated)))

pub returns-in_err-body-clause-refused : goal.returns-in_err-body-clause-refused
returns-in_err-body-clause-refused c =
    let d = c.args.sig.now in
    let name = c.args.name.now in
    let params = map (λ (p : Bor (List ℕ)). p.now) c.args.params.now in
    let free : IsUnavailableSort (declared_names d) name → ⊥ = λ h. true≢false (sym (c.if-is_unavailable_sort.ensures.unavailable.1 (subst (λ (n : List ℕ). IsUnavailableSort (declared_names d) n) (sym c.in_ok-name.ensures.ok) h))) in
    let unrepeated : has_repeated params ≡ true → ⊥ = λ h. true≢false (sym h ∙ sym c.in_ok-has_repeated_name.ensures.value ∙ c.if-branch.false) in
    let p = err_from_is_err_and c.from_residual-in_err-body.result c.from_residual-in_err-body.ensures.1 in
    rw (p.1, p.2)
    (λ n e. body_refused d name name params (expression_of c.args.body.now) refl free unrepeated n (c.in_err-body.ensures.refused n (same_refusal _ n e)))

pub returns-in-Ok-clause-accepted : goal.returns-in-Ok-clause-accepted
returns-in-Ok-clause-accepted c =
    let d = c.args.sig.now in
    let name = c.args.name.now in
    let params = map (λ (p : Bor (List ℕ)). p.now) c.args.params.now in
    let free : IsUnavailableSort (declared_names d) name → ⊥ = λ h. true≢false (sym (c.if-is_unavailable_sort.ensures.unavailable.1 (subst (λ (n : List ℕ). IsUnavailableSort (declared_names d) n) (sym c.in_ok-name.ensures.ok) h))) in
    let unrepeated : has_repeated params ≡ true → ⊥ = λ h. true≢false (sym h ∙ sym c.in_ok-has_repeated_name.ensures.value ∙ c.if-branch.false) in
    let (e, reads, stands) = c.in_ok-body.ensures.ok in
    added_accepted d name c.in_ok-name.name params (expression_of c.args.body.now) c.in_ok-name.ensures.ok free unrepeated c.in_ok-body.body e reads stands c.in-Ok.ensures.accepted

pub returns-in-Err-Refused-clause-refused : goal.returns-in-Err-Refused-clause-refused
returns-in-Err-Refused-clause-refused c =
    let d = c.args.sig.now in
    let name = c.args.name.now in
    let params = map (λ (p : Bor (List ℕ)). p.now) c.args.params.now in
    let free : IsUnavailableSort (declared_names d) name → ⊥ = λ h. true≢false (sym (c.if-is_unavailable_sort.ensures.unavailable.1 (subst (λ (n : List ℕ). IsUnavailableSort (declared_names d) n) (sym c.in_ok-name.ensures.ok) h))) in
    let unrepeated : has_repeated params ≡ true → ⊥ = λ h. true≢false (sym h ∙ sym c.in_ok-has_repeated_name.ensures.value ∙ c.if-branch.false) in
    let (e, reads, stands) = c.in_ok-body.ensures.ok in
    at_code (IsSynonymRefusal d name params (expression_of c.args.body.now)) c.in-Err-Refused.code
    (added_refused d name c.in_ok-name.name params (expression_of c.args.body.now) c.in_ok-name.ensures.ok free unrepeated c.in_ok-body.body e reads stands c.in-Err-Refused.code
    (c.in-Err-Refused.ensures.refused c.in-Err-Refused.code (ap (λ (g : SigError). Err g) c.in-Err-Refused.field-0-is)))
