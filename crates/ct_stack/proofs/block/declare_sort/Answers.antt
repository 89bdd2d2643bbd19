use Rattle.std.proofs.Common.{◌≡◌, ◌∙◌, ℕ, List, OnOk, IsErrOf, sym, ap, subst, arith}
use Rattle.ct_lemmas.proofs.Options.{OnOk-map}
use Rattle.ct_command.specs.declared.error.CommandError.TheVariants.{Refused}
use Rattle.ct_stack.specs.Elaborations.{with_free}
use Rattle.ct_stack.specs.Refusal.{IsSortRefusal}
use Rattle.ct_stack.proofs.block.declare_sort.Goals as goal

pub returns-then-params-eq0-clause-ok : goal.returns-then-params-eq0-clause-ok
returns-then-params-eq0-clause-ok c =
    let d = c.args.sig.now in
    let none : c.args.params ≡ 0 = omega (arith, c.if-params-eq0.true) in
    OnOk-map c.add_plain.result _ _ (λ h. h ∙ ap (λ (m : List ℕ). with_free d m 0) c.in_ok-name.ensures.ok ∙ sym (ap (λ (k : ℕ). with_free d c.args.name.now k) none)) c.add_plain.ensures.ok

pub returns-then-params-eq0-clause-accepted : goal.returns-then-params-eq0-clause-accepted
returns-then-params-eq0-clause-accepted c =
    subst (λ (m : List ℕ). OnOk c.add_plain.result ((n : ℕ) → IsSortRefusal c.args.sig.now m n → ⊥)) c.in_ok-name.ensures.ok c.add_plain.ensures.accepted

pub returns-then-params-eq0-clause-refused : goal.returns-then-params-eq0-clause-refused
returns-then-params-eq0-clause-refused c =
    subst (λ (m : List ℕ). (n : ℕ) → IsErrOf c.add_plain.result (Refused n) → IsSortRefusal c.args.sig.now m n) c.in_ok-name.ensures.ok c.add_plain.ensures.refused

pub returns-clause-ok : goal.returns-clause-ok
returns-clause-ok c =
    subst (λ (m : List ℕ). OnOk c.add_applied.result (c.add_applied.new.sig ≡ with_free c.args.sig.now m c.args.params)) c.in_ok-name.ensures.ok c.add_applied.ensures.ok

pub returns-clause-accepted : goal.returns-clause-accepted
returns-clause-accepted c =
    subst (λ (m : List ℕ). OnOk c.add_applied.result ((n : ℕ) → IsSortRefusal c.args.sig.now m n → ⊥)) c.in_ok-name.ensures.ok c.add_applied.ensures.accepted

pub returns-clause-refused : goal.returns-clause-refused
returns-clause-refused c =
    subst (λ (m : List ℕ). (n : ℕ) → IsErrOf c.add_applied.result (Refused n) → IsSortRefusal c.args.sig.now m n) c.in_ok-name.ensures.ok c.add_applied.ensures.refused
