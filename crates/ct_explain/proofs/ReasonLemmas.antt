-- From the reason of a merge with one premise to the step that gives its equation.
use Rattle.std.proofs.Common.{◌≡◌, ℕ, List, [], ◌∷◌, Option, None, Some, slice_get, inl, inr, refl, sym, ap, subst, ◌∙◌, true, false}
use Rattle.std.specs.Option.{IfNone}
use Rattle.ct_sorts.specs.declared.ids.CtorId.{CtorId}
use Rattle.ct_sorts.specs.declared.ids.SelId.{SelId}
use Rattle.ct_sorts.specs.Declarations.{Declarations}
use Rattle.ct_terms.specs.declared.ids.TermId.{TermId}
use Rattle.ct_terms.specs.declared.ids.Lit.{Lit}
use Rattle.ct_terms.specs.declared.term.Core.{Core}
use Rattle.ct_terms.specs.declared.term.Core.TheVariants as core
use Rattle.ct_terms.specs.Terms.{Terms, Has}
use Rattle.ct_rules.specs.declared.equation.Equation.{Equation}
use Rattle.ct_rules.specs.Rules.{truth_term}
use Rattle.ct_log.specs.Equations.{Gave, equation}
use Rattle.ct_congr.specs.declared.merge.Reason.{Reason}
use Rattle.ct_congr.specs.declared.merge.Reason.TheVariants as reason
use Rattle.ct_congr.specs.declared.merge.Merge.{Merge}
use Rattle.ct_congr.specs.Merges.{AreConnected}
use Rattle.ct_explain.specs.declared.premises.Rule.TheVariants.{Sel, Test, EqualIn, Neg}
use Rattle.ct_explain.specs.Premises.{IsOver, HasArguments, HasReason, HasNoPremise, IsPremiseIn, IsNegationPremise, IsConnectedPremise}

-- an equation that a step gave is that of equal sides
pub Gave-same : (given : List Equation) (i : ℕ) (x y u v : TermId) → u ≡ x → v ≡ y → Gave given i x y → Gave given i u v
Gave-same given i x y u v left right gave = subst (λ (e : Equation). slice_get given i ≡ Some e) (ap (λ (t : TermId). equation t y) (sym left) ∙ ap (equation u) (sym right)) gave

-- the one term under a term
pub one_under : (x u : TermId) → x ∷ [] ≡ u ∷ [] → x ≡ u
one_under x u e = cc

pub selection_premise : (terms : Terms) (t c u : TermId) → IsOver terms t (u ∷ []) → IsPremiseIn terms (reason.Sel t c) (record { left = u; right = c; rule = Sel t })
selection_premise terms t c u over = λ l r d hyps h clause given i gave.
    let rule = h.1.1 in
    let stands : Has terms (core.Sel rule.sel rule.argument) t.0 = subst (λ (q : TermId). Has terms (core.Sel rule.sel rule.argument) q.0) h.1.0 rule.stands in
    let same : rule.argument ≡ u = one_under rule.argument u (over (core.Sel rule.sel rule.argument) stands) in (
      h.1.0,
      record {
        sel = rule.sel;
        selector = rule.selector;
        argument = rule.argument;
        con = rule.con;
        args = rule.args;
        stands = stands;
        declared = rule.declared;
        equal = Gave-same given i u c rule.argument rule.con same h.1.2 gave;
        con_stands = rule.con_stands;
        at = rule.at;
      },
    )

pub testing_premise : (terms : Terms) (t c u : TermId) → IsOver terms t (u ∷ []) → IsPremiseIn terms (reason.Test t c) (record { left = u; right = c; rule = Test t })
testing_premise terms t c u over = λ l r d hyps h clause given i gave.
    let rule = h.1.1 in
    let stands : Has terms (core.Test rule.tested rule.argument) t.0 = subst (λ (q : TermId). Has terms (core.Test rule.tested rule.argument) q.0) h.1.0 rule.stands in
    let same : rule.argument ≡ u = one_under rule.argument u (over (core.Test rule.tested rule.argument) stands) in (
      h.1.0,
      record {
        tested = rule.tested;
        argument = rule.argument;
        con = rule.con;
        ctor = rule.ctor;
        args = rule.args;
        stands = stands;
        equal = Gave-same given i u c rule.argument rule.con same h.1.2 gave;
        con_stands = rule.con_stands;
        answer = rule.answer;
      },
    )

pub equation_premise : (terms : Terms) (t a b : TermId) → IsOver terms t (a ∷ (b ∷ [])) → IsPremiseIn terms (reason.EqualIn t) (record { left = a; right = b; rule = EqualIn t })
equation_premise terms t a b over = λ l r d hyps h clause given i gave.
    let rule = h.1.1 in
    let stands : Has terms (core.Eq rule.left rule.right) t.0 = subst (λ (q : TermId). Has terms (core.Eq rule.left rule.right) q.0) h.1.0 rule.stands in
    let both : rule.left ∷ (rule.right ∷ []) ≡ a ∷ (b ∷ []) = over (core.Eq rule.left rule.right) stands in
    let left : rule.left ≡ a = cc in
    let right : rule.right ≡ b = cc in
    (h.1.0, rule.answer, (rule.left, rule.right, stands, Gave-same given i a b rule.left rule.right left right gave))

pub negation_premise : (terms : Terms) (t a value other : TermId)
    → (value ≡ truth_term true → other ≡ truth_term false) → (value ≡ truth_term false → other ≡ truth_term true)
    → IsOver terms t (a ∷ []) → IsNegationPremise terms t value (record { left = a; right = other; rule = Neg t })
negation_premise terms t a value other when_true when_false over = λ l d hyps h clause given i gave.
    let rule = h.1.1 in
    let stands : Has terms (core.Not rule.argument) t.0 = subst (λ (q : TermId). Has terms (core.Not rule.argument) q.0) h.1.0 rule.stands in
    let same : rule.argument ≡ a = one_under rule.argument a (over (core.Not rule.argument) stands) in (
      h.1.0,
      (
        rule.argument,
        stands,
        elim rule.answer [
          | inl p ↦ inl (Gave-same given i a other rule.argument (truth_term true) same (sym (when_false p.1)) gave, p.1)
          | inr p ↦ inr (Gave-same given i a other rule.argument (truth_term false) same (sym (when_true p.1)) gave, p.1)
        ],
      ),
    )

-- what an answer that is not there says
pub IfNone-by : {X : Type 0} (P Q : Type 0) (o : Option X) → IfNone o P → (P → Q) → IfNone o Q
IfNone-by P Q None p f = f p
IfNone-by P Q (Some x) p f = tt

-- a term with no argument
pub no_argument : (node : Core) → ((s : SelId) (u : TermId) → node ≡ core.Sel s u → ⊥) → ((c : CtorId) (u : TermId) → node ≡ core.Test c u → ⊥) → ((u : TermId) → node ≡ core.Not u → ⊥) → HasArguments node → ⊥
no_argument (core.Sel s u) sel test neg h = sel s u refl
no_argument (core.Test c u) sel test neg h = test c u refl
no_argument (core.Not u) sel test neg h = neg u refl
no_argument (core.Con c xs) sel test neg h = h
no_argument (core.Apply f xs) sel test neg h = h
no_argument (core.Eq a b) sel test neg h = h
no_argument (core.And xs) sel test neg h = h
no_argument (core.Or xs) sel test neg h = h
no_argument (core.Iff a b) sel test neg h = h
no_argument (core.Ite p a b) sel test neg h = h

-- a reason by another rule has a premise
pub has_premise : (why : Reason) → ((l : Lit) → why ≡ reason.Hyp l → ⊥) → (why ≡ reason.Single → ⊥) → ((t u : TermId) → why ≡ reason.Cong t u → ⊥) → ((pairs : List Equation) → why ≡ reason.Unique pairs → ⊥) → HasNoPremise why → ⊥
has_premise (reason.Hyp l) hyp single cong unique h = hyp l refl
has_premise (reason.Cong t u) hyp single cong unique h = cong t u refl
has_premise reason.Single hyp single cong unique h = single refl
has_premise (reason.Unique pairs) hyp single cong unique h = unique pairs refl
has_premise (reason.Inject a b k) hyp single cong unique h = h
has_premise (reason.Sel t c) hyp single cong unique h = h
has_premise (reason.Test t c) hyp single cong unique h = h
has_premise (reason.Expand t c) hyp single cong unique h = h
has_premise (reason.EqualIn t) hyp single cong unique h = h
has_premise (reason.EqualOut t) hyp single cong unique h = h
has_premise (reason.Neg t) hyp single cong unique h = h

-- reasons speak of terms of their form
pub no_selection : (terms : Terms) (l r t c : TermId) → ((s : SelId) (u : TermId) → Has terms (core.Sel s u) t.0 → ⊥) → (d : Declarations) (hyps : List Lit) → HasReason d terms hyps l r (reason.Sel t c) → ⊥
no_selection terms l r t c none d hyps h =
    let rule = h.1.1 in
    none rule.sel rule.argument (subst (λ (q : TermId). Has terms (core.Sel rule.sel rule.argument) q.0) h.1.0 rule.stands)

pub no_testing : (terms : Terms) (l r t c : TermId) → ((k : CtorId) (u : TermId) → Has terms (core.Test k u) t.0 → ⊥) → (d : Declarations) (hyps : List Lit) → HasReason d terms hyps l r (reason.Test t c) → ⊥
no_testing terms l r t c none d hyps h =
    let rule = h.1.1 in
    none rule.tested rule.argument (subst (λ (q : TermId). Has terms (core.Test rule.tested rule.argument) q.0) h.1.0 rule.stands)

pub no_equation : (terms : Terms) (l r t : TermId) → ((a b : TermId) → Has terms (core.Eq a b) t.0 → ⊥) → (d : Declarations) (hyps : List Lit) → HasReason d terms hyps l r (reason.EqualIn t) → ⊥
no_equation terms l r t none d hyps h =
    let rule = h.1.1 in
    none rule.left rule.right (subst (λ (q : TermId). Has terms (core.Eq rule.left rule.right) q.0) h.1.0 rule.stands)

pub no_negation : (terms : Terms) (l r t : TermId) → ((u : TermId) → Has terms (core.Not u) t.0 → ⊥) → (d : Declarations) (hyps : List Lit) → HasReason d terms hyps l r (reason.Neg t) → ⊥
no_negation terms l r t none d hyps h =
    let rule = h.1.1 in
    none rule.argument (subst (λ (q : TermId). Has terms (core.Not rule.argument) q.0) h.1.0 rule.stands)

-- what is connected still is, seen as equal terms
moved : (before : List Merge) (x y u v : TermId) → x ≡ u → y ≡ v → AreConnected before x y → AreConnected before u v
moved before x y u v left right known = subst (λ (t : TermId). AreConnected before u t) right (subst (λ (t : TermId). AreConnected before t y) left known)

-- a reason needs its premise
pub injection_known : (terms : Terms) (a b : TermId) (k : ℕ) (l r : TermId) → IsConnectedPremise terms (reason.Inject a b k) l r a b
injection_known terms a b k l r = λ d hyps before h. let rule = h.0 in moved before rule.left rule.right a b h.1 h.2 rule.equal

pub expansion_known : (terms : Terms) (t c l r : TermId) → IsConnectedPremise terms (reason.Expand t c) l r t (truth_term true)
expansion_known terms t c l r = λ d hyps before h. let rule = h.1 in moved before rule.test (truth_term true) t (truth_term true) h.2 refl rule.holds

pub equation_out_known : (terms : Terms) (t l r : TermId) → IsConnectedPremise terms (reason.EqualOut t) l r t (truth_term true)
equation_out_known terms t l r = λ d hyps before h. let rule = h.0 in moved before rule.term (truth_term true) t (truth_term true) h.1 refl rule.holds

pub selection_known : (terms : Terms) (t c u : TermId) → IsOver terms t (u ∷ []) → (l r : TermId) → IsConnectedPremise terms (reason.Sel t c) l r u c
selection_known terms t c u over l r = λ d hyps before h.
    let rule = h.1 in
    let stands : Has terms (core.Sel rule.sel rule.argument) t.0 = subst (λ (q : TermId). Has terms (core.Sel rule.sel rule.argument) q.0) h.0 rule.stands in
    moved before rule.argument rule.con u c (one_under rule.argument u (over (core.Sel rule.sel rule.argument) stands)) h.2 rule.equal

pub testing_known : (terms : Terms) (t c u : TermId) → IsOver terms t (u ∷ []) → (l r : TermId) → IsConnectedPremise terms (reason.Test t c) l r u c
testing_known terms t c u over l r = λ d hyps before h.
    let rule = h.1 in
    let stands : Has terms (core.Test rule.tested rule.argument) t.0 = subst (λ (q : TermId). Has terms (core.Test rule.tested rule.argument) q.0) h.0 rule.stands in
    moved before rule.argument rule.con u c (one_under rule.argument u (over (core.Test rule.tested rule.argument) stands)) h.2 rule.equal

pub equation_known : (terms : Terms) (t a b : TermId) → IsOver terms t (a ∷ (b ∷ [])) → (l r : TermId) → IsConnectedPremise terms (reason.EqualIn t) l r a b
equation_known terms t a b over l r = λ d hyps before h.
    let rule = h.1 in
    let stands : Has terms (core.Eq rule.left rule.right) t.0 = subst (λ (q : TermId). Has terms (core.Eq rule.left rule.right) q.0) h.0 rule.stands in
    let both : rule.left ∷ (rule.right ∷ []) ≡ a ∷ (b ∷ []) = over (core.Eq rule.left rule.right) stands in
    let left : rule.left ≡ a = cc in
    let right : rule.right ≡ b = cc in
    moved before rule.left rule.right a b left right rule.equal

pub negation_known : (terms : Terms) (t a value other : TermId)
    → (value ≡ truth_term true → other ≡ truth_term false) → (value ≡ truth_term false → other ≡ truth_term true)
    → IsOver terms t (a ∷ []) → (l : TermId) → IsConnectedPremise terms (reason.Neg t) l value a other
negation_known terms t a value other when_true when_false over l = λ d hyps before h.
    let rule = h.1 in
    let stands : Has terms (core.Not rule.argument) t.0 = subst (λ (q : TermId). Has terms (core.Not rule.argument) q.0) h.0 rule.stands in
    let same : rule.argument ≡ a = one_under rule.argument a (over (core.Not rule.argument) stands) in
    elim rule.answer [
      | inl p ↦ moved before rule.argument (truth_term true) a other same (sym (when_false p.1)) p.0
      | inr p ↦ moved before rule.argument (truth_term false) a other same (sym (when_true p.1)) p.0
    ]
