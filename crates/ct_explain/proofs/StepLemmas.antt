-- The steps of reasons.
use Rattle.std.proofs.Common.{◌≡◌, ℕ, ◌+◌, ◌<◌, List, [], ◌∷◌, ◌++◌, length, take, get_or, refl, sym, ap, subst, ◌∙◌}
use Rattle.std.proofs.lemmas.List.{append_assoc}
use Rattle.std.proofs.lemmas.Option.{same_Some, slice_get-get_or}
use Rattle.ct_lemmas.proofs.Lists.{slice_get-append_left}
use Rattle.ct_lemmas.proofs.Prefixes.{take-slice_get_next}
use Rattle.ct_terms.specs.declared.ids.TermId.{TermId}
use Rattle.ct_terms.specs.declared.ids.Lit.{Lit}
use Rattle.ct_terms.specs.declared.term.Core.{Core}
use Rattle.ct_terms.specs.Children.{core_head, core_children}
use Rattle.ct_terms.specs.Terms.{Terms, Has}
use Rattle.ct_rules.specs.declared.equation.Equation.{Equation}
use Rattle.ct_log.specs.declared.rules.EqStep.{EqStep}
use Rattle.ct_log.specs.declared.rules.EqStep.TheVariants as step
use Rattle.ct_log.specs.Equations.{Gave, GaveEach, equation}
use Rattle.ct_congr.specs.declared.merge.Reason.{Reason}
use Rattle.ct_congr.specs.declared.merge.Reason.TheVariants as reason
use Rattle.ct_congr.specs.State.{State}
use Rattle.ct_explain.specs.declared.premises.Rule.{Rule}
use Rattle.ct_explain.specs.declared.premises.Rule.TheVariants.{Inject, Sel, Test, Expand, EqualIn, EqualOut, Neg}
use Rattle.ct_explain.specs.Writing.{Written, Told, ToldEach, Names, IsStep, HasWrittenMore}
use Rattle.ct_explain.specs.Premises.{HasReason, IsPremise, step_by}

-- one number has one term
pub Has-same : (terms : Terms) (a b : Core) (t : ℕ) → Has terms a t → Has terms b t → a ≡ b
Has-same terms a b t at_a at_b = ap (λ e. e.0) (same_Some (a, at_a.0) (b, at_b.0) (sym at_a.1 ∙ at_b.1))

-- the reason of a merge, in the state's terms
abbrev pub Follows : State → TermId → TermId → Reason → Type 0
Follows state x y why = HasReason state.declarations state.terms state.hypotheses x y why

pub hypothesis_step : (state : State) (w : Written) (l : Lit) (x y : TermId) → Follows state x y (reason.Hyp l) → IsStep state w (step.Hyp l) x y
hypothesis_step state w l x y h = record { names = h.1.0; gives = λ clause before long opposes. (opposes, h.1.1.0, h.1.1.1) }

pub single_step : (state : State) (w : Written) (x y : TermId) → Follows state x y reason.Single → IsStep state w (step.Single x y) x y
single_step state w x y h = record { names = tt; gives = λ clause before long opposes. (refl, refl, h.1) }

-- a rule with one premise names no hypothesis
rule_names : (hyps : List Lit) (rule : Rule) (i : ℕ) → Names hyps (step_by rule i)
rule_names hyps (Inject k) i = tt
rule_names hyps (Sel t) i = tt
rule_names hyps (Test t) i = tt
rule_names hyps (Expand c) i = tt
rule_names hyps (EqualIn t) i = tt
rule_names hyps EqualOut i = tt
rule_names hyps (Neg t) i = tt

pub lone_step : (state : State) (w : Written) (terms : Terms) (why : Reason) (l r : TermId) (rule : Rule) (x y : TermId) (i : ℕ) (s : EqStep)
    → terms ≡ state.terms → IsPremise terms why l r rule x y → Follows state l r why → Told w i x y → s ≡ step_by rule i → IsStep state w s l r
lone_step state w terms why l r rule x y i s same enough h told is =
    let premise : IsPremise state.terms why l r rule x y = subst (λ (q : Terms). IsPremise q why l r rule x y) same enough in
    let exact : IsStep state w (step_by rule i) l r = record {
      names = rule_names state.hypotheses rule i;
      gives = λ clause before long opposes. premise state.declarations state.hypotheses h clause (before ++ w.stated) i (told before long);
    } in
    subst (λ (q : EqStep). IsStep state w q l r) (sym is) exact

-- two terms with one head, and steps for the equations of their arguments
pub congruence_step : (state : State) (w : Written) (terms : Terms) (t u x y : TermId) (left right : Core) (xs ys : List TermId) (steps numbers : List ℕ)
    → terms ≡ state.terms → Follows state x y (reason.Cong t u) → Has terms left t.0 → Has terms right u.0
    → xs ≡ core_children left → ys ≡ core_children right → steps ≡ numbers → ToldEach w numbers xs ys
    → IsStep state w (step.Cong t u steps) x y
congruence_step state w terms t u x y left right xs ys steps numbers same h stands_left stands_right xs_are ys_are steps_are told =
    let rule = h.1.2 in
    let at_left : Has state.terms left t.0 = subst (λ (q : Terms). Has q left t.0) same stands_left in
    let at_right : Has state.terms right u.0 = subst (λ (q : Terms). Has q right u.0) same stands_right in
    let is_left : rule.left ≡ left = Has-same state.terms rule.left left t.0 (subst (λ (q : TermId). Has state.terms rule.left q.0) h.1.0 rule.left_stands) at_left in
    let is_right : rule.right ≡ right = Has-same state.terms rule.right right u.0 (subst (λ (q : TermId). Has state.terms rule.right q.0) h.1.1 rule.right_stands) at_right in
    let exact : ToldEach w steps (core_children left) (core_children right) = λ before long.
    subst (λ (ns : List ℕ). GaveEach (before ++ w.stated) ns (core_children left) (core_children right)) (sym steps_are)
    (subst (λ (l : List TermId). GaveEach (before ++ w.stated) numbers l (core_children right)) xs_are
    (subst (λ (l : List TermId). GaveEach (before ++ w.stated) numbers xs l) ys_are (told before long))) in
    record {
      names = tt;
      gives = λ clause before long opposes. (
        h.1.0,
        h.1.1,
        record {
          left = left;
          right = right;
          left_stands = at_left;
          right_stands = at_right;
          head = sym (ap core_head is_left) ∙ rule.head ∙ ap core_head is_right;
          arguments = exact before long;
        },
      );
    }

-- with one more at the end
GaveEach-push : (given : List Equation) (ns : List ℕ) (xs ys : List TermId) (n : ℕ) (x y : TermId) → GaveEach given ns xs ys → Gave given n x y → GaveEach given (ns ++ n ∷ []) (xs ++ x ∷ []) (ys ++ y ∷ [])
GaveEach-push given [] [] [] n x y each last = (last, tt)
GaveEach-push given [] [] (b ∷ ys) n x y each last = absurd each
GaveEach-push given [] (a ∷ xs) [] n x y each last = absurd each
GaveEach-push given [] (a ∷ xs) (b ∷ ys) n x y each last = absurd each
GaveEach-push given (m ∷ ns) [] [] n x y each last = absurd each
GaveEach-push given (m ∷ ns) [] (b ∷ ys) n x y each last = absurd each
GaveEach-push given (m ∷ ns) (a ∷ xs) [] n x y each last = absurd each
GaveEach-push given (m ∷ ns) (a ∷ xs) (b ∷ ys) n x y each last = (each.0, GaveEach-push given ns xs ys n x y each.1 last)

-- after more equations
GaveEach-more : (given more : List Equation) (ns : List ℕ) (xs ys : List TermId) → GaveEach given ns xs ys → GaveEach (given ++ more) ns xs ys
GaveEach-more given more [] [] [] each = tt
GaveEach-more given more [] [] (b ∷ ys) each = absurd each
GaveEach-more given more [] (a ∷ xs) [] each = absurd each
GaveEach-more given more [] (a ∷ xs) (b ∷ ys) each = absurd each
GaveEach-more given more (m ∷ ns) [] [] each = absurd each
GaveEach-more given more (m ∷ ns) [] (b ∷ ys) each = absurd each
GaveEach-more given more (m ∷ ns) (a ∷ xs) [] each = absurd each
GaveEach-more given more (m ∷ ns) (a ∷ xs) (b ∷ ys) each = (slice_get-append_left given more m (equation a b) each.0, GaveEach-more given more ns xs ys each.1)

ToldEach-later : (state : State) (old new : Written) (ns : List ℕ) (xs ys : List TermId) → HasWrittenMore state old new → ToldEach old ns xs ys → ToldEach new ns xs ys
ToldEach-later state old new ns xs ys grown told = λ before long.
    subst (λ (l : List Equation). GaveEach (before ++ l) ns xs ys) (sym grown.stated)
    (subst (λ (l : List Equation). GaveEach l ns xs ys) (append_assoc before old.stated grown.more)
    (GaveEach-more (before ++ old.stated) grown.more ns xs ys (told before (long ∙ grown.first))))

-- the steps of the next two terms after those of the terms before
pub ToldEach-next : (state : State) (old new : Written) (ns all : List ℕ) (xs ys : List TermId) (i n : ℕ) (d e : TermId)
    → HasWrittenMore state old new → i < length xs → length xs ≡ length ys → all ≡ ns ++ n ∷ []
    → ToldEach old ns (take i xs) (take i ys) → Told new n (get_or xs i d) (get_or ys i e)
    → ToldEach new all (take (i + 1) xs) (take (i + 1) ys)
ToldEach-next state old new ns all xs ys i n d e grown within long all_are told last =
    let x_at = slice_get-get_or xs i d within in
    let y_at = slice_get-get_or ys i e (subst (λ (m : ℕ). i < m) long within) in
    let now = ToldEach-later state old new ns (take i xs) (take i ys) grown told in
    λ before first. rw (all_are, take-slice_get_next xs i (get_or xs i d) x_at, take-slice_get_next ys i (get_or ys i e) y_at)
    (GaveEach-push (before ++ new.stated) ns (take i xs) (take i ys) n (get_or xs i d) (get_or ys i e) (now before first) (last before first))
