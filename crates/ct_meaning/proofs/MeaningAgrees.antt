-- A formula means the same where its variables stand for values that are the same.
use Rattle.std.proofs.Common.{◌≡◌, ℕ, zero, suc, Bool, false, not, ◌==◌, List, [], ◌∷◌, ◌++◌, length, map, Option, Some, None, slice_get, refl, ap, ◌∙◌}
use Rattle.std.specs.List.{AllZip}
use Rattle.ct_sorts.specs.declared.ids.DefId.{DefId}
use Rattle.ct_sorts.specs.Declarations.{Declarations}
use Rattle.ct_values.specs.Value.{Value}
use Rattle.ct_formulas.specs.declared.tree.Pattern.{Pattern}
use Rattle.ct_formulas.specs.declared.tree.Pattern.TheVariants.{Ctor, Any}
use Rattle.ct_formulas.specs.declared.tree.Quantifier.{Quantifier}
use Rattle.ct_formulas.specs.declared.tree.Quantifier.TheVariants.{Forall, Exists}
use Rattle.ct_listing.specs.Closed.{ClosedValue, value_of}
use Rattle.ct_formulas.specs.Choices.{choices_of}
use Rattle.ct_formulas.specs.Formula.{Formula, Formulas, Cases, Var, Con, Sel, Test, Apply, Def, Not, And, Or, Xor, Implies, Equal, Distinct, Ite, Let, Match, Quantified, no_formulas, with_formula, no_cases, with_case, bind}
use Rattle.ct_formulas.specs.Pairs.{neighbours_from, pairs}
use Rattle.ct_formulas.specs.Calls.{body_call, calls_below, calls}
use Rattle.ct_eval.specs.declared.interp.Interp.{Interp}
use Rattle.ct_values.specs.TruthValue.{truth, is_true}
use Rattle.ct_eval.specs.Evaluation.{is_same}
use Rattle.ct_meaning.specs.Meaning.{xor_all, implies_all, all_true, are_chained, holds, fits, matched_values, meaning, meanings, case_meaning, eval, Agree}
use Rattle.ct_meaning.proofs.MeaningFacts.{Facts, AllZip-bind, AllZip-either, zip_mapped, agree_equal, agree_truth, built_agrees, true_agrees, same_agrees, given_agrees, select_agrees, choice_agrees, truths_agree, all_agree, any_agree}

module _ (d : Declarations) (i : Interp) (facts : Facts d i) where
  -- which neighbours and which pairs are the same
  neighbours_agree : (v w : Value) (vs ws : List Value) → Agree i v w → AllZip (Agree i) vs ws → neighbours_from (is_same i.graph) v vs ≡ neighbours_from (is_same i.graph) w ws
  neighbours_agree v w [] [] h k = refl
  neighbours_agree v w [] (y ∷ ws) h k = absurd k
  neighbours_agree v w (x ∷ vs) [] h k = absurd k
  neighbours_agree v w (x ∷ vs) (y ∷ ws) h k =
      ap (λ (b : Bool). b ∷ neighbours_from (is_same i.graph) x vs) (same_agrees d i facts v x w y h k.0) ∙ ap (λ (bs : List Bool). is_same i.graph w y ∷ bs) (neighbours_agree x y vs ws k.0 k.1)

  chained_agree : (vs ws : List Value) → AllZip (Agree i) vs ws → are_chained i.graph vs ≡ are_chained i.graph ws
  chained_agree [] [] h = refl
  chained_agree [] (w ∷ ws) h = absurd h
  chained_agree (v ∷ vs) [] h = absurd h
  chained_agree (v ∷ vs) (w ∷ ws) h = ap all_true (neighbours_agree v w vs ws h.0 h.1)

  differ_agree : (v w : Value) (vs ws : List Value) → Agree i v w → AllZip (Agree i) vs ws → map (λ x. not (is_same i.graph v x)) vs ≡ map (λ x. not (is_same i.graph w x)) ws
  differ_agree v w [] [] h k = refl
  differ_agree v w [] (y ∷ ws) h k = absurd k
  differ_agree v w (x ∷ vs) [] h k = absurd k
  differ_agree v w (x ∷ vs) (y ∷ ws) h k =
      ap (λ (b : Bool). not b ∷ map (λ u. not (is_same i.graph v u)) vs) (same_agrees d i facts v x w y h k.0) ∙ ap (λ (bs : List Bool). not (is_same i.graph w y) ∷ bs) (differ_agree v w vs ws h k.1)

  pairs_agree : (vs ws : List Value) → AllZip (Agree i) vs ws → pairs (λ v w. not (is_same i.graph v w)) vs ≡ pairs (λ v w. not (is_same i.graph v w)) ws
  pairs_agree [] [] h = refl
  pairs_agree [] (w ∷ ws) h = absurd h
  pairs_agree (v ∷ vs) [] h = absurd h
  pairs_agree (v ∷ vs) (w ∷ ws) h =
      ap (λ (bs : List Bool). bs ++ pairs (λ x y. not (is_same i.graph x y)) vs) (differ_agree v w vs ws h.0 h.1) ∙ ap (λ (bs : List Bool). map (λ x. not (is_same i.graph w x)) ws ++ bs) (pairs_agree vs ws h.1)

  -- a pattern fits both or neither of two values that are the same, and binds the same of both
  fits_agree : (p : Pattern) (v w : Value) → Agree i v w → fits i.graph p v ≡ fits i.graph p w
  fits_agree (Ctor c) v w h = built_agrees d i facts c v w h
  fits_agree Any v w h = refl

  bound_agree : (p : Pattern) (v w : Value) → Agree i v w → AllZip (Agree i) (matched_values i.graph p v) (matched_values i.graph p w)
  bound_agree (Ctor c) v w h = facts.children v w h
  bound_agree Any v w h = (h, tt)

  -- so are the values of a quantifier's body
  holds_agree : (q : Quantifier) (vs ws : List Value) → AllZip (Agree i) vs ws → holds q i.graph vs ≡ holds q i.graph ws
  holds_agree Forall vs ws h = all_agree d i facts vs ws h
  holds_agree Exists vs ws h = any_agree d i facts vs ws h

  themselves : (vs : List Value) → AllZip (Agree i) vs vs
  themselves [] = tt
  themselves (v ∷ vs) = (facts.itself v, themselves vs)

  -- what definitions give for values that are the same is the same
  abbrev GiveSame : (DefId → List Value → Value) → Type 0
  GiveSame call = (k : DefId) (vs ws : List Value) → AllZip (Agree i) vs ws → Agree i (call k vs) (call k ws)

  module _ (call : DefId → List Value → Value) (give : GiveSame call) where
    mutual
      pub meaning_agrees : (t : Formula) (env others : List Value) → AllZip (Agree i) env others → Agree i (meaning d i call env t) (meaning d i call others t)
      meaning_agrees (Var k) env others h = AllZip-either (Agree i) env others k (truth false) (truth false) h (facts.itself (truth false))
      meaning_agrees (Con c ts) env others h = facts.joined c (meanings d i call env ts) (meanings d i call others ts) (meanings_agree ts env others h)
      meaning_agrees (Sel s t) env others h = select_agrees d i facts s (slice_get d.sels s.0) (meaning d i call env t) (meaning d i call others t) (meaning_agrees t env others h)
      meaning_agrees (Test c t) env others h = agree_truth d i facts _ _ (built_agrees d i facts c (meaning d i call env t) (meaning d i call others t) (meaning_agrees t env others h))
      meaning_agrees (Apply f ts) env others h = agree_equal d i facts _ _ (given_agrees d i facts (slice_get i.funs f.0) (meanings d i call env ts) (meanings d i call others ts) (meanings_agree ts env others h))
      meaning_agrees (Def k ts) env others h = give k (meanings d i call env ts) (meanings d i call others ts) (meanings_agree ts env others h)
      meaning_agrees (Not t) env others h = agree_truth d i facts _ _ (ap not (true_agrees d i facts (meaning d i call env t) (meaning d i call others t) (meaning_agrees t env others h)))
      meaning_agrees (And ts) env others h = agree_truth d i facts _ _ (all_agree d i facts (meanings d i call env ts) (meanings d i call others ts) (meanings_agree ts env others h))
      meaning_agrees (Or ts) env others h = agree_truth d i facts _ _ (any_agree d i facts (meanings d i call env ts) (meanings d i call others ts) (meanings_agree ts env others h))
      meaning_agrees (Xor ts) env others h = agree_truth d i facts _ _ (ap xor_all (truths_agree d i facts (meanings d i call env ts) (meanings d i call others ts) (meanings_agree ts env others h)))
      meaning_agrees (Implies ts) env others h = agree_truth d i facts _ _ (ap implies_all (truths_agree d i facts (meanings d i call env ts) (meanings d i call others ts) (meanings_agree ts env others h)))
      meaning_agrees (Equal ts) env others h = agree_truth d i facts _ _ (chained_agree (meanings d i call env ts) (meanings d i call others ts) (meanings_agree ts env others h))
      meaning_agrees (Distinct ts) env others h = agree_truth d i facts _ _ (ap all_true (pairs_agree (meanings d i call env ts) (meanings d i call others ts) (meanings_agree ts env others h)))
      meaning_agrees (Ite c t u) env others h =
          choice_agrees d i facts (is_true i.graph (meaning d i call env c)) (is_true i.graph (meaning d i call others c)) (meaning d i call env t) (meaning d i call env u) (meaning d i call others t) (meaning d i call others u)
          (true_agrees d i facts (meaning d i call env c) (meaning d i call others c) (meaning_agrees c env others h)) (meaning_agrees t env others h) (meaning_agrees u env others h)
      meaning_agrees (Let ts u) env others h =
          meaning_agrees u (bind (meanings d i call env ts) env) (bind (meanings d i call others ts) others)
          (AllZip-bind (Agree i) (meanings d i call env ts) (meanings d i call others ts) env others (meanings_agree ts env others h) h)
      meaning_agrees (Match t cases) env others h = cases_agree cases env others (meaning d i call env t) (meaning d i call others t) h (meaning_agrees t env others h)
      meaning_agrees (Quantified q sorts t) env others h =
          let one : List ClosedValue → Value = λ vs. meaning d i call (bind (map value_of vs) env) t in
          let other : List ClosedValue → Value = λ vs. meaning d i call (bind (map value_of vs) others) t in
          agree_truth d i facts _ _
          (holds_agree q (map one (choices_of d sorts)) (map other (choices_of d sorts))
          (zip_mapped (Agree i) one other (choices_of d sorts) (λ vs inside.
          meaning_agrees t (bind (map value_of vs) env) (bind (map value_of vs) others) (AllZip-bind (Agree i) (map value_of vs) (map value_of vs) env others (themselves (map value_of vs)) h))))

      meanings_agree : (ts : Formulas) (env others : List Value) → AllZip (Agree i) env others → AllZip (Agree i) (meanings d i call env ts) (meanings d i call others ts)
      meanings_agree no_formulas env others h = tt
      meanings_agree (with_formula t ts) env others h = (meaning_agrees t env others h, meanings_agree ts env others h)

      cases_agree : (cases : Cases) (env others : List Value) (v w : Value) → AllZip (Agree i) env others → Agree i v w → Agree i (case_meaning d i call env v cases) (case_meaning d i call others w cases)
      cases_agree no_cases env others v w h k = facts.itself (truth false)
      cases_agree (with_case p body cases) env others v w h k =
          choice_agrees d i facts (fits i.graph p v) (fits i.graph p w) (meaning d i call (bind (matched_values i.graph p v) env) body) (case_meaning d i call env v cases) (meaning d i call (bind (matched_values i.graph p w) others) body) (case_meaning d i call others w cases)
          (fits_agree p v w k)
          (meaning_agrees body (bind (matched_values i.graph p v) env) (bind (matched_values i.graph p w) others) (AllZip-bind (Agree i) (matched_values i.graph p v) (matched_values i.graph p w) env others (bound_agree p v w k) h))
          (cases_agree cases env others v w h k)

  -- so it is with definitions
  module _ (bodies : List Formula) where
    body_same : (n : ℕ) (o : Option Formula) (vs ws : List Value) → GiveSame (calls_below (meaning d i) (truth false) bodies n) → AllZip (Agree i) vs ws → Agree i (body_call (meaning d i) (truth false) (calls_below (meaning d i) (truth false) bodies n) o vs) (body_call (meaning d i) (truth false) (calls_below (meaning d i) (truth false) bodies n) o ws)
    body_same n None vs ws give h = facts.itself (truth false)
    body_same n (Some body) vs ws give h = meaning_agrees (calls_below (meaning d i) (truth false) bodies n) give body (bind vs []) (bind ws []) (AllZip-bind (Agree i) vs ws [] [] h tt)

    calls_agree : (n : ℕ) → GiveSame (calls_below (meaning d i) (truth false) bodies n)
    unfolding calls_below
    calls_agree zero k vs ws h = facts.itself (truth false)
    calls_agree (suc n) k vs ws h =
        choice_agrees d i facts (k.0 == n) (k.0 == n) _ _ _ _ refl (body_same n (slice_get bodies n) vs ws (calls_agree n) h) (calls_agree n k vs ws h)

    pub eval_agrees : (t : Formula) (env others : List Value) → AllZip (Agree i) env others → Agree i (eval d i bodies env t) (eval d i bodies others t)
    eval_agrees t env others h = meaning_agrees (calls (meaning d i) (truth false) bodies) (calls_agree (length bodies)) t env others h
