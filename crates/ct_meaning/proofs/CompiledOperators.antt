-- What the core terms of operators on several formulas mean.
use Rattle.std.proofs.Common.{◌≡◌, ℕ, Bool, true, false, not, ◌&&◌, ◌||◌, ◌==◌, IsTrue, List, [], ◌∷◌, ◌++◌, map, if◌then◌else◌, refl, sym, ap, subst, ◌∙◌, true≢false}
use Rattle.std.specs.List.{AllZip, AllByRecursion, fold, list_all, list_any}
use Rattle.ct_lemmas.proofs.Booleans.{by_test, or_false}
use Rattle.ct_lemmas.proofs.Numbers.{same_number}
use Rattle.ct_sorts.specs.declared.ids.SortId.{SortId}
use Rattle.ct_sorts.specs.Declarations.{Declarations, bool_sort}
use Rattle.ct_values.specs.Value.{Value}
use Rattle.ct_values.specs.ValueSort.{HasValueSort}
use Rattle.ct_terms.specs.CoreTree.{CoreTree, equation, equivalence, trees_of}
use Rattle.ct_terms.specs.CoreSorts.{HasTreeSort, tree_sort}
use Rattle.ct_formulas.specs.Pairs.{neighbours_from, neighbours, pairs}
use Rattle.ct_formulas.specs.Compiled.{all_of, any_of, exclusive, exclusive_of, implied_from, implication_of, equality, inequality}
use Rattle.ct_eval.specs.declared.interp.Interp.{Interp}
use Rattle.ct_values.specs.TruthValue.{truth, is_true}
use Rattle.ct_eval.specs.Evaluation.{is_same}
use Rattle.ct_eval.specs.TreeValue.{tree_value, tree_values}
use Rattle.ct_meaning.specs.Meaning.{xor, xor_all, implies_from, implies_all, all_true, are_chained, are_distinct, Agree, Means}
use Rattle.ct_meaning.proofs.MeaningFacts.{Facts, agree_truth, true_agrees, same_agrees, all_agree, any_agree}
use Rattle.ct_eval.proofs.StepTruth.{one_answer}

-- `and` with what is true changes nothing, nor `or` with what is false
and_true : (b : Bool) → (b && true) ≡ b
and_true true = refl
and_true false = refl

module _ (d : Declarations) (i : Interp) (facts : Facts d i) where
  -- a truth value is `true` just where it is
  pub truth_is : (b : Bool) → is_true i.graph (truth b) ≡ b
  truth_is true = refl
  truth_is false = refl

  -- the values of trees made of a list are the same as values that the trees mean
  pub values_mean : (ts : List CoreTree) (vs : List Value) → AllZip (Means d i) ts vs → AllZip (Agree i) (tree_values d i (trees_of ts)) vs
  values_mean [] [] h = tt
  values_mean [] (v ∷ vs) h = absurd h
  values_mean (t ∷ ts) [] h = absurd h
  values_mean (t ∷ ts) (v ∷ vs) h = (h.0, values_mean ts vs h.1)

  -- the value is Boolean, and the term means it: then it means the truth value
  as_truth : (t : CoreTree) (v : Value) → HasValueSort d i.graph v bool_sort → Means d i t v → Means d i t (truth (is_true i.graph v))
  as_truth t v of h = facts.chained (tree_value d i t) v (truth (is_true i.graph v)) h (facts.boolean v of)

  abbrev AreBoolean : List Value → Type 0
  AreBoolean vs = AllByRecursion (λ v. HasValueSort d i.graph v bool_sort) vs

  pub all_of_means : (ts : List CoreTree) (vs : List Value) → AllZip (Means d i) ts vs → AreBoolean vs → Means d i (all_of ts) (truth (list_all (is_true i.graph) vs))
  all_of_means [] [] h of = facts.itself (truth true)
  all_of_means [] (v ∷ vs) h of = absurd h
  all_of_means (t ∷ ts) [] h of = absurd h
  all_of_means (t ∷ []) (v ∷ []) h of = subst (λ (b : Bool). Means d i t (truth b)) (sym (and_true (is_true i.graph v))) (as_truth t v of.0 h.0)
  all_of_means (t ∷ []) (v ∷ w ∷ vs) h of = absurd h.1
  all_of_means (t ∷ u ∷ ts) (v ∷ vs) h of = agree_truth d i facts _ _ (all_agree d i facts (tree_values d i (trees_of (t ∷ u ∷ ts))) (v ∷ vs) (values_mean (t ∷ u ∷ ts) (v ∷ vs) h))

  pub any_of_means : (ts : List CoreTree) (vs : List Value) → AllZip (Means d i) ts vs → AreBoolean vs → Means d i (any_of ts) (truth (list_any (is_true i.graph) vs))
  any_of_means [] [] h of = facts.itself (truth false)
  any_of_means [] (v ∷ vs) h of = absurd h
  any_of_means (t ∷ ts) [] h of = absurd h
  any_of_means (t ∷ []) (v ∷ []) h of = subst (λ (b : Bool). Means d i t (truth b)) (sym (or_false (is_true i.graph v))) (as_truth t v of.0 h.0)
  any_of_means (t ∷ []) (v ∷ w ∷ vs) h of = absurd h.1
  any_of_means (t ∷ u ∷ ts) (v ∷ vs) h of = agree_truth d i facts _ _ (any_agree d i facts (tree_values d i (trees_of (t ∷ u ∷ ts))) (v ∷ vs) (values_mean (t ∷ u ∷ ts) (v ∷ vs) h))

  -- what a term that means a truth value is, by its test
  tested : (t : CoreTree) (b : Bool) → Means d i t (truth b) → is_true i.graph (tree_value d i t) ≡ b
  tested t b h = true_agrees d i facts (tree_value d i t) (truth b) h ∙ truth_is b

  -- exclusive disjunction
  same_xor : (a b : Bool) → not (if a then b else not b) ≡ xor a b
  same_xor true b = refl
  same_xor false true = refl
  same_xor false false = refl

  exclusive_means : (t u : CoreTree) (a b : Bool) → Means d i t (truth a) → Means d i u (truth b) → Means d i (exclusive t u) (truth (xor a b))
  exclusive_means t u a b h k =
      let iff : Bool → Bool → Bool = λ x y. if x then y else not y in
      agree_truth d i facts _ _
      (ap not (truth_is (iff (is_true i.graph (tree_value d i t)) (is_true i.graph (tree_value d i u))))
      ∙ ap (λ (x : Bool). not (iff x (is_true i.graph (tree_value d i u)))) (tested t a h)
      ∙ ap (λ (x : Bool). not (iff a x)) (tested u b k)
      ∙ same_xor a b)

  exclusive_all : (t : CoreTree) (b : Bool) (ts : List CoreTree) (vs : List Value) → Means d i t (truth b) → AllZip (Means d i) ts vs → AreBoolean vs → Means d i (fold exclusive t ts) (truth (fold xor b (map (is_true i.graph) vs)))
  exclusive_all t b [] [] h k of = h
  exclusive_all t b [] (v ∷ vs) h k of = absurd k
  exclusive_all t b (u ∷ ts) [] h k of = absurd k
  exclusive_all t b (u ∷ ts) (v ∷ vs) h k of =
      exclusive_all (exclusive t u) (xor b (is_true i.graph v)) ts vs (exclusive_means t u b (is_true i.graph v) h (as_truth u v of.0 k.0)) k.1 of.1

  pub exclusive_of_means : (ts : List CoreTree) (vs : List Value) → AllZip (Means d i) ts vs → AreBoolean vs → Means d i (exclusive_of ts) (truth (xor_all (map (is_true i.graph) vs)))
  exclusive_of_means [] [] h of = facts.itself (truth false)
  exclusive_of_means [] (v ∷ vs) h of = absurd h
  exclusive_of_means (t ∷ ts) [] h of = absurd h
  exclusive_of_means (t ∷ ts) (v ∷ vs) h of = exclusive_all t (is_true i.graph v) ts vs (as_truth t v of.0 h.0) h.1 of.1

  -- implication
  implied_means : (t : CoreTree) (b : Bool) (ts : List CoreTree) (vs : List Value) → Means d i t (truth b) → AllZip (Means d i) ts vs → AreBoolean vs → Means d i (implied_from t ts) (truth (implies_from b (map (is_true i.graph) vs)))
  implied_means t b [] [] h k of = h
  implied_means t b [] (v ∷ vs) h k of = absurd k
  implied_means t b (u ∷ ts) [] h k of = absurd k
  implied_means t b (u ∷ ts) (v ∷ vs) h k of =
      let rest = implied_means u (is_true i.graph v) ts vs (as_truth u v of.0 k.0) k.1 of.1 in
      let r : Bool = is_true i.graph (tree_value d i (implied_from u ts)) in
      agree_truth d i facts _ _
      (ap (λ (x : Bool). x || (r || false)) (truth_is (not (is_true i.graph (tree_value d i t))))
      ∙ ap (λ (x : Bool). not x || (r || false)) (tested t b h)
      ∙ ap (λ (x : Bool). not b || x) (or_false r ∙ tested (implied_from u ts) (implies_from (is_true i.graph v) (map (is_true i.graph) vs)) rest))

  pub implication_of_means : (ts : List CoreTree) (vs : List Value) (t : CoreTree) (v : Value) → AllZip (Means d i) (t ∷ ts) (v ∷ vs) → AreBoolean (v ∷ vs) → Means d i (implication_of (t ∷ ts)) (truth (implies_all (map (is_true i.graph) (v ∷ vs))))
  implication_of_means ts vs t v h of = implied_means t (is_true i.graph v) ts vs (as_truth t v of.0 h.0) h.1 of.1

  -- two truth values are the same where they are one
  truths_same : (a b : Bool) → is_same i.graph (truth a) (truth b) ≡ (if a then b else not b)
  truths_same a b =
      one_answer (is_same i.graph (truth a) (truth b)) (if a then b else not b) (Agree i (truth a) (truth b)) (facts.decided (truth a) (truth b)) (alike a b)
    where
      alike : (a b : Bool) → (IsTrue (if a then b else not b) → Agree i (truth a) (truth b)) × (Agree i (truth a) (truth b) → IsTrue (if a then b else not b))
      alike true true = (λ e. facts.itself (truth true), λ h. refl)
      alike false false = (λ e. facts.itself (truth false), λ h. refl)
      alike true false = (λ e. absurd (true≢false (sym e)), λ h. absurd (true≢false (true_agrees d i facts (truth true) (truth false) h)))
      alike false true = (λ e. absurd (true≢false (sym e)), λ h. absurd (true≢false (sym (true_agrees d i facts (truth false) (truth true) h))))

  -- the term is this truth value
  abbrev pub IsAnswer : CoreTree → Bool → Type 0
  IsAnswer t b = tree_value d i t ≡ truth b

  -- the equality of terms of one sort says whether their values are equal
  pub equality_answers : (side : SortId) (t u : CoreTree) (v w : Value) → HasTreeSort d t side → tree_sort d t ≡ side → HasValueSort d i.graph v side → HasValueSort d i.graph w side → Means d i t v → Means d i u w → IsAnswer (equality d t u) (is_same i.graph v w)
  equality_answers side t u v w of read of_v of_w h k =
      by_test (λ (x : CoreTree). IsAnswer x (is_same i.graph v w)) ((tree_sort d t).0 == 0) (equivalence t u) (equation t u)
      (λ e.
      let same : side ≡ bool_sort = sym read ∙ ap sort_of (same_number (tree_sort d t).0 0 e) in
      let bool_v = subst (HasValueSort d i.graph v) same of_v in
      let bool_w = subst (HasValueSort d i.graph w) same of_w in
      let iff : Bool → Bool → Bool = λ x y. if x then y else not y in
      ap truth
      (ap (λ (x : Bool). iff x (is_true i.graph (tree_value d i u))) (true_agrees d i facts (tree_value d i t) v h)
      ∙ ap (iff (is_true i.graph v)) (true_agrees d i facts (tree_value d i u) w k)
      ∙ sym (truths_same (is_true i.graph v) (is_true i.graph w))
      ∙ sym (same_agrees d i facts v w (truth (is_true i.graph v)) (truth (is_true i.graph w)) (facts.boolean v bool_v) (facts.boolean w bool_w))))
      (λ e. ap truth (same_agrees d i facts (tree_value d i t) (tree_value d i u) v w h k))
    where
      sort_of : ℕ → SortId
      sort_of n = record { 0 = n }

  -- the conjunction of answers says whether all of them are true
  answers_all : (ts : List CoreTree) (bs : List Bool) → AllZip IsAnswer ts bs → list_all (is_true i.graph) (tree_values d i (trees_of ts)) ≡ all_true bs
  answers_all [] [] h = refl
  answers_all [] (b ∷ bs) h = absurd h
  answers_all (t ∷ ts) [] h = absurd h
  answers_all (t ∷ ts) (b ∷ bs) h =
      ap (λ (x : Bool). x && list_all (is_true i.graph) (tree_values d i (trees_of ts))) (ap (is_true i.graph) h.0 ∙ truth_is b) ∙ ap (λ (x : Bool). b && x) (answers_all ts bs h.1)

  all_of_answers : (ts : List CoreTree) (bs : List Bool) → AllZip IsAnswer ts bs → tree_value d i (all_of ts) ≡ truth (all_true bs)
  all_of_answers [] [] h = refl
  all_of_answers [] (b ∷ bs) h = absurd h
  all_of_answers (t ∷ ts) [] h = absurd h
  all_of_answers (t ∷ []) (b ∷ []) h = h.0 ∙ ap truth (sym (and_true b))
  all_of_answers (t ∷ []) (b ∷ c ∷ bs) h = absurd h.1
  all_of_answers (t ∷ u ∷ ts) (b ∷ bs) h = ap truth (answers_all (t ∷ u ∷ ts) (b ∷ bs) h)

  -- the terms are of the sort, and mean values of the sort
  abbrev pub AreOfOne : SortId → List CoreTree → List Value → Type 0
  AreOfOne side ts vs = AllZip (λ t v. HasTreeSort d t side × (tree_sort d t ≡ side) × HasValueSort d i.graph v side × Means d i t v) ts vs

  neighbours_answer : (side : SortId) (t : CoreTree) (v : Value) (ts : List CoreTree) (vs : List Value) → AreOfOne side (t ∷ ts) (v ∷ vs) → AllZip IsAnswer (neighbours_from (equality d) t ts) (neighbours_from (is_same i.graph) v vs)
  neighbours_answer side t v [] [] h = tt
  neighbours_answer side t v [] (w ∷ vs) h = absurd h.1
  neighbours_answer side t v (u ∷ ts) [] h = absurd h.1
  neighbours_answer side t v (u ∷ ts) (w ∷ vs) h =
      (equality_answers side t u v w h.0.0 h.0.1 h.0.2 h.1.0.2 h.0.3 h.1.0.3, neighbours_answer side u w ts vs h.1)

  pub equal_means : (side : SortId) (ts : List CoreTree) (vs : List Value) → AreOfOne side ts vs → tree_value d i (all_of (neighbours (equality d) ts)) ≡ truth (are_chained i.graph vs)
  equal_means side [] [] h = refl
  equal_means side [] (v ∷ vs) h = absurd h
  equal_means side (t ∷ ts) [] h = absurd h
  equal_means side (t ∷ ts) (v ∷ vs) h = all_of_answers (neighbours_from (equality d) t ts) (neighbours_from (is_same i.graph) v vs) (neighbours_answer side t v ts vs h)

  append_answers : (ts us : List CoreTree) (bs cs : List Bool) → AllZip IsAnswer ts bs → AllZip IsAnswer us cs → AllZip IsAnswer (ts ++ us) (bs ++ cs)
  append_answers [] us [] cs h k = k
  append_answers [] us (b ∷ bs) cs h k = absurd h
  append_answers (t ∷ ts) us [] cs h k = absurd h
  append_answers (t ∷ ts) us (b ∷ bs) cs h k = (h.0, append_answers ts us bs cs h.1 k)

  differ_answer : (side : SortId) (t : CoreTree) (v : Value) (ts : List CoreTree) (vs : List Value) → HasTreeSort d t side → tree_sort d t ≡ side → HasValueSort d i.graph v side → Means d i t v → AreOfOne side ts vs → AllZip IsAnswer (map (inequality d t) ts) (map (λ w. not (is_same i.graph v w)) vs)
  differ_answer side t v [] [] of read of_v h k = tt
  differ_answer side t v [] (w ∷ vs) of read of_v h k = absurd k
  differ_answer side t v (u ∷ ts) [] of read of_v h k = absurd k
  differ_answer side t v (u ∷ ts) (w ∷ vs) of read of_v h k = (
    ap (λ (x : Value). truth (not (is_true i.graph x))) (equality_answers side t u v w of read of_v k.0.2 h k.0.3) ∙ ap (λ (b : Bool). truth (not b)) (truth_is (is_same i.graph v w)),
    differ_answer side t v ts vs of read of_v h k.1,
  )

  pairs_answer : (side : SortId) (ts : List CoreTree) (vs : List Value) → AreOfOne side ts vs → AllZip IsAnswer (pairs (inequality d) ts) (pairs (λ v w. not (is_same i.graph v w)) vs)
  pairs_answer side [] [] h = tt
  pairs_answer side [] (v ∷ vs) h = absurd h
  pairs_answer side (t ∷ ts) [] h = absurd h
  pairs_answer side (t ∷ ts) (v ∷ vs) h =
      append_answers (map (inequality d t) ts) (pairs (inequality d) ts) (map (λ w. not (is_same i.graph v w)) vs) (pairs (λ x y. not (is_same i.graph x y)) vs)
      (differ_answer side t v ts vs h.0.0 h.0.1 h.0.2 h.0.3 h.1) (pairs_answer side ts vs h.1)

  pub distinct_means : (side : SortId) (ts : List CoreTree) (vs : List Value) → AreOfOne side ts vs → tree_value d i (all_of (pairs (inequality d) ts)) ≡ truth (are_distinct i.graph vs)
  distinct_means side ts vs h = all_of_answers (pairs (inequality d) ts) (pairs (λ v w. not (is_same i.graph v w)) vs) (pairs_answer side ts vs h)
