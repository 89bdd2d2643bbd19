-- Operators: what is made while the terms under one are collected, and then, is what is made for its core term, in order.
use Rattle.std.proofs.Common.{◌≡◌, ◌<◌, List, [], ◌∷◌, ◌++◌, length, map, Contains, refl, sym, ap, ap₂, subst, ◌∙◌, inl, inr, arith}
use Rattle.std.specs.List.{fold}
use Rattle.std.proofs.lemmas.List.{append-nil, append_assoc}
use Rattle.ct_lemmas.proofs.Contained.{Contains-cons, Contains-none}
use Rattle.ct_sorts.specs.Declarations.{Declarations}
use Rattle.ct_terms.specs.Terms.{Terms, AreOrdered}
use Rattle.ct_terms.specs.CoreTree.{CoreTree, con, apply, sel, test, negation, conjunction, disjunction, equivalence, trees_of, list_of_trees, subtrees}
use Rattle.ct_formulas.specs.Pairs.{neighbours_from, pairs}
use Rattle.ct_formulas.specs.Compiled.{exclusive, exclusive_of, implied_from, equality, inequality}
use Rattle.ct_operators.specs.declared.operator.Operator.{Operator}
use Rattle.ct_operators.specs.declared.operator.Operator.TheVariants.{Construct, Select, Inspect, Call, Negation, Conjunction, Disjunction, Exclusion, Implication, Equality, Inequality}
use Rattle.ct_operators.specs.Theorems.{Theorems}
use Rattle.ct_operators.specs.Effect.{Effect}
use Rattle.ct_operators.specs.Forms.{head_tree, combined, AreOperands}
use Rattle.ct_operators.specs.Following.{last_from, last_tree, between, woven}
use Rattle.ct_operators.specs.Made.{HasTree, HasTrees, MakesInOrder, Made, leaf, terms, made_for, over, made_negation, made_equality, made_inequality, made_exclusive, made_implied, made_by}
use Rattle.ct_operators.proofs.WithinLemmas.{within_itself, within_subtrees, within_disjunction}
use Rattle.ct_operators.proofs.MakesLemmas.{prefix_ordered, have_stay, have_both, have_left, have_right, makes_grown, makes_then, makes_none, makes_nothing, makes_split, makes_has, has_subterm, subterm_cases, makes_one, makes_same, Rises, makes_rising}
use Rattle.ct_operators.proofs.FollowLemmas.{last_of_push, exclusive_more}

-- the arguments as a list
listed : (us : List CoreTree) → list_of_trees (trees_of us) ≡ us
listed [] = refl
listed (u ∷ us) = ap (λ (xs : List CoreTree). u ∷ xs) (listed us)

-- ---- terms over one term, and over two

pub one_over : (p : Made) (t : CoreTree) (a b c : Terms) → MakesInOrder a p.making b → MakesInOrder b (t ∷ []) c → MakesInOrder a (over (p ∷ []) t).making c
one_over p t a b c h k = makes_then (p.making ++ []) (t ∷ []) a b c (makes_then p.making [] a b b h refl) k

two_over : (p q : Made) (t : CoreTree) (a b c e : Terms) → MakesInOrder a p.making b → MakesInOrder b q.making c → MakesInOrder c (t ∷ []) e → MakesInOrder a (over (p ∷ (q ∷ [])) t).making e
two_over p q t a b c e h k m = makes_then (p.making ++ (q.making ++ [])) (t ∷ []) a c e (makes_then p.making (q.making ++ []) a b c h (makes_then q.making [] b c c k refl)) m

-- without the empty end
pub without_nil : (xs : List CoreTree) (a b : Terms) → MakesInOrder a (xs ++ []) b → MakesInOrder a xs b
without_nil xs a b h = subst (λ (ys : List CoreTree). MakesInOrder a ys b) (append-nil xs) h

-- nothing more is made
and_nothing : (xs : List CoreTree) (a b c : Terms) → MakesInOrder a xs b → MakesInOrder b [] c → MakesInOrder a xs c
and_nothing xs a b c h k = subst (λ (ts : Terms). MakesInOrder a xs ts) (sym k) h

-- ---- exclusive disjunction

pub exclusive_woven : (d : Declarations) (acc : Made) (v : CoreTree) (vs : List CoreTree) (ps : List Made) (a b c : Terms) → exclusive_of (v ∷ vs) ≡ acc.term → MakesInOrder a acc.making b → MakesInOrder b (woven d Exclusion (v ∷ vs) ps) c → MakesInOrder a (fold made_exclusive acc ps).making c
exclusive_woven d acc v vs [] a b c is h k = and_nothing acc.making a b c h k
exclusive_woven d acc v vs (p ∷ ps) a b c is h k =
    let x = exclusive_of (v ∷ vs) in
    let one = makes_split p.making (equivalence x p.term ∷ (exclusive x p.term ∷ woven d Exclusion ((v ∷ vs) ++ p.term ∷ []) ps)) b c k in
    let two = makes_split (equivalence x p.term ∷ []) (exclusive x p.term ∷ woven d Exclusion ((v ∷ vs) ++ p.term ∷ []) ps) one.0 c one.1.1 in
    let three = makes_split (exclusive x p.term ∷ []) (woven d Exclusion ((v ∷ vs) ++ p.term ∷ []) ps) two.0 c two.1.1 in
    let iff = two_over acc p (equivalence acc.term p.term) a b one.0 two.0 h one.1.0 (subst (λ (w : CoreTree). MakesInOrder one.0 (equivalence w p.term ∷ []) two.0) is two.1.0) in
    let both = one_over (over (acc ∷ (p ∷ [])) (equivalence acc.term p.term)) (exclusive acc.term p.term) a two.0 three.0 iff (subst (λ (w : CoreTree). MakesInOrder two.0 (exclusive w p.term ∷ []) three.0) is three.1.0) in
    exclusive_woven d (made_exclusive acc p) v (vs ++ p.term ∷ []) ps a three.0 c
    (exclusive_more (v ∷ vs) p.term [] (omega arith) ∙ ap (λ (w : CoreTree). exclusive w p.term) is) both three.1.1

exclusive_term : (acc : Made) (ps : List Made) → (fold made_exclusive acc ps).term ≡ fold exclusive acc.term (terms ps)
exclusive_term acc [] = refl
exclusive_term acc (p ∷ ps) = exclusive_term (made_exclusive acc p) ps

exclusive_there : (table : Terms) (acc : Made) (ps : List Made) → (HasTrees table acc.making → HasTree table acc.term) → HasTrees table (fold made_exclusive acc ps).making → HasTree table (fold made_exclusive acc ps).term
exclusive_there table acc [] last h = last h
exclusive_there table acc (p ∷ ps) last h =
    let inner = over (acc ∷ (p ∷ [])) (equivalence acc.term p.term) in
    exclusive_there table (made_exclusive acc p) ps (λ k. (have_right table (made_for (inner ∷ [])) (negation inner.term ∷ []) k).0) h

-- ---- implication

abbrev or_steps : CoreTree → List CoreTree → List CoreTree
or_steps u [] = []
or_steps u (v ∷ vs) = or_steps v vs ++ implied_from u (v ∷ vs) ∷ []

-- the negations of all but the last are there
abbrev Refuted : Terms → CoreTree → List CoreTree → Type 0
Refuted table u [] = Unit {0}
Refuted table u (v ∷ vs) = HasTree table (negation u) × Refuted table v vs

refuted : (d : Declarations) (table : Terms) (us : List CoreTree) (p : Made) (ps : List Made) → HasTrees table (woven d Implication us (p ∷ ps)) → Refuted table p.term (terms ps)
refuted d table us p [] h = tt
refuted d table us p (q ∷ qs) h =
    let k = have_right table p.making (negation p.term ∷ woven d Implication (us ++ p.term ∷ []) (q ∷ qs)) h in
    (k.0, refuted d table (us ++ p.term ∷ []) q qs k.1)

rises_implied : (theorems : Theorems) (table : Terms) (u : CoreTree) (us ends : List CoreTree) (whole : CoreTree) → AreOrdered table → Refuted table u us → Rises table (implied_from u us) ends whole → Rises table (last_from u us) (or_steps u us ++ ends) whole
rises_implied theorems table u [] ends whole ordered h r = r
rises_implied theorems table u (v ∷ vs) ends whole ordered h r =
    let w = implied_from v vs in
    let up = implied_from u (v ∷ vs) in
    let under = within_disjunction (subtrees up) (negation u ∷ (w ∷ [])) (within_subtrees up) in
    let first : Rises table w (up ∷ ends) whole = (
      within_itself theorems (subtrees up) w under.1.0,
      (
        λ s c. elim (subterm_cases theorems up s c) [
          | inl e ↦ inl e
          | inr deeper ↦ inr (elim (Contains-cons (negation u) (w ∷ []) deeper.0 deeper.1.0) [
            | inl e ↦ inr (has_subterm theorems table (negation u) s ordered h.0 (subst (λ (x : CoreTree). Contains (subtrees x) s) (sym e) deeper.1.1))
            | inr later ↦ elim (Contains-cons w [] deeper.0 later) [
              | inl e ↦ inl (subst (λ (x : CoreTree). Contains (subtrees x) s) (sym e) deeper.1.1)
              | inr none ↦ absurd (Contains-none deeper.0 none)
            ]
          ])
        ],
        r,
      ),
    ) in
    subst (λ (zs : List CoreTree). Rises table (last_from v vs) zs whole) (sym (append_assoc (or_steps v vs) (up ∷ []) ends))
    (rises_implied theorems table v vs (up ∷ ends) whole ordered h.1 first)

implied_term : (p : Made) (ps : List Made) → (made_implied p ps).term ≡ implied_from p.term (terms ps)
implied_term p [] = refl
implied_term p (q ∷ qs) = ap (λ (w : CoreTree). disjunction (trees_of (negation p.term ∷ (w ∷ [])))) (implied_term q qs)

implied_woven : (d : Declarations) (p : Made) (ps : List Made) (us : List CoreTree) (a b c : Terms) → MakesInOrder a (woven d Implication us (p ∷ ps)) b → MakesInOrder b (or_steps p.term (terms ps)) c → MakesInOrder a (made_implied p ps).making c
implied_woven d p [] us a b c h k = and_nothing p.making a b c (without_nil p.making a b h) k
implied_woven d p (q ∷ qs) us a b c h k =
    let rest = woven d Implication (us ++ p.term ∷ []) (q ∷ qs) in
    let one = makes_split p.making (negation p.term ∷ rest) a b h in
    let two = makes_split (negation p.term ∷ []) rest one.0 b one.1.1 in
    let three = makes_split (or_steps q.term (terms qs)) (implied_from p.term (terms (q ∷ qs)) ∷ []) b c k in
    let later = implied_woven d q qs (us ++ p.term ∷ []) two.0 b three.0 two.1.1 three.1.0 in
    two_over (made_negation p) (made_implied q qs) (disjunction (trees_of (negation p.term ∷ ((made_implied q qs).term ∷ [])))) a two.0 three.0 c
    (one_over p (negation p.term) a one.0 two.0 one.1.0 two.1.0) later
    (subst (λ (w : CoreTree). MakesInOrder three.0 (disjunction (trees_of (negation p.term ∷ (w ∷ []))) ∷ []) c) (sym (implied_term q qs)) three.1.1)

-- ---- equality

-- the first comparison, and the rest
equal_first : (d : Declarations) (p q : Made) (x : CoreTree) (rest : List CoreTree) (a b c : Terms) → x ≡ p.term → MakesInOrder a p.making b → MakesInOrder b (q.making ++ (equality d x q.term ∷ rest)) c → (m : Terms) × (n : Terms) × MakesInOrder b q.making m × MakesInOrder m (equality d x q.term ∷ []) n × MakesInOrder a (made_equality d p q).making n × MakesInOrder n rest c
equal_first d p q x rest a b c is h k =
    let one = makes_split q.making (equality d x q.term ∷ rest) b c k in
    let two = makes_split (equality d x q.term ∷ []) rest one.0 c one.1.1 in
    (one.0, two.0, one.1.0, two.1.0, two_over p q (equality d p.term q.term) a b one.0 two.0 h one.1.0 (subst (λ (w : CoreTree). MakesInOrder one.0 (equality d w q.term ∷ []) two.0) is two.1.0), two.1.1)

pub equal_woven : (theorems : Theorems) (d : Declarations) (p q : Made) (qs : List Made) (v : CoreTree) (vs : List CoreTree) (a b c : Terms) → AreOrdered c → last_tree (v ∷ vs) ≡ p.term → MakesInOrder a p.making b → MakesInOrder b (woven d Equality (v ∷ vs) (q ∷ qs)) c → MakesInOrder a (made_for (neighbours_from (made_equality d) p (q ∷ qs))) c
equal_woven theorems d p q [] v vs a b c ordered is h k =
    let f = equal_first d p q (last_tree (v ∷ vs)) [] a b c is h k in
    makes_then (made_equality d p q).making [] a f.1 c f.4 f.5
equal_woven theorems d p q (r ∷ rs) v vs a b c ordered is h k =
    let rest = woven d Equality ((v ∷ vs) ++ q.term ∷ []) (r ∷ rs) in
    let f = equal_first d p q (last_tree (v ∷ vs)) rest a b c is h k in
    let n_ordered = prefix_ordered f.1 c (makes_grown rest f.1 c f.5) ordered in
    let grown = makes_grown (equality d (last_tree (v ∷ vs)) q.term ∷ []) f.0 f.1 f.3 in
    let there = have_stay theorems f.0 f.1 q.making grown n_ordered (makes_has theorems q.making b f.0 (prefix_ordered f.0 f.1 grown n_ordered) f.2) in
    makes_then (made_equality d p q).making (made_for (neighbours_from (made_equality d) q (r ∷ rs))) a f.1 c f.4
    (equal_woven theorems d q r rs v (vs ++ q.term ∷ []) f.1 f.1 c ordered (last_of_push (v ∷ vs) q.term) (makes_none q.making f.1 there) f.5)

terms_neighbours : (d : Declarations) (p : Made) (ps : List Made) → terms (neighbours_from (made_equality d) p ps) ≡ neighbours_from (equality d) p.term (terms ps)
terms_neighbours d p [] = refl
terms_neighbours d p (q ∷ qs) = ap (λ (xs : List CoreTree). equality d p.term q.term ∷ xs) (terms_neighbours d q qs)

neighbours_there : (d : Declarations) (table : Terms) (p : Made) (ps : List Made) → HasTrees table (made_for (neighbours_from (made_equality d) p ps)) → HasTrees table (neighbours_from (equality d) p.term (terms ps))
neighbours_there d table p [] h = tt
neighbours_there d table p (q ∷ qs) h = (
  (have_right table (made_for (p ∷ (q ∷ []))) (equality d p.term q.term ∷ []) (have_left table (made_equality d p q).making (made_for (neighbours_from (made_equality d) q qs)) h)).0,
  neighbours_there d table q qs (have_right table (made_equality d p q).making (made_for (neighbours_from (made_equality d) q qs)) h),
)

-- ---- inequality

row_first : (d : Declarations) (p q : Made) (rest : List CoreTree) (a b c : Terms) → MakesInOrder a p.making b → MakesInOrder b (q.making ++ (equality d p.term q.term ∷ (inequality d p.term q.term ∷ rest))) c → (n : Terms) × MakesInOrder a (made_inequality d p q).making n × MakesInOrder n rest c
row_first d p q rest a b c h k =
    let e = equality d p.term q.term in
    let one = makes_split q.making (e ∷ (negation e ∷ rest)) b c k in
    let two = makes_split (e ∷ []) (negation e ∷ rest) one.0 c one.1.1 in
    let three = makes_split (negation e ∷ []) rest two.0 c two.1.1 in
    (three.0, one_over (made_equality d p q) (negation e) a two.0 three.0 (two_over p q e a b one.0 two.0 h one.1.0 two.1.0) three.1.0, three.1.1)

row_has : (d : Declarations) (p q : Made) (n : Terms) → HasTrees n (made_inequality d p q).making → HasTrees n p.making
row_has d p q n h =
    let outer = have_left n (made_for (made_equality d p q ∷ [])) (negation (equality d p.term q.term) ∷ []) h in
    let equal = have_left n (made_equality d p q).making [] outer in
    have_left n p.making (q.making ++ []) (have_left n (made_for (p ∷ (q ∷ []))) (equality d p.term q.term ∷ []) equal)

pub row_woven : (theorems : Theorems) (d : Declarations) (p q : Made) (qs : List Made) (us : List CoreTree) (a b c : Terms) → AreOrdered c → MakesInOrder a p.making b → MakesInOrder b (woven d Inequality (p.term ∷ us) (q ∷ qs)) c → MakesInOrder a (made_for (map (made_inequality d p) (q ∷ qs))) c
row_woven theorems d p q [] us a b c ordered h k =
    let f = row_first d p q [] a b c h k in
    makes_then (made_inequality d p q).making [] a f.0 c f.1 f.2
row_woven theorems d p q (r ∷ rs) us a b c ordered h k =
    let rest = woven d Inequality (p.term ∷ (us ++ q.term ∷ [])) (r ∷ rs) in
    let f = row_first d p q rest a b c h k in
    let n_ordered = prefix_ordered f.0 c (makes_grown rest f.0 c f.2) ordered in
    let there = row_has d p q f.0 (makes_has theorems (made_inequality d p q).making a f.0 n_ordered f.1) in
    makes_then (made_inequality d p q).making (made_for (map (made_inequality d p) (r ∷ rs))) a f.0 c f.1
    (row_woven theorems d p r rs (us ++ q.term ∷ []) f.0 f.0 c ordered (makes_none p.making f.0 there) f.2)

pub made_append : (ps qs : List Made) → made_for (ps ++ qs) ≡ made_for ps ++ made_for qs
made_append [] qs = refl
made_append (p ∷ ps) qs = ap (λ (xs : List CoreTree). p.making ++ xs) (made_append ps qs) ∙ sym (append_assoc p.making (made_for ps) (made_for qs))

pub terms_append : (ps qs : List Made) → terms (ps ++ qs) ≡ terms ps ++ terms qs
terms_append [] qs = refl
terms_append (p ∷ ps) qs = ap (λ (xs : List CoreTree). p.term ∷ xs) (terms_append ps qs)

terms_row : (d : Declarations) (p : Made) (ps : List Made) → terms (map (made_inequality d p) ps) ≡ map (inequality d p.term) (terms ps)
terms_row d p [] = refl
terms_row d p (q ∷ qs) = ap (λ (xs : List CoreTree). inequality d p.term q.term ∷ xs) (terms_row d p qs)

terms_pairs : (d : Declarations) (ps : List Made) → terms (pairs (made_inequality d) ps) ≡ pairs (inequality d) (terms ps)
terms_pairs d [] = refl
terms_pairs d (p ∷ ps) = terms_append (map (made_inequality d p) ps) (pairs (made_inequality d) ps) ∙ ap₂ (λ (xs ys : List CoreTree). xs ++ ys) (terms_row d p ps) (terms_pairs d ps)

terms_leaves : (us : List CoreTree) → terms (map leaf us) ≡ us
terms_leaves [] = refl
terms_leaves (u ∷ us) = ap (λ (xs : List CoreTree). u ∷ xs) (terms_leaves us)

-- a row over terms that are there is one over what is made for them
row_filled : (theorems : Theorems) (d : Declarations) (p : Made) (qs : List Made) (a c : Terms) → AreOrdered c → HasTrees a p.making → HasTrees a (made_for qs) → MakesInOrder a (made_for (map (made_inequality d (leaf p.term)) (map leaf (terms qs)))) c → MakesInOrder a (made_for (map (made_inequality d p) qs)) c
row_filled theorems d p [] a c ordered h k m = m
row_filled theorems d p (q ∷ qs) a c ordered h k m =
    let e = equality d p.term q.term in
    let rest = made_for (map (made_inequality d (leaf p.term)) (map leaf (terms qs))) in
    let one = makes_split (e ∷ []) (negation e ∷ rest) a c m in
    let two = makes_split (negation e ∷ []) rest one.0 c one.1.1 in
    let ordered_2 = prefix_ordered two.0 c (makes_grown rest two.0 c two.1.1) ordered in
    let both = one_over (made_equality d p q) (negation e) a one.0 two.0 (two_over p q e a a a one.0 (makes_none p.making a h) (makes_none q.making a (have_left a q.making (made_for qs) k)) one.1.0) two.1.0 in
    let grown = makes_grown (made_inequality d p q).making a two.0 both in
    makes_then (made_inequality d p q).making (made_for (map (made_inequality d p) qs)) a two.0 c both
    (row_filled theorems d p qs two.0 c ordered (have_stay theorems a two.0 p.making grown ordered_2 h) (have_stay theorems a two.0 (made_for qs) grown ordered_2 (have_right a q.making (made_for qs) k)) two.1.1)

pairs_filled : (theorems : Theorems) (d : Declarations) (ps : List Made) (a c : Terms) → AreOrdered c → HasTrees a (made_for ps) → MakesInOrder a (made_for (pairs (made_inequality d) (map leaf (terms ps)))) c → MakesInOrder a (made_for (pairs (made_inequality d) ps)) c
pairs_filled theorems d [] a c ordered h m = m
pairs_filled theorems d (p ∷ ps) a c ordered h m =
    let row = map (made_inequality d (leaf p.term)) (map leaf (terms ps)) in
    let rest = pairs (made_inequality d) (map leaf (terms ps)) in
    let two = makes_split (made_for row) (made_for rest) a c (subst (λ (xs : List CoreTree). MakesInOrder a xs c) (made_append row rest) m) in
    let ordered_1 = prefix_ordered two.0 c (makes_grown (made_for rest) two.0 c two.1.1) ordered in
    let grown = makes_grown (made_for row) a two.0 two.1.0 in
    let first = row_filled theorems d p ps a two.0 ordered_1 (have_left a p.making (made_for ps) h) (have_right a p.making (made_for ps) h) two.1.0 in
    subst (λ (xs : List CoreTree). MakesInOrder a xs c) (sym (made_append (map (made_inequality d p) ps) (pairs (made_inequality d) ps)))
    (makes_then (made_for (map (made_inequality d p) ps)) (made_for (pairs (made_inequality d) ps)) a two.0 c first
    (pairs_filled theorems d ps two.0 c ordered (have_stay theorems a two.0 (made_for ps) grown ordered_1 (have_right a p.making (made_for ps) h)) two.1.1))

-- what is there with what is made for its terms is there without
row_there : (d : Declarations) (table : Terms) (p : Made) (qs : List Made) → HasTrees table (made_for (map (made_inequality d p) qs)) → HasTrees table (made_for (map (made_inequality d (leaf p.term)) (map leaf (terms qs))))
row_there d table p [] h = tt
row_there d table p (q ∷ qs) h =
    let e = equality d p.term q.term in
    let here = have_left table (made_inequality d p q).making (made_for (map (made_inequality d p) qs)) h in
    let outer = have_left table (made_for (made_equality d p q ∷ [])) (negation e ∷ []) here in (
      (have_right table (made_for (p ∷ (q ∷ []))) (e ∷ []) (have_left table (made_equality d p q).making [] outer)).0,
      ((have_right table (made_for (made_equality d p q ∷ [])) (negation e ∷ []) here).0, row_there d table p qs (have_right table (made_inequality d p q).making (made_for (map (made_inequality d p) qs)) h)),
    )

-- all that is made for the terms is made on the way
pub woven_has : (d : Declarations) (o : Operator) (table : Terms) (us : List CoreTree) (ps : List Made) → HasTrees table (woven d o us ps) → HasTrees table (made_for ps)
woven_has d o table us [] h = tt
woven_has d o table us (p ∷ ps) h =
    let rest = have_right table p.making (between d o us p.term (terms ps) ++ woven d o (us ++ p.term ∷ []) ps) h in
    have_both table p.making (made_for ps) (have_left table p.making (between d o us p.term (terms ps) ++ woven d o (us ++ p.term ∷ []) ps) h)
    (woven_has d o table (us ++ p.term ∷ []) ps (have_right table (between d o us p.term (terms ps)) (woven d o (us ++ p.term ∷ []) ps) rest))

-- where nothing is between them
woven_plain : (d : Declarations) (o : Operator) → ((us : List CoreTree) (u : CoreTree) (later : List CoreTree) → between d o us u later ≡ []) → (us : List CoreTree) (ps : List Made) → woven d o us ps ≡ made_for ps
woven_plain d o none us [] = refl
woven_plain d o none us (p ∷ ps) =
    ap (λ (xs : List CoreTree). p.making ++ (xs ++ woven d o (us ++ p.term ∷ []) ps)) (none us p.term (terms ps))
    ∙ ap (λ (xs : List CoreTree). p.making ++ xs) (woven_plain d o none (us ++ p.term ∷ []) ps)

-- ---- the whole

module _ (d : Declarations) (old mid new : Terms) where
  -- a term over those that were made
  plainly : (o : Operator) (ps : List Made) (t : CoreTree) → ((us : List CoreTree) (u : CoreTree) (later : List CoreTree) → between d o us u later ≡ []) → MakesInOrder old (woven d o [] ps) mid → MakesInOrder mid (t ∷ []) new → MakesInOrder old (over ps t).making new
  plainly o ps t none h k = makes_then (made_for ps) (t ∷ []) old mid new (subst (λ (xs : List CoreTree). MakesInOrder old xs mid) (woven_plain d o none [] ps) h) k

  first_there : (us : List CoreTree) → 0 < length us → HasTrees mid us → HasTrees mid (head_tree us ∷ [])
  first_there [] some h = absurd (omega (arith, some))
  first_there (u ∷ us) some h = (h.0, tt)

  all_there : (us : List CoreTree) → HasTrees mid us → HasTrees mid (list_of_trees (trees_of us))
  all_there us h = subst (HasTrees mid) (sym (listed us)) h

  -- the conjunction, and the disjunction
  pub conjoined : (ps : List Made) (full : Type 0) → 0 < length (terms ps) → HasTrees mid (terms ps) → Effect d (subtrees (combined d Conjunction (terms ps))) mid new full → HasTree new (combined d Conjunction (terms ps)) → MakesInOrder old (made_for ps) mid → MakesInOrder old (made_by d Conjunction ps).making new
  conjoined [] full some stand effect there h = absurd (omega (arith, some))
  conjoined (p ∷ []) full some stand effect there h = and_nothing p.making old mid new (without_nil p.making old mid h) (makes_same d mid new p.term full effect stand.0)
  conjoined (p ∷ (q ∷ qs)) full some stand effect there h =
      let us = terms (p ∷ (q ∷ qs)) in
      makes_then (made_for (p ∷ (q ∷ qs))) (conjunction (trees_of us) ∷ []) old mid new h (makes_one d mid new (conjunction (trees_of us)) full effect (all_there us stand) there)

  disjoined : (ps : List Made) (full : Type 0) → 0 < length (terms ps) → HasTrees mid (terms ps) → Effect d (subtrees (combined d Disjunction (terms ps))) mid new full → HasTree new (combined d Disjunction (terms ps)) → MakesInOrder old (woven d Disjunction [] ps) mid → MakesInOrder old (made_by d Disjunction ps).making new
  disjoined [] full some stand effect there h = absurd (omega (arith, some))
  disjoined (p ∷ []) full some stand effect there h = and_nothing p.making old mid new (without_nil p.making old mid h) (makes_same d mid new p.term full effect stand.0)
  disjoined (p ∷ (q ∷ qs)) full some stand effect there h =
      let us = terms (p ∷ (q ∷ qs)) in
      plainly Disjunction (p ∷ (q ∷ qs)) (disjunction (trees_of us)) (λ us' u later. refl) h (makes_one d mid new (disjunction (trees_of us)) full effect (all_there us stand) there)

  excluded : (ps : List Made) (full : Type 0) → 0 < length (terms ps) → HasTrees mid (terms ps) → AreOrdered mid → Effect d (subtrees (combined d Exclusion (terms ps))) mid new full → MakesInOrder old (woven d Exclusion [] ps) mid → MakesInOrder old (made_by d Exclusion ps).making new
  excluded [] full some stand ordered effect h = absurd (omega (arith, some))
  excluded (p ∷ ps) full some stand ordered effect h =
      let one = makes_split p.making (woven d Exclusion (p.term ∷ []) ps) old mid h in
      let made = exclusive_woven d p p.term [] ps old one.0 mid refl one.1.0 one.1.1 in
      let core = fold exclusive p.term (terms ps) in
      let there : HasTree mid core = subst (HasTree mid) (exclusive_term p ps) (exclusive_there mid p ps (λ k. stand.0) (makes_has effect.kept.theorems (fold made_exclusive p ps).making old mid ordered made)) in
      and_nothing (fold made_exclusive p ps).making old mid new made (makes_same d mid new core full effect there)

  implied : (ps : List Made) (full : Type 0) → 0 < length (terms ps) → HasTrees mid (terms ps) → AreOrdered mid → Effect d (subtrees (combined d Implication (terms ps))) mid new full → HasTree new (combined d Implication (terms ps)) → MakesInOrder old (woven d Implication [] ps) mid → MakesInOrder old (made_by d Implication ps).making new
  implied [] full some stand ordered effect there h = absurd (omega (arith, some))
  implied (p ∷ ps) full some stand ordered effect there h =
      let theorems = effect.kept.theorems in
      let core = implied_from p.term (terms ps) in
      let not_there = refuted d mid [] p ps (makes_has theorems (woven d Implication [] (p ∷ ps)) old mid ordered h) in
      let rises = rises_implied theorems mid p.term (terms ps) [] core ordered not_there refl in
      implied_woven d p ps [] old mid new h
      (without_nil (or_steps p.term (terms ps)) mid new (makes_rising d mid new (last_from p.term (terms ps)) (or_steps p.term (terms ps) ++ []) core full effect rises (last_there p.term (terms ps) stand) there))
    where
      last_there : (u : CoreTree) (us : List CoreTree) → HasTrees mid (u ∷ us) → HasTree mid (last_from u us)
      last_there u [] h' = h'.0
      last_there u (v ∷ vs) h' = last_there v vs h'.1

  equal : (ps : List Made) (full : Type 0) → 1 < length (terms ps) → AreOrdered mid → Effect d (subtrees (combined d Equality (terms ps))) mid new full → HasTree new (combined d Equality (terms ps)) → MakesInOrder old (woven d Equality [] ps) mid → MakesInOrder old (made_by d Equality ps).making new
  equal [] full some ordered effect there h = absurd (omega (arith, some))
  equal (p ∷ []) full some ordered effect there h = absurd (omega (arith, some))
  equal (p ∷ (q ∷ [])) full some ordered effect there h =
      let theorems = effect.kept.theorems in
      let one = makes_split p.making (woven d Equality (p.term ∷ []) (q ∷ [])) old mid h in
      let made = without_nil (made_equality d p q).making old mid (equal_woven theorems d p q [] p.term [] old one.0 mid ordered refl one.1.0 one.1.1) in
      let here = (have_right mid (made_for (p ∷ (q ∷ []))) (equality d p.term q.term ∷ []) (makes_has theorems (made_equality d p q).making old mid ordered made)).0 in
      and_nothing (made_equality d p q).making old mid new made (makes_same d mid new (equality d p.term q.term) full effect here)
  equal (p ∷ (q ∷ (r ∷ rs))) full some ordered effect there h =
      let theorems = effect.kept.theorems in
      let qs = q ∷ (r ∷ rs) in
      let one = makes_split p.making (woven d Equality (p.term ∷ []) qs) old mid h in
      let made = equal_woven theorems d p q (r ∷ rs) p.term [] old one.0 mid ordered refl one.1.0 one.1.1 in
      let us = neighbours_from (equality d) p.term (terms qs) in
      let here = neighbours_there d mid p qs (makes_has theorems (made_for (neighbours_from (made_equality d) p qs)) old mid ordered made) in
      let last = makes_one d mid new (conjunction (trees_of us)) full effect (all_there us here) there in
      makes_then (made_for (neighbours_from (made_equality d) p qs)) (conjunction (trees_of (terms (neighbours_from (made_equality d) p qs))) ∷ []) old mid new made
      (subst (λ (xs : List CoreTree). MakesInOrder mid (conjunction (trees_of xs) ∷ []) new) (sym (terms_neighbours d p qs)) last)

  different : (theorems : Theorems) (ps : List Made) → 1 < length (terms ps) → AreOrdered mid → AreOrdered new → MakesInOrder mid (made_by d Inequality (map leaf (terms ps))).making new → MakesInOrder old (woven d Inequality [] ps) mid → MakesInOrder old (made_by d Inequality ps).making new
  different theorems [] some ordered ordered_2 k h = absurd (omega (arith, some))
  different theorems (p ∷ []) some ordered ordered_2 k h = absurd (omega (arith, some))
  different theorems (p ∷ (q ∷ [])) some ordered ordered_2 k h =
      let one = makes_split p.making (woven d Inequality (p.term ∷ []) (q ∷ [])) old mid h in
      let row = row_woven theorems d p q [] [] old one.0 mid ordered one.1.0 one.1.1 in
      let there = row_there d mid p (q ∷ []) (makes_has theorems (made_for (map (made_inequality d p) (q ∷ []))) old mid ordered row) in
      let same = makes_nothing (equality d p.term q.term ∷ (negation (equality d p.term q.term) ∷ [])) mid new there k in
      subst (λ (ts : Terms). MakesInOrder old (made_inequality d p q).making ts) (sym same) (without_nil (made_inequality d p q).making old mid row)
  different theorems (p ∷ (q ∷ (r ∷ rs))) some ordered ordered_2 k h =
      let qs = q ∷ (r ∷ rs) in
      let leaves = map leaf (terms qs) in
      let woven_all = woven d Inequality [] (p ∷ qs) in
      let one = makes_split p.making (woven d Inequality (p.term ∷ []) qs) old mid h in
      let row = row_woven theorems d p q (r ∷ rs) [] old one.0 mid ordered one.1.0 one.1.1 in
      let row_trees = made_for (map (made_inequality d p) qs) in
      let there = row_there d mid p qs (makes_has theorems row_trees old mid ordered row) in
      let leaf_row = map (made_inequality d (leaf p.term)) leaves in
      let leaf_rest = pairs (made_inequality d) leaves in
      let whole : CoreTree = conjunction (trees_of (terms (leaf_row ++ leaf_rest))) in
      let last = makes_split (made_for (leaf_row ++ leaf_rest)) (whole ∷ []) mid new k in
      let rows = makes_split (made_for leaf_row) (made_for leaf_rest) mid last.0 (subst (λ (xs : List CoreTree). MakesInOrder mid xs last.0) (made_append leaf_row leaf_rest) last.1.0) in
      let same : rows.0 ≡ mid = makes_nothing (made_for leaf_row) mid rows.0 there rows.1.0 in
      let ordered_1 = prefix_ordered last.0 new (makes_grown (whole ∷ []) last.0 new last.1.1) ordered_2 in
      let under = woven_has d Inequality mid [] (p ∷ qs) (makes_has theorems woven_all old mid ordered h) in
      let rest = pairs_filled theorems d qs mid last.0 ordered_1 (have_right mid p.making (made_for qs) under) (subst (λ (ts : Terms). MakesInOrder ts (made_for leaf_rest) last.0) same rows.1.1) in
      let all : MakesInOrder old (made_for (pairs (made_inequality d) (p ∷ qs))) last.0 = subst (λ (xs : List CoreTree). MakesInOrder old xs last.0) (sym (made_append (map (made_inequality d p) qs) (pairs (made_inequality d) qs))) (makes_then row_trees (made_for (pairs (made_inequality d) qs)) old mid last.0 row rest) in
      let is : terms (leaf_row ++ leaf_rest) ≡ terms (pairs (made_inequality d) (p ∷ qs)) = terms_pairs d (map leaf (terms (p ∷ qs))) ∙ ap (pairs (inequality d)) (terms_leaves (terms (p ∷ qs))) ∙ sym (terms_pairs d (p ∷ qs)) in
      makes_then (made_for (pairs (made_inequality d) (p ∷ qs))) (conjunction (trees_of (terms (pairs (made_inequality d) (p ∷ qs)))) ∷ []) old last.0 new all
      (subst (λ (xs : List CoreTree). MakesInOrder last.0 (conjunction (trees_of xs) ∷ []) new) is last.1.1)

  -- for each operator
  pub operator_made : (o : Operator) (ps : List Made) (full : Type 0) → AreOperands d o (terms ps) → HasTrees mid (terms ps) → AreOrdered mid → Effect d (subtrees (combined d o (terms ps))) mid new full → HasTree new (combined d o (terms ps)) → (o ≡ Inequality → MakesInOrder mid (made_by d Inequality (map leaf (terms ps))).making new) → MakesInOrder old (woven d o [] ps) mid → MakesInOrder old (made_by d o ps).making new
  operator_made (Construct c) ps full operands stand ordered effect there pairs_made h =
      let us = terms ps in
      plainly (Construct c) ps (con c (trees_of us)) (λ us' u later. refl) h (makes_one d mid new (con c (trees_of us)) full effect (all_there us stand) there)
  operator_made (Call f) ps full operands stand ordered effect there pairs_made h =
      let us = terms ps in
      plainly (Call f) ps (apply f (trees_of us)) (λ us' u later. refl) h (makes_one d mid new (apply f (trees_of us)) full effect (all_there us stand) there)
  operator_made (Select s) ps full operands stand ordered effect there pairs_made h =
      plainly (Select s) ps (sel s (head_tree (terms ps))) (λ us' u later. refl) h (makes_one d mid new (sel s (head_tree (terms ps))) full effect (first_there (terms ps) operands.0 stand) there)
  operator_made (Inspect c) ps full operands stand ordered effect there pairs_made h =
      plainly (Inspect c) ps (test c (head_tree (terms ps))) (λ us' u later. refl) h (makes_one d mid new (test c (head_tree (terms ps))) full effect (first_there (terms ps) operands.0 stand) there)
  operator_made Negation ps full operands stand ordered effect there pairs_made h =
      plainly Negation ps (negation (head_tree (terms ps))) (λ us' u later. refl) h (makes_one d mid new (negation (head_tree (terms ps))) full effect (first_there (terms ps) operands.0 stand) there)
  operator_made Conjunction ps full operands stand ordered effect there pairs_made h = conjoined ps full operands.0 stand effect there (subst (λ (xs : List CoreTree). MakesInOrder old xs mid) (woven_plain d Conjunction (λ us' u later. refl) [] ps) h)
  operator_made Disjunction ps full operands stand ordered effect there pairs_made h = disjoined ps full operands.0 stand effect there h
  operator_made Exclusion ps full operands stand ordered effect there pairs_made h = excluded ps full operands.0 stand ordered effect h
  operator_made Implication ps full operands stand ordered effect there pairs_made h = implied ps full operands.0 stand ordered effect there h
  operator_made Equality ps full operands stand ordered effect there pairs_made h = equal ps full operands.1 ordered effect there h
  operator_made Inequality ps full operands stand ordered effect there pairs_made h = different effect.kept.theorems ps operands.1 ordered effect.kept.ordered (pairs_made refl) h
