-- Operators: what is to be made before one of the terms under an operator, and that it is made when it is that term's turn.
use Rattle.std.proofs.Common.{◌≡◌, ◌<◌, List, [], ◌∷◌, ◌++◌, length, map, refl, sym, ap, subst, ◌∙◌, arith}
use Rattle.std.specs.List.{fold}
use Rattle.std.proofs.lemmas.List.{append-nil, append_assoc}
use Rattle.ct_sorts.specs.Declarations.{Declarations}
use Rattle.ct_terms.specs.Terms.{Terms, AreOrdered}
use Rattle.ct_terms.specs.CoreTree.{CoreTree, con, apply, sel, test, negation, conjunction, disjunction, equivalence, trees_of}
use Rattle.ct_formulas.specs.Pairs.{neighbours_from, pairs}
use Rattle.ct_formulas.specs.Compiled.{equality}
use Rattle.ct_operators.specs.declared.operator.Operator.{Operator}
use Rattle.ct_operators.specs.declared.operator.Operator.TheVariants.{Construct, Select, Inspect, Call, Negation, Conjunction, Disjunction, Exclusion, Implication, Equality, Inequality}
use Rattle.ct_operators.specs.Theorems.{Theorems}
use Rattle.ct_operators.specs.Forms.{head_tree, AreOperands}
use Rattle.ct_operators.specs.Following.{between, woven}
use Rattle.ct_operators.specs.Made.{HasTrees, MakesInOrder, Made, terms, made_for, over, made_negation, made_equality, made_inequality, made_exclusive, made_implied, made_all, made_any, made_by}
use Rattle.ct_operators.proofs.MakesLemmas.{have_left, have_right, makes_then, makes_none, makes_split, makes_has}
use Rattle.ct_operators.proofs.WovenLemmas.{one_over, without_nil, exclusive_woven, equal_woven, row_woven, made_append, terms_append, woven_has}

-- ---- what is made for the first of the terms, where others come later

abbrev pub woven_prefix : Declarations → Operator → List CoreTree → List Made → List CoreTree → List CoreTree
woven_prefix d o us [] later = []
woven_prefix d o us (p ∷ ps) later = p.making ++ (between d o us p.term (terms ps ++ later) ++ woven_prefix d o (us ++ p.term ∷ []) ps later)

-- for all of them
pub prefix_end : (d : Declarations) (o : Operator) (us : List CoreTree) (ps : List Made) → woven_prefix d o us ps [] ≡ woven d o us ps
prefix_end d o us [] = refl
prefix_end d o us (p ∷ ps) =
    ap (λ (xs : List CoreTree). p.making ++ (between d o us p.term xs ++ woven_prefix d o (us ++ p.term ∷ []) ps [])) (append-nil (terms ps))
    ∙ ap (λ (xs : List CoreTree). p.making ++ (between d o us p.term (terms ps) ++ xs)) (prefix_end d o (us ++ p.term ∷ []) ps)

-- with one more
pub prefix_more : (d : Declarations) (o : Operator) (us : List CoreTree) (ps : List Made) (p : Made) (later : List CoreTree) → woven_prefix d o us (ps ++ p ∷ []) later ≡ woven_prefix d o us ps (p.term ∷ later) ++ (p.making ++ between d o (us ++ terms ps) p.term later)
prefix_more d o us [] p later =
    ap (λ (xs : List CoreTree). p.making ++ xs) (append-nil (between d o us p.term later))
    ∙ ap (λ (vs : List CoreTree). p.making ++ between d o vs p.term later) (sym (append-nil us))
prefix_more d o us (q ∷ qs) p later =
    let vs = us ++ q.term ∷ [] in
    let here = between d o us q.term (terms qs ++ p.term ∷ later) in
    let prefix = woven_prefix d o vs qs (p.term ∷ later) in
    let last : List CoreTree = p.making ++ between d o (us ++ q.term ∷ terms qs) p.term later in
    ap (λ (xs : List CoreTree). q.making ++ (between d o us q.term xs ++ woven_prefix d o vs (qs ++ p ∷ []) later)) (ap (λ (xs : List CoreTree). xs ++ later) (terms_append qs (p ∷ [])) ∙ append_assoc (terms qs) (p.term ∷ []) later)
    ∙ ap (λ (xs : List CoreTree). q.making ++ (here ++ xs)) (prefix_more d o vs qs p later)
    ∙ ap (λ (ws : List CoreTree). q.making ++ (here ++ (prefix ++ (p.making ++ between d o ws p.term later)))) (append_assoc us (q.term ∷ []) (terms qs))
    ∙ ap (λ (xs : List CoreTree). q.making ++ xs) (sym (append_assoc here prefix last))
    ∙ sym (append_assoc q.making (here ++ prefix) last)

-- where nothing is between them
prefix_nothing : (d : Declarations) (o : Operator) → ((us : List CoreTree) (u : CoreTree) (later : List CoreTree) → between d o us u later ≡ []) → (us : List CoreTree) (ps : List Made) (later : List CoreTree) → woven_prefix d o us ps later ≡ made_for ps
prefix_nothing d o none us [] later = refl
prefix_nothing d o none us (p ∷ ps) later =
    ap (λ (xs : List CoreTree). p.making ++ (xs ++ woven_prefix d o (us ++ p.term ∷ []) ps later)) (none us p.term (terms ps ++ later))
    ∙ ap (λ (xs : List CoreTree). p.making ++ xs) (prefix_nothing d o none (us ++ p.term ∷ []) ps later)

-- where what is between them does not depend on the later ones
prefix_free : (d : Declarations) (o : Operator) → ((us : List CoreTree) (u : CoreTree) (xs ys : List CoreTree) → between d o us u xs ≡ between d o us u ys) → (us : List CoreTree) (ps : List Made) (later : List CoreTree) → woven_prefix d o us ps later ≡ woven d o us ps
prefix_free d o free us [] later = refl
prefix_free d o free us (p ∷ ps) later =
    ap (λ (xs : List CoreTree). p.making ++ (xs ++ woven_prefix d o (us ++ p.term ∷ []) ps later)) (free us p.term (terms ps ++ later) (terms ps))
    ∙ ap (λ (xs : List CoreTree). p.making ++ (between d o us p.term (terms ps) ++ xs)) (prefix_free d o free (us ++ p.term ∷ []) ps later)

-- ---- a part of a list, after what comes before it

abbrev pub Reaches : List CoreTree → List CoreTree → List CoreTree → Type 0
Reaches whole before part = (after : List CoreTree) × (whole ≡ before ++ (part ++ after))

reach_all : (part : List CoreTree) → Reaches part [] part
reach_all part = ([], sym (append-nil part))

reach_in : (whole before part x y z : List CoreTree) → part ≡ x ++ (y ++ z) → Reaches whole before part → Reaches whole (before ++ x) y
reach_in whole before part x y z is r = (
  z ++ r.0,
  r.1
      ∙ ap (λ (vs : List CoreTree). before ++ (vs ++ r.0)) is
      ∙ ap (λ (vs : List CoreTree). before ++ vs) (append_assoc x (y ++ z) r.0)
      ∙ ap (λ (vs : List CoreTree). before ++ (x ++ vs)) (append_assoc y z r.0)
      ∙ sym (append_assoc before x (y ++ (z ++ r.0))),
)

inner_first : (xs ys zs : List CoreTree) → (xs ++ (ys ++ [])) ++ zs ≡ xs ++ (ys ++ zs)
inner_first xs ys zs = ap (λ (vs : List CoreTree). (xs ++ vs) ++ zs) (append-nil ys) ∙ append_assoc xs ys zs

negated_making : (p q : Made) (e : CoreTree) → (made_negation (over (p ∷ (q ∷ [])) e)).making ≡ p.making ++ (q.making ++ (e ∷ (negation e ∷ [])))
negated_making p q e =
    ap (λ (xs : List CoreTree). xs ++ negation e ∷ []) (append-nil ((p.making ++ (q.making ++ [])) ++ e ∷ []))
    ∙ append_assoc (p.making ++ (q.making ++ [])) (e ∷ []) (negation e ∷ [])
    ∙ inner_first p.making q.making (e ∷ (negation e ∷ []))

over_at : (ms : List Made) (m : Made) (more : List Made) (t : CoreTree) → Reaches (over (ms ++ m ∷ more) t).making (made_for ms) m.making
over_at ms m more t = (
  made_for more ++ t ∷ [],
  ap (λ (xs : List CoreTree). xs ++ t ∷ []) (made_append ms (m ∷ more))
      ∙ append_assoc (made_for ms) (m.making ++ made_for more) (t ∷ [])
      ∙ ap (λ (xs : List CoreTree). made_for ms ++ xs) (append_assoc m.making (made_for more) (t ∷ [])),
)

all_at : (ms : List Made) (m : Made) (more : List Made) → Reaches (made_all (ms ++ m ∷ more)).making (made_for ms) m.making
all_at [] m [] = reach_all m.making
all_at [] m (n ∷ more) = over_at [] m (n ∷ more) (conjunction (trees_of (terms (m ∷ (n ∷ more)))))
all_at (k ∷ []) m more = over_at (k ∷ []) m more (conjunction (trees_of (terms ((k ∷ []) ++ m ∷ more))))
all_at (k ∷ (l ∷ ms)) m more = over_at (k ∷ (l ∷ ms)) m more (conjunction (trees_of (terms ((k ∷ (l ∷ ms)) ++ m ∷ more))))

any_at : (ms : List Made) (m : Made) (more : List Made) → Reaches (made_any (ms ++ m ∷ more)).making (made_for ms) m.making
any_at [] m [] = reach_all m.making
any_at [] m (n ∷ more) = over_at [] m (n ∷ more) (disjunction (trees_of (terms (m ∷ (n ∷ more)))))
any_at (k ∷ []) m more = over_at (k ∷ []) m more (disjunction (trees_of (terms ((k ∷ []) ++ m ∷ more))))
any_at (k ∷ (l ∷ ms)) m more = over_at (k ∷ (l ∷ ms)) m more (disjunction (trees_of (terms ((k ∷ (l ∷ ms)) ++ m ∷ more))))

-- ---- exclusive disjunction

fold_append : (acc : Made) (ps qs : List Made) → fold made_exclusive acc (ps ++ qs) ≡ fold made_exclusive (fold made_exclusive acc ps) qs
fold_append acc [] qs = refl
fold_append acc (p ∷ ps) qs = fold_append (made_exclusive acc p) ps qs

exclusive_begins : (acc : Made) (ps : List Made) → Reaches (fold made_exclusive acc ps).making [] acc.making
exclusive_begins acc [] = reach_all acc.making
exclusive_begins acc (p ∷ ps) =
    let e = equivalence acc.term p.term in
    reach_in (fold made_exclusive (made_exclusive acc p) ps).making [] (made_exclusive acc p).making [] acc.making (p.making ++ (e ∷ (negation e ∷ []))) (negated_making acc p e) (exclusive_begins (made_exclusive acc p) ps)

exclusive_at : (x : Made) (xs : List Made) (p : Made) (later : List Made) → Reaches (fold made_exclusive x (xs ++ p ∷ later)).making (fold made_exclusive x xs).making p.making
exclusive_at x xs p later =
    let acc = fold made_exclusive x xs in
    let e = equivalence acc.term p.term in
    subst (λ (m : Made). Reaches m.making acc.making p.making) (sym (fold_append x xs (p ∷ later)))
    (reach_in (fold made_exclusive (made_exclusive acc p) later).making [] (made_exclusive acc p).making acc.making p.making (e ∷ (negation e ∷ [])) (negated_making acc p e) (exclusive_begins (made_exclusive acc p) later))

-- ---- implication

abbrev refuted_prefix : List Made → List CoreTree
refuted_prefix [] = []
refuted_prefix (p ∷ ps) = (made_negation p).making ++ refuted_prefix ps

implied_first : (p m : Made) (t : CoreTree) → Reaches (over (made_negation p ∷ (m ∷ [])) t).making [] p.making
implied_first p m t =
    let whole = (over (made_negation p ∷ (m ∷ [])) t).making in
    reach_in whole [] (made_negation p).making [] p.making (negation p.term ∷ []) (ap (λ (xs : List CoreTree). xs ++ negation p.term ∷ []) (append-nil p.making))
    (m.making ++ t ∷ [], inner_first (made_negation p).making m.making (t ∷ []))

implied_second : (p m : Made) (t : CoreTree) → Reaches (over (made_negation p ∷ (m ∷ [])) t).making (made_negation p).making m.making
implied_second p m t = (t ∷ [], inner_first (made_negation p).making m.making (t ∷ []))

implied_begins : (p : Made) (later : List Made) → Reaches (made_implied p later).making [] p.making
implied_begins p [] = reach_all p.making
implied_begins p (q ∷ qs) = implied_first p (made_implied q qs) (disjunction (trees_of (negation p.term ∷ ((made_implied q qs).term ∷ []))))

implied_at : (x : Made) (xs : List Made) (p : Made) (later : List Made) → Reaches (made_implied x (xs ++ p ∷ later)).making (refuted_prefix (x ∷ xs)) p.making
implied_at x [] p later =
    let m = made_implied p later in
    let inner = implied_begins p later in
    reach_in (made_implied x (p ∷ later)).making (made_negation x).making m.making [] p.making inner.0 inner.1 (implied_second x m (disjunction (trees_of (negation x.term ∷ (m.term ∷ [])))))
implied_at x (y ∷ ys) p later =
    let m = made_implied y (ys ++ p ∷ later) in
    let inner = implied_at y ys p later in
    reach_in (made_implied x ((y ∷ ys) ++ p ∷ later)).making (made_negation x).making m.making (refuted_prefix (y ∷ ys)) p.making inner.0 inner.1 (implied_second x m (disjunction (trees_of (negation x.term ∷ (m.term ∷ [])))))

refuted_between : (d : Declarations) (us : List CoreTree) (u : CoreTree) (vs : List CoreTree) (w : CoreTree) (later : List CoreTree) → between d Implication us u (vs ++ w ∷ later) ≡ negation u ∷ []
refuted_between d us u [] w later = refl
refuted_between d us u (v ∷ vs) w later = refl

refuted_makes : (d : Declarations) (us : List CoreTree) (ps : List Made) (w : CoreTree) (later : List CoreTree) (a c : Terms) → MakesInOrder a (woven_prefix d Implication us ps (w ∷ later)) c → MakesInOrder a (refuted_prefix ps) c
refuted_makes d us [] w later a c h = h
refuted_makes d us (p ∷ ps) w later a c h =
    let rest = woven_prefix d Implication (us ++ p.term ∷ []) ps (w ∷ later) in
    let k = subst (λ (xs : List CoreTree). MakesInOrder a (p.making ++ (xs ++ rest)) c) (refuted_between d us p.term (terms ps) w later) h in
    let one = makes_split p.making (negation p.term ∷ rest) a c k in
    let two = makes_split (negation p.term ∷ []) rest one.0 c one.1.1 in
    makes_then (made_negation p).making (refuted_prefix ps) a two.0 c (one_over p (negation p.term) a one.0 two.0 one.1.0 two.1.0) (refuted_makes d (us ++ p.term ∷ []) ps w later two.0 c two.1.1)

-- ---- equality

abbrev last_made : Made → List Made → Made
last_made p [] = p
last_made p (q ∷ qs) = last_made q qs

last_has : (table : Terms) (p : Made) (ps : List Made) → HasTrees table (made_for (p ∷ ps)) → HasTrees table (last_made p ps).making
last_has table p [] h = have_left table p.making [] h
last_has table p (q ∷ qs) h = last_has table q qs (have_right table p.making (made_for (q ∷ qs)) h)

neighbours_append : (d : Declarations) (x : Made) (xs : List Made) (p : Made) (later : List Made) → neighbours_from (made_equality d) x (xs ++ p ∷ later) ≡ neighbours_from (made_equality d) x xs ++ (made_equality d (last_made x xs) p ∷ neighbours_from (made_equality d) p later)
neighbours_append d x [] p later = refl
neighbours_append d x (y ∷ ys) p later = ap (λ (ms : List Made). made_equality d x y ∷ ms) (neighbours_append d y ys p later)

equal_begins : (d : Declarations) (p q : Made) (qs : List Made) → Reaches (made_all (neighbours_from (made_equality d) p (q ∷ qs))).making [] p.making
equal_begins d p q qs =
    let e = equality d p.term q.term in
    reach_in (made_all (neighbours_from (made_equality d) p (q ∷ qs))).making [] (made_equality d p q).making [] p.making (q.making ++ e ∷ []) (inner_first p.making q.making (e ∷ [])) (all_at [] (made_equality d p q) (neighbours_from (made_equality d) q qs))

equal_at : (d : Declarations) (x : Made) (xs : List Made) (p : Made) (later : List Made) → Reaches (made_all (neighbours_from (made_equality d) x (xs ++ p ∷ later))).making (made_for (neighbours_from (made_equality d) x xs) ++ (last_made x xs).making) p.making
equal_at d x xs p later =
    let z = last_made x xs in
    let e = equality d z.term p.term in
    let first = neighbours_from (made_equality d) x xs in
    let more = neighbours_from (made_equality d) p later in
    subst (λ (ms : List Made). Reaches (made_all ms).making (made_for first ++ z.making) p.making) (sym (neighbours_append d x xs p later))
    (reach_in (made_all (first ++ made_equality d z p ∷ more)).making (made_for first) (made_equality d z p).making z.making p.making (e ∷ []) (inner_first z.making p.making (e ∷ [])) (all_at first (made_equality d z p) more))

equal_makes : (theorems : Theorems) (d : Declarations) (x : Made) (xs : List Made) (a c : Terms) → AreOrdered c → MakesInOrder a (woven d Equality [] (x ∷ xs)) c → MakesInOrder a (made_for (neighbours_from (made_equality d) x xs) ++ (last_made x xs).making) c
equal_makes theorems d x [] a c ordered h = without_nil x.making a c h
equal_makes theorems d x (y ∷ ys) a c ordered h =
    let one = makes_split x.making (woven d Equality (x.term ∷ []) (y ∷ ys)) a c h in
    let there = woven_has d Equality c [] (x ∷ (y ∷ ys)) (makes_has theorems (woven d Equality [] (x ∷ (y ∷ ys))) a c ordered h) in
    makes_then (made_for (neighbours_from (made_equality d) x (y ∷ ys))) (last_made x (y ∷ ys)).making a c c
    (equal_woven theorems d x y ys x.term [] a one.0 c ordered refl one.1.0 one.1.1)
    (makes_none (last_made x (y ∷ ys)).making c (last_has c x (y ∷ ys) there))

-- ---- inequality

row_append : (d : Declarations) (x : Made) (xs : List Made) (p : Made) (later more : List Made) → map (made_inequality d x) (xs ++ p ∷ later) ++ more ≡ map (made_inequality d x) xs ++ (made_inequality d x p ∷ (map (made_inequality d x) later ++ more))
row_append d x [] p later more = refl
row_append d x (y ∷ ys) p later more = ap (λ (ms : List Made). made_inequality d x y ∷ ms) (row_append d x ys p later more)

unequal_begins : (d : Declarations) (p q : Made) (qs : List Made) → Reaches (made_all (pairs (made_inequality d) (p ∷ (q ∷ qs)))).making [] p.making
unequal_begins d p q qs =
    let e = equality d p.term q.term in
    reach_in (made_all (pairs (made_inequality d) (p ∷ (q ∷ qs)))).making [] (made_inequality d p q).making [] p.making (q.making ++ (e ∷ (negation e ∷ []))) (negated_making p q e) (all_at [] (made_inequality d p q) (map (made_inequality d p) qs ++ pairs (made_inequality d) (q ∷ qs)))

unequal_at : (d : Declarations) (x : Made) (xs : List Made) (p : Made) (later : List Made) → Reaches (made_all (pairs (made_inequality d) (x ∷ (xs ++ p ∷ later)))).making (made_for (map (made_inequality d x) xs) ++ x.making) p.making
unequal_at d x xs p later =
    let e = equality d x.term p.term in
    let first = map (made_inequality d x) xs in
    let others = pairs (made_inequality d) (xs ++ p ∷ later) in
    let more = map (made_inequality d x) later ++ others in
    subst (λ (ms : List Made). Reaches (made_all ms).making (made_for first ++ x.making) p.making) (sym (row_append d x xs p later others))
    (reach_in (made_all (first ++ made_inequality d x p ∷ more)).making (made_for first) (made_inequality d x p).making x.making p.making (e ∷ (negation e ∷ [])) (negated_making x p e) (all_at first (made_inequality d x p) more))

unequal_makes : (theorems : Theorems) (d : Declarations) (x : Made) (xs : List Made) (a c : Terms) → AreOrdered c → MakesInOrder a (woven d Inequality [] (x ∷ xs)) c → MakesInOrder a (made_for (map (made_inequality d x) xs) ++ x.making) c
unequal_makes theorems d x [] a c ordered h = without_nil x.making a c h
unequal_makes theorems d x (y ∷ ys) a c ordered h =
    let one = makes_split x.making (woven d Inequality (x.term ∷ []) (y ∷ ys)) a c h in
    let there = woven_has d Inequality c [] (x ∷ (y ∷ ys)) (makes_has theorems (woven d Inequality [] (x ∷ (y ∷ ys))) a c ordered h) in
    makes_then (made_for (map (made_inequality d x) (y ∷ ys))) x.making a c c
    (row_woven theorems d x y ys [] a one.0 c ordered one.1.0 one.1.1)
    (makes_none x.making c (have_left c x.making (made_for (y ∷ ys)) there))

-- ---- for each operator

-- what comes before the part of the whole is made
abbrev pub IsNext : List CoreTree → List CoreTree → Terms → Terms → Type 0
IsNext whole part old table = (before : List CoreTree) × (Reaches whole before part) × MakesInOrder old before table

module _ (theorems : Theorems) (d : Declarations) (p : Made) (later : List Made) (old table : Terms) (ordered : AreOrdered table) where
  next_over : (o : Operator) (done : List Made) (t : CoreTree) → ((us : List CoreTree) (u : CoreTree) (vs : List CoreTree) → between d o us u vs ≡ []) → MakesInOrder old (woven_prefix d o [] done (p.term ∷ terms later)) table → IsNext (over (done ++ p ∷ later) t).making p.making old table
  next_over o done t none h = (
    made_for done,
    over_at done p later t,
    subst (λ (xs : List CoreTree). MakesInOrder old xs table) (prefix_nothing d o none [] done (p.term ∷ terms later)) h,
  )

  next_exclusive : (done : List Made) → MakesInOrder old (woven_prefix d Exclusion [] done (p.term ∷ terms later)) table → IsNext (made_by d Exclusion (done ++ p ∷ later)).making p.making old table
  next_exclusive [] h = ([], exclusive_begins p later, h)
  next_exclusive (x ∷ xs) h =
      let k = subst (λ (vs : List CoreTree). MakesInOrder old vs table) (prefix_free d Exclusion free [] (x ∷ xs) (p.term ∷ terms later)) h in
      let one = makes_split x.making (woven d Exclusion (x.term ∷ []) xs) old table k in
      ((fold made_exclusive x xs).making, exclusive_at x xs p later, exclusive_woven d x x.term [] xs old one.0 table refl one.1.0 one.1.1)
    where
      free : (us : List CoreTree) (u : CoreTree) (vs ws : List CoreTree) → between d Exclusion us u vs ≡ between d Exclusion us u ws
      free [] u vs ws = refl
      free (v ∷ us) u vs ws = refl

  next_implied : (done : List Made) → MakesInOrder old (woven_prefix d Implication [] done (p.term ∷ terms later)) table → IsNext (made_by d Implication (done ++ p ∷ later)).making p.making old table
  next_implied [] h = ([], implied_begins p later, h)
  next_implied (x ∷ xs) h = (refuted_prefix (x ∷ xs), implied_at x xs p later, refuted_makes d [] (x ∷ xs) p.term (terms later) old table h)

  next_equal : (done ps : List Made) → 1 < length (terms (done ++ p ∷ ps)) → MakesInOrder old (woven_prefix d Equality [] done (p.term ∷ terms ps)) table → IsNext (made_by d Equality (done ++ p ∷ ps)).making p.making old table
  next_equal [] [] some h = absurd (omega (arith, some))
  next_equal [] (q ∷ qs) some h = ([], equal_begins d p q qs, h)
  next_equal (x ∷ xs) ps some h =
      let k = subst (λ (vs : List CoreTree). MakesInOrder old vs table) (prefix_free d Equality free [] (x ∷ xs) (p.term ∷ terms ps)) h in
      (made_for (neighbours_from (made_equality d) x xs) ++ (last_made x xs).making, equal_at d x xs p ps, equal_makes theorems d x xs old table ordered k)
    where
      free : (us : List CoreTree) (u : CoreTree) (vs ws : List CoreTree) → between d Equality us u vs ≡ between d Equality us u ws
      free [] u vs ws = refl
      free (v ∷ us) u vs ws = refl

  next_unequal : (done ps : List Made) → 1 < length (terms (done ++ p ∷ ps)) → MakesInOrder old (woven_prefix d Inequality [] done (p.term ∷ terms ps)) table → IsNext (made_by d Inequality (done ++ p ∷ ps)).making p.making old table
  next_unequal [] [] some h = absurd (omega (arith, some))
  next_unequal [] (q ∷ qs) some h = ([], unequal_begins d p q qs, h)
  next_unequal (x ∷ xs) ps some h =
      let k = subst (λ (vs : List CoreTree). MakesInOrder old vs table) (prefix_free d Inequality free [] (x ∷ xs) (p.term ∷ terms ps)) h in
      (made_for (map (made_inequality d x) xs) ++ x.making, unequal_at d x xs p ps, unequal_makes theorems d x xs old table ordered k)
    where
      free : (us : List CoreTree) (u : CoreTree) (vs ws : List CoreTree) → between d Inequality us u vs ≡ between d Inequality us u ws
      free [] u vs ws = refl
      free (v ∷ us) u vs ws = refl

  -- where those before a term are made, the term is next
  pub operator_next : (o : Operator) (done : List Made) → AreOperands d o (terms (done ++ p ∷ later)) → MakesInOrder old (woven_prefix d o [] done (p.term ∷ terms later)) table → IsNext (made_by d o (done ++ p ∷ later)).making p.making old table
  operator_next (Construct c) done operands h = next_over (Construct c) done (con c (trees_of (terms (done ++ p ∷ later)))) (λ us u vs. refl) h
  operator_next (Call f) done operands h = next_over (Call f) done (apply f (trees_of (terms (done ++ p ∷ later)))) (λ us u vs. refl) h
  operator_next (Select s) done operands h = next_over (Select s) done (sel s (head_tree (terms (done ++ p ∷ later)))) (λ us u vs. refl) h
  operator_next (Inspect c) done operands h = next_over (Inspect c) done (test c (head_tree (terms (done ++ p ∷ later)))) (λ us u vs. refl) h
  operator_next Negation done operands h = next_over Negation done (negation (head_tree (terms (done ++ p ∷ later)))) (λ us u vs. refl) h
  operator_next Conjunction done operands h = (made_for done, all_at done p later, subst (λ (xs : List CoreTree). MakesInOrder old xs table) (prefix_nothing d Conjunction (λ us u vs. refl) [] done (p.term ∷ terms later)) h)
  operator_next Disjunction done operands h = (made_for done, any_at done p later, subst (λ (xs : List CoreTree). MakesInOrder old xs table) (prefix_nothing d Disjunction (λ us u vs. refl) [] done (p.term ∷ terms later)) h)
  operator_next Exclusion done operands h = next_exclusive done h
  operator_next Implication done operands h = next_implied done h
  operator_next Equality done operands h = next_equal done later operands.1 h
  operator_next Inequality done operands h = next_unequal done later operands.1 h
