-- What merges rest on, by the ways that their premises have.
use Rattle.std.proofs.Common.{◌≡◌, ℕ, zero, suc, ◌+◌, ◌-◌, ◌<◌, ◌≤◌, ◌⊎◌, inl, inr, Bool, true, false, true≢false, List, [], ◌∷◌, length, take, get_or, set, Option, None, Some, slice_get, refl, sym, ap, subst, ◌∙◌, arith}
use Rattle.std.specs.Bool.{OnTrue, OnFalse}
use Rattle.std.specs.List.{AllByRecursion, Contains}
use Rattle.std.proofs.lemmas.Option.{none-some, same_Some, slice_get-get_or, slice_get_within}
use Rattle.ct_lemmas.proofs.Contained.{Contains-from_slice_get, slice_get-from_Contains}
use Rattle.ct_lemmas.proofs.Lists.{slice_get-set_other, slice_get-set_same}
use Rattle.ct_lemmas.proofs.Numbers.{order_cases, same_or_other}
use Rattle.ct_lemmas.proofs.Pairs.{AllZip-at, AllZip-one_length, AllZip-weaker}
use Rattle.ct_sorts.specs.Declarations.{Declarations}
use Rattle.ct_terms.specs.declared.ids.TermId.{TermId}
use Rattle.ct_terms.specs.declared.ids.Lit.{Lit}
use Rattle.ct_terms.specs.declared.term.Core.{Core}
use Rattle.ct_terms.specs.declared.term.Core.TheVariants as core
use Rattle.ct_terms.specs.Children.{core_children, HasArgumentsBelow}
use Rattle.ct_terms.specs.Terms.{Terms, Has, AreOrdered}
use Rattle.ct_rules.specs.declared.equation.Equation.{Equation}
use Rattle.ct_rules.specs.Rules.{Equations}
use Rattle.ct_rules.specs.Uniqueness.{AreMatched, IsPairMatched, AreAllMatched}
use Rattle.ct_congr.specs.declared.merge.Reason.{Reason}
use Rattle.ct_congr.specs.declared.merge.Reason.TheVariants.{Hyp, Cong, Inject, Sel, Test, Expand, EqualIn, EqualOut, Neg, Single, Unique}
use Rattle.ct_congr.specs.declared.merge.Merge.{Merge}
use Rattle.ct_congr.specs.Merges.{AreConnected}
use Rattle.ct_congr.specs.Reasons.{IsReason}
use Rattle.ct_congr.specs.State.{State}
use Rattle.ct_explain.specs.declared.forest.Link.{Link}
use Rattle.ct_explain.specs.Trees.{HasRoot, IsForestOf, IsForestOver, IsForestPath, IsRoute}
use Rattle.ct_explain.specs.Premises.{IsOver, HasNoPremise}
use Rattle.ct_explain.specs.Resting.{IsPaved, IsDetour, IsMatching, IsPavedBy, IsEntryPaved, AreEntriesPaved, AreArgumentsPaved, IsEntry, AreEntries, AreArgumentsMatched, IsLone, Rests, IsMarked, IsMarkedBelow, AreMarkedMore, HasNumber, AreEqualAlong}
use Rattle.ct_explain.proofs.ReasonLemmas.{one_under}
use Rattle.ct_explain.proofs.StepLemmas.{Has-same}
use Rattle.ct_explain.proofs.WayLemmas.{one_path, route_of_path}

same_found : (f g : ℕ × Equation) → f.0 ≡ g.0 → f.1 ≡ g.1 → f ≡ g
same_found f g p q = ap (λ (n : ℕ). (n, f.1)) p ∙ ap (λ (e : Equation). (g.0, e)) q

-- two terms are matched in one way
pub one_detour : (known : Equations) (equations : List Equation) (x y : TermId) (a b : Option (ℕ × Equation)) → IsDetour known equations x y a → IsDetour known equations x y b → a ≡ b
one_detour known equations x y None None p q = refl
one_detour known equations x y None (Some g) p q = absurd (q.0 p)
one_detour known equations x y (Some f) None p q = absurd (p.0 q)
one_detour known equations x y (Some f) (Some g) p q =
    elim (order_cases f.0 g.0) [
      | inl h ↦ absurd (q.1.first f.0 f.1 h p.1.at p.1.left p.1.right)
      | inr h ↦ elim h [
        | inl e ↦ ap (λ (z : ℕ × Equation). Some z) (same_found f g e (same_Some f.1 g.1 (sym p.1.at ∙ ap (slice_get equations) e ∙ q.1.at)))
        | inr less ↦ absurd (p.1.first g.0 g.1 less q.1.at q.1.left q.1.right)
      ]
    ]

-- what has one property has another that it implies
module _ (links : List (Option Link)) (has more : ℕ → Type 0) (implies : (k : ℕ) → has k → more k) where
  pub paved_more : (x y : TermId) → IsPaved links has x y → IsPaved links more x y
  paved_more x y p = λ path way k inside. implies k (p path way k inside)

  paved_by_more : (x y : TermId) (answer : Option (ℕ × Equation)) → IsPavedBy links has x y answer → IsPavedBy links more x y answer
  paved_by_more x y None p = paved_more x y p
  paved_by_more x y (Some f) p = (paved_more x f.1.left p.0, paved_more f.1.right y p.1)

  pub entry_more : (known : Equations) (equations : List Equation) (x y : TermId) → IsEntryPaved links known has equations x y → IsEntryPaved links known more equations x y
  entry_more known equations x y p = λ answer is. paved_by_more x y answer (p answer is)

  pub arguments_more : (terms : Terms) (known : Equations) (equations : List Equation) (t u : TermId) → AreArgumentsPaved terms links known has equations t u → AreArgumentsPaved terms links known more equations t u
  arguments_more terms known equations t u p = λ left right at_left at_right i x y at_x at_y. entry_more known equations x y (p left right at_left at_right i x y at_x at_y)

  pub rests_more : (terms : Terms) (known : Equations) (right : TermId) (why : Reason) → Rests terms links known has right why → Rests terms links known more right why
  rests_more terms known right (Hyp l) p = tt
  rests_more terms known right Single p = tt
  rests_more terms known right (Cong t u) p = arguments_more terms known [] t u p
  rests_more terms known right (Unique pairs) p = λ e inside. arguments_more terms known pairs e.left e.right (p e inside)
  rests_more terms known right (Inject a b k) p = λ x y lone. paved_more x y (p x y lone)
  rests_more terms known right (Sel t c) p = λ x y lone. paved_more x y (p x y lone)
  rests_more terms known right (Test t c) p = λ x y lone. paved_more x y (p x y lone)
  rests_more terms known right (Expand t c) p = λ x y lone. paved_more x y (p x y lone)
  rests_more terms known right (EqualIn t) p = λ x y lone. paved_more x y (p x y lone)
  rests_more terms known right (EqualOut t) p = λ x y lone. paved_more x y (p x y lone)
  rests_more terms known right (Neg t) p = λ x y lone. paved_more x y (p x y lone)

-- a reason by a rule with one premise rests on the way of that
pub rests_lone : (terms : Terms) (links : List (Option Link)) (known : Equations) (has : ℕ → Type 0) (right : TermId) (why : Reason) → (HasNoPremise why → ⊥)
    → ((x y : TermId) → IsLone terms right why x y → IsPaved links has x y) → Rests terms links known has right why
rests_lone terms links known has right (Hyp l) one p = tt
rests_lone terms links known has right Single one p = tt
rests_lone terms links known has right (Cong t u) one p = absurd (one tt)
rests_lone terms links known has right (Unique pairs) one p = absurd (one tt)
rests_lone terms links known has right (Inject a b k) one p = p
rests_lone terms links known has right (Sel t c) one p = p
rests_lone terms links known has right (Test t c) one p = p
rests_lone terms links known has right (Expand t c) one p = p
rests_lone terms links known has right (EqualIn t) one p = p
rests_lone terms links known has right (EqualOut t) one p = p
rests_lone terms links known has right (Neg t) one p = p

pub lone_rests : (terms : Terms) (links : List (Option Link)) (known : Equations) (has : ℕ → Type 0) (right : TermId) (why : Reason) → Rests terms links known has right why
    → (x y : TermId) → IsLone terms right why x y → IsPaved links has x y
lone_rests terms links known has right (Hyp l) p x y lone = absurd lone
lone_rests terms links known has right Single p x y lone = absurd lone
lone_rests terms links known has right (Cong t u) p x y lone = absurd lone
lone_rests terms links known has right (Unique pairs) p x y lone = absurd lone
lone_rests terms links known has right (Inject a b k) p x y lone = p x y lone
lone_rests terms links known has right (Sel t c) p x y lone = p x y lone
lone_rests terms links known has right (Test t c) p x y lone = p x y lone
lone_rests terms links known has right (Expand t c) p x y lone = p x y lone
lone_rests terms links known has right (EqualIn t) p x y lone = p x y lone
lone_rests terms links known has right (EqualOut t) p x y lone = p x y lone
lone_rests terms links known has right (Neg t) p x y lone = p x y lone

-- one term under another
same_under : (terms : Terms) (t x u : TermId) (node : Core) → Has terms node t.0 → IsOver terms t (x ∷ []) → IsOver terms t (u ∷ []) → x ≡ u
same_under terms t x u node stands p q = one_under x u (sym (p node stands) ∙ q node stands)

-- a merge has one premise
pub one_lone : (d : Declarations) (terms : Terms) (hyps : List Lit) (known : Equations) (l r : TermId) (why : Reason) (x y u v : TermId)
    → IsReason d terms hyps known l r why → IsLone terms r why x y → IsLone terms r why u v → (x ≡ u) × (y ≡ v)
one_lone d terms hyps known l r (Hyp a) x y u v h p q = absurd p
one_lone d terms hyps known l r Single x y u v h p q = absurd p
one_lone d terms hyps known l r (Cong t s) x y u v h p q = absurd p
one_lone d terms hyps known l r (Unique pairs) x y u v h p q = absurd p
one_lone d terms hyps known l r (Inject a b k) x y u v h p q = (p.0 ∙ sym q.0, p.1 ∙ sym q.1)
one_lone d terms hyps known l r (Expand t c) x y u v h p q = (p.0 ∙ sym q.0, p.1 ∙ sym q.1)
one_lone d terms hyps known l r (EqualOut t) x y u v h p q = (p.0 ∙ sym q.0, p.1 ∙ sym q.1)
one_lone d terms hyps known l r (Sel t c) x y u v h p q =
    let rule = h.1 in
    (same_under terms t x u (core.Sel rule.sel rule.argument) (subst (λ (z : TermId). Has terms (core.Sel rule.sel rule.argument) z.0) h.0 rule.stands) p.0 q.0, p.1 ∙ sym q.1)
one_lone d terms hyps known l r (Test t c) x y u v h p q =
    let rule = h.1 in
    (same_under terms t x u (core.Test rule.tested rule.argument) (subst (λ (z : TermId). Has terms (core.Test rule.tested rule.argument) z.0) h.0 rule.stands) p.0 q.0, p.1 ∙ sym q.1)
one_lone d terms hyps known l r (EqualIn t) x y u v h p q =
    let rule = h.1 in
    let stands : Has terms (core.Eq rule.left rule.right) t.0 = subst (λ (z : TermId). Has terms (core.Eq rule.left rule.right) z.0) h.0 rule.stands in
    let both : x ∷ (y ∷ []) ≡ u ∷ (v ∷ []) = sym (p (core.Eq rule.left rule.right) stands) ∙ q (core.Eq rule.left rule.right) stands in
    let left : x ≡ u = cc in
    let right : y ≡ v = cc in
    (left, right)
one_lone d terms hyps known l r (Neg t) x y u v h p q =
    let rule = h.1 in (
      same_under terms t x u (core.Not rule.argument) (subst (λ (z : TermId). Has terms (core.Not rule.argument) z.0) h.0 rule.stands) p.0 q.0,
      elim rule.answer [ inl a ↦ p.2 a.1 ∙ sym (q.2 a.1) | inr a ↦ p.1 a.1 ∙ sym (q.1 a.1) ],
    )

-- a term in the table is inside
pub stands_inside : (terms : Terms) (node : Core) (t : ℕ) → Has terms node t → t < length terms
stands_inside terms node t stands = slice_get_within terms t (node, stands.0) stands.1

-- each of them has the property
each_below : (n : ℕ) (xs : List TermId) (i : ℕ) (x : TermId) → AllByRecursion (λ t. t.0 < n) xs → slice_get xs i ≡ Some x → x.0 < n
each_below n [] i x all at = absurd (none-some x at)
each_below n (z ∷ zs) zero x all at = subst (λ (q : TermId). q.0 < n) (same_Some z x at) all.0
each_below n (z ∷ zs) (suc i) x all at = each_below n zs i x all.1 at

-- the first term under one in the table is inside
under_inside : (terms : Terms) (node : Core) (t x : TermId) (rest : List TermId) → AreOrdered terms → Has terms node t.0 → IsOver terms t (x ∷ rest) → x.0 < length terms
under_inside terms node t x rest ordered stands over =
    let below = each_below t.0 (core_children node) 0 x (ordered t.0 node stands) (ap (λ (l : List TermId). slice_get l 0) (over node stands)) in
    let inside = stands_inside terms node t.0 stands in
    omega (arith, below, inside)

-- so is the left side of a premise
pub lone_inside : (d : Declarations) (terms : Terms) (hyps : List Lit) (known : Equations) (l r : TermId) (why : Reason) (x y : TermId)
    → AreOrdered terms → IsReason d terms hyps known l r why → IsLone terms r why x y → x.0 < length terms
lone_inside d terms hyps known l r (Hyp a) x y ordered h p = absurd p
lone_inside d terms hyps known l r Single x y ordered h p = absurd p
lone_inside d terms hyps known l r (Cong t s) x y ordered h p = absurd p
lone_inside d terms hyps known l r (Unique pairs) x y ordered h p = absurd p
lone_inside d terms hyps known l r (Inject a b k) x y ordered h p =
    let rule = h.0 in
    subst (λ (q : TermId). q.0 < length terms) (h.1 ∙ sym p.0) (stands_inside terms (core.Con rule.ctor rule.xs) rule.left.0 rule.left_stands)
lone_inside d terms hyps known l r (Expand t c) x y ordered h p =
    let rule = h.1 in
    subst (λ (q : TermId). q.0 < length terms) (h.2 ∙ sym p.0) (stands_inside terms (core.Test rule.id l) rule.test.0 rule.test_stands)
lone_inside d terms hyps known l r (EqualOut t) x y ordered h p =
    let rule = h.0 in
    subst (λ (q : TermId). q.0 < length terms) (h.1 ∙ sym p.0) (stands_inside terms (core.Eq l r) rule.term.0 rule.stands)
lone_inside d terms hyps known l r (Sel t c) x y ordered h p =
    let rule = h.1 in
    under_inside terms (core.Sel rule.sel rule.argument) t x [] ordered (subst (λ (z : TermId). Has terms (core.Sel rule.sel rule.argument) z.0) h.0 rule.stands) p.0
lone_inside d terms hyps known l r (Test t c) x y ordered h p =
    let rule = h.1 in
    under_inside terms (core.Test rule.tested rule.argument) t x [] ordered (subst (λ (z : TermId). Has terms (core.Test rule.tested rule.argument) z.0) h.0 rule.stands) p.0
lone_inside d terms hyps known l r (EqualIn t) x y ordered h p =
    let rule = h.1 in
    under_inside terms (core.Eq rule.left rule.right) t x (y ∷ []) ordered (subst (λ (z : TermId). Has terms (core.Eq rule.left rule.right) z.0) h.0 rule.stands) p
lone_inside d terms hyps known l r (Neg t) x y ordered h p =
    let rule = h.1 in
    under_inside terms (core.Not rule.argument) t x [] ordered (subst (λ (z : TermId). Has terms (core.Not rule.argument) z.0) h.0 rule.stands) p.0

-- the arguments of congruent terms, and those of the sides of a pair
pub congruent_arguments : (d : Declarations) (terms : Terms) (hyps : List Lit) (known : Equations) (l r t u : TermId)
    → IsReason d terms hyps known l r (Cong t u) → AreArgumentsMatched terms known [] t u
congruent_arguments d terms hyps known l r t u h =
    let rule = h.2 in
    record {
      left = rule.left;
      right = rule.right;
      left_stands = subst (λ (q : TermId). Has terms rule.left q.0) h.0 rule.left_stands;
      right_stands = subst (λ (q : TermId). Has terms rule.right q.0) h.1 rule.right_stands;
      arguments = AllZip-weaker known (AreMatched known []) (λ x y p. inl p) (core_children rule.left) (core_children rule.right) rule.arguments;
    }

pub pair_arguments : (terms : Terms) (known : Equations) (equations : List Equation) (t u : TermId) → IsPairMatched terms known equations t u → AreArgumentsMatched terms known equations t u
pair_arguments terms known equations t u h = record {
  left = core.Con h.ctor h.xs;
  right = core.Con h.ctor h.ys;
  left_stands = h.left_stands;
  right_stands = h.right_stands;
  arguments = h.arguments;
}

-- as entries, whatever stands there
pub arguments_long : (terms : Terms) (known : Equations) (equations : List Equation) (t u : TermId) (left right : Core)
    → AreArgumentsMatched terms known equations t u → Has terms left t.0 → Has terms right u.0 → length (core_children left) ≡ length (core_children right)
arguments_long terms known equations t u left right h at_left at_right =
    ap (λ (c : Core). length (core_children c)) (Has-same terms left h.left t.0 at_left h.left_stands)
    ∙ AllZip-one_length (AreMatched known equations) (core_children h.left) (core_children h.right) h.arguments
    ∙ ap (λ (c : Core). length (core_children c)) (Has-same terms h.right right u.0 h.right_stands at_right)

pub arguments_entries : (terms : Terms) (known : Equations) (equations : List Equation) (t u : TermId) (left right : Core)
    → AreArgumentsMatched terms known equations t u → Has terms left t.0 → Has terms right u.0
    → HasArgumentsBelow (length terms) left → HasArgumentsBelow (length terms) right → AreEntries terms known equations (core_children left) (core_children right)
arguments_entries terms known equations t u left right h at_left at_right left_below right_below = λ i x y at_x at_y. record {
  left = each_below (length terms) (core_children left) i x left_below at_x;
  right = each_below (length terms) (core_children right) i y right_below at_y;
  matched = AllZip-at (AreMatched known equations) (core_children h.left) (core_children h.right) i x y h.arguments
      (subst (λ (c : Core). slice_get (core_children c) i ≡ Some x) (Has-same terms left h.left t.0 at_left h.left_stands) at_x)
      (subst (λ (c : Core). slice_get (core_children c) i ≡ Some y) (Has-same terms right h.right u.0 at_right h.right_stands) at_y);
}

-- terms that no equations match are known to be equal
pub matched_alone : (known : Equations) (x y : TermId) → AreMatched known [] x y → known x y
matched_alone known x y (inl p) = p
matched_alone known x y (inr p) = let h = p.1.1 in absurd (omega (arith, h))

-- the sides of the equations are inside
pub sides_within : (terms : Terms) (known : Equations) (equations : List Equation) (e : Equation) → AreAllMatched terms known equations → Contains equations e → (e.left.0 < length terms) × (e.right.0 < length terms)
sides_within terms known equations e all inside =
    let pair = all e inside in
    (stands_inside terms (core.Con pair.ctor pair.xs) e.left.0 pair.left_stands, stands_inside terms (core.Con pair.ctor pair.ys) e.right.0 pair.right_stands)

pub matching_of : (state : State) (links : List (Option Link)) (bound : ℕ) (equations : List Equation) (x y : TermId) → IsForestOver state links
    → AreAllMatched state.terms (AreConnected (take bound state.merges)) equations → IsEntry state.terms (AreConnected (take bound state.merges)) equations x y
    → IsMatching state.merges links bound equations x y
matching_of state links bound equations x y forest all entry = record {
  forest = forest.forest;
  left = subst (λ (n : ℕ). x.0 < n) (sym forest.long) entry.left;
  right = subst (λ (n : ℕ). y.0 < n) (sym forest.long) entry.right;
  sides = λ e inside.
      let both = sides_within state.terms (AreConnected (take bound state.merges)) equations e all inside in
      (subst (λ (n : ℕ). e.left.0 < n) (sym forest.long) both.0, subst (λ (n : ℕ). e.right.0 < n) (sym forest.long) both.1);
  matched = entry.matched;
}

-- marks
pub marked_none : (marks : List Bool) (bound : ℕ) → AreMarkedMore marks marks bound
marked_none marks bound = record { long = refl; stays = λ k h. h; above = λ k above h. h }

pub marked_then : (a b c : List Bool) (bound : ℕ) → AreMarkedMore a b bound → AreMarkedMore b c bound → AreMarkedMore a c bound
marked_then a b c bound p q = record { long = q.long ∙ p.long; stays = λ k h. q.stays k (p.stays k h); above = λ k above h. p.above k above (q.above k above h) }

pub marked_below : (old new : List Bool) (bound other : ℕ) → AreMarkedMore old new other → (k : ℕ) → IsMarkedBelow old bound k → IsMarkedBelow new bound k
marked_below old new bound other more k h = (h.0, more.stays k h.1)

-- the way was marked, and nothing above the bound
pub way_more : (old new : List Bool) (slice path : List ℕ) (bound : ℕ) → length new ≡ length old → ((k : ℕ) → IsMarked old k → IsMarked new k)
    → ((k : ℕ) → IsMarked new k → IsMarked old k ⊎ Contains slice k) → slice ≡ path → ((k : ℕ) → Contains path k → k < bound) → AreMarkedMore old new bound
way_more old new slice path bound long stays only same below = record {
  long = long;
  stays = stays;
  above = λ k above marked. elim (only k marked) [
    | inl h ↦ h
    | inr inside ↦ let less = below k (subst (λ (l : List ℕ). Contains l k) same inside) in absurd (omega (arith, above, less))
  ];
}

pub way_paved : (links : List (Option Link)) (old new : List Bool) (slice path : List ℕ) (bound : ℕ) (x y : TermId)
    → ((r s : TermId) → HasRoot links x r → HasRoot links y s → IsForestPath links x y path) → ((k : ℕ) → Contains path k → k < bound) → slice ≡ path
    → ((k : ℕ) → Contains slice k → k < length old → IsMarked new k) → bound ≤ length old → IsPaved links (IsMarkedBelow new bound) x y
way_paved links old new slice path bound x y ways below same marked within = λ other way k inside.
    let mine = ways way.root way.root (_, way.rises) (_, way.falls) in
    let one : path ≡ other = one_path links x y path other mine way in
    let in_path : Contains path k = subst (λ (l : List ℕ). Contains l k) (sym one) inside in
    let less = below k in_path in
    (less, marked k (subst (λ (l : List ℕ). Contains l k) (sym same) in_path) (omega (arith, less, within)))

-- one mark
pub one_marked : (old new : List Bool) (k : ℕ) → k < length old → new ≡ set old k true → IsMarked new k
one_marked old new k within are = subst (λ (l : List Bool). slice_get l k ≡ Some true) (sym are) (slice_get-set_same old k true within)

pub one_stays : (old new : List Bool) (k : ℕ) → k < length old → new ≡ set old k true → (j : ℕ) → IsMarked old j → IsMarked new j
one_stays old new k within are j h =
    elim (same_or_other j k) [
      | inl same ↦ subst (IsMarked new) (sym same) (one_marked old new k within are)
      | inr other ↦ subst (λ (l : List Bool). slice_get l j ≡ Some true) (sym are) (slice_get-set_other old k j true other ∙ h)
    ]

pub one_only : (old new : List Bool) (k : ℕ) → new ≡ set old k true → (j : ℕ) → IsMarked new j → IsMarked old j ⊎ (j ≡ k)
one_only old new k are j h =
    elim (same_or_other j k) [
      | inl same ↦ inr same
      | inr other ↦ inl (sym (slice_get-set_other old k j true other) ∙ subst (λ (l : List Bool). slice_get l j ≡ Some true) are h)
    ]

-- what was read of two terms: their arguments
pub record AreRead (terms table : Terms) (t u : TermId) (left right : Core) (xs ys : List TermId) : Type 0 where
  pub same : table ≡ terms
  pub left_stands : Has table left t.0
  pub right_stands : Has table right u.0
  pub left_below : HasArgumentsBelow (length table) left
  pub right_below : HasArgumentsBelow (length table) right
  pub xs_are : xs ≡ core_children left
  pub ys_are : ys ≡ core_children right

module _ (terms table : Terms) (t u : TermId) (left right : Core) (xs ys : List TermId) (read : AreRead terms table t u left right xs ys) (known : Equations) (equations : List Equation) where
  read_left : Has terms left t.0
  read_left = subst (λ (q : Terms). Has q left t.0) read.same read.left_stands

  read_right : Has terms right u.0
  read_right = subst (λ (q : Terms). Has q right u.0) read.same read.right_stands

  pub read_long : AreArgumentsMatched terms known equations t u → length xs ≡ length ys
  read_long h = ap length read.xs_are ∙ arguments_long terms known equations t u left right h read_left read_right ∙ sym (ap length read.ys_are)

  pub read_entries : AreArgumentsMatched terms known equations t u → AreEntries terms known equations xs ys
  read_entries h =
      subst (λ (l : List TermId). AreEntries terms known equations l ys) (sym read.xs_are)
      (subst (λ (l : List TermId). AreEntries terms known equations (core_children left) l) (sym read.ys_are)
      (arguments_entries terms known equations t u left right h read_left read_right
      (subst (λ (q : Terms). HasArgumentsBelow (length q) left) read.same read.left_below)
      (subst (λ (q : Terms). HasArgumentsBelow (length q) right) read.same read.right_below)))

  pub read_paved : (links : List (Option Link)) (has : ℕ → Type 0) → AreArgumentsPaved terms links known has equations t u → AreEntriesPaved links known has equations xs ys
  read_paved links has p =
      subst (λ (l : List TermId). AreEntriesPaved links known has equations l ys) (sym read.xs_are)
      (subst (λ (l : List TermId). AreEntriesPaved links known has equations (core_children left) l) (sym read.ys_are)
      (p left right read_left read_right))

  pub paved_read : (links : List (Option Link)) (has : ℕ → Type 0) → AreEntriesPaved links known has equations xs ys → AreArgumentsPaved terms links known has equations t u
  paved_read links has p = λ a b at_a at_b.
      subst (λ (c : Core). AreEntriesPaved links known has equations (core_children c) (core_children b)) (Has-same terms left a t.0 read_left at_a)
      (subst (λ (c : Core). AreEntriesPaved links known has equations (core_children left) (core_children c)) (Has-same terms right b u.0 read_right at_b)
      (subst (λ (l : List TermId). AreEntriesPaved links known has equations (core_children left) l) read.ys_are
      (subst (λ (l : List TermId). AreEntriesPaved links known has equations l ys) read.xs_are p)))

-- the arguments of congruent terms are ready
pub read_ready : (terms table : Terms) (t u : TermId) (left right : Core) (xs ys : List TermId) → AreRead terms table t u left right xs ys
    → (links : List (Option Link)) (known : Equations) (has : ℕ → Type 0) → AreArgumentsMatched terms known [] t u → AreArgumentsPaved terms links known has [] t u
    → (i : ℕ) (x y : TermId) → slice_get xs i ≡ Some x → slice_get ys i ≡ Some y → AreEqualAlong terms links known has x y
read_ready terms table t u left right xs ys read links known has matched paved i x y at_x at_y =
    let entry = read_entries terms table t u left right xs ys read known [] matched i x y at_x at_y in
    let equal = matched_alone known x y entry.matched in
    record {
      inside = entry.left;
      equal = equal;
      paved = read_paved terms table t u left right xs ys read known [] links has paved i x y at_x at_y None equal;
    }

-- the two ways by an equation, and the one way
pub first_ready : (terms : Terms) (links : List (Option Link)) (known : Equations) (has : ℕ → Type 0) (equations : List Equation) (x y : TermId) (f : ℕ × Equation)
    → IsEntry terms known equations x y → IsEntryPaved links known has equations x y → IsDetour known equations x y (Some f) → AreEqualAlong terms links known has x f.1.left
first_ready terms links known has equations x y f entry paved is = record { inside = entry.left; equal = is.1.left; paved = (paved (Some f) is).0 }

pub second_ready : (terms : Terms) (links : List (Option Link)) (known : Equations) (has : ℕ → Type 0) (equations : List Equation) (x y : TermId) (f : ℕ × Equation)
    → AreAllMatched terms known equations → IsEntryPaved links known has equations x y → IsDetour known equations x y (Some f) → AreEqualAlong terms links known has f.1.right y
second_ready terms links known has equations x y f all paved is = record {
  inside = (sides_within terms known equations f.1 all (Contains-from_slice_get equations f.0 f.1 is.1.at)).1;
  equal = is.1.right;
  paved = (paved (Some f) is).1;
}

pub alone_ready : (terms : Terms) (links : List (Option Link)) (known : Equations) (has : ℕ → Type 0) (equations : List Equation) (x y : TermId)
    → IsEntry terms known equations x y → IsEntryPaved links known has equations x y → IsDetour known equations x y None → AreEqualAlong terms links known has x y
alone_ready terms links known has equations x y entry paved is = record { inside = entry.left; equal = is; paved = paved None is }

-- however they are matched, their ways were paved
pub entry_by : (links : List (Option Link)) (known : Equations) (has : ℕ → Type 0) (equations : List Equation) (x y : TermId) (answer : Option (ℕ × Equation))
    → IsDetour known equations x y answer → IsPavedBy links has x y answer → IsEntryPaved links known has equations x y
entry_by links known has equations x y answer is paved = λ other other_is.
    subst (IsPavedBy links has x y) (one_detour known equations x y answer other is other_is) paved

-- the next entry, and all
pub entries_next : (links : List (Option Link)) (known : Equations) (equations : List Equation) (xs ys : List TermId) (i bound : ℕ) (d e : TermId) (old new : List Bool) → i < length xs → length xs ≡ length ys
    → AreMarkedMore old new bound → IsEntryPaved links known (IsMarkedBelow new bound) equations (get_or xs i d) (get_or ys i e)
    → ((j : ℕ) (x y : TermId) → j < i → slice_get xs j ≡ Some x → slice_get ys j ≡ Some y → IsEntryPaved links known (IsMarkedBelow old bound) equations x y)
    → (j : ℕ) (x y : TermId) → j < i + 1 → slice_get xs j ≡ Some x → slice_get ys j ≡ Some y → IsEntryPaved links known (IsMarkedBelow new bound) equations x y
entries_next links known equations xs ys i bound d e old new within long more here before j x y below at_x at_y =
    elim (same_or_other j i) [
      | inl same ↦
          let x_is : get_or xs i d ≡ x = same_Some (get_or xs i d) x (sym (slice_get-get_or xs i d within) ∙ subst (λ (n : ℕ). slice_get xs n ≡ Some x) same at_x) in
          let y_is : get_or ys i e ≡ y = same_Some (get_or ys i e) y (sym (slice_get-get_or ys i e (subst (λ (n : ℕ). i < n) long within)) ∙ subst (λ (n : ℕ). slice_get ys n ≡ Some y) same at_y) in
          subst (λ (q : TermId). IsEntryPaved links known (IsMarkedBelow new bound) equations q y) x_is
          (subst (IsEntryPaved links known (IsMarkedBelow new bound) equations (get_or xs i d)) y_is here)
      | inr other ↦
          entry_more links (IsMarkedBelow old bound) (IsMarkedBelow new bound) (marked_below old new bound bound more) known equations x y
          (before j x y (omega (arith, below, other)) at_x at_y)
    ]

-- the same for the arguments of the sides of equations
pub pairs_next : (terms : Terms) (links : List (Option Link)) (known : Equations) (equations : List Equation) (i bound : ℕ) (d : Equation) (old new : List Bool) → i < length equations
    → AreMarkedMore old new bound → AreArgumentsPaved terms links known (IsMarkedBelow new bound) equations (get_or equations i d).left (get_or equations i d).right
    → ((j : ℕ) (e : Equation) → j < i → slice_get equations j ≡ Some e → AreArgumentsPaved terms links known (IsMarkedBelow old bound) equations e.left e.right)
    → (j : ℕ) (e : Equation) → j < i + 1 → slice_get equations j ≡ Some e → AreArgumentsPaved terms links known (IsMarkedBelow new bound) equations e.left e.right
pairs_next terms links known equations i bound d old new within more here before j e below at =
    elim (same_or_other j i) [
      | inl same ↦
          let is : get_or equations i d ≡ e = same_Some (get_or equations i d) e (sym (slice_get-get_or equations i d within) ∙ subst (λ (n : ℕ). slice_get equations n ≡ Some e) same at) in
          subst (λ (q : Equation). AreArgumentsPaved terms links known (IsMarkedBelow new bound) equations q.left q.right) is here
      | inr other ↦
          arguments_more links (IsMarkedBelow old bound) (IsMarkedBelow new bound) (marked_below old new bound bound more) terms known equations e.left e.right
          (before j e (omega (arith, below, other)) at)
    ]

-- what merges from a number on rest on is marked, and so for one more
pub closed_next : (state : State) (links : List (Option Link)) (old new : List Bool) (i k count : ℕ) → i < count → k ≡ count - 1 - i → AreMarkedMore old new k
    → ((m : Merge) → slice_get state.merges k ≡ Some m → IsMarked new k → Rests state.terms links (AreConnected (take k state.merges)) (IsMarkedBelow new k) m.right m.why)
    → ((j : ℕ) (m : Merge) → count ≤ j + i → slice_get state.merges j ≡ Some m → IsMarked old j → Rests state.terms links (AreConnected (take j state.merges)) (IsMarkedBelow old j) m.right m.why)
    → (j : ℕ) (m : Merge) → count ≤ j + (i + 1) → slice_get state.merges j ≡ Some m → IsMarked new j → Rests state.terms links (AreConnected (take j state.merges)) (IsMarkedBelow new j) m.right m.why
closed_next state links old new i k count within k_is more here before j m past at marked =
    elim (same_or_other j k) [
      | inl same ↦
          subst (λ (n : ℕ). Rests state.terms links (AreConnected (take n state.merges)) (IsMarkedBelow new n) m.right m.why) (sym same)
          (here m (subst (λ (n : ℕ). slice_get state.merges n ≡ Some m) same at) (subst (IsMarked new) same marked))
      | inr other ↦
          rests_more links (IsMarkedBelow old j) (IsMarkedBelow new j) (marked_below old new j k more) state.terms (AreConnected (take j state.merges)) m.right m.why
          (before j m (omega (arith, past, other, within, k_is)) at (more.above j (omega (arith, past, other, within, k_is)) marked))
    ]

-- numbers of steps
pub number_put : (done new : List (Option ℕ)) (k n : ℕ) → k < length done → new ≡ set done k (Some n) → HasNumber new k
number_put done new k n within are = (n, subst (λ (l : List (Option ℕ)). slice_get l k ≡ Some (Some n)) (sym are) (slice_get-set_same done k (Some n) within))

pub number_stays : (done new : List (Option ℕ)) (k n : ℕ) → k < length done → new ≡ set done k (Some n) → (j : ℕ) → HasNumber done j → HasNumber new j
number_stays done new k n within are j h =
    elim (same_or_other j k) [
      | inl same ↦ subst (HasNumber new) (sym same) (number_put done new k n within are)
      | inr other ↦ (h.0, subst (λ (l : List (Option ℕ)). slice_get l j ≡ Some (Some h.0)) (sym are) (slice_get-set_other done k j (Some n) other ∙ h.1))
    ]

pub numbers_next : (marks : List Bool) (old new : List (Option ℕ)) (k : ℕ) → ((j : ℕ) → HasNumber old j → HasNumber new j) → (IsMarked marks k → HasNumber new k)
    → ((j : ℕ) → j < k → IsMarked marks j → HasNumber old j) → (j : ℕ) → j < k + 1 → IsMarked marks j → HasNumber new j
numbers_next marks old new k stays here before j below marked =
    elim (same_or_other j k) [
      | inl same ↦ subst (HasNumber new) (sym same) (here (subst (IsMarked marks) same marked))
      | inr other ↦ stays j (before j (omega (arith, below, other)) marked)
    ]

-- a marked merge rests on merges with numbers, where all marked ones before it have numbers
pub rests_numbered : (terms : Terms) (links : List (Option Link)) (known : Equations) (marks : List Bool) (done : List (Option ℕ)) (k : ℕ) (right : TermId) (why : Reason)
    → ((j : ℕ) → j < k → IsMarked marks j → HasNumber done j) → Rests terms links known (IsMarkedBelow marks k) right why → Rests terms links known (HasNumber done) right why
rests_numbered terms links known marks done k right why before p = rests_more links (IsMarkedBelow marks k) (HasNumber done) (λ j h. before j h.0 h.1) terms known right why p

-- the way of a ready premise is a route of merges with the property
pub ready_route : (state : State) (links : List (Option Link)) (b : ℕ) (has : ℕ → Type 0) (x y : TermId) (slice path : List ℕ) → IsForestOver state links
    → AreEqualAlong state.terms links (AreConnected (take b state.merges)) has x y → ((r s : TermId) → HasRoot links x r → HasRoot links y s → IsForestPath links x y path) → slice ≡ path → IsRoute state.merges x slice y
ready_route state links b has x y slice path forest ready ways same =
    subst (λ (l : List ℕ). IsRoute state.merges x l y) (sym same) (route_of_path state links b x y path forest ready.inside ready.equal ways).1

pub ready_paved : (state : State) (links : List (Option Link)) (b : ℕ) (has : ℕ → Type 0) (x y : TermId) (slice path : List ℕ) → IsForestOver state links
    → AreEqualAlong state.terms links (AreConnected (take b state.merges)) has x y → ((r s : TermId) → HasRoot links x r → HasRoot links y s → IsForestPath links x y path) → slice ≡ path
    → (k : ℕ) → Contains slice k → has k
ready_paved state links b has x y slice path forest ready ways same k inside =
    ready.paved path (route_of_path state links b x y path forest ready.inside ready.equal ways).0 k (subst (λ (l : List ℕ). Contains l k) same inside)

-- a term of the table is one of the forest
pub inside_forest : (state : State) (links : List (Option Link)) (x : TermId) → IsForestOver state links → x.0 < length state.terms → x.0 < length links
inside_forest state links x forest inside = subst (λ (n : ℕ). x.0 < n) (sym forest.long) inside

-- the marks of a path, one after another
pub marks_next : (path : List ℕ) (first old new : List Bool) (i d : ℕ) → i < length path → length old ≡ length first → ((k : ℕ) → IsMarked old k → IsMarked new k)
    → (get_or path i d < length old → IsMarked new (get_or path i d))
    → ((j k : ℕ) → j < i → slice_get path j ≡ Some k → k < length first → IsMarked old k)
    → (j k : ℕ) → j < i + 1 → slice_get path j ≡ Some k → k < length first → IsMarked new k
marks_next path first old new i d within long stays here before j k below at inside =
    elim (same_or_other j i) [
      | inl same ↦
          let is : get_or path i d ≡ k = same_Some (get_or path i d) k (sym (slice_get-get_or path i d within) ∙ subst (λ (n : ℕ). slice_get path n ≡ Some k) same at) in
          subst (IsMarked new) is (here (omega (arith, is, inside, long)))
      | inr other ↦ stays k (before j k (omega (arith, below, other)) at inside)
    ]

-- what a test says where it came out so
pub on_true : (b : Bool) (P : Type 0) → true ≡ b → OnTrue b P → P
on_true true P e h = h
on_true false P e h = absurd (true≢false e)

pub on_false : (b : Bool) (P : Type 0) → false ≡ b → OnFalse b P → P
on_false true P e h = absurd (true≢false (sym e))
on_false false P e h = h

-- an equation at an index by which two terms are not matched, nor by those before it
abbrev pub IsNoMatch : List (Option Link) → ℕ → TermId → TermId → Equation → Type 0
IsNoMatch links bound x y f = (merges : List Merge) → IsForestOf merges links → x.0 < length links → f.right.0 < length links
    → AreConnected (take bound merges) x f.left → AreConnected (take bound merges) f.right y → ⊥

pub no_match-next : (links : List (Option Link)) (bound : ℕ) (equations : List Equation) (x y : TermId) (k : ℕ) (d : Equation) → k < length equations → IsNoMatch links bound x y (get_or equations k d)
    → ((i : ℕ) (f : Equation) → i < k → slice_get equations i ≡ Some f → IsNoMatch links bound x y f)
    → (i : ℕ) (f : Equation) → i < k + 1 → slice_get equations i ≡ Some f → IsNoMatch links bound x y f
no_match-next links bound equations x y k d within here before i f below at =
    elim (same_or_other i k) [
      | inl same ↦
          let is : get_or equations k d ≡ f = same_Some (get_or equations k d) f (sym (slice_get-get_or equations k d within) ∙ subst (λ (n : ℕ). slice_get equations n ≡ Some f) same at) in
          subst (IsNoMatch links bound x y) is here
      | inr other ↦ before i f (omega (arith, below, other)) at
    ]

pub first_match : (links : List (Option Link)) (bound : ℕ) (equations : List Equation) (x y : TermId) (k : ℕ) (d : Equation) (merges : List Merge) → k < length equations
    → IsMatching merges links bound equations x y → (AreConnected (take bound merges) x y → ⊥)
    → AreConnected (take bound merges) x (get_or equations k d).left → AreConnected (take bound merges) (get_or equations k d).right y
    → ((i : ℕ) (f : Equation) → i < k → slice_get equations i ≡ Some f → IsNoMatch links bound x y f)
    → IsDetour (AreConnected (take bound merges)) equations x y (Some (k, get_or equations k d))
first_match links bound equations x y k d merges within m apart left right before = (
  apart,
  record {
    at = slice_get-get_or equations k d within;
    left = left;
    right = right;
    first = λ i f less at l r. before i f less at merges m.forest m.left (m.sides f (Contains-from_slice_get equations i f at)).1 l r;
  },
)

pub match_alone : (links : List (Option Link)) (bound : ℕ) (equations : List Equation) (x y : TermId) (k : ℕ) (merges : List Merge) → (k < length equations → ⊥) → IsMatching merges links bound equations x y
    → ((i : ℕ) (f : Equation) → i < k → slice_get equations i ≡ Some f → IsNoMatch links bound x y f) → AreConnected (take bound merges) x y
match_alone links bound equations x y k merges past m before =
    elim m.matched [
      | inl h ↦ h
      | inr p ↦
          let at = slice_get-from_Contains equations p.0 p.1 in
          let within = slice_get_within equations at.0 p.0 at.1 in
          absurd (before at.0 p.0 (omega (arith, within, past)) at.1 merges m.forest m.left (m.sides p.0 p.1).1 p.2 p.3)
    ]
