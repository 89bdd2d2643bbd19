-- Terms of one class are of one sort, since the sides of each justified merge are.
use Rattle.std.proofs.Common.{◌≡◌, ℕ, zero, suc, ◌<◌, Bool, true, false, List, [], ◌∷◌, take, slice_get, Some, refl, sym, ap, subst, ◌∙◌, inl, inr, arith}
use Rattle.std.specs.List.{AllZip, Contains}
use Rattle.std.proofs.lemmas.Option.{none-some, same_Some}
use Rattle.ct_lemmas.proofs.Contained.{slice_get-from_Contains}
use Rattle.ct_lemmas.proofs.Pairs.{AllZip-at_left}
use Rattle.ct_sorts.specs.declared.ids.CtorId.{CtorId}
use Rattle.ct_sorts.specs.declared.ids.SelId.{SelId}
use Rattle.ct_sorts.specs.declared.ids.SortId.{SortId}
use Rattle.ct_sorts.specs.Declarations.{Declarations, Constructor, Selector, Function, bool_sort}
use Rattle.ct_sorts.specs.Structure.{AreOfTheirConstructors}
use Rattle.ct_terms.specs.declared.ids.TermId.{TermId}
use Rattle.ct_terms.specs.declared.ids.Lit.{Lit}
use Rattle.ct_terms.specs.declared.term.Core.{Core}
use Rattle.ct_terms.specs.declared.term.Core.TheVariants.{Con, Sel, Test, Apply, Eq, Not, And, Or, Iff, Ite}
use Rattle.ct_terms.specs.Children.{CoreHead, con_head, sel_head, test_head, apply_head, eq_head, not_head, and_head, or_head, iff_head, ite_head, core_head, core_children}
use Rattle.ct_terms.specs.Terms.{Terms, Has, HasSort, IsOfSort, IsOfField, AreSorted, BeginsWithTruths}
use Rattle.ct_terms.specs.Literal.{IsStripped}
use Rattle.ct_rules.specs.Rules.{Equations, truth_term, IsCongruence}
use Rattle.ct_congr.specs.declared.merge.Reason.{Reason}
use Rattle.ct_congr.specs.declared.merge.Reason.TheVariants.{Hyp, Cong, Inject, Sel as SelReason, Test as TestReason, Expand, EqualIn, EqualOut, Neg, Single, Unique}
use Rattle.ct_congr.specs.declared.merge.Merge.{Merge}
use Rattle.ct_congr.specs.Partition.{InOneClass}
use Rattle.ct_congr.specs.Reasons.{IsReason}
use Rattle.ct_congr.specs.Merges.{IsChain, AreConnected, AreJustified}

-- both are of one sort
abbrev pub AreOfOneSort : Terms → TermId → TermId → Type 0
AreOfOneSort terms x y = (s : SortId) × IsOfSort terms x s × IsOfSort terms y s

-- the second is of the first one's sort
abbrev pub KeepsSort : Terms → TermId → TermId → Type 0
KeepsSort terms x y = (s : SortId) → IsOfSort terms x s → IsOfSort terms y s

pub slice_get-of_take : {X : Type 0} (n : ℕ) (xs : List X) (k : ℕ) (x : X) → slice_get (take n xs) k ≡ Some x → (k < n) × (slice_get xs k ≡ Some x)
slice_get-of_take zero xs k x at = absurd (none-some x at)
slice_get-of_take (suc n) [] k x at = absurd (none-some x at)
slice_get-of_take (suc n) (z ∷ xs) zero x at = (omega arith, at)
slice_get-of_take (suc n) (z ∷ xs) (suc k) x at = let h = slice_get-of_take n xs k x at in (omega (arith, h.0), h.1)

-- the sort that a head gives over these terms
HeadGives : Declarations → Terms → CoreHead → List TermId → SortId → Type 0
HeadGives d terms (con_head c) xs s = (ctor : Constructor) × (slice_get d.ctors c.0 ≡ Some ctor) × (s ≡ ctor.sort)
HeadGives d terms (sel_head k) xs s = (selector : Selector) × (slice_get d.sels k.0 ≡ Some selector) × (s ≡ selector.sort)
HeadGives d terms (apply_head f) xs s = (function : Function) × (slice_get d.functions f.0 ≡ Some function) × (s ≡ function.result)
HeadGives d terms ite_head xs s = (x : TermId) × (slice_get xs 1 ≡ Some x) × IsOfSort terms x s
HeadGives d terms _ xs s = s ≡ bool_sort

module _ (d : Declarations) (terms : Terms) (sorted : AreSorted d terms) (begins : BeginsWithTruths terms) (theirs : AreOfTheirConstructors d) where
  one_sort : (t : TermId) (s r : SortId) → IsOfSort terms t s → IsOfSort terms t r → s ≡ r
  one_sort t s r p q = ap (λ e. e.1) (same_Some (p.0, s) (q.0, r) (sym p.1 ∙ q.1))

  keeps_sort : (x y : TermId) → AreOfOneSort terms x y → KeepsSort terms x y
  keeps_sort x y h s of = subst (IsOfSort terms y) (one_sort x h.0 s h.1 of) h.2

  keeps_back : (x y : TermId) → AreOfOneSort terms x y → KeepsSort terms y x
  keeps_back x y h s of = subst (IsOfSort terms x) (one_sort y h.0 s h.2 of) h.1

  truth_sorted : (b : Bool) → IsOfSort terms (truth_term b) bool_sort
  truth_sorted true = (Con (record { 0 = 0 }) [], (slice_get-of_take 2 terms 0 (Con (record { 0 = 0 }) [], bool_sort) (ap (λ list. slice_get list 0) begins)).1)
  truth_sorted false = (Con (record { 0 = 1 }) [], (slice_get-of_take 2 terms 1 (Con (record { 0 = 1 }) [], bool_sort) (ap (λ list. slice_get list 1) begins)).1)

  -- a Boolean term and a truth value
  with_truth : (x y : TermId) (core : Core) (b : Bool) (has : Has terms core x.0) → has.0 ≡ bool_sort → y ≡ truth_term b → AreOfOneSort terms x y
  with_truth x y core b has boolean truth = (bool_sort, (core, subst (λ (s : SortId). slice_get terms x.0 ≡ Some (core, s)) boolean has.1), subst (λ (t : TermId). IsOfSort terms t bool_sort) (sym truth) (truth_sorted b))

  of_equal : (x y : TermId) (a b : Core) (p : Has terms a x.0) (q : Has terms b y.0) → p.0 ≡ q.0 → AreOfOneSort terms x y
  of_equal x y a b p q e = (p.0, (a, p.1), (b, subst (λ (s : SortId). slice_get terms y.0 ≡ Some (b, s)) (sym e) q.1))

  con_sorts : (x y : TermId) (c : CtorId) (xs ys : List TermId) → Has terms (Con c xs) x.0 → Has terms (Con c ys) y.0 → AreOfOneSort terms x y
  con_sorts x y c xs ys p q =
      let left = sorted x.0 (Con c xs) p.0 p.1 in
      let right = sorted y.0 (Con c ys) q.0 q.1 in
      let same : left.ctor ≡ right.ctor = same_Some left.ctor right.ctor (sym left.declared ∙ right.declared) in
      of_equal x y (Con c xs) (Con c ys) p q (left.result ∙ ap (λ (k : Constructor). k.sort) same ∙ sym right.result)

  -- an argument of a constructor term is of its field
  argument_sort : (t : TermId) (c : CtorId) (ctor : Constructor) (xs : List TermId) (k : ℕ) (x : TermId) → Has terms (Con c xs) t.0 → slice_get d.ctors c.0 ≡ Some ctor → slice_get xs k ≡ Some x → (s : SelId) × (slice_get ctor.sels k ≡ Some s) × IsOfField d terms x s
  argument_sort t c ctor xs k x has declared at =
      let built = sorted t.0 (Con c xs) has.0 has.1 in
      let same : built.ctor ≡ ctor = same_Some built.ctor ctor (sym built.declared ∙ declared) in
      let field = AllZip-at_left (IsOfField d terms) xs built.ctor.sels k x built.fields at in
      (field.0, subst (λ (q : Constructor). slice_get q.sels k ≡ Some field.0) same field.1, field.2)

  fields_sort : (x y : TermId) (s r : SelId) → s ≡ r → IsOfField d terms x s → IsOfField d terms y r → AreOfOneSort terms x y
  fields_sort x y s r e p q =
      let same : p.selector ≡ q.selector = same_Some p.selector q.selector (sym p.declared ∙ ap (λ (k : SelId). slice_get d.sels k.0) e ∙ q.declared) in
      (p.selector.sort, p.sorted, subst (λ (k : Selector). IsOfSort terms y k.sort) (sym same) q.sorted)

  -- ---- congruence

  head_gives : (core : Core) (s : SortId) → HasSort d terms core s → HeadGives d terms (core_head core) (core_children core) s
  unfolding HeadGives
  head_gives (Con c args) s h = (h.ctor, h.declared, h.result)
  head_gives (Sel k t) s h = (h.selector, h.declared, h.result)
  head_gives (Test c t) s h = h.result
  head_gives (Apply f args) s h = (h.function, h.declared, h.result)
  head_gives (Eq a b) s h = h.result
  head_gives (Not t) s h = h.1
  head_gives (And args) s h = h.result
  head_gives (Or args) s h = h.result
  head_gives (Iff a b) s h = h.2
  head_gives (Ite c a b) s h = (a, refl, h.1)

  module _ (known : Equations) (each : (x y : TermId) → known x y → KeepsSort terms x y) where
    same_gives : (head : CoreHead) (xs ys : List TermId) (s r : SortId) → AllZip known xs ys → HeadGives d terms head xs s → HeadGives d terms head ys r → s ≡ r
    unfolding HeadGives
    same_gives (con_head c) xs ys s r all p q = p.2 ∙ ap (λ (k : Constructor). k.sort) (same_Some p.0 q.0 (sym p.1 ∙ q.1)) ∙ sym q.2
    same_gives (sel_head c) xs ys s r all p q = p.2 ∙ ap (λ (k : Selector). k.sort) (same_Some p.0 q.0 (sym p.1 ∙ q.1)) ∙ sym q.2
    same_gives (apply_head c) xs ys s r all p q = p.2 ∙ ap (λ (k : Function). k.result) (same_Some p.0 q.0 (sym p.1 ∙ q.1)) ∙ sym q.2
    same_gives ite_head xs ys s r all p q =
        let other = AllZip-at_left known xs ys 1 p.0 all p.1 in
        let same : other.0 ≡ q.0 = same_Some other.0 q.0 (sym other.1 ∙ q.1) in
        one_sort q.0 s r (subst (λ (t : TermId). IsOfSort terms t s) same (each p.0 other.0 other.2 s p.2)) q.2
    same_gives (test_head c) xs ys s r all p q = p ∙ sym q
    same_gives eq_head xs ys s r all p q = p ∙ sym q
    same_gives not_head xs ys s r all p q = p ∙ sym q
    same_gives and_head xs ys s r all p q = p ∙ sym q
    same_gives or_head xs ys s r all p q = p ∙ sym q
    same_gives iff_head xs ys s r all p q = p ∙ sym q

    congruent_sorts : (x y : TermId) → IsCongruence terms known x y → AreOfOneSort terms x y
    congruent_sorts x y rule =
        let left = head_gives rule.left rule.left_stands.0 (sorted x.0 rule.left rule.left_stands.0 rule.left_stands.1) in
        let right = head_gives rule.right rule.right_stands.0 (sorted y.0 rule.right rule.right_stands.0 rule.right_stands.1) in
        let same = same_gives (core_head rule.right) (core_children rule.left) (core_children rule.right) rule.left_stands.0 rule.right_stands.0 rule.arguments (subst (λ (head : CoreHead). HeadGives d terms head (core_children rule.left) rule.left_stands.0) rule.head left) right in
        of_equal x y rule.left rule.right rule.left_stands rule.right_stands same

    -- the sides of an equation that a reason gives are of one sort
    reason_sorts : (hyps : List Lit) → ((l : Lit) → Contains hyps l → IsStripped terms l.term) → (x y : TermId) (why : Reason) → IsReason d terms hyps known x y why → AreOfOneSort terms x y
    reason_sorts hyps stripped x y (Hyp l) h = (bool_sort, subst (λ (t : TermId). IsOfSort terms t bool_sort) (sym h.1.0) (stripped l h.0).0, subst (λ (t : TermId). IsOfSort terms t bool_sort) (sym h.1.1) (truth_sorted l.positive))
    reason_sorts hyps stripped x y (Cong t u) h = congruent_sorts x y h.2
    reason_sorts hyps stripped x y (Inject a b k) h =
        let rule = h.0 in
        let built = sorted rule.left.0 (Con rule.ctor rule.xs) rule.left_stands.0 rule.left_stands.1 in
        let left = argument_sort rule.left rule.ctor built.ctor rule.xs rule.place x rule.left_stands built.declared rule.left_at in
        let right = argument_sort rule.right rule.ctor built.ctor rule.ys rule.place y rule.right_stands built.declared rule.right_at in
        fields_sort x y left.0 right.0 (same_Some left.0 right.0 (sym left.1 ∙ right.1)) left.2 right.2
    reason_sorts hyps stripped x y (SelReason t c) h =
        let rule = h.1 in
        let selects = sorted x.0 (Sel rule.sel rule.argument) rule.stands.0 rule.stands.1 in
        let ctor = theirs rule.sel.0 rule.selector rule.declared in
        let field = argument_sort rule.con rule.selector.ctor ctor.0 rule.args rule.selector.place y rule.con_stands ctor.1 rule.at in
        let same : rule.sel ≡ field.0 = same_Some rule.sel field.0 (sym ctor.2 ∙ field.1) in
        let own : IsOfField d terms x rule.sel = record { selector = selects.selector; declared = selects.declared; sorted = (Sel rule.sel rule.argument, subst (λ (s : SortId). slice_get terms x.0 ≡ Some (Sel rule.sel rule.argument, s)) selects.result rule.stands.1) } in
        fields_sort x y rule.sel field.0 same own field.2
    reason_sorts hyps stripped x y (TestReason t c) h =
        let rule = h.1 in
        let tests = sorted x.0 (Test rule.tested rule.argument) rule.stands.0 rule.stands.1 in
        elim rule.answer [
          | inl p ↦ with_truth x y (Test rule.tested rule.argument) true rule.stands tests.result p.1
          | inr p ↦ with_truth x y (Test rule.tested rule.argument) false rule.stands tests.result p.1
        ]
    reason_sorts hyps stripped x y (Expand t c) h =
        let rule = h.1 in
        let tests = sorted rule.test.0 (Test rule.id x) rule.test_stands.0 rule.test_stands.1 in
        let built = sorted y.0 (Con rule.id rule.args) rule.con_stands.0 rule.con_stands.1 in
        let same : built.ctor ≡ tests.ctor = same_Some built.ctor tests.ctor (sym built.declared ∙ tests.declared) in
        (tests.ctor.sort, tests.sorted, (Con rule.id rule.args, subst (λ (s : SortId). slice_get terms y.0 ≡ Some (Con rule.id rule.args, s)) (built.result ∙ ap (λ (k : Constructor). k.sort) same) rule.con_stands.1))
    reason_sorts hyps stripped x y (EqualIn t) h =
        let rule = h.1 in
        with_truth x y (Eq rule.left rule.right) true rule.stands (sorted x.0 (Eq rule.left rule.right) rule.stands.0 rule.stands.1).result rule.answer
    reason_sorts hyps stripped x y (EqualOut t) h =
        let equates = sorted h.0.term.0 (Eq x y) h.0.stands.0 h.0.stands.1 in
        (equates.side, equates.left, equates.right)
    reason_sorts hyps stripped x y (Neg t) h =
        let rule = h.1 in
        let boolean = (sorted x.0 (Not rule.argument) rule.stands.0 rule.stands.1).1 in
        elim rule.answer [
          | inl p ↦ with_truth x y (Not rule.argument) false rule.stands boolean p.1
          | inr p ↦ with_truth x y (Not rule.argument) true rule.stands boolean p.1
        ]
    reason_sorts hyps stripped x y Single h = (h.sort, h.left, h.right)
    reason_sorts hyps stripped x y (Unique pairs) h =
        let rule = h.1 (record { left = x; right = y }) h.0 in
        con_sorts x y rule.ctor rule.xs rule.ys rule.left_stands rule.right_stands

  -- ---- merges

  chain_sorts : (merges : List Merge) → ((m : Merge) → Contains merges m → AreOfOneSort terms m.left m.right) → (x : TermId) (zs : List TermId) (y : TermId) → IsChain merges x zs y → KeepsSort terms x y
  chain_sorts merges each x [] y h = λ s of. subst (λ (t : TermId). IsOfSort terms t s) h of
  chain_sorts merges each x (z ∷ zs) y h = λ s of.
      let m = h.0.0 in
      let one = each m h.0.1 in
      let step : IsOfSort terms z s = elim h.0.2 [
        | inl p ↦ subst (λ (t : TermId). IsOfSort terms t s) p.1 (keeps_sort m.left m.right one s (subst (λ (t : TermId). IsOfSort terms t s) (sym p.0) of))
        | inr p ↦ subst (λ (t : TermId). IsOfSort terms t s) p.0 (keeps_back m.left m.right one s (subst (λ (t : TermId). IsOfSort terms t s) (sym p.1) of))
      ] in
      chain_sorts merges each z zs y h.1 s step

  module _ (hyps : List Lit) (stripped : (l : Lit) → Contains hyps l → IsStripped terms l.term) (merges : List Merge) (justified : AreJustified d terms hyps merges) where
    merges_sorts : (n k : ℕ) (m : Merge) → k < n → slice_get merges k ≡ Some m → AreOfOneSort terms m.left m.right
    merges_sorts zero k m below at = absurd (omega (arith, below))
    merges_sorts (suc n) k m below at =
        reason_sorts (AreConnected (take k merges))
        (λ x y h. chain_sorts (take k merges) (λ o has.
        let there = slice_get-from_Contains (take k merges) o has in
        let before = slice_get-of_take k merges there.0 o there.1 in
        merges_sorts n there.0 o (omega (arith, below, before.0)) before.1) x h.0 y h.1)
        hyps stripped m.left m.right m.why (justified k m at)

    -- what merges connect is of one sort
    pub connected_sorts : (x y : TermId) → AreConnected merges x y → KeepsSort terms x y
    connected_sorts x y h = chain_sorts merges (λ m has. let there = slice_get-from_Contains merges m has in merges_sorts (suc there.0) there.0 m (omega arith) there.1) x h.0 y h.1

    -- so are the sides of a merge that is justified after these
    pub sides_sorts : (reps : List TermId) → ((x y : TermId) → InOneClass reps x y → AreConnected merges x y) → (x y : TermId) (why : Reason) → IsReason d terms hyps (InOneClass reps) x y why → AreOfOneSort terms x y
    sides_sorts reps connected x y why h = reason_sorts (InOneClass reps) (λ u v equal. connected_sorts u v (connected u v equal)) hyps stripped x y why h
