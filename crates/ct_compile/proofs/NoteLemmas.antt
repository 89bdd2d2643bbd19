-- The notes on the formulas under a formula.
use Rattle.std.proofs.Common.{◌≡◌, ℕ, ◌<◌, Bool, true, false, ◌||◌, List, [], ◌∷◌, length, drop, Some, None, slice_get, if◌then◌else◌, refl, sym, ap, subst, ◌∙◌, arith, true≢false}
use Rattle.std.proofs.lemmas.Option.{same_Some, none-some}
use Rattle.ct_sorts.specs.declared.ids.CtorId.{CtorId}
use Rattle.ct_sorts.specs.declared.ids.DefId.{DefId}
use Rattle.ct_sorts.specs.Declarations.{Declarations}
use Rattle.ct_formulas.specs.declared.tree.Pattern.{Pattern}
use Rattle.ct_formulas.specs.declared.tree.Pattern.TheVariants.{Ctor, Any}
use Rattle.ct_sorts.specs.declared.ids.SortId.{SortId}
use Rattle.ct_formulas.specs.declared.tree.Quantifier.{Quantifier}
use Rattle.ct_formulas.specs.Formula.{Formula, Formulas, Cases, Var, Con, Sel, Test, Apply, Def, Not, And, Or, Xor, Implies, Equal, Distinct, Ite, Let, Match, Quantified, no_formulas, with_formula, with_case}
use Rattle.ct_formulas.specs.Compiled.{surely_fits, are_none}
use Rattle.ct_formulas.specs.Occurrence.{count_of, occurs, matched_occurs}
use Rattle.ct_occurrence.specs.declared.notes.Notes.{Notes}
use Rattle.ct_occurrence.specs.Plain.{is_plain, formulas_under}
use Rattle.ct_occurrence.specs.Marks.{flags_below, Rows, IsKnown}
use Rattle.ct_occurrence.specs.Matching.{tested_by}
use Rattle.ct_occurrence.specs.Noted.{bound_of, under_of, inner_of, IsOfFirst, IsNoted, AreNoted, AreNotedWhere, CasesNoted}

-- what is under an operator, from the operator
pub noted_children : (d : Declarations) (rows : Rows) (uses : DefId → ℕ → Bool) (t : Formula) (m : Notes) → is_plain t ≡ true → IsNoted d rows uses t m → AreNoted d rows uses (formulas_under t) (under_of m)
noted_children d rows uses (Con c ts) m plain h = h
noted_children d rows uses (Sel s t) m plain h = (h, tt)
noted_children d rows uses (Test c t) m plain h = (h, tt)
noted_children d rows uses (Apply f ts) m plain h = h
noted_children d rows uses (Not t) m plain h = (h, tt)
noted_children d rows uses (And ts) m plain h = h
noted_children d rows uses (Or ts) m plain h = h
noted_children d rows uses (Xor ts) m plain h = h
noted_children d rows uses (Implies ts) m plain h = h
noted_children d rows uses (Equal ts) m plain h = h
noted_children d rows uses (Distinct ts) m plain h = h
noted_children d rows uses (Var i) m plain h = absurd (true≢false (sym plain))
noted_children d rows uses (Def k ts) m plain h = absurd (true≢false (sym plain))
noted_children d rows uses (Ite c t u) m plain h = absurd (true≢false (sym plain))
noted_children d rows uses (Let ts u) m plain h = absurd (true≢false (sym plain))
noted_children d rows uses (Match t cases) m plain h = absurd (true≢false (sym plain))
noted_children d rows uses (Quantified q sorts t) m plain h = absurd (true≢false (sym plain))

-- ---- the notes on what is under a formula

pub first_inside : (P : Notes → Type 0) (ms : List Notes) → IsOfFirst P ms → 0 < length ms
first_inside P [] h = absurd h
first_inside P (m ∷ ms) h = omega arith

pub first_noted : (P : Notes → Type 0) (ms : List Notes) (m : Notes) → IsOfFirst P ms → slice_get ms 0 ≡ Some m → P m
first_noted P [] m h at = absurd h
first_noted P (k ∷ ms) m h at = subst P (same_Some k m at) h

module _ (d : Declarations) (rows : Rows) (uses : DefId → ℕ → Bool) (ms : List Notes) (m : Notes) (at : slice_get ms 0 ≡ Some m) where
  pub plain_notes : (t : Formula) (ts : Formulas) (under : List Notes) → is_plain t ≡ true → formulas_under t ≡ ts → under ≡ under_of m → IsOfFirst (IsNoted d rows uses t) ms → AreNoted d rows uses ts under
  plain_notes t ts under plain is same h = subst (AreNoted d rows uses ts) (sym same) (subst (λ (us : Formulas). AreNoted d rows uses us (under_of m)) is (noted_children d rows uses t m plain (first_noted (IsNoted d rows uses t) ms m h at)))

  choice_noted : (c t u : Formula) → IsOfFirst (IsNoted d rows uses (Ite c t u)) ms → IsNoted d rows uses (Ite c t u) m
  choice_noted c t u h = first_noted (IsNoted d rows uses (Ite c t u)) ms m h at

  pub condition_notes : (c t u : Formula) (under : List Notes) → under ≡ under_of m → IsOfFirst (IsNoted d rows uses (Ite c t u)) ms → IsOfFirst (IsNoted d rows uses c) under
  condition_notes c t u under same h = subst (IsOfFirst (IsNoted d rows uses c)) (sym same) (choice_noted c t u h).0

  pub then_notes : (c t u : Formula) (under second : List Notes) → under ≡ under_of m → second ≡ drop 1 under → IsOfFirst (IsNoted d rows uses (Ite c t u)) ms → IsOfFirst (IsNoted d rows uses t) second
  then_notes c t u under second same next h = subst (IsOfFirst (IsNoted d rows uses t)) (sym (next ∙ ap (drop 1) same)) (choice_noted c t u h).1

  pub else_notes : (c t u : Formula) (under second third : List Notes) → under ≡ under_of m → second ≡ drop 1 under → third ≡ drop 1 second → IsOfFirst (IsNoted d rows uses (Ite c t u)) ms → IsOfFirst (IsNoted d rows uses u) third
  else_notes c t u under second third same next last h = subst (IsOfFirst (IsNoted d rows uses u)) (sym (last ∙ ap (drop 1) (next ∙ ap (drop 1) same))) (choice_noted c t u h).2

  let_noted : (ts : Formulas) (u : Formula) → IsOfFirst (IsNoted d rows uses (Let ts u)) ms → IsNoted d rows uses (Let ts u) m
  let_noted ts u h = first_noted (IsNoted d rows uses (Let ts u)) ms m h at

  pub let_flags : (ts : Formulas) (u : Formula) (bound : List Bool) → bound ≡ bound_of m → IsOfFirst (IsNoted d rows uses (Let ts u)) ms → bound ≡ flags_below (occurs d uses u) (count_of ts)
  let_flags ts u bound same h = same ∙ (let_noted ts u h).0

  pub let_under : (ts : Formulas) (u : Formula) (bound : List Bool) (under : List Notes) → bound ≡ bound_of m → under ≡ under_of m → IsOfFirst (IsNoted d rows uses (Let ts u)) ms → AreNotedWhere d rows uses bound ts under
  let_under ts u bound under flags same h = subst (AreNotedWhere d rows uses bound ts) (sym same) (subst (λ (bs : List Bool). AreNotedWhere d rows uses bs ts (under_of m)) (sym (let_flags ts u bound flags h)) (let_noted ts u h).1)

  pub let_inner : (ts : Formulas) (u : Formula) (inner : List Notes) → inner ≡ inner_of m → IsOfFirst (IsNoted d rows uses (Let ts u)) ms → IsOfFirst (IsNoted d rows uses u) inner
  let_inner ts u inner same h = subst (IsOfFirst (IsNoted d rows uses u)) (sym same) (let_noted ts u h).2

  pub call_notes : (k : DefId) (ts : Formulas) (row : List Bool) (under : List Notes) → row ≡ flags_below (uses k) (count_of ts) → under ≡ under_of m → IsOfFirst (IsNoted d rows uses (Def k ts)) ms → AreNotedWhere d rows uses row ts under
  call_notes k ts row under is same h = subst (AreNotedWhere d rows uses row ts) (sym same) (subst (λ (bs : List Bool). AreNotedWhere d rows uses bs ts (under_of m)) (sym is) (first_noted (IsNoted d rows uses (Def k ts)) ms m h at).1)

  quantified_noted : (q : Quantifier) (sorts : List SortId) (t : Formula) → IsOfFirst (IsNoted d rows uses (Quantified q sorts t)) ms → IsNoted d rows uses (Quantified q sorts t) m
  quantified_noted q sorts t h = first_noted (IsNoted d rows uses (Quantified q sorts t)) ms m h at

  pub quantified_flags : (q : Quantifier) (sorts : List SortId) (t : Formula) (bound : List Bool) → bound ≡ bound_of m → IsOfFirst (IsNoted d rows uses (Quantified q sorts t)) ms → bound ≡ flags_below (occurs d uses t) (length sorts)
  quantified_flags q sorts t bound same h = same ∙ (quantified_noted q sorts t h).0

  pub quantified_inner : (q : Quantifier) (sorts : List SortId) (t : Formula) (inner : List Notes) → inner ≡ inner_of m → IsOfFirst (IsNoted d rows uses (Quantified q sorts t)) ms → IsOfFirst (IsNoted d rows uses t) inner
  quantified_inner q sorts t inner same h = subst (IsOfFirst (IsNoted d rows uses t)) (sym same) (quantified_noted q sorts t h).1

  match_noted : (t : Formula) (cases : Cases) → IsOfFirst (IsNoted d rows uses (Match t cases)) ms → IsNoted d rows uses (Match t cases) m
  match_noted t cases h = first_noted (IsNoted d rows uses (Match t cases)) ms m h at

  pub match_inside : (t : Formula) (cases : Cases) (bound : List Bool) → bound ≡ bound_of m → IsOfFirst (IsNoted d rows uses (Match t cases)) ms → 0 < length bound
  match_inside t cases bound same h = subst (λ (bs : List Bool). 0 < length bs) (sym (same ∙ (match_noted t cases h).0)) one
    where
      one : 0 < length (matched_occurs d uses [] cases ∷ [])
      one = omega arith

  pub match_flag : (t : Formula) (cases : Cases) (bound : List Bool) (b : Bool) → bound ≡ bound_of m → slice_get bound 0 ≡ Some b → IsOfFirst (IsNoted d rows uses (Match t cases)) ms → b ≡ matched_occurs d uses [] cases
  match_flag t cases bound b same first h = same_Some b (matched_occurs d uses [] cases) (sym first ∙ ap (λ (bs : List Bool). slice_get bs 0) (same ∙ (match_noted t cases h).0))

  pub match_under : (t : Formula) (cases : Cases) (b : Bool) (flags : List Bool) (ts : Formulas) (under : List Notes) → b ≡ matched_occurs d uses [] cases → flags ≡ b ∷ [] → ts ≡ with_formula t no_formulas → under ≡ under_of m → IsOfFirst (IsNoted d rows uses (Match t cases)) ms → AreNotedWhere d rows uses flags ts under
  match_under t cases b flags ts under is one tree same h =
      subst (λ (bs : List Bool). AreNotedWhere d rows uses bs ts under) (sym one) (subst (λ (us : Formulas). AreNotedWhere d rows uses (b ∷ []) us under) (sym tree) (λ e. subst (IsOfFirst (IsNoted d rows uses t)) (sym same) ((match_noted t cases h).1 (sym is ∙ e)), tt))

  pub match_inner : (t : Formula) (cases : Cases) (earlier : List CtorId) (inner : List Notes) → earlier ≡ [] → inner ≡ inner_of m → IsOfFirst (IsNoted d rows uses (Match t cases)) ms → CasesNoted d rows uses earlier cases inner
  match_inner t cases earlier inner none same h = subst (λ (e : List CtorId). CasesNoted d rows uses e cases inner) (sym none) (subst (CasesNoted d rows uses [] cases) (sym same) (match_noted t cases h).2)

pub case_notes : (d : Declarations) (rows : Rows) (uses : DefId → ℕ → Bool) (earlier : List CtorId) (p : Pattern) (body : Formula) (cases : Cases) (ms : List Notes) → CasesNoted d rows uses earlier (with_case p body cases) ms → IsOfFirst (IsNoted d rows uses body) ms
case_notes d rows uses earlier Any body cases ms h = h
case_notes d rows uses earlier (Ctor c) body cases ms h = h.0

pub later_cases : (d : Declarations) (rows : Rows) (uses : DefId → ℕ → Bool) (earlier : List CtorId) (p : Pattern) (c : CtorId) (body : Formula) (cases : Cases) (ms : List Notes) → tested_by d earlier p (are_none cases) ≡ Some c → CasesNoted d rows uses earlier (with_case p body cases) ms → CasesNoted d rows uses (c ∷ earlier) cases (drop 1 ms)
later_cases d rows uses earlier Any c body cases ms e h = absurd (none-some c e)
later_cases d rows uses earlier (Ctor k) c body cases ms e h = of (surely_fits d earlier k || are_none cases) e h.1
  where
    of : (b : Bool) → (if b then None else Some k) ≡ Some c → (b ≡ false → CasesNoted d rows uses (k ∷ earlier) cases (drop 1 ms)) → CasesNoted d rows uses (c ∷ earlier) cases (drop 1 ms)
    of true x f = absurd (none-some c x)
    of false x f = subst (λ (j : CtorId). CasesNoted d rows uses (j ∷ earlier) cases (drop 1 ms)) (same_Some k c x) (f refl)

-- a definition that is called is worked out
pub call_known : (d : Declarations) (rows : Rows) (uses : DefId → ℕ → Bool) (k : DefId) (ts : Formulas) (ms : List Notes) → IsOfFirst (IsNoted d rows uses (Def k ts)) ms → IsKnown rows k
call_known d rows uses k ts [] h = absurd h
call_known d rows uses k ts (m ∷ ms) h = h.0

-- the first of the flags and of the formulas, and the others
pub where_split : (d : Declarations) (rows : Rows) (uses : DefId → ℕ → Bool) (flags later : List Bool) (b : Bool) (ts : Formulas) (t : Formula) (others : Formulas) (ms next : List Notes) → flags ≡ b ∷ later → ts ≡ with_formula t others → next ≡ drop 1 ms → AreNotedWhere d rows uses flags ts ms → (b ≡ true → IsOfFirst (IsNoted d rows uses t) ms) × AreNotedWhere d rows uses later others next
where_split d rows uses flags later b ts t others ms next f e n h =
    let k = subst (λ (us : Formulas). AreNotedWhere d rows uses (b ∷ later) us ms) e (subst (λ (bs : List Bool). AreNotedWhere d rows uses bs ts ms) f h) in
    (k.0, subst (AreNotedWhere d rows uses later others) (sym n) k.1)
