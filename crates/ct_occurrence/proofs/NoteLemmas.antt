-- Notes on a formula from the notes on the formulas under it.
use Rattle.std.proofs.Common.{◌≡◌, ℕ, Bool, true, ◌||◌, List, [], ◌∷◌, ◌++◌, length, drop, sym, ap, subst, ◌∙◌, true≢false}
use Rattle.std.proofs.lemmas.List.{append_assoc, append-nil}
use Rattle.ct_sorts.specs.declared.ids.CtorId.{CtorId}
use Rattle.ct_sorts.specs.declared.ids.DefId.{DefId}
use Rattle.ct_sorts.specs.Declarations.{Declarations}
use Rattle.ct_formulas.specs.declared.tree.Pattern.TheVariants.{Ctor}
use Rattle.ct_sorts.specs.declared.ids.SortId.{SortId}
use Rattle.ct_formulas.specs.declared.tree.Quantifier.{Quantifier}
use Rattle.ct_formulas.specs.Formula.{Formula, Formulas, Cases, Var, Con, Sel, Test, Apply, Def, Not, And, Or, Xor, Implies, Equal, Distinct, Ite, Let, Match, Quantified, no_formulas, with_formula, with_case}
use Rattle.ct_formulas.specs.Compiled.{surely_fits, are_none}
use Rattle.ct_formulas.specs.Occurrence.{count_of, occurs, matched_occurs}
use Rattle.ct_occurrence.specs.declared.notes.Notes.{Notes}
use Rattle.ct_occurrence.specs.Plain.{is_plain, formulas_under}
use Rattle.ct_occurrence.specs.Marks.{flags_below, Rows, IsKnown, MayMarkAll}
use Rattle.ct_occurrence.specs.Noted.{bound_of, under_of, inner_of, IsOfFirst, IsNoted, AreNoted, AreNotedWhere, CasesNoted}

-- an operator, from what is under it
pub noted_plain : (d : Declarations) (rows : Rows) (uses : DefId → ℕ → Bool) (t : Formula) (m : Notes) → is_plain t ≡ true → AreNoted d rows uses (formulas_under t) (under_of m) → IsNoted d rows uses t m
noted_plain d rows uses (Con c ts) m plain h = h
noted_plain d rows uses (Sel s t) m plain h = h.0
noted_plain d rows uses (Test c t) m plain h = h.0
noted_plain d rows uses (Apply f ts) m plain h = h
noted_plain d rows uses (Not t) m plain h = h.0
noted_plain d rows uses (And ts) m plain h = h
noted_plain d rows uses (Or ts) m plain h = h
noted_plain d rows uses (Xor ts) m plain h = h
noted_plain d rows uses (Implies ts) m plain h = h
noted_plain d rows uses (Equal ts) m plain h = h
noted_plain d rows uses (Distinct ts) m plain h = h
noted_plain d rows uses (Var i) m plain h = absurd (true≢false (sym plain))
noted_plain d rows uses (Def k ts) m plain h = absurd (true≢false (sym plain))
noted_plain d rows uses (Ite c t u) m plain h = absurd (true≢false (sym plain))
noted_plain d rows uses (Let ts u) m plain h = absurd (true≢false (sym plain))
noted_plain d rows uses (Match t cases) m plain h = absurd (true≢false (sym plain))
noted_plain d rows uses (Quantified q sorts t) m plain h = absurd (true≢false (sym plain))

pub noted_operator : (d : Declarations) (rows : Rows) (uses : DefId → ℕ → Bool) (t : Formula) (ts : Formulas) (m : Notes) (ms : List Notes) → is_plain t ≡ true → formulas_under t ≡ ts → under_of m ≡ ms → AreNoted d rows uses ts ms → IsNoted d rows uses t m
noted_operator d rows uses t ts m ms plain under is h =
    noted_plain d rows uses t m plain (subst (λ (us : Formulas). AreNoted d rows uses us (under_of m)) (sym under) (subst (AreNoted d rows uses ts) (sym is) h))

module _ (d : Declarations) (rows : Rows) (uses : DefId → ℕ → Bool) where
  pub noted_call : (k : DefId) (ts : Formulas) (m : Notes) (ms : List Notes) (row : List Bool) → row ≡ flags_below (uses k) (count_of ts) → under_of m ≡ ms → IsKnown rows k → AreNotedWhere d rows uses row ts ms → IsNoted d rows uses (Def k ts) m
  noted_call k ts m ms row is under known h = (known, subst (AreNotedWhere d rows uses (flags_below (uses k) (count_of ts)) ts) (sym under) (subst (λ (bs : List Bool). AreNotedWhere d rows uses bs ts ms) is h))

  pub noted_choice : (c t u : Formula) (m x y z : Notes) → under_of m ≡ x ∷ (y ∷ (z ∷ [])) → IsNoted d rows uses c x → IsNoted d rows uses t y → IsNoted d rows uses u z → IsNoted d rows uses (Ite c t u) m
  noted_choice c t u m x y z under f g h =
      subst (λ (ms : List Notes). IsOfFirst (IsNoted d rows uses c) ms × IsOfFirst (IsNoted d rows uses t) (drop 1 ms) × IsOfFirst (IsNoted d rows uses u) (drop 1 (drop 1 ms))) (sym under) (f, g, h)

  pub noted_let : (ts : Formulas) (u : Formula) (m x : Notes) (bound : List Bool) (ms : List Notes) → bound ≡ flags_below (occurs d uses u) (count_of ts) → bound_of m ≡ bound → under_of m ≡ ms → inner_of m ≡ x ∷ [] → AreNotedWhere d rows uses bound ts ms → IsNoted d rows uses u x → IsNoted d rows uses (Let ts u) m
  noted_let ts u m x bound ms is flags under inner h k = (
    flags ∙ is,
    subst (AreNotedWhere d rows uses (flags_below (occurs d uses u) (count_of ts)) ts) (sym under) (subst (λ (bs : List Bool). AreNotedWhere d rows uses bs ts ms) is h),
    subst (IsOfFirst (IsNoted d rows uses u)) (sym inner) k,
  )

  pub noted_quantified : (q : Quantifier) (sorts : List SortId) (t : Formula) (m x : Notes) (bound : List Bool) → bound ≡ flags_below (occurs d uses t) (length sorts) → bound_of m ≡ bound → inner_of m ≡ x ∷ [] → IsNoted d rows uses t x → IsNoted d rows uses (Quantified q sorts t) m
  noted_quantified q sorts t m x bound is flags inner h = (flags ∙ is, subst (IsOfFirst (IsNoted d rows uses t)) (sym inner) h)

  pub noted_match : (t : Formula) (cases : Cases) (m x : Notes) (b : Bool) (ms : List Notes) → b ≡ matched_occurs d uses [] cases → bound_of m ≡ b ∷ [] → under_of m ≡ x ∷ [] → inner_of m ≡ ms → (b ≡ true → IsNoted d rows uses t x) → CasesNoted d rows uses [] cases ms → IsNoted d rows uses (Match t cases) m
  noted_match t cases m x b ms is flags under inner h k = (
    flags ∙ ap (λ (c : Bool). c ∷ []) is,
    λ e. subst (IsOfFirst (IsNoted d rows uses t)) (sym under) (h (is ∙ e)),
    subst (CasesNoted d rows uses [] cases) (sym inner) k,
  )

  pub cases_last : (earlier : List CtorId) (c : CtorId) (body : Formula) (cases : Cases) (m : Notes) → (surely_fits d earlier c || are_none cases) ≡ true → IsNoted d rows uses body m → CasesNoted d rows uses earlier (with_case (Ctor c) body cases) (m ∷ [])
  cases_last earlier c body cases m fits h = (h, λ e. absurd (true≢false (sym fits ∙ e)))

  pub cases_more : (earlier : List CtorId) (c : CtorId) (body : Formula) (cases : Cases) (m : Notes) (ms : List Notes) → IsNoted d rows uses body m → CasesNoted d rows uses (c ∷ earlier) cases ms → CasesNoted d rows uses earlier (with_case (Ctor c) body cases) (m ∷ ms)
  cases_more earlier c body cases m ms h k = (h, λ e. k)

-- ---- the loop over several formulas

pub record NotesRest (d : Declarations) (rows : Rows) (all rest : Formulas) (done : List Notes) : Type 0 where
  pub step : (uses : DefId → ℕ → Bool) (n : ℕ) → MayMarkAll d uses n rows all → (more : List Notes) → AreNoted d rows uses rest more → AreNoted d rows uses all (done ++ more)

pub notes_more : (d : Declarations) (rows : Rows) (all : Formulas) (t : Formula) (ts : Formulas) (done : List Notes) (m : Notes) → NotesRest d rows all (with_formula t ts) done → ((uses : DefId → ℕ → Bool) (n : ℕ) → MayMarkAll d uses n rows all → IsNoted d rows uses t m) → NotesRest d rows all ts (done ++ m ∷ [])
notes_more d rows all t ts done m h first = record {
  step = λ uses n may more k. subst (AreNoted d rows uses all) (sym (append_assoc done (m ∷ []) more)) (h.step uses n may (m ∷ more) (first uses n may, k));
}

pub notes_end : (d : Declarations) (rows : Rows) (all : Formulas) (done : List Notes) (uses : DefId → ℕ → Bool) (n : ℕ) → NotesRest d rows all no_formulas done → MayMarkAll d uses n rows all → AreNoted d rows uses all done
notes_end d rows all done uses n h may = subst (AreNoted d rows uses all) (append-nil done) (h.step uses n may [] tt)

-- ---- the loop over formulas that are bound

pub record NotesBound (d : Declarations) (rows : Rows) (bound : List Bool) (all : Formulas) (left : List Bool) (rest : Formulas) (done : List Notes) : Type 0 where
  pub step : (inner : ℕ → Bool) (uses : DefId → ℕ → Bool) (n : ℕ) → MayMarkAll d uses n rows all → bound ≡ flags_below inner (count_of all) → (more : List Notes) → AreNotedWhere d rows uses left rest more → AreNotedWhere d rows uses bound all (done ++ more)

pub notes_bound_more : (d : Declarations) (rows : Rows) (bound : List Bool) (all : Formulas) (b : Bool) (left : List Bool) (t : Formula) (ts : Formulas) (done : List Notes) (m : Notes) → NotesBound d rows bound all (b ∷ left) (with_formula t ts) done → ((inner : ℕ → Bool) (uses : DefId → ℕ → Bool) (n : ℕ) → MayMarkAll d uses n rows all → bound ≡ flags_below inner (count_of all) → b ≡ true → IsNoted d rows uses t m) → NotesBound d rows bound all left ts (done ++ m ∷ [])
notes_bound_more d rows bound all b left t ts done m h first = record {
  step = λ inner uses n may e more k. subst (AreNotedWhere d rows uses bound all) (sym (append_assoc done (m ∷ []) more)) (h.step inner uses n may e (m ∷ more) (first inner uses n may e, k));
}

pub notes_bound_end : (d : Declarations) (rows : Rows) (bound : List Bool) (all : Formulas) (left : List Bool) (done : List Notes) (inner : ℕ → Bool) (uses : DefId → ℕ → Bool) (n : ℕ) → NotesBound d rows bound all left no_formulas done → MayMarkAll d uses n rows all → bound ≡ flags_below inner (count_of all) → AreNotedWhere d rows uses bound all done
notes_bound_end d rows bound all left done inner uses n h may e = subst (AreNotedWhere d rows uses bound all) (append-nil done) (h.step inner uses n may e [] tt)
