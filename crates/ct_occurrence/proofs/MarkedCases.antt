-- The loop over the cases of a `match` that its core term has.
use Rattle.std.proofs.Common.{◌≡◌, ℕ, ◌+◌, ◌≤◌, Bool, true, false, ◌||◌, List, [], ◌∷◌, ◌++◌, Some, None, if◌then◌else◌, refl, sym, ap, subst, ◌∙◌, arith}
use Rattle.std.proofs.lemmas.Option.{none-some, same_Some}
use Rattle.std.proofs.lemmas.List.{append_assoc, append-nil}
use Rattle.ct_lemmas.proofs.Booleans.{or_false, or_true}
use Rattle.ct_sorts.specs.declared.ids.CtorId.{CtorId}
use Rattle.ct_sorts.specs.declared.ids.DefId.{DefId}
use Rattle.ct_sorts.specs.Declarations.{Declarations}
use Rattle.ct_formulas.specs.declared.tree.Pattern.{Pattern}
use Rattle.ct_formulas.specs.declared.tree.Pattern.TheVariants.{Ctor, Any}
use Rattle.ct_formulas.specs.Formula.{Formula, Cases, no_cases, with_case}
use Rattle.ct_formulas.specs.Compiled.{surely_fits, are_none}
use Rattle.ct_formulas.specs.Occurrence.{occurs, matched_occurs, occurs_in_cases}
use Rattle.ct_occurrence.specs.declared.notes.Notes.{Notes}
use Rattle.ct_occurrence.specs.Marks.{flags_below, mark_each, has_set, pattern_variable_count, Rows, MayMark, MayMarkCases}
use Rattle.ct_occurrence.specs.Matching.{tested_by, IsPatternDeclared}
use Rattle.ct_occurrence.specs.Noted.{IsNoted, CasesNoted, AddsNotes, AddsAllNotes}
use Rattle.ct_occurrence.proofs.Size.{size, case_sizes}
use Rattle.ct_occurrence.proofs.MarkLemmas.{marked_none}
use Rattle.ct_occurrence.proofs.MayLemmas.{may_case, may_later, matched_last, marks_last, matched_more, marks_more, matched_any, marks_any}
use Rattle.ct_occurrence.proofs.NoteLemmas.{cases_last, cases_more}

-- a test that chooses
chosen_none : (b : Bool) (k : CtorId) → (if b then None else Some k) ≡ None → b ≡ true
chosen_none true k e = refl
chosen_none false k e = absurd (none-some k (sym e))

chosen_some : (b : Bool) (k c : CtorId) → (if b then None else Some k) ≡ Some c → (b ≡ false) × (k ≡ c)
chosen_some true k c e = absurd (none-some c e)
chosen_some false k c e = (refl, same_Some k c e)

-- ---- one case, and those after it

module _ (d : Declarations) (uses : DefId → ℕ → Bool) (n : ℕ) (rows : Rows) (earlier : List CtorId) (body : Formula) (later : Cases) where
  -- the last case that is stored
  matched_ends : (p : Pattern) (bound : List Bool) → tested_by d earlier p (are_none later) ≡ None → bound ≡ flags_below (occurs d uses body) (pattern_variable_count d p) → has_set bound ≡ matched_occurs d uses earlier (with_case p body later)
  matched_ends Any bound e is = matched_any d uses n rows earlier body later bound is
  matched_ends (Ctor c) bound e is = matched_last d uses n rows earlier c body later bound (chosen_none (surely_fits d earlier c || are_none later) c e) is

  marks_ends : (p : Pattern) (bs : List Bool) → tested_by d earlier p (are_none later) ≡ None → mark_each (λ i. occurs d uses body (i + pattern_variable_count d p)) bs ≡ mark_each (occurs_in_cases d uses earlier (with_case p body later)) bs
  marks_ends Any bs e = marks_any d uses n rows earlier body later bs
  marks_ends (Ctor c) bs e = marks_last d uses n rows earlier c body later bs (chosen_none (surely_fits d earlier c || are_none later) c e)

  noted_ends : (p : Pattern) (m : Notes) → tested_by d earlier p (are_none later) ≡ None → IsNoted d rows uses body m → CasesNoted d rows uses earlier (with_case p body later) (m ∷ [])
  noted_ends Any m e h = h
  noted_ends (Ctor c) m e h = cases_last d rows uses earlier c body later m (chosen_none (surely_fits d earlier c || are_none later) c e) h

  -- a case before others that are stored
  matched_before : (p : Pattern) (c : CtorId) → tested_by d earlier p (are_none later) ≡ Some c → true ≡ matched_occurs d uses earlier (with_case p body later)
  matched_before Any c e = absurd (none-some c e)
  matched_before (Ctor k) c e = matched_more d uses n rows earlier k body later (chosen_some (surely_fits d earlier k || are_none later) k c e).0

  marks_before : (p : Pattern) (c : CtorId) (bs : List Bool) → tested_by d earlier p (are_none later) ≡ Some c → mark_each (occurs_in_cases d uses (c ∷ earlier) later) (mark_each (λ i. occurs d uses body (i + pattern_variable_count d p)) bs) ≡ mark_each (occurs_in_cases d uses earlier (with_case p body later)) bs
  marks_before Any c bs e = absurd (none-some c e)
  marks_before (Ctor k) c bs e =
      let f = chosen_some (surely_fits d earlier k || are_none later) k c e in
      ap (λ (j : CtorId). mark_each (occurs_in_cases d uses (j ∷ earlier) later) (mark_each (λ i. occurs d uses body (i + pattern_variable_count d (Ctor k))) bs)) (sym f.1) ∙ marks_more d uses n rows earlier k body later bs f.0

  noted_before : (p : Pattern) (c : CtorId) (m : Notes) (ms : List Notes) → tested_by d earlier p (are_none later) ≡ Some c → IsNoted d rows uses body m → CasesNoted d rows uses (c ∷ earlier) later ms → CasesNoted d rows uses earlier (with_case p body later) (m ∷ ms)
  noted_before Any c m ms e h k = absurd (none-some c e)
  noted_before (Ctor j) c m ms e h k = cases_more d rows uses earlier j body later m ms h (subst (λ (x : CtorId). CasesNoted d rows uses (x ∷ earlier) later ms) (sym (chosen_some (surely_fits d earlier j || are_none later) j c e).1) k)

  case_declared : (p : Pattern) → MayMarkCases d uses n rows (with_case p body later) → IsPatternDeclared d p
  case_declared Any h = tt
  case_declared (Ctor c) h = (h.sorted.3.0.1.0, h.sorted.3.0.1.1)

-- ---- the loop

-- what the cases have that are done, for this test of variables, with what those have that are left
pub record CasesMarked (d : Declarations) (uses : DefId → ℕ → Bool) (n : ℕ) (rows : Rows) (all : Cases) (first : List Bool) (before : List Notes) (earlier : List CtorId) (tests : Bool) (rest : Cases) (flags : List Bool) (inner : List Notes) : Type 0 where
  pub may : MayMarkCases d uses n rows rest
  pub marks : mark_each (occurs_in_cases d uses earlier rest) flags ≡ mark_each (occurs_in_cases d uses [] all) first
  pub matched : (tests || matched_occurs d uses earlier rest) ≡ matched_occurs d uses [] all
  pub done : List Notes
  pub is : inner ≡ before ++ done
  pub noted : (ms : List Notes) → CasesNoted d rows uses earlier rest ms → CasesNoted d rows uses [] all (done ++ ms)

pub record MarksCases (d : Declarations) (rows : Rows) (all : Cases) (first : List Bool) (before : List Notes) (earlier : List CtorId) (tests : Bool) (rest : Cases) (flags : List Bool) (inner : List Notes) : Type 0 where
  pub step : (uses : DefId → ℕ → Bool) (n : ℕ) → MayMarkCases d uses n rows all → CasesMarked d uses n rows all first before earlier tests rest flags inner
  pub lighter : case_sizes rest ≤ case_sizes all

module _ (d : Declarations) (rows : Rows) (all : Cases) (first : List Bool) (before : List Notes) (earlier : List CtorId) (tests : Bool) (p : Pattern) (body : Formula) (later : Cases) (flags : List Bool) (inner : List Notes) (h : MarksCases d rows all first before earlier tests (with_case p body later) flags inner) where
  pub cases_first : (uses : DefId → ℕ → Bool) (n : ℕ) → MayMarkCases d uses n rows all → MayMark d uses n rows body
  cases_first uses n may = may_case d uses n rows p body later (h.step uses n may).may

  pub cases_declared : (uses : DefId → ℕ → Bool) (n : ℕ) → MayMarkCases d uses n rows all → IsPatternDeclared d p
  cases_declared uses n may = case_declared d uses n rows earlier body later p (h.step uses n may).may

  pub cases_lighter : size body + 2 ≤ case_sizes all
  cases_lighter = let k = h.lighter in omega (arith, k)

  -- the last case that is stored
  pub ends_matched : (uses : DefId → ℕ → Bool) (n : ℕ) → MayMarkCases d uses n rows all → tested_by d earlier p (are_none later) ≡ None → (bound : List Bool) → bound ≡ flags_below (occurs d uses body) (pattern_variable_count d p) → (tests || has_set bound) ≡ matched_occurs d uses [] all
  ends_matched uses n may e bound is = ap (λ (b : Bool). tests || b) (matched_ends d uses n rows earlier body later p bound e is) ∙ (h.step uses n may).matched

  pub ends_marks : (uses : DefId → ℕ → Bool) (n : ℕ) → MayMarkCases d uses n rows all → tested_by d earlier p (are_none later) ≡ None → (new : List Bool) → new ≡ mark_each (λ i. occurs d uses body (i + pattern_variable_count d p)) flags → new ≡ mark_each (occurs_in_cases d uses [] all) first
  ends_marks uses n may e new is = is ∙ (marks_ends d uses n rows earlier body later p flags e ∙ (h.step uses n may).marks)

  pub ends_noted : (uses : DefId → ℕ → Bool) (n : ℕ) → MayMarkCases d uses n rows all → tested_by d earlier p (are_none later) ≡ None → (new : List Notes) → AddsNotes (IsNoted d rows uses body) inner new → AddsAllNotes (CasesNoted d rows uses [] all) before new
  ends_noted uses n may e new a =
      let s = h.step uses n may in
      (s.done ++ a.0 ∷ [], a.1 ∙ (ap (λ (ms : List Notes). ms ++ a.0 ∷ []) s.is ∙ append_assoc before s.done (a.0 ∷ [])), s.noted (a.0 ∷ []) (noted_ends d uses n rows earlier body later p a.0 e a.2))

  -- a case before others
  pub cases_next : (c : CtorId) → tested_by d earlier p (are_none later) ≡ Some c → (new : List Bool) (notes : List Notes) → ((uses : DefId → ℕ → Bool) (n : ℕ) → MayMark d uses n rows body → new ≡ mark_each (λ i. occurs d uses body (i + pattern_variable_count d p)) flags) → ((uses : DefId → ℕ → Bool) (n : ℕ) → MayMark d uses n rows body → AddsNotes (IsNoted d rows uses body) inner notes) → MarksCases d rows all first before (c ∷ earlier) true later new notes
  cases_next c e new notes marks adds = record {
    step = λ uses n may.
        let s = h.step uses n may in
        let here = may_case d uses n rows p body later s.may in
        let a = adds uses n here in
        record {
          may = may_later d uses n rows p body later s.may;
          marks = ap (mark_each (occurs_in_cases d uses (c ∷ earlier) later)) (marks uses n here) ∙ (marks_before d uses n rows earlier body later p c flags e ∙ s.marks);
          matched = sym (or_true tests) ∙ (ap (λ (b : Bool). tests || b) (matched_before d uses n rows earlier body later p c e) ∙ s.matched);
          done = s.done ++ a.0 ∷ [];
          is = a.1 ∙ (ap (λ (ms : List Notes). ms ++ a.0 ∷ []) s.is ∙ append_assoc before s.done (a.0 ∷ []));
          noted = λ ms k. subst (CasesNoted d rows uses [] all) (sym (append_assoc s.done (a.0 ∷ []) ms)) (s.noted (a.0 ∷ ms) (noted_before d uses n rows earlier body later p c a.0 ms e a.2 k));
        };
    lighter = let k = h.lighter in omega (arith, k);
  }

-- no case is left
module _ (d : Declarations) (rows : Rows) (all : Cases) (first : List Bool) (before : List Notes) (earlier : List CtorId) (tests : Bool) (flags : List Bool) (inner : List Notes) (h : MarksCases d rows all first before earlier tests no_cases flags inner) (uses : DefId → ℕ → Bool) (n : ℕ) (may : MayMarkCases d uses n rows all) where
  pub none_matched : tests ≡ matched_occurs d uses [] all
  none_matched = sym (or_false tests) ∙ (h.step uses n may).matched

  pub none_marks : flags ≡ mark_each (occurs_in_cases d uses [] all) first
  none_marks = sym (marked_none flags) ∙ (h.step uses n may).marks

  pub none_noted : AddsAllNotes (CasesNoted d rows uses [] all) before inner
  none_noted = let s = h.step uses n may in (s.done, s.is, subst (CasesNoted d rows uses [] all) (append-nil s.done) (s.noted [] tt))
