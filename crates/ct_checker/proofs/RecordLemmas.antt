-- A record that passes has no model: all its clauses would be true there, and the last is empty.
use Rattle.std.proofs.Common.{◌≡◌, ℕ, zero, suc, ◌<◌, List, [], length, take, Some, slice_get, ap, subst, ◌∙◌, arith}
use Rattle.ct_lemmas.proofs.Contained.{Contains-none}
use Rattle.ct_lemmas.proofs.Each.{All-from_Contains}
use Rattle.ct_lemmas.proofs.Lists.{slice_get-last}
use Rattle.ct_lemmas.proofs.Prefixes.{slice_get-take, slice_get-take_below}
use Rattle.ct_sorts.specs.Declarations.{Declarations}
use Rattle.ct_terms.specs.declared.ids.TermId.{TermId}
use Rattle.ct_terms.specs.Terms.{Terms}
use Rattle.ct_eval.specs.declared.interp.Interp.{Interp}
use Rattle.ct_eval.specs.Truth.{Holds, TrueIn}
use Rattle.ct_log.specs.declared.line.Line.{Line}
use Rattle.ct_log.specs.Acceptance.{clauses_of, AreAccepted, Passes}
use Rattle.ct_checker.proofs.ListLemmas.{Contains-map_cases}
use Rattle.ct_checker.proofs.Setting.{Setting}
use Rattle.ct_checker.proofs.LineLemmas.{line_sound}

module _ (d : Declarations) (i : Interp) (terms : Terms) (setting : Setting d i terms) (asserts : List TermId) (holds : Holds d i terms asserts) (lines : List Line) (accepted : AreAccepted d terms asserts lines) where
  -- the clause of each line is true, in the order of their numbers
  true_below : (bound index : ℕ) (line : Line) → index < bound → slice_get lines index ≡ Some line → TrueIn d i terms line.clause
  true_below zero index line within at = absurd (omega arith)
  true_below (suc bound) index line within at =
      line_sound d i terms setting asserts (clauses_of (take index lines)) line (accepted index line at) holds
      (All-from_Contains (TrueIn d i terms) (clauses_of (take index lines)) (λ clause inside.
      let one = Contains-map_cases (λ (l : Line). l.clause) (take index lines) clause inside in
      let below : one.0 < index = slice_get-take_below index lines one.0 one.1 one.2 in
      subst (TrueIn d i terms) one.3 (true_below bound one.0 one.1 (omega arith) (slice_get-take index lines one.0 one.1 one.2))))

  pub line_true : (index : ℕ) (line : Line) → slice_get lines index ≡ Some line → TrueIn d i terms line.clause
  line_true index line at = true_below (suc index) index line (omega arith) at

-- so a record that passes has no model
pub no_model : (d : Declarations) (i : Interp) (terms : Terms) → Setting d i terms → (asserts : List TermId) (lines : List Line) → Holds d i terms asserts → Passes d terms asserts lines → ⊥
no_model d i terms setting asserts lines holds passes =
    let at : slice_get lines (length passes.before) ≡ Some passes.last = ap (λ (l : List Line). slice_get l (length passes.before)) passes.ends ∙ slice_get-last passes.before passes.last in
    let last : TrueIn d i terms [] = subst (TrueIn d i terms) passes.empty (line_true d i terms setting asserts holds lines passes.accepted (length passes.before) passes.last at) in
    Contains-none last.0 last.1
