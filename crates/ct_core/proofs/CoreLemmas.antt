-- A core: the marked lines of a derivation, and the first places of the assertions that these are given.
use Rattle.std.proofs.Common.{◌≡◌, ℕ, Bool, List, length, sym, subst}
use Rattle.ct_terms.specs.declared.ids.TermId.{TermId}
use Rattle.ct_log.specs.Recorded.{Derived}
use Rattle.ct_core.specs.Core.{AreAt, IsCore}
use Rattle.ct_core.specs.Sweep.{AreMarks, IsCopied}
use Rattle.ct_core.specs.Inputs.{AreGivenMarks, IsChosen}
use Rattle.ct_core.proofs.CopyLemmas.{trimmed_all}
use Rattle.ct_core.proofs.InputLemmas.{places_exact}

-- what was copied over the terms that were chosen is the core
pub core_is : (old new : Derived) (marks given left : List Bool) (places numbers : List ℕ) (terms : List TermId) → AreMarks 0 old.rec.lines marks → AreGivenMarks marks old.rec.lines (length old.rec.lines) given
    → IsChosen old.asserts given (length old.asserts) places terms left → IsCopied (length old.rec.lines) marks numbers old.rec.lines new.rec.lines
    → new.declarations ≡ old.declarations → new.rec.terms ≡ old.rec.terms → new.asserts ≡ terms → IsCore old places new
core_is old new marks given left places numbers terms are are_given chosen copied declared over asserted = record {
  declarations = declared;
  terms = over;
  lines = trimmed_all 0 marks numbers old.rec.lines new.rec.lines are copied;
  rising = chosen.rising;
  exact = places_exact old.rec.lines marks old.asserts given places terms left are are_given chosen;
  asserts = subst (AreAt old.asserts places) (sym asserted) chosen.stand;
}
