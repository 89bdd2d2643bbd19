-- Lines one after the other: up to the first that is not accepted, or to the end of a record that passes.
use Rattle.std.proofs.Common.{◌≡◌, ℕ, ◌+◌, ◌<◌, ◌≤◌, inl, inr, List, length, Some, slice_get, sym, ap, subst, ◌∙◌, arith}
use Rattle.std.proofs.lemmas.Option.{slice_get_within}
use Rattle.ct_lemmas.proofs.Lists.{slice_get-there}
use Rattle.ct_lemmas.proofs.Numbers.{last_or_before}
use Rattle.ct_sorts.specs.Declarations.{Declarations}
use Rattle.ct_terms.specs.declared.ids.TermId.{TermId}
use Rattle.ct_terms.specs.Terms.{Terms}
use Rattle.ct_log.specs.declared.line.Line.{Line}
use Rattle.ct_log.specs.Acceptance.{AreAccepted, Passes}
use Rattle.ct_checker.specs.declared.reject.Why.{Why}
use Rattle.ct_checker.specs.declared.reject.Why.TheVariants.{Step, NoEmptyClause}
use Rattle.ct_checker.specs.Rejection.{IsAcceptedAt, AreAcceptedBelow, IsFirstRefused, EndsEmpty, IsRejectedAt}

module _ (d : Declarations) (terms : Terms) (asserts : List TermId) (lines : List Line) where
  -- one line more
  pub accepted_next : (bound : ℕ) → AreAcceptedBelow d terms asserts lines bound → ((line : Line) → slice_get lines bound ≡ Some line → IsAcceptedAt d terms asserts lines bound line) → AreAcceptedBelow d terms asserts lines (bound + 1)
  accepted_next bound before last index line below at =
      elim (last_or_before index bound below) [
        | inl h ↦ before index line h at
        | inr h ↦ subst (λ (n : ℕ). IsAcceptedAt d terms asserts lines n line) (sym h) (last line (ap (slice_get lines) (sym h) ∙ at))
      ]

  -- the first that is not accepted
  pub refused_at : (index : ℕ) → index < length lines → AreAcceptedBelow d terms asserts lines index → ((line : Line) → slice_get lines index ≡ Some line → IsAcceptedAt d terms asserts lines index line → ⊥) → IsFirstRefused d terms asserts lines index
  refused_at index within before refused =
      let at = slice_get-there lines index within in
      record { line = at.0; stands = at.1; refused = refused at.0 at.1; before = before }

  -- all of them
  pub all_accepted : (bound : ℕ) → length lines ≤ bound → AreAcceptedBelow d terms asserts lines bound → AreAccepted d terms asserts lines
  all_accepted bound long before index line at = let within = slice_get_within lines index line at in before index line (omega arith) at

  -- a record that ends with the empty clause passes
  pub passed : AreAccepted d terms asserts lines → EndsEmpty lines → Passes d terms asserts lines
  passed accepted ends = record { accepted = accepted; before = ends.0; last = ends.1; ends = ends.2; empty = ends.3 }

  -- one that is rejected does not pass
  pub rejected_fails : (number : ℕ) (why : Why) → IsRejectedAt d terms asserts lines number why → Passes d terms asserts lines → ⊥
  rejected_fails number Step rejected passes =
      let first = rejected.2 in first.refused (passes.accepted rejected.0 first.line first.stands)
  rejected_fails number NoEmptyClause rejected passes = rejected.2 (passes.before, passes.last, passes.ends, passes.empty)
