-- Lemmas over the numbers of equal terms: they are those that are moved, and no others are.
use Rattle.std.proofs.Common.{◌≡◌, ◌↔◌, List, All, Option, None, Some, MatchOption, refl, sym, ◌∙◌, subst}
use Rattle.std.proofs.lemmas.List.Elements.{All-weaker, recursion_from_All}
use Rattle.std.proofs.lemmas.Option.{get_or_from_slice_get}
use Rattle.ct_sorts.specs.Declarations.{Declarations}
use Rattle.ct_terms.specs.declared.ids.TermId.{TermId}
use Rattle.ct_terms.specs.Terms.{Terms}
use Rattle.ct_restriction.specs.Renamed.{number_in}
use Rattle.ct_restriction.specs.Renumbered.{IsEqualTerm, Numbers, IsNumber, IsKnown}
use Rattle.ct_log.specs.Acceptance.{IsAccepted}
use Rattle.ct_log.specs.declared.line.Line.{Line}
use Rattle.ct_terms.specs.Clause.{Clause}
use Rattle.ct_kept.specs.declared.lemma.Lemma.{Lemma}
use Rattle.ct_kept.specs.Lemmas.{renamed_lemma, lemma_terms, IsMoved, theory_line, IsAcceptedLemma}
use Rattle.ct_kept.specs.Kept.{IsLineOf, IsUsable}
use Rattle.ct_kept.proofs.TermLemmas.{lemma_same}

-- the number that is known is the one that is given
pub number_is : (n : Numbers) (t u : TermId) → IsNumber n t u → number_in n.numbers t ≡ u
number_is n t u h = get_or_from_slice_get n.numbers t.0 u t h.1

-- over numbers of equal terms a lemma is moved
pub moved_by : (from to : Terms) (n : Numbers) (lemma : Lemma) → ((t u : TermId) → IsNumber n t u → IsEqualTerm from to t u) → All (IsKnown n) (lemma_terms lemma) →
    IsMoved from to lemma (renamed_lemma (number_in n.numbers) lemma)
moved_by from to n lemma equal known = record {
  number = number_in n.numbers;
  equal = All-weaker (IsKnown n) (λ t. IsEqualTerm from to t (number_in n.numbers t)) (λ t k. subst (IsEqualTerm from to t) (sym (number_is n t k.0 k.1)) (equal t k.0 k.1)) (lemma_terms lemma) known;
  exchanged = refl;
}

module _ (from to : Terms) (n : Numbers) (exact : (t u : TermId) → IsEqualTerm from to t u ↔ IsNumber n t u) (lemma moved : Lemma) (moves : IsMoved from to lemma moved) where
  -- where a lemma is moved its terms are known
  pub moved_known : All (IsKnown n) (lemma_terms lemma)
  moved_known = All-weaker (λ t. IsEqualTerm from to t (moves.number t)) (IsKnown n) (λ t e. (moves.number t, (exact t (moves.number t)).0 e)) (lemma_terms lemma) moves.equal

  -- and it is over their numbers
  pub moved_is : moved ≡ renamed_lemma (number_in n.numbers) lemma
  moved_is =
      moves.exchanged
      ∙ lemma_same moves.number (number_in n.numbers) lemma
      (recursion_from_All (λ t. moves.number t ≡ number_in n.numbers t) (lemma_terms lemma)
      (All-weaker (λ t. IsEqualTerm from to t (moves.number t)) (λ t. moves.number t ≡ number_in n.numbers t)
      (λ t e. sym (number_is n t (moves.number t) ((exact t (moves.number t)).0 e))) (lemma_terms lemma) moves.equal))

-- a line of the theory is accepted whatever stands before it
pub accepted_alone : (d : Declarations) (terms : Terms) (asserts : List TermId) (earlier : List Clause) (lemma : Lemma) → IsAccepted d terms asserts earlier (theory_line lemma) → IsAcceptedLemma d terms lemma
accepted_alone d terms asserts earlier lemma h = record { literals = h.literals; refuted = h.justified }

pub accepted_after : (d : Declarations) (terms : Terms) (asserts : List TermId) (earlier : List Clause) (lemma : Lemma) → IsAcceptedLemma d terms lemma → IsAccepted d terms asserts earlier (theory_line lemma)
accepted_after d terms asserts earlier lemma h = record { literals = h.literals; justified = h.refuted }

-- the line of a lemma: of one that is accepted, and of one that is not
module _ (d : Declarations) (from to : Terms) (n : Numbers) (exact : (t u : TermId) → IsEqualTerm from to t u ↔ IsNumber n t u) (lemma : Lemma) where
  pub line_is : (moved : Lemma) (line : Line) → All (IsKnown n) (lemma_terms lemma) → moved ≡ renamed_lemma (number_in n.numbers) lemma → IsAcceptedLemma d to moved → line ≡ theory_line moved → IsLineOf d from to lemma line
  line_is moved line known is accepted same =
      (moved, subst (IsMoved from to lemma) (sym is) (moved_by from to n lemma (λ t u. (exact t u).1) known), accepted, same)

  pub line_refused : (moved : Lemma) → moved ≡ renamed_lemma (number_in n.numbers) lemma → (IsAcceptedLemma d to moved → ⊥) → IsUsable d from to lemma → ⊥
  line_refused moved is refused usable =
      let other = usable.1 in
      let same : other.0 ≡ moved = moved_is from to n exact lemma other.0 other.1 ∙ sym is in
      refused (subst (IsAcceptedLemma d to) same other.2)

  pub line_unknown : (All (IsKnown n) (lemma_terms lemma) → ⊥) → IsUsable d from to lemma → ⊥
  line_unknown unknown usable = unknown (moved_known from to n exact lemma usable.1.0 usable.1.1)

  -- whatever came of the moved lemma
  pub line_found : (moved : Lemma) (found : Option Line) → All (IsKnown n) (lemma_terms lemma) → moved ≡ renamed_lemma (number_in n.numbers) lemma →
      MatchOption found (IsAcceptedLemma d to moved → ⊥) (λ line. IsAcceptedLemma d to moved × (line ≡ theory_line moved)) →
      MatchOption found (IsUsable d from to lemma → ⊥) (IsLineOf d from to lemma)
  line_found moved None known is refused = line_refused moved is refused
  line_found moved (Some line) known is accepted = line_is moved line known is accepted.0 accepted.1
