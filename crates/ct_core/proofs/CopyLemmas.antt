-- Lines that are put back with their hints renumbered: none yet, one more, and all.
use Rattle.std.proofs.Common.{◌≡◌, ℕ, suc, ◌+◌, ◌<◌, ◌≤◌, Bool, true, false, List, [], ◌∷◌, ◌++◌, length, take, All, Contains, Some, get_or, slice_get, refl, sym, ap, subst, ◌∙◌, inl, inr, arith, true≢false}
use Rattle.std.proofs.lemmas.List.{length_push}
use Rattle.std.proofs.lemmas.List.Elements.{All-contains, Contains-append_left, Contains-get_or, Contains-push, Contains-push_cases}
use Rattle.std.proofs.lemmas.Option.{none-some, same_Some, slice_get_within}
use Rattle.ct_lemmas.proofs.Booleans.{not_true}
use Rattle.ct_lemmas.proofs.Contained.{Contains-none, Contains-from_slice_get, slice_get-from_Contains}
use Rattle.ct_lemmas.proofs.Lists.{slice_get-append_left, slice_get-append_right, slice_get-last, slice_get-push_cases, slice_get-map_at, slice_get-map_source}
use Rattle.ct_lemmas.proofs.Numbers.{last_or_before}
use Rattle.ct_lemmas.proofs.Prefixes.{slice_get-take, slice_get-take_below}
use Rattle.ct_sorts.specs.Declarations.{Declarations}
use Rattle.ct_terms.specs.declared.ids.TermId.{TermId}
use Rattle.ct_terms.specs.Clause.{Clause}
use Rattle.ct_terms.specs.Terms.{Terms}
use Rattle.ct_terms.specs.Propagation.{IsNumbered}
use Rattle.ct_log.specs.declared.line.Line.{Line}
use Rattle.ct_log.specs.Acceptance.{IsAccepted, AreAccepted, Passes, clauses_of}
use Rattle.ct_core.specs.Cited.{hints_of, IsLineWith}
use Rattle.ct_core.specs.Trimmed.{renumbered, IsTrimmed}
use Rattle.ct_core.specs.Sweep.{IsMarked, AreMarks, bit, place_in, ArePlaces, AreClosedMarks, HaveInputs, IsCopied}
use Rattle.ct_core.proofs.SweepLemmas.{marked_read, read_marked, first_cited}
use Rattle.ct_core.proofs.RenumberLemmas.{accepted_renumbered}

-- nothing is put back yet
pub copied_none : (marks : List Bool) (places : List ℕ) (old : List Line) → ArePlaces marks places → (IsMarked marks 0 → ⊥) → IsCopied 0 marks places old []
copied_none marks places old are none = record {
  numbers = [];
  rising = λ j k m n at_j at_k before. absurd (none-some m at_j);
  marked = λ n. (λ h. absurd (Contains-none n h), λ h. let zero_is : n ≡ 0 = omega (arith, h.1) in absurd (none (subst (IsMarked marks) zero_is h.0)));
  counted = are.first ∙ ap bit (not_true (get_or marks 0 false) (λ e. none (marked_read marks 0 e)));
  are_renumbered = record { long = refl; placed = λ index number at. absurd (none-some number at); each = λ index number at. absurd (none-some number at) };
  ends = λ line h is. absurd (none h);
}

module _ (marks : List Bool) (places : List ℕ) (old new : List Line) (count : ℕ) (copied : IsCopied count marks places old new) where
  -- the clause of a marked line has its new number among those that were put back
  numbered : (n : ℕ) (clause : Clause) → IsMarked marks n → IsNumbered (clauses_of (take count old)) n clause → IsNumbered (clauses_of new) (place_in places n) clause
  numbered n clause h is =
      let source = slice_get-map_source (λ (l : Line). l.clause) (take count old) is.0 clause is.2 in
      let line = source.0 in
      let below = slice_get-take_below count old is.0 line source.1 in
      let there : slice_get old is.0 ≡ Some line = slice_get-take count old is.0 line source.1 in
      let at = slice_get-from_Contains copied.numbers n ((copied.marked n).1 (h, omega (arith, is.1, below))) in
      let found = copied.are_renumbered.each at.0 n at.1 in
      let same : found.1.0 ≡ is.0 = omega (arith, found.1.1, is.1) in
      let one : found.0 ≡ line = same_Some found.0 line (sym found.1.2 ∙ ap (slice_get old) same ∙ there) in
      let stands : slice_get (clauses_of new) at.0 ≡ Some found.0.clause = slice_get-map_at (λ (l : Line). l.clause) new at.0 (renumbered (place_in places) found.0) found.2 in
      (at.0, copied.are_renumbered.placed at.0 n at.1, stands ∙ ap (λ (l : Line). Some l.clause) one ∙ ap Some source.2)

  -- the next line is accepted after those that were put back
  pub accepted_next : (d : Declarations) (terms : Terms) (asserts others : List TermId) (line : Line) → AreAccepted d terms asserts old → AreClosedMarks marks old → HaveInputs marks old others
      → slice_get old count ≡ Some line → IsMarked marks (suc count) → IsAccepted d terms others (clauses_of new) (renumbered (place_in places) line)
  accepted_next d terms asserts others line accepted closed inputs at h =
      let is : IsLineWith old (suc count) line = (count, omega arith, at) in
      accepted_renumbered (clauses_of (take count old)) (clauses_of new) (place_in places) d terms asserts others line (λ t e. inputs (suc count) line t h is e)
      (λ n clause inside numbered_is. numbered n clause (All-contains (IsMarked marks) (hints_of line.step) n (closed (suc count) line h is) inside) numbered_is) (accepted count line at)

  -- the next line is not marked
  pub copied_skipped : ArePlaces marks places → suc count < length marks → (IsMarked marks (suc count) → ⊥) → IsCopied (suc count) marks places old new
  copied_skipped are within none =
      let unset : bit (get_or marks (suc count) false) ≡ 0 = ap bit (not_true (get_or marks (suc count) false) (λ e. none (marked_read marks (suc count) e))) in
      record {
        numbers = copied.numbers;
        rising = copied.rising;
        marked = λ n. (
          λ h. let was = (copied.marked n).0 h in (was.0, omega (arith, was.1)),
          λ h. elim (last_or_before n (suc count) (omega (arith, h.1))) [
            | inl before ↦ (copied.marked n).1 (h.0, omega (arith, before))
            | inr last ↦ absurd (none (subst (IsMarked marks) last h.0))
          ],
        );
        counted = let next = are.next count within in let was = copied.counted in omega (arith, next, unset, was);
        are_renumbered = copied.are_renumbered;
        ends = λ line h is. absurd (none h);
      }

  -- the next line is marked
  pub copied_more : (line : Line) → ArePlaces marks places → suc count < length marks → IsMarked marks (suc count) → slice_get old count ≡ Some line → IsCopied (suc count) marks places old (new ++ renumbered (place_in places) line ∷ [])
  copied_more line are within h at =
      let numbers = copied.numbers in
      let place = place_in places in
      let one = renumbered place line in
      let set : bit (get_or marks (suc count) false) ≡ 1 = ap bit (read_marked marks (suc count) h) in
      let counts : place (suc count) ≡ suc (length numbers) = let next = are.next count within in let was = copied.counted in omega (arith, next, set, was) in
      let below : (m : ℕ) → Contains numbers m → m ≤ count = λ m c. ((copied.marked m).0 c).1 in
      record {
        numbers = numbers ++ suc count ∷ [];
        rising = λ j k m n at_j at_k before. elim (slice_get-push_cases numbers (suc count) n k at_k) [
          | inl old_k ↦
              let k_below = slice_get_within numbers k n old_k in
              elim (slice_get-push_cases numbers (suc count) m j at_j) [
                | inl old_j ↦ copied.rising j k m n old_j old_k before
                | inr last_j ↦ absurd (omega (arith, before, k_below, last_j.0))
              ]
          | inr last_k ↦
              elim (slice_get-push_cases numbers (suc count) m j at_j) [
                | inl old_j ↦ let m_below = below m (Contains-from_slice_get numbers j m old_j) in let is = last_k.1 in omega (arith, m_below, is)
                | inr last_j ↦ absurd (omega (arith, before, last_k.0, last_j.0))
              ]
        ];
        marked = λ n. (
          λ c. elim (Contains-push_cases numbers (suc count) n c) [
            | inl was ↦ let is = (copied.marked n).0 was in (is.0, omega (arith, is.1))
            | inr same ↦ (subst (IsMarked marks) same h, omega (arith, same))
          ],
          λ is. elim (last_or_before n (suc count) (omega (arith, is.1))) [
            | inl before ↦ Contains-append_left numbers (suc count ∷ []) n ((copied.marked n).1 (is.0, omega (arith, before)))
            | inr last ↦ subst (Contains (numbers ++ suc count ∷ [])) (sym last) (Contains-push numbers (suc count))
          ],
        );
        counted = let long = length_push numbers (suc count) in omega (arith, counts, long);
        are_renumbered = record {
          long = let a = length_push new one in let b = length_push numbers (suc count) in let was = copied.are_renumbered.long in omega (arith, a, b, was);
          placed = λ index number stands. elim (slice_get-push_cases numbers (suc count) number index stands) [
            | inl was ↦ copied.are_renumbered.placed index number was
            | inr last ↦
                let is : place number ≡ place (suc count) = ap place (sym last.1) in
                omega (arith, is, counts, last.0)
          ];
          each = λ index number stands. elim (slice_get-push_cases numbers (suc count) number index stands) [
            | inl was ↦
                let found = copied.are_renumbered.each index number was in
                (found.0, found.1, slice_get-append_left new (one ∷ []) index (renumbered place found.0) found.2)
            | inr last ↦
                let end : index ≡ length new = let long = copied.are_renumbered.long in omega (arith, last.0, long) in
                (line, (count, omega (arith, last.1), at), subst (λ (k : ℕ). slice_get (new ++ one ∷ []) k ≡ Some one) (sym end) (slice_get-last new one))
          ];
        };
        ends = λ other marked_is is.
            let same : is.0 ≡ count = omega (arith, is.1) in
            let one_line : line ≡ other = same_Some line other (sym at ∙ ap (slice_get old) (sym same) ∙ is.2) in
            (new, one, refl, ap (λ (l : Line). l.clause) one_line);
      }

  -- the next line is put back where it is marked
  pub copied_next : (line : Line) (after : List Line) → ArePlaces marks places → suc count < length marks → slice_get old count ≡ Some line → (IsMarked marks (suc count) → after ≡ new ++ renumbered (place_in places) line ∷ [])
      → ((IsMarked marks (suc count) → ⊥) → after ≡ new) → IsCopied (suc count) marks places old after
  copied_next line after are within at put skipped = by (get_or marks (suc count) false) refl
    where
      by : (b : Bool) → get_or marks (suc count) false ≡ b → IsCopied (suc count) marks places old after
      by true e = let h = marked_read marks (suc count) e in subst (IsCopied (suc count) marks places old) (sym (put h)) (copied_more line are within h at)
      by false e =
          let none : IsMarked marks (suc count) → ⊥ = λ h. true≢false (sym (read_marked marks (suc count) h) ∙ e) in
          subst (IsCopied (suc count) marks places old) (sym (skipped none)) (copied_skipped are within none)

-- a line stands after those before it
pub stands_after : (lines before after : List Line) (line : Line) (n : ℕ) → before ++ line ∷ after ≡ lines → n ≡ length before → slice_get lines n ≡ Some line
stands_after lines before after line n whole many =
    let at : n ≡ length before + 0 = omega (arith, many) in
    subst (λ (ls : List Line). slice_get ls n ≡ Some line) whole
    (subst (λ (k : ℕ). slice_get (before ++ line ∷ after) k ≡ Some line) (sym at) (slice_get-append_right before (line ∷ after) 0 line refl))

-- all lines are put back
module _ (kept : ℕ) (marks : List Bool) (places : List ℕ) (old new : List Line) (are : AreMarks kept old marks) (copied : IsCopied (length old) marks places old new) where
  pub trimmed_all : IsTrimmed kept old new
  trimmed_all = record {
    numbers = copied.numbers;
    place = place_in places;
    rising = copied.rising;
    cited = λ n. (
      λ h. (are.exact n).0 ((copied.marked n).0 h).0,
      λ cited.
          let h = (are.exact n).1 cited in
          let within = slice_get_within marks n true h in
          let long = are.long in
          (copied.marked n).1 (h, omega (arith, within, long)),
    );
    are_renumbered = copied.are_renumbered;
  }

  -- where the old lines pass, the new ones do
  pub passes_all : (d : Declarations) (terms : Terms) (asserts others : List TermId) → AreAccepted d terms others new → Passes d terms asserts old → Passes d terms others new
  passes_all d terms asserts others accepted h =
      let pushed : length old ≡ length h.before + 1 = ap length h.ends ∙ length_push h.before h.last in
      let long : length old ≡ suc (length h.before) = omega (arith, pushed) in
      let last : slice_get old (length h.before) ≡ Some h.last = subst (λ (ls : List Line). slice_get ls (length h.before) ≡ Some h.last) (sym h.ends) (slice_get-last h.before h.last) in
      let marked : IsMarked marks (length old) = (are.exact (length old)).1 (first_cited kept old (length old) (omega (arith, long), omega arith, inr refl)) in
      let end = copied.ends h.last marked (length h.before, omega (arith, long), last) in
      record { accepted = accepted; before = end.0; last = end.1; ends = end.2; empty = end.3 ∙ h.empty }

-- what a cited line names is marked
pub closed_marks : (kept : ℕ) (lines : List Line) (marks : List Bool) → AreMarks kept lines marks → AreClosedMarks marks lines
closed_marks kept lines marks are n line h is =
    All-of (hints_of line.step) (λ k inside. (are.exact k).1 (λ has holds. All-contains (λ (m : ℕ). has m ≡ true) (hints_of line.step) k (holds.named n line ((are.exact n).0 h has holds) is) inside))
  where
    All-of : (ks : List ℕ) → ((k : ℕ) → Contains ks k → IsMarked marks k) → All (IsMarked marks) ks
    All-of ks each = λ k default within. each (get_or ks k default) (Contains-get_or ks k default within)
