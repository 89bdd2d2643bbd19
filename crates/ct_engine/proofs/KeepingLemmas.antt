-- A search that began with the clauses of a store.
use Rattle.std.proofs.Common.{◌≡◌, ◌↔◌, ℕ, zero, suc, ◌+◌, ◌-◌, ◌<◌, ◌≤◌, ◌⊎◌, true, List, [], ◌∷◌, ◌++◌, length, take, drop, All, Contains, Some, slice_get, refl, sym, ap, subst, ◌∙◌, inl, inr, arith, length-append, append_assoc}
use Rattle.std.specs.List.{AllByRecursion}
use Rattle.std.proofs.lemmas.List.{append-nil}
use Rattle.std.proofs.lemmas.List.Elements.{All-from_recursion}
use Rattle.ct_lemmas.proofs.Each.{All-at}
use Rattle.ct_lemmas.proofs.Lists.{slice_get-append_right}
use Rattle.ct_sorts.specs.Declarations.{Declarations}
use Rattle.ct_sorts.specs.Grown.{Begins}
use Rattle.ct_terms.specs.declared.ids.TermId.{TermId}
use Rattle.ct_terms.specs.Terms.{Terms}
use Rattle.ct_terms.specs.Clause.{Clause}
use Rattle.ct_terms.specs.CoreTree.{CoreTree}
use Rattle.ct_closure.specs.Closed.{InClosure}
use Rattle.ct_closure.specs.ClosedTable.{HasTree, terms_at}
use Rattle.ct_log.specs.declared.line.Line.{Line}
use Rattle.ct_log.specs.Acceptance.{IsAccepted}
use Rattle.ct_log.specs.Recorded.{Derived}
use Rattle.ct_clauses.specs.Initial.{AreInitialLines}
use Rattle.ct_kept.specs.declared.lemma.Lemma.{Lemma}
use Rattle.ct_kept.specs.Lemmas.{theory_lemmas}
use Rattle.ct_kept.specs.Kept.{Stored, AreChosen, IsLineOf, IsUsable, AreMovedLines, Takes}
use Rattle.ct_engine.specs.declared.verdict.Move.{Move}
use Rattle.ct_engine.specs.declared.verdict.Move.TheVariants as move
use Rattle.ct_engine.specs.declared.course.Course.{Course}
use Rattle.ct_engine.specs.Moves.{IsTaught}
use Rattle.ct_engine.specs.Progress.{IsOfOneTask, IsOfOneClosure, IsAtStart}
use Rattle.ct_engine.specs.Keeping.{IsBegunWith, IsBegunAt, IsCourseWith, AddsFirst, HasFirst, AddsKept, TakesOthers, adds_after}
use Rattle.ct_engine.proofs.ListLemmas.{Begins-then}

-- what began with a store began so over the same assertions and terms, with more lines
pub begun_with_more : (d : Declarations) (store : Stored) (old new : Derived) → new.declarations ≡ old.declarations → new.rec.terms ≡ old.rec.terms → new.asserts ≡ old.asserts
    → (begun : IsBegunWith d store old) → (rest : List Line) → new.rec.lines ≡ begun.initial ++ (begun.moved ++ rest) → IsBegunWith d store new
begun_with_more d store old new same_declarations same_terms same_asserts begun rest lines = record {
  initial = begun.initial;
  moved = begun.moved;
  others = rest;
  declarations = same_declarations ∙ begun.declarations;
  closure = λ t.
      subst (λ (ids : List TermId). HasTree new.rec.terms t ↔ InClosure d (terms_at new.rec.terms ids) t) (sym same_asserts)
      (subst (λ (ts : Terms). HasTree ts t ↔ InClosure d (terms_at ts old.asserts) t) (sym same_terms) (begun.closure t));
  are_initial =
      subst (λ (ids : List TermId). AreInitialLines d new.rec.terms ids begun.initial) (sym same_asserts)
      (subst (λ (ts : Terms). AreInitialLines d ts old.asserts begun.initial) (sym same_terms) begun.are_initial);
  are_moved = subst (λ (ts : Terms). AreMovedLines d store ts begun.moved) (sym same_terms) begun.are_moved;
  lines = lines;
}

-- a search goes on from where it began
pub course_goes_on : (d : Declarations) (store : Stored) (old new : Course) → IsOfOneClosure old new → IsCourseWith d store old → IsCourseWith d store new
unfolding begun_with_more
course_goes_on d store old new same with_kept =
    let begun = with_kept.begun in
    let more = same.lines.0 in
    let lines : new.derivation.rec.lines ≡ begun.initial ++ (begun.moved ++ (begun.others ++ more)) =
    same.lines.1
    ∙ (ap (λ (ls : List Line). ls ++ more) begun.lines
    ∙ (append_assoc begun.initial (begun.moved ++ begun.others) more ∙ ap (λ (ls : List Line). begun.initial ++ ls) (append_assoc begun.moved begun.others more))) in
    record {
      begun = begun_with_more d store old.derivation new.derivation same.declarations same.terms same.asserts begun (begun.others ++ more) lines;
      initial = with_kept.initial ∙ sym same.initial;
      kept = with_kept.kept ∙ sym same.kept;
    }

-- a search to which the lines of the store were added, at its start
pub course_begun : (d : Declarations) (store : Stored) (old new : Course) (moved : List Line) → IsAtStart d old → AreMovedLines d store old.derivation.rec.terms moved
    → new.derivation.declarations ≡ d → new.derivation.rec.terms ≡ old.derivation.rec.terms → new.derivation.asserts ≡ old.derivation.asserts → new.derivation.rec.lines ≡ old.derivation.rec.lines ++ moved
    → new.initial ≡ old.initial → new.kept ≡ length moved → IsCourseWith d store new
course_begun d store old new moved start are_moved declarations same_terms same_asserts lines initial kept = record {
  begun = record {
    initial = old.derivation.rec.lines;
    moved = moved;
    others = [];
    declarations = declarations;
    closure = λ t.
        subst (λ (ids : List TermId). HasTree new.derivation.rec.terms t ↔ InClosure d (terms_at new.derivation.rec.terms ids) t) (sym same_asserts)
        (subst (λ (ts : Terms). HasTree ts t ↔ InClosure d (terms_at ts old.derivation.asserts) t) (sym same_terms) (start.closure t));
    are_initial =
        subst (λ (ids : List TermId). AreInitialLines d new.derivation.rec.terms ids old.derivation.rec.lines) (sym same_asserts)
        (subst (λ (ts : Terms). AreInitialLines d ts old.derivation.asserts old.derivation.rec.lines) (sym same_terms) start.lines);
    are_moved = subst (λ (ts : Terms). AreMovedLines d store ts moved) (sym same_terms) are_moved;
    lines = lines ∙ ap (λ (ls : List Line). old.derivation.rec.lines ++ ls) (sym (append-nil moved));
  };
  initial = sym start.initial ∙ sym initial;
  kept = sym kept;
}

-- the store's lines are there in a search of the same check
pub HasFirst-then : (old new : Course) → IsOfOneClosure old new → HasFirst old → HasFirst new
HasFirst-then old new same stand =
    let long : length new.derivation.rec.lines ≡ length old.derivation.rec.lines + length same.lines.0 =
    ap (λ (ls : List Line). length ls) same.lines.1 ∙ length-append old.derivation.rec.lines same.lines.0 in
    let initial = same.initial in
    let kept = same.kept in
    omega (arith, long, initial, kept, stand)

-- and so many
pub same_first : (old new : Course) → IsOfOneClosure old new → new.initial + new.kept ≡ old.initial + old.kept
same_first old new same = ap (λ (n : ℕ). n + new.kept) same.initial ∙ ap (λ (n : ℕ). old.initial + n) same.kept

-- the moves of a recorded search go on
pub AddsFirst-then : (old new : Course) → IsOfOneTask old new → old.recorded ≡ true → AddsFirst old → AddsFirst new
AddsFirst-then old new same recorded adds =
    subst (λ (n : ℕ). Begins (adds_after n new.kept) new.moves.items) (sym same.initial)
    (subst (λ (n : ℕ). Begins (adds_after old.initial n) new.moves.items) (sym same.kept)
    (Begins-then (adds_after old.initial old.kept) old.moves.items new.moves.items adds (same.moves recorded)))

-- the additions of one line more
adds_next_line : (before count : ℕ) → adds_after before (suc count) ≡ adds_after before count ++ move.Add (before + count + 1) ∷ []
adds_next_line before zero =
    let same : before + 1 ≡ before + 0 + 1 = omega arith in
    ap (λ (n : ℕ). move.Add n ∷ []) same
adds_next_line before (suc count) =
    let same : before + 1 + count + 1 ≡ before + suc count + 1 = omega arith in
    ap (λ (ms : List Move). move.Add (before + 1) ∷ ms) (adds_next_line (before + 1) count ∙ ap (λ (n : ℕ). adds_after (before + 1) count ++ move.Add n ∷ []) same)

pub adds_more : (before count : ℕ) → adds_after before (count + 1) ≡ adds_after before count ++ move.Add (before + count + 1) ∷ []
adds_more before count =
    let next : suc count ≡ count + 1 = omega arith in
    subst (λ (n : ℕ). adds_after before n ≡ adds_after before count ++ move.Add (before + count + 1) ∷ []) next (adds_next_line before count)

-- the additions are the moves, where there are so many
pub adds_whole : (course : Course) (before count : ℕ) → before ≡ course.initial → count ≡ course.kept → course.moves.items ≡ adds_after before count → AddsFirst course
adds_whole course before count same_before same_count moves =
    ([], moves ∙ (ap (λ (n : ℕ). adds_after n count) same_before ∙ (ap (λ (n : ℕ). adds_after course.initial n) same_count ∙ sym (append-nil (adds_after course.initial course.kept)))))

-- the lines of a store are taught, and accepted whatever stands before them
module _ (d : Declarations) (from to : Terms) where
  abbrev IsFit : Line → Type 0
  IsFit line = IsTaught line.step × ((asserts : List TermId) (earlier : List Clause) → IsAccepted d to asserts earlier line)

  lines_fit : (lemmas : List Lemma) (lines : List Line) → AreChosen (IsUsable d from to) (IsLineOf d from to) lemmas lines → AllByRecursion IsFit lines
  lines_fit [] lines chosen = subst (AllByRecursion IsFit) (sym chosen) tt
  lines_fit (lemma ∷ lemmas) lines chosen = elim chosen [
    | inl chosen_one ↦
        let rest = chosen_one.1 in
        let accepted = rest.2.2 in
        subst (AllByRecursion IsFit) (sym rest.3)
        (subst IsFit (sym rest.2.3) (tt, λ asserts earlier. record { literals = accepted.literals; justified = accepted.refuted }), lines_fit lemmas rest.1 rest.4)
    | inr left_out ↦ lines_fit lemmas lines left_out.1
  ]

  each_taught : (lines : List Line) → AllByRecursion IsFit lines → AllByRecursion (λ line. IsTaught line.step) lines
  each_taught [] all = tt
  each_taught (line ∷ lines) all = (all.0.0, each_taught lines all.1)

  each_accepted : (asserts : List TermId) (lines : List Line) → AllByRecursion IsFit lines → AllByRecursion (λ line. (earlier : List Clause) → IsAccepted d to asserts earlier line) lines
  each_accepted asserts [] all = tt
  each_accepted asserts (line ∷ lines) all = (all.0.1 asserts, each_accepted asserts lines all.1)

  pub moved_taught : (lemmas : List Lemma) (lines : List Line) → AreChosen (IsUsable d from to) (IsLineOf d from to) lemmas lines → All (λ line. IsTaught line.step) lines
  moved_taught lemmas lines chosen = All-from_recursion (λ (line : Line). IsTaught line.step) lines (each_taught lines (lines_fit lemmas lines chosen))

  pub moved_accepted : (asserts : List TermId) (lemmas : List Lemma) (lines : List Line) → AreChosen (IsUsable d from to) (IsLineOf d from to) lemmas lines
      → All (λ line. (earlier : List Clause) → IsAccepted d to asserts earlier line) lines
  moved_accepted asserts lemmas lines chosen =
      All-from_recursion (λ (line : Line). (earlier : List Clause) → IsAccepted d to asserts earlier line) lines (each_accepted asserts lines (lines_fit lemmas lines chosen))

-- what holds of each line of a list holds of one in the middle
pub each_middle : {X : Type 0} (P : X → Type 0) (xs : List X) (y : X) (zs whole : List X) → xs ++ y ∷ zs ≡ whole → All P whole → P y
each_middle P xs y zs whole is all = All-at P (xs ++ y ∷ zs) (length xs + 0) y (subst (All P) (sym is) all) (slice_get-append_right xs (y ∷ zs) 0 y refl)

-- a line is accepted over the same declarations, terms and assertions
pub accepted_same : (old new : Course) (line : Line) → IsOfOneTask old new
    → ((earlier : List Clause) → IsAccepted old.derivation.declarations old.derivation.rec.terms old.derivation.asserts earlier line)
    → (earlier : List Clause) → IsAccepted new.derivation.declarations new.derivation.rec.terms new.derivation.asserts earlier line
accepted_same old new line same accepted earlier =
    subst (λ (ids : List TermId). IsAccepted new.derivation.declarations new.derivation.rec.terms ids earlier line) (sym same.asserts)
    (subst (λ (ts : Terms). IsAccepted new.derivation.declarations ts old.derivation.asserts earlier line) (sym same.terms)
    (subst (λ (e : Declarations). IsAccepted e old.derivation.rec.terms old.derivation.asserts earlier line) (sym same.declarations) (accepted earlier)))

-- the moves with the addition of one line more
pub adds_next : (given moves after : List Move) (n k m : ℕ) → moves ≡ given ++ adds_after n k → after ≡ moves ++ move.Add (m + 1) ∷ [] → m ≡ n + k → after ≡ given ++ adds_after n (k + 1)
adds_next given moves after n k m was is same =
    is
    ∙ (ap (λ (ms : List Move). ms ++ move.Add (m + 1) ∷ []) was
    ∙ (append_assoc given (adds_after n k) (move.Add (m + 1) ∷ [])
    ∙ ap (λ (ms : List Move). given ++ ms) (ap (λ (i : ℕ). adds_after n k ++ move.Add (i + 1) ∷ []) same ∙ sym (adds_more n k))))

-- ---- what is found

-- the record of a search that began with a store
pub spent_with : (d : Declarations) (store : Stored) (course : Course) (derived : Derived) (moves : List Move) → derived ≡ course.derivation → moves ≡ course.moves.items → IsCourseWith d store course → AddsFirst course
    → (begun : IsBegunWith d store derived) × (length begun.initial + length begun.moved ≡ course.initial + course.kept) × AddsKept d store derived begun moves
spent_with d store course derived moves same same_moves with_store adds =
    let initial = with_store.initial in
    let kept = with_store.kept in
    let begun = with_store.begun in
    subst (λ (x : Derived). (b : IsBegunWith d store x) × (length b.initial + length b.moved ≡ course.initial + course.kept) × AddsKept d store x b moves) (sym same) (
      begun,
      omega (arith, initial, kept),
      subst (λ (ms : List Move). Begins (adds_after (length begun.initial) (length begun.moved)) ms) (sym same_moves)
          (subst (λ (n : ℕ). Begins (adds_after n (length begun.moved)) course.moves.items) (sym initial)
          (subst (λ (n : ℕ). Begins (adds_after course.initial n) course.moves.items) (sym kept) adds)),
    )

-- what is left after the first part of a list
drop_length : {X : Type 0} (xs ys : List X) → drop (length xs) (xs ++ ys) ≡ ys
drop_length [] ys = refl
drop_length (x ∷ xs) ys = drop_length xs ys

drop_first : {X : Type 0} (xs ys : List X) (n : ℕ) → length xs ≡ n → drop n (xs ++ ys) ≡ ys
drop_first xs ys n is = subst (λ (i : ℕ). drop i (xs ++ ys) ≡ ys) is (drop_length xs ys)

-- the lines after those of the store, and that there are these
pub others_after : (d : Declarations) (store : Stored) (derived : Derived) (n : ℕ) → (at : IsBegunAt d store derived n) → drop n derived.rec.lines ≡ at.0.others
others_after d store derived n at =
    let begun = at.0 in
    ap (drop n) (begun.lines ∙ sym (append_assoc begun.initial begun.moved begun.others))
    ∙ drop_first (begun.initial ++ begun.moved) begun.others n (length-append begun.initial begun.moved ∙ at.1)

pub first_within : (d : Declarations) (store : Stored) (derived : Derived) (n : ℕ) → IsBegunAt d store derived n → n ≤ length derived.rec.lines
first_within d store derived n at =
    let begun = at.0 in
    let count = at.1 in
    let whole : length derived.rec.lines ≡ length begun.initial + length (begun.moved ++ begun.others) = ap (λ (ls : List Line). length ls) begun.lines ∙ length-append begun.initial (begun.moved ++ begun.others) in
    let part : length (begun.moved ++ begun.others) ≡ length begun.moved + length begun.others = length-append begun.moved begun.others in
    omega (arith, count, whole, part)

-- the store has taken what the theory gave after them
pub takes_others : (d : Declarations) (old new : Stored) (derived : Derived) (n : ℕ) → (at : IsBegunAt d old derived n) → Takes old derived.rec.terms (theory_lemmas (drop n derived.rec.lines)) new → TakesOthers d old derived at.0 new
takes_others d old new derived n at takes =
    subst (λ (ls : List Line). Takes old derived.rec.terms (theory_lemmas ls) new) (others_after d old derived n at) takes
