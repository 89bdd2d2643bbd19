-- Going back to a mark: what stood there stands again, and the marks up to it stay.
use Rattle.std.proofs.Common.{◌≡◌, ℕ, ◌+◌, ◌≤◌, Bool, List, [], ◌++◌, take, map, reverse, length, slice_get, Some, sym, ap, subst, ◌∙◌, arith}
use Rattle.std.specs.List.{AllZip}
use Rattle.std.proofs.lemmas.List.{take-take, take-map, length-take-le, length-map}
use Rattle.std.proofs.lemmas.Option.{same_Some}
use Rattle.ct_lemmas.proofs.Lists.{slice_get-append_left, slice_get-map_at, slice_get-map_source, slice_get-there}
use Rattle.ct_lemmas.proofs.Prefixes.{slice_get-take, slice_get-take_below}
use Rattle.ct_lemmas.proofs.Pairs.{AllZip-from}
use Rattle.ct_sorts.specs.Declarations.{Declarations}
use Rattle.ct_terms.specs.declared.ids.Lit.{Lit}
use Rattle.ct_terms.specs.Terms.{Terms}
use Rattle.ct_rules.specs.declared.equation.Equation.{Equation}
use Rattle.ct_equivalence.specs.Grouping.{Grouping, Groupings}
use Rattle.ct_equivalence.specs.Over.{AreGroupingsOf}
use Rattle.ct_congr.specs.declared.merge.Merge.{Merge}
use Rattle.ct_congr.specs.declared.merge.ClassMark.{ClassMark}
use Rattle.ct_congr.specs.declared.level.Level.{Level}
use Rattle.ct_congr.specs.State.{Marked, State, state_at, marked_now, IsFirstMark, IsFirstPart, IsQuiet}
use Rattle.ct_congr.specs.Held.{AreHeld}
use Rattle.ct_congr.specs.Joined.{AreJoined}
use Rattle.ct_congr.specs.Covered.{Keys, AreKeys, IsCovered}
use Rattle.ct_congr.specs.Kept.{IsKept}
use Rattle.ct_congr.specs.Marks.{mark_of, history, marked_at, marks_of, AreQuiet, IsMarked, IsWithin, AreMarked, IsFirstLevel, IsBack}
use Rattle.ct_congr.proofs.CompleteLemmas.{Theorems}
use Rattle.ct_congr.proofs.KeptLemmas.{IsKept-fast, no_waiting}
use Rattle.ct_congr.proofs.MarkLemmas.{history-front, history-length, history-last, marked-same, marks-same, grouping-of}
use Rattle.ct_congr.proofs.QuietLemmas.{IsQuiet-of}

-- what stood at a level, by its grouping
marked-is : (hyps : List Lit) (given : List Equation) (merges : List Merge) (parts : Groupings) (level : Level) (g : Grouping) → slice_get (history parts) level.merges ≡ Some g → marked_at hyps given merges parts level ≡ record { hypotheses = take level.hypotheses hyps; given = take level.given given; merges = take level.merges merges; reps = g.reps; cons = g.cons }
unfolding marked_at
marked-is hyps given merges parts level g there =
    let at = grouping-of parts level.merges g there in
    λ i. record { hypotheses = take level.hypotheses hyps; given = take level.given given; merges = take level.merges merges; reps = (at i).reps; cons = (at i).cons }

module _ (d : Declarations) (terms : Terms) (single : List Bool) (hyps : List Lit) (given : List Equation) (merges : List Merge) (keys : Keys) (parts : Groupings) (levels : List Level) (marked : AreMarked d terms single hyps given merges keys parts levels) where
  -- ---- what users see of the levels

  marked-length : (level : Level) → level.merges ≤ length merges → length (marked_at hyps given merges parts level).merges ≡ level.merges
  unfolding marked_at
  marked-length level few = length-take-le level.merges merges few

  -- a mark is what stood at a level
  pub level-of : (k : ℕ) (at : Marked) → slice_get (marks_of hyps given merges parts levels) k ≡ Some at → (level : Level) × (slice_get levels k ≡ Some level) × (marked_at hyps given merges parts level ≡ at) × (length at.merges ≡ level.merges)
  unfolding marks_of
  level-of k at stands =
      let h = slice_get-map_source (marked_at hyps given merges parts) levels k at stands in
      (h.0, h.1, h.2, subst (λ (m : Marked). length m.merges ≡ h.0.merges) h.2 (marked-length h.0 (marked.each k h.0 h.1).few_merges))

  -- a level is one of the marks
  pub mark-of : (k : ℕ) (level : Level) → slice_get levels k ≡ Some level → slice_get (marks_of hyps given merges parts levels) k ≡ Some (marked_at hyps given merges parts level)
  unfolding marks_of
  mark-of k level at = slice_get-map_at (marked_at hyps given merges parts) levels k level at

  pub first-level-of : (count k : ℕ) (at : Marked) → IsFirstMark (marks_of hyps given merges parts levels) count k at → (level : Level) × IsFirstLevel levels count k level × (marked_at hyps given merges parts level ≡ at)
  first-level-of count k at mark =
      let h = level-of k at mark.stands in (
        h.0,
        record {
          stands = h.1;
          long = sym h.3 ∙ mark.long;
          first = λ j other there is. mark.first j (marked_at hyps given merges parts other) (mark-of j other there) (marked-length other (marked.each j other there).few_merges ∙ is);
        },
        h.2,
      )

  -- each mark has its number of merges
  pub marks-numbered : AllZip (λ (mark : ClassMark) (at : Marked). mark.merges ≡ length at.merges) (map mark_of levels) (marks_of hyps given merges parts levels)
  unfolding marks_of
  marks-numbered = AllZip-from (λ (mark : ClassMark) (at : Marked). mark.merges ≡ length at.merges) (map mark_of levels) (marks_of hyps given merges parts levels) (length-map levels mark_of ∙ sym (length-map levels (marked_at hyps given merges parts))) (λ k mark at there_mark there_at.
      let h = level-of k at there_at in
      let source = slice_get-map_source mark_of levels k mark there_mark in
      let same : h.0 ≡ source.0 = same_Some h.0 source.0 (sym h.1 ∙ source.1) in
      ap (λ (m : ClassMark). m.merges) (sym source.2) ∙ ap (λ (l : Level). l.merges) (sym same) ∙ sym h.3)

  -- at each mark the classes were quiet
  pub quiet-at : (k : ℕ) (at : Marked) → slice_get (marks_of hyps given merges parts levels) k ≡ Some at → ((hyps : List Lit) (given : List Equation) → Theorems d terms hyps given) → (now : State) → now.declarations ≡ d → now.terms ≡ terms → (marks : List Marked) → IsQuiet (state_at now at marks)
  quiet-at k at stands theorems now declarations_are terms_are marks =
      let h = level-of k at stands in
      let level = h.0 in
      let mark = marked.each k level h.1 in
      let g = mark.grouping in
      let was : State = record { declarations = d; terms = terms; hypotheses = take level.hypotheses hyps; given = take level.given given; merges = take level.merges merges; reps = g.reps; cons = g.cons; marks = marks } in
      let quiet : IsQuiet was = IsQuiet-of was single (theorems was.hypotheses was.given) mark.held mark.quiet in
      let is : record { hypotheses = was.hypotheses; given = was.given; merges = was.merges; reps = g.reps; cons = g.cons } ≡ at = sym (marked-is hyps given merges parts level g mark.stands) ∙ h.2 in
      rw (declarations_are, terms_are) (subst (λ (m : Marked). IsQuiet (state_at was m marks)) is quiet)

  -- what stood at each mark is the first part of what stands
  pub first-part-at : (k : ℕ) (at : Marked) → slice_get (marks_of hyps given merges parts levels) k ≡ Some at → (now : State) → now.hypotheses ≡ hyps → now.given ≡ given → now.merges ≡ merges → IsFirstPart now at
  unfolding marked_at
  first-part-at k at stands now hyps_are given_are merges_are =
      let h = level-of k at stands in
      let mark = marked.each k h.0 h.1 in
      subst (IsFirstPart now) h.2 (record {
        hypotheses = rw hyps_are (sym (ap (λ n. take n hyps) (length-take-le h.0.hypotheses hyps mark.few_hypotheses)));
        given = rw given_are (sym (ap (λ n. take n given) (length-take-le h.0.given given mark.few_given)));
        merges = rw merges_are (sym (ap (λ n. take n merges) (length-take-le h.0.merges merges mark.few_merges)));
      })

  -- ---- going back

  module _ (hyps_left : List Lit) (given_left : List Equation) (merges_left : List Merge) (keys_left : Keys) (parts_left : Groupings) (levels_left : List Level) (k : ℕ) (level : Level) (back : IsBack hyps hyps_left given given_left merges merges_left keys keys_left parts parts_left levels levels_left k level) where
    -- the level's mark
    level_mark : IsMarked d terms single hyps given merges keys (history parts) level
    level_mark = marked.each k level back.stands

    rest-after : (rest : List Grouping) × (history parts ≡ history parts_left ++ rest)
    rest-after = (reverse back.undone.gone, history-front parts_left parts back.undone.gone back.undone.groupings_are)

    -- what stands in the history that is left stood there before
    left-stood : (n : ℕ) (g : Grouping) → slice_get (history parts_left) n ≡ Some g → slice_get (history parts) n ≡ Some g
    left-stood n g at = subst (λ (list : List Grouping). slice_get list n ≡ Some g) (sym rest-after.1) (slice_get-append_left (history parts_left) rest-after.0 n g at)

    now-stood : slice_get (history parts) level.merges ≡ Some parts_left.now
    now-stood = left-stood level.merges parts_left.now (subst (λ (n : ℕ). slice_get (history parts_left) n ≡ Some parts_left.now) back.undone.long (history-last parts_left))

    -- the classes are those of the level
    now-is : level_mark.grouping ≡ parts_left.now
    now-is = same_Some level_mark.grouping parts_left.now (sym level_mark.stands ∙ now-stood)

    pub AreHeld-back : AreHeld d terms single hyps_left given_left parts_left.now.reps parts_left.now.cons merges_left
    AreHeld-back = rw (back.hypotheses_are, back.given_are, back.merges_are) (subst (λ (g : Grouping). AreHeld d terms single (take level.hypotheses hyps) (take level.given given) g.reps g.cons (take level.merges merges)) now-is level_mark.held)

    -- what is left is the first part of what stood
    pub first-part-back : (was now : State) → was.hypotheses ≡ hyps → was.given ≡ given → was.merges ≡ merges → now.hypotheses ≡ hyps_left → now.given ≡ given_left → now.merges ≡ merges_left → IsFirstPart was (marked_now now)
    first-part-back was now hyps_are given_are merges_are hyps_left_are given_left_are merges_left_are = record {
      hypotheses = rw (hyps_are, hyps_left_are, back.hypotheses_are) (sym (ap (λ n. take n hyps) (length-take-le level.hypotheses hyps level_mark.few_hypotheses)));
      given = rw (given_are, given_left_are, back.given_are) (sym (ap (λ n. take n given) (length-take-le level.given given level_mark.few_given)));
      merges = rw (merges_are, merges_left_are, back.merges_are) (sym (ap (λ n. take n merges) (length-take-le level.merges merges level_mark.few_merges)));
    }

    -- so many merges are left
    pub many-back : length merges_left ≡ level.merges
    many-back = ap length back.merges_are ∙ length-take-le level.merges merges level_mark.few_merges

    pub AreQuiet-back : AreQuiet d terms parts_left.now.reps
    AreQuiet-back = subst (λ (g : Grouping). AreQuiet d terms g.reps) now-is level_mark.quiet

    pub IsKept-back : (waiting : List Merge) (fast : Bool) → waiting ≡ [] → (AreGroupingsOf terms parts → AreGroupingsOf terms parts_left) → AreGroupingsOf terms parts → IsKept d terms parts_left keys_left waiting fast
    IsKept-back waiting fast none of groupings = IsKept-fast d terms parts_left keys_left waiting fast (of groupings)
        (rw back.keys_are (subst (λ (g : Grouping). AreKeys g.reps (take level.keys keys)) now-is level_mark.keyed))
        (λ is. no_waiting d terms parts_left.now.reps waiting none)
        (λ is. rw (none, back.keys_are) (subst (λ (g : Grouping). IsCovered d terms g.reps g.cons (take level.keys keys) (AreJoined g.reps [])) now-is level_mark.covered))

    -- what stood at a level that is no later is still there
    module _ (j : ℕ) (other : Level) (at : slice_get levels j ≡ Some other) (le : j ≤ k) where
      within : IsWithin other level
      within = marked.rising j k other level at back.stands le

      other_mark : IsMarked d terms single hyps given merges keys (history parts) other
      other_mark = marked.each j other at

      first_hyps : take other.hypotheses hyps_left ≡ take other.hypotheses hyps
      first_hyps = ap (take other.hypotheses) back.hypotheses_are ∙ take-take other.hypotheses level.hypotheses hyps within.hypotheses

      first_given : take other.given given_left ≡ take other.given given
      first_given = ap (take other.given) back.given_are ∙ take-take other.given level.given given within.given

      first_merges : take other.merges merges_left ≡ take other.merges merges
      first_merges = ap (take other.merges) back.merges_are ∙ take-take other.merges level.merges merges within.merges

      first_keys : take other.keys keys_left ≡ take other.keys keys
      first_keys = ap (take other.keys) back.keys_are ∙ take-take other.keys level.keys keys within.keys

      still-stands : slice_get (history parts_left) other.merges ≡ Some other_mark.grouping
      still-stands =
          let there = slice_get-there (history parts_left) other.merges (omega (arith, history-length parts_left, back.undone.long, within.merges)) in
          there.1 ∙ sym (left-stood other.merges there.0 there.1) ∙ other_mark.stands

      IsMarked-left : IsMarked d terms single hyps_left given_left merges_left keys_left (history parts_left) other
      IsMarked-left = record {
        few_merges = omega (arith, within.merges, ap length back.merges_are, length-take-le level.merges merges level_mark.few_merges);
        few_hypotheses = omega (arith, within.hypotheses, ap length back.hypotheses_are, length-take-le level.hypotheses hyps level_mark.few_hypotheses);
        few_given = omega (arith, within.given, ap length back.given_are, length-take-le level.given given level_mark.few_given);
        few_keys = omega (arith, within.keys, ap length back.keys_are, length-take-le level.keys keys level_mark.few_keys);
        grouping = other_mark.grouping;
        stands = still-stands;
        held = rw (first_hyps, first_given, first_merges) other_mark.held;
        keyed = rw first_keys other_mark.keyed;
        covered = rw first_keys other_mark.covered;
        quiet = other_mark.quiet;
      }

      marked-left : marked_at hyps_left given_left merges_left parts_left other ≡ marked_at hyps given merges parts other
      marked-left = marked-same hyps hyps_left given given_left merges merges_left parts parts_left other first_hyps first_given first_merges (grouping-of parts_left other.merges other_mark.grouping still-stands ∙ sym (grouping-of parts other.merges other_mark.grouping other_mark.stands))

    first-in : (j : ℕ) (other : Level) → slice_get (take (k + 1) levels) j ≡ Some other → (slice_get levels j ≡ Some other) × (j ≤ k)
    first-in j other at = (slice_get-take (k + 1) levels j other at, omega (arith, slice_get-take_below (k + 1) levels j other at))

    pub AreMarked-back : AreMarked d terms single hyps_left given_left merges_left keys_left parts_left levels_left
    AreMarked-back = record {
      long = omega (arith, back.undone.long, ap length back.merges_are, length-take-le level.merges merges level_mark.few_merges);
      rising = rw back.levels_are (λ i j earlier later at_earlier at_later le. marked.rising i j earlier later (first-in i earlier at_earlier).0 (first-in j later at_later).0 le);
      each = rw back.levels_are (λ j other at.
          let h = first-in j other at in
          IsMarked-left j other h.0 h.1);
    }

    -- the marks up to the one are kept
    pub marks-back : marks_of hyps_left given_left merges_left parts_left levels_left ≡ take (k + 1) (marks_of hyps given merges parts levels)
    unfolding marks_of
    marks-back =
        ap (map (marked_at hyps_left given_left merges_left parts_left)) back.levels_are
        ∙ marks-same hyps hyps_left given given_left merges merges_left parts parts_left (take (k + 1) levels) (λ j other at.
        let h = first-in j other at in
        marked-left j other h.0 h.1)
        ∙ sym (take-map (marked_at hyps given merges parts) (k + 1) levels)

    -- what stands is what stood at the mark
    pub now-back : record { hypotheses = hyps_left; given = given_left; merges = merges_left; reps = parts_left.now.reps; cons = parts_left.now.cons } ≡ marked_at hyps given merges parts level
    unfolding marked_at
    now-back =
        let at = sym (grouping-of parts level.merges parts_left.now now-stood) in
        λ i. record { hypotheses = back.hypotheses_are i; given = back.given_are i; merges = back.merges_are i; reps = (at i).reps; cons = (at i).cons }

    -- and that is the first mark after so many merges
    pub first-back : (count : ℕ) → IsFirstLevel levels count k level → (n : ℕ) (at : Marked) → IsFirstMark (marks_of hyps given merges parts levels) count n at → (n ≡ k) × (at ≡ marked_at hyps given merges parts level)
    first-back count here n at mark =
        let h = first-level-of count n at mark in
        let same : n ≡ k = omega (arith, h.1.first k level here.stands here.long, here.first n h.0 h.1.stands h.1.long) in
        let one : h.0 ≡ level = same_Some h.0 level (sym h.1.stands ∙ ap (slice_get levels) same ∙ here.stands) in
        (same, sym h.2 ∙ ap (marked_at hyps given merges parts) one)
