-- What is marked stays marked where more is added at the ends, and stands again where all that came later is cut away.
use Rattle.std.proofs.Common.{◌≡◌, ℕ, suc, ◌+◌, Bool, List, [], ◌∷◌, ◌++◌, take, map, reverse, length, slice_get, Some, refl, sym, ap, subst, ◌∙◌, inl, inr, arith}
use Rattle.std.proofs.lemmas.List.{append-nil, take-append-le, reverse-append, length-append, length-reverse, map-append}
use Rattle.std.proofs.lemmas.Option.{slice_get_within, get_or_from_slice_get}
use Rattle.ct_lemmas.proofs.Lists.{slice_get-append_left, slice_get-last, slice_get-push_cases}
use Rattle.ct_lemmas.proofs.Prefixes.{take-whole}
use Rattle.ct_sorts.specs.Declarations.{Declarations}
use Rattle.ct_terms.specs.declared.ids.Lit.{Lit}
use Rattle.ct_terms.specs.Terms.{Terms}
use Rattle.ct_rules.specs.declared.equation.Equation.{Equation}
use Rattle.ct_equivalence.specs.Grouping.{Grouping, Groupings}
use Rattle.ct_congr.specs.declared.merge.Merge.{Merge}
use Rattle.ct_congr.specs.declared.level.Level.{Level}
use Rattle.ct_congr.specs.State.{Marked}
use Rattle.ct_congr.specs.Held.{AreHeld}
use Rattle.ct_congr.specs.Joined.{AreJoined}
use Rattle.ct_congr.specs.Covered.{Keys, AreKeys, IsCovered}
use Rattle.ct_congr.specs.History.{IsExtended}
use Rattle.ct_congr.specs.Marks.{history, grouping_at, marked_at, marks_of, AreQuiet, IsMarked, IsWithin, AreMarked}
use Rattle.ct_congr.proofs.AddingLemmas.{IsExtended-same}

-- ---- groupings

-- more groupings in front are more at the end of the history
pub history-front : (old new : Groupings) (front : List Grouping) → (new.now ∷ new.past) ≡ front ++ (old.now ∷ old.past) → history new ≡ history old ++ reverse front
history-front old new front are = ap reverse are ∙ reverse-append front (old.now ∷ old.past)

-- the groupings of fewer merges stay where they were
pub history-extended : (old new : Groupings) (merges later : List Merge) → IsExtended old new merges later → (rest : List Grouping) × (history new ≡ history old ++ rest)
history-extended old new merges later more = (reverse more.groupings, history-front old new more.groupings more.groupings_are)

-- there is one more than there are unions
pub history-length : (parts : Groupings) → length (history parts) ≡ length parts.past + 1
history-length parts = omega (arith, length-reverse (parts.now ∷ parts.past))

-- the last one is how it is now
pub history-last : (parts : Groupings) → slice_get (history parts) (length parts.past) ≡ Some parts.now
history-last parts =
    let is : history parts ≡ reverse parts.past ++ parts.now ∷ [] = reverse-append (parts.now ∷ []) parts.past in
    subst (λ (list : List Grouping). slice_get list (length parts.past) ≡ Some parts.now) (sym is)
    (subst (λ (n : ℕ). slice_get (reverse parts.past ++ parts.now ∷ []) n ≡ Some parts.now) (length-reverse parts.past) (slice_get-last (reverse parts.past) parts.now))

-- before each merge there is a grouping, also where more merges come
pub long-extended : (old new : Groupings) (merges later : List Merge) → IsExtended old new merges later → length old.past ≡ length merges → length new.past ≡ length later
long-extended old new merges later more long =
    omega (arith, ap length more.groupings_are, length-append more.groupings (old.now ∷ old.past), ap length more.merges_are, length-append merges more.more, more.long, long)

-- ---- more at the ends

pub IsMarked-more : (d : Declarations) (terms : Terms) (single : List Bool) (hyps hyps_more : List Lit) (given given_more : List Equation) (merges merges_more : List Merge) (keys keys_more : Keys) (groupings groupings_more : List Grouping) (level : Level) → IsMarked d terms single hyps given merges keys groupings level → IsMarked d terms single (hyps ++ hyps_more) (given ++ given_more) (merges ++ merges_more) (keys ++ keys_more) (groupings ++ groupings_more) level
IsMarked-more d terms single hyps hyps_more given given_more merges merges_more keys keys_more groupings groupings_more level mark =
    let first_hyps = take-append-le level.hypotheses hyps hyps_more mark.few_hypotheses in
    let first_given = take-append-le level.given given given_more mark.few_given in
    let first_merges = take-append-le level.merges merges merges_more mark.few_merges in
    let first_keys = take-append-le level.keys keys keys_more mark.few_keys in
    let g = mark.grouping in
    record {
      few_merges = omega (arith, mark.few_merges, length-append merges merges_more);
      few_hypotheses = omega (arith, mark.few_hypotheses, length-append hyps hyps_more);
      few_given = omega (arith, mark.few_given, length-append given given_more);
      few_keys = omega (arith, mark.few_keys, length-append keys keys_more);
      grouping = g;
      stands = slice_get-append_left groupings groupings_more level.merges g mark.stands;
      held = rw (first_hyps, first_given, first_merges) mark.held;
      keyed = rw first_keys mark.keyed;
      covered = rw first_keys mark.covered;
      quiet = mark.quiet;
    }

-- what stood at two levels is one, where the first parts are the same
pub marked-same : (hyps hyps_new : List Lit) (given given_new : List Equation) (merges merges_new : List Merge) (old new : Groupings) (level : Level) → take level.hypotheses hyps_new ≡ take level.hypotheses hyps → take level.given given_new ≡ take level.given given → take level.merges merges_new ≡ take level.merges merges → grouping_at new level.merges ≡ grouping_at old level.merges → marked_at hyps_new given_new merges_new new level ≡ marked_at hyps given merges old level
unfolding marked_at
marked-same hyps hyps_new given given_new merges merges_new old new level h g m at = λ i. record { hypotheses = h i; given = g i; merges = m i; reps = (at i).reps; cons = (at i).cons }

-- the same for each level of a list
pub marks-same : (hyps hyps_new : List Lit) (given given_new : List Equation) (merges merges_new : List Merge) (old new : Groupings) (levels : List Level) → ((k : ℕ) (level : Level) → slice_get levels k ≡ Some level → marked_at hyps_new given_new merges_new new level ≡ marked_at hyps given merges old level) → marks_of hyps_new given_new merges_new new levels ≡ marks_of hyps given merges old levels
unfolding marks_of
marks-same hyps hyps_new given given_new merges merges_new old new [] each = refl
marks-same hyps hyps_new given given_new merges merges_new old new (level ∷ levels) each =
    let first = each 0 level refl in
    let rest = marks-same hyps hyps_new given given_new merges merges_new old new levels (λ k other at. each (suc k) other at) in
    λ i. first i ∷ rest i

-- the grouping at a level
pub grouping-of : (parts : Groupings) (n : ℕ) (g : Grouping) → slice_get (history parts) n ≡ Some g → grouping_at parts n ≡ g
grouping-of parts n g at = get_or_from_slice_get (history parts) n g parts.now at

module _ (d : Declarations) (terms : Terms) (single : List Bool) (hyps hyps_new : List Lit) (given given_new : List Equation) (merges merges_new : List Merge) (keys keys_new : Keys) (old new : Groupings) (levels : List Level) (more_hyps : (more : List Lit) × (hyps_new ≡ hyps ++ more)) (more_given : (more : List Equation) × (given_new ≡ given ++ more)) (extended : IsExtended old new merges merges_new) (more_keys : (more : Keys) × (keys_new ≡ keys ++ more)) (marked : AreMarked d terms single hyps given merges keys old levels) where
  -- each level stays marked where hypotheses, given equations, merges and signatures are added at the ends
  pub AreMarked-more : AreMarked d terms single hyps_new given_new merges_new keys_new new levels
  AreMarked-more = record {
    long = long-extended old new merges merges_new extended marked.long;
    rising = marked.rising;
    each = λ k level at.
        let later = history-extended old new merges merges_new extended in
        rw (more_hyps.1, more_given.1, extended.merges_are, more_keys.1, later.1)
        (IsMarked-more d terms single hyps more_hyps.0 given more_given.0 merges extended.more keys more_keys.0 (history old) later.0 level (marked.each k level at));
  }

  -- and what stood at each is the same
  pub marks_of-more : marks_of hyps_new given_new merges_new new levels ≡ marks_of hyps given merges old levels
  marks_of-more = marks-same hyps hyps_new given given_new merges merges_new old new levels (λ k level at.
      let mark = marked.each k level at in
      let later = history-extended old new merges merges_new extended in
      let g = mark.grouping in
      let there : slice_get (history new) level.merges ≡ Some g = rw later.1 (slice_get-append_left (history old) later.0 level.merges g mark.stands) in
      marked-same hyps hyps_new given given_new merges merges_new old new level
      (ap (take level.hypotheses) more_hyps.1 ∙ take-append-le level.hypotheses hyps more_hyps.0 mark.few_hypotheses)
      (ap (take level.given) more_given.1 ∙ take-append-le level.given given more_given.0 mark.few_given)
      (ap (take level.merges) extended.merges_are ∙ take-append-le level.merges merges extended.more mark.few_merges)
      (grouping-of new level.merges g there ∙ sym (grouping-of old level.merges g mark.stands)))

-- ---- one more mark

module _ (hyps : List Lit) (given : List Equation) (merges : List Merge) (level : Level) (all_merges : level.merges ≡ length merges) (all_hyps : level.hypotheses ≡ length hyps) (all_given : level.given ≡ length given) where
  whole_hyps : take level.hypotheses hyps ≡ hyps
  whole_hyps = ap (λ n. take n hyps) all_hyps ∙ take-whole hyps

  whole_given : take level.given given ≡ given
  whole_given = ap (λ n. take n given) all_given ∙ take-whole given

  whole_merges : take level.merges merges ≡ merges
  whole_merges = ap (λ n. take n merges) all_merges ∙ take-whole merges

  module _ (parts : Groupings) (long : length parts.past ≡ length merges) where
    stands_now : slice_get (history parts) level.merges ≡ Some parts.now
    stands_now = subst (λ n. slice_get (history parts) n ≡ Some parts.now) (long ∙ sym all_merges) (history-last parts)

    marked-now : marked_at hyps given merges parts level ≡ record { hypotheses = hyps; given = given; merges = merges; reps = parts.now.reps; cons = parts.now.cons }
    unfolding marked_at
    marked-now =
        let at = grouping-of parts level.merges parts.now stands_now in
        λ i. record { hypotheses = whole_hyps i; given = whole_given i; merges = whole_merges i; reps = (at i).reps; cons = (at i).cons }

    -- what stands now is marked last
    pub marks_of-push : (levels : List Level) → marks_of hyps given merges parts (levels ++ level ∷ []) ≡ marks_of hyps given merges parts levels ++ (record { hypotheses = hyps; given = given; merges = merges; reps = parts.now.reps; cons = parts.now.cons }) ∷ []
    unfolding marks_of
    marks_of-push levels = map-append (marked_at hyps given merges parts) levels (level ∷ []) ∙ ap (λ (last : Marked). map (marked_at hyps given merges parts) levels ++ last ∷ []) marked-now

    module _ (d : Declarations) (terms : Terms) (single : List Bool) (keys : Keys) (all_keys : level.keys ≡ length keys) where
      IsMarked-now : AreHeld d terms single hyps given parts.now.reps parts.now.cons merges → AreKeys parts.now.reps keys → IsCovered d terms parts.now.reps parts.now.cons keys (AreJoined parts.now.reps []) → AreQuiet d terms parts.now.reps → IsMarked d terms single hyps given merges keys (history parts) level
      IsMarked-now held keyed covered quiet =
          let whole_keys : take level.keys keys ≡ keys = ap (λ n. take n keys) all_keys ∙ take-whole keys in
          record {
            few_merges = omega (arith, all_merges);
            few_hypotheses = omega (arith, all_hyps);
            few_given = omega (arith, all_given);
            few_keys = omega (arith, all_keys);
            grouping = parts.now;
            stands = stands_now;
            held = rw (whole_hyps, whole_given, whole_merges) held;
            keyed = rw whole_keys keyed;
            covered = rw whole_keys covered;
            quiet = quiet;
          }

      -- the levels with the one of what stands now
      pub AreMarked-push : (levels : List Level) → AreHeld d terms single hyps given parts.now.reps parts.now.cons merges → AreKeys parts.now.reps keys → IsCovered d terms parts.now.reps parts.now.cons keys (AreJoined parts.now.reps []) → AreQuiet d terms parts.now.reps → AreMarked d terms single hyps given merges keys parts levels → AreMarked d terms single hyps given merges keys parts (levels ++ level ∷ [])
      AreMarked-push levels held keyed covered quiet marked = record {
        long = long;
        rising = λ j k earlier later at_earlier at_later le. elim (slice_get-push_cases levels level earlier j at_earlier) [
          | inl before ↦ elim (slice_get-push_cases levels level later k at_later) [
            | inl after ↦ marked.rising j k earlier later before after le
            | inr last ↦
                let mark = marked.each j earlier before in
                subst (IsWithin earlier) last.1 (record {
                  merges = omega (arith, mark.few_merges, all_merges);
                  hypotheses = omega (arith, mark.few_hypotheses, all_hyps);
                  given = omega (arith, mark.few_given, all_given);
                  keys = omega (arith, mark.few_keys, all_keys);
                })
          ]
          | inr first ↦ elim (slice_get-push_cases levels level later k at_later) [
            | inl after ↦ absurd (omega (arith, slice_get_within levels k later after, first.0, le))
            | inr last ↦
                subst (λ (l : Level). IsWithin l later) first.1 (subst (IsWithin level) last.1 (record { merges = omega arith; hypotheses = omega arith; given = omega arith; keys = omega arith }))
          ]
        ];
        each = λ k other at. elim (slice_get-push_cases levels level other k at) [
          | inl before ↦ marked.each k other before
          | inr last ↦ subst (IsMarked d terms single hyps given merges keys (history parts)) last.1 (IsMarked-now held keyed covered quiet)
        ];
      }

-- ---- more signatures alone

pub AreMarked-keys : (d : Declarations) (terms : Terms) (single : List Bool) (hyps : List Lit) (given : List Equation) (merges : List Merge) (keys keys_new : Keys) (parts : Groupings) (levels : List Level) → (more : Keys) × (keys_new ≡ keys ++ more) → AreMarked d terms single hyps given merges keys parts levels → AreMarked d terms single hyps given merges keys_new parts levels
AreMarked-keys d terms single hyps given merges keys keys_new parts levels more marked =
    AreMarked-more d terms single hyps hyps given given merges merges keys keys_new parts parts levels ([], sym (append-nil hyps)) ([], sym (append-nil given)) (IsExtended-same parts merges) more marked
