-- What follows from pairs of one block, and the loop over them.
use Rattle.std.proofs.Common.{◌≡◌, ℕ, ◌+◌, ◌-◌, ◌<◌, ◌≤◌, true, List, [], ◌++◌, length, slice_get, Some, sym, ap, subst, ◌∙◌, inl, inr, arith, length-append}
use Rattle.std.specs.List.{AllZip, Contains}
use Rattle.std.proofs.lemmas.Bool.{cases_order}
use Rattle.std.proofs.lemmas.Option.{none-some, same_Some, slice_get_within}
use Rattle.ct_lemmas.proofs.Contained.{Contains-from_slice_get, slice_get-from_Contains}
use Rattle.ct_lemmas.proofs.Lists.{slice_get-append_left, slice_get-there}
use Rattle.ct_lemmas.proofs.Pairs.{AllZip-at, AllZip-from, AllZip-weaker}
use Rattle.indexmap.specs.IndexMap.{IndexMap}
use Rattle.ct_sorts.specs.declared.ids.CtorId.{CtorId}
use Rattle.ct_terms.specs.declared.ids.TermId.{TermId}
use Rattle.ct_terms.specs.declared.term.Core.TheVariants.{Con}
use Rattle.ct_terms.specs.Terms.{Has, AreSorted}
use Rattle.ct_rules.specs.declared.equation.Equation.{Equation}
use Rattle.ct_rules.specs.Rules.{Equations}
use Rattle.ct_rules.specs.Uniqueness.{AreMatched, IsPairMatched, AreAllMatched}
use Rattle.ct_congr.specs.State.{State, AreEqual, IsQuiet}
use Rattle.ct_unique.specs.declared.found.Key.{Key}
use Rattle.ct_unique.specs.Partition.{block_of, in_one_block, IsCoarsest}
use Rattle.ct_unique.specs.Found.{AreOnce, room, StandsFor, IsAdded, IsOpen, IsMore, IsUnderWay}
use Rattle.ct_unique.specs.Reached.{IsArgumentPair, IsReached, by_asking, by_arguments}
use Rattle.ct_unique.proofs.ClassLemmas.{InOneClass-sym, InOneClass-trans, one_arity, same_ctor, same_argument}
use Rattle.ct_unique.proofs.BlockLemmas.{in_block}

-- ---- more pairs match as much

module _ (known : Equations) (before after rest : List Equation) (grown : after ≡ before ++ rest) where
  pub later : (k : ℕ) (e : Equation) → slice_get before k ≡ Some e → slice_get after k ≡ Some e
  later k e at = subst (λ (list : List Equation). slice_get list k ≡ Some e) (sym grown) (slice_get-append_left before rest k e at)

  pub AreMatched-more : (x y : TermId) → AreMatched known before x y → AreMatched known after x y
  AreMatched-more x y h = elim h [
    | inl equal ↦ inl equal
    | inr m ↦
        let at = slice_get-from_Contains before m.0 m.1 in
        inr (m.0, Contains-from_slice_get after at.0 m.0 (later at.0 m.0 at.1), m.2, m.3)
  ]

-- ---- arguments of two constructor terms of one block

module _ (state : State) (blocks : List ℕ) (made : IsCoarsest state blocks) (quiet : IsQuiet state) (sorted : AreSorted state.declarations state.terms) (long : length state.reps ≡ length state.terms) (l r : TermId) (c k : CtorId) (xs ys : List TermId) (left : Has state.terms (Con c xs) l.0) (right : Has state.terms (Con k ys) r.0) (same : block_of blocks l ≡ block_of blocks r) where
  ends : in_one_block blocks l r ≡ true
  ends =
      let in_l = slice_get_within state.terms l.0 (Con c xs, left.0) left.1 in
      let in_r = slice_get_within state.terms r.0 (Con k ys, right.0) right.1 in
      in_block blocks l r (omega (arith, in_l, made.long)) (omega (arith, in_r, made.long)) same

  pub open_ctor : c ≡ k
  open_ctor = elim (made.stable.matched l r ends) [
    | inl equal ↦ same_ctor state quiet sorted l r equal c k xs ys left right
    | inr h ↦ same_ctor state quiet sorted l h.left h.left_equal c h.ctor xs h.xs left h.left_stands ∙ sym (same_ctor state quiet sorted r h.right h.right_equal k h.ctor ys h.ys right h.right_stands)
  ]

  right_too : Has state.terms (Con c ys) r.0
  right_too = subst (λ (q : CtorId). Has state.terms (Con q ys) r.0) (sym open_ctor) right

  pub open_rows : AllZip (λ x y. in_one_block blocks x y ≡ true) xs ys
  open_rows =
      AllZip-from (λ x y. in_one_block blocks x y ≡ true) xs ys (one_arity state.declarations state.terms c xs ys l.0 r.0 sorted left right_too)
      (λ place x y at_x at_y. elim (made.stable.matched l r ends) [
        | inl equal ↦
            let z = same_argument state quiet sorted l r equal c xs ys left right_too place x at_x in
            let both : AreEqual state x y = subst (λ (q : TermId). AreEqual state x q) (same_Some z.0 y (sym z.1 ∙ at_y)) z.2 in
            let in_x = slice_get_within state.reps x.0 both.0 both.1 in
            let in_y = slice_get_within state.reps y.0 both.0 both.2 in
            in_block blocks x y (omega (arith, in_x, long, made.long)) (omega (arith, in_y, long, made.long)) (made.equal x y both)
        | inr h ↦
            let ctor : c ≡ h.ctor = same_ctor state quiet sorted l h.left h.left_equal c h.ctor xs h.xs left h.left_stands in
            let left_there : Has state.terms (Con c h.xs) h.left.0 = subst (λ (q : CtorId). Has state.terms (Con q h.xs) h.left.0) (sym ctor) h.left_stands in
            let right_there : Has state.terms (Con c h.ys) h.right.0 = subst (λ (q : CtorId). Has state.terms (Con q h.ys) h.right.0) (sym ctor) h.right_stands in
            let u = same_argument state quiet sorted l h.left h.left_equal c xs h.xs left left_there place x at_x in
            let v = same_argument state quiet sorted r h.right h.right_equal c ys h.ys right_too right_there place y at_y in
            let pair : in_one_block blocks u.0 v.0 ≡ true = AllZip-at (λ a b. in_one_block blocks a b ≡ true) h.xs h.ys place u.0 v.0 h.arguments u.1 v.1 in
            made.stable.of_classes u.0 v.0 x y (InOneClass-sym state.reps x u.0 u.2) (InOneClass-sym state.reps y v.0 v.2) pair
      ])

-- two terms are matched by a pair that stands for constructor terms of their classes
pub AreMatched-stands : (state : State) (pairs : List Equation) (x y l r : TermId) → AreEqual state x l → AreEqual state y r → StandsFor state pairs l r → AreMatched (AreEqual state) pairs x y
AreMatched-stands state pairs x y l r left right s =
    inr (s.pair, Contains-from_slice_get pairs s.place s.pair s.at, InOneClass-trans state.reps x l s.pair.left left s.left, InOneClass-trans state.reps s.pair.right r y s.right (InOneClass-sym state.reps y r right))

-- ---- the loop

module _ {S T : Type 0} (state : State) (blocks : List ℕ) (asked : Equation) where
  pub IsUnderWay-start : (empty : IndexMap Key ℕ S) (none : List Equation) (places : IndexMap Key ℕ T) (pairs : List Equation) → none ≡ [] → IsAdded state empty none places pairs asked → IsOpen state blocks asked → IsUnderWay state blocks asked places pairs 0
  IsUnderWay-start empty none places pairs is_none added opens =
      let is : (k : ℕ) (e : Equation) → slice_get pairs k ≡ Some e → e ≡ asked = λ k e at. elim (added.only k e at) [ inl had ↦ absurd (none-some e (subst (λ (list : List Equation). slice_get list k ≡ Some e) is_none had)) | inr same ↦ same ] in
      let inside = slice_get_within pairs added.stands.place added.stands.pair added.stands.at in
      let head = slice_get-there pairs 0 (omega (arith, inside)) in
      record {
        indexed = added.indexed;
        first = head.1 ∙ ap Some (is 0 head.0 head.1);
        opens = λ k e at. subst (IsOpen state blocks) (sym (is k e at)) opens;
        reached = λ k e at. subst (IsReached state asked) (sym (is k e at)) by_asking;
        done = λ k e before at. absurd (omega (arith, before));
        within = omega arith;
      }

  module _ (old : IndexMap Key ℕ S) (before : List Equation) (new : IndexMap Key ℕ T) (after : List Equation) (next : ℕ) (pair : Equation) (now : IsUnderWay state blocks asked old before next) (here : slice_get before next ≡ Some pair) (more : IsMore state blocks (IsArgumentPair state pair) old before new after) where
    longer : length after ≡ length before + length more.rest
    longer = ap length more.grown ∙ length-append before more.rest

    pub IsUnderWay-next : IsPairMatched state.terms (AreEqual state) after pair.left pair.right → IsUnderWay state blocks asked new after (next + 1)
    IsUnderWay-next matched =
        let known = AreEqual state in
        let inside = slice_get_within before next pair here in
        record {
          indexed = more.indexed;
          first = later known before after more.rest more.grown 0 asked now.first;
          opens = λ k e at. elim (more.only k e at) [ inl had ↦ now.opens k e had | inr new ↦ new.0 ];
          reached = λ k e at. elim (more.only k e at) [ inl had ↦ now.reached k e had | inr new ↦ by_arguments pair e (now.reached next pair here) new.1 ];
          done = λ k e soon at.
              let found = slice_get-there before k (omega (arith, soon, inside)) in
              let same : found.0 ≡ e = same_Some found.0 e (sym (later known before after more.rest more.grown k found.0 found.1) ∙ at) in
              elim (cases_order k next) [
                | inl e_k ↦
                    let one : pair ≡ e = same_Some pair e (sym (later known before after more.rest more.grown next pair here) ∙ ap (slice_get after) (sym e_k) ∙ at) in
                    subst (λ (q : Equation). IsPairMatched state.terms known after q.left q.right) one matched
                | inr h ↦ elim h [
                  | inl less ↦
                      let m = now.done k found.0 less found.1 in
                      subst (λ (q : Equation). IsPairMatched state.terms known after q.left q.right) same
                      (record {
                        ctor = m.ctor;
                        xs = m.xs;
                        ys = m.ys;
                        left_stands = m.left_stands;
                        right_stands = m.right_stands;
                        arguments = AllZip-weaker (AreMatched known before) (AreMatched known after) (AreMatched-more known before after more.rest more.grown) m.xs m.ys m.arguments;
                      })
                  | inr greater ↦ absurd (omega (arith, soon, greater))
                ]
              ];
          within = omega (arith, inside, longer);
        }

    pub less_left : room state new + (length after - (next + 1)) < room state old + (length before - next)
    less_left = let inside = slice_get_within before next pair here in omega (arith, inside, longer, more.spent)

module _ {S : Type 0} (state : State) (blocks : List ℕ) (asked : Equation) where
  -- where all were looked at, all are matched
  pub AreAllMatched-end : (places : IndexMap Key ℕ S) (pairs : List Equation) (next : ℕ) → IsUnderWay state blocks asked places pairs next → length pairs ≤ next → AreAllMatched state.terms (AreEqual state) pairs
  AreAllMatched-end places pairs next now end pair listed =
      let at = slice_get-from_Contains pairs pair listed in
      let inside = slice_get_within pairs at.0 pair at.1 in
      now.done at.0 pair (omega (arith, inside, end)) at.1

  pub asked_listed : (places : IndexMap Key ℕ S) (pairs : List Equation) (next : ℕ) → IsUnderWay state blocks asked places pairs next → Contains pairs asked
  asked_listed places pairs next now = Contains-from_slice_get pairs 0 asked now.first

  pub reached_listed : (places : IndexMap Key ℕ S) (pairs : List Equation) (next : ℕ) → IsUnderWay state blocks asked places pairs next → (e : Equation) → Contains pairs e → IsReached state asked e
  reached_listed places pairs next now e listed = let at = slice_get-from_Contains pairs e listed in now.reached at.0 e at.1

  -- no two are of the same classes
  pub AreOnce-end : (places : IndexMap Key ℕ S) (pairs : List Equation) (next : ℕ) → IsUnderWay state blocks asked places pairs next → AreOnce state pairs
  AreOnce-end places pairs next now i j e f at_e at_f left right =
      let key : Key = record { left = left.0; right = right.0 } in
      let first = now.indexed.listed i e key at_e left.1 right.1 in
      let second = now.indexed.listed j f key at_f left.2 right.2 in
      same_Some i j (sym first ∙ second)
