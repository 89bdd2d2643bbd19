-- Turns of a search after a step that keeps the count and the decisions, and what the trail has in common with the literals that
-- the theory was told.
use Rattle.std.proofs.Common.{◌≡◌, ℕ, suc, ◌+◌, ◌<◌, ◌≤◌, ◌++◌, [], ◌∷◌, length, take, get_or, slice_get, Some, List, refl, sym, ap, subst, ◌∙◌, arith}
use Rattle.std.proofs.Math.Seq.{take-suc}
use Rattle.std.proofs.lemmas.Option.{slice_get_within, get_or_from_slice_get}
use Rattle.std.proofs.lemmas.List.{append-nil, length-append, take-append-le, take-take}
use Rattle.ct_sorts.specs.Grown.{Begins}
use Rattle.ct_terms.specs.declared.ids.Lit.{Lit}
use Rattle.ct_congr.specs.State.{State}
use Rattle.ct_sat.specs.declared.decided.Decided.{Decided}
use Rattle.ct_sat.specs.State.{SearchState}
use Rattle.ct_theory.specs.Consulting.{HaveInCommon}
use Rattle.ct_engine.specs.declared.course.Course.{Course}
use Rattle.ct_engine.specs.declared.outcome.Turn.{Turn}
use Rattle.ct_engine.specs.declared.outcome.Turn.TheVariants.{Learned, Decided as Chosen, Ended}
use Rattle.ct_engine.specs.declared.asked.Asked.{Asked}
use Rattle.ct_engine.specs.Progress.{IsOfOneClosure, IsTheoryOf, IsAsked, TakesBack, IsCounted, IsTurn}

-- a decision was taken back since before
TakesBack-since : (old middle new : SearchState) → middle.count ≡ old.count → middle.decided ≡ old.decided → TakesBack middle new → TakesBack old new
TakesBack-since old middle new counted decided back = record {
  counted = back.counted ∙ counted;
  fewer = subst (λ (ds : List Decided). length new.decided < length ds) decided back.fewer;
}

-- one decision more was made since before
pub IsCounted-since : (old middle new : SearchState) → middle.count ≡ old.count → IsCounted middle new → IsCounted old new
IsCounted-since old middle new counted h = record { counted = h.counted ∙ ap (λ (n : ℕ). n + 1) counted; allowed = h.allowed }

-- a turn since before
pub IsTurn-since : (old middle new : Course) (theory : State) (t : Turn) → middle.search.count ≡ old.search.count → middle.search.decided ≡ old.search.decided → IsTurn middle new theory t → IsTurn old new theory t
IsTurn-since old middle new theory Learned counted decided h = (h.0, TakesBack-since old.search middle.search new.search counted decided h.1)
IsTurn-since old middle new theory Chosen counted decided h = (h.0, IsCounted-since old.search middle.search new.search counted h.1)
IsTurn-since old middle new theory (Ended ending) counted decided h = h

-- the theory can be asked, where the search is of the same check
pub IsTheoryOf-then : (old new : Course) (theory : State) → IsOfOneClosure old new → IsTheoryOf old theory → IsTheoryOf new theory
IsTheoryOf-then old new theory same of = record {
  declarations = of.declarations ∙ sym same.declarations;
  terms = of.terms ∙ sym same.terms;
  ready = of.ready;
}

-- ---- trails

-- a trail begins itself
pub begins_itself : (trail : List Lit) → Begins trail trail
begins_itself trail = ([], sym (append-nil trail))

-- ---- literals in common

-- with nothing
pub HaveInCommon-none : (n : ℕ) (xs ys : List Lit) → n ≡ 0 → HaveInCommon n xs ys
HaveInCommon-none n xs ys is = rw is (record { left = omega arith; right = omega arith; same = refl })

-- with itself
pub HaveInCommon-itself : (xs ys : List Lit) → xs ≡ ys → HaveInCommon (length ys) xs ys
HaveInCommon-itself xs ys is = rw is (record { left = omega arith; right = omega arith; same = refl })

-- no more than the second, and what begins it
common_first : (n : ℕ) (ys zs : List Lit) → Begins ys zs → n ≤ length ys → (n ≤ length zs) × (take n zs ≡ take n ys)
common_first n ys zs begins within =
    let is : take n zs ≡ take n ys = ap (λ (ls : List Lit). take n ls) begins.1 ∙ take-append-le n ys begins.0 within in
    let longer : length ys ≤ length zs = rw begins.1 (rw (length-append ys begins.0) (omega arith)) in
    (omega (arith, within, longer), is)

-- with one literal more that stands in both
pub HaveInCommon-next : (n : ℕ) (xs ys : List Lit) (l : Lit) → slice_get xs n ≡ Some l → slice_get ys n ≡ Some l → HaveInCommon n xs ys → HaveInCommon (n + 1) xs ys
HaveInCommon-next n xs ys l first second has =
    let left : n < length xs = slice_get_within xs n l first in
    let right : n < length ys = slice_get_within ys n l second in
    let same : get_or xs n l ≡ get_or ys n l = get_or_from_slice_get xs n l l first ∙ sym (get_or_from_slice_get ys n l l second) in
    let next : suc n ≡ n + 1 = omega arith in
    record {
      left = omega (arith, left);
      right = omega (arith, right);
      same = subst (λ (m : ℕ). take m xs ≡ take m ys) next
          (take-suc xs n l left ∙ ap (λ (ls : List Lit). ls ++ get_or xs n l ∷ []) has.same ∙ ap (λ (m : Lit). take n ys ++ m ∷ []) same ∙ sym (take-suc ys n l right));
    }

-- where the second one grew
pub HaveInCommon-more : (n : ℕ) (xs ys zs : List Lit) → Begins ys zs → HaveInCommon n xs ys → HaveInCommon n xs zs
HaveInCommon-more n xs ys zs begins has =
    let first = common_first n ys zs begins has.right in
    record { left = has.left; right = first.0; same = has.same ∙ sym first.1 }

-- where the second one was cut
pub HaveInCommon-less : (m n : ℕ) (xs ys zs : List Lit) → Begins zs ys → m ≤ n → m ≤ length zs → HaveInCommon n xs ys → HaveInCommon m xs zs
HaveInCommon-less m n xs ys zs begins fewer within has =
    let first = common_first m zs ys begins within in
    let left : n ≤ length xs = has.left in
    record {
      left = omega (arith, fewer, left);
      right = within;
      same = sym (take-take m n xs fewer) ∙ ap (λ (ls : List Lit). take m ls) has.same ∙ take-take m n ys fewer ∙ first.1;
    }

-- what was asked is noted
pub IsAsked-noted : (course : Course) (theory : State) (asked : Asked) (trail : List Lit) → trail ≡ course.search.trail → theory.hypotheses ≡ trail → asked.shared ≡ length trail → IsAsked course theory asked
IsAsked-noted course theory asked trail is told noted =
    let has : HaveInCommon (length course.search.trail) theory.hypotheses course.search.trail = HaveInCommon-itself theory.hypotheses course.search.trail (told ∙ is) in
    subst (λ (n : ℕ). HaveInCommon n theory.hypotheses course.search.trail) (sym (noted ∙ ap (λ (ls : List Lit). length ls) is)) has

-- the trail grew
pub IsAsked-more : (old new : Course) (theory : State) (asked : Asked) → Begins old.search.trail new.search.trail → IsAsked old theory asked → IsAsked new theory asked
IsAsked-more old new theory asked begins has = HaveInCommon-more asked.shared theory.hypotheses old.search.trail new.search.trail begins has

-- the trail was cut
pub IsAsked-cut : (old new : Course) (theory : State) (before after : Asked) (left : List Lit) → left ≡ new.search.trail → Begins new.search.trail old.search.trail → after.shared ≤ before.shared → after.shared ≤ length left → IsAsked old theory before → IsAsked new theory after
IsAsked-cut old new theory before after left is begins fewer within has =
    HaveInCommon-less after.shared before.shared theory.hypotheses old.search.trail new.search.trail begins fewer (subst (λ (ls : List Lit). after.shared ≤ length ls) is within) has
