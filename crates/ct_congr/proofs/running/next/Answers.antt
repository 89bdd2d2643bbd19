use Rattle.std.proofs.Common.{◌≡◌, List, [], ◌∷◌, sym, subst, ◌∙◌, inl, inr, arith}
use Rattle.std.specs.List.{Contains}
use Rattle.std.proofs.lemmas.List.{nil_from_length}
use Rattle.ct_lemmas.proofs.Contained.{Contains-cons, Contains-first}
use Rattle.ct_congr.specs.declared.merge.Merge.{Merge}
use Rattle.ct_congr.specs.Partition.{InOneClass}
use Rattle.ct_congr.proofs.StepLemmas.{Contains-tail}
use Rattle.ct_congr.proofs.running.next.Goals as goal

pub loop-merge-init : goal.loop-merge-init
loop-merge-init c = record { from = λ n has. has; rest = λ n has. inr has }

pub loop-merge-preserved : goal.loop-merge-preserved
loop-merge-preserved c =
    let m = c.in-Some.merge in
    let left = c.pop_front.new.self.items in
    let is : c.loop-merge.waiting.items ≡ m ∷ left = c.in-Some.ensures.items in
    record {
      from = λ n has. c.loop-merge.invariant.from n (subst (λ (list : List Merge). Contains list n) (sym is) (Contains-tail m n left has));
      rest = λ n has. elim (c.loop-merge.invariant.rest n has) [
        | inl one ↦ inl one
        | inr at ↦ elim (Contains-cons m left n (subst (λ (list : List Merge). Contains list n) is at)) [
          | inl same ↦ inl (subst (λ (q : Merge). InOneClass c.args.reps.now q.left q.right) same (rw c.if-not-are_equal.false at c.are_equal.ensures.value))
          | inr rest ↦ inr rest
        ]
      ];
    }

pub loop-merge-preserved-else-not-are_equal : goal.loop-merge-preserved-else-not-are_equal
loop-merge-preserved-else-not-are_equal c =
    let m = c.in-Some.merge in
    let left = c.pop_front.new.self.items in
    let is : c.loop-merge.waiting.items ≡ m ∷ left = c.in-Some.ensures.items in
    record {
      from = λ n has. c.loop-merge.invariant.from n (subst (λ (list : List Merge). Contains list n) (sym is) (Contains-tail m n left has));
      rest = λ n has. elim (c.loop-merge.invariant.rest n has) [
        | inl one ↦ inl one
        | inr at ↦ elim (Contains-cons m left n (subst (λ (list : List Merge). Contains list n) is at)) [
          | inl same ↦ inl (subst (λ (q : Merge). InOneClass c.args.reps.now q.left q.right) same (rw c.if-not-are_equal.false at c.are_equal.ensures.value))
          | inr rest ↦ inr rest
        ]
      ];
    }

pub returns-then-not-are_equal : goal.returns-then-not-are_equal
returns-then-not-are_equal c =
    let m = c.in-Some.merge in
    let left = c.pop_front.new.self.items in
    let is : c.loop-merge.waiting.items ≡ m ∷ left = c.in-Some.ensures.items in
    record {
      found = (c.loop-merge.invariant.from m (subst (λ (list : List Merge). Contains list m) (sym is) (Contains-first m left)), rw c.if-not-are_equal.true at c.are_equal.ensures.value);
      rest = λ n has. elim (c.loop-merge.invariant.rest n has) [
        | inl one ↦ inl one
        | inr at ↦ inr (subst (λ (list : List Merge). Contains list n) is at)
      ];
      from = λ n has. c.loop-merge.invariant.from n (subst (λ (list : List Merge). Contains list n) (sym is) (Contains-tail m n left has));
      none = tt;
    }

pub are_equal-requires-clause-left : goal.are_equal-requires-clause-left
are_equal-requires-clause-left c =
    let m = c.in-Some.merge in
    let left = c.pop_front.new.self.items in
    let is : c.loop-merge.waiting.items ≡ m ∷ left = c.in-Some.ensures.items in
    (c.requires.inside m (c.loop-merge.invariant.from m (subst (λ (list : List Merge). Contains list m) (sym is) (Contains-first m left)))).0

pub are_equal-requires-clause-right : goal.are_equal-requires-clause-right
are_equal-requires-clause-right c =
    let m = c.in-Some.merge in
    let left = c.pop_front.new.self.items in
    let is : c.loop-merge.waiting.items ≡ m ∷ left = c.in-Some.ensures.items in
    (c.requires.inside m (c.loop-merge.invariant.from m (subst (λ (list : List Merge). Contains list m) (sym is) (Contains-first m left)))).1

pub returns-clause-from : goal.returns-clause-from
returns-clause-from c = λ n has.
    let is : c.loop-merge.waiting.items ≡ c.pop_front.new.self.items = c.in_default.ensures.items in
    c.loop-merge.invariant.from n (subst (λ (list : List Merge). Contains list n) (sym is) has)

pub returns-clause-none : goal.returns-clause-none
returns-clause-none c =
    let is : c.loop-merge.waiting.items ≡ c.pop_front.new.self.items = c.in_default.ensures.items in
    let none : c.pop_front.new.self.items ≡ [] = nil_from_length c.pop_front.new.self.items (omega (arith, c.in_default.ensures.cases.1, c.pop_front.new.self.ok.0)) in (
      none,
      λ n has. elim (c.loop-merge.invariant.rest n has) [
        | inl one ↦ one
        | inr at ↦ absurd (omega (arith, (subst (λ (list : List Merge). Contains list n) (is ∙ none) at).1))
      ],
    )
