-- Steps that were written after others are accepted after them.
use Rattle.std.proofs.Common.{◌≡◌, ℕ, ◌+◌, ◌<◌, inl, inr, List, Option, Some, None, [], ◌++◌, length, take, set, get_or, replicate, slice_get, sym, ap, subst, ◌∙◌, arith, length-append}
use Rattle.std.specs.List.{Contains}
use Rattle.std.proofs.Math.Seq.{take-append-add}
use Rattle.std.proofs.lemmas.List.{take-append-le}
use Rattle.std.proofs.lemmas.Option.{none-some, same_Some, slice_get_within, slice_get-get_or}
use Rattle.ct_lemmas.proofs.Lists.{slice_get-append_cases, slice_get-set_other, slice_get-set_same}
use Rattle.ct_lemmas.proofs.Numbers.{same_or_other}
use Rattle.ct_terms.specs.declared.ids.TermId.{TermId}
use Rattle.ct_terms.specs.declared.ids.Lit.{Lit}
use Rattle.ct_terms.specs.Literal.{opposite}
use Rattle.ct_terms.specs.Clause.{Clause}
use Rattle.ct_rules.specs.declared.equation.Equation.{Equation}
use Rattle.ct_log.specs.declared.rules.EqStep.{EqStep}
use Rattle.ct_log.specs.declared.rules.EqStep.TheVariants.{Hyp, Refl, Sym, Trans, Cong, Inject, Sel, Test, Expand, EqualIn, EqualOut, Neg, Single, Unique}
use Rattle.ct_log.specs.Equations.{Gives, GiveAll}
use Rattle.ct_congr.specs.declared.merge.Merge.{Merge}
use Rattle.ct_congr.specs.State.{State}
use Rattle.ct_explain.specs.Writing.{Written, Told, Opposes, AreWritten, AreDone}
use Rattle.ct_explain.specs.Explained.{IsExplained}
use Rattle.ct_explain.proofs.ListLemmas.{slice_get-replicate}

-- nothing was written
pub AreWritten-none : (state : State) (w : Written) → w.steps ≡ [] → w.stated ≡ [] → AreWritten state w
AreWritten-none state w steps stated = record {
  long = ap length stated ∙ sym (ap length steps);
  named = λ s h. absurd (nothing s (subst (λ (l : List EqStep). Contains l s) steps h));
  give = λ clause before long opposes index s e at_step at_stated.
      absurd (none-some s (subst (λ (l : List EqStep). slice_get l index ≡ Some s) steps at_step));
}
  where
    nothing : (s : EqStep) → Contains [] s → ⊥
    nothing s h = let within = h.1 in omega (arith, within)

-- a clause with the opposites of the hypotheses that are named
opposes_each : (clause : Clause) (steps : List EqStep) → ((l : Lit) → Contains steps (Hyp l) → Contains clause (opposite l)) → (s : EqStep) → Contains steps s → Opposes clause s
opposes_each clause steps h (Hyp l) inside = h l inside
opposes_each clause steps h (Refl t) inside = tt
opposes_each clause steps h (Sym i) inside = tt
opposes_each clause steps h (Trans i j) inside = tt
opposes_each clause steps h (Cong t u is) inside = tt
opposes_each clause steps h (Inject i k) inside = tt
opposes_each clause steps h (Sel t i) inside = tt
opposes_each clause steps h (Test t i) inside = tt
opposes_each clause steps h (Expand i c) inside = tt
opposes_each clause steps h (EqualIn t i) inside = tt
opposes_each clause steps h (EqualOut i) inside = tt
opposes_each clause steps h (Neg t i) inside = tt
opposes_each clause steps h (Single t u) inside = tt
opposes_each clause steps h (Unique p ps) inside = tt

-- the old steps and then those that were written
all_given : (state : State) (w : Written) (old : List EqStep) (clause : Clause) (given : List Equation)
    → length old ≡ w.first → AreWritten state w → GiveAll state.declarations state.terms clause old given
    → ((s : EqStep) → Contains w.steps s → Opposes clause s)
    → GiveAll state.declarations state.terms clause (old ++ w.steps) (given ++ w.stated)
all_given state w old clause given first written gives opposes = record {
  long = length-append given w.stated ∙ ap (λ n. n + length w.stated) gives.long ∙ ap (λ n. length old + n) written.long ∙ sym (length-append old w.steps);
  each = λ index s e at_step at_given.
      elim (slice_get-append_cases old w.steps index s at_step) [
        | inl old_step ↦ elim (slice_get-append_cases given w.stated index e at_given) [
          | inl old_given ↦
              let within = slice_get_within given index e old_given in
              subst (λ (l : List Equation). Gives state.declarations state.terms clause l s e.left e.right)
              (sym (take-append-le index given w.stated (omega (arith, within))))
              (gives.each index s e old_step old_given)
          | inr other ↦
              let within = slice_get_within old index s old_step in
              absurd (omega (arith, within, other.1, gives.long))
        ]
        | inr new_step ↦ elim (slice_get-append_cases given w.stated index e at_given) [
          | inl old_given ↦
              let within = slice_get_within given index e old_given in
              absurd (omega (arith, within, new_step.1, gives.long))
          | inr new_given ↦
              let same : new_step.0 ≡ new_given.0 = omega (arith, new_step.1, new_given.1, gives.long) in
              let at : slice_get w.steps new_given.0 ≡ Some s = subst (λ (n : ℕ). slice_get w.steps n ≡ Some s) same new_step.2 in
              subst (λ (l : List Equation). Gives state.declarations state.terms clause l s e.left e.right)
              (sym (ap (λ (n : ℕ). take n (given ++ w.stated)) new_given.1 ∙ take-append-add given w.stated new_given.0))
              (written.give clause given (gives.long ∙ first) opposes new_given.0 s e at new_given.2)
        ]
      ];
}

-- so they explain what the step with the number states
pub explained : (state : State) (w : Written) (old new : List EqStep) (number : ℕ) (a b : TermId)
    → length old ≡ w.first → new ≡ old ++ w.steps → AreWritten state w → Told w number a b → IsExplained state old new number a b
explained state w old new number a b first stays written told = record {
  more = w.steps;
  stays = stays;
  named = λ l inside. written.named (Hyp l) inside;
  accepted = λ clause given gives opposite_inside. (
    w.stated,
    subst (λ (l : List EqStep). GiveAll state.declarations state.terms clause l (given ++ w.stated)) (sym stays)
        (all_given state w old clause given first written gives (opposes_each clause w.steps opposite_inside)),
    told given (gives.long ∙ first),
  );
}

-- a number that is put for a merge
pub AreDone-put : (w : Written) (merges : List Merge) (done : List (Option ℕ)) (k n : ℕ) (m : Merge)
    → k < length done → slice_get merges k ≡ Some m → Told w n m.left m.right → AreDone w merges done → AreDone w merges (set done k (Some n))
AreDone-put w merges done k n m within at told are = λ j i q at_done at_merge.
    elim (same_or_other j k) [
      | inl same ↦
          let put : slice_get (set done k (Some n)) k ≡ Some (Some i) = subst (λ (x : ℕ). slice_get (set done k (Some n)) x ≡ Some (Some i)) same at_done in
          let number : n ≡ i = same_Some n i (same_Some (Some n) (Some i) (sym (slice_get-set_same done k (Some n) within) ∙ put)) in
          let merge : m ≡ q = same_Some m q (sym at ∙ subst (λ (x : ℕ). slice_get merges x ≡ Some q) same at_merge) in
          subst (λ (x : ℕ). Told w x q.left q.right) number (subst (λ (x : Merge). Told w n x.left x.right) merge told)
      | inr other ↦ are j i q (sym (slice_get-set_other done k j (Some n) other) ∙ at_done) at_merge
    ]

-- the merge that is read at an index stands there
pub merge_at : (merges read : List Merge) (k : ℕ) (m : Merge) → k < length merges → read ≡ merges → m ≡ get_or read k m → slice_get merges k ≡ Some m
merge_at merges read k m within same is =
    slice_get-get_or merges k m within ∙ ap (λ (x : Merge). Some x) (sym (is ∙ ap (λ (l : List Merge). get_or l k m) same))

-- no numbers
pub AreDone-none : (w : Written) (merges : List Merge) (done : List (Option ℕ)) (count : ℕ) → done ≡ replicate count None → AreDone w merges done
AreDone-none w merges done count are = λ k n m at_done at_merge.
    absurd (none-some n (slice_get-replicate count k None (Some n) (subst (λ (l : List (Option ℕ)). slice_get l k ≡ Some (Some n)) are at_done)))
