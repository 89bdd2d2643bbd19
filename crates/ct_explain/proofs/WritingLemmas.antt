-- Steps that are written one after another.
use Rattle.std.proofs.Common.{◌≡◌, ℕ, ◌+◌, ◌≤◌, inl, inr, List, [], ◌∷◌, ◌++◌, length, take, Option, Some, None, slice_get, refl, sym, ap, subst, ◌∙◌, arith, length-append}
use Rattle.std.proofs.lemmas.List.{take-append-le, append_assoc}
use Rattle.std.proofs.lemmas.Option.{slice_get_within}
use Rattle.ct_lemmas.proofs.Lists.{slice_get-append_left, slice_get-append_right, slice_get-last, slice_get-push_cases}
use Rattle.ct_terms.specs.declared.ids.TermId.{TermId}
use Rattle.ct_terms.specs.Clause.{Clause}
use Rattle.ct_rules.specs.declared.equation.Equation.{Equation}
use Rattle.ct_log.specs.declared.rules.EqStep.{EqStep}
use Rattle.ct_log.specs.Equations.{equation, Gives}
use Rattle.ct_congr.specs.declared.merge.Merge.{Merge}
use Rattle.ct_congr.specs.State.{State}
use Rattle.ct_explain.specs.Writing.{Written, Told, Names, IsStep, AreWritten, HasWrittenMore, AreDone, HasCome}
use Rattle.ct_explain.proofs.ListLemmas.{Contains-append_left, Contains-last, Contains-push_cases}

-- the last step states its equation
pub stated_last : (first : ℕ) (stated : List Equation) (e : Equation) (before : List Equation) → length before ≡ first → slice_get (before ++ (stated ++ e ∷ [])) (first + length stated) ≡ Some e
stated_last first stated e before long =
    subst (λ (n : ℕ). slice_get (before ++ (stated ++ e ∷ [])) (n + length stated) ≡ Some e) long
    (slice_get-append_right before (stated ++ e ∷ []) (length stated) e (slice_get-last stated e))

-- with one more step
abbrev pushed : Written → EqStep → Equation → Written
pushed w step e = record { first = w.first; steps = w.steps ++ step ∷ []; stated = w.stated ++ e ∷ [] }

-- what the steps before give they still give
give_before : (state : State) (w : Written) (e : Equation) (clause : Clause) (before : List Equation) (index : ℕ) (s : EqStep) (x y : TermId) → index ≤ length w.stated
    → Gives state.declarations state.terms clause (before ++ take index w.stated) s x y
    → Gives state.declarations state.terms clause (before ++ take index (w.stated ++ e ∷ [])) s x y
give_before state w e clause before index s x y within gives =
    subst (λ (l : List Equation). Gives state.declarations state.terms clause (before ++ l) s x y) (sym (take-append-le index w.stated (e ∷ []) within)) gives

-- the first ones are all of them
take_old : (stated : List Equation) (e : Equation) → take (length stated) (stated ++ e ∷ []) ≡ stated
take_old [] e = refl
take_old (x ∷ xs) e = ap (λ (l : List Equation). x ∷ l) (take_old xs e)

-- and the new one gives its equation
give_last : (state : State) (w : Written) (step : EqStep) (e : Equation) (clause : Clause) (before : List Equation)
    → Gives state.declarations state.terms clause (before ++ w.stated) step e.left e.right
    → (index : ℕ) (s : EqStep) (f : Equation) → index ≡ length w.stated → step ≡ s → e ≡ f
    → Gives state.declarations state.terms clause (before ++ take index (w.stated ++ e ∷ [])) s f.left f.right
give_last state w step e clause before gives index s f at same_step same =
    subst (λ (f : Equation). Gives state.declarations state.terms clause (before ++ take index (w.stated ++ e ∷ [])) s f.left f.right) same
    (subst (λ (s : EqStep). Gives state.declarations state.terms clause (before ++ take index (w.stated ++ e ∷ [])) s e.left e.right) same_step
    (subst (λ (n : ℕ). Gives state.declarations state.terms clause (before ++ take n (w.stated ++ e ∷ [])) step e.left e.right) (sym at)
    (subst (λ (l : List Equation). Gives state.declarations state.terms clause (before ++ l) step e.left e.right) (sym (take_old w.stated e)) gives)))

-- one more step of the kind
AreWritten-push : (state : State) (w : Written) (step : EqStep) (x y : TermId) → IsStep state w step x y → AreWritten state w → AreWritten state (pushed w step (equation x y))
AreWritten-push state w step x y is old = record {
  long = length-append w.stated (equation x y ∷ []) ∙ ap (λ n. n + 1) old.long ∙ sym (length-append w.steps (step ∷ []));
  named = λ s h. elim (Contains-push_cases w.steps step s h) [
    | inl before ↦ old.named s before
    | inr last ↦ subst (Names state.hypotheses) last is.names
  ];
  give = λ clause before long opposes index s e at_step at_stated.
      elim (slice_get-push_cases w.steps step s index at_step) [
        | inl old_step ↦ elim (slice_get-push_cases w.stated (equation x y) e index at_stated) [
          | inl old_stated ↦
              let within = slice_get_within w.stated index e old_stated in
              give_before state w (equation x y) clause before index s e.left e.right (omega (arith, within))
              (old.give clause before long (λ q inside. opposes q (Contains-append_left w.steps (step ∷ []) q inside)) index s e old_step old_stated)
          | inr last ↦
              let within = slice_get_within w.steps index s old_step in
              absurd (omega (arith, within, last.0, old.long))
        ]
        | inr last_step ↦ elim (slice_get-push_cases w.stated (equation x y) e index at_stated) [
          | inl old_stated ↦
              let within = slice_get_within w.stated index e old_stated in
              absurd (omega (arith, within, last_step.0, old.long))
          | inr last ↦
              give_last state w step (equation x y) clause before
              (is.gives clause before long (opposes step (Contains-last w.steps step)))
              index s e last.0 last_step.1 last.1
        ]
      ];
}

-- so the written ones have grown
pub grown_by_step : (state : State) (w : Written) (step : EqStep) (x y : TermId) (steps : List EqStep) (stated : List Equation)
    → steps ≡ w.steps ++ step ∷ [] → stated ≡ w.stated ++ equation x y ∷ [] → IsStep state w step x y
    → HasWrittenMore state w (record { first = w.first; steps = steps; stated = stated })
grown_by_step state w step x y steps stated steps_are stated_are is =
    let exact : HasWrittenMore state w (pushed w step (equation x y)) = record { first = refl; more = equation x y ∷ []; stated = refl; valid = AreWritten-push state w step x y is } in
    rw (steps_are, stated_are) exact

-- nothing more, and more after more
pub IsGrown-none : (state : State) (w : Written) → HasWrittenMore state w w
IsGrown-none state w = record { first = refl; more = []; stated = sym (append-nil w.stated); valid = λ h. h }
  where
    append-nil : (xs : List Equation) → xs ++ [] ≡ xs
    append-nil [] = refl
    append-nil (x ∷ xs) = ap (λ (l : List Equation). x ∷ l) (append-nil xs)

pub IsGrown-then : (state : State) (a b c : Written) → HasWrittenMore state a b → HasWrittenMore state b c → HasWrittenMore state a c
IsGrown-then state a b c p q = record {
  first = q.first ∙ p.first;
  more = p.more ++ q.more;
  stated = q.stated ∙ ap (λ (l : List Equation). l ++ q.more) p.stated ∙ append_assoc a.stated p.more q.more;
  valid = λ h. q.valid (p.valid h);
}

-- what was told still is
pub Told-later : (state : State) (old new : Written) (n : ℕ) (x y : TermId) → HasWrittenMore state old new → Told old n x y → Told new n x y
Told-later state old new n x y grown told = λ before long.
    subst (λ (l : List Equation). slice_get (before ++ l) n ≡ Some (equation x y)) (sym grown.stated)
    (subst (λ (l : List Equation). slice_get l n ≡ Some (equation x y)) (append_assoc before old.stated grown.more)
    (slice_get-append_left (before ++ old.stated) grown.more n (equation x y) (told before (long ∙ grown.first))))

-- so is how far a way has come
pub HasCome-later : (state : State) (old new : Written) (a at : TermId) (n : Option ℕ) → HasWrittenMore state old new → HasCome old a at n → HasCome new a at n
HasCome-later state old new a at None grown come = come
HasCome-later state old new a at (Some n) grown come = Told-later state old new n a at grown come

-- and the steps of merges
pub AreDone-later : (state : State) (old new : Written) (merges : List Merge) (done : List (Option ℕ)) → HasWrittenMore state old new → AreDone old merges done → AreDone new merges done
AreDone-later state old new merges done grown are = λ k n m at_done at_merge. Told-later state old new n m.left m.right grown (are k n m at_done at_merge)
