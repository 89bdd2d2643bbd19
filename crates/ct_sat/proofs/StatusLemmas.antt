-- What a clause is under the trail, and propagation.
use Rattle.std.proofs.Common.{◌≡◌, ℕ, ◌+◌, ◌⊎◌, inl, inr, List, [], ◌∷◌, ◌++◌, length, Option, Some, None, slice_get, All, Contains, refl, sym, ap, subst, ◌∙◌, arith}
use Rattle.std.proofs.lemmas.Option.{none-some, same_Some, slice_get_within}
use Rattle.std.proofs.lemmas.List.{length_push, append-nil, append_assoc, take_at, take-append-le}
use Rattle.std.proofs.lemmas.List.Elements.{All-weaker, All-contains, All-push, All-nil, All-append, Contains-append_left, Contains-push}
use Rattle.ct_lemmas.proofs.Contained.{Contains-from_slice_get}
use Rattle.ct_lemmas.proofs.Lists.{slice_get-append_left, slice_get-last, slice_get-push_cases}
use Rattle.ct_terms.specs.declared.ids.Lit.{Lit}
use Rattle.ct_terms.specs.Clause.{Clause}
use Rattle.ct_terms.specs.Propagation.{IsFalseIn, AreFalseIn}
use Rattle.ct_sat.specs.declared.clause.StepClause.{StepClause}
use Rattle.ct_sat.specs.Up.{IsForced}
use Rattle.ct_sat.specs.State.{IsConsistent}
use Rattle.ct_sat.specs.Assigned.{Assigned, IsReason, HaveReasons}
use Rattle.ct_sat.specs.Status.{IsUnset, IsSettled, IsSeen, Examined, stays, grows, Propagated}
use Rattle.ct_sat.proofs.UpLemmas.{opposites_apart}

-- one more literal of the clause, which is false
pub IsSeen-false : (set : List Lit) (clause : Clause) (l : Lit) (unit : Option Lit) → IsSeen set clause unit → IsFalseIn set l → IsSeen set (clause ++ l ∷ []) unit
IsSeen-false set clause l None seen h = All-push (IsFalseIn set) clause l seen h
IsSeen-false set clause l (Some u) seen h = record {
  unset = seen.unset;
  forced = record {
    inside = Contains-append_left clause (l ∷ []) u seen.forced.inside;
    others_false = All-push (λ k. (k ≡ u) ⊎ IsFalseIn set k) clause l seen.forced.others_false (inr h);
  };
}

-- one that has no value, and is no other than that before
pub IsSeen-unset : (set : List Lit) (clause : Clause) (l : Lit) (unit : Option Lit) → IsSeen set clause unit → IsUnset set l → ((u : Lit) → unit ≡ Some u → u ≡ l) → IsSeen set (clause ++ l ∷ []) (Some l)
IsSeen-unset set clause l None seen h same = record {
  unset = h;
  forced = record {
    inside = Contains-push clause l;
    others_false = All-push (λ k. (k ≡ l) ⊎ IsFalseIn set k) clause l (All-weaker (IsFalseIn set) (λ k. (k ≡ l) ⊎ IsFalseIn set k) (λ k f. inr f) clause seen) (inl refl);
  };
}
IsSeen-unset set clause l (Some u) seen h same =
    let is : u ≡ l = same u refl in
    record {
      unset = h;
      forced = record {
        inside = Contains-push clause l;
        others_false = All-push (λ k. (k ≡ l) ⊎ IsFalseIn set k) clause l (subst (λ (v : Lit). All (λ k. (k ≡ v) ⊎ IsFalseIn set k) clause) is seen.forced.others_false) (inl refl);
      };
    }

-- one that has no value beside another
pub IsSettled-another : (set : List Lit) (clause seen : Clause) (l u : Lit) (unit : Option Lit) → ((k : Lit) → Contains seen k → Contains clause k) → IsSeen set seen unit → unit ≡ Some u → (u ≡ l → ⊥) → Contains clause l → IsUnset set l → IsSettled set clause
IsSettled-another set clause seen l u None inside looked e differ has unset = absurd (none-some u e)
IsSettled-another set clause seen l u (Some v) inside looked e differ has unset =
    let is : v ≡ u = same_Some v u e in
    inr (record {
      one = v;
      other = l;
      has_one = inside v looked.forced.inside;
      has_other = has;
      differ = λ same. differ (sym is ∙ same);
      one_unset = looked.unset;
      other_unset = unset;
    })

-- a settled clause is not false, and what it forces is there
pub IsSettled-not_false : (set : List Lit) (clause : Clause) → IsConsistent set → IsSettled set clause → AreFalseIn set clause → ⊥
IsSettled-not_false set clause consistent (inl h) all = opposites_apart set h.literal consistent h.holds (All-contains (IsFalseIn set) clause h.literal all h.has)
IsSettled-not_false set clause consistent (inr h) all = h.one_unset.1 (All-contains (IsFalseIn set) clause h.one all h.has_one)

pub IsSettled-forced : (set : List Lit) (clause : Clause) (l : Lit) → IsConsistent set → IsSettled set clause → IsForced set clause l → Contains set l
IsSettled-forced set clause l consistent (inl h) forced =
    elim (All-contains (λ k. (k ≡ l) ⊎ IsFalseIn set k) clause h.literal forced.others_false h.has) [
      | inl same ↦ subst (Contains set) same h.holds
      | inr false_one ↦ absurd (opposites_apart set h.literal consistent h.holds false_one)
    ]
IsSettled-forced set clause l consistent (inr h) forced =
    elim (All-contains (λ k. (k ≡ l) ⊎ IsFalseIn set k) clause h.one forced.others_false h.has_one) [
      | inr false_one ↦ absurd (h.one_unset.1 false_one)
      | inl one ↦ elim (All-contains (λ k. (k ≡ l) ⊎ IsFalseIn set k) clause h.other forced.others_false h.has_other) [
        | inr false_other ↦ absurd (h.other_unset.1 false_other)
        | inl other ↦ absurd (h.differ (one ∙ sym other))
      ]
    ]

-- a reason stays with more literals
IsReason-longer : (clauses : List StepClause) (literals more : List Lit) (i : ℕ) (c : StepClause) → IsReason clauses literals i c → IsReason clauses (literals ++ more) i c
IsReason-longer clauses literals more i c r =
    let within = slice_get_within literals i r.literal r.stands in
    record {
      clause = r.clause;
      literal = r.literal;
      stands = slice_get-append_left literals more i r.literal r.stands;
      forces = subst (λ (xs : List Lit). IsForced xs c.literals r.literal) (sym (take-append-le i literals more (omega arith))) r.forces;
    }

-- a literal that a clause forces has a reason
pub HaveReasons-implied : (clauses : List StepClause) (literals : List Lit) (reasons : List (Option ℕ)) (l : Lit) (r : ℕ) (c : StepClause) → HaveReasons clauses literals reasons → slice_get clauses r ≡ Some c → IsForced literals c.literals l → HaveReasons clauses (literals ++ l ∷ []) (reasons ++ Some r ∷ [])
HaveReasons-implied clauses literals reasons l r c old at forced = record {
  long = length_push reasons (Some r) ∙ ap (λ (n : ℕ). n + 1) old.long ∙ sym (length_push literals l);
  each = λ i s e. elim (slice_get-push_cases reasons (Some r) (Some s) i e) [
    | inl before ↦ (let o = old.each i s before in (o.0, o.1, IsReason-longer clauses literals (l ∷ []) i o.0 o.2))
    | inr last ↦ (let number : r ≡ s = same_Some r s last.1 in
        let index : length literals ≡ i = sym old.long ∙ sym last.0 in (
          c,
          ap (slice_get clauses) (sym number) ∙ at,
          subst (λ (k : ℕ). IsReason clauses (literals ++ l ∷ []) k c) index (record {
            clause = Contains-from_slice_get clauses r c at;
            literal = l;
            stands = slice_get-last literals l;
            forces = subst (λ (xs : List Lit). IsForced xs c.literals l) (sym (take_at literals (l ∷ []) (length literals) refl)) forced;
          }),
        ))
  ];
}

-- a decided literal has none
pub HaveReasons-decided : (clauses : List StepClause) (literals : List Lit) (reasons : List (Option ℕ)) (l : Lit) → HaveReasons clauses literals reasons → HaveReasons clauses (literals ++ l ∷ []) (reasons ++ None ∷ [])
HaveReasons-decided clauses literals reasons l old = record {
  long = length_push reasons None ∙ ap (λ (n : ℕ). n + 1) old.long ∙ sym (length_push literals l);
  each = λ i s e. elim (slice_get-push_cases reasons None (Some s) i e) [
    | inl before ↦ (let o = old.each i s before in (o.0, o.1, IsReason-longer clauses literals (l ∷ []) i o.0 o.2))
    | inr last ↦ absurd (none-some s last.1)
  ];
}

pub Propagated-none : (clauses : List StepClause) (a : Assigned) → Propagated clauses a a
Propagated-none clauses a = record {
  more = [];
  literals = sym (append-nil a.literals);
  decided = refl;
  room = refl;
  reasons = λ h. h;
  over = All-nil (λ l. (c : StepClause) × Contains clauses c × Contains c.literals l);
}

pub Propagated-both : (clauses : List StepClause) (a b c : Assigned) → Propagated clauses a b → Propagated clauses b c → Propagated clauses a c
Propagated-both clauses a b c one two = record {
  more = one.more ++ two.more;
  literals = two.literals ∙ ap (λ (xs : List Lit). xs ++ two.more) one.literals ∙ append_assoc a.literals one.more two.more;
  decided = two.decided ∙ one.decided;
  room = two.room ∙ one.room;
  reasons = λ h. two.reasons (one.reasons h);
  over = All-append (λ l. (c : StepClause) × Contains clauses c × Contains c.literals l) one.more two.more one.over two.over;
}

pub Propagated-examined : (clauses : List StepClause) (i : ℕ) (c : StepClause) (a b : Assigned) → slice_get clauses i ≡ Some c → Examined a b c.literals i → Propagated clauses a b
Propagated-examined clauses i c a b at (stays same settled) = subst (Propagated clauses a) (sym same) (Propagated-none clauses a)
Propagated-examined clauses i c a b at (grows l is unit) = subst (Propagated clauses a) (sym is) (record {
  more = l ∷ [];
  literals = refl;
  decided = refl;
  room = refl;
  reasons = λ h. HaveReasons-implied clauses a.literals a.reasons l i c h at unit.forced;
  over = All-push (λ l. (d : StepClause) × Contains clauses d × Contains d.literals l) [] l (All-nil (λ l. (d : StepClause) × Contains clauses d × Contains d.literals l)) (c, Contains-from_slice_get clauses i c at, unit.forced.inside);
})
