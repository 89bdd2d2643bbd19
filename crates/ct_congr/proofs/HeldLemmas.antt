-- What classes keep: while merges are added, and when they are closed.
use Rattle.std.proofs.Common.{◌≡◌, ℕ, ◌<◌, ◌≤◌, Bool, true, false, List, [], ◌∷◌, ◌++◌, take, length, Option, slice_get, Some, None, refl, sym, subst, ◌∙◌, inl, inr, arith}
use Rattle.std.specs.List.{Contains}
use Rattle.std.specs.Option.{IfSome, IfNone}
use Rattle.std.proofs.lemmas.List.Elements.{Contains-append_left, Contains-push, Contains-push_cases}
use Rattle.std.proofs.lemmas.Option.{slice_get_within}
use Rattle.ct_sorts.specs.declared.ids.SortId.{SortId}
use Rattle.ct_sorts.specs.Declarations.{Declarations}
use Rattle.ct_terms.specs.declared.ids.TermId.{TermId}
use Rattle.ct_terms.specs.declared.ids.Lit.{Lit}
use Rattle.ct_terms.specs.Terms.{Terms, IsOfSort, AreSorted}
use Rattle.ct_terms.specs.Literal.{IsStripped}
use Rattle.ct_rules.specs.declared.equation.Equation.{Equation}
use Rattle.ct_rules.specs.Rules.{Equations, truth_term}
use Rattle.ct_rules.specs.Derivation.{States, AreAmong, IsHypothesis, Derives}
use Rattle.ct_congr.specs.declared.merge.Reason.{Reason}
use Rattle.ct_congr.specs.declared.merge.Reason.TheVariants.{Hyp, Cong, Inject, Sel, Test, Expand, EqualIn, EqualOut, Neg, Single, Unique}
use Rattle.ct_congr.specs.declared.merge.Merge.{Merge}
use Rattle.ct_congr.specs.Partition.{InOneClass}
use Rattle.ct_congr.specs.Reasons.{IsReason}
use Rattle.ct_congr.specs.Merges.{AreConnected, AreJustified}
use Rattle.ct_congr.specs.Rules.{AreSingleSorts, AreRulesClosed}
use Rattle.ct_congr.specs.Sound.{IsConOf, IsJoined, IsSound}
use Rattle.ct_congr.specs.Grown.{IsLater}
use Rattle.ct_congr.specs.State.{State, IsConstructorTerm, IsClosed, IsVerdict, IsAnswer}
use Rattle.ct_congr.specs.declared.merge.Closed.{Closed}
use Rattle.ct_congr.specs.declared.merge.Closed.TheVariants.{Quiet, Clash}
use Rattle.ct_congr.specs.Held.{AreHeld}
use Rattle.ct_congr.specs.Outside.{IsOutsideOf, hypotheses_with, given_with}
use Rattle.ct_congr.proofs.CompleteLemmas.{Theorems, Derives-class, Follows-closed, InOneClass-derives}

-- the theorems on what hypotheses state and what is given
pub record GivenTheorems (d : Declarations) (terms : Terms) : Type 0 where
  pub states : (hyps : List Lit) (given : List Equation) (x y : TermId) → IsHypothesis hyps x y → Derives d terms hyps given x y
  pub among : (hyps : List Lit) (given : List Equation) (x y : TermId) → AreAmong given x y → Derives d terms hyps given x y
  pub more : (hyps more_hyps : List Lit) (given more_given : List Equation) → ((x y : TermId) → IsHypothesis hyps x y → Derives d terms more_hyps more_given x y) → ((x y : TermId) → AreAmong given x y → Derives d terms more_hyps more_given x y) → (x y : TermId) → Derives d terms hyps given x y → Derives d terms more_hyps more_given x y

-- a reason holds under more hypotheses
pub IsReason-more : (d : Declarations) (terms : Terms) (hyps more : List Lit) (known : Equations) → ((l : Lit) → Contains hyps l → Contains more l) → (x y : TermId) (why : Reason) → IsReason d terms hyps known x y why → IsReason d terms more known x y why
IsReason-more d terms hyps more known all x y (Hyp l) h = (all l h.0, h.1)
IsReason-more d terms hyps more known all x y (Cong t u) h = h
IsReason-more d terms hyps more known all x y (Inject a b k) h = h
IsReason-more d terms hyps more known all x y (Sel t c) h = h
IsReason-more d terms hyps more known all x y (Test t c) h = h
IsReason-more d terms hyps more known all x y (Expand t c) h = h
IsReason-more d terms hyps more known all x y (EqualIn t) h = h
IsReason-more d terms hyps more known all x y (EqualOut t) h = h
IsReason-more d terms hyps more known all x y (Neg t) h = h
IsReason-more d terms hyps more known all x y Single h = h
IsReason-more d terms hyps more known all x y (Unique pairs) h = h

-- classes are sound where more is held to be true and more is given
pub IsSound-wider : (d : Declarations) (terms : Terms) → GivenTheorems d terms → (hyps more_hyps : List Lit) (given more_given : List Equation) → ((l : Lit) → Contains hyps l → Contains more_hyps l) → ((e : Equation) → Contains given e → Contains more_given e) → (reps : List TermId) (cons : List (Option TermId)) (merges : List Merge) → IsSound d terms hyps given reps cons merges → IsSound d terms more_hyps more_given reps cons merges
IsSound-wider d terms theorems hyps more_hyps given more_given all each reps cons merges sound = record {
  long = sound.long;
  cons_long = sound.cons_long;
  stored = sound.stored;
  connected = sound.connected;
  held = sound.held;
  justified = λ k m at. IsReason-more d terms hyps more_hyps (AreConnected (take k merges)) all m.left m.right m.why (sound.justified k m at);
  derives = λ m has. theorems.more hyps more_hyps given more_given
      (λ x y h. theorems.states more_hyps more_given x y (h.0, all h.0 h.1, h.2))
      (λ x y among. theorems.among more_hyps more_given x y (each (record { left = x; right = y }) among)) m.left m.right (sound.derives m has);
}

module _ (d : Declarations) (terms : Terms) (single : List Bool) (hyps : List Lit) (given : List Equation) (reps new : List TermId) (cons more : List (Option TermId)) (merges after : List Merge) (left right : TermId) where
  -- an equation is given, and its merge is added
  pub AreHeld-given : AreHeld d terms single hyps given reps cons merges → IsJoined reps new left right → IsSound d terms hyps (given ++ (record { left = left; right = right }) ∷ []) new more after → AreHeld d terms single hyps (given ++ (record { left = left; right = right }) ∷ []) new more after
  AreHeld-given held joined sound =
      let e : Equation = record { left = left; right = right } in
      record {
        sound = sound;
        sorted = held.sorted;
        sorts = held.sorts;
        stripped = held.stripped;
        states = λ x y h. joined.keeps x y (held.states x y h);
        gives = λ x y among. elim (Contains-push_cases given e (record { left = x; right = y }) among) [
          | inl before ↦ joined.keeps x y (held.gives x y before)
          | inr last ↦ subst (λ (k : Equation). InOneClass new k.left k.right) last joined.joins
        ];
      }

  -- a literal is held to be true, and the merge of what it states is added
  pub AreHeld-supposed : (l : Lit) → AreHeld d terms single hyps given reps cons merges → IsStripped terms l.term → States l left right → IsJoined reps new left right → IsSound d terms (hyps ++ l ∷ []) given new more after → AreHeld d terms single (hyps ++ l ∷ []) given new more after
  AreHeld-supposed l held stripped states joined sound = record {
    sound = sound;
    sorted = held.sorted;
    sorts = held.sorts;
    stripped = λ h has. elim (Contains-push_cases hyps l h has) [
      | inl before ↦ held.stripped h before
      | inr last ↦ subst (λ (q : Lit). IsStripped terms q.term) last stripped
    ];
    states = λ x y h. elim (Contains-push_cases hyps l h.0 h.1) [
      | inl before ↦ joined.keeps x y (held.states x y (h.0, before, h.2))
      | inr last ↦
          let stated : States l x y = subst (λ (q : Lit). States q x y) (sym last) h.2 in
          subst (λ (q : TermId). InOneClass new q y) (states.0 ∙ sym stated.0) (subst (InOneClass new left) (states.1 ∙ sym stated.1) joined.joins)
    ];
    gives = λ x y among. joined.keeps x y (held.gives x y among);
  }

-- later classes that are sound keep the same
pub AreHeld-later : (d : Declarations) (terms : Terms) (single : List Bool) (hyps : List Lit) (given : List Equation) (reps new : List TermId) (cons more : List (Option TermId)) (merges after : List Merge) → AreHeld d terms single hyps given reps cons merges → IsLater reps new merges after → IsSound d terms hyps given new more after → AreHeld d terms single hyps given new more after
AreHeld-later d terms single hyps given reps new cons more merges after held later sound = record {
  sound = sound;
  sorted = held.sorted;
  sorts = held.sorts;
  stripped = held.stripped;
  states = λ x y h. later.keeps x y (held.states x y h);
  gives = λ x y h. later.keeps x y (held.gives x y h);
}

-- at the beginning
pub AreHeld-first : (d : Declarations) (terms : Terms) (single : List Bool) (hyps : List Lit) (reps : List TermId) (cons : List (Option TermId)) (merges : List Merge) → AreSorted d terms → AreSingleSorts d single → ((l : Lit) → Contains hyps l → IsStripped terms l.term) → IsSound d terms hyps [] reps cons merges → ((x y : TermId) → IsHypothesis hyps x y → InOneClass reps x y) → AreHeld d terms single hyps [] reps cons merges
AreHeld-first d terms single hyps reps cons merges sorted sorts stripped sound states = record {
  sound = sound;
  sorted = sorted;
  sorts = sorts;
  stripped = stripped;
  states = states;
  gives = λ x y among. absurd (omega (arith, among.1));
}

-- the terms `true` and `false` are the first two
pub truth_inside : (b : Bool) (n : ℕ) → 2 ≤ n → (truth_term b).0 < n
truth_inside true n two = omega (arith, two)
truth_inside false n two = omega (arith, two)

-- ---- closed classes

pub IsClosed-of : (state : State) (single : List Bool) → Theorems state.declarations state.terms state.hypotheses state.given → AreHeld state.declarations state.terms single state.hypotheses state.given state.reps state.cons state.merges → AreRulesClosed state.declarations state.terms (InOneClass state.reps) → IsClosed state
IsClosed-of state single theorems held closed = record {
  exact = λ t u inside_t inside_u. (
    Derives-class state.declarations state.terms state.hypotheses state.given theorems state.reps state.cons state.merges held.sound t u,
    InOneClass-derives state.declarations state.terms state.hypotheses state.given theorems state.reps held.sound.long closed held.states held.gives t u,
  );
  closed = Follows-closed state.declarations state.terms state.reps held.sound.long closed;
}

pub IsAnswer-of : (state : State) (answer : Closed) → IsClosed state → IsVerdict state.terms state.reps answer → IsAnswer state answer
IsAnswer-of state Quiet closed one = record { closed = closed; one = one }
IsAnswer-of state (Clash a b) closed clash = clash

pub IsAnswer-found : (state : State) (answer : Closed) → (answer ≡ Quiet → IsClosed state) → IsVerdict state.terms state.reps answer → IsAnswer state answer
IsAnswer-found state Quiet closed verdict = IsAnswer-of state Quiet (closed refl) verdict
IsAnswer-found state (Clash a b) closed verdict = verdict

-- ---- stored constructor terms

pub IsConOf-found : (terms : Terms) (reps : List TermId) (t r : TermId) (c : Option TermId) → slice_get reps t.0 ≡ Some r → IsConOf terms reps r c → IfSome c (λ k. IsConstructorTerm terms k × InOneClass reps t k)
IsConOf-found terms reps t r None at h = tt
IsConOf-found terms reps t r (Some k) at h = (h.1, (r, at, h.0))

pub IsConOf-none : (terms : Terms) (reps : List TermId) (t r : TermId) (c : Option TermId) → slice_get reps t.0 ≡ Some r → IsConOf terms reps r c → IfNone c ((k : TermId) → IsConstructorTerm terms k → InOneClass reps t k → ⊥)
IsConOf-none terms reps t r None at h = λ k built equal. h k (equal.2 ∙ sym equal.1 ∙ at) built
IsConOf-none terms reps t r (Some k) at h = tt

-- ---- merges from outside

-- what a merge from outside that no literal states comes to
abbrev IsGivenOutside : Declarations → Terms → List Lit → List Equation → Equations → TermId → TermId → Reason → Type 0
IsGivenOutside d terms hyps given known x y why =
    (IsOutsideOf d terms hyps known x y why → IsReason d terms hyps known x y why)
    × (hypotheses_with hyps why ≡ hyps)
    × (given_with given x y why ≡ given ++ (record { left = x; right = y }) ∷ [])

pub given_outside : (d : Declarations) (terms : Terms) (hyps : List Lit) (given : List Equation) (known : Equations) (x y : TermId) (why : Reason) → ((l : Lit) → why ≡ Hyp l → ⊥) → IsGivenOutside d terms hyps given known x y why
given_outside d terms hyps given known x y (Hyp l) other = absurd (other l refl)
given_outside d terms hyps given known x y (Cong t u) other = (λ h. h, refl, refl)
given_outside d terms hyps given known x y (Inject a b k) other = (λ h. h, refl, refl)
given_outside d terms hyps given known x y (Sel t c) other = (λ h. h, refl, refl)
given_outside d terms hyps given known x y (Test t c) other = (λ h. h, refl, refl)
given_outside d terms hyps given known x y (Expand t c) other = (λ h. h, refl, refl)
given_outside d terms hyps given known x y (EqualIn t) other = (λ h. h, refl, refl)
given_outside d terms hyps given known x y (EqualOut t) other = (λ h. h, refl, refl)
given_outside d terms hyps given known x y (Neg t) other = (λ h. h, refl, refl)
given_outside d terms hyps given known x y Single other = (λ h. h, refl, refl)
given_outside d terms hyps given known x y (Unique pairs) other = (λ h. h, refl, refl)

-- its reason holds under the hypotheses after it, and they are over stripped terms
reason_outside : (d : Declarations) (terms : Terms) (hyps : List Lit) (known : Equations) (x y : TermId) (why : Reason) → IsOutsideOf d terms hyps known x y why → IsReason d terms (hypotheses_with hyps why) known x y why
reason_outside d terms hyps known x y (Hyp l) h = (Contains-push hyps l, h.1)
reason_outside d terms hyps known x y (Cong t u) h = h
reason_outside d terms hyps known x y (Inject a b k) h = h
reason_outside d terms hyps known x y (Sel t c) h = h
reason_outside d terms hyps known x y (Test t c) h = h
reason_outside d terms hyps known x y (Expand t c) h = h
reason_outside d terms hyps known x y (EqualIn t) h = h
reason_outside d terms hyps known x y (EqualOut t) h = h
reason_outside d terms hyps known x y (Neg t) h = h
reason_outside d terms hyps known x y Single h = h
reason_outside d terms hyps known x y (Unique pairs) h = h

hypotheses_grow : (hyps : List Lit) (why : Reason) (l : Lit) → Contains hyps l → Contains (hypotheses_with hyps why) l
hypotheses_grow hyps (Hyp h) l has = Contains-append_left hyps (h ∷ []) l has
hypotheses_grow hyps (Cong t u) l has = has
hypotheses_grow hyps (Inject a b k) l has = has
hypotheses_grow hyps (Sel t c) l has = has
hypotheses_grow hyps (Test t c) l has = has
hypotheses_grow hyps (Expand t c) l has = has
hypotheses_grow hyps (EqualIn t) l has = has
hypotheses_grow hyps (EqualOut t) l has = has
hypotheses_grow hyps (Neg t) l has = has
hypotheses_grow hyps Single l has = has
hypotheses_grow hyps (Unique pairs) l has = has

stripped_outside : (d : Declarations) (terms : Terms) (hyps : List Lit) (known : Equations) (x y : TermId) (why : Reason) → ((l : Lit) → Contains hyps l → IsStripped terms l.term) → IsOutsideOf d terms hyps known x y why → (l : Lit) → Contains (hypotheses_with hyps why) l → IsStripped terms l.term
stripped_outside d terms hyps known x y (Hyp h) stripped outside l has = elim (Contains-push_cases hyps h l has) [
  | inl before ↦ stripped l before
  | inr last ↦ subst (λ (q : Lit). IsStripped terms q.term) last outside.0
]
stripped_outside d terms hyps known x y (Cong t u) stripped outside l has = stripped l has
stripped_outside d terms hyps known x y (Inject a b k) stripped outside l has = stripped l has
stripped_outside d terms hyps known x y (Sel t c) stripped outside l has = stripped l has
stripped_outside d terms hyps known x y (Test t c) stripped outside l has = stripped l has
stripped_outside d terms hyps known x y (Expand t c) stripped outside l has = stripped l has
stripped_outside d terms hyps known x y (EqualIn t) stripped outside l has = stripped l has
stripped_outside d terms hyps known x y (EqualOut t) stripped outside l has = stripped l has
stripped_outside d terms hyps known x y (Neg t) stripped outside l has = stripped l has
stripped_outside d terms hyps known x y Single stripped outside l has = stripped l has
stripped_outside d terms hyps known x y (Unique pairs) stripped outside l has = stripped l has

-- its sides are terms of the table
pub sides_outside : (d : Declarations) (terms : Terms) (single : List Bool) (hyps : List Lit) (given : List Equation) (reps : List TermId) (cons : List (Option TermId)) (merges : List Merge) (x y : TermId) (why : Reason) → ((all : List Lit) → AreSorted d terms → ((l : Lit) → Contains all l → IsStripped terms l.term) → AreJustified d terms all merges → IsReason d terms all (InOneClass reps) x y why → (s : SortId) × IsOfSort terms x s × IsOfSort terms y s) → AreHeld d terms single hyps given reps cons merges → IsOutsideOf d terms hyps (InOneClass reps) x y why → (x.0 < length terms) × (y.0 < length terms)
sides_outside d terms single hyps given reps cons merges x y why sides held outside =
    let all = hypotheses_with hyps why in
    let justified : AreJustified d terms all merges = λ k m at. IsReason-more d terms hyps all (AreConnected (take k merges)) (hypotheses_grow hyps why) m.left m.right m.why (held.sound.justified k m at) in
    let s = sides all held.sorted (stripped_outside d terms hyps (InOneClass reps) x y why held.stripped outside) justified (reason_outside d terms hyps (InOneClass reps) x y why outside) in
    (slice_get_within terms x.0 (s.1.0, s.0) s.1.1, slice_get_within terms y.0 (s.2.0, s.0) s.2.1)
