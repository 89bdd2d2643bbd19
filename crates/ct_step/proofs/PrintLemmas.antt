-- What is printed of the core of the derivation that the last check left.
use Rattle.std.proofs.Common.{◌≡◌, ◌∙◌, ℕ, Bool, true, false, true≢false, List, [], ◌∷◌, ◌++◌, All, Option, None, Some, is_none, Result, Ok, Err, IfOk, OnErr, IsErrOf, option_map, refl, sym, ap, subst, inl, inr}
use Rattle.std.specs.Global.{Box}
use Rattle.std.specs.Bool.{MatchBool}
use Rattle.std.proofs.lemmas.List.{append-nil}
use Rattle.std.proofs.lemmas.List.Elements.{All-nil, All-cons, All-head, All-tail, All-append, All-map}
use Rattle.std.proofs.lemmas.Option.{none-some, same_Some}
use Rattle.ct_sorts.specs.Declarations.{Declarations, bool_sort}
use Rattle.ct_sorts.specs.Consistent.{IsConsistent}
use Rattle.ct_terms.specs.declared.ids.TermId.{TermId}
use Rattle.ct_terms.specs.Terms.{Terms}
use Rattle.ct_formulas.specs.Formula.{Formula}
use Rattle.ct_formulas.specs.FormulaSorts.{IsSorted, AreSound}
use Rattle.ct_closure.specs.Closed.{HasMoreThan, most_closure_terms}
use Rattle.ct_closure.specs.ClosedTable.{terms_at}
use Rattle.ct_log.specs.Acceptance.{Passes}
use Rattle.ct_log.specs.Recorded.{Derived}
use Rattle.ct_command.specs.declared.error.CommandError.{CommandError}
use Rattle.ct_command.specs.declared.error.CommandError.TheVariants.{Refused, NoMemory}
use Rattle.ct_command.specs.Command.{Command, get_unsat_core, get_unsat_assumptions}
use Rattle.ct_core.specs.Core.{IsCore}
use Rattle.ct_core.specs.declared.unsat_core.UnsatCore.{UnsatCore}
use Rattle.ct_engine.specs.declared.verdict.Verdict.{Verdict}
use Rattle.ct_engine.specs.Verdict.{IsRefutation}
use Rattle.ct_shrink.specs.declared.shrunk.Shrunk.{Shrunk}
use Rattle.ct_shrink.specs.Shrunk.{IsCoreOf, IsRefutedAt, IsShrunk}
use Rattle.ct_stack.specs.Stack.{Stack, Context, in_force, cores}
use Rattle.ct_stack.specs.Held.{IsSoundLevel, IsHeld, as_one}
use Rattle.ct_stack.specs.declared.assuming.Assumption.{Assumption as Assumed}
use Rattle.ct_stack.specs.Assuming.{Assumption, IsTruth, assuming, assumed_formulas, with_assumed, assumption_seen, assumptions_seen}
use Rattle.ct_step.specs.declared.answer.Answer.{Answer}
use Rattle.ct_step.specs.declared.cores.Members.{Members}
use Rattle.ct_step.specs.declared.cores.Members.TheVariants as members
use Rattle.ct_step.specs.declared.state.Asked.{Asked}
use Rattle.ct_step.specs.declared.state.SessionState.{SessionState}
use Rattle.ct_step.specs.Numbers.{no_derivation}
use Rattle.ct_step.specs.Options.{budget}
use Rattle.ct_step.specs.Evidence.{of_core}
use Rattle.ct_step.specs.State.{State, Kept, Refuted, context_of, declared, asked, derivation_in, derived_kept, refuted_kept, assuming_kept}
use Rattle.ct_step.specs.Verdict.{Refutes}
use Rattle.ct_step.specs.Cores.{HasCore, IsShrunkTo, core_text}
use Rattle.ct_step.specs.Refusal.{IsRefusal}
use Rattle.ct_step.specs.Step.{CommandEffect, Does, OfKept, PrintsCore, said}
use Rattle.ct_step.specs.Done.{IsSound, IsAnswer, IsSame, IsDone, Performs, state_of, evidence_of, kept_of, assumed_in, is_of_assumptions}
use Rattle.ct_step.specs.Printing.{IsKeptCore, Prints, IsPrinted}
use Rattle.ct_step.proofs.EvidenceLemmas.{both_same, nothing_later}
use Rattle.ct_step.proofs.SoundLemmas.{same_state}
use Rattle.ct_step.proofs.VerdictLemmas.{Assertions, truth}
use Rattle.ct_step.proofs.CoreLemmas.{refutes_at, shrunk_to}

-- the theorems on cores of refutations
abbrev pub MeetCondition : Type 0
MeetCondition = (d : Declarations) (table : Terms) (asserts : List TermId) (derived core : Derived) (places : List ℕ) → IsRefutation d table asserts derived → IsCore derived places core → Passes d core.rec.terms core.asserts core.rec.lines → IsCoreOf d table asserts places core

abbrev pub AreRefuted : Type 0
AreRefuted = (d : Declarations) (table : Terms) (asserts : List TermId) (derived core : Derived) (places : List ℕ) → IsConsistent d → IsRefutation d table asserts derived → IsCore derived places core → Passes d core.rec.terms core.asserts core.rec.lines → IsRefutedAt d table asserts places core

-- an assertion in force and an assumption are Boolean
pub asked_sorted : (s : State) (assumed : List Assumption) → IsSoundLevel (as_one s.stack) → All (λ (a : Assumption). IsSorted (declared s) [] a.formula bool_sort) assumed → All (λ t. IsSorted (declared s) [] t bool_sort) (asked s assumed)
asked_sorted s assumed sound sorted =
    All-append (λ t. IsSorted (declared s) [] t bool_sort) (in_force s.stack) (assumed_formulas assumed) sound.asserts
    (All-map (λ t. IsSorted (declared s) [] t bool_sort) (λ (a : Assumption). a.formula) assumed sorted)

-- what is refuted is refuted over each table of the core terms
module _ (assertions : Assertions) (c : Context) (asserts : List Formula) (table : Terms) (numbers : List TermId) (consistent : IsConsistent c.declarations) (sound : AreSound c.declarations c.bodies)
    (sorted : All (λ t. IsSorted c.declarations [] t bool_sort) asserts) (stand : terms_at table numbers ≡ cores c asserts) where
  pub refutation : (derived : Derived) → Refutes c asserts derived → IsRefutation c.declarations table numbers derived
  refutation derived is =
      record {
        declarations = is.declarations;
        is_table = is.is_table;
        sorted = is.sorted;
        asserted = is.asserted ∙ sym stand;
        passes = is.passes;
        no_model = λ i proper holds. is.no_model i (record { proper = proper; holds = (truth assertions c asserts table numbers consistent sound sorted stand i proper).0 holds });
      }

-- the core of a refutation
pub core_is : Assertions → AreRefuted → (c : Context) (asserts : List Formula) → IsConsistent c.declarations → AreSound c.declarations c.bodies → All (λ t. IsSorted c.declarations [] t bool_sort) asserts → (derived core : Derived) (places : List ℕ) → Refutes c asserts derived → IsCore derived places core → Passes c.declarations core.rec.terms core.asserts core.rec.lines → HasCore c asserts derived places
core_is assertions are_refuted c asserts consistent sound sorted derived core places refutes is passes =
    let own = refutation assertions c asserts derived.rec.terms derived.asserts consistent sound sorted refutes.asserted derived refutes in
    record {
      core = core;
      is_core = is;
      refutes =
          refutes_at assertions c asserts derived.rec.terms derived.asserts consistent sound sorted refutes.asserted places core
          (are_refuted c.declarations derived.rec.terms derived.asserts derived core places consistent own is passes);
    }

-- a derivation that is kept is kept with what its check assumed
kept_with : (kept : Option Kept) (derived : Derived) → derived_kept kept ≡ Some derived → (k : Kept) × (kept ≡ Some k) × (refuted_kept kept ≡ Some (record { derived = derived; assumed = k.assumed }))
kept_with None derived e = absurd (none-some derived e)
kept_with (Some k) derived e = (k, refl, ap (λ (o : Option Derived). option_map (λ d. record { derived = d; assumed = k.assumed }) o) e)

-- and that is what was asked
assumed_kept : (last : Option Verdict) (asked : Option Asked) (k : Kept) → kept_of last asked ≡ Some k → k.assumed ≡ assumptions_seen (assumed_in asked)
assumed_kept last None k e = absurd (none-some k e)
assumed_kept last (Some a) k e = by last e
  where
    by : (o : Option Verdict) → option_map (λ v. record { verdict = v; assumed = assumptions_seen a.assumed.items; number = a.number }) o ≡ Some k → k.assumed ≡ assumptions_seen a.assumed.items
    by None e = absurd (none-some k e)
    by (Some v) e = ap (λ (x : Kept). x.assumed) (sym (same_Some (record { verdict = v; assumed = assumptions_seen a.assumed.items; number = a.number }) k e))

-- the core of the derivation that is kept
module _ (assertions : Assertions) (are_refuted : AreRefuted) (s : SessionState) (holds : IsSound (state_of s)) (level : IsSoundLevel (as_one s.stack)) (consistent : IsConsistent (declared (state_of s)))
    (derived : Derived) (stands : derived_kept (state_of s).kept ≡ Some derived) where
  -- what the check asked is refuted
  pub kept_refutes : (refuted : Refuted) × (refuted_kept (state_of s).kept ≡ Some refuted) × (refuted.derived ≡ derived) × (refuted.assumed ≡ assumptions_seen (assumed_in s.kept)) × Refutes (context_of (state_of s)) (asked (state_of s) refuted.assumed) derived
      × All (λ t. IsSorted (declared (state_of s)) [] t bool_sort) (asked (state_of s) refuted.assumed)
  kept_refutes =
      let with_own = kept_with (state_of s).kept derived stands in
      let k = with_own.0 in
      let refuted : Refuted = record { derived = derived; assumed = k.assumed } in
      let was = holds.was_asked k with_own.1 in
      let own : refuted_kept (Some k) ≡ Some refuted = subst (λ (o : Option Kept). refuted_kept o ≡ Some refuted) with_own.1 with_own.2 in
      (refuted, with_own.2, refl, assumed_kept s.last s.kept k with_own.1, was.refutes refuted own, asked_sorted (state_of s) k.assumed level was.sorted)

  pub is_kept_core : (core : UnsatCore) → IsCore derived core.places.items core.derivation
      → (Passes (declared (state_of s)) derived.rec.terms derived.asserts derived.rec.lines → Passes (declared (state_of s)) core.derivation.rec.terms core.derivation.asserts core.derivation.rec.lines)
      → IsKeptCore s core
  unfolding kept_refutes
  is_kept_core core is passes =
      let own = kept_refutes in
      let refuted = own.0 in
      let refutes = own.4 in
      let core_passes = passes refutes.passes in
      record {
        refuted = refuted;
        kept = own.1;
        assumed = own.3;
        is_core = is;
        passes = core_passes;
        has_core = core_is assertions are_refuted (context_of (state_of s)) (asked (state_of s) refuted.assumed) consistent level.bodies own.5 derived core.derivation core.places.items refutes is core_passes;
      }

  -- in a box, or not there
  pub kept_box : (sig : Declarations) → sig ≡ declared (state_of s) → (r : Result (Box UnsatCore) CommandError) → IfOk r (λ core. IsCore derived core.value.places.items core.value.derivation)
      → IfOk r (λ core. Passes sig derived.rec.terms derived.asserts derived.rec.lines → Passes sig core.value.derivation.rec.terms core.value.derivation.asserts core.value.derivation.rec.lines)
      → IfOk r (λ core. IsKeptCore s core.value)
  kept_box sig is (Ok core) of passes =
      is_kept_core core.value of (subst (λ (d : Declarations). Passes d derived.rec.terms derived.asserts derived.rec.lines → Passes d core.value.derivation.rec.terms core.value.derivation.asserts core.value.derivation.rec.lines) is passes)
  kept_box sig is (Err e) of passes = tt

-- out of memory is no refusal
is_refusal : {T : Type 0} → Result T CommandError → Bool
is_refusal (Ok x) = false
is_refusal (Err (Refused n)) = true
is_refusal (Err NoMemory) = false

pub never_refused : {T : Type 0} (r : Result T CommandError) → OnErr r (r ≡ Err NoMemory) → (n : ℕ) → IsErrOf r (Refused n) → ⊥
unfolding is_refusal
never_refused (Ok x) none n e = true≢false (sym (ap is_refusal e))
never_refused (Err x) none n e = true≢false (sym (ap is_refusal e) ∙ ap is_refusal none)

-- what is printed of the core
module _ (old new : SessionState) (members : Members) (core : UnsatCore) (is : IsKeptCore old core) (a : Answer) where
  as_kept : (places : List ℕ) → core_text members (state_of old) (assumptions_seen (assumed_in old.kept)) places ≡ core_text members (state_of old) is.refuted.assumed places
  as_kept places = ap (λ (assumed : List Assumption). core_text members (state_of old) assumed places) (sym is.assumed)

  -- as it is
  pub prints_whole : old.options.minimal_unsat_cores ≡ false → IsSame old new → ((s : State) → IsAnswer (said s (core_text members (state_of old) (assumptions_seen (assumed_in old.kept)) core.places.items)) a) → Prints old members new a
  prints_whole whole same answer =
      let text = core_text members (state_of old) is.refuted.assumed core.places.items in
      let e : CommandEffect = said (state_of old) text in
      record {
        refuted = is.refuted;
        kept = is.kept;
        effect = e;
        printed = (
          core.places.items,
          is.has_core,
          subst (λ (b : Bool). MatchBool b ((shrunk : Shrunk) × IsShrunkTo (context_of (state_of old)) (asked (state_of old) is.refuted.assumed) (budget old.options) core.places.items shrunk
              × (e ≡ record (said (state_of old) (core_text members (state_of old) is.refuted.assumed shrunk.core.places.items)) { evidence = of_core shrunk })) (e ≡ e)) (sym whole) refl,
        );
        state = same_state old new same;
        given = both_same _ _ _ _ _ _ same.responses same.last same.shrunk ∙ sym (nothing_later (evidence_of old));
        answer = subst (λ (t : List ℕ). IsAnswer (said (state_of old) t) a) (as_kept core.places.items) (answer (state_of old));
      }

  -- shrunk
  pub prints_shrunk : (shrunk : Shrunk) → old.options.minimal_unsat_cores ≡ true → IsShrunkTo (context_of (state_of old)) (asked (state_of old) (assumptions_seen (assumed_in old.kept))) (budget old.options) core.places.items shrunk
      → state_of new ≡ state_of old → new.responses.items ≡ old.responses.items → new.last ≡ old.last → new.shrunk ≡ Some shrunk
      → ((s : State) → IsAnswer (said s (core_text members (state_of old) (assumptions_seen (assumed_in old.kept)) shrunk.core.places.items)) a) → Prints old members new a
  prints_shrunk shrunk minimal to same responses last shrunk_now answer =
      let text = core_text members (state_of old) is.refuted.assumed shrunk.core.places.items in
      let e : CommandEffect = record (said (state_of old) text) { evidence = of_core shrunk } in
      let to_kept = subst (λ (assumed : List Assumption). IsShrunkTo (context_of (state_of old)) (asked (state_of old) assumed) (budget old.options) core.places.items shrunk) (sym is.assumed) to in
      let own : IsAnswer (said (state_of old) text) a = subst (λ (t : List ℕ). IsAnswer (said (state_of old) t) a) (as_kept shrunk.core.places.items) (answer (state_of old)) in
      record {
        refuted = is.refuted;
        kept = is.kept;
        effect = e;
        printed = (
          core.places.items,
          is.has_core,
          subst (λ (b : Bool). MatchBool b ((other : Shrunk) × IsShrunkTo (context_of (state_of old)) (asked (state_of old) is.refuted.assumed) (budget old.options) core.places.items other
              × (e ≡ record (said (state_of old) (core_text members (state_of old) is.refuted.assumed other.core.places.items)) { evidence = of_core other })) (e ≡ said (state_of old) (core_text members (state_of old) is.refuted.assumed core.places.items))) (sym minimal) (shrunk, to_kept, refl),
        );
        state = same;
        given = both_same _ _ _ _ _ _ (responses ∙ sym (append-nil old.responses.items)) last shrunk_now;
        answer = record { text = own.text; error = own.error; stop = own.stop };
      }

-- what was asked of the check that left the core
kept_from : (kept : Option Kept) (refuted : Refuted) → refuted_kept kept ≡ Some refuted → (k : Kept) × (kept ≡ Some k) × (k.assumed ≡ refuted.assumed)
kept_from None refuted e = absurd (none-some refuted e)
kept_from (Some k) refuted e = (k, refl, by (derivation_in k.verdict) e)
  where
    by : (o : Option Derived) → option_map (λ derived. record { derived = derived; assumed = k.assumed }) o ≡ Some refuted → k.assumed ≡ refuted.assumed
    by None e = absurd (none-some refuted e)
    by (Some derived) e = ap (λ (x : Refuted). x.assumed) (same_Some (record { derived = derived; assumed = k.assumed }) refuted e)

truths : (d : Declarations) (assumed : List Assumed) → All (λ (a : Assumption). IsSorted d [] a.formula bool_sort) (assumptions_seen assumed) → All (IsTruth d) assumed
truths d [] all = All-nil (IsTruth d)
truths d (a ∷ assumed) all =
    All-cons (IsTruth d) a assumed
    (All-head (λ (x : Assumption). IsSorted d [] x.formula bool_sort) (assumption_seen a) (assumptions_seen assumed) all)
    (truths d assumed (All-tail (λ (x : Assumption). IsSorted d [] x.formula bool_sort) (assumption_seen a) (assumptions_seen assumed) all))

module _ (s : SessionState) (holds : IsSound (state_of s)) (core : UnsatCore) (is : IsKeptCore s core) where
  abbrev assumed_then : List Assumption
  assumed_then = assumptions_seen (assumed_in s.kept)

  pub were_asked : All (IsTruth (declared (state_of s))) (assumed_in s.kept)
      × (HasMoreThan (declared (state_of s)) (cores (context_of (state_of s)) (asked (state_of s) assumed_then)) most_closure_terms → ⊥)
      × Refutes (context_of (state_of s)) (asked (state_of s) assumed_then) is.refuted.derived
  were_asked =
      let from = kept_from (state_of s).kept is.refuted is.kept in
      let k = from.0 in
      let was = holds.was_asked k from.1 in
      let own : refuted_kept (Some k) ≡ Some is.refuted = subst (λ (o : Option Kept). refuted_kept o ≡ Some is.refuted) from.1 is.kept in
      let same : k.assumed ≡ assumed_then = from.2 ∙ is.assumed in (
        truths (declared (state_of s)) (assumed_in s.kept) (subst (All (λ (a : Assumption). IsSorted (declared (state_of s)) [] a.formula bool_sort)) same was.sorted),
        subst (λ (assumed : List Assumption). HasMoreThan (declared (state_of s)) (cores (context_of (state_of s)) (asked (state_of s) assumed)) most_closure_terms → ⊥) same was.fits,
        subst (λ (assumed : List Assumption). Refutes (context_of (state_of s)) (asked (state_of s) assumed) is.refuted.derived) same (was.refutes is.refuted own),
      )

-- what the check asked has its core terms in a table
module _ (assertions : Assertions) (s : Stack) (assumed : List Assumption) (d : Declarations) (table : Terms) (numbers : List TermId) (is : d ≡ s.top.context.declarations) (held : IsHeld (with_assumed (as_one s) assumed) table numbers) (consistent : IsConsistent d) where
  own_consistent : IsConsistent s.top.context.declarations
  own_consistent = subst IsConsistent is consistent

  -- so a core is shrunk
  pub shrunk_of : (budget : ℕ) (given : List ℕ) (shrunk : Shrunk) → IsShrunk d table numbers budget given shrunk → IsShrunkTo s.top.context (assuming s assumed) budget given shrunk
  shrunk_of budget given shrunk to =
      shrunk_to assertions s.top.context (assuming s assumed) table numbers own_consistent held.sound.bodies held.sound.asserts held.in_table.stand budget given shrunk
      (subst (λ (x : Declarations). IsShrunk x table numbers budget given shrunk) is to)

  -- and a core of a refutation can be
  pub can_shrink : MeetCondition → (derived core : Derived) (places : List ℕ) → Refutes s.top.context (assuming s assumed) derived → IsCore derived places core → Passes s.top.context.declarations core.rec.terms core.asserts core.rec.lines → IsCoreOf d table numbers places core
  can_shrink meet derived core places refutes is_core passes =
      subst (λ (x : Declarations). IsCoreOf x table numbers places core) (sym is)
      (meet s.top.context.declarations table numbers derived core places
      (refutation assertions s.top.context (assuming s assumed) table numbers own_consistent held.sound.bodies held.sound.asserts held.in_table.stand derived refutes) is_core passes)

-- what becomes of the two commands
of_kept : {X : Type 0} (m : Option X) (x : X) (P : X → Type 0) → m ≡ Some x → P x → OfKept m P
of_kept {X} m x P e h = subst (λ (o : Option X). OfKept o P) (sym e) h

no_refuted : (kept : Option Kept) → derived_kept kept ≡ None → refuted_kept kept ≡ None
no_refuted None e = refl
no_refuted (Some k) e = ap (λ (o : Option Derived). option_map (λ d. record { derived = d; assumed = k.assumed }) o) e

there : {X : Type 0} (m : Option X) (x : X) → m ≡ Some x → m ≡ None → ⊥
there m x stands e = none-some x (sym e ∙ stands)

printed_is : (old new : SessionState) (number : ℕ) (c : Command) (members : Members) (a : Answer) (p : Prints old members new a) → ((n : ℕ) → IsRefusal (state_of old) c n → ⊥) → Does (state_of old) number c p.effect → Performs old number c new a
printed_is old new number c members a p accepted does = record { effect = p.effect; accepted = (accepted, does); state = p.state; given = p.given; answer = p.answer }

pub core_done : (old new : SessionState) (number : ℕ) (r : Result Answer CommandError) → IsPrinted old members.Names new r → IsDone old number get_unsat_core new r
core_done old new number (Ok a) p =
    printed_is old new number get_unsat_core members.Names a p (λ n refusal. elim refusal [ inl first ↦ there (refuted_kept (state_of old).kept) p.refuted p.kept first.1 | inr later ↦ absurd later.1 ])
    (of_kept (refuted_kept (state_of old).kept) p.refuted (λ refuted. PrintsCore (state_of old) members.Names refuted p.effect) p.kept p.printed)
core_done old new number (Err (Refused n)) p = (inl (p.0, no_refuted (state_of old).kept p.1), p.2)
core_done old new number (Err NoMemory) p = p

-- a check with assumptions has no number
of_assumptions : (last : Option Verdict) (asked : Option Asked) → is_of_assumptions asked ≡ true → assuming_kept (kept_of last asked) ≡ refuted_kept (kept_of last asked)
of_assumptions last None e = refl
of_assumptions last (Some a) e = by last a.number e
  where
    by : (o : Option Verdict) (number : Option ℕ) → is_none number ≡ true → assuming_kept (option_map (λ v. record { verdict = v; assumed = assumptions_seen a.assumed.items; number = number }) o) ≡ refuted_kept (option_map (λ v. record { verdict = v; assumed = assumptions_seen a.assumed.items; number = number }) o)
    by None number e = refl
    by (Some v) None e = refl
    by (Some v) (Some n) e = absurd (true≢false (sym e))

pub not_of_assumptions : (last : Option Verdict) (asked : Option Asked) → is_of_assumptions asked ≡ false → assuming_kept (kept_of last asked) ≡ None
not_of_assumptions last None e = refl
not_of_assumptions last (Some a) e = by last a.number e
  where
    by : (o : Option Verdict) (number : Option ℕ) → is_none number ≡ false → assuming_kept (option_map (λ v. record { verdict = v; assumed = assumptions_seen a.assumed.items; number = number }) o) ≡ None
    by None number e = refl
    by (Some v) None e = absurd (true≢false e)
    by (Some v) (Some n) e = refl

pub assumptions_done : (old new : SessionState) (number : ℕ) (r : Result Answer CommandError) → is_of_assumptions old.kept ≡ true → IsPrinted old members.Assumptions new r → IsDone old number get_unsat_assumptions new r
assumptions_done old new number (Ok a) assuming p =
    let kept : assuming_kept (state_of old).kept ≡ Some p.refuted = of_assumptions old.last old.kept assuming ∙ p.kept in
    printed_is old new number get_unsat_assumptions members.Assumptions a p (λ n refusal. elim refusal [ inl first ↦ there (assuming_kept (state_of old).kept) p.refuted kept first.1 | inr later ↦ absurd later.1 ])
    (of_kept (assuming_kept (state_of old).kept) p.refuted (λ refuted. PrintsCore (state_of old) members.Assumptions refuted p.effect) kept p.printed)
assumptions_done old new number (Err (Refused n)) assuming p = (inl (p.0, of_assumptions old.last old.kept assuming ∙ no_refuted (state_of old).kept p.1), p.2)
assumptions_done old new number (Err NoMemory) assuming p = p

-- nothing is printed
pub not_printed : {T : Type 0} (old new : SessionState) (members : Members) (e : CommandError) → ((n : ℕ) → IsErrOf {T = T} {E = CommandError} (Err e) (Refused n) → (n ≡ no_derivation) × (derived_kept (state_of old).kept ≡ None)) → IsSame old new → IsPrinted old members new (Err e)
not_printed old new members (Refused n) why same = let w = why n refl in (w.0, w.1, same)
not_printed old new members NoMemory why same = same

pub out_of_memory : {T : Type 0} (old new : SessionState) (members : Members) (e : CommandError) → IsErrOf {T = T} {E = CommandError} (Err e) NoMemory → IsSame old new → IsPrinted old members new (Err e)
out_of_memory old new members e is same =
    let none : e ≡ NoMemory = cc in
    subst (λ (x : CommandError). IsPrinted old members new (Err x)) (sym none) same

-- nothing has changed
pub unchanged : (s : SessionState) → IsSame s s
unchanged s = record { stack = refl; labels = refl; options = refl; diagnostic_output = refl; responses = refl; last = refl; shrunk = refl; kept = refl }
