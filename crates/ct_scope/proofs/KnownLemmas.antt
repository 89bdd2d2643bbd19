-- The map of calls: its test tells calls apart, so that one more call changes no other.
use Rattle.std.proofs.Common.{◌≡◌, ◌⊎◌, Bool, true, false, cond, Some, nat_eq, Decides, refl, sym, ap, ◌∙◌, inl, inr}
use Rattle.std.proofs.lemmas.Bool.Decides.{Decides-and, Decides-eqb}
use Rattle.std.proofs.lemmas.Option.{same_Some}
use lib.Pointwise.{pointwise_decides}
use Rattle.indexmap.specs.IndexMap.{IndexMap, get}
use Rattle.ct_terms.specs.declared.ids.TermId.{TermId}
use Rattle.ct_terms.specs.Args.{same_id, same_ids}
use Rattle.ct_scope.specs.declared.known.Called.{Called}
use Rattle.ct_scope.specs.Calling.{same_call}

Decides-same_id : (s t : TermId) → Decides (same_id s t) (s ≡ t)
Decides-same_id s t =
    let d = Decides-eqb s.0 t.0 in
    (λ h i. record { 0 = d.0 h i }, λ e. d.1 (ap (λ k. k.0) e))

-- the derived test of two calls tells whether they are the same
Decides-same_call : (a b : Called) → Decides (same_call a b) (a ≡ b)
Decides-same_call a b =
    let both = Decides-and (nat_eq a.definition.0 b.definition.0) (same_ids a.args b.args) (Decides-eqb a.definition.0 b.definition.0) (pointwise_decides Decides-same_id a.args b.args) in
    (λ h i. record { definition = record { 0 = (both.0 h).0 i }; args = (both.0 h).1 i }, λ e. both.1 (ap (λ k. k.definition.0) e, ap (λ k. k.args) e))

-- nothing but the call is new
pub remembered-only : {S : Type 0} (known more : IndexMap Called TermId S) (call : Called) (term : TermId) → ((k : Called) → get same_call more k ≡ cond (same_call call k) (Some term) (get same_call known k)) → (k : Called) (t : TermId) → get same_call more k ≡ Some t → (get same_call known k ≡ Some t) ⊎ ((k ≡ call) × (t ≡ term))
remembered-only known more call term writes k t has = at (same_call call k) refl (sym (writes k) ∙ has)
  where
    at : (b : Bool) → same_call call k ≡ b → cond b (Some term) (get same_call known k) ≡ Some t → (get same_call known k ≡ Some t) ⊎ ((k ≡ call) × (t ≡ term))
    at true e now = inr (sym ((Decides-same_call call k).0 e), same_Some t term (sym now))
    at false e now = inl now

-- the call is
pub remembered-known : {S : Type 0} (known more : IndexMap Called TermId S) (call : Called) (term : TermId) → ((k : Called) → get same_call more k ≡ cond (same_call call k) (Some term) (get same_call known k)) → get same_call more call ≡ Some term
remembered-known known more call term writes = writes call ∙ ap (λ (b : Bool). cond b (Some term) (get same_call known call)) ((Decides-same_call call call).1 refl)

-- others stay
pub remembered-others : {S : Type 0} (known more : IndexMap Called TermId S) (call : Called) (term : TermId) → ((k : Called) → get same_call more k ≡ cond (same_call call k) (Some term) (get same_call known k)) → (k : Called) → (k ≡ call → ⊥) → get same_call more k ≡ get same_call known k
remembered-others known more call term writes k other = at (same_call call k) refl (writes k)
  where
    at : (b : Bool) → same_call call k ≡ b → get same_call more k ≡ cond b (Some term) (get same_call known k) → get same_call more k ≡ get same_call known k
    at true e now = absurd (other (sym ((Decides-same_call call k).0 e)))
    at false e now = now
