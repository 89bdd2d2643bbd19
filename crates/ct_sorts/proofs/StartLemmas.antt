-- What every signature begins with fits together.
use Rattle.std.proofs.Common.{◌≡◌, ℕ, zero, suc, ◌<◌, ◌≤◌, List, [], ◌∷◌, length, slice_get, Some, codes, refl, sym, ◌∙◌, ap, subst, inl, inr, arith}
use Rattle.std.proofs.lemmas.Option.{none-some, same_Some}
use Rattle.ct_generics.specs.declared.kind.Kind.TheVariants.{Bool as OfBool, Data as OfData}
use Rattle.ct_generics.specs.Block.{SomeOwn}
use Rattle.ct_generics.specs.Expression.{Expression, named, args_of, at_own_parameters}
use Rattle.ct_generics.specs.Declarations.{Head, IsOfKind, IsExpression}
use Rattle.ct_generics.specs.Founded.{IsFounded as IsFoundedHead, other}
use Rattle.ct_generics.specs.WellFormed.{HasExpressions, HaveExpressions}
use Rattle.ct_generics.specs.Reach.{AreDifferent}
use Rattle.ct_generics.specs.Add.{IsAmong, field_sorts}
use Rattle.ct_sorts.specs.declared.spelling.Spelling.{Spelling}
use Rattle.ct_sorts.specs.Availability.{IsUnfit}
use Rattle.ct_sorts.specs.Heads.{AreHeads, FitsSpelling}
use Rattle.ct_sorts.specs.Origins.{AreOrigins}
use Rattle.ct_sorts.specs.Limits.{IsOverLimits}
use Rattle.ct_sorts.specs.Declarations.{Sort, start, bool}
use Rattle.ct_sorts.specs.Consistent.{AreFit, FitsKind, IsConsistent}
use Rattle.ct_sorts.specs.Founded.{IsFounded}
use Rattle.ct_sorts.proofs.NameLemmas.{AreDistinct-differ}

-- a byte of the name Bool is one of its four
bool_byte : (index byte : ℕ) → slice_get (codes "Bool") index ≡ Some byte → (byte ≡ 124 → ⊥) × (byte ≡ 92 → ⊥)
bool_byte zero byte at = let e : 66 ≡ byte = same_Some _ _ at in (λ h. omega arith, λ h. omega arith)
bool_byte (suc zero) byte at = let e : 111 ≡ byte = same_Some _ _ at in (λ h. omega arith, λ h. omega arith)
bool_byte (suc (suc zero)) byte at = let e : 111 ≡ byte = same_Some _ _ at in (λ h. omega arith, λ h. omega arith)
bool_byte (suc (suc (suc zero))) byte at = let e : 108 ≡ byte = same_Some _ _ at in (λ h. omega arith, λ h. omega arith)
bool_byte (suc (suc (suc (suc index)))) byte at = absurd (none-some _ at)

-- Bool may be declared
bool_fit : IsUnfit (codes "Bool") → ⊥
bool_fit (inl e) = let h : ◌≡◌ {A = ℕ} 66 64 = same_Some _ _ e in omega arith
bool_fit (inr (inl e)) = let h : ◌≡◌ {A = ℕ} 66 46 = same_Some _ _ e in omega arith
bool_fit (inr (inr (inl h))) = (bool_byte h.0 124 h.1).0 refl
bool_fit (inr (inr (inr h))) = (bool_byte h.0 92 h.1).1 refl

fit : AreFit (codes "Bool" ∷ [])
fit zero name at h = bool_fit (subst IsUnfit (sym (same_Some _ _ at)) h)
fit (suc s) name at h = none-some _ at

kinds : (s : ℕ) (sort : Sort) → slice_get start.sorts s ≡ Some sort → FitsKind s sort.kind (length sort.ctors)
kinds zero sort at = subst (λ (t : Sort). FitsKind 0 t.kind (length t.ctors)) (same_Some _ _ at) refl
kinds (suc s) sort at = absurd (none-some _ at)

founded : (s : ℕ) → s < 1 → IsFounded start s
founded zero within set closed = closed.others 0 bool refl (λ e. cc)
founded (suc s) within set closed = absurd (omega arith)

heads_spelled : (h : ℕ) (head : Head) (ctors : List Spelling) → slice_get start.declared.heads h ≡ Some head → slice_get start.spellings h ≡ Some ctors → FitsSpelling h head.kind head.ctors ctors
heads_spelled zero head ctors at names = subst (λ (k : Head). FitsSpelling 0 k.kind k.ctors ctors) (same_Some _ _ at) refl
heads_spelled (suc h) head ctors at names = absurd (none-some _ at)

heads_fields : HaveExpressions start.declared.heads
heads_fields zero head at = subst (HasExpressions start.declared.heads) (same_Some _ _ at) (λ i row none. absurd (none-some _ none))
heads_fields (suc h) head at = absurd (none-some _ at)

no_datatype : IsOfKind start.declared.heads OfData (named 0) → ⊥
no_datatype is = let kind : OfBool ≡ is.0.kind = ap (λ (k : Head). k.kind) (same_Some _ _ is.1) in let same : OfBool ≡ OfData = kind ∙ is.2 in cc

own_founded : (h : ℕ) (head : Head) → slice_get start.declared.heads h ≡ Some head → IsFoundedHead start.declared.heads (at_own_parameters h head.params)
own_founded zero head at = subst (λ (k : Head). IsFoundedHead start.declared.heads (at_own_parameters 0 k.params)) (same_Some _ _ at) (other (named 0) no_datatype)
own_founded (suc h) head at = absurd (none-some _ at)

heads_founded : SomeOwn 0 start.declared.heads (λ e. IsFoundedHead start.declared.heads e → ⊥) → ⊥
heads_founded own = own.4 (own_founded own.0 own.1 own.3)

AreHeads-start : AreHeads start
AreHeads-start = record { one_each = refl; spelled = heads_spelled; formed = record { heads = heads_fields; synonyms = λ n s at. absurd (none-some _ at) }; founded = heads_founded }

-- what holds of Bool holds of the sort in the list
of_bool : (P : ℕ → Expression → Type 0) → P 0 (named 0) → (s : ℕ) (e : Expression) → slice_get start.origins s ≡ Some e → P s e
of_bool P holds zero e at = subst (P 0) (same_Some _ _ at) holds
of_bool P holds (suc s) e at = absurd (none-some _ at)

origins_different : AreDifferent start.origins
origins_different zero zero e at also = refl
origins_different zero (suc j) e at also = absurd (none-some _ also)
origins_different (suc i) j e at also = absurd (none-some _ at)

origins_plain : (h : ℕ) (head : Head) → slice_get start.declared.heads h ≡ Some head → head.params ≡ 0 → (s : ℕ) × (slice_get start.origins s ≡ Some (named h))
origins_plain zero head at none = (0, refl)
origins_plain (suc h) head at none = absurd (none-some _ at)

AreOrigins-start : AreOrigins start
AreOrigins-start = record {
  one_each = refl;
  different = origins_different;
  sorts = of_bool (λ s e. IsExpression start.declared.heads 0 e) refl;
  arguments = λ s k e a at. of_bool (λ s e. slice_get (args_of e) k ≡ Some a → (t : ℕ) × (t < s) × (slice_get start.origins t ≡ Some a)) (λ none. absurd (none-some _ none)) s e at;
  fields = λ e among k f at. of_bool (λ s e. slice_get (field_sorts start.declared.heads e) k ≡ Some f → IsAmong start.origins f) (λ none. absurd (none-some _ none)) among.0 e among.1 at;
  sorts_made = refl;
  ctors_made = refl;
  sels_made = refl;
}

not_over : IsOverLimits start → ⊥
not_over (inl h) = omega (arith, h)
not_over (inr (inl h)) = omega (arith, h)
not_over (inr (inr h)) = omega (arith, h)

pub IsConsistent-start : IsConsistent start
IsConsistent-start =
    record {
      few = record { sorts = omega arith; ctors = omega arith; sels = omega arith; functions = omega arith; definitions = omega arith };
      within = not_over;
      names_distinct = AreDistinct-differ (codes "Bool" ∷ []) refl;
      distinct = AreDistinct-differ (codes "true" ∷ (codes "false" ∷ [])) refl;
      fit = fit;
      symbols_available = λ index name at h. none-some _ at;
      ctors_available = λ index name at h. none-some _ at;
      sels_available = λ index name at h. none-some _ at;
      available = λ index name at h. none-some _ at;
      definitions_available = λ index name at h. none-some _ at;
      first_sort = refl;
      first_ctors = refl;
      first_head = refl;
      first_spelling = refl;
      first_origin = refl;
      all_ctors = refl;
      ctor_sorts = refl;
      kinds = kinds;
      all_sels = refl;
      sel_ctors = refl;
      sel_places = refl;
      fields = λ s sel at. absurd (none-some _ at);
      over_sorts = λ f declared at. absurd (none-some _ at);
      definitions_over_sorts = λ f declared at. absurd (none-some _ at);
      heads = AreHeads-start;
      origins = AreOrigins-start;
      plain = origins_plain;
      founded = founded;
    }
