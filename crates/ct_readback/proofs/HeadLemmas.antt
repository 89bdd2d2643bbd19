-- The name of an element, part by part, and the sort of a constructor that is among those of a sort.
use Rattle.std.proofs.Common.{◌≡◌, ℕ, Bool, true, false, List, [], ◌∷◌, ◌++◌, if◌then◌else◌, Option, None, Some, IfSome, option_map, option_and_then, unwrap_or, nat_eq, slice_get, refl, sym, ap, subst, ◌∙◌}
use Rattle.std.proofs.lemmas.Bool.Decides.{Decides-eqb}
use Rattle.std.proofs.lemmas.Option.{none-some, same_Some}
use Rattle.ct_sorts.specs.declared.ids.CtorId.{CtorId}
use Rattle.ct_sorts.specs.declared.ids.SortId.{SortId}
use Rattle.ct_sorts.specs.Consistent.{IsConsistent}
use Rattle.ct_sorts.specs.Declarations.{Declarations, Constructor, Sort}
use Rattle.ct_sorts.proofs.StructureLemmas.{own_constructors}
use Rattle.ct_instances.specs.Among.{is_instance, nth_ctor, if_of, ctor_among}
use Rattle.ct_instances.specs.declared.among.NamedCtor.{NamedCtor}
use Rattle.ct_instances.specs.declared.among.NamedCtor.TheVariants.{Plain, Generic}
use Rattle.ct_names.specs.Symbols.{ctor_sort}
use Rattle.ct_readback.specs.Words.{number_in, after}
use Rattle.ct_readback.specs.Heads.{element_named}
use Rattle.ct_readback.proofs.WordLemmas.{after_append}

-- two steps in a row
twice : {A B C : Type 0} (f : A → Option B) (g : B → Option C) (o : Option A) → option_and_then g (option_and_then f o) ≡ option_and_then (λ x. option_and_then g (f x)) o
twice f g None = refl
twice f g (Some x) = refl

-- the number after `@`, the sort's name and `_`
abbrev pub number_by_steps : List ℕ → List ℕ → Option ℕ
number_by_steps sort name = option_and_then (λ own. option_and_then (λ rest. option_and_then number_in (after (95 ∷ []) rest)) (after sort own)) (after (64 ∷ []) name)

by_parts : (sort : List ℕ) (o : Option (List ℕ)) → option_and_then (λ own. option_and_then number_in (after (sort ++ 95 ∷ []) own)) o
    ≡ option_and_then (λ own. option_and_then (λ rest. option_and_then number_in (after (95 ∷ []) rest)) (after sort own)) o
by_parts sort None = refl
by_parts sort (Some own) = ap (option_and_then number_in) (after_append sort (95 ∷ []) own) ∙ twice (after (95 ∷ [])) number_in (after sort own)

pub element_steps : (sort name : List ℕ) → element_named sort name ≡ number_by_steps sort name
element_steps sort name =
    ap (option_and_then number_in) (after_append (64 ∷ []) (sort ++ 95 ∷ []) name)
    ∙ twice (after (sort ++ 95 ∷ [])) number_in (after (64 ∷ []) name)
    ∙ by_parts sort (after (64 ∷ []) name)

-- a constructor among those of a sort is of that sort
sort_is : (d : Declarations) (c : CtorId) (s : SortId) (ctor : Constructor) → slice_get d.ctors c.0 ≡ Some ctor → ctor.sort.0 ≡ s.0 → ctor_sort d c ≡ s
sort_is d c s ctor at same =
    ap (λ (o : Option Constructor). unwrap_or (option_map (λ (k : Constructor). k.sort) o) (record { 0 = 0 })) at ∙ ap (λ n. record { 0 = n }) same

if_of_sort : (d : Declarations) (s : SortId) (c k : CtorId) (o : Option Constructor) → slice_get d.ctors c.0 ≡ o → if_of s c o ≡ Some k → ctor_sort d k ≡ s
if_of_sort d s c k None at h = absurd (none-some k h)
if_of_sort d s c k (Some ctor) at h = by (nat_eq ctor.sort.0 s.0) refl h
  where
    by : (b : Bool) → nat_eq ctor.sort.0 s.0 ≡ b → (if b then Some c else None) ≡ Some k → ctor_sort d k ≡ s
    by true is found = ap (ctor_sort d) (sym (same_Some c k found)) ∙ sort_is d c s ctor at ((Decides-eqb ctor.sort.0 s.0).0 is)
    by false is found = absurd (none-some k found)

nth_of_sort : (d : Declarations) → IsConsistent d → (s : SortId) (i : ℕ) (k : CtorId) → nth_ctor d s i ≡ Some k → ctor_sort d k ≡ s
nth_of_sort d consistent s i k h = by (slice_get d.sorts s.0) refl h
  where
    by : (o : Option Sort) → slice_get d.sorts s.0 ≡ o → option_and_then (λ (sort : Sort). slice_get sort.ctors i) o ≡ Some k → ctor_sort d k ≡ s
    by None at found = absurd (none-some k found)
    by (Some sort) at found = let own = own_constructors d consistent s.0 i sort k at found in sort_is d k s own.0 own.1 own.2

pub among_sort : (d : Declarations) → IsConsistent d → (named : NamedCtor) (s : SortId) (k : CtorId) → ctor_among d named s ≡ Some k → ctor_sort d k ≡ s
among_sort d consistent (Plain c) s k h = if_of_sort d s c k (slice_get d.ctors c.0) refl h
among_sort d consistent (Generic g i) s k h = by (is_instance d g s) h
  where
    by : (b : Bool) → (if b then nth_ctor d s i else None) ≡ Some k → ctor_sort d k ≡ s
    by true found = nth_of_sort d consistent s i k found
    by false found = absurd (none-some k found)

-- so is the one that was found
pub among_sorts : (d : Declarations) → IsConsistent d → (named : NamedCtor) (s : SortId) (o : Option CtorId) → o ≡ ctor_among d named s → IfSome o (λ (c : CtorId). ctor_sort d c ≡ s)
among_sorts d consistent named s None is = tt
among_sorts d consistent named s (Some k) is = among_sort d consistent named s k (sym is)
