-- Patterns bind variables of the sorts of what they fit; and what a `match` may match.
use Rattle.std.proofs.Common.{◌≡◌, ℕ, inl, inr, Bool, true, false, not, ◌==◌, if◌then◌else◌, List, [], length, Option, Some, None, option_map, unwrap_or, slice_get, Ok, refl, sym, ◌∙◌, ap, subst}
use Rattle.std.proofs.lemmas.Bool.Decides.{Decides-eqb}
use Rattle.std.specs.Option.{option_and_then}
use Rattle.std.proofs.lemmas.Option.{slice_get_within}
use Rattle.ct_sorts.specs.declared.ids.SortId.{SortId}
use Rattle.ct_sorts.specs.declared.ids.CtorId.{CtorId}
use Rattle.ct_sorts.specs.declared.ids.Kind.{Kind}
use Rattle.ct_sorts.specs.declared.ids.Kind.TheVariants.{Bool as BoolKind, Free, Data, Codata}
use Rattle.ct_sorts.specs.Declarations.{Declarations, Sort, Constructor, IsSort}
use Rattle.ct_instances.specs.declared.among.NamedCtor.{NamedCtor}
use Rattle.ct_instances.specs.declared.among.NamedCtor.TheVariants.{Plain, Generic}
use Rattle.ct_instances.specs.Among.{is_instance, nth_ctor, if_of, ctor_among}
use Rattle.ct_terms.specs.CoreSorts.{AreFieldSorts}
use Rattle.ct_formulas.specs.declared.tree.Pattern.TheVariants.{Ctor}
use Rattle.ct_formulas.specs.FormulaSorts.{IsMatchable, BindsSorts}
use Rattle.ct_names.specs.Refusals.{wrong_count, out_of_scope, repeated_variable}
use Rattle.ct_names.specs.Outcome.{Outcome}
use Rattle.ct_names.specs.Parts.{Part, atom_part, list_part, no_parts, with_part, name_of}
use Rattle.ct_names.specs.Symbols.{ctor_named, ctor_field_sorts}
use Rattle.ct_names.specs.Variables.{ScopeIn, variables, variable_sorts, has_repeated, present_names}
use Rattle.ct_names.specs.Patterns.{Binding, any_pattern, own_ctor, lone_ctor, lone_pattern, leaf_pattern, ctor_with, headed_pattern, ctor_at, variable_names, pattern, matchable, matchable_kind}
use Rattle.ct_names.proofs.LastingLemmas.{fields_inside}
use Rattle.ct_names.proofs.NeedLemmas.{grows_itself}
use Rattle.ct_names.proofs.StayLemmas.{ScopeIn-variables}
use Rattle.ct_check.proofs.Inversions.{and_then-inverse, unless-inverse, same_value}
use Rattle.ct_check.proofs.SymbolSorts.{Theorems, field_sorts}
use Rattle.ct_check.proofs.SoundLemmas.{empty_from}
use Rattle.ct_check.proofs.SoundForms.{sorts-variables}

abbrev kind_at : Option Sort → Kind
kind_at o = unwrap_or (option_map (λ (sort : Sort). sort.kind) o) BoolKind

-- a sort whose values may be matched
matchable_by : (d : Declarations) (side given : SortId) (o : Option Sort) → slice_get d.sorts side.0 ≡ o → matchable_kind side (kind_at o) ≡ Ok given → (given ≡ side) × IsMatchable d side
matchable_by d side given None is e = absurd cc
matchable_by d side given (Some sort) is e = by sort.kind refl e
  where
    by : (k : Kind) → sort.kind ≡ k → matchable_kind side k ≡ Ok given → (given ≡ side) × IsMatchable d side
    by BoolKind of e = absurd cc
    by Free of e = absurd cc
    by Data of e = (sym (same_value side given e), (sort, is, inl of))
    by Codata of e = (sym (same_value side given e), (sort, is, inr of))

pub matchable_sound : (d : Declarations) (side given : SortId) → matchable d side ≡ Ok given → (given ≡ side) × IsMatchable d side
matchable_sound d side given e = matchable_by d side given (slice_get d.sorts side.0) refl e

-- a constructor among those of a sort is there, and is of this sort
pub record IsOf (d : Declarations) (s : SortId) (c : CtorId) : Type 0 where
  pub ctor : Constructor
  pub at : slice_get d.ctors c.0 ≡ Some ctor
  pub own : ctor.sort ≡ s

module _ (d : Declarations) (theorems : Theorems d) (s : SortId) where
  same_sort : (t : SortId) → t.0 ≡ s.0 → t ≡ s
  same_sort t e = ap (λ (k : ℕ). record { 0 = k }) e

  plain_of : (k c : CtorId) (o : Option Constructor) → slice_get d.ctors k.0 ≡ o → if_of s k o ≡ Some c → IsOf d s c
  plain_of k c None at e = absurd cc
  plain_of k c (Some ctor) at e = by (ctor.sort.0 == s.0) refl e
    where
      by : (b : Bool) → (ctor.sort.0 == s.0) ≡ b → (if b then Some k else None) ≡ Some c → IsOf d s c
      by false test f = absurd cc
      by true test f =
          let same : k ≡ c = cc in
          record { ctor = ctor; at = ap (λ (x : CtorId). slice_get d.ctors x.0) (sym same) ∙ at; own = same_sort ctor.sort ((Decides-eqb ctor.sort.0 s.0).0 test) }

  nth_of : (i : ℕ) (c : CtorId) (o : Option Sort) → slice_get d.sorts s.0 ≡ o → option_and_then (λ (sort : Sort). slice_get sort.ctors i) o ≡ Some c → IsOf d s c
  nth_of i c None at e = absurd cc
  nth_of i c (Some sort) at e =
      let own = theorems.own_constructors s.0 i sort c at e in
      record { ctor = own.0; at = own.1; own = same_sort own.0.sort own.2 }

  pub among_of : (k : NamedCtor) (c : CtorId) → ctor_among d k s ≡ Some c → IsOf d s c
  among_of (Plain k) c e = plain_of k c (slice_get d.ctors k.0) refl e
  among_of (Generic g i) c e = by (is_instance d g s) e
    where
      by : (b : Bool) → (if b then nth_ctor d s i else None) ≡ Some c → IsOf d s c
      by false f = absurd cc
      by true f = nth_of i c (slice_get d.sorts s.0) refl f

-- the pattern binds variables of the sorts of what it fits
abbrev pub Binds : Declarations → SortId → Binding → Type 0
Binds d side b = BindsSorts d side b.0 (variable_sorts b.1) × ScopeIn d b.1

-- a value is this binding, which binds
bound_as : (d : Declarations) (side : SortId) (a b : Binding) → (let o : Outcome Binding = Ok a in o) ≡ Ok b → Binds d side a → Binds d side b
bound_as d side a b e h = subst (λ (x : Binding). Binds d side x) (same_value a b e) h

module _ (d : Declarations) (theorems : Theorems d) (side : SortId) (there : IsSort d side) where
  -- a constructor of the sort binds variables of the sorts of its fields
  ctor_binds : (c : CtorId) → IsOf d side c → (sorts : List SortId) → sorts ≡ ctor_field_sorts d c → BindsSorts d side (Ctor c) sorts
  ctor_binds c of sorts are = (of.ctor, of.at, of.own, subst (λ (fields : List SortId). AreFieldSorts d of.ctor.sels fields) (sym are) (field_sorts d theorems c of.ctor of.at))

  own_is : (o : Option CtorId) (c : CtorId) → own_ctor o ≡ Ok c → o ≡ Some c
  own_is None c e = absurd cc
  own_is (Some k) c e = ap (λ (x : CtorId). Some x) (same_value k c e)

  ctor_with_sound : (names : List (Option (List ℕ))) (k : NamedCtor) (b : Binding) → ctor_with d side names k ≡ Ok b → Binds d side b
  ctor_with_sound names k b e =
      let own = and_then-inverse (own_ctor (ctor_among d k side)) _ b e in
      let c = own.0 in
      let of = among_of d theorems side k c (own_is (ctor_among d k side) c own.1) in
      let long = unless-inverse (length names == length (ctor_field_sorts d c)) wrong_count _ b own.2 in
      let some = unless-inverse (not (length names == 0)) out_of_scope _ b long.1 in
      let fresh = unless-inverse (not (has_repeated (present_names names))) repeated_variable _ b some.1 in
      let same : length names ≡ length (ctor_field_sorts d c) = (Decides-eqb (length names) (length (ctor_field_sorts d c))).0 long.0 in
      bound_as d side (Ctor c, variables names (ctor_field_sorts d c)) b fresh.1 (
        ctor_binds c of (variable_sorts (variables names (ctor_field_sorts d c))) (sorts-variables names (ctor_field_sorts d c) same),
        ScopeIn-variables d names (ctor_field_sorts d c) (fields_inside d d (grows_itself d) theorems.consistent c (slice_get_within d.ctors c.0 of.ctor of.at)),
      )

  lone_ctor_sound : (k : NamedCtor) (b : Binding) → lone_ctor d side k ≡ Ok b → Binds d side b
  lone_ctor_sound k b e =
      let own = and_then-inverse (own_ctor (ctor_among d k side)) _ b e in
      let c = own.0 in
      let of = among_of d theorems side k c (own_is (ctor_among d k side) c own.1) in
      let empty = unless-inverse (length (ctor_field_sorts d c) == 0) wrong_count _ b own.2 in
      bound_as d side (Ctor c, []) b empty.1 (ctor_binds c of [] (sym (empty_from (ctor_field_sorts d c) empty.0)), tt)

  any_sound : (name : Option (List ℕ)) (b : Binding) → (let o : Outcome Binding = Ok (any_pattern side name) in o) ≡ Ok b → Binds d side b
  any_sound name b e = bound_as d side (any_pattern side name) b e (refl, (there, tt))

  lone_pattern_sound : (name : List ℕ) (k : Option NamedCtor) (b : Binding) → lone_pattern d side name k ≡ Ok b → Binds d side b
  lone_pattern_sound name None b e = any_sound (Some name) b e
  lone_pattern_sound name (Some k) b e = lone_ctor_sound k b e

  leaf_pattern_sound : (name : Option (List ℕ)) (b : Binding) → leaf_pattern d side name ≡ Ok b → Binds d side b
  leaf_pattern_sound None b e = any_sound None b e
  leaf_pattern_sound (Some name) b e = lone_pattern_sound name (ctor_named d name) b e

  headed_pattern_sound : (names : List (Option (List ℕ))) (k : Option NamedCtor) (b : Binding) → headed_pattern d side names k ≡ Ok b → Binds d side b
  headed_pattern_sound names None b e = absurd cc
  headed_pattern_sound names (Some k) b e = ctor_with_sound names k b e

  pub pattern_sound : (p : Part) (b : Binding) → pattern d side p ≡ Ok b → Binds d side b
  pattern_sound (atom_part a) b e = leaf_pattern_sound (name_of (atom_part a)) b e
  pattern_sound (list_part no_parts m) b e = absurd cc
  pattern_sound (list_part (with_part c xs) m) b e = headed_pattern_sound (variable_names xs) (ctor_at d (name_of c)) b e
