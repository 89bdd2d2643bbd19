-- Where no constructor term with arguments is of a codatatype, bisimilar classes are one: along the order of classes.
use Rattle.std.proofs.Common.{◌≡◌, ℕ, zero, suc, ◌+◌, ◌<◌, ◌⊎◌, Bool, true, List, [], ◌∷◌, length, Some, slice_get, refl, sym, ap, subst, ◌∙◌, inl, inr, arith}
use Rattle.std.specs.List.{AllZip}
use Rattle.std.proofs.lemmas.Option.{none-some, same_Some, slice_get_within}
use Rattle.ct_lemmas.proofs.Pairs.{AllZip-from, AllZip-one_length, AllZip-at}
use Rattle.ct_lemmas.proofs.Numbers.{last_or_before}
use Rattle.ct_sorts.specs.declared.ids.CtorId.{CtorId}
use Rattle.ct_sorts.specs.declared.ids.SortId.{SortId}
use Rattle.ct_sorts.specs.Declarations.{Declarations}
use Rattle.ct_terms.specs.declared.ids.TermId.{TermId}
use Rattle.ct_terms.specs.declared.term.Core.TheVariants.{Con}
use Rattle.ct_terms.specs.Children.{con_head}
use Rattle.ct_terms.specs.Terms.{Terms, Has, IsOfSort}
use Rattle.ct_rules.specs.Rules.{Follows, by_congruence}
use Rattle.ct_rules.specs.Cycle.{IsOfDatatype}
use Rattle.ct_rules.specs.Uniqueness.{IsBisimulation, HaveRelatedTerms}
use Rattle.ct_congr.specs.State.{State, AreEqual, IsQuiet}
use Rattle.ct_acyclic.specs.Order.{IsDataClass, IsClassOrder}
use Rattle.ct_unique.specs.Partition.{AreBisimilar, IsStronglyExtensional}
use Rattle.ct_theory.specs.Finite.{AreFinite}
use Rattle.ct_theory.proofs.BisimulationLemmas.{InOneClass-sym, InOneClass-trans, InOneClass-left, InOneClass-right}

-- of the terms before a number, each constructor term that has arguments is of a datatype
abbrev pub AreFiniteBelow : Declarations → Terms → ℕ → Type 0
AreFiniteBelow d terms n = (t : TermId) (c : CtorId) (args : List TermId) → t.0 < n → Has terms (Con c args) t.0 → (args ≡ []) ⊎ IsOfDatatype d terms t

pub AreFiniteBelow-next : (d : Declarations) (terms : Terms) (n : ℕ) → AreFiniteBelow d terms n → ((c : CtorId) (args : List TermId) → Has terms (Con c args) n → (args ≡ []) ⊎ IsOfDatatype d terms (record { 0 = n })) → AreFiniteBelow d terms (n + 1)
AreFiniteBelow-next d terms n below here t c args less stands = elim (last_or_before t.0 n less) [
  | inl before ↦ below t c args before stands
  | inr same ↦
      let e : record { 0 = n } ≡ t = λ i. record { 0 = sym same i } in
      subst (λ (u : TermId). (args ≡ []) ⊎ IsOfDatatype d terms u) e (here c args (subst (Has terms (Con c args)) same stands))
]

module _ (state : State) (order : List TermId) (quiet : IsQuiet state) (ordered : IsClassOrder state order) (own : (x r : TermId) → slice_get state.reps x.0 ≡ Some r → slice_get state.reps r.0 ≡ Some r) (one_sort : (x y : TermId) (s : SortId) → AreEqual state x y → IsOfSort state.terms x s → IsOfSort state.terms y s) (finite : AreFinite state.declarations state.terms) (related : TermId → TermId → Bool) (bisimulation : IsBisimulation state.terms (AreEqual state) related) where
  -- the class of the term, if it is one of a datatype, stands before this place
  abbrev StandsBelow : ℕ → TermId → Type 0
  StandsBelow n x = (r : TermId) (i : ℕ) → slice_get state.reps x.0 ≡ Some r → slice_get order i ≡ Some r → i < n

  -- related terms are equal where the class of the first stands before this place
  abbrev AreOneBelow : ℕ → Type 0
  AreOneBelow n = (x y : TermId) → StandsBelow n x → related x y ≡ true → AreEqual state x y

  -- terms of one constructor over equal arguments, and terms of their classes
  by_arguments : (x y left right : TermId) (c : CtorId) (xs ys : List TermId) → AreEqual state x left → AreEqual state y right → Has state.terms (Con c xs) left.0 → Has state.terms (Con c ys) right.0 → AllZip (AreEqual state) xs ys → AreEqual state x y
  by_arguments x y left right c xs ys x_left y_right left_stands right_stands arguments =
      let same = quiet.closed.closed left right (by_congruence (record { left = Con c xs; right = Con c ys; left_stands = left_stands; right_stands = right_stands; head = refl; arguments = arguments })) in
      InOneClass-trans state.reps x left y x_left (InOneClass-trans state.reps left right y same (InOneClass-sym state.reps y right y_right))

  -- terms without arguments
  without_arguments : (x y left right : TermId) (c : CtorId) (xs ys : List TermId) → AreEqual state x left → AreEqual state y right → Has state.terms (Con c xs) left.0 → Has state.terms (Con c ys) right.0 → xs ≡ [] → AllZip (λ a b. related a b ≡ true) xs ys → AreEqual state x y
  without_arguments x y left right c [] [] x_left y_right left_stands right_stands none arguments = by_arguments x y left right c [] [] x_left y_right left_stands right_stands tt
  without_arguments x y left right c [] (b ∷ ys) x_left y_right left_stands right_stands none arguments = absurd arguments
  without_arguments x y left right c (a ∷ xs) ys x_left y_right left_stands right_stands none arguments = absurd (omega (arith, ap length none))

  -- the arguments of a constructor term stand before it
  arguments_below : (n i : ℕ) (r left : TermId) (c : CtorId) (xs ys : List TermId) → AreOneBelow n → i < suc n → slice_get order i ≡ Some r → AreEqual state left r → Has state.terms (Con c xs) left.0 → IsOfDatatype state.declarations state.terms left → AllZip (λ a b. related a b ≡ true) xs ys → AllZip (AreEqual state) xs ys
  arguments_below n i r left c xs ys one less at left_r stands datatype arguments =
      AllZip-from (AreEqual state) xs ys (AllZip-one_length (λ a b. related a b ≡ true) xs ys arguments) (λ k a b at_a at_b.
      one a b (before k a at_a) (AllZip-at (λ u v. related u v ≡ true) xs ys k a b arguments at_a at_b))
    where
      before : (k : ℕ) (a : TermId) → slice_get xs k ≡ Some a → StandsBelow n a
      before k a at_a q j rep_a at_q =
          let earlier = ordered.after r q left k j i left_r (record { ctor = c; args = xs; argument = a; stands = stands; datatype = datatype; at = at_a; equal = (q, rep_a, own a q rep_a) }) at_q at in
          omega (arith, earlier, less)

  -- the representative of a constructor term of a datatype represents a class of one
  class_of : (left r : TermId) → AreEqual state left r → slice_get state.reps r.0 ≡ Some r → IsOfDatatype state.declarations state.terms left → IsDataClass state r
  class_of left r same r_own datatype = record {
    own = r_own;
    datatype = record { id = datatype.id; sort = datatype.sort; sorted = one_sort left r datatype.id same datatype.sorted; declared = datatype.declared; kind = datatype.kind };
  }

  one_below : (n : ℕ) → AreOneBelow n
  one_below zero x y stands holds = elim (bisimulation.matched x y holds) [
    | inl one ↦ one
    | inr terms ↦ elim (finite terms.left terms.ctor terms.xs terms.left_stands) [
      | inl none ↦ without_arguments x y terms.left terms.right terms.ctor terms.xs terms.ys terms.left_equal terms.right_equal terms.left_stands terms.right_stands none terms.arguments
      | inr datatype ↦
          let r = terms.left_equal.0 in
          let r_own = own x r terms.left_equal.1 in
          let place = ordered.each r (class_of terms.left r (r, terms.left_equal.2, r_own) r_own datatype) in
          absurd (omega (arith, stands r place.0 terms.left_equal.1 place.1))
    ]
  ]
  one_below (suc n) x y stands holds = elim (bisimulation.matched x y holds) [
    | inl one ↦ one
    | inr terms ↦ elim (finite terms.left terms.ctor terms.xs terms.left_stands) [
      | inl none ↦ without_arguments x y terms.left terms.right terms.ctor terms.xs terms.ys terms.left_equal terms.right_equal terms.left_stands terms.right_stands none terms.arguments
      | inr datatype ↦
          let r = terms.left_equal.0 in
          let r_own = own x r terms.left_equal.1 in
          let left_r : AreEqual state terms.left r = (r, terms.left_equal.2, r_own) in
          let place = ordered.each r (class_of terms.left r left_r r_own datatype) in
          by_arguments x y terms.left terms.right terms.ctor terms.xs terms.ys terms.left_equal terms.right_equal terms.left_stands terms.right_stands
          (arguments_below n place.0 r terms.left terms.ctor terms.xs terms.ys (one_below n) (stands r place.0 terms.left_equal.1 place.1) place.1 left_r terms.left_stands datatype terms.arguments)
    ]
  ]

pub IsStronglyExtensional-finite : (state : State) (order : List TermId) → IsQuiet state → IsClassOrder state order → ((x r : TermId) → slice_get state.reps x.0 ≡ Some r → slice_get state.reps r.0 ≡ Some r) → ((x y : TermId) (s : SortId) → AreEqual state x y → IsOfSort state.terms x s → IsOfSort state.terms y s) → AreFinite state.declarations state.terms → IsStronglyExtensional state
IsStronglyExtensional-finite state order quiet ordered own one_sort finite x y alike =
    one_below state order quiet ordered own one_sort finite alike.related alike.bisimulation (length order) x y (λ r i rep at. slice_get_within order i r at) alike.holds
