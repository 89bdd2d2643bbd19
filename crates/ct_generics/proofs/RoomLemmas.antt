-- What is left of the room while sorts are added, and the lengths of their texts.
use Rattle.std.proofs.Common.{◌≡◌, ℕ, zero, suc, ◌+◌, ◌<◌, ◌≤◌, List, [], ◌∷◌, ◌++◌, length, length-append, map, sum, Some, slice_get, refl, sym, ap, ap₂, subst, ◌∙◌, inl, inr, ⊎_elim, arith}
use Rattle.std.proofs.lemmas.List.Sums.{sum-map, sum_by-append}
use Rattle.std.proofs.lemmas.Option.{none-some, same_Some, slice_get_within}
use Rattle.ct_lemmas.proofs.Lists.{slice_get-push_cases, slice_get-append_right}
use Rattle.ct_lemmas.proofs.Numbers.{below_or_not}
use Rattle.ct_generics.specs.declared.room.Room.{Room}
use Rattle.ct_generics.specs.declared.nodes.Node.{Node}
use Rattle.ct_generics.specs.declared.heads.StoredHead.{StoredHead}
use Rattle.ct_generics.specs.Expression.{Expression}
use Rattle.ct_generics.specs.Declarations.{Head}
use Rattle.ct_generics.specs.Nodes.{Stands, Stay, AreOrdered}
use Rattle.ct_generics.specs.Reach.{fields_of}
use Rattle.ct_generics.specs.Text.{text_length, most_text}
use Rattle.ct_generics.specs.Add.{Fits, Leaves, field_sorts}
use Rattle.ct_generics.specs.SortTable.{IsCounted}
use Rattle.ct_generics.proofs.NodeLemmas.{Stands-stay, Stands-one, Stands-some, Stay-within}

-- ---- room

counted-append : (f : Expression → ℕ) (xs ys : List Expression) → sum (map f (xs ++ ys)) ≡ sum (map f xs) + sum (map f ys)
counted-append f xs ys = sum-map f (xs ++ ys) ∙ sum_by-append f xs ys ∙ ap₂ (λ (a b : ℕ). a + b) (sym (sum-map f xs)) (sym (sum-map f ys))

counted-one : (f : Expression → ℕ) (e : Expression) → sum (map f (e ∷ [])) ≡ f e
counted-one f e = sum-map f (e ∷ []) ∙ omega arith

pub Leaves-none : (heads : List Head) (room : Room) → Leaves heads room [] room
Leaves-none heads room = record { sorts = omega arith; ctors = omega arith; sels = omega arith; texts = λ i e at. absurd (none-some e at) }

-- one sort more
pub Leaves-more : (heads : List Head) (room left rest : Room) (added : List Expression) (e : Expression) → Leaves heads room added left → Leaves heads left (e ∷ []) rest → Leaves heads room (added ++ e ∷ []) rest
Leaves-more heads room left rest added e first second =
    let ctors = counted-append (λ x. length (fields_of heads x)) added (e ∷ []) in
    let sels = counted-append (λ x. length (field_sorts heads x)) added (e ∷ []) in
    record {
      sorts = omega (arith, first.sorts, second.sorts, length-append added (e ∷ []));
      ctors = omega (arith, first.ctors, second.ctors, ctors);
      sels = omega (arith, first.sels, second.sels, sels);
      texts = λ i f at. elim (slice_get-push_cases added e f i at) [ inl before ↦ first.texts i f before | inr last ↦ second.texts 0 f (ap Some last.1) ];
    }

pub Leaves-fits : (heads : List Head) (room left : Room) (added : List Expression) → Leaves heads room added left → Fits heads room added
Leaves-fits heads room left added leaves =
    record { sorts = omega (arith, leaves.sorts); ctors = omega (arith, leaves.ctors); sels = omega (arith, leaves.sels); texts = leaves.texts }

-- what fits has a next sort that fits into what is left
pub Fits-next : (heads : List Head) (room left : Room) (added more : List Expression) (e : Expression) → Leaves heads room added left → Fits heads room (added ++ e ∷ more) → Fits heads left (e ∷ [])
Fits-next heads room left added more e leaves fits =
    let ctor : Expression → ℕ = λ x. length (fields_of heads x) in
    let sel : Expression → ℕ = λ x. length (field_sorts heads x) in
    let ctors = counted-append ctor added (e ∷ more) in
    let ctors_next = counted-append ctor (e ∷ []) more in
    let sels = counted-append sel added (e ∷ more) in
    let sels_next = counted-append sel (e ∷ []) more in
    record {
      sorts = omega (arith, leaves.sorts, fits.sorts, length-append added (e ∷ more));
      ctors = omega (arith, leaves.ctors, fits.ctors, ctors, ctors_next);
      sels = omega (arith, leaves.sels, fits.sels, sels, sels_next);
      texts = λ i f at. by i f at (fits.texts (length added + 0) e (slice_get-append_right added (e ∷ more) 0 e refl));
    }
  where
    by : (i : ℕ) (f : Expression) → slice_get (e ∷ []) i ≡ Some f → text_length heads e ≤ most_text → text_length heads f ≤ most_text
    by zero f at small = subst (λ (x : Expression). text_length heads x ≤ most_text) (same_Some e f at) small
    by (suc i) f at small = absurd (none-some f at)

-- one sort with so many constructors and selectors
pub Leaves-one : (heads : List Head) (left rest : Room) (e : Expression) (ctors sels : ℕ) → (1 + rest.sorts ≡ left.sorts) × (ctors + rest.ctors ≡ left.ctors) × (sels + rest.sels ≡ left.sels) → ctors ≡ length (fields_of heads e) → sels ≡ length (field_sorts heads e) → text_length heads e ≤ most_text → Leaves heads left (e ∷ []) rest
Leaves-one heads left rest e ctors sels spent ctors_are sels_are small =
    let ctor = counted-one (λ x. length (fields_of heads x)) e in
    let sel = counted-one (λ x. length (field_sorts heads x)) e in
    record {
      sorts = omega (arith, spent.0);
      ctors = omega (arith, spent.1, ctors_are, ctor);
      sels = omega (arith, spent.2, sels_are, sel);
      texts = by;
    }
  where
    by : (i : ℕ) (f : Expression) → slice_get (e ∷ []) i ≡ Some f → text_length heads f ≤ most_text
    by zero f at = subst (λ (x : Expression). text_length heads x ≤ most_text) (same_Some e f at) small
    by (suc i) f at = absurd (none-some f at)

pub no_room : (heads : List Head) (left : Room) (e : Expression) (ctors sels : ℕ) → ((1 ≤ left.sorts) × (ctors ≤ left.ctors) × (sels ≤ left.sels) → ⊥) → ctors ≡ length (fields_of heads e) → sels ≡ length (field_sorts heads e) → Fits heads left (e ∷ []) → ⊥
no_room heads left e ctors sels refused ctors_are sels_are fits =
    let ctor = counted-one (λ x. length (fields_of heads x)) e in
    let sel = counted-one (λ x. length (field_sorts heads x)) e in
    refused (omega (arith, fits.sorts), omega (arith, fits.ctors, ctor, ctors_are), omega (arith, fits.sels, sel, sels_are))

-- ---- lengths of texts

-- what was counted stays right with more nodes
pub IsCounted-stay : (heads : List StoredHead) (old new : List Node) (counts : List ℕ) → AreOrdered old → Stay old new → IsCounted heads old counts → IsCounted heads new counts
IsCounted-stay heads old new counts ordered stay is =
    record {
      within = ⊎_elim (λ less. let h = Stay-within old new stay (length new) (omega (arith, less, is.within)) in absurd (omega (arith, h))) (λ few. few) (below_or_not (length new) (length counts));
      counted = λ hs all k n e at stands.
          let below : k < length old = omega (arith, slice_get_within counts k n at, is.within) in
          let stood = Stands-some old ordered k below in
          let same = Stands-one new k stood.0 e (Stands-stay old new k stood.0 stay stood.1) stands in
          is.counted hs all k n e at (subst (Stands old k) same stood.1);
    }

-- a text that is too long does not fit
pub long-no_room : (heads : List Head) (left : Room) (e : Expression) → most_text < text_length heads e → Fits heads left (e ∷ []) → ⊥
long-no_room heads left e big fits = let small = fits.texts 0 e refl in absurd (omega (arith, small, big))
