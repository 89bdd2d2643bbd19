-- What lasts as a table grows, and steps one after the other.
use Rattle.std.proofs.Common.{◌≡◌, ℕ, ◌+◌, ◌<◌, ◌≤◌, Bool, List, [], ◌∷◌, ◌++◌, length, Contains, slice_get, Some, sym, ap, subst, ◌∙◌, inl, inr, arith, append_assoc, length-append, Result, Ok, Err, IfOk, OnErr}
use Rattle.std.specs.List.{AllZip}
use Rattle.std.proofs.lemmas.List.{append-nil}
use Rattle.ct_lemmas.proofs.Lists.{slice_get-append_left, slice_get-last, slice_get-prefix}
use Rattle.ct_lemmas.proofs.Numbers.{last_or_before}
use Rattle.ct_lemmas.proofs.Pairs.{AllZip-weaker}
use Rattle.ct_sorts.specs.declared.ids.CtorId.{CtorId}
use Rattle.ct_sorts.specs.declared.ids.SelId.{SelId}
use Rattle.ct_sorts.specs.declared.ids.SortId.{SortId}
use Rattle.ct_sorts.specs.Declarations.{Declarations}
use Rattle.ct_sorts.specs.Grown.{Begins}
use Rattle.ct_terms.specs.declared.ids.TermId.{TermId}
use Rattle.ct_terms.specs.declared.term.Core.{Core}
use Rattle.ct_terms.specs.declared.term.Core.TheVariants.{Con, Sel, Test, Eq, Ite}
use Rattle.ct_terms.specs.declared.error.TermError.{TermError}
use Rattle.ct_terms.specs.Terms.{Terms, Has, IsOfSort, AreOrdered, Makes}
use Rattle.ct_terms.specs.CoreTree.{CoreTree, tree_layer, term_at}
use Rattle.ct_closure.specs.Closed.{IsClosed}
use Rattle.ct_closure.specs.ClosedTable.{IsPresent, IsOpen, IsArgument, IsSplitTerm, IsFieldTerm, HasCase, HasCases}
use Rattle.ct_card.specs.Fields.{sels_of}
use Rattle.ct_closure.specs.Steps.{IsSound, IsAdded, IsStep, IsCaseOf, IsMarked, AreMarked, IsConditionalTaken, IsArgumentOf, IsArgumentTaken, IsFiniteTaken, IsTaken}
use Rattle.ct_closure.specs.Trees.{TreeTheorems}
use Rattle.ct_closure.proofs.TreeLemmas.{layer_at, term_stays}

-- each list begins with itself, and with what its beginnings begin with
pub Begins-itself : {X : Type 0} (xs : List X) → Begins xs xs
Begins-itself xs = ([], sym (append-nil xs))

pub Begins-further : {X : Type 0} (xs ys zs : List X) → Begins xs ys → Begins ys zs → Begins xs zs
Begins-further xs ys zs h k = (h.0 ++ k.0, k.1 ∙ ap (λ ws. ws ++ k.0) h.1 ∙ append_assoc xs h.0 k.0)

module _ (old new : Terms) (grown : Begins old new) where
  pub stays_at : (n : ℕ) (e : Core × SortId) → slice_get old n ≡ Some e → slice_get new n ≡ Some e
  stays_at n e at = ap (λ (table : Terms). slice_get table n) grown.1 ∙ slice_get-append_left old grown.0 n e at

  pub stood_at : (n : ℕ) (e : Core × SortId) → n < length old → slice_get new n ≡ Some e → slice_get old n ≡ Some e
  stood_at n e within at = sym (slice_get-prefix old grown.0 n within) ∙ ap (λ (table : Terms). slice_get table n) (sym grown.1) ∙ at

  pub longer : length old ≤ length new
  longer = omega (arith, length-append old grown.0, ap length grown.1)

  pub Has-stays : (core : Core) (n : ℕ) → Has old core n → Has new core n
  Has-stays core n has = (has.0, stays_at n (core, has.0) has.1)

  pub IsPresent-stays : (core : Core) → IsPresent old core → IsPresent new core
  IsPresent-stays core present = (present.0, Has-stays core present.0 present.1)

  pub IsOfSort-stays : (t : TermId) (sort : SortId) → IsOfSort old t sort → IsOfSort new t sort
  IsOfSort-stays t sort h = (h.0, stays_at t.0 (h.0, sort) h.1)

  pub IsArgument-stays : (t : TermId) → IsArgument old t → IsArgument new t
  IsArgument-stays t (inl h) = inl (h.0, IsPresent-stays (Sel h.0 t) h.1)
  IsArgument-stays t (inr h) = inr (h.0, IsPresent-stays (Test h.0 t) h.1)

  module _ (d : Declarations) where
    pub IsOpen-stays : (t : TermId) (sort : SortId) → IsOpen d old t sort → IsOpen d new t sort
    IsOpen-stays t sort h = record { core = h.core; stands = stays_at t.0 (h.core, sort) h.stands; structured = h.structured; unbuilt = h.unbuilt }

    pub IsOpen-was : (t : TermId) (sort : SortId) → t.0 < length old → IsOpen d new t sort → IsOpen d old t sort
    IsOpen-was t sort within h = record { core = h.core; stands = stood_at t.0 (h.core, sort) within h.stands; structured = h.structured; unbuilt = h.unbuilt }

    pub IsSplitTerm-stays : (t : TermId) (sort : SortId) → IsSplitTerm d old t sort → IsSplitTerm d new t sort
    IsSplitTerm-stays t sort h =
        record { unsettled = IsOpen-stays t sort h.unsettled; cause = elim h.cause [ inl a ↦ inl (IsArgument-stays t a) | inr f ↦ inr f ] }

    pub IsCaseOf-stays : (t : TermId) (c : CtorId) → IsCaseOf d old t c → IsCaseOf d new t c
    IsCaseOf-stays t c h = (h.0, IsSplitTerm-stays t h.0 h.1, h.2)

    pub fields_stay : (t : TermId) (sels : List SelId) (args : List TermId) → AllZip (IsFieldTerm old t) sels args → AllZip (IsFieldTerm new t) sels args
    fields_stay t sels args all = AllZip-weaker (IsFieldTerm old t) (IsFieldTerm new t) (λ s field has. Has-stays (Sel s t) field.0 has) sels args all

    pub HasCase-stays : (t : TermId) (c : CtorId) → HasCase d old t c → HasCase d new t c
    HasCase-stays t c h =
        record { tested = IsPresent-stays (Test c t) h.tested; args = h.args; fields = fields_stay t (sels_of d c) h.args h.fields; built = IsPresent-stays (Con c h.args) h.built }

    pub HasCases-stay : (t : TermId) (sort : SortId) → HasCases d old t sort → HasCases d new t sort
    HasCases-stay t sort h c of_sort = HasCase-stays t c (h c of_sort)

    pub AreMarked-stay : (marks : List Bool) → AreMarked d old marks → AreMarked d new marks
    AreMarked-stay marks h t marked =
        let was = h t marked in
        (was.0, IsSplitTerm-stays t was.0 was.1, HasCases-stay t was.0 was.2)

    pub IsConditionalTaken-stays : (t : TermId) → t.0 < length old → IsConditionalTaken old t → IsConditionalTaken new t
    IsConditionalTaken-stays t within h c a b sort at other =
        let was = h c a b sort (stood_at t.0 (Ite c a b, sort) within at) other in
        (IsPresent-stays (Eq t a) was.0, IsPresent-stays (Eq t b) was.1)

    -- an argument is before the term
    pub argument_below : AreOrdered new → (x t : TermId) → IsArgumentOf new x t → x.0 < t.0
    argument_below ordered x t (inl h) = (ordered t.0 (Sel h.0 x) h.1).0
    argument_below ordered x t (inr h) = (ordered t.0 (Test h.0 x) h.1).0

    pub IsArgumentOf-was : (x t : TermId) → t.0 < length old → IsArgumentOf new x t → IsArgumentOf old x t
    IsArgumentOf-was x t within (inl h) = inl (h.0, (h.1.0, stood_at t.0 (Sel h.0 x, h.1.0) within h.1.1))
    IsArgumentOf-was x t within (inr h) = inr (h.0, (h.1.0, stood_at t.0 (Test h.0 x, h.1.0) within h.1.1))

    module _ (before after : List Bool) (stay : (t : TermId) → IsMarked before t → IsMarked after t) where
      pub IsArgumentTaken-stays : AreOrdered new → (t : TermId) → t.0 < length old → IsArgumentTaken d old before t → IsArgumentTaken d new after t
      IsArgumentTaken-stays ordered t within h x sort argument unsettled =
          let below : x.0 < t.0 = argument_below ordered x t argument in
          stay x (h x sort (IsArgumentOf-was x t within argument) (IsOpen-was x sort (omega arith) unsettled))

      pub IsFiniteTaken-stays : (t : TermId) → t.0 < length old → IsFiniteTaken d old before t → IsFiniteTaken d new after t
      IsFiniteTaken-stays t within h sort unsettled finite = stay t (h sort (IsOpen-was t sort within unsettled) finite)

      pub IsTaken-stays : AreOrdered new → (t : TermId) → t.0 < length old → IsTaken d old before t → IsTaken d new after t
      IsTaken-stays ordered t within h =
          record {
            conditional = IsConditionalTaken-stays t within h.conditional;
            argument = IsArgumentTaken-stays ordered t within h.argument;
            finite = IsFiniteTaken-stays t within h.finite;
          }

-- no step, and one step after the other
pub step_none : (d : Declarations) (table : Terms) → IsSound d table → IsStep d table table
step_none d table sound = record { grown = Begins-itself table; sound = sound; forced = λ set closed all. all }

pub step_then : (d : Declarations) (old mid new : Terms) → IsStep d old mid → IsStep d mid new → IsStep d old new
step_then d old mid new first second =
    record {
      grown = Begins-further old mid new first.grown second.grown;
      sound = second.sound;
      forced = λ set closed all. second.forced set closed (first.forced set closed all);
    }

-- the trees of the terms below a number are in the set
abbrev pub AreInBelow : List CoreTree → Terms → ℕ → Type 0
AreInBelow set table n = (t : TermId) → t.0 < n → Contains set (term_at table t)

-- one term more is a step, where each closed set that has the trees of the table has its tree
pub step_added : TreeTheorems → (d : Declarations) (old new : Terms) (core : Core) → IsSound d new → IsAdded d old new core → (Begins old new → (set : List CoreTree) → IsClosed d (Contains set) → AreInBelow set new (length old) → Contains set (tree_layer (term_at new) core)) → IsStep d old new
step_added th d old new core sound (inl same) forced =
    subst (λ (table : Terms). IsStep d table new) same (step_none d new sound)
step_added th d old new core sound (inr (sort, sorted, is)) forced =
    let grown : Begins old new = ((core, sort) ∷ [], is) in
    let at : slice_get new (length old) ≡ Some (core, sort) = ap (λ (table : Terms). slice_get table (length old)) is ∙ slice_get-last old (core, sort) in
    let long : length new ≡ length old + 1 = ap length is ∙ length-append old ((core, sort) ∷ []) in
    record {
      grown = grown;
      sound = sound;
      forced = λ set closed all t within.
          let before : AreInBelow set new (length old) = λ u below. subst (Contains set) (sym (term_stays th old new grown sound.ordered u below)) (all u below) in
          elim (last_or_before t.0 (length old) (omega arith)) [
            | inl below ↦ before t below
            | inr last ↦
                let here : slice_get new t.0 ≡ Some (core, sort) = ap (slice_get new) last ∙ at in
                subst (Contains set) (sym (layer_at th new sound.ordered core t (sort, here))) (forced grown set closed before)
          ];
    }

-- making a term adds it, or leaves the table as it is
pub added_made : (d : Declarations) (old new : Terms) (core : Core) (result : Result TermId TermError) → IfOk result (λ t. Makes d old new core t.0) → OnErr result (new ≡ old) → IsAdded d old new core
added_made d old new core (Ok t) (inl same) refused = inl same.0
added_made d old new core (Ok t) (inr made) refused = inr made.2
added_made d old new core (Err e) made refused = inl refused
