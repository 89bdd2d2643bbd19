-- Lists of classes, one class more, and what stands in them.
use Rattle.std.proofs.Common.{◌≡◌, ℕ, ◌+◌, ◌<◌, ◌≤◌, ◌⊎◌, Bool, true, false, cond, eqb, List, [], ◌∷◌, ◌++◌, length, set, take, replicate, slice_get, Some, append_assoc, append-nil, refl, sym, ◌∙◌, ap, subst, inl, inr, arith}
use Rattle.std.proofs.lemmas.Bool.{cases_eq, cases_order}
use Rattle.std.proofs.lemmas.Bool.Decides.{Decides-eqb}
use Rattle.std.proofs.lemmas.List.{take-append-le}
use Rattle.std.proofs.lemmas.List.Sums.{sum_by-append, count_by-le-length}
use Rattle.std.proofs.Math.Nat.{add-zero}
use lib.Seq.{take-append_seam}
use Rattle.std.proofs.lemmas.Option.{none-some, same_Some, slice_get_within}
use Rattle.ct_lemmas.proofs.Booleans.{not_true}
use Rattle.ct_lemmas.proofs.Lists.{slice_get-append_left, slice_get-last, slice_get-replicate}
use Rattle.ct_sorts.specs.declared.ids.SortId.{SortId}
use Rattle.ct_card.specs.declared.size.Size.TheVariants.{Infinite}
use Rattle.ct_card.specs.Cardinality.{HasSize}
use Rattle.ct_values.specs.declared.node.NodeId.{NodeId}
use Rattle.ct_values.specs.declared.node.Node.{Node}
use Rattle.ct_values.specs.Graph.{Nodes}
use Rattle.ct_terms.specs.declared.ids.TermId.{TermId}
use Rattle.ct_terms.specs.Terms.{IsOfSort}
use Rattle.ct_congr.specs.State.{State}
use Rattle.ct_acyclic.specs.Order.{IsClassOrder}
use Rattle.ct_build.specs.declared.open_classes.OpenClass.{OpenClass}
use Rattle.ct_build.specs.OpenClasses.{has_sort, count_of, IsOpenClass, AreOpenClasses, AreFirstOpen, AreCounts, HaveOwnRepresentatives}
use Rattle.ct_build.specs.Nodes.{IsOtherClass, IsClassList, IsClassListBelow, IsOfTerm, IsCopied}
use Rattle.ct_build.proofs.ListLemmas.{pushed_at, set_at}
use Rattle.ct_build.proofs.TermLemmas.{one_term_sort}
use Rattle.ct_build.proofs.ClassLemmas.{list_own}

less_or : (m n : ℕ) → m < n + 1 → (m ≡ n → ⊥) → m < n
less_or m n less apart = elim (cases_order m n) [
  | inl e ↦ absurd (apart e)
  | inr sides ↦ elim sides [ inl h ↦ h | inr h ↦ absurd (omega (arith, less, h)) ]
]

below_more : (m n : ℕ) → m < n → m < n + 1
below_more m n less = omega (arith, less)

module _ (state : State) where
  pub class_list_first : (order list : List TermId) → list ≡ order → IsClassListBelow state 0 order list
  class_list_first order list e = record { rest = []; is = e ∙ sym (append-nil order); others = λ i t at. absurd (none-some t at); all = λ t is less. absurd (omega (arith, less)) }

  pub class_list_more : (order list : List TermId) (t : TermId) → IsOtherClass state t → IsClassListBelow state t.0 order list → IsClassListBelow state (t.0 + 1) order (list ++ t ∷ [])
  class_list_more order list t is old = record {
    rest = old.rest ++ t ∷ [];
    is = ap (λ l. l ++ t ∷ []) old.is ∙ append_assoc order old.rest (t ∷ []);
    others = λ i u at. elim (pushed_at old.rest t u i at) [
      | inl h ↦ old.others i u h
      | inr (e, same) ↦ subst (λ (q : TermId). IsOtherClass state q) (sym same) is
    ];
    all = λ u other less. elim (cases_eq u.0 t.0) [
      | inl e ↦
          let same : t ≡ u = λ i. record { 0 = sym e i } in
          (length old.rest, slice_get-last old.rest t ∙ ap Some same)
      | inr apart ↦
          let found = old.all u other (less_or u.0 t.0 less apart) in
          (found.0, slice_get-append_left old.rest (t ∷ []) found.0 u found.1)
    ];
  }

  pub class_list_skip : (order list : List TermId) (t : TermId) → (IsOtherClass state t → ⊥) → IsClassListBelow state t.0 order list → IsClassListBelow state (t.0 + 1) order list
  class_list_skip order list t is_not old = record {
    rest = old.rest;
    is = old.is;
    others = old.others;
    all = λ u other less. elim (cases_eq u.0 t.0) [
      | inl e ↦
          let same : u ≡ t = λ i. record { 0 = e i } in
          absurd (is_not (subst (λ (q : TermId). IsOtherClass state q) same other))
      | inr apart ↦ old.all u other (less_or u.0 t.0 less apart)
    ];
  }

  -- each of the list is a term
  pub listed_within : (order list : List TermId) → length state.reps ≡ length state.terms → IsClassOrder state order → IsClassList state order list → (i : ℕ) (r : TermId) → slice_get list i ≡ Some r → r.0 < length state.terms
  listed_within order list long ordered listed i r at =
      omega (arith, long, slice_get_within state.reps r.0 r (list_own state order list ordered listed i r at))

  own_more : (count : ℕ) → ((t r : TermId) → t.0 < count → slice_get state.reps t.0 ≡ Some r → slice_get state.reps r.0 ≡ Some r) → (rep : TermId) → rep.0 ≡ count → ((r : TermId) → slice_get state.reps rep.0 ≡ Some r → slice_get state.reps r.0 ≡ Some r) → (t r : TermId) → t.0 < count + 1 → slice_get state.reps t.0 ≡ Some r → slice_get state.reps r.0 ≡ Some r
  own_more count before rep is here t r less at = elim (cases_eq t.0 count) [
    | inl e ↦ here r (ap (slice_get state.reps) (is ∙ sym e) ∙ at)
    | inr apart ↦ before t r (less_or t.0 count less apart) at
  ]

  -- at the start there is none
  pub first_open_none : (list : List OpenClass) → list ≡ [] → AreFirstOpen state 0 list
  first_open_none list none = record {
    only = λ i class at. absurd (none_at i class at);
    each = λ class is less. absurd (omega (arith, less));
    once = λ i j first second at_i at_j e. absurd (none_at i first at_i);
    ranked = λ i class s at has. absurd (none_at i class at);
    own = λ t r less at. absurd (omega (arith, less));
  }
    where
      none_at : (i : ℕ) (class : OpenClass) → slice_get list i ≡ Some class → ⊥
      none_at i class at = none-some class (ap (λ (l : List OpenClass). slice_get l i) (sym none) ∙ at)

  pub first_open_skip : (list : List OpenClass) (rep : TermId) → ((class : OpenClass) → class.rep ≡ rep → IsOpenClass state class → ⊥) → ((r : TermId) → slice_get state.reps rep.0 ≡ Some r → slice_get state.reps r.0 ≡ Some r) → AreFirstOpen state rep.0 list → AreFirstOpen state (rep.0 + 1) list
  first_open_skip list rep is_not own old = record {
    only = λ i class at. ((old.only i class at).0, below_more class.rep.0 rep.0 (old.only i class at).1);
    each = λ class is less. elim (cases_eq class.rep.0 rep.0) [
      | inl e ↦ absurd (is_not class (λ i. record { 0 = e i }) is)
      | inr apart ↦ old.each class is (less_or class.rep.0 rep.0 less apart)
    ];
    once = old.once;
    ranked = old.ranked;
    own = own_more rep.0 old.own rep refl own;
  }

  pub first_open_more : (list : List OpenClass) (new : OpenClass) → IsOpenClass state new → ((s : SortId) → IsOfSort state.terms new.rep s → new.rank ≡ count_of state.terms s list) → ((r : TermId) → slice_get state.reps new.rep.0 ≡ Some r → slice_get state.reps r.0 ≡ Some r) → AreFirstOpen state new.rep.0 list → AreFirstOpen state (new.rep.0 + 1) (list ++ new ∷ [])
  first_open_more list new is rank own old = record {
    only = λ i class at. elim (pushed_at list new class i at) [
      | inl h ↦ ((old.only i class h).0, below_more class.rep.0 new.rep.0 (old.only i class h).1)
      | inr (e, same) ↦
          let here : new.rep.0 < new.rep.0 + 1 = omega arith in
          subst (λ (q : OpenClass). IsOpenClass state q × (q.rep.0 < new.rep.0 + 1)) (sym same) (is, here)
    ];
    each = λ class is_too less. elim (cases_eq class.rep.0 new.rep.0) [
      | inl e ↦ (length list, new, slice_get-last list new, (λ i. record { 0 = sym e i }))
      | inr apart ↦
          let found = old.each class is_too (less_or class.rep.0 new.rep.0 less apart) in
          (found.0, found.1, slice_get-append_left list (new ∷ []) found.0 found.1 found.2, found.3)
    ];
    once = λ i j first second at_i at_j e. elim (pushed_at list new first i at_i) [
      | inl h ↦ elim (pushed_at list new second j at_j) [
        | inl k ↦ old.once i j first second h k e
        | inr (end, same) ↦ absurd (not_there i first second h same e)
      ]
      | inr (end, same) ↦ elim (pushed_at list new second j at_j) [
        | inl k ↦ absurd (not_there j second first k same (sym e))
        | inr (end_too, same_too) ↦ end ∙ sym end_too
      ]
    ];
    ranked = λ i class s at has. elim (pushed_at list new class i at) [
      | inl h ↦
          let less = slice_get_within list i class h in
          old.ranked i class s h has ∙ ap (count_of state.terms s) (sym (take-append-le i list (new ∷ []) (omega (arith, less))))
      | inr (e, same) ↦
          ap (λ (c : OpenClass). c.rank) same ∙ rank s (subst (λ (c : OpenClass). IsOfSort state.terms c.rep s) same has)
          ∙ ap (count_of state.terms s) (sym (ap (λ (k : ℕ). take k (list ++ new ∷ [])) e ∙ take-append_seam list (new ∷ [])))
    ];
    own = own_more new.rep.0 old.own new.rep refl own;
  }
    where
      not_there : (i : ℕ) (first second : OpenClass) → slice_get list i ≡ Some first → second ≡ new → first.rep ≡ second.rep → ⊥
      not_there i first second at same e =
          let less = (old.only i first at).1 in
          let number : first.rep.0 ≡ new.rep.0 = ap (λ (t : TermId). t.0) (e ∙ ap (λ (c : OpenClass). c.rep) same) in
          omega (arith, less, number)

  count_push : (s : SortId) (list : List OpenClass) (new : OpenClass) → count_of state.terms s (list ++ new ∷ []) ≡ count_of state.terms s list + (0 + cond (has_sort s (slice_get state.terms new.rep.0)) 1 0)
  count_push s list new = sum_by-append (λ (c : OpenClass). cond (has_sort s (slice_get state.terms c.rep.0)) 1 0) list (new ∷ [])

  -- one more class is counted for its sort
  pub counts_more : (list : List OpenClass) (new : OpenClass) (s : SortId) (counts after : List ℕ) → IsOfSort state.terms new.rep s → new.rank ≡ count_of state.terms s list → after ≡ set counts s.0 (new.rank + 1) → AreCounts state list counts → AreCounts state (list ++ new ∷ []) after
  counts_more list new s counts after has rank is old q count at =
      elim (set_at counts s.0 q.0 (new.rank + 1) count (ap (λ (l : List ℕ). slice_get l q.0) (sym is) ∙ at)) [
        | inl (e, same) ↦
            let one : s ≡ q = λ i. record { 0 = sym e i } in
            let here : has_sort q (slice_get state.terms new.rep.0) ≡ true = ap (has_sort q) has.1 ∙ (Decides-eqb s.0 q.0).1 (sym e) in
            sym same ∙ ap (λ (k : ℕ). k + 1) (rank ∙ ap (λ (x : SortId). count_of state.terms x list) one) ∙ sym (count_push q list new ∙ ap (λ (b : Bool). count_of state.terms q list + (0 + cond b 1 0)) here)
        | inr (apart, had) ↦
            let other : has_sort q (slice_get state.terms new.rep.0) ≡ false = ap (has_sort q) has.1 ∙ not_true (eqb s.0 q.0) (λ yes_is. apart (sym ((Decides-eqb s.0 q.0).0 yes_is))) in
            old q count had ∙ sym (count_push q list new ∙ ap (λ (b : Bool). count_of state.terms q list + (0 + cond b 1 0)) other ∙ add-zero (count_of state.terms q list))
      ]

  -- at the start no class is counted
  pub counts_none : (list : List OpenClass) (counts : List ℕ) (many : ℕ) → list ≡ [] → counts ≡ replicate many 0 → AreCounts state list counts
  counts_none list counts many none is s count at = slice_get-replicate many s.0 0 count (ap (λ (l : List ℕ). slice_get l s.0) (sym is) ∙ at) ∙ ap (count_of state.terms s) (sym none)

  -- a rank is below the number of classes
  pub count_few : (s : SortId) (list : List OpenClass) → count_of state.terms s list ≤ length list
  count_few s list = count_by-le-length (λ (c : OpenClass). has_sort s (slice_get state.terms c.rep.0)) list

  -- those of all terms
  pub all_open : (count : ℕ) (list : List OpenClass) → count ≡ length state.reps → AreFirstOpen state count list → AreOpenClasses state list
  all_open count list e first = record {
    only = λ i class at. (first.only i class at).0;
    each = λ class is. first.each class is (subst (λ (n : ℕ). class.rep.0 < n) (sym e) (slice_get_within state.reps class.rep.0 class.rep is.own));
    once = first.once;
    ranked = first.ranked;
  }

  pub all_own : (count : ℕ) (list : List OpenClass) → count ≡ length state.reps → AreFirstOpen state count list → HaveOwnRepresentatives state
  all_own count list e first = λ t r at. first.own t r (subst (λ (n : ℕ). t.0 < n) (sym e) (slice_get_within state.reps t.0 r at)) at

  -- an open class is of a term, whose sort is infinite
  pub open_within : (list : List OpenClass) (i : ℕ) (class : OpenClass) → AreOpenClasses state list → slice_get list i ≡ Some class → class.rep.0 < length state.terms
  open_within list i class are at =
      let is = are.only i class at in
      slice_get_within state.terms class.rep.0 (is.sorted.0, is.sort) is.sorted.1

  pub open_infinite : (list : List OpenClass) (i : ℕ) (class : OpenClass) (s : SortId) → AreOpenClasses state list → slice_get list i ≡ Some class → IsOfSort state.terms class.rep s → HasSize state.declarations s.0 Infinite
  open_infinite list i class s are at has =
      let is = are.only i class at in
      subst (λ (q : SortId). HasSize state.declarations q.0 Infinite) (one_term_sort state.terms class.rep is.sort s is.sorted has) is.infinite

  -- one more node of a class
  pub class_node_more : (g : Nodes) (values nodes : List NodeId) (list : List TermId) (count : ℕ) (added : List Node) (rep : TermId) (new : Node) → length added ≡ count → slice_get list count ≡ Some rep → IsOfTerm state nodes rep new ⊎ IsCopied state g values rep new
      → ((i : ℕ) (r : TermId) (node : Node) → slice_get list i ≡ Some r → slice_get added i ≡ Some node → IsOfTerm state nodes r node ⊎ IsCopied state g values r node)
      → (i : ℕ) (r : TermId) (node : Node) → slice_get list i ≡ Some r → slice_get (added ++ new ∷ []) i ≡ Some node → IsOfTerm state nodes r node ⊎ IsCopied state g values r node
  class_node_more g values nodes list count added rep new long here is old i r node at at_node = elim (pushed_at added new node i at_node) [
    | inl h ↦ old i r node at h
    | inr (e, same) ↦
        let one : rep ≡ r = same_Some rep r (sym here ∙ ap (slice_get list) (sym (e ∙ long)) ∙ at) in
        subst (λ (x : Node). IsOfTerm state nodes r x ⊎ IsCopied state g values r x) (sym same) (subst (λ (q : TermId). IsOfTerm state nodes q new ⊎ IsCopied state g values q new) one is)
  ]
