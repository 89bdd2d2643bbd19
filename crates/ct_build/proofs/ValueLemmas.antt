-- Nodes of terms: those of their sorts and of open classes, and those that are reserved for classes.
use Rattle.std.proofs.Common.{◌≡◌, ℕ, ◌+◌, ◌<◌, List, [], ◌∷◌, ◌++◌, length, set, slice_get, Some, sym, ◌∙◌, ap, subst, inl, inr, arith}
use Rattle.std.proofs.lemmas.Bool.{cases_eq, cases_order}
use Rattle.std.proofs.lemmas.Option.{same_Some, slice_get_within}
use Rattle.ct_lemmas.proofs.Lists.{slice_get-append_left, slice_get-last, slice_get-set_other, slice_get-set_same, slice_get-there}
use Rattle.ct_sorts.specs.declared.ids.SortId.{SortId}
use Rattle.ct_sorts.specs.Grown.{Begins}
use Rattle.ct_values.specs.declared.node.NodeId.{NodeId}
use Rattle.ct_values.specs.Graph.{Nodes}
use Rattle.ct_values.specs.Fitting.{HasNodeSort}
use Rattle.ct_terms.specs.declared.ids.TermId.{TermId}
use Rattle.ct_terms.specs.Terms.{IsOfSort}
use Rattle.ct_congr.specs.State.{State}
use Rattle.ct_build.specs.declared.open_classes.OpenClass.{OpenClass}
use Rattle.ct_build.specs.OpenClasses.{AreOpenClasses, AreOfAllSorts}
use Rattle.ct_build.specs.Nodes.{HaveSortedNodes, AreNumbered, IsReserved}
use Rattle.ct_build.specs.Chosen.{AreChosen, AreDefaults, IsGivenAt, AreGivenBelow, AreGiven}
use Rattle.ct_build.proofs.ListLemmas.{length-push, set_at, set_length}
use Rattle.ct_build.proofs.TermLemmas.{one_term_sort}

-- less than one more is less, or the same
less_or : (m n : ℕ) → m < n + 1 → (m ≡ n → ⊥) → m < n
less_or m n less apart = elim (cases_order m n) [
  | inl e ↦ absurd (apart e)
  | inr sides ↦ elim sides [ inl h ↦ h | inr h ↦ absurd (omega (arith, less, h)) ]
]

module _ (state : State) where
  -- ---- nodes of sorts
  -- ---- nodes of open classes
  pub given_none : (g : Nodes) (defaults : List NodeId) (unbuilt : List OpenClass) (chosen values : List NodeId) → AreDefaults state defaults (length state.terms) values → AreGivenBelow state g defaults unbuilt chosen 0 values
  given_none g defaults unbuilt chosen values are = record {
    long = are.long;
    each = λ i class less at. absurd (omega (arith, less));
    only = λ t n at. inr (are.each t n at);
  }

  -- they stay where the graph grows
  given_longer : (g longer : Nodes) (unbuilt : List OpenClass) (chosen : List NodeId) (i : ℕ) (n : NodeId) → Begins g longer → IsGivenAt state g unbuilt chosen i n → IsGivenAt state longer unbuilt chosen i n
  given_longer g longer unbuilt chosen i n (more, is) given =
      subst (λ (h : Nodes). IsGivenAt state h unbuilt chosen i n) (sym is) (record {
        within = below;
        chosen_is = given.chosen_is;
        marked = λ class at above. slice_get-append_left g more n.0 _ (given.marked class at above);
      })
    where
      below : n.0 < length (g ++ more)
      below =
          let entry = slice_get-there g n.0 given.within in
          slice_get_within (g ++ more) n.0 entry.0 (slice_get-append_left g more n.0 entry.0 entry.1)

  pub given_more : (g longer : Nodes) (defaults : List NodeId) (unbuilt : List OpenClass) (chosen : List NodeId) (count : ℕ) (values : List NodeId) (class : OpenClass) (n : NodeId) → AreOpenClasses state unbuilt → Begins g longer → slice_get unbuilt count ≡ Some class → class.rep.0 < length state.terms → IsGivenAt state longer unbuilt chosen count n → AreGivenBelow state g defaults unbuilt chosen count values → AreGivenBelow state longer defaults unbuilt chosen (count + 1) (set values class.rep.0 n)
  given_more g longer defaults unbuilt chosen count values class n classes begins listed inside given old = record {
    long = set_length values class.rep.0 n ∙ old.long;
    each = λ i other less at. elim (cases_eq i count) [
      | inl e ↦
          let same : class ≡ other = same_Some class other (sym listed ∙ ap (slice_get unbuilt) (sym e) ∙ at) in
          (n, ap (λ (c : OpenClass). slice_get (set values class.rep.0 n) c.rep.0) (sym same) ∙ slice_get-set_same values class.rep.0 n (omega (arith, old.long, inside)), subst (λ (k : ℕ). IsGivenAt state longer unbuilt chosen k n) (sym e) given)
      | inr apart ↦
          let found = old.each i other (less_or i count less apart) at in (
            found.0,
            slice_get-set_other values class.rep.0 other.rep.0 n (λ e. apart (classes.once i count other class at listed (λ k. record { 0 = e k }))) ∙ found.1,
            given_longer g longer unbuilt chosen i found.0 begins found.2,
          )
    ];
    only = λ t m at. elim (set_at values class.rep.0 t.0 n m at) [
      | inl (e, same) ↦ inl (record { index = count; class = class; below = omega arith; listed = listed; rep = λ i. record { 0 = sym e i }; given = subst (λ (k : NodeId). IsGivenAt state longer unbuilt chosen count k) same given })
      | inr (other, had) ↦ elim (old.only t m had) [
        | inl is ↦ inl (record { index = is.index; class = is.class; below = later is.index is.below; listed = is.listed; rep = is.rep; given = given_longer g longer unbuilt chosen is.index m begins is.given })
        | inr default ↦ inr default
      ]
    ];
  }
    where
      later : (i : ℕ) → i < count → i < count + 1
      later i less = omega (arith, less)

  -- where each open class has its node, they have the sorts of their terms
  pub given_sorted : (g : Nodes) (defaults : List NodeId) (unbuilt : List OpenClass) (chosen values : List NodeId) → AreChosen state g defaults unbuilt chosen → length chosen ≡ length unbuilt → AreGiven state g defaults unbuilt chosen values → HaveSortedNodes state.declarations state.terms g values
  given_sorted g defaults unbuilt chosen values are all given = record {
    long = given.long;
    sorted = λ t s n has at. elim (given.only t n at) [
      | inl is ↦
          let entry = slice_get-there chosen is.index (omega (arith, is.below, all)) in
          let same = is.given.chosen_is entry.0 entry.1 in
          subst (λ (k : NodeId). HasNodeSort state.declarations g k s) same
          (are.sorted is.index is.class entry.0 s is.listed entry.1 (subst (λ (x : TermId). IsOfSort state.terms x s) (sym is.rep) has))
      | inr (q, q_sort, at_q) ↦
          let one : q ≡ s = one_term_sort state.terms t q s q_sort has in
          subst (λ (x : SortId). HasNodeSort state.declarations g n (record { 0 = x.0 })) one (are.of_sorts.sorted q.0 n at_q)
    ];
  }

  -- and they are nodes of the graph
  pub given_within : (g : Nodes) (defaults : List NodeId) (unbuilt : List OpenClass) (chosen values : List NodeId) → AreOfAllSorts state.declarations g defaults → AreGiven state g defaults unbuilt chosen values → (t : ℕ) (n : NodeId) → slice_get values t ≡ Some n → n.0 < length g
  given_within g defaults unbuilt chosen values of_sorts given t n at = elim (given.only (record { 0 = t }) n at) [
    | inl is ↦ is.given.within
    | inr (q, q_sort, at_q) ↦ let (node, at_node, is) = of_sorts.sorted q.0 n at_q in slice_get_within g n.0 node at_node
  ]

  -- ---- numbers that are reserved for classes
  pub record AreFirstNumbered (reserved : List NodeId) (count : ℕ) (nodes : List NodeId) : Type 0 where
    pub long : length nodes ≡ count
    pub each : (t r : TermId) → t.0 < count → slice_get state.reps t.0 ≡ Some r → slice_get nodes t.0 ≡ slice_get reserved r.0

  pub numbered_more : (reserved nodes : List NodeId) (count : ℕ) (rep : TermId) (n : NodeId) → slice_get state.reps count ≡ Some rep → slice_get reserved rep.0 ≡ Some n → AreFirstNumbered reserved count nodes → AreFirstNumbered reserved (count + 1) (nodes ++ n ∷ [])
  numbered_more reserved nodes count rep n at_rep at_n old = record {
    long = length-push nodes n ∙ ap (λ k. k + 1) old.long;
    each = λ t r less at. elim (cases_eq t.0 count) [
      | inl e ↦
          let same : rep ≡ r = same_Some rep r (sym at_rep ∙ ap (slice_get state.reps) (sym e) ∙ at) in
          ap (slice_get (nodes ++ n ∷ [])) (e ∙ sym old.long) ∙ slice_get-last nodes n ∙ sym at_n ∙ ap (λ (q : TermId). slice_get reserved q.0) same
      | inr apart ↦
          let before = less_or t.0 count less apart in
          let entry = slice_get-there nodes t.0 (subst (λ (k : ℕ). t.0 < k) (sym old.long) before) in
          slice_get-append_left nodes (n ∷ []) t.0 entry.0 entry.1 ∙ sym entry.1 ∙ old.each t r before at
    ];
  }

  pub numbered_all : (list : List TermId) (base count : ℕ) (reserved nodes : List NodeId) → count ≡ length state.terms → length state.reps ≡ length state.terms
      → ((i : ℕ) (r : TermId) → slice_get list i ≡ Some r → (n : NodeId) × (slice_get reserved r.0 ≡ Some n) × IsReserved list base r n)
      → AreFirstNumbered reserved count nodes → AreNumbered state list base nodes
  numbered_all list base count reserved nodes e long of_list are = record {
    long = are.long ∙ e;
    of_reps = reserved;
    each = λ t r at. are.each t r (subst (λ (k : ℕ). t.0 < k) (long ∙ sym e) (slice_get_within state.reps t.0 r at)) at;
    reserved = of_list;
  }

-- one more number is reserved
pub reserved_more : (list : List TermId) (base : ℕ) (nodes : List NodeId) (i : ℕ) (t : TermId) (n : NodeId) → slice_get list i ≡ Some t → t.0 < length nodes → n.0 ≡ base + i
    → ((k : ℕ) (r : TermId) → k < i → slice_get list k ≡ Some r → (m : NodeId) × (slice_get nodes r.0 ≡ Some m) × IsReserved list base r m)
    → (k : ℕ) (r : TermId) → k < i + 1 → slice_get list k ≡ Some r → (m : NodeId) × (slice_get (set nodes t.0 n) r.0 ≡ Some m) × IsReserved list base r m
reserved_more list base nodes i t n listed inside number old k r less at =
    elim (cases_eq r.0 t.0) [
      | inl e ↦
          let same : t ≡ r = λ j. record { 0 = sym e j } in
          (n, ap (slice_get (set nodes t.0 n)) e ∙ slice_get-set_same nodes t.0 n inside, record { index = i; listed = listed ∙ ap Some same; number = number })
      | inr apart ↦ elim (cases_eq k i) [
        | inl here ↦ absurd (apart (ap (λ (q : TermId). q.0) (same_Some r t (sym at ∙ ap (slice_get list) here ∙ listed))))
        | inr before ↦
            let found = old k r (less_or k i less before) at in
            (found.0, slice_get-set_other nodes t.0 r.0 n apart ∙ found.1, found.2)
      ]
    ]
