-- Closing that goes on from a closed beginning.
use Rattle.std.proofs.Common.{◌≡◌, ◌↔◌, ℕ, ◌+◌, ◌<◌, ◌≤◌, ◌⊎◌, Bool, true, false, true≢false, List, Option, None, [], ◌∷◌, ◌++◌, length, take, drop, All, Contains, slice_get, Some, refl, sym, ap, subst, ◌∙◌, inl, inr, arith, take-append-drop, length-take-le}
use Rattle.std.proofs.lemmas.List.{take-append-le}
use Rattle.std.proofs.Math.Seq.{take-length}
use Rattle.std.proofs.lemmas.Bool.{cases_order}
use Rattle.std.proofs.lemmas.Option.{none-some, same_Some, slice_get_within}
use Rattle.std.proofs.lemmas.List.Elements.{Contains-append_cases, Contains-append_left, Contains-append_right}
use Rattle.ct_lemmas.proofs.Contained.{Contains-cons, Contains-first, Contains-from_slice_get, Contains-map_cases, Contains-none, slice_get-from_Contains}
use Rattle.ct_lemmas.proofs.Numbers.{last_or_before}
use Rattle.ct_lemmas.proofs.Prefixes.{slice_get-take}
use Rattle.ct_sorts.specs.declared.ids.SortId.{SortId}
use Rattle.ct_sorts.specs.Declarations.{Declarations, Sort, start}
use Rattle.ct_sorts.specs.Consistent.{IsConsistent}
use Rattle.ct_sorts.specs.Grown.{Begins, Extends}
use Rattle.ct_sorts.specs.Structure.{HaveOwnConstructors, AreOfTheirSorts}
use Rattle.ct_card.specs.declared.size.Size.{Size}
use Rattle.ct_card.specs.declared.size.Size.TheVariants.{Finite}
use Rattle.ct_card.specs.Cardinality.{HasSize}
use Rattle.ct_terms.specs.declared.ids.TermId.{TermId}
use Rattle.ct_terms.specs.declared.term.Core.{Core}
use Rattle.ct_terms.specs.Terms.{Terms, AreOrdered, AreSingle, BeginsWithTruths, IsBoolean}
use Rattle.ct_terms.specs.CoreTree.{CoreTree, choice, term_at}
use Rattle.ct_closure.specs.Closed.{InClosure, HasMoreThan, truth_trees}
use Rattle.ct_closure.specs.ClosedTable.{HasTree, IsClosedTable, IsOpen, IsSplitTerm, HasCases, terms_at}
use Rattle.ct_closure.specs.Further.{IsClosureOver, AreFurtherSubtermsOf, BeginsClosed}
use Rattle.ct_closure.specs.Steps.{IsSound, IsStep, IsMarked, IsConditionalTaken, IsArgumentTaken, IsFiniteTaken, IsTaken, IsUnderWay}
use Rattle.ct_closure.specs.Trees.{TreeTheorems}
use Rattle.ct_closure.proofs.TreeLemmas.{sort_inside, term_stays}
use Rattle.ct_closure.proofs.ClosedLemmas.{equations_present, cases_present}
use Rattle.ct_closure.proofs.GrowthLemmas.{longer, IsOpen-was, IsArgumentOf-was, argument_below, IsSplitTerm-stays, HasCases-stay, IsConditionalTaken-stays}
use Rattle.ct_closure.proofs.LeastLemmas.{assert_within, in_closure, has_closure, many, roots_stand}
use Rattle.ct_closure.proofs.LaterLemmas.{structured_earlier, closure_later, cases_later, split_later}
use Rattle.ct_closure.proofs.WayLemmas.{argument_of}

below_or_from : (m n : ℕ) → (m < n) ⊎ (n ≤ m)
below_or_from m n = elim (cases_order m n) [ inl same ↦ inr (omega arith) | inr (inl less) ↦ inl less | inr (inr more) ↦ inr (omega arith) ]

-- the first elements of a list begin it
pub take_begins : {X : Type 0} (n : ℕ) (xs : List X) → Begins (take n xs) xs
take_begins n xs = (drop n xs, sym (take-append-drop n xs))

module _ (th : TreeTheorems) (d e : Declarations) (roots : List CoreTree) (table : Terms) (count : ℕ) (split : List TermId) (before : BeginsClosed d e roots table count split) (of_sorts : AreOfTheirSorts e) (own : HaveOwnConstructors e) (some : 1 ≤ length e.sorts) (sizes : (s : ℕ) (size : Size) → s < length e.sorts → (HasSize e s size → HasSize d s size) × (HasSize d s size → HasSize e s size)) (sound : IsSound d table) where
  abbrev first : Terms
  first = take count table

  begins : Begins first table
  begins = take_begins count table

  first_long : length first ≡ count
  first_long = length-take-le count table before.few

  first_ordered : AreOrdered first
  first_ordered n core has = sound.ordered n core (has.0, slice_get-take count table n (core, has.0) has.1)

  first_single : AreSingle first
  first_single i j core at_i at_j = sound.single i j core (at_i.0, slice_get-take count table i (core, at_i.0) at_i.1) (at_j.0, slice_get-take count table j (core, at_j.0) at_j.1)

  first_sound : IsSound e first
  first_sound = record { sorted = before.first.sorted; ordered = first_ordered; single = first_single }

  -- the sort of a term there is an earlier one
  earlier_sort : (t : TermId) (core : Core) (sort : SortId) → slice_get first t.0 ≡ Some (core, sort) → sort.0 < length e.sorts
  earlier_sort t core sort at = sort_inside e before.consistent of_sorts some first before.first.sorted first_ordered t.0 core sort at

  -- an open term there was open
  open_was : (t : TermId) (sort : SortId) → t.0 < length first → IsOpen d table t sort → IsOpen e first t sort
  open_was t sort within is =
      let was = IsOpen-was first table begins d t sort within is in
      record { core = was.core; stands = was.stands; structured = structured_earlier d e before.extends sort (earlier_sort t was.core sort was.stands) was.structured; unbuilt = was.unbuilt }

  taken : (marks : List Bool) → ((t : TermId) → t.0 < count → Contains split t → IsMarked marks t) → (t : TermId) → t.0 < count → IsTaken d table marks t
  taken marks marked t less =
      record { conditional = conditional; argument = argument; finite = finite }
    where
      within : t.0 < length first
      within = omega (arith, first_long, less)

      conditional : IsConditionalTaken table t
      conditional = IsConditionalTaken-stays first table begins d t within (λ c a b sort at other. equations_present th e first first_sound before.first.closed t c a b sort at other)

      argument : IsArgumentTaken d table marks t
      argument x sort of_t unsettled =
          let below : x.0 < t.0 = argument_below first table begins d sound.ordered x t of_t in
          let was = IsArgumentOf-was first table begins d x t within of_t in
          let is_open = open_was x sort (omega (arith, within, below)) unsettled in
          marked x (omega (arith, less, below)) ((before.first.splits x).1 (sort, record { unsettled = is_open; cause = inl (argument_of first x t was) }))

      finite : IsFiniteTaken d table marks t
      finite sort unsettled size =
          let is_open = open_was t sort within unsettled in
          marked t less ((before.first.splits t).1 (sort, record { unsettled = is_open; cause = inr ((sizes sort.0 Finite (earlier_sort t is_open.core sort is_open.stands)).1 size) }))

  -- a term that was split is so in the whole table, and has its cases
  pub was_split : (t : TermId) → Contains split t → (sort : SortId) × IsSplitTerm d table t sort × HasCases d table t sort
  was_split t listed =
      let was = (before.first.splits t).0 listed in
      let within : was.0.0 < length e.sorts = earlier_sort t was.1.unsettled.core was.0 was.1.unsettled.stands in
      let cases = cases_later d e before.extends own first t was.0 within (cases_present th e first first_sound before.first.closed t was.0 was.1) in
      (was.0, IsSplitTerm-stays first table begins d t was.0 (split_later d e before.extends own sizes first t was.0 was.1), HasCases-stay first table begins d t was.0 cases)

  pub split_below : (t : TermId) → Contains split t → t.0 < count
  split_below t listed =
      let was = (before.first.splits t).0 listed in
      omega (arith, slice_get_within first t.0 (was.1.unsettled.core, was.0) was.1.unsettled.stands, first_long)

  -- so the first terms are taken
  pub first_taken : (marks : List Bool) → length marks ≡ count → ((t : TermId) → t.0 < count → Contains split t → IsMarked marks t) → ((t : TermId) → IsMarked marks t → Contains split t) → IsUnderWay d table marks
  first_taken marks long marked listed =
      record {
        taken = λ t less. taken marks marked t (omega (arith, long, less));
        marked = λ t here. was_split t (listed t here);
      }

  -- what stands in the table is in the closure of all roots
  pub further_inside : (asserts : List TermId) → AreFurtherSubtermsOf table count asserts → (t : TermId) → t.0 < length table → InClosure d (roots ++ terms_at table asserts) (term_at table t)
  further_inside asserts exact t within =
      elim (below_or_from t.0 count) [
        | inl less ↦
            let in_first : t.0 < length first = omega (arith, first_long, less) in
            let same : term_at table t ≡ term_at first t = term_stays th first table begins sound.ordered t in_first in
            subst (InClosure d (roots ++ terms_at table asserts)) (sym same) (closure_later d e before.extends own sizes roots (terms_at table asserts) (term_at first t) (before.first.inside (term_at first t) (t, in_first, refl)))
        | inr from ↦ λ set over.
            let root = exact t from within in
            over.closed.subterms root.0 (term_at table t) (over.rooted root.0 (more_roots root.0 root.1)) root.2
      ]
    where
      more_roots : (u : CoreTree) → Contains (truth_trees ++ terms_at table asserts) u → Contains (truth_trees ++ (roots ++ terms_at table asserts)) u
      more_roots u listed =
          elim (Contains-append_cases truth_trees (terms_at table asserts) u listed) [
            | inl truth ↦ Contains-append_left truth_trees (roots ++ terms_at table asserts) u truth
            | inr new ↦ Contains-append_right truth_trees (roots ++ terms_at table asserts) u (Contains-append_right roots (terms_at table asserts) u new)
          ]

  -- and all roots stand there
  pub further_rooted : (asserts : List TermId) → ((a : TermId) → Contains asserts a → a.0 < length table) → (t : CoreTree) → Contains (roots ++ terms_at table asserts) t → HasTree table t
  further_rooted asserts within t listed =
      elim (Contains-append_cases roots (terms_at table asserts) t listed) [
        | inl root ↦
            let at = before.first.rooted t root in
            (at.0, omega (arith, at.1, longer first table begins), term_stays th first table begins sound.ordered at.0 at.1 ∙ at.2)
        | inr new ↦
            let found = Contains-map_cases (term_at table) asserts t new in
            (found.0, within found.0 found.1, found.2)
      ]

marked_or : (marks : List Bool) (t : TermId) → IsMarked marks t ⊎ (IsMarked marks t → ⊥)
marked_or marks t = by (slice_get marks t.0) refl
  where
    by : (o : Option Bool) → slice_get marks t.0 ≡ o → IsMarked marks t ⊎ (IsMarked marks t → ⊥)
    by None e = inr (λ h. none-some true (sym e ∙ h))
    by (Some true) e = inl e
    by (Some false) e = inr (λ h. true≢false (sym (same_Some _ _ (sym e ∙ h))))

-- the terms that were split with those that are split now are all that are
pub split_after : (d : Declarations) (table new : Terms) → Begins table new → (old after all : List TermId) (before : List Bool)
    → ((t : TermId) → Contains old t → (sort : SortId) × IsSplitTerm d table t sort × HasCases d table t sort)
    → ((t : TermId) → IsMarked before t → Contains old t)
    → ((t : TermId) → Contains all t ↔ ((sort : SortId) × IsSplitTerm d new t sort))
    → ((t : TermId) → Contains after t ↔ (Contains old t ⊎ (Contains all t × (IsMarked before t → ⊥))))
    → (t : TermId) → Contains after t ↔ ((sort : SortId) × IsSplitTerm d new t sort)
split_after d table new grown old after all before was marks are pushed t = (
  λ h. elim ((pushed t).0 h) [
    | inl listed ↦ let w = was t listed in (w.0, IsSplitTerm-stays table new grown d t w.0 w.1)
    | inr (listed, fresh) ↦ (are t).0 listed
  ],
  λ split. (pushed t).1 (elim (marked_or before t) [ inl marked ↦ inl (marks t marked) | inr fresh ↦ inr ((are t).1 split, fresh) ]),
)

-- the closure of no roots over no terms, from which closing may begin
pub nothing : (d : Declarations) (table : Terms) → IsConsistent d → Extends d d → BeginsClosed d d [] table 0 []
nothing d table consistent itself =
    record {
      consistent = consistent;
      extends = itself;
      few = omega arith;
      first = record {
        sorted = λ t core sort at. absurd (none-some _ at);
        closed = record {
          subterms = λ t s stands sub. absurd (no_tree t stands);
          conditionals = λ c a b sort stands sorted other. absurd (no_tree (choice c a b) stands);
          splits = λ t sort c split of_sort. absurd (no_tree t split.member);
        };
        inside = λ t stands. absurd (no_tree t stands);
        rooted = λ t listed. absurd (Contains-none t listed);
        splits = λ t. (λ listed. absurd (Contains-none t listed), λ (sort, split). absurd (none-some _ split.unsettled.stands));
      };
    }
  where
    no_tree : (t : CoreTree) → HasTree [] t → ⊥
    no_tree t (n, within, e) = omega (arith, within)

-- the theorems on which going on rests
pub record Theorems : Type 0 where
  pub trees : TreeTheorems
  pub of_sorts : (e : Declarations) → IsConsistent e → AreOfTheirSorts e
  pub own : (e : Declarations) → IsConsistent e → HaveOwnConstructors e
  pub stays : (later earlier : Declarations) (s : ℕ) (size : Size) → IsConsistent earlier → Extends later earlier → s < length earlier.sorts → HasSize earlier s size ↔ HasSize later s size

-- Bool is there
some_sorts : (e : Declarations) → IsConsistent e → 1 ≤ length e.sorts
some_sorts e consistent = by e.sorts consistent.first_sort
  where
    by : (sorts : List Sort) → take 1 sorts ≡ start.sorts → 1 ≤ length sorts
    by [] same = let h : 0 ≡ 1 = ap length same in omega (arith, h)
    by (x ∷ xs) same = omega arith

module _ (th : Theorems) (d e : Declarations) (roots : List CoreTree) (table : Terms) (count : ℕ) (split : List TermId) (before : BeginsClosed d e roots table count split) (sound : IsSound d table) where
  sizes_of : (s : ℕ) (size : Size) → s < length e.sorts → (HasSize e s size → HasSize d s size) × (HasSize d s size → HasSize e s size)
  sizes_of s size within = let h = th.stays d e s size before.consistent before.extends within in (h.0, h.1)

  of_sorts : AreOfTheirSorts e
  of_sorts = th.of_sorts e before.consistent

  own : HaveOwnConstructors e
  own = th.own e before.consistent

  some : 1 ≤ length e.sorts
  some = some_sorts e before.consistent

  pub begins_taken : (marks : List Bool) → length marks ≡ count → ((t : TermId) → t.0 < count → Contains split t ↔ IsMarked marks t) → IsUnderWay d table marks
  begins_taken marks long are =
      first_taken th.trees d e roots table count split before of_sorts own some sizes_of sound marks long
      (λ t less listed. (are t less).0 listed)
      (λ t marked. (are t (omega (arith, long, slice_get_within marks t.0 true marked))).1 marked)

  pub begins_split : (t : TermId) → Contains split t → (sort : SortId) × IsSplitTerm d table t sort × HasCases d table t sort
  begins_split = was_split th.trees d e roots table count split before of_sorts own some sizes_of sound

  pub begins_below : (t : TermId) → Contains split t → t.0 < count
  begins_below = split_below th.trees d e roots table count split before of_sorts own some sizes_of sound

  pub begins_inside : (asserts : List TermId) → AreFurtherSubtermsOf table count asserts → (t : TermId) → t.0 < length table → InClosure d (roots ++ terms_at table asserts) (term_at table t)
  begins_inside = further_inside th.trees d e roots table count split before of_sorts own some sizes_of sound

  pub begins_rooted : (asserts : List TermId) → All (IsBoolean table) asserts → (t : CoreTree) → Contains (roots ++ terms_at table asserts) t → HasTree table t
  begins_rooted asserts booleans = further_rooted th.trees d e roots table count split before of_sorts own some sizes_of sound asserts (assert_within table asserts booleans)

-- the table after closing is the closure of all roots
module _ (th : Theorems) (d e : Declarations) (roots : List CoreTree) (table new : Terms) (count : ℕ) (split : List TermId) (before : BeginsClosed d e roots table count split) (sound : IsSound d table) (asserts : List TermId) (exact : AreFurtherSubtermsOf table count asserts) (booleans : All (IsBoolean table) asserts) (step : IsStep d table new) where
  pub further_in : (t : CoreTree) → HasTree new t → InClosure d (roots ++ terms_at table asserts) t
  further_in = in_closure th.trees d table new (roots ++ terms_at table asserts) (begins_inside th d e roots table count split before sound asserts exact) (begins_rooted th d e roots table count split before sound asserts booleans) step

  pub further_has : BeginsWithTruths new → IsClosedTable d new → (t : CoreTree) → InClosure d (roots ++ terms_at table asserts) t → HasTree new t
  further_has = has_closure th.trees d table new (roots ++ terms_at table asserts) (begins_inside th d e roots table count split before sound asserts exact) (begins_rooted th d e roots table count split before sound asserts booleans) step

  pub further_many : (most : ℕ) → most < length new → HasMoreThan d (roots ++ terms_at table asserts) most
  further_many = many th.trees d table new (roots ++ terms_at table asserts) (begins_inside th d e roots table count split before sound asserts exact) (begins_rooted th d e roots table count split before sound asserts booleans) step

  pub further_over : (after all : List TermId) (marks : List Bool) → IsClosedTable d new
      → ((t : TermId) → IsMarked marks t → Contains split t)
      → ((t : TermId) → Contains all t ↔ ((sort : SortId) × IsSplitTerm d new t sort))
      → ((t : TermId) → Contains after t ↔ (Contains split t ⊎ (Contains all t × (IsMarked marks t → ⊥))))
      → IsClosureOver d (roots ++ terms_at table asserts) new after
  further_over after all marks closed listed are pushed =
      record {
        sorted = step.sound.sorted;
        closed = closed;
        inside = further_in;
        rooted = roots_stand th.trees d table new (roots ++ terms_at table asserts) (begins_inside th d e roots table count split before sound asserts exact) (begins_rooted th d e roots table count split before sound asserts booleans) step;
        splits = split_after d table new step.grown split after all marks (begins_split th d e roots table count split before sound) listed are pushed;
      }

-- ---- marks and lists

-- the first terms, as many as the index, are marked, and no others are
pub record AreMarksOf (terms : List TermId) (count : ℕ) (marks : List Bool) (index : ℕ) : Type 0 where
  pub long : length marks ≡ count
  pub only : (u : TermId) → IsMarked marks u → (i : ℕ) × (i < index) × (slice_get terms i ≡ Some u)
  pub each : (i : ℕ) (u : TermId) → i < index → slice_get terms i ≡ Some u → u.0 < count → IsMarked marks u

pub marks_none : (terms : List TermId) (count : ℕ) (marks : List Bool) → length marks ≡ count → ((t : TermId) → IsMarked marks t → ⊥) → AreMarksOf terms count marks 0
marks_none terms count marks long none = record { long = long; only = λ u marked. absurd (none u marked); each = λ i u less. absurd (omega arith) }

pub marks_more : (terms : List TermId) (count : ℕ) (marks after : List Bool) (index : ℕ) (t : TermId) → slice_get terms index ≡ Some t → length after ≡ length marks → ((u : TermId) → IsMarked after u ↔ (IsMarked marks u ⊎ ((u ≡ t) × (t.0 < length marks)))) → AreMarksOf terms count marks index → AreMarksOf terms count after (index + 1)
marks_more terms count marks after index t at long are before =
    record {
      long = long ∙ before.long;
      only = λ u marked. elim ((are u).0 marked) [
        | inl was ↦ let w = before.only u was in (w.0, omega (arith, w.1), w.2)
        | inr (same, within) ↦ (index, omega arith, at ∙ ap Some (sym same))
      ];
      each = λ i u less listed within. (are u).1 (elim (last_or_before i index less) [
        | inl below ↦ inl (before.each i u below listed within)
        | inr last ↦
            let same : t ≡ u = same_Some _ _ (sym at ∙ ap (slice_get terms) (sym last) ∙ listed) in
            inr (sym same, omega (arith, before.long, ap (λ (x : TermId). x.0) same, within))
      ]);
    }

pub marks_all : (terms : List TermId) (count : ℕ) (marks : List Bool) (index : ℕ) → length terms ≤ index → AreMarksOf terms count marks index → (t : TermId) → t.0 < count → Contains terms t ↔ IsMarked marks t
marks_all terms count marks index all are t within = (
  λ listed. let at = slice_get-from_Contains terms t listed in are.each at.0 t (omega (arith, slice_get_within terms at.0 t at.1)) at.1 within,
  λ marked. let w = are.only t marked in Contains-from_slice_get terms w.0 t w.2,
)

-- one more term at the end of a list
pub contains_pushed : (list after : List TermId) (t : TermId) → after ≡ list ++ t ∷ [] → (u : TermId) → Contains after u ↔ (Contains list u ⊎ (u ≡ t))
contains_pushed list after t grown u = (
  λ h. elim (Contains-append_cases list (t ∷ []) u (subst (λ (l : List TermId). Contains l u) grown h)) [
    | inl was ↦ inl was
    | inr new ↦ elim (Contains-cons t [] u new) [ inl same ↦ inr (sym same) | inr none ↦ absurd (Contains-none u none) ]
  ],
  λ h. subst (λ (l : List TermId). Contains l u) (sym grown) (elim h [
    | inl was ↦ Contains-append_left list (t ∷ []) u was
    | inr same ↦ Contains-append_right list (t ∷ []) u (subst (Contains (t ∷ [])) (sym same) (Contains-first t []))
  ]),
)

-- the list has those of the first terms that have no mark, as many as the index, after what it had
abbrev pub ArePushed : List Bool → List TermId → List TermId → List TermId → ℕ → Type 0
ArePushed before terms old list index = (u : TermId) → Contains list u ↔ (Contains old u ⊎ ((i : ℕ) × (i < index) × (slice_get terms i ≡ Some u) × (IsMarked before u → ⊥)))

pub pushed_none : (before : List Bool) (terms old : List TermId) → ArePushed before terms old old 0
pushed_none before terms old u = (λ h. inl h, λ h. elim h [ inl was ↦ was | inr new ↦ absurd (omega (arith, new.1)) ])

pub pushed_more : (before : List Bool) (terms old list after : List TermId) (index : ℕ) (t : TermId) → slice_get terms index ≡ Some t → ((u : TermId) → Contains after u ↔ (Contains list u ⊎ ((u ≡ t) × (IsMarked before t → ⊥)))) → ArePushed before terms old list index → ArePushed before terms old after (index + 1)
pushed_more before terms old list after index t at step so_far u = (
  λ h. elim ((step u).0 h) [
    | inl was ↦ elim ((so_far u).0 was) [ inl first ↦ inl first | inr new ↦ inr (new.0, omega (arith, new.1), new.2, new.3) ]
    | inr (same, fresh) ↦ inr (index, omega arith, at ∙ ap Some (sym same), λ marked. fresh (subst (IsMarked before) same marked))
  ],
  λ h. elim h [
    | inl first ↦ (step u).1 (inl ((so_far u).1 (inl first)))
    | inr new ↦ elim (last_or_before new.0 index new.1) [
      | inl below ↦ (step u).1 (inl ((so_far u).1 (inr (new.0, below, new.2, new.3))))
      | inr last ↦
          let same : t ≡ u = same_Some _ _ (sym at ∙ ap (slice_get terms) (sym last) ∙ new.2) in
          (step u).1 (inr (sym same, λ marked. new.3 (subst (IsMarked before) same marked)))
    ]
  ],
)

pub pushed_all : (before : List Bool) (terms old list : List TermId) (index : ℕ) → length terms ≤ index → ArePushed before terms old list index → (t : TermId) → Contains list t ↔ (Contains old t ⊎ (Contains terms t × (IsMarked before t → ⊥)))
pushed_all before terms old list index all are t = (
  λ h. elim ((are t).0 h) [ inl was ↦ inl was | inr new ↦ inr (Contains-from_slice_get terms new.0 t new.2, new.3) ],
  λ h. (are t).1 (elim h [
    | inl was ↦ inl was
    | inr (listed, fresh) ↦ let at = slice_get-from_Contains terms t listed in inr (at.0, omega (arith, slice_get_within terms at.0 t at.1), at.1, fresh)
  ]),
)

-- ---- closed beginnings of tables that grow and are cut

-- the first elements of a longer list
begins_same : {X : Type 0} (old new : List X) (count : ℕ) → count ≤ length old → Begins old new → take count new ≡ take count old
begins_same old new count few grown = ap (take count) grown.1 ∙ take-append-le count old grown.0 few

begins_whole : {X : Type 0} (old new : List X) → Begins old new → take (length old) new ≡ old
begins_whole old new grown = begins_same old new (length old) (omega arith) grown ∙ take-length old

-- a longer table begins with what is closed
pub longer_begins : (d e : Declarations) (roots : List CoreTree) (old new : Terms) (count : ℕ) (split : List TermId) → Begins old new → BeginsClosed d e roots old count split → BeginsClosed d e roots new count split
longer_begins d e roots old new count split grown before =
    record {
      consistent = before.consistent;
      extends = before.extends;
      few = omega (arith, before.few, longer old new grown);
      first = subst (λ (table : Terms). IsClosureOver e roots table split) (sym (begins_same old new count before.few grown)) before.first;
    }

-- and so does one that begins with a closed table
pub closed_begins : (d e : Declarations) (roots : List CoreTree) (table new : Terms) (split : List TermId) → IsConsistent e → Extends d e → Begins table new → IsClosureOver e roots table split → BeginsClosed d e roots new (length table) split
closed_begins d e roots table new split consistent extends grown is =
    record {
      consistent = consistent;
      extends = extends;
      few = longer table new grown;
      first = subst (λ (t : Terms). IsClosureOver e roots t split) (sym (begins_whole table new grown)) is;
    }

-- cut to their lengths before, the table and the list are the closure that they were
pub cut_is_closed : (d e : Declarations) (roots : List CoreTree) (old new : Terms) (count : ℕ) (split after : List TermId) → BeginsClosed d e roots old count split → Begins old new → Begins split after → IsClosureOver e roots (take count new) (take (length split) after)
cut_is_closed d e roots old new count split after before grown grown_split =
    subst (λ (ts : List TermId). IsClosureOver e roots (take count new) ts) (sym (begins_whole split after grown_split))
    (subst (λ (table : Terms). IsClosureOver e roots table split) (sym (begins_same old new count before.few grown)) before.first)
