-- Marked terms that are put into another table, until it is full.
use Rattle.std.proofs.Common.{◌≡◌, ℕ, zero, suc, ◌+◌, ◌<◌, ◌≤◌, ◌⊎◌, Bool, true, false, List, [], ◌∷◌, ◌++◌, length, map, Option, None, Some, slice_get, Contains, All, true≢false, refl, sym, ap, subst, ◌∙◌, inl, inr, arith, length-append}
use Rattle.std.specs.List.{AllByRecursion}
use Rattle.std.proofs.lemmas.List.{append-nil, length-map}
use Rattle.std.proofs.lemmas.List.Elements.{All-from_recursion}
use Rattle.std.proofs.lemmas.Option.{none-some, same_Some, slice_get_within}
use Rattle.ct_sorts.specs.declared.ids.SortId.{SortId}
use Rattle.ct_sorts.specs.Declarations.{Declarations}
use Rattle.ct_sorts.specs.Grown.{Begins}
use Rattle.ct_terms.specs.declared.ids.TermId.{TermId}
use Rattle.ct_terms.specs.declared.term.Core.{Core}
use Rattle.ct_terms.specs.Children.{core_children}
use Rattle.ct_terms.specs.Terms.{Terms, IsOfSort, HasSort, AreSorted, Has, IsAbsent, Makes, AreOrdered, AreSingle, BeginsWithTruths, most_terms}
use Rattle.ct_terms.specs.CoreTree.{CoreTree, term_at}
use Rattle.ct_closure.specs.Closed.{AreDifferent}
use Rattle.ct_closure.specs.ClosedTable.{HasTree, terms_at}
use Rattle.ct_restriction.specs.Renamed.{renamed, number_in}
use Rattle.ct_restriction.specs.Restricted.{IsSubtermOfOne, StandsFor, IsMarked, MarksUnder, AreMarked}
use Rattle.ct_restriction.specs.Renumbered.{IsEqualTerm, HasNoRoom, Numbers, IsNumber, IsKnown, with_number, AreMade, AreMarkedKnown, IsFilled, IsOldOrCopy}
use Rattle.ct_lemmas.proofs.Lists.{slice_get-push_cases, slice_get-last, slice_get-map_source}
use Rattle.ct_lemmas.proofs.Contained.{Contains-none, Contains-first, Contains-rest, Contains-cons, slice_get-from_Contains}
use Rattle.ct_lemmas.proofs.Numbers.{last_or_before}
use Rattle.ct_terms.proofs.SortLemmas.{IsOfSort-append}
use Rattle.ct_terms.proofs.CoreTreeLemmas.{term_at-unfolds, term_at-longer, term_at-one}
use Rattle.ct_restriction.proofs.RenamedLemmas.{layer_renamed, HasSort-renamed}
use Rattle.ct_restriction.proofs.FoundLemmas.{children_equal, equal_has, number_is, number_stays, number_cases, number_last, with_number_long, with_number_length}
use Rattle.ct_restriction.proofs.CopyLemmas.{truths_stand}
use Rattle.ct_restriction.proofs.MarkLemmas.{only_roots}

-- the number as that of a term
abbrev id : ℕ → TermId
id k = record { 0 = k }

-- the numbers below one, in order
ids_below : ℕ → List TermId
ids_below zero = []
ids_below (suc k) = ids_below k ++ id k ∷ []

ids_below-length : (k : ℕ) → length (ids_below k) ≡ k
unfolding ids_below
ids_below-length zero = refl
ids_below-length (suc k) = omega (arith, length-append (ids_below k) (id k ∷ []), ids_below-length k)

ids_below-at : (k i : ℕ) (u : TermId) → slice_get (ids_below k) i ≡ Some u → u ≡ id i
unfolding ids_below
ids_below-at zero i u at = absurd (none-some u at)
ids_below-at (suc k) i u at = elim (slice_get-push_cases (ids_below k) (id k) u i at) [
  | inl before ↦ ids_below-at k i u before
  | inr last ↦ sym last.1 ∙ ap id (sym (last.0 ∙ ids_below-length k))
]

-- `true` and `false`, which each table has
pub made_truths : (base from : Terms) (marks : List Bool) → BeginsWithTruths base → AreOrdered base → BeginsWithTruths from → AreOrdered from →
    AreMade base from marks base (record { known = true ∷ (true ∷ []); numbers = id 0 ∷ (id 1 ∷ []) })
made_truths base from marks begins ordered begins_from ordered_from = record {
  long = refl;
  each = λ t u number. two t.0 u number.1;
  all = inl (λ t marked low. truth_known t.0 low);
  only = λ u within. inl within;
  few = omega arith;
}
  where
    two : (k : ℕ) (u : TermId) → slice_get (id 0 ∷ (id 1 ∷ [])) k ≡ Some u → StandsFor from base (id k) u
    two zero u at = subst (StandsFor from base (id 0)) (same_Some (id 0) u at) (truths_stand from base begins_from ordered_from begins ordered 0 (omega arith))
    two (suc zero) u at = subst (StandsFor from base (id 1)) (same_Some (id 1) u at) (truths_stand from base begins_from ordered_from begins ordered 1 (omega arith))
    two (suc (suc k)) u at = absurd (omega (arith, slice_get_within (id 0 ∷ (id 1 ∷ [])) (suc (suc k)) u at))

    truth_known : (k : ℕ) → k < 2 → IsKnown (record { known = true ∷ (true ∷ []); numbers = id 0 ∷ (id 1 ∷ []) }) (id k)
    truth_known zero low = (id 0, (refl, refl))
    truth_known (suc zero) low = (id 1, (refl, refl))
    truth_known (suc (suc k)) low = absurd (omega (arith, low))

-- what stood for terms does so in a longer table
module _ (from to new : Terms) (grown : Begins to new) (ordered_new : AreOrdered new) where
  pub tree_stays : (u : TermId) → u.0 < length to → term_at new u ≡ term_at to u
  tree_stays u within = ap (λ (ts : Terms). term_at ts u) grown.1 ∙ term_at-longer to grown.0 u (subst AreOrdered grown.1 ordered_new) within

  pub longer_length : length to ≤ length new
  longer_length = omega (arith, ap length grown.1, length-append to grown.0)

  pub stands_longer : (t u : TermId) → StandsFor from to t u → StandsFor from new t u
  stands_longer t u h = record {
    within = let within = h.within in omega (arith, within, longer_length);
    tree = tree_stays u h.within ∙ h.tree;
    sort = λ s k. subst (λ (ts : Terms). IsOfSort ts u s) (sym grown.1) (IsOfSort-append to grown.0 u s (h.sort s k));
  }

-- one term more that has no number
pub made_without : (base from : Terms) (marks : List Bool) (to : Terms) (n : Numbers) (s : TermId) → AreMade base from marks to n → length n.numbers ≡ s.0 →
    (IsMarked marks s → (most_terms ≤ length to) × ((u : TermId) → IsEqualTerm from to s u → ⊥)) → AreMade base from marks to (with_number n None)
made_without base from marks to n s made next reason = record {
  long = with_number_long n None made.long;
  each = λ t u number. elim (number_cases n None t u made.long number) [
    | inl before ↦ made.each t u before
    | inr this ↦ absurd (none-some u this.1)
  ];
  all = elim made.all [
    | inl known ↦ elim (marked_or_not marks s) [
      | inl marked ↦ inr (record {
        full = (reason marked).0;
        many = let few = made.few in omega (arith, (reason marked).0, few, with_number_length n None);
        known = λ t u m low equal. elim (last_or_before t.0 (length n.numbers) (omega (arith, low, with_number_length n None))) [
          | inl before ↦ let was = known t m before in (was.0, number_stays n None t was.0 was.1)
          | inr here ↦ absurd ((reason marked).1 u (subst (λ (v : TermId). IsEqualTerm from to v u) (ap id (here ∙ next)) equal))
        ];
      })
      | inr unmarked ↦ inl (λ t marked low. elim (last_or_before t.0 (length n.numbers) (omega (arith, low, with_number_length n None))) [
        | inl before ↦ let was = known t marked before in (was.0, number_stays n None t was.0 was.1)
        | inr here ↦ absurd (unmarked (subst (λ (k : ℕ). slice_get marks k ≡ Some true) (here ∙ next) marked))
      ])
    ]
    | inr filled ↦ inr (record {
      full = filled.full;
      many = let many = filled.many in omega (arith, many, with_number_length n None);
      known = λ t u m low equal. elim (last_or_before t.0 (length n.numbers) (omega (arith, low, with_number_length n None))) [
        | inl before ↦ let was = filled.known t u m before equal in (was.0, number_stays n None t was.0 was.1)
        | inr here ↦
            let same : t ≡ s = ap id (here ∙ next) in
            absurd ((reason (subst (IsMarked marks) same m)).1 u (subst (λ (v : TermId). IsEqualTerm from to v u) same equal))
      ];
    })
  ];
  only = made.only;
  few = let few = made.few in omega (arith, few, with_number_length n None);
}
  where
    marked_or_not : (marks : List Bool) (s : TermId) → IsMarked marks s ⊎ (IsMarked marks s → ⊥)
    marked_or_not marks s = by (slice_get marks s.0) refl
      where
        by : (o : Option Bool) → slice_get marks s.0 ≡ o → IsMarked marks s ⊎ (IsMarked marks s → ⊥)
        by None at = inr (λ h. none-some true (sym at ∙ h))
        by (Some true) at = inl at
        by (Some false) at = inr (λ h. true≢false (sym (same_Some false true (sym at ∙ h))))

-- a marked term that the table has no room for
module _ (base from : Terms) (marks : List Bool) (to : Terms) (n : Numbers) (s : TermId) (core : Core) (ordered : AreOrdered from) (ordered_to : AreOrdered to) (has : Has from core s.0)
    (made : AreMade base from marks to n) (next : length n.numbers ≡ s.0) where
  -- its children are not all known: the table is full and has no equal term
  pub unknown_full : MarksUnder from marks 0 → (AllByRecursion (IsKnown n) (core_children core) → ⊥) → IsMarked marks s → (most_terms ≤ length to) × ((u : TermId) → IsEqualTerm from to s u → ⊥)
  unknown_full under unknown marked = elim made.all [
    | inl known ↦ absurd (unknown (each known (core_children core) (under s core (omega arith) has marked) (ordered s.0 core has)))
    | inr filled ↦ (
      filled.full,
      λ u equal. unknown (each_equal filled (core_children core) (under s core (omega arith) has marked) (ordered s.0 core has) (children_equal from to ordered ordered_to s core has u equal)),
    )
  ]
    where
      each : AreMarkedKnown marks n → (cs : List TermId) → AllByRecursion (IsMarked marks) cs → AllByRecursion (λ c. c.0 < s.0) cs → AllByRecursion (IsKnown n) cs
      each known [] all low = tt
      each known (c ∷ cs) all low = (known c all.0 (omega (arith, low.0, next)), each known cs all.1 low.1)

      each_equal : IsFilled base from marks to n → (cs : List TermId) → AllByRecursion (IsMarked marks) cs → AllByRecursion (λ c. c.0 < s.0) cs → AllByRecursion (λ c. (e : TermId) × IsEqualTerm from to c e) cs → AllByRecursion (IsKnown n) cs
      each_equal filled [] all low equal = tt
      each_equal filled (c ∷ cs) all low equal = (filled.known c equal.0.0 all.0 (omega (arith, low.0, next)) equal.0.1, each_equal filled cs all.1 low.1 equal.1)

  -- over the numbers of its children, which are known, it is not there: the table has no equal term
  pub absent_unequal : AreSingle to → AllByRecursion (IsKnown n) (core_children core) → IsAbsent to (renamed (number_in n.numbers) core) → (u : TermId) → IsEqualTerm from to s u → ⊥
  absent_unequal single known absent u equal =
      absent u.0 (equal_has from to ordered ordered_to s core has single (number_in n.numbers) (each (core_children core) known (ordered s.0 core has)) u equal)
    where
      there : s.0 < length from
      there = slice_get_within from s.0 (core, has.0) has.1

      each : (cs : List TermId) → AllByRecursion (IsKnown n) cs → AllByRecursion (λ c. c.0 < s.0) cs → AllByRecursion (λ c. IsEqualTerm from to c (number_in n.numbers c)) cs
      each [] known low = tt
      each (c ∷ cs) known low = (
        subst (IsEqualTerm from to c) (sym (number_is n c known.0.0 known.0.1))
            (let h = made.each c known.0.0 known.0.1 in record { there = omega (arith, low.0, there); within = h.within; tree = h.tree }),
        each cs known.1 low.1,
      )

-- one term more that is made
module _ (d : Declarations) (base from : Terms) (marks : List Bool) (to : Terms) (n : Numbers) (s : TermId) (core : Core) (sort : SortId)
    (ordered : AreOrdered from) (sorted : AreSorted d from) (made : AreMade base from marks to n) (next : length n.numbers ≡ s.0)
    (at : slice_get from s.0 ≡ Some (core, sort)) (known : AllByRecursion (IsKnown n) (core_children core)) where
  stands : (t : TermId) → IsKnown n t → StandsFor from to t (number_in n.numbers t)
  stands t h = subst (StandsFor from to t) (sym (number_is n t h.0 h.1)) (made.each t h.0 h.1)

  -- over the new numbers it has its sort
  pub made_sorted : HasSort d to (renamed (number_in n.numbers) core) sort
  made_sorted =
      HasSort-renamed (IsKnown n) (number_in n.numbers) d from to (λ t r k h. (stands t k).sort r h) core sort known (sorted s.0 core sort at)

  module _ (is_marked : IsMarked marks s) (new : Terms) (u : TermId) (makes : Makes d to new (renamed (number_in n.numbers) core) u.0) (ordered_new : AreOrdered new) (few_new : length new ≤ most_terms)
      (of_sort : (r : SortId) → HasSort d to (renamed (number_in n.numbers) core) r → IsOfSort new u r) where
    pub makes_grown : Begins to new
    makes_grown = elim makes [
      | inl same ↦ ([], same.0 ∙ sym (append-nil to))
      | inr more ↦ ((renamed (number_in n.numbers) core, more.2.0) ∷ [], more.2.2)
    ]

    stays : (v : TermId) → v.0 < length to → term_at new v ≡ term_at to v
    stays = tree_stays from to new makes_grown ordered_new

    has : Has new (renamed (number_in n.numbers) core) u.0
    has =
        elim makes [
          | inl same ↦ subst (λ (ts : Terms). Has ts (renamed (number_in n.numbers) core) u.0) (sym same.0) same.1
          | inr more ↦
              subst (λ (ts : Terms). Has ts (renamed (number_in n.numbers) core) u.0) (sym more.2.2)
              (more.2.0, ap (slice_get (to ++ (renamed (number_in n.numbers) core, more.2.0) ∷ [])) more.1 ∙ slice_get-last to (renamed (number_in n.numbers) core, more.2.0))
        ]

    tree : term_at new u ≡ term_at from s
    tree =
        term_at-unfolds new u (renamed (number_in n.numbers) core) has.0 ordered_new has.1
        ∙ layer_renamed (IsKnown n) (number_in n.numbers) (term_at new) (term_at from)
        (λ t k. let h = stands t k in stays (number_in n.numbers t) h.within ∙ h.tree) core known
        ∙ sym (term_at-unfolds from s core sort ordered at)

    here : StandsFor from new s u
    here = record {
      within = slice_get_within new u.0 (renamed (number_in n.numbers) core, has.0) has.1;
      tree = tree;
      sort = λ r h. subst (IsOfSort new u) (ap (λ (e : Core × SortId). e.1) (same_Some (core, sort) (h.0, r) (sym at ∙ h.1))) (of_sort sort made_sorted);
    }

    pub made_more : AreMade base from marks new (with_number n (Some u))
    made_more = record {
      long = with_number_long n (Some u) made.long;
      each = λ t v number. elim (number_cases n (Some u) t v made.long number) [
        | inl before ↦ stands_longer from to new makes_grown ordered_new t v (made.each t v before)
        | inr this ↦ subst (StandsFor from new t) (same_Some u v this.1) (subst (λ (k : ℕ). StandsFor from new (id k) u) (sym next ∙ sym this.0) here)
      ];
      all = elim made.all [
        | inl known_all ↦ inl (λ t marked low. elim (last_or_before t.0 (length n.numbers) (omega (arith, low, with_number_length n (Some u)))) [
          | inl before ↦ let was = known_all t marked before in (was.0, number_stays n (Some u) t was.0 was.1)
          | inr last ↦ (u, number_last n u t made.long last)
        ])
        | inr filled ↦ inr (record {
          full = let full = filled.full in omega (arith, full, longer_length from to new makes_grown ordered_new);
          many = let many = filled.many in omega (arith, many, with_number_length n (Some u));
          known = λ t v m low equal. elim (last_or_before t.0 (length n.numbers) (omega (arith, low, with_number_length n (Some u)))) [
            | inl before ↦
                let was = filled.known t v m before (subst (λ (ts : Terms). IsEqualTerm from ts t v) (as_before filled.full) equal) in
                (was.0, number_stays n (Some u) t was.0 was.1)
            | inr last ↦ (u, number_last n u t made.long last)
          ];
        })
      ];
      only = λ v within. elim makes [
        | inl same ↦
            let before : v.0 < length to = omega (arith, within, ap length same.0) in
            old v before
        | inr more ↦
            let up_to : v.0 < length to + 1 =
            omega (arith, within, ap length more.2.2, length-append to ((renamed (number_in n.numbers) core, more.2.0) ∷ [])) in
            elim (last_or_before v.0 (length to) up_to) [
              | inl before ↦ old v before
              | inr last ↦ inr (s, is_marked, subst (λ (w : TermId). term_at new w ≡ term_at from s) (ap id (more.1 ∙ sym last)) tree)
            ]
      ];
      few = let few = made.few in elim makes [
        | inl same ↦ omega (arith, few, ap length same.0, with_number_length n (Some u))
        | inr more ↦
            omega (arith, few, ap length more.2.2, length-append to ((renamed (number_in n.numbers) core, more.2.0) ∷ []), with_number_length n (Some u))
      ];
    }
      where
        as_before : most_terms ≤ length to → new ≡ to
        as_before full = elim makes [
          | inl same ↦ same.0
          | inr more ↦ absurd (omega (arith, full, few_new, ap length more.2.2, length-append to ((renamed (number_in n.numbers) core, more.2.0) ∷ [])))
        ]

        old : (v : TermId) → v.0 < length to → IsOldOrCopy base from marks new v
        old v before = elim (made.only v before) [
          | inl was ↦ inl was
          | inr copy ↦ inr (copy.0, copy.1, stays v before ∙ copy.2)
        ]

-- all of them: the roots
module _ (base from : Terms) (marks : List Bool) (roots : List TermId) (to : Terms) (n : Numbers) (made : AreMade base from marks to n) (marked : AreMarked from roots marks)
    (long : length n.numbers ≡ length from) (within : AllByRecursion (λ t. t.0 < length from) roots) where
  -- numbers are of equal terms
  pub made_equal : (t u : TermId) → IsNumber n t u → IsEqualTerm from to t u
  made_equal t u number =
      let h = made.each t u number in
      record { there = omega (arith, long, slice_get_within n.numbers t.0 u number.1); within = h.within; tree = h.tree }

  roots_known : AreMarkedKnown marks n → All (IsKnown n) roots
  roots_known known = All-from_recursion (IsKnown n) roots (each roots marked.rooted within)
    where
      each : (ts : List TermId) → AllByRecursion (IsMarked marks) ts → AllByRecursion (λ t. t.0 < length from) ts → AllByRecursion (IsKnown n) ts
      each [] all low = tt
      each (t ∷ ts) all low = (known t all.0 (omega (arith, low.0, long)), each ts all.1 low.1)

  pub made_room : length base + length from ≤ most_terms + 2 → All (IsKnown n) roots
  made_room room = elim made.all [
    | inl known ↦ roots_known known
    | inr filled ↦ absurd (let many = filled.many in omega (arith, room, many, long))
  ]

  pub made_only : (u : TermId) → u.0 < length to → (u.0 < length base) ⊎ IsSubtermOfOne (terms_at from roots) (term_at to u)
  made_only u there = elim (made.only u there) [
    | inl old ↦ inl old
    | inr copy ↦ inr (subst (IsSubtermOfOne (terms_at from roots)) (sym copy.2) (marked.only copy.0 copy.1))
  ]

  -- where one is not known, it and the terms of the table are more different ones than a table holds
  module _ (grown : Begins base to) (ordered : AreOrdered to) (single : AreSingle to) where
    pub made_all : All (IsKnown n) roots ⊎ HasNoRoom base from roots
    made_all = elim made.all [
      | inl known ↦ inl (roots_known known)
      | inr filled ↦ elim (known_or_one roots) [
        | inl known ↦ inl (All-from_recursion (IsKnown n) roots known)
        | inr one ↦ inr (no_room filled one.0 one.1 (marked_root one.0 one.1) one.2)
      ]
    ]
      where
        known_or_not : (t : TermId) → IsKnown n t ⊎ (IsKnown n t → ⊥)
        known_or_not t = by (slice_get n.known t.0) (slice_get n.numbers t.0) refl refl
          where
            by : (k : Option Bool) (o : Option TermId) → slice_get n.known t.0 ≡ k → slice_get n.numbers t.0 ≡ o → IsKnown n t ⊎ (IsKnown n t → ⊥)
            by None o at number = inr (λ h. none-some true (sym at ∙ h.1.0))
            by (Some false) o at number = inr (λ h. true≢false (sym (same_Some false true (sym at ∙ h.1.0))))
            by (Some true) None at number = inr (λ h. none-some h.0 (sym number ∙ h.1.1))
            by (Some true) (Some u) at number = inl (u, (at, number))

        known_or_one : (ts : List TermId) → AllByRecursion (IsKnown n) ts ⊎ ((t : TermId) × Contains ts t × (IsKnown n t → ⊥))
        known_or_one [] = inl tt
        known_or_one (t ∷ ts) = elim (known_or_not t) [
          | inr unknown ↦ inr (t, Contains-first t ts, unknown)
          | inl known ↦ elim (known_or_one ts) [
            | inl all ↦ inl (known, all)
            | inr one ↦ inr (one.0, Contains-rest t ts one.0 one.1, one.2)
          ]
        ]

        marked_root : (t : TermId) → Contains roots t → IsMarked marks t × (t.0 < length from)
        marked_root t among = each roots marked.rooted within among
          where
            each : (ts : List TermId) → AllByRecursion (IsMarked marks) ts → AllByRecursion (λ t. t.0 < length from) ts → Contains ts t → IsMarked marks t × (t.0 < length from)
            each [] all low among = absurd (Contains-none t among)
            each (u ∷ us) all low among = elim (Contains-cons u us t among) [
              | inl same ↦ subst (λ (v : TermId). IsMarked marks v × (v.0 < length from)) same (all.0, low.0)
              | inr later ↦ each us all.1 low.1 later
            ]

        no_room : IsFilled base from marks to n → (root : TermId) → Contains roots root → IsMarked marks root × (root.0 < length from) → (IsKnown n root → ⊥) → HasNoRoom base from roots
        no_room filled root among is_root unknown = record {
          trees = term_at from root ∷ map (term_at to) (ids_below (length to));
          different = different;
          each = each;
          more = let full = filled.full in omega (arith, full, length-map (ids_below (length to)) (term_at to), ids_below-length (length to));
        }
          where
            -- a term of the table
            its : (k : ℕ) (t : CoreTree) → slice_get (map (term_at to) (ids_below (length to))) k ≡ Some t → (k < length to) × (term_at to (id k) ≡ t)
            its k t at =
                let source = slice_get-map_source (term_at to) (ids_below (length to)) k t at in
                let is : source.0 ≡ id k = ids_below-at (length to) k source.0 source.1 in (
                  omega (arith, slice_get_within (ids_below (length to)) k source.0 source.1, ids_below-length (length to)),
                  ap (term_at to) (sym is) ∙ source.2,
                )

            absent : (k : ℕ) (t : CoreTree) → t ≡ term_at from root → slice_get (map (term_at to) (ids_below (length to))) k ≡ Some t → ⊥
            absent k t is at =
                let at_k = its k t at in
                unknown (filled.known root (id k) is_root.0 (omega (arith, is_root.1, long)) (record { there = is_root.1; within = at_k.0; tree = at_k.1 ∙ is }))

            different : AreDifferent (term_at from root ∷ map (term_at to) (ids_below (length to)))
            different zero zero t at_i at_j = refl
            different zero (suc j) t at_i at_j = absurd (absent j t (sym (same_Some (term_at from root) t at_i)) at_j)
            different (suc i) zero t at_i at_j = absurd (absent i t (sym (same_Some (term_at from root) t at_j)) at_i)
            different (suc i) (suc j) t at_i at_j =
                let i_is = its i t at_i in
                let j_is = its j t at_j in
                ap (λ (u : TermId). suc u.0) (term_at-one to (id i) (id j) ordered single i_is.0 j_is.0 (i_is.1 ∙ sym j_is.1))

            each : (t : CoreTree) → Contains (term_at from root ∷ map (term_at to) (ids_below (length to))) t → HasTree base t ⊎ IsSubtermOfOne (terms_at from roots) t
            each t h = elim (Contains-cons (term_at from root) (map (term_at to) (ids_below (length to))) t h) [
              | inl same ↦ inr (subst (IsSubtermOfOne (terms_at from roots)) same (only_roots from roots root among))
              | inr later ↦
                  let place = slice_get-from_Contains (map (term_at to) (ids_below (length to))) t later in
                  let is = its place.0 t place.1 in
                  elim (made_only (id place.0) is.0) [
                    | inl old ↦ inl (id place.0, old, sym (tree_stays from base to grown ordered (id place.0) old) ∙ is.1)
                    | inr copy ↦ inr (subst (IsSubtermOfOne (terms_at from roots)) is.1 copy)
                  ]
            ]
