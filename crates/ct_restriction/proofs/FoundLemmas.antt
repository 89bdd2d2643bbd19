-- Terms that another table has: what a number more says, and that a term is there exactly where it stands over the numbers of the
-- terms right under it.
use Rattle.std.proofs.Common.{◌≡◌, ◌↔◌, ℕ, ◌+◌, ◌<◌, ◌⊎◌, true, false, List, [], ◌∷◌, ◌++◌, length, map, drop, Option, None, Some, slice_get, IfSome, IfNone, true≢false, refl, sym, ap, subst, ◌∙◌, inl, inr, arith, length-append}
use Rattle.std.specs.List.{AllByRecursion}
use Rattle.std.proofs.lemmas.Option.{none-some, same_Some, slice_get_within, get_or_from_slice_get}
use Rattle.ct_terms.specs.declared.ids.TermId.{TermId}
use Rattle.ct_terms.specs.declared.term.Core.{Core}
use Rattle.ct_terms.specs.Children.{core_children, HasArgumentsBelow}
use Rattle.ct_terms.specs.Terms.{Terms, Has, AreOrdered, AreSingle, IsAbsent}
use Rattle.ct_terms.specs.CoreTree.{CoreTree, tree_children, tree_layer, term_at}
use Rattle.ct_terms.proofs.CoreTreeLemmas.{term_at-unfolds, term_at-stands, children_of_layer, entry_at}
use Rattle.ct_terms.proofs.SortLemmas.{HasArgumentsBelow-more}
use Rattle.ct_lemmas.proofs.Lists.{slice_get-append_left, slice_get-push_cases, slice_get-last}
use Rattle.ct_lemmas.proofs.Numbers.{last_or_before}
use Rattle.ct_restriction.specs.Renamed.{renamed, number_in}
use Rattle.ct_restriction.specs.Renumbered.{IsEqualTerm, Numbers, IsNumber, IsKnown, no_numbers, with_number, AreFound}
use Rattle.ct_restriction.proofs.RenamedLemmas.{layer_renamed, renamed_below}

-- the number as that of a term
abbrev id : ℕ → TermId
id k = record { 0 = k }

-- the number that is known is the one that is given
pub number_is : (n : Numbers) (t u : TermId) → IsNumber n t u → number_in n.numbers t ≡ u
number_is n t u h = get_or_from_slice_get n.numbers t.0 u t h.1

-- a number that is known before stays
pub number_stays : (n : Numbers) (o : Option TermId) (t u : TermId) → IsNumber n t u → IsNumber (with_number n o) t u
number_stays n None t u h = (slice_get-append_left n.known (false ∷ []) t.0 true h.0, slice_get-append_left n.numbers (id 0 ∷ []) t.0 u h.1)
number_stays n (Some v) t u h = (slice_get-append_left n.known (true ∷ []) t.0 true h.0, slice_get-append_left n.numbers (v ∷ []) t.0 u h.1)

-- with a number more as many have one
pub with_number_long : (n : Numbers) (o : Option TermId) → length n.known ≡ length n.numbers → length (with_number n o).known ≡ length (with_number n o).numbers
with_number_long n None long = length-append n.known (false ∷ []) ∙ ap (λ k. k + 1) long ∙ sym (length-append n.numbers (id 0 ∷ []))
with_number_long n (Some u) long = length-append n.known (true ∷ []) ∙ ap (λ k. k + 1) long ∙ sym (length-append n.numbers (u ∷ []))

pub with_number_length : (n : Numbers) (o : Option TermId) → length (with_number n o).numbers ≡ length n.numbers + 1
with_number_length n None = length-append n.numbers (id 0 ∷ [])
with_number_length n (Some u) = length-append n.numbers (u ∷ [])

-- a number that is known with one more was known before, or is that one
pub number_cases : (n : Numbers) (o : Option TermId) (t u : TermId) → length n.known ≡ length n.numbers → IsNumber (with_number n o) t u → IsNumber n t u ⊎ ((t.0 ≡ length n.numbers) × (o ≡ Some u))
number_cases n None t u long h =
    elim (slice_get-push_cases n.known false true t.0 h.0) [
      | inl known ↦ elim (slice_get-push_cases n.numbers (id 0) u t.0 h.1) [
        | inl before ↦ inl (known, before)
        | inr last ↦ absurd (omega (arith, last.0, long, slice_get_within n.known t.0 true known))
      ]
      | inr last ↦ absurd (true≢false (sym last.1))
    ]
number_cases n (Some v) t u long h =
    elim (slice_get-push_cases n.numbers v u t.0 h.1) [
      | inl before ↦ elim (slice_get-push_cases n.known true true t.0 h.0) [
        | inl known ↦ inl (known, before)
        | inr last ↦ absurd (omega (arith, last.0, long, slice_get_within n.numbers t.0 u before))
      ]
      | inr last ↦ inr (last.0, ap Some last.1)
    ]

-- the number of the last one
pub number_last : (n : Numbers) (u t : TermId) → length n.known ≡ length n.numbers → t.0 ≡ length n.numbers → IsNumber (with_number n (Some u)) t u
number_last n u t long is = (
  subst (λ (k : ℕ). slice_get (n.known ++ true ∷ []) k ≡ Some true) (long ∙ sym is) (slice_get-last n.known true),
  subst (λ (k : ℕ). slice_get (n.numbers ++ u ∷ []) k ≡ Some u) (sym is) (slice_get-last n.numbers u),
)

-- equal lists of trees: what the one are trees of, the other are
each_there : (from to : Terms) (es cs : List TermId) → map (term_at to) es ≡ map (term_at from) cs → AllByRecursion (λ e. e.0 < length to) es → AllByRecursion (λ c. c.0 < length from) cs → AllByRecursion (λ c. (e : TermId) × IsEqualTerm from to c e) cs
each_there from to [] [] same es cs = tt
each_there from to [] (c ∷ cs) same within there = absurd (omega (arith, ap length same))
each_there from to (e ∷ es) [] same within there = tt
each_there from to (e ∷ es) (c ∷ cs) same within there = (
  (e, record { there = there.0; within = within.0; tree = first_of (term_at to e) (term_at from c) (map (term_at to) es) (map (term_at from) cs) same }),
  each_there from to es cs (rest_of (term_at to e) (term_at from c) (map (term_at to) es) (map (term_at from) cs) same) within.1 there.1,
)
  where
    first_of : (x y : CoreTree) (xs ys : List CoreTree) → (x ∷ xs) ≡ (y ∷ ys) → x ≡ y
    first_of x y xs ys e = same_Some x y (ap (λ (l : List CoreTree). slice_get l 0) e)

    rest_of : (x y : CoreTree) (xs ys : List CoreTree) → (x ∷ xs) ≡ (y ∷ ys) → xs ≡ ys
    rest_of x y xs ys e = ap (λ (l : List CoreTree). drop 1 l) e

-- a term and an equal one
module _ (from to : Terms) (ordered_from : AreOrdered from) (ordered : AreOrdered to) (t : TermId) (core : Core) (has : Has from core t.0) where
  -- what is right under the one has an equal term right under the other
  pub children_equal : (u : TermId) → IsEqualTerm from to t u → AllByRecursion (λ c. (e : TermId) × IsEqualTerm from to c e) (core_children core)
  children_equal u equal =
      let entry = entry_at to u equal.within in
      let e : Core = entry.0.0 in
      let unfolded : term_at from t ≡ tree_layer (term_at from) core = term_at-unfolds from t core has.0 ordered_from has.1 in
      let layers : tree_layer (term_at to) e ≡ tree_layer (term_at from) core = sym (term_at-unfolds to u e entry.0.1 ordered entry.1) ∙ equal.tree ∙ unfolded in
      let trees : map (term_at to) (core_children e) ≡ map (term_at from) (core_children core) = sym (children_of_layer (term_at to) e) ∙ ap tree_children layers ∙ children_of_layer (term_at from) core in
      let within = HasArgumentsBelow-more u.0 (length to) e (let w = equal.within in omega (arith, w)) (ordered u.0 e (entry.0.1, entry.1)) in
      let there : t.0 < length from = slice_get_within from t.0 (core, has.0) has.1 in
      let all_there = HasArgumentsBelow-more t.0 (length from) core (omega (arith, there)) (ordered_from t.0 core has) in
      each_there from to (core_children e) (core_children core) trees within all_there

  -- over the numbers of equal terms the one stands where the other does
  pub equal_has : AreSingle to → (f : TermId → TermId) → AllByRecursion (λ c. IsEqualTerm from to c (f c)) (core_children core) → (u : TermId) → IsEqualTerm from to t u → Has to (renamed f core) u.0
  equal_has single f lows u equal =
      term_at-stands to u (renamed f core) ordered single equal.within
      (renamed_below (λ c. IsEqualTerm from to c (f c)) f (length to) (λ c h. h.within) core lows)
      (equal.tree
      ∙ sym (layer_renamed (λ c. IsEqualTerm from to c (f c)) f (term_at to) (term_at from) (λ c h. h.tree) core lows ∙ sym (term_at-unfolds from t core has.0 ordered_from has.1)))

module _ (from to : Terms) (ordered_from : AreOrdered from) (ordered : AreOrdered to) (single : AreSingle to) (t : TermId) (core : Core) (has : Has from core t.0) (n : Numbers) (found : AreFound from to n) (next : length n.numbers ≡ t.0) where
  below : HasArgumentsBelow t.0 core
  below = ordered_from t.0 core has

  there : t.0 < length from
  there = slice_get_within from t.0 (core, has.0) has.1

  unfolded : term_at from t ≡ tree_layer (term_at from) core
  unfolded = term_at-unfolds from t core has.0 ordered_from has.1

  -- where the term is there, the terms right under it are known
  pub under_known : (u : TermId) → IsEqualTerm from to t u → AllByRecursion (IsKnown n) (core_children core)
  under_known u equal =
      known_each (core_children core) (children_equal from to ordered_from ordered t core has u equal) below
    where
      known_each : (cs : List TermId) → AllByRecursion (λ c. (e : TermId) × IsEqualTerm from to c e) cs → AllByRecursion (λ c. c.0 < t.0) cs → AllByRecursion (IsKnown n) cs
      known_each [] all low = tt
      known_each (c ∷ cs) all low = ((all.0.0, (found.exact c all.0.0 (omega (arith, low.0, next))).0 all.0.1), known_each cs all.1 low.1)

  module _ (all : AllByRecursion (IsKnown n) (core_children core)) where
    equal_at : (c : TermId) → IsKnown n c → c.0 < length n.numbers → IsEqualTerm from to c (number_in n.numbers c)
    equal_at c known low = subst (IsEqualTerm from to c) (sym (number_is n c known.0 known.1)) ((found.exact c known.0 low).1 known.1)

    abbrev IsLow : TermId → Type 0
    IsLow c = IsEqualTerm from to c (number_in n.numbers c)

    lows : (cs : List TermId) → AllByRecursion (IsKnown n) cs → AllByRecursion (λ c. c.0 < t.0) cs → AllByRecursion IsLow cs
    lows [] known low = tt
    lows (c ∷ cs) known low = (equal_at c known.0 (omega (arith, low.0, next)), lows cs known.1 low.1)

    equal_all : AllByRecursion IsLow (core_children core)
    equal_all = lows (core_children core) all below

    layer : tree_layer (term_at to) (renamed (number_in n.numbers) core) ≡ term_at from t
    layer = layer_renamed IsLow (number_in n.numbers) (term_at to) (term_at from) (λ c h. h.tree) core equal_all ∙ sym unfolded

    -- over their numbers it stands there, where an equal term is there
    pub equal_stands : (u : TermId) → IsEqualTerm from to t u → Has to (renamed (number_in n.numbers) core) u.0
    equal_stands u equal = equal_has from to ordered_from ordered t core has single (number_in n.numbers) equal_all u equal

    -- and where it stands there, it is equal
    pub stands_equal : (u : TermId) → Has to (renamed (number_in n.numbers) core) u.0 → IsEqualTerm from to t u
    stands_equal u h = record {
      there = there;
      within = slice_get_within to u.0 (renamed (number_in n.numbers) core, h.0) h.1;
      tree = term_at-unfolds to u (renamed (number_in n.numbers) core) h.0 ordered h.1 ∙ layer;
    }

    -- so what a look-up finds is the equal term
    pub find_is : (made : Core) → made ≡ renamed (number_in n.numbers) core → (o : Option TermId) → IfSome o (λ u. Has to made u.0) → IfNone o (IsAbsent to made) → (u : TermId) → (o ≡ Some u) ↔ IsEqualTerm from to t u
    find_is made is None found absent u = (
      λ none. absurd (none-some u none),
      λ equal. absurd (absent u.0 (subst (λ (k : Core). Has to k u.0) (sym is) (equal_stands u equal))),
    )
    find_is made is (Some v) found absent u = (
      λ some. stands_equal u (subst (λ (k : Core). Has to k u.0) is (subst (λ (w : TermId). Has to made w.0) (same_Some v u some) found)),
      λ equal. ap Some (ap id (single v.0 u.0 made found (subst (λ (k : Core). Has to k u.0) (sym is) (equal_stands u equal)))),
    )

-- no terms are looked at
pub found_none : (from to : Terms) → AreFound from to no_numbers
found_none from to = record { long = refl; exact = λ t u low. absurd (omega (arith, low)) }

-- one term more
pub found_more : (from to : Terms) (n : Numbers) (o : Option TermId) (s : TermId) → AreFound from to n → length n.numbers ≡ s.0 →
    ((u : TermId) → (o ≡ Some u) ↔ IsEqualTerm from to s u) → AreFound from to (with_number n o)
found_more from to n o s found next last = record {
  long = with_number_long n o found.long;
  exact = λ t u low. elim (last_or_before t.0 (length n.numbers) (omega (arith, low, with_number_length n o))) [
    | inl before ↦ (
      λ equal. number_stays n o t u ((found.exact t u before).0 equal),
      λ number. elim (number_cases n o t u found.long number) [
        | inl was ↦ (found.exact t u before).1 was
        | inr this ↦ absurd (omega (arith, before, this.0))
      ],
    )
    | inr here ↦
        let same : s ≡ t = ap id (sym next ∙ sym here) in (
          λ equal. subst (λ (p : Option TermId). IsNumber (with_number n p) t u) (sym ((last u).1 (subst (λ (v : TermId). IsEqualTerm from to v u) (sym same) equal))) (number_last n u t found.long here),
          λ number. elim (number_cases n o t u found.long number) [
            | inl was ↦ absurd (omega (arith, here, slice_get_within n.numbers t.0 u was.1))
            | inr this ↦ subst (λ (v : TermId). IsEqualTerm from to v u) same ((last u).0 this.1)
          ],
        )
  ];
}
