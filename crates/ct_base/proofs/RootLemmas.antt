-- Roots that are the first of some assertions, and all of them with those that were brought in.
use Rattle.std.proofs.Common.{◌≡◌, ℕ, zero, suc, ◌+◌, ◌<◌, ◌≤◌, List, [], ◌∷◌, ◌++◌, length, take, drop, All, Some, slice_get, refl, sym, ap, subst, ◌∙◌, arith}
use Rattle.std.proofs.lemmas.List.{map-append, take-append-drop}
use Rattle.std.proofs.Math.Seq.{drop-append_seam}
use Rattle.std.proofs.lemmas.List.Elements.{All-head, All-tail, All-append, All-weaker}
use Rattle.std.proofs.lemmas.Option.{same_Some, slice_get_within}
use Rattle.ct_lemmas.proofs.Lists.{slice_get-append_left}
use Rattle.ct_lemmas.proofs.Prefixes.{slice_get-take, slice_get-take_below, take-slice_get_next}
use Rattle.ct_sorts.specs.Declarations.{bool_sort}
use Rattle.ct_sorts.specs.Grown.{Begins}
use Rattle.ct_terms.specs.declared.ids.TermId.{TermId}
use Rattle.ct_terms.specs.Terms.{Terms, IsBoolean, AreOrdered}
use Rattle.ct_terms.specs.CoreTree.{CoreTree, term_at}
use Rattle.ct_closure.specs.ClosedTable.{terms_at}
use Rattle.ct_restriction.specs.Renumbered.{AreNumbersOf}

-- ---- one more

pub roots_step : (table from : Terms) (roots asserts : List TermId) (count : ℕ) (t u : TermId) → terms_at table (take count roots) ≡ terms_at from (take count asserts) → slice_get roots count ≡ Some u → slice_get asserts count ≡ Some t → term_at table u ≡ term_at from t
    → terms_at table (take (count + 1) roots) ≡ terms_at from (take (count + 1) asserts)
roots_step table from roots asserts count t u same at_root at_assert tree =
    ap (terms_at table) (take-slice_get_next roots count u at_root)
    ∙ map-append (term_at table) (take count roots) (u ∷ [])
    ∙ ap (λ (trees : List CoreTree). trees ++ term_at table u ∷ []) same
    ∙ ap (λ (x : CoreTree). terms_at from (take count asserts) ++ x ∷ []) tree
    ∙ sym (map-append (term_at from) (take count asserts) (t ∷ []))
    ∙ sym (ap (terms_at from) (take-slice_get_next asserts count t at_assert))

-- numbers that are cut to those that are right are right
pub numbers_left : (from to : Terms) (numbers : List TermId) (n : ℕ) → AreNumbersOf from to numbers n → AreNumbersOf from to (take n numbers) (length (take n numbers))
numbers_left from to numbers n are t u less at = are t u (slice_get-take_below n numbers t.0 u at) (slice_get-take n numbers t.0 u at)

-- ---- fewer roots

first_of : (x y : CoreTree) (xs ys : List CoreTree) → (x ∷ xs) ≡ (y ∷ ys) → x ≡ y
first_of x y xs ys e = same_Some x y (ap (λ (l : List CoreTree). slice_get l 0) e)

rest_of : (x y : CoreTree) (xs ys : List CoreTree) → (x ∷ xs) ≡ (y ∷ ys) → xs ≡ ys
rest_of x y xs ys e = ap (λ (l : List CoreTree). drop 1 l) e

pub fewer : (table from : Terms) (roots asserts : List TermId) (k c : ℕ) → k ≤ c → terms_at table (take c roots) ≡ terms_at from (take c asserts) → terms_at table (take k roots) ≡ terms_at from (take k asserts)
fewer table from roots asserts zero c low same = refl
fewer table from roots asserts (suc k) zero low same = absurd (omega (arith, low))
fewer table from [] [] (suc k) (suc c) low same = refl
fewer table from [] (t ∷ ts) (suc k) (suc c) low same = absurd (omega (arith, ap (λ (l : List CoreTree). length l) same))
fewer table from (u ∷ us) [] (suc k) (suc c) low same = absurd (omega (arith, ap (λ (l : List CoreTree). length l) same))
fewer table from (u ∷ us) (t ∷ ts) (suc k) (suc c) low same =
    let first = first_of (term_at table u) (term_at from t) (terms_at table (take c us)) (terms_at from (take c ts)) same in
    let rest = fewer table from us ts k c (omega (arith, low)) (rest_of (term_at table u) (term_at from t) (terms_at table (take c us)) (terms_at from (take c ts)) same) in
    ap (λ (x : CoreTree). x ∷ terms_at table (take k us)) first ∙ ap (λ (xs : List CoreTree). term_at from t ∷ xs) rest

-- ---- a longer table

boolean_longer : (table longer : Terms) (t : TermId) → Begins table longer → IsBoolean table t → IsBoolean longer t
boolean_longer table longer t (rest, is) (core, stands) =
    (core, subst (λ (ts : Terms). slice_get ts t.0 ≡ Some (core, bool_sort)) (sym is) (slice_get-append_left table rest t.0 (core, bool_sort) stands))

pub booleans_longer : (table longer : Terms) (roots : List TermId) → Begins table longer → All (IsBoolean table) roots → All (IsBoolean longer) roots
booleans_longer table longer roots grown all = All-weaker (IsBoolean table) (IsBoolean longer) (λ t h. boolean_longer table longer t grown h) roots all

trees_by : (longer table : Terms) (roots : List TermId) → ((t : TermId) → t.0 < length table → term_at longer t ≡ term_at table t) → All (IsBoolean table) roots → terms_at longer roots ≡ terms_at table roots
trees_by longer table [] same all = refl
trees_by longer table (t ∷ roots) same all =
    let here : IsBoolean table t = All-head (IsBoolean table) t roots all in
    let within : t.0 < length table = slice_get_within table t.0 (here.0, bool_sort) here.1 in
    let rest = trees_by longer table roots same (All-tail (IsBoolean table) t roots all) in
    ap (λ (x : CoreTree). x ∷ terms_at longer roots) (same t within) ∙ ap (λ (xs : List CoreTree). term_at table t ∷ xs) rest

pub tree_longer : ((table more : Terms) (t : TermId) → AreOrdered (table ++ more) → t.0 < length table → term_at (table ++ more) t ≡ term_at table t) → (table longer : Terms) → Begins table longer → AreOrdered longer → (t : TermId) → t.0 < length table → term_at longer t ≡ term_at table t
tree_longer theorem table longer (rest, is) ordered t within = ap (λ (ts : Terms). term_at ts t) is ∙ theorem table rest t (subst AreOrdered is ordered) within

pub trees_longer : ((table more : Terms) (t : TermId) → AreOrdered (table ++ more) → t.0 < length table → term_at (table ++ more) t ≡ term_at table t) → (table longer : Terms) (roots : List TermId) → Begins table longer → AreOrdered longer → All (IsBoolean table) roots → terms_at longer roots ≡ terms_at table roots
trees_longer theorem table longer roots grown ordered all = trees_by longer table roots (tree_longer theorem table longer grown ordered) all

-- ---- all roots

-- a list that begins another, with what comes after it
begun : {X : Type 0} (xs all : List X) → Begins xs all → all ≡ xs ++ drop (length xs) all
begun {X} xs all (rest, is) = is ∙ ap (λ (l : List X). xs ++ l) (sym (ap (λ (l : List X). drop (length xs) l) is ∙ drop-append_seam xs rest))

pub parts : (from : Terms) (asserts : List TermId) (k : ℕ) → terms_at from (take k asserts) ++ terms_at from (drop k asserts) ≡ terms_at from asserts
parts from asserts k = sym (map-append (term_at from) (take k asserts) (drop k asserts)) ∙ ap (terms_at from) (take-append-drop k asserts)

module _ (table new from : Terms) (roots all asserts : List TermId) (grown : Begins roots all) where
  pub whole_trees : terms_at new roots ≡ terms_at table roots → terms_at table roots ≡ terms_at from (take (length roots) asserts) → terms_at new (drop (length roots) all) ≡ terms_at from (drop (length roots) asserts) → terms_at new all ≡ terms_at from asserts
  whole_trees stay same rest =
      ap (terms_at new) (begun roots all grown)
      ∙ map-append (term_at new) roots (drop (length roots) all)
      ∙ ap (λ (trees : List CoreTree). trees ++ terms_at new (drop (length roots) all)) (stay ∙ same)
      ∙ ap (λ (trees : List CoreTree). terms_at from (take (length roots) asserts) ++ trees) rest
      ∙ parts from asserts (length roots)

  pub whole_booleans : All (IsBoolean new) roots → All (IsBoolean new) (drop (length roots) all) → All (IsBoolean new) all
  whole_booleans first rest = subst (All (IsBoolean new)) (sym (begun roots all grown)) (All-append (IsBoolean new) roots (drop (length roots) all) first rest)
