-- The sort of a term over the first terms of a table, when the terms right under it are among these.
use Rattle.std.proofs.Common.{◌≡◌, ℕ, ◌<◌, List, [], ◌∷◌, ◌++◌, length, slice_get, All, Some, refl, ◌∙◌, sym}
use Rattle.std.specs.List.{AllZip, AllByRecursion}
use Rattle.std.proofs.lemmas.List.Elements.{All-from_recursion}
use Rattle.ct_lemmas.proofs.Lists.{slice_get-prefix}
use Rattle.ct_sorts.specs.declared.ids.SortId.{SortId}
use Rattle.ct_sorts.specs.declared.ids.SelId.{SelId}
use Rattle.ct_sorts.specs.Declarations.{Declarations, bool_sort}
use Rattle.ct_terms.specs.declared.ids.TermId.{TermId}
use Rattle.ct_terms.specs.declared.term.Core.{Core}
use Rattle.ct_terms.specs.declared.term.Core.TheVariants.{Con, Sel, Test, Apply, Eq, Not, And, Or, Iff, Ite}
use Rattle.ct_terms.specs.Children.{HasArgumentsBelow}
use Rattle.ct_terms.specs.Terms.{Terms, IsOfSort, IsBoolean, IsOfField, Joins, HasSort}

-- a new last element stands at the old length
pub slice_get-last : {X : Type 0} (xs : List X) (x : X) (ys : List X) → slice_get (xs ++ x ∷ ys) (length xs) ≡ Some x
slice_get-last [] x ys = refl
slice_get-last (z ∷ zs) x ys = slice_get-last zs x ys

-- terms that go with something and are below a number go with it in another way, where each such term does
AllZip-stays : {X : Type 0} (R S : TermId → X → Type 0) (n : ℕ) → ((t : TermId) (x : X) → t.0 < n → R t x → S t x) → (ts : List TermId) (xs : List X) → AllByRecursion (λ t. t.0 < n) ts → AllZip R ts xs → AllZip S ts xs
AllZip-stays R S n each [] [] below h = h
AllZip-stays R S n each [] (x ∷ xs) below h = absurd h
AllZip-stays R S n each (t ∷ ts) [] below h = absurd h
AllZip-stays R S n each (t ∷ ts) (x ∷ xs) below h = (each t x below.0 h.0, AllZip-stays R S n each ts xs below.1 h.1)

module _ (d : Declarations) (terms more : Terms) where
  stays : (t : TermId) (s : SortId) → t.0 < length terms → IsOfSort (terms ++ more) t s → IsOfSort terms t s
  stays t s below h = (h.0, sym (slice_get-prefix terms more t.0 below) ∙ h.1)

  field_stays : (t : TermId) (s : SelId) → t.0 < length terms → IsOfField d (terms ++ more) t s → IsOfField d terms t s
  field_stays t s below h = record { selector = h.selector; declared = h.declared; sorted = stays t h.selector.sort below h.sorted }

  booleans_stay : (ts : List TermId) → AllByRecursion (λ t. t.0 < length terms) ts → All (IsBoolean (terms ++ more)) ts → All (IsBoolean terms) ts
  booleans_stay ts below h k e l = stays _ bool_sort (All-from_recursion (λ t. t.0 < length terms) ts below k e l) (h k e l)

  joins_stays : (args : List TermId) (sort : SortId) → AllByRecursion (λ t. t.0 < length terms) args → Joins (terms ++ more) args sort → Joins terms args sort
  joins_stays args sort below h = record { some = h.some; booleans = booleans_stay args below h.booleans; result = h.result }

  pub sort_stays : (core : Core) (sort : SortId) → HasArgumentsBelow (length terms) core → HasSort d (terms ++ more) core sort → HasSort d terms core sort
  sort_stays (Con c args) sort below h = record {
    ctor = h.ctor;
    declared = h.declared;
    fields = AllZip-stays (IsOfField d (terms ++ more)) (IsOfField d terms) (length terms) field_stays args h.ctor.sels below h.fields;
    result = h.result;
  }
  sort_stays (Sel s t) sort below h = record { selector = h.selector; ctor = h.ctor; declared = h.declared; constructor = h.constructor; sorted = stays t h.ctor.sort below.0 h.sorted; result = h.result }
  sort_stays (Test c t) sort below h = record { ctor = h.ctor; declared = h.declared; sorted = stays t h.ctor.sort below.0 h.sorted; result = h.result }
  sort_stays (Apply f args) sort below h = record {
    function = h.function;
    declared = h.declared;
    sorted = AllZip-stays (IsOfSort (terms ++ more)) (IsOfSort terms) (length terms) stays args h.function.args below h.sorted;
    result = h.result;
  }
  sort_stays (Eq a b) sort below h = record { side = h.side; left = stays a h.side below.0 h.left; right = stays b h.side below.1.0 h.right; other = h.other; result = h.result }
  sort_stays (Not t) sort below h = (stays t bool_sort below.0 h.0, h.1)
  sort_stays (And args) sort below h = joins_stays args sort below h
  sort_stays (Or args) sort below h = joins_stays args sort below h
  sort_stays (Iff a b) sort below h = (stays a bool_sort below.0 h.0, stays b bool_sort below.1.0 h.1, h.2)
  sort_stays (Ite c a b) sort below h = (stays c bool_sort below.0 h.0, stays a sort below.1.0 h.1, stays b sort below.1.1.0 h.2)
