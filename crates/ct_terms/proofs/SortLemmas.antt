-- The sort of a term: there is one at most, and it stays where declarations are added and where the terms under it stay.
use Rattle.std.proofs.Common.{◌≡◌, ℕ, ◌<◌, ◌≤◌, List, [], ◌∷◌, ◌++◌, length, slice_get, take, All, Some, refl, sym, ap, ◌∙◌, arith}
use Rattle.std.specs.List.{AllZip, AllByRecursion}
use Rattle.std.proofs.lemmas.List.{append-nil}
use Rattle.std.proofs.lemmas.List.Elements.{recursion_from_All, All-from_recursion, All-weaker}
use Rattle.std.proofs.lemmas.Option.{same_Some, slice_get_within}
use Rattle.ct_lemmas.proofs.Each.{AllByRecursion-weaker}
use Rattle.ct_lemmas.proofs.Lists.{slice_get-append_left}
use Rattle.ct_lemmas.proofs.Prefixes.{slice_get-take, slice_get-take_below, take-slice_get}
use Rattle.ct_sorts.specs.declared.ids.SortId.{SortId}
use Rattle.ct_sorts.specs.declared.ids.SelId.{SelId}
use Rattle.ct_sorts.specs.Declarations.{Declarations, Function, bool_sort, with_function}
use Rattle.ct_terms.specs.declared.ids.TermId.{TermId}
use Rattle.ct_terms.specs.declared.term.Core.{Core}
use Rattle.ct_terms.specs.declared.term.Core.TheVariants.{Con, Sel, Test, Apply, Eq, Not, And, Or, Iff, Ite}
use Rattle.ct_terms.specs.Children.{core_children, HasArgumentsBelow}
use Rattle.ct_terms.specs.Terms.{Terms, IsOfSort, IsBoolean, IsOfField, Joins, HasSort, AreSorted, AreOrdered}
use Rattle.ct_sorts.specs.Grown.{Begins, Extends}

-- one number has one sort
IsOfSort-same : (table : Terms) (t : TermId) (r s : SortId) → IsOfSort table t r → IsOfSort table t s → r ≡ s
IsOfSort-same table t r s h k = ap (λ e. e.1) (same_Some (h.0, r) (k.0, s) (sym h.1 ∙ k.1))

-- a term has one sort
pub HasSort-same : (d : Declarations) (table : Terms) (core : Core) (r s : SortId) → HasSort d table core r → HasSort d table core s → r ≡ s
HasSort-same d table (Con c args) r s h k = h.result ∙ ap (λ g. g.sort) (same_Some h.ctor k.ctor (sym h.declared ∙ k.declared)) ∙ sym k.result
HasSort-same d table (Sel f t) r s h k = h.result ∙ ap (λ g. g.sort) (same_Some h.selector k.selector (sym h.declared ∙ k.declared)) ∙ sym k.result
HasSort-same d table (Test c t) r s h k = h.result ∙ sym k.result
HasSort-same d table (Apply f args) r s h k = h.result ∙ ap (λ g. g.result) (same_Some h.function k.function (sym h.declared ∙ k.declared)) ∙ sym k.result
HasSort-same d table (Eq a b) r s h k = h.result ∙ sym k.result
HasSort-same d table (Not t) r s h k = h.1 ∙ sym k.1
HasSort-same d table (And args) r s h k = h.result ∙ sym k.result
HasSort-same d table (Or args) r s h k = h.result ∙ sym k.result
HasSort-same d table (Iff a b) r s h k = h.2 ∙ sym k.2
HasSort-same d table (Ite c a b) r s h k = IsOfSort-same table a r s h.1 k.1

-- a term with a sort has its number below the length
pub IsOfSort-below : (table : Terms) (t : TermId) (sort : SortId) → IsOfSort table t sort → t.0 < length table
IsOfSort-below table t sort h = slice_get_within table t.0 (h.0, sort) h.1

-- terms that go with something, each one below a number, are all below it
AllZip-below : {X : Type 0} (R : TermId → X → Type 0) (n : ℕ) → ((t : TermId) (x : X) → R t x → t.0 < n) → (ts : List TermId) (xs : List X) → AllZip R ts xs → AllByRecursion (λ t. t.0 < n) ts
AllZip-below R n each [] xs h = tt
AllZip-below R n each (t ∷ ts) [] h = absurd h
AllZip-below R n each (t ∷ ts) (x ∷ xs) h = (each t x h.0, AllZip-below R n each ts xs h.1)

-- terms that go with something and are below a number go with it in another way, where each such term does
AllZip-stays : {X : Type 0} (R S : TermId → X → Type 0) (n : ℕ) → ((t : TermId) (x : X) → t.0 < n → R t x → S t x) → (ts : List TermId) (xs : List X) → AllByRecursion (λ t. t.0 < n) ts → AllZip R ts xs → AllZip S ts xs
AllZip-stays R S n each [] [] below h = h
AllZip-stays R S n each [] (x ∷ xs) below h = absurd h
AllZip-stays R S n each (t ∷ ts) [] below h = absurd h
AllZip-stays R S n each (t ∷ ts) (x ∷ xs) below h = (each t x below.0 h.0, AllZip-stays R S n each ts xs below.1 h.1)

-- Boolean terms have their numbers below the length
AreBoolean-below : (table : Terms) (ts : List TermId) → All (IsBoolean table) ts → AllByRecursion (λ t. t.0 < length table) ts
AreBoolean-below table ts h = recursion_from_All (λ t. t.0 < length table) ts (All-weaker (IsBoolean table) (λ t. t.0 < length table) (λ t boolean. IsOfSort-below table t bool_sort boolean) ts h)

-- the terms under a well-sorted term have their numbers below the length
pub HasSort-below : (d : Declarations) (table : Terms) (core : Core) (sort : SortId) → HasSort d table core sort → HasArgumentsBelow (length table) core
HasSort-below d table (Con c args) sort h = AllZip-below (IsOfField d table) (length table) (λ t s filled. IsOfSort-below table t filled.selector.sort filled.sorted) args h.ctor.sels h.fields
HasSort-below d table (Sel s t) sort h = (IsOfSort-below table t h.ctor.sort h.sorted, tt)
HasSort-below d table (Test c t) sort h = (IsOfSort-below table t h.ctor.sort h.sorted, tt)
HasSort-below d table (Apply f args) sort h = AllZip-below (IsOfSort table) (length table) (IsOfSort-below table) args h.function.args h.sorted
HasSort-below d table (Eq a b) sort h = (IsOfSort-below table a h.side h.left, (IsOfSort-below table b h.side h.right, tt))
HasSort-below d table (Not t) sort h = (IsOfSort-below table t bool_sort h.0, tt)
HasSort-below d table (And args) sort h = AreBoolean-below table args h.booleans
HasSort-below d table (Or args) sort h = AreBoolean-below table args h.booleans
HasSort-below d table (Iff a b) sort h = (IsOfSort-below table a bool_sort h.0, (IsOfSort-below table b bool_sort h.1, tt))
HasSort-below d table (Ite c a b) sort h = (IsOfSort-below table c bool_sort h.0, (IsOfSort-below table a sort h.1, (IsOfSort-below table b sort h.2, tt)))

-- a bound on the terms right under a term can be raised
pub HasArgumentsBelow-more : (n m : ℕ) (core : Core) → n ≤ m → HasArgumentsBelow n core → HasArgumentsBelow m core
HasArgumentsBelow-more n m core more h = AllByRecursion-weaker (λ (t : TermId). t.0 < n) (λ t. t.0 < m) (λ t below. omega (arith, more)) (core_children core) h

-- what stands at an index stays there in a list that begins with the list
pub slice_get-longer : {X : Type 0} (longer shorter : List X) (i : ℕ) (x : X) → Begins shorter longer → slice_get shorter i ≡ Some x → slice_get longer i ≡ Some x
slice_get-longer {X} longer shorter i x begins at = ap (λ (xs : List X). slice_get xs i) begins.1 ∙ slice_get-append_left shorter begins.0 i x at

-- more is declared, and the terms below a number have the sorts in the new table that they had in the old one
module _ (later earlier : Declarations) (new old : Terms) (n : ℕ) (extends : Extends later earlier) (stay : (t : TermId) (s : SortId) → t.0 < n → IsOfSort old t s → IsOfSort new t s) where
  IsOfField-stays : (t : TermId) (s : SelId) → t.0 < n → IsOfField earlier old t s → IsOfField later new t s
  IsOfField-stays t s below h = record {
    selector = h.selector;
    declared = slice_get-longer later.sels earlier.sels s.0 h.selector extends.sels h.declared;
    sorted = stay t h.selector.sort below h.sorted;
  }

  AreBoolean-stay : (ts : List TermId) → AllByRecursion (λ t. t.0 < n) ts → All (IsBoolean old) ts → All (IsBoolean new) ts
  AreBoolean-stay ts below h k d l = stay _ bool_sort (All-from_recursion (λ t. t.0 < n) ts below k d l) (h k d l)

  Joins-stays : (args : List TermId) (sort : SortId) → AllByRecursion (λ t. t.0 < n) args → Joins old args sort → Joins new args sort
  Joins-stays args sort below h = record { some = h.some; booleans = AreBoolean-stay args below h.booleans; result = h.result }

  pub HasSort-stays : (core : Core) (sort : SortId) → HasArgumentsBelow n core → HasSort earlier old core sort → HasSort later new core sort
  HasSort-stays (Con c args) sort below h = record {
    ctor = h.ctor;
    declared = slice_get-longer later.ctors earlier.ctors c.0 h.ctor extends.ctors h.declared;
    fields = AllZip-stays (IsOfField earlier old) (IsOfField later new) n IsOfField-stays args h.ctor.sels below h.fields;
    result = h.result;
  }
  HasSort-stays (Sel s t) sort below h = record {
    selector = h.selector;
    ctor = h.ctor;
    declared = slice_get-longer later.sels earlier.sels s.0 h.selector extends.sels h.declared;
    constructor = slice_get-longer later.ctors earlier.ctors h.selector.ctor.0 h.ctor extends.ctors h.constructor;
    sorted = stay t h.ctor.sort below.0 h.sorted;
    result = h.result;
  }
  HasSort-stays (Test c t) sort below h = record {
    ctor = h.ctor;
    declared = slice_get-longer later.ctors earlier.ctors c.0 h.ctor extends.ctors h.declared;
    sorted = stay t h.ctor.sort below.0 h.sorted;
    result = h.result;
  }
  HasSort-stays (Apply f args) sort below h = record {
    function = h.function;
    declared = slice_get-longer later.functions earlier.functions f.0 h.function extends.functions h.declared;
    sorted = AllZip-stays (IsOfSort old) (IsOfSort new) n stay args h.function.args below h.sorted;
    result = h.result;
  }
  HasSort-stays (Eq a b) sort below h = record {
    side = h.side;
    left = stay a h.side below.0 h.left;
    right = stay b h.side below.1.0 h.right;
    other = h.other;
    result = h.result;
  }
  HasSort-stays (Not t) sort below h = (stay t bool_sort below.0 h.0, h.1)
  HasSort-stays (And args) sort below h = Joins-stays args sort below h
  HasSort-stays (Or args) sort below h = Joins-stays args sort below h
  HasSort-stays (Iff a b) sort below h = (stay a bool_sort below.0 h.0, stay b bool_sort below.1.0 h.1, h.2)
  HasSort-stays (Ite c a b) sort below h = (stay c bool_sort below.0 h.0, stay a sort below.1.0 h.1, stay b sort below.1.1.0 h.2)

-- a list begins with itself
Begins-same : {X : Type 0} (xs : List X) → Begins xs xs
Begins-same xs = ([], sym (append-nil xs))

-- declarations extend themselves
pub Extends-same : (d : Declarations) → Extends d d
Extends-same d = record {
  sorts = Begins-same d.sorts;
  ctors = Begins-same d.ctors;
  sels = Begins-same d.sels;
  functions = Begins-same d.functions;
  definitions = Begins-same d.definitions;
  heads = Begins-same d.declared.heads;
  synonyms = Begins-same d.declared.synonyms;
  spellings = Begins-same d.spellings;
  origins = Begins-same d.origins;
}

-- one function more extends them
pub Extends-function : (d : Declarations) (f : Function) → Extends (with_function d f) d
Extends-function d f = record {
  sorts = Begins-same d.sorts;
  ctors = Begins-same d.ctors;
  sels = Begins-same d.sels;
  functions = (f ∷ [], refl);
  definitions = Begins-same d.definitions;
  heads = Begins-same d.declared.heads;
  synonyms = Begins-same d.declared.synonyms;
  spellings = Begins-same d.spellings;
  origins = Begins-same d.origins;
}

-- with more declarations a term keeps its sort
pub HasSort-extends : (later earlier : Declarations) (table : Terms) (core : Core) (sort : SortId) → Extends later earlier → HasSort earlier table core sort → HasSort later table core sort
HasSort-extends later earlier table core sort extends h =
    HasSort-stays later earlier table table (length table) extends (λ t s below at. at) core sort (HasSort-below earlier table core sort h) h

-- and so every term of a table
pub AreSorted-extends : (later earlier : Declarations) (table : Terms) → Extends later earlier → AreSorted earlier table → AreSorted later table
AreSorted-extends later earlier table extends all t core sort at = HasSort-extends later earlier table core sort extends (all t core sort at)

-- as with one function more
pub AreSorted-declared : (d : Declarations) (f : Function) (table : Terms) → AreSorted d table → AreSorted (with_function d f) table
AreSorted-declared d f table = AreSorted-extends (with_function d f) d table (Extends-function d f)

-- a term of the table stays with its number and its sort in a longer table
pub IsOfSort-append : (table more : Terms) (t : TermId) (sort : SortId) → IsOfSort table t sort → IsOfSort (table ++ more) t sort
IsOfSort-append table more t sort h = (h.0, slice_get-append_left table more t.0 (h.0, sort) h.1)

-- a term keeps its sort when the table grows
pub HasSort-append : (d : Declarations) (table more : Terms) (core : Core) (sort : SortId) → HasSort d table core sort → HasSort d (table ++ more) core sort
HasSort-append d table more core sort h =
    HasSort-stays d d (table ++ more) table (length table) (Extends-same d) (λ t s below at. IsOfSort-append table more t s at) core sort (HasSort-below d table core sort h) h

-- the first terms of a well-sorted table are well sorted among themselves
pub AreSorted-take : (d : Declarations) (table : Terms) (n : ℕ) → AreOrdered table → AreSorted d table → AreSorted d (take n table)
AreSorted-take d table n ordered all t core sort at =
    let whole : slice_get table t ≡ Some (core, sort) = slice_get-take n table t (core, sort) at in
    let within : t < n = slice_get-take_below n table t (core, sort) at in
    HasSort-stays d d (take n table) table t (Extends-same d) (λ u s below h. (h.0, take-slice_get n table u.0 (h.0, s) (omega arith) h.1)) core sort (ordered t core (sort, whole)) (all t core sort whole)
