-- The rules that begin at one term: what a merge needs, and when a rule asks for nothing more.
use Rattle.std.proofs.Common.{◌≡◌, ℕ, zero, suc, ◌<◌, Bool, true, false, not, List, [], ◌∷◌, length, slice_get, get_or, option_map, Option, Some, None, refl, sym, ap, ap₂, subst, ◌∙◌, inl, inr, arith}
use Rattle.std.specs.List.{AllZip}
use Rattle.std.specs.Option.{IfSome, IfNone}
use Rattle.std.proofs.lemmas.Option.{none-some, same_Some, slice_get-get_or, slice_get_within}
use Rattle.ct_lemmas.proofs.Options.{option_map-source}
use Rattle.ct_sorts.specs.declared.ids.CtorId.{CtorId}
use Rattle.ct_sorts.specs.declared.ids.SelId.{SelId}
use Rattle.ct_sorts.specs.Declarations.{Declarations, Constructor, Selector}
use Rattle.ct_terms.specs.declared.ids.TermId.{TermId}
use Rattle.ct_terms.specs.declared.term.Core.{Core}
use Rattle.ct_terms.specs.declared.term.Core.TheVariants.{Con, Sel, Test, Eq, Not}
use Rattle.ct_terms.specs.Terms.{Terms, Has, AreSorted, AreSingle, IsAbsent}
use Rattle.ct_rules.specs.Rules.{IsSelection, IsTesting, IsExpansion, IsSelected, IsNegation, truth_term}
use Rattle.ct_congr.specs.Partition.{InOneClass}
use Rattle.ct_congr.specs.declared.constructors.Shape.{Shape}
use Rattle.ct_congr.specs.Rules.{IsCongruent, IsInjective, IsSingular, IsTestedTrue, IsTestedFalse, IsNegated, IsShape, AreShapes, IsClosedAt, AreClosedOf, AreClosedBelow, AreRulesClosed}
use Rattle.ct_congr.proofs.ClassLemmas.{InOneClass-sym, InOneClass-trans}
use Rattle.ct_congr.proofs.TermLemmas.{Has-same, Has-inside}

-- ---- selections

module _ (d : Declarations) (terms : Terms) (reps : List TermId) (t u : TermId) (s : SelId) (selector : Selector) (stands : Has terms (Sel s u) t.0) (declared : slice_get d.sels s.0 ≡ Some selector) where
  -- the selection of an argument
  abbrev pub IsSelection-at : (con y : TermId) (args : List TermId) → InOneClass reps u con → Has terms (Con selector.ctor args) con.0 → slice_get args selector.place ≡ Some y → IsSelection d terms (InOneClass reps) t y
  IsSelection-at con y args equal con_stands at = record {
    sel = s;
    selector = selector;
    argument = u;
    con = con;
    args = args;
    stands = stands;
    declared = declared;
    equal = equal;
    con_stands = con_stands;
    at = at;
  }

  -- each selection at this term is of this selector, from this term
  pub selection_parts : (y : TermId) (rule : IsSelection d terms (InOneClass reps) t y) → InOneClass reps u rule.con × ((args : List TermId) × Has terms (Con selector.ctor args) rule.con.0 × (slice_get args selector.place ≡ Some y))
  selection_parts y rule =
      let same = Has-same terms (Sel rule.sel rule.argument) (Sel s u) t.0 rule.stands stands in
      let sel : rule.sel ≡ s = cc in
      let argument : rule.argument ≡ u = cc in
      let selectors : rule.selector ≡ selector = same_Some rule.selector selector (sym rule.declared ∙ ap (λ (q : SelId). slice_get d.sels q.0) sel ∙ declared) in (
        subst (λ (q : TermId). InOneClass reps q rule.con) argument rule.equal,
        (
          rule.args,
          subst (λ (q : Selector). Has terms (Con q.ctor rule.args) rule.con.0) selectors rule.con_stands,
          subst (λ (q : Selector). slice_get rule.args q.place ≡ Some y) selectors rule.at,
        ),
      )

  -- where one argument is of the class of the selection, all are
  pub selection_closed : IsInjective terms (InOneClass reps) → (con x : TermId) (args : List TermId) → InOneClass reps u con → Has terms (Con selector.ctor args) con.0 → slice_get args selector.place ≡ Some x → InOneClass reps t x → (y : TermId) → IsSelection d terms (InOneClass reps) t y → InOneClass reps t y
  selection_closed injective con x args equal con_stands at done y rule =
      let parts = selection_parts y rule in
      let one : InOneClass reps x y = injective x y (record {
        left = con;
        right = rule.con;
        ctor = selector.ctor;
        xs = args;
        ys = parts.1.0;
        place = selector.place;
        equal = InOneClass-trans reps con u rule.con (InOneClass-sym reps u con equal) parts.0;
        left_stands = con_stands;
        right_stands = parts.1.1;
        left_at = at;
        right_at = parts.1.2;
      }) in
      InOneClass-trans reps t x y done one

-- ---- tests

abbrev pub IsTesting-true : (terms : Terms) (reps : List TermId) (t u con : TermId) (c : CtorId) (args : List TermId) → Has terms (Test c u) t.0 → InOneClass reps u con → Has terms (Con c args) con.0 → IsTesting terms (InOneClass reps) t (truth_term true)
IsTesting-true terms reps t u con c args stands equal con_stands = record {
  tested = c;
  argument = u;
  con = con;
  ctor = c;
  args = args;
  stands = stands;
  equal = equal;
  con_stands = con_stands;
  answer = inl (refl, refl);
}

abbrev pub IsTesting-false : (terms : Terms) (reps : List TermId) (t u con : TermId) (c k : CtorId) (args : List TermId) → Has terms (Test c u) t.0 → InOneClass reps u con → Has terms (Con k args) con.0 → (c ≡ k → ⊥) → IsTesting terms (InOneClass reps) t (truth_term false)
IsTesting-false terms reps t u con c k args stands equal con_stands apart = record {
  tested = c;
  argument = u;
  con = con;
  ctor = k;
  args = args;
  stands = stands;
  equal = equal;
  con_stands = con_stands;
  answer = inr (apart, refl);
}

-- both merges of a test close its rule
pub testing_closed : (terms : Terms) (reps : List TermId) (t u : TermId) (c : CtorId) → Has terms (Test c u) t.0 → IsTestedTrue terms reps t c u → IsTestedFalse terms reps t c u → (y : TermId) → IsTesting terms (InOneClass reps) t y → InOneClass reps t y
testing_closed terms reps t u c stands on off y rule =
    let same = Has-same terms (Test rule.tested rule.argument) (Test c u) t.0 rule.stands stands in
    let tested : rule.tested ≡ c = cc in
    let argument : rule.argument ≡ u = cc in
    let equal : InOneClass reps u rule.con = subst (λ (q : TermId). InOneClass reps q rule.con) argument rule.equal in
    elim rule.answer [
      | inl h ↦
          let con_stands : Has terms (Con c rule.args) rule.con.0 = subst (λ (q : CtorId). Has terms (Con q rule.args) rule.con.0) (sym h.0 ∙ tested) rule.con_stands in
          subst (InOneClass reps t) (sym h.1) (on rule.con rule.args con_stands equal)
      | inr h ↦ subst (InOneClass reps t) (sym h.1) (off rule.con rule.ctor rule.args rule.con_stands equal (λ e. h.0 (tested ∙ e)))
    ]

-- ---- selectors of a constructor, side by side with their terms

-- terms that are the same selectors of one term are the same
pub selected_unique : (terms : Terms) (u : TermId) (xs ys : List TermId) (sels : List SelId) → AreSingle terms → AllZip (IsSelected terms u) xs sels → AllZip (IsSelected terms u) ys sels → xs ≡ ys
selected_unique terms u [] [] [] single p q = refl
selected_unique terms u [] (y ∷ ys) [] single p q = absurd q
selected_unique terms u [] ys (s ∷ sels) single p q = absurd p
selected_unique terms u (x ∷ xs) ys [] single p q = absurd p
selected_unique terms u (x ∷ xs) [] (s ∷ sels) single p q = absurd q
selected_unique terms u (x ∷ xs) (y ∷ ys) (s ∷ sels) single p q =
    let e : x.0 ≡ y.0 = single x.0 y.0 (Sel s u) p.0 q.0 in
    ap₂ (λ (z : TermId) (zs : List TermId). z ∷ zs) (λ i. record { 0 = e i }) (selected_unique terms u xs ys sels single p.1 q.1)

-- side by side with an element at an index there is one
pub AllZip-at : {X Y : Type 0} (R : X → Y → Type 0) (xs : List X) (ys : List Y) (k : ℕ) (y : Y) → AllZip R xs ys → slice_get ys k ≡ Some y → (x : X) × R x y
AllZip-at R [] [] k y all at = absurd (none-some y at)
AllZip-at R [] (z ∷ ys) k y all at = absurd all
AllZip-at R (x ∷ xs) [] k y all at = absurd all
AllZip-at R (x ∷ xs) (z ∷ ys) zero y all at = (x, subst (R x) (same_Some z y at) all.0)
AllZip-at R (x ∷ xs) (z ∷ ys) (suc k) y all at = AllZip-at R xs ys k y all.1 at

-- where one selector is not in the table, no list of terms has all
pub not_selected : (terms : Terms) (u : TermId) (xs : List TermId) (sels : List SelId) (k : ℕ) (s : SelId) → IsAbsent terms (Sel s u) → slice_get sels k ≡ Some s → AllZip (IsSelected terms u) xs sels → ⊥
not_selected terms u xs sels k s absent at all = let h = AllZip-at (IsSelected terms u) xs sels k s all at in absent h.0.0 h.1

-- ---- all rules together

-- both merges of a negation close its rule
pub negation_closed : (terms : Terms) (reps : List TermId) (t a : TermId) → Has terms (Not a) t.0 → IsNegated reps t a true → IsNegated reps t a false → (y : TermId) → IsNegation terms (InOneClass reps) t y → InOneClass reps t y
negation_closed terms reps t a stands on off y rule =
    let same = Has-same terms (Not rule.argument) (Not a) t.0 rule.stands stands in
    let argument : rule.argument ≡ a = cc in
    elim rule.answer [
      | inl h ↦ subst (InOneClass reps t) (sym h.1) (on (subst (λ (q : TermId). InOneClass reps q (truth_term true)) argument h.0))
      | inr h ↦ subst (InOneClass reps t) (sym h.1) (off (subst (λ (q : TermId). InOneClass reps q (truth_term false)) argument h.0))
    ]

-- what holds of the term that stands at a number holds of whatever stands there
pub closed_of : (d : Declarations) (terms : Terms) (reps : List TermId) (t : TermId) (core : Core) → Has terms core t.0 → IsClosedAt d terms (InOneClass reps) t core → AreClosedOf d terms (InOneClass reps) t
closed_of d terms reps t core stands closed other has = subst (IsClosedAt d terms (InOneClass reps) t) (Has-same terms core other t.0 stands has) closed

-- closed under each rule, classes are closed under all
pub rules_closed : (d : Declarations) (terms : Terms) (reps : List TermId) → IsCongruent terms (InOneClass reps) → IsInjective terms (InOneClass reps) → AreClosedBelow d terms (InOneClass reps) (length terms) → IsSingular d terms (InOneClass reps) → AreRulesClosed d terms (InOneClass reps)
rules_closed d terms reps congruent injective below singular = record {
  congruence = congruent;
  injection = injective;
  selection = λ x y rule. below x (Sel rule.sel rule.argument) (Has-inside terms (Sel rule.sel rule.argument) x.0 rule.stands) rule.stands y rule;
  testing = λ x y rule. (below x (Test rule.tested rule.argument) (Has-inside terms (Test rule.tested rule.argument) x.0 rule.stands) rule.stands).0 y rule;
  expansion = λ x y rule. (below rule.test (Test rule.id x) (Has-inside terms (Test rule.id x) rule.test.0 rule.test_stands) rule.test_stands).1 x y rule refl;
  equation_in = λ x y rule. (below x (Eq rule.left rule.right) (Has-inside terms (Eq rule.left rule.right) x.0 rule.stands) rule.stands).0 y rule;
  equation_out = λ x y rule. (below rule.term (Eq x y) (Has-inside terms (Eq x y) rule.term.0 rule.stands) rule.stands).1 x y rule refl;
  negation = λ x y rule. below x (Not rule.argument) (Has-inside terms (Not rule.argument) x.0 rule.stands) rule.stands y rule;
  singleton = singular;
}

-- ---- what the getters of a signature say

-- the selector with this number is of this constructor
pub record IsSelector (d : Declarations) (s : SelId) (c : CtorId) : Type 0 where
  pub selector : Selector
  pub declared : slice_get d.sels s.0 ≡ Some selector
  pub ctor : selector.ctor ≡ c

pub selector_at : (d : Declarations) (s : SelId) (c : CtorId) → option_map (λ (q : Selector). q.ctor) (slice_get d.sels s.0) ≡ Some c → IsSelector d s c
selector_at d s c e = let h = option_map-source (λ (q : Selector). q.ctor) (slice_get d.sels s.0) c e in record { selector = h.0; declared = h.1; ctor = h.2 }

pub place_at : (d : Declarations) (s : SelId) (c : CtorId) (place : ℕ) (sel : IsSelector d s c) → option_map (λ (q : Selector). q.place) (slice_get d.sels s.0) ≡ Some place → sel.selector.place ≡ place
place_at d s c place sel e =
    let h = option_map-source (λ (q : Selector). q.place) (slice_get d.sels s.0) place e in
    ap (λ (q : Selector). q.place) (same_Some sel.selector h.0 (sym sel.declared ∙ h.1)) ∙ h.2

pub sels_of : (d : Declarations) (c : CtorId) (ctor : Constructor) (sels : List SelId) → option_map (λ (q : Constructor). q.sels) (slice_get d.ctors c.0) ≡ Some sels → slice_get d.ctors c.0 ≡ Some ctor → ctor.sels ≡ sels
sels_of d c ctor sels e declared =
    let h = option_map-source (λ (q : Constructor). q.sels) (slice_get d.ctors c.0) sels e in
    ap (λ (q : Constructor). q.sels) (same_Some ctor h.0 (sym declared ∙ h.1)) ∙ h.2

-- the negation of a truth value
pub IsNegation-of : (terms : Terms) (reps : List TermId) (t a truth other : TermId) (value : Bool) → Has terms (Not a) t.0 → truth ≡ truth_term value → other ≡ truth_term (not value) → InOneClass reps a truth → IsNegation terms (InOneClass reps) t other
IsNegation-of terms reps t a truth other true stands is not_is equal = record { argument = a; stands = stands; answer = inl (subst (InOneClass reps a) is equal, not_is) }
IsNegation-of terms reps t a truth other false stands is not_is equal = record { argument = a; stands = stands; answer = inr (subst (InOneClass reps a) is equal, not_is) }

-- the shape of the class of a term
pub shape_inside : (reps : List TermId) (u : TermId) (n : ℕ) → u.0 < length reps → ((x r : TermId) → slice_get reps x.0 ≡ Some r → slice_get reps r.0 ≡ Some r) → n ≡ length reps → (get_or reps u.0 (record { 0 = 0 })).0 < n
shape_inside reps u n inside own long =
    let r = get_or reps u.0 (record { 0 = 0 }) in
    omega (arith, long, slice_get_within reps r.0 r (own u r (slice_get-get_or reps u.0 (record { 0 = 0 }) inside)))

pub shape_at : (terms : Terms) (reps : List TermId) (u : TermId) (shapes : List Shape) → u.0 < length reps → ((x r : TermId) → slice_get reps x.0 ≡ Some r → slice_get reps r.0 ≡ Some r) → length shapes ≡ length reps → AreShapes terms reps (length terms) shapes → IsShape terms reps (length terms) (get_or reps u.0 (record { 0 = 0 })) (get_or shapes (get_or reps u.0 (record { 0 = 0 })).0 (record { first = None; other = None }))
shape_at terms reps u shapes inside own long are =
    let r = get_or reps u.0 (record { 0 = 0 }) in
    are r (get_or shapes r.0 (record { first = None; other = None })) (slice_get-get_or shapes r.0 (record { first = None; other = None }) (shape_inside reps u (length shapes) inside own long))

-- a look-up finds the term that is there
pub find_unique : (terms : Terms) (core : Core) (o : Option TermId) (t : TermId) → AreSingle terms → IfSome o (λ u. Has terms core u.0) → IfNone o (IsAbsent terms core) → Has terms core t.0 → o ≡ Some t
find_unique terms core None t single found absent has = absurd (absent t.0 has)
find_unique terms core (Some u) t single found absent has = let e : u.0 ≡ t.0 = single u.0 t.0 core found has in ap Some (λ i. record { 0 = e i })

-- ---- expansions

-- an expansion for this test is of its constructor over the selectors of what it tests
pub record IsExpansionOf (d : Declarations) (terms : Terms) (u x y : TermId) (c : CtorId) : Type 0 where
  pub tested : x ≡ u
  pub ctor : Constructor
  pub args : List TermId
  pub declared : slice_get d.ctors c.0 ≡ Some ctor
  pub stands : Has terms (Con c args) y.0
  pub fields : AllZip (IsSelected terms u) args ctor.sels

pub expansion_parts : (d : Declarations) (terms : Terms) (reps : List TermId) (t u : TermId) (c : CtorId) → Has terms (Test c u) t.0 → (x y : TermId) (rule : IsExpansion d terms (InOneClass reps) x y) → rule.test ≡ t → IsExpansionOf d terms u x y c
expansion_parts d terms reps t u c stands x y rule is =
    let same = Has-same terms (Test rule.id x) (Test c u) t.0 (subst (λ (q : TermId). Has terms (Test rule.id x) q.0) is rule.test_stands) stands in
    let id : rule.id ≡ c = cc in
    let tested : x ≡ u = cc in
    record {
      tested = tested;
      ctor = rule.ctor;
      args = rule.args;
      declared = ap (λ (q : CtorId). slice_get d.ctors q.0) (sym id) ∙ rule.declared;
      stands = subst (λ (q : CtorId). Has terms (Con q rule.args) y.0) id rule.con_stands;
      fields = subst (λ (q : TermId). AllZip (IsSelected terms q) rule.args rule.ctor.sels) tested rule.fields;
    }

-- ---- what a well-sorted table speaks of is declared

pub selector_declared : (d : Declarations) (terms : Terms) (s : SelId) (u : TermId) (t : ℕ) → AreSorted d terms → Has terms (Sel s u) t → s.0 < length d.sels
selector_declared d terms s u t sorted has = let rule = sorted t (Sel s u) has.0 has.1 in slice_get_within d.sels s.0 rule.selector rule.declared

pub constructor_declared : (d : Declarations) (terms : Terms) (c : CtorId) (u : TermId) (t : ℕ) → AreSorted d terms → Has terms (Test c u) t → c.0 < length d.ctors
constructor_declared d terms c u t sorted has = let rule = sorted t (Test c u) has.0 has.1 in slice_get_within d.ctors c.0 rule.ctor rule.declared
