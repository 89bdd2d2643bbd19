-- The rules that begin at one term, with the constructor terms that are stored for classes.
use Rattle.std.proofs.Common.{◌≡◌, ◌<◌, Bool, true, false, not, MatchBool, List, length, Option, slice_get, Some, refl, sym, ap, subst, ◌∙◌, ◌⊎◌, inl, inr, arith}
use Rattle.std.specs.List.{AllZip}
use Rattle.std.proofs.lemmas.Option.{same_Some, slice_get_within}
use Rattle.ct_sorts.specs.declared.ids.CtorId.{CtorId}
use Rattle.ct_sorts.specs.declared.ids.SelId.{SelId}
use Rattle.ct_sorts.specs.Declarations.{Declarations, Selector}
use Rattle.ct_terms.specs.declared.ids.TermId.{TermId}
use Rattle.ct_terms.specs.declared.term.Core.{Core}
use Rattle.ct_terms.specs.declared.term.Core.TheVariants.{Con, Sel, Test, Eq, Not}
use Rattle.ct_terms.specs.Terms.{Terms, Has}
use Rattle.ct_rules.specs.Rules.{Equations, IsSelection, IsTesting, IsExpansion, IsEquationIn, IsEquationOut, IsNegation, IsSelected, truth_term}
use Rattle.ct_congr.specs.Partition.{InOneClass}
use Rattle.ct_congr.specs.State.{IsConstructorTerm}
use Rattle.ct_congr.specs.Covered.{HasCon, IsGrouped, IsCoveredAt}
use Rattle.ct_congr.proofs.RuleLemmas.{IsExpansionOf}
use Rattle.ct_congr.proofs.TermLemmas.{Has-same, Has-constructor, Has-inside}

module _ (reps : List TermId) (cons : List (Option TermId)) where
  -- one constructor term is stored for a class
  pub HasCon-same : (u c e : TermId) → HasCon reps cons u c → HasCon reps cons u e → c ≡ e
  HasCon-same u c e p q =
      let class : p.0 ≡ q.0 = same_Some p.0 q.0 (sym p.1 ∙ q.1) in
      same_Some c e (same_Some (Some c) (Some e) (sym p.2 ∙ ap (λ (r : TermId). slice_get cons r.0) class ∙ q.2))

module _ (terms : Terms) (reps : List TermId) (cons : List (Option TermId)) where
  -- it is of the class
  pub HasCon-equal : IsGrouped terms reps cons → (u c : TermId) → HasCon reps cons u c → InOneClass reps u c
  HasCon-equal g u c h = (h.0, h.1, (g.stored h.0 (Some c) (g.own u h.0 h.1) h.2).0)

  pub HasCon-built : IsGrouped terms reps cons → (u c : TermId) → HasCon reps cons u c → IsConstructorTerm terms c
  HasCon-built g u c h = (g.stored h.0 (Some c) (g.own u h.0 h.1) h.2).1

  pub rep_inside : IsGrouped terms reps cons → (u r : TermId) → slice_get reps u.0 ≡ Some r → r.0 < length reps
  rep_inside g u r at = slice_get_within reps r.0 r (g.own u r at)

  pub HasCon-inside : IsGrouped terms reps cons → (u c : TermId) → HasCon reps cons u c → c.0 < length terms
  HasCon-inside g u c h = let b = HasCon-built g u c h in Has-inside terms (Con b.0 b.1) c.0 b.2

-- ---- selections

-- what a selection at this term takes from the stored constructor term
pub record Selects (d : Declarations) (terms : Terms) (con y : TermId) (s : SelId) : Type 0 where
  pub selector : Selector
  pub declared : slice_get d.sels s.0 ≡ Some selector
  pub args : List TermId
  pub stands : Has terms (Con selector.ctor args) con.0
  pub at : slice_get args selector.place ≡ Some y

pub Selects-rule : (d : Declarations) (terms : Terms) (reps : List TermId) (cons : List (Option TermId)) (t u con : TermId) (s : SelId) → Has terms (Sel s u) t.0 → HasCon reps cons u con → (y : TermId) → IsSelection d terms (HasCon reps cons) t y → Selects d terms con y s
Selects-rule d terms reps cons t u con s stands has y rule =
    let same = Has-same terms (Sel rule.sel rule.argument) (Sel s u) t.0 rule.stands stands in
    let sel : rule.sel ≡ s = cc in
    let argument : rule.argument ≡ u = cc in
    let is : rule.con ≡ con = HasCon-same reps cons u rule.con con (subst (λ (q : TermId). HasCon reps cons q rule.con) argument rule.equal) has in
    record {
      selector = rule.selector;
      declared = subst (λ (q : SelId). slice_get d.sels q.0 ≡ Some rule.selector) sel rule.declared;
      args = rule.args;
      stands = subst (λ (q : TermId). Has terms (Con rule.selector.ctor rule.args) q.0) is rule.con_stands;
      at = rule.at;
    }

-- no selection where nothing is stored
pub selection_none : (d : Declarations) (terms : Terms) (reps : List TermId) (cons : List (Option TermId)) (t u : TermId) (s : SelId) → Has terms (Sel s u) t.0 → ((c : TermId) → HasCon reps cons u c → ⊥) → (y : TermId) → IsSelection d terms (HasCon reps cons) t y → ⊥
selection_none d terms reps cons t u s stands none y rule =
    let same = Has-same terms (Sel rule.sel rule.argument) (Sel s u) t.0 rule.stands stands in
    let argument : rule.argument ≡ u = cc in
    none rule.con (subst (λ (q : TermId). HasCon reps cons q rule.con) argument rule.equal)

-- ---- tests

module _ (terms : Terms) (reps : List TermId) (cons : List (Option TermId)) (t u : TermId) (c : CtorId) (stands : Has terms (Test c u) t.0) where
  pub testing_none : ((con : TermId) → HasCon reps cons u con → ⊥) → (y : TermId) → IsTesting terms (HasCon reps cons) t y → ⊥
  testing_none none y rule =
      let same = Has-same terms (Test rule.tested rule.argument) (Test c u) t.0 rule.stands stands in
      let argument : rule.argument ≡ u = cc in
      none rule.con (subst (λ (q : TermId). HasCon reps cons q rule.con) argument rule.equal)

  -- the answer of a test, by whether the stored term is of the constructor
  pub testing_answer : (con : TermId) (value : Bool) → HasCon reps cons u con → MatchBool value ((args : List TermId) × Has terms (Con c args) con.0) ((args : List TermId) → Has terms (Con c args) con.0 → ⊥) → (y : TermId) → IsTesting terms (HasCon reps cons) t y → y ≡ truth_term value
  testing_answer con value has built y rule =
      let same = Has-same terms (Test rule.tested rule.argument) (Test c u) t.0 rule.stands stands in
      let tested : rule.tested ≡ c = cc in
      let argument : rule.argument ≡ u = cc in
      let is : rule.con ≡ con = HasCon-same reps cons u rule.con con (subst (λ (q : TermId). HasCon reps cons q rule.con) argument rule.equal) has in
      let con_stands : Has terms (Con rule.ctor rule.args) con.0 = subst (λ (q : TermId). Has terms (Con rule.ctor rule.args) q.0) is rule.con_stands in
      by value built tested con_stands rule.answer
    where
      by : {k e : CtorId} {args : List TermId} (v : Bool) → MatchBool v ((zs : List TermId) × Has terms (Con c zs) con.0) ((zs : List TermId) → Has terms (Con c zs) con.0 → ⊥) → k ≡ c → Has terms (Con e args) con.0 → ((k ≡ e) × (y ≡ truth_term true)) ⊎ ((k ≡ e → ⊥) × (y ≡ truth_term false)) → y ≡ truth_term v
      by {k} {e} {args} true b tested at (inl h) = h.1
      by {k} {e} {args} true b tested at (inr h) = absurd (h.0 (tested ∙ (Has-constructor terms c e b.0 args con.0 b.1 at).0))
      by {k} {e} {args} false b tested at (inl h) = absurd (b args (subst (λ (q : CtorId). Has terms (Con q args) con.0) (sym (sym tested ∙ h.0)) at))
      by {k} {e} {args} false b tested at (inr h) = h.1

  -- the constructor of the stored term, and so the answer
  abbrev pub TestParts : TermId → TermId → Type 0
  TestParts con y = (k : CtorId) × (args : List TermId) × Has terms (Con k args) con.0 × (((c ≡ k) × (y ≡ truth_term true)) ⊎ ((c ≡ k → ⊥) × (y ≡ truth_term false)))

  pub test_parts : (con y : TermId) (value : Bool) → y ≡ truth_term value → IsConstructorTerm terms con → MatchBool value ((args : List TermId) × Has terms (Con c args) con.0) ((args : List TermId) → Has terms (Con c args) con.0 → ⊥) → TestParts con y
  test_parts con y true is built h = (c, h.0, h.1, inl (refl, is))
  test_parts con y false is built h = (built.0, built.1, built.2, inr (λ e. h built.1 (subst (λ (q : CtorId). Has terms (Con q built.1) con.0) (sym e) built.2), is))

  abbrev pub IsTesting-parts : (con y : TermId) → InOneClass reps u con → TestParts con y → IsTesting terms (InOneClass reps) t y
  IsTesting-parts con y equal parts = record {
    tested = c;
    argument = u;
    con = con;
    ctor = parts.0;
    args = parts.1;
    stands = stands;
    equal = equal;
    con_stands = parts.2;
    answer = parts.3;
  }

-- ---- negations

module _ (terms : Terms) (reps : List TermId) (cons : List (Option TermId)) (t a : TermId) (stands : Has terms (Not a) t.0) where
  -- a negation has the truth value that is stored for the class of what is negated
  pub record Negates (y : TermId) : Type 0 where
    pub value : Bool
    pub has : HasCon reps cons a (truth_term value)
    pub answer : y ≡ truth_term (not value)

  pub Negates-rule : (y : TermId) → IsNegation terms (HasCon reps cons) t y → Negates y
  Negates-rule y rule =
      let same = Has-same terms (Not rule.argument) (Not a) t.0 rule.stands stands in
      let argument : rule.argument ≡ a = cc in
      elim rule.answer [
        | inl h ↦ record { value = true; has = subst (λ (q : TermId). HasCon reps cons q (truth_term true)) argument h.0; answer = h.1 }
        | inr h ↦ record { value = false; has = subst (λ (q : TermId). HasCon reps cons q (truth_term false)) argument h.0; answer = h.1 }
      ]

  pub IsNegation-value : (value : Bool) → InOneClass reps a (truth_term value) → IsNegation terms (InOneClass reps) t (truth_term (not value))
  IsNegation-value true equal = record { argument = a; stands = stands; answer = inl (equal, refl) }
  IsNegation-value false equal = record { argument = a; stands = stands; answer = inr (equal, refl) }

-- two truth values are one term only if they are one
pub truth_same : (v w : Bool) → truth_term v ≡ truth_term w → v ≡ w
truth_same true true e = refl
truth_same true false e = absurd (omega (arith, ap (λ (q : TermId). q.0) e))
truth_same false true e = absurd (omega (arith, ap (λ (q : TermId). q.0) e))
truth_same false false e = refl

-- ---- expansions

pub expansion_of : (d : Declarations) (terms : Terms) (reps : List TermId) (cons : List (Option TermId)) (t u : TermId) (c : CtorId) → Has terms (Test c u) t.0 → (x y : TermId) (rule : IsExpansion d terms (HasCon reps cons) x y) → rule.test ≡ t → IsExpansionOf d terms u x y c
expansion_of d terms reps cons t u c stands x y rule is =
    let same = Has-same terms (Test rule.id x) (Test c u) t.0 (subst (λ (q : TermId). Has terms (Test rule.id x) q.0) is rule.test_stands) stands in
    let id : rule.id ≡ c = cc in
    let tested : x ≡ u = cc in
    record {
      tested = tested;
      ctor = rule.ctor;
      args = rule.args;
      declared = ap (λ (q : CtorId). slice_get d.ctors q.0) (sym id) ∙ rule.declared;
      stands = subst (λ (q : CtorId). Has terms (Con q rule.args) y.0) id rule.con_stands;
      fields = subst (λ (q : TermId). AllZip (IsSelected terms q) rule.args rule.ctor.sels) tested rule.fields;
    }

-- ---- all rules together, by the term

-- what the rules ask for at a term with this layer
abbrev pub IsCoveredBy : Declarations → Terms → Equations → Equations → Equations → TermId → Core → Type 0
IsCoveredBy d terms known cons joined t (Sel s u) = (y : TermId) → IsSelection d terms cons t y → joined t y
IsCoveredBy d terms known cons joined t (Test c u) = ((y : TermId) → IsTesting terms cons t y → joined t y) × ((x y : TermId) (rule : IsExpansion d terms cons x y) → rule.test ≡ t → joined x y)
IsCoveredBy d terms known cons joined t (Eq a b) = ((y : TermId) → IsEquationIn terms known t y → joined t y) × ((x y : TermId) (rule : IsEquationOut terms cons x y) → rule.term ≡ t → joined x y)
IsCoveredBy d terms known cons joined t (Not a) = (y : TermId) → IsNegation terms cons t y → joined t y
IsCoveredBy d terms known cons joined t _ = Unit {0}

module _ (d : Declarations) (terms : Terms) (known cons joined : Equations) (t : TermId) where
  pub IsCoveredAt-by : (core : Core) → Has terms core t.0 → IsCoveredBy d terms known cons joined t core → IsCoveredAt d terms known cons joined t
  IsCoveredAt-by core has by = record {
    selection = λ y rule. (subst (IsCoveredBy d terms known cons joined t) (Has-same terms core (Sel rule.sel rule.argument) t.0 has rule.stands) by) y rule;
    testing = λ y rule. (subst (IsCoveredBy d terms known cons joined t) (Has-same terms core (Test rule.tested rule.argument) t.0 has rule.stands) by).0 y rule;
    negation = λ y rule. (subst (IsCoveredBy d terms known cons joined t) (Has-same terms core (Not rule.argument) t.0 has rule.stands) by) y rule;
    equation_in = λ y rule. (subst (IsCoveredBy d terms known cons joined t) (Has-same terms core (Eq rule.left rule.right) t.0 has rule.stands) by).0 y rule;
    expansion = λ x y rule is. (subst (IsCoveredBy d terms known cons joined t) (Has-same terms core (Test rule.id x) t.0 has (subst (λ (q : TermId). Has terms (Test rule.id x) q.0) is rule.test_stands)) by).1 x y rule is;
    equation_out = λ x y rule is. (subst (IsCoveredBy d terms known cons joined t) (Has-same terms core (Eq x y) t.0 has (subst (λ (q : TermId). Has terms (Eq x y) q.0) is rule.stands)) by).1 x y rule is;
  }
