-- Where the rules are covered and nothing waits, the classes are closed under all rules and none has two constructors.
use Rattle.std.proofs.Common.{◌≡◌, ℕ, suc, ◌<◌, Bool, true, false, List, [], ◌∷◌, length, Option, slice_get, get_or, Some, None, refl, sym, ap, subst, ◌∙◌, inl, inr, arith}
use Rattle.std.specs.List.{AllZip}
use Rattle.std.proofs.lemmas.List.{nil_from_length}
use Rattle.std.proofs.lemmas.Option.{same_Some, slice_get_within, slice_get-get_or}
use Rattle.ct_sorts.specs.declared.ids.CtorId.{CtorId}
use Rattle.ct_sorts.specs.Declarations.{Declarations, bool_sort}
use Rattle.ct_terms.specs.declared.ids.TermId.{TermId}
use Rattle.ct_terms.specs.declared.term.Core.{Core}
use Rattle.ct_terms.specs.declared.term.Core.TheVariants.{Con}
use Rattle.ct_terms.specs.Children.{core_children}
use Rattle.ct_terms.specs.Terms.{Terms, Has, AreSorted, AreSingle, BeginsWithTruths}
use Rattle.ct_rules.specs.Rules.{Equations, IsCongruence, IsInjection, IsSelection, IsTesting, IsExpansion, IsEquationOut, IsNegation, truth_term}
use Rattle.ct_congr.specs.Partition.{InOneClass}
use Rattle.ct_congr.specs.Rules.{AreRulesClosed}
use Rattle.ct_congr.specs.State.{IsConstructorTerm, IsClashOf}
use Rattle.ct_congr.specs.Sound.{IsConOf, AreCons}
use Rattle.ct_congr.specs.Covered.{HasCon, IsCoveredAt, Keys, IsMatched, IsMet, IsCovered}
use Rattle.ct_lemmas.proofs.Lists.{slice_get-one_length}
use Rattle.ct_congr.proofs.ClassLemmas.{InOneClass-refl, InOneClass-sym, InOneClass-trans}
use Rattle.ct_congr.proofs.TermLemmas.{Has-constructor, Has-inside, one_arity}
use Rattle.ct_congr.proofs.MetLemmas.{IsMet-wider, joined_alike}
use Rattle.ct_congr.proofs.OneSortLemmas.{slice_get-of_take}

-- what is covered stays so where more is joined
module _ (d : Declarations) (terms : Terms) (known cons joined wider : Equations) (each : (x y : TermId) → joined x y → wider x y) where
  pub IsCoveredAt-wider : (t : TermId) → IsCoveredAt d terms known cons joined t → IsCoveredAt d terms known cons wider t
  IsCoveredAt-wider t at = record {
    selection = λ y rule. each t y (at.selection y rule);
    testing = λ y rule. each t y (at.testing y rule);
    negation = λ y rule. each t y (at.negation y rule);
    equation_in = λ y rule. each t y (at.equation_in y rule);
    expansion = λ x y rule is. each x y (at.expansion x y rule is);
    equation_out = λ x y rule is. each x y (at.equation_out x y rule is);
  }

pub IsCovered-wider : (d : Declarations) (terms : Terms) (reps : List TermId) (cons : List (Option TermId)) (keys : Keys) (joined wider : Equations) → ((x y : TermId) → joined x y → wider x y) → IsCovered d terms reps cons keys joined → IsCovered d terms reps cons keys wider
IsCovered-wider d terms reps cons keys joined wider each covered = record {
  one = covered.one;
  injection = λ x y rule. each x y (covered.injection x y rule);
  each = λ t. IsCoveredAt-wider d terms (InOneClass reps) (HasCon reps cons) joined wider each t (covered.each t);
  congruence = λ t core has. IsMet-wider terms reps keys joined wider each t core (covered.congruence t core has);
  singleton = λ x y rule. each x y (covered.singleton x y rule);
}

-- `true` and `false` stand first
pub truth_ctor : Bool → CtorId
truth_ctor true = record { 0 = 0 }
truth_ctor false = record { 0 = 1 }

pub truth_stands : (terms : Terms) → BeginsWithTruths terms → (value : Bool) → Has terms (Con (truth_ctor value) []) (truth_term value).0
unfolding truth_ctor
truth_stands terms begins true = (bool_sort, (slice_get-of_take 2 terms 0 (Con (record { 0 = 0 }) [], bool_sort) (ap (λ list. slice_get list 0) begins)).1)
truth_stands terms begins false = (bool_sort, (slice_get-of_take 2 terms 1 (Con (record { 0 = 1 }) [], bool_sort) (ap (λ list. slice_get list 1) begins)).1)

-- the constructor term that is stored for the class of a constructor term
pub record IsStored (terms : Terms) (reps : List TermId) (cons : List (Option TermId)) (t : TermId) (c : CtorId) : Type 0 where
  pub con : TermId
  pub args : List TermId
  pub has : HasCon reps cons t con
  pub equal : InOneClass reps t con
  pub stands : Has terms (Con c args) con.0

module _ (d : Declarations) (terms : Terms) (reps : List TermId) (cons : List (Option TermId)) (sorted : AreSorted d terms) (cons_long : length cons ≡ length reps) (own : (x r : TermId) → slice_get reps x.0 ≡ Some r → slice_get reps r.0 ≡ Some r) (stored : AreCons terms reps cons) where
  -- of one class: what is stored for one term is stored for the other
  pub HasCon-class : (x y c : TermId) → InOneClass reps x y → HasCon reps cons y c → HasCon reps cons x c
  HasCon-class x y c equal has = (has.0, equal.1 ∙ sym equal.2 ∙ has.1, has.2)

  -- the class of a constructor term has a stored one
  pub con_stored : (t : TermId) → IsConstructorTerm terms t → t.0 < length reps → (con : TermId) × HasCon reps cons t con × InOneClass reps t con × IsConstructorTerm terms con
  con_stored t built inside =
      let r = get_or reps t.0 t in
      let at : slice_get reps t.0 ≡ Some r = slice_get-get_or reps t.0 t inside in
      let self = own t r at in
      let within : r.0 < length cons = omega (arith, cons_long, slice_get_within reps r.0 r self) in
      by r at (get_or cons r.0 None) (slice_get-get_or cons r.0 None within) (stored r (get_or cons r.0 None) self (slice_get-get_or cons r.0 None within))
    where
      by : (r : TermId) → slice_get reps t.0 ≡ Some r → (c : Option TermId) → slice_get cons r.0 ≡ Some c → IsConOf terms reps r c → (con : TermId) × HasCon reps cons t con × InOneClass reps t con × IsConstructorTerm terms con
      by r at None there of = absurd (of t at built)
      by r at (Some con) there of = (con, (r, at, there), (r, at, of.0), of.1)

  module _ (one : (t con : TermId) (c k : CtorId) (xs ys : List TermId) → HasCon reps cons t con → Has terms (Con c xs) t.0 → Has terms (Con k ys) con.0 → c ≡ k) where
    pub IsStored-of : (t : TermId) (c : CtorId) (xs : List TermId) → Has terms (Con c xs) t.0 → t.0 < length reps → IsStored terms reps cons t c
    IsStored-of t c xs stands inside =
        let h = con_stored t (c, xs, stands) inside in
        let same : c ≡ h.3.0 = one t h.0 c h.3.0 xs h.3.1 h.1 stands h.3.2 in
        record { con = h.0; args = h.3.1; has = h.1; equal = h.2; stands = subst (λ (k : CtorId). Has terms (Con k h.3.1) h.0.0) (sym same) h.3.2 }

    -- for the class of `true` it is `true`, and so with `false`
    pub truth_stored : AreSingle terms → BeginsWithTruths terms → (u : TermId) (value : Bool) → InOneClass reps u (truth_term value) → HasCon reps cons u (truth_term value)
    truth_stored single begins u value equal =
        let truth = truth_term value in
        let stands = truth_stands terms begins value in
        let s = IsStored-of truth (truth_ctor value) [] stands (slice_get_within reps truth.0 equal.0 equal.2) in
        let none : s.args ≡ [] = nil_from_length s.args (sym (one_arity d terms (truth_ctor value) [] s.args truth.0 s.con.0 sorted stands s.stands)) in
        let same : s.con.0 ≡ truth.0 = single s.con.0 truth.0 (Con (truth_ctor value) []) (subst (λ (xs : List TermId). Has terms (Con (truth_ctor value) xs) s.con.0) none s.stands) stands in
        let is : s.con ≡ truth = λ i. record { 0 = same i } in
        HasCon-class u truth truth equal (subst (HasCon reps cons truth) is s.has)

module _ (d : Declarations) (terms : Terms) (reps : List TermId) (cons : List (Option TermId)) (keys : Keys) (sorted : AreSorted d terms) (single : AreSingle terms) (begins : BeginsWithTruths terms) (long : length reps ≡ length terms) (cons_long : length cons ≡ length reps) (own : (x r : TermId) → slice_get reps x.0 ≡ Some r → slice_get reps r.0 ≡ Some r) (stored : AreCons terms reps cons) (covered : IsCovered d terms reps cons keys (InOneClass reps)) where
  -- the constructor term that is stored for a class with one of the constructor
  stored_at : (t : TermId) (c : CtorId) (xs : List TermId) → Has terms (Con c xs) t.0 → IsStored terms reps cons t c
  stored_at t c xs stands = IsStored-of d terms reps cons sorted cons_long own stored covered.one t c xs stands (omega (arith, Has-inside terms (Con c xs) t.0 stands, long))

  truth_at : (u : TermId) (value : Bool) → InOneClass reps u (truth_term value) → HasCon reps cons u (truth_term value)
  truth_at = truth_stored d terms reps cons sorted cons_long own stored covered.one single begins

  -- the argument of a constructor term with that of the stored one
  argument : (t : TermId) (c : CtorId) (xs : List TermId) (stands : Has terms (Con c xs) t.0) (place : ℕ) (x : TermId) → slice_get xs place ≡ Some x → (z : TermId) × (slice_get (stored_at t c xs stands).args place ≡ Some z) × InOneClass reps x z
  argument t c xs stands place x at =
      let s = stored_at t c xs stands in
      let z = slice_get-one_length xs s.args place x (one_arity d terms c xs s.args t.0 s.con.0 sorted stands s.stands) at in (
        z.0,
        z.1,
        covered.injection x z.0 (record {
          left = t;
          right = s.con;
          ctor = c;
          xs = xs;
          ys = s.args;
          place = place;
          equal = s.has;
          left_stands = stands;
          right_stands = s.stands;
          left_at = at;
          right_at = z.1;
        }),
      )

  -- the stored one is the same for both terms of a class
  same_stored : (t u c e : TermId) → InOneClass reps t u → HasCon reps cons t c → HasCon reps cons u e → c ≡ e
  same_stored t u c e equal p q =
      let class : p.0 ≡ q.0 = same_Some p.0 q.0 (sym p.1 ∙ equal.1 ∙ sym equal.2 ∙ q.1) in
      same_Some c e (same_Some (Some c) (Some e) (sym p.2 ∙ ap (λ (r : TermId). slice_get cons r.0) class ∙ q.2))

  injective : (x y : TermId) → IsInjection terms (InOneClass reps) x y → InOneClass reps x y
  injective x y rule =
      let p = argument rule.left rule.ctor rule.xs rule.left_stands rule.place x rule.left_at in
      let q = argument rule.right rule.ctor rule.ys rule.right_stands rule.place y rule.right_at in
      let s = stored_at rule.left rule.ctor rule.xs rule.left_stands in
      let e = stored_at rule.right rule.ctor rule.ys rule.right_stands in
      let con : s.con ≡ e.con = same_stored rule.left rule.right s.con e.con rule.equal s.has e.has in
      let args : s.args ≡ e.args = (Has-constructor terms rule.ctor rule.ctor s.args e.args e.con.0 (subst (λ (t : TermId). Has terms (Con rule.ctor s.args) t.0) con s.stands) e.stands).1 in
      let same : p.0 ≡ q.0 = same_Some p.0 q.0 (sym p.1 ∙ ap (λ (list : List TermId). slice_get list rule.place) args ∙ q.1) in
      InOneClass-trans reps x p.0 y p.2 (subst (λ (t : TermId). InOneClass reps t y) (sym same) (InOneClass-sym reps y q.0 q.2))

  selected : (x y : TermId) → IsSelection d terms (InOneClass reps) x y → InOneClass reps x y
  selected x y rule =
      let c = rule.selector.ctor in
      let s = stored_at rule.con c rule.args rule.con_stands in
      let p = argument rule.con c rule.args rule.con_stands rule.selector.place y rule.at in
      let found : InOneClass reps x p.0 = (covered.each x).selection p.0 (record {
        sel = rule.sel;
        selector = rule.selector;
        argument = rule.argument;
        con = s.con;
        args = s.args;
        stands = rule.stands;
        declared = rule.declared;
        equal = HasCon-class d terms reps cons sorted cons_long own stored rule.argument rule.con s.con rule.equal s.has;
        con_stands = s.stands;
        at = p.1;
      }) in
      InOneClass-trans reps x p.0 y found (InOneClass-sym reps y p.0 p.2)

  tested : (x y : TermId) → IsTesting terms (InOneClass reps) x y → InOneClass reps x y
  tested x y rule =
      let s = stored_at rule.con rule.ctor rule.args rule.con_stands in
      (covered.each x).testing y (record {
        tested = rule.tested;
        argument = rule.argument;
        con = s.con;
        ctor = rule.ctor;
        args = s.args;
        stands = rule.stands;
        equal = HasCon-class d terms reps cons sorted cons_long own stored rule.argument rule.con s.con rule.equal s.has;
        con_stands = s.stands;
        answer = rule.answer;
      })

  expanded : (x y : TermId) → IsExpansion d terms (InOneClass reps) x y → InOneClass reps x y
  expanded x y rule = (covered.each rule.test).expansion x y (record {
    test = rule.test;
    id = rule.id;
    ctor = rule.ctor;
    args = rule.args;
    declared = rule.declared;
    holds = truth_at rule.test true rule.holds;
    test_stands = rule.test_stands;
    con_stands = rule.con_stands;
    fields = rule.fields;
  }) refl

  equated : (x y : TermId) → IsEquationOut terms (InOneClass reps) x y → InOneClass reps x y
  equated x y rule = (covered.each rule.term).equation_out x y (record { term = rule.term; stands = rule.stands; holds = truth_at rule.term true rule.holds }) refl

  negated : (x y : TermId) → IsNegation terms (InOneClass reps) x y → InOneClass reps x y
  negated x y rule = (covered.each x).negation y (record {
    argument = rule.argument;
    stands = rule.stands;
    answer = elim rule.answer [
      | inl h ↦ inl (truth_at rule.argument true h.0, h.1)
      | inr h ↦ inr (truth_at rule.argument false h.0, h.1)
    ];
  })

  -- two terms that were met
  matched : (x y : TermId) (rule : IsCongruence terms (InOneClass reps) x y) → IsMatched terms reps keys (InOneClass reps) x rule.left → IsMatched terms reps keys (InOneClass reps) y rule.right → InOneClass reps x y
  matched x y rule = joined_alike terms reps keys (InOneClass reps) (InOneClass-sym reps) (InOneClass-trans reps) x y rule.left rule.right (record { head = rule.head; arguments = rule.arguments })

  -- as many arguments on both sides
  same_many : (xs ys : List TermId) → AllZip (InOneClass reps) xs ys → length xs ≡ length ys
  same_many [] [] h = refl
  same_many [] (y ∷ ys) h = absurd h
  same_many (x ∷ xs) [] h = absurd h
  same_many (x ∷ xs) (y ∷ ys) h = ap suc (same_many xs ys h.1)

  itself : (x y : TermId) → x.0 < length terms → x ≡ y → InOneClass reps x y
  itself x y inside is = subst (InOneClass reps x) is (InOneClass-refl reps x (omega (arith, inside, long)))

  congruent : (x y : TermId) → IsCongruence terms (InOneClass reps) x y → InOneClass reps x y
  congruent x y rule = elim (covered.congruence x rule.left rule.left_stands) [
    | inl lone ↦ itself x y (Has-inside terms rule.left x.0 rule.left_stands) (lone y rule.left rule.right rule.left_stands rule.right_stands rule.head (same_many (core_children rule.left) (core_children rule.right) rule.arguments))
    | inr p ↦ elim (covered.congruence y rule.right rule.right_stands) [
      | inl lone ↦ itself x y (Has-inside terms rule.left x.0 rule.left_stands) (sym (lone x rule.right rule.left rule.right_stands rule.left_stands (sym rule.head) (sym (same_many (core_children rule.left) (core_children rule.right) rule.arguments))))
      | inr q ↦ matched x y rule p q
    ]
  ]

  pub AreRulesClosed-covered : AreRulesClosed d terms (InOneClass reps)
  AreRulesClosed-covered = record {
    congruence = congruent;
    injection = injective;
    selection = selected;
    testing = tested;
    expansion = expanded;
    equation_in = λ x y rule. (covered.each x).equation_in y rule;
    equation_out = equated;
    negation = negated;
    singleton = covered.singleton;
  }

  -- and no class has two constructors
  pub no_clash : (a b : TermId) → IsClashOf terms reps a b → ⊥
  no_clash a b clash =
      let s = stored_at a clash.first clash.xs clash.left in
      let e = stored_at b clash.second clash.ys clash.right in
      let con : s.con ≡ e.con = same_stored a b s.con e.con clash.equal s.has e.has in
      clash.apart (Has-constructor terms clash.first clash.second s.args e.args e.con.0 (subst (λ (t : TermId). Has terms (Con clash.first s.args) t.0) con s.stands) e.stands).0
