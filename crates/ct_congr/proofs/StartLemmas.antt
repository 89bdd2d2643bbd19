-- Terms that are alone in their classes: what is covered and sound before any merge.
use Rattle.std.proofs.Common.{◌≡◌, ◌<◌, List, [], length, Option, slice_get, Some, sym, ap, subst, ◌∙◌, arith}
use Rattle.std.proofs.lemmas.Option.{none-some, same_Some, slice_get_within}
use Rattle.ct_sorts.specs.Declarations.{Declarations}
use Rattle.ct_terms.specs.declared.ids.TermId.{TermId}
use Rattle.ct_terms.specs.declared.ids.Lit.{Lit}
use Rattle.ct_terms.specs.declared.term.Core.{Core}
use Rattle.ct_terms.specs.declared.term.Core.TheVariants.{Con, Sel, Test, Eq, Not}
use Rattle.ct_terms.specs.Terms.{Terms, Has, AreOrdered}
use Rattle.ct_rules.specs.declared.equation.Equation.{Equation}
use Rattle.ct_rules.specs.Rules.{Equations, IsInjection}
use Rattle.ct_equivalence.specs.Partition.{AreAlone}
use Rattle.ct_congr.specs.declared.merge.Merge.{Merge}
use Rattle.ct_congr.specs.Partition.{InOneClass}
use Rattle.ct_congr.specs.Rules.{IsSingular}
use Rattle.ct_congr.specs.Sound.{IsSound}
use Rattle.ct_congr.specs.Covered.{HasCon, IsGrouped, IsCoveredAt, Keys, IsMet, IsCovered}
use Rattle.ct_congr.proofs.ClassLemmas.{InOneClass-refl}
use Rattle.ct_congr.proofs.TermLemmas.{Has-inside, Has-constructor, argument_below}

module _ (d : Declarations) (terms : Terms) (reps : List TermId) (cons : List (Option TermId)) (g : IsGrouped terms reps cons) (alone : AreAlone (length terms) reps) where
  -- each term is its own representative
  own_rep : (x r : TermId) → slice_get reps x.0 ≡ Some r → x ≡ r
  own_rep x r at = same_Some x r (sym (alone.own x (omega (arith, slice_get_within reps x.0 r at, g.long))) ∙ at)

  -- the constructor term that is stored for its class is the term itself
  own_con : (t con : TermId) → HasCon reps cons t con → t ≡ con
  own_con t con h =
      let r = h.0 in
      let of = g.stored r (Some con) (g.own t r h.1) h.2 in
      own_rep t r h.1 ∙ sym (own_rep con r of.0)

  module _ (keys : Keys) (joined : Equations) (ordered : AreOrdered terms) (classes : (x y : TermId) → InOneClass reps x y → joined x y) where
    injected : (x y : TermId) → IsInjection terms (HasCon reps cons) x y → joined x y
    injected x y rule =
        let is = own_con rule.left rule.right rule.equal in
        let args : rule.xs ≡ rule.ys = (Has-constructor terms rule.ctor rule.ctor rule.xs rule.ys rule.right.0 (subst (λ (q : TermId). Has terms (Con rule.ctor rule.xs) q.0) is rule.left_stands) rule.right_stands).1 in
        let same : x ≡ y = same_Some x y (sym rule.left_at ∙ (ap (λ (list : List TermId). slice_get list rule.place) args ∙ rule.right_at)) in
        let below = argument_below rule.left.0 rule.xs rule.place x (ordered rule.left.0 (Con rule.ctor rule.xs) rule.left_stands) rule.left_at in
        let within : x.0 < length reps = omega (arith, below, Has-inside terms (Con rule.ctor rule.xs) rule.left.0 rule.left_stands, g.long) in
        subst (joined x) same (classes x x (InOneClass-refl reps x within))

    pub IsCovered-alone : ((t : TermId) → t.0 < length terms → IsCoveredAt d terms (InOneClass reps) (HasCon reps cons) joined t) → ((t : TermId) (core : Core) → Has terms core t.0 → IsMet terms reps keys joined t core) → IsSingular d terms joined → IsCovered d terms reps cons keys joined
    IsCovered-alone each met singular = record {
      one = λ t con c k xs ys has stands con_stands. (Has-constructor terms c k xs ys con.0 (subst (λ (q : TermId). Has terms (Con c xs) q.0) (own_con t con has) stands) con_stands).0;
      injection = injected;
      each = λ t. record {
        selection = λ y rule. (each t (Has-inside terms (Sel rule.sel rule.argument) t.0 rule.stands)).selection y rule;
        testing = λ y rule. (each t (Has-inside terms (Test rule.tested rule.argument) t.0 rule.stands)).testing y rule;
        negation = λ y rule. (each t (Has-inside terms (Not rule.argument) t.0 rule.stands)).negation y rule;
        equation_in = λ y rule. (each t (Has-inside terms (Eq rule.left rule.right) t.0 rule.stands)).equation_in y rule;
        expansion = λ x y rule is. (each t (Has-inside terms (Test rule.id x) t.0 (subst (λ (q : TermId). Has terms (Test rule.id x) q.0) is rule.test_stands))).expansion x y rule is;
        equation_out = λ x y rule is. (each t (Has-inside terms (Eq x y) t.0 (subst (λ (q : TermId). Has terms (Eq x y) q.0) is rule.stands))).equation_out x y rule is;
      };
      congruence = met;
      singleton = singular;
    }

  pub IsSound-begun : (hyps : List Lit) (given : List Equation) (merges : List Merge) → merges ≡ [] → IsSound d terms hyps given reps cons merges
  IsSound-begun hyps given merges empty =
      subst (IsSound d terms hyps given reps cons) (sym empty) (record {
        long = g.long;
        cons_long = g.cons_long ∙ g.long;
        stored = g.stored;
        connected = λ x y h. ([], own_rep x h.0 h.1 ∙ sym (own_rep y h.0 h.2));
        held = λ m has. absurd (omega (arith, has.1));
        justified = λ k m at. absurd (none-some m at);
        derives = λ m has. absurd (omega (arith, has.1));
      })
