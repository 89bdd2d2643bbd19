-- What follows from equations follows from more of them.
use Rattle.std.proofs.Common.{◌⊎◌, inl, inr}
use Rattle.ct_lemmas.proofs.Pairs.{AllZip-weaker}
use Rattle.ct_sorts.specs.Declarations.{Declarations}
use Rattle.ct_terms.specs.declared.ids.TermId.{TermId}
use Rattle.ct_terms.specs.Children.{core_children}
use Rattle.ct_terms.specs.Terms.{Terms}
use Rattle.ct_rules.specs.Rules.{Equations, truth_term, IsReflexive, IsTransitive, IsCongruence, IsInjection, IsSelection, IsTesting, IsExpansion, IsEquationIn, IsEquationOut, IsNegation, IsSingleton, Follows, by_reflexivity, by_symmetry, by_transitivity, by_congruence, by_injection, by_selection, by_testing, by_expansion, by_equation_in, by_equation_out, by_negation, by_singleton}

module _ (d : Declarations) (terms : Terms) (known wider : Equations) (each : (x y : TermId) → known x y → wider x y) where
  pub Follows-wider : (x y : TermId) → Follows d terms known x y → Follows d terms wider x y
  Follows-wider x y (by_reflexivity r) = by_reflexivity r
  Follows-wider x y (by_symmetry r) = by_symmetry (each y x r)
  Follows-wider x y (by_transitivity r) = by_transitivity (record { middle = r.middle; first = each x r.middle r.first; second = each r.middle y r.second })
  Follows-wider x y (by_congruence r) = by_congruence (record {
    left = r.left;
    right = r.right;
    left_stands = r.left_stands;
    right_stands = r.right_stands;
    head = r.head;
    arguments = AllZip-weaker known wider each (core_children r.left) (core_children r.right) r.arguments;
  })
  Follows-wider x y (by_injection r) = by_injection (record {
    left = r.left;
    right = r.right;
    ctor = r.ctor;
    xs = r.xs;
    ys = r.ys;
    place = r.place;
    equal = each r.left r.right r.equal;
    left_stands = r.left_stands;
    right_stands = r.right_stands;
    left_at = r.left_at;
    right_at = r.right_at;
  })
  Follows-wider x y (by_selection r) = by_selection (record {
    sel = r.sel;
    selector = r.selector;
    argument = r.argument;
    con = r.con;
    args = r.args;
    stands = r.stands;
    declared = r.declared;
    equal = each r.argument r.con r.equal;
    con_stands = r.con_stands;
    at = r.at;
  })
  Follows-wider x y (by_testing r) = by_testing (record {
    tested = r.tested;
    argument = r.argument;
    con = r.con;
    ctor = r.ctor;
    args = r.args;
    stands = r.stands;
    equal = each r.argument r.con r.equal;
    con_stands = r.con_stands;
    answer = r.answer;
  })
  Follows-wider x y (by_expansion r) = by_expansion (record {
    test = r.test;
    id = r.id;
    ctor = r.ctor;
    args = r.args;
    declared = r.declared;
    holds = each r.test (record { 0 = 0 }) r.holds;
    test_stands = r.test_stands;
    con_stands = r.con_stands;
    fields = r.fields;
  })
  Follows-wider x y (by_equation_in r) = by_equation_in (record {
    left = r.left;
    right = r.right;
    stands = r.stands;
    equal = each r.left r.right r.equal;
    answer = r.answer;
  })
  Follows-wider x y (by_equation_out r) = by_equation_out (record {
    term = r.term;
    stands = r.stands;
    holds = each r.term (record { 0 = 0 }) r.holds;
  })
  Follows-wider x y (by_negation r) = by_negation (record {
    argument = r.argument;
    stands = r.stands;
    answer = elim r.answer [
      | inl h ↦ inl (each r.argument (record { 0 = 0 }) h.0, h.1)
      | inr h ↦ inr (each r.argument (record { 0 = 1 }) h.0, h.1)
    ];
  })
  Follows-wider x y (by_singleton r) = by_singleton r
