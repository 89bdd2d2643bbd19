use Rattle.std.proofs.Common.{◌≡◌, ◌-◌, ◌≤◌, List, [], ◌∷◌, length, take, drop, map, sym, ap, subst, arith, rules}
use Rattle.std.proofs.lemmas.List.Elements.{All-head, All-tail}
use Rattle.std.proofs.lemmas.Result.{err_from_is_err_and}
use Rattle.ct_lemmas.proofs.Prefixes.{nothing_left, rest-item}
use Rattle.ct_sorts.specs.Declarations.{bool_sort}
use Rattle.ct_terms.specs.declared.ids.TermId.{TermId}
use Rattle.ct_terms.specs.declared.error.TermError.TheVariants.{Full}
use Rattle.ct_formulas.specs.declared.tree.Tree.{Tree}
use Rattle.ct_terms.specs.Terms.{AreOrdered, AreSingle, most_terms}
use Rattle.ct_formulas.specs.FormulaSorts.{IsSorted}
use Rattle.ct_formulas.specs.TreeFormula.{formula_of}
use Rattle.ct_stack.specs.Held.{context_in}
use Rattle.ct_audit.specs.Growing.{IsGrowing, AreBoolean}
use Rattle.ct_audit.proofs.GrowLemmas.{ends, goes_on, too_many, other_err}
use Rattle.ct_audit.proofs.grow.add_assertions.Goals as goal

pub compile-requires-clause-closed : goal.compile-requires-clause-closed
compile-requires-clause-closed c =
    let loop = c.loop-rest in
    let others : List Tree = take (length loop.rest.now - 1) (drop 1 loop.rest.now) in
    let is : loop.rest.now ≡ c.tree-item.result ∷ others = rest-item loop.rest.now c.tree-item.result c.in-len1-up.len_at_least c.tree-item.is in
    let booleans = subst (λ (xs : List Tree). AreBoolean (context_in c.args.scope.now) (map formula_of xs)) is loop.invariant.booleans in
    (bool_sort, All-head (λ t. IsSorted c.args.scope.now.sig [] t bool_sort) (formula_of c.tree-item.result) (map formula_of others) booleans)

pub returns-in_err-number-clause-full : goal.returns-in_err-number-clause-full
returns-in_err-number-clause-full c =
    let loop = c.loop-rest in
    let all = map formula_of c.args.asserts.now in
    let others : List Tree = take (length loop.rest.now - 1) (drop 1 loop.rest.now) in
    let is : loop.rest.now ≡ c.tree-item.result ∷ others = rest-item loop.rest.now c.tree-item.result c.in-len1-up.len_at_least c.tree-item.is in
    let growing = subst (λ (xs : List Tree). IsGrowing (context_in c.args.scope.now) all (map formula_of xs) c.args.table.now loop.table loop.numbers.items) is loop.invariant.growing in
    let p = err_from_is_err_and c.from_residual.result c.from_residual.ensures.1 in
    rw (p.1, p.2) (λ full.
    let unfit = c.in_err-number.ensures.full (other_err c.in_err-number.field-0.0 Full full) in
    too_many c.term_theorems.ensures.hold (context_in c.args.scope.now) all (map formula_of others) (formula_of c.tree-item.result) c.args.table.now loop.table loop.numbers.items growing c.len-in-len1-up.ensures.ordered c.len-in-len1-up.ensures.single unfit.0 unfit.1)

pub loop-rest-preserved : goal.loop-rest-preserved
loop-rest-preserved c =
    let loop = c.loop-rest in
    let all = map formula_of c.args.asserts.now in
    let others : List Tree = take (length loop.rest.now - 1) (drop 1 loop.rest.now) in
    let is : loop.rest.now ≡ c.tree-item.result ∷ others = rest-item loop.rest.now c.tree-item.result c.in-len1-up.len_at_least c.tree-item.is in
    let growing = subst (λ (xs : List Tree). IsGrowing (context_in c.args.scope.now) all (map formula_of xs) c.args.table.now loop.table loop.numbers.items) is loop.invariant.growing in
    let booleans = subst (λ (xs : List Tree). AreBoolean (context_in c.args.scope.now) (map formula_of xs)) is loop.invariant.booleans in
    let ordered : AreOrdered c.compile.new.table = search rules in
    record {
      growing =
          subst (λ (ns : List TermId). IsGrowing (context_in c.args.scope.now) all (map formula_of others) c.args.table.now c.compile.new.table ns) (sym c.in_ok-push.ensures.items)
          (goes_on (context_in c.args.scope.now) all (map formula_of others) (formula_of c.tree-item.result) c.args.table.now loop.table loop.numbers.items growing c.term_theorems.ensures.hold c.compile.new.table c.in_ok-number.number ordered c.compile.ensures.grown c.compile.ensures.sorted c.sorts.ensures.consistent c.requires.sound.bodies (All-head (λ t. IsSorted c.args.scope.now.sig [] t bool_sort) (formula_of c.tree-item.result) (map formula_of others) booleans) c.in_ok-number.ensures.core c.compile.ensures.nothing_else);
      booleans = All-tail (λ t. IsSorted c.args.scope.now.sig [] t bool_sort) (formula_of c.tree-item.result) (map formula_of others) booleans;
    }

pub returns-clause-grown : goal.returns-clause-grown
returns-clause-grown c =
    let loop = c.loop-rest in
    let none : loop.rest.now ≡ [] = nothing_left loop.rest.now (omega (arith, c.in_default.len_below)) in
    let few : length loop.table ≤ most_terms = omega arith in
    let ordered : AreOrdered loop.table = search rules in
    let single : AreSingle loop.table = search rules in
    ends (context_in c.args.scope.now) (map formula_of c.args.asserts.now) (map formula_of loop.rest.now) c.args.table.now loop.table loop.numbers.items (ap (λ (xs : List Tree). map formula_of xs) none) few ordered single loop.invariant.growing
