use Rattle.std.proofs.Common.{◌≡◌, ℕ, suc, ◌+◌, Bool, List, length, drop, Some, refl, sym, ap, subst, ◌∙◌, arith}
use Rattle.ct_sorts.proofs.PieceLemmas.{Begins-self, Begins-trans}
use Rattle.ct_sexpr.specs.Expression.{Expression, Expressions}
use Rattle.ct_sexpr.specs.View.{expression_of, expressions_of}
use Rattle.ct_readback.specs.Rows.{body_row, after_tests}
use Rattle.ct_readback.specs.BodySoFar.{IsBodySoFar, IsReadOn, StandsBefore}
use Rattle.ct_readback.proofs.RestLemmas.{rest_at, rest_none}
use Rattle.ct_readback.proofs.BodyLemmas.{stands_after, some_for_row}
use Rattle.ct_readback.proofs.item.add_rows.Goals as goal

pub loop-index-init : goal.loop-index-init
loop-index-init c = record { grown = Begins-self c.args.graph.now; well_formed = c.requires.well_formed; so_far = λ body left rest so_far stands. (left, so_far, stands) }

pub loop-index-preserved : goal.loop-index-preserved
loop-index-preserved c =
    let d = c.args.sig.now in
    let n = length c.args.sorts.now in
    let tests = c.args.tests.now in
    let value = expression_of c.args.value.now in
    let loop = c.loop-index in
    let x = c.index-tests-index.result in
    let e = expression_of x in
    let es = expressions_of (drop (suc loop.index) tests) in
    let g = c.add_row.new.graph in
    let plus : loop.index + 1 ≡ suc loop.index = omega arith in
    record {
      grown = Begins-trans c.args.graph.now loop.graph g loop.invariant.grown c.in_ok-add_row.ensures.grown;
      well_formed = c.in_ok-add_row.ensures.well_formed;
      so_far = λ body left rest so_far stands.
          let (at, here, before) = loop.invariant.so_far body left rest so_far stands in
          let next : body_row n at ≡ Some (e, value, after_tests es value rest) =
          subst (λ (xs : Expressions). StandsBefore n xs value rest at) (rest_at tests loop.index x c.loop-index-test.true c.index-tests-index.is) before in
          let read = subst (λ (b : Bool). IsReadOn d c.args.sorts.now c.args.s body g (after_tests es value rest) c.add_row.new.found.cyclic c.add_row.new.found.rows.items b) c.if-not-branch.false
          (c.in_ok-add_row.ensures.read body at (after_tests es value rest) here next) in
          let stands_next = stands_after n es value rest (some_for_row n at (e, value, after_tests es value rest) next) in
          (after_tests es value rest, read, subst (λ (k : ℕ). StandsBefore n (expressions_of (drop k tests)) value rest (after_tests es value rest)) (sym plus) stands_next);
    }

pub returns-then-not-branch-clause-read : goal.returns-then-not-branch-clause-read
returns-then-not-branch-clause-read c = λ body left rest so_far stands.
    let d = c.args.sig.now in
    let n = length c.args.sorts.now in
    let value = expression_of c.args.value.now in
    let loop = c.loop-index in
    let x = c.index-tests-index.result in
    let es = expressions_of (drop (suc loop.index) c.args.tests.now) in
    let (at, here, before) = loop.invariant.so_far body left rest so_far stands in
    let next : body_row n at ≡ Some (expression_of x, value, after_tests es value rest) =
    subst (λ (xs : Expressions). StandsBefore n xs value rest at) (rest_at c.args.tests.now loop.index x c.loop-index-test.true c.index-tests-index.is) before in
    subst (λ (b : Bool). IsReadOn d c.args.sorts.now c.args.s body c.add_row.new.graph (after_tests es value rest) c.add_row.new.found.cyclic c.add_row.new.found.rows.items b) c.if-not-branch.true
    (c.in_ok-add_row.ensures.read body at (after_tests es value rest) here next)

pub returns-clause-read : goal.returns-clause-read
returns-clause-read c = λ body left rest so_far stands.
    let loop = c.loop-index in
    let (at, here, before) = loop.invariant.so_far body left rest so_far stands in
    let over : StandsBefore (length c.args.sorts.now) (expressions_of (drop loop.index c.args.tests.now)) (expression_of c.args.value.now) rest at = before in
    let same : at ≡ rest = subst (λ (es : Expressions). StandsBefore (length c.args.sorts.now) es (expression_of c.args.value.now) rest at) (rest_none c.args.tests.now loop.index c.loop-index-test.false) over in
    subst (λ (e : Expression). IsBodySoFar c.args.sig.now c.args.sorts.now c.args.s body loop.graph e loop.found.cyclic loop.found.rows.items) same here
