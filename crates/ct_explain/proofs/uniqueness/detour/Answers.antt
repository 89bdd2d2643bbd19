use Rattle.std.proofs.Common.{List, Option, get_or, refl, subst, arith}
use Rattle.std.proofs.lemmas.List.Elements.{Contains-get_or}
use Rattle.ct_terms.specs.declared.ids.TermId.{TermId}
use Rattle.ct_rules.specs.declared.equation.Equation.{Equation}
use Rattle.ct_explain.specs.declared.forest.Link.{Link}
use Rattle.ct_explain.specs.Trees.{IsTop}
use Rattle.ct_explain.proofs.HangLemmas.{tested_same, tested_other}
use Rattle.ct_explain.proofs.RestLemmas.{no_match-next, first_match, match_alone}
use Rattle.ct_explain.proofs.TopLemmas.{tops_connect, tops_alike, no_match_apart, apart_in}
use Rattle.ct_explain.proofs.uniqueness.detour.Goals as goal

abbrev zeroth : Equation
zeroth = record { left = record { 0 = 0 }; right = record { 0 = 0 } }

pub returns-then-eq : goal.returns-then-eq
returns-then-eq c = record {
  answer = λ merges m.
      let at = λ (t end : TermId) (top : IsTop c.links-links.result.now c.args.bound t end). subst (λ (l : List (Option Link)). IsTop l c.args.bound t end) c.links-links.ensures.value top in
      tops_connect merges c.args.forest.now.links c.args.bound c.args.x c.args.y c.top-from.result c.top-to.result m.forest m.left m.right
      (at c.args.x c.top-from.result c.top-from.ensures.top) (at c.args.y c.top-to.result c.top-to.ensures.top) (tested_same c.top-from.result c.top-to.result c.if-eq.ensures);
}

pub returns-then-joins : goal.returns-then-joins
returns-then-joins c = record {
  answer = λ merges m.
      let at = λ (t end : TermId) (top : IsTop c.links-links.result.now c.args.bound t end). subst (λ (l : List (Option Link)). IsTop l c.args.bound t end) c.links-links.ensures.value top in
      let e = get_or c.args.equations.now c.loop-k.k zeroth in
      let from = at c.args.x c.top-from.result c.top-from.ensures.top in
      let to = at c.args.y c.top-to.result c.top-to.ensures.top in
      let sides = m.sides e (Contains-get_or c.args.equations.now c.loop-k.k zeroth c.loop-k-test.true) in
      first_match c.args.forest.now.links c.args.bound c.args.equations.now c.args.x c.args.y c.loop-k.k zeroth merges c.loop-k-test.true m
      (λ known. tested_other c.top-from.result c.top-to.result c.if-eq.ensures (tops_alike merges c.args.forest.now.links c.args.bound c.args.x c.args.y c.top-from.result c.top-to.result m.forest m.left known from to))
      (tops_connect merges c.args.forest.now.links c.args.bound c.args.x e.left c.top-from.result c.top-from.result m.forest m.left sides.0 from (at e.left c.top-from.result c.if-joins.ensures.left) refl)
      (tops_connect merges c.args.forest.now.links c.args.bound e.right c.args.y c.top-to.result c.top-to.result m.forest sides.1 m.right (at e.right c.top-to.result c.if-joins.ensures.right) to refl)
      c.loop-k.invariant;
}

pub loop-k-preserved : goal.loop-k-preserved
loop-k-preserved c =
    let at = λ (t end : TermId) (top : IsTop c.links-links.result.now c.args.bound t end). subst (λ (l : List (Option Link)). IsTop l c.args.bound t end) c.links-links.ensures.value top in
    let e = get_or c.args.equations.now c.loop-k.k zeroth in
    no_match-next c.args.forest.now.links c.args.bound c.args.equations.now c.args.x c.args.y c.loop-k.k zeroth c.loop-k-test.true
    (no_match_apart c.args.forest.now.links c.args.bound c.args.x c.args.y c.top-from.result c.top-to.result e (at c.args.x c.top-from.result c.top-from.ensures.top) (at c.args.y c.top-to.result c.top-to.ensures.top)
    (apart_in c.links-links.result.now c.args.forest.now.links c.args.bound e c.top-from.result c.top-to.result c.links-links.ensures.value c.if-joins.ensures.apart))
    c.loop-k.invariant

pub returns : goal.returns
returns c = record {
  answer = λ merges m. match_alone c.args.forest.now.links c.args.bound c.args.equations.now c.args.x c.args.y c.loop-k.k merges (λ h. omega (arith, h, c.loop-k-test.false)) m c.loop-k.invariant;
}
