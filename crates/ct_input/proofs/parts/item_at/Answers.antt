use Rattle.std.proofs.Common.{◌≡◌, ◌≤◌, length, sym, subst, arith}
use Rattle.ct_input.specs.Parts.{StandsAmong}
use Rattle.ct_input.proofs.PartLemmas.{LacksAmong, later_item, in_list, lacks_inside, lacks_later, lacks_here}
use Rattle.ct_input.proofs.parts.item_at.Goals as goal

pub returns-in_err-rest-clause-found : goal.returns-in_err-rest-clause-found
returns-in_err-rest-clause-found c e path from end s =
    let l = in_list e c.args.index path c.args.bytes.now from end s in
    absurd (c.in_err-rest.ensures.found l.1 l.2)

pub loop-left-init : goal.loop-left-init
loop-left-init c = (
  λ e path from end s.
      let l = in_list e c.args.index path c.args.bytes.now from end s in
      (l.0, subst (λ b. StandsAmong l.0 c.args.index path b from end) (sym (c.in_ok-rest.ensures.found l.1 l.2)) l.3),
  c.in_ok-rest.ensures.within,
  λ path lacks. lacks_inside c.args.index path c.args.bytes.now c.in_ok-rest.rest.now c.in_ok-rest.ensures.opens lacks,
)

pub loop-left-preserved : goal.loop-left-preserved
loop-left-preserved c =
    let before : length c.loop-left.rest.now ≤ length c.args.bytes.now = c.loop-left.invariant.1 in
    let bound : length c.in_ok-rest-2.rest.now ≤ length c.args.bytes.now = omega (arith, before, c.in_ok-rest-2.ensures.within) in (
      λ e path from end s.
          let among = c.loop-left.invariant.0 e path from end s in
          let l = later_item among.0 c.loop-left.left path c.loop-left.rest.now from end (omega (arith, c.loop-left-test.true)) among.1 in
          l.3 c.in_ok-rest-2.rest.now (c.in_ok-rest-2.ensures.found l.0 l.1 l.2),
      bound,
      λ path lacks.
          lacks_later c.loop-left.left path c.loop-left.rest.now c.in_ok-rest-2.rest.now (omega (arith, c.loop-left-test.true)) c.in_ok-rest-2.ensures.found c.in_ok-rest-2.ensures.begins (c.loop-left.invariant.2 path lacks),
    )

pub returns-clause-lacks : goal.returns-clause-lacks
returns-clause-lacks c path lacks =
    let none : c.loop-left.left ≡ 0 = omega (arith, c.loop-left-test.false) in
    lacks_here path c.loop-left.rest.now (subst (λ n. LacksAmong n path c.loop-left.rest.now) none (c.loop-left.invariant.2 path lacks))
