use Rattle.std.proofs.Common.{◌≡◌, ◌+◌, ◌-◌, ◌≤◌, length, length-drop, take, drop, get_or, ap, sym, ◌∙◌, subst, arith, true≢false}
use Rattle.std.proofs.lemmas.List.{take_rest}
use Rattle.ct_input.proofs.PartLemmas.{IsInside, IsAfter, deeper_by_one, pass_first, ends_here, goes_on, whitespace_passed, none_at_end, none_closing}
use Rattle.ct_input.proofs.SourceLemmas.{whitespace_once}
use Rattle.ct_input.proofs.parts.after_expression.Goals as goal
use Rattle.ct_input.proofs.parts.after_expression.Goals.{After-depth_after-depth}

pub loop-rest-init : goal.loop-rest-init
loop-rest-init c =
    let is = c.after_whitespace-rest.ensures.value in (
      λ e end a. subst (λ l. IsInside 0 l end) (sym is) (whitespace_passed 0 c.args.bytes.now end (e, a)),
      rw is (whitespace_once c.args.bytes.now),
      omega (arith, c.after_whitespace-rest.ensures.within),
    )

pub returns-then-depth-eq0-clause-found : goal.returns-then-depth-eq0-clause-found
returns-then-depth-eq0-clause-found c e end a =
    let inside = c.loop-rest.invariant.0 e end a in
    let after = pass_first c.loop-rest.depth c.loop-rest.rest.now _ end c.after_token-next.result.now c.in-len1-up.len_at_least (take_rest c.loop-rest.rest.now 1) c.loop-rest.invariant.1 inside c.after_token-next.ensures.found in
    ends_here _ _ end (sym c.depth_after-depth.ensures.value ∙ c.if-depth-eq0.true) after

pub loop-rest-preserved : goal.loop-rest-preserved
loop-rest-preserved c =
    let is = c.after_whitespace-rest-in-len1-up.ensures.value in
    let before : c.loop-rest.depth + length c.loop-rest.rest.now ≤ length c.args.bytes.now = c.loop-rest.invariant.2 in
    let others : length (take (length c.loop-rest.rest.now - 1) (drop 1 c.loop-rest.rest.now)) ≡ length c.loop-rest.rest.now - 1 = ap length (take_rest c.loop-rest.rest.now 1) ∙ length-drop 1 c.loop-rest.rest.now in
    let next : length c.after_token-next.result.now ≤ length (take (length c.loop-rest.rest.now - 1) (drop 1 c.loop-rest.rest.now)) = c.after_token-next.ensures.within in
    let bound : c.depth_after-depth.result + length c.after_whitespace-rest-in-len1-up.result.now ≤ length c.args.bytes.now =
    omega (arith, before, others, next, c.after_whitespace-rest-in-len1-up.ensures.within, c.in-len1-up.len_at_least, c.depth_after-depth.ensures.value, deeper_by_one (get_or c.loop-rest.rest.now 0 0) c.loop-rest.depth) in (
      λ e end a.
          let inside = c.loop-rest.invariant.0 e end a in
          let after = pass_first c.loop-rest.depth c.loop-rest.rest.now _ end c.after_token-next.result.now c.in-len1-up.len_at_least (take_rest c.loop-rest.rest.now 1) c.loop-rest.invariant.1 inside c.after_token-next.ensures.found in
          let open_after = subst (λ n. IsAfter n c.after_token-next.result.now end) (sym c.depth_after-depth.ensures.value) after in
          subst (λ l. IsInside c.depth_after-depth.result l end) (sym is) (goes_on c.depth_after-depth.result c.after_token-next.result.now end c.if-depth-eq0.false open_after),
      rw is (whitespace_once c.after_token-next.result.now),
      bound,
    )

pub returns-clause-found : goal.returns-clause-found
returns-clause-found c e end a = none_at_end c.loop-rest.depth c.loop-rest.rest.now end c.in_default.len_below (c.loop-rest.invariant.0 e end a)

pub returns-then-begins_closing-clause-found : goal.returns-then-begins_closing-clause-found
returns-then-begins_closing-clause-found c e end a = none_closing e c.args.bytes.now end a (c.begins_closing.ensures.value.0 c.if-begins_closing.true)

pub returns-then-depth-eq0-clause-begins : goal.returns-then-depth-eq0-clause-begins
returns-then-depth-eq0-clause-begins c closes = absurd (true≢false (sym (c.begins_closing.ensures.value.1 closes) ∙ c.if-begins_closing.false))
