use Rattle.std.proofs.Common.{◌-◌, List, ℕ, ◌≤◌, length, inr, ap, sym, ◌∙◌, subst, arith}
use Rattle.std.proofs.lemmas.List.{take_rest}
use Rattle.ct_input.specs.Parts.{StandsAt, BeginsClosing, Lacks}
use Rattle.ct_input.proofs.PartLemmas.{first_index, part_here, part_ends, part_read, span_of, lacks_nothing, closing_read}
use Rattle.ct_input.proofs.parts.part.Goals as goal

pub returns : goal.returns
returns c =
    let rest = c.loop-left.rest.now in
    let from_is = c.after_whitespace-from.ensures.value in
    let open_list : BeginsClosing rest → ⊥ = λ closes. c.in_ok-end.ensures.begins (closing_read rest c.after_whitespace-from.result.now from_is closes) in
    record {
      found = λ e from end s.
          let left = c.loop-left.invariant.0 e from end s in
          let here = part_here left.0 c.loop-left.left.now rest from end c.in_default.len_below left.1 in
          let ends = part_ends e c.args.path.now c.args.bytes.now from end s in
          let end_is = c.in_ok-end.ensures.found left.0 end (part_read left.0 c.loop-left.left.now rest from end c.after_whitespace-from.result.now c.in_default.len_below left.1 from_is) in
          span_of c.args.bytes.now from end _ _ ends.0 ends.1 (ap (λ (l : List ℕ). length c.args.bytes.now - length l) (from_is ∙ sym here.0)) (ap (λ (l : List ℕ). length c.args.bytes.now - length l) end_is);
      none = λ e end a is. absurd (lacks_nothing c.loop-left.left.now rest c.in_default.len_below open_list (c.loop-left.invariant.2 (inr (e, end, a, is))));
      within = (omega (arith, c.in_ok-end.ensures.within), omega arith);
    }

pub returns-in_err-end-clause-found : goal.returns-in_err-end-clause-found
returns-in_err-end-clause-found c e from end s =
    let left = c.loop-left.invariant.0 e from end s in
    absurd (c.in_err-end.ensures.found left.0 end (part_read left.0 c.loop-left.left.now c.loop-left.rest.now from end c.after_whitespace-from.result.now c.in_default.len_below left.1 c.after_whitespace-from.ensures.value))

pub loop-left-preserved : goal.loop-left-preserved
loop-left-preserved c =
    let is = first_index c.loop-left.left.now _ c.in-len1-up.len_at_least (take_rest c.loop-left.left.now 1) in
    let before : length c.loop-left.rest.now ≤ length c.args.bytes.now = c.loop-left.invariant.1 in
    let bound : length c.in_ok-rest.rest.now ≤ length c.args.bytes.now = omega (arith, before, c.in_ok-rest.ensures.within) in (
      λ e from end s.
          let part = c.loop-left.invariant.0 e from end s in
          c.in_ok-rest.ensures.found part.0 _ from end (subst (λ path. StandsAt part.0 path c.loop-left.rest.now from end) is part.1),
      bound,
      λ lacks. c.in_ok-rest.ensures.lacks _ (subst (λ path. Lacks path c.loop-left.rest.now) is (c.loop-left.invariant.2 lacks)),
    )
