use Rattle.std.proofs.Common.{◌∙◌, ℕ, ◌==◌, List, ◌++◌, length, Option, None, option_map, true≢false, sym, ap, subst}
use Rattle.std.specs.Borrow.{Bor}
use Rattle.std.proofs.lemmas.Bool.{eqb-true}
use Rattle.std.proofs.lemmas.List.{nil_from_length, take_rest}
use Rattle.ct_step.proofs.LogicLemmas.{IsOnly, split_alike, not_split, split_alone, no_bytes_split}
use Rattle.ct_step.proofs.logics.is_split.Goals as goal

pub returns-then-has_part : goal.returns-then-has_part
returns-then-has_part c =
    let left = c.loop-part.left.now in
    let part = c.in-Some.part.now in
    let is = c.in-Some.ensures.begins ∙ ap (λ (bytes : List ℕ). part ++ bytes) (sym (take_rest left (length part))) in
    let has = c.has_part.ensures.has in
    record {
      split = (
        λ no. absurd (true≢false (sym no)),
        λ h. absurd (not_split left part _ c.in-Some.ensures.within.0 is c.in-Some.ensures.only (λ parts known spelled. (has parts known spelled).0 c.if-has_part.true) (c.loop-part.invariant.0 h)),
      );
    }

pub loop-part-preserved : goal.loop-part-preserved
loop-part-preserved c =
    let left = c.loop-part.left.now in
    let part = c.in-Some.part.now in
    let is = c.in-Some.ensures.begins ∙ ap (λ (bytes : List ℕ). part ++ bytes) (sym (take_rest left (length part))) in
    let has = c.has_part.ensures.has in
    let alike = split_alike left part _ c.in-Some.ensures.within.0 is c.in-Some.ensures.only c.in-Some.ensures.part (λ parts known spelled listed. absurd (true≢false (sym ((has parts known spelled).1 listed) ∙ c.if-has_part.false))) in
    (λ h. alike.0 (c.loop-part.invariant.0 h), λ h. c.loop-part.invariant.1 (alike.1 h))

pub returns : goal.returns
returns c =
    let left = c.loop-part.left.now in
    let only : IsOnly left None = subst (λ (o : Option (Bor (List ℕ))). IsOnly left (option_map (λ (b : Bor (List ℕ)). b.now) o)) c.in_default.is c.first_part.ensures.only in
    record {
      split = (
        λ empty. c.loop-part.invariant.1 (no_bytes_split left (nil_from_length left (eqb-true (length left) 0 (sym c.is_empty.ensures ∙ empty)))),
        λ h. c.is_empty.ensures ∙ ap (λ (bytes : List ℕ). length bytes == 0) (split_alone left only (c.loop-part.invariant.0 h)),
      );
    }
