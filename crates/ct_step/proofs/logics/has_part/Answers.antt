use Rattle.std.proofs.Common.{◌∙◌, ℕ, List, ◌++◌, length, Option, None, option_map, true≢false, refl, sym, ap, subst}
use Rattle.std.specs.Borrow.{Bor}
use Rattle.std.proofs.lemmas.List.{take_rest}
use Rattle.std.proofs.lemmas.Slice.Eq.{bytes_eq-Decides}
use Rattle.ct_step.proofs.LogicLemmas.{IsOnly, among_here, among_others, among_none}
use Rattle.ct_step.proofs.logics.has_part.Goals as goal

pub returns-then-eq : goal.returns-then-eq
returns-then-eq c =
    let left = c.loop-part.left.now in
    let part = c.in-Some.part.now in
    let wanted = c.args.wanted.now in
    let is = c.in-Some.ensures.begins in
    let same = (bytes_eq-Decides part wanted).0 (sym c.eq.ensures ∙ c.if-eq.true) in
    record {
      has = λ parts known spelled. (
        λ yes. among_here wanted c.args.name.now left part _ c.in-Some.ensures.within.0 is c.in-Some.ensures.only c.loop-part.invariant same parts known spelled,
        λ listed. refl,
      );
    }

pub loop-part-preserved : goal.loop-part-preserved
loop-part-preserved c =
    let left = c.loop-part.left.now in
    let part = c.in-Some.part.now in
    let wanted = c.args.wanted.now in
    let is = c.in-Some.ensures.begins ∙ ap (λ (bytes : List ℕ). part ++ bytes) (sym (take_rest left (length part))) in
    among_others wanted c.args.name.now left part _ c.in-Some.ensures.within.0 is c.in-Some.ensures.only c.loop-part.invariant (λ same. true≢false (sym ((bytes_eq-Decides part wanted).1 same) ∙ sym c.eq.ensures ∙ c.if-eq.false))

pub returns : goal.returns
returns c =
    let left = c.loop-part.left.now in
    let only : IsOnly left None = subst (λ (o : Option (Bor (List ℕ))). IsOnly left (option_map (λ (b : Bor (List ℕ)). b.now) o)) c.in_default.is c.first_part.ensures.only in
    record {
      has = λ parts known spelled. (
        λ no. absurd (true≢false (sym no)),
        λ listed. absurd (among_none c.args.wanted.now c.args.name.now left only c.loop-part.invariant parts known spelled listed),
      );
    }
