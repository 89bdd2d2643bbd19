use Rattle.std.proofs.Common.{◌∙◌, List, [], ◌∷◌, ◌++◌, Option, ℕ, length, take, refl, sym, ap, arith}
use Rattle.std.proofs.lemmas.List.{append-nil, append_assoc, length_push, take_at}
use Rattle.ct_terms.specs.declared.ids.Lit.{Lit}
use Rattle.ct_sat.proofs.trail.cut.Goals as goal

pub loop-literals-init : goal.loop-literals-init
loop-literals-init c = record {
  indexed = c.requires.indexed;
  literals = ([], sym (append-nil c.args.literals.now.items));
  reasons = ([], sym (append-nil c.args.reasons.now.items));
  within = c.requires.within;
  room = refl;
  literals_capacity = refl;
  reasons_capacity = refl;
}

pub loop-literals-preserved : goal.loop-literals-preserved
loop-literals-preserved c =
    let i = c.loop-literals.invariant in
    let l = c.pop.ensures.literals in
    let r = c.pop.ensures.reasons in
    record {
      indexed = c.pop.ensures.indexed;
      literals = (l.0 ∷ i.literals.0, i.literals.1 ∙ ap (λ (xs : List Lit). xs ++ i.literals.0) l.1 ∙ append_assoc c.pop.new.literals.items (l.0 ∷ []) i.literals.0);
      reasons = (r.0 ∷ i.reasons.0, i.reasons.1 ∙ ap (λ (xs : List (Option ℕ)). xs ++ i.reasons.0) r.1 ∙ append_assoc c.pop.new.reasons.items (r.0 ∷ []) i.reasons.0);
      within = (let long = ap length l.1 ∙ length_push c.pop.new.literals.items l.0 in omega (arith, c.loop-literals.literals.ok.0));
      room = c.pop.ensures.room ∙ i.room;
      literals_capacity = c.pop.ensures.literals_capacity ∙ i.literals_capacity;
      reasons_capacity = c.pop.ensures.reasons_capacity ∙ i.reasons_capacity;
    }

pub returns-clause-literals : goal.returns-clause-literals
returns-clause-literals c =
    let i = c.loop-literals.invariant in
    let within = i.within in
    sym (ap (take c.args.index) i.literals.1 ∙ take_at c.loop-literals.literals.items i.literals.0 c.args.index (omega (arith, c.loop-literals.literals.ok.0)))

pub returns-clause-reasons : goal.returns-clause-reasons
returns-clause-reasons c =
    let i = c.loop-literals.invariant in
    let within = i.within in
    let one_each = i.indexed.one_each in
    sym (ap (take c.args.index) i.reasons.1 ∙ take_at c.loop-literals.reasons.items i.reasons.0 c.args.index (omega (arith, c.loop-literals.literals.ok.0)))
