use Rattle.std.proofs.Common.{List, length, ap, subst, arith}
use Rattle.std.specs.List.{Contains}
use Rattle.ct_log.specs.declared.rules.EqStep.{EqStep}
use Rattle.ct_log.specs.declared.rules.EqStep.TheVariants.{Hyp}
use Rattle.ct_log.specs.Closing.{Closes}
use Rattle.ct_theory.specs.Steps.{IsClauseOf}
use Rattle.ct_theory.proofs.StepLemmas.{named_inside, IsConflictOf-adds}
use Rattle.ct_theory.proofs.conflict.conflict_of.Goals as goal

pub clause_of-requires : goal.clause_of-requires
clause_of-requires c =
    let state = c.args.classes.now in
    record {
      inside = λ l h.
          let inside = named_inside state c.args.proof.steps.items (λ given. Closes state.declarations state.terms given c.args.close) c.requires.adds c.requires.stripped l (subst (λ (s : List EqStep). Contains s (Hyp l)) c.deref.ensures.value h) in
          omega (arith, inside, c.len.ensures.count, ap length c.table.ensures.value);
    }

pub returns : goal.returns
returns c =
    let steps = c.args.proof.steps.items in
    let clause = c.in_ok-clause.clause.items in
    let is : IsClauseOf steps clause = subst (λ (s : List EqStep). IsClauseOf s clause) c.deref.ensures.value c.in_ok-clause.ensures.clause in
    record { conflict = rw (c.new.ensures.value, c.new-2.ensures.value) (IsConflictOf-adds c.args.classes.now steps c.args.close clause c.requires.adds is) }
