use Rattle.std.proofs.Common.{◌≡◌, ◌∙◌, true, false, refl, sym, inl}
use Rattle.ct_step.specs.Done.{is_of_assumptions}
use Rattle.ct_step.proofs.PrintLemmas.{assumptions_done, not_of_assumptions}
use Rattle.ct_step.proofs.cores.unsat_assumptions.Goals as goal

pub returns-then-not-is_of_assumptions : goal.returns-then-not-is_of_assumptions
returns-then-not-is_of_assumptions c =
    let old = c.args.state.now in
    let other : is_of_assumptions old.kept ≡ false = sym c.is_of_assumptions.ensures.value ∙ c.if-not-is_of_assumptions.true in
    record { done = λ number. (inl (refl, not_of_assumptions old.last old.kept other), record { stack = refl; labels = refl; options = refl; diagnostic_output = refl; responses = refl; last = refl; shrunk = refl; kept = refl }); cache = c.requires.cache }

pub returns : goal.returns
returns c =
    let old = c.args.state.now in
    let own : is_of_assumptions old.kept ≡ true = sym c.is_of_assumptions.ensures.value ∙ c.if-not-is_of_assumptions.false in
    record { done = λ number. assumptions_done old c.core_answer.new.state number c.core_answer.result own c.core_answer.ensures.printed; cache = c.core_answer.ensures.cache }
