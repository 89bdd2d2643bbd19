use Rattle.std.proofs.Common.{List, [], ◌++◌, ◌∙◌, map, get_or, sym, ap, subst}
use Rattle.std.proofs.lemmas.List.Elements.{All-nil, Contains-get_or}
use Rattle.ct_log.specs.declared.line.Line.{Line}
use Rattle.ct_log.specs.declared.line.Step.TheVariants as step
use Rattle.ct_log.specs.Acceptance.{IsAccepted}
use Rattle.ct_clauses.specs.Initial.{firsts, all_gates, initial_steps, steps_of}
use Rattle.ct_clauses.specs.Growth.{AreAlwaysAccepted}
use Rattle.ct_clauses.proofs.GrowthLemmas.{grown_in_turn}
use Rattle.ct_clauses.proofs.maker.make_lines.Goals as goal

pub push_exhausts-requires-clause-split : goal.push_exhausts-requires-clause-split
push_exhausts-requires-clause-split c = λ k e within. (c.requires.split (get_or c.args.split.now k e)).0 (Contains-get_or c.args.split.now k e within)

pub returns-clause-steps : goal.returns-clause-steps
returns-clause-steps c =
    let d = c.args.sig.now in
    let table = c.args.table.now in
    let asserts = c.args.asserts.now in
    let split = c.args.split.now in
    let grown = grown_in_turn d table asserts c.new-lines.result.items c.push_inputs.new.lines.items c.push_gates.new.lines.items c.push_exhausts.new.lines.items (map step.Input (firsts asserts)) (all_gates table) (map step.Exhaust split)
    (c.in_ok-push_inputs.ensures.grown d) (c.in_ok-push_gates.ensures.grown d asserts) (c.in_ok-push_exhausts.ensures.grown asserts) in
    grown.added ∙ ap (λ (ls : List Line). steps_of ls ++ initial_steps table asserts split) c.new-lines.ensures.items

pub returns-clause-accepted : goal.returns-clause-accepted
returns-clause-accepted c =
    let d = c.args.sig.now in
    let table = c.args.table.now in
    let asserts = c.args.asserts.now in
    let grown = grown_in_turn d table asserts c.new-lines.result.items c.push_inputs.new.lines.items c.push_gates.new.lines.items c.push_exhausts.new.lines.items (map step.Input (firsts asserts)) (all_gates table) (map step.Exhaust c.args.split.now)
    (c.in_ok-push_inputs.ensures.grown d) (c.in_ok-push_gates.ensures.grown d asserts) (c.in_ok-push_exhausts.ensures.grown asserts) in
    grown.accepted (subst (AreAlwaysAccepted d table asserts) (sym c.new-lines.ensures.items) (All-nil (IsAccepted d table asserts [])))
