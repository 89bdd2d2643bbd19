use Rattle.std.proofs.Common.{◌≡◌, [], ◌∷◌, ◌++◌}
use Rattle.ct_log.specs.declared.line.Line.{Line}
use Rattle.ct_clauses.proofs.GrowthLemmas.{grown_push}
use Rattle.ct_clauses.proofs.growth.push_line.Goals as goal

pub returns-clause-grown : goal.returns-clause-grown
returns-clause-grown c = λ d terms asserts ok.
    let line : Line = record { clause = c.args.clause.items; step = c.args.step } in
    let is : c.push.new.self.items ≡ c.args.lines.now.items ++ line ∷ [] = cc (c.in_ok-push.ensures.items, c.new.ensures.value) in
    grown_push d terms asserts c.args.lines.now.items c.push.new.self.items line is ok
