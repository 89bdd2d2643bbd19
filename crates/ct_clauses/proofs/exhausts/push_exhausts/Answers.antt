use Rattle.std.proofs.Common.{◌≡◌, List, [], ◌∷◌, ◌++◌, ◌+◌, map, take, get_or, sym, subst}
use Rattle.std.proofs.lemmas.List.{map_more, take_all}
use Rattle.ct_terms.specs.declared.ids.TermId.{TermId}
use Rattle.ct_log.specs.declared.line.Step.TheVariants as step
use Rattle.ct_clauses.specs.Growth.{HaveGrown}
use Rattle.ct_clauses.proofs.GrowthLemmas.{grown_then}
use Rattle.ct_clauses.proofs.exhausts.push_exhausts.Goals as goal

pub loop-t-preserved : goal.loop-t-preserved
loop-t-preserved c = λ asserts.
    let d = c.args.sig.now in
    let table = c.args.table.now in
    let split = c.args.split.now in
    let i = c.loop-t.t-index in
    let t : TermId = get_or split i (record { 0 = 0 }) in
    let steps : map step.Exhaust (take (i + 1) split) ≡ map step.Exhaust (take i split) ++ step.Exhaust t ∷ [] = map_more step.Exhaust split i (record { 0 = 0 }) c.loop-t-test.true in
    subst (HaveGrown d table asserts c.args.lines.now.items c.push_exhaust.new.lines.items) (sym steps)
    (grown_then d table asserts c.args.lines.now.items c.loop-t.lines.items c.push_exhaust.new.lines.items (map step.Exhaust (take i split)) (step.Exhaust t ∷ [])
    (c.loop-t.invariant asserts) (c.in_ok-push_exhaust.ensures.grown asserts))

pub returns-clause-grown : goal.returns-clause-grown
returns-clause-grown c = λ asserts.
    subst (λ (ts : List TermId). HaveGrown c.args.sig.now c.args.table.now asserts c.args.lines.now.items c.loop-t.lines.items (map step.Exhaust ts))
    (take_all c.loop-t.t-index c.args.split.now c.loop-t-test.false) (c.loop-t.invariant asserts)
