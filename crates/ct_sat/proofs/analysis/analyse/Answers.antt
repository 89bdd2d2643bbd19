use Rattle.std.proofs.Common.{◌≡◌, ◌∙◌, List, [], ◌∷◌, ◌++◌, false, get_or, length, ap, rules}
use Rattle.std.proofs.lemmas.Option.{slice_get-get_or}
use Rattle.ct_terms.specs.declared.ids.Lit.{Lit}
use Rattle.ct_terms.specs.Literal.{opposite}
use Rattle.ct_sat.specs.declared.decided.Decided.{Decided}
use Rattle.ct_sat.proofs.ClauseLemmas.{false_at, listed_at, HasNoMark-new, first_fits, first_decision, analysed}
use Rattle.ct_sat.proofs.analysis.analyse.Goals as goal

abbrev default : Decided
default = record { literal = record { term = record { 0 = 0 }; positive = false }; index = 0 }

pub locate-requires-clause-conflict : goal.locate-requires-clause-conflict
locate-requires-clause-conflict c = false_at c.args.clauses.now c.args.trail.now.literals c.args.conflict c.index-clauses-conflict.result c.requires.conflict c.index-clauses-conflict.is

pub locate-requires-clause-unmarked : goal.locate-requires-clause-unmarked
locate-requires-clause-unmarked c = HasNoMark-new c.in_ok-marks.marks.items c.len.result 0 (length c.args.trail.now.literals) (c.in_ok-marks.ensures.items_if_clones_equal (search rules))

pub explain-requires-clause-fits : goal.explain-requires-clause-fits
explain-requires-clause-fits c = rw c.decided-2.ensures.value (first_fits c.args.trail.now.literals c.args.trail.now.reasons c.args.trail.now.decided default c.len.ensures.whole.decisions c.requires.decided)

pub explain-requires-clause-decisions : goal.explain-requires-clause-decisions
explain-requires-clause-decisions c = rw c.decided-2.ensures.value (first_decision c.args.trail.now.literals c.args.trail.now.reasons c.args.trail.now.decided default c.len.ensures.whole.decisions c.requires.decided)

pub returns : goal.returns
returns c =
    let lits_is : c.push.new.self.items ≡ opposite c.opposite.ensures.value.0 ∷ [] = c.in_ok-push.ensures.items ∙ ap (λ (ls : List Lit). ls ++ c.opposite.result ∷ []) c.new-lits.ensures.items ∙ ap (λ (k : Lit). [] ++ k ∷ []) c.opposite.ensures.value.2 in
    let collected = rw lits_is at c.in_ok-above.ensures.leads in
    let collects = rw lits_is at c.in_ok-above.ensures.collects in
    let before = rw c.decided.ensures.value at c.decisions_before-keep.ensures.before in
    let down = rw c.decided-2.ensures.value at c.in_ok-explain.ensures.down in
    record {
      analysed = rw c.in_ok-finish.ensures.hints
          (analysed c.args.clauses.now c.args.trail.now.literals c.args.trail.now.reasons c.args.trail.now.decided c.locate.new.marks.items c.collect.new.marks.items c.explain.new.marks.items c.locate.new.hints.items c.collect.new.hints.items c.explain.new.hints.items c.collect.new.lits.items c.index-clauses-conflict.result c.decisions_before-keep.result c.in_ok-start.start c.in_ok-start.unique c.in_ok-above.above c.opposite.ensures.value.0 (get_or c.args.trail.now.decided 0 default)
          c.len.ensures.whole.consistent c.len.ensures.whole.decisions
          (listed_at c.args.clauses.now c.args.trail.now.literals c.args.conflict c.index-clauses-conflict.result c.requires.conflict c.index-clauses-conflict.is) c.in_ok-start.ensures.located c.opposite.ensures.value.1 (slice_get-get_or c.args.trail.now.decided 0 default c.requires.decided) collected down c.in_ok-above.ensures.above collects before);
    }
