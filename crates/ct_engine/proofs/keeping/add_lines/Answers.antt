use Rattle.std.proofs.Common.{rules, ◌≡◌, ◌+◌, List, [], ◌∷◌, ◌++◌, length, sym, ap, ◌∙◌, length-append, append_assoc}
use Rattle.std.specs.Vec.Iter.{into_iter_items}
use Rattle.std.proofs.lemmas.List.{append-nil, length_push}
use Rattle.ct_terms.specs.Clause.{Clause}
use Rattle.ct_log.specs.declared.line.Line.{Line}
use Rattle.ct_log.specs.Acceptance.{IsAccepted, clauses_of}
use Rattle.ct_engine.specs.declared.verdict.Move.{Move}
use Rattle.ct_engine.specs.Moves.{IsTaught}
use Rattle.ct_engine.specs.Keeping.{adds_after}
use Rattle.ct_engine.proofs.TaskLemmas.{IsOfOneTask-itself, IsOfOneTask-then}
use Rattle.ct_engine.proofs.KeepingLemmas.{each_middle, accepted_same, adds_next}
use Rattle.ct_engine.proofs.keeping.add_lines.Goals as goal

pub add_taught-requires-clause-taught : goal.add_taught-requires-clause-taught
add_taught-requires-clause-taught c =
    let at = c.lines in
    let line = c.in-Some.line in
    let left = into_iter_items c.next.new.self in
    let rest : into_iter_items at.line-iterator ≡ line ∷ left = c.in-Some.ensures.steps.0 in
    let whole : at.yielded ++ line ∷ left ≡ c.args.lines.items = ap (λ (ls : List Line). at.yielded ++ ls) (sym rest) ∙ at.invariant.yielded in
    each_middle (λ (l : Line). IsTaught l.step) at.yielded line left c.args.lines.items whole c.requires.taught

pub add_taught-requires-clause-accepted : goal.add_taught-requires-clause-accepted
add_taught-requires-clause-accepted c =
    let at = c.lines in
    let line = c.in-Some.line in
    let left = into_iter_items c.next.new.self in
    let old = c.args.course.now in
    let rest : into_iter_items at.line-iterator ≡ line ∷ left = c.in-Some.ensures.steps.0 in
    let whole : at.yielded ++ line ∷ left ≡ c.args.lines.items = ap (λ (ls : List Line). at.yielded ++ ls) (sym rest) ∙ at.invariant.yielded in
    accepted_same old at.course line at.invariant.same
    (each_middle (λ (l : Line). (earlier : List Clause) → IsAccepted old.derivation.declarations old.derivation.rec.terms old.derivation.asserts earlier l) at.yielded line left c.args.lines.items whole c.requires.accepted)
    (clauses_of at.course.derivation.rec.lines)

pub lines-preserved : goal.lines-preserved
lines-preserved c =
    let at = c.lines in
    let line = c.in-Some.line in
    let left = into_iter_items c.next.new.self in
    let old = c.args.course.now in
    let old_lines = old.derivation.rec.lines in
    let rest : into_iter_items at.line-iterator ≡ line ∷ left = c.in-Some.ensures.steps.0 in
    let whole : at.yielded ++ line ∷ left ≡ c.args.lines.items = ap (λ (ls : List Line). at.yielded ++ ls) (sym rest) ∙ at.invariant.yielded in
    let added = c.in_ok-add_taught.ensures in
    let count : length at.course.derivation.rec.lines ≡ length old_lines + length at.yielded =
    ap (λ (ls : List Line). length ls) at.invariant.added ∙ length-append old_lines at.yielded in
    record {
      under_way = added.under_way;
      same = IsOfOneTask-then old at.course c.add_taught.new.course at.invariant.same added.same;
      start = added.start;
      yielded = append_assoc at.yielded (line ∷ []) left ∙ whole;
      counted = search rules;
      added = added.line ∙ (ap (λ (ls : List Line). ls ++ line ∷ []) at.invariant.added ∙ append_assoc old_lines at.yielded (line ∷ []));
      moves =
          adds_next old.moves.items at.course.moves.items c.add_taught.new.course.moves.items (length old_lines) (length at.yielded) (length at.course.derivation.rec.lines)
          at.invariant.moves (added.added (at.invariant.same.recorded ∙ c.requires.recorded)) count
          ∙ ap (λ n. old.moves.items ++ adds_after (length old_lines) n) (sym (length_push at.yielded line));
    }
