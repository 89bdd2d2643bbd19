use Rattle.std.proofs.Common.{◌≡◌, ◌<◌, ◌≤◌, List, length, get_or, sym, ap, subst, arith}
use Rattle.std.proofs.lemmas.List.{take_all}
use Rattle.std.proofs.lemmas.List.Elements.{All-get_or}
use Rattle.ct_terms.specs.declared.ids.TermId.{TermId}
use Rattle.ct_terms.specs.declared.ids.Lit.{Lit}
use Rattle.ct_log.specs.declared.line.Line.{Line}
use Rattle.ct_log.specs.Acceptance.{clauses_of}
use Rattle.ct_sat.specs.State.{SearchState, AreOver}
use Rattle.ct_sat.specs.Learning.{StandAtSteps}
use Rattle.ct_engine.proofs.MoveLemmas.{clauses-line, numbered-line, fresh-line}
use Rattle.ct_engine.proofs.PrepareLemmas.{same_but_clauses}
use Rattle.ct_engine.proofs.initial.add_lines.Goals as goal

pub add_clause-requires-clause-over : goal.add_clause-requires-clause-over
add_clause-requires-clause-over c =
    let variables : c.loop-index.search.variables ≡ c.args.search.now.variables = ap (λ (s : SearchState). s.variables) c.loop-index.invariant.same in
    let within : c.loop-index.index < length c.args.lines.now = omega arith in
    let read = All-get_or (λ (l : Line). AreOver c.args.search.now.variables l.clause) c.args.lines.now c.loop-index.index c.index-lines-index.result within c.requires.over in
    subst (λ (ls : List Lit). AreOver c.loop-index.search.variables ls) (sym c.as_slice.ensures.value)
    (subst (λ (vs : List TermId). AreOver vs (get_or c.args.lines.now c.loop-index.index c.index-lines-index.result).clause) (sym variables) read)

pub add_clause-requires-clause-fresh : goal.add_clause-requires-clause-fresh
add_clause-requires-clause-fresh c =
    let within : c.loop-index.index < length c.args.lines.now = omega arith in
    fresh-line c.loop-index.search.clauses c.args.lines.now c.loop-index.index within c.loop-index.invariant.numbered

pub loop-index-preserved : goal.loop-index-preserved
loop-index-preserved c =
    let within : c.loop-index.index < length c.args.lines.now = omega arith in
    let added = rw c.as_slice.ensures.value at c.in_ok-add_clause.ensures.added in
    record {
      clauses = rw added (clauses-line c.loop-index.search.clauses c.args.lines.now c.loop-index.index c.index-lines-index.result within c.loop-index.invariant.clauses);
      numbered = rw added (numbered-line c.loop-index.search.clauses c.args.lines.now c.loop-index.index c.index-lines-index.result within c.loop-index.invariant.numbered);
      same = same_but_clauses c.args.search.now c.loop-index.search c.add_clause.new.self _ c.loop-index.invariant.same c.in_ok-add_clause.ensures.added;
    }

pub returns-clause-numbered : goal.returns-clause-numbered
returns-clause-numbered c =
    let past : length c.args.lines.now ≤ c.loop-index.index = omega arith in
    let whole = take_all c.loop-index.index c.args.lines.now past in
    subst (λ (ls : List Line). StandAtSteps c.loop-index.search.clauses (clauses_of ls)) whole c.loop-index.invariant.numbered
