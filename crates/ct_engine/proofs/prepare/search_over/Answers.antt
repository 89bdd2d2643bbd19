use Rattle.std.proofs.Common.{◌≡◌, All, List, sym, ap, subst, ◌∙◌}
use Rattle.ct_terms.specs.Terms.{Terms}
use Rattle.ct_log.specs.declared.line.Line.{Line}
use Rattle.ct_log.specs.Recorded.{Recorded}
use Rattle.ct_sat.specs.State.{AreVariables, AreOver}
use Rattle.ct_engine.proofs.PrepareLemmas.{lines_over, IsSearchOver-from}
use Rattle.ct_engine.proofs.prepare.search_over.Goals as goal

pub add_lines-requires-clause-over : goal.add_lines-requires-clause-over
add_lines-requires-clause-over c =
    let derived = c.args.derivation.now in
    let variables = c.in_ok-search.search.variables in
    let table_is : c.table.result.now ≡ derived.rec.terms = c.table.ensures.value ∙ ap (λ (r : Recorded). r.terms) c.rec-rec.ensures.value in
    let lines_are : c.lines.result.now ≡ derived.rec.lines = c.lines.ensures.value ∙ ap (λ (r : Recorded). r.lines) c.rec-rec.ensures.value in
    let are : AreVariables derived.rec.terms variables = subst (λ (ts : Terms). AreVariables ts variables) table_is c.in_ok-search.ensures.variables in
    subst (λ (ls : List Line). All (λ (line : Line). AreOver variables line.clause) ls) (sym lines_are)
    (lines_over derived.declarations derived.rec.terms derived.asserts derived.rec.lines variables are c.rec-rec.ensures.derivation.accepted)

pub returns-clause-search : goal.returns-clause-search
returns-clause-search c =
    let derived = c.args.derivation.now in
    let table_is : c.table.result.now ≡ derived.rec.terms = c.table.ensures.value ∙ ap (λ (r : Recorded). r.terms) c.rec-rec.ensures.value in
    let lines_are : c.lines.result.now ≡ derived.rec.lines = c.lines.ensures.value ∙ ap (λ (r : Recorded). r.lines) c.rec-rec.ensures.value in
    let same = c.in_ok-add_lines.ensures.same in
    IsSearchOver-from derived c.args.budget c.in_ok-search.search c.add_lines.new.search c.table.result.now c.lines.result.now table_is lines_are c.in_ok-search.ensures.begun c.in_ok-search.ensures.variables c.in_ok-add_lines.ensures.clauses c.in_ok-add_lines.ensures.numbered same
