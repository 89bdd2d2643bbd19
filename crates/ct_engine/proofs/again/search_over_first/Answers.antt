use Rattle.std.proofs.Common.{◌≡◌, All, List, take, sym, ap, subst, ◌∙◌}
use Rattle.std.proofs.lemmas.List.Elements.{All-take}
use Rattle.ct_terms.specs.Terms.{Terms}
use Rattle.ct_log.specs.declared.line.Line.{Line}
use Rattle.ct_log.specs.Recorded.{Recorded}
use Rattle.ct_sat.specs.State.{AreVariables, AreOver}
use Rattle.ct_engine.specs.Progress.{beginning_of}
use Rattle.ct_engine.proofs.PrepareLemmas.{lines_over, IsSearchOver-from}
use Rattle.ct_engine.proofs.again.search_over_first.Goals as goal

pub add_lines-requires-clause-over : goal.add_lines-requires-clause-over
add_lines-requires-clause-over c =
    let derived = c.args.derivation.now in
    let variables = c.in_ok-search.search.variables in
    let table_is : c.table.result.now ≡ derived.rec.terms = c.table.ensures.value ∙ ap (λ (r : Recorded). r.terms) c.rec-rec.ensures.value in
    let lines_are : c.first_lines.result.now ≡ take c.args.count derived.rec.lines = c.first_lines.ensures.value ∙ ap (λ (ls : List Line). take c.args.count ls) (c.lines.ensures.value ∙ ap (λ (r : Recorded). r.lines) c.rec-rec.ensures.value) in
    let are : AreVariables derived.rec.terms variables = subst (λ (ts : Terms). AreVariables ts variables) table_is c.in_ok-search.ensures.variables in
    subst (λ (ls : List Line). All (λ (line : Line). AreOver variables line.clause) ls) (sym lines_are)
    (All-take (λ (line : Line). AreOver variables line.clause) c.args.count derived.rec.lines
    (lines_over derived.declarations derived.rec.terms derived.asserts derived.rec.lines variables are c.rec-rec.ensures.derivation.accepted))

pub returns-clause-search : goal.returns-clause-search
returns-clause-search c =
    let derived = c.args.derivation.now in
    let table_is : c.table.result.now ≡ derived.rec.terms = c.table.ensures.value ∙ ap (λ (r : Recorded). r.terms) c.rec-rec.ensures.value in
    let lines_are : c.first_lines.result.now ≡ take c.args.count derived.rec.lines = c.first_lines.ensures.value ∙ ap (λ (ls : List Line). take c.args.count ls) (c.lines.ensures.value ∙ ap (λ (r : Recorded). r.lines) c.rec-rec.ensures.value) in
    let same = c.in_ok-add_lines.ensures.same in
    IsSearchOver-from (beginning_of derived c.args.count) c.args.budget c.in_ok-search.search c.add_lines.new.search c.table.result.now c.first_lines.result.now table_is lines_are c.in_ok-search.ensures.begun c.in_ok-search.ensures.variables c.in_ok-add_lines.ensures.clauses c.in_ok-add_lines.ensures.numbered same
