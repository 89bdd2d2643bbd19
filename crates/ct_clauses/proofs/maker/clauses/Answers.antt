use Rattle.std.proofs.Common.{◌≡◌, List, All, sym, ap, subst, ◌∙◌}
use Rattle.ct_terms.specs.declared.ids.TermId.{TermId}
use Rattle.ct_terms.specs.Terms.{Terms, IsBoolean, AreSingle}
use Rattle.ct_log.specs.Recorded.{Recorded}
use Rattle.ct_clauses.specs.Initial.{AreSplitTerms, initial_steps, steps_of}
use Rattle.ct_clauses.proofs.MakerLemmas.{made_initial}
use Rattle.ct_clauses.proofs.maker.clauses.Goals as goal

pub make_lines-requires-clause-booleans : goal.make_lines-requires-clause-booleans
make_lines-requires-clause-booleans c =
    let old = c.args.derivation.now in
    let table = c.table-table.result.now in
    let table_is : table ≡ old.rec.terms = c.table-table.ensures.value ∙ ap (λ (r : Recorded). r.terms) c.rec.ensures.value in
    subst (All (IsBoolean table)) (sym c.asserts.ensures.value) (subst (λ (ts : Terms). All (IsBoolean ts) old.asserts) (sym table_is) c.rec.ensures.derivation.judges.booleans)

pub make_lines-requires-clause-split : goal.make_lines-requires-clause-split
make_lines-requires-clause-split c =
    let old = c.args.derivation.now in
    let table = c.table-table.result.now in
    let table_is : table ≡ old.rec.terms = c.table-table.ensures.value ∙ ap (λ (r : Recorded). r.terms) c.rec.ensures.value in
    subst (AreSplitTerms c.args.sig.now table) (sym c.split.ensures.value) (subst (λ (ts : Terms). AreSplitTerms c.args.sig.now ts c.args.closure.now.split) (sym table_is) c.requires.split)

pub returns-clause-lines : goal.returns-clause-lines
returns-clause-lines c =
    let old = c.args.derivation.now in
    let table = c.table-table.result.now in
    let made = c.in_ok-lines.lines.items in
    let split = c.args.closure.now.split in
    let table_is : table ≡ old.rec.terms = c.table-table.ensures.value ∙ ap (λ (r : Recorded). r.terms) c.rec.ensures.value in
    let steps : steps_of made ≡ initial_steps old.rec.terms old.asserts split =
    c.in_ok-lines.ensures.steps
    ∙ ap (λ (ts : Terms). initial_steps ts c.asserts.result.now c.split.result.now) table_is
    ∙ ap (λ (ts : List TermId). initial_steps old.rec.terms ts c.split.result.now) c.asserts.ensures.value
    ∙ ap (λ (ts : List TermId). initial_steps old.rec.terms old.asserts ts) c.split.ensures.value in
    made_initial old c.add_lines.new.derivation made c.in_ok-add_lines.ensures.added c.args.sig.now split c.requires.signature c.requires.begun (subst AreSingle table_is c.len.ensures.single) c.requires.split c.requires.rising c.rec-rec.ensures.derivation steps
