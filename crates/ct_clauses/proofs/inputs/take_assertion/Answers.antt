use Rattle.std.proofs.Common.{◌≡◌, ◌<◌, List, true, false, [], ◌∷◌, ◌++◌, ◌∙◌, length, map, Some, slice_get, refl, sym, ap, subst, arith}
use Rattle.std.proofs.lemmas.List.{map_push}
use Rattle.std.proofs.lemmas.Option.{slice_get_read, slice_get_within}
use Rattle.ct_sorts.specs.Declarations.{bool_sort}
use Rattle.ct_terms.specs.declared.ids.TermId.{TermId}
use Rattle.ct_log.specs.declared.line.Step.TheVariants as step
use Rattle.ct_clauses.specs.Initial.{firsts}
use Rattle.ct_clauses.specs.Growth.{HaveGrown}
use Rattle.ct_clauses.proofs.GrowthLemmas.{grown_then}
use Rattle.ct_clauses.proofs.InputLemmas.{firsts_new, firsts_old, seen_new, unseen}
use Rattle.ct_clauses.proofs.inputs.take_assertion.Goals as goal

pub returns-then-index-clause-grown : goal.returns-then-index-clause-grown
returns-then-index-clause-grown c = λ d asserts earlier start inside seen grown.
    let marks = c.args.marks.now.items in
    let within : c.args.t.0 < length marks = omega (arith, slice_get_within c.args.table.now c.args.t.0 (c.requires.boolean.0, bool_sort) c.requires.boolean.1, c.requires.long) in
    let at : slice_get marks c.args.t.0 ≡ Some true = slice_get_read marks (length marks) c.args.t.0 c.index.result.now refl within c.index.ensures ∙ ap Some c.if-index.true in
    subst (λ (ts : List TermId). HaveGrown d c.args.table.now asserts start c.args.lines.now.items (map step.Input ts)) (sym (firsts_old earlier c.args.t ((seen c.args.t).0 at))) grown

pub returns-clause-seen : goal.returns-clause-seen
returns-clause-seen c = λ earlier seen.
    let marks = c.args.marks.now.items in
    let within : c.args.t.0 < length marks = omega (arith, slice_get_within c.args.table.now c.args.t.0 (c.requires.boolean.0, bool_sort) c.requires.boolean.1, c.requires.long) in
    seen_new marks earlier c.args.t within seen

pub returns-clause-grown : goal.returns-clause-grown
returns-clause-grown c = λ d asserts earlier start inside seen grown.
    let marks = c.args.marks.now.items in
    let within : c.args.t.0 < length marks = omega (arith, slice_get_within c.args.table.now c.args.t.0 (c.requires.boolean.0, bool_sort) c.requires.boolean.1, c.requires.long) in
    let at : slice_get marks c.args.t.0 ≡ Some false = slice_get_read marks (length marks) c.args.t.0 c.index.result.now refl within c.index.ensures ∙ ap Some c.if-index.false in
    let steps : map step.Input (firsts (earlier ++ c.args.t ∷ [])) ≡ map step.Input (firsts earlier) ++ step.Input c.args.t ∷ [] =
    ap (map step.Input) (firsts_new earlier c.args.t (unseen marks earlier c.args.t at seen)) ∙ map_push step.Input (firsts earlier) c.args.t in
    subst (HaveGrown d c.args.table.now asserts start c.push_input.new.lines.items) (sym steps)
    (grown_then d c.args.table.now asserts start c.args.lines.now.items c.push_input.new.lines.items (map step.Input (firsts earlier)) (step.Input c.args.t ∷ []) grown
    (c.in_ok-push_input.ensures.grown d asserts inside))
