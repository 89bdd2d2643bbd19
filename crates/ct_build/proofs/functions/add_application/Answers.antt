use Rattle.std.proofs.Common.{◌≡◌, List, map, get_or, slice_get, Some, refl, sym, ◌∙◌, ap, subst, arith}
use Rattle.std.proofs.lemmas.Option.{slice_get-get_or, slice_get_within}
use Rattle.ct_values.specs.declared.node.NodeId.{NodeId}
use Rattle.ct_terms.specs.declared.term.Core.TheVariants.{Apply}
use Rattle.ct_terms.specs.Terms.{Applies, Has}
use Rattle.ct_eval.specs.Interpretation.{FitsRow}
use Rattle.ct_eval.specs.EvaluationStep.{node_under}
use Rattle.ct_build.proofs.TableLemmas.{at_ok, functions_more, application_fits}
use Rattle.ct_build.proofs.RowLemmas.{function_rows_skip, function_rows_more}
use Rattle.ct_build.proofs.functions.add_application.Goals as goal

pub add_first-requires : goal.add_first-requires
add_first-requires c =
    let stands : Has c.args.table.now (Apply c.in-Apply.f c.in-Apply.args) c.args.t.0 = rw (← c.in-Apply.is) c.core.ensures.value in
    let applies : Applies c.args.sig.now c.args.table.now c.in-Apply.f.0 c.in-Apply.args stands.0 = c.requires.sorted c.args.t.0 (Apply c.in-Apply.f c.in-Apply.args) stands.0 stands.1 in
    record { within = omega (arith, c.requires.one_each, slice_get_within c.args.sig.now.functions c.in-Apply.f.0 applies.function applies.declared); seen = c.requires.seen }

pub returns-in_ok-args-in-Apply-clause-functions : goal.returns-in_ok-args-in-Apply-clause-functions
returns-in_ok-args-in-Apply-clause-functions c =
    let d = c.args.sig.now in
    let terms = c.args.table.now in
    let nodes = c.args.nodes.now in
    let f = c.in-Apply.f in
    let n = get_or nodes c.args.t.0 (record { 0 = 0 }) in
    let stands : Has terms (Apply f c.in-Apply.args) c.args.t.0 = rw (← c.in-Apply.is) c.core.ensures.value in
    let at : slice_get nodes c.args.t.0 ≡ Some n = slice_get-get_or nodes c.args.t.0 (record { 0 = 0 }) (omega (arith, c.requires.long, c.requires.inside)) in
    let is : c.new.result ≡ map (node_under nodes) c.in-Apply.args = c.new.ensures.value ∙ c.in_ok-args-in-Apply.ensures.value ∙ ap (map (node_under nodes)) c.as_slice.ensures.value in
    at_ok c.add_first.result c.add_first.ensures.added (λ adds g have old.
    functions_more d g c.args.tables.now.items c.add_first.new.tables.items f.0 (record { args = c.new.result; result = n }) old adds (λ function declared.
    subst (λ (l : List NodeId). FitsRow d g function.args function.result (record { args = l; result = n })) (sym is)
    (application_fits d g terms nodes c.requires.sorted have c.args.t f c.in-Apply.args stands.0 n stands.1 at function declared)))

pub returns-in_ok-args-in-Apply-clause-rows : goal.returns-in_ok-args-in-Apply-clause-rows
returns-in_ok-args-in-Apply-clause-rows c =
    let terms = c.args.table.now in
    let nodes = c.args.nodes.now in
    let f = c.in-Apply.f in
    let n = get_or nodes c.args.t.0 (record { 0 = 0 }) in
    let stands : Has terms (Apply f c.in-Apply.args) c.args.t.0 = rw (← c.in-Apply.is) c.core.ensures.value in
    let is : c.new.result ≡ map (node_under nodes) c.in-Apply.args = c.new.ensures.value ∙ c.in_ok-args-in-Apply.ensures.value ∙ ap (map (node_under nodes)) c.as_slice.ensures.value in
    at_ok c.add_first.result c.add_first.ensures.added (λ adds before. function_rows_more terms nodes c.args.t f c.in-Apply.args (record { args = c.new.result; result = n }) c.args.tables.now.items c.add_first.new.tables.items stands is refl adds before)

pub returns-in_default : goal.returns-in_default
returns-in_default c = record {
  one_each = c.requires.one_each;
  functions = λ g have old. old;
  seen = c.requires.seen;
  rows = λ before. function_rows_skip c.args.table.now c.args.nodes.now c.args.t c.core.result.now c.args.tables.now.items c.core.ensures.value c.in_default.not-Apply before;
}
