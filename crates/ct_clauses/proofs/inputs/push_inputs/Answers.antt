use Rattle.std.proofs.Common.{◌≡◌, List, false, [], ◌∷◌, ◌++◌, ◌∙◌, ◌+◌, length, map, take, replicate, get_or, sym, ap, subst}
use Rattle.std.proofs.lemmas.List.{take_more, take_all, length-replicate}
use Rattle.std.proofs.lemmas.List.Elements.{Contains-get_or}
use Rattle.ct_terms.specs.declared.ids.TermId.{TermId}
use Rattle.ct_log.specs.declared.line.Step.TheVariants as step
use Rattle.ct_clauses.specs.Initial.{firsts}
use Rattle.ct_clauses.specs.Growth.{HaveGrown, AreSeen}
use Rattle.ct_clauses.proofs.GrowthLemmas.{grown_none}
use Rattle.ct_clauses.proofs.InputLemmas.{seen_start}
use Rattle.ct_clauses.proofs.inputs.push_inputs.Goals as goal

pub loop-t-init : goal.loop-t-init
loop-t-init c =
    let marks = c.in_ok-marks.marks.items in
    let n = c.len.result in
    let is : marks ≡ replicate n false = c.in_ok-marks.ensures.items_if_clones_equal (λ y e. e) in
    record {
      long = ap length is ∙ length-replicate n false ∙ c.len.ensures.count;
      seen = seen_start marks n is;
      grown = λ d. grown_none d c.args.table.now c.args.asserts.now c.args.lines.now.items;
    }

pub loop-t-preserved : goal.loop-t-preserved
loop-t-preserved c =
    let asserts = c.args.asserts.now in
    let i = c.loop-t.t-index in
    let t : TermId = get_or asserts i (record { 0 = 0 }) in
    let more : take (i + 1) asserts ≡ take i asserts ++ t ∷ [] = take_more asserts i (record { 0 = 0 }) c.loop-t-test.true in
    record {
      long = c.take_assertion.ensures.long;
      seen = subst (AreSeen c.take_assertion.new.marks.items) (sym more) (c.in_ok-take_assertion.ensures.seen (take i asserts) c.loop-t.invariant.seen);
      grown = λ d.
          subst (λ (ts : List TermId). HaveGrown d c.args.table.now asserts c.args.lines.now.items c.take_assertion.new.lines.items (map step.Input (firsts ts))) (sym more)
          (c.in_ok-take_assertion.ensures.grown d asserts (take i asserts) c.args.lines.now.items (Contains-get_or asserts i (record { 0 = 0 }) c.loop-t-test.true) c.loop-t.invariant.seen (c.loop-t.invariant.grown d));
    }

pub returns-clause-grown : goal.returns-clause-grown
returns-clause-grown c = λ d.
    let asserts = c.args.asserts.now in
    subst (λ (ts : List TermId). HaveGrown d c.args.table.now asserts c.args.lines.now.items c.loop-t.lines.items (map step.Input (firsts ts)))
    (take_all c.loop-t.t-index asserts c.loop-t-test.false) (c.loop-t.invariant.grown d)
