use Rattle.std.proofs.Common.{◌≡◌, ℕ, List, [], ◌∷◌, ◌++◌, ◌+◌, length, map, get_or, refl, sym, subst, arith}
use Rattle.std.specs.List.{range_with_len}
use Rattle.std.proofs.lemmas.List.FromFn.{map-range_with_len_more}
use Rattle.std.proofs.lemmas.Option.{slice_get-get_or}
use Rattle.ct_terms.specs.declared.ids.TermId.{TermId}
use Rattle.ct_terms.specs.declared.ids.Lit.{Lit}
use Rattle.ct_terms.specs.Literal.{opposite, literal_of, IsStripped}
use Rattle.ct_log.specs.declared.rules.Gate.TheVariants.{OrPos, OrNeg}
use Rattle.ct_log.specs.declared.line.Step.{Step}
use Rattle.ct_log.specs.declared.line.Step.TheVariants as step
use Rattle.ct_log.specs.Gates.{positive}
use Rattle.ct_clauses.specs.Initial.{whole}
use Rattle.ct_clauses.specs.Growth.{HaveGates}
use Rattle.ct_clauses.proofs.GateLemmas.{Or-stripped, Or-booleans, lit_stripped, line_two}
use Rattle.ct_clauses.proofs.GrowthLemmas.{gates_then}
use Rattle.ct_clauses.proofs.gates.push_disjunction.Goals as goal

pub with_arguments-requires-clause-booleans : goal.with_arguments-requires-clause-booleans
with_arguments-requires-clause-booleans c = Or-booleans c.args.table.now c.args.t.0 c.args.args.now c.requires.sorted c.requires.stands

pub with_arguments-requires-clause-stripped : goal.with_arguments-requires-clause-stripped
with_arguments-requires-clause-stripped c =
    subst (λ (l : Lit). IsStripped c.args.table.now l.term) (sym c.negative.ensures.value) (Or-stripped c.args.table.now c.args.t c.args.args.now c.requires.sorted c.requires.stands)

pub lit-requires : goal.lit-requires
lit-requires c = record { boolean = Or-booleans c.args.table.now c.args.t.0 c.args.args.now c.requires.sorted c.requires.stands c.loop-place.place (record { 0 = 0 }) c.loop-place-test.true }

pub push_gate-requires-in-loop-place : goal.push_gate-requires-in-loop-place
push_gate-requires-in-loop-place c =
    let table = c.args.table.now in
    let args = c.args.args.now in
    let a : TermId = get_or args c.loop-place.place (record { 0 = 0 }) in
    let is : c.in_ok-clause-2.clause.items ≡ positive c.args.t ∷ (opposite (literal_of table a) ∷ []) = cc (c.in_ok-clause-2.ensures.items, c.positive.ensures.value, c.opposite.ensures.value, c.lit.ensures.value) in
    record {
      gate = line_two table OrNeg c.args.t c.loop-place.place c.in_ok-clause-2.clause.items (positive c.args.t) (opposite (literal_of table a)) is
          (Or-stripped table c.args.t args c.requires.sorted c.requires.stands) (lit_stripped table a c.lit.result c.lit.ensures.value c.lit.ensures.stripped)
          (args, a, c.requires.stands, slice_get-get_or args c.loop-place.place (record { 0 = 0 }) c.loop-place-test.true, refl);
    }

pub loop-place-preserved : goal.loop-place-preserved
loop-place-preserved c =
    let table = c.args.table.now in
    let old = c.args.lines.now.items in
    let place = c.loop-place.place in
    let new = c.push_gate-in-loop-place.new.lines.items in
    let f : ℕ → Step = λ k. step.Gate OrNeg c.args.t k in
    let steps : map f (range_with_len 0 (place + 1)) ≡ map f (range_with_len 0 place) ++ f place ∷ [] = map-range_with_len_more f 0 place place (omega arith) in
    subst (λ (ss : List Step). HaveGates table old new (whole OrPos c.args.t ∷ ss)) (sym steps)
    (gates_then table old c.loop-place.lines.items new (whole OrPos c.args.t ∷ map f (range_with_len 0 place)) (f place ∷ []) c.loop-place.invariant c.in_ok-push_gate-2.ensures.grown)

pub returns-clause-grown : goal.returns-clause-grown
returns-clause-grown c =
    let f : ℕ → Step = λ k. step.Gate OrNeg c.args.t k in
    let end : c.loop-place.place ≡ length c.args.args.now = omega (arith, c.loop-place-test.false, c.loop-place.auto.place-end) in
    subst (λ (n : ℕ). HaveGates c.args.table.now c.args.lines.now.items c.loop-place.lines.items (whole OrPos c.args.t ∷ map f (range_with_len 0 n))) end c.loop-place.invariant
