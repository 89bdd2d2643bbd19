use Rattle.std.proofs.Common.{◌≡◌, ℕ, List, [], ◌∷◌, ◌++◌, ◌+◌, ◌∙◌, false, length, map, get_or, refl, sym, ap, subst, arith}
use Rattle.std.specs.List.{range_with_len}
use Rattle.std.proofs.lemmas.List.FromFn.{map-range_with_len_more}
use Rattle.std.proofs.lemmas.Option.{slice_get-get_or}
use Rattle.ct_terms.specs.declared.ids.TermId.{TermId}
use Rattle.ct_terms.specs.declared.ids.Lit.{Lit}
use Rattle.ct_terms.specs.Literal.{literal_of, IsStripped}
use Rattle.ct_log.specs.declared.rules.Gate.TheVariants.{AndPos, AndNeg}
use Rattle.ct_log.specs.declared.line.Step.{Step}
use Rattle.ct_log.specs.declared.line.Step.TheVariants as step
use Rattle.ct_log.specs.Gates.{positive, negative}
use Rattle.ct_log.specs.Look.{signed}
use Rattle.ct_clauses.specs.Initial.{whole, at_each}
use Rattle.ct_clauses.specs.Growth.{HaveGates}
use Rattle.ct_clauses.proofs.GateLemmas.{And-stripped, And-booleans, lit_stripped, line_two, opposites-map}
use Rattle.ct_clauses.proofs.GrowthLemmas.{gates_then}
use Rattle.ct_clauses.proofs.gates.push_conjunction.Goals as goal

pub lit-requires : goal.lit-requires
lit-requires c = record { boolean = And-booleans c.args.table.now c.args.t.0 c.args.args.now c.requires.sorted c.requires.stands c.loop-place.place (record { 0 = 0 }) c.loop-place-test.true }

pub push_gate-requires : goal.push_gate-requires
push_gate-requires c =
    let table = c.args.table.now in
    let args = c.args.args.now in
    let a : TermId = get_or args c.loop-place.place (record { 0 = 0 }) in
    let is : c.in_ok-clause.clause.items ≡ negative c.args.t ∷ (literal_of table a ∷ []) = cc (c.in_ok-clause.ensures.items, c.negative.ensures.value, c.lit.ensures.value) in
    record {
      gate = line_two table AndPos c.args.t c.loop-place.place c.in_ok-clause.clause.items (negative c.args.t) (literal_of table a) is
          (And-stripped table c.args.t args c.requires.sorted c.requires.stands) (lit_stripped table a c.lit.result c.lit.ensures.value c.lit.ensures.stripped)
          (args, a, c.requires.stands, slice_get-get_or args c.loop-place.place (record { 0 = 0 }) c.loop-place-test.true, refl);
    }

pub loop-place-preserved : goal.loop-place-preserved
loop-place-preserved c =
    let table = c.args.table.now in
    let old = c.args.lines.now.items in
    let place = c.loop-place.place in
    let f : ℕ → Step = λ k. step.Gate AndPos c.args.t k in
    let steps : map f (range_with_len 0 (place + 1)) ≡ map f (range_with_len 0 place) ++ f place ∷ [] = map-range_with_len_more f 0 place place (omega arith) in
    subst (HaveGates table old c.push_gate.new.lines.items) (sym steps)
    (gates_then table old c.loop-place.lines.items c.push_gate.new.lines.items (map f (range_with_len 0 place)) (f place ∷ []) c.loop-place.invariant c.in_ok-push_gate.ensures.grown)

pub with_arguments-requires-clause-booleans : goal.with_arguments-requires-clause-booleans
with_arguments-requires-clause-booleans c = And-booleans c.args.table.now c.args.t.0 c.args.args.now c.requires.sorted c.requires.stands

pub with_arguments-requires-clause-stripped : goal.with_arguments-requires-clause-stripped
with_arguments-requires-clause-stripped c =
    subst (λ (l : Lit). IsStripped c.args.table.now l.term) (sym c.positive.ensures.value) (And-stripped c.args.table.now c.args.t c.args.args.now c.requires.sorted c.requires.stands)

pub push_gate-requires-2 : goal.push_gate-requires-2
push_gate-requires-2 c =
    let table = c.args.table.now in
    let args = c.args.args.now in
    let rest : List Lit = map (λ a. signed false (literal_of table a)) args in
    record {
      gate = record {
        literals = c.in_ok-clause-2.ensures.literals;
        of_gate = (args, c.requires.stands, refl, c.in_ok-clause-2.ensures.value ∙ ap (λ (l : Lit). l ∷ rest) c.positive.ensures.value ∙ ap (λ (ls : List Lit). positive c.args.t ∷ ls) (sym (opposites-map table args)));
      };
    }

pub returns-clause-grown : goal.returns-clause-grown
returns-clause-grown c =
    let table = c.args.table.now in
    let old = c.args.lines.now.items in
    let f : ℕ → Step = λ k. step.Gate AndPos c.args.t k in
    let end : c.loop-place.place ≡ length c.args.args.now = omega (arith, c.loop-place-test.false, c.loop-place.auto.place-end) in
    gates_then table old c.loop-place.lines.items c.push_gate-2.new.lines.items (at_each AndPos c.args.t c.args.args.now) (whole AndNeg c.args.t ∷ [])
    (subst (λ (n : ℕ). HaveGates table old c.loop-place.lines.items (map f (range_with_len 0 n))) end c.loop-place.invariant) c.in_ok-push_gate-2.ensures.grown
