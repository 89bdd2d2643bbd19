use Rattle.std.proofs.Common.{◌≡◌, [], ◌∷◌, refl}
use Rattle.ct_log.specs.declared.rules.Gate.TheVariants.{Then, Else}
use Rattle.ct_terms.specs.Literal.{opposite, literal_of}
use Rattle.ct_log.specs.Gates.{positive}
use Rattle.ct_clauses.specs.Initial.{whole}
use Rattle.ct_clauses.proofs.GateLemmas.{Ite-condition, lit_stripped, line_two}
use Rattle.ct_clauses.proofs.GrowthLemmas.{gates_then}
use Rattle.ct_clauses.proofs.gates.push_other_choice.Goals as goal

pub lit-c-requires : goal.lit-c-requires
lit-c-requires c = record { boolean = Ite-condition c.args.table.now c.args.t.0 c.args.c c.args.a c.args.b c.requires.sorted c.requires.stands }

pub push_gate-requires : goal.push_gate-requires
push_gate-requires c =
    let table = c.args.table.now in
    let e = c.equation.result in
    let x = opposite (literal_of table c.args.c) in
    let is : c.in_ok-clause.clause.items ≡ x ∷ (positive e ∷ []) = cc (c.in_ok-clause.ensures.items, c.opposite.ensures.value, c.positive.ensures.value, c.lit-c.ensures.value) in
    record {
      gate = line_two table Then c.args.t 0 c.in_ok-clause.clause.items x (positive e) is (lit_stripped table c.args.c c.lit-c.result c.lit-c.ensures.value c.lit-c.ensures.stripped) c.equation.ensures.stripped
          (c.args.c, c.args.a, c.args.b, e, (c.requires.stands, c.requires.other), c.equation.ensures.equation, refl, refl);
    }

pub push_gate-requires-2 : goal.push_gate-requires-2
push_gate-requires-2 c =
    let table = c.args.table.now in
    let e = c.equation-2.result in
    let x = literal_of table c.args.c in
    let is : c.in_ok-clause-2.clause.items ≡ x ∷ (positive e ∷ []) = cc (c.in_ok-clause-2.ensures.items, c.positive-2.ensures.value, c.lit-c.ensures.value) in
    record {
      gate = line_two table Else c.args.t 0 c.in_ok-clause-2.clause.items x (positive e) is (lit_stripped table c.args.c c.lit-c.result c.lit-c.ensures.value c.lit-c.ensures.stripped) c.equation-2.ensures.stripped
          (c.args.c, c.args.a, c.args.b, e, (c.requires.stands, c.requires.other), c.equation-2.ensures.equation, refl, refl);
    }

pub returns-clause-grown : goal.returns-clause-grown
returns-clause-grown c =
    gates_then c.args.table.now c.args.lines.now.items c.push_gate.new.lines.items c.push_gate-2.new.lines.items (whole Then c.args.t ∷ []) (whole Else c.args.t ∷ []) c.in_ok-push_gate.ensures.grown c.in_ok-push_gate-2.ensures.grown
