use Rattle.std.proofs.Common.{◌≡◌, [], ◌∷◌, refl}
use Rattle.ct_log.specs.declared.rules.Gate.TheVariants.{Iff1, Iff2, Iff3, Iff4}
use Rattle.ct_terms.specs.Literal.{opposite, literal_of}
use Rattle.ct_log.specs.Gates.{positive, negative}
use Rattle.ct_clauses.specs.Initial.{whole}
use Rattle.ct_clauses.proofs.GateLemmas.{Iff-stripped, Iff-booleans, lit_stripped, line_three}
use Rattle.ct_clauses.proofs.GrowthLemmas.{gates_then}
use Rattle.ct_clauses.proofs.gates.push_equivalence.Goals as goal

pub lit-a-requires : goal.lit-a-requires
lit-a-requires c = record { boolean = (Iff-booleans c.args.table.now c.args.t.0 c.args.a c.args.b c.requires.sorted c.requires.stands).0 }

pub lit-b-requires : goal.lit-b-requires
lit-b-requires c = record { boolean = (Iff-booleans c.args.table.now c.args.t.0 c.args.a c.args.b c.requires.sorted c.requires.stands).1 }

pub push_gate-requires : goal.push_gate-requires
push_gate-requires c =
    let table = c.args.table.now in
    let is : c.in_ok-clause.clause.items ≡ negative c.args.t ∷ (opposite (literal_of table c.args.a) ∷ (literal_of table c.args.b ∷ [])) = cc (c.in_ok-clause.ensures.items, c.negative.ensures.value, c.opposite.ensures.value, c.lit-a.ensures.value, c.lit-b.ensures.value) in
    record { gate = line_three table Iff1 c.args.t 0 c.in_ok-clause.clause.items (negative c.args.t) (opposite (literal_of table c.args.a)) (literal_of table c.args.b) is (Iff-stripped table c.args.t c.args.a c.args.b c.requires.sorted c.requires.stands) (lit_stripped table c.args.a c.lit-a.result c.lit-a.ensures.value c.lit-a.ensures.stripped) (lit_stripped table c.args.b c.lit-b.result c.lit-b.ensures.value c.lit-b.ensures.stripped) (refl, (c.args.a, c.args.b, c.requires.stands, refl)) }

pub push_gate-requires-2 : goal.push_gate-requires-2
push_gate-requires-2 c =
    let table = c.args.table.now in
    let is : c.in_ok-clause-2.clause.items ≡ negative c.args.t ∷ (literal_of table c.args.a ∷ (opposite (literal_of table c.args.b) ∷ [])) = cc (c.in_ok-clause-2.ensures.items, c.negative-2.ensures.value, c.lit-a.ensures.value, c.opposite-2.ensures.value, c.lit-b.ensures.value) in
    record { gate = line_three table Iff2 c.args.t 0 c.in_ok-clause-2.clause.items (negative c.args.t) (literal_of table c.args.a) (opposite (literal_of table c.args.b)) is (Iff-stripped table c.args.t c.args.a c.args.b c.requires.sorted c.requires.stands) (lit_stripped table c.args.a c.lit-a.result c.lit-a.ensures.value c.lit-a.ensures.stripped) (lit_stripped table c.args.b c.lit-b.result c.lit-b.ensures.value c.lit-b.ensures.stripped) (refl, (c.args.a, c.args.b, c.requires.stands, refl)) }

pub push_gate-requires-3 : goal.push_gate-requires-3
push_gate-requires-3 c =
    let table = c.args.table.now in
    let is : c.in_ok-clause-3.clause.items ≡ positive c.args.t ∷ (literal_of table c.args.a ∷ (literal_of table c.args.b ∷ [])) = cc (c.in_ok-clause-3.ensures.items, c.positive.ensures.value, c.lit-a.ensures.value, c.lit-b.ensures.value) in
    record { gate = line_three table Iff3 c.args.t 0 c.in_ok-clause-3.clause.items (positive c.args.t) (literal_of table c.args.a) (literal_of table c.args.b) is (Iff-stripped table c.args.t c.args.a c.args.b c.requires.sorted c.requires.stands) (lit_stripped table c.args.a c.lit-a.result c.lit-a.ensures.value c.lit-a.ensures.stripped) (lit_stripped table c.args.b c.lit-b.result c.lit-b.ensures.value c.lit-b.ensures.stripped) (refl, (c.args.a, c.args.b, c.requires.stands, refl)) }

pub push_gate-requires-4 : goal.push_gate-requires-4
push_gate-requires-4 c =
    let table = c.args.table.now in
    let is : c.in_ok-clause-4.clause.items ≡ positive c.args.t ∷ (opposite (literal_of table c.args.a) ∷ (opposite (literal_of table c.args.b) ∷ [])) = cc (c.in_ok-clause-4.ensures.items, c.positive-2.ensures.value, c.opposite-3.ensures.value, c.lit-a.ensures.value, c.opposite-4.ensures.value, c.lit-b.ensures.value) in
    record { gate = line_three table Iff4 c.args.t 0 c.in_ok-clause-4.clause.items (positive c.args.t) (opposite (literal_of table c.args.a)) (opposite (literal_of table c.args.b)) is (Iff-stripped table c.args.t c.args.a c.args.b c.requires.sorted c.requires.stands) (lit_stripped table c.args.a c.lit-a.result c.lit-a.ensures.value c.lit-a.ensures.stripped) (lit_stripped table c.args.b c.lit-b.result c.lit-b.ensures.value c.lit-b.ensures.stripped) (refl, (c.args.a, c.args.b, c.requires.stands, refl)) }

pub returns-clause-grown : goal.returns-clause-grown
returns-clause-grown c =
    gates_then c.args.table.now c.args.lines.now.items c.push_gate.new.lines.items c.push_gate-4.new.lines.items (whole Iff1 c.args.t ∷ []) (whole Iff2 c.args.t ∷ (whole Iff3 c.args.t ∷ (whole Iff4 c.args.t ∷ []))) c.in_ok-push_gate.ensures.grown
    (gates_then c.args.table.now c.push_gate.new.lines.items c.push_gate-2.new.lines.items c.push_gate-4.new.lines.items (whole Iff2 c.args.t ∷ []) (whole Iff3 c.args.t ∷ (whole Iff4 c.args.t ∷ [])) c.in_ok-push_gate-2.ensures.grown
    (gates_then c.args.table.now c.push_gate-2.new.lines.items c.push_gate-3.new.lines.items c.push_gate-4.new.lines.items (whole Iff3 c.args.t ∷ []) (whole Iff4 c.args.t ∷ []) c.in_ok-push_gate-3.ensures.grown
    c.in_ok-push_gate-4.ensures.grown))
