use Rattle.std.proofs.Common.{◌≡◌, ◌<◌, ◌∙◌, length, sym, arith}
use Rattle.std.proofs.lemmas.Option.{get_or_from_slice_get}
use Rattle.ct_terms.specs.Literal.{literal_of}
use Rattle.ct_terms.proofs.LiteralLemmas.{IsStripped-literal_of, IsLiteral-ordered}
use Rattle.ct_terms.proofs.table.TermTable.lit.Goals as goal

pub returns-clause-stripped : goal.returns-clause-stripped
returns-clause-stripped c =
    let table = c.self.inside.terms.entries in
    let within : c.args.t.0 < length table = rw c.self.view_is (omega arith) in
    let value : literal_of table c.args.t ≡ c.index.result.now = sym (c.index.ensures ∙ get_or_from_slice_get c.self.inside.literals.items c.args.t.0 (literal_of table c.args.t) c.index.result.now (c.self.invariant.1.each c.args.t within)) in
    rw (← c.self.view_is, ← value) (IsStripped-literal_of table c.args.t c.self.invariant.0.ordered c.self.invariant.0.negates (rw (c.self.view_is) c.requires.boolean))

pub returns-clause-means : goal.returns-clause-means
returns-clause-means c = IsLiteral-ordered c.args.self.now c.len.ensures.ordered
