use Rattle.std.proofs.Common.{length, reverse, ap, sym, ◌∙◌, arith}
use Rattle.ct_equivalence.specs.Grouping.{Groupings}
use Rattle.ct_equivalence.proofs.NoteLemmas.{IsStill-taken}
use Rattle.ct_equivalence.proofs.equivalence.Equivalence.taken_uses.Goals as goal

pub uses-requires : goal.uses-requires
uses-requires c = record { inside = omega (arith, c.requires.inside, ap (λ (gs : Groupings). length gs.now.reps) c.self.view_is) }

pub returns : goal.returns
returns c =
    let g = c.self.inside.grouped in
    let log = reverse c.self.inside.log.items in
    rw (← c.self.view_is)
    (record {
      value = c.uses.ensures.value;
      uses = λ was earlier terms past taken of. let still = IsStill-taken g was earlier log c.args.loser c.self.invariant past taken in of.uses c.args.loser c.uses.result.now taken.0 (sym still.uses ∙ c.uses.ensures.value);
    })
