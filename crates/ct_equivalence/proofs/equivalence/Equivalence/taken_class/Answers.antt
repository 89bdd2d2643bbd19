use Rattle.std.proofs.Common.{length, reverse, ap, sym, ◌∙◌, arith}
use Rattle.ct_equivalence.specs.Grouping.{Groupings}
use Rattle.ct_equivalence.proofs.NoteLemmas.{IsStill-taken}
use Rattle.ct_equivalence.proofs.equivalence.Equivalence.taken_class.Goals as goal

pub members-requires : goal.members-requires
members-requires c = record { inside = omega (arith, c.requires.inside, ap (λ (gs : Groupings). length gs.now.reps) c.self.view_is) }

pub returns : goal.returns
returns c =
    let g = c.self.inside.grouped in
    let log = reverse c.self.inside.log.items in
    rw (← c.self.view_is)
    (record {
      value = c.members.ensures.value;
      members = λ was earlier past taken. let still = IsStill-taken g was earlier log c.args.loser c.self.invariant past taken in still.whole.classes c.args.loser c.members.result.now taken.0 (sym still.members ∙ c.members.ensures.value);
    })
