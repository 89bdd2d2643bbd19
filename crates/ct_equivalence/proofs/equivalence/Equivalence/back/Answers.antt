use Rattle.std.proofs.Common.{reverse, refl, sym, subst}
use Rattle.ct_equivalence.specs.Grouping.{Grouping, Groupings}
use Rattle.ct_equivalence.specs.Undoing.{before, befores, AreNoted}
use Rattle.ct_equivalence.proofs.NoteLemmas.{IsGrouping-noted, befores-pop, AreNoted-last, AreGroupingsOf-pop}
use Rattle.ct_equivalence.proofs.equivalence.Equivalence.back.Goals as goal

pub take_back-requires : goal.take_back-requires
take_back-requires c =
    let e = c.self.inside in
    let noted = AreNoted-last e.grouped e.log.items c.pop.new.self.items c.in-Some.last c.in-Some.ensures.items c.self.invariant in
    record { noted = noted.1; whole = IsGrouping-noted (before e.grouped c.in-Some.last) (reverse c.pop.new.self.items) noted.2 }

pub invariant_of-self-2 : goal.invariant_of-self-2
invariant_of-self-2 c =
    let e = c.self.inside in
    let noted = AreNoted-last e.grouped e.log.items c.pop.new.self.items c.in-Some.last c.in-Some.ensures.items c.self.invariant in
    subst (λ (g : Grouping). AreNoted g (reverse c.pop.new.self.items)) (sym c.take_back.ensures.before) noted.2

pub returns : goal.returns
returns c =
    let e = c.self.inside in
    let now = c.take_back.new.self in
    let rest = c.pop.new.self.items in
    let past = befores-pop e.grouped now e.log.items rest c.in-Some.last c.in-Some.ensures.items c.take_back.ensures.before in
    let old : Groupings = record { now = e.grouped; past = befores e.grouped (reverse e.log.items); lone = e.lone.items; digests = e.digests.items; places = e.places } in
    let new : Groupings = record { now = now; past = befores now (reverse rest); lone = e.lone.items; digests = c.take_back.new.digests.items; places = e.places } in
    rw (← c.self.view_is) (record { before = past; of = λ terms all. AreGroupingsOf-pop terms old new past refl refl (c.take_back.ensures.digests terms all.places all.digests) all })
