use Rattle.ct_generics.proofs.FreeLemmas.{listed-either}
use Rattle.ct_generics.proofs.free.is_taken.Goals as goal

pub returns : goal.returns
returns c =
    record { taken = rw c.either.ensures.value (listed-either c.args.names.now c.args.more.now c.args.name.now c.is_listed-first.result c.is_listed-second.result c.is_listed-first.ensures.listed c.is_listed-second.ensures.listed) }
