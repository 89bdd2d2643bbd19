use Rattle.std.proofs.Common.{sym, subst}
use Rattle.ct_card.specs.Sizes.{Table, AreSizes}
use Rattle.ct_card.proofs.GrownLemmas.{no_declarations, later_than_none, sizes_of_none}
use Rattle.ct_card.proofs.sizes.Sizes.new.Goals as goal

pub grown-requires : goal.grown-requires
grown-requires c = record { earlier = (no_declarations, later_than_none c.args.sig.now, subst (λ (t : Table). AreSizes no_declarations t) (sym c.none-none.ensures.none) sizes_of_none) }
