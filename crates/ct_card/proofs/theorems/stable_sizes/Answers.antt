use Rattle.ct_card.specs.Extended.{IsLater}
use Rattle.ct_card.proofs.StayLemmas.{size_stays, size_was}
use Rattle.ct_card.proofs.theorems.stable_sizes.Goals as goal

pub returns : goal.returns
returns c = record {
  stays = λ d e s size consistent extends within.
      let later : IsLater d e = record { extends = extends; own_ctors = c.structure.ensures.own_constructors e consistent; own_sels = c.structure.ensures.own_selectors e consistent; fields = consistent.fields } in
      (size_stays d e later s size within, size_was d e later s size within);
}
