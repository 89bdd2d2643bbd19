-- To be of one class is an equivalence on the terms of a table.
use Rattle.std.proofs.Common.{◌<◌, List, length, get_or, sym, ◌∙◌}
use Rattle.std.proofs.lemmas.Option.{slice_get-get_or, slice_get_within}
use Rattle.ct_terms.specs.declared.ids.TermId.{TermId}
use Rattle.ct_congr.specs.Partition.{InOneClass}

module _ (reps : List TermId) where
  pub InOneClass-refl : (x : TermId) → x.0 < length reps → InOneClass reps x x
  InOneClass-refl x inside = let at = slice_get-get_or reps x.0 x inside in (get_or reps x.0 x, at, at)

  pub InOneClass-sym : (x y : TermId) → InOneClass reps x y → InOneClass reps y x
  InOneClass-sym x y h = (h.0, h.2, h.1)

  pub InOneClass-trans : (x y z : TermId) → InOneClass reps x y → InOneClass reps y z → InOneClass reps x z
  InOneClass-trans x y z p q = (p.0, p.1, q.2 ∙ sym q.1 ∙ p.2)

  pub InOneClass-inside : (x y : TermId) → InOneClass reps x y → y.0 < length reps
  InOneClass-inside x y h = slice_get_within reps y.0 h.0 h.2
