-- Where each block is one class, bisimilar classes are one.
use Rattle.std.proofs.Common.{◌≡◌, ℕ, ◌<◌, List, length, inl, inr, arith}
use Rattle.std.proofs.lemmas.Option.{slice_get_within}
use Rattle.ct_sorts.specs.declared.ids.SortId.{SortId}
use Rattle.ct_terms.specs.declared.ids.TermId.{TermId}
use Rattle.ct_terms.specs.declared.term.Core.{Core}
use Rattle.ct_terms.specs.declared.term.Core.TheVariants.{Con}
use Rattle.ct_terms.specs.Terms.{Has, IsOfSort}
use Rattle.ct_congr.specs.State.{State, AreEqual}
use Rattle.ct_unique.specs.Partition.{block_of, IsStronglyExtensional, IsCoarsest}
use Rattle.ct_unique.proofs.ClassLemmas.{InOneClass-sym}

module _ (state : State) (blocks : List ℕ) (made : IsCoarsest state blocks) (one_sort : (x y : TermId) (s : SortId) → AreEqual state x y → IsOfSort state.terms x s → IsOfSort state.terms y s) where
  -- what is of the class of a term of the table is a term of the table
  inside : (x y : TermId) (core : Core) → AreEqual state x y → Has state.terms core y.0 → x.0 < length state.terms
  inside x y core equal stands =
      let sorted = one_sort y x stands.0 (InOneClass-sym state.reps x y equal) (core, stands.1) in
      slice_get_within state.terms x.0 (sorted.0, stands.0) sorted.1

  pub IsStronglyExtensional-of : ((x y : TermId) → x.0 < length state.terms → y.0 < length state.terms → block_of blocks x ≡ block_of blocks y → AreEqual state x y) → IsStronglyExtensional state
  IsStronglyExtensional-of one x y bisimilar = elim (bisimilar.bisimulation.matched x y bisimilar.holds) [
    | inl equal ↦ equal
    | inr h ↦
        let in_x = inside x h.left (Con h.ctor h.xs) h.left_equal h.left_stands in
        let in_y = inside y h.right (Con h.ctor h.ys) h.right_equal h.right_stands in
        one x y in_x in_y (made.related x y (omega (arith, in_x, made.long)) (omega (arith, in_y, made.long)) bisimilar)
  ]
