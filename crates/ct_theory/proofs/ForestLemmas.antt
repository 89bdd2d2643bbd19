-- Forests of the first merges of classes that get more merges or go back to fewer.
use Rattle.std.proofs.Common.{◌≡◌, ℕ, ◌≤◌, ◌++◌, List, length, take, Option, Some, None, sym, ap, subst, ◌∙◌, inl, inr, arith}
use Rattle.std.proofs.lemmas.Bool.{cases_lt}
use Rattle.std.proofs.lemmas.List.{length-append, take-append-le, take-take}
use Rattle.ct_congr.specs.declared.merge.Merge.{Merge}
use Rattle.ct_congr.specs.State.{State}
use Rattle.ct_explain.specs.Trees.{Planted, IsForestOfFirst}
use Rattle.ct_theory.specs.declared.shorter.Spare.{Spare}
use Rattle.ct_theory.specs.Consulting.{KeepsForests, MayBeSpareOf}

-- a forest of the first merges is one of any classes that have these first
abbrev pub ServesAlike : Type 0
ServesAlike = (state other : State) (planted : Planted) → other.terms ≡ state.terms → planted.count ≤ length other.merges
    → take planted.count other.merges ≡ take planted.count state.merges → IsForestOfFirst state planted → IsForestOfFirst other planted

-- one of no more merges than are left
pub keeps_fewer : ServesAlike → (old new : State) (planted : Planted) → new.terms ≡ old.terms → planted.count ≤ length new.merges → new.merges ≡ take (length new.merges) old.merges → IsForestOfFirst old planted → IsForestOfFirst new planted
keeps_fewer alike old new planted terms within first_part first =
    let n = planted.count in
    alike old new planted terms within (ap (λ (ms : List Merge). take n ms) first_part ∙ take-take n (length new.merges) old.merges within) first

-- where merges were added
pub keeps_more : ServesAlike → (old new : State) (more : List Merge) → new.terms ≡ old.terms → new.merges ≡ old.merges ++ more → KeepsForests old new
keeps_more alike old new more terms grown planted first =
    let n = planted.count in
    let within : n ≤ length old.merges = first.within in
    let longer : n ≤ length new.merges = rw grown (rw (length-append old.merges more) (omega (arith, within))) in
    alike old new planted terms longer (ap (λ (ms : List Merge). take n ms) grown ∙ take-append-le n old.merges more within) first

-- one step after another
pub keeps_then : (first second third : State) → KeepsForests first second → KeepsForests second third → KeepsForests first third
keeps_then first second third before after planted is = after planted (before planted is)

-- a forest that went back has no more than so many merges
pub back_within : (old merges new : ℕ) → (merges ≤ old → new ≡ merges) → (old ≤ merges → new ≡ old) → new ≤ merges
back_within old merges new back stays = elim (cases_lt merges old) [
  | inl less ↦ let is = back (omega (arith, less)) in omega (arith, is)
  | inr more ↦ let is = stays more in omega (arith, is, more)
]

-- ---- spare classes

-- they serve all classes of the same terms
pub spare_same : (old new : State) (spare : Option Spare) → new.declarations ≡ old.declarations → new.terms ≡ old.terms → MayBeSpareOf old spare → MayBeSpareOf new spare
spare_same old new None declarations terms is = tt
spare_same old new (Some spare) declarations terms is = record { declarations = is.declarations ∙ sym declarations; terms = is.terms ∙ sym terms; ready = is.ready; forest = is.forest }
