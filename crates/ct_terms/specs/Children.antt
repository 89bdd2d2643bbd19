-- A term layer by layer: its head, and the terms right under it in order.
use Rattle.std.specs.Prelude.{ℕ, ◌<◌, List, [], ◌∷◌}
use Rattle.std.specs.List.{AllByRecursion}
use Rattle.ct_sorts.specs.declared.ids.CtorId.{CtorId}
use Rattle.ct_sorts.specs.declared.ids.SelId.{SelId}
use Rattle.ct_sorts.specs.declared.ids.FunId.{FunId}
use Rattle.ct_terms.specs.declared.ids.TermId.{TermId}
use Rattle.ct_terms.specs.declared.term.Core.{Core}
use Rattle.ct_terms.specs.declared.term.Core.TheVariants.{Con, Sel, Test, Apply, Eq, Not, And, Or, Iff, Ite}

-- what a term is, without the terms under it
pub data CoreHead : Type 0 where
  con_head : CtorId → CoreHead
  sel_head : SelId → CoreHead
  test_head : CtorId → CoreHead
  apply_head : FunId → CoreHead
  eq_head : CoreHead
  not_head : CoreHead
  and_head : CoreHead
  or_head : CoreHead
  iff_head : CoreHead
  ite_head : CoreHead

-- the head of a term
abbrev pub core_head : Core → CoreHead
core_head (Con c args) = con_head c
core_head (Sel s t) = sel_head s
core_head (Test c t) = test_head c
core_head (Apply f args) = apply_head f
core_head (Eq a b) = eq_head
core_head (Not t) = not_head
core_head (And args) = and_head
core_head (Or args) = or_head
core_head (Iff a b) = iff_head
core_head (Ite c a b) = ite_head

-- the terms right under a term, in order
abbrev pub core_children : Core → List TermId
core_children (Con c args) = args
core_children (Sel s t) = t ∷ []
core_children (Test c t) = t ∷ []
core_children (Apply f args) = args
core_children (Eq a b) = a ∷ (b ∷ [])
core_children (Not t) = t ∷ []
core_children (And args) = args
core_children (Or args) = args
core_children (Iff a b) = a ∷ (b ∷ [])
core_children (Ite c a b) = c ∷ (a ∷ (b ∷ []))

-- the terms right under this one have numbers below the bound
abbrev pub HasArgumentsBelow : ℕ → Core → Type 0
HasArgumentsBelow n core = AllByRecursion (λ t. t.0 < n) (core_children core)
