-- What levels do to the assertion stack (SMT-LIB 2.7, sections 4.2.1 and 4.2.2).
use Rattle.std.specs.Prelude.{◌≡◌, ℕ, zero, suc, Bool, false, List, [], ◌∷◌, Option, None, Some, if◌then◌else◌}
use Rattle.ct_sorts.specs.Declarations.{Declarations, start}
use Rattle.ct_sorts.specs.Consistent.{IsConsistent}
use Rattle.ct_sorts.specs.Lengths.{Lengths}
use Rattle.ct_sorts.specs.Marks.{CanCut, cut, lengths}
use Rattle.ct_stack.specs.Stack.{Level, Stack, first_context}

-- one level more, at which the same can be named and nothing is asserted
abbrev pub pushed : Stack → Stack
pushed s = record { top = record { context = s.top.context; assertions = [] }; below = s.top ∷ s.below }

abbrev pub pushed_by : ℕ → Stack → Stack
pushed_by zero s = s
pushed_by (suc n) s = pushed_by n (pushed s)

-- the innermost level goes, and these are those around it; what was declared at it goes too, but where declarations are global
abbrev pub without_top : Bool → Stack → List Level → Stack
without_top global s [] = s
without_top global s (level ∷ levels) = record { top = if global then record level { context = s.top.context } else level; below = levels }

-- one level fewer; the outermost one stays
abbrev pub popped : Bool → Stack → Stack
popped global s = without_top global s s.below

abbrev pub popped_by : Bool → ℕ → Stack → Stack
popped_by global zero s = s
popped_by global (suc n) s = popped_by global n (popped global s)

-- no assertion and no level but the outermost one; what is declared goes too, but where declarations are global
abbrev pub emptied : Bool → Stack → Stack
emptied global s = record { top = record { context = if global then s.top.context else first_context; assertions = [] }; below = [] }

-- how much is declared where so many levels have gone with what was declared at them; nothing where no declarations go
abbrev pub left_by : Bool → ℕ → Stack → Option Lengths
left_by global zero s = None
left_by global (suc n) s = if global then None else Some (lengths (popped_by false (suc n) s).top.context.declarations)

-- the same where all levels and assertions have gone
abbrev pub left_emptied : Bool → Option Lengths
left_emptied global = if global then None else Some (lengths start)

-- the declarations can be cut to the mark, and then these are left, which agree with each other
pub record IsCutTo (d : Declarations) (m : Lengths) (left : Declarations) : Type 0 where
  pub can_cut : CanCut d m
  pub cut_is : cut d m ≡ left
  pub consistent : IsConsistent left

-- the mark is of as many lists beside sorts and beside sorts without parameters and generics as of these
abbrev pub IsBeside : Lengths → Type 0
IsBeside m = (m.origins ≡ m.sorts) × (m.spellings ≡ m.heads)
