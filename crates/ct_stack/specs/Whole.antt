-- How the assertion stack holds its levels: all that is in force in one, and where each level began.
use Rattle.std.specs.Prelude.{◌≡◌, ℕ, ◌≤◌, List, [], ◌∷◌, length, take, drop}
use Rattle.ct_sorts.specs.Lengths.{Lengths}
use Rattle.ct_sorts.specs.Marks.{cut, lengths}
use Rattle.ct_sorts.specs.Consistent.{IsConsistent}
use Rattle.ct_sorts.specs.Declarations.{start}
use Rattle.ct_sorts.specs.Grown.{Extends}
use Rattle.ct_terms.specs.declared.ids.TermId.{TermId}
use Rattle.ct_formulas.specs.declared.tree.Tree.{Tree}
use Rattle.ct_terms.specs.Terms.{Terms, AreSorted, truth_terms}
use Rattle.ct_scope.specs.declared.scope.Scope.{Scope}
use Rattle.ct_stack.specs.Stack.{Level, Stack}
use Rattle.ct_stack.specs.Held.{level_in, alone, IsHeld}
use Rattle.ct_stack.specs.declared.levels.LevelMark.{LevelMark}

-- a mark of so much
abbrev pub mark_of : Lengths → ℕ → ℕ → LevelMark
mark_of declared asserts terms = record { declared = declared; asserts = asserts; terms = terms }

-- what can be named now and all that is asserted, with the table of the core terms and the numbers of these
pub record Whole : Type 0 where
  pub level : Level
  pub table : Terms
  pub numbers : List TermId

abbrev pub whole_in : Scope → List Tree → Terms → List TermId → Whole
whole_in scope asserts table numbers = record { level = level_in scope asserts; table = table; numbers = numbers }

-- what could be named and was asserted at the mark
abbrev pub level_at : LevelMark → Level → Level
level_at m l =
    record {
      context = record { declarations = cut l.context.declarations m.declared; bodies = take m.declared.definitions l.context.bodies };
      assertions = take m.asserts l.assertions;
    }

abbrev pub whole_at : LevelMark → Whole → Whole
whole_at m w = record { level = level_at m w.level; table = take m.terms w.table; numbers = take m.asserts w.numbers }

-- this level around those of the stack
abbrev pub levels_of : Stack → List Level
levels_of s = s.top ∷ s.below

-- the levels of all that is in force, which began at these marks, the last one first
abbrev pub stack_of : Level → List LevelMark → Stack
stack_of l [] = alone l
stack_of l (m ∷ marks) = record { top = record l { assertions = drop m.asserts l.assertions }; below = levels_of (stack_of (level_at m l) marks) }

-- what was there at the mark is there
pub record IsMarkOf (m : LevelMark) (w : Whole) : Type 0 where
  pub consistent : IsConsistent (cut w.level.context.declarations m.declared)
  pub extends : Extends w.level.context.declarations (cut w.level.context.declarations m.declared)
  pub exact : lengths (cut w.level.context.declarations m.declared) ≡ m.declared
  pub bodies : m.declared.definitions ≤ length w.level.context.bodies
  pub asserts : m.asserts ≤ length w.level.assertions
  pub numbers : m.asserts ≤ length w.numbers
  pub truths : 2 ≤ m.terms
  pub terms : m.terms ≤ length w.table

-- all that is in force is held, and so it was at each mark
abbrev pub AreHeld : Whole → List LevelMark → Type 0
AreHeld w [] = IsHeld w.level w.table w.numbers
AreHeld w (m ∷ marks) = IsHeld w.level w.table w.numbers × IsMarkOf m w × AreHeld (whole_at m w) marks

-- what an assertion stack always holds
pub record IsKept (w : Whole) (marks : List LevelMark) (first : Lengths) : Type 0 where
  pub held : AreHeld w marks
  -- the first mark is that of the start
  pub first_is : first ≡ lengths start
  pub first_consistent : IsConsistent start
  pub first_sorted : AreSorted start truth_terms
