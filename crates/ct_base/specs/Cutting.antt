-- How a table is taken back to a stage.
use Rattle.std.specs.Prelude.{ℕ, ◌≤◌, List, [], ◌∷◌}
use Rattle.ct_sorts.specs.Lengths.{Lengths}
use Rattle.ct_base.specs.declared.stage.Stage.{Stage}

-- no more was declared than at the mark
pub record IsBelowMark (mark declared : Lengths) : Type 0 where
  pub sorts : declared.sorts ≤ mark.sorts
  pub ctors : declared.ctors ≤ mark.ctors
  pub sels : declared.sels ≤ mark.sels
  pub functions : declared.functions ≤ mark.functions
  pub definitions : declared.definitions ≤ mark.definitions
  pub heads : declared.heads ≤ mark.heads
  pub synonyms : declared.synonyms ≤ mark.synonyms

abbrev pub IsBelow : Lengths → Stage → Type 0
IsBelow mark s = IsBelowMark mark s.declared

-- how much there was at the last of the stages, which stands first here; where there is none, `true` and `false`
abbrev pub top_terms : List Stage → ℕ
top_terms [] = 2
top_terms (s ∷ stages) = s.terms

abbrev pub top_closed : List Stage → ℕ
top_closed [] = 0
top_closed (s ∷ stages) = s.terms

abbrev pub top_roots : List Stage → ℕ
top_roots [] = 0
top_roots (s ∷ stages) = s.roots

abbrev pub top_split : List Stage → ℕ
top_split [] = 0
top_split (s ∷ stages) = s.split
