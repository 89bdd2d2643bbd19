-- Flags of variables: those of the variables that occur in a core term are set.
use Rattle.std.specs.Prelude.{◌≡◌, ℕ, zero, suc, ◌<◌, Bool, false, ◌||◌, List, [], ◌∷◌, length, Option, Some, option_map, slice_get, nat_eq}
use Rattle.indexmap.specs.IndexMap.{IndexMap, get}
use Rattle.ct_sorts.specs.declared.ids.DefId.{DefId}
use Rattle.ct_sorts.specs.declared.ids.SortId.{SortId}
use Rattle.ct_sorts.specs.Declarations.{Declarations, Function}
use Rattle.ct_occurrence.specs.declared.definitions.Worked.{Worked}
use Rattle.ct_occurrence.specs.Calls.{CallsAre, AllCallsAre, CaseCallsAre}
use Rattle.ct_formulas.specs.Formula.{Formula, Formulas, Cases, MentionsBelow, AllMentionBelow, CasesMentionBelow}
use Rattle.ct_formulas.specs.declared.tree.Pattern.{Pattern}
use Rattle.ct_formulas.specs.declared.tree.Pattern.TheVariants.{Ctor, Any}
use Rattle.ct_formulas.specs.Occurrence.{field_count}
use Rattle.ct_formulas.specs.FormulaSorts.{IsSorted, AllSorted, AreSortedCases}

-- the test for each number below the bound, the greatest first: the flags of a binder's variables, in the order of binding
abbrev pub flags_below : (ℕ → Bool) → ℕ → List Bool
flags_below p zero = []
flags_below p (suc n) = p n ∷ flags_below p n

-- flags, that of variable 0 last, with those of the test set
abbrev pub mark_each : (ℕ → Bool) → List Bool → List Bool
mark_each p [] = []
mark_each p (b ∷ bs) = (b || p (length bs)) ∷ mark_each p bs

-- a flag is set
abbrev pub has_set : List Bool → Bool
has_set [] = false
has_set (b ∷ bs) = b || has_set bs

-- how many variables a pattern binds
abbrev pub pattern_variable_count : Declarations → Pattern → ℕ
pattern_variable_count d Any = 1
pattern_variable_count d (Ctor c) = field_count d c

-- what is worked out of a definition, where it is
abbrev pub Rows : Type 0
Rows = DefId → Option Worked

-- the entries of a map by the numbers of definitions
abbrev pub worked_in : {S : Type 0} → IndexMap ℕ Worked S → Rows
worked_in worked k = get nat_eq worked k.0

-- the definition is worked out
abbrev pub IsKnown : Rows → DefId → Type 0
IsKnown rows k = (w : Worked) × (rows k ≡ Some w)

-- the row of a definition: the flags of its parameters, in order
abbrev pub row_in : Rows → DefId → Option (List Bool)
row_in rows k = option_map (λ w. w.flags.items) (rows k)

-- each row of a definition below the number is right
abbrev pub HaveRows : Declarations → (DefId → ℕ → Bool) → ℕ → Rows → Type 0
HaveRows d uses n rows = (k : DefId) (definition : Function) (row : List Bool) → k.0 < n → slice_get d.definitions k.0 ≡ Some definition → row_in rows k ≡ Some row → row ≡ flags_below (uses k) (length definition.args)

-- what occurs in the formula can be worked out
pub record MayMark (d : Declarations) (uses : DefId → ℕ → Bool) (n : ℕ) (rows : Rows) (t : Formula) : Type 0 where
  pub have : HaveRows d uses n rows
  pub mentions : MentionsBelow n t
  pub known : CallsAre (IsKnown rows) t
  pub sorted : (sorts : List SortId) × (sort : SortId) × IsSorted d sorts t sort

-- the same of several formulas
pub record MayMarkAll (d : Declarations) (uses : DefId → ℕ → Bool) (n : ℕ) (rows : Rows) (ts : Formulas) : Type 0 where
  pub have : HaveRows d uses n rows
  pub mentions : AllMentionBelow n ts
  pub known : AllCallsAre (IsKnown rows) ts
  pub sorted : (sorts : List SortId) × (each : List SortId) × AllSorted d sorts ts each

-- the same of cases
pub record MayMarkCases (d : Declarations) (uses : DefId → ℕ → Bool) (n : ℕ) (rows : Rows) (cases : Cases) : Type 0 where
  pub have : HaveRows d uses n rows
  pub mentions : CasesMentionBelow n cases
  pub known : CaseCallsAre (IsKnown rows) cases
  pub sorted : (sorts : List SortId) × (side : SortId) × (sort : SortId) × AreSortedCases d sorts side cases sort
