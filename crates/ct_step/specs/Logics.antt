-- The names of logics: whatever the solver can do, or the theories that a logic has (SMT-LIB, the names of its logics), of which formulas
-- without quantifiers are marked.
use Rattle.std.specs.Prelude.{◌≡◌, ◌≢◌, ◌⊎◌, ℕ, nat_eq, List, [], ◌∷◌, ◌++◌, Option, None, Some, codes, if◌then◌else◌}
use Rattle.std.specs.List.{AllByRecursion, concat, starts_with}
use Rattle.ct_words.specs.NameList.{IsListed}
use Rattle.ct_words.specs.Words.{unrestricted_logic_names, logic_part_names}

-- each is a part of names of logics
abbrev pub AreParts : List (List ℕ) → Type 0
AreParts parts = AllByRecursion (IsListed logic_part_names) parts

-- and none stands there twice
abbrev pub AreDifferentParts : List (List ℕ) → Type 0
AreDifferentParts [] = Unit {0}
AreDifferentParts (part ∷ parts) = IsListed logic_part_names part × (IsListed parts part → ⊥) × AreDifferentParts parts

-- different parts, one after another
abbrev pub IsSplit : List ℕ → Type 0
IsSplit name = (parts : List (List ℕ)) × AreDifferentParts parts × (concat parts ≡ name)

-- the same, one part at least
abbrev pub IsCombined : List ℕ → Type 0
IsCombined name = (name ≢ []) × IsSplit name

-- what stands before the parts where formulas have no quantifiers
abbrev pub unquantified : List ℕ
unquantified = codes "QF_"

-- there is a logic of the name
abbrev pub IsLogic : List ℕ → Type 0
IsLogic name =
    IsListed unrestricted_logic_names name
    ⊎ (IsCombined name ⊎ ((rest : List ℕ) × (name ≡ unquantified ++ rest) × IsCombined rest))

-- the first of the words with which the bytes begin
abbrev pub first_of : List (List ℕ) → List ℕ → Option (List ℕ)
first_of [] bytes = None
first_of (word ∷ words) bytes = if starts_with nat_eq bytes word then Some word else first_of words bytes
