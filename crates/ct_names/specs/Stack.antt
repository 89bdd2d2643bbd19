-- Variables in scope as a stack, and the position of the innermost of each name.
use Rattle.std.specs.Prelude.{◌≡◌, ℕ, List, [], ◌∷◌, map, length, Option, Some, None, if◌then◌else◌}
use Rattle.std.specs.Borrow.{Bor}
use Rattle.std.specs.Str.{bytes_eq}
use Rattle.indexmap.specs.IndexMap.{IndexMap, get_by}
use Rattle.ct_formulas.specs.Formula.{bind}
use Rattle.ct_names.specs.declared.stack.Entry.{Entry}
use Rattle.ct_names.specs.declared.stack.Position.{Position}
use Rattle.ct_names.specs.Bounds.{variable_of, held_name}
use Rattle.ct_names.specs.Variables.{Variable, is_named}

-- the position of the innermost variable with this name, none where there is no such variable
abbrev pub position_of : List Variable → List ℕ → Option Position
position_of [] name = None
position_of (v ∷ scope) name = if is_named name v.name then Some (record { before = length scope; sort = v.sort }) else position_of scope name

-- the same for a name that may not be there
abbrev pub shadowed_by : List Variable → Option (List ℕ) → Option Position
shadowed_by scope None = None
shadowed_by scope (Some name) = position_of scope name

-- what may be there under a key that may not
abbrev pub flat : {X : Type 0} → Option (Option X) → Option X
flat None = None
flat (Some x) = x

-- the position that is stored for a name
abbrev pub stored_position : {S : Type 0} → IndexMap (Bor (List ℕ)) (Option Position) S → List ℕ → Option Position
stored_position positions name = flat (get_by (λ (key : Bor (List ℕ)). bytes_eq name key.now) positions)

-- the same for a name that may not be there
abbrev pub stored_position_at : {S : Type 0} → IndexMap (Bor (List ℕ)) (Option Position) S → Option (List ℕ) → Option Position
stored_position_at positions None = None
stored_position_at positions (Some name) = stored_position positions name

-- the name is there, and no position is stored for it
abbrev pub HasNoPosition : {S : Type 0} → IndexMap (Bor (List ℕ)) (Option Position) S → Option (List ℕ) → Type 0
HasNoPosition positions None = ⊥
HasNoPosition positions (Some name) = stored_position positions name ≡ None

-- the variables that stand on the stack
abbrev pub variables_of : List Entry → List Variable
variables_of entries = map (λ (e : Entry). variable_of e.bound) entries

-- each variable, from the innermost outwards, stands with the position that its name had before
abbrev pub AreShadowing : List Entry → Type 0
AreShadowing [] = Unit {0}
AreShadowing (e ∷ es) = (e.shadowed ≡ shadowed_by (variables_of es) (held_name e.bound.name)) × AreShadowing es

-- the positions that are stored are those of the innermost variables
abbrev pub ArePositions : {S : Type 0} → IndexMap (Bor (List ℕ)) (Option Position) S → List Variable → Type 0
ArePositions positions scope = (name : List ℕ) → stored_position positions name ≡ position_of scope name

-- entries in the order in which they were pushed, and the positions that are stored beside them
pub record IsStack {S : Type 0} (entries : List Entry) (positions : IndexMap (Bor (List ℕ)) (Option Position) S) : Type 0 where
  pub shadowing : AreShadowing (bind entries [])
  pub stored : ArePositions positions (variables_of (bind entries []))
