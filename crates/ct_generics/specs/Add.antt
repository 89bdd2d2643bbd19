-- Which sorts are added with a sort: first its arguments from left to right, then itself, and then the sorts of its fields.
use Rattle.std.specs.Prelude.{◌≡◌, ℕ, ◌+◌, ◌≤◌, List, [], ◌∷◌, ◌++◌, length, map, sum, Some, slice_get}
use Rattle.std.specs.List.{flat_map}
use Rattle.ct_generics.specs.declared.room.Room.{Room}
use Rattle.ct_generics.specs.Expression.{Expression, args_of}
use Rattle.ct_generics.specs.Declarations.{Head}
use Rattle.ct_generics.specs.Reach.{fields_of}
use Rattle.ct_generics.specs.Text.{text_length, most_text}

-- the sort is one of these
abbrev pub IsAmong : List Expression → Expression → Type 0
IsAmong sorts e = (i : ℕ) × (slice_get sorts i ≡ Some e)

-- the sorts of all fields, one constructor after the other
abbrev pub field_sorts : List Head → Expression → List Expression
field_sorts heads e = flat_map (λ fields. fields) (fields_of heads e)

-- Adding the sorts of the first list, one after the other, makes the third list of the second. One that is there changes
-- nothing. Else its arguments are added. Where it is there then, that was all; else it comes last, and then the sorts of its
-- fields are added.
pub data Adds (heads : List Head) : List Expression → List Expression → List Expression → Type 0 where
  none : (sorts : List Expression) → Adds heads [] sorts sorts
  there : (e : Expression) (rest before after : List Expression) → IsAmong before e → Adds heads rest before after → Adds heads (e ∷ rest) before after
  given : (e : Expression) (rest before middle after : List Expression) → (IsAmong before e → ⊥) → Adds heads (args_of e) before middle → IsAmong middle e → Adds heads rest middle after → Adds heads (e ∷ rest) before after
  made : (e : Expression) (rest before middle last after : List Expression) → (IsAmong before e → ⊥) → Adds heads (args_of e) before middle → (IsAmong middle e → ⊥) → Adds heads (field_sorts heads e) (middle ++ e ∷ []) last → Adds heads rest last after → Adds heads (e ∷ rest) before after

-- how many constructors and how many selectors these sorts have
abbrev pub ctor_count : List Head → List Expression → ℕ
ctor_count heads sorts = sum (map (λ e. length (fields_of heads e)) sorts)

abbrev pub sel_count : List Head → List Expression → ℕ
sel_count heads sorts = sum (map (λ e. length (field_sorts heads e)) sorts)

-- there is room for these sorts with their constructors and selectors, and their texts are not too long
pub record Fits (heads : List Head) (room : Room) (added : List Expression) : Type 0 where
  pub sorts : length added ≤ room.sorts
  pub ctors : ctor_count heads added ≤ room.ctors
  pub sels : sel_count heads added ≤ room.sels
  pub texts : (i : ℕ) (e : Expression) → slice_get added i ≡ Some e → text_length heads e ≤ most_text

-- so much room is left with these sorts, and their texts are not too long
pub record Leaves (heads : List Head) (room : Room) (added : List Expression) (left : Room) : Type 0 where
  pub sorts : length added + left.sorts ≡ room.sorts
  pub ctors : ctor_count heads added + left.ctors ≡ room.ctors
  pub sels : sel_count heads added + left.sels ≡ room.sels
  pub texts : (i : ℕ) (e : Expression) → slice_get added i ≡ Some e → text_length heads e ≤ most_text

-- adding the sorts of the first list to the second adds these, and they fit
abbrev pub IsAdded : List Head → Room → List Expression → List Expression → List Expression → Type 0
IsAdded heads room es before added = Adds heads es before (before ++ added) × Fits heads room added
