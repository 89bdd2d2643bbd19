-- What adding sorts keeps of a list of sorts.
use Rattle.std.specs.Prelude.{◌≡◌, ℕ, ◌<◌, ◌++◌, List, Some, slice_get}
use Rattle.ct_generics.specs.Expression.{Expression, args_of}
use Rattle.ct_generics.specs.Declarations.{Head}
use Rattle.ct_generics.specs.Reach.{AreDifferent}
use Rattle.ct_generics.specs.Add.{IsAmong, field_sorts}

-- each sort comes after its arguments
abbrev pub ComeAfterArguments : List Expression → Type 0
ComeAfterArguments sorts = (i k : ℕ) (e a : Expression) → slice_get sorts i ≡ Some e → slice_get (args_of e) k ≡ Some a → (j : ℕ) × (j < i) × (slice_get sorts j ≡ Some a)

-- all of these are among the sorts
abbrev pub AreAmong : List Expression → List Expression → Type 0
AreAmong sorts es = (k : ℕ) (e : Expression) → slice_get es k ≡ Some e → IsAmong sorts e

-- the sorts of the fields of each sort are sorts
abbrev pub HaveFields : List Head → List Expression → Type 0
HaveFields heads sorts = (e : Expression) → IsAmong sorts e → AreAmong sorts (field_sorts heads e)

-- what is added to sorts comes after them; the sorts that were to be added are there; and no sort comes twice, each comes after
-- its arguments, and the sorts of all fields are sorts, where this was so
pub record IsAddition (heads : List Head) (es before after : List Expression) : Type 0 where
  pub more : List Expression
  pub begins : after ≡ before ++ more
  pub all : AreAmong after es
  pub different : AreDifferent before → AreDifferent after
  pub arguments : ComeAfterArguments before → ComeAfterArguments after
  pub fields : HaveFields heads before → HaveFields heads after
