-- Lengths of texts as they are counted: a length that is too great counts as one more than the greatest.
use Rattle.std.specs.Prelude.{◌≡◌, ℕ, suc, ◌<◌, ◌≤◌, List, Some, slice_get}
use Rattle.ct_generics.specs.declared.nodes.ExprId.{ExprId}
use Rattle.ct_generics.specs.declared.nodes.Node.{Node}
use Rattle.ct_generics.specs.Expression.{Expression}
use Rattle.ct_generics.specs.Declarations.{Head}
use Rattle.ct_generics.specs.Nodes.{Stands}
use Rattle.ct_generics.specs.Text.{text_length, most_text}

-- the count of a length: the length, or where this is too great one more than the greatest
pub record IsCount (count size : ℕ) : Type 0 where
  pub few : count ≤ suc most_text
  pub exact : size ≤ most_text → count ≡ size
  pub over : most_text < size → most_text < count

-- the counts of the lengths of the first nodes
abbrev pub AreCounts : List Head → List Node → List ℕ → Type 0
AreCounts heads nodes counts = (k n : ℕ) (e : Expression) → slice_get counts k ≡ Some n → Stands nodes k e → IsCount n (text_length heads e)

-- the count of this number is too great
abbrev pub IsLongAt : List ℕ → ExprId → Type 0
IsLongAt counts id = (n : ℕ) × (slice_get counts id.0 ≡ Some n) × (most_text < n)
