-- What is left to do while sorts are added, one task after the other.
use Rattle.std.specs.Prelude.{◌≡◌, ◌↔◌, ◌⊎◌, ℕ, zero, suc, ◌+◌, List, [], ◌∷◌, ◌++◌, map, reverse, sum, Option, MatchOption}
use Rattle.std.specs.List.{AllZip}
use Rattle.ct_generics.specs.declared.nodes.ExprId.{ExprId}
use Rattle.ct_generics.specs.declared.nodes.Node.{Node}
use Rattle.ct_generics.specs.declared.tasks.Task.{Task as StoredTask}
use Rattle.ct_generics.specs.declared.tasks.Task.TheVariants.{Add, Arguments, Make}
use Rattle.ct_generics.specs.Expression.{Expression, args_of}
use Rattle.ct_generics.specs.Declarations.{Head}
use Rattle.ct_generics.specs.Nodes.{Stands, StandFor}
use Rattle.ct_generics.specs.Add.{Adds, IsAmong, field_sorts}

-- to add a sort, or its arguments, or the sort itself where it is not there and then the sorts of its fields
pub data Task : Type 0 where
  add : Expression → Task
  arguments : Expression → Task
  make : Expression → Task

-- what the task makes of a list of sorts
abbrev pub Does : List Head → Task → List Expression → List Expression → Type 0
Does heads (add e) before after = Adds heads (e ∷ []) before after
Does heads (arguments e) before after = Adds heads (args_of e) before after
Does heads (make e) before after = (IsAmong before e × (after ≡ before)) ⊎ ((IsAmong before e → ⊥) × Adds heads (field_sorts heads e) (before ++ e ∷ []) after)

-- what the tasks make of a list of sorts, one after the other
abbrev pub Completes : List Head → List Task → List Expression → List Expression → Type 0
Completes heads [] before after = after ≡ before
Completes heads (task ∷ tasks) before after = (middle : List Expression) × Does heads task before middle × Completes heads tasks middle after

-- from these sorts the tasks make the same as others from theirs
abbrev pub DoTheSame : List Head → List Task → List Expression → List Task → List Expression → Type 0
DoTheSame heads tasks sorts others others_sorts = (after : List Expression) → Completes heads tasks sorts after ↔ Completes heads others others_sorts after

-- the stored task is this one
abbrev pub IsTask : List Node → StoredTask → Task → Type 0
IsTask nodes (Add id) task = (e : Expression) × (task ≡ add e) × Stands nodes id.0 e
IsTask nodes (Arguments id) task = (e : Expression) × (task ≡ arguments e) × Stands nodes id.0 e
IsTask nodes (Make id) task = (e : Expression) × (task ≡ make e) × Stands nodes id.0 e

-- the tasks of a stack, the one that came last first
abbrev pub AreTasks : List Node → List StoredTask → List Task → Type 0
AreTasks nodes stack tasks = AllZip (IsTask nodes) (reverse stack) tasks

-- of the tasks the next is to make this sort, which is not there, and the others are on the stack
pub record IsMadeNext (heads : List Head) (nodes : List Node) (sorts : List Expression) (todo : List Task) (id : ExprId) (stack : List StoredTask) : Type 0 where
  pub sort : Expression
  pub later : List Task
  pub stands : Stands nodes id.0 sort
  pub absent : IsAmong sorts sort → ⊥
  pub tasks : AreTasks nodes stack later
  pub same : DoTheSame heads todo sorts (make sort ∷ later) sorts

-- tasks that do the same are on the stack
pub record IsGoneOn (heads : List Head) (nodes : List Node) (sorts : List Expression) (todo : List Task) (stack : List StoredTask) : Type 0 where
  pub later : List Task
  pub tasks : AreTasks nodes stack later
  pub same : DoTheSame heads todo sorts later sorts

-- where this task was on top of these, a sort is to be made now, or what the task is made of came onto the stack
abbrev pub IsBegun : List Node → List ExprId → StoredTask → List StoredTask → Option ExprId → List StoredTask → Type 0
IsBegun nodes ids task stack next left =
    (heads : List Head) (sorts : List Expression) (first : Task) (todo : List Task)
    → StandFor nodes ids sorts → IsTask nodes task first → AreTasks nodes stack todo
    → MatchOption next (IsGoneOn heads nodes sorts (first ∷ todo) left) (λ id. IsMadeNext heads nodes sorts (first ∷ todo) id left)

-- where these tasks were on the stack, a sort is to be made now, or nothing was left to do
abbrev pub IsNext : List Node → List ExprId → List StoredTask → Option ExprId → List StoredTask → Type 0
IsNext nodes ids stack next left =
    (heads : List Head) (sorts : List Expression) (todo : List Task)
    → StandFor nodes ids sorts → AreTasks nodes stack todo
    → MatchOption next (DoTheSame heads todo sorts [] sorts) (λ id. IsMadeNext heads nodes sorts todo id left)

-- three times three times .. three, once more than the number
abbrev pub tripled : ℕ → ℕ
tripled zero = 3
tripled (suc n) = tripled n + tripled n + tripled n

-- the weight of a task: more than that of what it is made of
abbrev pub weight_of : StoredTask → ℕ
weight_of (Add id) = tripled id.0 + 2
weight_of (Arguments id) = tripled id.0
weight_of (Make id) = 1

abbrev pub weight : List StoredTask → ℕ
weight stack = sum (map weight_of stack)
