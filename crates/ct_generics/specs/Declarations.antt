-- Which sorts, generics and synonyms are declared (SMT-LIB 2.7, sections 3.9 and 4.2.3).
use Rattle.std.specs.Prelude.{◌≡◌, ℕ, suc, ◌<◌, List, Option, Some, option_map, slice_get}
use Rattle.std.specs.Option.{option_and_then}
use Rattle.ct_generics.specs.declared.kind.Kind.{Kind}
use Rattle.ct_generics.specs.Expression.{Expression, parameter, named, applied, head_of}

-- A sort or a generic: its name, its kind, the number of its parameters, none for a sort, and for each of its constructors
-- the sorts of the fields, in order. Synonyms are expanded in these.
pub record Head : Type 0 where
  pub name : List ℕ
  pub kind : Kind
  pub params : ℕ
  pub ctors : List (List Expression)

-- a synonym: its name, the number of its parameters, and what it stands for, in which synonyms are expanded
pub record Synonym : Type 0 where
  pub name : List ℕ
  pub params : ℕ
  pub body : Expression

-- the sorts and generics, each at the index that is its number, and the synonyms
pub record Declared : Type 0 where
  pub heads : List Head
  pub synonyms : List Synonym

-- the sort or generic at the head of an expression
abbrev pub head_at : List Head → Expression → Option Head
head_at heads e = option_and_then (slice_get heads) (head_of e)

-- the expression has a head of this kind
abbrev pub IsOfKind : List Head → Kind → Expression → Type 0
IsOfKind heads kind e = (head : Head) × (head_at heads e ≡ Some head) × (head.kind ≡ kind)

-- With so many arguments more this is an expression over so many parameters: each head has as many arguments as it has
-- parameters.
abbrev pub Takes : List Head → ℕ → ℕ → Expression → Type 0
Takes heads params more (parameter i) = (more ≡ 0) × (i < params)
Takes heads params more (named h) = option_map (λ head. head.params) (slice_get heads h) ≡ Some more
Takes heads params more (applied e a) = Takes heads params (suc more) e × Takes heads params 0 a

-- an expression over so many parameters; over none it is a sort
abbrev pub IsExpression : List Head → ℕ → Expression → Type 0
IsExpression heads params e = Takes heads params 0 e
