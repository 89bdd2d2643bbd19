-- What the program still has to match, on a stack: parts of the sort of a field beside sorts.
use Rattle.std.specs.Prelude.{◌≡◌, ℕ, ◌+◌, ◌<◌, Bool, true, false, List, [], ◌∷◌, ◌++◌, reverse, map, All, Option, Some, None, IfSome, option_map}
use Rattle.std.specs.Option.{option_and_then}
use Rattle.ct_generics.specs.Expression.{Expression, parameter, named, applied}
use Rattle.ct_generics.specs.Declarations.{IsExpression}
use Rattle.ct_generics.specs.Denoted.{expression_at}
use Rattle.ct_generics.specs.Nodes.{Stands}
use Rattle.ct_generics.specs.declared.nodes.ExprId.{ExprId}
use Rattle.ct_generics.specs.declared.nodes.Node.{Node}
use Rattle.ct_generics.specs.declared.nodes.Node.TheVariants.{Param, Head as HeadNode, Apply}
use Rattle.ct_sorts.specs.declared.ids.SortId.{SortId}
use Rattle.ct_sorts.specs.Declarations.{Declarations, IsSort}
use Rattle.ct_instances.specs.Among.{origin_of}
use Rattle.ct_instances.specs.Matching.{Assignment, matched}

-- the number stands for an expression over so many parameters
abbrev pub IsField : Declarations → List Node → ℕ → ExprId → Type 0
IsField d nodes params id = (e : Expression) × Stands nodes id.0 e × IsExpression d.declared.heads params e

-- parameters were matched with sorts in the list
abbrev pub HoldSorts : Declarations → List (Option SortId) → Type 0
HoldSorts d sorts = All (λ (s : Option SortId). IfSome s (IsSort d)) sorts

-- what the parameters were matched with
abbrev pub assigned : Declarations → List (Option SortId) → Assignment
assigned d sorts = map (option_map (origin_of d)) sorts

-- a part matched with a sort, and several, in order
abbrev pub pair_matched : Declarations → List Node → ExprId → SortId → Assignment → Option Assignment
pair_matched d nodes id s m = matched (expression_at nodes id) (origin_of d s) m

abbrev pub pairs_matched : Declarations → List Node → List (ExprId × SortId) → Assignment → Option Assignment
pairs_matched d nodes [] m = Some m
pairs_matched d nodes (p ∷ ps) m = option_and_then (pairs_matched d nodes ps) (pair_matched d nodes p.0 p.1 m)

-- the parts are over so many parameters, and the sorts are in the list
abbrev pub ArePairs : Declarations → List Node → ℕ → List (ExprId × SortId) → Type 0
ArePairs d nodes params [] = Unit {0}
ArePairs d nodes params (p ∷ ps) = (IsField d nodes params p.0 × IsSort d p.1) × ArePairs d nodes params ps

-- parts beside sorts, as far as there are both
abbrev pub side_by_side : List ExprId → List SortId → List (ExprId × SortId)
side_by_side [] sorts = []
side_by_side (id ∷ ids) [] = []
side_by_side (id ∷ ids) (s ∷ sorts) = (id, s) ∷ side_by_side ids sorts

-- how large an expression is, and how much is left
abbrev pub size : Expression → ℕ
size (parameter i) = 1
size (named h) = 1
size (applied e a) = size e + size a

abbrev pub weight : List Node → List (ExprId × SortId) → ℕ
weight nodes [] = 0
weight nodes (p ∷ ps) = size (expression_at nodes p.0) + weight nodes ps

-- they match, with this assignment then, or they do not
abbrev pub HasMatched : Option Assignment → Assignment → Bool → Type 0
HasMatched found after true = found ≡ Some after
HasMatched found after false = found ≡ None

-- in place of the pair its parts are on the stack, or it does not match
abbrev pub IsParted : Declarations → List Node → ℕ → ExprId → SortId → List (ExprId × SortId) → List (ExprId × SortId) → Bool → Type 0
IsParted d nodes params id s old new true =
    (parts : List (ExprId × SortId)) × (reverse new ≡ parts ++ reverse old) × ArePairs d nodes params parts × (weight nodes parts < size (expression_at nodes id))
    × ((m : Assignment) → pair_matched d nodes id s m ≡ pairs_matched d nodes parts m)
IsParted d nodes params id s old new false = (new ≡ old) × ((m : Assignment) → pair_matched d nodes id s m ≡ None)

-- what is left then is what was left after the pair, or the pair does not match
abbrev pub GoesOn : Declarations → List Node → ExprId → SortId → List (ExprId × SortId) → List (ExprId × SortId) → Assignment → Assignment → Bool → Type 0
GoesOn d nodes id s old new before after true = option_and_then (pairs_matched d nodes (reverse old)) (pair_matched d nodes id s before) ≡ pairs_matched d nodes (reverse new) after
GoesOn d nodes id s old new before after false = pair_matched d nodes id s before ≡ None

-- the parameter that the node is, if it is one
abbrev pub parameter_in : Node → Option ℕ
parameter_in (Param i) = Some i
parameter_in (HeadNode h) = None
parameter_in (Apply m k) = None
