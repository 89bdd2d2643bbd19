-- Sort expressions of fields matched with sorts: for which sorts the parameters stand. A parameter stands for what it was matched
-- with first.
use Rattle.std.specs.Prelude.{ℕ, zero, suc, ◌==◌, List, [], ◌∷◌, replicate, Option, Some, None, option_map, slice_get, if◌then◌else◌}
use Rattle.std.specs.Option.{option_and_then}
use Rattle.ct_generics.specs.Expression.{Expression, parameter, named, applied}
use Rattle.ct_sorts.specs.Same.{is_same}

-- for each parameter what it was matched with, where it was
abbrev pub Assignment : Type 0
Assignment = List (Option Expression)

-- none of so many parameters was matched
abbrev pub unmatched : ℕ → Assignment
unmatched params = replicate params None

-- the parameter stands for this from now on
abbrev pub assign : ℕ → Expression → Assignment → Assignment
assign i e [] = []
assign zero e (first ∷ rest) = Some e ∷ rest
assign (suc i) e (first ∷ rest) = first ∷ assign i e rest

-- the parameter matched with a sort, where this is what it was matched with first
abbrev pub matched_parameter : ℕ → Expression → Assignment → Option (Option Expression) → Option Assignment
matched_parameter i e m None = None
matched_parameter i e m (Some None) = Some (assign i e m)
matched_parameter i e m (Some (Some first)) = if is_same first e then Some m else None

-- an expression of a field matched with a sort; none where they do not match
abbrev pub matched : Expression → Expression → Assignment → Option Assignment
matched (parameter i) e m = matched_parameter i e m (slice_get m i)
matched (named g) (named h) m = if g == h then Some m else None
matched (applied f a) (applied e b) m = option_and_then (matched a b) (matched f e m)
matched (named g) (parameter i) m = None
matched (named g) (applied e b) m = None
matched (applied f a) (parameter i) m = None
matched (applied f a) (named h) m = None

-- the first fields matched with sorts, from left to right; there are no more sorts than fields
abbrev pub all_matched : List Expression → List Expression → Assignment → Option Assignment
all_matched fields [] m = Some m
all_matched [] (e ∷ sorts) m = None
all_matched (field ∷ fields) (e ∷ sorts) m = option_and_then (all_matched fields sorts) (matched field e m)

-- the sorts for which the parameters stand, where each was matched
abbrev pub sorts_for : Assignment → Option (List Expression)
sorts_for [] = Some []
sorts_for (None ∷ rest) = None
sorts_for (Some e ∷ rest) = option_map (λ es. e ∷ es) (sorts_for rest)
