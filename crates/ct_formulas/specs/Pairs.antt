-- What is said of neighbours in a list, and of all pairs of it: the chainable and the pairwise operators (SMT-LIB 2.7, section 3.7).
use Rattle.std.specs.Prelude.{List, [], ◌∷◌, ◌++◌, map}

-- each element with the one after it, in order
abbrev pub neighbours_from : {X Y : Type 0} → (X → X → Y) → X → List X → List Y
neighbours_from f x [] = []
neighbours_from f x (y ∷ ys) = f x y ∷ neighbours_from f y ys

abbrev pub neighbours : {X Y : Type 0} → (X → X → Y) → List X → List Y
neighbours f [] = []
neighbours f (x ∷ xs) = neighbours_from f x xs

-- each element with each later one, in order
abbrev pub pairs : {X Y : Type 0} → (X → X → Y) → List X → List Y
pairs f [] = []
pairs f (x ∷ xs) = map (f x) xs ++ pairs f xs
