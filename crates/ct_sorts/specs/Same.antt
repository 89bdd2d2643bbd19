-- The number of a sort by what it is.
use Rattle.std.specs.Prelude.{ℕ, Bool, false, ◌&&◌, ◌==◌, List, Option, unwrap_or, position}
use Rattle.ct_sorts.specs.declared.ids.SortId.{SortId}
use Rattle.ct_generics.specs.Expression.{Expression, parameter, named, applied}

-- whether two sort expressions are one
abbrev pub is_same : Expression → Expression → Bool
is_same (parameter i) (parameter j) = i == j
is_same (named g) (named h) = g == h
is_same (applied e a) (applied f b) = is_same e f && is_same a b
is_same (parameter i) (named h) = false
is_same (parameter i) (applied f b) = false
is_same (named g) (parameter j) = false
is_same (named g) (applied f b) = false
is_same (applied e a) (parameter j) = false
is_same (applied e a) (named h) = false

-- the number of the sort among these, if it is one of them
abbrev pub number_among : List Expression → Expression → Option ℕ
number_among origins e = position (is_same e) origins

-- the number of a sort that is one of these
abbrev pub sort_among : List Expression → Expression → SortId
sort_among origins e = record { 0 = unwrap_or (number_among origins e) 0 }
