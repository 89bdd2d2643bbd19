-- The forms of binders and annotations, before their terms are looked at (SMT-LIB 2.7, section 3.6).
use Rattle.std.specs.Prelude.{ℕ, Bool, true, false, not, ◌&&◌, ◌||◌, List, [], ◌∷◌, Option, None, is_some, codes, if◌then◌else◌}
use Rattle.std.specs.Str.{bytes_eq}
use Rattle.ct_sexpr.specs.Atom.{symbol, keyword}
use Rattle.ct_names.specs.Parts.{Part, Parts, atom_part, list_part, no_parts, with_part, name_of}

-- the part is this word, written as a simple symbol
abbrev pub is_word : List ℕ → Part → Bool
is_word word (atom_part (symbol w)) = bytes_eq w word
is_word word e = false

-- the part is a name
abbrev pub is_name : Part → Bool
is_name e = is_some (name_of e)

-- `(x t)` for a name x
abbrev pub is_binding : Part → Bool
is_binding (list_part (with_part x (with_part t no_parts)) meaning) = is_name x
is_binding e = false

abbrev pub are_bindings : Parts → Bool
are_bindings no_parts = true
are_bindings (with_part b bs) = is_binding b && are_bindings bs

-- the name that a binding binds
abbrev pub bound_name : Part → Option (List ℕ)
bound_name (list_part (with_part x es) meaning) = name_of x
bound_name e = None

-- the names that bindings bind, in order
abbrev pub bound_names : Parts → List (Option (List ℕ))
bound_names no_parts = []
bound_names (with_part b bs) = bound_name b ∷ bound_names bs

-- what may stand in the place of a variable of a pattern: a name, or `_`
abbrev pub is_pattern_variable : Part → Bool
is_pattern_variable e = is_name e || is_word (codes "_") e

abbrev pub are_variables : Parts → Bool
are_variables no_parts = true
are_variables (with_part e es) = is_pattern_variable e && are_variables es

-- what may stand in the place of a pattern: a variable, or a name with variables
abbrev pub is_pattern : Part → Bool
is_pattern (atom_part a) = is_pattern_variable (atom_part a)
is_pattern (list_part no_parts meaning) = false
is_pattern (list_part (with_part c xs) meaning) = is_name c && are_variables xs

-- `(p t)` for a pattern p
abbrev pub is_case : Part → Bool
is_case (list_part (with_part p (with_part t no_parts)) meaning) = is_pattern p
is_case e = false

abbrev pub are_cases : Parts → Bool
are_cases no_parts = true
are_cases (with_part c cs) = is_case c && are_cases cs

-- the part is a keyword
abbrev pub is_keyword : Part → Bool
is_keyword (atom_part (keyword k)) = true
is_keyword e = false

-- the part is the keyword `:named`
abbrev pub is_named_attribute : Part → Bool
is_named_attribute (atom_part (keyword k)) = bytes_eq k (codes ":named")
is_named_attribute e = false

-- attributes from here on, where a value may stand first or may not: keywords, each with at most one value, none of them `:named`
abbrev pub are_attributes_from : Bool → Parts → Bool
are_attributes_from takes_value no_parts = true
are_attributes_from takes_value (with_part e es) = if is_keyword e then not (is_named_attribute e) && are_attributes_from true es else takes_value && are_attributes_from false es

-- one attribute or more
abbrev pub are_attributes : Parts → Bool
are_attributes no_parts = false
are_attributes (with_part e es) = are_attributes_from false (with_part e es)
