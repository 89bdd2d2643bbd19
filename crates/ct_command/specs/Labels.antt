-- The forms of assertions and of assumptions (SMT-LIB 2.7, sections 3.6.5, 3.9 and 4.2.5): a term with a label, and terms.
use Rattle.std.specs.Prelude.{ℕ, Bool, true, false, ◌&&◌, List, [], ◌∷◌, Option, Some, None, is_some, option_map, codes, if◌then◌else◌}
use Rattle.std.specs.List.{list_any}
use Rattle.std.specs.Str.{bytes_eq}
use Rattle.ct_sexpr.specs.Expression.{Expression}
use Rattle.ct_command.specs.Command.{Command, assert, check_sat_assuming}
use Rattle.ct_command.specs.Items.{name_of, word_of, keyword_of, items_of}

-- these bytes are there, and are those
abbrev pub is_that : List ℕ → Option (List ℕ) → Bool
is_that wanted None = false
is_that wanted (Some bytes) = bytes_eq bytes wanted

-- the expression is the keyword `:named`
abbrev pub is_named : Expression → Bool
is_named e = is_that (codes ":named") (keyword_of e)

-- behind `:named` stands a name, and `:named` does not stand again
abbrev pub label_after : List Expression → Option (Option (List ℕ))
label_after [] = None
label_after (n ∷ es) = if list_any is_named es then None else option_map (λ name. Some name) (name_of n)

-- The label that attributes give, which may be none; nothing where `:named` stands among them in another way than once before a
-- name.
abbrev pub label_in : List Expression → Option (Option (List ℕ))
label_in [] = Some None
label_in (e ∷ es) = if is_named e then label_after es else label_in es

-- attributes from here on, where a value may stand first or may not: keywords, each with at most one value, which is no keyword
abbrev pub are_attributes : Bool → List Expression → Bool
are_attributes takes_value [] = true
are_attributes takes_value (e ∷ es) = if is_some (keyword_of e) then are_attributes true es else takes_value && are_attributes false es

-- A labelled term stands for the term without its attributes. Where these have another form the whole is left, which is no term.
abbrev pub labelled : Expression → Expression → List Expression → Option (List ℕ) → Command
labelled whole t attributes None = assert whole None
labelled whole t attributes (Some name) = if are_attributes false attributes then assert t (Some name) else assert whole None

-- `! t K v ..`, or other items
abbrev pub annotated : Expression → List Expression → Option Command
annotated whole (word ∷ (t ∷ attributes)) =
    if is_that (codes "!") (word_of word) then option_map (labelled whole t attributes) (label_in attributes) else Some (assert whole None)
annotated whole es = Some (assert whole None)

-- what is asserted, by its items where it is a list
abbrev pub asserted_by : Expression → Option (List Expression) → Option Command
asserted_by whole None = Some (assert whole None)
asserted_by whole (Some es) = annotated whole es

-- `t`, which has a label where its outermost form is `(! t .. :named n ..)`
abbrev pub asserted : List Expression → Option Command
asserted (t ∷ []) = asserted_by t (items_of t)
asserted es = None

-- `(t ..)`
abbrev pub assumed : List Expression → Option Command
assumed (ts ∷ []) = option_map check_sat_assuming (items_of ts)
assumed es = None
