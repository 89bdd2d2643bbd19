-- What the name of a term line stands for beside the sorts of its terms: a constructor of an instance is found by the sorts of its
-- arguments, or of the term that is tested, where the sorts of its fields determine its own, and else by the sort that is written; a
-- selector by the sort of its term.
use Rattle.std.specs.Prelude.{ℕ, Bool, true, false, List, [], ◌∷◌, Option, Some, None, option_map, option_and_then, position}
use Rattle.std.specs.Str.{bytes_eq}
use Rattle.ct_generics.specs.Expression.{Expression, named, with_args}
use Rattle.ct_sorts.specs.declared.ids.SortId.{SortId}
use Rattle.ct_sorts.specs.declared.ids.CtorId.{CtorId}
use Rattle.ct_sorts.specs.declared.ids.GenId.{GenId}
use Rattle.ct_sorts.specs.declared.ids.Symbol.{Symbol}
use Rattle.ct_sorts.specs.declared.ids.Symbol.TheVariants.{Ctor, Sel, GenCtor, GenSel}
use Rattle.ct_sorts.specs.Declarations.{Declarations}
use Rattle.ct_sorts.specs.Same.{number_among}
use Rattle.ct_sorts.specs.SortText.{sort_text}
use Rattle.ct_instances.specs.declared.among.NamedCtor.TheVariants.{Generic}
use Rattle.ct_instances.specs.Among.{ctor_among, field_among}
use Rattle.ct_instances.specs.Matching.{Assignment, sorts_for}
use Rattle.ct_instances.specs.Fields.{is_determined, field_matches}
use Rattle.ct_log_lines.specs.declared.term_lines.TermKind.{TermKind}
use Rattle.ct_log_lines.specs.declared.term_lines.TermKind.TheVariants.{Test}
use Rattle.ct_log_lines.specs.declared.term_lines.TermLine.{TermLine}

abbrev pub first_sort : List SortId → Option SortId
first_sort [] = None
first_sort (s ∷ sorts) = Some s

-- the sort with this text
abbrev pub sort_with_text : Declarations → List ℕ → Option SortId
sort_with_text d text = option_map (λ n. record { 0 = n }) (position (λ e. bytes_eq (sort_text d.declared.heads e) text) d.origins)

-- the sort that is the generic at these
abbrev pub sort_at : Declarations → GenId → List Expression → Option SortId
sort_at d g es = option_map (λ n. record { 0 = n }) (number_among d.origins (with_args (named g.0) es))

-- the sort of a constructor term, by the sorts of its arguments
abbrev pub sort_of_arguments : Declarations → GenId → ℕ → List SortId → Option SortId
sort_of_arguments d g i sorts = option_and_then (λ (m : Assignment). option_and_then (sort_at d g) (sorts_for m)) (field_matches d g i sorts)

-- the sort of the constructor in a line of this kind
abbrev pub sort_in : Declarations → TermKind → GenId → ℕ → List SortId → Option SortId
sort_in d Test g i sorts = first_sort sorts
sort_in d kind g i sorts = sort_of_arguments d g i sorts

-- constructor `i` of the generic, by the sort that is written, or without it
abbrev pub ctor_by : Declarations → TermKind → GenId → ℕ → List SortId → Bool → Option (List ℕ) → Option CtorId
ctor_by d kind g i sorts true None = option_and_then (ctor_among d (Generic g i)) (sort_in d kind g i sorts)
ctor_by d kind g i sorts false (Some text) = option_and_then (ctor_among d (Generic g i)) (sort_with_text d text)
ctor_by d kind g i sorts true (Some text) = None
ctor_by d kind g i sorts false None = None

-- a symbol beside which no sort is written
abbrev pub without_sort : Symbol → Option (List ℕ) → Option Symbol
without_sort s None = Some s
without_sort s (Some text) = None

-- what the name of the line stands for, where it resolves to this, and its terms have these sorts
abbrev pub symbol_at : Declarations → TermLine → List SortId → Option Symbol → Option Symbol
symbol_at d line sorts None = None
symbol_at d line sorts (Some (GenCtor g i)) = option_map Ctor (ctor_by d line.kind g i sorts (is_determined d g i) line.sort)
symbol_at d line sorts (Some (GenSel g i k)) = option_map Sel (option_and_then (field_among d g i k) (first_sort sorts))
symbol_at d line sorts (Some s) = without_sort s line.sort
