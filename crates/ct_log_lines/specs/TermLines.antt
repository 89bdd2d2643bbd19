-- Term lines, `(t N KIND ..)`: what kind of term stands under the number N, over which names and terms.
use Rattle.std.specs.Prelude.{ℕ, Bool, true, false, ◌&&◌, ◌==◌, nat_lt, length, List, [], ◌∷◌, Option, Some, None, is_some, not, find, option_and_then, if◌then◌else◌, codes, bytes_eq}
use Rattle.ct_sexpr.specs.Expression.{Expression, Expressions}
use Rattle.ct_terms.specs.Terms.{most_terms}
use Rattle.ct_log_lines.specs.declared.term_lines.TermKind.{TermKind}
use Rattle.ct_log_lines.specs.declared.term_lines.TermKind.TheVariants.{Con, Apply, Sel, Test, Eq, Not, And, Or, Iff, Ite}
use Rattle.ct_log_lines.specs.declared.term_lines.TermLine.{TermLine}
use Rattle.ct_log_lines.specs.Forms.{is_word, first_with_rest, parts_numbered, numbers_in, name_in, qualified_in}
use Rattle.ct_sexpr.specs.Written.{written}

-- the kinds of terms, and the word of each
abbrev pub kinds : List TermKind
kinds = Con ∷ (Apply ∷ (Sel ∷ (Test ∷ (Eq ∷ (Not ∷ (And ∷ (Or ∷ (Iff ∷ (Ite ∷ [])))))))))

abbrev pub kind_word : TermKind → List ℕ
kind_word Con = codes "con"
kind_word Apply = codes "app"
kind_word Sel = codes "sel"
kind_word Test = codes "is"
kind_word Eq = codes "="
kind_word Not = codes "not"
kind_word And = codes "and"
kind_word Or = codes "or"
kind_word Iff = codes "iff"
kind_word Ite = codes "ite"

-- the kind with this word
abbrev pub kind_in : Expression → Option TermKind
kind_in e = find (λ kind. is_word (kind_word kind) e) kinds

-- a constructor, a function, a selector or a tester stands before the terms, by its name
abbrev pub has_name : TermKind → Bool
has_name Con = true
has_name Apply = true
has_name Sel = true
has_name Test = true
has_name _ = false

-- the line may have so many terms; how many terms a constructor, a function, `and` and `or` have is no matter of form
abbrev pub may_have : TermKind → ℕ → Bool
may_have Con count = true
may_have Apply count = true
may_have Sel count = count == 1
may_have Test count = count == 1
may_have Eq count = count == 2
may_have Not count = count == 1
may_have And count = true
may_have Or count = true
may_have Iff count = count == 2
may_have Ite count = count == 3

-- a constructor stands before the terms, by its name or as `(as C S)`
abbrev pub has_ctor : TermKind → Bool
has_ctor Con = true
has_ctor Test = true
has_ctor _ = false

-- the line of a kind with this name, this text of a sort and these numbers of terms
abbrev pub line_over : TermKind → List ℕ → Option (List ℕ) → List ℕ → Option TermLine
line_over kind name sort numbers = if may_have kind (length numbers) then Some (record { kind = kind; name = name; sort = sort; numbers = numbers }) else None

-- the line of a kind with this name and this text of a sort and what stands after it
abbrev pub line_named : TermKind → List ℕ → Option (List ℕ) → Expressions → Option TermLine
line_named kind name sort parts = option_and_then (line_over kind name sort) (numbers_in parts)

-- the line of a kind whose constructor stands first, as `(as C S)`
abbrev pub line_after_qualified : TermKind → Expression × Expressions → Option TermLine
line_after_qualified kind parts = if has_ctor kind then option_and_then (λ q. line_named kind q.0 (Some (written q.1)) parts.1) (qualified_in parts.0) else None

abbrev pub line_with_name : TermKind → Expression × Expressions → Option (List ℕ) → Option TermLine
line_with_name kind parts None = line_after_qualified kind parts
line_with_name kind parts (Some name) = line_named kind name None parts.1

-- the line of a kind whose name stands first
abbrev pub line_after_name : TermKind → Expression × Expressions → Option TermLine
line_after_name kind parts = line_with_name kind parts (name_in parts.0)

-- the line of a kind and what stands after its word; where no name belongs to it, its name is empty
abbrev pub line_of_kind : TermKind → Expressions → Option TermLine
line_of_kind kind parts = if has_name kind then option_and_then (line_after_name kind) (first_with_rest parts) else line_named kind [] None parts

-- the line whose kind stands first
abbrev pub line_after_kind : Expression × Expressions → Option TermLine
line_after_kind parts = option_and_then (λ kind. line_of_kind kind parts.1) (kind_in parts.0)

-- the term line with the number n that the expression is; a table has no more than `most_terms` of them
abbrev pub term_line : ℕ → Expression → Option TermLine
term_line n e = if nat_lt n most_terms then option_and_then line_after_kind (option_and_then first_with_rest (parts_numbered (codes "t") n e)) else None

-- the kind is that of constructor terms
abbrev pub is_con : TermKind → Bool
is_con Con = true
is_con _ = false

-- the line is that of a constructor with this name alone
abbrev pub is_alone : List ℕ → Option TermLine → Bool
is_alone name None = false
is_alone name (Some line) = is_con line.kind && (bytes_eq line.name name && (not (is_some line.sort) && length line.numbers == 0))
