-- How a derivation is written: the items of a record, one a line.
use Rattle.std.specs.Prelude.{ℕ, ◌+◌, List, [], ◌∷◌, ◌++◌, unwrap_or, slice_get, length, map, if◌then◌else◌, codes}
use Rattle.ct_sexpr.specs.Atom.{symbol, quoted, numeral}
use Rattle.ct_sexpr.specs.Expression.{Expression, leaf, list, Expressions, none, more, word}
use Rattle.ct_sexpr.specs.Written.{written, is_simple, canonical}
use Rattle.ct_sorts.specs.declared.ids.CtorId.{CtorId}
use Rattle.ct_sorts.specs.declared.ids.SortId.{SortId}
use Rattle.ct_sorts.specs.SortText.{as_written}
use Rattle.ct_instances.specs.Among.{origin_of}
use Rattle.ct_instances.specs.Fields.{is_ctor_determined, sort_of_ctor}
use Rattle.ct_sorts.specs.Declarations.{Declarations, IsConstructor, IsSelector, IsFunction, ctor_names, sel_names, function_names}
use Rattle.ct_terms.specs.declared.ids.TermId.{TermId}
use Rattle.ct_terms.specs.declared.ids.Lit.{Lit}
use Rattle.ct_terms.specs.declared.term.Core.{Core}
use Rattle.ct_terms.specs.declared.term.Core.TheVariants as cores
use Rattle.ct_terms.specs.Children.{CoreHead, con_head, sel_head, test_head, apply_head, eq_head, not_head, and_head, or_head, iff_head, ite_head, core_head, core_children}
use Rattle.ct_terms.specs.Terms.{Terms}
use Rattle.ct_log.specs.declared.rules.Gate.{Gate}
use Rattle.ct_log.specs.declared.rules.Entry.{Entry}
use Rattle.ct_log.specs.declared.rules.Entry.TheVariants as entries
use Rattle.ct_log.specs.declared.rules.Pair.{Pair}
use Rattle.ct_log.specs.declared.rules.Hop.{Hop}
use Rattle.ct_log.specs.declared.rules.EqStep.{EqStep}
use Rattle.ct_log.specs.declared.rules.EqStep.TheVariants.{Hyp, Refl, Sym, Trans, Cong, Inject, Sel, Test, Expand, EqualIn, EqualOut, Neg, Single, Unique}
use Rattle.ct_log.specs.declared.rules.Close.{Close}
use Rattle.ct_log.specs.declared.rules.Close.TheVariants.{Clash, Cycle}
use Rattle.ct_log.specs.declared.line.Line.{Line}
use Rattle.ct_log.specs.declared.line.Step.{Step}
use Rattle.ct_log.specs.declared.line.Step.TheVariants as steps
use Rattle.ct_log.specs.Recorded.{Recorded}
use Rattle.ct_log_lines.specs.declared.term_lines.TermKind.{TermKind}
use Rattle.ct_log_lines.specs.declared.term_lines.TermKind.TheVariants as kind
use Rattle.ct_log_lines.specs.TermLines.{kind_word}
use Rattle.ct_log_lines.specs.Gates.{gate_name, has_term, has_place}

-- numbers
abbrev pub number : ℕ → Expression
number n = leaf (numeral n)

abbrev pub numbers : List ℕ → Expressions
numbers [] = none
numbers (n ∷ ns) = more (number n) (numbers ns)

-- the numbers of terms
abbrev pub term_numbers : List TermId → List ℕ
term_numbers ts = map (λ t. t.0) ts

-- a name, quoted where it needs to be
abbrev pub name : List ℕ → Expression
name bytes = leaf (if is_simple bytes then symbol bytes else quoted bytes)

-- a list that begins with a word
abbrev pub row : List ℕ → Expressions → Expression
row text parts = list (more (word text) parts)

-- what stands for each, one after another
abbrev pub items_as : {X : Type 0} → (X → Expression) → List X → Expressions
items_as item [] = none
items_as item (x ∷ xs) = more (item x) (items_as item xs)

-- the kind of a term
abbrev pub kind_of_head : CoreHead → TermKind
kind_of_head (con_head c) = kind.Con
kind_of_head (sel_head s) = kind.Sel
kind_of_head (test_head c) = kind.Test
kind_of_head (apply_head f) = kind.Apply
kind_of_head eq_head = kind.Eq
kind_of_head not_head = kind.Not
kind_of_head and_head = kind.And
kind_of_head or_head = kind.Or
kind_of_head iff_head = kind.Iff
kind_of_head ite_head = kind.Ite

abbrev pub kind_of : Core → TermKind
kind_of core = kind_of_head (core_head core)

-- a sort: its name, or the list of the generic's name and the arguments
abbrev pub sort_item : Declarations → SortId → Expression
sort_item d s = canonical (as_written d.declared.heads (origin_of d s))

-- a constructor with its sort, `(as C S)`
abbrev pub qualified_item : Declarations → CtorId → Expression
qualified_item d c = row (codes "as") (more (name (unwrap_or (slice_get (ctor_names d) c.0) [])) (more (sort_item d (sort_of_ctor d c)) none))

-- a constructor: its name, or `(as C S)` where the sorts of its fields do not determine its own
abbrev pub ctor_item : Declarations → CtorId → Expression
ctor_item d c = if is_ctor_determined d c then name (unwrap_or (slice_get (ctor_names d) c.0) []) else qualified_item d c

-- what stands after the word of a term: the name at its head, where it has one, and the numbers of the terms under it
abbrev pub with_head_name : Declarations → CoreHead → Expressions → Expressions
with_head_name d (con_head c) parts = more (ctor_item d c) parts
with_head_name d (sel_head s) parts = more (name (unwrap_or (slice_get (sel_names d) s.0) [])) parts
with_head_name d (test_head c) parts = more (ctor_item d c) parts
with_head_name d (apply_head f) parts = more (name (unwrap_or (slice_get (function_names d) f.0) [])) parts
with_head_name d eq_head parts = parts
with_head_name d not_head parts = parts
with_head_name d and_head parts = parts
with_head_name d or_head parts = parts
with_head_name d iff_head parts = parts
with_head_name d ite_head parts = parts

abbrev pub core_parts : Declarations → Core → Expressions
core_parts d core = with_head_name d (core_head core) (numbers (term_numbers (core_children core)))

-- the term line with the number n
abbrev pub term_item : Declarations → ℕ → Core → Expression
term_item d n core = row (codes "t") (more (number n) (more (word (kind_word (kind_of core))) (core_parts d core)))

-- literals
abbrev pub literal : Lit → Expression
literal l = if l.positive then number l.term.0 else row (codes "not") (numbers (l.term.0 ∷ []))

-- the entries and the pairs of a step of uniqueness, and the terms of a cycle
abbrev pub entry_item : Entry → Expression
entry_item (entries.Step i) = number i
entry_item (entries.Pair k i j) = row (codes "pair") (numbers (k ∷ (i ∷ (j ∷ []))))

abbrev pub pair_item : Pair → Expression
pair_item pair = list (more (number pair.left.0) (more (number pair.right.0) (items_as entry_item pair.entries)))

abbrev pub hop_item : Hop → Expression
hop_item hop = list (numbers (hop.con.0 ∷ (hop.place ∷ (hop.step ∷ []))))

-- equality steps
abbrev pub step_item : EqStep → Expression
step_item (Hyp l) = row (codes "hyp") (more (literal l) none)
step_item (Refl t) = row (codes "refl") (numbers (t.0 ∷ []))
step_item (Sym i) = row (codes "sym") (numbers (i ∷ []))
step_item (Trans i j) = row (codes "trans") (numbers (i ∷ (j ∷ [])))
step_item (Cong t u is) = row (codes "cong") (numbers (t.0 ∷ (u.0 ∷ is)))
step_item (Inject i k) = row (codes "inject") (numbers (i ∷ (k ∷ [])))
step_item (Sel t i) = row (codes "sel") (numbers (t.0 ∷ (i ∷ [])))
step_item (Test t i) = row (codes "test") (numbers (t.0 ∷ (i ∷ [])))
step_item (Expand i c) = row (codes "expand") (numbers (i ∷ (c.0 ∷ [])))
step_item (EqualIn t i) = row (codes "equal-in") (numbers (t.0 ∷ (i ∷ [])))
step_item (EqualOut i) = row (codes "equal-out") (numbers (i ∷ []))
step_item (Neg t i) = row (codes "neg") (numbers (t.0 ∷ (i ∷ [])))
step_item (Single x y) = row (codes "single") (numbers (x.0 ∷ (y.0 ∷ [])))
step_item (Unique p pairs) = row (codes "unique") (more (number p) (items_as pair_item pairs))

-- how a theory line ends
abbrev pub close_item : Close → Expression
close_item (Clash i) = row (codes "clash") (numbers (i ∷ []))
close_item (Cycle hops) = row (codes "cycle") (items_as hop_item hops)

-- the term and the place of a gate, where it has them
abbrev pub gate_numbers : Gate → TermId → ℕ → List ℕ
gate_numbers gate t place = if has_place gate then t.0 ∷ (place ∷ []) else (if has_term gate then t.0 ∷ [] else [])

-- the rule of a line
abbrev pub rule_parts : Step → Expressions
rule_parts (steps.Input t) = more (word (codes "input")) (numbers (t.0 ∷ []))
rule_parts (steps.Gate gate t place) = more (word (codes "gate")) (more (word (gate_name gate)) (numbers (gate_numbers gate t place)))
rule_parts (steps.Exhaust t) = more (word (codes "exhaust")) (numbers (t.0 ∷ []))
rule_parts (steps.Theory all close) = more (word (codes "theory")) (more (list (items_as step_item all)) (more (close_item close) none))
rule_parts (steps.Learn hints) = more (word (codes "learn")) (numbers hints)

-- the line with the number n
abbrev pub line_item : ℕ → Line → Expression
line_item n line = row (codes "s") (more (number n) (more (list (items_as literal line.clause)) (rule_parts line.step)))

-- the first and the last item
abbrev pub header_item : ℕ → Expression
header_item k = row (codes "cosmt-derivation") (numbers (k ∷ []))

abbrev pub end_item : ℕ → Expression
end_item m = row (codes "end") (numbers (m ∷ []))

-- term lines with numbers from n on, and lines, before other items
abbrev pub term_items : Declarations → ℕ → Terms → Expressions → Expressions
term_items d n [] after = after
term_items d n ((core, sort) ∷ terms) after = more (term_item d n core) (term_items d (n + 1) terms after)

abbrev pub line_items : ℕ → List Line → Expressions → Expressions
line_items n [] after = after
line_items n (line ∷ lines) after = more (line_item n line) (line_items (n + 1) lines after)

-- the expression of a record with the number of a check
abbrev pub expression_of_record : Declarations → ℕ → Recorded → Expression
expression_of_record d k rec =
    list (more (header_item k) (term_items d 0 rec.terms (line_items 1 rec.lines (more (end_item (length rec.lines)) none))))

-- the items, one a line
abbrev pub item_lines : Expressions → List ℕ
item_lines none = []
item_lines (more e es) = written e ++ 10 ∷ item_lines es

-- a list with one item a line
abbrev pub text_of : Expression → List ℕ
text_of (leaf a) = written (leaf a)
text_of (list es) = 40 ∷ (10 ∷ (item_lines es ++ 41 ∷ []))

-- what the term names is declared
abbrev pub IsNamed : Declarations → Core → Type 0
IsNamed d (cores.Con c args) = IsConstructor d c
IsNamed d (cores.Sel s t) = IsSelector d s
IsNamed d (cores.Test c t) = IsConstructor d c
IsNamed d (cores.Apply f args) = IsFunction d f
IsNamed d core = Unit {0}
