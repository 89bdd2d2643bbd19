-- What the text of a sort reads back as where it was printed.
use Rattle.std.proofs.Common.{◌≡◌, ℕ, suc, Bool, true, false, ◌&&◌, List, [], ◌∷◌, ◌++◌, Option, None, Some, option_map, unwrap_or, is_some, bytes_eq, refl, sym, ap, ◌∙◌, arith, true≢false}
use Rattle.std.proofs.lemmas.Option.{none-some, same_Some}
use Rattle.ct_lemmas.proofs.Booleans.{both_parts, both_true}
use Rattle.ct_generics.specs.Expression.{Expression as Sort, parameter, named, applied, head_of, args_of}
use Rattle.ct_generics.specs.Declarations.{Head, Takes}
use Rattle.ct_sorts.specs.declared.ids.SortId.{SortId}
use Rattle.ct_sorts.specs.Consistent.{IsConsistent}
use Rattle.ct_sorts.specs.Declarations.{Declarations, IsSort}
use Rattle.ct_sorts.specs.SortText.{head_name, as_written, items_of}
use Rattle.ct_instances.specs.Among.{origin_of}
use Rattle.ct_instances.proofs.CtorNameLemmas.{origin_at}
use Rattle.ct_sexpr.specs.Atom.{quoted}
use Rattle.ct_sexpr.specs.Expression.{Expression, leaf, list, Expressions, none, more, with_last}
use Rattle.ct_sexpr.specs.Written.{canonical, canonical_each}
use Rattle.ct_value_text.specs.ValueText.{sort_expression}
use Rattle.ct_readback.specs.Words.{name_in, is_name, is_named}
use Rattle.ct_readback.specs.Parts.{are_some}
use Rattle.ct_readback.specs.SortText.{is_sort_text, is_sort_list, are_sort_texts, are_none, says, says_items, says_each, says_head, says_sort}
use Rattle.ct_readback.proofs.PrintedWords.{read_name, named_own}

-- ---- how a sort is written

-- the arguments of a sort as they are written
abbrev pub written_args : List Head → List Sort → Expressions
written_args heads [] = none
written_args heads (a ∷ args) = more (as_written heads a) (written_args heads args)

args_last : (heads : List Head) (args : List Sort) (a : Sort) → with_last (written_args heads args) (as_written heads a) ≡ written_args heads (args ++ a ∷ [])
args_last heads [] a = refl
args_last heads (b ∷ args) a = ap (more (as_written heads b)) (args_last heads args a)

-- the name of the head, and then the arguments
items_are : (heads : List Head) (e : Sort) (h : ℕ) → head_of e ≡ Some h → items_of heads e ≡ more (leaf (quoted (head_name heads h))) (written_args heads (args_of e))
items_are heads (parameter i) h is = absurd (none-some h is)
items_are heads (named k) h is = ap (λ (n : ℕ). more (leaf (quoted (head_name heads n))) none) (same_Some k h is)
items_are heads (applied e a) h is =
    ap (λ (es : Expressions). with_last es (as_written heads a)) (items_are heads e h is)
    ∙ ap (more (leaf (quoted (head_name heads h)))) (args_last heads (args_of e) a)

head_there : (heads : List Head) (m : ℕ) (e : Sort) → Takes heads 0 m e → (h : ℕ) × (head_of e ≡ Some h)
head_there heads m (parameter i) takes = absurd (omega (arith, takes.1))
head_there heads m (named h) takes = (h, refl)
head_there heads m (applied e a) takes = head_there heads (suc m) e takes.0

-- ---- what is written is the text of the sort

head_says : (heads : List Head) (e : Sort) (h : ℕ) → head_of e ≡ Some h → says_head heads (head_of e) (read_name (head_name heads h)) ≡ true
head_says heads e h is = ap (λ (o : Option ℕ). says_head heads o (read_name (head_name heads h))) is ∙ named_own (head_name heads h)

each_last : (heads : List Head) (args : List Sort) (a : Sort) → says_each heads args (canonical_each (written_args heads args)) ≡ true → says heads a (canonical (as_written heads a)) ≡ true
    → says_each heads (args ++ a ∷ []) (canonical_each (written_args heads (args ++ a ∷ []))) ≡ true
each_last heads [] a all one = both_true (says heads a (canonical (as_written heads a))) true one refl
each_last heads (b ∷ args) a all one =
    let parts = both_parts (says heads b (canonical (as_written heads b))) (says_each heads args (canonical_each (written_args heads args))) all in
    both_true (says heads b (canonical (as_written heads b))) (says_each heads (args ++ a ∷ []) (canonical_each (written_args heads (args ++ a ∷ [])))) parts.0 (each_last heads args a parts.1 one)

some_args : (heads : List Head) (args : List Sort) (a : Sort) → are_some (canonical_each (written_args heads (args ++ a ∷ []))) ≡ true
some_args heads [] a = refl
some_args heads (b ∷ args) a = refl

items_say : (heads : List Head) (e a : Sort) (h : ℕ) → head_of e ≡ Some h → says_each heads (args_of e ++ a ∷ []) (canonical_each (written_args heads (args_of e ++ a ∷ []))) ≡ true → says heads (applied e a) (canonical (as_written heads (applied e a))) ≡ true
items_say heads e a h is each =
    let args = canonical_each (written_args heads (args_of e ++ a ∷ [])) in
    ap (λ (es : Expressions). says_items heads (applied e a) (canonical_each es)) (items_are heads (applied e a) h is)
    ∙ both_true (says_head heads (head_of e) (read_name (head_name heads h))) (are_some args && says_each heads (args_of e ++ a ∷ []) args)
    (head_says heads e h is)
    (both_true (are_some args) (says_each heads (args_of e ++ a ∷ []) args) (some_args heads (args_of e) a) each)

mutual
  sort_says : (heads : List Head) (e : Sort) → Takes heads 0 0 e → says heads e (canonical (as_written heads e)) ≡ true
  sort_says heads (parameter i) takes = absurd (omega (arith, takes.1))
  sort_says heads (named h) takes = named_own (head_name heads h)
  sort_says heads (applied e a) takes =
      let head = head_there heads 1 e takes.0 in
      items_say heads e a head.0 head.1 (each_last heads (args_of e) a (args_say heads 1 e takes.0) (sort_says heads a takes.1))

  args_say : (heads : List Head) (m : ℕ) (e : Sort) → Takes heads 0 m e → says_each heads (args_of e) (canonical_each (written_args heads (args_of e))) ≡ true
  args_say heads m (parameter i) takes = refl
  args_say heads m (named h) takes = refl
  args_say heads m (applied e a) takes = each_last heads (args_of e) a (args_say heads (suc m) e takes.0) (sort_says heads a takes.1)

-- ---- the text of a sort has the form of one

name_by : (bytes : List ℕ) (o : Option (List ℕ)) → unwrap_or (option_map (bytes_eq bytes) o) false ≡ true → is_some o ≡ true
name_by bytes None h = h
name_by bytes (Some own) h = refl

head_form : (heads : List Head) (o : Option ℕ) (x : Expression) → says_head heads o x ≡ true → is_name x ≡ true
head_form heads None x h = absurd (true≢false (sym h))
head_form heads (Some g) x h = name_by (head_name heads g) (name_in x) h

mutual
  says_form : (heads : List Head) (s : Sort) (x : Expression) → says heads s x ≡ true → is_sort_text x ≡ true
  says_form heads s (leaf a) h = head_form heads (head_of s) (leaf a) (both_parts (are_none (args_of s)) (says_head heads (head_of s) (leaf a)) h).1
  says_form heads s (list es) h = items_form heads s es h

  items_form : (heads : List Head) (s : Sort) (es : Expressions) → says_items heads s es ≡ true → is_sort_list es ≡ true
  items_form heads s none h = h
  items_form heads s (more e es) h =
      let parts = both_parts (says_head heads (head_of s) e) (are_some es && says_each heads (args_of s) es) h in
      let args = both_parts (are_some es) (says_each heads (args_of s) es) parts.1 in
      both_true (is_name e) (are_some es && are_sort_texts es) (head_form heads (head_of s) e parts.0)
      (both_true (are_some es) (are_sort_texts es) args.0 (each_form heads (args_of s) es args.1))

  each_form : (heads : List Head) (sorts : List Sort) (es : Expressions) → says_each heads sorts es ≡ true → are_sort_texts es ≡ true
  each_form heads [] none h = refl
  each_form heads (s ∷ sorts) none h = refl
  each_form heads [] (more e es) h = absurd (true≢false (sym h))
  each_form heads (s ∷ sorts) (more e es) h =
      let parts = both_parts (says heads s e) (says_each heads sorts es) h in
      both_true (is_sort_text e) (are_sort_texts es) (says_form heads s e parts.0) (each_form heads sorts es parts.1)

-- ---- sorts of declarations

-- a sort as it reads back
abbrev pub read_sort : Declarations → SortId → Expression
read_sort d s = canonical (sort_expression d s.0)

pub sort_reads : (d : Declarations) → IsConsistent d → (s : SortId) → IsSort d s → says_sort d s (read_sort d s) ≡ true
sort_reads d consistent s within = sort_says d.declared.heads (origin_of d s) (consistent.origins.sorts s.0 (origin_of d s) (origin_at d consistent s within))

pub sort_form : (d : Declarations) → IsConsistent d → (s : SortId) → IsSort d s → is_sort_text (read_sort d s) ≡ true
sort_form d consistent s within = says_form d.declared.heads (origin_of d s) (read_sort d s) (sort_reads d consistent s within)
