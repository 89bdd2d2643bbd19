-- A constructor with its sort is read back: the text of a sort has the form of a sort.
use Rattle.std.proofs.Common.{◌≡◌, ℕ, suc, ◌&&◌, true, is_some, List, [], unwrap_or, Some, slice_get, refl, sym, ◌∙◌, ap, subst, arith}
use Rattle.ct_lemmas.proofs.Booleans.{both_true, both_parts}
use Rattle.ct_generics.specs.Expression.{Expression, parameter, named, applied}
use Rattle.ct_generics.specs.Declarations.{Head, Takes}
use Rattle.ct_sexpr.specs.Expression.{Expression as Sexpr, Expressions as Sexprs, none, more, with_last}
use Rattle.ct_sexpr.specs.Written.{canonical, canonical_each}
use Rattle.ct_sorts.specs.declared.ids.CtorId.{CtorId}
use Rattle.ct_sorts.specs.Consistent.{IsConsistent}
use Rattle.ct_sorts.specs.Declarations.{Declarations, IsSort, ctor_names}
use Rattle.ct_sorts.specs.SortText.{as_written, items_of, head_name}
use Rattle.ct_instances.specs.Among.{origin_of}
use Rattle.ct_instances.specs.Fields.{sort_of_ctor}
use Rattle.ct_instances.proofs.CtorNameLemmas.{origin_at}
use Rattle.ct_log_lines.specs.Forms.{is_name, are_some, is_sort_form, is_sort_list, are_sort_forms, qualified_in}
use Rattle.ct_log_text.specs.Written.{sort_item, qualified_item}
use Rattle.ct_log_text.proofs.NumbersBack.{name_back}

canonical_last : (es : Sexprs) (e : Sexpr) → canonical_each (with_last es e) ≡ with_last (canonical_each es) (canonical e)
canonical_last none e = refl
canonical_last (more f es) e = ap (more (canonical f)) (canonical_last es e)

some_last : (es : Sexprs) (e : Sexpr) → are_some (with_last es e) ≡ true
some_last none e = refl
some_last (more f es) e = refl

forms_last : (es : Sexprs) (e : Sexpr) → are_sort_forms es ≡ true → is_sort_form e ≡ true → are_sort_forms (with_last es e) ≡ true
forms_last none e all last = both_true (is_sort_form e) true last refl
forms_last (more f es) e all last =
    let parts = both_parts (is_sort_form f) (are_sort_forms es) all in
    both_true (is_sort_form f) (are_sort_forms (with_last es e)) parts.0 (forms_last es e parts.1 last)

-- a name, and sorts after it
abbrev IsBegun : Sexprs → Type 0
IsBegun none = ⊥
IsBegun (more e es) = (is_name e ≡ true) × (are_sort_forms es ≡ true)

begun_last : (es : Sexprs) (e : Sexpr) → IsBegun es → is_sort_form e ≡ true → IsBegun (with_last es e)
begun_last none e begun last = absurd begun
begun_last (more f es) e begun last = (begun.0, forms_last es e begun.1 last)

list_last : (es : Sexprs) (e : Sexpr) → IsBegun es → is_sort_form e ≡ true → is_sort_list (with_last es e) ≡ true
list_last none e begun last = absurd begun
list_last (more f es) e begun last =
    both_true (is_name f) (are_some (with_last es e) && are_sort_forms (with_last es e)) begun.0
    (both_true (are_some (with_last es e)) (are_sort_forms (with_last es e)) (some_last es e) (forms_last es e begun.1 last))

module _ (heads : List Head) where
  mutual
    form : (e : Expression) (m : ℕ) → Takes heads 0 m e → is_sort_form (canonical (as_written heads e)) ≡ true
    form (parameter i) m takes = absurd (omega (arith, takes.1))
    form (named h) m takes = ap is_some (name_back (head_name heads h))
    form (applied e a) m takes =
        ap is_sort_list (canonical_last (items_of heads e) (as_written heads a))
        ∙ list_last (canonical_each (items_of heads e)) (canonical (as_written heads a)) (items_begun e (suc m) takes.0) (form a 0 takes.1)

    items_begun : (e : Expression) (m : ℕ) → Takes heads 0 m e → IsBegun (canonical_each (items_of heads e))
    items_begun (parameter i) m takes = absurd (omega (arith, takes.1))
    items_begun (named h) m takes = (ap is_some (name_back (head_name heads h)), refl)
    items_begun (applied e a) m takes =
        subst IsBegun (sym (canonical_last (items_of heads e) (as_written heads a)))
        (begun_last (canonical_each (items_of heads e)) (canonical (as_written heads a)) (items_begun e (suc m) takes.0) (form a 0 takes.1))

-- the constructor with its sort
pub qualified_back : (d : Declarations) → IsConsistent d → (c : CtorId) → IsSort d (sort_of_ctor d c) → qualified_in (qualified_item d c) ≡ Some (unwrap_or (slice_get (ctor_names d) c.0) [], sort_item d (sort_of_ctor d c))
qualified_back d consistent c within =
    let bytes = unwrap_or (slice_get (ctor_names d) c.0) [] in
    let s = sort_of_ctor d c in
    let fits : is_sort_form (sort_item d s) ≡ true = form d.declared.heads (origin_of d s) 0 (consistent.origins.sorts s.0 (origin_of d s) (origin_at d consistent s within)) in
    rw (name_back bytes) (rw fits refl)
