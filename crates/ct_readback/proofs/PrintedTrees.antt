-- What constructor terms read back as where they were printed.
use Rattle.std.proofs.Common.{◌≡◌, ℕ, ◌<◌, Bool, true, ◌||◌, List, [], ◌∷◌, map, Option, None, Some, option_map, option_and_then, unwrap_or, slice_get, refl, ap, ap₂, subst, ◌∙◌, codes}
use Rattle.std.proofs.lemmas.Option.{none-some}
use Rattle.ct_lemmas.proofs.Booleans.{both_true, or_left, or_right}
use Rattle.ct_sorts.specs.declared.ids.CtorId.{CtorId}
use Rattle.ct_sorts.specs.declared.ids.SelId.{SelId}
use Rattle.ct_sorts.specs.declared.ids.SortId.{SortId}
use Rattle.ct_sorts.specs.Declarations.{Declarations, Constructor, Selector}
use Rattle.ct_sorts.specs.Consistent.{IsConsistent}
use Rattle.ct_sexpr.specs.Expression.{Expression, leaf, list, more, word}
use Rattle.ct_sexpr.specs.Written.{canonical, canonical_each}
use Rattle.ct_values.specs.Value.{Value, Values, reference, element, construct, no_values, with_value}
use Rattle.ct_values.specs.ValueSort.{HasValueSort, AreOfFields}
use Rattle.ct_values.specs.Fitting.{IsElement}
use Rattle.ct_names.specs.Symbols.{field_sort_id}
use Rattle.ct_value_text.specs.ValueText.{expression, expressions}
use Rattle.ct_readback.specs.Words.{number_bound}
use Rattle.ct_readback.specs.Parts.{option_both, only_if, two_of, parts_after}
use Rattle.ct_readback.specs.Heads.{is_head, is_constructor_head, constructor_with, constructor_at, element_at}
use Rattle.ct_readback.specs.Trees.{is_tree, is_application, are_trees, tree_at, trees_at}
use Rattle.ct_readback.proofs.ApplicationLemmas.{element_tree, application_tree, application_is, lone_is, lone_tree}
use Rattle.ct_readback.proofs.PrintedHeads.{read_ctor, ctor_reads, ctor_head, ctor_constructor_head, ctor_no_element, alone_no_graph, alone_no_ite, no_as, no_graph, no_ite, element_parts, element_reads, element_head}

-- the elements of the value have numbers below the bound
abbrev mutual
  pub IsSmall : Value → Type 0
  IsSmall (reference n) = Unit {0}
  IsSmall (element s n) = n < number_bound
  IsSmall (construct c vs) = AreSmall vs

  pub AreSmall : Values → Type 0
  AreSmall no_values = Unit {0}
  AreSmall (with_value v vs) = IsSmall v × AreSmall vs

-- what is said of a printed tree
pub record TreeReads (d : Declarations) (s : SortId) (v : Value) : Type 0 where
  pub said : tree_at d s (canonical (expression d v)) ≡ Some v
  pub form : is_tree (canonical (expression d v)) ≡ true
  pub no_graph : parts_after (codes "@graph") (canonical (expression d v)) ≡ None
  pub no_row : parts_after (codes "ite") (canonical (expression d v)) ≡ None

pub record TreesRead (d : Declarations) (fields : List SelId) (vs : Values) : Type 0 where
  pub said : trees_at d (map (field_sort_id d) fields) (canonical_each (expressions d vs)) ≡ Some vs
  pub form : are_trees (canonical_each (expressions d vs)) ≡ true

field_is : (d : Declarations) (s : SelId) (selector : Selector) → slice_get d.sels s.0 ≡ Some selector → field_sort_id d s ≡ selector.sort
field_is d s selector at = ap (λ (o : Option Selector). unwrap_or (option_map (λ (sel : Selector). sel.sort) o) (record { 0 = 0 })) at

fields_are : (d : Declarations) (c : CtorId) (ctor : Constructor) → slice_get d.ctors c.0 ≡ Some ctor → option_map (λ (k : Constructor). k.sels) (slice_get d.ctors c.0) ≡ Some ctor.sels
fields_are d c ctor at = ap (option_map (λ (k : Constructor). k.sels)) at

-- an element
element_said : (d : Declarations) → IsConsistent d → (s : SortId) (n : ℕ) → IsElement d s.0 → n < number_bound → TreeReads d s (element s n)
element_said d consistent s n is small = record {
  said = element_tree d s (canonical (expression d (element s n))) n (element_reads d consistent s n is small);
  form = ap (λ (b : Bool). b || is_application (more (word (codes "as")) (element_parts d s n))) (element_head d consistent s n is small);
  no_graph = refl;
  no_row = refl;
}

tree_form : (e : Expression) → is_head e ≡ true → is_tree e ≡ true
tree_form (leaf a) h = h
tree_form (list es) h = or_left (is_head (list es)) (is_application es) h

-- a constructor without arguments
lone_said : (d : Declarations) (c : CtorId) (ctor : Constructor) → IsConsistent d → slice_get d.ctors c.0 ≡ Some ctor → ctor.sels ≡ [] → TreeReads d ctor.sort (construct c no_values)
lone_said d c ctor consistent at empty = record {
  said = lone_tree d ctor.sort (read_ctor d c) c (ctor_no_element d c ctor consistent at) (ctor_reads d c ctor consistent at) ∙ lone_is d c [] (fields_are d c ctor at ∙ ap Some empty);
  form = tree_form (read_ctor d c) (ctor_head d c ctor consistent at);
  no_graph = alone_no_graph d c ctor consistent at;
  no_row = alone_no_ite d c ctor consistent at;
}

-- a constructor before arguments
applied_said : (d : Declarations) (c : CtorId) (ctor : Constructor) (v : Value) (vs : Values) → IsConsistent d → slice_get d.ctors c.0 ≡ Some ctor → TreesRead d ctor.sels (with_value v vs) → TreeReads d ctor.sort (construct c (with_value v vs))
applied_said d c ctor v vs consistent at read =
    let head = read_ctor d c in
    let args = canonical_each (expressions d (with_value v vs)) in
    let as_nothing : option_and_then (element_at d ctor.sort) (parts_after (codes "as") (list (more head args))) ≡ None =
    ap (λ (b : Bool). option_and_then (element_at d ctor.sort) (only_if b args)) (no_as d c ctor consistent at) in
    let as_none : constructor_at d ctor.sort (list (more head args)) ≡ None =
    ap (λ (b : Bool). option_and_then (constructor_with d ctor.sort) (option_and_then two_of (only_if b args))) (no_as d c ctor consistent at) in
    record {
      said = application_tree d ctor.sort (more head args) as_nothing as_none
          ∙ application_is d ctor.sort head args c ctor.sels (ctor_reads d c ctor consistent at) (fields_are d c ctor at)
          ∙ ap (option_map (construct c)) read.said;
      form = or_right (is_head (list (more head args))) (is_application (more head args)) (both_true (is_constructor_head head) (are_trees args) (ctor_constructor_head d c ctor consistent at) read.form);
      no_graph = ap (λ (b : Bool). only_if b args) (no_graph d c ctor consistent at);
      no_row = ap (λ (b : Bool). only_if b args) (no_ite d c ctor consistent at);
    }

both_said : (o : Option Value) (p : Option Values) (v : Value) (vs : Values) → o ≡ Some v → p ≡ Some vs → option_both with_value o p ≡ Some (with_value v vs)
both_said o p v vs e f = ap₂ (λ (x : Option Value) (y : Option Values). option_both with_value x y) e f

no_fields : (d : Declarations) (fields : List SelId) → AreOfFields d [] no_values fields → fields ≡ []
no_fields d [] fit = refl
no_fields d (s ∷ ss) fit = absurd fit

mutual
  -- a value of a sort reads as that value
  pub tree_reads : (d : Declarations) (v : Value) (s : SortId) → IsConsistent d → HasValueSort d [] v s → IsSmall v → TreeReads d s v
  tree_reads d (reference n) s consistent (node, at, sorted) small = absurd (none-some node at)
  tree_reads d (element t n) s consistent (is, same) small = subst (λ (u : SortId). TreeReads d u (element t n)) same (element_said d consistent t n is small)
  tree_reads d (construct c no_values) s consistent (ctor, at, same, fields) small =
      subst (λ (u : SortId). TreeReads d u (construct c no_values)) same (lone_said d c ctor consistent at (no_fields d ctor.sels fields))
  tree_reads d (construct c (with_value v vs)) s consistent (ctor, at, same, fields) small =
      subst (λ (u : SortId). TreeReads d u (construct c (with_value v vs))) same (applied_said d c ctor v vs consistent at (trees_read d (with_value v vs) ctor.sels consistent fields small))

  trees_read : (d : Declarations) (vs : Values) (fields : List SelId) → IsConsistent d → AreOfFields d [] vs fields → AreSmall vs → TreesRead d fields vs
  trees_read d no_values [] consistent fit small = record { said = refl; form = refl }
  trees_read d no_values (s ∷ ss) consistent fit small = absurd fit
  trees_read d (with_value v vs) [] consistent fit small = absurd fit
  trees_read d (with_value v vs) (s ∷ ss) consistent ((selector, at, sorted), rest) small =
      let first = tree_reads d v selector.sort consistent sorted small.0 in
      let others = trees_read d vs ss consistent rest small.1 in
      record {
        said = both_said (tree_at d (field_sort_id d s) (canonical (expression d v))) (trees_at d (map (field_sort_id d) ss) (canonical_each (expressions d vs))) v vs
            (ap (λ (t : SortId). tree_at d t (canonical (expression d v))) (field_is d s selector at) ∙ first.said) others.said;
        form = both_true (is_tree (canonical (expression d v))) (are_trees (canonical_each (expressions d vs))) first.form others.form;
      }
