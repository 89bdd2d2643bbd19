-- Constructor terms, part by part.
use Rattle.std.proofs.Common.{◌≡◌, ℕ, Bool, true, false, List, [], ◌∷◌, map, Option, None, Some, option_map, option_and_then, unwrap_or, slice_get, refl, sym, ap, subst, ◌∙◌, codes, true≢false}
use Rattle.std.proofs.lemmas.Option.{none-some, same_Some}
use Rattle.ct_lemmas.proofs.Booleans.{both_parts}
use Rattle.ct_sorts.specs.declared.ids.CtorId.{CtorId}
use Rattle.ct_sorts.specs.declared.ids.SelId.{SelId}
use Rattle.ct_sorts.specs.declared.ids.SortId.{SortId}
use Rattle.ct_sorts.specs.declared.ids.Kind.{Kind}
use Rattle.ct_sorts.specs.declared.ids.Kind.TheVariants.{Bool as BoolKind, Free, Data, Codata}
use Rattle.ct_sorts.specs.Declarations.{Declarations, Sort}
use Rattle.ct_sexpr.specs.Atom.{Atom}
use Rattle.ct_sexpr.specs.Expression.{Expression, leaf, list, Expressions, none, more, word}
use Rattle.ct_values.specs.declared.node.NodeId.{NodeId}
use Rattle.ct_values.specs.Graph.{Nodes}
use Rattle.ct_values.specs.Value.{Value, Values, element, construct, no_values}
use Rattle.ct_values.specs.Fitting.{IsElement}
use Rattle.ct_card.specs.Defaults.{is_free, is_free_sort}
use Rattle.ct_names.specs.Symbols.{ctor_sort, field_sort_id, ctor_field_sorts}
use Rattle.ct_value_text.specs.ValueText.{bare_sort}
use Rattle.ct_readback.specs.Words.{is_word, name_in}
use Rattle.ct_readback.specs.Parts.{only_if, two_of, or_other, parts_after}
use Rattle.ct_readback.specs.SortText.{says_sort}
use Rattle.ct_readback.specs.Heads.{constructor_at, constructor_with, is_sort_of_elements, element_named, element_of, element_at}
use Rattle.ct_readback.specs.Trees.{lone, lone_at, tree_at, application_at, trees_at}
use Rattle.ct_readback.proofs.PrintedWords.{word_is}
use Rattle.ct_readback.specs.TreeNode.{HaveTrees, IsNodeOf, AreNodesOf, AreFound, AreFieldsOf}

-- what is said of an element
pub then_some : {A B : Type 0} (f : A → Option B) (o : Option A) (b : B) → option_and_then f o ≡ Some b → (a : A) × (o ≡ Some a) × (f a ≡ Some b)
then_some f None b h = absurd (none-some b h)
then_some f (Some a) b h = (a, refl, h)

pub only_true : {A : Type 0} (b : Bool) (x y : A) → only_if b x ≡ Some y → b ≡ true
only_true true x y h = refl
only_true false x y h = absurd (none-some y h)

kind_free : (k : Kind) → is_free k ≡ true → k ≡ Free
kind_free BoolKind h = absurd (true≢false (sym h))
kind_free Free h = refl
kind_free Data h = absurd (true≢false (sym h))
kind_free Codata h = absurd (true≢false (sym h))

pub free_by : (d : Declarations) (s : ℕ) (o : Option Sort) → slice_get d.sorts s ≡ o → unwrap_or (option_map (λ (sort : Sort). is_free sort.kind) o) false ≡ true → IsElement d s
free_by d s None at h = absurd (true≢false (sym h))
free_by d s (Some sort) at h = record { sort = sort; declared = at; free = kind_free sort.kind h }

pub element_free : (d : Declarations) (s : SortId) (e : Expression) (number : ℕ) → option_and_then (element_at d s) (parts_after (codes "as") e) ≡ Some number → IsElement d s.0
element_free d s e number h =
    let items = then_some (element_at d s) (parts_after (codes "as") e) number h in
    let parts = then_some (element_of d s) (two_of items.0) number items.2 in
    let name = then_some (λ (n : List ℕ). option_and_then (λ (k : ℕ). only_if (is_sort_of_elements d s parts.0.1) k) (element_named (bare_sort d s.0) n)) (name_in parts.0.0) number parts.2 in
    let value = then_some (λ (k : ℕ). only_if (is_sort_of_elements d s parts.0.1) k) (element_named (bare_sort d s.0) name.0) number name.2 in
    let holds = only_true (is_sort_of_elements d s parts.0.1) value.0 number value.2 in
    free_by d s.0 (slice_get d.sorts s.0) refl (both_parts (is_free_sort d s.0) (says_sort d s parts.0.1) holds).0

pub element_tree : (d : Declarations) (s : SortId) (e : Expression) (number : ℕ) → option_and_then (element_at d s) (parts_after (codes "as") e) ≡ Some number → tree_at d s e ≡ Some (element s number)
element_tree d s (leaf a) number h = absurd (none-some number h)
element_tree d s (list es) number h =
    ap (λ (o : Option ℕ). or_other (option_map (element s) o) (or_other (lone_at d s (list es)) (application_at d s es))) h

-- what is neither an element nor a constructor alone is an application
pub application_tree : (d : Declarations) (s : SortId) (es : Expressions) → option_and_then (element_at d s) (parts_after (codes "as") (list es)) ≡ None → constructor_at d s (list es) ≡ None → tree_at d s (list es) ≡ application_at d s es
application_tree d s es no_element no_constructor =
    ap (λ (o : Option ℕ). or_other (option_map (element s) o) (or_other (lone_at d s (list es)) (application_at d s es))) no_element
    ∙ ap (λ (o : Option CtorId). or_other (option_and_then (λ (k : CtorId). lone (ctor_field_sorts d k) k) o) (application_at d s es)) no_constructor

-- `as` names no constructor
no_as_head : (d : Declarations) (s : SortId) → constructor_at d s (word (codes "as")) ≡ None
no_as_head d s = refl

qualified_alone : (d : Declarations) (s : SortId) (e : Expression) (es : Expressions) (c : CtorId) (b : Bool) → is_word (codes "as") e ≡ b → option_and_then (constructor_with d s) (option_and_then two_of (only_if b es)) ≡ Some c → application_at d s (more e es) ≡ None
qualified_alone d s e es c true is h =
    ap (λ (head : Expression). option_and_then (λ (k : CtorId). option_map (construct k) (trees_at d (ctor_field_sorts d k) es)) (constructor_at d s head)) (word_is (codes "as") e is)
    ∙ ap (option_and_then (λ (k : CtorId). option_map (construct k) (trees_at d (ctor_field_sorts d k) es))) (no_as_head d s)
qualified_alone d s e es c false is h = absurd (none-some c h)

-- a list that is a constructor alone is no application
alone_no_application : (d : Declarations) (s : SortId) (es : Expressions) (c : CtorId) → constructor_at d s (list es) ≡ Some c → application_at d s es ≡ None
alone_no_application d s none c h = refl
alone_no_application d s (more e es) c h = qualified_alone d s e es c (is_word (codes "as") e) refl h

or_none : {X : Type 0} (o : Option X) → or_other o None ≡ o
or_none None = refl
or_none (Some x) = refl

-- a constructor alone
pub lone_tree : (d : Declarations) (s : SortId) (e : Expression) (c : CtorId) → option_and_then (element_at d s) (parts_after (codes "as") e) ≡ None → constructor_at d s e ≡ Some c → tree_at d s e ≡ lone (ctor_field_sorts d c) c
lone_tree d s (leaf a) c no_element at = ap (option_and_then (λ (k : CtorId). lone (ctor_field_sorts d k) k)) at
lone_tree d s (list es) c no_element at =
    ap (λ (o : Option ℕ). or_other (option_map (element s) o) (or_other (lone_at d s (list es)) (application_at d s es))) no_element
    ∙ ap (or_other (lone_at d s (list es))) (alone_no_application d s es c at)
    ∙ or_none (lone_at d s (list es))
    ∙ ap (option_and_then (λ (k : CtorId). lone (ctor_field_sorts d k) k)) at

-- of what is no constructor and no list nothing is said
pub atom_tree : (d : Declarations) (s : SortId) (a : Atom) → constructor_at d s (leaf a) ≡ None → tree_at d s (leaf a) ≡ None
atom_tree d s a no_constructor = ap (option_and_then (λ (k : CtorId). lone (ctor_field_sorts d k) k)) no_constructor

-- ---- applications

pub application_no_items : (d : Declarations) (s : SortId) (g : Nodes) → IsNodeOf d s (application_at d s none) g None
application_no_items d s g = refl

pub application_no_head : (d : Declarations) (s : SortId) (g : Nodes) (e : Expression) (es : Expressions) → constructor_at d s e ≡ None → IsNodeOf d s (application_at d s (more e es)) g None
application_no_head d s g e es h =
    subst (λ (o : Option Value). IsNodeOf d s o g None) (sym (ap (option_and_then (λ c. option_map (construct c) (trees_at d (ctor_field_sorts d c) es))) h)) refl

field_sorts : (d : Declarations) (c : CtorId) (fields : List SelId) → AreFieldsOf d c fields → ctor_field_sorts d c ≡ map (field_sort_id d) fields
field_sorts d c fields h = ap (λ (o : Option (List SelId)). map (field_sort_id d) (unwrap_or o [])) h

pub application_is : (d : Declarations) (s : SortId) (e : Expression) (es : Expressions) (c : CtorId) (fields : List SelId) → constructor_at d s e ≡ Some c → AreFieldsOf d c fields
    → application_at d s (more e es) ≡ option_map (construct c) (trees_at d (map (field_sort_id d) fields) es)
application_is d s e es c fields at are =
    ap (option_and_then (λ (k : CtorId). option_map (construct k) (trees_at d (ctor_field_sorts d k) es))) at
    ∙ ap (λ (ss : List SortId). option_map (construct c) (trees_at d ss es)) (field_sorts d c fields are)

no_args_by : (d : Declarations) (s : SortId) (c : CtorId) (fields : List SelId) (g : Nodes) (o : Option Values) → AreFound d fields o g None → IsNodeOf d s (option_map (construct c) o) g None
no_args_by d s c fields g None h = refl
no_args_by d s c fields g (Some vs) h = absurd h

pub application_no_args : (d : Declarations) (s : SortId) (g : Nodes) (e : Expression) (es : Expressions) (c : CtorId) (fields : List SelId) → constructor_at d s e ≡ Some c → AreFieldsOf d c fields
    → AreNodesOf d fields es g None → IsNodeOf d s (application_at d s (more e es)) g None
application_no_args d s g e es c fields at are found =
    subst (λ (o : Option Value). IsNodeOf d s o g None) (sym (application_is d s e es c fields at are))
    (no_args_by d s c fields g (trees_at d (map (field_sort_id d) fields) es) found)

args_by : (d : Declarations) (fields : List SelId) (g : Nodes) (ns : List NodeId) (o : Option Values) → AreFound d fields o g (Some ns) → (vs : Values) × (o ≡ Some vs) × HaveTrees d g fields vs ns
args_by d fields g ns None h = absurd (none-some ns (sym h))
args_by d fields g ns (Some vs) h = (vs, refl, h)

-- the values of the arguments that were found
pub application_args : (d : Declarations) (fields : List SelId) (es : Expressions) (g : Nodes) (ns : List NodeId) → AreNodesOf d fields es g (Some ns)
    → (vs : Values) × (trees_at d (map (field_sort_id d) fields) es ≡ Some vs) × HaveTrees d g fields vs ns
application_args d fields es g ns h = args_by d fields g ns (trees_at d (map (field_sort_id d) fields) es) h

pub application_node : (d : Declarations) (s : SortId) (g : Nodes) (e : Expression) (es : Expressions) (c : CtorId) (fields : List SelId) (vs : Values) (found : Option NodeId) → constructor_at d s e ≡ Some c → AreFieldsOf d c fields
    → ctor_sort d c ≡ s → trees_at d (map (field_sort_id d) fields) es ≡ Some vs → IsNodeOf d (ctor_sort d c) (Some (construct c vs)) g found → IsNodeOf d s (application_at d s (more e es)) g found
application_node d s g e es c fields vs found at are sort values node =
    subst (λ (o : Option Value). IsNodeOf d s o g found) (sym (application_is d s e es c fields at are ∙ ap (option_map (construct c)) values))
    (subst (λ (t : SortId). IsNodeOf d t (Some (construct c vs)) g found) sort node)

-- ---- a constructor alone

pub lone_is : (d : Declarations) (c : CtorId) (fields : List SelId) → AreFieldsOf d c fields → lone (ctor_field_sorts d c) c ≡ lone (map (field_sort_id d) fields) c
lone_is d c fields are = ap (λ (ss : List SortId). lone ss c) (field_sorts d c fields are)

pub lone_has_fields : (d : Declarations) (s : SortId) (g : Nodes) (c : CtorId) (fields : List SelId) → AreFieldsOf d c fields → (fields ≡ [] → ⊥) → IsNodeOf d s (lone (ctor_field_sorts d c) c) g None
lone_has_fields d s g c [] are some = absurd (some refl)
lone_has_fields d s g c (field ∷ fields) are some = subst (λ (o : Option Value). IsNodeOf d s o g None) (sym (lone_is d c (field ∷ fields) are)) refl

pub lone_found : (d : Declarations) (s : SortId) (g : Nodes) (c : CtorId) (found : Option NodeId) → AreFieldsOf d c [] → IsNodeOf d s (Some (construct c no_values)) g found → IsNodeOf d s (lone (ctor_field_sorts d c) c) g found
lone_found d s g c found are node = subst (λ (o : Option Value). IsNodeOf d s o g found) (sym (lone_is d c [] are)) node

-- the node of a constructor alone, at its sort
pub lone_node : (d : Declarations) (s : SortId) (g : Nodes) (e : Expression) (c : CtorId) (found : Option NodeId) → option_and_then (element_at d s) (parts_after (codes "as") e) ≡ None → constructor_at d s e ≡ Some c → ctor_sort d c ≡ s
    → IsNodeOf d (ctor_sort d c) (lone (ctor_field_sorts d c) c) g found → IsNodeOf d s (tree_at d s e) g found
lone_node d s g e c found no_element at sort node =
    subst (λ (o : Option Value). IsNodeOf d s o g found) (sym (lone_tree d s e c no_element at))
    (subst (λ (t : SortId). IsNodeOf d t (lone (ctor_field_sorts d c) c) g found) sort node)
