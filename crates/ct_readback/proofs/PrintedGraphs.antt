-- What graphs read back as where they were printed.
use Rattle.std.proofs.Common.{◌≡◌, ℕ, zero, suc, ◌+◌, ◌<◌, ◌≤◌, IsTrue, Bool, true, false, nat_lt, nat_eq, List, [], ◌∷◌, length, map, All, Option, None, Some, option_map, option_and_then, unwrap_or, slice_get, refl, sym, ap, ap₂, subst, ◌∙◌, codes, arith, ⊎_elim}
use Rattle.std.specs.List.{AllZip, list_any}
use Rattle.std.proofs.lemmas.Option.{none-some, same_Some, slice_get_within}
use Rattle.std.proofs.lemmas.Bool.{true≢false}
use Rattle.std.proofs.lemmas.Bool.Decides.{nat_tests, Decides-eqb}
use Rattle.std.proofs.lemmas.Cmp.{nat_eq_equiv}
use Rattle.std.proofs.lemmas.List.Elements.{All-head, All-tail}
use Rattle.ct_lemmas.proofs.Booleans.{both_true, or_left, or_right, or_cases}
use Rattle.ct_lemmas.proofs.Lists.{slice_get-there}
use Rattle.ct_lemmas.proofs.Pairs.{AllZip-at_left}
use Rattle.ct_sorts.specs.declared.ids.CtorId.{CtorId}
use Rattle.ct_sorts.specs.declared.ids.SelId.{SelId}
use Rattle.ct_sorts.specs.declared.ids.SortId.{SortId}
use Rattle.ct_sorts.specs.declared.ids.Kind.{Kind}
use Rattle.ct_sorts.specs.Declarations.{Declarations, Constructor, Selector, Sort}
use Rattle.ct_sorts.specs.Consistent.{IsConsistent, FitsKind}
use Rattle.ct_sorts.proofs.StructureLemmas.{of_their_sorts}
use Rattle.ct_sexpr.specs.Expression.{Expression, list, Expressions, more, word}
use Rattle.ct_sexpr.specs.Written.{canonical, canonical_each}
use Rattle.ct_values.specs.declared.node.NodeId.{NodeId}
use Rattle.ct_values.specs.declared.node.Node.{Node}
use Rattle.ct_values.specs.declared.node.Node.TheVariants.{Con, Elem}
use Rattle.ct_values.specs.Graph.{Nodes, HasChildrenBelow, node_children}
use Rattle.ct_values.specs.Value.{reference, values_of, node_value}
use Rattle.ct_values.specs.Fitting.{HasNodeSort, IsNodeOfField, IsElement, FitsNode, FitsGraph, node_sort}
use Rattle.ct_values.specs.Minimal.{IsBreadthFirst}
use Rattle.ct_values.proofs.LastingLemmas.{fits_closed}
use Rattle.ct_names.specs.Symbols.{field_sort_id, ctor_field_sorts}
use Rattle.ct_value_text.specs.ValueText.{node_name, expression, expressions, row, node_texts, graph_text}
use Rattle.ct_readback.specs.Words.{number_bound, numbered, is_numbered}
use Rattle.ct_readback.specs.Parts.{holds, option_both, or_other, only_if, count, nth, two_of, list_items, first_of}
use Rattle.ct_readback.specs.Heads.{is_head, is_constructor_head, constructor_with, constructor_at, element_at}
use Rattle.ct_readback.specs.GraphText.{some_rows, graph_rows, node_text, is_reference, are_references, is_applied, is_node_text, are_rows, is_graph, reference_in, references_in, element_node, applied_node, node_at, SayNodes}
use Rattle.ct_readback.specs.Nodes.{said_at, field_sorts, AreFit, CanHave, IsReached, IsGraphOf, IsGraphAt}
use Rattle.ct_readback.proofs.NodeSortLemmas.{constructor_there, said_sorts}
use Rattle.ct_readback.proofs.PrintedWords.{number_after_own, is_own}
use Rattle.ct_readback.proofs.PrintedHeads.{read_ctor, ctor_reads, ctor_head, ctor_constructor_head, no_as, element_parts, element_reads, element_head}

-- ---- numbers of nodes

node_number : (n : ℕ) → n < number_bound → numbered (codes "@") (node_name n) ≡ Some n
node_number n small = number_after_own (64 ∷ []) n small

below_is : (n nodes : ℕ) → n < nodes → nat_lt n nodes ≡ true
below_is n nodes less = grind (arith, nat_tests)

reference_form : (nodes : ℕ) (k : NodeId) → nodes ≤ number_bound → k.0 < nodes → is_reference nodes (node_name k.0) ≡ true
reference_form nodes k few less = ap (holds (λ n. nat_lt n nodes)) (node_number k.0 (omega (arith, few, less))) ∙ below_is k.0 nodes less

-- the names of several nodes
abbrev pub names_of : Declarations → List NodeId → Expressions
names_of d ks = canonical_each (expressions d (values_of (map reference ks)))

references_form : (d : Declarations) (nodes : ℕ) (ks : List NodeId) → nodes ≤ number_bound → All (λ k. k.0 < nodes) ks → are_references nodes (names_of d ks) ≡ true
references_form d nodes [] few below = refl
references_form d nodes (k ∷ ks) few below =
    both_true (is_reference nodes (node_name k.0)) (are_references nodes (names_of d ks))
    (reference_form nodes k few (All-head (λ (m : NodeId). m.0 < nodes) k ks below))
    (references_form d nodes ks few (All-tail (λ (m : NodeId). m.0 < nodes) k ks below))

references_said : (d : Declarations) (nodes : ℕ) (ks : List NodeId) → nodes ≤ number_bound → All (λ k. k.0 < nodes) ks → references_in (names_of d ks) ≡ Some ks
references_said d nodes [] few below = refl
references_said d nodes (k ∷ ks) few below =
    let less : k.0 < nodes = All-head (λ (m : NodeId). m.0 < nodes) k ks below in
    let first : reference_in (node_name k.0) ≡ Some k = ap (option_map (λ n. record { 0 = n })) (node_number k.0 (omega (arith, few, less))) in
    ap₂ (λ (x : Option NodeId) (y : Option (List NodeId)). option_both (λ (n : NodeId) (ns : List NodeId). n ∷ ns) x y) first
    (references_said d nodes ks few (All-tail (λ (m : NodeId). m.0 < nodes) k ks below))

-- ---- a sort of elements has no constructor

free_no_ctor : (d : Declarations) → IsConsistent d → (s : SortId) → IsElement d s.0 → (e : Expression) → constructor_at d s e ≡ None
free_no_ctor d consistent s is e = by (constructor_at d s e) refl
  where
    by : (o : Option CtorId) → constructor_at d s e ≡ o → o ≡ None
    by None at = refl
    by (Some c) at =
        let there = constructor_there d consistent s e c at in
        let own = of_their_sorts d consistent c.0 there.0 there.1 in
        let same : is.sort ≡ own.0 = same_Some is.sort own.0 (sym is.declared ∙ ap (λ (t : SortId). slice_get d.sorts t.0) (sym there.2) ∙ own.2) in
        let nothing : length is.sort.ctors ≡ 0 = subst (λ (kind : Kind). FitsKind s.0 kind (length is.sort.ctors)) is.free (consistent.kinds s.0 is.sort is.declared) in
        let within = slice_get_within is.sort.ctors own.1 (record { 0 = c.0 }) (ap (λ (t : Sort). slice_get t.ctors own.1) same ∙ own.3) in
        absurd (omega (arith, nothing, within))

-- ---- nodes

-- what is printed of a node has the form of one among so many, and says this node at its sort
pub record NodeReads (d : Declarations) (nodes : ℕ) (node : Node) : Type 0 where
  pub sort : SortId
  pub sorted : node_sort d node ≡ Some sort
  pub form : is_node_text nodes (canonical (expression d (node_value node))) ≡ true
  pub said : node_at d sort (canonical (expression d (node_value node))) ≡ Some node

built_sort : (d : Declarations) (c : CtorId) (ctor : Constructor) (ks : List NodeId) → slice_get d.ctors c.0 ≡ Some ctor → node_sort d (Con c ks) ≡ Some ctor.sort
built_sort d c ctor ks at = ap (option_map (λ (k : Constructor). k.sort)) at

lone_reads : (d : Declarations) (nodes : ℕ) (c : CtorId) (ctor : Constructor) → IsConsistent d → slice_get d.ctors c.0 ≡ Some ctor → NodeReads d nodes (Con c [])
lone_reads d nodes c ctor consistent at =
    let head = read_ctor d c in
    record {
      sort = ctor.sort;
      sorted = built_sort d c ctor [] at;
      form = or_left (is_head head) (holds (is_applied nodes) (option_and_then first_of (list_items head))) (ctor_head d c ctor consistent at);
      said = ap (λ (o : Option CtorId). or_other (option_map (λ (k : CtorId). Con k []) o) (or_other (element_node d ctor.sort head) (option_and_then (applied_node d ctor.sort) (option_and_then first_of (list_items head)))))
          (ctor_reads d c ctor consistent at);
    }

applied_reads : (d : Declarations) (nodes : ℕ) (c : CtorId) (ctor : Constructor) (k : NodeId) (ks : List NodeId) → IsConsistent d → nodes ≤ number_bound → All (λ m. m.0 < nodes) (k ∷ ks) → slice_get d.ctors c.0 ≡ Some ctor → NodeReads d nodes (Con c (k ∷ ks))
applied_reads d nodes c ctor k ks consistent few below at =
    let head = read_ctor d c in
    let args = names_of d (k ∷ ks) in
    let whole = list (more head args) in
    let s = ctor.sort in
    let not_qualified = no_as d c ctor consistent at in
    let not_alone : constructor_at d s whole ≡ None = ap (λ (b : Bool). option_and_then (constructor_with d s) (option_and_then two_of (only_if b args))) not_qualified in
    let no_element : element_node d s whole ≡ None = ap (λ (b : Bool). option_map (Elem s) (option_and_then (element_at d s) (only_if b args))) not_qualified in
    record {
      sort = s;
      sorted = built_sort d c ctor (k ∷ ks) at;
      form = or_right (is_head whole) (holds (is_applied nodes) (option_and_then first_of (list_items whole)))
          (both_true (is_constructor_head head) (are_references nodes args) (ctor_constructor_head d c ctor consistent at) (references_form d nodes (k ∷ ks) few below));
      said = ap (λ (o : Option CtorId). or_other (option_map (λ (x : CtorId). Con x []) o) (or_other (element_node d s whole) (applied_node d s (head, args)))) not_alone
          ∙ ap (λ (o : Option Node). or_other o (applied_node d s (head, args))) no_element
          ∙ ap₂ (λ (x : Option CtorId) (y : Option (List NodeId)). option_both Con x y) (ctor_reads d c ctor consistent at) (references_said d nodes (k ∷ ks) few below);
    }

element_node_reads : (d : Declarations) (nodes : ℕ) (s : SortId) (n : ℕ) → IsConsistent d → IsElement d s.0 → n < number_bound → NodeReads d nodes (Elem s n)
element_node_reads d nodes s n consistent is small =
    let parts = element_parts d s n in
    let whole = list (more (word (codes "as")) parts) in
    let not_ctor = free_no_ctor d consistent s is whole in
    record {
      sort = s;
      sorted = refl;
      form = or_left (is_head whole) (holds (is_applied nodes) (option_and_then first_of (list_items whole))) (element_head d consistent s n is small);
      said = ap (λ (o : Option CtorId). or_other (option_map (λ (x : CtorId). Con x []) o) (or_other (element_node d s whole) (option_and_then (applied_node d s) (option_and_then first_of (list_items whole))))) not_ctor
          ∙ ap (λ (o : Option ℕ). or_other (option_map (Elem s) o) (option_and_then (applied_node d s) (option_and_then first_of (list_items whole)))) (element_reads d consistent s n is small);
    }

node_reads : (d : Declarations) (h : Nodes) (node : Node) → IsConsistent d → length h ≤ number_bound → FitsNode d h node → HasChildrenBelow (length h) node → ((s : SortId) (n : ℕ) → node ≡ Elem s n → n < number_bound) → NodeReads d (length h) node
node_reads d h (Con c []) consistent few fits below small = lone_reads d (length h) c fits.ctor consistent fits.declared
node_reads d h (Con c (k ∷ ks)) consistent few fits below small = applied_reads d (length h) c fits.ctor k ks consistent few below fits.declared
node_reads d h (Elem s n) consistent few fits below small = element_node_reads d (length h) s n consistent fits (small s n refl)

-- ---- rows

count_rows : (d : Declarations) (n : ℕ) (nodes : List Node) → count (canonical_each (node_texts d n nodes)) ≡ length nodes
count_rows d n [] = refl
count_rows d n (x ∷ xs) = ap suc (count_rows d (suc n) xs)

number_is : (n : ℕ) → n < number_bound → is_numbered (codes "@") n (node_name n) ≡ true
number_is n small = is_own n (numbered (codes "@") (node_name n)) (node_number n small)

row_text : (d : Declarations) (n : ℕ) (node : Node) → n < number_bound → node_text n (canonical (row d n node)) ≡ Some (canonical (expression d (node_value node)))
row_text d n node small = ap (λ (b : Bool). only_if b (canonical (expression d (node_value node)))) (number_is n small)

-- all rows, from the number n on
abbrev pub EachReads : Declarations → ℕ → List Node → Type 0
EachReads d nodes xs = (k : ℕ) (x : Node) → slice_get xs k ≡ Some x → NodeReads d nodes x

rows_form : (d : Declarations) (nodes n : ℕ) (xs : List Node) → n + length xs ≤ number_bound → EachReads d nodes xs → are_rows nodes n (canonical_each (node_texts d n xs)) ≡ true
rows_form d nodes n [] few each = refl
rows_form d nodes n (x ∷ xs) few each =
    both_true (holds (is_node_text nodes) (node_text n (canonical (row d n x)))) (are_rows nodes (suc n) (canonical_each (node_texts d (suc n) xs)))
    (ap (holds (is_node_text nodes)) (row_text d n x (omega (arith, few))) ∙ (each 0 x refl).form)
    (rows_form d nodes (suc n) xs (omega (arith, few)) (λ k y at. each (suc k) y at))

rows_said : (d : Declarations) (nodes n : ℕ) (xs : List Node) → n + length xs ≤ number_bound → EachReads d nodes xs → SayNodes d n (canonical_each (node_texts d n xs)) xs
rows_said d nodes n [] few each = tt
rows_said d nodes n (x ∷ xs) few each =
    let first = each 0 x refl in (
      record { text = canonical (expression d (node_value x)); written = row_text d n x (omega (arith, few)); sort = first.sort; said = first.said },
      rows_said d nodes (suc n) xs (omega (arith, few)) (λ k y at. each (suc k) y at),
    )

-- the row at a place
nth_row : (d : Declarations) (n k m : ℕ) (xs : List Node) (x : Node) → n + k ≡ m → slice_get xs k ≡ Some x → nth (canonical_each (node_texts d n xs)) k ≡ Some (canonical (row d m x))
nth_row d n k m [] x place at = absurd (none-some x at)
nth_row d n zero m (y ∷ xs) x place at =
    let here : n ≡ m = omega (arith, place) in
    ap₂ (λ (i : ℕ) (z : Node). Some (canonical (row d i z))) here (same_Some y x at)
nth_row d n (suc k) m (y ∷ xs) x place at = nth_row d (suc n) k m xs x (omega (arith, place)) at

-- whatever nodes the rows say, each is said by the text of the node that was printed, at some sort
abbrev AreSaid : Declarations → List Node → List Node → Type 0
AreSaid d xs ys = (k : ℕ) (x y : Node) → slice_get xs k ≡ Some x → slice_get ys k ≡ Some y → (t : SortId) × (node_at d t (canonical (expression d (node_value x))) ≡ Some y)

rows_say : (d : Declarations) (n : ℕ) (xs ys : List Node) → n + length xs ≤ number_bound → SayNodes d n (canonical_each (node_texts d n xs)) ys → (length ys ≡ length xs) × AreSaid d xs ys
rows_say d n [] [] few said = (refl, λ k x y at_x at_y. absurd (none-some x at_x))
rows_say d n [] (y ∷ ys) few said = absurd said
rows_say d n (x ∷ xs) [] few said = absurd said
rows_say d n (x ∷ xs) (y ∷ ys) few said =
    let rest = rows_say d (suc n) xs ys (omega (arith, few)) said.1 in
    let text : said.0.text ≡ canonical (expression d (node_value x)) = same_Some said.0.text (canonical (expression d (node_value x))) (sym said.0.written ∙ row_text d n x (omega (arith, few))) in
    (ap suc rest.0, by (said.0.sort, subst (λ (e : Expression). node_at d said.0.sort e ≡ Some y) text said.0.said) rest.1)
  where
    by : (t : SortId) × (node_at d t (canonical (expression d (node_value x))) ≡ Some y) → AreSaid d xs ys → AreSaid d (x ∷ xs) (y ∷ ys)
    by first rest zero z w at_z at_w =
        let z_is = same_Some x z at_z in
        let w_is = same_Some y w at_w in
        (first.0, subst (λ (u : Node). node_at d first.0 (canonical (expression d (node_value u))) ≡ Some w) z_is (first.1 ∙ ap (λ (u : Node). Some u) w_is))
    by first rest (suc k) z w at_z at_w = rest k z w at_z at_w

-- ---- each node can have its own sort

same_id : (s t : SortId) → s.0 ≡ t.0 → s ≡ t
same_id s t e = ap (λ (n : ℕ). record { 0 = n }) e

-- the node has the sort
abbrev own_sort : Declarations → Nodes → ℕ → SortId → Bool
own_sort d h i s = holds (λ (t : SortId). nat_eq t.0 s.0) (option_and_then (node_sort d) (slice_get h i))

own_has : (d : Declarations) (h : Nodes) (i : ℕ) (s : SortId) → HasNodeSort d h (record { 0 = i }) s → own_sort d h i s ≡ true
own_has d h i s (node, at, sorted) =
    ap (λ (o : Option Node). holds (λ (t : SortId). nat_eq t.0 s.0) (option_and_then (node_sort d) o)) at
    ∙ ap (holds (λ (t : SortId). nat_eq t.0 s.0)) sorted
    ∙ nat_eq_equiv.refl s.0

has_own : (d : Declarations) (h : Nodes) (i : ℕ) (s : SortId) → own_sort d h i s ≡ true → HasNodeSort d h (record { 0 = i }) s
has_own d h i s is = by (slice_get h i) refl is
  where
    by_sort : (node : Node) → slice_get h i ≡ Some node → (o : Option SortId) → node_sort d node ≡ o → holds (λ (t : SortId). nat_eq t.0 s.0) o ≡ true → HasNodeSort d h (record { 0 = i }) s
    by_sort node at None sorted tells = absurd (true≢false (sym tells))
    by_sort node at (Some t) sorted tells = (node, at, sorted ∙ ap (λ (u : SortId). Some u) (same_id t s ((Decides-eqb t.0 s.0).0 tells)))

    by : (o : Option Node) → slice_get h i ≡ o → holds (λ (t : SortId). nat_eq t.0 s.0) (option_and_then (node_sort d) o) ≡ true → HasNodeSort d h (record { 0 = i }) s
    by None at tells = absurd (true≢false (sym tells))
    by (Some node) at tells = by_sort node at (node_sort d node) refl tells

children_own : (d : Declarations) (h : Nodes) (ks : List NodeId) (sels : List SelId) → AllZip (IsNodeOfField d h) ks sels → AllZip (λ (k : NodeId) (t : SortId). own_sort d h k.0 t ≡ true) ks (map (field_sort_id d) sels)
children_own d h [] [] all = tt
children_own d h [] (s ∷ sels) all = absurd all
children_own d h (k ∷ ks) [] all = absurd all
children_own d h (k ∷ ks) (s ∷ sels) all =
    let field : field_sort_id d s ≡ all.0.selector.sort = ap (λ (o : Option Selector). unwrap_or (option_map (λ (sel : Selector). sel.sort) o) (record { 0 = 0 })) all.0.declared in
    (subst (λ (t : SortId). own_sort d h k.0 t ≡ true) (sym field) (own_has d h k.0 all.0.selector.sort all.0.sorted), children_own d h ks sels all.1)

children_fit : (d : Declarations) (h : Nodes) (x : Node) → FitsNode d h x → AllZip (λ (k : NodeId) (t : SortId). own_sort d h k.0 t ≡ true) (node_children x) (field_sorts d x)
children_fit d h (Con c ks) fits =
    let sorts : ctor_field_sorts d c ≡ map (field_sort_id d) fits.ctor.sels = ap (λ (o : Option Constructor). map (field_sort_id d) (unwrap_or (option_map (λ (k : Constructor). k.sels) o) [])) fits.declared in
    subst (AllZip (λ (k : NodeId) (t : SortId). own_sort d h k.0 t ≡ true) ks) (sym sorts) (children_own d h ks fits.ctor.sels fits.fields)
children_fit d h (Elem s n) fits = tt

module _ (d : Declarations) (h : Nodes) (fits : FitsGraph d h) (few : length h ≤ number_bound) (each : EachReads d (length h) h) where
  abbrev rows : Expressions
  rows = canonical_each (node_texts d 0 h)

  -- the row of a node says it at its sort
  own_said : (i : ℕ) (x : Node) (s : SortId) → slice_get h i ≡ Some x → node_sort d x ≡ Some s → said_at d rows i s ≡ Some x
  own_said i x s at sorted =
      let reads = each i x at in
      let within = slice_get_within h i x at in
      let same : reads.sort ≡ s = same_Some reads.sort s (sym reads.sorted ∙ sorted) in
      ap (λ (o : Option Expression). option_and_then (node_at d s) (option_and_then (node_text i) o)) (nth_row d 0 i i h x (omega arith) at)
      ∙ ap (option_and_then (node_at d s)) (row_text d i x (omega (arith, within, few)))
      ∙ subst (λ (t : SortId). node_at d t (canonical (expression d (node_value x))) ≡ Some x) same reads.said

  own_fit : AreFit d rows (own_sort d h)
  own_fit i s is =
      let has = has_own d h i s is in
      record { node = has.0; said = own_said i has.0 s has.1 has.2; children = children_fit d h has.0 (fits i has.0 has.1) }

  own_can_have : (i : ℕ) → i < length h → (t : SortId) × CanHave d rows i t
  own_can_have i within =
      let x = slice_get-there h i within in
      let reads = each i x.0 x.1 in
      (reads.sort, (own_sort d h, own_fit, own_has d h i reads.sort (x.0, x.1, reads.sorted)))

-- ---- the rows say no other graph

any_child : (n : ℕ) (ns : List NodeId) → IsTrue (list_any (nat_eq n) (map (λ (child : NodeId). child.0) ns)) → (k : ℕ) × (child : NodeId) × (slice_get ns k ≡ Some child) × (n ≡ child.0)
any_child n [] any = absurd (let e : false ≡ true = any in cc)
any_child n (c ∷ ns) any =
    ⊎_elim (λ first. (0, c, refl, (Decides-eqb n c.0).0 first)) (λ later. let rest = any_child n ns later in (suc rest.0, rest.1, rest.2, rest.3))
    (or_cases (nat_eq n c.0) (list_any (nat_eq n) (map (λ (child : NodeId). child.0) ns)) any)

one_list : (xs ys : List Node) → length xs ≡ length ys → ((i : ℕ) (x y : Node) → slice_get xs i ≡ Some x → slice_get ys i ≡ Some y → x ≡ y) → xs ≡ ys
one_list [] [] long all = refl
one_list [] (y ∷ ys) long all = absurd (omega (arith, long))
one_list (x ∷ xs) [] long all = absurd (omega (arith, long))
one_list (x ∷ xs) (y ∷ ys) long all = ap₂ (λ (z : Node) (zs : List Node). z ∷ zs) (all 0 x y refl refl) (one_list xs ys (omega (arith, long)) (λ i z w at_z at_w. all (suc i) z w at_z at_w))

-- a child of a node that fits in two graphs has the sort of its field in both
same_field : (d : Declarations) (g h : Nodes) (x : Node) (k : ℕ) (child : NodeId) → FitsNode d g x → FitsNode d h x → slice_get (node_children x) k ≡ Some child → (t : SortId) × HasNodeSort d g child t × HasNodeSort d h child t
same_field d g h (Elem s n) k child p q at = absurd (none-some child at)
same_field d g h (Con c ns) k child p q at =
    let ctors : q.ctor ≡ p.ctor = same_Some q.ctor p.ctor (sym q.declared ∙ p.declared) in
    let first = AllZip-at_left (IsNodeOfField d g) ns p.ctor.sels k child p.fields at in
    let second = AllZip-at_left (IsNodeOfField d h) ns q.ctor.sels k child q.fields at in
    let sels : second.0 ≡ first.0 = same_Some second.0 first.0 (sym second.1 ∙ ap (λ (e : Constructor). slice_get e.sels k) ctors ∙ first.1) in
    let selectors : second.2.selector ≡ first.2.selector = same_Some second.2.selector first.2.selector (sym second.2.declared ∙ ap (λ (s : SelId). slice_get d.sels s.0) sels ∙ first.2.declared) in
    (first.2.selector.sort, first.2.sorted, subst (λ (s : Selector). HasNodeSort d h child s.sort) selectors second.2.sorted)

module _ (d : Declarations) (consistent : IsConsistent d) (s : SortId) (h g : Nodes) (fits : FitsGraph d h) (each : EachReads d (length h) h) (first : IsBreadthFirst h) (root : HasNodeSort d h (record { 0 = 0 }) s) (is : IsGraphOf d s (canonical_each (node_texts d 0 h)) g) (long : length g ≡ length h) (said : AreSaid d h g) where
  -- nodes with one number and one sort are one
  same_at : (n : ℕ) (x y : Node) (t : SortId) → slice_get h n ≡ Some x → slice_get g n ≡ Some y → HasNodeSort d h (record { 0 = n }) t → HasNodeSort d g (record { 0 = n }) t → IsReached g n → y ≡ x
  same_at n x y t at_x at_y in_h in_g reached =
      let told = said n x y at_x at_y in
      let reads = each n x at_x in
      let y_sort : node_sort d y ≡ Some t = ap (node_sort d) (same_Some y in_g.0 (sym at_y ∙ in_g.1)) ∙ in_g.2 in
      let x_sort : node_sort d x ≡ Some t = ap (node_sort d) (same_Some x in_h.0 (sym at_x ∙ in_h.1)) ∙ in_h.2 in
      let text = canonical (expression d (node_value x)) in
      let of_y : told.0 ≡ t = same_Some told.0 t (sym (said_sorts d consistent told.0 text y told.1) ∙ y_sort) in
      let of_x : reads.sort ≡ t = same_Some reads.sort t (sym reads.sorted ∙ x_sort) in
      same_Some y x (sym (subst (λ (u : SortId). node_at d u text ≡ Some y) of_y told.1) ∙ subst (λ (u : SortId). node_at d u text ≡ Some x) of_x reads.said)

  -- each node is reached, and is the one that was printed
  abbrev IsSameNode : ℕ → Type 0
  IsSameNode n = IsReached g n × ((x y : Node) → slice_get h n ≡ Some x → slice_get g n ≡ Some y → y ≡ x)

  same_by : (n : ℕ) → n < length h → ((m : ℕ) → m < n → IsSameNode m) → IsSameNode n
  same_by zero within before =
      let reached : IsReached g 0 = λ set has children. has in
      (reached, λ x y at_x at_y. same_at 0 x y s at_x at_y root is.root reached)
  same_by (suc n) within before =
      let up = first.reached (suc n) (omega arith) within in
      let child = any_child (suc n) (node_children up.2.0) up.2.2 in
      let other = slice_get-there g up.0 (omega (arith, long, up.1, within)) in
      let parent = before up.0 up.1 in
      let same : other.0 ≡ up.2.0 = parent.1 up.2.0 other.0 up.2.1 other.1 in
      let in_g : slice_get g up.0 ≡ Some up.2.0 = other.1 ∙ ap (λ (x : Node). Some x) same in
      let sorts = same_field d h g up.2.0 child.0 child.1 (fits up.0 up.2.0 up.2.1) (is.reached up.0 up.2.0 parent.0 in_g) child.2 in
      let number : child.1 ≡ record { 0 = suc n } = λ i. record { 0 = sym child.3 i } in
      let reached : IsReached g (suc n) = λ set has children. subst (λ (k : ℕ). set k ≡ true) (sym child.3) (children up.0 up.2.0 child.0 child.1 (parent.0 set has children) in_g child.2) in
      (reached, λ x y at_x at_y. same_at (suc n) x y sorts.0 at_x at_y (subst (λ (k : NodeId). HasNodeSort d h k sorts.0) number sorts.1) (subst (λ (k : NodeId). HasNodeSort d g k sorts.0) number sorts.2) reached)

  same_below : (bound n : ℕ) → n < bound → n < length h → IsSameNode n
  same_below zero n below within = absurd (omega (arith, below))
  same_below (suc bound) n below within = same_by n within (λ m less. same_below bound m (omega (arith, less, below)) (omega (arith, less, within)))

  graph_only : g ≡ h
  graph_only = one_list g h long (λ n y x at_y at_x. (same_below (suc n) n (omega arith) (slice_get_within h n x at_x)).1 x y at_x at_y)

-- ---- the whole

rows_some : (d : Declarations) (h : Nodes) → 0 < length h → some_rows (canonical_each (node_texts d 0 h)) ≡ Some (canonical_each (node_texts d 0 h))
rows_some d [] some = absurd (omega (arith, some))
rows_some d (x ∷ xs) some = refl

closed_at : (h : Nodes) (bound k : ℕ) (x : Node) → All (HasChildrenBelow bound) h → slice_get h k ≡ Some x → HasChildrenBelow bound x
closed_at [] bound k x closed at = absurd (none-some x at)
closed_at (y ∷ h) bound zero x closed at = subst (HasChildrenBelow bound) (same_Some y x at) (All-head (HasChildrenBelow bound) y h closed)
closed_at (y ∷ h) bound (suc k) x closed at = closed_at h bound k x (All-tail (HasChildrenBelow bound) y h closed) at

-- the elements of a graph have numbers below the bound
abbrev pub HasSmallElements : Nodes → Type 0
HasSmallElements h = (k n : ℕ) (s : SortId) → slice_get h k ≡ Some (Elem s n) → n < number_bound

-- what is said of a printed graph
pub record GraphReads (d : Declarations) (s : SortId) (h : Nodes) : Type 0 where
  pub said : IsGraphAt d s (canonical (graph_text d h)) h
  pub only : (g : Nodes) → IsGraphAt d s (canonical (graph_text d h)) g → g ≡ h
  pub form : is_graph (canonical (graph_text d h)) ≡ true

pub graph_reads : (d : Declarations) (s : SortId) (h : Nodes) → IsConsistent d → FitsGraph d h → IsBreadthFirst h → HasSmallElements h → length h ≤ number_bound → HasNodeSort d h (record { 0 = 0 }) s → GraphReads d s h
graph_reads d s h consistent fits first small few root =
    let texts = canonical_each (node_texts d 0 h) in
    let some : 0 < length h = slice_get_within h 0 root.0 root.1 in
    let written : graph_rows (canonical (graph_text d h)) ≡ Some texts = rows_some d h some in
    let closed = fits_closed d h fits in
    let each : EachReads d (length h) h = λ k x at. node_reads d h x consistent few (fits k x at) (closed_at h (length h) k x closed at) (λ t n is. small k n t (at ∙ ap Some is)) in
    record {
      said = (
        texts,
        written,
        record {
          nodes = rows_said d (length h) 0 h (omega (arith, few)) each;
          closed = closed;
          root = root;
          reached = λ n x reached at. fits n x at;
          others = own_can_have d h fits few each;
        },
      );
      only = λ g is.
          let same : is.0 ≡ texts = same_Some is.0 texts (sym is.1 ∙ written) in
          let of : IsGraphOf d s texts g = subst (λ (rs : Expressions). IsGraphOf d s rs g) same is.2 in
          let told = rows_say d 0 h g (omega (arith, few)) of.nodes in
          graph_only d consistent s h g fits each first root of told.0 told.1;
      form = ap (holds (λ (es : Expressions). are_rows (count es) 0 es)) written
          ∙ ap (λ (n : ℕ). are_rows n 0 texts) (count_rows d 0 h)
          ∙ rows_form d (length h) 0 h (omega (arith, few)) each;
    }
