-- What values and graphs are written as tells them: expressions of values are readable, and are the same but for quoting that
-- is not needed only where the values are equal.
use Rattle.std.proofs.Common.{◌≡◌, ℕ, zero, suc, ◌<◌, Bool, true, false, if◌then◌else◌, List, [], ◌∷◌, ◌++◌, length, map, Option, Some, option_map, slice_get, unwrap_or, refl, sym, ap, ap₂, subst, ◌∙◌, inl, arith, append_assoc, codes}
use Rattle.std.specs.List.{AllByRecursion, list_all}
use Rattle.std.specs.Cmp.Derive.{both_true}
use Rattle.std.proofs.lemmas.List.{length-map, append_cancel_left}
use Rattle.std.proofs.lemmas.List.Folds.{list_all-append}
use Rattle.std.proofs.lemmas.Option.{none-some, same_Some, slice_get_within}
use Rattle.ct_lemmas.proofs.Lists.{slice_get-map_at, slice_get-there}
use Rattle.ct_sorts.specs.declared.ids.CtorId.{CtorId}
use Rattle.ct_sorts.specs.declared.ids.SelId.{SelId}
use Rattle.ct_sorts.specs.declared.ids.SortId.{SortId}
use Rattle.ct_sorts.specs.Declarations.{Declarations, Constructor, Selector, IsSort, IsConstructor, ctor_names}
use Rattle.ct_sorts.specs.Consistent.{IsConsistent}
use Rattle.ct_sorts.proofs.StructureLemmas.{of_their_sorts}
use Rattle.ct_instances.specs.Fields.{sort_of_ctor, is_ctor_determined}
use Rattle.ct_sexpr.specs.Atom.{Atom, symbol, quoted}
use Rattle.ct_sexpr.specs.Token.{is_in_quoted_symbol}
use Rattle.ct_sexpr.specs.Expression.{Expression, Expressions, leaf, list, none, more}
use Rattle.ct_sexpr.specs.Written.{canonical_atom, canonical, canonical_each}
use Rattle.ct_sexpr.specs.Readable.{IsReadable, AreReadable, name_of_atom}
use Rattle.ct_values.specs.declared.node.NodeId.{NodeId}
use Rattle.ct_values.specs.declared.node.Node.{Node}
use Rattle.ct_values.specs.declared.node.Node.TheVariants.{Con, Elem}
use Rattle.ct_values.specs.Graph.{Nodes}
use Rattle.ct_values.specs.Value.{Value, Values, reference, element, construct, no_values, with_value, values_of, node_value}
use Rattle.ct_values.specs.ValueSort.{HasValueSort, AreOfFields}
use Rattle.ct_value_text.specs.ValueText.{name, node_name, sort_expression, bare_sort, element_name, qualified, element_text, ctor_name, ctor_expression, applied, expression, expressions, node_texts, graph_text}
use Rattle.ct_value_text.specs.Numeral.{numeral}
use Rattle.ct_value_text.proofs.NumeralLemmas.{numeral_injective}
use Rattle.ct_value_text.proofs.FitNameLemmas.{ctor_fits, fit_between, digits_between, digits_word}
use Rattle.ct_value_text.proofs.SortTextLemmas.{TextTheorems, sort_readable, bare_clean}
use Rattle.ct_instances.proofs.CtorNameLemmas.{one_of_sort}

-- ---- parts of expressions

list_same : (es fs : Expressions) → list es ≡ list fs → es ≡ fs
list_same es fs e = cc

more_same : (e f : Expression) (es fs : Expressions) → more e es ≡ more f fs → (e ≡ f) × (es ≡ fs)
more_same e f es fs h = (cc, cc)

leaf_same : (a b : Atom) → leaf a ≡ leaf b → a ≡ b
leaf_same a b e = cc

leaf_list : (a : Atom) (es : Expressions) → leaf a ≡ list es → ⊥
leaf_list a es e = cc

none_more : (e : Expression) (es : Expressions) → none ≡ more e es → ⊥
none_more e es h = cc

symbol_same : (v w : List ℕ) → symbol v ≡ symbol w → v ≡ w
symbol_same v w e = cc

-- ---- names

-- what stands in a list at an index, or nothing
at_index : (names : List (List ℕ)) (n : ℕ) → n < length names → slice_get names n ≡ Some (unwrap_or (slice_get names n) [])
at_index names n within =
    let x = slice_get-there names n within in
    x.1 ∙ ap (λ (found : Option (List ℕ)). Some (unwrap_or found [])) (sym x.1)

ctor_at : (d : Declarations) (c : CtorId) → IsConstructor d c → slice_get (ctor_names d) c.0 ≡ Some (ctor_name d c.0)
ctor_at d c declared = at_index (ctor_names d) c.0 (omega (arith, length-map d.ctors (λ (k : Constructor). k.name)))

-- the name of a constructor that is there
name_of : (d : Declarations) (c : CtorId) (ctor : Constructor) → slice_get d.ctors c.0 ≡ Some ctor → ctor_name d c.0 ≡ ctor.name
name_of d c ctor at = ap (λ (found : Option (List ℕ)). unwrap_or found []) (slice_get-map_at (λ (k : Constructor). k.name) d.ctors c.0 ctor at)

-- constructors of one sort with one name are one
ctor_same : (d : Declarations) (b c : CtorId) (first second : Constructor) (s : SortId) → IsConsistent d → slice_get d.ctors b.0 ≡ Some first → first.sort ≡ s → slice_get d.ctors c.0 ≡ Some second → second.sort ≡ s → ctor_name d b.0 ≡ ctor_name d c.0 → b ≡ c
ctor_same d b c first second s consistent at_b of_b at_c of_c e =
    one_of_sort d consistent b c first second at_b at_c (of_b ∙ sym of_c) (sym (name_of d b first at_b) ∙ e ∙ name_of d c second at_c)

-- no constructor's name begins with `@`
not_at : (d : Declarations) (c : CtorId) (rest : List ℕ) → IsConsistent d → IsConstructor d c → ctor_name d c.0 ≡ 64 ∷ rest → ⊥
not_at d c rest consistent c_in e =
    ctor_fits d c.0 (ctor_name d c.0) consistent (ctor_at d c c_in) (inl (ap (λ (w : List ℕ). slice_get w 0) e))

-- names that are written alike are one
name_same : TextTheorems → (v w : List ℕ) → canonical (name v) ≡ canonical (name w) → v ≡ w
name_same theorems v w e =
    let atoms = leaf_same (canonical_atom (quoted v)) (canonical_atom (quoted w)) e in
    same_Some v w (sym (theorems.one_name (quoted v)) ∙ ap name_of_atom atoms ∙ theorems.one_name (quoted w))

-- a node's number is its name
node_word : (n : ℕ) → name_of_atom (symbol (64 ∷ numeral n)) ≡ Some (64 ∷ numeral n)
node_word n = refl

-- a name that is written as a symbol is the name that the symbol is
name_of_word : TextTheorems → (v w : List ℕ) → leaf (canonical_atom (quoted v)) ≡ leaf (symbol w) → Some v ≡ name_of_atom (symbol w)
name_of_word theorems v w e = sym (theorems.one_name (quoted v)) ∙ ap name_of_atom (leaf_same (canonical_atom (quoted v)) (symbol w) e)

-- numbers of nodes that are written alike are one
node_same : (m n : NodeId) → canonical (node_name m.0) ≡ canonical (node_name n.0) → m ≡ n
node_same m n e =
    let words : 64 ∷ numeral m.0 ≡ 64 ∷ numeral n.0 = symbol_same (64 ∷ numeral m.0) (64 ∷ numeral n.0) (leaf_same (symbol (64 ∷ numeral m.0)) (symbol (64 ∷ numeral n.0)) e) in
    let same : m.0 ≡ n.0 = numeral_injective m.0 n.0 (append_cancel_left (64 ∷ []) (numeral m.0) (numeral n.0) words) in
    λ i. record { 0 = same i }

-- ---- they are readable

node_readable : (n : ℕ) → IsReadable (node_name n)
node_readable n = digits_word n

name_readable : (d : Declarations) (c : CtorId) → IsConsistent d → IsConstructor d c → IsReadable (name (ctor_name d c.0))
name_readable d c consistent c_in = fit_between (ctor_name d c.0) (ctor_fits d c.0 (ctor_name d c.0) consistent (ctor_at d c c_in))

applied_readable : (head : Expression) (es : Expressions) → IsReadable head → AreReadable es → IsReadable (applied head es)
applied_readable head none h all = h
applied_readable head (more e es) h all = (h, all)

-- a constructor alone, by whether its sort is determined
abbrev ctor_head : Declarations → CtorId → Bool → Expression
ctor_head d c b = if b then name (ctor_name d c.0) else qualified (ctor_name d c.0) (sort_expression d (sort_of_ctor d c).0)

-- the sort of a constructor that is there is one
sort_within : (d : Declarations) (c : CtorId) (ctor : Constructor) → IsConsistent d → slice_get d.ctors c.0 ≡ Some ctor → IsSort d (sort_of_ctor d c)
sort_within d c ctor consistent at =
    let own = of_their_sorts d consistent c.0 ctor at in
    let same : ctor.sort ≡ sort_of_ctor d c = ap (λ (o : Option Constructor). unwrap_or (option_map (λ (k : Constructor). k.sort) o) (record { 0 = 0 })) (sym at) in
    slice_get_within d.sorts (sort_of_ctor d c).0 own.0 (ap (λ (t : SortId). slice_get d.sorts t.0) (sym same) ∙ own.2)

module _ (theorems : TextTheorems) (d : Declarations) (consistent : IsConsistent d) where
  head_readable : (c : CtorId) (ctor : Constructor) → slice_get d.ctors c.0 ≡ Some ctor → IsReadable (ctor_expression d c)
  head_readable c ctor at = by (is_ctor_determined d c)
    where
      alone : IsReadable (name (ctor_name d c.0))
      alone = name_readable d c consistent (slice_get_within d.ctors c.0 ctor at)

      by : (b : Bool) → IsReadable (ctor_head d c b)
      by true = alone
      by false = (refl, (alone, (sort_readable theorems d consistent (sort_of_ctor d c) (sort_within d c ctor consistent at), tt)))

  element_readable : (s : SortId) (n : ℕ) → IsSort d s → IsReadable (element_text d s.0 n)
  element_readable s n s_in =
      let sort = bare_sort d s.0 in
      let clean = bare_clean theorems d consistent s s_in in
      let symbol_clean : list_all is_in_quoted_symbol (sort ++ 95 ∷ numeral n) ≡ true = list_all-append is_in_quoted_symbol sort (95 ∷ numeral n) ∙ both_true clean (digits_between n) in
      (refl, (symbol_clean, (sort_readable theorems d consistent s s_in, tt)))

  mutual
    pub readable : (g : Nodes) (v : Value) (s : SortId) → HasValueSort d g v s → IsReadable (expression d v)
    readable g (reference n) s sorted = node_readable n.0
    readable g (element t n) s sorted = element_readable t n (slice_get_within d.sorts t.0 sorted.0.sort sorted.0.declared)
    readable g (construct c vs) s sorted = applied_readable (ctor_expression d c) (expressions d vs) (head_readable c sorted.0 sorted.1) (all_readable g vs sorted.0.sels sorted.3)

    all_readable : (g : Nodes) (vs : Values) (ss : List SelId) → AreOfFields d g vs ss → AreReadable (expressions d vs)
    all_readable g no_values ss sorted = tt
    all_readable g (with_value v vs) [] sorted = absurd sorted
    all_readable g (with_value v vs) (s ∷ ss) sorted = (readable g v sorted.0.0.sort sorted.0.2, all_readable g vs ss sorted.1)

-- ---- they tell the values

-- an element is written with `as`, which is no name, and a graph with `@graph`, which is none of a constructor
not_as : TextTheorems → (v : List ℕ) → leaf (canonical_atom (quoted v)) ≡ leaf (symbol (codes "as")) → ⊥
not_as theorems v e = none-some v (sym (name_of_word theorems v (codes "as") e))

as_graph : symbol (codes "as") ≡ symbol (codes "@graph") → ⊥
as_graph same = absurd (omega (arith, ap length (symbol_same (codes "as") (codes "@graph") same)))

-- numbers in the symbols of the elements of one sort
same_numeral : (u : List ℕ) (m n : ℕ) → element_name u m ≡ element_name u n → m ≡ n
same_numeral u m n e = numeral_injective m n (append_cancel_left (64 ∷ (u ++ 95 ∷ [])) (numeral m) (numeral n) (pulled m ∙ e ∙ sym (pulled n)))
  where
    pulled : (k : ℕ) → (64 ∷ (u ++ 95 ∷ [])) ++ numeral k ≡ element_name u k
    pulled k = ap (λ (y : List ℕ). 64 ∷ y) (append_assoc u (95 ∷ []) (numeral k))

module _ (theorems : TextTheorems) (d : Declarations) (consistent : IsConsistent d) where
  -- ---- a constructor alone

  -- it is no word that begins with `@`
  not_word : (c : CtorId) (rest : List ℕ) → IsConstructor d c → name_of_atom (symbol (64 ∷ rest)) ≡ Some (64 ∷ rest) → (b : Bool) → canonical (ctor_head d c b) ≡ leaf (symbol (64 ∷ rest)) → ⊥
  not_word c rest c_in is true e = not_at d c rest consistent c_in (same_Some (ctor_name d c.0) (64 ∷ rest) (name_of_word theorems (ctor_name d c.0) (64 ∷ rest) e ∙ is))
  not_word c rest c_in is false e = leaf_list _ _ (sym e)

  -- nor `as`
  not_as_head : (c : CtorId) (b : Bool) → canonical (ctor_head d c b) ≡ leaf (symbol (codes "as")) → ⊥
  not_as_head c true e = not_as theorems (ctor_name d c.0) e
  not_as_head c false e = leaf_list _ _ (sym e)

  -- nor an element
  not_element : (c : CtorId) (s n : ℕ) → IsConstructor d c → (b : Bool) → canonical (ctor_head d c b) ≡ canonical (element_text d s n) → ⊥
  not_element c s n c_in true e = leaf_list _ _ e
  not_element c s n c_in false e =
      let parts = more_same _ _ _ _ (more_same _ _ _ _ (list_same _ _ e)).1 in
      not_at d c (bare_sort d s ++ 95 ∷ numeral n) consistent c_in (name_same theorems (ctor_name d c.0) (element_name (bare_sort d s) n) parts.0)

  -- nor a constructor with arguments
  not_applied : (b : CtorId) (c : CtorId) (es : Expressions) (x y : Bool) → canonical (ctor_head d b x) ≡ list (more (canonical (ctor_head d c y)) es) → ⊥
  not_applied b c es true y e = leaf_list _ _ e
  not_applied b c es false y e = not_as_head c y (sym (more_same _ _ _ _ (list_same _ _ e)).0)

  -- nor a graph
  not_graph_alone : (c : CtorId) (h : Nodes) (b : Bool) → canonical (ctor_head d c b) ≡ canonical (graph_text d h) → ⊥
  not_graph_alone c h true e = leaf_list _ _ e
  not_graph_alone c h false e = as_graph (leaf_same _ _ (more_same _ _ _ _ (list_same _ _ e)).0)

  -- and it has its name
  head_same : (b c : CtorId) (x y : Bool) → canonical (ctor_head d b x) ≡ canonical (ctor_head d c y) → ctor_name d b.0 ≡ ctor_name d c.0
  head_same b c true true e = name_same theorems (ctor_name d b.0) (ctor_name d c.0) e
  head_same b c true false e = absurd (leaf_list _ _ e)
  head_same b c false true e = absurd (leaf_list _ _ (sym e))
  head_same b c false false e =
      let parts = more_same _ _ _ _ (more_same _ _ _ _ (list_same _ _ e)).1 in
      name_same theorems (ctor_name d b.0) (ctor_name d c.0) parts.0

  -- ---- elements of one sort

  element_same : (s t : SortId) (m n : ℕ) → s ≡ t → canonical (element_text d s.0 m) ≡ canonical (element_text d t.0 n) → element s m ≡ element t n
  element_same s t m n sorts e =
      let turned : canonical (element_text d s.0 m) ≡ canonical (element_text d s.0 n) = e ∙ ap (λ (u : SortId). canonical (element_text d u.0 n)) (sym sorts) in
      let parts = more_same _ _ _ _ (more_same _ _ _ _ (list_same _ _ turned)).1 in
      let names = name_same theorems (element_name (bare_sort d s.0) m) (element_name (bare_sort d s.0) n) parts.0 in
      ap₂ element sorts (same_numeral (bare_sort d s.0) m n names)

  -- ---- values of one sort

  within : (c : CtorId) (ctor : Constructor) → slice_get d.ctors c.0 ≡ Some ctor → IsConstructor d c
  within c ctor at = slice_get_within d.ctors c.0 ctor at

  graph_word : name_of_atom (symbol (codes "@graph")) ≡ Some (codes "@graph")
  graph_word = refl

  -- constructors of one sort that are written alike
  ctors_same : (b c : CtorId) (first second : Constructor) (s : SortId) → slice_get d.ctors b.0 ≡ Some first → first.sort ≡ s → slice_get d.ctors c.0 ≡ Some second → second.sort ≡ s → canonical (ctor_expression d b) ≡ canonical (ctor_expression d c) → b ≡ c
  ctors_same b c first second s at_b of_b at_c of_c e =
      ctor_same d b c first second s consistent at_b of_b at_c of_c (head_same b c (is_ctor_determined d b) (is_ctor_determined d c) e)

  mutual
    pub value_same : (g h : Nodes) (v w : Value) (s : SortId) → HasValueSort d g v s → HasValueSort d h w s → canonical (expression d v) ≡ canonical (expression d w) → v ≡ w
    value_same g h (reference m) (reference n) s p q e = ap reference (node_same m n e)
    value_same g h (reference m) (element t n) s p q e = absurd (leaf_list _ _ e)
    value_same g h (reference m) (construct c no_values) s p q e = absurd (not_word c (numeral m.0) (within c q.0 q.1) (node_word m.0) (is_ctor_determined d c) (sym e))
    value_same g h (reference m) (construct c (with_value w ws)) s p q e = absurd (leaf_list _ _ e)
    value_same g h (element t m) (reference n) s p q e = absurd (leaf_list _ _ (sym e))
    value_same g h (element t m) (element u n) s p q e = element_same t u m n (p.1 ∙ sym q.1) e
    value_same g h (element t m) (construct c no_values) s p q e = absurd (not_element c t.0 m (within c q.0 q.1) (is_ctor_determined d c) (sym e))
    value_same g h (element t m) (construct c (with_value w ws)) s p q e = absurd (not_as_head c (is_ctor_determined d c) (sym (more_same _ _ _ _ (list_same _ _ e)).0))
    value_same g h (construct b no_values) (reference n) s p q e = absurd (not_word b (numeral n.0) (within b p.0 p.1) (node_word n.0) (is_ctor_determined d b) e)
    value_same g h (construct b (with_value v vs)) (reference n) s p q e = absurd (leaf_list _ _ (sym e))
    value_same g h (construct b no_values) (element t n) s p q e = absurd (not_element b t.0 n (within b p.0 p.1) (is_ctor_determined d b) e)
    value_same g h (construct b (with_value v vs)) (element t n) s p q e = absurd (not_as_head b (is_ctor_determined d b) (more_same _ _ _ _ (list_same _ _ e)).0)
    value_same g h (construct b no_values) (construct c no_values) s p q e =
        ap (λ (k : CtorId). construct k no_values) (ctors_same b c p.0 q.0 s p.1 p.2 q.1 q.2 e)
    value_same g h (construct b no_values) (construct c (with_value w ws)) s p q e = absurd (not_applied b c _ (is_ctor_determined d b) (is_ctor_determined d c) e)
    value_same g h (construct b (with_value v vs)) (construct c no_values) s p q e = absurd (not_applied c b _ (is_ctor_determined d c) (is_ctor_determined d b) (sym e))
    value_same g h (construct b (with_value v vs)) (construct c (with_value w ws)) s p q e =
        let parts = more_same _ _ _ _ (list_same _ _ e) in
        let heads = ctors_same b c p.0 q.0 s p.1 p.2 q.1 q.2 parts.0 in
        let ctors : q.0 ≡ p.0 = same_Some q.0 p.0 (sym q.1 ∙ ap (λ (k : CtorId). slice_get d.ctors k.0) (sym heads) ∙ p.1) in
        ap₂ construct heads (values_same g h (with_value v vs) (with_value w ws) p.0.sels p.3 (subst (λ (k : Constructor). AreOfFields d h (with_value w ws) k.sels) ctors q.3) parts.1)

    values_same : (g h : Nodes) (vs ws : Values) (ss : List SelId) → AreOfFields d g vs ss → AreOfFields d h ws ss → canonical_each (expressions d vs) ≡ canonical_each (expressions d ws) → vs ≡ ws
    values_same g h no_values no_values ss p q e = refl
    values_same g h no_values (with_value w ws) ss p q e = absurd (none_more _ _ e)
    values_same g h (with_value v vs) no_values ss p q e = absurd (none_more _ _ (sym e))
    values_same g h (with_value v vs) (with_value w ws) [] p q e = absurd p
    values_same g h (with_value v vs) (with_value w ws) (s ∷ ss) p q e =
        let parts = more_same _ _ _ _ e in
        let sels : q.0.0 ≡ p.0.0 = same_Some q.0.0 p.0.0 (sym q.0.1 ∙ p.0.1) in
        ap₂ with_value (value_same g h v w p.0.0.sort p.0.2 (subst (λ (k : Selector). HasValueSort d h w k.sort) sels q.0.2) parts.0) (values_same g h vs ws ss p.1 q.1 parts.1)

  -- no value is written as a graph is
  pub not_graph_text : (g : Nodes) (v : Value) (h : Nodes) (s : SortId) → HasValueSort d g v s → canonical (expression d v) ≡ canonical (graph_text d h) → ⊥
  not_graph_text g (reference n) h s p e = leaf_list _ _ e
  not_graph_text g (element t n) h s p e = as_graph (leaf_same _ _ (more_same _ _ _ _ (list_same _ _ e)).0)
  not_graph_text g (construct c no_values) h s p e = not_graph_alone c h (is_ctor_determined d c) e
  not_graph_text g (construct c (with_value v vs)) h s p e =
      not_word c (codes "graph") (within c p.0 p.1) graph_word (is_ctor_determined d c) (more_same _ _ _ _ (list_same _ _ e)).0

-- ---- they tell the nodes of a graph

ids_same : (ms ns : List NodeId) → values_of (map reference ms) ≡ values_of (map reference ns) → ms ≡ ns
ids_same [] [] e = refl
ids_same [] (n ∷ ns) e = cc
ids_same (m ∷ ms) [] e = cc
ids_same (m ∷ ms) (n ∷ ns) e =
    let first : m ≡ n = cc in
    let others : values_of (map reference ms) ≡ values_of (map reference ns) = cc in
    ap₂ (λ (x : NodeId) (xs : List NodeId). x ∷ xs) first (ids_same ms ns others)

pub node_value_same : (x y : Node) → node_value x ≡ node_value y → x ≡ y
node_value_same (Con b ms) (Con c ns) e =
    let heads : b ≡ c = cc in
    let below : values_of (map reference ms) ≡ values_of (map reference ns) = cc in
    ap₂ Con heads (ids_same ms ns below)
node_value_same (Con b ms) (Elem s n) e = cc
node_value_same (Elem s n) (Con c ns) e = cc
node_value_same (Elem s m) (Elem t n) e = cc

-- each node has a sort
abbrev pub AreNodesSorted : Declarations → Nodes → List Node → Type 0
AreNodesSorted d g nodes = AllByRecursion (λ x. (s : SortId) × HasValueSort d g (node_value x) s) nodes

-- each node of the first list is written as the one of the second with its number
abbrev AreWrittenAlike : Declarations → List Node → List Node → Type 0
AreWrittenAlike d xs ys = (i : ℕ) (x y : Node) → slice_get xs i ≡ Some x → slice_get ys i ≡ Some y → canonical (expression d (node_value x)) ≡ canonical (expression d (node_value y))

each_more : (d : Declarations) (x y : Node) (xs ys : List Node) → canonical (expression d (node_value x)) ≡ canonical (expression d (node_value y)) → AreWrittenAlike d xs ys → AreWrittenAlike d (x ∷ xs) (y ∷ ys)
each_more d x y xs ys first rest zero z w at_z at_w =
    ap (λ (k : Node). canonical (expression d (node_value k))) (sym (same_Some x z at_z)) ∙ first ∙ ap (λ (k : Node). canonical (expression d (node_value k))) (same_Some y w at_w)
each_more d x y xs ys first rest (suc i) z w at_z at_w = rest i z w at_z at_w

-- nodes that are written alike are as many, and each is written as the other one
rows_alike : (d : Declarations) (n : ℕ) (xs ys : List Node) → canonical_each (node_texts d n xs) ≡ canonical_each (node_texts d n ys) → (length xs ≡ length ys) × ((i : ℕ) (x y : Node) → slice_get xs i ≡ Some x → slice_get ys i ≡ Some y → canonical (expression d (node_value x)) ≡ canonical (expression d (node_value y)))
rows_alike d n [] [] e = (refl, λ i x y at_x at_y. absurd (none-some x at_x))
rows_alike d n [] (y ∷ ys) e = absurd (none_more _ _ e)
rows_alike d n (x ∷ xs) [] e = absurd (none_more _ _ (sym e))
rows_alike d n (x ∷ xs) (y ∷ ys) e =
    let parts = more_same _ _ _ _ e in
    let rest = rows_alike d (suc n) xs ys parts.1 in
    (ap suc rest.0, each_more d x y xs ys (more_same _ _ _ _ (more_same _ _ _ _ (list_same _ _ parts.0)).1).0 rest.1)

pub graph_alike : (d : Declarations) (g h : Nodes) → canonical (graph_text d g) ≡ canonical (graph_text d h) → (length g ≡ length h) × ((i : ℕ) (x y : Node) → slice_get g i ≡ Some x → slice_get h i ≡ Some y → canonical (expression d (node_value x)) ≡ canonical (expression d (node_value y)))
graph_alike d g h e =
    let remaining = (more_same _ _ _ _ (list_same _ _ e)).1 in
    rows_alike d 0 g h (list_same _ _ (more_same _ _ _ _ remaining).0)

module _ (theorems : TextTheorems) (d : Declarations) (consistent : IsConsistent d) where
  rows_readable : (g : Nodes) (n : ℕ) (xs : List Node) → AreNodesSorted d g xs → AreReadable (node_texts d n xs)
  rows_readable g n [] sorted = tt
  rows_readable g n (x ∷ xs) sorted =
      ((node_readable n, (readable theorems d consistent g (node_value x) sorted.0.0 sorted.0.1, tt)), rows_readable g (suc n) xs sorted.1)

  pub graph_readable : (g : Nodes) → AreNodesSorted d g g → IsReadable (graph_text d g)
  graph_readable g sorted = (refl, (rows_readable g 0 g sorted, (node_readable 0, tt)))
