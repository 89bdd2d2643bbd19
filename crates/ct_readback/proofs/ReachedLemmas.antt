-- The nodes that the root reaches have in each graph that the rows say the sorts that are found for them.
use Rattle.std.proofs.Common.{◌≡◌, ℕ, zero, suc, ◌+◌, ◌<◌, ◌≤◌, ◌⊎◌, List, [], ◌∷◌, length, map, replicate, All, Contains, Option, None, Some, option_map, option_and_then, unwrap_or, slice_get, refl, sym, ap, subst, ◌∙◌, inl, inr, arith}
use Rattle.std.specs.List.{AllZip}
use Rattle.std.proofs.lemmas.List.{length-replicate, length-map}
use Rattle.std.proofs.lemmas.Option.{none-some, same_Some, slice_get_within}
use Rattle.std.proofs.lemmas.List.Elements.{All-head, All-tail}
use Rattle.ct_lemmas.proofs.Lists.{slice_get-append_left, slice_get-there}
use Rattle.ct_lemmas.proofs.Contained.{Contains-none, Contains-cons}
use Rattle.ct_sorts.specs.declared.ids.SortId.{SortId}
use Rattle.ct_sorts.specs.declared.ids.SelId.{SelId}
use Rattle.ct_sorts.specs.Declarations.{Declarations, Constructor, Selector, IsSelector, IsSort}
use Rattle.ct_sorts.specs.Consistent.{AreFieldsOverSorts}
use Rattle.ct_sexpr.specs.Expression.{Expression, Expressions, none, more}
use Rattle.ct_values.specs.declared.node.NodeId.{NodeId}
use Rattle.ct_values.specs.declared.node.Node.{Node}
use Rattle.ct_values.specs.declared.node.Node.TheVariants.{Con, Elem}
use Rattle.ct_values.specs.Graph.{Nodes, node_children}
use Rattle.ct_values.specs.Fitting.{node_sort, HasNodeSort, IsNodeOfField, IsElement, FitsNode}
use Rattle.ct_names.specs.Symbols.{field_sort_id}
use Rattle.ct_readback.specs.declared.descent.Descent.{Descent}
use Rattle.ct_readback.specs.Parts.{nth, count}
use Rattle.ct_readback.specs.GraphText.{node_text, node_at, SaysNode, SayNodes}
use Rattle.ct_readback.specs.Nodes.{said_at, field_sorts, IsReached, IsGraphOf}
use Rattle.ct_readback.specs.Descent.{HasSort, AreListed, Extends, IsDescended, IsStopped, IsOther, AreReached, pairs_of, asked_by}
use Rattle.ct_readback.proofs.DescentLemmas.{pair_of, fields_are, have_kept}

abbrev numbered : ℕ → NodeId
numbered n = record { 0 = n }

-- ---- nodes that rows say

pub say_long : (d : Declarations) (i : ℕ) (rows : Expressions) (h : Nodes) → SayNodes d i rows h → length h ≡ count rows
say_long d i none [] say = refl
say_long d i none (x ∷ h) say = absurd say
say_long d i (more e es) [] say = absurd say
say_long d i (more e es) (x ∷ h) say = ap suc (say_long d (suc i) es h say.1)

say_at : (d : Declarations) (i : ℕ) (rows : Expressions) (h : Nodes) (k : ℕ) (x : Node) → SayNodes d i rows h → slice_get h k ≡ Some x → (row : Expression) × (nth rows k ≡ Some row) × SaysNode d (i + k) row x
say_at d i none [] k x say at = absurd (none-some x at)
say_at d i none (y ∷ h) k x say at = absurd say
say_at d i (more e es) [] k x say at = absurd say
say_at d i (more e es) (y ∷ h) zero x say at =
    (e, refl, subst (λ (n : ℕ). SaysNode d n e x) (omega arith) (subst (λ (z : Node). SaysNode d i e z) (same_Some y x at) say.0))
say_at d i (more e es) (y ∷ h) (suc k) x say at =
    let found = say_at d (suc i) es h k x say.1 at in
    (found.0, found.1, subst (λ (n : ℕ). SaysNode d n found.0 x) (omega arith) found.2)

-- what a text says of a sort has this sort
abbrev pub HaveSaidSorts : Declarations → Type 0
HaveSaidSorts d = (s : SortId) (e : Expression) (x : Node) → node_at d s e ≡ Some x → node_sort d x ≡ Some s

module _ (d : Declarations) (said_sorts : HaveSaidSorts d) where
  -- a node with the sort is what its row says of the sort
  pub said_node : (rows : Expressions) (h : Nodes) (i : ℕ) (t : SortId) → SayNodes d 0 rows h → (has : HasNodeSort d h (numbered i) t) → said_at d rows i t ≡ Some has.0
  said_node rows h i t say (x, at, sorted) =
      let found = say_at d 0 rows h i x say at in
      let says : SaysNode d i found.0 x = subst (λ (n : ℕ). SaysNode d n found.0 x) (omega arith) found.2 in
      let same : says.sort ≡ t = same_Some says.sort t (sym (said_sorts says.sort says.text x says.said) ∙ sorted) in
      ap (λ (o : Option Expression). option_and_then (node_at d t) (option_and_then (node_text i) o)) found.1
      ∙ ap (λ (o : Option Expression). option_and_then (node_at d t) o) says.written
      ∙ ap (λ (s : SortId). node_at d s says.text) (sym same) ∙ says.said

-- ---- children of a node that fits

field_at : (d : Declarations) (h : Nodes) (ns : List NodeId) (sels : List SelId) (k : ℕ) (n : NodeId) (t : SortId) → AllZip (IsNodeOfField d h) ns sels → slice_get ns k ≡ Some n → slice_get (map (field_sort_id d) sels) k ≡ Some t → HasNodeSort d h n t
field_at d h [] sels k n t zipped at at_t = absurd (none-some n at)
field_at d h (m ∷ ns) [] k n t zipped at at_t = absurd zipped
field_at d h (m ∷ ns) (s ∷ sels) zero n t zipped at at_t =
    let f = zipped.0 in
    let sort : field_sort_id d s ≡ f.selector.sort = ap (λ (o : Option Selector). unwrap_or (option_map (λ (sel : Selector). sel.sort) o) (record { 0 = 0 })) f.declared in
    let same : f.selector.sort ≡ t = sym sort ∙ same_Some (field_sort_id d s) t at_t in
    subst (λ (u : SortId). HasNodeSort d h n u) same (subst (λ (x : NodeId). HasNodeSort d h x f.selector.sort) (same_Some m n at) f.sorted)
field_at d h (m ∷ ns) (s ∷ sels) (suc k) n t zipped at at_t = field_at d h ns sels k n t zipped.1 at at_t

zipped_long : (d : Declarations) (h : Nodes) (ns : List NodeId) (sels : List SelId) → AllZip (IsNodeOfField d h) ns sels → length ns ≡ length sels
zipped_long d h [] [] zipped = refl
zipped_long d h [] (s ∷ sels) zipped = absurd zipped
zipped_long d h (m ∷ ns) [] zipped = absurd zipped
zipped_long d h (m ∷ ns) (s ∷ sels) zipped = ap suc (zipped_long d h ns sels zipped.1)

pub fit_at : (d : Declarations) (h : Nodes) (x : Node) (k : ℕ) (n : NodeId) (t : SortId) → FitsNode d h x → slice_get (node_children x) k ≡ Some n → slice_get (field_sorts d x) k ≡ Some t → HasNodeSort d h n t
fit_at d h (Con c ns) k n t fits at at_t =
    let sorts = fields_are d c fits.ctor.sels (ap (option_map (λ (ctor : Constructor). ctor.sels)) fits.declared) in
    field_at d h ns fits.ctor.sels k n t fits.fields at (ap (λ (l : List SortId). slice_get l k) (sym sorts) ∙ at_t)
fit_at d h (Elem s m) k n t fits at at_t = absurd (none-some n at)

pub fit_long : (d : Declarations) (h : Nodes) (x : Node) → FitsNode d h x → length (node_children x) ≡ length (field_sorts d x)
fit_long d h (Con c ns) fits =
    let sorts = fields_are d c fits.ctor.sels (ap (option_map (λ (ctor : Constructor). ctor.sels)) fits.declared) in
    zipped_long d h ns fits.ctor.sels fits.fields ∙ sym (length-map fits.ctor.sels (field_sort_id d)) ∙ ap length (sym sorts)
fit_long d h (Elem s m) fits = refl

pub pairs_from : (nodes : List NodeId) (wanted : List SortId) (pair : ℕ × SortId) → Contains (pairs_of nodes wanted) pair → (k : ℕ) × (n : NodeId) × (slice_get nodes k ≡ Some n) × (slice_get wanted k ≡ Some pair.1) × (n.0 ≡ pair.0)
pairs_from [] wanted pair inside = absurd (Contains-none pair inside)
pairs_from (n ∷ ns) [] pair inside = absurd (Contains-none pair inside)
pairs_from (n ∷ ns) (s ∷ sorts) pair inside =
    elim (Contains-cons (pair_of n.0 s) (pairs_of ns sorts) pair inside) [
      | inl same ↦ (0, n, refl, ap (λ (p : ℕ × SortId). Some p.1) same, ap (λ (p : ℕ × SortId). p.0) same)
      | inr later ↦ let found = pairs_from ns sorts pair later in (suc found.0, found.1, found.2, found.3, found.4)
    ]

-- ---- nodes that were said

-- the text of a node that a row says
pub record SaidParts (d : Declarations) (rows : Expressions) (i : ℕ) (s : SortId) (x : Node) : Type 0 where
  pub row : Expression
  pub stands : nth rows i ≡ Some row
  pub text : Expression
  pub written : node_text i row ≡ Some text
  pub said : node_at d s text ≡ Some x

pub said_parts : (d : Declarations) (rows : Expressions) (i : ℕ) (s : SortId) (x : Node) → said_at d rows i s ≡ Some x → SaidParts d rows i s x
said_parts d rows i s x said = by_row (nth rows i) refl said
  where
    by_text : (row : Expression) → nth rows i ≡ Some row → (o : Option Expression) → node_text i row ≡ o → option_and_then (node_at d s) o ≡ Some x → SaidParts d rows i s x
    by_text row stands None is h = absurd (none-some x h)
    by_text row stands (Some text) is h = record { row = row; stands = stands; text = text; written = is; said = h }

    by_row : (o : Option Expression) → nth rows i ≡ o → option_and_then (node_at d s) (option_and_then (node_text i) o) ≡ Some x → SaidParts d rows i s x
    by_row None is h = absurd (none-some x h)
    by_row (Some row) is h = by_text row is (node_text i row) refl h

-- what a text says has a declared head
abbrev pub HasHead : Declarations → Node → Type 0
HasHead d (Con c children) = (ctor : Constructor) × (slice_get d.ctors c.0 ≡ Some ctor) × All (IsSelector d) ctor.sels
HasHead d (Elem s number) = IsElement d s.0

abbrev pub HaveSaidHeads : Declarations → Type 0
HaveSaidHeads d = (s : SortId) (e : Expression) (x : Node) → node_at d s e ≡ Some x → HasHead d x

-- the sorts that the fields of a said node ask for are declared
abbrev pub FieldsOver : Declarations → Type 0
FieldsOver d = (f : SelId) → IsSelector d f → IsSort d (field_sort_id d f)

pub fields_over : (d : Declarations) → AreFieldsOverSorts d → FieldsOver d
fields_over d over f declared =
    let at = slice_get-there d.sels f.0 declared in
    let same : field_sort_id d f ≡ at.0.sort = ap (λ (o : Option Selector). unwrap_or (option_map (λ (sel : Selector). sel.sort) o) (record { 0 = 0 })) at.1 in
    subst (λ (t : SortId). IsSort d t) (sym same) (over f.0 at.0 at.1)

fields_declared : (d : Declarations) → FieldsOver d → (sels : List SelId) → All (IsSelector d) sels → (k : ℕ) (t : SortId) → slice_get (map (field_sort_id d) sels) k ≡ Some t → IsSort d t
fields_declared d over [] declared k t at = absurd (none-some t at)
fields_declared d over (f ∷ sels) declared zero t at = subst (λ (u : SortId). IsSort d u) (same_Some (field_sort_id d f) t at) (over f (All-head (IsSelector d) f sels declared))
fields_declared d over (f ∷ sels) declared (suc k) t at = fields_declared d over sels (All-tail (IsSelector d) f sels declared) k t at

head_declared : (d : Declarations) → FieldsOver d → (x : Node) → HasHead d x → (k : ℕ) (t : SortId) → slice_get (field_sorts d x) k ≡ Some t → IsSort d t
head_declared d over (Con c ns) (ctor, declared, sels) k t at =
    fields_declared d over ctor.sels sels k t (ap (λ (l : List SortId). slice_get l k) (sym (fields_are d c ctor.sels (ap (option_map (λ (q : Constructor). q.sels)) declared))) ∙ at)
head_declared d over (Elem s m) head k t at = absurd (none-some t at)

pub asked_sorts : (d : Declarations) → FieldsOver d → HaveSaidHeads d → (rows : Expressions) (i : ℕ) (t : SortId) (pair : ℕ × SortId) → Contains (asked_by d (said_at d rows i t)) pair → IsSort d pair.1
asked_sorts d over heads rows i t pair inside = by (said_at d rows i t) refl inside
  where
    by : (o : Option Node) → said_at d rows i t ≡ o → Contains (asked_by d o) pair → IsSort d pair.1
    by None is in_none = absurd (Contains-none pair in_none)
    by (Some x) is in_some =
        let pairs = pairs_from (node_children x) (field_sorts d x) pair in_some in
        let parts = said_parts d rows i t x is in
        head_declared d over x (heads t parts.text x parts.said) pairs.0 pair.1 pairs.3

-- ---- the walk

-- at first no node has a sort
pub none_sorted : (n i : ℕ) (t : SortId) → HasSort (replicate n None) i t → ⊥
none_sorted zero i t has = none-some (Some t) has
none_sorted (suc n) zero t has = none-some t (same_Some None (Some t) has)
none_sorted (suc n) (suc i) t has = none_sorted n i t has

-- so the root can have its sort
pub start_other : (n : ℕ) (s : SortId) → 0 < n → IsOther (replicate n None) (pair_of 0 s) → ⊥
start_other n s some (inl past) = let long = length-replicate {A = Option SortId} n None in omega (arith, some, past, long)
start_other n s some (inr (t, has, differs)) = none_sorted n 0 t has

module _ (d : Declarations) (s : SortId) (rows : Expressions) where
  -- the node is reached in the graph, and has the sort there
  abbrev pub HasReachedSort : Nodes → ℕ → SortId → Type 0
  HasReachedSort h i t = IsReached h i × HasNodeSort d h (numbered i) t

  -- what is known of the nodes that have sorts, where the children of the first that were met have theirs
  pub record AreSoFar (x : Descent) (place : ℕ) : Type 0 where
    pub long : length x.sorts.items ≡ count rows
    pub root : HasSort x.sorts.items 0 s
    pub listed : AreListed x.sorts.items x.met.items
    pub declared : (i : ℕ) (t : SortId) → HasSort x.sorts.items i t → IsSort d t
    pub done : (k i : ℕ) (t : SortId) → k < place → slice_get x.met.items k ≡ Some i → HasSort x.sorts.items i t → IsDescended d rows x.sorts.items i t
    pub reached : (h : Nodes) (i : ℕ) (t : SortId) → IsGraphOf d s rows h → HasSort x.sorts.items i t → HasReachedSort h i t

  pub so_far_start : (first x : Descent) → ((i : ℕ) (t : SortId) → HasSort first.sorts.items i t → ⊥) → first.met.items ≡ [] → length first.sorts.items ≡ count rows → IsSort d s
      → Extends first x (pair_of 0 s ∷ []) → HasSort x.sorts.items 0 s → AreSoFar x 0
  so_far_start first x nothing none_met long declared extends root =
      let only : (i : ℕ) (t : SortId) → HasSort x.sorts.items i t → pair_of 0 s ≡ pair_of i t =
      λ i t has. elim (extends.only i t has) [
        | inl old ↦ absurd (nothing i t old)
        | inr new ↦ elim (Contains-cons (pair_of 0 s) [] (pair_of i t) new) [ inl same ↦ same | inr no_pair ↦ absurd (Contains-none (pair_of i t) no_pair) ]
      ] in
      record {
        long = extends.keeps.long ∙ long;
        root = root;
        listed = extends.listed (record {
          listed = λ i t has. absurd (nothing i t has);
          sorted = λ k i at. absurd (none-some i (ap (λ (l : List ℕ). slice_get l k) (sym none_met) ∙ at));
        });
        declared = λ i t has. subst (λ (p : ℕ × SortId). IsSort d p.1) (only i t has) declared;
        done = λ k i t less at has. absurd (omega (arith, less));
        reached = λ h i t is has. subst (λ (p : ℕ × SortId). HasReachedSort h p.0 p.1) (only i t has) (λ set root_in closed. root_in, is.root);
      }

  module _ (said_sorts : HaveSaidSorts d) (x y : Descent) (place i : ℕ) (t : SortId) (so_far : AreSoFar x place) (has : HasSort x.sorts.items i t) (extends : Extends x y (asked_by d (said_at d rows i t))) where
    -- the node of the graph, which its row says
    here : (h : Nodes) → IsGraphOf d s rows h → (node : Node) × (slice_get h i ≡ Some node) × (said_at d rows i t ≡ Some node) × FitsNode d h node × IsReached h i
    here h is =
        let r = so_far.reached h i t is has in
        let node = r.1.0 in
        (node, r.1.1, said_node d said_sorts rows h i t is.nodes r.1, is.reached i node r.0 r.1.1, r.0)

    -- what is asked for has its sort in the graph
    asked_sort : (h : Nodes) → IsGraphOf d s rows h → (pair : ℕ × SortId) → Contains (asked_by d (said_at d rows i t)) pair → HasReachedSort h pair.0 pair.1
    asked_sort h is pair inside =
        let found = here h is in
        let node = found.0 in
        let pairs = pairs_from (node_children node) (field_sorts d node) pair (subst (λ (o : Option Node). Contains (asked_by d o) pair) found.2 inside) in
        let same : pairs.1 ≡ numbered pair.0 = ap (λ n. numbered n) pairs.4 in (
          subst (λ n. IsReached h n) pairs.4 (λ set root_in closed. closed i node pairs.0 pairs.1 (found.4 set root_in closed) found.1 pairs.2),
          subst (λ (n : NodeId). HasNodeSort d h n pair.1) same (fit_at d h node pairs.0 pairs.1 pair.1 found.3 pairs.2 pairs.3),
        )

    later_reached : (h : Nodes) (j : ℕ) (u : SortId) → IsGraphOf d s rows h → HasSort y.sorts.items j u → HasReachedSort h j u
    later_reached h j u is later =
        elim (extends.only j u later) [ inl old ↦ so_far.reached h j u is old | inr new ↦ asked_sort h is (pair_of j u) new ]

    -- the children of the node have their sorts
    pub so_far_next : slice_get x.met.items place ≡ Some i → ((j : ℕ) (u : SortId) → Contains (asked_by d (said_at d rows i t)) (pair_of j u) → IsSort d u) → IsDescended d rows y.sorts.items i t → AreSoFar y (place + 1)
    so_far_next at asked_declared descended = record {
      long = extends.keeps.long ∙ so_far.long;
      root = extends.keeps.kept 0 s so_far.root;
      listed = extends.listed so_far.listed;
      declared = λ j u later. elim (extends.only j u later) [ inl old ↦ so_far.declared j u old | inr new ↦ asked_declared j u new ];
      done = λ k j u less at_k later. done_at k j u less at_k later;
      reached = later_reached;
    }
      where
        was : (k j : ℕ) (other : ℕ) → slice_get x.met.items k ≡ Some other → slice_get y.met.items k ≡ Some j → other ≡ j
        was k j other old new = same_Some other j (sym (ap (λ (l : List ℕ). slice_get l k) extends.begins.1 ∙ slice_get-append_left x.met.items extends.begins.0 k other old) ∙ new)

        one_sort : (j : ℕ) (u v : SortId) → HasSort y.sorts.items j u → HasSort y.sorts.items j v → u ≡ v
        one_sort j u v a b = same_Some u v (same_Some (Some u) (Some v) (sym a ∙ b))

        done_old : (k j other : ℕ) (u : SortId) → k < place → slice_get x.met.items k ≡ Some other → other ≡ j → HasSort y.sorts.items j u → IsDescended d rows y.sorts.items j u
        done_old k j other u less old same later =
            let old_j : slice_get x.met.items k ≡ Some j = old ∙ ap Some same in
            let before = so_far.listed.sorted k j old_j in
            let is : before.0 ≡ u = one_sort j before.0 u (extends.keeps.kept j before.0 before.1) later in
            let descended_then = so_far.done k j before.0 less old_j before.1 in
            subst (λ (v : SortId). IsDescended d rows y.sorts.items j v) is (record {
              declared = descended_then.declared;
              node = descended_then.node;
              said = descended_then.said;
              children = have_kept x.sorts.items y.sorts.items (node_children descended_then.node) (field_sorts d descended_then.node) extends.keeps descended_then.children;
            })

        done_at : (k j : ℕ) (u : SortId) → k < place + 1 → slice_get y.met.items k ≡ Some j → HasSort y.sorts.items j u → IsDescended d rows y.sorts.items j u
        done_at k j u less at_k later = by (lt_or k place less)
          where
            lt_or : (k place : ℕ) → k < place + 1 → (k < place) ⊎ (k ≡ place)
            lt_or zero zero less = inr refl
            lt_or zero (suc p) less = inl (omega arith)
            lt_or (suc k) zero less = absurd (omega (arith, less))
            lt_or (suc k) (suc p) less = elim (lt_or k p (omega (arith, less))) [ inl before ↦ inl (omega (arith, before)) | inr same ↦ inr (ap suc same) ]

            there : (k < place) → (other : ℕ) × (slice_get x.met.items k ≡ Some other)
            there before = slice_get-there x.met.items k (let within = slice_get_within x.met.items place i at in omega (arith, before, within))

            by : (k < place) ⊎ (k ≡ place) → IsDescended d rows y.sorts.items j u
            by (inl before) = let old = there before in done_old k j old.0 u before old.1 (was k j old.0 old.1 at_k) later
            by (inr same) =
                let is_i : i ≡ j = was k j i (ap (slice_get x.met.items) same ∙ at) at_k in
                let later_i : HasSort y.sorts.items i u = subst (λ n. HasSort y.sorts.items n u) (sym is_i) later in
                let sort : t ≡ u = one_sort i t u (extends.keeps.kept i t has) later_i in
                subst (λ n. IsDescended d rows y.sorts.items n u) is_i (subst (λ (v : SortId). IsDescended d rows y.sorts.items i v) sort descended)

    -- where they cannot have them, the rows say no graph
    pub so_far_stopped : IsStopped d rows y.sorts.items i t → (h : Nodes) → IsGraphOf d s rows h → ⊥
    so_far_stopped (inl unsaid) h is = let found = here h is in none-some found.0 (sym unsaid ∙ found.2)
    so_far_stopped (inr (node, said, inl uncounted)) h is =
        let found = here h is in
        let same : found.0 ≡ node = same_Some found.0 node (sym found.2 ∙ said) in
        uncounted (subst (λ (x : Node). length (node_children x) ≡ length (field_sorts d x)) same (fit_long d h found.0 found.3))
    so_far_stopped (inr (node, said, inr (pair, inside, other))) h is =
        let r = asked_sort h is pair (subst (λ (o : Option Node). Contains (asked_by d o) pair) (sym said) inside) in
        elim other [
          | inl past ↦
              let within = slice_get_within h pair.0 r.1.0 r.1.1 in
              let long = say_long d 0 rows h is.nodes in
              let sorts = extends.keeps.long ∙ so_far.long in
              omega (arith, past, within, long, sorts)
          | inr (u, later, differs) ↦
              let q = later_reached h pair.0 u is later in
              let one : q.1.0 ≡ r.1.0 = same_Some q.1.0 r.1.0 (sym q.1.1 ∙ r.1.1) in
              differs (same_Some u pair.1 (sym q.1.2 ∙ ap (node_sort d) one ∙ r.1.2))
        ]

  -- where all that were met are done, each node that has a sort has its children
  pub so_far_end : (x : Descent) (place : ℕ) → AreSoFar x place → length x.met.items ≤ place → AreReached d s rows x.sorts.items
  so_far_end x place so_far all = record {
    long = so_far.long;
    root = so_far.root;
    each = λ i t has.
        let at = so_far.listed.listed i t has in
        let within = slice_get_within x.met.items at.0 i at.1 in
        so_far.done at.0 i t (omega (arith, within, all)) at.1 has;
  }
