-- Graphs whose nodes have their sorts: the expression says them, and what the root reaches fits the declarations.
use Rattle.std.proofs.Common.{◌≡◌, ℕ, zero, suc, ◌+◌, ◌<◌, List, [], ◌∷◌, length, map, All, get_or, Option, Some, option_map, unwrap_or, slice_get, refl, sym, ap, subst, ◌∙◌, arith}
use Rattle.std.specs.List.{AllZip}
use Rattle.std.proofs.lemmas.Option.{none-some, same_Some, slice_get_within, slice_get-get_or}
use Rattle.std.proofs.lemmas.List.Elements.{All-head, All-tail}
use Rattle.ct_lemmas.proofs.Lists.{slice_get-there}
use Rattle.ct_sorts.specs.declared.ids.SortId.{SortId}
use Rattle.ct_sorts.specs.declared.ids.SelId.{SelId}
use Rattle.ct_sorts.specs.Declarations.{Declarations, Constructor, Selector, IsSelector}
use Rattle.ct_sexpr.specs.Expression.{Expression, Expressions, none, more}
use Rattle.ct_values.specs.declared.node.NodeId.{NodeId}
use Rattle.ct_values.specs.declared.node.Node.{Node}
use Rattle.ct_values.specs.declared.node.Node.TheVariants.{Con, Elem}
use Rattle.ct_values.specs.Graph.{Nodes, node_children}
use Rattle.ct_values.specs.Fitting.{HasNodeSort, IsNodeOfField, FitsNode}
use Rattle.ct_names.specs.Symbols.{field_sort_id}
use Rattle.ct_readback.specs.Parts.{nth, count}
use Rattle.ct_readback.specs.GraphText.{graph_rows, SaysNode, SayNodes}
use Rattle.ct_readback.specs.Nodes.{field_sorts, IsGraphOf, IsGraphAt}
use Rattle.ct_readback.specs.Descent.{HasSort, has_some, AreReached, HasUnsorted, AreSorts, AreNodesSaid, IsUpperPart}
use Rattle.ct_readback.proofs.DescentLemmas.{fields_are}
use Rattle.ct_readback.proofs.ReachedLemmas.{HaveSaidSorts, HasHead, HaveSaidHeads, SaidParts, said_parts, say_long}
use Rattle.ct_readback.proofs.PlacedLemmas.{sorted_here, sorted_from}

-- ---- what no graph is

module _ (d : Declarations) (s : SortId) (e : Expression) (rows : Expressions) (at : graph_rows e ≡ Some rows) where
  pub graph_none : ((h : Nodes) → IsGraphOf d s rows h → ⊥) → (h : Nodes) → IsGraphAt d s e h → ⊥
  graph_none never h (own, written, is) = never h (subst (λ (rs : Expressions). IsGraphOf d s rs h) (same_Some own rows (sym written ∙ at)) is)

  pub graph_unsorted : HasUnsorted d rows → (h : Nodes) → IsGraphAt d s e h → ⊥
  graph_unsorted (i, within, never) h is =
      graph_none (λ g of_rows.
      let long = say_long d 0 rows g of_rows.nodes in
      let found = of_rows.others i (omega (arith, within, long)) in
      never found.0 found.1) h is

-- ---- nodes that fit

fields_fit : (d : Declarations) (h : Nodes) (ns : List NodeId) (sels : List SelId) → All (IsSelector d) sels → AllZip (HasNodeSort d h) ns (map (field_sort_id d) sels) → AllZip (IsNodeOfField d h) ns sels
fields_fit d h [] [] declared zipped = tt
fields_fit d h [] (s ∷ sels) declared zipped = absurd zipped
fields_fit d h (n ∷ ns) [] declared zipped = absurd zipped
fields_fit d h (n ∷ ns) (s ∷ sels) declared zipped =
    let found = slice_get-there d.sels s.0 (All-head (IsSelector d) s sels declared) in
    let same : field_sort_id d s ≡ found.0.sort = ap (λ (o : Option Selector). unwrap_or (option_map (λ (sel : Selector). sel.sort) o) (record { 0 = 0 })) found.1 in (
      record { selector = found.0; declared = found.1; sorted = subst (λ (t : SortId). HasNodeSort d h n t) same zipped.0 },
      fields_fit d h ns sels (All-tail (IsSelector d) s sels declared) zipped.1,
    )

-- such a node fits, where its children have the sorts of its fields
fits_from : (d : Declarations) (h : Nodes) (x : Node) → HasHead d x → AllZip (HasNodeSort d h) (node_children x) (field_sorts d x) → FitsNode d h x
fits_from d h (Con c ns) (ctor, declared, sels) zipped =
    let sorts = fields_are d c ctor.sels (ap (option_map (λ (k : Constructor). k.sels)) declared) in
    record { ctor = ctor; declared = declared; fields = fields_fit d h ns ctor.sels sels (subst (λ (ss : List SortId). AllZip (HasNodeSort d h) ns ss) sorts zipped) }
fits_from d h (Elem s m) head zipped = head

module _ (d : Declarations) (s : SortId) (rows : Expressions) (reached : List (Option SortId)) (sorts : List SortId) (h : Nodes) (said_sorts : HaveSaidSorts d) (said_heads : HaveSaidHeads d)
    (are : AreReached d s rows reached) (all : AreSorts d rows reached sorts) (nodes : AreNodesSaid d rows sorts h)
  where
    -- the node with this number, of its sort
    stands : (i : ℕ) (t : SortId) → slice_get sorts i ≡ Some t → (x : Node) × (slice_get h i ≡ Some x) × SaidParts d rows i t x
    stands i t at =
        let said = all.each i t at in
        (said.node, sym (nodes.each i t at) ∙ said.said, said_parts d rows i t said.node said.said)

    sorted : (i : ℕ) (t : SortId) → slice_get sorts i ≡ Some t → HasNodeSort d h (record { 0 = i }) t
    sorted i t at =
        let found = stands i t at in
        (found.0, found.1, said_sorts t found.2.text found.0 found.2.said)

    -- what stands there has a sort
    sort_at : (i : ℕ) (x : Node) → slice_get h i ≡ Some x → (t : SortId) × (slice_get sorts i ≡ Some t)
    sort_at i x at = let within = slice_get_within h i x at in let long = nodes.long in slice_get-there sorts i (omega (arith, within, long))

    says_at : (i : ℕ) (x : Node) → slice_get h i ≡ Some x → (row : Expression) × (nth rows i ≡ Some row) × SaysNode d i row x
    says_at i x at =
        let t = sort_at i x at in
        let found = stands i t.0 t.1 in
        let parts = found.2 in
        let same : found.0 ≡ x = same_Some found.0 x (sym found.1 ∙ at) in
        (parts.row, parts.stands, record { text = parts.text; written = parts.written; sort = t.0; said = parts.said ∙ ap Some same })

    -- nodes with sorts fit
    upper_fits : (n : ℕ) (t : SortId) (x : Node) → HasSort reached n t → slice_get h n ≡ Some x → FitsNode d h x
    upper_fits n t x has at =
        let descended = are.each n t has in
        let here = all.kept n t has in
        let found = stands n t here in
        let same : found.0 ≡ x = same_Some found.0 x (sym found.1 ∙ at) in
        let own : descended.node ≡ found.0 = same_Some descended.node found.0 (sym descended.said ∙ nodes.each n t here ∙ found.1) in
        subst (λ (y : Node). FitsNode d h y) (own ∙ same)
        (fits_from d h descended.node (subst (λ (y : Node). HasHead d y) (sym own) (said_heads t found.2.text found.0 found.2.said))
        (have_sorts (node_children descended.node) (field_sorts d descended.node) descended.children))
      where
        have_sorts : (ns : List NodeId) (ss : List SortId) → AllZip (λ (c : NodeId) (u : SortId). HasSort reached c.0 u) ns ss → AllZip (HasNodeSort d h) ns ss
        have_sorts [] [] zipped = tt
        have_sorts [] (u ∷ ss) zipped = absurd zipped
        have_sorts (c ∷ ns) [] zipped = absurd zipped
        have_sorts (c ∷ ns) (u ∷ ss) zipped = (sorted c.0 u (all.kept c.0 u zipped.0), have_sorts ns ss zipped.1)

    -- and so have their children sorts
    upper_children : (n k : ℕ) (t : SortId) (x : Node) (child : NodeId) → HasSort reached n t → slice_get h n ≡ Some x → slice_get (node_children x) k ≡ Some child → (u : SortId) × HasSort reached child.0 u
    upper_children n k t x child has at at_child =
        let descended = are.each n t has in
        let here = all.kept n t has in
        let own : descended.node ≡ x = same_Some descended.node x (sym descended.said ∙ nodes.each n t here ∙ at) in
        zip_sort (node_children descended.node) (field_sorts d descended.node) k descended.children (ap (λ (y : Node). slice_get (node_children y) k) own ∙ at_child)
      where
        zip_sort : (ns : List NodeId) (ss : List SortId) (j : ℕ) → AllZip (λ (c : NodeId) (u : SortId). HasSort reached c.0 u) ns ss → slice_get ns j ≡ Some child → (u : SortId) × HasSort reached child.0 u
        zip_sort [] ss j zipped at_j = absurd (none-some child at_j)
        zip_sort (c ∷ ns) [] j zipped at_j = absurd zipped
        zip_sort (c ∷ ns) (u ∷ ss) zero zipped at_j = (u, subst (λ (n : NodeId). HasSort reached n.0 u) (same_Some c child at_j) zipped.0)
        zip_sort (c ∷ ns) (u ∷ ss) (suc j) zipped at_j = zip_sort ns ss j zipped.1 at_j

    pub upper_part : IsUpperPart d h reached
    upper_part = record {
      long = are.long ∙ sym all.long ∙ sym nodes.long;
      root = (s, are.root);
      children = upper_children;
      fits = upper_fits;
    }

    pub graph_of_rows : IsGraphOf d s rows h
    graph_of_rows = record {
      nodes = say_all 0 rows h (nodes.long ∙ all.long) (λ k x at. let found = says_at k x at in let number : k ≡ 0 + k = omega arith in (found.0, found.1, subst (λ (n : ℕ). SaysNode d n found.0 x) number found.2));
      closed = λ n other within k child inside.
          let x = get_or h n other in
          let at : slice_get h n ≡ Some x = slice_get-get_or h n other within in
          let t = sort_at n x at in
          let said = all.each n t.0 t.1 in
          let own : said.node ≡ x = same_Some said.node x (sym said.said ∙ nodes.each n t.0 t.1 ∙ at) in
          let below = subst (λ (y : Node). All (λ (c : NodeId). c.0 < count rows) (node_children y)) own said.within k child inside in
          let long = nodes.long ∙ all.long in
          omega (arith, below, long);
      root = sorted 0 s (all.kept 0 s are.root);
      reached = λ n x is at.
          let t = sorted_from reached n (is (has_some reached) (sorted_here reached 0 s are.root) (λ m y k child in_set at_m at_child.
          let has = sorted_from reached m in_set in
          let u = upper_children m k has.0 y child has.1 at_m at_child in
          sorted_here reached child.0 u.0 u.1)) in
          upper_fits n t.0 x t.1 at;
      others = λ n within.
          let long = nodes.long in
          let t = slice_get-there sorts n (omega (arith, within, long)) in
          (t.0, (all.each n t.0 t.1).can_have);
    }
      where
        say_all : (i : ℕ) (es : Expressions) (g : Nodes) → length g ≡ count es → ((k : ℕ) (x : Node) → slice_get g k ≡ Some x → (row : Expression) × (nth es k ≡ Some row) × SaysNode d (i + k) row x) → SayNodes d i es g
        say_all i none [] long says = tt
        say_all i none (x ∷ g) long says = absurd (omega (arith, long))
        say_all i (more e es) [] long says = absurd (omega (arith, long))
        say_all i (more e es) (x ∷ g) long says =
            let first = says 0 x refl in
            let row : first.0 ≡ e = same_Some first.0 e (sym first.1) in
            let number : i + 0 ≡ i = omega arith in (
              subst (λ (r : Expression). SaysNode d i r x) row (subst (λ (n : ℕ). SaysNode d n first.0 x) number first.2),
              say_all (suc i) es g (omega (arith, long)) (λ k y at.
                  let found = says (suc k) y at in
                  let number_k : i + suc k ≡ suc i + k = omega arith in
                  (found.0, found.1, subst (λ (n : ℕ). SaysNode d n found.0 y) number_k found.2)),
            )
