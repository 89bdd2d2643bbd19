-- The graph of what an expression reaches tells which expressions are well founded, and whether one is mixed.
use Rattle.std.proofs.Common.{◌≡◌, ◌↔◌, ℕ, suc, ◌+◌, ◌⊎◌, List, [], ◌∷◌, length, map, Option, Some, None, option_map, slice_get, refl, sym, ap, subst, ◌∙◌, inl, inr, arith}
use Rattle.std.specs.List.{AllZip, flat_map}
use Rattle.std.proofs.lemmas.Option.{same_Some, none-some, slice_get_within}
use Rattle.ct_lemmas.proofs.Lists.{slice_get-there, slice_get-append_cases, slice_get-flat_map}
use Rattle.ct_lemmas.proofs.Options.{option_map-source}
use Rattle.ct_lemmas.proofs.Pairs.{AllZip-at_left, AllZip-at_right}
use Rattle.ct_generics.specs.declared.kind.Kind.{Kind}
use Rattle.ct_generics.specs.declared.kind.Kind.TheVariants.{Bool as BoolKind, Free, Data, Codata}
use Rattle.ct_generics.specs.declared.nodes.ExprId.{ExprId}
use Rattle.ct_generics.specs.declared.nodes.Node.{Node}
use Rattle.ct_generics.specs.declared.graph.Vertex.{Vertex}
use Rattle.ct_generics.specs.Expression.{Expression, args_of, substitute}
use Rattle.ct_generics.specs.Declarations.{Head, head_at, IsOfKind}
use Rattle.ct_generics.specs.Nodes.{Stands, AreSingle, AreUnlike}
use Rattle.ct_generics.specs.Reach.{Reaches, itself, onward, HasField, fields_of, fields_with, fields_by_kind}
use Rattle.ct_generics.specs.Founded.{IsFounded}
use Rattle.ct_generics.specs.Founded as founded
use Rattle.ct_generics.specs.Reached.{StandsAt, IsVertexFor, IsReached, ReachedFrom, IsSomeMixed}
use Rattle.ct_generics.specs.Graph.{HasArc, Leads, here, IsFoundedAt, IsVertexOf, IsMixedGraph, IsClosedGraph, HasPlainEnds}
use Rattle.ct_generics.specs.Graph as graphs
use Rattle.ct_generics.proofs.NodeLemmas.{Stands-one, Stands-unique}

-- what stands among the items of rows stands in one of them
flat-source : (rows : List (List ℕ)) (k j : ℕ) → slice_get (flat_map (λ row. row) rows) k ≡ Some j → (a b : ℕ) × (row : List ℕ) × (slice_get rows a ≡ Some row) × (slice_get row b ≡ Some j)
flat-source [] k j at = absurd (none-some j at)
flat-source (row ∷ rows) k j at = by (flat-source rows) (slice_get-append_cases row (flat_map (λ r. r) rows) k j at)
  where
    by : ((k j : ℕ) → slice_get (flat_map (λ r. r) rows) k ≡ Some j → (a b : ℕ) × (r : List ℕ) × (slice_get rows a ≡ Some r) × (slice_get r b ≡ Some j)) → (slice_get row k ≡ Some j) ⊎ ((m : ℕ) × (k ≡ length row + m) × (slice_get (flat_map (λ r. r) rows) m ≡ Some j)) → (a b : ℕ) × (r : List ℕ) × (slice_get (row ∷ rows) a ≡ Some r) × (slice_get r b ≡ Some j)
    by rest (inl first) = (0, k, row, refl, first)
    by rest (inr later) = let found = rest later.0 j later.2 in (suc found.0, found.1, found.2, found.3, found.4)

same_id : (m n : ExprId) → m.0 ≡ n.0 → m ≡ n
same_id m n e i = record { 0 = e i }

-- what is reached from what is reached
Reaches-trans : (heads : List Head) (e f g : Expression) → Reaches heads e f → Reaches heads f g → Reaches heads e g
Reaches-trans heads e f _ first itself = first
Reaches-trans heads e f _ first (onward g h reaches field) = onward g h (Reaches-trans heads e f g first reaches) field

module _ (heads : List Head) (nodes : List Node) (ids : List ExprId) (graph : List Vertex) (starts : List ℕ) (roots : List Expression) (single : AreSingle nodes) (unlike : AreUnlike ids) (whole : IsReached heads nodes ids graph starts roots) (long : length graph ≡ length ids) where
  -- an expression among the numbers has a vertex
  vertex_at : (i : ℕ) (f : Expression) → StandsAt nodes ids i f → (v : Vertex) × (slice_get graph i ≡ Some v) × IsVertexFor heads nodes ids v f
  vertex_at i f stands =
      let there = slice_get-there graph i (omega (arith, long, slice_get_within ids i stands.0 stands.1)) in
      (there.0, there.1, whole.vertices i there.0 f there.1 stands)

  -- a vertex is that of an expression that is reached
  expression_at : (i : ℕ) (v : Vertex) → slice_get graph i ≡ Some v → (f : Expression) × StandsAt nodes ids i f × ReachedFrom heads roots f
  expression_at i v at =
      let there = slice_get-there ids i (omega (arith, long, slice_get_within graph i v at)) in
      let found = whole.reached i there.0 there.1 in
      (found.0, (there.0, there.1, found.1), found.2)

  one_expression : (i : ℕ) (f g : Expression) → StandsAt nodes ids i f → StandsAt nodes ids i g → f ≡ g
  one_expression i f g left right =
      let one : left.0 ≡ right.0 = same_Some left.0 right.0 (sym left.1 ∙ right.1) in
      Stands-one nodes right.0.0 f g (subst (λ (x : ExprId). Stands nodes x.0 f) one left.2) right.2

  one_index : (i j : ℕ) (f : Expression) → StandsAt nodes ids i f → StandsAt nodes ids j f → i ≡ j
  one_index i j f left right =
      let one : left.0 ≡ right.0 = same_id left.0 right.0 (Stands-unique nodes single left.0.0 right.0.0 f left.2 right.2) in
      unlike i j right.0 (left.1 ∙ ap Some one) right.1

  -- a vertex has the kind of its expression
  kind_up : (kind : Kind) (i : ℕ) (f : Expression) → StandsAt nodes ids i f → IsVertexOf graph kind i → IsOfKind heads kind f
  kind_up kind i f stands of =
      let vertex = whole.vertices i of.0 f of.1 stands in
      option_map-source (λ (head : Head). head.kind) (head_at heads f) kind (sym vertex.kind_is ∙ of.2)

  kind_down : (kind : Kind) (i : ℕ) (f : Expression) → StandsAt nodes ids i f → IsOfKind heads kind f → IsVertexOf graph kind i
  kind_down kind i f stands of =
      let found = vertex_at i f stands in
      (found.0, found.1, found.2.kind_is ∙ ap (option_map (λ (head : Head). head.kind)) of.1 ∙ ap Some of.2)

  -- arcs are fields
  arc_up : (i j : ℕ) (f : Expression) → StandsAt nodes ids i f → HasArc graph i j → (g : Expression) × StandsAt nodes ids j g × HasField heads f g
  arc_up i j f stands arc =
      let vertex = whole.vertices i arc.0 f arc.1 stands in
      let found = flat-source arc.0.ctors arc.2.0 j arc.2.1 in
      let row = AllZip-at_left (AllZip (StandsAt nodes ids)) arc.0.ctors (fields_of heads f) found.0 found.2 vertex.fields found.3 in
      let field = AllZip-at_left (StandsAt nodes ids) found.2 row.0 found.1 j row.2 found.4 in
      (field.0, field.2, (found.0, found.1, row.0, row.1, field.1))

  arc_down : (i : ℕ) (f g : Expression) → StandsAt nodes ids i f → HasField heads f g → (j : ℕ) × HasArc graph i j × StandsAt nodes ids j g
  arc_down i f g stands field =
      let found = vertex_at i f stands in
      let row = AllZip-at_right (AllZip (StandsAt nodes ids)) found.0.ctors (fields_of heads f) field.0 field.2 found.2.fields field.3 in
      let item = AllZip-at_right (StandsAt nodes ids) row.0 field.2 field.1 g row.2 field.4 in
      (item.0, (found.0, found.1, slice_get-flat_map (λ (r : List ℕ). r) found.0.ctors field.0 field.1 row.0 item.0 row.1 item.1), item.2)

  leads_up : (i : ℕ) (f : Expression) → StandsAt nodes ids i f → (j : ℕ) → Leads graph i j → (g : Expression) × StandsAt nodes ids j g × Reaches heads f g
  leads_up i f stands _ here = (f, stands, itself)
  leads_up i f stands _ (graphs.onward j k leads arc) =
      let before = leads_up i f stands j leads in
      let next = arc_up j k before.0 before.1 arc in
      (next.0, next.1, onward before.0 next.0 before.2 next.2)

  pub leads_down : (i : ℕ) (f : Expression) → StandsAt nodes ids i f → (g : Expression) → Reaches heads f g → (j : ℕ) × Leads graph i j × StandsAt nodes ids j g
  leads_down i f stands _ itself = (i, here, stands)
  leads_down i f stands _ (onward g h reaches field) =
      let before = leads_down i f stands g reaches in
      let next = arc_down before.0 g h before.2 field in
      (next.0, graphs.onward before.0 next.0 before.1 next.1, next.2)

  -- well founded vertices are those of well founded expressions
  founded_up : (i : ℕ) → IsFoundedAt graph i → (f : Expression) → StandsAt nodes ids i f → IsFounded heads f
  founded_up _ (graphs.other i v at not) f stands = founded.other f (λ of. not ((whole.vertices i v f at stands).kind_is ∙ ap (option_map (λ (head : Head). head.kind)) of.1 ∙ ap Some of.2))
  founded_up _ (graphs.built i v a fields at at_a each) f stands =
      let row = AllZip-at_left (AllZip (StandsAt nodes ids)) v.ctors (fields_of heads f) a fields (whole.vertices i v f at stands).fields at_a in
      founded.built f a row.0 row.1 (λ b g at_g.
      let item = AllZip-at_right (StandsAt nodes ids) fields row.0 b g row.2 at_g in
      founded_up item.0 (each b item.0 item.1) g item.2)

  founded_down : (f : Expression) → IsFounded heads f → (i : ℕ) → StandsAt nodes ids i f → IsFoundedAt graph i
  founded_down _ (founded.other f not) i stands =
      let found = vertex_at i f stands in
      graphs.other i found.0 found.1 (λ is. not (option_map-source (λ (head : Head). head.kind) (head_at heads f) Data (sym found.2.kind_is ∙ is)))
  founded_down _ (founded.built f a row at_row each) i stands =
      let found = vertex_at i f stands in
      let fields = AllZip-at_right (AllZip (StandsAt nodes ids)) found.0.ctors (fields_of heads f) a row found.2.fields at_row in
      graphs.built i found.0 a fields.0 found.1 fields.1 (λ b j at_j.
      let item = AllZip-at_left (StandsAt nodes ids) fields.0 row b j fields.2 at_j in
      founded_down item.0 (each b item.0 item.1) j item.2)

  -- where each of the expressions stands
  begun_at : (k i : ℕ) (e : Expression) → slice_get starts k ≡ Some i → slice_get roots k ≡ Some e → StandsAt nodes ids i e
  begun_at k i e at_i at_e =
      let found = AllZip-at_left (StandsAt nodes ids) starts roots k i whole.begun at_i in
      subst (StandsAt nodes ids i) (same_Some found.0 e (sym found.1 ∙ at_e)) found.2

  pub founded_tells : (k i : ℕ) (e : Expression) → slice_get starts k ≡ Some i → slice_get roots k ≡ Some e → IsFoundedAt graph i ↔ IsFounded heads e
  founded_tells k i e at_i at_e =
      let stands = begun_at k i e at_i at_e in
      (λ h. founded_up i h e stands, λ h. founded_down e h i stands)

  -- mixed recursion in the graph is that of the expression
  mixed_up : IsMixedGraph graph → IsSomeMixed heads roots
  mixed_up mixed =
      let d = expression_at mixed.0 mixed.2.0 mixed.2.1 in
      let c = leads_up mixed.0 d.0 d.1 mixed.1 mixed.4 in
      let back = leads_up mixed.1 c.0 c.1 mixed.0 mixed.5 in (
        d.2.0,
        d.2.1,
        d.2.2,
        record {
          datatype = d.0;
          codatatype = c.0;
          data_kind = kind_up Data mixed.0 d.0 d.1 mixed.2;
          codata_kind = kind_up Codata mixed.1 c.0 c.1 mixed.3;
          to_datatype = d.2.3;
          to_codatatype = Reaches-trans heads d.2.1 d.0 c.0 d.2.3 c.2;
          down = c.2;
          up = subst (Reaches heads c.0) (one_expression mixed.0 back.0 d.0 back.1 d.1) back.2;
        },
      )

  mixed_down : IsSomeMixed heads roots → IsMixedGraph graph
  mixed_down (k, e, at, mixed) =
      let start = AllZip-at_right (StandsAt nodes ids) starts roots k e whole.begun at in
      let d = leads_down start.0 e start.2 mixed.datatype mixed.to_datatype in
      let c = leads_down d.0 mixed.datatype d.2 mixed.codatatype mixed.down in
      let back = leads_down c.0 mixed.codatatype c.2 mixed.datatype mixed.up in
      (d.0, c.0, kind_down Data d.0 mixed.datatype d.2 mixed.data_kind, kind_down Codata c.0 mixed.codatatype c.2 mixed.codata_kind, c.1, subst (Leads graph c.0) (one_index back.0 d.0 mixed.datatype back.2 d.2) back.1)

  pub mixed_tells : IsMixedGraph graph ↔ IsSomeMixed heads roots
  mixed_tells = (mixed_up, mixed_down)

  pub closed_graph : IsClosedGraph graph
  closed_graph i j arc =
      let f = expression_at i arc.0 arc.1 in
      let g = arc_up i j f.0 f.1 arc in
      omega (arith, long, slice_get_within ids j g.1.0 g.1.1)

  -- only datatypes and codatatypes have fields
  pub plain_ends : HasPlainEnds graph
  plain_ends i j arc = by (head_at heads f.0) refl field.2.0 field.2.1 field.2.3
    where
      f : (f : Expression) × StandsAt nodes ids i f × ReachedFrom heads roots f
      f = expression_at i arc.0 arc.1

      field : (g : Expression) × StandsAt nodes ids j g × HasField heads f.0 g
      field = arc_up i j f.0 f.1 arc

      of : (head : Head) (kind : Kind) → head_at heads f.0 ≡ Some head → head.kind ≡ kind → IsVertexOf graph kind i
      of head kind at is = kind_down kind i f.0 f.1 (head, at, is)

      kinds : (head : Head) → head_at heads f.0 ≡ Some head → (kind : Kind) → head.kind ≡ kind → (rows : List (List Expression)) (a : ℕ) (row : List Expression) → slice_get (fields_by_kind kind rows) a ≡ Some row → IsVertexOf graph Data i ⊎ IsVertexOf graph Codata i
      kinds head at BoolKind is rows a row at_row = absurd (none-some row at_row)
      kinds head at Free is rows a row at_row = absurd (none-some row at_row)
      kinds head at Data is rows a row at_row = inl (of head Data at is)
      kinds head at Codata is rows a row at_row = inr (of head Codata at is)

      by : (o : Option Head) → head_at heads f.0 ≡ o → (a b : ℕ) → slice_get (fields_of heads f.0) a ≡ Some field.2.2 → IsVertexOf graph Data i ⊎ IsVertexOf graph Codata i
      by None is a b at = absurd (none-some field.2.2 (subst (λ (o : Option Head). slice_get (fields_with o (args_of f.0)) a ≡ Some field.2.2) is at))
      by (Some head) is a b at = kinds head is head.kind refl (map (map (substitute (args_of f.0))) head.ctors) a field.2.2 (subst (λ (o : Option Head). slice_get (fields_with o (args_of f.0)) a ≡ Some field.2.2) is at)
