-- Nodes after a graph leave agreement at every depth alone, and representatives.
use Rattle.std.proofs.Common.{◌≡◌, ◌<◌, ◌≤◌, ◌↔◌, ◌⊎◌, inl, inr, ◌++◌, length, sym, subst, ◌∙◌, arith, length-append}
use Rattle.std.proofs.lemmas.Bool.{cases_lt}
use Rattle.ct_values.specs.declared.node.NodeId.{NodeId}
use Rattle.ct_values.specs.Graph.{Nodes, IsClosed}
use Rattle.ct_values.specs.Value.{Value, IsOver, reference}
use Rattle.ct_values.specs.Agreement.{Point, point, node_point, AgreeAlways}
use Rattle.ct_values.specs.Sharing.{IsRepresentative}
use Rattle.ct_values.proofs.AgreeLemmas.{agree_equiv, AgreeAlways-sym, AgreeAlways-trans, AgreeAlways-meet}
use Rattle.ct_values.proofs.GraphLemmas.{agree-grown}

-- nodes after a closed graph change nothing for a value over it
pub AgreeAlways-grown : (g more : Nodes) (v : Value) → IsClosed g → IsOver g v → AgreeAlways (point (g ++ more) v) (point g v)
AgreeAlways-grown g more v closed over k = agree-grown k g more v (point g v) closed over ∙ (agree_equiv k).refl (point g v)

-- ---- representatives

-- the representative of a value is that of every equal value
pub IsRepresentative-same : (g : Nodes) (p q : Point) (n : NodeId) → AgreeAlways p q → IsRepresentative g p n → IsRepresentative g q n
IsRepresentative-same g p q n alike first = record {
  within = first.within;
  same = AgreeAlways-trans (node_point g n) p q first.same alike;
  first = λ m within other. first.first m within (AgreeAlways-meet (node_point g m) p q other alike);
}

-- it is the representative of two values exactly where they are equal
pub one_first : (g : Nodes) (p q : Point) (m n : NodeId) → IsRepresentative g p m → IsRepresentative g q n → (m ≡ n) ↔ AgreeAlways p q
one_first g p q m n first second = (
  λ e.
      let other : AgreeAlways (node_point g m) q = subst (λ (k : NodeId). AgreeAlways (node_point g k) q) (sym e) second.same in
      AgreeAlways-trans p (node_point g m) q (AgreeAlways-sym (node_point g m) p first.same) other,
  λ alike.
      let low = second.first m first.within (AgreeAlways-trans (node_point g m) p q first.same alike) in
      let high = first.first n second.within (AgreeAlways-meet (node_point g n) p q second.same alike) in
      let number : m.0 ≡ n.0 = omega arith in
      λ i. record { 0 = number i },
)

-- it stays the first where the graph grows
pub IsRepresentative-grown : (g more : Nodes) (p : Point) (n : NodeId) → IsClosed g → IsRepresentative g p n → IsRepresentative (g ++ more) p n
IsRepresentative-grown g more p n closed first = record {
  within = omega (arith, first.within, length-append g more);
  same = AgreeAlways-trans (node_point (g ++ more) n) (node_point g n) p (AgreeAlways-grown g more (reference n) closed first.within) first.same;
  first = λ m within other. at m other (cases_lt m.0 (length g));
}
  where
    at : (m : NodeId) → AgreeAlways (node_point (g ++ more) m) p → (m.0 < length g) ⊎ (length g ≤ m.0) → n.0 ≤ m.0
    at m other (inl less) =
        first.first m less (AgreeAlways-trans (node_point g m) (node_point (g ++ more) m) p (AgreeAlways-sym (node_point (g ++ more) m) (node_point g m) (AgreeAlways-grown g more (reference m) closed less)) other)
    at m other (inr remaining) = omega (arith, first.within)
