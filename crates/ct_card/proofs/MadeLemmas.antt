-- Values that were made before: in a longer graph, and with one more.
use Rattle.std.proofs.Common.{◌≡◌, ℕ, ◌⊎◌, false, List, ◌++◌, Option, Some, None, refl, sym, subst, inl, inr}
use Rattle.std.proofs.lemmas.Option.{slice_get_within}
use Rattle.ct_sorts.specs.declared.ids.CtorId.{CtorId}
use Rattle.ct_sorts.specs.Declarations.{Declarations}
use Rattle.ct_sorts.specs.Grown.{Begins}
use Rattle.ct_values.specs.declared.node.NodeId.{NodeId}
use Rattle.ct_values.specs.Graph.{Nodes, IsClosed}
use Rattle.ct_values.specs.Value.{reference}
use Rattle.ct_values.specs.Agreement.{node_point}
use Rattle.ct_values.specs.Fitting.{HasNodeSort}
use Rattle.ct_card.specs.declared.departure.Departure.{Departure}
use Rattle.ct_card.specs.declared.departure.Layer.{Layer}
use Rattle.ct_card.specs.declared.made.Made.{Made}
use Rattle.ct_card.specs.Defaults.{node_of_sort}
use Rattle.ct_card.specs.Departures.{AreSeconds}
use Rattle.ct_card.specs.Made.{IsMade, AreMadeNth, Prepared, IsPrepared}
use Rattle.ct_card.specs.Nth.{IsNthIn}
use Rattle.ct_card.specs.Signs.{HasAllDefaults, HasAllSeconds}
use Rattle.ct_card.specs.Sizes.{Table}
use Rattle.ct_card.proofs.NthLemmas.{nth_same}
use Rattle.ct_card.proofs.PathLemmas.{Agrees}
use Rattle.ct_card.proofs.SignLemmas.{longer_defaults, longer_second}
use Rattle.ct_card.proofs.WellFormedLemmas.{longer_sort}

-- what is nothing in particular is nothing
pub none_from : {X : Type 0} (o : Option X) → ((x : X) → o ≡ Some x → ⊥) → o ≡ None
none_from None none = refl
none_from (Some x) none = absurd (none x refl)

-- a value is the one with its number in a longer graph, too
longer_nth : Agrees → (d : Declarations) (ctors : List CtorId) (seconds : List Departure) (layers : List Layer) (g more : Nodes) (s n : ℕ) (k : NodeId) → IsClosed g → HasNodeSort d g k (record { 0 = s }) → IsNthIn d ctors seconds layers s n (node_point g k) → IsNthIn d ctors seconds layers s n (node_point (g ++ more) k)
longer_nth laws d ctors seconds layers g more s n k closed has (count, is) =
    let same = laws.turned (node_point (g ++ more) k) (node_point g k) (laws.grown g more (reference k) closed (slice_get_within g k.0 has.0 has.1)) in
    (count, nth_same laws d ctors seconds layers count false s n (node_point g k) (node_point (g ++ more) k) same is)

-- the graph is longer, and one more value may have been made
pub prepared_more : Agrees → (d : Declarations) (table : Table) (g longer : Nodes) (p : Prepared) (s n : ℕ) (k : NodeId) (made : List (Option Made)) → IsClosed g → Begins g longer → HasNodeSort d longer k (record { 0 = s }) → IsNthIn d table.ctors table.seconds table.layers s n (node_point longer k)
    → ((t m : ℕ) (q : NodeId) → IsMade made t m q → IsMade p.made t m q ⊎ ((t ≡ s) × (m ≡ n) × (q ≡ k)))
    → IsPrepared d table g p → IsPrepared d table longer (record { base = p.base; second = p.second; made = made })
prepared_more laws d table g longer p s n k made closed (more, is) has nth stored old = record {
  defaults = subst (λ (h : Nodes). HasAllDefaults d table.ranks table.ctors p.base h) (sym is) (longer_defaults d table.ranks table.ctors p.base g more old.defaults);
  ranked = old.ranked;
  seconds = subst (λ (h : Nodes). HasAllSeconds d table.several table.ctors table.seconds p.second h) (sym is) (λ t derived. longer_second laws d table.ctors table.seconds g more t (node_of_sort p.second table.several t) closed (old.seconds t derived));
  room = old.room;
  sorted = λ t m q at. elim (stored t m q at) [
    | inl before ↦ subst (λ (h : Nodes). HasNodeSort d h q (record { 0 = t })) (sym is) (longer_sort d g more q (record { 0 = t }) (old.sorted t m q before))
    | inr (e, f, same) ↦ subst (λ (r : ℕ). HasNodeSort d longer q (record { 0 = r })) (sym e) (subst (λ (x : NodeId). HasNodeSort d longer x (record { 0 = s })) (sym same) has)
  ];
  nth = λ t m q at. elim (stored t m q at) [
    | inl before ↦ subst (λ (h : Nodes). IsNthIn d table.ctors table.seconds table.layers t m (node_point h q)) (sym is) (longer_nth laws d table.ctors table.seconds table.layers g more t m q closed (old.sorted t m q before) (old.nth t m q before))
    | inr (e, f, same) ↦
        subst (λ (r : ℕ). IsNthIn d table.ctors table.seconds table.layers r m (node_point longer q)) (sym e)
        (subst (λ (r : ℕ). IsNthIn d table.ctors table.seconds table.layers s r (node_point longer q)) (sym f)
        (subst (λ (x : NodeId). IsNthIn d table.ctors table.seconds table.layers s n (node_point longer x)) (sym same) nth))
  ];
}

-- what a maker of values gives over the lists of a table, where these lists are its own
pub nth_of_table : (d : Declarations) (table : Table) (g longer : Nodes) (p : Prepared) (s n : ℕ) (k : NodeId) (several ranks : List ℕ) (layers : List Layer) (made : List (Option Made)) (base second : ℕ) → several ≡ table.several → ranks ≡ table.ranks → layers ≡ table.layers → made ≡ p.made → base ≡ p.base → second ≡ p.second
    → AreSeconds d table.several table.ctors table.seconds → IsPrepared d table g p
    → ((ctors : List CtorId) (seconds : List Departure) → AreSeconds d several ctors seconds → HasAllDefaults d ranks ctors base g → HasAllSeconds d several ctors seconds second g → AreMadeNth d ctors seconds layers g made → IsNthIn d ctors seconds layers s n (node_point longer k))
    → IsNthIn d table.ctors table.seconds table.layers s n (node_point longer k)
nth_of_table d table g longer p s n k several ranks layers made base second e_several e_ranks e_layers e_made e_base e_second departures prepared gives =
    subst (λ (l : List Layer). IsNthIn d table.ctors table.seconds l s n (node_point longer k)) e_layers
    (gives table.ctors table.seconds
    (subst (λ (l : List ℕ). AreSeconds d l table.ctors table.seconds) (sym e_several) departures)
    (subst (λ (l : List ℕ). HasAllDefaults d l table.ctors base g) (sym e_ranks) (subst (λ (b : ℕ). HasAllDefaults d table.ranks table.ctors b g) (sym e_base) prepared.defaults))
    (subst (λ (l : List ℕ). HasAllSeconds d l table.ctors table.seconds second g) (sym e_several) (subst (λ (b : ℕ). HasAllSeconds d table.several table.ctors table.seconds b g) (sym e_second) prepared.seconds))
    (subst (λ (l : List Layer). AreMadeNth d table.ctors table.seconds l g made) (sym e_layers) (subst (λ (l : List (Option Made)). AreMadeNth d table.ctors table.seconds table.layers g l) (sym e_made) prepared.nth)))
