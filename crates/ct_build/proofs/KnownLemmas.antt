-- What the steps of the builder conclude from what holds of all classes.
use Rattle.std.proofs.Common.{◌≡◌, ℕ, ◌+◌, ◌*◌, ◌<◌, ◌⊎◌, List, [], length, slice_get, Some, sym, ◌∙◌, ap, subst, inl, inr, arith}
use Rattle.std.proofs.lemmas.Option.{slice_get_within}
use Rattle.ct_lemmas.proofs.Lists.{slice_get-there}
use Rattle.ct_sorts.specs.declared.ids.SortId.{SortId}
use Rattle.ct_sorts.specs.Grown.{Begins}
use Rattle.ct_card.specs.declared.size.Size.{Size}
use Rattle.ct_card.specs.declared.size.Size.TheVariants.{One, Finite, Infinite}
use Rattle.ct_card.specs.Cardinality.{HasSize, IsSingle, IsInfinite}
use Rattle.ct_card.specs.Sizes.{Table}
use Rattle.ct_card.specs.Nth.{IsNth}
use Rattle.ct_values.specs.declared.node.NodeId.{NodeId}
use Rattle.ct_values.specs.Graph.{Nodes, IsClosed}
use Rattle.ct_values.specs.Agreement.{Point, AgreeAlways}
use Rattle.ct_terms.specs.declared.ids.TermId.{TermId}
use Rattle.ct_terms.specs.Terms.{IsOfSort}
use Rattle.ct_congr.specs.State.{State}
use Rattle.ct_build.specs.declared.open_classes.OpenClass.{OpenClass}
use Rattle.ct_build.specs.ClassValues.{AreValuesWith, AreApartWith, CollideWith, AreApart}
use Rattle.ct_build.specs.OpenClasses.{AreOpenClasses, HaveOwnRepresentatives}
use Rattle.ct_build.specs.Nodes.{term_point, AreAssigned, AreValued}
use Rattle.ct_build.specs.Chosen.{AreChosen, AreGiven, IsPushed}
use Rattle.ct_build.specs.Trials.{AreRefused, IsRefusedNext, IsNext, AreAllChosen}
use Rattle.ct_build.specs.Buildable.{AreBuildable}
use Rattle.ct_build.specs.Known.{Known}
use Rattle.ct_build.proofs.ListLemmas.{length-push, begins_itself}
use Rattle.ct_build.proofs.GraphLemmas.{sort_within}
use Rattle.ct_build.proofs.StageLemmas.{AreOfSizes, AreRepresented, apart_longer, not_all_refused}
use Rattle.ct_build.proofs.StartLemmas.{AreSized, of_sizes, apart_at_start}
use Rattle.ct_build.proofs.AssignedLemmas.{values_with}
use Rattle.ct_build.proofs.TrialLemmas.{refused_more}

module _ (state : State) (known : Known state) (own : HaveOwnRepresentatives state) where
  pub represented : AreRepresented state
  represented = record { long = known.long; own = own; one_sort = known.one_sort }

module _ (state : State) (known : Known state) (sizes : Table) (buildable : AreBuildable state sizes) where
  -- each sort has a size
  pub sized : AreSized state.declarations
  sized s within =
      let (size, at) = slice_get-there sizes.sizes s (subst (λ (n : ℕ). s < n) (sym buildable.sized.long) within) in
      by size (buildable.sized.each s size at)
    where
      by : (size : Size) → HasSize state.declarations s size → IsSingle state.declarations s ⊎ (IsInfinite state.declarations s ⊎ ((IsSingle state.declarations s → ⊥) × (IsInfinite state.declarations s → ⊥)))
      by One h = inl h
      by Finite h = inr (inr h)
      by Infinite h = inr (inl h)

  class_sizes : AreOfSizes state
  class_sizes = of_sizes state known.sorted known.ordered known.begins known.consistent known.own_sorts known.some (represented state known buildable.own) buildable.quiet buildable.decided sized (known.splits buildable.closed)

  module _ (defaults : List NodeId) (unbuilt : List OpenClass) (open_classes : AreOpenClasses state unbuilt) where
    -- a chosen node is one of the graph
    pub chosen_within : (g : Nodes) (chosen : List NodeId) → AreChosen state g defaults unbuilt chosen → (i : ℕ) (n : NodeId) → slice_get chosen i ≡ Some n → n.0 < length g
    chosen_within g chosen are i n at =
        let (class, listed) = slice_get-there unbuilt i (omega (arith, are.few, slice_get_within chosen i n at)) in
        let is = open_classes.only i class listed in
        sort_within state.declarations g n is.sort (are.sorted i class n is.sort listed at is.sorted)

    -- values of classes over given nodes
    pub values_over : (g : Nodes) (chosen : List NodeId) → AreChosen state g defaults unbuilt chosen → (h : Nodes) (values : List NodeId) → Begins g h → AreGiven state h defaults unbuilt chosen values → (longer : Nodes) → IsClosed longer → (nodes : List NodeId) → AreAssigned state h values longer nodes → AreValuesWith state g defaults unbuilt chosen (term_point longer nodes)
    values_over g chosen are h values grown given longer closed nodes assigned =
        values_with known.laws state known.sorted (represented state known buildable.own) buildable.quiet defaults unbuilt open_classes known.several g (known.closed g are.formed.fits) are.of_sorts chosen (chosen_within g chosen are) h grown values given longer closed nodes assigned

    -- values of classes where no value is chosen are apart
    apart_of_none : (g : Nodes) (chosen : List NodeId) (value : TermId → Point) → chosen ≡ [] → AreChosen state g defaults unbuilt chosen → AreValuesWith state g defaults unbuilt chosen value → AreApart state value
    apart_of_none g chosen value none are values =
        apart_at_start state known.sorted known.ordered known.begins known.consistent known.own_sorts known.some (represented state known buildable.own) buildable.quiet buildable.decided sized (known.splits buildable.closed)
        known.laws buildable.extensional defaults unbuilt open_classes g are.of_sorts value (subst (λ (l : List NodeId). AreValuesWith state g defaults unbuilt l value) none values)

    -- at the start no two classes have one value
    pub no_collision : (g : Nodes) (chosen : List NodeId) (x y : TermId) → chosen ≡ [] → AreChosen state g defaults unbuilt chosen → CollideWith state g defaults unbuilt chosen x y → ⊥
    no_collision g chosen x y none are collide =
        collide.collide.apart (apart_of_none g chosen collide.value none are collide.values x y collide.collide.left collide.collide.right collide.collide.one)

    -- of the numbers that are tried one is not refused
    pub not_all : (different : (s m n : ℕ) (p q : Point) → IsNth state.declarations sizes s m p → IsNth state.declarations sizes s n q → AgreeAlways p q → m ≡ n)
        → (g : Nodes) (chosen : List NodeId) → AreChosen state g defaults unbuilt chosen → AreApartWith state g defaults unbuilt chosen → length chosen < length unbuilt → (count : ℕ) → count ≡ length state.terms * length state.terms + 1
        → ((class : OpenClass) (s : SortId) → slice_get unbuilt (length chosen) ≡ Some class → IsOfSort state.terms class.rep s → AreRefused state (λ (n : ℕ) (p : Point). IsNth state.declarations sizes s.0 n p) g defaults unbuilt chosen 0 count)
        → ⊥
    not_all different g chosen are apart more count e refused =
        let (class, listed) = slice_get-there unbuilt (length chosen) more in
        let is = open_classes.only (length chosen) class listed in
        not_all_refused known.laws state known.ordered (represented state known buildable.own) class_sizes defaults unbuilt open_classes
        (λ (n : ℕ) (p : Point). IsNth state.declarations sizes is.sort.0 n p) (different is.sort.0) g (known.closed g are.formed.fits) are.of_sorts chosen (chosen_within g chosen are) apart class listed 0
        (subst (λ (k : ℕ). AreRefused state (λ (n : ℕ) (p : Point). IsNth state.declarations sizes is.sort.0 n p) g defaults unbuilt chosen 0 k) e (refused class is.sort listed is.sorted))

    -- where the values of open classes are apart, so are those of all nodes that are made of them
    pub valued_over : (g : Nodes) (chosen values : List NodeId) → AreAllChosen state defaults unbuilt g chosen → AreGiven state g defaults unbuilt chosen values → (longer : Nodes) → Begins g longer → IsClosed longer → (nodes : List NodeId) → AreAssigned state g values longer nodes → AreValued state longer nodes
    valued_over g chosen values all given longer grown closed nodes assigned =
        let itself : Begins g g = begins_itself g in
        let are = values_over g chosen all.are_chosen g values itself given longer closed nodes assigned in
        record {
          within = assigned.within;
          classes = assigned.classes;
          one_node = assigned.one_node;
          apart = elim all.apart [
            | inl none ↦ apart_of_none g chosen (term_point longer nodes) none all.are_chosen are
            | inr some ↦ apart_longer known.laws state known.ordered (represented state known buildable.own) class_sizes defaults unbuilt open_classes g g (known.closed g all.are_chosen.formed.fits) itself all.are_chosen.of_sorts chosen (chosen_within g chosen all.are_chosen) some.value (term_point longer nodes) some.values some.apart are
          ];
        }

-- a value that was refused
module _ (state : State) (IsNumbered : SortId → ℕ → Point → Type 0) (defaults : List NodeId) (unbuilt : List OpenClass) where
  pub refused_next : (g longer : Nodes) (chosen after : List NodeId) (number : ℕ) (x y : TermId) → IsPushed state IsNumbered unbuilt g chosen number longer after → CollideWith state longer defaults unbuilt after x y → IsRefusedNext state IsNumbered g defaults unbuilt chosen number
  refused_next g longer chosen after number x y pushed collide class s listed is_of = (
    (x, y),
    record {
      longer = longer;
      node = pushed.node;
      grown = pushed.grown;
      numbered = pushed.numbered class s listed is_of;
      collide = subst (λ (l : List NodeId). CollideWith state longer defaults unbuilt l x y) pushed.nodes_are collide;
    },
  )

  -- one more refused
  pub refused_further : (g : Nodes) (chosen : List NodeId) (number : ℕ) → IsRefusedNext state IsNumbered g defaults unbuilt chosen number
      → ((class : OpenClass) (s : SortId) → slice_get unbuilt (length chosen) ≡ Some class → IsOfSort state.terms class.rep s → AreRefused state (IsNumbered s) g defaults unbuilt chosen 0 number)
      → (class : OpenClass) (s : SortId) → slice_get unbuilt (length chosen) ≡ Some class → IsOfSort state.terms class.rep s → AreRefused state (IsNumbered s) g defaults unbuilt chosen 0 (number + 1)
  refused_further g chosen number is before class s listed is_of =
      let (pair, refused) = is class s listed is_of in
      refused_more state (IsNumbered s) g defaults unbuilt chosen number pair refused (before class s listed is_of)

-- one more class has a value
pub next_from : (state : State) (IsNumbered : SortId → ℕ → Point → Type 0) (defaults : List NodeId) (unbuilt : List OpenClass) (g longer : Nodes) (chosen after : List NodeId) (number : ℕ) → IsPushed state IsNumbered unbuilt g chosen number longer after → AreChosen state longer defaults unbuilt after → AreApartWith state longer defaults unbuilt after → IsNext state defaults unbuilt chosen longer after
next_from state IsNumbered defaults unbuilt g longer chosen after number pushed are apart = record {
  are_chosen = are;
  apart = apart;
  more = ap length pushed.nodes_are ∙ length-push chosen pushed.node;
}
