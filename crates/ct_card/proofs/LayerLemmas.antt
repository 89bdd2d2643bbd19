-- Layers of the n-th value, and how they are put around a value.
use Rattle.std.proofs.Common.{◌≡◌, ℕ, zero, suc, ◌+◌, ◌^◌, ◌<◌, Bool, true, false, List, [], ◌∷◌, ◌++◌, length, map, get_or, slice_get, slice_set, Option, None, Some, refl, sym, ◌∙◌, ap, subst, inl, inr, arith, true≢false}
use Rattle.std.proofs.lemmas.Option.{none-some, same_Some, slice_get_within}
use Rattle.ct_lemmas.proofs.Lists.{slice_get-last, slice_get-map_at}
use Rattle.ct_sorts.specs.declared.ids.CtorId.{CtorId}
use Rattle.ct_sorts.specs.Declarations.{Declarations}
use Rattle.ct_sorts.specs.Consistent.{IsConsistent}
use Rattle.ct_sorts.specs.Structure.{HaveOwnConstructors, AreOfTheirSorts, HaveOwnSelectors, AreOfTheirConstructors}
use Rattle.ct_values.specs.Fitting.{HasNodeSort}
use Rattle.ct_values.specs.declared.node.NodeId.{NodeId}
use Rattle.ct_values.specs.declared.node.Node.{Node}
use Rattle.ct_values.specs.declared.node.Head.{Head}
use Rattle.ct_values.specs.declared.node.Head.TheVariants as heads
use Rattle.ct_values.specs.Graph.{Nodes, IsClosed, node_head}
use Rattle.ct_values.specs.Value.{reference}
use Rattle.ct_values.specs.Agreement.{node_point, children, AgreeAlways}
use Rattle.ct_card.specs.declared.departure.Step.{Step}
use Rattle.ct_card.specs.declared.departure.Layer.{Layer}
use Rattle.ct_card.specs.declared.departure.Departure.{Departure}
use Rattle.ct_card.specs.declared.departure.Departure.TheVariants.{Nowhere, Constructor as Other, Field}
use Rattle.ct_card.specs.declared.descent.Wanted.{Wanted}
use Rattle.ct_card.specs.declared.descent.Passed.{Passed}
use Rattle.ct_card.specs.Fields.{ctor_fields}
use Rattle.ct_card.specs.Rules.{IsDerived}
use Rattle.ct_card.specs.Paths.{HasHeadAt}
use Rattle.ct_card.specs.Defaults.{is_free_sort, node_of_sort}
use Rattle.ct_card.specs.Departures.{IsDeparture, IsDigitField, IsLayer, AreLayers, AreSeconds}
use Rattle.ct_card.specs.Built.{node_of_layer, with_second, CanSet, IsDepartingNode, IsEndNode}
use Rattle.ct_card.specs.Signs.{IsSign, HasAllDefaults, HasAllSeconds}
use Rattle.ct_card.specs.Nth.{IsPlain, Departs, ShowsDigit, CountsDigit, CountsEnd, Counts, IsNthAfter}
use Rattle.ct_card.specs.Descent.{IsWanted, IsSetFor, LeavesDigit, LeavesLess, Leaves, EndsAt, IsPassed, LeadsDown, HasComeDown}
use Rattle.ct_card.proofs.SizeLemmas.{derived_within}
use Rattle.ct_card.proofs.PathLemmas.{Agrees}
use Rattle.ct_card.proofs.NthLemmas.{nth_same}
use Rattle.ct_card.proofs.BuiltLemmas.{head_at, child_at, set_there, set_elsewhere, unset_at, own_ctor, own_within, con_sort}
use Rattle.ct_card.proofs.DepartureLemmas.{other_not_field}
use Rattle.ct_card.proofs.DescentLemmas.{last_layer}
use Rattle.ct_card.proofs.SignLemmas.{longer_defaults, default_sign, child_lacks, departing_lacks, pushed_head, same_ctor}

-- ---- layers

-- the field that is set is one that may hold a digit
set_for : (d : Declarations) (several : List ℕ) (step digit : Step) (b : ℕ) (set : Option Step) → IsDigitField d several step digit → IsSetFor digit b set → (other : Step) → set ≡ Some other → IsDigitField d several step other
set_for d several step digit zero set field none other e = absurd (none-some other (sym none ∙ e))
set_for d several step digit (suc zero) set field is other e = subst (λ (z : Step). IsDigitField d several step z) (same_Some digit other (sym is ∙ e)) field
set_for d several step digit (suc (suc b)) set field is other e = absurd is

-- a field by which a value departs is so, too
departure_field : (d : Declarations) (several : List ℕ) (s : ℕ) (layer : Layer) (step : Step) → IsLayer d several s layer → layer.departure ≡ Field step → IsDigitField d several layer.step step
departure_field d several s layer step is e =
    let by : IsDeparture d several s layer.step.ctor (Field step) = subst (λ (z : Departure). IsDeparture d several s layer.step.ctor z) e is.departs in
    record { ctor = by.ctor; field = by.field; derived = by.lower.0; apart = is.apart step e }

pub set_field : (d : Declarations) (several : List ℕ) (s : ℕ) (layer : Layer) (turn : Bool) (n m : ℕ) (set : Option Step) → IsLayer d several s layer → Leaves layer layer.departure turn n m set → (other : Step) → set ≡ Some other → IsDigitField d several layer.step other
set_field d several s layer turn n m set is leaves = by layer.departure turn refl leaves
  where
    less : (digit : Option Step) → layer.digit ≡ digit → LeavesLess digit n m set → (other : Step) → set ≡ Some other → IsDigitField d several layer.step other
    less None e (n_is, none) other f = absurd (none-some other (sym none ∙ f))
    less (Some step) e (k, n_is, (b, is_set, k_is)) other f = set_for d several layer.step step b set (is.digit step e) is_set other f

    by : (departure : Departure) (t : Bool) → layer.departure ≡ departure → Leaves layer departure t n m set → (other : Step) → set ≡ Some other → IsDigitField d several layer.step other
    by Nowhere t e (n_is, none) other f = absurd (none-some other (sym none ∙ f))
    by (Other ctor) t e left other f = less layer.digit refl left other f
    by (Field step) true e (b, is_set, n_is) other f = set_for d several layer.step step b set (departure_field d several s layer step is e) is_set other f
    by (Field step) false e (n_is, none) other f = absurd (none-some other (sym none ∙ f))

module _ (laws : Agrees) (d : Declarations) (several ranks : List ℕ) (ctors : List CtorId) (seconds : List Departure) (layers : List Layer) (base : ℕ) (are : AreSeconds d several ctors seconds) (long : length several ≡ length d.sorts) where
  -- where one has come down, the end that is put there is the value that is wanted
  pub end_nth : (g : Nodes) (second : ℕ) (wanted : Wanted) (n : NodeId) (layer : Layer) (node : Node) → IsClosed g → n.0 ≡ length g → HasAllSeconds d several ctors seconds second g → slice_get layers wanted.sort ≡ Some layer → (is_free_sort d wanted.sort ≡ false → IsLayer d several wanted.sort layer) → HasComeDown d layers wanted → IsEndNode d several ranks base second wanted.sort wanted.number layer.departure node → IsWanted d ctors seconds layers wanted (node_point (g ++ node ∷ []) n)
  end_nth g second wanted n layer node closed number all stored is_layer down (inl (free, is)) =
      (0, inl (free, pushed_head d several ranks ctors seconds base are long g n node number ∙ ap (λ (x : Node). Some (node_head x)) is))
  end_nth g second wanted n layer node closed number all stored is_layer down (inr (other, is)) =
      let ends = ends_here down in
      (0, inr (other, ends.none, layer, stored, ends.reads, departs layer.departure refl is))
    where
      ends_here : HasComeDown d layers wanted → EndsAt layer wanted
      ends_here (inl free) = absurd (true≢false (sym free ∙ other))
      ends_here (inr (kind, found, at, ends)) = subst (λ (l : Layer). EndsAt l wanted) (same_Some _ _ (sym at ∙ stored)) ends

      departs : (departure : Departure) → layer.departure ≡ departure → IsDepartingNode d several ranks base second departure node → Departs d ctors seconds layer (node_point (g ++ node ∷ []) n)
      departs Nowhere e at = absurd at
      departs (Other ctor) e at =
          let by : IsDeparture d several wanted.sort layer.step.ctor (Other ctor) = subst (λ (z : Departure). IsDeparture d several wanted.sort layer.step.ctor z) e (is_layer other).departs in (
            [],
            heads.Con layer.step.ctor,
            (ctor, e, refl),
            λ has.
                let same : Some (heads.Con ctor) ≡ Some (heads.Con layer.step.ctor) = ap (λ (x : Node). Some (node_head x)) (sym at) ∙ sym (pushed_head d several ranks ctors seconds base are long g n node number) ∙ has in
                by.differ (same_ctor ctor layer.step.ctor same),
          )
      departs (Field step) e at =
          let by : IsDeparture d several wanted.sort layer.step.ctor (Field step) = subst (λ (z : Departure). IsDeparture d several wanted.sort layer.step.ctor z) e (is_layer other).departs in
          let field : slice_get (ctor_fields d step.ctor) step.place ≡ Some step.next = ap (λ (z : CtorId). slice_get (ctor_fields d z) step.place) by.ctor ∙ by.field in
          let lack = departing_lacks d several ranks ctors seconds base are long laws g second n step (node_of_sort second several step.next) node closed (all step.next by.lower.0) field at number in
          (step.place ∷ lack.0, lack.1, (step, e, refl, lack.2), lack.3)

  -- the nodes below the constructor of a layer
  abbrev below_layer : ℕ → Step → Option Step → NodeId → List NodeId
  below_layer second step set top = with_second several second set (slice_set (map (node_of_sort base ranks) (ctor_fields d step.ctor)) step.place top)

  module _ (second : ℕ) (layer : Layer) (set : Option Step) (top : NodeId) where
    -- in the place of a field beside the step that is not set stands a default value
    default_below : (place next : ℕ) → slice_get (ctor_fields d layer.step.ctor) place ≡ Some next → (place ≡ layer.step.place → ⊥) → ((other : Step) → set ≡ Some other → place ≡ other.place → ⊥) → slice_get (below_layer second layer.step set top) place ≡ Some (node_of_sort base ranks next)
    default_below place next field apart unset =
        unset_at several second set (slice_set (map (node_of_sort base ranks) (ctor_fields d layer.step.ctor)) layer.step.place top) place (node_of_sort base ranks next) unset
        (set_elsewhere (map (node_of_sort base ranks) (ctor_fields d layer.step.ctor)) layer.step.place place top (node_of_sort base ranks next) apart (slice_get-map_at (node_of_sort base ranks) (ctor_fields d layer.step.ctor) place next field))

    module _ (g : Nodes) (n : NodeId) (all : HasAllDefaults d ranks ctors base g) (stands : slice_get g n.0 ≡ Some (node_of_layer d several ranks base second layer.step set top)) where
      -- and so the signs of it
      signs_below : (place next : ℕ) → slice_get (ctor_fields d layer.step.ctor) place ≡ Some next → IsDerived several next → (place ≡ layer.step.place → ⊥) → set ≡ None → (path : List ℕ) (h : Head) → IsSign d ctors seconds next path h → HasHeadAt (place ∷ path) h (node_point g n)
      signs_below place next field derived apart none path h sign =
          let at = default_below place next field apart (λ other e. absurd (none-some other (sym none ∙ e))) in
          let inside : next < length d.sorts = subst (λ x. next < x) long (derived_within several next derived) in (
            node_point g (node_of_sort base ranks next),
            child_at g n layer.step.ctor (below_layer second layer.step set top) place (node_of_sort base ranks next) stands at,
            default_sign d several ranks ctors seconds base are long g all path next h inside sign,
          )

      -- a layer looks as default values do, if no field by which it could depart is set
      layer_plain : (s : ℕ) → IsLayer d several s layer → ((step : Step) → layer.departure ≡ Field step → set ≡ None) → IsPlain d ctors seconds layer (node_point g n)
      layer_plain s is unset [] h (other, e, head_is) = head_at g n (node_of_layer d several ranks base second layer.step set top) stands ∙ ap Some (sym head_is)
      layer_plain s is unset (place ∷ path) h (step, e, place_is, sign) =
          let by = departure_field d several s layer step is e in
          subst (λ k. HasHeadAt (k ∷ path) h (node_point g n)) (sym place_is) (signs_below step.place step.next by.field by.derived by.apart (unset step e) path h sign)

      -- a digit's field with its default value shows 0
      shows_zero : (digit : Step) → IsDigitField d several layer.step digit → set ≡ None → ShowsDigit d ctors seconds digit 0 (node_point g n)
      shows_zero digit is none [] h sign = absurd sign
      shows_zero digit is none (place ∷ path) h (place_is, sign) =
          subst (λ k. HasHeadAt (k ∷ path) h (node_point g n)) (sym place_is) (signs_below digit.place digit.next is.field is.derived is.apart none path h sign)

      layer_child : (s : ℕ) → IsLayer d several s layer → ((other : Step) → set ≡ Some other → IsDigitField d several layer.step other) → slice_get (children (node_point g n)) layer.step.place ≡ Some (node_point g top)
      layer_child s is fields =
          let defaults = map (node_of_sort base ranks) (ctor_fields d layer.step.ctor) in
          child_at g n layer.step.ctor (below_layer second layer.step set top) layer.step.place top stands
          (unset_at several second set (slice_set defaults layer.step.place top) layer.step.place top (λ other e same. (fields other e).apart (sym same))
          (set_there defaults layer.step.place top (node_of_sort base ranks layer.step.next) (slice_get-map_at (node_of_sort base ranks) (ctor_fields d layer.step.ctor) layer.step.place layer.step.next is.field)))

  -- a digit's field with its second value shows 1
  shows_one : (g : Nodes) (second : ℕ) (n top : NodeId) (step digit : Step) (node : Node) → IsClosed g → n.0 ≡ length g → HasAllSeconds d several ctors seconds second g → IsDigitField d several step digit → node ≡ node_of_layer d several ranks base second step (Some digit) top → ShowsDigit d ctors seconds digit 1 (node_point (g ++ node ∷ []) n)
  shows_one g second n top step digit node closed number all is node_is =
      let defaults = map (node_of_sort base ranks) (ctor_fields d step.ctor) in
      let with_top = slice_set defaults step.place top in
      let before : slice_get with_top digit.place ≡ Some (node_of_sort base ranks digit.next) = set_elsewhere defaults step.place digit.place top (node_of_sort base ranks digit.next) is.apart (slice_get-map_at (node_of_sort base ranks) (ctor_fields d step.ctor) digit.place digit.next is.field) in
      let at = set_there with_top digit.place (node_of_sort second several digit.next) (node_of_sort base ranks digit.next) before in
      let lack = child_lacks d several ranks ctors seconds base are long laws g n step.ctor (below_layer second step (Some digit) top) digit.place digit.next (node_of_sort second several digit.next) node closed (all digit.next is.derived) node_is at number in
      (digit.place ∷ lack.0, lack.1, (refl, lack.2), lack.3)

  -- a layer around a value counts as it leaves
  pub layer_nth : (g : Nodes) (second : ℕ) (wanted below : Wanted) (n top : NodeId) (layer : Layer) (set : Option Step) (node : Node) → IsClosed g → n.0 ≡ length g → top.0 < length g → HasAllDefaults d ranks ctors base g → HasAllSeconds d several ctors seconds second g → IsLayer d several wanted.sort layer → IsPassed d layers wanted below layer set → IsWanted d ctors seconds layers below (node_point g top) → node ≡ node_of_layer d several ranks base second layer.step set top → IsWanted d ctors seconds layers wanted (node_point (g ++ node ∷ []) n)
  layer_nth g second wanted below n top layer set node closed number within all all_seconds is passed (count, inner) node_is = (
    suc count,
    (
      passed.other,
      layer,
      passed.stored,
      below.number,
      counts layer.departure wanted.turn refl passed.leads.leaves,
      node_point (g ++ node ∷ []) top,
      layer_child second layer set top (g ++ node ∷ []) n defaults stands wanted.sort is (set_field d several wanted.sort layer wanted.turn wanted.number below.number set is passed.leads.leaves),
      subst (λ (t : Bool). IsNthAfter d ctors seconds layers count t layer.step.next below.number (node_point (g ++ node ∷ []) top)) (sym passed.leads.turned)
          (subst (λ (s : ℕ). IsNthAfter d ctors seconds layers count below.turn s below.number (node_point (g ++ node ∷ []) top)) (sym passed.leads.next)
          (nth_same laws d ctors seconds layers count below.turn below.sort below.number (node_point g top) (node_point (g ++ node ∷ []) top) same inner)),
    ),
  )
    where
      stands : slice_get (g ++ node ∷ []) n.0 ≡ Some (node_of_layer d several ranks base second layer.step set top)
      stands = ap (slice_get (g ++ node ∷ [])) number ∙ slice_get-last g node ∙ ap Some node_is

      defaults : HasAllDefaults d ranks ctors base (g ++ node ∷ [])
      defaults = longer_defaults d ranks ctors base g (node ∷ []) all

      same : AgreeAlways (node_point g top) (node_point (g ++ node ∷ []) top)
      same = laws.turned (node_point (g ++ node ∷ []) top) (node_point g top) (laws.grown g (node ∷ []) (reference top) closed within)

      shows : (digit : Step) (b : ℕ) → IsDigitField d several layer.step digit → IsSetFor digit b set → ShowsDigit d ctors seconds digit b (node_point (g ++ node ∷ []) n)
      shows digit zero field none = shows_zero second layer set top (g ++ node ∷ []) n defaults stands digit field none
      shows digit (suc zero) field set_is = shows_one g second n top layer.step digit node closed number all_seconds field (node_is ∙ ap (λ (o : Option Step). node_of_layer d several ranks base second layer.step o top) set_is)
      shows digit (suc (suc b)) field set_is = absurd set_is

      counts_digit : (digit : Step) (i : ℕ) → IsDigitField d several layer.step digit → LeavesDigit digit i below.number set → CountsDigit d ctors seconds digit i below.number (node_point (g ++ node ∷ []) n)
      counts_digit digit i field (b, set_is, i_is) = (b, shows digit b field set_is, i_is)

      counts_less : (digit : Option Step) → layer.digit ≡ digit → LeavesLess digit wanted.number below.number set → CountsEnd d ctors seconds digit wanted.number below.number (node_point (g ++ node ∷ []) n)
      counts_less None e (n_is, none) = n_is
      counts_less (Some digit) e (k, n_is, leaves) = (k, n_is, counts_digit digit k (is.digit digit e) leaves)

      plain : ((step : Step) → layer.departure ≡ Field step → set ≡ None) → IsPlain d ctors seconds layer (node_point (g ++ node ∷ []) n)
      plain unset = layer_plain second layer set top (g ++ node ∷ []) n defaults stands wanted.sort is unset

      counts : (departure : Departure) (turn : Bool) → layer.departure ≡ departure → Leaves layer departure turn wanted.number below.number set → Counts d ctors seconds layer departure turn wanted.number below.number (node_point (g ++ node ∷ []) n)
      counts Nowhere turn e (n_is, none) = n_is
      counts (Other ctor) turn e leaves = (plain (λ step f. absurd (other_not_field ctor step (sym e ∙ f))), counts_less layer.digit refl leaves)
      counts (Field step) true e leaves = counts_digit step wanted.number (departure_field d several wanted.sort layer step is e) leaves
      counts (Field step) false e (n_is, none) = (plain (λ other f. none), n_is)

-- ---- on the way up

-- the last sort of a way with its layer
pub record IsPopped (d : Declarations) (several : List ℕ) (layers : List Layer) (first : Wanted) (left : List Passed) (x : Passed) (below : Wanted) (layer : Layer) : Type 0 where
  pub wanted : Wanted
  pub leads : LeadsDown d layers first left wanted
  pub here : x.sort ≡ wanted.sort
  pub passed : IsPassed d layers wanted below layer x.set
  pub is : IsLayer d several wanted.sort layer
  pub inside : wanted.sort < length d.sorts
  pub within : layer.step.ctor.0 < length d.ctors

module _ (d : Declarations) (consistent : IsConsistent d) (own : HaveOwnConstructors d) (own_sels : HaveOwnSelectors d) (of_sorts : AreOfTheirSorts d) (of_ctors : AreOfTheirConstructors d) where
  pub popped : (several : List ℕ) (layers : List Layer) → AreLayers d several layers → (first : Wanted) (way left : List Passed) (x : Passed) (below : Wanted) (layer : Layer) → LeadsDown d layers first way below → way ≡ left ++ x ∷ [] → (x.sort < length layers → slice_get layers x.sort ≡ Some layer) → IsPopped d several layers first left x below layer
  popped several layers are first way left x below layer leads way_is stored =
      let last = last_layer d layers first left x below (subst (λ (w : List Passed). LeadsDown d layers first w below) way_is leads) in
      let wanted = last.0 in
      let found = last.1 in
      let passed_found : IsPassed d layers wanted below found x.set = last.5 in
      let in_layers : wanted.sort < length layers = slice_get_within layers wanted.sort found passed_found.stored in
      let inside : wanted.sort < length d.sorts = omega (arith, in_layers, are.long) in
      let there : slice_get layers wanted.sort ≡ Some layer = subst (λ u. (u < length layers) → (slice_get layers u ≡ Some layer)) last.3 stored in_layers in
      let passed : IsPassed d layers wanted below layer x.set = subst (λ (l : Layer). IsPassed d layers wanted below l x.set) (same_Some _ _ (sym passed_found.stored ∙ there)) passed_found in
      let is = are.each wanted.sort layer there last.4 passed.other in
      record {
        wanted = wanted;
        leads = last.2;
        here = last.3;
        passed = passed;
        is = is;
        inside = inside;
        within = own_within d consistent own own_sels of_sorts of_ctors wanted.sort is.index layer.step.ctor inside is.listed;
      }

  -- the field that is set in a layer that was popped can be set
  pub can_set : (several : List ℕ) (layers : List Layer) (first : Wanted) (left : List Passed) (x : Passed) (below : Wanted) (layer : Layer) (second : ℕ) (g : Nodes) → IsPopped d several layers first left x below layer → ((t : ℕ) → IsDerived several t → HasNodeSort d g (node_of_sort second several t) (record { 0 = t })) → ((t : ℕ) → IsDerived several t → second + get_or several t 0 < 2 ^ 64)
      → (other : Step) → x.set ≡ Some other → CanSet d several second g layer.step other
  can_set several layers first left x below layer second g p sorted room other e =
      let field = set_field d several p.wanted.sort layer p.wanted.turn p.wanted.number below.number x.set p.is p.passed.leads.leaves other e in
      record { field = field; room = room other.next field.derived; sorted = sorted other.next field.derived }

  -- the sort of a layer that was put around a node
  pub layer_sort : (several ranks : List ℕ) (base second : ℕ) (g : Nodes) (x : ℕ) (layer : Layer) (set : Option Step) (n top : NodeId) → IsLayer d several x layer → x < length d.sorts → n.0 ≡ length g → HasNodeSort d (g ++ node_of_layer d several ranks base second layer.step set top ∷ []) n (record { 0 = x })
  layer_sort several ranks base second g x layer set n top is inside number =
      let mine = own_ctor d consistent own own_sels of_sorts of_ctors x is.index layer.step.ctor inside is.listed in
      let node = node_of_layer d several ranks base second layer.step set top in (
        node,
        ap (slice_get (g ++ node ∷ [])) number ∙ slice_get-last g node,
        con_sort d layer.step.ctor (with_second several second set (slice_set (map (node_of_sort base ranks) (ctor_fields d layer.step.ctor)) layer.step.place top)) mine.0 x mine.1 mine.2,
      )
