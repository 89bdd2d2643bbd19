-- Sizes of declarations that grew, or were cut: the earlier sorts keep theirs.
use Rattle.std.proofs.Common.{◌≡◌, ℕ, ◌<◌, ◌≤◌, false, List, [], length, get_or, slice_get, Some, Option, option_map, unwrap_or, refl, sym, ◌∙◌, ap, inl, inr, arith}
use Rattle.std.proofs.lemmas.Option.{none-some, slice_get_within}
use Rattle.ct_sorts.specs.declared.ids.CtorId.{CtorId}
use Rattle.ct_sorts.specs.Declarations.{Declarations, Sort}
use Rattle.ct_sorts.specs.Consistent.{IsConsistent}
use Rattle.ct_sorts.specs.Structure.{HaveOwnConstructors, AreOfTheirSorts, HaveOwnSelectors, AreOfTheirConstructors}
use Rattle.ct_card.specs.declared.size.Size.{Size}
use Rattle.ct_card.specs.declared.departure.Layer.{Layer}
use Rattle.ct_card.specs.declared.departure.Departure.{Departure}
use Rattle.ct_card.specs.declared.departure.Departure.TheVariants.{Nowhere, Constructor as Other, Field}
use Rattle.ct_card.specs.Cardinality.{IsInfinite, HasSize}
use Rattle.ct_card.specs.Defaults.{is_free_sort, IsChoice, AreChosen}
use Rattle.ct_card.specs.Departures.{IsDeparture, AreSeconds, IsLayer, AreLayers}
use Rattle.ct_card.specs.Extended.{IsLater, AreGrownBy, IsChosen, IsSecond, IsLayerOf, AreCut}
use Rattle.ct_card.specs.Fields.{ctor_fields, ctors_of}
use Rattle.ct_card.specs.Founding.{AreFounded}
use Rattle.ct_card.specs.Ranked.{AreSeveral, AreSmall}
use Rattle.ct_card.specs.Rules.{IsDerived, HaveStayed, IsOrder}
use Rattle.ct_card.specs.Sizes.{Table, AreSizes, IsSizeBy, no_sizes}
use Rattle.ct_card.proofs.SizeLemmas.{derived_within, size_from}
use Rattle.ct_card.proofs.StayLemmas.{fewer_sorts, sort_stays, sort_was, step_stays, step_was, count_stays, count_was, free_same, ctors_same, own_of, fields_same, field_within_earlier, infinite_stays, infinite_was, size_stays, size_was}
use Rattle.ct_card.proofs.BuiltLemmas.{listed_choice}

-- ---- from one table to another, over the sorts below the bound, where constructors and fields are the same

module _ (a b : Declarations) (bound : ℕ) (from to : List ℕ) (still : (n : ℕ) → n < bound → IsDerived from n → IsDerived to n) (lower : (m n : ℕ) → m < bound → n < bound → get_or from m 0 < get_or from n 0 → get_or to m 0 < get_or to n 0) where
  departs_over : (s : ℕ) (c : CtorId) (departure : Departure) → s < bound → ctors_of a s ≡ ctors_of b s → ctor_fields a c ≡ ctor_fields b c → ((k t : ℕ) → slice_get (ctor_fields a c) k ≡ Some t → t < bound) → IsDeparture a from s c departure → IsDeparture b to s c departure
  departs_over s c Nowhere within ctors fields inside is = tt
  departs_over s c (Other ctor) within ctors fields inside is = record { index = is.index; listed = ap (λ (l : List CtorId). slice_get l is.index) (sym ctors) ∙ is.listed; differ = is.differ }
  departs_over s c (Field step) within ctors fields inside is =
      let less = inside step.place step.next is.field in
      record { ctor = is.ctor; field = ap (λ (l : List ℕ). slice_get l step.place) (sym fields) ∙ is.field; lower = (still step.next less is.lower.0, lower step.next s less within is.lower.1) }

  layer_over : (s : ℕ) (layer : Layer) → s < bound → ctors_of a s ≡ ctors_of b s → ctor_fields a layer.step.ctor ≡ ctor_fields b layer.step.ctor → ((k t : ℕ) → slice_get (ctor_fields a layer.step.ctor) k ≡ Some t → t < bound) → ((t : ℕ) → t < bound → IsInfinite a t → IsInfinite b t) → IsLayer a from s layer → IsLayer b to s layer
  layer_over s layer within ctors fields inside infinite is =
      let less = inside layer.step.place layer.step.next is.field in
      record {
        index = is.index;
        listed = ap (λ (l : List CtorId). slice_get l is.index) (sym ctors) ∙ is.listed;
        field = ap (λ (l : List ℕ). slice_get l layer.step.place) (sym fields) ∙ is.field;
        infinite = infinite layer.step.next less is.infinite;
        departs = departs_over s layer.step.ctor layer.departure within ctors fields inside is.departs;
        apart = is.apart;
        falls = λ none. lower layer.step.next s less within (is.falls none);
        digit = λ step at.
            let holds = is.digit step at in
            record {
              ctor = holds.ctor;
              field = ap (λ (l : List ℕ). slice_get l step.place) (sym fields) ∙ holds.field;
              derived = still step.next (inside step.place step.next holds.field) holds.derived;
              apart = holds.apart;
            };
      }

  choice_over : (s : ℕ) (sort : Sort) (c : CtorId) → s < bound → ctor_fields a c ≡ ctor_fields b c → ((k t : ℕ) → slice_get (ctor_fields a c) k ≡ Some t → t < bound) → IsChoice a from s sort c → IsChoice b to s sort c
  choice_over s sort c within fields inside is =
      record {
        index = is.index;
        listed = is.listed;
        lower = λ kind k t at.
            let was : slice_get (ctor_fields a c) k ≡ Some t = ap (λ (l : List ℕ). slice_get l k) fields ∙ at in
            lower t s (inside k t was) within (is.lower kind k t was);
      }

-- ---- the sorts that were added

module _ (d e : Declarations) (later : IsLater d e) where
  -- a field of an earlier constructor has an earlier sort, by the later declarations and by the earlier ones
  inside_d : (s index : ℕ) (c : CtorId) → s < length e.sorts → slice_get (ctors_of e s) index ≡ Some c → (k t : ℕ) → slice_get (ctor_fields d c) k ≡ Some t → t < length e.sorts
  inside_d s index c within listed k t at = let own = own_of d e later s index c within listed in field_within_earlier d e later c k t own.0 own.1 at

  same_d : (s index : ℕ) (c : CtorId) → s < length e.sorts → slice_get (ctors_of e s) index ≡ Some c → ctor_fields d c ≡ ctor_fields e c
  same_d s index c within listed = let own = own_of d e later s index c within listed in fields_same d e later c own.0 own.1

  inside_e : (s index : ℕ) (c : CtorId) → s < length e.sorts → slice_get (ctors_of e s) index ≡ Some c → (k t : ℕ) → slice_get (ctor_fields e c) k ≡ Some t → t < length e.sorts
  inside_e s index c within listed k t at = inside_d s index c within listed k t (ap (λ (l : List ℕ). slice_get l k) (same_d s index c within listed) ∙ at)

  in_ctors : (s index : ℕ) (sort : Sort) (c : CtorId) → slice_get e.sorts s ≡ Some sort → slice_get sort.ctors index ≡ Some c → slice_get (ctors_of e s) index ≡ Some c
  in_ctors s index sort c at listed = ap (λ (o : Option Sort). slice_get (unwrap_or (option_map (λ (x : Sort). x.ctors) o) []) index) at ∙ listed

  module _ (consistent : IsConsistent d) (own : HaveOwnConstructors d) (own_sels : HaveOwnSelectors d) (of_sorts : AreOfTheirSorts d) (of_ctors : AreOfTheirConstructors d) (old new : Table) (before : AreSizes e old) where
    in_old : (s : ℕ) → s < length e.sorts → s < length old.several
    in_old s within = omega (arith, within, before.several.long)

    still_several : HaveStayed old.several new.several → (n : ℕ) → n < length e.sorts → IsDerived old.several n → IsDerived new.several n
    still_several stayed n within derived = let h = stayed n (in_old n within) in omega arith

    lower_several : HaveStayed old.several new.several → (m n : ℕ) → m < length e.sorts → n < length e.sorts → get_or old.several m 0 < get_or old.several n 0 → get_or new.several m 0 < get_or new.several n 0
    lower_several stayed m n m_in n_in less = let h = stayed m (in_old m m_in) in let k = stayed n (in_old n n_in) in omega arith

    sizes_grown : AreSeveral d new.several → AreSmall d new.several new.small → length new.sizes ≡ length d.sorts → AreGrownBy (IsSizeBy new.several new.small) old.sizes new.sizes → (s : ℕ) (size : Size) → slice_get new.sizes s ≡ Some size → HasSize d s size
    sizes_grown several small long grown s size at =
        elim (grown s size at) [
          | inl was ↦ size_stays d e later s size (omega (arith, slice_get_within old.sizes s size was, before.long)) (before.each s size was)
          | inr (from, is) ↦ size_from d consistent own new.several several new.small small s size (omega (arith, slice_get_within new.sizes s size at, long)) is
        ]

    pub chosen_grown : HaveStayed old.ranks new.ranks → length new.ctors ≡ length d.sorts → AreGrownBy (IsChosen d new.ranks) old.ctors new.ctors → AreChosen d new.ranks new.ctors
    chosen_grown stayed long grown = record { long = long; each = each }
      where
        ranked : (n : ℕ) → n < length e.sorts → get_or new.ranks n 0 ≡ get_or old.ranks n 0
        ranked n within = stayed n (omega (arith, within, before.plan.founded.long))

        each : (s : ℕ) (sort : Sort) (c : CtorId) → slice_get d.sorts s ≡ Some sort → slice_get new.ctors s ≡ Some c → 0 < length sort.ctors → IsChoice d new.ranks s sort c
        each s sort c at_sort at some =
            elim (grown s c at) [
              | inl was ↦
                  let within : s < length e.sorts = omega (arith, slice_get_within old.ctors s c was, before.plan.chosen.long) in
                  let at_e = sort_was d e later s sort within at_sort in
                  let choice = before.plan.chosen.each s sort c at_e was some in
                  let listed = in_ctors s choice.index sort c at_e choice.listed in
                  choice_over e d (length e.sorts) old.ranks new.ranks (λ n less derived. let h = ranked n less in omega arith) (λ m n m_in n_in less. let h = ranked m m_in in let k = ranked n n_in in omega arith) s sort c within (sym (same_d s choice.index c within listed)) (inside_e s choice.index c within listed) choice
              | inr (from, is) ↦ is sort at_sort some
            ]

    seconds_grown : HaveStayed old.several new.several → AreChosen d new.ranks new.ctors → length new.seconds ≡ length d.sorts → AreGrownBy (IsChosen d new.ranks) old.ctors new.ctors → AreGrownBy (IsSecond d new.several new.ctors) old.seconds new.seconds → AreSeconds d new.several new.ctors new.seconds
    seconds_grown stayed chosen long ctors_grown grown = record { long = long; chosen = chosen.long; each = each; some = some }
      where
        in_e : (s : ℕ) (departure : Departure) → slice_get old.seconds s ≡ Some departure → s < length e.sorts
        in_e s departure was = omega (arith, slice_get_within old.seconds s departure was, before.departures.long)

        ctor_then : (s : ℕ) (c : CtorId) → s < length e.sorts → slice_get new.ctors s ≡ Some c → slice_get old.ctors s ≡ Some c
        ctor_then s c within at =
            elim (ctors_grown s c at) [
              | inl was ↦ was
              | inr (from, is) ↦ absurd (omega (arith, from, before.plan.chosen.long, within))
            ]

        each : (s : ℕ) (c : CtorId) (departure : Departure) → slice_get new.ctors s ≡ Some c → slice_get new.seconds s ≡ Some departure → is_free_sort d s ≡ false → IsDeparture d new.several s c departure
        each s c departure at_c at other =
            elim (grown s departure at) [
              | inl was ↦
                  let within = in_e s departure was in
                  let in_d : s < length d.sorts = omega (arith, slice_get_within new.seconds s departure at, long) in
                  let found = listed_choice d consistent own own_sels of_sorts of_ctors new.ranks new.ctors chosen s c in_d other at_c in
                  let same = ctors_same d e later s within in
                  let listed : slice_get (ctors_of e s) found.0 ≡ Some c = ap (λ (l : List CtorId). slice_get l found.0) (sym same) ∙ found.1 in
                  departs_over e d (length e.sorts) old.several new.several (still_several stayed) (lower_several stayed) s c departure within (sym same) (sym (same_d s found.0 c within listed)) (inside_e s found.0 c within listed)
                  (before.departures.each s c departure (ctor_then s c within at_c) was (sym (free_same d e later s within) ∙ other))
              | inr (from, is) ↦ is.departs c at_c other
            ]

        some : (s : ℕ) → slice_get new.seconds s ≡ Some Nowhere → is_free_sort d s ≡ false → IsDerived new.several s → ⊥
        some s at other derived =
            elim (grown s Nowhere at) [
              | inl was ↦
                  let within = in_e s Nowhere was in
                  let h = stayed s (in_old s within) in
                  before.departures.some s was (sym (free_same d e later s within) ∙ other) (omega arith)
              | inr (from, is) ↦ is.some other derived refl
            ]

    layers_grown : HaveStayed old.several new.several → length new.layers ≡ length d.sorts → AreGrownBy (IsLayerOf d new.several) old.layers new.layers → AreLayers d new.several new.layers
    layers_grown stayed long grown = record { long = long; each = each }
      where
        each : (s : ℕ) (layer : Layer) → slice_get new.layers s ≡ Some layer → IsInfinite d s → is_free_sort d s ≡ false → IsLayer d new.several s layer
        each s layer at infinite other =
            elim (grown s layer at) [
              | inl was ↦
                  let within : s < length e.sorts = omega (arith, slice_get_within old.layers s layer was, before.layered.long) in
                  let is = before.layered.each s layer was (infinite_was d e later s within infinite) (sym (free_same d e later s within) ∙ other) in
                  layer_over e d (length e.sorts) old.several new.several (still_several stayed) (lower_several stayed) s layer within (sym (ctors_same d e later s within)) (sym (same_d s is.index layer.step.ctor within is.listed)) (inside_e s is.index layer.step.ctor within is.listed) (λ t less. infinite_stays d e later t less) is
              | inr (from, is) ↦ is infinite other
            ]

    -- the sizes of all
    pub all_grown : HaveStayed old.several new.several → HaveStayed old.ranks new.ranks → AreSeveral d new.several → IsOrder new.several new.queue → AreSmall d new.several new.small → IsOrder new.small new.settled → AreFounded d new.ranks new.order
        → length new.sizes ≡ length d.sorts → AreGrownBy (IsSizeBy new.several new.small) old.sizes new.sizes
        → length new.ctors ≡ length d.sorts → AreGrownBy (IsChosen d new.ranks) old.ctors new.ctors
        → length new.seconds ≡ length d.sorts → AreGrownBy (IsSecond d new.several new.ctors) old.seconds new.seconds
        → length new.layers ≡ length d.sorts → AreGrownBy (IsLayerOf d new.several) old.layers new.layers
        → AreSizes d new
    all_grown several_stayed ranks_stayed several queued small settled founded sizes_long sizes ctors_long ctors seconds_long seconds layers_long layers =
        let chosen = chosen_grown ranks_stayed ctors_long ctors in
        record {
          long = sizes_long;
          each = sizes_grown several small sizes_long sizes;
          several = several;
          queued = queued;
          plan = record { founded = founded; chosen = chosen };
          departures = seconds_grown several_stayed chosen seconds_long ctors seconds;
          layered = layers_grown several_stayed layers_long layers;
          small = small;
          settled = settled;
        }

-- ---- no sorts

pub no_declarations : Declarations
no_declarations = record { sorts = []; ctors = []; sels = []; functions = []; definitions = []; declared = record { heads = []; synonyms = [] }; spellings = []; origins = [] }

pub later_than_none : (d : Declarations) → IsLater d no_declarations
unfolding no_declarations
later_than_none d =
    record {
      extends = record { sorts = (d.sorts, refl); ctors = (d.ctors, refl); sels = (d.sels, refl); functions = (d.functions, refl); definitions = (d.definitions, refl); heads = (d.declared.heads, refl); synonyms = (d.declared.synonyms, refl); spellings = (d.spellings, refl); origins = (d.origins, refl) };
      own_ctors = λ s index sort c at. absurd (none-some _ at);
      own_sels = λ c index ctor s at. absurd (none-some _ at);
      fields = λ s sel at. absurd (none-some _ at);
    }

pub sizes_of_none : AreSizes no_declarations no_sizes
unfolding no_declarations
sizes_of_none =
    record {
      long = refl;
      each = λ s size at. absurd (none-some _ at);
      several = record { long = refl; counted = λ s other. absurd (none-some _ other.of_sort); field = λ s t step. absurd (none-some _ step.of_sort); grounded = λ s derived. absurd (nothing s derived) };
      queued = no_order;
      plan = record {
        founded = record { long = refl; ordered = no_order; all = λ s within. absurd (omega arith); built = λ s sort at. absurd (none-some _ at) };
        chosen = record { long = refl; each = λ s sort c at. absurd (none-some _ at) };
      };
      departures = record { long = refl; chosen = refl; each = λ s c departure at. absurd (none-some _ at); some = λ s at. absurd (none-some _ at) };
      layered = record { long = refl; each = λ s layer at. absurd (none-some _ at) };
      small = record { long = refl; single = λ s within. absurd (omega arith); built = λ s sort at. absurd (none-some _ at); grounded = λ s derived. absurd (nothing s derived) };
      settled = no_order;
    }
  where
    nothing : (s : ℕ) → IsDerived [] s → ⊥
    nothing s derived = let h = derived_within [] s derived in omega arith

    no_order : IsOrder [] []
    no_order = record { at = λ i n at. absurd (none-some _ at); of = λ i n e. absurd (nothing n (omega (arith, e))) }

-- ---- no sort was added

module _ (d e : Declarations) (later : IsLater d e) (consistent : IsConsistent d) (own : HaveOwnConstructors d) (own_sels : HaveOwnSelectors d) (of_sorts : AreOfTheirSorts d) (of_ctors : AreOfTheirConstructors d) (table : Table) (before : AreSizes e table) (same : length e.sorts ≡ length d.sorts) where
  within_e : (s : ℕ) → s < length d.sorts → s < length e.sorts
  within_e s less = omega (arith, same, less)

  several_same : AreSeveral d table.several
  several_same =
      record {
        long = before.several.long ∙ same;
        counted = λ s other. before.several.counted s (count_was d e later s (within_e s (slice_get_within d.sorts s other.sort other.of_sort)) other);
        field = λ s t step derived. before.several.field s t (step_was d e later s t (within_e s (slice_get_within d.sorts s step.sort step.of_sort)) step).0 derived;
        grounded = λ s derived. elim (before.several.grounded s derived) [
          | inl other ↦ inl (count_stays d e later s other)
          | inr has ↦ inr (record { field = has.field; step = step_stays d e later s has.field has.step; derived = has.derived; lower = has.lower })
        ];
      }

  small_same : AreSmall d table.several table.small
  small_same =
      record {
        long = before.small.long ∙ same;
        single = λ s within none. before.small.single s (within_e s within) none;
        built = λ s sort at some fields. before.small.built s sort (sort_was d e later s sort (within_e s (slice_get_within d.sorts s sort at)) at) some (λ t step. fields t (step_stays d e later s t step));
        grounded = λ s derived. elim (before.small.grounded s derived) [
          | inl none ↦ inl none
          | inr built ↦
              let within = slice_get_within e.sorts s built.sort built.of_sort in
              inr (record { sort = built.sort; of_sort = sort_stays d e later s built.sort built.of_sort; some = built.some; derived = λ t step. built.derived t (step_was d e later s t within step).0; lower = λ t step. built.lower t (step_was d e later s t within step).0 })
        ];
      }

  founded_same : AreFounded d table.ranks table.order
  founded_same =
      record {
        long = before.plan.founded.long ∙ same;
        ordered = before.plan.founded.ordered;
        all = λ s within. before.plan.founded.all s (within_e s within);
        built = λ s sort at kind.
            let within = within_e s (slice_get_within d.sorts s sort at) in
            let at_e = sort_was d e later s sort within at in
            let was = before.plan.founded.built s sort at_e kind in
            let fields = same_d d e later s was.0 was.1 within (in_ctors d e later s was.0 sort was.1 at_e was.2) in
            (was.0, was.1, was.2, λ k t field. was.3 k t (ap (λ (l : List ℕ). slice_get l k) (sym fields) ∙ field));
      }

  pub none_added : AreSizes d table
  none_added =
      all_grown d e later consistent own own_sels of_sorts of_ctors table table before (λ n less. refl) (λ n less. refl) several_same before.queued small_same before.settled founded_same
      (before.long ∙ same) (λ s x at. inl at) (before.plan.chosen.long ∙ same) (λ s x at. inl at) (before.departures.long ∙ same) (λ s x at. inl at) (before.layered.long ∙ same) (λ s x at. inl at)

-- ---- the sorts that have gone

module _ (d e : Declarations) (later : IsLater d e) (consistent : IsConsistent e) (own : HaveOwnConstructors e) (own_sels : HaveOwnSelectors e) (of_sorts : AreOfTheirSorts e) (of_ctors : AreOfTheirConstructors e) (whole cut : Table) (before : AreSizes d whole) (several : AreCut whole.several cut.several (length e.sorts)) (ranks : AreCut whole.ranks cut.ranks (length e.sorts)) (small : AreCut whole.small cut.small (length e.sorts)) where
  several_cut : AreSeveral e cut.several
  several_cut =
      record {
        long = several.long;
        counted = λ s other. several.still s (slice_get_within e.sorts s other.sort other.of_sort) (before.several.counted s (count_stays d e later s other));
        field = λ s t step derived.
            let within = slice_get_within e.sorts s step.sort step.of_sort in
            let longer = step_stays d e later s t step in
            let t_in = (step_was d e later s t within longer).1 in
            several.still s within (before.several.field s t longer (several.was t t_in derived));
        grounded = λ s derived.
            let within : s < length e.sorts = omega (arith, derived_within cut.several s derived, several.long) in
            elim (before.several.grounded s (several.was s within derived)) [
              | inl other ↦ inl (count_was d e later s within other)
              | inr has ↦
                  let was = step_was d e later s has.field within has.step in
                  inr (record { field = has.field; step = was.0; derived = several.still has.field was.1 has.derived; lower = several.lower has.field s was.1 within has.lower })
            ];
      }

  small_cut : AreSmall e cut.several cut.small
  small_cut =
      record {
        long = small.long;
        single = λ s within none. small.still s within (before.small.single s (omega (arith, within, fewer)) (λ derived. none (several.still s within derived)));
        built = λ s sort at some fields.
            let within = slice_get_within e.sorts s sort at in
            small.still s within (before.small.built s sort (sort_stays d e later s sort at) some (λ t step.
            let was = step_was d e later s t within step in
            small.was t was.1 (fields t was.0)));
        grounded = λ s derived.
            let within : s < length e.sorts = omega (arith, derived_within cut.small s derived, small.long) in
            elim (before.small.grounded s (small.was s within derived)) [
              | inl none ↦ inl (λ h. none (several.was s within h))
              | inr built ↦ inr (record {
                sort = built.sort;
                of_sort = sort_was d e later s built.sort within built.of_sort;
                some = built.some;
                derived = λ t step. let t_in = (step_was d e later s t within (step_stays d e later s t step)).1 in small.still t t_in (built.derived t (step_stays d e later s t step));
                lower = λ t step. let t_in = (step_was d e later s t within (step_stays d e later s t step)).1 in small.lower t s t_in within (built.lower t (step_stays d e later s t step));
              })
            ];
      }
    where
      fewer : length e.sorts ≤ length d.sorts
      fewer = fewer_sorts d e later

  founded_cut : IsOrder cut.ranks cut.order → AreFounded e cut.ranks cut.order
  founded_cut ordered =
      record {
        long = ranks.long;
        ordered = ordered;
        all = λ s within. ranks.still s within (before.plan.founded.all s (omega (arith, within, fewer_sorts d e later)));
        built = λ s sort at kind.
            let within = slice_get_within e.sorts s sort at in
            let was = before.plan.founded.built s sort (sort_stays d e later s sort at) kind in
            let listed = in_ctors d e later s was.0 sort was.1 at was.2 in (
              was.0,
              was.1,
              was.2,
              λ k t field.
                  let field_d = ap (λ (l : List ℕ). slice_get l k) (same_d d e later s was.0 was.1 within listed) ∙ field in
                  ranks.lower t s (inside_e d e later s was.0 was.1 within listed k t field) within (was.3 k t field_d),
            );
      }

  chosen_cut : length cut.ctors ≡ length e.sorts → ((s : ℕ) (c : CtorId) → slice_get cut.ctors s ≡ Some c → slice_get whole.ctors s ≡ Some c) → AreChosen e cut.ranks cut.ctors
  chosen_cut long was =
      record {
        long = long;
        each = λ s sort c at_sort at some.
            let within = slice_get_within e.sorts s sort at_sort in
            let choice = before.plan.chosen.each s sort c (sort_stays d e later s sort at_sort) (was s c at) some in
            let listed = in_ctors d e later s choice.index sort c at_sort choice.listed in
            choice_over d e (length e.sorts) whole.ranks cut.ranks ranks.still ranks.lower s sort c within (same_d d e later s choice.index c within listed) (inside_d d e later s choice.index c within listed) choice;
      }

  seconds_cut : AreChosen e cut.ranks cut.ctors → ((s : ℕ) (c : CtorId) → slice_get cut.ctors s ≡ Some c → slice_get whole.ctors s ≡ Some c) → length cut.seconds ≡ length e.sorts → ((s : ℕ) (x : Departure) → slice_get cut.seconds s ≡ Some x → slice_get whole.seconds s ≡ Some x) → AreSeconds e cut.several cut.ctors cut.seconds
  seconds_cut chosen ctor_was_at long was =
      record {
        long = long;
        chosen = chosen.long;
        each = λ s c departure at_c at other.
            let within : s < length e.sorts = omega (arith, slice_get_within cut.seconds s departure at, long) in
            let found = listed_choice e consistent own own_sels of_sorts of_ctors cut.ranks cut.ctors chosen s c within other at_c in
            departs_over d e (length e.sorts) whole.several cut.several several.still several.lower s c departure within (ctors_same d e later s within) (same_d d e later s found.0 c within found.1) (inside_d d e later s found.0 c within found.1)
            (before.departures.each s c departure (ctor_was_at s c at_c) (was s departure at) (free_same d e later s within ∙ other));
        some = λ s at other derived.
            let within : s < length e.sorts = omega (arith, slice_get_within cut.seconds s Nowhere at, long) in
            before.departures.some s (was s Nowhere at) (free_same d e later s within ∙ other) (several.was s within derived);
      }

  layers_cut : length cut.layers ≡ length e.sorts → ((s : ℕ) (x : Layer) → slice_get cut.layers s ≡ Some x → slice_get whole.layers s ≡ Some x) → AreLayers e cut.several cut.layers
  layers_cut long was =
      record {
        long = long;
        each = λ s layer at infinite other.
            let within : s < length e.sorts = omega (arith, slice_get_within cut.layers s layer at, long) in
            let is = before.layered.each s layer (was s layer at) (infinite_stays d e later s within infinite) (free_same d e later s within ∙ other) in
            let listed : slice_get (ctors_of e s) is.index ≡ Some layer.step.ctor = ap (λ (l : List CtorId). slice_get l is.index) (sym (ctors_same d e later s within)) ∙ is.listed in
            layer_over d e (length e.sorts) whole.several cut.several several.still several.lower s layer within (ctors_same d e later s within) (same_d d e later s is.index layer.step.ctor within listed) (inside_d d e later s is.index layer.step.ctor within listed) (λ t less. infinite_was d e later t less) is;
      }

  pub all_cut : IsOrder cut.several cut.queue → IsOrder cut.ranks cut.order → IsOrder cut.small cut.settled
      → length cut.sizes ≡ length e.sorts → ((s : ℕ) (x : Size) → slice_get cut.sizes s ≡ Some x → slice_get whole.sizes s ≡ Some x)
      → length cut.ctors ≡ length e.sorts → ((s : ℕ) (x : CtorId) → slice_get cut.ctors s ≡ Some x → slice_get whole.ctors s ≡ Some x)
      → length cut.seconds ≡ length e.sorts → ((s : ℕ) (x : Departure) → slice_get cut.seconds s ≡ Some x → slice_get whole.seconds s ≡ Some x)
      → length cut.layers ≡ length e.sorts → ((s : ℕ) (x : Layer) → slice_get cut.layers s ≡ Some x → slice_get whole.layers s ≡ Some x)
      → AreSizes e cut
  all_cut queued ordered settled sizes_long sizes ctors_long ctors seconds_long seconds layers_long layers =
      let chosen = chosen_cut ctors_long ctors in
      record {
        long = sizes_long;
        each = λ s size at. size_was d e later s size (omega (arith, slice_get_within cut.sizes s size at, sizes_long)) (before.each s size (sizes s size at));
        several = several_cut;
        queued = queued;
        plan = record { founded = founded_cut ordered; chosen = chosen };
        departures = seconds_cut chosen ctors seconds_long seconds;
        layered = layers_cut layers_long layers;
        small = small_cut;
        settled = settled;
      }

-- ranks that are not cut
pub not_cut : (ranks : List ℕ) (count : ℕ) → length ranks ≡ count → AreCut ranks ranks count
not_cut ranks count long = record { long = long; still = λ n less derived. derived; was = λ n less derived. derived; lower = λ m n m_in n_in less. less }

pub none_gone : (d e : Declarations) → IsLater d e → IsConsistent e → HaveOwnConstructors e → HaveOwnSelectors e → AreOfTheirSorts e → AreOfTheirConstructors e → (table : Table) → AreSizes d table → length e.sorts ≡ length d.sorts → AreSizes e table
none_gone d e later consistent own own_sels of_sorts of_ctors table before same =
    all_cut d e later consistent own own_sels of_sorts of_ctors table table before
    (not_cut table.several (length e.sorts) (before.several.long ∙ sym same)) (not_cut table.ranks (length e.sorts) (before.plan.founded.long ∙ sym same)) (not_cut table.small (length e.sorts) (before.small.long ∙ sym same))
    before.queued before.plan.founded.ordered before.settled
    (before.long ∙ sym same) (λ s x at. at) (before.plan.chosen.long ∙ sym same) (λ s x at. at) (before.departures.long ∙ sym same) (λ s x at. at) (before.layered.long ∙ sym same) (λ s x at. at)
