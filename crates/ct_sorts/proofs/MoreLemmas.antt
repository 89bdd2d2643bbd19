-- What holds of declarations holds with more sorts after those that are there.
use Rattle.std.proofs.Common.{◌≡◌, ℕ, zero, suc, ◌+◌, ◌<◌, ◌≤◌, ◌⊎◌, List, [], ◌++◌, length, map, take, drop, slice_get, Some, refl, sym, ◌∙◌, ap, subst, inl, inr, ⊎_elim, arith, length-append}
use Rattle.std.proofs.Math.Nat.{zero-add}
use Rattle.std.proofs.lemmas.List.{map-append, length-map, take-append-le, drop-append-le}
use Rattle.std.proofs.lemmas.List.Concat.{flat_map-append}
use Rattle.std.specs.List.{flat_map}
use Rattle.ct_generics.specs.Expression.{Expression}
use Rattle.ct_sorts.specs.Availability.{IsUnavailable}
use Rattle.ct_sorts.specs.Declarations.{Declarations, Sort, Constructor, Selector, Function, start, ctor_names, sel_names, ctor_ids, sel_ids}
use Rattle.ct_sorts.specs.Founded.{IsFounded}
use Rattle.ct_sorts.specs.Limits.{IsOverLimits}
use Rattle.ct_sorts.specs.Origins.{AreOrigins}
use Rattle.ct_sorts.specs.Consistent.{AreFew, AreAvailable, IsOverSorts, owners, indices, FitsKind}
use Rattle.ct_sorts.proofs.BaseLemmas.{IsBase}
use Rattle.ct_sorts.proofs.Lists.{range-append0, owners-append}
use Rattle.ct_sorts.proofs.FoundedLemmas.{more, IsFounded-more}
use Rattle.ct_sorts.proofs.ConsistentLemmas.{each-append, begins, IsOverSorts-more, IsFounded-same, AreHeads-same}

-- more sorts, constructors and selectors at the ends
abbrev pub more_sorts : Declarations → List Sort → List Constructor → List Selector → List Expression → Declarations
more_sorts d sorts ctors sels origins = record d { sorts = d.sorts ++ sorts; ctors = d.ctors ++ ctors; sels = d.sels ++ sels; origins = d.origins ++ origins }

-- what is to be added fits what is there
pub record IsMore (d : Declarations) (sorts : List Sort) (ctors : List Constructor) (sels : List Selector) (added : List Expression) : Type 0 where
  pub few : AreFew (more_sorts d sorts ctors sels added)
  pub within : IsOverLimits (more_sorts d sorts ctors sels added) → ⊥
  pub ctors_available : AreAvailable (map (λ c. c.name) ctors)
  pub sels_available : AreAvailable (map (λ s. s.name) sels)
  pub all_ctors : flat_map (λ s. s.ctors) sorts ≡ ctor_ids (length d.ctors) (length ctors)
  pub ctor_sorts : map (λ c. c.sort.0) ctors ≡ owners (length d.sorts) (map (λ s. s.ctors) sorts)
  pub kinds : (s : ℕ) (sort : Sort) → slice_get sorts s ≡ Some sort → FitsKind (length d.sorts + s) sort.kind (length sort.ctors)
  pub all_sels : flat_map (λ c. c.sels) ctors ≡ sel_ids (length d.sels) (length sels)
  pub sel_ctors : map (λ s. s.ctor.0) sels ≡ owners (length d.ctors) (map (λ c. c.sels) ctors)
  pub sel_places : map (λ s. s.place) sels ≡ indices (map (λ c. c.sels) ctors)
  pub fields : (s : ℕ) (sel : Selector) → slice_get sels s ≡ Some sel → sel.sort.0 < length d.sorts + length sorts
  pub origins : AreOrigins (more_sorts d sorts ctors sels added)
  pub founded : (s : ℕ) → s < length sorts → IsFounded (more_sorts d sorts ctors sels added) (length d.sorts + s)

pub IsBase-more : (d : Declarations) (sorts : List Sort) (ctors : List Constructor) (sels : List Selector) (added : List Expression) → IsBase d → IsMore d sorts ctors sels added → IsBase (more_sorts d sorts ctors sels added)
IsBase-more d sorts ctors sels added c m =
    record {
      few = m.few;
      within = m.within;
      names_distinct = c.names_distinct;
      distinct = c.distinct;
      fit = c.fit;
      symbols_available = c.symbols_available;
      ctors_available = subst AreAvailable (sym (ap (drop 2) (map-append (λ (t : Constructor). t.name) d.ctors ctors) ∙ drop-append-le 2 (ctor_names d) (map (λ t. t.name) ctors) two)) (each-append (λ _ name. IsUnavailable [] name → ⊥) (drop 2 (ctor_names d)) (map (λ t. t.name) ctors) c.ctors_available m.ctors_available);
      sels_available = subst AreAvailable (sym (map-append (λ (s : Selector). s.name) d.sels sels)) (each-append (λ _ name. IsUnavailable [] name → ⊥) (sel_names d) (map (λ s. s.name) sels) c.sels_available m.sels_available);
      available = c.available;
      definitions_available = c.definitions_available;
      first_sort = take-append-le 1 d.sorts sorts (begins 1 d.sorts start.sorts c.first_sort refl) ∙ c.first_sort;
      first_ctors = take-append-le 2 d.ctors ctors (begins 2 d.ctors start.ctors c.first_ctors refl) ∙ c.first_ctors;
      first_head = c.first_head;
      first_spelling = c.first_spelling;
      first_origin = take-append-le 1 d.origins added (begins 1 d.origins start.origins c.first_origin refl) ∙ c.first_origin;
      all_ctors = rw (flat_map-append (λ (s : Sort). s.ctors) d.sorts sorts, c.all_ctors, m.all_ctors, length-append d.ctors ctors) (range-append0 _ (length d.ctors) (length ctors));
      ctor_sorts = rw (map-append (λ (t : Constructor). t.sort.0) d.ctors ctors, map-append (λ (s : Sort). s.ctors) d.sorts sorts, owners-append 0 (map (λ (s : Sort). s.ctors) d.sorts) (map (λ (s : Sort). s.ctors) sorts), length-map d.sorts (λ (s : Sort). s.ctors), c.ctor_sorts, m.ctor_sorts, zero-add (length d.sorts)) refl;
      kinds = each-append (λ i (s : Sort). FitsKind i s.kind (length s.ctors)) d.sorts sorts c.kinds m.kinds;
      all_sels = rw (flat_map-append (λ (t : Constructor). t.sels) d.ctors ctors, c.all_sels, m.all_sels, length-append d.sels sels) (range-append0 _ (length d.sels) (length sels));
      sel_ctors = rw (map-append (λ (s : Selector). s.ctor.0) d.sels sels, map-append (λ (t : Constructor). t.sels) d.ctors ctors, owners-append 0 (map (λ (t : Constructor). t.sels) d.ctors) (map (λ (t : Constructor). t.sels) ctors), length-map d.ctors (λ (t : Constructor). t.sels), c.sel_ctors, m.sel_ctors, zero-add (length d.ctors)) refl;
      sel_places = rw (map-append (λ (s : Selector). s.place) d.sels sels, map-append (λ (t : Constructor). t.sels) d.ctors ctors, c.sel_places, m.sel_places) (sym (flat_map-append _ (map (λ (t : Constructor). t.sels) d.ctors) (map (λ (t : Constructor). t.sels) ctors)));
      fields = each-append (λ _ (s : Selector). s.sort.0 < length (d.sorts ++ sorts)) d.sels sels (λ i s at. omega (arith, length-append d.sorts sorts, c.fields i s at)) (λ i s at. omega (arith, length-append d.sorts sorts, m.fields i s at));
      over_sorts = λ f declared at. over declared (c.over_sorts f declared at);
      definitions_over_sorts = λ f declared at. over declared (c.definitions_over_sorts f declared at);
      heads = AreHeads-same d (more_sorts d sorts ctors sels added) refl refl c.heads;
      origins = m.origins;
      founded = λ s within. ⊎_elim (λ h. IsFounded-same (more d sorts ctors sels) (more_sorts d sorts ctors sels added) refl refl refl s (IsFounded-more d sorts ctors sels c.all_sels s (c.founded s h))) (λ h. subst (IsFounded (more_sorts d sorts ctors sels added)) (sym h.1) (m.founded h.0 (omega (arith, h.1, length-append d.sorts sorts)))) (split s);
    }
  where
    two : 2 ≤ length (ctor_names d)
    two = omega (arith, begins 2 d.ctors start.ctors c.first_ctors refl, length-map d.ctors (λ (t : Constructor). t.name))

    over : (f : Function) → IsOverSorts d f → IsOverSorts (more_sorts d sorts ctors sels added) f
    over f h =
        let le : length d.sorts ≤ length (d.sorts ++ sorts) = omega (arith, length-append d.sorts sorts) in
        (IsOverSorts-more (length d.sorts) (length (d.sorts ++ sorts)) le f.args h.0, omega (arith, h.1))

    split : (s : ℕ) → (s < length d.sorts) ⊎ ((k : ℕ) × (s ≡ length d.sorts + k))
    split s = by (length d.sorts) s
      where
        by : (n s : ℕ) → (s < n) ⊎ ((k : ℕ) × (s ≡ n + k))
        by zero s = inr (s, omega arith)
        by (suc n) zero = inl (omega arith)
        by (suc n) (suc s) = ⊎_elim (λ h. inl (omega (arith, h))) (λ h. inr (h.0, omega (arith, h.1))) (by n s)
