-- The entries of the sorts from one on, sort after sort.
use Rattle.std.proofs.Common.{◌≡◌, ℕ, zero, suc, ◌+◌, ◌<◌, ◌≤◌, List, [], ◌∷◌, ◌++◌, length, map, take, drop, slice_get, Some, refl, sym, ◌∙◌, ap, ap₂, subst, subst₂, arith, length-append}
use Rattle.std.specs.List.{AllZip}
use Rattle.std.proofs.lemmas.List.{append_assoc, append-nil, length-map, map-append, drop_all}
use Rattle.std.proofs.lemmas.List.Concat.{flat_map-append}
use Rattle.std.proofs.lemmas.Option.{none-some, same_Some}
use Rattle.ct_lemmas.proofs.Lists.{slice_get-map_at}
use Rattle.ct_generics.specs.Declarations.{Declared, Head}
use Rattle.ct_generics.specs.Denoted.{declared_of, sorts_of}
use Rattle.ct_generics.specs.SortTable.{AreCounted}
use Rattle.ct_generics.specs.Expression.{Expression}
use Rattle.ct_generics.specs.Additions.{ComeAfterArguments, HaveFields}
use Rattle.ct_generics.specs.Reach.{fields_of}
use Rattle.ct_generics.specs.WellFormed.{AreExpressions}
use Rattle.ct_sorts.specs.declared.entries.SortEntry.{SortEntry}
use Rattle.ct_sorts.specs.declared.spelling.Spelling.{Spelling}
use Rattle.ct_sorts.specs.declared.tables.Tables.{Tables}
use Rattle.ct_sorts.specs.Declarations.{most_sorts, most_ctors, most_sels}
use Rattle.ct_sorts.specs.Growing.{AreReady, AreWithin, HaveGrown, IsGrownBy, IsStanding, shapes_in}
use Rattle.ct_sorts.specs.Heads.{NamesEach}
use Rattle.ct_sorts.specs.Lookup.{AreDistinct, names_of}
use Rattle.ct_sorts.specs.Made.{new_ctors, new_sels}
use Rattle.ct_sorts.specs.Same.{sort_among}
use Rattle.ct_sorts.specs.Shapes.{CtorShape, SortShape, all_ctors, all_fields, shape_of, spelling_of}
use Rattle.ct_sorts.specs.SortText.{sort_text}
use Rattle.ct_sorts.specs.Stored.{ctor_of, sel_of}
use Rattle.ct_sorts.specs.Tabled.{of_tables}
use Rattle.ct_sorts.proofs.ConsistentLemmas.{AreHeads-same}
use Rattle.ct_sorts.proofs.GrowLemmas.{grown_by_none, grown_by_more, grown_self, grown_further}
use Rattle.ct_sorts.proofs.MadeLemmas.{length-new_ctors, length-new_sels}

pub take_next : {X : Type 0} (n : ℕ) (xs : List X) (x : X) → slice_get xs n ≡ Some x → take n xs ++ x ∷ [] ≡ take (n + 1) xs
take_next {X} n xs x at = subst (λ (k : ℕ). take n xs ++ x ∷ [] ≡ take k xs) (one_more n) (by n xs at)
  where
    one_more : (n : ℕ) → suc n ≡ n + 1
    one_more n = omega arith

    by : (n : ℕ) (xs : List X) → slice_get xs n ≡ Some x → take n xs ++ x ∷ [] ≡ take (suc n) xs
    by n [] at = absurd (none-some _ at)
    by zero (y ∷ xs) at = ap (λ (z : X). z ∷ []) (sym (same_Some _ _ at))
    by (suc n) (y ∷ xs) at = ap (λ (zs : List X). y ∷ zs) (by n xs at)

pub drop_next : {X : Type 0} (n : ℕ) (xs : List X) (x : X) → slice_get xs n ≡ Some x → drop n xs ≡ x ∷ drop (n + 1) xs
drop_next {X} n xs x at = subst (λ (k : ℕ). drop n xs ≡ x ∷ drop k xs) (one_more n) (by n xs at)
  where
    one_more : (n : ℕ) → suc n ≡ n + 1
    one_more n = omega arith

    by : (n : ℕ) (xs : List X) → slice_get xs n ≡ Some x → drop n xs ≡ x ∷ drop (suc n) xs
    by n [] at = absurd (none-some _ at)
    by zero (y ∷ xs) at = ap (λ (z : X). z ∷ xs) (same_Some _ _ at)
    by (suc n) (y ∷ xs) at = by n xs at

-- how much stands there after more sorts
pub ctors_after : (old mid : Tables) (es : List Expression) → IsGrownBy old mid es → length mid.ctors ≡ length old.ctors + length (all_ctors (shapes_in old es))
ctors_after old mid es a = omega (
  arith,
  ap length a.ctors,
  length-map mid.ctors (ctor_of old.spellings),
  length-map old.ctors (ctor_of old.spellings),
  length-append (map (ctor_of old.spellings) old.ctors) (new_ctors (length old.sorts) (length old.sels) (shapes_in old es)),
  length-new_ctors (length old.sorts) (length old.sels) (shapes_in old es),
)

pub sels_after : (old mid : Tables) (es : List Expression) → IsGrownBy old mid es → length mid.sels ≡ length old.sels + length (all_fields (all_ctors (shapes_in old es)))
sels_after old mid es a = omega (
  arith,
  ap length a.sels,
  length-map mid.sels (sel_of old.spellings),
  length-map old.sels (sel_of old.spellings),
  length-append (map (sel_of old.spellings) old.sels) (new_sels (sort_among (sorts_of old.table)) (length old.ctors) (all_ctors (shapes_in old es))),
  length-new_sels (sort_among (sorts_of old.table)) (length old.ctors) (all_ctors (shapes_in old es)),
)

-- with one entry more the others are ready still
pub ready_next : (now new : Tables) (e : Expression) → AreReady now → IsGrownBy now new (e ∷ []) → IsStanding new → slice_get (sorts_of now.table) (length now.sorts) ≡ Some e → length new.sorts ≡ length now.sorts + 1 → AreReady new
ready_next now new e r g standing at long =
    let declared : declared_of new.generics ≡ declared_of now.generics = ap declared_of g.same.generics_same in
    let heads : (declared_of new.generics).heads ≡ (declared_of now.generics).heads = ap (λ (d : Declared). d.heads) declared in
    let origins = g.same.origins_same in
    record {
      standing = standing;
      heads = AreHeads-same (of_tables now [] []) (of_tables new [] []) declared g.same.spellings_same r.heads;
      sorts = subst₂ (λ (hs : List Head) (xs : List Expression). AreExpressions hs 0 xs) (sym heads) (sym origins) r.sorts;
      arguments = subst ComeAfterArguments (sym origins) r.arguments;
      fields = subst₂ HaveFields (sym heads) (sym origins) r.fields;
      texts = subst₂ (λ (hs : List Head) (xs : List Expression). AreDistinct (map (sort_text hs) xs)) (sym heads) (sym origins) r.texts;
      begun =
          let text = sort_text (declared_of now.generics).heads in
          g.texts ∙ ap (λ xs. xs ++ text e ∷ []) r.begun ∙ take_next (length now.sorts) (map text (sorts_of now.table)) (text e) (slice_get-map_at text (sorts_of now.table) (length now.sorts) e at)
          ∙ ap₂ (λ (n : ℕ) (hs : List Head). take n (map (sort_text hs) (sorts_of now.table))) (sym long) (sym heads)
          ∙ ap (λ (xs : List Expression). take (length new.sorts) (map (sort_text (declared_of new.generics).heads) xs)) (sym origins);
      named = λ i f there.
          let index : length new.sorts + i ≡ length now.sorts + (1 + i) = omega (arith, long) in
          subst₂ (λ (s : List (List Spelling)) (hs : List Head). AllZip NamesEach (spelling_of s f) (fields_of hs f)) (sym g.same.spellings_same) (sym heads)
          (r.named (1 + i) f (ap (slice_get (sorts_of now.table)) (sym index) ∙ ap (λ (xs : List Expression). slice_get xs (length new.sorts + i)) (sym origins) ∙ there));
    }

-- the entries of the sorts before the one with this number were pushed
pub record ArePushedSorts (old now : Tables) (i : ℕ) : Type 0 where
  pub done : List Expression
  pub split : done ++ drop i (sorts_of old.table) ≡ drop (length old.sorts) (sorts_of old.table)
  pub index : i ≡ length now.sorts
  pub ready : AreReady now
  pub grown : IsGrownBy old now done
  pub have : HaveGrown old now
  pub counted : AreCounted old.generics old.table → AreCounted now.generics now.table

pub sorts_none : (t : Tables) (i : ℕ) → i ≡ length t.sorts → AreReady t → ArePushedSorts t t i
sorts_none t i is ready = record { done = []; split = ap (λ (n : ℕ). drop n (sorts_of t.table)) is; index = is; ready = ready; grown = grown_by_none t; have = grown_self t; counted = λ h. h }

pub sorts_more : (old now new : Tables) (i : ℕ) (e : Expression) → ArePushedSorts old now i → slice_get (sorts_of now.table) i ≡ Some e → IsGrownBy now new (e ∷ []) → HaveGrown now new → IsStanding new → (AreCounted now.generics now.table → AreCounted new.generics new.table) → ArePushedSorts old new (i + 1)
sorts_more old now new i e p at g have standing counted =
    let there : slice_get (sorts_of old.table) i ≡ Some e = ap (λ (xs : List Expression). slice_get xs i) (sym p.grown.same.origins_same) ∙ at in
    let long : length new.sorts ≡ length now.sorts + 1 = omega (
      arith,
      ap length g.texts,
      length-map new.sorts (λ (x : List ℕ × SortEntry). x.0),
      length-map now.sorts (λ (x : List ℕ × SortEntry). x.0),
      length-append (names_of now.sorts) (sort_text (declared_of now.generics).heads e ∷ []),
    ) in
    record {
      done = p.done ++ e ∷ [];
      split = append_assoc p.done (e ∷ []) (drop (i + 1) (sorts_of old.table)) ∙ ap (λ xs. p.done ++ xs) (sym (drop_next i (sorts_of old.table) e there)) ∙ p.split;
      index = omega (arith, p.index, long);
      ready = ready_next now new e p.ready g standing (ap (slice_get (sorts_of now.table)) (sym p.index) ∙ at) long;
      grown = grown_by_more old now new p.done (e ∷ []) p.grown g;
      have = grown_further old now new p.have have;
      counted = λ h. counted (p.counted h);
    }

pub sorts_all : (old now : Tables) (i : ℕ) → length (sorts_of old.table) ≤ i → ArePushedSorts old now i → IsGrownBy old now (drop (length old.sorts) (sorts_of old.table))
sorts_all old now i past p =
    subst (IsGrownBy old now) (sym (append-nil p.done) ∙ ap (λ xs. p.done ++ xs) (sym (drop_all i (sorts_of old.table) past)) ∙ p.split) p.grown

-- one more fits where all fit
pub sorts_fit : (old now : Tables) (i : ℕ) (e : Expression) → ArePushedSorts old now i → AreWithin old (drop (length old.sorts) (sorts_of old.table)) → slice_get (sorts_of now.table) i ≡ Some e → AreWithin now (e ∷ [])
sorts_fit old now i e p w at =
    let there : slice_get (sorts_of old.table) i ≡ Some e = ap (λ (xs : List Expression). slice_get xs i) (sym p.grown.same.origins_same) ∙ at in
    let rest = drop (i + 1) (sorts_of old.table) in
    let all : drop (length old.sorts) (sorts_of old.table) ≡ p.done ++ (e ∷ rest) = sym p.split ∙ ap (λ xs. p.done ++ xs) (drop_next i (sorts_of old.table) e there) in
    let shapes : shapes_in now (e ∷ []) ≡ shapes_in old (e ∷ []) = ap₂ (λ (d : Declared) (s : List (List Spelling)). map (shape_of d.heads s) (e ∷ [])) (ap declared_of p.grown.same.generics_same) p.grown.same.spellings_same in
    let whole : all_ctors (shapes_in old (drop (length old.sorts) (sorts_of old.table))) ≡ all_ctors (shapes_in old p.done) ++ (all_ctors (shapes_in old (e ∷ [])) ++ all_ctors (shapes_in old rest)) =
    ap (λ (xs : List Expression). all_ctors (shapes_in old xs)) all
    ∙ ap all_ctors (map-append (shape_of (declared_of old.generics).heads old.spellings) p.done (e ∷ rest))
    ∙ flat_map-append (λ (s : SortShape). s.ctors) (shapes_in old p.done) (shapes_in old (e ∷ rest))
    ∙ ap (λ xs. all_ctors (shapes_in old p.done) ++ xs) (flat_map-append (λ (s : SortShape). s.ctors) (shapes_in old (e ∷ [])) (shapes_in old rest)) in
    let fields : length (all_fields (all_ctors (shapes_in old (drop (length old.sorts) (sorts_of old.table))))) ≡ length (all_fields (all_ctors (shapes_in old p.done))) + (length (all_fields (all_ctors (shapes_in old (e ∷ [])))) + length (all_fields (all_ctors (shapes_in old rest)))) =
    omega (
      arith,
      ap (λ (cs : List CtorShape). length (all_fields cs)) whole,
      ap length (flat_map-append (λ (c : CtorShape). c.fields) (all_ctors (shapes_in old p.done)) (all_ctors (shapes_in old (e ∷ [])) ++ all_ctors (shapes_in old rest))),
      length-append (all_fields (all_ctors (shapes_in old p.done))) (all_fields (all_ctors (shapes_in old (e ∷ [])) ++ all_ctors (shapes_in old rest))),
      ap length (flat_map-append (λ (c : CtorShape). c.fields) (all_ctors (shapes_in old (e ∷ []))) (all_ctors (shapes_in old rest))),
      length-append (all_fields (all_ctors (shapes_in old (e ∷ [])))) (all_fields (all_ctors (shapes_in old rest))),
    ) in
    record {
      sorts = omega (arith, w.sorts, ap length p.grown.same.origins_same);
      ctors = omega (
        arith,
        w.ctors,
        ctors_after old now p.done p.grown,
        ap length whole,
        length-append (all_ctors (shapes_in old p.done)) (all_ctors (shapes_in old (e ∷ [])) ++ all_ctors (shapes_in old rest)),
        length-append (all_ctors (shapes_in old (e ∷ []))) (all_ctors (shapes_in old rest)),
        ap (λ (ss : List SortShape). length (all_ctors ss)) shapes,
      );
      sels = omega (arith, w.sels, sels_after old now p.done p.grown, fields, ap (λ (ss : List SortShape). length (all_fields (all_ctors ss))) shapes);
    }
