-- The places of terms in wide terms, row by row.
use Rattle.std.proofs.Common.{◌≡◌, ℕ, zero, suc, map, Vec, ◌<◌, ◌+◌, Bool, true, false, List, [], ◌∷◌, ◌++◌, length, set, get_or, nat_eq, if◌then◌else◌, refl, sym, ap, subst, ◌∙◌, inl, inr, arith, append_assoc, append-nil}
use Rattle.std.proofs.lemmas.List.{get_or-set_same, get_or-set_other, get_or-map, map-set}
use Rattle.std.proofs.lemmas.Option.{slice_get_within}
use Rattle.ct_lemmas.proofs.Numbers.{same_or_other}
use Rattle.ct_terms.specs.declared.ids.TermId.{TermId}
use Rattle.ct_terms.specs.declared.term.Core.{Core}
use Rattle.ct_terms.specs.Children.{core_children}
use Rattle.ct_terms.specs.Terms.{Terms, Has}
use Rattle.ct_terms.proofs.TableLemmas.{Has-same}
use Rattle.ct_equivalence.specs.declared.places.Place.{Place}
use Rattle.ct_equivalence.specs.Digests.{IsWide, ArePlaces, places_in, places_among, places_of}
use Rattle.ct_equivalence.specs.Places.{IsPlaced, ArePlacesBelow}
use Rattle.ct_equivalence.proofs.DigestLemmas.{same_test, other_test}

-- one more place in a row
places_in-push : (w : TermId) (ps : List Place) (p : Place) → places_in w (ps ++ p ∷ []) ≡ places_in w ps ++ places_in w (p ∷ [])
places_in-push w [] p = refl
places_in-push w (q ∷ ps) p = at (places_in-push w ps p) (nat_eq q.term.0 w.0)
  where
    one : List ℕ
    one = places_in w (p ∷ [])

    at : places_in w (ps ++ p ∷ []) ≡ places_in w ps ++ one → (b : Bool) → (if b then q.index ∷ places_in w (ps ++ p ∷ []) else places_in w (ps ++ p ∷ [])) ≡ (if b then q.index ∷ places_in w ps else places_in w ps) ++ one
    at rest true = ap (λ (l : List ℕ). q.index ∷ l) rest
    at rest false = rest

-- one more argument
places_among-push : (m : TermId) (place : ℕ) (ts : List TermId) (t : TermId) → places_among m place (ts ++ t ∷ []) ≡ places_among m place ts ++ (if nat_eq t.0 m.0 then (place + length ts) ∷ [] else [])
places_among-push m place [] t = ap (λ n. if nat_eq t.0 m.0 then n ∷ [] else []) (omega arith)
places_among-push m place (u ∷ ts) t = at (places_among-push m (suc place) ts t ∙ ap (λ n. places_among m (suc place) ts ++ (if nat_eq t.0 m.0 then n ∷ [] else [])) (omega arith)) (nat_eq u.0 m.0)
  where
    last : List ℕ
    last = if nat_eq t.0 m.0 then (place + suc (length ts)) ∷ [] else []

    at : places_among m (suc place) (ts ++ t ∷ []) ≡ places_among m (suc place) ts ++ last → (b : Bool) → (if b then place ∷ places_among m (suc place) (ts ++ t ∷ []) else places_among m (suc place) (ts ++ t ∷ [])) ≡ (if b then place ∷ places_among m (suc place) ts else places_among m (suc place) ts) ++ last
    at rest true = ap (λ (l : List ℕ). place ∷ l) rest
    at rest false = rest

-- the same from the first place on
among-push : (m : TermId) (ts : List TermId) (t : TermId) → places_among m 0 (ts ++ t ∷ []) ≡ places_among m 0 ts ++ (if nat_eq t.0 m.0 then length ts ∷ [] else [])
among-push m ts t = places_among-push m 0 ts t ∙ ap (λ n. places_among m 0 ts ++ (if nat_eq t.0 m.0 then n ∷ [] else [])) (omega arith)

pub IsPlaced-none : (t : TermId) (rows : List (List Place)) → IsPlaced t [] rows rows
IsPlaced-none t rows = record { adds = λ m. sym (append-nil (places_in t (places_of rows m))); others = λ w m other. refl }

module _ (t a : TermId) (args : List TermId) (old now : List (List Place)) (within : a.0 < length now) (placed : IsPlaced t args old now) where
  p : Place
  p = record { term = t; index = length args }

  later : List (List Place)
  later = set now a.0 (places_of now a ++ p ∷ [])

  row-same : (m : TermId) → m.0 ≡ a.0 → places_of later m ≡ places_of now m ++ p ∷ []
  unfolding p later
  row-same m e =
      let is : m ≡ a = λ i. record { 0 = e i } in
      ap (places_of later) is ∙ get_or-set_same now a.0 (places_of now a ++ p ∷ []) [] within ∙ ap (λ (n : TermId). places_of now n ++ p ∷ []) (sym is)

  row-other : (m : TermId) → (m.0 ≡ a.0 → ⊥) → places_of later m ≡ places_of now m
  unfolding p later
  row-other m other = get_or-set_other now a.0 m.0 (places_of now a ++ p ∷ []) [] other

  pub IsPlaced-push : IsPlaced t (args ++ a ∷ []) old (set now a.0 (places_of now a ++ (record { term = t; index = length args }) ∷ []))
  unfolding p later
  IsPlaced-push = record {
    adds = λ m.
        let was = places_in t (places_of old m) in
        let among = places_among m 0 args in
        elim (same_or_other m.0 a.0) [
          | inl e ↦
              let one : places_in t (p ∷ []) ≡ length args ∷ [] = ap (λ b. if b then length args ∷ [] else []) (same_test t.0 t.0 refl) in
              let last : places_among m 0 (args ++ a ∷ []) ≡ among ++ length args ∷ [] = among-push m args a ∙ ap (λ b. among ++ (if b then length args ∷ [] else [])) (same_test a.0 m.0 (sym e)) in
              ap (places_in t) (row-same m e)
              ∙ places_in-push t (places_of now m) p
              ∙ ap (λ (l : List ℕ). l ++ places_in t (p ∷ [])) (placed.adds m)
              ∙ ap (λ (l : List ℕ). (was ++ among) ++ l) one
              ∙ append_assoc was among (length args ∷ [])
              ∙ ap (λ (l : List ℕ). was ++ l) (sym last)
          | inr other ↦
              let last : places_among m 0 (args ++ a ∷ []) ≡ among = among-push m args a ∙ ap (λ b. among ++ (if b then length args ∷ [] else [])) (other_test a.0 m.0 (λ e. other (sym e))) ∙ append-nil among in
              ap (places_in t) (row-other m other) ∙ placed.adds m ∙ ap (λ (l : List ℕ). was ++ l) (sym last)
        ];
    others = λ w m apart.
        elim (same_or_other m.0 a.0) [
          | inl e ↦
              let none : places_in w (p ∷ []) ≡ [] = ap (λ b. if b then length args ∷ [] else []) (other_test t.0 w.0 (λ (n : t.0 ≡ w.0). apart (λ i. record { 0 = sym n i }))) in
              ap (places_in w) (row-same m e)
              ∙ places_in-push w (places_of now m) p
              ∙ ap (λ (l : List ℕ). places_in w (places_of now m) ++ l) none
              ∙ append-nil (places_in w (places_of now m))
              ∙ placed.others w m apart
          | inr other ↦ ap (places_in w) (row-other m other) ∙ placed.others w m apart
        ];
  }

-- term by term
pub ArePlacesBelow-none : (terms : Terms) (rows : List (List Place)) → ((m : TermId) → places_of rows m ≡ []) → ArePlacesBelow terms 0 rows
ArePlacesBelow-none terms rows empty = record {
  listed = λ w core below has wide m. absurd (omega (arith, below));
  none = λ w m above. ap (places_in w) (empty m);
}

module _ (terms : Terms) (t : TermId) (core : Core) (has : Has terms core t.0) (rows later : List (List Place)) (are : ArePlacesBelow terms t.0 rows) where
  apart : (w : TermId) → (w.0 ≡ t.0 → ⊥) → w ≡ t → ⊥
  apart w other e = other (ap (λ (u : TermId). u.0) e)

  pub ArePlacesBelow-wide : IsPlaced t (core_children core) rows later → ArePlacesBelow terms (t.0 + 1) later
  ArePlacesBelow-wide placed = record {
    listed = λ w c below stands wide m. elim (same_or_other w.0 t.0) [
      | inl e ↦
          let is : w ≡ t = λ i. record { 0 = e i } in
          let one : c ≡ core = Has-same terms c core t.0 (subst (λ n. Has terms c n) e stands) has in
          ap (λ (u : TermId). places_in u (places_of later m)) is
          ∙ placed.adds m
          ∙ ap (λ (l : List ℕ). l ++ places_among m 0 (core_children core)) (are.none t m (λ below. omega (arith, below)))
          ∙ ap (λ (x : Core). places_among m 0 (core_children x)) (sym one)
      | inr other ↦ placed.others w m (apart w other) ∙ are.listed w c (omega (arith, below, other)) stands wide m
    ];
    none = λ w m above.
        placed.others w m (λ e. above (omega (arith, ap (λ (u : TermId). u.0) e)))
        ∙ are.none w m (λ below. above (omega (arith, below)));
  }

  pub ArePlacesBelow-narrow : (IsWide core → ⊥) → later ≡ rows → ArePlacesBelow terms (t.0 + 1) later
  ArePlacesBelow-narrow narrow same = record {
    listed = λ w c below stands wide m. elim (same_or_other w.0 t.0) [
      | inl e ↦
          let one : c ≡ core = Has-same terms c core t.0 (subst (λ n. Has terms c n) e stands) has in
          absurd (narrow (subst IsWide one wide))
      | inr other ↦ ap (λ (rs : List (List Place)). places_in w (places_of rs m)) same ∙ are.listed w c (omega (arith, below, other)) stands wide m
    ];
    none = λ w m above. ap (λ (rs : List (List Place)). places_in w (places_of rs m)) same ∙ are.none w m (λ below. above (omega (arith, below)));
  }

pub ArePlaces-all : (terms : Terms) (n : ℕ) (rows : List (List Place)) → (length terms < n + 1) → ArePlacesBelow terms n rows → ArePlaces terms rows
ArePlaces-all terms n rows all are w core has wide m = are.listed w core (omega (arith, all, slice_get_within terms w.0 (core, has.0) has.1)) has wide m

-- one more row, which is empty
pub empty-more : (rows : List (List Place)) → ((m : TermId) → places_of rows m ≡ []) → (m : TermId) → places_of (rows ++ [] ∷ []) m ≡ []
empty-more rows empty m = at rows m.0 (empty m)
  where
    at : (rs : List (List Place)) (k : ℕ) → get_or rs k [] ≡ [] → get_or (rs ++ [] ∷ []) k [] ≡ []
    at [] zero h = refl
    at [] (suc k) h = refl
    at (r ∷ rs) zero h = h
    at (r ∷ rs) (suc k) h = at rs k h

-- a row of the vectors, as it is read
pub places_of-read : {A : Type 0} (rows : List (Vec Place A)) (t : TermId) (row : Vec Place A) → t.0 < length rows → row ≡ get_or rows t.0 row → places_of (map (λ v. v.items) rows) t ≡ row.items
places_of-read {A} rows t row within read =
    let f : Vec Place A → List Place = λ v. v.items in
    get_or-map f rows t.0 row [] within ∙ ap f (sym read)

-- one row is written
pub places-written : {A : Type 0} (rows : List (Vec Place A)) (i : ℕ) (row : Vec Place A) (items : List Place) → row.items ≡ items → map (λ v. v.items) (set rows i row) ≡ set (map (λ v. v.items) rows) i items
places-written {A} rows i row items is =
    let f : Vec Place A → List Place = λ v. v.items in
    map-set f rows i row ∙ ap (set (map f rows) i) is
