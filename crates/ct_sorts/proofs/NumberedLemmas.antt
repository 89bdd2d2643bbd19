-- What the map of a table says of its list.
use Rattle.std.proofs.Common.{◌≡◌, ℕ, zero, suc, ◌+◌, ◌<◌, List, [], ◌∷◌, ◌++◌, length, map, take, slice_get, position, Some, option_map, MatchOption, Bool, true, false, refl, sym, ◌∙◌, ap, subst, ⊎_elim, ◌⊎◌, inl, inr, add-one, arith}
use Rattle.std.proofs.lemmas.List.{take-map, length-map, length-take}
use Rattle.std.proofs.lemmas.Simd.{map-map}
use Rattle.std.proofs.lemmas.Option.{slice_get-map, slice_get_within, none-some, same_Some}
use Rattle.std.proofs.lemmas.Slice.Eq.{bytes_eq-Decides}
use Rattle.std.specs.Global.{Vec}
use Rattle.std.specs.Map.{keys_of}
use Rattle.std.specs.List.{position_or_len}
use Rattle.std.specs.Str.{bytes_eq}
use Rattle.ct_lemmas.proofs.Prefixes.{slice_get-take}
use Rattle.indexmap.specs.IndexMap.{insert_entry}
use Rattle.ct_sorts.specs.Availability.{IsListed}
use Rattle.ct_sorts.specs.Lookup.{AreDistinct, names_of, index_of}
use Rattle.ct_sorts.proofs.NameLemmas.{position-cases, insert_entry-fresh}

-- what a map's entry means
abbrev pub pair_of : {T : Type 0} → Vec ℕ × T → List ℕ × T
pair_of e = (e.0.items, e.1)

-- the entries as a list of pairs
abbrev pub pairs_of : {T : Type 0} → List (Vec ℕ × T) → List (List ℕ × T)
pairs_of es = map pair_of es

-- the names are the keys
pub names_of-pairs : {T : Type 0} (es : List (Vec ℕ × T)) → names_of (pairs_of es) ≡ map (λ key. key.items) (keys_of es)
names_of-pairs {T} es = map-map _ _ es ∙ sym (map-map _ _ es)

pub names_of-entries : {T : Type 0} (es : List (Vec ℕ × T)) → names_of (pairs_of es) ≡ map (λ e. e.0.items) es
names_of-entries {T} es = map-map _ _ es

-- a test of the keys finds the index that the test of their bytes finds
pub position_or_len-map : {K X : Type 0} (f : K → X) (test : X → Bool) (ks : List K) → position_or_len test (map f ks) ≡ position_or_len (λ k. test (f k)) ks
position_or_len-map f test [] = refl
position_or_len-map f test (k ∷ ks) = by (test (f k)) refl (position_or_len-map f test ks)
  where
    by : (b : Bool) → test (f k) ≡ b → position_or_len test (map f ks) ≡ position_or_len (λ x. test (f x)) ks → position_or_len test (map f (k ∷ ks)) ≡ position_or_len (λ x. test (f x)) (k ∷ ks)
    by true e rest = rw e refl
    by false e rest = rw (e, rest) refl

pub position-map : {K X : Type 0} (f : K → X) (test : X → Bool) (ks : List K) → position (λ k. test (f k)) ks ≡ position test (map f ks)
position-map f test ks = rw (position_or_len-map f test ks, length-map) refl

-- a look-up in the map is one in the names
pub index_of-pairs : {T : Type 0} (es : List (Vec ℕ × T)) (name : List ℕ) → position (λ key. bytes_eq name key.items) (keys_of es) ≡ index_of (names_of (pairs_of es)) name
index_of-pairs {T} es name = position-map (λ (key : Vec ℕ). key.items) (bytes_eq name) (keys_of es) ∙ ap (λ texts. position (bytes_eq name) texts) (sym (names_of-pairs es))

-- a look-up gives an index of the name, or the name is not listed
pub index_of-cases : (names : List (List ℕ)) (name : List ℕ) → MatchOption (index_of names name) (IsListed names name → ⊥) (λ index. slice_get names index ≡ Some name)
index_of-cases names name = subst (λ texts. MatchOption (index_of names name) (IsListed texts name → ⊥) (λ index. slice_get texts index ≡ Some name)) (map-id' names) (position-cases (λ (text : List ℕ). text) (bytes_eq name) name (λ text. bytes_eq-Decides name text) names)
  where
    map-id' : (texts : List (List ℕ)) → map (λ (text : List ℕ). text) texts ≡ texts
    map-id' [] = refl
    map-id' (text ∷ texts) = ap (λ (rest : List (List ℕ)). text ∷ rest) (map-id' texts)

-- an element of a list with one more at its end is of the list, or that one
pub slice_get-push : {X : Type 0} (xs : List X) (y : X) (i : ℕ) (x : X) → slice_get (xs ++ y ∷ []) i ≡ Some x → (slice_get xs i ≡ Some x) ⊎ ((i ≡ length xs) × (x ≡ y))
slice_get-push [] y zero x e = inr (refl, sym (same_Some _ _ e))
slice_get-push [] y (suc i) x e = absurd (none-some _ e)
slice_get-push (z ∷ xs) y zero x e = inl e
slice_get-push (z ∷ xs) y (suc i) x e = ⊎_elim (λ h. inl h) (λ h. inr (ap suc h.0, h.1)) (slice_get-push xs y i x e)

-- a new name at the end leaves all names distinct
pub AreDistinct-push : (listed : List (List ℕ)) (name : List ℕ) → AreDistinct listed → (IsListed listed name → ⊥) → AreDistinct (listed ++ name ∷ [])
AreDistinct-push listed name distinct fresh i j text at_i at_j =
    ⊎_elim
    (λ here_i. ⊎_elim (λ here_j. distinct i j text here_i here_j) (λ last_j. absurd (fresh (i, here_i ∙ ap Some last_j.1))) (slice_get-push listed name j text at_j))
    (λ last_i. ⊎_elim (λ here_j. absurd (fresh (j, here_j ∙ ap Some last_i.1))) (λ last_j. last_i.0 ∙ sym last_j.0) (slice_get-push listed name j text at_j))
    (slice_get-push listed name i text at_i)

-- the first of distinct names are distinct
pub AreDistinct-take : (n : ℕ) (listed : List (List ℕ)) → AreDistinct listed → AreDistinct (take n listed)
AreDistinct-take n listed distinct i j text at_i at_j = distinct i j text (slice_get-take n listed i text at_i) (slice_get-take n listed j text at_j)

-- a pair whose name is new is put at the end
pub pairs_of-insert : {T : Type 0} (es : List (Vec ℕ × T)) (key : Vec ℕ) (value : T) → (IsListed (names_of (pairs_of es)) key.items → ⊥)
    → insert_entry (λ (a : Vec ℕ) (b : Vec ℕ). bytes_eq a.items b.items) es key value ≡ es ++ (key, value) ∷ []
pairs_of-insert {T} es key value fresh = insert_entry-fresh _ (λ (k : Vec ℕ). k.items) (λ a b. bytes_eq-Decides a.items b.items) es key value (subst (λ texts. IsListed texts key.items → ⊥) (names_of-pairs es) fresh)

-- one more pair of the list, by its parts
pub take_pair : {X Y : Type 0} (xs : List (X × Y)) (i : ℕ) (a : X) (b : Y) → option_map (λ e. e.0) (slice_get xs i) ≡ Some a → option_map (λ e. e.1) (slice_get xs i) ≡ Some b → take (i + 1) xs ≡ take i xs ++ (a, b) ∷ []
take_pair {X} {Y} xs i a b at_a at_b = rw add-one (by xs i at_a at_b)
  where
    by : (xs : List (X × Y)) (i : ℕ) → option_map (λ e. e.0) (slice_get xs i) ≡ Some a → option_map (λ e. e.1) (slice_get xs i) ≡ Some b → take (suc i) xs ≡ take i xs ++ (a, b) ∷ []
    by [] i p q = absurd (none-some _ p)
    by (x ∷ xs) zero p q = ap (λ (y : X × Y). y ∷ []) (λ j. (same_Some _ _ p j, same_Some _ _ q j))
    by (x ∷ xs) (suc i) p q = ap (λ (ys : List (X × Y)). x ∷ ys) (by xs i p q)

-- the name at an index is not among those before it
pub fresh_before : {X : Type 0} (xs : List (List ℕ × X)) (i : ℕ) (name : List ℕ) → AreDistinct (names_of xs) → option_map (λ e. e.0) (slice_get xs i) ≡ Some name → IsListed (names_of (take i xs)) name → ⊥
fresh_before xs i name distinct at (index, there) =
    let there' : slice_get (take i (names_of xs)) index ≡ Some name = subst (λ ys. slice_get ys index ≡ Some name) (sym (take-map _ i xs)) there in
    let same : index ≡ i = distinct index i name (slice_get-take i (names_of xs) index name there') (slice_get-map _ xs i ∙ at) in
    let within : index < length (take i (names_of xs)) = slice_get_within (take i (names_of xs)) index name there' in
    omega (arith, length-take i (names_of xs))
