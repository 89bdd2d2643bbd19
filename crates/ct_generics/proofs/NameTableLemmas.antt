-- Look-ups by name, and a new name at the end.
use Rattle.std.proofs.Common.{◌≡◌, ℕ, suc, Bool, true, false, List, [], ◌∷◌, ◌++◌, map, take, slice_get, position, Some, ⊎_elim, Option, option_map, Decides, refl, sym, ◌∙◌, ap}
use Rattle.std.proofs.lemmas.List.{length-map, map-append}
use Rattle.std.proofs.lemmas.Simd.{map-map}
use Rattle.std.proofs.lemmas.Slice.Eq.{bytes_eq-Decides}
use Rattle.std.specs.Global.{Vec}
use Rattle.std.specs.Map.{keys_of}
use Rattle.std.specs.List.{position_or_len}
use Rattle.std.specs.Option.{option_and_then}
use Rattle.std.specs.Str.{bytes_eq}
use Rattle.indexmap.specs.IndexMap.{insert_entry}
use Rattle.ct_lemmas.proofs.Lists.{slice_get-push_cases}
use Rattle.ct_lemmas.proofs.Prefixes.{slice_get-take}
use Rattle.ct_generics.specs.Names.{AreDistinct, IsListed}
use Rattle.ct_generics.specs.Declarations.{Head, Synonym}
use Rattle.ct_generics.specs.Resolved.{a_head, a_synonym, head_number, named_head, named_synonym}

-- the names of entries
abbrev pub names_in : {T : Type 0} → List (Vec ℕ × T) → List (List ℕ)
names_in es = map (λ e. e.0.items) es

names_in-keys : {T : Type 0} (es : List (Vec ℕ × T)) → map (λ key. key.items) (keys_of es) ≡ names_in es
names_in-keys {T} es = map-map _ _ es

position_or_len-map : {K X : Type 0} (f : K → X) (test : X → Bool) (ks : List K) → position_or_len test (map f ks) ≡ position_or_len (λ k. test (f k)) ks
position_or_len-map f test [] = refl
position_or_len-map f test (k ∷ ks) = by (test (f k)) refl (position_or_len-map f test ks)
  where
    by : (b : Bool) → test (f k) ≡ b → position_or_len test (map f ks) ≡ position_or_len (λ x. test (f x)) ks → position_or_len test (map f (k ∷ ks)) ≡ position_or_len (λ x. test (f x)) (k ∷ ks)
    by true e rest = rw e refl
    by false e rest = rw (e, rest) refl

pub position-map : {K X : Type 0} (f : K → X) (test : X → Bool) (ks : List K) → position (λ k. test (f k)) ks ≡ position test (map f ks)
position-map f test ks = rw (position_or_len-map f test ks, length-map) refl

-- a search among the keys is one among the names
pub position-names : {T : Type 0} (es : List (Vec ℕ × T)) (name : List ℕ) → position (λ key. bytes_eq name key.items) (keys_of es) ≡ position (bytes_eq name) (names_in es)
position-names {T} es name = position-map (λ (key : Vec ℕ). key.items) (bytes_eq name) (keys_of es) ∙ ap (position (bytes_eq name)) (names_in-keys es)

insert_entry-last : {V : Type 0} (es : List (Vec ℕ × V)) (key : Vec ℕ) (value : V) → (IsListed (names_in es) key.items → ⊥) → insert_entry (λ (a : Vec ℕ) (b : Vec ℕ). bytes_eq a.items b.items) es key value ≡ es ++ (key, value) ∷ []
insert_entry-last [] key value fresh = refl
insert_entry-last {V} (e ∷ es) key value fresh =
    by (bytes_eq key.items e.0.items) (bytes_eq-Decides key.items e.0.items) refl (insert_entry-last es key value (λ h. fresh (suc h.0, h.1)))
  where
    by : (b : Bool) → Decides b (key.items ≡ e.0.items) → bytes_eq key.items e.0.items ≡ b → insert_entry (λ (a : Vec ℕ) (c : Vec ℕ). bytes_eq a.items c.items) es key value ≡ es ++ (key, value) ∷ [] → insert_entry (λ (a : Vec ℕ) (c : Vec ℕ). bytes_eq a.items c.items) (e ∷ es) key value ≡ (e ∷ es) ++ (key, value) ∷ []
    by true tells is rest = absurd (fresh (0, ap Some (sym (tells.0 refl))))
    by false tells is rest = rw is (ap (λ (tail : List (Vec ℕ × V)). e ∷ tail) rest)

-- a new name comes last
pub names_in-insert : {V : Type 0} (es : List (Vec ℕ × V)) (key : Vec ℕ) (value : V) → (IsListed (names_in es) key.items → ⊥) → names_in (insert_entry (λ (a : Vec ℕ) (b : Vec ℕ). bytes_eq a.items b.items) es key value) ≡ names_in es ++ key.items ∷ []
names_in-insert {V} es key value fresh = ap names_in (insert_entry-last es key value fresh) ∙ map-append (λ (e : Vec ℕ × V). e.0.items) es ((key, value) ∷ [])

-- ---- sorts, generics and synonyms by name

-- the number of a name among those of sorts and generics
pub head_number-is : (heads : List Head) (names : List (List ℕ)) (name : List ℕ) → names ≡ map (λ (head : Head). head.name) heads → position (bytes_eq name) names ≡ head_number heads name
head_number-is heads names name is = ap (position (bytes_eq name)) is ∙ sym (position-map (λ (head : Head). head.name) (bytes_eq name) heads)

pub named_head-is : (heads : List Head) (name : List ℕ) (o : Option ℕ) → head_number heads name ≡ o → named_head heads name ≡ option_and_then (λ h. option_map (λ (head : Head). a_head h head.params) (slice_get heads h)) o
named_head-is heads name o is = ap (option_and_then (λ h. option_map (λ (head : Head). a_head h head.params) (slice_get heads h))) is

pub named_synonym-is : (synonyms : List Synonym) (names : List (List ℕ)) (name : List ℕ) (o : Option ℕ) → names ≡ map (λ (s : Synonym). s.name) synonyms → position (bytes_eq name) names ≡ o → named_synonym synonyms name ≡ option_map a_synonym (option_and_then (slice_get synonyms) o)
named_synonym-is synonyms names name o names_are is =
    ap (λ (p : Option ℕ). option_map a_synonym (option_and_then (slice_get synonyms) p)) (position-map (λ (s : Synonym). s.name) (bytes_eq name) synonyms ∙ ap (position (bytes_eq name)) (sym names_are) ∙ is)

-- ---- different names

pub AreDistinct-take : (names : List (List ℕ)) (n : ℕ) → AreDistinct names → AreDistinct (take n names)
AreDistinct-take names n distinct i j name at_i at_j = distinct i j name (slice_get-take n names i name at_i) (slice_get-take n names j name at_j)

-- a new name at the end leaves all of them different
pub AreDistinct-push : (names : List (List ℕ)) (name : List ℕ) → AreDistinct names → (IsListed names name → ⊥) → AreDistinct (names ++ name ∷ [])
AreDistinct-push names name distinct fresh i j text at_i at_j =
    ⊎_elim
    (λ here_i. ⊎_elim (λ here_j. distinct i j text here_i here_j) (λ last_j. absurd (fresh (i, here_i ∙ ap Some (sym last_j.1)))) (slice_get-push_cases names name text j at_j))
    (λ last_i. ⊎_elim (λ here_j. absurd (fresh (j, here_j ∙ ap Some (sym last_i.1)))) (λ last_j. last_i.0 ∙ sym last_j.0) (slice_get-push_cases names name text j at_j))
    (slice_get-push_cases names name text i at_i)
