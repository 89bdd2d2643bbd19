-- What a loop keeps that puts pieces after a list, one item after another.
use Rattle.std.proofs.Common.{◌≡◌, ℕ, ◌+◌, ◌<◌, ◌≤◌, List, [], ◌∷◌, ◌++◌, length, map, drop, get_or, sym, ◌∙◌, ap, subst}
use Rattle.std.proofs.lemmas.List.{append_assoc, append-nil, map-append, drop_more, drop_all}
use Rattle.ct_sorts.specs.Availability.{IsListed}
use Rattle.ct_sorts.specs.Lookup.{AreDistinct, names_of}
use Rattle.ct_sorts.specs.Grown.{Begins}
use Rattle.ct_sorts.proofs.Counts.{AreDistinct-middle, fresh-next}
use Rattle.ct_sorts.proofs.StoredLemmas.{names_at}

-- each list begins with itself, and beginnings of longer lists are beginnings still
pub Begins-self : {X : Type 0} (xs : List X) → Begins xs xs
Begins-self xs = ([], sym (append-nil xs))

pub Begins-more : {X : Type 0} (xs ys zs rest : List X) → Begins xs ys → zs ≡ ys ++ rest → Begins xs zs
Begins-more xs ys zs rest b e = (b.0 ++ rest, e ∙ ap (λ l. l ++ rest) b.1 ∙ append_assoc xs b.0 rest)

pub Begins-trans : {X : Type 0} (xs ys zs : List X) → Begins xs ys → Begins ys zs → Begins xs zs
Begins-trans xs ys zs b c = Begins-more xs ys zs c.0 b c.1

-- what is there and what is left make the whole
module _ {X R K : Type 0} (F : K → List X → List R) (G : K → X → List R) (next : K → X → K) (unfolds : (k : K) (x : X) (xs : List X) → F k (x ∷ xs) ≡ G k x ++ F (next k x) xs) (xs : List X) (i : ℕ) (x : X) (within : i < length xs) (is : x ≡ get_or xs i x) (k : K) (now whole : List R) (all : now ++ F k (drop i xs) ≡ whole) where
  -- the next piece and what is left after it
  pub piece_next : now ++ (G k x ++ F (next k x) (drop (i + 1) xs)) ≡ whole
  piece_next =
      ap (λ ys. now ++ ys) (sym (ap (F k) (drop_more xs i x within ∙ ap (λ (y : X). y ∷ drop (i + 1) xs) (sym is)) ∙ unfolds k x (drop (i + 1) xs))) ∙ all

  -- the piece is appended
  pub piece_more : (then' : List R) → then' ≡ now ++ G k x → then' ++ F (next k x) (drop (i + 1) xs) ≡ whole
  piece_more then' e = ap (λ ys. ys ++ F (next k x) (drop (i + 1) xs)) e ∙ append_assoc now (G k x) (F (next k x) (drop (i + 1) xs)) ∙ piece_next

  -- with the piece the names still differ
  pub piece_distinct : (name : R → List ℕ) → AreDistinct (map name whole) → AreDistinct (map name (now ++ G k x))
  piece_distinct name distinct =
      AreDistinct-middle [] (map name (now ++ G k x)) (map name (F (next k x) (drop (i + 1) xs)))
      (subst AreDistinct (ap (map name) (sym piece_next ∙ sym (append_assoc now (G k x) (F (next k x) (drop (i + 1) xs)))) ∙ map-append name (now ++ G k x) (F (next k x) (drop (i + 1) xs))) distinct)

-- at the end nothing is left
pub pieces_all : {X R K : Type 0} (F : K → List X → List R) → ((k : K) → F k [] ≡ []) → (xs : List X) (i : ℕ) → length xs ≤ i → (k : K) (now whole : List R) → now ++ F k (drop i xs) ≡ whole → now ≡ whole
pieces_all F empty xs i past k now whole all = sym (append-nil now) ∙ ap (λ ys. now ++ ys) (sym (ap (F k) (drop_all i xs past) ∙ empty k)) ∙ all

-- the name of one more is new
pub piece_fresh : {E R : Type 0} (of : List ℕ × E → R) (name : R → List ℕ) → ((e : List ℕ × E) → name (of e) ≡ e.0) → (table : List (List ℕ × E)) (r : R) → AreDistinct (map name (map of table ++ r ∷ [])) → IsListed (names_of table) (name r) → ⊥
piece_fresh of name same table r distinct =
    fresh-next (names_of table) [] (name r) (subst AreDistinct (map-append name (map of table) (r ∷ []) ∙ ap (λ ns. ns ++ name r ∷ []) (names_at of name table same)) distinct)
