-- Whether names are new.
use Rattle.std.proofs.Common.{◌≡◌, ◌↔◌, ℕ, zero, suc, ◌+◌, ◌<◌, ◌||◌, Bool, true, false, cond, nat_lt, List, [], ◌∷◌, ◌++◌, length, map, take, drop, get_or, slice_get, position, Option, Some, None, MatchOption, IsTrue, Decides, refl, sym, ◌∙◌, ap, subst, ⊎_elim, arith}
use Rattle.std.specs.List.{position_or_len}
use Rattle.std.specs.Str.{bytes_eq}
use Rattle.std.proofs.lemmas.List.{append_assoc, append-nil, map-append, take_more}
use Rattle.std.proofs.lemmas.Slice.Eq.{bytes_eq-Decides}
use Rattle.std.proofs.lemmas.Bool.{true≢false}
use Rattle.std.proofs.lemmas.Bool.Decides.{Decides-ltb}
use Rattle.std.proofs.lemmas.Option.{none-some, same_Some}
use Rattle.ct_lemmas.proofs.Booleans.{or_cases, or_left, or_right}
use Rattle.ct_lemmas.proofs.Lists.{slice_get-append_left, slice_get-append_right, slice_get-append_either}
use Rattle.ct_generics.specs.declared.decl.SortDecl.{SortDecl}
use Rattle.ct_generics.specs.Names.{IsListed}
use Rattle.ct_generics.specs.Stored.{AreFree}
use Rattle.ct_generics.proofs.ResolveLemmas.{split-at}

module _ (name : List ℕ) where
  -- the first name that is the same one
  found-at : (names : List (List ℕ)) → position_or_len (bytes_eq name) names < length names → slice_get names (position_or_len (bytes_eq name) names) ≡ Some name
  found-at [] within = absurd (omega arith)
  found-at (other ∷ names) within = by (bytes_eq name other) refl (found-at names)
    where
      by : (b : Bool) → bytes_eq name other ≡ b → (position_or_len (bytes_eq name) names < length names → slice_get names (position_or_len (bytes_eq name) names) ≡ Some name) → slice_get (other ∷ names) (position_or_len (bytes_eq name) (other ∷ names)) ≡ Some name
      by true e rest = rw e (ap Some (sym ((bytes_eq-Decides name other).0 e)))
      by false e rest =
          let s : 1 + position_or_len (bytes_eq name) names ≡ suc (position_or_len (bytes_eq name) names) = omega arith in
          let w = rw e at within in
          rw (e, s) (rest (omega arith))

  -- a listed name is found
  listed-below : (names : List (List ℕ)) (i : ℕ) → slice_get names i ≡ Some name → position_or_len (bytes_eq name) names < length names
  listed-below [] i e = absurd (none-some name e)
  listed-below (other ∷ names) zero e =
      let passes : bytes_eq name other ≡ true = (bytes_eq-Decides name other).1 (sym (same_Some other name e)) in
      rw passes (omega arith)
  listed-below (other ∷ names) (suc i) e = by (bytes_eq name other) refl (listed-below names i e)
    where
      by : (b : Bool) → bytes_eq name other ≡ b → position_or_len (bytes_eq name) names < length names → position_or_len (bytes_eq name) (other ∷ names) < length (other ∷ names)
      by true e rest = rw e (omega arith)
      by false e rest = rw e (omega arith)

  -- a look-up gives an index of the name, or the name is not listed
  find-cases : (names : List (List ℕ)) → MatchOption (position (bytes_eq name) names) (IsListed names name → ⊥) (λ index. slice_get names index ≡ Some name)
  find-cases names = by (nat_lt first (length names)) (Decides-ltb first (length names))
    where
      first : ℕ
      first = position_or_len (bytes_eq name) names

      by : (b : Bool) → Decides b (position_or_len (bytes_eq name) names < length names) → MatchOption (cond b (Some (position_or_len (bytes_eq name) names)) None) (IsListed names name → ⊥) (λ index. slice_get names index ≡ Some name)
      by true tells = found-at names (tells.0 refl)
      by false tells = λ h. true≢false (sym (tells.1 (listed-below names h.0 h.1)))

  pub find-Some : (names : List (List ℕ)) (i : ℕ) → position (bytes_eq name) names ≡ Some i → IsListed names name
  find-Some names i e = (i, subst (λ (o : Option ℕ). MatchOption o (IsListed names name → ⊥) (λ index. slice_get names index ≡ Some name)) e (find-cases names))

  pub find-None : (names : List (List ℕ)) → position (bytes_eq name) names ≡ None → IsListed names name → ⊥
  find-None names e = subst (λ (o : Option ℕ). MatchOption o (IsListed names name → ⊥) (λ index. slice_get names index ≡ Some name)) e (find-cases names)

-- in one of two lists
pub listed-either : (names more : List (List ℕ)) (name : List ℕ) (a b : Bool) → IsTrue a ↔ IsListed names name → IsTrue b ↔ IsListed more name → IsTrue (a || b) ↔ IsListed (names ++ more) name
listed-either names more name a b left right = (
  λ h. ⊎_elim (λ l. let at = left.0 l in (at.0, slice_get-append_left names more at.0 name at.1)) (λ r. let at = right.0 r in (length names + at.0, slice_get-append_right names more at.0 name at.1)) (or_cases a b h),
  λ at. ⊎_elim (λ l. or_left a b (left.1 (at.0, l))) (λ r. or_right a b (right.1 r)) (slice_get-append_either names more at.0 name at.1),
)

AreFree-push : (names xs : List (List ℕ)) (y : List ℕ) → AreFree names xs → (IsListed (names ++ xs) y → ⊥) → AreFree names (xs ++ y ∷ [])
AreFree-push names [] y free new = (λ l. new (subst (λ (all : List (List ℕ)). IsListed all y) (sym (append-nil names)) l), tt)
AreFree-push names (x ∷ xs) y free new = (free.0, AreFree-push (names ++ x ∷ []) xs y free.1 (λ l. new (subst (λ (all : List (List ℕ)). IsListed all y) (append_assoc names (x ∷ []) xs) l)))

AreFree-taken : (names xs : List (List ℕ)) (y : List ℕ) (ys : List (List ℕ)) → AreFree names (xs ++ y ∷ ys) → IsListed (names ++ xs) y → ⊥
AreFree-taken names [] y ys free l = free.0 (subst (λ (all : List (List ℕ)). IsListed all y) (append-nil names) l)
AreFree-taken names (x ∷ xs) y ys free l = AreFree-taken (names ++ x ∷ []) xs y ys free.1 (subst (λ (all : List (List ℕ)). IsListed all y) (sym (append_assoc names (x ∷ []) xs)) l)

-- the names of these declarations
abbrev pub names_of : List SortDecl → List (List ℕ)
names_of block = map (λ (s : SortDecl). s.name) block

pub names-more : (block : List SortDecl) (i : ℕ) (x : SortDecl) → i < length block → x ≡ get_or block i x → names_of (take (i + 1) block) ≡ names_of (take i block) ++ x.name ∷ []
names-more block i x less is =
    ap names_of (take_more block i x less ∙ ap (λ (y : SortDecl). take i block ++ y ∷ []) (sym is)) ∙ map-append (λ (s : SortDecl). s.name) (take i block) (x ∷ [])

-- one name more is new
pub free-more : (names : List (List ℕ)) (block : List SortDecl) (i : ℕ) (x : SortDecl) → i < length block → x ≡ get_or block i x → AreFree names (names_of (take i block)) → (IsListed (names ++ names_of (take i block)) x.name → ⊥) → AreFree names (names_of (take (i + 1) block))
free-more names block i x less is free new = subst (AreFree names) (sym (names-more block i x less is)) (AreFree-push names (names_of (take i block)) x.name free new)

-- and where one is taken, not all are new
pub free-stop : (names : List (List ℕ)) (block : List SortDecl) (i : ℕ) (x : SortDecl) → i < length block → x ≡ get_or block i x → IsListed (names ++ names_of (take i block)) x.name → AreFree names (names_of block) → ⊥
free-stop names block i x less is listed free =
    let split : take i block ++ x ∷ drop (i + 1) block ≡ block = ap (λ (y : SortDecl). take i block ++ y ∷ drop (i + 1) block) is ∙ split-at block i x less in
    AreFree-taken names (names_of (take i block)) x.name (names_of (drop (i + 1) block))
    (subst (AreFree names) (ap names_of (sym split) ∙ map-append (λ (s : SortDecl). s.name) (take i block) (x ∷ drop (i + 1) block)) free) listed

-- a name that is in neither list is not in the second
pub not-taken : (names more : List (List ℕ)) (name : List ℕ) (taken : Bool) → IsTrue taken ↔ IsListed (names ++ more) name → taken ≡ false → IsListed more name → ⊥
not-taken names more name taken tells fresh listed = true≢false (sym (tells.1 (length names + listed.0, slice_get-append_right names more listed.0 name listed.1)) ∙ fresh)
