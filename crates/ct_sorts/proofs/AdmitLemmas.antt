-- Names that are refused among names put together.
use Rattle.std.proofs.Common.{◌≡◌, ℕ, ◌+◌, ◌<◌, ◌≤◌, ◌⊎◌, List, [], ◌∷◌, ◌++◌, length, take, drop, get_or, refl, sym, ◌∙◌, ap, subst, inl, inr, ⊎_elim}
use Rattle.std.proofs.lemmas.List.{append_assoc, append-nil, take_more, take_all, take-append-drop, drop_more}
use Rattle.std.proofs.lemmas.List.Concat.{flat_map-append}
use Rattle.std.specs.List.{flat_map}
use Rattle.ct_sorts.specs.Availability.{IsListed, IsUnavailable, IsUnavailableSort, HasRefused}
use Rattle.ct_sorts.proofs.LookupLemmas.{IsListed-left, IsListed-either}

-- the first n + 1 pieces are the first n and one more
pub flat_map-take_more : {X Y : Type 0} (f : X → List Y) (xs : List X) (i : ℕ) (x : X) → i < length xs → x ≡ get_or xs i x → flat_map f (take (i + 1) xs) ≡ flat_map f (take i xs) ++ f x
flat_map-take_more {X} f xs i x h is =
    ap (flat_map f) (take_more xs i x h) ∙ flat_map-append f (take i xs) (get_or xs i x ∷ []) ∙ ap (λ ys. flat_map f (take i xs) ++ ys) (append-nil (f (get_or xs i x)) ∙ ap f (sym is))

-- all pieces are the first n, one more, and the rest
pub flat_map-around : {X Y : Type 0} (f : X → List Y) (xs : List X) (i : ℕ) (x : X) → i < length xs → x ≡ get_or xs i x → flat_map f xs ≡ flat_map f (take i xs) ++ (f x ++ flat_map f (drop (i + 1) xs))
flat_map-around {X} f xs i x h is =
    ap (flat_map f) (sym (take-append-drop i xs) ∙ ap (λ ys. take i xs ++ ys) (drop_more xs i x h)) ∙ flat_map-append f (take i xs) (get_or xs i x ∷ drop (i + 1) xs) ∙ ap (λ (y : X). flat_map f (take i xs) ++ (f y ++ flat_map f (drop (i + 1) xs))) (sym is)

-- pieces of pieces
pub flat_map-flat_map : {X Y Z : Type 0} (g : Y → List Z) (f : X → List Y) (xs : List X) → flat_map g (flat_map f xs) ≡ flat_map (λ x. flat_map g (f x)) xs
flat_map-flat_map g f [] = refl
flat_map-flat_map g f (x ∷ xs) = flat_map-append g (f x) (flat_map f xs) ∙ ap (λ zs. flat_map g (f x) ++ zs) (flat_map-flat_map g f xs)

module _ (R : List (List ℕ) → List ℕ → Type 0) where
  pub HasRefused-left : (declared xs ys : List (List ℕ)) → HasRefused R declared xs → HasRefused R declared (xs ++ ys)
  HasRefused-left declared [] ys h = absurd h
  HasRefused-left declared (x ∷ xs) ys h = ⊎_elim (λ e. inl e) (λ e. inr (HasRefused-left (declared ++ x ∷ []) xs ys e)) h

  pub HasRefused-right : (declared xs ys : List (List ℕ)) → HasRefused R (declared ++ xs) ys → HasRefused R declared (xs ++ ys)
  HasRefused-right declared [] ys h = subst (λ d. HasRefused R d ys) (append-nil declared) h
  HasRefused-right declared (x ∷ xs) ys h = inr (HasRefused-right (declared ++ x ∷ []) xs ys (subst (λ d. HasRefused R d ys) (sym (append_assoc declared (x ∷ []) xs)) h))

  pub HasRefused-either : (declared xs ys : List (List ℕ)) → HasRefused R declared (xs ++ ys) → HasRefused R declared xs ⊎ HasRefused R (declared ++ xs) ys
  HasRefused-either declared [] ys h = inr (subst (λ d. HasRefused R d ys) (sym (append-nil declared)) h)
  HasRefused-either declared (x ∷ xs) ys h =
      ⊎_elim (λ e. inl (inl e)) (λ e. ⊎_elim (λ l. inl (inr l)) (λ r. inr (subst (λ d. HasRefused R d ys) (append_assoc declared (x ∷ []) xs) r)) (HasRefused-either (declared ++ x ∷ []) xs ys e)) h

  -- what was found of the first pieces and of one more
  module _ {X : Type 0} (f : X → List (List ℕ)) (declared before now : List (List ℕ)) (xs : List X) (i : ℕ) (x : X) (within : i < length xs) (is : x ≡ get_or xs i x) (noted : now ≡ before ++ flat_map f (take i xs)) where
    here : (declared ++ before) ++ flat_map f (take i xs) ≡ declared ++ now
    here = append_assoc declared before (flat_map f (take i xs)) ∙ ap (λ ys. declared ++ ys) (sym noted)

    pub none_refused-more : (HasRefused R (declared ++ before) (flat_map f (take i xs)) → ⊥) → (HasRefused R (declared ++ now) (f x) → ⊥) → HasRefused R (declared ++ before) (flat_map f (take (i + 1) xs)) → ⊥
    none_refused-more first next h =
        ⊎_elim first (λ r. next (subst (λ d. HasRefused R d (f x)) here r)) (HasRefused-either (declared ++ before) (flat_map f (take i xs)) (f x) (subst (HasRefused R (declared ++ before)) (flat_map-take_more f xs i x within is) h))

    pub refused-whole : HasRefused R (declared ++ now) (f x) → HasRefused R (declared ++ before) (flat_map f xs)
    refused-whole h =
        subst (HasRefused R (declared ++ before)) (sym (flat_map-around f xs i x within is))
        (HasRefused-right (declared ++ before) (flat_map f (take i xs)) (f x ++ flat_map f (drop (i + 1) xs))
        (HasRefused-left ((declared ++ before) ++ flat_map f (take i xs)) (f x) (flat_map f (drop (i + 1) xs)) (subst (λ d. HasRefused R d (f x)) (sym here) h)))

    pub noted-more : (then' : List (List ℕ)) → then' ≡ now ++ f x → then' ≡ before ++ flat_map f (take (i + 1) xs)
    noted-more then' e = e ∙ ap (λ ys. ys ++ f x) noted ∙ append_assoc before (flat_map f (take i xs)) (f x) ∙ ap (λ ys. before ++ ys) (sym (flat_map-take_more f xs i x within is))

-- the names of the first i items were admitted, and noted after those that were noted before
pub record IsAdmitted {X : Type 0} (R : List (List ℕ) → List ℕ → Type 0) (f : X → List (List ℕ)) (declared before now : List (List ℕ)) (xs : List X) (i : ℕ) : Type 0 where
  pub none_refused : HasRefused R (declared ++ before) (flat_map f (take i xs)) → ⊥
  pub noted : now ≡ before ++ flat_map f (take i xs)

module _ {X : Type 0} (R : List (List ℕ) → List ℕ → Type 0) (f : X → List (List ℕ)) (declared before : List (List ℕ)) (xs : List X) where
  pub IsAdmitted-start : IsAdmitted R f declared before before xs 0
  IsAdmitted-start = record { none_refused = λ h. h; noted = sym (append-nil before) }

  pub IsAdmitted-more : (now then' : List (List ℕ)) (i : ℕ) (x : X) → i < length xs → x ≡ get_or xs i x → IsAdmitted R f declared before now xs i → (HasRefused R (declared ++ now) (f x) → ⊥) → then' ≡ now ++ f x → IsAdmitted R f declared before then' xs (i + 1)
  IsAdmitted-more now then' i x within is a next e =
      record { none_refused = none_refused-more R f declared before now xs i x within is a.noted a.none_refused next; noted = noted-more R f declared before now xs i x within is a.noted then' e }

  pub IsAdmitted-refused : (now : List (List ℕ)) (i : ℕ) (x : X) → i < length xs → x ≡ get_or xs i x → IsAdmitted R f declared before now xs i → HasRefused R (declared ++ now) (f x) → HasRefused R (declared ++ before) (flat_map f xs)
  IsAdmitted-refused now i x within is a h = refused-whole R f declared before now xs i x within is a.noted h

  pub IsAdmitted-all : (now : List (List ℕ)) (i : ℕ) → length xs ≤ i → IsAdmitted R f declared before now xs i → (HasRefused R (declared ++ before) (flat_map f xs) → ⊥) × (now ≡ before ++ flat_map f xs)
  IsAdmitted-all now i past a = (λ h. a.none_refused (subst (λ ys. HasRefused R (declared ++ before) (flat_map f ys)) (sym (take_all i xs past)) h), a.noted ∙ ap (λ ys. before ++ flat_map f ys) (take_all i xs past))

-- a name is unavailable after more names where it was so before, or is one of them
pub IsUnavailable-either : (xs ys : List (List ℕ)) (name : List ℕ) → IsUnavailable (xs ++ ys) name → IsUnavailable xs name ⊎ IsListed ys name
IsUnavailable-either xs ys name (inl h) = ⊎_elim (λ l. inl (inl l)) (λ r. inr r) (IsListed-either xs ys name h)
IsUnavailable-either xs ys name (inr h) = inl (inr h)

pub IsUnavailable-left : (xs ys : List (List ℕ)) (name : List ℕ) → IsUnavailable xs name → IsUnavailable (xs ++ ys) name
IsUnavailable-left xs ys name (inl h) = inl (IsListed-left xs ys name h)
IsUnavailable-left xs ys name (inr h) = inr h

pub IsUnavailableSort-either : (xs ys : List (List ℕ)) (name : List ℕ) → IsUnavailableSort (xs ++ ys) name → IsUnavailableSort xs name ⊎ IsListed ys name
IsUnavailableSort-either xs ys name (inl h) = ⊎_elim (λ l. inl (inl l)) (λ r. inr r) (IsListed-either xs ys name h)
IsUnavailableSort-either xs ys name (inr h) = inl (inr h)

pub IsUnavailableSort-left : (xs ys : List (List ℕ)) (name : List ℕ) → IsUnavailableSort xs name → IsUnavailableSort (xs ++ ys) name
IsUnavailableSort-left xs ys name (inl h) = inl (IsListed-left xs ys name h)
IsUnavailableSort-left xs ys name (inr h) = inr h

-- a list of one name is refused where the name is
pub HasRefused-one : (R : List (List ℕ) → List ℕ → Type 0) (declared : List (List ℕ)) (name : List ℕ) → (R declared name → ⊥) → HasRefused R declared (name ∷ []) → ⊥
HasRefused-one R declared name none h = ⊎_elim none (λ e. e) h
