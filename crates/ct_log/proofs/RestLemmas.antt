-- Lists side by side, from an index on: what holds of the rests holds of the whole lists, step by step.
use Rattle.std.proofs.Common.{◌≡◌, ℕ, suc, ◌+◌, ◌<◌, ◌≤◌, ◌↔◌, List, [], ◌∷◌, length, drop, get_or, refl, ap}
use Rattle.std.proofs.lemmas.List.{drop_all}
use Rattle.std.specs.List.{AllZip}
use Rattle.ct_lemmas.proofs.Prefixes.{drop-next}
use Rattle.ct_terms.specs.declared.ids.TermId.{TermId}
use Rattle.ct_rules.specs.declared.equation.Equation.{Equation}
use Rattle.ct_log.specs.declared.rules.Entry.{Entry}
use Rattle.ct_log.specs.declared.rules.Pair.{Pair}
use Rattle.ct_log.specs.Equations.{Gave, GaveEach, AreEntriesFor, IsEntryFor}

-- two lists
module _ {X Y : Type 0} (R : X → Y → Type 0) where
  -- the first of the rests, and the rests after it
  AllZip-cons : (xs : List X) (ys : List Y) (i : ℕ) (x : X) (y : Y) → i < length xs → i < length ys → AllZip R (drop i xs) (drop i ys) → R (get_or xs i x) (get_or ys i y) × AllZip R (drop (i + 1) xs) (drop (i + 1) ys)
  AllZip-cons xs ys i x y in_xs in_ys all = rw (drop-next xs i x in_xs, drop-next ys i y in_ys) at all

  AllZip-uncons : (xs : List X) (ys : List Y) (i : ℕ) (x : X) (y : Y) → i < length xs → i < length ys → R (get_or xs i x) (get_or ys i y) → AllZip R (drop (i + 1) xs) (drop (i + 1) ys) → AllZip R (drop i xs) (drop i ys)
  AllZip-uncons xs ys i x y in_xs in_ys one all = rw (drop-next xs i x in_xs, drop-next ys i y in_ys) (one, all)

  -- the next fits
  pub AllZip-next : (xs : List X) (ys : List Y) (i : ℕ) (x : X) (y : Y) → i < length xs → i < length ys → (AllZip R (drop i xs) (drop i ys) ↔ AllZip R xs ys) → R (get_or xs i x) (get_or ys i y) → AllZip R (drop (i + 1) xs) (drop (i + 1) ys) ↔ AllZip R xs ys
  AllZip-next xs ys i x y in_xs in_ys h one = (
    λ rest. h.0 (AllZip-uncons xs ys i x y in_xs in_ys one rest),
    λ all. (AllZip-cons xs ys i x y in_xs in_ys (h.1 all)).1,
  )

  -- the next does not
  pub AllZip-stop : (xs : List X) (ys : List Y) (i : ℕ) (x : X) (y : Y) → i < length xs → i < length ys → (AllZip R (drop i xs) (drop i ys) ↔ AllZip R xs ys) → (R (get_or xs i x) (get_or ys i y) → ⊥) → AllZip R xs ys → ⊥
  AllZip-stop xs ys i x y in_xs in_ys h other all = other (AllZip-cons xs ys i x y in_xs in_ys (h.1 all)).0

  -- nothing is left
  pub AllZip-end : (xs : List X) (ys : List Y) (i : ℕ) → length xs ≤ i → length ys ≤ i → (AllZip R (drop i xs) (drop i ys) ↔ AllZip R xs ys) → AllZip R xs ys
  AllZip-end xs ys i past_xs past_ys h = h.0 (rw (drop_all i xs past_xs, drop_all i ys past_ys) tt)

-- steps and two lists of terms
module _ (given : List Equation) where
  pub GaveEach-lengths : (ns : List ℕ) (xs ys : List TermId) → GaveEach given ns xs ys → (length xs ≡ length ns) × (length ys ≡ length ns)
  GaveEach-lengths [] [] [] all = (refl, refl)
  GaveEach-lengths [] [] (y ∷ ys) all = absurd all
  GaveEach-lengths [] (x ∷ xs) ys all = absurd all
  GaveEach-lengths (n ∷ ns) [] ys all = absurd all
  GaveEach-lengths (n ∷ ns) (x ∷ xs) [] all = absurd all
  GaveEach-lengths (n ∷ ns) (x ∷ xs) (y ∷ ys) all = let rest = GaveEach-lengths ns xs ys all.1 in (ap suc rest.0, ap suc rest.1)

  module _ (ns : List ℕ) (xs ys : List TermId) (i : ℕ) (n : ℕ) (x y : TermId) (in_ns : i < length ns) (in_xs : i < length xs) (in_ys : i < length ys) where
    pub GaveEach-next : (GaveEach given (drop i ns) (drop i xs) (drop i ys) ↔ GaveEach given ns xs ys) → Gave given (get_or ns i n) (get_or xs i x) (get_or ys i y) → GaveEach given (drop (i + 1) ns) (drop (i + 1) xs) (drop (i + 1) ys) ↔ GaveEach given ns xs ys
    GaveEach-next h one =
        let r = rw (drop-next ns i n in_ns, drop-next xs i x in_xs, drop-next ys i y in_ys) at h in
        (λ rest. r.0 (one, rest), λ all. (r.1 all).1)

    pub GaveEach-stop : (GaveEach given (drop i ns) (drop i xs) (drop i ys) ↔ GaveEach given ns xs ys) → (Gave given (get_or ns i n) (get_or xs i x) (get_or ys i y) → ⊥) → GaveEach given ns xs ys → ⊥
    GaveEach-stop h other all =
        let r = rw (drop-next ns i n in_ns, drop-next xs i x in_xs, drop-next ys i y in_ys) at h in
        other (r.1 all).0

  pub GaveEach-end : (ns : List ℕ) (xs ys : List TermId) (i : ℕ) → length ns ≤ i → length xs ≤ i → length ys ≤ i → (GaveEach given (drop i ns) (drop i xs) (drop i ys) ↔ GaveEach given ns xs ys) → GaveEach given ns xs ys
  GaveEach-end ns xs ys i past_ns past_xs past_ys h = h.0 (rw (drop_all i ns past_ns, drop_all i xs past_xs, drop_all i ys past_ys) tt)

-- entries and two lists of terms
module _ (given : List Equation) (pairs : List Pair) where
  pub AreEntriesFor-lengths : (es : List Entry) (xs ys : List TermId) → AreEntriesFor given pairs es xs ys → (length xs ≡ length es) × (length ys ≡ length es)
  AreEntriesFor-lengths [] [] [] all = (refl, refl)
  AreEntriesFor-lengths [] [] (y ∷ ys) all = absurd all
  AreEntriesFor-lengths [] (x ∷ xs) ys all = absurd all
  AreEntriesFor-lengths (e ∷ es) [] ys all = absurd all
  AreEntriesFor-lengths (e ∷ es) (x ∷ xs) [] all = absurd all
  AreEntriesFor-lengths (e ∷ es) (x ∷ xs) (y ∷ ys) all = let rest = AreEntriesFor-lengths es xs ys all.1 in (ap suc rest.0, ap suc rest.1)

  module _ (es : List Entry) (xs ys : List TermId) (i : ℕ) (e : Entry) (x y : TermId) (in_es : i < length es) (in_xs : i < length xs) (in_ys : i < length ys) where
    pub AreEntriesFor-next : (AreEntriesFor given pairs (drop i es) (drop i xs) (drop i ys) ↔ AreEntriesFor given pairs es xs ys) → IsEntryFor given pairs (get_or es i e) (get_or xs i x) (get_or ys i y) → AreEntriesFor given pairs (drop (i + 1) es) (drop (i + 1) xs) (drop (i + 1) ys) ↔ AreEntriesFor given pairs es xs ys
    AreEntriesFor-next h one =
        let r = rw (drop-next es i e in_es, drop-next xs i x in_xs, drop-next ys i y in_ys) at h in
        (λ rest. r.0 (one, rest), λ all. (r.1 all).1)

    pub AreEntriesFor-stop : (AreEntriesFor given pairs (drop i es) (drop i xs) (drop i ys) ↔ AreEntriesFor given pairs es xs ys) → (IsEntryFor given pairs (get_or es i e) (get_or xs i x) (get_or ys i y) → ⊥) → AreEntriesFor given pairs es xs ys → ⊥
    AreEntriesFor-stop h other all =
        let r = rw (drop-next es i e in_es, drop-next xs i x in_xs, drop-next ys i y in_ys) at h in
        other (r.1 all).0

  pub AreEntriesFor-end : (es : List Entry) (xs ys : List TermId) (i : ℕ) → length es ≤ i → length xs ≤ i → length ys ≤ i → (AreEntriesFor given pairs (drop i es) (drop i xs) (drop i ys) ↔ AreEntriesFor given pairs es xs ys) → AreEntriesFor given pairs es xs ys
  AreEntriesFor-end es xs ys i past_es past_xs past_ys h = h.0 (rw (drop_all i es past_es, drop_all i xs past_xs, drop_all i ys past_ys) tt)
