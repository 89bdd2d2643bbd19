-- Digests: what another representative changes, and what is exchanged place by place.
use Rattle.std.proofs.Common.{◌≡◌, ℕ, suc, ◌<◌, ◌+◌, Bool, true, false, List, [], ◌∷◌, ◌++◌, length, set, get_or, slice_get, Some, nat_eq, if◌then◌else◌, refl, sym, ap, ap₂, subst, ◌∙◌, inl, inr, arith}
use Rattle.std.specs.Int.Bits.{bit_xor, xor_assoc, xor_self, xor_zero_l, xor_zero_r}
use Rattle.std.proofs.lemmas.Bool.Decides.{Decides-eqb}
use Rattle.std.proofs.lemmas.Nat.{xor_comm}
use Rattle.std.proofs.lemmas.List.{get_or-set_same, get_or-set_other}
use Rattle.std.proofs.lemmas.Option.{same_Some, slice_get_within, slice_get-get_or}
use Rattle.ct_lemmas.proofs.Booleans.{not_true}
use Rattle.ct_lemmas.proofs.Lists.{slice_get-append_left, slice_get-last, slice_get-set_other, slice_get-set_same}
use Rattle.ct_lemmas.proofs.Numbers.{same_or_other}
use Rattle.ct_terms.specs.declared.ids.TermId.{TermId}
use Rattle.ct_terms.specs.declared.term.Core.{Core}
use Rattle.ct_terms.specs.Children.{core_head, core_children}
use Rattle.ct_terms.specs.Terms.{Terms, Has}
use Rattle.ct_terms.proofs.TableLemmas.{Has-same}
use Rattle.ct_equivalence.specs.declared.places.Place.{Place}
use Rattle.ct_equivalence.specs.Digests.{share, rep_of, shares, head_number, digest, IsWide, AreDigests, ArePlaces, AreExchanged, places_in, places_among, places_of, changes}

-- exclusive or in another order
xor_swap : (a b c : ℕ) → bit_xor a (bit_xor b c) ≡ bit_xor b (bit_xor a c)
xor_swap a b c = sym (xor_assoc a b c) ∙ ap (λ x. bit_xor x c) (xor_comm a b) ∙ xor_assoc b a c

-- what is put in twice is out again
xor_twice : (a b : ℕ) → bit_xor a (bit_xor a b) ≡ b
xor_twice a b = sym (xor_assoc a a b) ∙ ap (λ x. bit_xor x b) (xor_self a) ∙ xor_zero_l b

-- one share is exchanged for another
one_changed : (old new s c : ℕ) → bit_xor new (bit_xor s c) ≡ bit_xor (bit_xor old s) (bit_xor (bit_xor old new) c)
one_changed old new s c =
    sym
    (ap (bit_xor (bit_xor old s)) (xor_assoc old new c)
    ∙ xor_assoc old s (bit_xor old (bit_xor new c))
    ∙ ap (bit_xor old) (xor_swap s old (bit_xor new c))
    ∙ xor_twice old (bit_xor s (bit_xor new c))
    ∙ xor_swap s new c)

pub same_test : (k n : ℕ) → k ≡ n → nat_eq k n ≡ true
same_test k n e = (Decides-eqb k n).1 e

pub other_test : (k n : ℕ) → (k ≡ n → ⊥) → nat_eq k n ≡ false
other_test k n other = not_true (nat_eq k n) (λ h. other ((Decides-eqb k n).0 h))

-- one more share
pub shares-push : (reps : List TermId) (place : ℕ) (ts : List TermId) (t : TermId) → shares reps place (ts ++ t ∷ []) ≡ bit_xor (shares reps place ts) (share (place + length ts) (rep_of reps t))
shares-push reps place [] t = xor_comm (share place (rep_of reps t)) 0 ∙ ap (λ n. bit_xor 0 (share n (rep_of reps t))) (omega arith)
shares-push reps place (u ∷ ts) t =
    ap (bit_xor (share place (rep_of reps u))) (shares-push reps (suc place) ts t ∙ ap (λ n. bit_xor (shares reps (suc place) ts) (share n (rep_of reps t))) (omega arith))
    ∙ sym (xor_assoc (share place (rep_of reps u)) (shares reps (suc place) ts) (share (place + suc (length ts)) (rep_of reps t)))

-- a representative, as it is read
pub rep_of-read : (reps : List TermId) (t d : TermId) → t.0 < length reps → get_or reps t.0 d ≡ rep_of reps t
rep_of-read reps t d within = same_Some (get_or reps t.0 d) (rep_of reps t) (sym (slice_get-get_or reps t.0 d within) ∙ slice_get-get_or reps t.0 t within)

module _ (reps : List TermId) (m new : TermId) (within : m.0 < length reps) where
  old : TermId
  old = rep_of reps m

  later : List TermId
  later = set reps m.0 new

  -- the shares over the new representatives are the old ones with what changes
  shares-set : (place : ℕ) (ts : List TermId) → shares later place ts ≡ bit_xor (shares reps place ts) (changes old new (places_among m place ts))
  unfolding old later
  shares-set place [] = sym (xor_zero_l 0)
  shares-set place (t ∷ ts) =
      let rest = shares-set (suc place) ts in
      let listed = places_among m (suc place) ts in
      elim (same_or_other t.0 m.0) [
        | inl e ↦
            let is : t ≡ m = λ i. record { 0 = e i } in
            let now : rep_of later t ≡ new = ap (rep_of later) is ∙ get_or-set_same reps m.0 new m within in
            let among : places_among m place (t ∷ ts) ≡ place ∷ listed = ap (λ b. if b then place ∷ listed else listed) (same_test t.0 m.0 e) in
            ap₂ (λ (r : TermId) (s : ℕ). bit_xor (share place r) s) now rest
            ∙ one_changed (share place old) (share place new) (shares reps (suc place) ts) (changes old new listed)
            ∙ ap₂ (λ (r : TermId) (l : List ℕ). bit_xor (bit_xor (share place r) (shares reps (suc place) ts)) (changes old new l)) (ap (rep_of reps) (sym is)) (sym among)
        | inr other ↦
            let now : rep_of later t ≡ rep_of reps t = get_or-set_other reps m.0 t.0 new t other in
            let among : places_among m place (t ∷ ts) ≡ listed = ap (λ b. if b then place ∷ listed else listed) (other_test t.0 m.0 other) in
            ap₂ (λ (r : TermId) (s : ℕ). bit_xor (share place r) s) now rest
            ∙ sym (xor_assoc (share place (rep_of reps t)) (shares reps (suc place) ts) (changes old new listed))
            ∙ ap (λ (l : List ℕ). bit_xor (bit_xor (share place (rep_of reps t)) (shares reps (suc place) ts)) (changes old new l)) (sym among)
      ]

  -- digests stay right where the shares of one term are exchanged
  pub AreDigests-exchanged : (terms : Terms) (rows : List (List Place)) (before after : List ℕ) → ArePlaces terms rows → AreExchanged (rep_of reps m) new (places_of rows m) before after → AreDigests terms reps before → AreDigests terms (set reps m.0 new) after
  unfolding old later
  AreDigests-exchanged terms rows before after places exchanged are w core has wide =
      let kids = core_children core in
      exchanged w (digest reps core) (are w core has wide)
      ∙ ap Some
      (ap (λ (l : List ℕ). bit_xor (digest reps core) (changes old new l)) (places w core has wide m)
      ∙ xor_assoc (head_number (core_head core)) (shares reps 0 kids) (changes old new (places_among m 0 kids))
      ∙ ap (bit_xor (head_number (core_head core))) (sym (shares-set 0 kids)))

-- what has been exchanged, and what is left
pub IsUnderWay : TermId → TermId → List Place → List Place → List ℕ → List ℕ → Type 0
IsUnderWay old new all rest before now =
    (w : TermId) (was : ℕ) → slice_get before w.0 ≡ Some was → (v : ℕ) × (slice_get now w.0 ≡ Some v) × (bit_xor v (changes old new (places_in w rest)) ≡ bit_xor was (changes old new (places_in w all)))

module _ (old new : TermId) where
  first_place : (w : TermId) (p : Place) (ps : List Place) → bit_xor (changes old new (places_in w (p ∷ []))) (changes old new (places_in w ps)) ≡ changes old new (places_in w (p ∷ ps))
  first_place w p ps = at (nat_eq p.term.0 w.0)
    where
      rest : List ℕ
      rest = places_in w ps

      at : (b : Bool) → bit_xor (changes old new (if b then p.index ∷ [] else [])) (changes old new rest) ≡ changes old new (if b then p.index ∷ rest else rest)
      at true = ap (λ x. bit_xor x (changes old new rest)) (xor_zero_r (bit_xor (share p.index old) (share p.index new)))
      at false = xor_zero_l (changes old new rest)

  pub IsUnderWay-first : (all : List Place) (before : List ℕ) → IsUnderWay old new all all before before
  unfolding IsUnderWay
  IsUnderWay-first all before w was at = (was, at, refl)

  pub IsUnderWay-next : (all : List Place) (p : Place) (rest : List Place) (before now next : List ℕ) → IsUnderWay old new all (p ∷ rest) before now → AreExchanged old new (p ∷ []) now next → IsUnderWay old new all rest before next
  unfolding IsUnderWay
  IsUnderWay-next all p rest before now next under exchanged w was at =
      let u = under w was at in
      let one = changes old new (places_in w (p ∷ [])) in (
        bit_xor u.0 one,
        exchanged w u.0 u.1,
        xor_assoc u.0 one (changes old new (places_in w rest)) ∙ ap (bit_xor u.0) (first_place w p rest) ∙ u.2,
      )

  pub AreExchanged-last : (all : List Place) (before now : List ℕ) → IsUnderWay old new all [] before now → AreExchanged old new all before now
  unfolding IsUnderWay
  AreExchanged-last all before now under w was at =
      let u = under w was at in
      u.1 ∙ ap Some (sym (xor_zero_r u.0) ∙ u.2)

-- at one place
pub AreExchanged-one : (ds : List ℕ) (p : Place) (old new : TermId) (d : ℕ) → p.term.0 < length ds → slice_get ds p.term.0 ≡ Some d → AreExchanged old new (p ∷ []) ds (set ds p.term.0 (bit_xor d (bit_xor (share p.index old) (share p.index new))))
AreExchanged-one ds p old new d within there w was at =
    let one = bit_xor (share p.index old) (share p.index new) in
    elim (same_or_other p.term.0 w.0) [
      | inl e ↦
          let same : d ≡ was = same_Some d was (sym there ∙ ap (slice_get ds) e ∙ at) in
          ap (slice_get (set ds p.term.0 (bit_xor d one))) (sym e)
          ∙ slice_get-set_same ds p.term.0 (bit_xor d one) within
          ∙ ap Some (ap (λ x. bit_xor x one) same ∙ ap (bit_xor was) (sym (xor_zero_r one)) ∙ ap (λ b. bit_xor was (changes old new (if b then p.index ∷ [] else []))) (sym (same_test p.term.0 w.0 e)))
      | inr other ↦
          slice_get-set_other ds p.term.0 w.0 (bit_xor d one) (λ e. other (sym e))
          ∙ at
          ∙ ap Some (sym (xor_zero_r was) ∙ ap (λ b. bit_xor was (changes old new (if b then p.index ∷ [] else []))) (sym (other_test p.term.0 w.0 other)))
    ]

-- at a term that has no digest
pub AreExchanged-past : (ds : List ℕ) (p : Place) (old new : TermId) → (p.term.0 < length ds → ⊥) → AreExchanged old new (p ∷ []) ds ds
AreExchanged-past ds p old new past w was at =
    let other : p.term.0 ≡ w.0 → ⊥ = λ e. past (omega (arith, e, slice_get_within ds w.0 was at)) in
    at ∙ ap Some (sym (xor_zero_r was) ∙ ap (λ b. bit_xor was (changes old new (if b then p.index ∷ [] else []))) (sym (other_test p.term.0 w.0 other)))

-- the digests of the first terms
pub AreDigestsBelow : Terms → List TermId → ℕ → List ℕ → Type 0
AreDigestsBelow terms reps n ds = (w : TermId) (core : Core) → w.0 < n → Has terms core w.0 → IsWide core → slice_get ds w.0 ≡ Some (digest reps core)

pub AreDigestsBelow-none : (terms : Terms) (reps : List TermId) (ds : List ℕ) → AreDigestsBelow terms reps 0 ds
unfolding AreDigestsBelow
AreDigestsBelow-none terms reps ds w core below = absurd (omega (arith, below))

pub AreDigestsBelow-more : (terms : Terms) (reps : List TermId) (t : TermId) (core : Core) (ds : List ℕ) (d : ℕ) → Has terms core t.0 → length ds ≡ t.0 → (IsWide core → d ≡ digest reps core) → AreDigestsBelow terms reps t.0 ds → AreDigestsBelow terms reps (t.0 + 1) (ds ++ d ∷ [])
unfolding AreDigestsBelow
AreDigestsBelow-more terms reps t core ds d has long value are w c below stands wide = elim (same_or_other w.0 t.0) [
  | inl e ↦
      let one : c ≡ core = Has-same terms c core t.0 (subst (λ n. Has terms c n) e stands) has in
      ap (slice_get (ds ++ d ∷ [])) (e ∙ sym long) ∙ slice_get-last ds d ∙ ap Some (value (subst IsWide one wide) ∙ ap (digest reps) (sym one))
  | inr other ↦ slice_get-append_left ds (d ∷ []) w.0 (digest reps c) (are w c (omega (arith, below, other)) stands wide)
]

pub AreDigests-all : (terms : Terms) (reps : List TermId) (n : ℕ) (ds : List ℕ) → length terms < n + 1 → AreDigestsBelow terms reps n ds → AreDigests terms reps ds
unfolding AreDigestsBelow
AreDigests-all terms reps n ds all are w core has wide = are w core (omega (arith, all, slice_get_within terms w.0 (core, has.0) has.1)) has wide
