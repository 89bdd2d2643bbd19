-- The lists of the clauses that watch a literal.
use Rattle.std.proofs.Common.{◌≡◌, ℕ, zero, suc, ◌+◌, ◌<◌, ◌≤◌, ◌⊎◌, inl, inr, Bool, true, false, cond, List, [], ◌∷◌, length, Some, slice_get, set, eqb, Contains, refl, sym, ap, subst, ◌∙◌, arith}
use Rattle.std.specs.List.{IsDistinct, AllByRecursion}
use Rattle.std.proofs.lemmas.Map.Keys.{IsDistinct-cons}
use Rattle.std.proofs.lemmas.Map.Steps.{length-le_from_distinct_below}
use Rattle.std.proofs.lemmas.Map.Views.{Contains-from_any}
use Rattle.std.proofs.lemmas.Bool.{eqb-true}
use Rattle.std.proofs.lemmas.Bool.Decides.{eqb_tells}
use Rattle.std.proofs.lemmas.Option.{same_Some, slice_get_within}
use Rattle.ct_terms.specs.declared.ids.Lit.{Lit}
use Rattle.ct_sat.specs.declared.watch.Watch.{Watch}
use Rattle.ct_sat.specs.declared.watch.WatchList.{WatchList}
use Rattle.ct_sat.specs.Watches.{code_of, IsWatch, IsRelinked, IsChain, AreDistinct, IsList, AreLists, Relinks}
use Rattle.ct_lemmas.proofs.Contained.{Contains-from_slice_get, slice_get-from_Contains}
use Rattle.ct_lemmas.proofs.Lists.{slice_get-set_other, slice_get-set_same}
use Rattle.ct_lemmas.proofs.Numbers.{same_or_other}
use Rattle.ct_sat.proofs.SearchLemmas.{made}

-- what stands in a list with a first element
pub Contains-first : (c : ℕ) (cs : List ℕ) → Contains (c ∷ cs) c
Contains-first c cs = Contains-from_slice_get (c ∷ cs) 0 c refl

pub Contains-later : (d : ℕ) (cs : List ℕ) (c : ℕ) → Contains cs c → Contains (d ∷ cs) c
Contains-later d cs c h = let at = slice_get-from_Contains cs c h in Contains-from_slice_get (d ∷ cs) (suc at.0) c at.1

pub Contains-first_cases : (d : ℕ) (cs : List ℕ) (c : ℕ) → Contains (d ∷ cs) c → (d ≡ c) ⊎ Contains cs c
Contains-first_cases d cs c h = let at = slice_get-from_Contains (d ∷ cs) c h in by at.0 at.1
  where
    by : (i : ℕ) → slice_get (d ∷ cs) i ≡ Some c → (d ≡ c) ⊎ Contains cs c
    by zero e = inl (same_Some d c e)
    by (suc i) e = inr (Contains-from_slice_get cs i c e)

-- a list of different numbers below a bound is no longer than that
apart : (c : ℕ) (cs : List ℕ) → (Contains cs c → ⊥) → AllByRecursion (λ d. eqb c d ≡ false) cs
apart c [] away = tt
apart c (d ∷ ds) away = (
  elim (eqb_tells c d) [
    | inl p ↦ absurd (away (subst (Contains (d ∷ ds)) (sym p.1) (Contains-first d ds)))
    | inr p ↦ p.0
  ],
  apart c ds (λ h. away (Contains-later d ds c h)),
)

distinct-std : (cs : List ℕ) → AreDistinct cs → IsDistinct eqb cs
unfolding IsDistinct
distinct-std [] h = tt
distinct-std (c ∷ cs) (away, rest) = IsDistinct-cons eqb c cs (apart c cs away) (distinct-std cs rest)

pub distinct-few : (cs : List ℕ) (n : ℕ) → AreDistinct cs → ((c : ℕ) → Contains cs c → c < n) → length cs ≤ n
distinct-few cs n different below =
    length-le_from_distinct_below cs n (distinct-std cs different) (λ q h. below q (Contains-from_any eqb-true q cs h))

-- so a list has no more clauses than there are
pub list-few : (ws : List Watch) (listed : WatchList) (l : Lit) (on : ℕ → Type 0) (n : ℕ) → IsList ws listed l on → ((d : ℕ) → on d → d < n) → listed.count ≤ n
list-few ws listed l on n is below =
    let few = distinct-few is.chain n is.distinct (λ c h. below c (is.only c h)) in
    let counted = is.counted in
    omega arith

pub lists-few : (ws : List Watch) (lists : List WatchList) (room : ℕ) (on : Lit → ℕ → Type 0) (n : ℕ) → AreLists ws lists room on → ((l : Lit) (d : ℕ) → on l d → d < n) → (l : Lit) (listed : WatchList) → l.term.0 < room → slice_get lists (code_of l) ≡ Some listed → listed.count ≤ n
lists-few ws lists room on n are below l listed within at =
    let o = are l within in
    let same : o.0 ≡ listed = same_Some o.0 listed (sym o.1 ∙ at) in
    list-few ws listed l (on l) n (subst (λ (x : WatchList). IsList ws x l (on l)) same o.2) (below l)

-- the number of a literal by its sign
code-signed : (l : Lit) (b : Bool) → l.positive ≡ b → code_of l ≡ cond b (l.term.0 + l.term.0 + 1) (l.term.0 + l.term.0)
code-signed l b e = ap (λ (x : Bool). cond x (l.term.0 + l.term.0 + 1) (l.term.0 + l.term.0)) e

-- two literals have two numbers
pub code-own : (l k : Lit) → code_of l ≡ code_of k → l ≡ k
code-own l k e = by l.positive k.positive refl refl
  where
    same : l.term.0 ≡ k.term.0 → l.positive ≡ k.positive → l ≡ k
    same n s = ap (λ (x : ℕ). made x l.positive) n ∙ ap (made k.term.0) s

    by : (a b : Bool) → l.positive ≡ a → k.positive ≡ b → l ≡ k
    by true true f g =
        let p : code_of l ≡ l.term.0 + l.term.0 + 1 = code-signed l true f in
        let q : code_of k ≡ k.term.0 + k.term.0 + 1 = code-signed k true g in
        same (omega (arith, e)) (f ∙ sym g)
    by true false f g =
        let p : code_of l ≡ l.term.0 + l.term.0 + 1 = code-signed l true f in
        let q : code_of k ≡ k.term.0 + k.term.0 = code-signed k false g in
        absurd (omega (arith, e))
    by false true f g =
        let p : code_of l ≡ l.term.0 + l.term.0 = code-signed l false f in
        let q : code_of k ≡ k.term.0 + k.term.0 + 1 = code-signed k true g in
        absurd (omega (arith, e))
    by false false f g =
        let p : code_of l ≡ l.term.0 + l.term.0 = code-signed l false f in
        let q : code_of k ≡ k.term.0 + k.term.0 = code-signed k false g in
        same (omega (arith, e)) (f ∙ sym g)

-- the number of a literal is below twice the room
pub code-within : (l : Lit) (room : ℕ) → l.term.0 < room → code_of l < room + room
code-within l room h = by l.positive refl
  where
    by : (a : Bool) → l.positive ≡ a → code_of l < room + room
    by true f = let p : code_of l ≡ l.term.0 + l.term.0 + 1 = code-signed l true f in omega arith
    by false f = let p : code_of l ≡ l.term.0 + l.term.0 = code-signed l false f in omega arith

-- two literals are one or differ
pub same_literal : (l k : Lit) → (l ≡ k) ⊎ (l ≡ k → ⊥)
same_literal l k = elim (same_or_other (code_of l) (code_of k)) [
  | inl e ↦ inl (code-own l k e)
  | inr n ↦ inr (λ e. n (ap code_of e))
]

-- what is watched beside a literal is one literal, and one clause comes after
pub watch-one : (w : Watch) (l m k : Lit) (n o : ℕ) → IsWatch w l m n → IsWatch w l k o → (l ≡ m → ⊥) → (m ≡ k) × (n ≡ o)
watch-one w l m k n o (inl (one, other, after)) (inl (one', other', after')) differ = (sym other ∙ other', sym after ∙ after')
watch-one w l m k n o (inl (one, other, after)) (inr (other', one', after')) differ = absurd (differ (sym other' ∙ other))
watch-one w l m k n o (inr (other, one, after)) (inl (one', other', after')) differ = absurd (differ (sym one' ∙ one))
watch-one w l m k n o (inr (other, one, after)) (inr (other', one', after')) differ = (sym one ∙ one', sym after ∙ after')

-- a watched literal is one of the two
pub watch-other : (w : Watch) (f m l k : Lit) (n o : ℕ) → IsWatch w f m n → IsWatch w l k o → (l ≡ f → ⊥) → (l ≡ m) × (k ≡ f)
watch-other w f m l k n o (inl (one, other, after)) (inl (one', other', after')) differ = absurd (differ (sym one' ∙ one))
watch-other w f m l k n o (inl (one, other, after)) (inr (other', one', after')) differ = (sym other' ∙ other, sym one' ∙ one)
watch-other w f m l k n o (inr (other, one, after)) (inl (one', other', after')) differ = (sym one' ∙ one, sym other' ∙ other)
watch-other w f m l k n o (inr (other, one, after)) (inr (other', one', after')) differ = absurd (differ (sym other' ∙ other))

-- the other one is watched, too
pub watch-swap : (w : Watch) (f m : Lit) (n : ℕ) → IsWatch w f m n → (o : ℕ) × IsWatch w m f o
watch-swap w f m n (inl (one, other, after)) = (w.after_other, inr (other, one, refl))
watch-swap w f m n (inr (other, one, after)) = (w.after_one, inl (one, other, refl))

-- the literal that is watched now, and what comes after it
pub relinked-to : (w v : Watch) (from to m : Lit) (next n : ℕ) → IsRelinked w v from to next → IsWatch w from m n → (from ≡ m → ⊥) → IsWatch v to m next
relinked-to w v from to m next n (inl (is, same)) (inl (one, other, after)) differ = subst (λ (u : Watch). IsWatch u to m next) (sym same) (inl (refl, other, refl))
relinked-to w v from to m next n (inl (is, same)) (inr (other, one, after)) differ = absurd (differ (sym is ∙ one))
relinked-to w v from to m next n (inr (is, same)) (inl (one, other, after)) differ = absurd (differ (sym is ∙ other))
relinked-to w v from to m next n (inr (is, same)) (inr (other, one, after)) differ = subst (λ (u : Watch). IsWatch u to m next) (sym same) (inr (refl, one, refl))

-- the other literal stays in its list
pub relinked-other : (w v : Watch) (from to l m : Lit) (next n : ℕ) → IsRelinked w v from to next → (l ≡ from → ⊥) → IsWatch w l m n → IsWatch v l to n
relinked-other w v from to l m next n (inl (is, same)) differ (inl (one, other, after)) = absurd (differ (sym one ∙ is))
relinked-other w v from to l m next n (inl (is, same)) differ (inr (other, one, after)) = subst (λ (u : Watch). IsWatch u l to n) (sym same) (inr (other, refl, after))
relinked-other w v from to l m next n (inr (is, same)) differ (inl (one, other, after)) = subst (λ (u : Watch). IsWatch u l to n) (sym same) (inl (one, refl, after))
relinked-other w v from to l m next n (inr (is, same)) differ (inr (other, one, after)) = absurd (differ (sym other ∙ is))

-- another clause than those of a chain may change
pub chain-kept : (ws : List Watch) (l : Lit) (first : ℕ) (cs : List ℕ) (c : ℕ) (v : Watch) → (Contains cs c → ⊥) → IsChain ws l first cs → IsChain (set ws c v) l first cs
chain-kept ws l first [] c v away chain = tt
chain-kept ws l first (d ∷ ds) c v away (same, w, m, n, at, watch, rest) = (
  same,
  w,
  m,
  n,
  slice_get-set_other ws c d v (λ e. away (subst (Contains (d ∷ ds)) e (Contains-first d ds))) ∙ at,
  watch,
  chain-kept ws l n ds c v (λ h. away (Contains-later d ds c h)) rest,
)

-- and a clause of it, where the same one comes after it
pub chain-other : (ws : List Watch) (l : Lit) (first : ℕ) (cs : List ℕ) (c : ℕ) (v : Watch) → ((w : Watch) (m : Lit) (n : ℕ) → slice_get ws c ≡ Some w → IsWatch w l m n → (k : Lit) × IsWatch v l k n) → IsChain ws l first cs → IsChain (set ws c v) l first cs
chain-other ws l first [] c v link chain = tt
chain-other ws l first (d ∷ ds) c v link (same, w, m, n, at, watch, rest) =
    let after = chain-other ws l n ds c v link rest in
    elim (same_or_other d c) [
      | inl e ↦ (let here : slice_get ws c ≡ Some w = ap (slice_get ws) (sym e) ∙ at in
          let linked = link w m n here watch in
          (same, v, linked.0, n, ap (slice_get (set ws c v)) e ∙ slice_get-set_same ws c v (slice_get_within ws c w here), linked.1, after))
      | inr differs ↦ (same, w, m, n, slice_get-set_other ws c d v differs ∙ at, watch, after)
    ]

-- a clause was put at the front of a list
list-more : (ws : List Watch) (c : ℕ) (v : Watch) (to k : Lit) (listed : WatchList) (on on' : ℕ → Type 0) → c < length ws → IsWatch v to k listed.first → IsList ws listed to on → (on c → ⊥) → ((d : ℕ) → on d → on' d) → on' c → ((d : ℕ) → on' d → on d ⊎ (d ≡ c)) → IsList (set ws c v) (record { first = c; count = listed.count + 1 }) to on'
list-more ws c v to k listed on on' within watch old away more here back = record {
  chain = c ∷ old.chain;
  counted = (let n = old.counted in omega arith);
  chained = (refl, v, k, listed.first, slice_get-set_same ws c v within, watch, chain-kept ws to listed.first old.chain c v (λ h. away (old.only c h)) old.chained);
  distinct = (λ h. away (old.only c h), old.distinct);
  only = λ d h. elim (Contains-first_cases c old.chain d h) [
    | inl e ↦ subst on' e here
    | inr i ↦ more d (old.only d i)
  ];
  each = λ d h. elim (back d h) [
    | inl i ↦ Contains-later c old.chain d (old.each d i)
    | inr e ↦ subst (Contains (c ∷ old.chain)) (sym e) (Contains-first c old.chain)
  ];
}

-- a list with other clauses to be in it, which are the same ones
pub list-same : (ws ws' : List Watch) (l : Lit) (listed : WatchList) (on on' : ℕ → Type 0) → (old : IsList ws listed l on) → IsChain ws' l listed.first old.chain → ((d : ℕ) → on d → on' d) → ((d : ℕ) → on' d → on d) → IsList ws' listed l on'
list-same ws ws' l listed on on' old chain more back = record {
  chain = old.chain;
  counted = old.counted;
  chained = chain;
  distinct = old.distinct;
  only = λ d h. more d (old.only d h);
  each = λ d h. old.each d (back d h);
}

pub lists-same : (ws : List Watch) (lists : List WatchList) (room : ℕ) (on on' : Lit → ℕ → Type 0) → AreLists ws lists room on → ((l : Lit) (d : ℕ) → on l d → on' l d) → ((l : Lit) (d : ℕ) → on' l d → on l d) → AreLists ws lists room on'
lists-same ws lists room on on' old more back l within =
    let o = old l within in
    (o.0, o.1, list-same ws ws l o.0 (on l) (on' l) o.2 o.2.chained (more l) (back l))

-- one clause was put at the front of one list
pub relinks-lists : (ws ws' : List Watch) (lists lists' : List WatchList) (room c : ℕ) (from to : Lit) (on on' : Lit → ℕ → Type 0) → (r : Relinks ws lists c from to ws' lists') → (m : Lit) → (n : ℕ) → IsWatch r.w from m n → (from ≡ m → ⊥) → to.term.0 < room → AreLists ws lists room on → (on from c → ⊥) → (on to c → ⊥) → ((l : Lit) (d : ℕ) → on l d → on' l d) → on' to c → ((l : Lit) (d : ℕ) → on' l d → on l d ⊎ ((l ≡ to) × (d ≡ c))) → AreLists ws' lists' room on'
relinks-lists ws ws' lists lists' room c from to on on' r m n watch differ to_within old not_from not_to more here back l within =
    elim (same_literal l to) [
      | inl is ↦ subst HasList (sym is) to_list
      | inr other ↦ other_list other
    ]
  where
    HasList : Lit → Type 0
    HasList k = (listed : WatchList) × (slice_get lists' (code_of k) ≡ Some listed) × IsList ws' listed k (on' k)

    c_within : c < length ws
    c_within = slice_get_within ws c r.w r.stands

    new_list : WatchList
    new_list = record { first = c; count = r.listed.count + 1 }

    before : IsList ws r.listed to (on to)
    before =
        let o = old to to_within in
        let same : o.0 ≡ r.listed = same_Some o.0 r.listed (sym o.1 ∙ r.list_is) in
        subst (λ (x : WatchList). IsList ws x to (on to)) same o.2

    to_list : HasList to
    to_list = (
      new_list,
      ap (λ (xs : List WatchList). slice_get xs (code_of to)) r.lists_are ∙ slice_get-set_same lists (code_of to) new_list (slice_get_within lists (code_of to) r.listed r.list_is),
      subst (λ (xs : List Watch). IsList xs new_list to (on' to)) (sym r.watches_are)
          (list-more ws c r.v to m r.listed (on to) (on' to) c_within (relinked-to r.w r.v from to m r.listed.first n r.relinked watch differ) before not_to (more to) here
          (λ d h. elim (back to d h) [ inl i ↦ inl i | inr p ↦ inr p.1 ])),
    )

    back_other : (l ≡ to → ⊥) → (d : ℕ) → on' l d → on l d
    back_other other d h = elim (back l d h) [ inl i ↦ i | inr p ↦ absurd (other p.0) ]

    chain_left : (o : IsList ws (old l within).0 l (on l)) → IsChain (set ws c r.v) l (old l within).0.first o.chain
    chain_left o = elim (same_literal l from) [
      | inl is ↦ chain-kept ws l (old l within).0.first o.chain c r.v (λ h. not_from (subst (λ (k : Lit). on k c) is (o.only c h))) o.chained
      | inr apart ↦ chain-other ws l (old l within).0.first o.chain c r.v
          (λ u k p at w. (to, relinked-other u r.v from to l k r.listed.first p (subst (λ (x : Watch). IsRelinked x r.v from to r.listed.first) (same_Some r.w u (sym r.stands ∙ at)) r.relinked) apart w))
          o.chained
    ]

    other_list : (l ≡ to → ⊥) → HasList l
    other_list other =
        let o = old l within in (
          o.0,
          ap (λ (xs : List WatchList). slice_get xs (code_of l)) r.lists_are
              ∙ slice_get-set_other lists (code_of to) (code_of l) new_list (λ e. other (code-own l to e))
              ∙ o.1,
          subst (λ (xs : List Watch). IsList xs o.0 l (on' l)) (sym r.watches_are)
              (list-same ws (set ws c r.v) l o.0 (on l) (on' l) o.2 (chain_left o.2) (more l) (back_other other)),
        )
