-- Constructor terms of one class, and the children of representatives.
use Rattle.std.proofs.Common.{◌≡◌, ℕ, ◌<◌, ◌⊎◌, List, [], length, slice_get, Some, sym, ap, subst, ◌∙◌, inl, inr, arith}
use Rattle.std.specs.List.{AllZip}
use Rattle.std.proofs.lemmas.Bool.{cases_order}
use Rattle.std.proofs.lemmas.Option.{none-some, same_Some, slice_get_within}
use Rattle.ct_lemmas.proofs.Lists.{slice_get-one_length}
use Rattle.ct_lemmas.proofs.Pairs.{AllZip-at_right, AllZip-one_length}
use Rattle.ct_sorts.specs.declared.ids.CtorId.{CtorId}
use Rattle.ct_sorts.specs.Declarations.{Declarations}
use Rattle.ct_terms.specs.declared.ids.TermId.{TermId}
use Rattle.ct_terms.specs.declared.term.Core.{Core}
use Rattle.ct_terms.specs.declared.term.Core.TheVariants.{Con}
use Rattle.ct_terms.specs.Terms.{Terms, Has, IsOfField, AreSorted}
use Rattle.ct_rules.specs.Rules.{Follows}
use Rattle.ct_congr.specs.Partition.{InOneClass}
use Rattle.ct_congr.specs.State.{State, AreEqual, IsQuiet}
use Rattle.ct_unique.specs.Nodes.{IsRepNumber, IsOwnCon, IsBare, IsRow}

-- ---- terms of a table

-- one number has one term
pub Has-same : (terms : Terms) (a b : Core) (t : ℕ) → Has terms a t → Has terms b t → a ≡ b
Has-same terms a b t at_a at_b = ap (λ e. e.0) (same_Some (a, at_a.0) (b, at_b.0) (sym at_a.1 ∙ at_b.1))

-- two constructor terms of one number are one
pub Has-constructor : (terms : Terms) (c k : CtorId) (xs ys : List TermId) (t : ℕ) → Has terms (Con c xs) t → Has terms (Con k ys) t → (c ≡ k) × (xs ≡ ys)
Has-constructor terms c k xs ys t p q = let e = Has-same terms (Con c xs) (Con k ys) t p q in (cc, cc)

-- two constructor terms of one constructor have one number of arguments
pub one_arity : (d : Declarations) (terms : Terms) (c : CtorId) (xs ys : List TermId) (t u : ℕ) → AreSorted d terms → Has terms (Con c xs) t → Has terms (Con c ys) u → length xs ≡ length ys
one_arity d terms c xs ys t u sorted p q =
    let left = sorted t (Con c xs) p.0 p.1 in
    let right = sorted u (Con c ys) q.0 q.1 in
    AllZip-one_length (IsOfField d terms) xs left.ctor.sels left.fields
    ∙ ap (λ k. length k.sels) (same_Some left.ctor right.ctor (sym left.declared ∙ right.declared))
    ∙ sym (AllZip-one_length (IsOfField d terms) ys right.ctor.sels right.fields)

-- two constructors are one or not
ctor_cases : (c k : CtorId) → (c ≡ k) ⊎ (c ≡ k → ⊥)
ctor_cases c k = elim (cases_order c.0 k.0) [
  | inl e ↦ inl (λ i. record { 0 = e i })
  | inr h ↦ inr (λ same. elim h [ inl less ↦ let e : c.0 ≡ k.0 = ap (λ q. q.0) same in omega (arith, less, e) | inr greater ↦ let e : c.0 ≡ k.0 = ap (λ q. q.0) same in omega (arith, greater, e) ])
]

-- ---- classes

module _ (reps : List TermId) where
  pub InOneClass-sym : (x y : TermId) → InOneClass reps x y → InOneClass reps y x
  InOneClass-sym x y h = (h.0, h.2, h.1)

  pub InOneClass-trans : (x y z : TermId) → InOneClass reps x y → InOneClass reps y z → InOneClass reps x z
  InOneClass-trans x y z p q = (p.0, p.1, q.2 ∙ sym q.1 ∙ p.2)

module _ (state : State) (quiet : IsQuiet state) (sorted : AreSorted state.declarations state.terms) (x y : TermId) (equal : AreEqual state x y) where
  -- constructor terms of one class have one constructor, and equal arguments
  pub same_ctor : (c k : CtorId) (xs ys : List TermId) → Has state.terms (Con c xs) x.0 → Has state.terms (Con k ys) y.0 → c ≡ k
  same_ctor c k xs ys left right = elim (ctor_cases c k) [
    | inl same ↦ same
    | inr apart ↦ absurd (quiet.one x y (record { first = c; second = k; xs = xs; ys = ys; left = left; right = right; apart = apart; equal = equal }))
  ]

  pub same_argument : (c : CtorId) (xs ys : List TermId) → Has state.terms (Con c xs) x.0 → Has state.terms (Con c ys) y.0 → (place : ℕ) (a : TermId) → slice_get xs place ≡ Some a → (b : TermId) × (slice_get ys place ≡ Some b) × AreEqual state a b
  same_argument c xs ys left right place a at =
      let found = slice_get-one_length xs ys place a (one_arity state.declarations state.terms c xs ys x.0 y.0 sorted left right) at in (
        found.0,
        found.1,
        quiet.closed.closed a found.0 (Follows.by_injection (record { left = x; right = y; ctor = c; xs = xs; ys = ys; place = place; equal = equal; left_stands = left; right_stands = right; left_at = at; right_at = found.1 })),
      )

-- ---- children

-- a term that is no representative of a class with a constructor term has none
pub IsRow-bare : (state : State) (t : TermId) → IsBare state t.0 → IsRow state t.0 []
IsRow-bare state t bare = record {
  each = λ ctor args built. absurd (bare built.own built.con (ctor, args, built.stands) built.equal);
  own = λ place child at. absurd (none-some child at);
}

-- the representatives of the arguments
pub IsRow-of : (state : State) (t con : TermId) (ctor : CtorId) (args : List TermId) (row : List ℕ) → IsOwnCon state t con → Has state.terms (Con ctor args) con.0 → AllZip (IsRepNumber state.reps) args row → IsRow state t.0 row
IsRow-of state t con ctor args row is stands each = record {
  each = λ k xs built.
      let same : con ≡ built.con = same_Some con built.con (same_Some (Some con) (Some built.con) (sym is.stored ∙ built.stored)) in
      let here : Has state.terms (Con ctor args) built.con.0 = subst (λ (c : TermId). Has state.terms (Con ctor args) c.0) same stands in
      let both = Has-constructor state.terms ctor k args xs built.con.0 here built.stands in
      subst (λ (list : List TermId). AllZip (IsRepNumber state.reps) list row) both.1 each;
  own = λ place child at. (AllZip-at_right (IsRepNumber state.reps) args row place child each at).2.own;
}

-- the children of a term are terms
pub IsRow-within : (state : State) (t : ℕ) (row : List ℕ) → length state.reps ≡ length state.terms → IsRow state t row → (place child : ℕ) → slice_get row place ≡ Some child → child < length state.terms
IsRow-within state t row long is place child at =
    let inside = slice_get_within state.reps child (record { 0 = child }) (is.own place child at) in
    omega (arith, inside, long)
