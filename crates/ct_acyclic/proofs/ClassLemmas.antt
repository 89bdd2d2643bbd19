-- The kids of the representatives of classes.
use Rattle.std.proofs.Common.{◌≡◌, ℕ, ◌<◌, ◌⊎◌, List, [], length, slice_get, Some, sym, ap, subst, ◌∙◌, inl, inr, arith}
use Rattle.std.specs.List.{AllZip}
use Rattle.std.proofs.lemmas.Bool.{cases_order}
use Rattle.std.proofs.lemmas.Option.{none-some, same_Some, slice_get_within}
use Rattle.ct_lemmas.proofs.Lists.{slice_get-one_length}
use Rattle.ct_lemmas.proofs.Pairs.{AllZip-at_left, AllZip-at_right, AllZip-one_length}
use Rattle.ct_sorts.specs.declared.ids.CtorId.{CtorId}
use Rattle.ct_sorts.specs.declared.ids.SortId.{SortId}
use Rattle.ct_sorts.specs.Declarations.{Declarations}
use Rattle.ct_terms.specs.declared.ids.TermId.{TermId}
use Rattle.ct_terms.specs.declared.term.Core.{Core}
use Rattle.ct_terms.specs.declared.term.Core.TheVariants.{Con}
use Rattle.ct_terms.specs.Terms.{Terms, Has, IsOfSort, IsOfField, AreSorted}
use Rattle.ct_rules.specs.Rules.{Follows}
use Rattle.ct_rules.specs.Cycle.{IsOfDatatype}
use Rattle.ct_congr.specs.Partition.{InOneClass}
use Rattle.ct_congr.specs.State.{State, AreEqual, IsConstructorTerm, IsQuiet}
use Rattle.ct_acyclic.specs.Order.{IsDataClass}
use Rattle.ct_acyclic.specs.Edges.{term, IsRepNumber, IsRow}

-- ---- terms of a table

-- one number has one term
pub Has-same : (terms : Terms) (a b : Core) (t : ℕ) → Has terms a t → Has terms b t → a ≡ b
Has-same terms a b t at_a at_b = ap (λ e. e.0) (same_Some (a, at_a.0) (b, at_b.0) (sym at_a.1 ∙ at_b.1))

-- two constructor terms of one number are one
pub Has-constructor : (terms : Terms) (c k : CtorId) (xs ys : List TermId) (t : ℕ) → Has terms (Con c xs) t → Has terms (Con k ys) t → (c ≡ k) × (xs ≡ ys)
Has-constructor terms c k xs ys t p q = let e = Has-same terms (Con c xs) (Con k ys) t p q in (cc, cc)

-- two constructor terms of one constructor have one number of arguments
pub one_arity : (d : Declarations) (terms : Terms) (c : CtorId) (xs ys : List TermId) (t u : ℕ) → AreSorted d terms → Has terms (Con c xs) t → Has terms (Con c ys) u → length xs ≡ length ys
one_arity d terms c xs ys t u sorted p q =
    let left = sorted t (Con c xs) p.0 p.1 in
    let right = sorted u (Con c ys) q.0 q.1 in
    AllZip-one_length (IsOfField d terms) xs left.ctor.sels left.fields
    ∙ ap (λ k. length k.sels) (same_Some left.ctor right.ctor (sym left.declared ∙ right.declared))
    ∙ sym (AllZip-one_length (IsOfField d terms) ys right.ctor.sels right.fields)

-- two constructors are one or not
ctor_cases : (c k : CtorId) → (c ≡ k) ⊎ (c ≡ k → ⊥)
ctor_cases c k = elim (cases_order c.0 k.0) [
  | inl e ↦ inl (λ i. record { 0 = e i })
  | inr h ↦ inr (λ same. elim h [ inl less ↦ let e : c.0 ≡ k.0 = ap (λ q. q.0) same in omega (arith, less, e) | inr greater ↦ let e : c.0 ≡ k.0 = ap (λ q. q.0) same in omega (arith, greater, e) ])
]

-- ---- classes

module _ (reps : List TermId) where
  pub InOneClass-sym : (x y : TermId) → InOneClass reps x y → InOneClass reps y x
  InOneClass-sym x y h = (h.0, h.2, h.1)

  pub InOneClass-trans : (x y z : TermId) → InOneClass reps x y → InOneClass reps y z → InOneClass reps x z
  InOneClass-trans x y z p q = (p.0, p.1, q.2 ∙ sym q.1 ∙ p.2)

abbrev pub HaveOneSort : State → Type 0
HaveOneSort state = (x y : TermId) (s : SortId) → AreEqual state x y → IsOfSort state.terms x s → IsOfSort state.terms y s

module _ (state : State) (one_sort : HaveOneSort state) where
  -- what equals a term of a datatype is of the datatype
  pub datatype-equal : (x y : TermId) → AreEqual state x y → IsOfDatatype state.declarations state.terms x → IsOfDatatype state.declarations state.terms y
  datatype-equal x y equal is = record {
    id = is.id;
    sort = is.sort;
    sorted = one_sort x y is.id equal is.sorted;
    declared = is.declared;
    kind = is.kind;
  }

  -- a term that represents no class of a datatype has no kids
  pub IsRow-other : (t : TermId) → ((r : TermId) → slice_get state.reps t.0 ≡ Some r → slice_get state.reps r.0 ≡ Some r) → (IsDataClass state t → ⊥) → IsRow state t.0 []
  IsRow-other t own_rep other = record {
    own = own_rep;
    down = λ place kid at. absurd (none-some kid at);
    all = λ con next place own own_next equal leads. absurd (other (record { own = own; datatype = datatype-equal con t equal leads.datatype }));
  }

  -- nor has a class without a constructor term
  pub IsRow-bare : (t : TermId) → ((r : TermId) → slice_get state.reps t.0 ≡ Some r → slice_get state.reps r.0 ≡ Some r) → ((c : TermId) → IsConstructorTerm state.terms c → AreEqual state t c → ⊥) → IsRow state t.0 []
  IsRow-bare t own_rep bare = record {
    own = own_rep;
    down = λ place kid at. absurd (none-some kid at);
    all = λ con next place own own_next equal leads. absurd (bare con (leads.ctor, leads.args, leads.stands) (InOneClass-sym state.reps con t equal));
  }

  module _ (quiet : IsQuiet state) (sorted : AreSorted state.declarations state.terms) (t con : TermId) (ctor : CtorId) (args : List TermId) (row : List ℕ) (data_class : IsDataClass state t) (stored : slice_get state.cons t.0 ≡ Some (Some con)) (equal : AreEqual state t con) (stands : Has state.terms (Con ctor args) con.0) (each : AllZip (IsRepNumber state.reps) args row) where
    -- a constructor term of the class has the constructor, and at each place an argument that equals the one there
    same_ctor : (other : TermId) (k : CtorId) (xs : List TermId) → AreEqual state other con → Has state.terms (Con k xs) other.0 → k ≡ ctor
    same_ctor other k xs is has = elim (ctor_cases k ctor) [
      | inl same ↦ same
      | inr apart ↦ absurd (quiet.one other con (record { first = k; second = ctor; xs = xs; ys = args; left = has; right = stands; apart = apart; equal = is }))
    ]

    same_argument : (other : TermId) (k : CtorId) (xs : List TermId) (place : ℕ) (x : TermId) → AreEqual state other con → Has state.terms (Con k xs) other.0 → slice_get xs place ≡ Some x → (y : TermId) × (slice_get args place ≡ Some y) × AreEqual state x y
    same_argument other k xs place x is has at =
        let same = same_ctor other k xs is has in
        let mine : Has state.terms (Con ctor xs) other.0 = subst (λ (q : CtorId). Has state.terms (Con q xs) other.0) same has in
        let found = slice_get-one_length xs args place x (one_arity state.declarations state.terms ctor xs args other.0 con.0 sorted mine stands) at in (
          found.0,
          found.1,
          quiet.closed.closed x found.0 (Follows.by_injection (record { left = other; right = con; ctor = ctor; xs = xs; ys = args; place = place; equal = is; left_stands = mine; right_stands = stands; left_at = at; right_at = found.1 })),
        )

    -- the kids are the representatives of the arguments
    pub IsRow-of : IsRow state t.0 row
    IsRow-of = record {
      own = λ r at. let same : t ≡ r = same_Some t r (sym data_class.own ∙ at) in subst (λ (q : TermId). slice_get state.reps q.0 ≡ Some q) same data_class.own;
      down = λ place kid at.
          let h = AllZip-at_right (IsRepNumber state.reps) args row place kid each at in
          record {
            con = con;
            own = data_class.own;
            stored = stored;
            leads = record { ctor = ctor; args = args; argument = h.0; stands = stands; datatype = datatype-equal t con equal data_class.datatype; at = h.1; equal = (term kid, h.2.of_term, h.2.own) };
          };
      all = λ other next place own own_next is leads.
          let found = same_argument other leads.ctor leads.args place leads.argument (InOneClass-trans state.reps other t con is equal) leads.stands leads.at in
          let h = AllZip-at_left (IsRepNumber state.reps) args row place found.0 each found.1 in
          let both = InOneClass-trans state.reps next leads.argument found.0 (InOneClass-sym state.reps leads.argument next leads.equal) found.2 in
          let first : next ≡ both.0 = same_Some next both.0 (sym own_next ∙ both.1) in
          let second : term h.0 ≡ both.0 = same_Some (term h.0) both.0 (sym h.2.of_term ∙ both.2) in
          h.1 ∙ ap (λ (q : TermId). Some q.0) (second ∙ sym first);
    }

-- the kids of a term are terms
pub IsRow-within : (state : State) (t : ℕ) (row : List ℕ) → length state.reps ≡ length state.terms → IsRow state t row → (place kid : ℕ) → slice_get row place ≡ Some kid → kid < length state.terms
IsRow-within state t row long is place kid at =
    let equal = (is.down place kid at).leads.equal in
    let inside = slice_get_within state.reps kid equal.0 equal.2 in
    omega (arith, inside, long)
