-- The rules stay covered where a union of two classes is followed by what it asks for.
use Rattle.std.proofs.Common.{◌≡◌, ℕ, suc, ◌<◌, ◌⊎◌, true, false, List, [], ◌∷◌, length, Option, slice_get, get_or, Some, None, refl, sym, ap, ap₂, subst, ◌∙◌, inl, inr, arith}
use Rattle.std.specs.List.{AllZip, AllByRecursion, Contains}
use Rattle.std.specs.Int.Bits.{bit_xor}
use Rattle.std.proofs.lemmas.Option.{same_Some, slice_get_within, slice_get-get_or, get_or_from_slice_get}
use Rattle.ct_lemmas.proofs.Contained.{Contains-first}
use Rattle.ct_sorts.specs.declared.ids.CtorId.{CtorId}
use Rattle.ct_sorts.specs.Declarations.{Declarations}
use Rattle.ct_terms.specs.declared.ids.TermId.{TermId}
use Rattle.ct_terms.specs.declared.term.Core.{Core}
use Rattle.ct_terms.specs.declared.term.Core.TheVariants.{Con, Sel, Test, Eq, Not}
use Rattle.ct_terms.specs.Children.{core_head, core_children}
use Rattle.ct_terms.specs.Terms.{Terms, Has, AreSorted}
use Rattle.ct_rules.specs.Rules.{Equations, IsInjection, IsSelection, IsTesting, IsExpansion, IsEquationIn, IsEquationOut, IsNegation, truth_term}
use Rattle.ct_equivalence.specs.Grouping.{Grouping}
use Rattle.ct_equivalence.specs.Digests.{share, rep_of, shares, head_number, digest}
use Rattle.ct_equivalence.specs.Over.{IsLone}
use Rattle.ct_equivalence.specs.Union.{IsJoin}
use Rattle.ct_congr.specs.declared.merge.Merge.{Merge}
use Rattle.ct_congr.specs.Partition.{InOneClass}
use Rattle.ct_congr.specs.State.{IsConstructorTerm}
use Rattle.ct_congr.specs.Joined.{AreJoined}
use Rattle.ct_congr.specs.Covered.{HasCon, IsGrouped, Keys, IsKeyed, IsAlike, IsRowOf, IsMatched, IsMet, IsCovered}
use Rattle.ct_congr.specs.Step.{IsFresh, IsSpread}
use Rattle.ct_lemmas.proofs.Contained.{Contains-from_slice_get, slice_get-from_Contains}
use Rattle.ct_lemmas.proofs.Lists.{slice_get-one_length}
use Rattle.ct_congr.proofs.PartitionLemmas.{term_cases}
use Rattle.ct_congr.proofs.ClassLemmas.{InOneClass-refl}
use Rattle.ct_congr.proofs.TermLemmas.{Has-inside, one_arity}
use Rattle.ct_congr.proofs.JoinedLemmas.{AreJoined-class, AreJoined-trans, AreJoined-sym}
use Rattle.ct_congr.proofs.MetLemmas.{within_left, within_right, IsAlike-sym, IsRowOf-alike}
use Rattle.ct_lemmas.proofs.Each.{AllByRecursion-weaker}
use Rattle.ct_lemmas.proofs.Pairs.{AllZip-weaker, AllZip-one_length}

pub Contains-tail : {X : Type 0} (x y : X) (xs : List X) → Contains xs y → Contains (x ∷ xs) y
Contains-tail x y xs h = Contains-from_slice_get (x ∷ xs) (suc (slice_get-from_Contains xs y h).0) y (slice_get-from_Contains xs y h).1

module _ (d : Declarations) (terms : Terms) (old new : Grouping) (winner loser : TermId) (put : IsJoin old new winner loser) (was : IsGrouped terms old.reps old.cons) where
  -- what stands at a representative
  con_cases : (r : TermId) → slice_get old.reps r.0 ≡ Some r → (slice_get old.cons r.0 ≡ Some None) ⊎ ((c : TermId) × (slice_get old.cons r.0 ≡ Some (Some c)))
  con_cases r own =
      let within : r.0 < length old.cons = omega (arith, was.cons_long, slice_get_within old.reps r.0 r own) in
      by (get_or old.cons r.0 None) (slice_get-get_or old.cons r.0 None within)
    where
      by : (o : Option TermId) → slice_get old.cons r.0 ≡ Some o → (slice_get old.cons r.0 ≡ Some None) ⊎ ((c : TermId) × (slice_get old.cons r.0 ≡ Some (Some c)))
      by None at = inl at
      by (Some c) at = inr (c, at)

  -- the representative before
  rep_before : (x r : TermId) → slice_get new.reps x.0 ≡ Some r → (s : TermId) × (slice_get old.reps x.0 ≡ Some s)
  rep_before x r at =
      let within : x.0 < length old.reps = omega (arith, put.relabelled.long, slice_get_within new.reps x.0 r at) in
      (get_or old.reps x.0 x, slice_get-get_or old.reps x.0 x within)

  -- a stored constructor term was stored before, or is fresh
  pub fresh_cases : (u c : TermId) → HasCon new.reps new.cons u c → HasCon old.reps old.cons u c ⊎ IsFresh old winner loser u c
  fresh_cases u c has =
      let before = rep_before u has.0 has.1 in
      let r = before.0 in
      elim (put.relabelled.each u r before.1) [
        | inl p ↦
            let at : slice_get old.reps u.0 ≡ Some loser = before.1 ∙ ap Some p.0 in
            let class : has.0 ≡ winner = same_Some has.0 winner (sym has.1 ∙ p.1) in
            let stands : slice_get new.cons winner.0 ≡ Some (Some c) = subst (λ (q : TermId). slice_get new.cons q.0 ≡ Some (Some c)) class has.2 in
            elim (con_cases winner put.winner_is) [
              | inl none ↦ inl (loser, at, sym (put.cons.comes none) ∙ stands)
              | inr some ↦ inr (inl (at, subst (λ (q : TermId). slice_get old.cons winner.0 ≡ Some (Some q)) (same_Some some.0 c (same_Some (Some some.0) (Some c) (sym (put.cons.stays some.0 some.1) ∙ stands))) some.1))
            ]
        | inr p ↦
            let class : has.0 ≡ r = same_Some has.0 r (sym has.1 ∙ p.1) in
            let stands : slice_get new.cons r.0 ≡ Some (Some c) = subst (λ (q : TermId). slice_get new.cons q.0 ≡ Some (Some c)) class has.2 in
            elim (term_cases r winner) [
              | inl is ↦
                  let at : slice_get old.reps u.0 ≡ Some winner = before.1 ∙ ap Some is in
                  let here : slice_get new.cons winner.0 ≡ Some (Some c) = subst (λ (q : TermId). slice_get new.cons q.0 ≡ Some (Some c)) is stands in
                  elim (con_cases winner put.winner_is) [
                    | inl none ↦ inr (inr (at, none, sym (put.cons.comes none) ∙ here))
                    | inr some ↦ inl (winner, at, subst (λ (q : TermId). slice_get old.cons winner.0 ≡ Some (Some q)) (same_Some some.0 c (same_Some (Some some.0) (Some c) (sym (put.cons.stays some.0 some.1) ∙ here))) some.1)
                  ]
              | inr other ↦ inl (r, before.1, sym (put.cons.others r.0 (λ e. other (λ i. record { 0 = e i }))) ∙ stands)
            ]
      ]

  -- of one class now, two terms were so before, or one of them moved
  class_cases : (x y : TermId) → InOneClass new.reps x y → InOneClass old.reps x y ⊎ ((slice_get old.reps x.0 ≡ Some loser) ⊎ (slice_get old.reps y.0 ≡ Some loser))
  class_cases x y h =
      let p = rep_before x h.0 h.1 in
      let q = rep_before y h.0 h.2 in
      elim (put.relabelled.each x p.0 p.1) [
        | inl a ↦ inr (inl (p.1 ∙ ap Some a.0))
        | inr a ↦ elim (put.relabelled.each y q.0 q.1) [
          | inl b ↦ inr (inr (q.1 ∙ ap Some b.0))
          | inr b ↦ inl (p.0, p.1, q.1 ∙ ap Some (same_Some q.0 p.0 (sym b.1 ∙ h.2 ∙ sym h.1 ∙ a.1)))
        ]
      ]

  -- the term has the representative that it had
  IsStill : TermId → Type 0
  IsStill x = (r : TermId) × (slice_get old.reps x.0 ≡ Some r) × (slice_get new.reps x.0 ≡ Some r)

  -- some term of the list moved, or all have the representatives that they had
  moved_cases : (xs : List TermId) → AllByRecursion (λ x. x.0 < length old.reps) xs → ((t : TermId) × Contains xs t × (slice_get old.reps t.0 ≡ Some loser)) ⊎ AllByRecursion IsStill xs
  unfolding IsStill
  moved_cases [] within = inr tt
  moved_cases (x ∷ xs) within =
      let r = get_or old.reps x.0 x in
      let at : slice_get old.reps x.0 ≡ Some r = slice_get-get_or old.reps x.0 x within.0 in
      elim (put.relabelled.each x r at) [
        | inl p ↦ inl (x, Contains-first x xs, at ∙ ap Some p.0)
        | inr p ↦ elim (moved_cases xs within.1) [
          | inl t ↦ inl (t.0, Contains-tail x t.0 xs t.1, t.2)
          | inr rest ↦ inr ((r, at, p.1), rest)
        ]
      ]

  -- one class stays one
  class_stays : (x y : TermId) → InOneClass old.reps x y → InOneClass new.reps x y
  class_stays x y h = elim (put.relabelled.each x h.0 h.1) [
    | inl a ↦ elim (put.relabelled.each y h.0 h.2) [
      | inl b ↦ (winner, a.1, b.1)
      | inr b ↦ absurd (b.0 a.0)
    ]
    | inr a ↦ elim (put.relabelled.each y h.0 h.2) [
      | inl b ↦ absurd (a.0 b.0)
      | inr b ↦ (h.0, a.1, b.1)
    ]
  ]

  alike_after : (a b : Core) → IsAlike old.reps a b → IsAlike new.reps a b
  alike_after a b alike = record { head = alike.head; arguments = AllZip-weaker (InOneClass old.reps) (InOneClass new.reps) class_stays (core_children a) (core_children b) alike.arguments }

  -- terms of one class that have the representatives that they had were of one class
  pairs_before : (xs ys : List TermId) → AllByRecursion IsStill xs → AllByRecursion IsStill ys → AllZip (InOneClass new.reps) xs ys → AllZip (InOneClass old.reps) xs ys
  unfolding IsStill
  pairs_before [] [] p q all = tt
  pairs_before [] (y ∷ ys) p q all = absurd all
  pairs_before (x ∷ xs) [] p q all = absurd all
  pairs_before (x ∷ xs) (y ∷ ys) p q all =
      let h = all.0 in
      let same : p.0.0 ≡ q.0.0 = same_Some p.0.0 q.0.0 (sym p.0.2 ∙ h.1 ∙ sym h.2 ∙ q.0.2) in (
        (q.0.0, p.0.1 ∙ ap Some same, q.0.1),
        pairs_before xs ys p.1 q.1 all.1,
      )

  alike_before : (a b : Core) → AllByRecursion IsStill (core_children a) → AllByRecursion IsStill (core_children b) → IsAlike new.reps a b → IsAlike old.reps a b
  alike_before a b p q alike = record { head = alike.head; arguments = pairs_before (core_children a) (core_children b) p q alike.arguments }

  -- and a term over such terms has the digest that it had
  still_shares : (place : ℕ) (xs : List TermId) → AllByRecursion IsStill xs → shares new.reps place xs ≡ shares old.reps place xs
  unfolding IsStill
  still_shares place [] p = refl
  still_shares place (x ∷ xs) p =
      let same : rep_of new.reps x ≡ rep_of old.reps x = get_or_from_slice_get new.reps x.0 p.0.0 x p.0.2 ∙ sym (get_or_from_slice_get old.reps x.0 p.0.0 x p.0.1) in
      ap₂ (λ (r : TermId) (n : ℕ). bit_xor (share place r) n) same (still_shares (suc place) xs p.1)

  still_digest : (core : Core) → AllByRecursion IsStill (core_children core) → digest new.reps core ≡ digest old.reps core
  still_digest core p = ap (bit_xor (head_number (core_head core))) (still_shares 0 (core_children core) p)

  -- a constructor term of a class that has none
  no_con : (t r : TermId) → slice_get old.reps t.0 ≡ Some r → slice_get old.cons r.0 ≡ Some None → IsConstructorTerm terms t → ⊥
  no_con t r at none built = was.stored r None (was.own t r at) none t at built

  module _ (sorted : AreSorted d terms) (keys more : Keys) (known : Equations) (after : List Merge) (grows : (key : ℕ) (t : TermId) → IsKeyed keys key t → IsKeyed more key t) (moves : (x y : TermId) → known x y → AreJoined new.reps after x y) (covered : IsCovered d terms old.reps old.cons keys known) (spread : IsSpread d terms old new winner loser more (AreJoined new.reps after)) where
    Joined : Equations
    Joined = AreJoined new.reps after

    -- the stored constructor term of the class that moved, for a constructor term in it
    record IsMoved (t : TermId) (c : CtorId) : Type 0 where
      con : TermId
      args : List TermId
      stored : slice_get old.cons loser.0 ≡ Some (Some con)
      stands : Has terms (Con c args) con.0

    moved_con : (t : TermId) (c : CtorId) (xs : List TermId) → slice_get old.reps t.0 ≡ Some loser → Has terms (Con c xs) t.0 → IsMoved t c
    moved_con t c xs at stands = elim (con_cases loser put.loser_is) [
      | inl none ↦ absurd (no_con t loser at none (c, xs, stands))
      | inr some ↦
          let built = was.stored loser (Some some.0) put.loser_is some.1 in
          let same = covered.one t some.0 c built.1.0 xs built.1.1 (loser, at, some.1) stands built.1.2 in
          record { con = some.0; args = built.1.1; stored = some.1; stands = subst (λ (k : CtorId). Has terms (Con k built.1.1) some.0.0) (sym same) built.1.2 }
    ]

    one_constructor : (t con : TermId) (c k : CtorId) (xs ys : List TermId) → HasCon new.reps new.cons t con → Has terms (Con c xs) t.0 → Has terms (Con k ys) con.0 → c ≡ k
    one_constructor t con c k xs ys has stands con_stands = elim (fresh_cases t con has) [
      | inl before ↦ covered.one t con c k xs ys before stands con_stands
      | inr fresh ↦ elim fresh [
        | inl f ↦
            let m = moved_con t c xs f.0 stands in
            sym (spread.paired con m.con f.1 m.stored k c ys m.args con_stands m.stands).0
        | inr f ↦ absurd (no_con t winner f.0 f.1 (c, xs, stands))
      ]
    ]

    injected : (x y : TermId) → IsInjection terms (HasCon new.reps new.cons) x y → Joined x y
    unfolding Joined
    injected x y rule = elim (fresh_cases rule.left rule.right rule.equal) [
      | inl before ↦ moves x y (covered.injection x y (record {
        left = rule.left;
        right = rule.right;
        ctor = rule.ctor;
        xs = rule.xs;
        ys = rule.ys;
        place = rule.place;
        equal = before;
        left_stands = rule.left_stands;
        right_stands = rule.right_stands;
        left_at = rule.left_at;
        right_at = rule.right_at;
      }))
      | inr fresh ↦ elim fresh [
        | inl f ↦
            let m = moved_con rule.left rule.ctor rule.xs f.0 rule.left_stands in
            let z = slice_get-one_length rule.xs m.args rule.place x (one_arity d terms rule.ctor rule.xs m.args rule.left.0 m.con.0 sorted rule.left_stands m.stands) rule.left_at in
            let first = moves x z.0 (covered.injection x z.0 (record {
              left = rule.left;
              right = m.con;
              ctor = rule.ctor;
              xs = rule.xs;
              ys = m.args;
              place = rule.place;
              equal = (loser, f.0, m.stored);
              left_stands = rule.left_stands;
              right_stands = m.stands;
              left_at = rule.left_at;
              right_at = z.1;
            })) in
            let second = (spread.paired rule.right m.con f.1 m.stored rule.ctor rule.ctor rule.ys m.args rule.right_stands m.stands).1 rule.place y z.0 rule.right_at z.1 in
            AreJoined-trans new.reps after x z.0 y first (AreJoined-sym new.reps after y z.0 second)
        | inr f ↦ absurd (no_con rule.left winner f.0 f.1 (rule.ctor, rule.xs, rule.left_stands))
      ]
    ]

    selected : (t y : TermId) → IsSelection d terms (HasCon new.reps new.cons) t y → Joined t y
    unfolding Joined
    selected t y rule = elim (fresh_cases rule.argument rule.con rule.equal) [
      | inl before ↦ moves t y ((covered.each t).selection y (record {
        sel = rule.sel;
        selector = rule.selector;
        argument = rule.argument;
        con = rule.con;
        args = rule.args;
        stands = rule.stands;
        declared = rule.declared;
        equal = before;
        con_stands = rule.con_stands;
        at = rule.at;
      }))
      | inr fresh ↦ (spread.fresh t rule.argument rule.con (Sel rule.sel rule.argument) fresh rule.stands (Contains-first rule.argument [])).selection y rule
    ]

    tested : (t y : TermId) → IsTesting terms (HasCon new.reps new.cons) t y → Joined t y
    unfolding Joined
    tested t y rule = elim (fresh_cases rule.argument rule.con rule.equal) [
      | inl before ↦ moves t y ((covered.each t).testing y (record {
        tested = rule.tested;
        argument = rule.argument;
        con = rule.con;
        ctor = rule.ctor;
        args = rule.args;
        stands = rule.stands;
        equal = before;
        con_stands = rule.con_stands;
        answer = rule.answer;
      }))
      | inr fresh ↦ (spread.fresh t rule.argument rule.con (Test rule.tested rule.argument) fresh rule.stands (Contains-first rule.argument [])).testing y rule
    ]

    negated : (t y : TermId) → IsNegation terms (HasCon new.reps new.cons) t y → Joined t y
    unfolding Joined
    negated t y rule = elim rule.answer [
      | inl h ↦ elim (fresh_cases rule.argument (truth_term true) h.0) [
        | inl before ↦ moves t y ((covered.each t).negation y (record { argument = rule.argument; stands = rule.stands; answer = inl (before, h.1) }))
        | inr fresh ↦ (spread.fresh t rule.argument (truth_term true) (Not rule.argument) fresh rule.stands (Contains-first rule.argument [])).negation y rule
      ]
      | inr h ↦ elim (fresh_cases rule.argument (truth_term false) h.0) [
        | inl before ↦ moves t y ((covered.each t).negation y (record { argument = rule.argument; stands = rule.stands; answer = inr (before, h.1) }))
        | inr fresh ↦ (spread.fresh t rule.argument (truth_term false) (Not rule.argument) fresh rule.stands (Contains-first rule.argument [])).negation y rule
      ]
    ]

    equated : (t y : TermId) → IsEquationIn terms (InOneClass new.reps) t y → Joined t y
    unfolding Joined
    equated t y rule =
        let core = Eq rule.left rule.right in
        elim (class_cases rule.left rule.right rule.equal) [
          | inl before ↦ moves t y ((covered.each t).equation_in y (record { left = rule.left; right = rule.right; stands = rule.stands; equal = before; answer = rule.answer }))
          | inr moved ↦ elim moved [
            | inl at ↦ (spread.moved t rule.left core rule.stands (Contains-first rule.left (rule.right ∷ [])) at).equation_in y rule
            | inr at ↦ (spread.moved t rule.right core rule.stands (Contains-tail rule.left rule.right (rule.right ∷ []) (Contains-first rule.right [])) at).equation_in y rule
          ]
        ]

    expanded : (t x y : TermId) (rule : IsExpansion d terms (HasCon new.reps new.cons) x y) → rule.test ≡ t → Joined x y
    unfolding Joined
    expanded t x y rule is = elim (fresh_cases rule.test (truth_term true) rule.holds) [
      | inl before ↦ moves x y ((covered.each t).expansion x y (record {
        test = rule.test;
        id = rule.id;
        ctor = rule.ctor;
        args = rule.args;
        declared = rule.declared;
        holds = before;
        test_stands = rule.test_stands;
        con_stands = rule.con_stands;
        fields = rule.fields;
      }) is)
      | inr fresh ↦ (spread.truths rule.test fresh).expansion x y rule refl
    ]

    equated_out : (t x y : TermId) (rule : IsEquationOut terms (HasCon new.reps new.cons) x y) → rule.term ≡ t → Joined x y
    unfolding Joined
    equated_out t x y rule is = elim (fresh_cases rule.term (truth_term true) rule.holds) [
      | inl before ↦ moves x y ((covered.each t).equation_out x y (record { term = rule.term; stands = rule.stands; holds = before }) is)
      | inr fresh ↦ (spread.truths rule.term fresh).equation_out x y rule refl
    ]

    -- a term with the representatives that it had was met, and is
    module _ (t : TermId) (core : Core) (has : Has terms core t.0) (still : AllByRecursion IsStill (core_children core)) (before : IsMatched terms old.reps keys known t core) where
      row_now : IsRowOf terms new.reps more core before.first
      row_now = record {
        other = before.row.other;
        has = before.row.has;
        keyed = subst (λ n. IsKeyed more n before.first) (sym (still_digest core still)) (grows (digest old.reps core) before.first before.row.keyed);
        alike = alike_after core before.row.other before.row.alike;
      }

      with_first : Joined t before.first
      unfolding Joined
      with_first = moves t before.first (before.each before.first before.row)

      -- a term that is like none but itself
      with_itself : (u : TermId) (row : IsRowOf terms new.reps more core u) → IsLone terms u → Joined t u
      unfolding Joined
      with_itself u row lone =
          let same : u ≡ t = lone t row.other core row.has has (sym row.alike.head) (sym (AllZip-one_length (InOneClass new.reps) (core_children core) (core_children row.other) row.alike.arguments)) in
          let inside : t.0 < length new.reps = omega (arith, Has-inside terms core t.0 has, was.long, put.relabelled.long) in
          subst (Joined t) (sym same) (AreJoined-class new.reps after t t (InOneClass-refl new.reps t inside))

      -- each term that is like it and stands at its digest is joined with it
      with_each : (u : TermId) → IsRowOf terms new.reps more core u → Joined t u
      unfolding Joined
      with_each u row =
          let other = row.other in
          let within = within_right new.reps (core_children core) (core_children other) row.alike.arguments in
          elim (moved_cases (core_children other) (AllByRecursion-weaker (λ (x : TermId). x.0 < length new.reps) (λ (x : TermId). x.0 < length old.reps) (λ x below. omega (arith, below, put.relabelled.long)) (core_children other) within)) [
            | inl moved ↦ elim (spread.met u moved.0 other row.has moved.1 moved.2) [
              | inl lone ↦ with_itself u row lone
              | inr theirs ↦
                  let there = theirs.each before.first (IsRowOf-alike new.reps terms more core other before.first (IsAlike-sym new.reps core other row.alike) row_now) in
                  AreJoined-trans new.reps after t before.first u with_first (AreJoined-sym new.reps after u before.first there)
            ]
            | inr theirs_still ↦ elim (covered.congruence u other row.has) [
              | inl lone ↦ with_itself u row lone
              | inr theirs ↦
                  let alike = alike_before core other still theirs_still row.alike in
                  let there = moves u before.first (theirs.each before.first (IsRowOf-alike old.reps terms keys core other before.first (IsAlike-sym old.reps core other alike) before.row)) in
                  AreJoined-trans new.reps after t before.first u with_first (AreJoined-sym new.reps after u before.first there)
            ]
          ]

    met : (t : TermId) (core : Core) → Has terms core t.0 → IsMet terms new.reps more (AreJoined new.reps after) t core
    unfolding Joined
    met t core has = elim (covered.congruence t core has) [
      | inl lone ↦ inl lone
      | inr before ↦ elim (moved_cases (core_children core) (within_left old.reps (core_children core) (core_children before.row.other) before.row.alike.arguments)) [
        | inl moved ↦ spread.met t moved.0 core has moved.1 moved.2
        | inr still ↦ inr (record { first = before.first; row = row_now t core has still before; each = with_each t core has still before })
      ]
    ]

    pub IsCovered-spread : IsCovered d terms new.reps new.cons more (AreJoined new.reps after)
    unfolding Joined
    IsCovered-spread = record {
      one = one_constructor;
      injection = injected;
      each = λ t. record {
        selection = selected t;
        testing = tested t;
        negation = negated t;
        equation_in = equated t;
        expansion = expanded t;
        equation_out = equated_out t;
      };
      congruence = met;
      singleton = λ x y rule. moves x y (covered.singleton x y rule);
    }
