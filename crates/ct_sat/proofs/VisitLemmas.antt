-- The visit of the clauses that watch a literal which is false.
use Rattle.std.proofs.Common.{◌≡◌, ℕ, suc, ◌+◌, ◌<◌, ◌≤◌, ◌⊎◌, inl, inr, List, [], ◌∷◌, ◌++◌, length, Option, Some, None, slice_get, get_or, set, All, Contains, MatchOption, is_some, true, false, true≢false, refl, sym, ap, subst, ◌∙◌, arith}
use Rattle.std.proofs.lemmas.Option.{none-some, same_Some, slice_get_within, get_or_from_slice_get}
use Rattle.std.proofs.lemmas.List.{length-set}
use Rattle.std.proofs.lemmas.List.Elements.{All-weaker, All-contains, Contains-append_left, Contains-push}
use Rattle.ct_terms.specs.declared.ids.Lit.{Lit}
use Rattle.ct_terms.specs.Literal.{opposite}
use Rattle.ct_terms.specs.Clause.{Clause}
use Rattle.ct_terms.specs.Propagation.{IsFalseIn}
use Rattle.ct_sat.specs.declared.clause.StepClause.{StepClause}
use Rattle.ct_sat.specs.declared.decided.Decided.{Decided}
use Rattle.ct_sat.specs.declared.watch.Watch.{Watch}
use Rattle.ct_sat.specs.declared.watch.WatchList.{WatchList}
use Rattle.ct_sat.specs.declared.progress.Saved.{Saved}
use Rattle.ct_sat.specs.Assigned.{Assigned, implied}
use Rattle.ct_sat.specs.Up.{IsForced}
use Rattle.ct_sat.specs.State.{IsConsistent}
use Rattle.ct_sat.specs.Status.{IsUnset, grows, IsFalseAt}
use Rattle.ct_sat.specs.Watches.{code_of, empty_list, IsWatch, IsChain, AreDistinct, IsList, AreLists, IsOn, IsOnBut, Relinks}
use Rattle.ct_sat.specs.Watching.{AreDifferentIn, AreTwoOf, IsReplacement, IsHeld, AreHeld, AreLinked, KeepsShort, IsWorkedThrough, LooksAt, IsForcedBy}
use Rattle.ct_lemmas.proofs.Contained.{Contains-from_slice_get, slice_get-from_Contains}
use Rattle.ct_lemmas.proofs.Lists.{slice_get-append_left, slice_get-set_other, slice_get-set_same, slice_get-there}
use Rattle.ct_lemmas.proofs.Numbers.{same_or_other}
use Rattle.ct_sat.proofs.UpLemmas.{opposites_apart, opposite-opposite}
use Rattle.ct_sat.proofs.StatusLemmas.{Propagated-none, Propagated-examined}
use Rattle.ct_sat.proofs.WatchLemmas.{Contains-first, Contains-later, Contains-first_cases, code-own, same_literal, watch-one, watch-other, watch-swap, relinked-to, relinked-other, chain-kept, lists-few, lists-same, relinks-lists}

-- what is watched is in the clause
pub watched_pair : (clause : Clause) (w : Watch) (l m : Lit) (n : ℕ) → AreTwoOf clause w.one w.other → IsWatch w l m n → (l ≡ m → ⊥) → AreDifferentIn clause l m
watched_pair clause w l m n (inl two) (inl (one, other, after)) differ = record { has_one = subst (Contains clause) one two.has_one; has_other = subst (Contains clause) other two.has_other; differ = differ }
watched_pair clause w l m n (inl two) (inr (other, one, after)) differ = record { has_one = subst (Contains clause) other two.has_other; has_other = subst (Contains clause) one two.has_one; differ = differ }
watched_pair clause w l m n (inr (short, same)) (inl (one, other, after)) differ = absurd (differ (sym one ∙ same ∙ other))
watched_pair clause w l m n (inr (short, same)) (inr (other, one, after)) differ = absurd (differ (sym other ∙ sym same ∙ one))

two_watched : (clause : Clause) (w : Watch) (l m : Lit) (n : ℕ) → AreDifferentIn clause l m → IsWatch w l m n → AreTwoOf clause w.one w.other
two_watched clause w l m n two (inl (one, other, after)) = inl (record { has_one = subst (Contains clause) (sym one) two.has_one; has_other = subst (Contains clause) (sym other) two.has_other; differ = λ e. two.differ (sym one ∙ e ∙ other) })
two_watched clause w l m n two (inr (other, one, after)) = inl (record { has_one = subst (Contains clause) (sym one) two.has_other; has_other = subst (Contains clause) (sym other) two.has_one; differ = λ e. two.differ (sym other ∙ sym e ∙ one) })

watched_differ : (w : Watch) (l m : Lit) (n : ℕ) → IsWatch w l m n → (l ≡ m → ⊥) → w.one ≡ w.other → ⊥
watched_differ w l m n (inl (one, other, after)) differ e = differ (sym one ∙ e ∙ other)
watched_differ w l m n (inr (other, one, after)) differ e = differ (sym other ∙ sym e ∙ one)

-- watches stay held with more literals
pub held-longer : (ws : List Watch) (linked : ℕ) (trail more : List Lit) (saved : List Saved) (decided : List Decided) (low head : ℕ) → head ≤ length trail → AreHeld ws linked trail saved decided low head → AreHeld ws linked (trail ++ more) saved decided low head
held-longer ws linked trail more saved decided low head within old c w l m n below at watch differ p here under =
    let x = slice_get-there trail p (omega arith) in
    let same : x.0 ≡ opposite l = same_Some x.0 (opposite l) (sym (slice_get-append_left trail more p x.0 x.1) ∙ here) in
    let o = old c w l m n below at watch differ p (x.1 ∙ ap (λ (y : Lit). Some y) same) under in
    (o.0, slice_get-append_left trail more o.0 m o.1, o.2)

module _ (ws ws' : List Watch) (lists lists' : List WatchList) (c : ℕ) (l other to : Lit) (r : Relinks ws lists c l to ws' lists') (n0 : ℕ) (watched : IsWatch r.w l other n0) (apart : l ≡ other → ⊥) (to_apart : to ≡ other → ⊥) where
  -- the clause as it is watched now
  now_watched : IsWatch r.v to other r.listed.first
  now_watched = relinked-to r.w r.v l to other r.listed.first n0 r.relinked watched apart

  at_now : (d : ℕ) (w : Watch) → slice_get ws' d ≡ Some w → slice_get (set ws c r.v) d ≡ Some w
  at_now d w at = ap (λ (xs : List Watch). slice_get xs d) (sym r.watches_are) ∙ at

  is_now : (d : ℕ) (w : Watch) → slice_get ws' d ≡ Some w → d ≡ c → w ≡ r.v
  is_now d w at e =
      same_Some w r.v (sym (at_now d w at) ∙ ap (slice_get (set ws c r.v)) e ∙ slice_get-set_same ws c r.v (slice_get_within ws c r.w r.stands))

  before_now : (d : ℕ) (w : Watch) → slice_get ws' d ≡ Some w → (d ≡ c → ⊥) → slice_get ws d ≡ Some w
  before_now d w at differs = sym (slice_get-set_other ws c d r.v differs) ∙ at_now d w at

  -- it is not short
  pub relinked_short : KeepsShort ws ws'
  relinked_short d w at e = elim (same_or_other d c) [
    | inl is ↦ absurd (watched_differ r.v to other r.listed.first now_watched to_apart (subst (λ (u : Watch). u.one ≡ u.other) (is_now d w at is) e))
    | inr differs ↦ before_now d w at differs
  ]

  -- its watched literals are in it
  pub relinked_pairs : (clauses : List StepClause) → ((k : StepClause) → slice_get clauses c ≡ Some k → Contains k.literals to) → ((d : ℕ) (k : StepClause) (w : Watch) → slice_get clauses d ≡ Some k → slice_get ws d ≡ Some w → AreTwoOf k.literals w.one w.other) → (d : ℕ) (k : StepClause) (w : Watch) → slice_get clauses d ≡ Some k → slice_get ws' d ≡ Some w → AreTwoOf k.literals w.one w.other
  relinked_pairs clauses has old d k w at_k at = elim (same_or_other d c) [
    | inl is ↦ (let at_c : slice_get clauses c ≡ Some k = ap (slice_get clauses) (sym is) ∙ at_k in
        let before = watched_pair k.literals r.w l other n0 (old c k r.w at_c r.stands) watched apart in
        let two : AreTwoOf k.literals r.v.one r.v.other = two_watched k.literals r.v to other r.listed.first (record { has_one = has k at_c; has_other = before.has_other; differ = to_apart }) now_watched in
        subst (λ (u : Watch). AreTwoOf k.literals u.one u.other) (sym (is_now d w at is)) two)
    | inr differs ↦ old d k w at_k (before_now d w at differs)
  ]

  -- its watches are held
  pub relinked_held : (linked : ℕ) (trail : List Lit) (saved : List Saved) (decided : List Decided) (low head : ℕ) → IsConsistent trail → IsFalseIn trail l → c < linked → (to ≡ l) ⊎ (IsFalseIn trail to → ⊥) → AreHeld ws linked trail saved decided low head → AreHeld ws' linked trail saved decided low head
  relinked_held linked trail saved decided low head consistent l_false below moved old d w k m n under at watch differ = elim (same_or_other d c) [
    | inr differs ↦ old d w k m n under (before_now d w at differs) watch differ
    | inl is ↦ by (subst (λ (u : Watch). IsWatch u k m n) (is_now d w at is) watch) (same_literal k to)
  ]
    where
      one : IsHeld trail saved decided low head l other
      one = old c r.w l other n0 below r.stands watched apart

      swapped : (o : ℕ) × IsWatch r.w other l o
      swapped = watch-swap r.w l other n0 watched

      two : IsHeld trail saved decided low head other l
      two = old c r.w other l swapped.0 below r.stands swapped.1 (λ e. apart (sym e))

      to_held : IsHeld trail saved decided low head to other
      to_held = elim moved [
        | inl e ↦ subst (λ (x : Lit). IsHeld trail saved decided low head x other) (sym e) one
        | inr not_false ↦ λ p here before. absurd (not_false (Contains-from_slice_get trail p (opposite to) here))
      ]

      other_held : IsHeld trail saved decided low head other to
      other_held = elim moved [
        | inl e ↦ subst (λ (x : Lit). IsHeld trail saved decided low head other x) (sym e) two
        | inr not_false ↦ λ p here before. absurd (let q = two p here before in opposites_apart trail l consistent (Contains-from_slice_get trail q.0 l q.1) l_false)
      ]

      by : IsWatch r.v k m n → (k ≡ to) ⊎ (k ≡ to → ⊥) → IsHeld trail saved decided low head k m
      by v (inl e) =
          let m_is = watch-one r.v k m other n r.listed.first v (subst (λ (x : Lit). IsWatch r.v x other r.listed.first) (sym e) now_watched) differ in
          subst (λ (x : Lit). IsHeld trail saved decided low head x m) (sym e) (subst (λ (x : Lit). IsHeld trail saved decided low head to x) (sym m_is.0) to_held)
      by v (inr e) =
          let is = watch-other r.v to other k m r.listed.first n now_watched v e in
          subst (λ (x : Lit). IsHeld trail saved decided low head x m) (sym is.0) (subst (λ (x : Lit). IsHeld trail saved decided low head other x) (sym is.1) other_held)

  -- it is in the lists of its watched literals
  pub relinked_lists : (room linked : ℕ) (cs : List ℕ) → to.term.0 < room → c < linked → (Contains cs c → ⊥) → AreLists ws lists room (IsOnBut ws linked l (c ∷ cs)) → AreLists ws' lists' room (IsOnBut ws' linked l cs)
  relinked_lists room linked cs within below away old =
      relinks-lists ws ws' lists lists' room c l to (IsOnBut ws linked l (c ∷ cs)) (IsOnBut ws' linked l cs) r other n0 watched apart within old
      (λ h. h.1 refl (Contains-first c cs))
      to_away
      more
      here
      back
    where
      to_away : IsOnBut ws linked l (c ∷ cs) to c → ⊥
      to_away (on, not_waiting) = elim (same_literal to l) [
        | inl e ↦ not_waiting e (Contains-first c cs)
        | inr differs ↦ (let same : on.1 ≡ r.w = same_Some on.1 r.w (sym on.4 ∙ r.stands) in
            to_apart (watch-other r.w l other to on.2 n0 on.3 watched (subst (λ (u : Watch). IsWatch u to on.2 on.3) same on.5) differs).0)
      ]

      here : IsOnBut ws' linked l cs to c
      here = (
        (below, r.v, other, r.listed.first, ap (λ (xs : List Watch). slice_get xs c) r.watches_are ∙ slice_get-set_same ws c r.v (slice_get_within ws c r.w r.stands), now_watched, to_apart),
        λ e. away,
      )

      more : (k : Lit) (d : ℕ) → IsOnBut ws linked l (c ∷ cs) k d → IsOnBut ws' linked l cs k d
      more k d ((under, w, m, n, at, watch, differ), not_waiting) = elim (same_or_other d c) [
        | inl e ↦ (let same : w ≡ r.w = same_Some w r.w (sym at ∙ ap (slice_get ws) e ∙ r.stands) in
            let not_l : k ≡ l → ⊥ = λ k_is. not_waiting k_is (subst (Contains (c ∷ cs)) (sym e) (Contains-first c cs)) in
            let w_watch : IsWatch r.w k m n = subst (λ (u : Watch). IsWatch u k m n) same watch in
            let k_is = watch-other r.w l other k m n0 n watched w_watch not_l in (
              (
                under,
                r.v,
                to,
                n,
                ap (λ (xs : List Watch). slice_get xs d) r.watches_are ∙ ap (slice_get (set ws c r.v)) e ∙ slice_get-set_same ws c r.v (slice_get_within ws c r.w r.stands),
                relinked-other r.w r.v l to k m r.listed.first n r.relinked not_l w_watch,
                λ k_to. to_apart (sym k_to ∙ k_is.0),
              ),
              λ k_l. absurd (not_l k_l),
            ))
        | inr differs ↦ (
          (under, w, m, n, ap (λ (xs : List Watch). slice_get xs d) r.watches_are ∙ slice_get-set_other ws c d r.v differs ∙ at, watch, differ),
          λ k_l h. not_waiting k_l (Contains-later c cs d h),
        )
      ]

      back : (k : Lit) (d : ℕ) → IsOnBut ws' linked l cs k d → IsOnBut ws linked l (c ∷ cs) k d ⊎ ((k ≡ to) × (d ≡ c))
      back k d ((under, w, m, n, at, watch, differ), not_waiting) = elim (same_or_other d c) [
        | inl e ↦ elim (same_literal k to) [
          | inl k_to ↦ inr (k_to, e)
          | inr k_apart ↦ (let v_watch : IsWatch r.v k m n = subst (λ (u : Watch). IsWatch u k m n) (is_now d w at e) watch in
              let k_is = watch-other r.v to other k m r.listed.first n now_watched v_watch k_apart in
              let swapped = watch-swap r.w l other n0 watched in
              let k_watch : IsWatch r.w k l swapped.0 = subst (λ (x : Lit). IsWatch r.w x l swapped.0) (sym k_is.0) swapped.1 in
              let not_l : k ≡ l → ⊥ = λ k_l. apart (sym k_l ∙ k_is.0) in
              inl ((under, r.w, l, swapped.0, ap (slice_get ws) e ∙ r.stands, k_watch, not_l), λ k_l. absurd (not_l k_l)))
        ]
        | inr differs ↦ inl (
          (under, w, m, n, before_now d w at differs, watch, differ),
          λ k_l h. elim (Contains-first_cases c cs d h) [
            | inl e ↦ differs (sym e)
            | inr later ↦ not_waiting k_l later
          ],
        )
      ]

-- the clauses of the list that are left are still to be looked at
pub record IsVisiting (clauses : List StepClause) (room : ℕ) (ws : List Watch) (lists : List WatchList) (l : Lit) (trail : List Lit) (conflict : Option ℕ) (first count : ℕ) : Type 0 where
  pub rest : List ℕ
  pub counted : length rest ≡ count
  pub chained : IsChain ws l first rest
  pub distinct : AreDistinct rest
  pub waiting : (c : ℕ) → Contains rest c → IsOn ws (length clauses) l c
  pub lists_long : length lists ≡ room + room
  pub lists_are : AreLists ws lists room (IsOnBut ws (length clauses) l rest)
  pub long : length ws ≡ length clauses
  pub pairs : (d : ℕ) (k : StepClause) (w : Watch) → slice_get clauses d ≡ Some k → slice_get ws d ≡ Some w → AreTwoOf k.literals w.one w.other
  pub done : conflict ≡ None → (d : ℕ) (w : Watch) (m : Lit) (n : ℕ) → slice_get ws d ≡ Some w → IsWatch w l m n → (l ≡ m → ⊥) → Contains rest d ⊎ Contains trail m

-- at the start all are
pub visiting-start : (clauses : List StepClause) (room : ℕ) (ws : List Watch) (lists lists' : List WatchList) (l : Lit) (trail : List Lit) (listed : WatchList) → l.term.0 < room → AreLinked clauses room ws lists (length clauses) → slice_get lists (code_of l) ≡ Some listed → lists' ≡ set lists (code_of l) empty_list → IsVisiting clauses room ws lists' l trail None listed.first listed.count
visiting-start clauses room ws lists lists' l trail listed within linked at same =
    let o = linked.lists_are l within in
    let is : o.0 ≡ listed = same_Some o.0 listed (sym o.1 ∙ at) in
    from (subst (λ (x : WatchList). IsList ws x l (IsOn ws (length clauses) l)) is o.2)
  where
    others : (all : IsList ws listed l (IsOn ws (length clauses) l)) (k : Lit) → k.term.0 < room → (k ≡ l) ⊎ (k ≡ l → ⊥) → (x : WatchList) × (slice_get lists' (code_of k) ≡ Some x) × IsList ws x k (IsOnBut ws (length clauses) l all.chain k)
    others all k below (inl e) = subst (λ (j : Lit). (x : WatchList) × (slice_get lists' (code_of j) ≡ Some x) × IsList ws x j (IsOnBut ws (length clauses) l all.chain j)) (sym e) (
      empty_list,
      ap (λ (xs : List WatchList). slice_get xs (code_of l)) same ∙ slice_get-set_same lists (code_of l) empty_list (slice_get_within lists (code_of l) listed at),
      record {
        chain = [];
        counted = refl;
        chained = tt;
        distinct = tt;
        only = λ c h. absurd (none-some c (slice_get-from_Contains [] c h).1);
        each = λ c h. absurd (h.1 refl (all.each c h.0));
      },
    )
    others all k below (inr differs) =
        let o = linked.lists_are k below in (
          o.0,
          ap (λ (xs : List WatchList). slice_get xs (code_of k)) same ∙ slice_get-set_other lists (code_of l) (code_of k) empty_list (λ e. differs (code-own k l e)) ∙ o.1,
          record {
            chain = o.2.chain;
            counted = o.2.counted;
            chained = o.2.chained;
            distinct = o.2.distinct;
            only = λ c h. (o.2.only c h, λ e. absurd (differs e));
            each = λ c h. o.2.each c h.0;
          },
        )

    from : IsList ws listed l (IsOn ws (length clauses) l) → IsVisiting clauses room ws lists' l trail None listed.first listed.count
    from all = record {
      rest = all.chain;
      counted = all.counted;
      chained = all.chained;
      distinct = all.distinct;
      waiting = all.only;
      lists_long = ap length same ∙ length-set lists (code_of l) empty_list ∙ linked.lists_long;
      lists_are = λ k below. others all k below (same_literal k l);
      long = linked.long;
      pairs = linked.pairs;
      done = λ none d w m n at_d watch differ. inl (all.each d ((let within_d = slice_get_within ws d w at_d in let long = linked.long in omega arith), w, m, n, at_d, watch, differ));
    }

-- the first clause that is left
pub record IsNext (clauses : List StepClause) (room : ℕ) (ws : List Watch) (lists : List WatchList) (l : Lit) (first : ℕ) : Type 0 where
  pub w : Watch
  pub m : Lit
  pub n : ℕ
  pub at : slice_get ws first ≡ Some w
  pub watch : IsWatch w l m n
  pub differ : l ≡ m → ⊥
  pub k : StepClause
  pub at_k : slice_get clauses first ≡ Some k
  pub has : Contains k.literals m

pub visiting-next : (clauses : List StepClause) (room : ℕ) (ws : List Watch) (lists : List WatchList) (l : Lit) (trail : List Lit) (conflict : Option ℕ) (first count : ℕ) → 0 < count → IsVisiting clauses room ws lists l trail conflict first count → IsNext clauses room ws lists l first
visiting-next clauses room ws lists l trail conflict first count some v = by v.rest refl
  where
    by : (cs : List ℕ) → v.rest ≡ cs → IsNext clauses room ws lists l first
    by [] e = absurd (let n : length v.rest ≡ 0 = ap length e in let m = v.counted in omega arith)
    by (c ∷ cs) e =
        let chain : IsChain ws l first (c ∷ cs) = subst (IsChain ws l first) e v.chained in
        let is : first ≡ c = chain.0 in
        let on : IsOn ws (length clauses) l first = subst (IsOn ws (length clauses) l) (sym is) (v.waiting c (subst (λ (xs : List ℕ). Contains xs c) (sym e) (Contains-first c cs))) in
        let k = slice_get-there clauses first on.0 in
        record {
          w = on.1;
          m = on.2;
          n = on.3;
          at = on.4;
          watch = on.5;
          differ = on.6;
          k = k.0;
          at_k = k.1;
          has = (watched_pair k.0.literals on.1 l on.2 on.3 (v.pairs first k.0 on.1 k.1 on.4) on.5 on.6).has_other;
        }

-- one clause was looked at
pub visiting-step : (clauses : List StepClause) (room : ℕ) (ws ws' : List Watch) (lists lists' : List WatchList) (l other to : Lit) (trail trail' : List Lit) (before after : Option ℕ) (first next count count' : ℕ) → count ≡ count' + 1 → (r : Relinks ws lists first l to ws' lists') → IsWatch r.w l other next → to.term.0 < room → (to ≡ other → ⊥) → ((k : StepClause) → slice_get clauses first ≡ Some k → Contains k.literals to) → ((m : Lit) → Contains trail m → Contains trail' m) → (after ≡ None → before ≡ None) → (after ≡ None → to ≡ l → Contains trail' other) → IsVisiting clauses room ws lists l trail before first count → IsVisiting clauses room ws' lists' l trail' after next count'
visiting-step clauses room ws ws' lists lists' l other to trail trail' before after first next count count' one_less r watched within to_apart has more earlier now v = by v.rest refl
  where
    by : (cs : List ℕ) → v.rest ≡ cs → IsVisiting clauses room ws' lists' l trail' after next count'
    by [] e = absurd (let n : length v.rest ≡ 0 = ap length e in let m = v.counted in omega arith)
    by (c ∷ cs) e = record {
      rest = cs;
      counted = (let n : length v.rest ≡ suc (length cs) = ap length e in let m = v.counted in omega arith);
      chained = subst (λ (xs : List Watch). IsChain xs l next cs) (sym r.watches_are) (chain-kept ws l next cs first r.v away rest_chain);
      distinct = distinct.1;
      waiting = λ d h. waits d h;
      lists_long = ap length r.lists_are ∙ length-set lists (code_of to) _ ∙ v.lists_long;
      lists_are = relinked_lists ws ws' lists lists' first l other to r next watched apart to_apart room (length clauses) cs within on.0 away old_lists;
      long = ap length r.watches_are ∙ length-set ws first r.v ∙ v.long;
      pairs = relinked_pairs ws ws' lists lists' first l other to r next watched apart to_apart clauses has v.pairs;
      done = λ none d w m n at watch differ. finished none d w m n at watch differ (same_or_other d first);
    }
      where
        chain : IsChain ws l first (c ∷ cs)
        chain = subst (IsChain ws l first) e v.chained

        is : c ≡ first
        is = sym chain.0

        distinct : AreDistinct (c ∷ cs)
        distinct = subst AreDistinct e v.distinct

        away : Contains cs first → ⊥
        away h = distinct.0 (subst (Contains cs) (sym is) h)

        waiting : (d : ℕ) → Contains (c ∷ cs) d → IsOn ws (length clauses) l d
        waiting d h = v.waiting d (subst (λ (xs : List ℕ). Contains xs d) (sym e) h)

        on : IsOn ws (length clauses) l first
        on = subst (IsOn ws (length clauses) l) is (waiting c (Contains-first c cs))

        w_is : on.1 ≡ r.w
        w_is = same_Some on.1 r.w (sym on.4 ∙ r.stands)

        on_watch : IsWatch r.w l on.2 on.3
        on_watch = subst (λ (u : Watch). IsWatch u l on.2 on.3) w_is on.5

        apart : l ≡ other → ⊥
        apart h = on.6 (h ∙ sym (watch-one r.w l on.2 other on.3 next on_watch watched on.6).0)

        rest_chain : IsChain ws l next cs
        rest_chain =
            let w_here : chain.1 ≡ r.w = same_Some chain.1 r.w (sym chain.4 ∙ ap (slice_get ws) is ∙ r.stands) in
            let link : IsWatch r.w l chain.2 chain.3 = subst (λ (u : Watch). IsWatch u l chain.2 chain.3) w_here chain.5 in
            let next_is = watch-one r.w l other chain.2 next chain.3 watched link apart in
            subst (λ (x : ℕ). IsChain ws l x cs) (sym next_is.1) chain.6

        waits : (d : ℕ) → Contains cs d → IsOn ws' (length clauses) l d
        waits d h =
            let o = waiting d (Contains-later c cs d h) in
            (o.0, o.1, o.2, o.3, ap (λ (xs : List Watch). slice_get xs d) r.watches_are ∙ slice_get-set_other ws first d r.v (λ same. away (subst (Contains cs) same h)) ∙ o.4, o.5, o.6)

        old_lists : AreLists ws lists room (IsOnBut ws (length clauses) l (first ∷ cs))
        old_lists =
            let rest_is : v.rest ≡ first ∷ cs = e ∙ ap (λ (x : ℕ). x ∷ cs) is in
            subst (λ (xs : List ℕ). AreLists ws lists room (IsOnBut ws (length clauses) l xs)) rest_is v.lists_are

        finished : after ≡ None → (d : ℕ) (w : Watch) (m : Lit) (n : ℕ) → slice_get ws' d ≡ Some w → IsWatch w l m n → (l ≡ m → ⊥) → (d ≡ first) ⊎ (d ≡ first → ⊥) → Contains cs d ⊎ Contains trail' m
        finished none d w m n at watch differ (inr differs) =
            let old_at : slice_get ws d ≡ Some w = sym (slice_get-set_other ws first d r.v differs) ∙ ap (λ (xs : List Watch). slice_get xs d) (sym r.watches_are) ∙ at in
            elim (v.done (earlier none) d w m n old_at watch differ) [
              | inr h ↦ inr (more m h)
              | inl h ↦ elim (Contains-first_cases c cs d (subst (λ (xs : List ℕ). Contains xs d) e h)) [
                | inl same ↦ absurd (differs (sym same ∙ is))
                | inr later ↦ inl later
              ]
            ]
        finished none d w m n at watch differ (inl same) =
            let w_now : w ≡ r.v = same_Some w r.v (sym at ∙ ap (λ (xs : List Watch). slice_get xs d) r.watches_are ∙ ap (slice_get (set ws first r.v)) same ∙ slice_get-set_same ws first r.v (slice_get_within ws first r.w r.stands)) in
            let v_watch : IsWatch r.v l m n = subst (λ (u : Watch). IsWatch u l m n) w_now watch in
            let now_watch : IsWatch r.v to other r.listed.first = relinked-to r.w r.v l to other r.listed.first next r.relinked watched apart in
            elim (same_literal to l) [
              | inl t ↦ (let link : IsWatch r.v l other r.listed.first = subst (λ (x : Lit). IsWatch r.v x other r.listed.first) t now_watch in
                  let m_is = watch-one r.v l m other n r.listed.first v_watch link differ in
                  inr (subst (Contains trail') (sym m_is.0) (now none t)))
              | inr t ↦ (let l_is = watch-other r.v to other l m r.listed.first n now_watch v_watch (λ x. t (sym x)) in absurd (apart l_is.0))
            ]

-- at the end none is
pub visiting-end : (clauses : List StepClause) (room : ℕ) (ws : List Watch) (lists : List WatchList) (l : Lit) (trail : List Lit) (conflict : Option ℕ) (first count : ℕ) → count ≡ 0 → IsVisiting clauses room ws lists l trail conflict first count → AreLinked clauses room ws lists (length clauses) × (conflict ≡ None → (d : ℕ) (w : Watch) (m : Lit) (n : ℕ) → slice_get ws d ≡ Some w → IsWatch w l m n → (l ≡ m → ⊥) → Contains trail m)
visiting-end clauses room ws lists l trail conflict first count zero_count v = (
  record {
    long = v.long;
    within = omega arith;
    lists_long = v.lists_long;
    lists_are = lists-same ws lists room (IsOnBut ws (length clauses) l v.rest) (IsOn ws (length clauses)) v.lists_are (λ k d h. h.0) (λ k d h. (h, λ e inside. none d inside));
    pairs = v.pairs;
  },
  λ no d w m n at watch differ. elim (v.done no d w m n at watch differ) [
    | inl h ↦ absurd (none d h)
    | inr h ↦ h
  ],
)
  where
    none : (d : ℕ) → Contains v.rest d → ⊥
    none d h = let at = slice_get-from_Contains v.rest d h in let within = slice_get_within v.rest at.0 d at.1 in let n = v.counted in omega arith

-- meanwhile each list has fewer clauses than there are
pub visiting-few : (clauses : List StepClause) (room : ℕ) (ws : List Watch) (lists : List WatchList) (l : Lit) (trail : List Lit) (conflict : Option ℕ) (first count : ℕ) → IsVisiting clauses room ws lists l trail conflict first count → (k : Lit) (listed : WatchList) → k.term.0 < room → slice_get lists (code_of k) ≡ Some listed → listed.count ≤ length ws
visiting-few clauses room ws lists l trail conflict first count v =
    lists-few ws lists room (IsOnBut ws (length clauses) l v.rest) (length ws) v.lists_are (λ k d on. (let h = on.0.0 in let long = v.long in omega arith))

-- the opposite of the literal at an index
pub worked-through : (ws : List Watch) (trail : List Lit) (index : ℕ) (l k : Lit) → slice_get trail index ≡ Some k → l ≡ opposite k → ((d : ℕ) (w : Watch) (m : Lit) (n : ℕ) → slice_get ws d ≡ Some w → IsWatch w l m n → (l ≡ m → ⊥) → Contains trail m) → IsWorkedThrough ws trail index
worked-through ws trail index l k at is all d w j m n at_d watch differ here =
    let k_is : k ≡ opposite j = same_Some k (opposite j) (sym at ∙ here) in
    let l_is : l ≡ j = is ∙ ap opposite k_is ∙ opposite-opposite j in
    all d w m n at_d (subst (λ (x : Lit). IsWatch w x m n) (sym l_is) watch) (λ e. differ (sym l_is ∙ e))

-- what was forced
pub forced-true : (clauses : List StepClause) (a : Assigned) (l : Lit) → Contains a.literals l → IsForcedBy clauses a a l None
forced-true clauses a l h = record { propagated = Propagated-none clauses a; outcome = h; kept = λ n. h }

pub forced-unset : (clauses : List StepClause) (k : StepClause) (a : Assigned) (l : Lit) (index : ℕ) → slice_get clauses index ≡ Some k → IsForced a.literals k.literals l → IsUnset a.literals l → IsForcedBy clauses a (implied a l index) l None
forced-unset clauses k a l index at forced unset = record {
  propagated = Propagated-examined clauses index k a (implied a l index) at (grows l refl (record { unset = unset; forced = forced }));
  outcome = Contains-push a.literals l;
  kept = λ n. Contains-push a.literals l;
}

pub forced-false : (clauses : List StepClause) (k : StepClause) (a : Assigned) (l : Lit) (index : ℕ) → slice_get clauses index ≡ Some k → IsForced a.literals k.literals l → IsFalseIn a.literals l → IsForcedBy clauses a a l (Some index)
forced-false clauses k a l index at forced false_one = record {
  propagated = Propagated-none clauses a;
  outcome = (
    k,
    at,
    All-weaker (λ j. (j ≡ l) ⊎ IsFalseIn a.literals j) (IsFalseIn a.literals)
        (λ j h. elim h [ inl e ↦ subst (IsFalseIn a.literals) (sym e) false_one | inr f ↦ f ])
        k.literals forced.others_false,
  );
  kept = λ n. absurd (n false_one);
}

is_none : (r : Option ℕ) → is_some r ≡ false → r ≡ None
is_none None e = refl
is_none (Some i) e = absurd (true≢false e)

-- how a clause was looked at: some clause is false
pub looks-conflict : (clauses : List StepClause) (a : Assigned) (ws ws' : List Watch) (lists lists' : List WatchList) (c : ℕ) (l other : Lit) (r : Option ℕ) → Relinks ws lists c l l ws' lists' → is_some r ≡ true → MatchOption r (Unit {0}) (IsFalseAt clauses a.literals) → LooksAt clauses a a ws lists c l other ws' lists' r r
looks-conflict clauses a ws ws' lists lists' c l other r relinks some conflict = record {
  propagated = Propagated-none clauses a;
  to = l;
  relinks = relinks;
  moved = inl refl;
  outcome = by r some conflict;
  earlier = λ e. e;
}
  where
    by : (s : Option ℕ) → is_some s ≡ true → MatchOption s (Unit {0}) (IsFalseAt clauses a.literals) → MatchOption s (l ≡ l → Contains a.literals other) (IsFalseAt clauses a.literals)
    by None e h = absurd (true≢false (sym e))
    by (Some i) e h = h

-- the other watched literal is true
pub looks-true : (clauses : List StepClause) (a : Assigned) (ws ws' : List Watch) (lists lists' : List WatchList) (c : ℕ) (l other : Lit) (before : Option ℕ) → is_some before ≡ false → Relinks ws lists c l l ws' lists' → Contains a.literals other → LooksAt clauses a a ws lists c l other ws' lists' before None
looks-true clauses a ws ws' lists lists' c l other before empty relinks holds = record {
  propagated = Propagated-none clauses a;
  to = l;
  relinks = relinks;
  moved = inl refl;
  outcome = λ e. holds;
  earlier = λ e. is_none before empty;
}

-- another literal is watched
pub looks-moved : (clauses : List StepClause) (k : StepClause) (a : Assigned) (ws ws' : List Watch) (lists lists' : List WatchList) (c : ℕ) (l other to : Lit) (before : Option ℕ) → is_some before ≡ false → slice_get clauses c ≡ Some k → Relinks ws lists c l to ws' lists' → IsReplacement a.literals k.literals other to → IsFalseIn a.literals l → LooksAt clauses a a ws lists c l other ws' lists' before None
looks-moved clauses k a ws ws' lists lists' c l other to before empty at relinks replaces false_one = record {
  propagated = Propagated-none clauses a;
  to = to;
  relinks = relinks;
  moved = inr (k, at, replaces);
  outcome = λ e. absurd (replaces.not_false (subst (IsFalseIn a.literals) (sym e) false_one));
  earlier = λ e. is_none before empty;
}

-- the other watched literal is forced
pub looks-forced : (clauses : List StepClause) (a b : Assigned) (ws ws' : List Watch) (lists lists' : List WatchList) (c : ℕ) (l other : Lit) (before r : Option ℕ) → is_some before ≡ false → Relinks ws lists c l l ws' lists' → IsForcedBy clauses a b other r → LooksAt clauses a b ws lists c l other ws' lists' before r
looks-forced clauses a b ws ws' lists lists' c l other before r empty relinks forced = record {
  propagated = forced.propagated;
  to = l;
  relinks = relinks;
  moved = inl refl;
  outcome = by r forced.outcome;
  earlier = λ e. is_none before empty;
}
  where
    by : (s : Option ℕ) → MatchOption s (Contains b.literals other) (IsFalseAt clauses b.literals) → MatchOption s (l ≡ l → Contains b.literals other) (IsFalseAt clauses b.literals)
    by None h = λ e. h
    by (Some i) h = h

-- the literals of a clause are within the room
pub literal_within : (clauses : List StepClause) (room c : ℕ) (k : StepClause) (l : Lit) → All (λ (d : StepClause). All (λ (m : Lit). m.term.0 < room) d.literals) clauses → slice_get clauses c ≡ Some k → Contains k.literals l → l.term.0 < room
literal_within clauses room c k l within at has =
    All-contains (λ (m : Lit). m.term.0 < room) k.literals l (All-contains (λ (d : StepClause). All (λ (m : Lit). m.term.0 < room) d.literals) clauses k within (Contains-from_slice_get clauses c k at)) has

-- what indexing reads
pub literals-at : (clauses : List StepClause) (c : ℕ) (k d : StepClause) (literals : Clause) → slice_get clauses c ≡ Some k → literals ≡ (get_or clauses c d).literals → literals ≡ k.literals
literals-at clauses c k d literals at e = e ∙ ap (λ (x : StepClause). x.literals) (get_or_from_slice_get clauses c k d at)

pub two-differ : (clause : Clause) (one other : Lit) → AreTwoOf clause one other → (one ≡ other → ⊥) → AreDifferentIn clause one other
two-differ clause one other (inl two) differ = two
two-differ clause one other (inr (short, same)) differ = absurd (differ same)

pub next-at : (clauses : List StepClause) (room : ℕ) (ws : List Watch) (lists : List WatchList) (l : Lit) (first : ℕ) (w : Watch) → IsNext clauses room ws lists l first → w ≡ get_or ws first w → slice_get ws first ≡ Some w
next-at clauses room ws lists l first w next e = next.at ∙ ap (λ (u : Watch). Some u) (sym (e ∙ get_or_from_slice_get ws first next.w w next.at))

pub next-clause : (clauses : List StepClause) (room : ℕ) (ws : List Watch) (lists : List WatchList) (l other : Lit) (first n : ℕ) (w : Watch) → IsNext clauses room ws lists l first → slice_get ws first ≡ Some w → IsWatch w l other n → (k : StepClause) × (slice_get clauses first ≡ Some k) × Contains k.literals other
next-clause clauses room ws lists l other first n w next at watch =
    let is : next.w ≡ w = same_Some next.w w (sym next.at ∙ at) in
    let m_is = watch-one w l next.m other next.n n (subst (λ (u : Watch). IsWatch u l next.m next.n) is next.watch) watch next.differ in
    (next.k, next.at_k, subst (Contains next.k.literals) m_is.0 next.has)

-- what an answer tells where there is none
pub none_then : (r : Option ℕ) (P : Type 0) (Q : ℕ → Type 0) → MatchOption r (Unit {0}) Q → (r ≡ None → P) → MatchOption r P Q
none_then None P Q h f = f refl
none_then (Some i) P Q h f = h

-- one step of a visit
module _ (clauses : List StepClause) (a b : Assigned) (ws ws' : List Watch) (lists lists' : List WatchList) (l other : Lit) (before after : Option ℕ) (first next count count' : ℕ) (w : Watch) (one_less : count ≡ count' + 1) (consistent : IsConsistent a.literals) (false_one : IsFalseIn a.literals l) (l_within : l.term.0 < a.room) (within : All (λ (d : StepClause). All (λ (m : Lit). m.term.0 < a.room) d.literals) clauses) (at : slice_get ws first ≡ Some w) (watch : IsWatch w l other next) (v : IsVisiting clauses a.room ws lists l a.literals before first count) (looks : LooksAt clauses a b ws lists first l other ws' lists' before after) where
  the_next : IsNext clauses a.room ws lists l first
  the_next = visiting-next clauses a.room ws lists l a.literals before first count (omega arith) v

  w_is : w ≡ looks.relinks.w
  w_is = same_Some w looks.relinks.w (sym at ∙ looks.relinks.stands)

  relinks_watch : IsWatch looks.relinks.w l other next
  relinks_watch = subst (λ (u : Watch). IsWatch u l other next) w_is watch

  m_is : the_next.m ≡ other
  m_is =
      let w_there : the_next.w ≡ w = same_Some the_next.w w (sym the_next.at ∙ at) in
      (watch-one w l the_next.m other the_next.n next (subst (λ (u : Watch). IsWatch u l the_next.m the_next.n) w_there the_next.watch) watch the_next.differ).0

  l_apart : l ≡ other → ⊥
  l_apart e = the_next.differ (e ∙ sym m_is)

  to_apart : looks.to ≡ other → ⊥
  to_apart e = elim looks.moved [
    | inl same ↦ l_apart (sym same ∙ e)
    | inr p ↦ p.2.differs e
  ]

  to_has : (k : StepClause) → slice_get clauses first ≡ Some k → Contains k.literals looks.to
  to_has k at_k = elim looks.moved [
    | inl same ↦ subst (Contains k.literals) (sym same) (watched_pair k.literals w l other next (v.pairs first k w at_k at) watch l_apart).has_one
    | inr p ↦ subst (λ (x : StepClause). Contains x.literals looks.to) (same_Some p.0 k (sym p.1 ∙ at_k)) p.2.inside
  ]

  to_within : looks.to.term.0 < a.room
  to_within = literal_within clauses a.room first the_next.k looks.to within the_next.at_k (to_has the_next.k the_next.at_k)

  now_true : after ≡ None → looks.to ≡ l → Contains b.literals other
  now_true e = by after e looks.outcome
    where
      by : (r : Option ℕ) → r ≡ None → MatchOption r (looks.to ≡ l → Contains b.literals other) (IsFalseAt clauses b.literals) → looks.to ≡ l → Contains b.literals other
      by None e h = h
      by (Some i) e h = absurd (none-some i (sym e))

  grown : (m : Lit) → Contains a.literals m → Contains b.literals m
  grown m h = subst (λ (xs : List Lit). Contains xs m) (sym looks.propagated.literals) (Contains-append_left a.literals looks.propagated.more m h)

  pub visit_visits : IsVisiting clauses b.room ws' lists' l b.literals after next count'
  visit_visits = subst (λ (n : ℕ). IsVisiting clauses n ws' lists' l b.literals after next count') (sym looks.propagated.room)
      (visiting-step clauses a.room ws ws' lists lists' l other looks.to a.literals b.literals before after first next count count' one_less looks.relinks relinks_watch to_within to_apart to_has grown looks.earlier now_true v)

  pub visit_short : KeepsShort ws ws'
  visit_short = relinked_short ws ws' lists lists' first l other looks.to looks.relinks next relinks_watch l_apart to_apart

  pub visit_held : (saved : List Saved) (low head : ℕ) → head ≤ length a.literals → AreHeld ws (length clauses) a.literals saved a.decided low head → AreHeld ws' (length clauses) b.literals saved b.decided low head
  visit_held saved low head fits old =
      let moved : (looks.to ≡ l) ⊎ (IsFalseIn a.literals looks.to → ⊥) = elim looks.moved [ inl same ↦ inl same | inr p ↦ inr p.2.not_false ] in
      let held = relinked_held ws ws' lists lists' first l other looks.to looks.relinks next relinks_watch l_apart to_apart (length clauses) a.literals saved a.decided low head consistent false_one (slice_get_within clauses first the_next.k the_next.at_k) moved old in
      subst (λ (ds : List Decided). AreHeld ws' (length clauses) b.literals saved ds low head) (sym looks.propagated.decided)
      (subst (λ (xs : List Lit). AreHeld ws' (length clauses) xs saved a.decided low head) (sym looks.propagated.literals)
      (held-longer ws' (length clauses) a.literals looks.propagated.more saved a.decided low head fits held))
