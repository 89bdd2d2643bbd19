-- The clauses that are put into the lists of their watched literals.
use Rattle.std.proofs.Common.{◌≡◌, ℕ, ◌+◌, ◌<◌, ◌≤◌, ◌⊎◌, inl, inr, List, [], ◌++◌, length, Option, Some, None, slice_get, set, All, Contains, MatchOption, refl, sym, ap, subst, ◌∙◌, arith}
use Rattle.std.proofs.lemmas.Option.{same_Some, slice_get_within}
use Rattle.std.proofs.lemmas.List.{length-set, append-nil}
use Rattle.std.proofs.lemmas.List.Elements.{All-weaker}
use Rattle.ct_terms.specs.declared.ids.Lit.{Lit}
use Rattle.ct_terms.specs.Literal.{opposite}
use Rattle.ct_terms.specs.Clause.{Clause}
use Rattle.ct_terms.specs.Propagation.{IsFalseIn, AreFalseIn}
use Rattle.ct_sat.specs.declared.clause.StepClause.{StepClause}
use Rattle.ct_sat.specs.declared.decided.Decided.{Decided}
use Rattle.ct_sat.specs.declared.watch.Watch.{Watch}
use Rattle.ct_sat.specs.declared.watch.WatchList.{WatchList}
use Rattle.ct_sat.specs.declared.progress.Saved.{Saved}
use Rattle.ct_sat.specs.declared.progress.Progress.{Progress}
use Rattle.ct_sat.specs.Assigned.{Assigned}
use Rattle.ct_sat.specs.State.{IsConsistent}
use Rattle.ct_sat.specs.Watches.{code_of, IsWatch, IsRelinked, AreLists, IsOn, Relinks}
use Rattle.ct_sat.specs.Watching.{AreDifferentIn, AreTwoOf, StandsBefore, AreHeld, AreBefore, AreLinked, KeepsShort, Puts, Attaches, IsLowered, IsReplacement, IsForcedBy}
use Rattle.ct_lemmas.proofs.Contained.{Contains-from_slice_get, slice_get-from_Contains}
use Rattle.ct_lemmas.proofs.Lists.{slice_get-append_left, slice_get-set_other, slice_get-set_same, slice_get-there}
use Rattle.ct_lemmas.proofs.Numbers.{same_or_other}
use Rattle.ct_sat.proofs.StatusLemmas.{Propagated-none, Propagated-both}
use Rattle.ct_sat.proofs.WatchLemmas.{chain-kept, code-own, code-within, lists-few, lists-same, relinks-lists}
use Rattle.ct_sat.proofs.VisitLemmas.{held-longer, literal_within}

pub Attaches-both : (clauses : List StepClause) (a b c : Assigned) (ws xs ys : List Watch) (p q r : Progress) → Attaches clauses a b ws xs p q → Attaches clauses b c xs ys q r → Attaches clauses a c ws ys p r
Attaches-both clauses a b c ws xs ys p q r one two = record {
  propagated = Propagated-both clauses a b c one.propagated two.propagated;
  short = λ d w at e. one.short d w (two.short d w at e) e;
  held = λ saved before long h. two.held saved (subst (AreBefore saved) (sym one.propagated.decided) before) (long ∙ ap length (sym one.propagated.decided)) (one.held saved before long h);
  low = (let x = one.low in let y = two.low in omega arith);
  head = two.head ∙ one.head;
  settled = two.settled ∙ one.settled;
}

-- a number below the next one
below_or_last : (d n : ℕ) → d < n + 1 → (d < n) ⊎ (d ≡ n)
below_or_last d n h = elim (same_or_other d n) [ inl e ↦ inr e | inr differs ↦ inl (omega arith) ]

-- what stands in the first part of the trail stood there
earlier : (trail more : List Lit) (p : ℕ) (x : Lit) → p < length trail → slice_get (trail ++ more) p ≡ Some x → slice_get trail p ≡ Some x
earlier trail more p x within here =
    let y = slice_get-there trail p within in
    y.1 ∙ sym (slice_get-append_left trail more p y.0 y.1) ∙ here

-- a short clause is in no list
not_watched : (w : Watch) (l m : Lit) (n : ℕ) → w.one ≡ w.other → IsWatch w l m n → (l ≡ m → ⊥) → ⊥
not_watched w l m n same (inl (one, other, after)) differ = differ (sym one ∙ same ∙ other)
not_watched w l m n same (inr (other, one, after)) differ = differ (sym other ∙ sym same ∙ one)

pub linked-short : (clauses : List StepClause) (room : ℕ) (ws : List Watch) (lists : List WatchList) (linked : ℕ) (w : Watch) → linked < length clauses → slice_get ws linked ≡ Some w → w.one ≡ w.other → AreLinked clauses room ws lists linked → AreLinked clauses room ws lists (linked + 1)
linked-short clauses room ws lists linked w more at same old = record {
  long = old.long;
  within = omega arith;
  lists_long = old.lists_long;
  lists_are = lists-same ws lists room (IsOn ws linked) (IsOn ws (linked + 1)) old.lists_are
      (λ l d h. ((let b = h.0 in omega arith), h.1, h.2, h.3, h.4, h.5, h.6))
      (λ l d h. elim (below_or_last d linked h.0) [
        | inl b ↦ (b, h.1, h.2, h.3, h.4, h.5, h.6)
        | inr e ↦ absurd (let is : h.1 ≡ w = same_Some h.1 w (sym h.4 ∙ ap (slice_get ws) e ∙ at) in
            not_watched w l h.2 h.3 same (subst (λ (u : Watch). IsWatch u l h.2 h.3) is h.5) h.6)
      ]);
  pairs = old.pairs;
}

pub attaches-short : (clauses : List StepClause) (a : Assigned) (ws : List Watch) (p p' : Progress) (w : Watch) → slice_get ws p.linked ≡ Some w → w.one ≡ w.other → p' ≡ record p { linked = p.linked + 1 } → Attaches clauses a a ws ws p p'
attaches-short clauses a ws p p' w at same is = subst (Attaches clauses a a ws ws p) (sym is) (record {
  propagated = Propagated-none clauses a;
  short = λ d u at_d e. at_d;
  held = λ saved before long h d u l m n below at_d watch differ. elim (below_or_last d p.linked below) [
    | inl b ↦ h d u l m n b at_d watch differ
    | inr e ↦ absurd (let u_is : u ≡ w = same_Some u w (sym at_d ∙ ap (slice_get ws) e ∙ at) in
        not_watched w l m n same (subst (λ (x : Watch). IsWatch x l m n) u_is watch) differ)
  ];
  low = omega arith;
  head = refl;
  settled = refl;
})

-- the front of a literal's own list
relinked-keeps : (w v : Watch) (from : Lit) (next : ℕ) → IsRelinked w v from from next → (v.one ≡ w.one) × (v.other ≡ w.other)
relinked-keeps w v from next (inl (is, same)) = (ap (λ (u : Watch). u.one) same ∙ sym is, ap (λ (u : Watch). u.other) same)
relinked-keeps w v from next (inr (is, same)) = (ap (λ (u : Watch). u.one) same, ap (λ (u : Watch). u.other) same ∙ sym is)

abbrev pub chosen : Lit → Lit → Watch
chosen one other = record { one = one; other = other; after_one = 0; after_other = 0 }

-- the second literal, once the clause is in the list of the first
pub second-watched : (ws ws' : List Watch) (lists lists' : List WatchList) (c : ℕ) (one other : Lit) → Relinks (set ws c (chosen one other)) lists c one one ws' lists' → c < length ws → (w : Watch) × (m : Lit) × (n : ℕ) × (slice_get ws' c ≡ Some w) × IsWatch w other m n
second-watched ws ws' lists lists' c one other r within =
    let w_is : r.w ≡ chosen one other = same_Some r.w (chosen one other) (sym r.stands ∙ slice_get-set_same ws c (chosen one other) within) in
    let keeps = relinked-keeps r.w r.v one r.listed.first r.relinked in
    let at : slice_get ws' c ≡ Some r.v = ap (λ (xs : List Watch). slice_get xs c) r.watches_are ∙ slice_get-set_same (set ws c (chosen one other)) c r.v (slice_get_within (set ws c (chosen one other)) c r.w r.stands) in
    (r.v, r.v.one, r.v.after_other, at, inr (keeps.1 ∙ ap (λ (u : Watch). u.other) w_is, refl, refl))

pub second-room : (ws ws' : List Watch) (lists lists' : List WatchList) (c : ℕ) (w : Watch) (one other : Lit) → Relinks (set ws c w) lists c one one ws' lists' → (one ≡ other → ⊥) → ((listed : WatchList) → slice_get lists (code_of other) ≡ Some listed → listed.count ≤ length ws) → (listed : WatchList) → slice_get lists' (code_of other) ≡ Some listed → listed.count ≤ length ws'
second-room ws ws' lists lists' c w one other r differ few listed at =
    let long : length ws' ≡ length ws = ap length r.watches_are ∙ length-set (set ws c w) c r.v ∙ length-set ws c w in
    let before : slice_get lists (code_of other) ≡ Some listed = sym (slice_get-set_other lists (code_of one) (code_of other) (record { first = c; count = r.listed.count + 1 }) (λ e. differ (sym (code-own other one e)))) ∙ ap (λ (xs : List WatchList). slice_get xs (code_of other)) (sym r.lists_are) ∙ at in
    let h = few listed before in omega arith

-- the literals of a clause have lists, with fewer clauses than there are
module _ (clauses : List StepClause) (room : ℕ) (ws : List Watch) (lists : List WatchList) (linked : ℕ) (within : All (λ (d : StepClause). All (λ (m : Lit). m.term.0 < room) d.literals) clauses) (old : AreLinked clauses room ws lists linked) (c : ℕ) (k : StepClause) (at : slice_get clauses c ≡ Some k) (l : Lit) (has : Contains k.literals l) where
  pub literal-room : l.term.0 < room
  literal-room = literal_within clauses room c k l within at has

  pub literal-list : code_of l < length lists
  literal-list = let h = code-within l room literal-room in let long = old.lists_long in omega arith

  pub literal-few : (listed : WatchList) → slice_get lists (code_of l) ≡ Some listed → listed.count ≤ length ws
  literal-few listed at_l =
      lists-few ws lists room (IsOn ws linked) (length ws) old.lists_are (λ j d on. (let h = on.0 in let w = old.within in let long = old.long in omega arith)) l listed literal-room at_l

module _ (clauses : List StepClause) (room : ℕ) (ws ws' : List Watch) (lists lists' : List WatchList) (linked : ℕ) (one other : Lit) (k : StepClause) (at_k : slice_get clauses linked ≡ Some k) (two : AreDifferentIn k.literals one other) (puts : Puts ws lists linked one other ws' lists') (old : AreLinked clauses room ws lists linked) where
  within_ws : linked < length ws
  within_ws = let h = slice_get_within clauses linked k at_k in let long = old.long in omega arith

  first_w : puts.first.w ≡ chosen one other
  first_w = same_Some puts.first.w (chosen one other) (sym puts.first.stands ∙ slice_get-set_same ws linked (chosen one other) within_ws)

  first_watch : IsWatch puts.first.w one other 0
  first_watch = subst (λ (u : Watch). IsWatch u one other 0) (sym first_w) (inl (refl, refl, refl))

  first_keeps : (puts.first.v.one ≡ one) × (puts.first.v.other ≡ other)
  first_keeps =
      let keeps = relinked-keeps puts.first.w puts.first.v one puts.first.listed.first puts.first.relinked in
      (keeps.0 ∙ ap (λ (u : Watch). u.one) first_w, keeps.1 ∙ ap (λ (u : Watch). u.other) first_w)

  between_at : slice_get puts.between linked ≡ Some puts.first.v
  between_at = ap (λ (xs : List Watch). slice_get xs linked) puts.first.watches_are
      ∙ slice_get-set_same (set ws linked (chosen one other)) linked puts.first.v (slice_get_within (set ws linked (chosen one other)) linked puts.first.w puts.first.stands)

  second_w : puts.second.w ≡ puts.first.v
  second_w = same_Some puts.second.w puts.first.v (sym puts.second.stands ∙ between_at)

  second_watch : (n : ℕ) × IsWatch puts.second.w other one n
  second_watch = (puts.second.w.after_other, inr (ap (λ (u : Watch). u.other) second_w ∙ first_keeps.1, ap (λ (u : Watch). u.one) second_w ∙ first_keeps.0, refl))

  second_keeps : (puts.second.v.one ≡ one) × (puts.second.v.other ≡ other)
  second_keeps =
      let keeps = relinked-keeps puts.second.w puts.second.v other puts.second.listed.first puts.second.relinked in
      (keeps.0 ∙ ap (λ (u : Watch). u.one) second_w ∙ first_keeps.0, keeps.1 ∙ ap (λ (u : Watch). u.other) second_w ∙ first_keeps.1)

  put_at : slice_get ws' linked ≡ Some puts.second.v
  put_at = ap (λ (xs : List Watch). slice_get xs linked) puts.second.watches_are
      ∙ slice_get-set_same puts.between linked puts.second.v (slice_get_within puts.between linked puts.second.w puts.second.stands)

  -- the clause watches the two
  pub put_watch : (w : Watch) → slice_get ws' linked ≡ Some w → (w.one ≡ one) × (w.other ≡ other)
  put_watch w at =
      let is : w ≡ puts.second.v = same_Some w puts.second.v (sym at ∙ put_at) in
      (ap (λ (u : Watch). u.one) is ∙ second_keeps.0, ap (λ (u : Watch). u.other) is ∙ second_keeps.1)

  -- the others watch what they did
  pub put_others : (d : ℕ) → (d ≡ linked → ⊥) → slice_get ws' d ≡ slice_get ws d
  put_others d differs = ap (λ (xs : List Watch). slice_get xs d) puts.second.watches_are
      ∙ slice_get-set_other puts.between linked d puts.second.v differs
      ∙ ap (λ (xs : List Watch). slice_get xs d) puts.first.watches_are
      ∙ slice_get-set_other (set ws linked (chosen one other)) linked d puts.first.v differs
      ∙ slice_get-set_other ws linked d (chosen one other) differs

  pub put_short : KeepsShort ws ws'
  put_short d w at e = elim (same_or_other d linked) [
    | inl is ↦ (let watch = put_watch w (ap (slice_get ws') (sym is) ∙ at) in absurd (two.differ (sym watch.0 ∙ e ∙ watch.1)))
    | inr differs ↦ sym (put_others d differs) ∙ at
  ]

  chosen_lists : AreLists (set ws linked (chosen one other)) lists room (IsOn ws linked)
  chosen_lists l below =
      let o = old.lists_are l below in (
        o.0,
        o.1,
        record {
          chain = o.2.chain;
          counted = o.2.counted;
          chained = chain-kept ws l o.0.first o.2.chain linked (chosen one other) (λ h. (let on = o.2.only linked h in let b = on.0 in omega arith)) o.2.chained;
          distinct = o.2.distinct;
          only = o.2.only;
          each = o.2.each;
        },
      )

  abbrev Between : Lit → ℕ → Type 0
  Between l d = IsOn ws linked l d ⊎ ((l ≡ one) × (d ≡ linked))

  not_yet : (l : Lit) → IsOn ws linked l linked → ⊥
  not_yet l on = let b = on.0 in omega arith

  between_lists : one.term.0 < room → AreLists puts.between puts.between_lists room Between
  between_lists one_within = relinks-lists (set ws linked (chosen one other)) puts.between lists puts.between_lists room linked one one (IsOn ws linked) Between puts.first other 0 first_watch two.differ one_within chosen_lists
      (not_yet one) (not_yet one) (λ l d h. inl h) (inr (refl, refl)) (λ l d h. h)

  put_lists : one.term.0 < room → other.term.0 < room → AreLists ws' lists' room (IsOn ws' (linked + 1))
  put_lists one_within other_within = relinks-lists puts.between ws' puts.between_lists lists' room linked other other Between (IsOn ws' (linked + 1)) puts.second one second_watch.0 second_watch.1 (λ e. two.differ (sym e)) other_within (between_lists one_within)
      not_other not_other more
      (omega arith, puts.second.v, one, puts.second.v.after_other, put_at, inr (second_keeps.1, second_keeps.0, refl), λ e. two.differ (sym e))
      back
    where
      not_other : Between other linked → ⊥
      not_other (inl on) = not_yet other on
      not_other (inr p) = two.differ (sym p.0)

      more : (l : Lit) (d : ℕ) → Between l d → IsOn ws' (linked + 1) l d
      more l d (inl on) = (
        (let b = on.0 in omega arith),
        on.1,
        on.2,
        on.3,
        put_others d (λ e. (let b = on.0 in omega arith)) ∙ on.4,
        on.5,
        on.6,
      )
      more l d (inr p) = (
        (let e = p.1 in omega arith),
        puts.second.v,
        other,
        puts.second.v.after_one,
        ap (slice_get ws') p.1 ∙ put_at,
        inl (second_keeps.0 ∙ sym p.0, second_keeps.1, refl),
        λ e. two.differ (sym p.0 ∙ e),
      )

      back : (l : Lit) (d : ℕ) → IsOn ws' (linked + 1) l d → Between l d ⊎ ((l ≡ other) × (d ≡ linked))
      back l d on = elim (same_or_other d linked) [
        | inr differs ↦ inl (inl ((let b = on.0 in omega arith), on.1, on.2, on.3, sym (put_others d differs) ∙ on.4, on.5, on.6))
        | inl e ↦ (let watch = put_watch on.1 (ap (slice_get ws') (sym e) ∙ on.4) in elim on.5 [
          | inl w ↦ inl (inr (sym w.0 ∙ watch.0, e))
          | inr w ↦ inr (sym w.0 ∙ watch.1, e)
        ])
      ]

  -- it is linked
  pub put_linked : one.term.0 < room → other.term.0 < room → AreLinked clauses room ws' lists' (linked + 1)
  put_linked one_within other_within = record {
    long = ap length puts.second.watches_are ∙ length-set puts.between linked puts.second.v
        ∙ ap length puts.first.watches_are ∙ length-set (set ws linked (chosen one other)) linked puts.first.v
        ∙ length-set ws linked (chosen one other) ∙ old.long;
    within = (let h = slice_get_within clauses linked k at_k in omega arith);
    lists_long = ap length puts.second.lists_are ∙ length-set puts.between_lists (code_of other) _
        ∙ ap length puts.first.lists_are ∙ length-set lists (code_of one) _ ∙ old.lists_long;
    lists_are = put_lists one_within other_within;
    pairs = λ d j w at_j at. elim (same_or_other d linked) [
      | inr differs ↦ old.pairs d j w at_j (sym (put_others d differs) ∙ at)
      | inl e ↦ (let watch = put_watch w (ap (slice_get ws') (sym e) ∙ at) in
          let j_is : j ≡ k = same_Some j k (sym at_j ∙ ap (slice_get clauses) e ∙ at_k) in
          subst (λ (x : StepClause). AreTwoOf x.literals w.one w.other) (sym j_is)
          (inl (record { has_one = subst (Contains k.literals) (sym watch.0) two.has_one; has_other = subst (Contains k.literals) (sym watch.1) two.has_other; differ = λ same. two.differ (sym watch.0 ∙ same ∙ watch.1) })))
    ];
  }

  -- and held, where neither is false, or the one is true
  pub put_held : (trail more : List Lit) (saved : List Saved) (decided : List Decided) (low lower head : ℕ) → head ≤ length trail → lower ≤ low → (IsFalseIn trail one → ⊥) → ((p : ℕ) → slice_get trail p ≡ Some (opposite other) → (q : ℕ) × (slice_get (trail ++ more) q ≡ Some one) × (StandsBefore saved decided (λ s. s.head) p q ⊎ (lower ≤ p))) → AreHeld ws linked trail saved decided low head → AreHeld ws' (linked + 1) (trail ++ more) saved decided lower head
  put_held trail more saved decided low lower head within at_most not_false other_ok h d w l m n below at watch differ p here under = elim (same_or_other d linked) [
    | inr differs ↦ (let o = held-longer ws linked trail more saved decided low head within h d w l m n (omega arith) (sym (put_others d differs) ∙ at) watch differ p here under in
        (o.0, o.1, elim o.2 [ inl s ↦ inl s | inr b ↦ inr (omega arith) ]))
    | inl e ↦ (let pair = put_watch w (ap (slice_get ws') (sym e) ∙ at) in
        let before = earlier trail more p (opposite l) (omega arith) here in
        elim watch [
          | inl x ↦ (let l_is : l ≡ one = sym x.0 ∙ pair.0 in absurd (not_false (Contains-from_slice_get trail p (opposite one) (before ∙ ap (λ (y : Lit). Some (opposite y)) l_is))))
          | inr x ↦ (let l_is : l ≡ other = sym x.0 ∙ pair.1 in
              let m_is : m ≡ one = sym x.1 ∙ pair.0 in
              let o = other_ok p (before ∙ ap (λ (y : Lit). Some (opposite y)) l_is) in
              (o.0, o.1 ∙ ap (λ (y : Lit). Some y) (sym m_is), o.2))
        ])
  ]

-- a literal that is not false, where some clause may be
pub not_false-from : (set : List Lit) (clause : Clause) (l : Lit) (r : Option Lit) → IsFalseIn set l → MatchOption r (All (λ k. (k ≡ l) ⊎ IsFalseIn set k) clause) (IsReplacement set clause l) → MatchOption r (AreFalseIn set clause) (λ k. Contains clause k × (IsFalseIn set k → ⊥))
not_false-from set clause l None f h = All-weaker (λ k. (k ≡ l) ⊎ IsFalseIn set k) (IsFalseIn set) (λ k c. elim c [ inl e ↦ subst (IsFalseIn set) (sym e) f | inr g ↦ g ]) clause h
not_false-from set clause l (Some k) f h = (h.inside, h.not_false)

-- how far a bound is lowered
pub lowered-none : (trail : List Lit) (decided : List Decided) (low : ℕ) (l : Lit) → ((i : ℕ) (k : Lit) → slice_get trail i ≡ Some k → k.term.0 ≡ l.term.0 → ⊥) → IsLowered trail decided low l low
lowered-none trail decided low l none = record { at_most = omega arith; below = λ p at. absurd (none p (opposite l) at refl) }

pub lowered-at : (trail : List Lit) (decided : List Decided) (low lower index : ℕ) (l k : Lit) → IsConsistent trail → slice_get trail index ≡ Some k → k.term.0 ≡ l.term.0 → lower ≤ low → (lower ≤ index) ⊎ ((j : ℕ) (d : Decided) → slice_get decided j ≡ Some d → d.index ≤ index) → IsLowered trail decided low l lower
lowered-at trail decided low lower index l k consistent at same at_most here = record {
  at_most = at_most;
  below = λ p at_p. (let is : index ≡ p = consistent index p k (opposite l) at at_p same in
      subst (λ (x : ℕ). (lower ≤ x) ⊎ ((j : ℕ) (d : Decided) → slice_get decided j ≡ Some d → d.index ≤ x)) is here);
}

pub none_after : (decided : List Decided) (last index : ℕ) → ((j : ℕ) (d : Decided) → slice_get decided j ≡ Some d → d.index ≤ last) → last ≤ index → (j : ℕ) (d : Decided) → slice_get decided j ≡ Some d → d.index ≤ index
none_after decided last index all below j d at = let h = all j d at in omega arith

-- two literals that are not false are watched
pub attached-two : (clauses : List StepClause) (a : Assigned) (room : ℕ) (ws ws' : List Watch) (lists lists' : List WatchList) (p p' : Progress) (one other : Lit) (k : StepClause) → slice_get clauses p.linked ≡ Some k → AreDifferentIn k.literals one other → Puts ws lists p.linked one other ws' lists' → AreLinked clauses room ws lists p.linked → p.head ≤ length a.literals → (IsFalseIn a.literals one → ⊥) → (IsFalseIn a.literals other → ⊥) → p' ≡ record p { linked = p.linked + 1 } → Attaches clauses a a ws ws' p p'
attached-two clauses a room ws ws' lists lists' p p' one other k at_k two puts old fits not_one not_other is = subst (Attaches clauses a a ws ws' p) (sym is) (record {
  propagated = Propagated-none clauses a;
  short = put_short clauses room ws ws' lists lists' p.linked one other k at_k two puts old;
  held = λ saved before long h. subst (λ (xs : List Lit). AreHeld ws' (p.linked + 1) xs saved a.decided p.low p.head) (append-nil a.literals)
      (put_held clauses room ws ws' lists lists' p.linked one other k at_k two puts old a.literals [] saved a.decided p.low p.low p.head fits (omega arith) not_one
      (λ i at. absurd (not_other (Contains-from_slice_get a.literals i (opposite other) at))) h);
  low = omega arith;
  head = refl;
  settled = refl;
})

-- a literal that is forced, and another one
pub attached-forced : (clauses : List StepClause) (a b : Assigned) (room : ℕ) (ws ws' : List Watch) (lists lists' : List WatchList) (p p' : Progress) (one other : Lit) (lower : ℕ) (k : StepClause) (r : Option ℕ) → slice_get clauses p.linked ≡ Some k → AreDifferentIn k.literals one other → Puts ws lists p.linked one other ws' lists' → AreLinked clauses room ws lists p.linked → p.head ≤ length a.literals → (IsFalseIn a.literals one → ⊥) → IsForcedBy clauses a b one r → IsLowered a.literals a.decided p.low other lower → p' ≡ record p { linked = p.linked + 1; low = lower } → Attaches clauses a b ws ws' p p'
attached-forced clauses a b room ws ws' lists lists' p p' one other lower k r at_k two puts old fits not_one forced lowered is = subst (Attaches clauses a b ws ws' p) (sym is) (record {
  propagated = forced.propagated;
  short = put_short clauses room ws ws' lists lists' p.linked one other k at_k two puts old;
  held = λ saved before long h.
      subst (λ (ds : List Decided). AreHeld ws' (p.linked + 1) b.literals saved ds lower p.head) (sym forced.propagated.decided)
      (subst (λ (xs : List Lit). AreHeld ws' (p.linked + 1) xs saved a.decided lower p.head) (sym forced.propagated.literals)
      (put_held clauses room ws ws' lists lists' p.linked one other k at_k two puts old a.literals forced.propagated.more saved a.decided p.low lower p.head fits lowered.at_most not_one
      (λ i at.
      let q = slice_get-from_Contains (a.literals ++ forced.propagated.more) one (subst (λ (xs : List Lit). Contains xs one) forced.propagated.literals (forced.kept not_one)) in (
        q.0,
        q.1,
        elim (lowered.below i at) [
          | inl low ↦ inr low
          | inr all ↦ inl (λ j s d at_s at_d more. absurd (let x = before j s d at_s at_d in let y = all j d at_d in omega arith))
        ],
      )) h));
  low = lowered.at_most;
  head = refl;
  settled = refl;
})
