-- The watched literals of a search: that each call keeps what holds of them, and what follows where nothing is left to be done.
use Rattle.std.proofs.Common.{◌≡◌, ℕ, zero, suc, ◌+◌, ◌<◌, ◌≤◌, ◌⊎◌, inl, inr, List, [], ◌∷◌, ◌++◌, length, take, replicate, Some, slice_get, All, Contains, refl, sym, ap, subst, ◌∙◌, arith}
use Rattle.std.proofs.lemmas.Option.{none-some, same_Some, slice_get_within, slice_get-get_or}
use Rattle.std.proofs.lemmas.List.{length_push, length-replicate, get_or-replicate}
use Rattle.ct_terms.specs.declared.ids.Lit.{Lit}
use Rattle.ct_terms.specs.Literal.{opposite}
use Rattle.ct_terms.specs.Clause.{Clause}
use Rattle.ct_terms.specs.Propagation.{IsFalseIn}
use Rattle.ct_sat.specs.declared.clause.StepClause.{StepClause}
use Rattle.ct_sat.specs.declared.decided.Decided.{Decided}
use Rattle.ct_sat.specs.declared.watch.Watch.{Watch}
use Rattle.ct_sat.specs.declared.watch.WatchList.{WatchList}
use Rattle.ct_sat.specs.declared.progress.Saved.{Saved}
use Rattle.ct_sat.specs.declared.progress.Progress.{Progress}
use Rattle.ct_sat.specs.Assigned.{Assigned, decided_on, cut_before}
use Rattle.ct_sat.specs.State.{IsFresh, HaveOneNumber}
use Rattle.ct_sat.specs.Status.{IsSettled}
use Rattle.ct_sat.specs.Watches.{code_of, empty_list, IsWatch, IsChain}
use Rattle.ct_sat.specs.Watching.{IsShort, AreTwoOf, StandsBefore, IsUpTo, AreLinked, AreWatching, IsAtRest, AreWellWatched, IsNoted, IsGoneBack, HasNoTwo, IsPairOf}
use Rattle.ct_lemmas.proofs.Contained.{Contains-from_slice_get, slice_get-from_Contains}
use Rattle.ct_lemmas.proofs.Each.{All-from_Contains}
use Rattle.ct_lemmas.proofs.Lists.{slice_get-append_left, slice_get-last, slice_get-push_cases, slice_get-there}
use Rattle.ct_lemmas.proofs.Prefixes.{slice_get-take, slice_get-take_below, take-slice_get}
use Rattle.ct_sat.proofs.WatchLemmas.{code-within, same_literal}
use Rattle.ct_sat.proofs.VisitLemmas.{held-longer}

-- no clause yet
pub watching-start : (n low : ℕ) (ws : List Watch) (lists : List WatchList) (short : List ℕ) (saved : List Saved) (clauses : List StepClause) (a : Assigned) → clauses ≡ [] → a ≡ record { literals = []; reasons = []; decided = []; room = n } → ws ≡ [] → lists ≡ replicate (n + n) empty_list → short ≡ [] → saved ≡ [] → AreWatching clauses a ws lists short saved (record { linked = 0; settled = 0; head = 0; low = low })
watching-start n low ws lists short saved clauses a no_clauses is no_watches lists_are no_short no_saved =
    subst (λ (cs : List StepClause). AreWatching cs a ws lists short saved start) (sym no_clauses)
    (subst (λ (b : Assigned). AreWatching [] b ws lists short saved start) (sym is)
    (subst (λ (xs : List Watch). AreWatching [] empty xs lists short saved start) (sym no_watches)
    (subst (λ (xs : List WatchList). AreWatching [] empty [] xs short saved start) (sym lists_are)
    (subst (λ (xs : List ℕ). AreWatching [] empty [] (replicate (n + n) empty_list) xs saved start) (sym no_short)
    (subst (λ (xs : List Saved). AreWatching [] empty [] (replicate (n + n) empty_list) [] xs start) (sym no_saved) begun)))))
  where
    start : Progress
    start = record { linked = 0; settled = 0; head = 0; low = low }

    empty : Assigned
    empty = record { literals = []; reasons = []; decided = []; room = n }

    begun : AreWatching [] empty [] (replicate (n + n) empty_list) [] [] start
    begun = record {
      linked = record {
        long = refl;
        within = omega arith;
        lists_long = length-replicate (n + n) empty_list;
        lists_are = λ l below. (
          empty_list,
          (let within = code-within l n below in
              let long = length-replicate (n + n) empty_list in
              slice_get-get_or (replicate (n + n) empty_list) (code_of l) empty_list (omega arith) ∙ ap (λ (x : WatchList). Some x) (get_or-replicate (n + n) (code_of l) empty_list empty_list within)),
          record {
            chain = [];
            counted = refl;
            chained = tt;
            distinct = tt;
            only = λ c h. absurd (none-some c (slice_get-from_Contains [] c h).1);
            each = λ c h. absurd (let b = h.0 in omega arith);
          },
        );
        pairs = λ c k w e. absurd (none-some k e);
      };
      short_are = record { each = λ c w e. absurd (none-some w e); only = λ i c e. absurd (none-some c e) };
      held = λ c w l m m' below. absurd (omega arith);
      settled = λ i c k below. absurd (omega arith);
      saved_are = record {
        long = refl;
        before = λ j s d e. absurd (none-some s e);
        heads = λ i j r s h e. absurd (none-some r e);
        numbers = λ i j r s h e. absurd (none-some r e);
        head = λ j s e. absurd (none-some s e);
        number = λ j s e. absurd (none-some s e);
      };
      settled_within = omega arith;
      head_within = omega arith;
    }

-- a new clause watches two of its literals, or is listed
pub noted-pair : (ws : List Watch) (short : List ℕ) (clause : Clause) (w : Watch) → AreTwoOf clause w.one w.other → (w.one ≡ w.other → ⊥) → IsNoted ws short clause (ws ++ w ∷ []) short
noted-pair ws short clause w two differ = record {
  watch = w;
  watches_are = refl;
  two = two;
  longer = omega arith;
  kept = λ i c at. at;
  cases = λ i c at. inl at;
  listed = λ e. absurd (differ e);
}

pub noted-short : (ws : List Watch) (short : List ℕ) (clause : Clause) (w : Watch) → AreTwoOf clause w.one w.other → w.one ≡ w.other → IsNoted ws short clause (ws ++ w ∷ []) (short ++ length ws ∷ [])
noted-short ws short clause w two same = record {
  watch = w;
  watches_are = refl;
  two = two;
  longer = (let n = length_push short (length ws) in omega arith);
  kept = λ i c at. slice_get-append_left short (length ws ∷ []) i c at;
  cases = λ i c at. elim (slice_get-push_cases short (length ws) c i at) [
    | inl h ↦ inl h
    | inr last ↦ inr (last.0, last.1, elim two [ inl p ↦ absurd (p.differ same) | inr p ↦ p.0 ])
  ];
  listed = λ e. (length short, slice_get-last short (length ws));
}

-- a chain in a longer list
chain-longer : (ws more : List Watch) (l : Lit) (first : ℕ) (cs : List ℕ) → IsChain ws l first cs → IsChain (ws ++ more) l first cs
chain-longer ws more l first [] chain = tt
chain-longer ws more l first (c ∷ cs) (same, w, m, n, at, watch, rest) = (same, w, m, n, slice_get-append_left ws more c w at, watch, chain-longer ws more l n cs rest)

-- a clause was added
pub watching-added : (clauses : List StepClause) (a : Assigned) (ws ws' : List Watch) (lists : List WatchList) (short short' : List ℕ) (saved : List Saved) (progress : Progress) (k : StepClause) → IsNoted ws short k.literals ws' short' → AreWatching clauses a ws lists short saved progress → AreWatching (clauses ++ k ∷ []) a ws' lists short' saved progress
watching-added clauses a ws ws' lists short short' saved progress k noted old =
    subst (λ (xs : List Watch). AreWatching (clauses ++ k ∷ []) a xs lists short' saved progress) (sym noted.watches_are)
    (record {
      linked = record {
        long = length_push ws noted.watch ∙ ap (λ (n : ℕ). n + 1) old.linked.long ∙ sym (length_push clauses k);
        within = (let h = old.linked.within in let n = length_push clauses k in omega arith);
        lists_long = old.linked.lists_long;
        lists_are = λ l below. (let o = old.linked.lists_are l below in (
          o.0,
          o.1,
          record {
            chain = o.2.chain;
            counted = o.2.counted;
            chained = chain-longer ws (noted.watch ∷ []) l o.0.first o.2.chain o.2.chained;
            distinct = o.2.distinct;
            only = λ d h. (let on = o.2.only d h in (on.0, on.1, on.2, on.3, slice_get-append_left ws (noted.watch ∷ []) d on.1 on.4, on.5, on.6));
            each = λ d on. o.2.each d (on.0, on.1, on.2, on.3, old_watch d on.1 on.0 on.4, on.5, on.6);
          },
        ));
        pairs = λ c j w at_j at. pairs c j w (slice_get-push_cases clauses k j c at_j) (slice_get-push_cases ws noted.watch w c at);
      };
      short_are = record { each = λ c w at e. shorts c w e (slice_get-push_cases ws noted.watch w c at); only = λ i c at. places i c at };
      held = λ c w l m n below at watch differ. old.held c w l m n below (old_watch c w below at) watch differ;
      settled = λ i c j below at at_j. (let at_old = old_short i c below at in old.settled i c j below at_old (old_clause i c j at_old at_j));
      saved_are = old.saved_are;
      settled_within = (let h = old.settled_within in let n = noted.longer in omega arith);
      head_within = old.head_within;
    })
  where
    old_watch : (d : ℕ) (w : Watch) → d < progress.linked → slice_get (ws ++ noted.watch ∷ []) d ≡ Some w → slice_get ws d ≡ Some w
    old_watch d w below at = elim (slice_get-push_cases ws noted.watch w d at) [
      | inl h ↦ h
      | inr last ↦ absurd (let e = last.0 in let within = old.linked.within in let long = old.linked.long in omega arith)
    ]

    old_short : (i c : ℕ) → i < progress.settled → slice_get short' i ≡ Some c → slice_get short i ≡ Some c
    old_short i c below at = elim (noted.cases i c at) [
      | inl h ↦ h
      | inr last ↦ absurd (let e = last.0 in let within = old.settled_within in omega arith)
    ]

    old_clause : (i c : ℕ) (j : StepClause) → slice_get short i ≡ Some c → slice_get (clauses ++ k ∷ []) c ≡ Some j → slice_get clauses c ≡ Some j
    old_clause i c j at at_j = elim (slice_get-push_cases clauses k j c at_j) [
      | inl h ↦ h
      | inr last ↦ absurd (let x = old.short_are.only i c at in let within = slice_get_within clauses c x.0 x.1 in let e = last.0 in omega arith)
    ]

    long : length ws ≡ length clauses
    long = old.linked.long

    pairs : (c : ℕ) (j : StepClause) (w : Watch) → (slice_get clauses c ≡ Some j) ⊎ ((c ≡ length clauses) × (k ≡ j)) → (slice_get ws c ≡ Some w) ⊎ ((c ≡ length ws) × (noted.watch ≡ w)) → AreTwoOf j.literals w.one w.other
    pairs c j w (inl at_j) (inl at) = old.linked.pairs c j w at_j at
    pairs c j w (inl at_j) (inr last) = absurd (let within = slice_get_within clauses c j at_j in let e = last.0 in let n = long in omega arith)
    pairs c j w (inr last) (inl at) = absurd (let within = slice_get_within ws c w at in let e = last.0 in let n = long in omega arith)
    pairs c j w (inr last) (inr also) = subst (λ (x : StepClause). AreTwoOf x.literals w.one w.other) last.1 (subst (λ (x : Watch). AreTwoOf k.literals x.one x.other) also.1 noted.two)

    shorts : (c : ℕ) (w : Watch) → w.one ≡ w.other → (slice_get ws c ≡ Some w) ⊎ ((c ≡ length ws) × (noted.watch ≡ w)) → (i : ℕ) × (slice_get short' i ≡ Some c)
    shorts c w e (inl at) = let i = old.short_are.each c w at e in (i.0, noted.kept i.0 c i.1)
    shorts c w e (inr last) = let i = noted.listed (subst (λ (x : Watch). x.one ≡ x.other) (sym last.1) e) in (i.0, i.1 ∙ ap (λ (n : ℕ). Some n) (sym last.0))

    places : (i c : ℕ) → slice_get short' i ≡ Some c → (j : StepClause) × (slice_get (clauses ++ k ∷ []) c ≡ Some j) × IsShort j.literals
    places i c at = elim (noted.cases i c at) [
      | inl h ↦ (let j = old.short_are.only i c h in (j.0, slice_get-append_left clauses (k ∷ []) c j.0 j.1, j.2))
      | inr last ↦ (k, ap (slice_get (clauses ++ k ∷ [])) (sym last.1 ∙ long) ∙ slice_get-last clauses k, last.2)
    ]

-- a decision was made
stands-decided : (saved : List Saved) (decided : List Decided) (s : Saved) (d : Decided) (mark : Saved → ℕ) (p q : ℕ) → length saved ≡ length decided → q < d.index → StandsBefore saved decided mark p q → StandsBefore (saved ++ s ∷ []) (decided ++ d ∷ []) mark p q
stands-decided saved decided s d mark p q long here old j t e at_t at_e below = elim (slice_get-push_cases saved s t j at_t) [
  | inl old_t ↦ elim (slice_get-push_cases decided d e j at_e) [
    | inl old_e ↦ old j t e old_t old_e below
    | inr last ↦ absurd (let within = slice_get_within saved j t old_t in let x = last.0 in omega arith)
  ]
  | inr last ↦ elim (slice_get-push_cases decided d e j at_e) [
    | inl old_e ↦ absurd (let within = slice_get_within decided j e old_e in let x = last.0 in omega arith)
    | inr also ↦ subst (λ (x : Decided). q < x.index) also.1 here
  ]
]

abbrev pub saved_now : Progress → ℕ → Saved
saved_now progress cursor = record { head = progress.head; settled = progress.settled; cursor = cursor }

pub watching-decided : (clauses : List StepClause) (a : Assigned) (ws : List Watch) (lists : List WatchList) (short : List ℕ) (saved : List Saved) (progress : Progress) (cursor : ℕ) (l : Lit) → AreWatching clauses a ws lists short saved progress → AreWatching clauses (decided_on a l) ws lists short (saved ++ saved_now progress cursor ∷ []) progress
watching-decided clauses a ws lists short saved progress cursor l old = record {
  linked = old.linked;
  short_are = old.short_are;
  held = λ c w j m n below at watch differ p here under.
      (let o = held-longer ws progress.linked a.literals (l ∷ []) saved a.decided progress.low progress.head old.head_within old.held c w j m n below at watch differ p here under in
      let x = old.held c w j m n below at watch differ p (place p (opposite j) (let h = old.head_within in omega arith) here) under in (
        x.0,
        slice_get-append_left a.literals (l ∷ []) x.0 m x.1,
        elim x.2 [
          | inl s ↦ inl (stands-decided saved a.decided (saved_now progress cursor) _ (λ s. s.head) p x.0 old.saved_are.long (slice_get_within a.literals x.0 m x.1) s)
          | inr b ↦ inr b
        ],
      ));
  settled = λ i c k below at at_k.
      (let x = old.settled i c k below at at_k in
      (x.0, x.1, slice_get-append_left a.literals (l ∷ []) x.0 x.1 x.2, x.3, stands-decided saved a.decided (saved_now progress cursor) _ (λ s. s.settled) i x.0 old.saved_are.long (slice_get_within a.literals x.0 x.1 x.2) x.4));
  saved_are = record {
    long = length_push saved (saved_now progress cursor) ∙ ap (λ (n : ℕ). n + 1) old.saved_are.long ∙ sym (length_push a.decided _);
    before = λ j s d at_s at_d. elim (slice_get-push_cases saved (saved_now progress cursor) s j at_s) [
      | inl old_s ↦ elim (slice_get-push_cases a.decided _ d j at_d) [
        | inl old_d ↦ old.saved_are.before j s d old_s old_d
        | inr last ↦ absurd (let within = slice_get_within saved j s old_s in let x = last.0 in let n = old.saved_are.long in omega arith)
      ]
      | inr last ↦ elim (slice_get-push_cases a.decided _ d j at_d) [
        | inl old_d ↦ absurd (let within = slice_get_within a.decided j d old_d in let x = last.0 in let n = old.saved_are.long in omega arith)
        | inr also ↦ (let head : progress.head ≡ s.head = ap (λ (x : Saved). x.head) last.1 in
            let index : length a.literals ≡ d.index = ap (λ (x : Decided). x.index) also.1 in
            let h = old.head_within in omega arith)
      ]
    ];
    heads = λ i j r s h at_r at_s. (let old_r = earlier_saved i j r s h at_r at_s in elim (slice_get-push_cases saved (saved_now progress cursor) s j at_s) [
      | inl old_s ↦ old.saved_are.heads i j r s h old_r old_s
      | inr last ↦ subst (λ (x : Saved). IsUpTo progress.low r.head x.head) last.1 (old.saved_are.head i r old_r)
    ]);
    numbers = λ i j r s h at_r at_s. (let old_r = earlier_saved i j r s h at_r at_s in elim (slice_get-push_cases saved (saved_now progress cursor) s j at_s) [
      | inl old_s ↦ old.saved_are.numbers i j r s h old_r old_s
      | inr last ↦ subst (λ (x : Saved). r.settled ≤ x.settled) last.1 (old.saved_are.number i r old_r)
    ]);
    head = λ j s at_s. elim (slice_get-push_cases saved (saved_now progress cursor) s j at_s) [
      | inl old_s ↦ old.saved_are.head j s old_s
      | inr last ↦ subst (λ (x : Saved). IsUpTo progress.low x.head progress.head) last.1 (inl (omega arith))
    ];
    number = λ j s at_s. elim (slice_get-push_cases saved (saved_now progress cursor) s j at_s) [
      | inl old_s ↦ old.saved_are.number j s old_s
      | inr last ↦ subst (λ (x : Saved). x.settled ≤ progress.settled) last.1 (omega arith)
    ];
  };
  settled_within = old.settled_within;
  head_within = (let h = old.head_within in let n = length_push a.literals l in omega arith);
}
  where
    place : (p : ℕ) (x : Lit) → p < length a.literals → slice_get (a.literals ++ l ∷ []) p ≡ Some x → slice_get a.literals p ≡ Some x
    place p x within at = elim (slice_get-push_cases a.literals l x p at) [
      | inl h ↦ h
      | inr last ↦ absurd (let e = last.0 in omega arith)
    ]

    earlier_saved : (i j : ℕ) (r s : Saved) → i < j → slice_get (saved ++ saved_now progress cursor ∷ []) i ≡ Some r → slice_get (saved ++ saved_now progress cursor ∷ []) j ≡ Some s → slice_get saved i ≡ Some r
    earlier_saved i j r s h at_r at_s = elim (slice_get-push_cases saved (saved_now progress cursor) r i at_r) [
      | inl old_r ↦ old_r
      | inr last ↦ absurd (let within = slice_get_within (saved ++ saved_now progress cursor ∷ []) j s at_s in let n = length_push saved (saved_now progress cursor) in let e = last.0 in omega arith)
    ]

-- a first part of a list is as long as it is to be
pub length-taken : (n : ℕ) (xs : List Lit) → n ≤ length xs → length (take n xs) ≡ n
length-taken zero xs h = refl
length-taken (suc n) [] h = absurd (omega arith)
length-taken (suc n) (x ∷ xs) h = ap suc (length-taken n xs (omega arith))

-- decisions were taken back
pub watching-cut : (clauses : List StepClause) (a : Assigned) (ws : List Watch) (lists : List WatchList) (short : List ℕ) (saved : List Saved) (p p' : Progress) (keep : ℕ) (next : Decided) (s : Saved) → slice_get a.decided keep ≡ Some next → slice_get saved keep ≡ Some s → next.index ≤ length a.literals → ((i j : ℕ) (d e : Decided) → i < j → slice_get a.decided i ≡ Some d → slice_get a.decided j ≡ Some e → d.index < e.index) → IsGoneBack p s next.index p' → AreWatching clauses a ws lists short saved p → AreWatching clauses (cut_before a keep next) ws lists short (take keep saved) p'
watching-cut clauses a ws lists short saved p p' keep next s at_next at_s fits in_order back old = record {
  linked = subst (λ (n : ℕ). AreLinked clauses a.room ws lists n) (sym back.linked) old.linked;
  short_are = old.short_are;
  held = λ c w l m n below at watch differ i here under.
      (let here_old : slice_get a.literals i ≡ Some (opposite l) = slice_get-take next.index a.literals i (opposite l) here in
      let low = back.at_low in
      let high = back.at_saved in
      let x = old.held c w l m n (subst (λ (y : ℕ). c < y) back.linked below) at watch differ i here_old (within_head i under) in
      let stands : StandsBefore saved a.decided (λ r. r.head) i x.0 = elim x.2 [ inl h ↦ h | inr b ↦ absurd (omega arith) ] in
      (x.0, take-slice_get next.index a.literals x.0 m (stands keep s next at_s at_next (omega arith)) x.1, inl (part (λ r. r.head) i x.0 stands)));
  settled = λ i c k below at at_k.
      (let numbers : p'.settled ≡ s.settled = back.settled in
      let number = old.saved_are.number keep s at_s in
      let x = old.settled i c k (omega arith) at at_k in
      (x.0, x.1, take-slice_get next.index a.literals x.0 x.1 (x.4 keep s next at_s at_next (omega arith)) x.2, x.3, part (λ r. r.settled) i x.0 x.4));
  saved_are = record {
    long = taken_long keep saved a.decided old.saved_are.long;
    before = λ j r d at_r at_d. old.saved_are.before j r d (slice_get-take keep saved j r at_r) (slice_get-take keep a.decided j d at_d);
    heads = λ i j r t h at_r at_t. (let before = old.saved_are.heads i j r t h (slice_get-take keep saved i r at_r) (slice_get-take keep saved j t at_t) in
        elim back.low [
          | inl same ↦ subst (λ (n : ℕ). IsUpTo n r.head t.head) (sym same) before
          | inr dropped ↦ inl (up_to_early r.head t.head dropped (early j t at_t) before)
        ]);
    numbers = λ i j r t h at_r at_t. old.saved_are.numbers i j r t h (slice_get-take keep saved i r at_r) (slice_get-take keep saved j t at_t);
    head = λ j r at_r. (let before = old.saved_are.heads j keep r s (slice_get-take_below keep saved j r at_r) (slice_get-take keep saved j r at_r) at_s in
        let first = early j r at_r in
        elim back.low [
          | inl same ↦ elim back.either [
            | inl e ↦ elim before [ inl h ↦ inl (omega arith) | inr h ↦ inr (omega arith) ]
            | inr e ↦ inr (omega arith)
          ]
          | inr dropped ↦ elim back.either [
            | inl e ↦ elim before [ inl h ↦ inl (omega arith) | inr h ↦ inl (omega arith) ]
            | inr e ↦ inl (omega arith)
          ]
        ]);
    number = λ j r at_r. (let before = old.saved_are.numbers j keep r s (slice_get-take_below keep saved j r at_r) (slice_get-take keep saved j r at_r) at_s in let numbers : p'.settled ≡ s.settled = back.settled in omega arith);
  };
  settled_within = (let numbers : p'.settled ≡ s.settled = back.settled in let number = old.saved_are.number keep s at_s in let h = old.settled_within in omega arith);
  head_within = (let high = back.at_saved in let index = old.saved_are.before keep s next at_s at_next in let n = length-taken next.index a.literals fits in omega arith);
}
  where
    taken_long : (n : ℕ) (xs : List Saved) (ys : List Decided) → length xs ≡ length ys → length (take n xs) ≡ length (take n ys)
    taken_long zero xs ys e = refl
    taken_long (suc n) [] [] e = refl
    taken_long (suc n) [] (y ∷ ys) e = absurd (omega arith)
    taken_long (suc n) (x ∷ xs) [] e = absurd (omega arith)
    taken_long (suc n) (x ∷ xs) (y ∷ ys) e = ap suc (taken_long n xs ys (omega arith))

    -- what was saved with the decisions that are kept
    early : (j : ℕ) (r : Saved) → slice_get (take keep saved) j ≡ Some r → r.head < next.index
    early j r at_r =
        let at : slice_get saved j ≡ Some r = slice_get-take keep saved j r at_r in
        let within = slice_get_within saved j r at in
        let long = old.saved_are.long in
        let d = slice_get-there a.decided j (omega arith) in
        let before = old.saved_are.before j r d.0 at d.1 in
        let order = in_order j keep d.0 next (slice_get-take_below keep saved j r at_r) d.1 at_next in
        omega arith

    up_to_early : (x y : ℕ) → next.index ≤ p.low → y < next.index → IsUpTo p.low x y → x ≤ y
    up_to_early x y dropped first (inl h) = h
    up_to_early x y dropped first (inr h) = absurd (omega arith)

    within_head : (i : ℕ) → i < p'.head → i < p.head
    within_head i h =
        let high = back.at_saved in
        let low = back.at_low in
        elim (old.saved_are.head keep s at_s) [ inl x ↦ omega arith | inr x ↦ omega arith ]

    part : (mark : Saved → ℕ) (i q : ℕ) → StandsBefore saved a.decided mark i q → StandsBefore (take keep saved) (take keep a.decided) mark i q
    part mark i q stands j r d at_r at_d = stands j r d (slice_get-take keep saved j r at_r) (slice_get-take keep a.decided j d at_d)

-- a literal is in a list or not
in_or_not : (xs : List Lit) (l : Lit) → Contains xs l ⊎ (Contains xs l → ⊥)
in_or_not [] l = inr (λ h. none-some l (slice_get-from_Contains [] l h).1)
in_or_not (x ∷ xs) l = elim (same_literal x l) [
  | inl e ↦ inl (Contains-from_slice_get (x ∷ xs) 0 l (ap (λ (y : Lit). Some y) e))
  | inr differs ↦ elim (in_or_not xs l) [
    | inl h ↦ (let at = slice_get-from_Contains xs l h in inl (Contains-from_slice_get (x ∷ xs) (suc at.0) l at.1))
    | inr none ↦ inr (λ h. (let at = slice_get-from_Contains (x ∷ xs) l h in by at.0 at.1 differs none))
  ]
]
  where
    by : (i : ℕ) → slice_get (x ∷ xs) i ≡ Some l → (x ≡ l → ⊥) → (Contains xs l → ⊥) → ⊥
    by zero e differs none = differs (same_Some x l e)
    by (suc i) e differs none = none (Contains-from_slice_get xs i l e)

-- where nothing is left to be done, each watched literal that is false stands beside a true one
module _ (clauses : List StepClause) (a : Assigned) (ws : List Watch) (lists : List WatchList) (short : List ℕ) (saved : List Saved) (progress : Progress) (is : AreWatching clauses a ws lists short saved progress) (rest : IsAtRest clauses a short progress) where
  beside_true : (c : ℕ) (k : StepClause) (w : Watch) (l m : Lit) (n : ℕ) → slice_get clauses c ≡ Some k → slice_get ws c ≡ Some w → IsWatch w l m n → (l ≡ m → ⊥) → IsFalseIn a.literals l → Contains a.literals m
  beside_true c k w l m n at_k at watch differ false_one =
      let place = slice_get-from_Contains a.literals (opposite l) false_one in
      let within = slice_get_within clauses c k at_k in
      let linked = rest.linked in
      let head = rest.head in
      let before = slice_get_within a.literals place.0 (opposite l) place.1 in
      let held = is.held c w l m n (omega arith) at watch differ place.0 place.1 (omega arith) in
      Contains-from_slice_get a.literals held.0 m held.1

  pub well_watched : (c : ℕ) (k : StepClause) (w : Watch) → slice_get clauses c ≡ Some k → slice_get ws c ≡ Some w → (w.one ≡ w.other → ⊥) → AreWellWatched a.literals w.one w.other
  well_watched c k w at_k at differ = elim (in_or_not a.literals (opposite w.one)) [
    | inl f ↦ inr (inr (beside_true c k w w.one w.other w.after_one at_k at (inl (refl, refl, refl)) differ f))
    | inr one ↦ elim (in_or_not a.literals (opposite w.other)) [
      | inl f ↦ inr (inl (beside_true c k w w.other w.one w.after_other at_k at (inr (refl, refl, refl)) (λ e. differ (sym e)) f))
      | inr other ↦ inl (one, other)
    ]
  ]

  settled_at : (c : ℕ) (k : StepClause) (w : Watch) → slice_get clauses c ≡ Some k → slice_get ws c ≡ Some w → AreTwoOf k.literals w.one w.other → IsSettled a.literals k.literals
  settled_at c k w at_k at (inr (short_one, same)) =
      let i = is.short_are.each c w at same in
      let within = slice_get_within short i.0 c i.1 in
      let all = rest.settled in
      let x = is.settled i.0 c k (omega arith) i.1 at_k in
      inl (record { literal = x.1; has = x.3; holds = Contains-from_slice_get a.literals x.0 x.1 x.2 })
  settled_at c k w at_k at (inl two) = elim (in_or_not a.literals w.one) [
    | inl h ↦ inl (record { literal = w.one; has = two.has_one; holds = h })
    | inr no_one ↦ elim (in_or_not a.literals w.other) [
      | inl h ↦ inl (record { literal = w.other; has = two.has_other; holds = h })
      | inr no_other ↦ elim (well_watched c k w at_k at two.differ) [
        | inl none ↦ inr (record {
          one = w.one;
          other = w.other;
          has_one = two.has_one;
          has_other = two.has_other;
          differ = two.differ;
          one_unset = (no_one, none.0);
          other_unset = (no_other, none.1);
        })
        | inr some ↦ elim some [ inl h ↦ absurd (no_one h) | inr h ↦ absurd (no_other h) ]
      ]
    ]
  ]

  pub all_settled : All (λ c. IsSettled a.literals c.literals) clauses
  all_settled = All-from_Contains (λ c. IsSettled a.literals c.literals) clauses (λ k listed.
      let at = slice_get-from_Contains clauses k listed in
      let within = slice_get_within clauses at.0 k at.1 in
      let long = is.linked.long in
      let w = slice_get-there ws at.0 (omega arith) in
      settled_at at.0 k w.0 at.1 w.1 (is.linked.pairs at.0 k w.0 at.1 w.1))

pub no_two-fresh : (clauses : List StepClause) (step : ℕ) → IsFresh clauses step → HasNoTwo clauses step
no_two-fresh clauses step fresh c listed same = absurd (fresh c listed same)

pub no_two-short : (clauses : List StepClause) (step c : ℕ) (k : StepClause) (w : Watch) → HaveOneNumber clauses → slice_get clauses c ≡ Some k → k.step ≡ step → AreTwoOf k.literals w.one w.other → w.one ≡ w.other → HasNoTwo clauses step
no_two-short clauses step c k w one_number at is two same d listed d_is =
    let d_same : k ≡ d = one_number k d (Contains-from_slice_get clauses c k at) listed (is ∙ sym d_is) in
    elim two [
      | inl p ↦ absurd (p.differ same)
      | inr p ↦ subst (λ (x : StepClause). IsShort x.literals) d_same p.0
    ]

pub pair-of : (clauses : List StepClause) (step c : ℕ) (k : StepClause) (w : Watch) → slice_get clauses c ≡ Some k → k.step ≡ step → AreTwoOf k.literals w.one w.other → (w.one ≡ w.other → ⊥) → IsPairOf clauses step w.one w.other
pair-of clauses step c k w at is two differ = record {
  clause = k;
  listed = Contains-from_slice_get clauses c k at;
  step_is = is;
  differ = elim two [ inl p ↦ p | inr p ↦ absurd (differ p.1) ];
}
