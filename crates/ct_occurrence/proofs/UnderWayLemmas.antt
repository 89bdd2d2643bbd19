-- Definitions under way: what waits, step by step.
use Rattle.std.proofs.Common.{◌≡◌, ◌⊎◌, ℕ, zero, suc, ◌+◌, ◌<◌, ◌≤◌, Bool, true, false, cond, ◌==◌, List, [], ◌∷◌, ◌++◌, length, Contains, Option, Some, None, slice_get, nat_eq, refl, sym, ap, ap₂, subst, ◌∙◌, inl, inr, true≢false, arith}
use Rattle.std.specs.Bool.{OnTrue, OnFalse}
use Rattle.std.proofs.lemmas.Bool.Decides.{Decides-eqb}
use Rattle.std.proofs.lemmas.Option.{same_Some, slice_get_within}
use Rattle.std.proofs.lemmas.List.Elements.{Contains-append_left, Contains-push, Contains-push_cases}
use Rattle.ct_lemmas.proofs.Contained.{Contains-cons, Contains-first, Contains-rest}
use Rattle.ct_lemmas.proofs.Numbers.{not_same_number, same_number}
use Rattle.ct_sorts.specs.declared.ids.DefId.{DefId}
use Rattle.ct_sorts.specs.Declarations.{Declarations}
use Rattle.ct_formulas.specs.Formula.{Formula}
use Rattle.ct_occurrence.specs.declared.definitions.Worked.{Worked}
use Rattle.ct_occurrence.specs.declared.under_way.Frame.{Frame}
use Rattle.ct_occurrence.specs.Calls.{CallsAre, AreBelow}
use Rattle.ct_occurrence.specs.Marks.{Rows, IsKnown}
use Rattle.ct_occurrence.specs.Working.{AreRight, StayKnown}
use Rattle.ct_occurrence.specs.UnderWay.{IsFrame, BeginsBody, AreLeftOut, Descend, AreFramesUnderWay, IsWorkedOrWaits, count_unless_worked, work_left_below, top, IsWorkStep}
use Rattle.ct_occurrence.proofs.NameLemmas.{calls_more}
use Rattle.ct_occurrence.proofs.WorkingLemmas.{same_id}

none_contained : {X : Type 0} {P : Type 0} (x : X) → Contains [] x → P
none_contained x h = absurd (omega (arith, h.1))

-- what a test says where it came out so
pub on_true : (b : Bool) (P : Type 0) → b ≡ true → OnTrue b P → P
on_true true P e h = h
on_true false P e h = absurd (true≢false (sym e))

pub on_false : (b : Bool) (P : Type 0) → b ≡ false → OnFalse b P → P
on_false true P e h = absurd (true≢false e)
on_false false P e h = h

-- ---- the order of what waits

descend_push : (fs : List Frame) (x : Frame) → Descend fs → ((f : Frame) → Contains fs f → x.definition.0 < f.definition.0) → Descend (fs ++ x ∷ [])
descend_push [] x h less = (λ g i. none_contained g i, tt)
descend_push (f ∷ fs) x h less = (
  λ g i. elim (Contains-push_cases fs x g i) [
    | inl before ↦ h.0 g before
    | inr one ↦ subst (λ (y : Frame). y.definition.0 < f.definition.0) one (less f (Contains-first f fs))
  ],
  descend_push fs x h.1 (λ g i. less g (Contains-rest f fs g i)),
)

descend_first : (fs : List Frame) (x : Frame) → Descend (fs ++ x ∷ []) → Descend fs
descend_first [] x h = tt
descend_first (f ∷ fs) x h = (λ g i. h.0 g (Contains-append_left fs (x ∷ []) g i), descend_first fs x h.1)

descend_last : (fs : List Frame) (x : Frame) → Descend (fs ++ x ∷ []) → (f : Frame) → Contains fs f → x.definition.0 < f.definition.0
descend_last [] x h f i = none_contained f i
descend_last (g ∷ fs) x h f i = elim (Contains-cons g fs f i) [
  | inl one ↦ subst (λ (y : Frame). x.definition.0 < y.definition.0) one (h.0 x (Contains-push fs x))
  | inr more ↦ descend_last fs x h.1 f more
]

top_push : (fs : List Frame) (x : Frame) → top (fs ++ x ∷ []) ≡ suc x.definition.0
top_push [] x = refl
top_push (f ∷ []) x = refl
top_push (f ∷ (g ∷ fs)) x = top_push (g ∷ fs) x

top_within : (fs : List Frame) (n : ℕ) → ((f : Frame) → Contains fs f → f.definition.0 < n) → top fs ≤ n
top_within [] n h = omega arith
top_within (f ∷ []) n h = let k = h f (Contains-first f []) in omega (arith, k)
top_within (f ∷ (g ∷ fs)) n h = top_within (g ∷ fs) n (λ x i. h x (Contains-rest f (g ∷ fs) x i))

-- ---- one definition is worked out

module _ (old new : Rows) (k : DefId) (w : Worked) (only : (j : DefId) → new j ≡ cond (nat_eq k.0 j.0) (Some w) (old j)) where
  here : new k ≡ Some w
  here = only k ∙ ap (λ (b : Bool). cond b (Some w) (old k)) ((Decides-eqb k.0 k.0).1 refl)

  there : (j : DefId) → (k.0 ≡ j.0 → ⊥) → new j ≡ old j
  there j differ = only j ∙ ap (λ (b : Bool). cond b (Some w) (old j)) (unequal (nat_eq k.0 j.0) refl)
    where
      unequal : (b : Bool) → nat_eq k.0 j.0 ≡ b → nat_eq k.0 j.0 ≡ false
      unequal true e = absurd (differ ((Decides-eqb k.0 j.0).0 e))
      unequal false e = e

  put_stays : StayKnown old new
  put_stays j h = subst (λ (o : Option Worked). (x : Worked) × (o ≡ Some x)) (sym (only j)) (of (nat_eq k.0 j.0))
    where
      of : (b : Bool) → (x : Worked) × (cond b (Some w) (old j) ≡ Some x)
      of true = (w, refl)
      of false = h

  room_same : (each n : ℕ) → n ≤ k.0 → work_left_below new each n ≡ work_left_below old each n
  room_same each zero h = refl
  room_same each (suc n) h =
      ap₂ (λ (o : Option Worked) (r : ℕ). count_unless_worked each o + r) (there (record { 0 = n }) (λ e. omega (arith, h, e))) (room_same each n (omega (arith, h)))

  room_step : (each n : ℕ) → k.0 < suc n → old k ≡ None → (k.0 < n → work_left_below new each n + each ≡ work_left_below old each n) → work_left_below new each (suc n) + each ≡ work_left_below old each (suc n)
  room_step each n h none smaller = by (k.0 == n) refl
    where
      last : DefId
      last = record { 0 = n }

      by : (b : Bool) → (k.0 == n) ≡ b → count_unless_worked each (new last) + work_left_below new each n + each ≡ count_unless_worked each (old last) + work_left_below old each n
      by true e =
          let number = same_number k.0 n e in
          let same : k ≡ last = same_id k last number in
          let before : count_unless_worked each (old last) ≡ each = ap (λ (j : DefId). count_unless_worked each (old j)) (sym same) ∙ ap (count_unless_worked each) none in
          let after : count_unless_worked each (new last) ≡ 0 = ap (λ (j : DefId). count_unless_worked each (new j)) (sym same) ∙ ap (count_unless_worked each) here in
          let rest = room_same each n (omega (arith, number)) in
          omega (arith, before, after, rest)
      by false e =
          let differ = not_same_number k.0 n e in
          let one : count_unless_worked each (new last) ≡ count_unless_worked each (old last) = ap (count_unless_worked each) (there last differ) in
          let rest = smaller (omega (arith, h, differ)) in
          omega (arith, one, rest)

  room_less : (each n : ℕ) → k.0 < n → old k ≡ None → work_left_below new each n + each ≡ work_left_below old each n
  room_less each zero h none = absurd (omega (arith, h))
  room_less each (suc n) h none = room_step each n h none (λ less. room_less each n less none)

-- ---- the steps

module _ (d : Declarations) (bodies : List Formula) where
  inside : (rows : Rows) (stack : List Frame) → AreFramesUnderWay d bodies rows stack → (f : Frame) → Contains stack f → f.definition.0 < length bodies
  inside rows stack h f i = let k = h.frames f i in slice_get_within bodies f.definition.0 k.body k.at

  pub last_inside : (rows : Rows) (stack : List Frame) (frame : Frame) → AreFramesUnderWay d bodies rows (stack ++ frame ∷ []) → frame.definition.0 < length bodies
  last_inside rows stack frame h = inside rows (stack ++ frame ∷ []) h frame (Contains-push stack frame)

  -- a definition that begins waits
  pub begins_waits : (rows : Rows) (k : DefId) (f : Frame) → BeginsBody bodies k f → rows k ≡ None → IsFrame bodies rows f
  begins_waits rows k f h none = record {
    body = h.body;
    at = ap (λ (j : DefId). slice_get bodies j.0) h.definition_is ∙ h.at;
    named = calls_more (Contains f.left.items) (λ j. IsKnown rows j ⊎ Contains f.left.items j) (λ j i. inr i) h.body h.named;
    before = subst (λ (j : DefId). AreBelow j.0 f.left.items) (sym h.definition_is) h.before;
    waits = ap rows h.definition_is ∙ none;
  }

  -- the first one
  pub first_waits : (rows : Rows) (k : DefId) (f : Frame) (none stack : List Frame) → none ≡ [] → stack ≡ none ++ f ∷ [] → AreRight d bodies rows → BeginsBody bodies k f → rows k ≡ None → AreFramesUnderWay d bodies rows stack × IsWorkedOrWaits rows stack k
  first_waits rows k f none stack empty is right begins unknown = subst (λ (fs : List Frame). AreFramesUnderWay d bodies rows fs × IsWorkedOrWaits rows fs k) (sym (is ∙ ap (λ (fs : List Frame). fs ++ f ∷ []) empty)) (
    record {
      right = right;
      frames = λ g i. elim (Contains-cons f [] g i) [
        | inl one ↦ subst (IsFrame bodies rows) one (begins_waits rows k f begins unknown)
        | inr more ↦ none_contained g more
      ];
      descend = (λ g i. none_contained g i, tt);
    },
    inr (f, Contains-first f [], begins.definition_is),
  )

  -- the last one waits for another
  module _ (rows : Rows) (stack : List Frame) (frame waiting above : Frame) (same : waiting.definition ≡ frame.definition) (h : AreFramesUnderWay d bodies rows (stack ++ frame ∷ [])) (name : DefId) (left : AreLeftOut rows frame.left.items waiting.left.items (Some name)) (begins : BeginsBody bodies name above) where
    own : IsFrame bodies rows frame
    own = h.frames frame (Contains-push stack frame)

    waits : IsFrame bodies rows waiting
    waits = record {
      body = own.body;
      at = ap (λ (j : DefId). slice_get bodies j.0) same ∙ own.at;
      named = calls_more (λ j. IsKnown rows j ⊎ Contains frame.left.items j) (λ j. IsKnown rows j ⊎ Contains waiting.left.items j) (λ j x. elim x [
        | inl known ↦ inl known
        | inr i ↦ left.kept j i
      ]) own.body own.named;
      before = λ j i. subst (λ (x : DefId). j.0 < x.0) (sym same) (own.before j (left.within j i));
      waits = ap rows same ∙ own.waits;
    }

    lower : above.definition.0 < waiting.definition.0
    lower = subst (λ (j : DefId). j.0 < waiting.definition.0) (sym begins.definition_is) (waits.before name left.unknown.1)

    below_all : (f : Frame) → Contains stack f → waiting.definition.0 < f.definition.0
    below_all f i = subst (λ (j : DefId). j.0 < f.definition.0) (sym same) (descend_last stack frame h.descend f i)

    abbrev later : List Frame
    later = (stack ++ waiting ∷ []) ++ above ∷ []

    pub waits_for : IsWorkStep d bodies rows rows (stack ++ frame ∷ []) later
    waits_for = record {
      under_way = record {
        right = h.right;
        frames = λ g i. elim (Contains-push_cases (stack ++ waiting ∷ []) above g i) [
          | inl before ↦ elim (Contains-push_cases stack waiting g before) [
            | inl old ↦ h.frames g (Contains-append_left stack (frame ∷ []) g old)
            | inr one ↦ subst (IsFrame bodies rows) one waits
          ]
          | inr one ↦ subst (IsFrame bodies rows) one (begins_waits rows name above begins left.unknown.0)
        ];
        descend = descend_push (stack ++ waiting ∷ []) above (descend_push stack waiting (descend_first stack frame h.descend) below_all)
            (λ g i. elim (Contains-push_cases stack waiting g i) [
              | inl old ↦ let a = lower in let b = below_all g old in omega (arith, a, b)
              | inr one ↦ subst (λ (x : Frame). above.definition.0 < x.definition.0) one lower
            ]);
      };
      stay = λ j x. x;
      met = λ k x. elim x [
        | inl known ↦ inl known
        | inr at ↦ elim (Contains-push_cases stack frame at.0 at.1) [
          | inl old ↦ inr (at.0, Contains-append_left (stack ++ waiting ∷ []) (above ∷ []) at.0 (Contains-append_left stack (waiting ∷ []) at.0 old), at.2)
          | inr one ↦ inr (waiting, Contains-append_left (stack ++ waiting ∷ []) (above ∷ []) waiting (Contains-push stack waiting), same ∙ (ap (λ (x : Frame). x.definition) one ∙ at.2))
        ]
      ];
      less =
          let a = top_push stack frame in
          let b = top_push (stack ++ waiting ∷ []) above in
          let c = lower in
          let e = ap (λ (j : DefId). j.0) same in
          omega (arith, a, b, c, e);
    }

  -- the last one is worked out
  module _ (old new : Rows) (stack : List Frame) (frame : Frame) (h : AreFramesUnderWay d bodies old (stack ++ frame ∷ [])) (w : Worked) (only : (j : DefId) → new j ≡ cond (nat_eq frame.definition.0 j.0) (Some w) (old j)) (right : AreRight d bodies new) where
    ended : IsFrame bodies old frame
    ended = h.frames frame (Contains-push stack frame)

    stays : (f : Frame) → Contains stack f → IsFrame bodies new f
    stays f i =
        let k = h.frames f (Contains-append_left stack (frame ∷ []) f i) in
        let less = descend_last stack frame h.descend f i in
        record {
          body = k.body;
          at = k.at;
          named = calls_more (λ j. IsKnown old j ⊎ Contains f.left.items j) (λ j. IsKnown new j ⊎ Contains f.left.items j) (λ j x. elim x [
            | inl known ↦ inl (put_stays old new frame.definition w only j known)
            | inr c ↦ inr c
          ]) k.body k.named;
          before = k.before;
          waits = there old new frame.definition w only f.definition (λ e. omega (arith, less, e)) ∙ k.waits;
        }

    pub is_worked_out : IsWorkStep d bodies old new (stack ++ frame ∷ []) stack
    is_worked_out = record {
      under_way = record { right = right; frames = stays; descend = descend_first stack frame h.descend };
      stay = put_stays old new frame.definition w only;
      met = λ k x. elim x [
        | inl known ↦ inl (put_stays old new frame.definition w only k known)
        | inr at ↦ elim (Contains-push_cases stack frame at.0 at.1) [
          | inl before ↦ inr (at.0, before, at.2)
          | inr one ↦ inl (subst (IsKnown new) (ap (λ (x : Frame). x.definition) one ∙ at.2) (w, here old new frame.definition w only))
        ]
      ];
      less =
          let n = length bodies in
          let fewer = room_less old new frame.definition w only (suc n) n (last_inside old stack frame h) ended.waits in
          let a = top_within stack n (λ f i. inside old (stack ++ frame ∷ []) h f (Contains-append_left stack (frame ∷ []) f i)) in
          omega (arith, fewer, a);
    }

  -- what is found comes before the last one
  pub next_inside : (rows : Rows) (stack : List Frame) (frame : Frame) (left : List DefId) (name : DefId) → AreFramesUnderWay d bodies rows (stack ++ frame ∷ []) → AreLeftOut rows frame.left.items left (Some name) → name.0 < length bodies
  next_inside rows stack frame left name h found =
      let own = h.frames frame (Contains-push stack frame) in
      let less = own.before name (found.within name found.unknown.1) in
      let within = last_inside rows stack frame h in
      omega (arith, less, within)

  -- where nothing is left, what the body names is worked out
  pub all_worked_out : (rows : Rows) (stack : List Frame) (frame : Frame) (left : List DefId) → AreFramesUnderWay d bodies rows (stack ++ frame ∷ []) → AreLeftOut rows frame.left.items left None → (body : Formula) → slice_get bodies frame.definition.0 ≡ Some body → CallsAre (IsKnown rows) body
  all_worked_out rows stack frame left h done body at =
      let own = h.frames frame (Contains-push stack frame) in
      subst (CallsAre (IsKnown rows)) (same_Some own.body body (sym own.at ∙ at)) (calls_more (λ j. IsKnown rows j ⊎ Contains frame.left.items j) (IsKnown rows) (λ j x. elim x [
        | inl known ↦ known
        | inr i ↦ elim (done.kept j i) [
          | inl known ↦ known
          | inr none ↦ none_contained j (subst (λ (js : List DefId). Contains js j) done.finished none)
        ]
      ]) own.body own.named)

-- ---- the loop

pub record IsOnTheWay (d : Declarations) (bodies : List Formula) (first : Rows) (k : DefId) (rows : Rows) (stack : List Frame) : Type 0 where
  pub under_way : AreFramesUnderWay d bodies rows stack
  pub stay : StayKnown first rows
  pub met : IsWorkedOrWaits rows stack k

module _ (d : Declarations) (bodies : List Formula) (first : Rows) (k : DefId) where
  pub way_start : (f : Frame) (none stack : List Frame) → none ≡ [] → stack ≡ none ++ f ∷ [] → AreRight d bodies first → BeginsBody bodies k f → first k ≡ None → IsOnTheWay d bodies first k first stack
  way_start f none stack empty is right begins unknown = let h = first_waits d bodies first k f none stack empty is right begins unknown in record { under_way = h.0; stay = λ j x. x; met = h.1 }

  pub way_next : (old new : Rows) (before popped after : List Frame) (frame : Frame) → before ≡ popped ++ frame ∷ [] → IsWorkStep d bodies old new (popped ++ frame ∷ []) after → IsOnTheWay d bodies first k old before → IsOnTheWay d bodies first k new after
  way_next old new before popped after frame is step h = record {
    under_way = step.under_way;
    stay = λ j x. step.stay j (h.stay j x);
    met = step.met k (subst (λ (fs : List Frame). IsWorkedOrWaits old fs k) is h.met);
  }

  pub way_end : (rows : Rows) (stack : List Frame) → stack ≡ [] → IsOnTheWay d bodies first k rows stack → IsKnown rows k
  way_end rows stack none h = elim h.met [
    | inl known ↦ known
    | inr at ↦ none_contained at.0 (subst (λ (fs : List Frame). Contains fs at.0) none at.1)
  ]

-- ---- the names that are left to look at

pub record AreLeft (rows : Rows) (first now : List DefId) : Type 0 where
  pub kept : (j : DefId) → Contains first j → IsKnown rows j ⊎ Contains now j
  pub within : (j : DefId) → Contains now j → Contains first j

module _ (rows : Rows) (first now popped : List DefId) (name : DefId) (is : now ≡ popped ++ name ∷ []) (h : AreLeft rows first now) where
  pub left_known : IsKnown rows name → AreLeft rows first popped
  left_known known = record {
    kept = λ j i. elim (h.kept j i) [
      | inl before ↦ inl before
      | inr c ↦ elim (Contains-push_cases popped name j (subst (λ (js : List DefId). Contains js j) is c)) [
        | inl more ↦ inr more
        | inr one ↦ inl (subst (IsKnown rows) one known)
      ]
    ];
    within = λ j i. h.within j (subst (λ (js : List DefId). Contains js j) (sym is) (Contains-append_left popped (name ∷ []) j i));
  }

  pub left_unknown : (longer : List DefId) → longer ≡ popped ++ name ∷ [] → rows name ≡ None → AreLeftOut rows first longer (Some name)
  left_unknown longer again none = subst (λ (js : List DefId). AreLeftOut rows first js (Some name)) (is ∙ sym again) record {
    kept = h.kept;
    within = h.within;
    unknown = (none, subst (λ (js : List DefId). Contains js name) (sym is) (Contains-push popped name));
    finished = tt;
  }

pub left_start : (rows : Rows) (first : List DefId) → AreLeft rows first first
left_start rows first = record { kept = λ j i. inr i; within = λ j i. i }

pub left_end : (rows : Rows) (first now : List DefId) → now ≡ [] → AreLeft rows first now → AreLeftOut rows first now None
left_end rows first now none h = record { kept = h.kept; within = h.within; unknown = tt; finished = none }
