-- The blocks of the terms: to be in one block is a bisimulation, and every bisimulation is within blocks.
use Rattle.std.proofs.Common.{◌≡◌, ℕ, ◌*◌, ◌<◌, ◌≤◌, ◌⊎◌, ◌↔◌, Bool, true, ◌&&◌, ◌||◌, List, length, map, get_or, slice_get, slice_index, option_map, nat_eq, nat_lt, Some, refl, sym, ap, subst, ◌∙◌, inl, inr, arith}
use Rattle.std.specs.List.{AllZip}
use Rattle.std.specs.Cmp.Lexicographic.{pointwise}
use Rattle.std.proofs.lemmas.Bool.{and_from, ltb-true, eqb-true, lt-ltb, eq-eqb}
use Rattle.std.proofs.lemmas.List.{length-map}
use Rattle.std.proofs.lemmas.Option.{same_Some, slice_get_within, slice_get-get_or, get_or_from_slice_get, slice_get-map}
use Rattle.ct_lemmas.proofs.Booleans.{both_parts, or_cases, or_left, or_right}
use Rattle.ct_lemmas.proofs.Pairs.{AllZip-at, AllZip-at_left, AllZip-at_right, AllZip-from, AllZip-one_length}
use Rattle.ct_sorts.specs.declared.ids.CtorId.{CtorId}
use Rattle.ct_terms.specs.declared.ids.TermId.{TermId}
use Rattle.ct_terms.specs.declared.term.Core.TheVariants.{Con}
use Rattle.ct_terms.specs.Terms.{Has, AreSorted}
use Rattle.ct_rules.specs.Uniqueness.{HaveRelatedTerms, IsBisimulation}
use Rattle.ct_partition.specs.Points.{Points, points}
use Rattle.ct_partition.specs.Bisimilarity as point
use Rattle.ct_partition.specs.Partition as point_blocks
use Rattle.ct_congr.specs.State.{State, AreEqual, IsConstructorTerm, IsQuiet}
use Rattle.ct_unique.specs.Partition.{block_of, in_one_block, AreAlike, IsCoarsest}
use Rattle.ct_unique.specs.Nodes.{term, IsBuilt, AreLabels, IsRepNumber, IsRow, AreRows, AreBlocks}
use Rattle.ct_unique.proofs.ListLemmas.{pointwise-from, pointwise-refl}
use Rattle.ct_unique.proofs.ClassLemmas.{one_arity, InOneClass-sym, InOneClass-trans, same_ctor, same_argument}

-- the test that two terms are in one block
pub in_block : (blocks : List ℕ) (x y : TermId) → x.0 < length blocks → y.0 < length blocks → block_of blocks x ≡ block_of blocks y → in_one_block blocks x y ≡ true
in_block blocks x y in_x in_y same =
    and_from (nat_lt x.0 (length blocks)) (nat_lt y.0 (length blocks) && nat_eq (block_of blocks x) (block_of blocks y)) (lt-ltb x.0 (length blocks) in_x)
    (and_from (nat_lt y.0 (length blocks)) (nat_eq (block_of blocks x) (block_of blocks y)) (lt-ltb y.0 (length blocks) in_y) (eq-eqb (block_of blocks x) (block_of blocks y) same))

module _ (state : State) (long : length state.reps ≡ length state.terms) (numbers blocks : List ℕ) (made : AreBlocks state numbers (length state.terms) blocks) where
  abbrev count : ℕ
  count = length state.terms

  -- what has a representative is a term
  inside : (t : ℕ) (r : TermId) → slice_get state.reps t ≡ Some r → t < count
  inside t r at = let within = slice_get_within state.reps t r at in omega (arith, within, long)

  -- the block of a term is that of its representative
  block_at_rep : (x r : TermId) → slice_get state.reps x.0 ≡ Some r → block_of blocks x ≡ slice_index numbers r.0
  block_at_rep x r at =
      let b = made.each x.0 (inside x.0 r at) in
      b.is ∙ ap (λ (q : TermId). slice_index numbers q.0) (same_Some b.rep r (sym b.of_term ∙ at))

  pub class_block : (x y : TermId) → AreEqual state x y → block_of blocks x ≡ block_of blocks y
  class_block x y equal = block_at_rep x equal.0 equal.1 ∙ sym (block_at_rep y equal.0 equal.2)

  one_block : (x y : TermId) → x.0 < count → y.0 < count → block_of blocks x ≡ block_of blocks y → in_one_block blocks x y ≡ true
  one_block x y in_x in_y same = in_block blocks x y (omega (arith, in_x, made.long)) (omega (arith, in_y, made.long)) same

  one_block_parts : (x y : TermId) → in_one_block blocks x y ≡ true → (x.0 < count) × (y.0 < count) × (block_of blocks x ≡ block_of blocks y)
  one_block_parts x y h =
      let first = both_parts (nat_lt x.0 (length blocks)) (nat_lt y.0 (length blocks) && nat_eq (block_of blocks x) (block_of blocks y)) h in
      let second = both_parts (nat_lt y.0 (length blocks)) (nat_eq (block_of blocks x) (block_of blocks y)) first.1 in
      let in_x = ltb-true x.0 (length blocks) first.0 in
      let in_y = ltb-true y.0 (length blocks) second.0 in
      (omega (arith, in_x, made.long), omega (arith, in_y, made.long), eqb-true (block_of blocks x) (block_of blocks y) second.1)

  -- arguments whose representatives are in the same blocks are
  same_rows : (xs ys : List TermId) (ks ls : List ℕ) → AllZip (IsRepNumber state.reps) xs ks → AllZip (IsRepNumber state.reps) ys ls → map (slice_index numbers) ks ≡ map (slice_index numbers) ls → AllZip (λ a b. in_one_block blocks a b ≡ true) xs ys
  same_rows xs ys ks ls left right same =
      let f = slice_index numbers in
      let lengths : length xs ≡ length ys =
      AllZip-one_length (IsRepNumber state.reps) xs ks left ∙ sym (length-map ks f) ∙ ap length same ∙ length-map ls f ∙ sym (AllZip-one_length (IsRepNumber state.reps) ys ls right) in
      AllZip-from (λ a b. in_one_block blocks a b ≡ true) xs ys lengths
      (λ k a b at_a at_b.
      let p = AllZip-at_left (IsRepNumber state.reps) xs ks k a left at_a in
      let q = AllZip-at_left (IsRepNumber state.reps) ys ls k b right at_b in
      let one : slice_get (map f ks) k ≡ Some (f p.0) = slice_get-map f ks k ∙ ap (option_map f) p.1 in
      let two : slice_get (map f ls) k ≡ Some (f q.0) = slice_get-map f ls k ∙ ap (option_map f) q.1 in
      let e : f p.0 ≡ f q.0 = same_Some (f p.0) (f q.0) (sym one ∙ ap (λ list. slice_get list k) same ∙ two) in
      one_block a b (inside a.0 (term p.0) p.2.of_term) (inside b.0 (term q.0) q.2.of_term) (block_at_rep a (term p.0) p.2.of_term ∙ e ∙ sym (block_at_rep b (term q.0) q.2.of_term)))

  module _ (quiet : IsQuiet state) (sorted : AreSorted state.declarations state.terms) (labels starts children : List ℕ) (labelled : AreLabels state (length state.terms) labels) (rows : AreRows (length state.terms) (IsRow state) (length state.terms) starts children) where
    abbrev p : Points
    p = points labels starts children

    point_in : (t : ℕ) → t < count → t < length labels
    point_in t within = omega (arith, within, labelled.long)

    -- the children of a term that is built
    row_of : (t : ℕ) → t < count → (ctor : CtorId) (args : List TermId) → IsBuilt state t ctor args → AllZip (IsRepNumber state.reps) args (p.children t)
    row_of t within = (rows.rows t within).each

    module _ (stable : point_blocks.IsStable (points labels starts children) numbers) where
      -- terms of one block are equal, or have related constructor terms
      alike : (x y : TermId) → x.0 < count → y.0 < count → block_of blocks x ≡ block_of blocks y → AreEqual state x y ⊎ HaveRelatedTerms state.terms (AreEqual state) (in_one_block blocks) x y
      alike x y in_x in_y same =
          let bx = made.each x.0 in_x in
          let by = made.each y.0 in_y in
          let r = bx.rep in
          let s = by.rep in
          let in_r = inside r.0 r bx.own in
          let in_s = inside s.0 s by.own in
          let numbers_same : slice_index numbers r.0 ≡ slice_index numbers s.0 = sym bx.is ∙ same ∙ by.is in
          let label : slice_index labels r.0 ≡ slice_index labels s.0 = stable.labels r.0 s.0 (point_in r.0 in_r) (point_in s.0 in_s) numbers_same in
          elim (labelled.each r.0 in_r) [
            | inl a ↦ elim (labelled.each s.0 in_s) [
              | inl b ↦
                  let number : a.0.0 ≡ b.0.0 = omega (arith, label, a.3, b.3) in
                  let ctor : b.0 ≡ a.0 = λ i. record { 0 = sym number i } in
                  inr (record {
                    left = a.2.con;
                    right = b.2.con;
                    ctor = a.0;
                    xs = a.1;
                    ys = b.1;
                    left_equal = InOneClass-trans state.reps x r a.2.con (r, bx.of_term, bx.own) a.2.equal;
                    right_equal = InOneClass-trans state.reps y s b.2.con (s, by.of_term, by.own) b.2.equal;
                    left_stands = a.2.stands;
                    right_stands = subst (λ (c : CtorId). Has state.terms (Con c b.1) b.2.con.0) ctor b.2.stands;
                    arguments = same_rows a.1 b.1 (p.children r.0) (p.children s.0) (row_of r.0 in_r a.0 a.1 a.2) (row_of s.0 in_s b.0 b.1 b.2) (stable.children r.0 s.0 (point_in r.0 in_r) (point_in s.0 in_s) numbers_same);
                  })
              | inr b ↦ absurd (omega (arith, label, a.3, b.1))
            ]
            | inr a ↦ elim (labelled.each s.0 in_s) [
              | inl b ↦ absurd (omega (arith, label, a.1, b.3))
              | inr b ↦
                  let number : r.0 ≡ s.0 = omega (arith, label, a.1, b.1) in
                  let one : s ≡ r = λ i. record { 0 = sym number i } in
                  inl (r, bx.of_term, by.of_term ∙ ap Some one)
            ]
          ]

      pub bisimulation : IsBisimulation state.terms (AreEqual state) (in_one_block blocks)
      bisimulation = record {
        of_classes = λ x y u v left right h.
            let parts = one_block_parts x y h in
            one_block u v (inside u.0 left.0 left.2) (inside v.0 right.0 right.2) (sym (class_block x u left) ∙ parts.2 ∙ class_block y v right);
        matched = λ x y h. let parts = one_block_parts x y h in alike x y parts.0 parts.1 parts.2;
      }

      module _ (least : point_blocks.AreLeastPoints (points labels starts children) numbers) where
        pub block_inside : (x : TermId) → x.0 < count → block_of blocks x < count
        block_inside x in_x =
            let bx = made.each x.0 in_x in
            let in_r = inside bx.rep.0 bx.rep bx.own in
            let low = least.least bx.rep.0 (point_in bx.rep.0 in_r) in
            omega (arith, low, in_r, bx.is)

        -- the term that a block is named for represents its class
        name_own : (r : TermId) → slice_get state.reps r.0 ≡ Some r → slice_get state.reps (slice_index numbers r.0) ≡ Some (term (slice_index numbers r.0))
        name_own r own =
            let b = slice_index numbers r.0 in
            let in_r = inside r.0 r own in
            let low : b ≤ r.0 = least.least r.0 (point_in r.0 in_r) in
            let in_b : b < count = omega (arith, low, in_r) in
            let member : slice_index numbers b ≡ b = least.member r.0 (point_in r.0 in_r) in
            let label : slice_index labels b ≡ slice_index labels r.0 = stable.labels b r.0 (point_in b in_b) (point_in r.0 in_r) member in
            elim (labelled.each b in_b) [
              | inl a ↦ a.2.own
              | inr a ↦ elim (labelled.each r.0 in_r) [
                | inl c ↦ absurd (omega (arith, label, a.1, c.3))
                | inr c ↦ let same : r.0 ≡ b = omega (arith, label, a.1, c.1) in subst (λ n. slice_get state.reps n ≡ Some (term n)) same own
              ]
            ]

        pub block_member : (x : TermId) → x.0 < count → slice_index blocks (block_of blocks x) ≡ block_of blocks x
        block_member x in_x =
            let bx = made.each x.0 in_x in
            let r = bx.rep in
            let b = slice_index numbers r.0 in
            let in_r = inside r.0 r bx.own in
            let member : slice_index numbers b ≡ b = least.member r.0 (point_in r.0 in_r) in
            ap (slice_index blocks) bx.is ∙ block_at_rep (term b) (term b) (name_own r bx.own) ∙ member ∙ sym bx.is

    -- ---- a bisimulation on terms as one on points

    module _ (related : TermId → TermId → Bool) (is : IsBisimulation state.terms (AreEqual state) related) where
      -- whether the term represents its class
      abbrev owns : ℕ → Bool
      owns i = nat_eq (get_or state.reps i (term i)).0 i

      owns_from : (i : ℕ) → slice_get state.reps i ≡ Some (term i) → owns i ≡ true
      owns_from i own = eq-eqb (get_or state.reps i (term i)).0 i (ap (λ (q : TermId). q.0) (get_or_from_slice_get state.reps i (term i) (term i) own))

      owns_at : (i : ℕ) → i < count → owns i ≡ true → slice_get state.reps i ≡ Some (term i)
      owns_at i within h =
          let number : (get_or state.reps i (term i)).0 ≡ i = eqb-true (get_or state.reps i (term i)).0 i h in
          let same : get_or state.reps i (term i) ≡ term i = λ j. record { 0 = number j } in
          slice_get-get_or state.reps i (term i) (omega (arith, within, long)) ∙ ap Some same

      abbrev relates : ℕ → ℕ → Bool
      relates i j = nat_eq i j || (owns i && (owns j && related (term i) (term j)))

      relates_self : (i : ℕ) → relates i i ≡ true
      relates_self i = or_left (nat_eq i i) (owns i && (owns i && related (term i) (term i))) (eq-eqb i i refl)

      relates_from : (i j : ℕ) → slice_get state.reps i ≡ Some (term i) → slice_get state.reps j ≡ Some (term j) → related (term i) (term j) ≡ true → relates i j ≡ true
      relates_from i j own_i own_j h =
          or_right (nat_eq i j) (owns i && (owns j && related (term i) (term j)))
          (and_from (owns i) (owns j && related (term i) (term j)) (owns_from i own_i) (and_from (owns j) (related (term i) (term j)) (owns_from j own_j) h))

      -- related points are one, or their terms have related constructor terms
      relates_cases : (i j : ℕ) → i < count → j < count → relates i j ≡ true → (i ≡ j) ⊎ ((slice_get state.reps i ≡ Some (term i)) × (slice_get state.reps j ≡ Some (term j)) × HaveRelatedTerms state.terms (AreEqual state) related (term i) (term j))
      relates_cases i j in_i in_j h = elim (or_cases (nat_eq i j) (owns i && (owns j && related (term i) (term j))) h) [
        | inl e ↦ inl (eqb-true i j e)
        | inr more ↦
            let first = both_parts (owns i) (owns j && related (term i) (term j)) more in
            let second = both_parts (owns j) (related (term i) (term j)) first.1 in
            let own_i = owns_at i in_i first.0 in
            let own_j = owns_at j in_j second.0 in
            elim (is.matched (term i) (term j) second.1) [
              | inl equal ↦ inl (ap (λ (q : TermId). q.0) (same_Some (term i) (term j) (sym own_i ∙ equal.1 ∙ sym equal.2 ∙ own_j)))
              | inr terms ↦ inr (own_i, own_j, terms)
            ]
      ]

      -- a representative whose class has a constructor term is built by its constructor
      built_of : (i : ℕ) → i < count → slice_get state.reps i ≡ Some (term i) → (left : TermId) (ctor : CtorId) (xs : List TermId) → AreEqual state (term i) left → Has state.terms (Con ctor xs) left.0 → (args : List TermId) × IsBuilt state i ctor args × (slice_index labels i ≡ 2 * ctor.0)
      built_of i within own left ctor xs equal stands = elim (labelled.each i within) [
        | inl a ↦
            let there = InOneClass-trans state.reps a.2.con (term i) left (InOneClass-sym state.reps (term i) a.2.con a.2.equal) equal in
            let same : a.0 ≡ ctor = same_ctor state quiet sorted a.2.con left there a.0 ctor a.1 xs a.2.stands stands in
            (a.1, subst (λ (c : CtorId). IsBuilt state i c a.1) same a.2, a.3 ∙ ap (λ (c : CtorId). 2 * c.0) same)
        | inr b ↦ absurd (b.0 own left (ctor, xs, stands) equal)
      ]

      -- an argument of the stored constructor term equals the one at its place in another of the class
      argument_of : (i : ℕ) (left : TermId) (ctor : CtorId) (args xs : List TermId) → IsBuilt state i ctor args → AreEqual state (term i) left → Has state.terms (Con ctor xs) left.0 → (place : ℕ) (a : TermId) → slice_get args place ≡ Some a → (x : TermId) × (slice_get xs place ≡ Some x) × AreEqual state a x
      argument_of i left ctor args xs built equal stands =
          let there = InOneClass-trans state.reps built.con (term i) left (InOneClass-sym state.reps (term i) built.con built.equal) equal in
          same_argument state quiet sorted built.con left there ctor args xs built.stands stands

      related_rows : (i j : ℕ) → i < count → j < count → slice_get state.reps i ≡ Some (term i) → slice_get state.reps j ≡ Some (term j) → HaveRelatedTerms state.terms (AreEqual state) related (term i) (term j) → pointwise relates (p.children i) (p.children j) ≡ true
      related_rows i j in_i in_j own_i own_j h =
          let left = built_of i in_i own_i h.left h.ctor h.xs h.left_equal h.left_stands in
          let right = built_of j in_j own_j h.right h.ctor h.ys h.right_equal h.right_stands in
          let left_row = row_of i in_i h.ctor left.0 left.1 in
          let right_row = row_of j in_j h.ctor right.0 right.1 in
          let lengths : length (p.children i) ≡ length (p.children j) =
          sym (AllZip-one_length (IsRepNumber state.reps) left.0 (p.children i) left_row)
          ∙ one_arity state.declarations state.terms h.ctor left.0 right.0 left.1.con.0 right.1.con.0 sorted left.1.stands right.1.stands
          ∙ AllZip-one_length (IsRepNumber state.reps) right.0 (p.children j) right_row in
          pointwise-from relates (p.children i) (p.children j) lengths
          (λ place k l at_k at_l.
          let a = AllZip-at_right (IsRepNumber state.reps) left.0 (p.children i) place k left_row at_k in
          let b = AllZip-at_right (IsRepNumber state.reps) right.0 (p.children j) place l right_row at_l in
          let x = argument_of i h.left h.ctor left.0 h.xs left.1 h.left_equal h.left_stands place a.0 a.1 in
          let y = argument_of j h.right h.ctor right.0 h.ys right.1 h.right_equal h.right_stands place b.0 b.1 in
          let pair : related x.0 y.0 ≡ true = AllZip-at (λ u v. related u v ≡ true) h.xs h.ys place x.0 y.0 h.arguments x.1 y.1 in
          let to_k = InOneClass-trans state.reps x.0 a.0 (term k) (InOneClass-sym state.reps a.0 x.0 x.2) (term k, a.2.of_term, a.2.own) in
          let to_l = InOneClass-trans state.reps y.0 b.0 (term l) (InOneClass-sym state.reps b.0 y.0 y.2) (term l, b.2.of_term, b.2.own) in
          relates_from k l a.2.own b.2.own (is.of_classes x.0 y.0 (term k) (term l) to_k to_l pair))

      on_points : point.IsBisimulation (points labels starts children) relates
      on_points = record {
        labels = λ i j i_in j_in h.
            let in_i : i < count = omega (arith, i_in, labelled.long) in
            let in_j : j < count = omega (arith, j_in, labelled.long) in
            elim (relates_cases i j in_i in_j h) [
              | inl e ↦ ap (slice_index labels) e
              | inr more ↦
                  let t = more.2 in
                  let left = built_of i in_i more.0 t.left t.ctor t.xs t.left_equal t.left_stands in
                  let right = built_of j in_j more.1 t.right t.ctor t.ys t.right_equal t.right_stands in
                  left.2 ∙ sym right.2
            ];
        children = λ i j i_in j_in h.
            let in_i : i < count = omega (arith, i_in, labelled.long) in
            let in_j : j < count = omega (arith, j_in, labelled.long) in
            elim (relates_cases i j in_i in_j h) [
              | inl e ↦ subst (λ n. pointwise relates (p.children i) (p.children n) ≡ true) e (pointwise-refl relates (p.children i) relates_self)
              | inr more ↦ related_rows i j in_i in_j more.0 more.1 more.2
            ];
      }

      pub related_block : point_blocks.IsCoarsest (points labels starts children) numbers → (x y : TermId) → x.0 < count → y.0 < count → related x y ≡ true → block_of blocks x ≡ block_of blocks y
      related_block coarsest x y in_x in_y h =
          let bx = made.each x.0 in_x in
          let by = made.each y.0 in_y in
          let r = bx.rep in
          let s = by.rep in
          let pair : related r s ≡ true = is.of_classes x y r s (r, bx.of_term, bx.own) (s, by.of_term, by.own) h in
          bx.is
          ∙ coarsest.related relates on_points r.0 s.0 (point_in r.0 (inside r.0 r bx.own)) (point_in s.0 (inside s.0 s by.own)) (relates_from r.0 s.0 bx.own by.own pair)
          ∙ sym by.is

    -- ---- both

    pub IsCoarsest-of : point_blocks.IsStable (points labels starts children) numbers → point_blocks.IsCoarsest (points labels starts children) numbers → point_blocks.AreLeastPoints (points labels starts children) numbers → IsCoarsest state blocks
    IsCoarsest-of stable coarsest least = record {
      long = made.long;
      stable = bisimulation stable;
      equal = class_block;
      related = λ x y in_x in_y h. related_block h.related h.bisimulation coarsest x y (omega (arith, in_x, made.long)) (omega (arith, in_y, made.long)) h.holds;
      inside = λ x in_x. let h = block_inside stable least x (omega (arith, in_x, made.long)) in omega (arith, h, made.long);
      member = λ x in_x. block_member stable least x (omega (arith, in_x, made.long));
    }

-- what the test says
pub block_parts : (blocks : List ℕ) (x y : TermId) → in_one_block blocks x y ≡ true → (x.0 < length blocks) × (y.0 < length blocks) × (block_of blocks x ≡ block_of blocks y)
block_parts blocks x y h =
    let first = both_parts (nat_lt x.0 (length blocks)) (nat_lt y.0 (length blocks) && nat_eq (block_of blocks x) (block_of blocks y)) h in
    let second = both_parts (nat_lt y.0 (length blocks)) (nat_eq (block_of blocks x) (block_of blocks y)) first.1 in
    (ltb-true x.0 (length blocks) first.0, ltb-true y.0 (length blocks) second.0, eqb-true (block_of blocks x) (block_of blocks y) second.1)

-- blocks hold exactly the terms that are alike
pub exact_of : (state : State) (blocks : List ℕ) → IsCoarsest state blocks → (x y : TermId) → x.0 < length state.terms → y.0 < length state.terms → (block_of blocks x ≡ block_of blocks y) ↔ AreAlike state x y
exact_of state blocks is x y in_x in_y =
    let x_in : x.0 < length blocks = omega (arith, in_x, is.long) in
    let y_in : y.0 < length blocks = omega (arith, in_y, is.long) in (
      λ same. inr (record { related = in_one_block blocks; bisimulation = is.stable; holds = in_block blocks x y x_in y_in same }),
      λ alike. elim alike [ inl equal ↦ is.equal x y equal | inr h ↦ is.related x y x_in y_in h ],
    )

-- classes of one block are one, or have constructor terms
pub built_both : (state : State) (blocks : List ℕ) → IsCoarsest state blocks → (x y : TermId) → x.0 < length state.terms → y.0 < length state.terms → block_of blocks x ≡ block_of blocks y → (AreEqual state x y → ⊥) → ((c : TermId) × IsConstructorTerm state.terms c × AreEqual state x c) × ((c : TermId) × IsConstructorTerm state.terms c × AreEqual state y c)
built_both state blocks is x y in_x in_y same apart =
    elim (is.stable.matched x y (in_block blocks x y (omega (arith, in_x, is.long)) (omega (arith, in_y, is.long)) same)) [
      | inl equal ↦ absurd (apart equal)
      | inr h ↦ ((h.left, (h.ctor, h.xs, h.left_stands), h.left_equal), (h.right, (h.ctor, h.ys, h.right_stands), h.right_equal))
    ]
