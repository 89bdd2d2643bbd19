-- Ranks of what rules derive: what one more rank changes.
use Rattle.std.proofs.Common.{◌≡◌, ℕ, zero, suc, ◌+◌, ◌<◌, ◌≤◌, ◌⊎◌, Bool, true, false, ◌||◌, true≢false, List, [], ◌∷◌, ◌++◌, length, get_or, slice_get, Some, refl, sym, ◌∙◌, ap, subst, inl, inr, arith, length-append}
use Rattle.std.proofs.lemmas.List.{get_or-set_same, get_or-set_other}
use Rattle.std.proofs.lemmas.Bool.{cases_order}
use Rattle.std.proofs.Math.ListN.{set}
use Rattle.std.proofs.lemmas.Option.{same_Some, slice_get_within}
use Rattle.std.specs.Bool.{OnFalse}
use Rattle.ct_lemmas.proofs.Lists.{slice_get-append_left, slice_get-last}
use Rattle.ct_card.specs.declared.chain.Rule.{Rule}
use Rattle.ct_card.proofs.ListLemmas.{pushed_at}
use Rattle.ct_card.specs.Rules.{IsDerived, IsReady, AreGrounded, IsOrder}
use Rattle.ct_card.specs.Derived.{IsUnderWay, missing_ranks}

-- what stands at an index of a list in which one number was set
pub set_at : (xs : List ℕ) (i v n : ℕ) → i < length xs → ((n ≡ i) × (get_or (set xs i v) n 0 ≡ v)) ⊎ ((n ≡ i → ⊥) × (get_or (set xs i v) n 0 ≡ get_or xs n 0))
set_at xs i v n within =
    elim (cases_order n i) [
      | inl e ↦ inl (e, ap (λ k. get_or (set xs i v) k 0) e ∙ get_or-set_same xs i v 0 within)
      | inr (inl less) ↦ let ne : n ≡ i → ⊥ = λ e. omega arith in inr (ne, get_or-set_other xs i n v 0 ne)
      | inr (inr more) ↦ let ne : n ≡ i → ⊥ = λ e. omega arith in inr (ne, get_or-set_other xs i n v 0 ne)
    ]

-- a number that was not derived gets a rank that is greater than all: the others keep theirs
stays : (ranks : List ℕ) (head v : ℕ) → head < length ranks → get_or ranks head 0 ≡ 0 → (b : ℕ) → IsDerived ranks b → get_or (set ranks head v) b 0 ≡ get_or ranks b 0
stays ranks head v within fresh b derived =
    elim (set_at ranks head v b within) [
      | inl (e, at) ↦ let h : get_or ranks b 0 ≡ 0 = ap (λ k. get_or ranks k 0) e ∙ fresh in absurd (omega arith)
      | inr (ne, at) ↦ at
    ]

pub IsUnderWay-fired : (old : List ℕ) (rules : List Rule) (ranks order : List ℕ) (k : ℕ) (rule : Rule) → slice_get rules k ≡ Some rule → IsUnderWay old rules ranks order → rule.head < length ranks → get_or ranks rule.head 0 ≡ 0 → IsReady ranks rule → IsUnderWay old rules (set ranks rule.head (length order + 1)) (order ++ rule.head ∷ [])
IsUnderWay-fired old rules ranks order k rule stated before within fresh ready =
    record {
      heads = before.heads;
      stayed = λ n less. elim (set_at ranks rule.head (length order + 1) n within) [
        | inl (e, at) ↦ let not_below = before.heads k rule stated in absurd (omega arith)
        | inr (ne, at) ↦ at ∙ before.stayed n less
      ];
      grounded = grounded;
      bounded = λ n. elim (set_at ranks rule.head (length order + 1) n within) [
        | inl (e, at) ↦ omega (arith, at, length-append order (rule.head ∷ []))
        | inr (ne, at) ↦ omega (arith, at, before.bounded n, length-append order (rule.head ∷ []))
      ];
      ordered = record { at = at_order; of = of_order };
    }
  where
    stored : (b : ℕ) → IsDerived ranks b → get_or (set ranks rule.head (length order + 1)) b 0 ≡ get_or ranks b 0
    stored = stays ranks rule.head (length order + 1) within fresh

    grounded : AreGrounded (length old) rules (set ranks rule.head (length order + 1))
    grounded n from derived =
        elim (set_at ranks rule.head (length order + 1) n within) [
          | inl (e, at) ↦ record {
            rule = rule;
            cause = k;
            stated = stated;
            head = sym e;
            ready = λ i b listed. let h = stored b (ready i b listed) in let d : 0 < get_or ranks b 0 = ready i b listed in omega arith;
            lower = λ i b listed. let h = stored b (ready i b listed) in let l : get_or ranks b 0 ≤ length order = before.bounded b in omega arith;
          }
          | inr (ne, at) ↦
              let was : 0 < get_or ranks n 0 = omega arith in
              let g = before.grounded n from was in record {
                rule = g.rule;
                cause = g.cause;
                stated = g.stated;
                head = g.head;
                ready = λ i b listed. let h = stored b (g.ready i b listed) in let d : 0 < get_or ranks b 0 = g.ready i b listed in omega arith;
                lower = λ i b listed. let h = stored b (g.ready i b listed) in let l : get_or ranks b 0 < get_or ranks n 0 = g.lower i b listed in omega arith;
              }
        ]

    at_order : (i n : ℕ) → slice_get (order ++ rule.head ∷ []) i ≡ Some n → get_or (set ranks rule.head (length order + 1)) n 0 ≡ suc i
    at_order i n listed =
        elim (pushed_at order rule.head n i listed) [
          | inl h ↦ let was : get_or ranks n 0 ≡ suc i = before.ordered.at i n h in stored n (omega arith) ∙ was
          | inr (e, same) ↦ ap (λ m. get_or (set ranks rule.head (length order + 1)) m 0) same ∙ get_or-set_same ranks rule.head (length order + 1) 0 within ∙ omega arith
        ]

    of_order : (i n : ℕ) → get_or (set ranks rule.head (length order + 1)) n 0 ≡ suc i → slice_get (order ++ rule.head ∷ []) i ≡ Some n
    of_order i n is =
        elim (set_at ranks rule.head (length order + 1) n within) [
          | inl (e, at) ↦ let here : i ≡ length order = omega arith in ap (slice_get (order ++ rule.head ∷ [])) here ∙ slice_get-last order rule.head ∙ ap Some (sym e)
          | inr (ne, at) ↦ slice_get-append_left order (rule.head ∷ []) i n (before.ordered.of i n (sym at ∙ is))
        ]

-- one less is missing then
pub missing_ranks-set : (ranks : List ℕ) (i v : ℕ) → i < length ranks → get_or ranks i 0 ≡ 0 → 0 < v → missing_ranks (set ranks i v) < missing_ranks ranks
missing_ranks-set [] i v within fresh some = absurd (omega arith)
missing_ranks-set (x ∷ xs) zero zero within fresh some = absurd (omega arith)
missing_ranks-set (zero ∷ xs) zero (suc v) within fresh some = omega arith
missing_ranks-set (suc x ∷ xs) zero (suc v) within fresh some = absurd (omega arith)
missing_ranks-set (zero ∷ xs) (suc i) v within fresh some = let h = missing_ranks-set xs i v (omega arith) fresh some in omega arith
missing_ranks-set (suc x ∷ xs) (suc i) v within fresh some = let h = missing_ranks-set xs i v (omega arith) fresh some in omega arith

-- where the order has the derived numbers, no rank is greater than what it is long
pub ranks_bounded : (ranks order : List ℕ) → IsOrder ranks order → (n : ℕ) → get_or ranks n 0 ≤ length order
ranks_bounded ranks order is n = by (get_or ranks n 0) refl
  where
    by : (rank : ℕ) → get_or ranks n 0 ≡ rank → rank ≤ length order
    by zero e = omega arith
    by (suc i) e = let within = slice_get_within order i n (is.of i n e) in omega arith

-- no number past the ranks is derived
pub past_ranks : (ranks : List ℕ) (n : ℕ) → length ranks ≤ n → get_or ranks n 0 ≡ 0
past_ranks [] n h = refl
past_ranks (x ∷ xs) zero h = absurd (omega arith)
past_ranks (x ∷ xs) (suc n) h = past_ranks xs n (omega arith)

-- at the start there are the earlier ranks, and none for further numbers
pub IsUnderWay-start : (old : List ℕ) (rules : List Rule) (ranks order : List ℕ) → ((n : ℕ) → get_or ranks n 0 ≡ get_or old n 0) → IsOrder old order → ((k : ℕ) (rule : Rule) → slice_get rules k ≡ Some rule → length old ≤ rule.head) → IsUnderWay old rules ranks order
IsUnderWay-start old rules ranks order same is heads =
    record {
      heads = heads;
      stayed = λ n less. same n;
      grounded = λ n from derived. let e : get_or old n 0 ≡ 0 = past_ranks old n from in let f = same n in absurd (omega arith);
      bounded = λ n. let h = ranks_bounded old order is n in let f = same n in omega arith;
      ordered = record { at = λ i n listed. same n ∙ is.at i n listed; of = λ i n e. is.of i n (sym (same n) ∙ e) };
    }

-- one round, up to an index: the rules below it are complete if none has fired
pub record IsRound (rules : List Rule) (initial initial_order ranks order : List ℕ) (index : ℕ) (fired : Bool) : Type 0 where
  pub long : length ranks ≡ length initial
  pub under_way : (old : List ℕ) → IsUnderWay old rules initial initial_order → IsUnderWay old rules ranks order
  pub fewer : fired ≡ true → missing_ranks ranks < missing_ranks initial
  pub same : fired ≡ false → ranks ≡ initial
  pub stable : fired ≡ false → (k : ℕ) (rule : Rule) → k < index → slice_get rules k ≡ Some rule → IsReady ranks rule → IsDerived ranks rule.head

-- a clause on the answer no
pub on_false : {P : Type 0} (b : Bool) → (b ≡ false → P) → OnFalse b P
on_false true h = tt
on_false false h = h refl

pub round_step : (rules : List Rule) (initial initial_order ranks order new_ranks new_order : List ℕ) (index : ℕ) (fired now : Bool) (rule : Rule) → slice_get rules index ≡ Some rule → IsRound rules initial initial_order ranks order index fired → length new_ranks ≡ length ranks → ((old : List ℕ) → IsUnderWay old rules initial initial_order → IsUnderWay old rules new_ranks new_order) → (now ≡ true → missing_ranks new_ranks < missing_ranks ranks) → (now ≡ false → new_ranks ≡ ranks) → (now ≡ false → IsReady ranks rule → IsDerived ranks rule.head) → IsRound rules initial initial_order new_ranks new_order (index + 1) (fired || now)
round_step rules initial initial_order ranks order new_ranks new_order index true now rule at before long under_way fewer same stable =
    record {
      long = long ∙ before.long;
      under_way = under_way;
      fewer = λ _. by now refl;
      same = λ e. absurd (true≢false e);
      stable = λ e. absurd (true≢false e);
    }
  where
    by : (b : Bool) → now ≡ b → missing_ranks new_ranks < missing_ranks initial
    by true e = omega (arith, fewer e, before.fewer refl)
    by false e = omega (arith, ap missing_ranks (same e), before.fewer refl)
round_step rules initial initial_order ranks order new_ranks new_order index false true rule at before long under_way fewer same stable =
    record {
      long = long ∙ before.long;
      under_way = under_way;
      fewer = λ _. omega (arith, fewer refl, ap missing_ranks (before.same refl));
      same = λ e. absurd (true≢false e);
      stable = λ e. absurd (true≢false e);
    }
round_step rules initial initial_order ranks order new_ranks new_order index false false rule at before long under_way fewer same stable =
    record {
      long = long ∙ before.long;
      under_way = under_way;
      fewer = λ e. absurd (true≢false (sym e));
      same = λ _. same refl ∙ before.same refl;
      stable = λ _ k other less listed ready.
          let was : IsReady ranks other = subst (λ (l : List ℕ). IsReady l other) (same refl) ready in
          subst (λ (l : List ℕ). IsDerived l other.head) (sym (same refl)) (elim (cases_order k index) [
            | inl e ↦
                let is : rule ≡ other = same_Some _ _ (sym at ∙ ap (slice_get rules) (sym e) ∙ listed) in
                subst (λ (r : Rule). IsReady ranks r → IsDerived ranks r.head) is (stable refl) was
            | inr (inl below) ↦ before.stable refl k other below listed was
            | inr (inr above) ↦ absurd (omega arith)
          ]);
    }
