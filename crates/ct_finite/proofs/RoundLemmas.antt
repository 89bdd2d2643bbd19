-- One round over all sorts, up to an index.
use Rattle.std.proofs.Common.{◌≡◌, ℕ, ◌+◌, ◌<◌, Bool, true, false, ◌||◌, true≢false, List, [], length, Option, Some, None, option_map, unwrap_or, slice_get, refl, sym, ◌∙◌, ap, subst, inl, inr, arith}
use Rattle.std.specs.Bool.{OnFalse}
use Rattle.std.proofs.lemmas.Option.{slice_get_within}
use Rattle.ct_lemmas.proofs.Numbers.{last_or_before}
use Rattle.ct_sorts.specs.declared.ids.SortId.{SortId}
use Rattle.ct_sorts.specs.Declarations.{Declarations, Sort}
use Rattle.ct_terms.specs.Fields.{ctor_ids_of_sort}
use Rattle.ct_finite.specs.Counts.{count_at}
use Rattle.ct_finite.specs.Counting.{AreReady, IsUnderWay, missing}

-- the count of the sort is known, or it cannot be noted
abbrev pub IsDone : Declarations → List ℕ → SortId → Type 0
IsDone d counts s = 0 < length (ctor_ids_of_sort d s) → AreReady d counts (ctor_ids_of_sort d s) → 0 < count_at counts s

-- the sorts below the index are done if nothing was noted
pub record IsRound (d : Declarations) (initial counts : List ℕ) (index : ℕ) (more : Bool) : Type 0 where
  pub under_way : IsUnderWay d counts
  pub fewer : more ≡ true → missing counts < missing initial
  pub same : more ≡ false → counts ≡ initial
  pub done : more ≡ false → (s : SortId) → s.0 < index → IsDone d counts s

-- a clause on the answer no
pub on_false : {P : Type 0} (b : Bool) → (b ≡ false → P) → OnFalse b P
on_false true h = tt
on_false false h = h refl

pub round_step : (d : Declarations) (initial counts new : List ℕ) (index : ℕ) (more now : Bool) → IsRound d initial counts index more → IsUnderWay d new → (now ≡ true → missing new < missing counts) → (now ≡ false → new ≡ counts) → (now ≡ false → IsDone d counts (record { 0 = index })) → IsRound d initial new (index + 1) (more || now)
round_step d initial counts new index true now before under_way fewer same done =
    record {
      under_way = under_way;
      fewer = λ _. by now refl;
      same = λ e. absurd (true≢false e);
      done = λ e. absurd (true≢false e);
    }
  where
    by : (b : Bool) → now ≡ b → missing new < missing initial
    by true e = omega (arith, fewer e, before.fewer refl)
    by false e = omega (arith, ap missing (same e), before.fewer refl)
round_step d initial counts new index false true before under_way fewer same done =
    record {
      under_way = under_way;
      fewer = λ _. omega (arith, fewer refl, ap missing (before.same refl));
      same = λ e. absurd (true≢false e);
      done = λ e. absurd (true≢false e);
    }
round_step d initial counts new index false false before under_way fewer same done =
    record {
      under_way = under_way;
      fewer = λ e. absurd (true≢false (sym e));
      same = λ _. same refl ∙ before.same refl;
      done = λ _ s below. subst (λ (l : List ℕ). IsDone d l s) (sym (same refl)) (elim (last_or_before s.0 index below) [
        | inl earlier ↦ before.done refl s earlier
        | inr last ↦ subst (IsDone d counts) (sym (ap (λ (n : ℕ). record { 0 = n }) last)) (done refl)
      ]);
    }

-- after the last sort all are done
pub all_done : (d : Declarations) (counts : List ℕ) → ((s : SortId) → s.0 < length d.sorts → IsDone d counts s) → (s : SortId) → IsDone d counts s
all_done d counts done s some ready = by (slice_get d.sorts s.0) refl
  where
    by : (o : Option Sort) → slice_get d.sorts s.0 ≡ o → 0 < count_at counts s
    by None e =
        let none : ctor_ids_of_sort d s ≡ [] = ap (λ (p : Option Sort). unwrap_or (option_map (λ (u : Sort). u.ctors) p) []) e in
        absurd (omega (arith, some, ap length none))
    by (Some sort) e = done s (slice_get_within d.sorts s.0 sort e) some ready
