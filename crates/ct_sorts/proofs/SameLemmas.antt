-- The number of a sort among others: the first index at which it stands.
use Rattle.std.proofs.Common.{◌≡◌, ℕ, zero, suc, ◌+◌, ◌<◌, ◌&&◌, ◌==◌, Bool, true, false, cond, nat_lt, List, [], ◌∷◌, ◌++◌, length, slice_get, position, unwrap_or, Some, None, Decides, refl, sym, ◌∙◌, ap, ap₂, subst, arith, length-append}
use Rattle.std.specs.List.{position_or_len}
use Rattle.std.proofs.lemmas.Bool.{true≢false}
use Rattle.std.proofs.lemmas.Bool.Decides.{Decides-eqb, Decides-ltb, Decides-and}
use Rattle.std.proofs.lemmas.Option.{none-some, same_Some, slice_get_within}
use Rattle.ct_lemmas.proofs.Lists.{slice_get-append_left}
use Rattle.ct_generics.specs.Expression.{Expression, parameter, named, applied}
use Rattle.ct_generics.specs.Add.{IsAmong}
use Rattle.ct_sorts.specs.Same.{is_same, number_among, sort_among}

one_parameter : (i j : ℕ) → parameter i ≡ parameter j → i ≡ j
one_parameter i j e = cc

one_named : (g h : ℕ) → named g ≡ named h → g ≡ h
one_named g h e = cc

one_applied : (e a f b : Expression) → applied e a ≡ applied f b → (e ≡ f) × (a ≡ b)
one_applied e a f b h = (cc, cc)

-- the test tells whether two sort expressions are one
pub is_same-decides : (e f : Expression) → Decides (is_same e f) (e ≡ f)
is_same-decides (parameter i) (parameter j) = (λ h. ap parameter ((Decides-eqb i j).0 h), λ e. (Decides-eqb i j).1 (one_parameter i j e))
is_same-decides (named g) (named h) = (λ k. ap named ((Decides-eqb g h).0 k), λ e. (Decides-eqb g h).1 (one_named g h e))
is_same-decides (applied e a) (applied f b) = (
  λ h. let both = (Decides-and (is_same e f) (is_same a b) (is_same-decides e f) (is_same-decides a b)).0 h in ap₂ applied both.0 both.1,
  λ h. (Decides-and (is_same e f) (is_same a b) (is_same-decides e f) (is_same-decides a b)).1 (one_applied e a f b h),
)
is_same-decides (parameter i) (named h) = (λ k. absurd (true≢false (sym k)), λ e. absurd (let same = e in cc))
is_same-decides (parameter i) (applied f b) = (λ k. absurd (true≢false (sym k)), λ e. absurd (let same = e in cc))
is_same-decides (named g) (parameter j) = (λ k. absurd (true≢false (sym k)), λ e. absurd (let same = e in cc))
is_same-decides (named g) (applied f b) = (λ k. absurd (true≢false (sym k)), λ e. absurd (let same = e in cc))
is_same-decides (applied e a) (parameter j) = (λ k. absurd (true≢false (sym k)), λ h. absurd (let same = h in cc))
is_same-decides (applied e a) (named h) = (λ k. absurd (true≢false (sym k)), λ h. absurd (let same = h in cc))

module _ {X : Type 0} (test : X → Bool) where
  -- what passes the test is found
  found_before : (xs : List X) (i : ℕ) (x : X) → slice_get xs i ≡ Some x → test x ≡ true → position_or_len test xs < length xs
  found_before [] i x at holds = absurd (none-some _ at)
  found_before (y ∷ xs) zero x at holds = let passes : test y ≡ true = ap test (same_Some _ _ at) ∙ holds in rw passes (omega arith)
  found_before (y ∷ xs) (suc i) x at holds = by (test y) refl (found_before xs i x at holds)
    where
      by : (b : Bool) → test y ≡ b → position_or_len test xs < length xs → position_or_len test (y ∷ xs) < length (y ∷ xs)
      by true e rest = rw e (omega arith)
      by false e rest = rw e (omega arith)

  -- where the first does not pass the index is one after that in the rest
  next_index : (y : X) (xs : List X) → test y ≡ false → position_or_len test (y ∷ xs) ≡ suc (position_or_len test xs)
  next_index y xs e = rw e (omega arith)

  -- and what is found passes it
  found_passes : (xs : List X) → position_or_len test xs < length xs → (x : X) × (slice_get xs (position_or_len test xs) ≡ Some x) × (test x ≡ true)
  found_passes [] within = absurd (omega arith)
  found_passes (y ∷ xs) within = by (test y) refl (found_passes xs)
    where
      by : (b : Bool) → test y ≡ b → (position_or_len test xs < length xs → (x : X) × (slice_get xs (position_or_len test xs) ≡ Some x) × (test x ≡ true)) → (x : X) × (slice_get (y ∷ xs) (position_or_len test (y ∷ xs)) ≡ Some x) × (test x ≡ true)
      by true e rest = (y, rw e refl, e)
      by false e rest =
          let s = next_index y xs e in
          let r = rest (omega (arith, within, s)) in
          (r.0, subst (λ n. slice_get (y ∷ xs) n ≡ Some r.0) (sym s) r.1, r.2)

  -- it is found at the same index in a longer list
  found_longer : (xs ys : List X) → position_or_len test xs < length xs → position_or_len test (xs ++ ys) ≡ position_or_len test xs
  found_longer [] ys within = absurd (omega arith)
  found_longer (y ∷ xs) ys within = by (test y) refl (found_longer xs ys)
    where
      by : (b : Bool) → test y ≡ b → (position_or_len test xs < length xs → position_or_len test (xs ++ ys) ≡ position_or_len test xs) → position_or_len test ((y ∷ xs) ++ ys) ≡ position_or_len test (y ∷ xs)
      by true e rest = rw e refl
      by false e rest =
          let s = next_index y xs e in
          let r = rest (omega (arith, within, s)) in
          next_index y (xs ++ ys) e ∙ ap suc r ∙ sym s

  -- as an index, where there is one
  position_some : (xs : List X) → position_or_len test xs < length xs → position test xs ≡ Some (position_or_len test xs)
  position_some xs within = by (nat_lt (position_or_len test xs) (length xs)) (Decides-ltb (position_or_len test xs) (length xs))
    where
      by : (b : Bool) → Decides b (position_or_len test xs < length xs) → cond b (Some (position_or_len test xs)) None ≡ Some (position_or_len test xs)
      by true tells = refl
      by false tells = absurd (true≢false (sym (tells.1 within)))

module _ (origins : List Expression) (e : Expression) (among : IsAmong origins e) where
  within : position_or_len (is_same e) origins < length origins
  within = found_before (is_same e) origins among.0 e among.1 ((is_same-decides e e).1 refl)

  -- a sort that is one of these has a number, at which it stands
  pub number_at : (s : ℕ) × (number_among origins e ≡ Some s) × (slice_get origins s ≡ Some e)
  number_at =
      let found = found_passes (is_same e) origins within in
      let same : e ≡ found.0 = (is_same-decides e found.0).0 found.2 in
      (position_or_len (is_same e) origins, position_some (is_same e) origins within, found.1 ∙ ap Some (sym same))

  pub sort_at : slice_get origins (sort_among origins e).0 ≡ Some e
  sort_at = subst (λ o. slice_get origins (unwrap_or o 0) ≡ Some e) (sym number_at.1) number_at.2

  pub sort_within : (sort_among origins e).0 < length origins
  sort_within = slice_get_within origins (sort_among origins e).0 e sort_at

  -- the same where more sorts come after them
  pub sort_longer : (more : List Expression) → sort_among (origins ++ more) e ≡ sort_among origins e
  sort_longer more =
      let longer = found_longer (is_same e) origins more within in
      let still : position_or_len (is_same e) (origins ++ more) < length (origins ++ more) = omega (arith, longer, within, length-append origins more) in
      ap (λ o. record { 0 = unwrap_or o 0 }) (position_some (is_same e) (origins ++ more) still ∙ ap Some longer ∙ sym (position_some (is_same e) origins within))
