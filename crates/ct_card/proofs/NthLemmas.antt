-- The n-th value of a sort is told by the value.
use Rattle.std.proofs.Common.{◌≡◌, ℕ, zero, suc, ◌+◌, ◌*◌, Bool, true, false, List, [], ◌∷◌, Option, None, Some, slice_get, refl, sym, ◌∙◌, ap, subst, inl, inr, true≢false}
use Rattle.std.proofs.lemmas.Option.{same_Some}
use Rattle.ct_sorts.specs.declared.ids.CtorId.{CtorId}
use Rattle.ct_sorts.specs.declared.ids.SortId.{SortId}
use Rattle.ct_sorts.specs.Declarations.{Declarations}
use Rattle.ct_values.specs.declared.node.Head.TheVariants.{Elem}
use Rattle.ct_values.specs.Agreement.{Point, children, AgreeAlways}
use Rattle.ct_card.specs.declared.departure.Step.{Step}
use Rattle.ct_card.specs.declared.departure.Departure.{Departure}
use Rattle.ct_card.specs.declared.departure.Departure.TheVariants.{Nowhere, Constructor as Other, Field}
use Rattle.ct_card.specs.declared.departure.Layer.{Layer}
use Rattle.ct_card.specs.Defaults.{is_free_sort}
use Rattle.ct_card.specs.Nth.{IsPlain, Departs, ShowsDigit, CountsDigit, CountsEnd, Counts, IsEnd, IsNthAfter, reads_digit, turn_below}
use Rattle.ct_card.proofs.PathLemmas.{Agrees, same_top, same_child, same_head_at}
use Rattle.ct_card.proofs.DepartureLemmas.{other_not_nowhere, nowhere_not_field}

pub same_element : (s : SortId) (m n : ℕ) → Some (Elem s m) ≡ Some (Elem s n) → m ≡ n
same_element s m n e = let h : Elem s m ≡ Elem s n = same_Some _ _ e in cc

module _ (laws : Agrees) (d : Declarations) (ctors : List CtorId) (seconds : List Departure) (layers : List Layer) where
  plain_same : (layer : Layer) (p q : Point) → AgreeAlways p q → IsPlain d ctors seconds layer p → IsPlain d ctors seconds layer q
  plain_same layer p q same plain = λ path h sign. same_head_at laws path h p q same (plain path h sign)

  departs_same : (layer : Layer) (p q : Point) → AgreeAlways p q → Departs d ctors seconds layer p → Departs d ctors seconds layer q
  departs_same layer p q same (path, h, sign, none) = (path, h, sign, λ has. none (same_head_at laws path h q p (laws.turned p q same) has))

  not_both : (layer : Layer) (p q : Point) → AgreeAlways p q → Departs d ctors seconds layer p → IsPlain d ctors seconds layer q → ⊥
  not_both layer p q same departs plain =
      let (path, h, sign, none) = departs_same layer p q same departs in none (plain path h sign)

  -- ---- digits

  digit_same : (step : Step) (b : ℕ) (p q : Point) → AgreeAlways p q → ShowsDigit d ctors seconds step b p → ShowsDigit d ctors seconds step b q
  digit_same step zero p q same shows = λ path h sign. same_head_at laws path h p q same (shows path h sign)
  digit_same step (suc zero) p q same (path, h, sign, none) = (path, h, sign, λ has. none (same_head_at laws path h q p (laws.turned p q same) has))
  digit_same step (suc (suc b)) p q same shows = absurd shows

  -- a value shows one digit
  one_digit : (step : Step) (a b : ℕ) (p q : Point) → AgreeAlways p q → ShowsDigit d ctors seconds step a p → ShowsDigit d ctors seconds step b q → a ≡ b
  one_digit step zero zero p q same shows shows_too = refl
  one_digit step zero (suc zero) p q same shows (path, h, sign, none) = absurd (none (same_head_at laws path h p q same (shows path h sign)))
  one_digit step zero (suc (suc b)) p q same shows shows_too = absurd shows_too
  one_digit step (suc zero) zero p q same (path, h, sign, none) shows_too = absurd (none (same_head_at laws path h q p (laws.turned p q same) (shows_too path h sign)))
  one_digit step (suc zero) (suc zero) p q same shows shows_too = refl
  one_digit step (suc zero) (suc (suc b)) p q same shows shows_too = absurd shows_too
  one_digit step (suc (suc a)) b p q same shows shows_too = absurd shows

  counts_digit_same : (step : Step) (n m : ℕ) (p q : Point) → AgreeAlways p q → CountsDigit d ctors seconds step n m p → CountsDigit d ctors seconds step n m q
  counts_digit_same step n m p q same (b, shows, n_is) = (b, digit_same step b p q same shows, n_is)

  counts_digit_one : (step : Step) (n k m : ℕ) (p q : Point) → AgreeAlways p q → CountsDigit d ctors seconds step n m p → CountsDigit d ctors seconds step k m q → n ≡ k
  counts_digit_one step n k m p q same (a, shows, n_is) (b, shows_too, k_is) =
      n_is ∙ ap (λ c. c + 2 * m) (one_digit step a b p q same shows shows_too) ∙ sym k_is

  -- ---- layers

  counts_end_same : (digit : Option Step) (n m : ℕ) (p q : Point) → AgreeAlways p q → CountsEnd d ctors seconds digit n m p → CountsEnd d ctors seconds digit n m q
  counts_end_same None n m p q same n_is = n_is
  counts_end_same (Some step) n m p q same (k, n_is, counts) = (k, n_is, counts_digit_same step k m p q same counts)

  counts_end_one : (digit : Option Step) (n k m : ℕ) (p q : Point) → AgreeAlways p q → CountsEnd d ctors seconds digit n m p → CountsEnd d ctors seconds digit k m q → n ≡ k
  counts_end_one None n k m p q same n_is k_is = n_is ∙ sym k_is
  counts_end_one (Some step) n k m p q same (i, n_is, counts) (j, k_is, counts_too) =
      n_is ∙ ap suc (counts_digit_one step i j m p q same counts counts_too) ∙ sym k_is

  counts_same : (layer : Layer) (departure : Departure) (turn : Bool) (n m : ℕ) (p q : Point) → AgreeAlways p q → Counts d ctors seconds layer departure turn n m p → Counts d ctors seconds layer departure turn n m q
  counts_same layer Nowhere turn n m p q same n_is = n_is
  counts_same layer (Other ctor) turn n m p q same (plain, counts) = (plain_same layer p q same plain, counts_end_same layer.digit n m p q same counts)
  counts_same layer (Field step) true n m p q same counts = counts_digit_same step n m p q same counts
  counts_same layer (Field step) false n m p q same (plain, n_is) = (plain_same layer p q same plain, n_is)

  -- values that show the same, and the same below, have one number
  counts_one : (layer : Layer) (departure : Departure) (turn : Bool) (n k m : ℕ) (p q : Point) → AgreeAlways p q → Counts d ctors seconds layer departure turn n m p → Counts d ctors seconds layer departure turn k m q → n ≡ k
  counts_one layer Nowhere turn n k m p q same n_is k_is = n_is ∙ sym k_is
  counts_one layer (Other ctor) turn n k m p q same (plain, counts) (plain_too, counts_too) = counts_end_one layer.digit n k m p q same counts counts_too
  counts_one layer (Field step) true n k m p q same counts counts_too = counts_digit_one step n k m p q same counts counts_too
  counts_one layer (Field step) false n k m p q same (plain, n_is) (plain_too, k_is) = n_is ∙ sym k_is

  -- no value departs where none can
  departs_nowhere : (layer : Layer) (p : Point) → layer.departure ≡ Nowhere → Departs d ctors seconds layer p → ⊥
  departs_nowhere layer p e ([], h, (other, is, head_is), none) = other_not_nowhere other (sym is ∙ e)
  departs_nowhere layer p e ((place ∷ path), h, (step, is, place_is, sign), none) = nowhere_not_field step (sym e ∙ is)

  -- a value that departs shows no layer
  departs_or_counts : (layer : Layer) (departure : Departure) (turn : Bool) (n m : ℕ) (p q : Point) → AgreeAlways p q → layer.departure ≡ departure → reads_digit turn departure ≡ false → Departs d ctors seconds layer p → Counts d ctors seconds layer departure turn n m q → ⊥
  departs_or_counts layer Nowhere turn n m p q same e reads departs counts = departs_nowhere layer p e departs
  departs_or_counts layer (Other ctor) turn n m p q same e reads departs (plain, counts) = not_both layer p q same departs plain
  departs_or_counts layer (Field step) true n m p q same e reads departs counts = true≢false reads
  departs_or_counts layer (Field step) false n m p q same e reads departs (plain, n_is) = not_both layer p q same departs plain

  -- ---- the whole way

  pub nth_same : (count : ℕ) (turn : Bool) (s n : ℕ) (p q : Point) → AgreeAlways p q → IsNthAfter d ctors seconds layers count turn s n p → IsNthAfter d ctors seconds layers count turn s n q
  nth_same zero turn s n p q same (inl (free, is)) = inl (free, same_top laws p q (Elem (record { 0 = s }) n) same is)
  nth_same zero turn s n p q same (inr (other, none, layer, at, reads, departs)) = inr (other, none, layer, at, reads, departs_same layer p q same departs)
  nth_same (suc count) turn s n p q same (other, layer, stored, m, counts, x, at, rest) =
      let y = same_child laws p q layer.step.place x same at in
      (other, layer, stored, m, counts_same layer layer.departure turn n m p q same counts, y.0, y.1, nth_same count (turn_below turn layer.departure) layer.step.next m x y.0 y.2 rest)

  -- an end is no layer
  end_or_layer : (turn : Bool) (s m n k : ℕ) (p q : Point) (layer : Layer) → AgreeAlways p q → IsEnd d ctors seconds layers turn s m p → is_free_sort d s ≡ false → slice_get layers s ≡ Some layer → Counts d ctors seconds layer layer.departure turn n k q → ⊥
  end_or_layer turn s m n k p q layer same (inl (free, is)) other at counts = true≢false (sym free ∙ other)
  end_or_layer turn s m n k p q layer same (inr (kind, none, found, stored, reads, departs)) other at counts =
      let e : found ≡ layer = same_Some _ _ (sym stored ∙ at) in
      departs_or_counts layer layer.departure turn n k p q same refl (subst (λ (l : Layer). reads_digit turn l.departure ≡ false) e reads) (subst (λ (l : Layer). Departs d ctors seconds l p) e departs) counts

  pub nth_one : (count more : ℕ) (turn : Bool) (s m n : ℕ) (p q : Point) → AgreeAlways p q → IsNthAfter d ctors seconds layers count turn s m p → IsNthAfter d ctors seconds layers more turn s n q → m ≡ n
  nth_one zero zero turn s m n p q same (inl (free, is)) (inl (free_too, is_too)) =
      same_element (record { 0 = s }) m n (sym (same_top laws p q (Elem (record { 0 = s }) m) same is) ∙ is_too)
  nth_one zero zero turn s m n p q same (inl (free, is)) (inr end) = absurd (true≢false (sym free ∙ end.0))
  nth_one zero zero turn s m n p q same (inr end) (inl (free, is)) = absurd (true≢false (sym free ∙ end.0))
  nth_one zero zero turn s m n p q same (inr end) (inr end_too) = end.1 ∙ sym end_too.1
  nth_one zero (suc more) turn s m n p q same end (other, layer, stored, k, counts, y, at, rest) =
      absurd (end_or_layer turn s m n k p q layer same end other stored counts)
  nth_one (suc count) zero turn s m n p q same (other, layer, stored, k, counts, x, at, rest) end =
      absurd (end_or_layer turn s n m k q p layer (laws.turned p q same) end other stored counts)
  nth_one (suc count) (suc more) turn s m n p q same (other, layer, stored, k, counts, x, at, rest) (other_too, layer_too, stored_too, k_too, counts_too, y, at_too, rest_too) =
      let e : layer_too ≡ layer = same_Some _ _ (sym stored_too ∙ stored) in
      let z = same_child laws p q layer.step.place x same at in
      let child : z.0 ≡ y = same_Some _ _ (sym z.1 ∙ ap (λ (l : Layer). slice_get (children q) l.step.place) (sym e) ∙ at_too) in
      let agree : AgreeAlways x y = subst (λ (w : Point). AgreeAlways x w) child z.2 in
      let below = subst (λ (l : Layer). IsNthAfter d ctors seconds layers more (turn_below turn l.departure) l.step.next k_too y) e rest_too in
      let left : k ≡ k_too = nth_one count more (turn_below turn layer.departure) layer.step.next k k_too x y agree rest below in
      let shown = subst (λ (l : Layer). Counts d ctors seconds l l.departure turn n k_too q) e counts_too in
      counts_one layer layer.departure turn m n k p q same counts (subst (λ i. Counts d ctors seconds layer layer.departure turn n i q) (sym left) shown)
