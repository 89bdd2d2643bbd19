-- Names that stand twice: one was met before, or is met again.
use Rattle.std.proofs.Common.{◌≡◌, ℕ, ◌-◌, ◌≤◌, Bool, true, false, not, true≢false, ◌||◌, List, [], ◌∷◌, ◌++◌, map, length, get_or, take, drop, Option, Some, None, refl, sym, ap, ap₂, subst, ◌∙◌, arith}
use Rattle.std.proofs.Math.Seq.{take-length}
use Rattle.std.specs.Borrow.{Bor}
use Rattle.std.specs.List.{list_any}
use Rattle.std.specs.Str.{bytes_eq}
use Rattle.std.proofs.lemmas.Cmp.{nat_list_eq_equiv}
use Rattle.std.proofs.lemmas.List.{append-nil}
use Rattle.ct_names.specs.Bounds.{held_name}
use Rattle.ct_names.specs.Repeats.{are_met}
use Rattle.ct_names.specs.Variables.{present_names, has_repeated}

none_met : (names : List (List ℕ)) → are_met [] names ≡ false
none_met [] = refl
none_met (name ∷ names) = none_met names

-- before any name is met
pub at_first : (names : List (List ℕ)) → has_repeated names ≡ (are_met [] names || has_repeated names)
at_first names = sym (ap (λ (b : Bool). b || has_repeated names) (none_met names))

any_end : (p : List ℕ → Bool) (xs : List (List ℕ)) (x : List ℕ) → list_any p (xs ++ x ∷ []) ≡ (p x || list_any p xs)
any_end p [] x = refl
any_end p (y ∷ ys) x = ap (λ (b : Bool). p y || b) (any_end p ys x) ∙ swap (p y) (p x) (list_any p ys)
  where
    swap : (a b c : Bool) → (a || (b || c)) ≡ (b || (a || c))
    swap true true c = refl
    swap true false c = refl
    swap false true c = refl
    swap false false c = refl

-- where one more name is met
more_met : (seen names : List (List ℕ)) (name : List ℕ) → are_met (seen ++ name ∷ []) names ≡ (list_any (λ other. bytes_eq other name) names || are_met seen names)
more_met seen [] name = refl
more_met seen (n ∷ ns) name =
    ap₂ (λ (a b : Bool). a || b) (any_end (bytes_eq n) seen name) (more_met seen ns name) ∙ four (bytes_eq n name) (list_any (bytes_eq n) seen) (list_any (λ other. bytes_eq other name) ns) (are_met seen ns)
  where
    four : (a b c d : Bool) → ((a || b) || (c || d)) ≡ ((a || c) || (b || d))
    four true b c d = refl
    four false true true d = refl
    four false true false d = refl
    four false false true d = refl
    four false false false d = refl

flipped : (names : List (List ℕ)) (name : List ℕ) → list_any (λ other. bytes_eq other name) names ≡ list_any (bytes_eq name) names
flipped [] name = refl
flipped (n ∷ ns) name = ap₂ (λ (a b : Bool). a || b) (nat_list_eq_equiv.symm n name) (flipped ns name)

-- a name that was met before
pub met_now : (seen : List (List ℕ)) (first : Option (List ℕ)) (others : List (Option (List ℕ))) → are_met seen (present_names (first ∷ [])) ≡ true → (are_met seen (present_names (first ∷ others)) || has_repeated (present_names (first ∷ others))) ≡ true
met_now seen None others h = absurd (true≢false (sym h))
met_now seen (Some name) others h = whole (list_any (bytes_eq name) seen) (are_met seen (present_names others)) (has_repeated (name ∷ present_names others)) h
  where
    whole : (a b c : Bool) → (a || false) ≡ true → ((a || b) || c) ≡ true
    whole true b c k = refl
    whole false b c k = absurd (true≢false (sym k))

-- a name that was not
pub met_later : (seen : List (List ℕ)) (first : Option (List ℕ)) (others : List (Option (List ℕ))) → are_met seen (present_names (first ∷ [])) ≡ false → (are_met seen (present_names (first ∷ others)) || has_repeated (present_names (first ∷ others))) ≡ (are_met (seen ++ present_names (first ∷ [])) (present_names others) || has_repeated (present_names others))
met_later seen None others h = ap (λ (xs : List (List ℕ)). are_met xs (present_names others) || has_repeated (present_names others)) (sym (append-nil seen))
met_later seen (Some name) others h =
    let ns = present_names others in
    turned (list_any (bytes_eq name) seen) (are_met seen ns) (list_any (bytes_eq name) ns) (has_repeated ns) h
    ∙ ap (λ (b : Bool). b || has_repeated ns) (sym (more_met seen ns name ∙ ap (λ (b : Bool). b || are_met seen ns) (flipped ns name)))
  where
    turned : (a m b r : Bool) → (a || false) ≡ false → ((a || m) || (b || r)) ≡ ((b || m) || r)
    turned true m b r k = absurd (true≢false k)
    turned false true true r k = refl
    turned false true false r k = refl
    turned false false true r k = refl
    turned false false false r k = refl

-- ---- the loop over names

abbrev Held : Type 0
Held = Option (Bor (List ℕ))

-- whether a name is new to a set of names
pub was_met : (new : Bool) (text : Bor (List ℕ)) (keys : List (Bor (List ℕ))) (name : Held) → name ≡ Some text → new ≡ not (list_any (λ (key : Bor (List ℕ)). bytes_eq text.now key.now) keys) → not new ≡ are_met (map (λ (key : Bor (List ℕ)). key.now) keys) (present_names (held_name name ∷ []))
was_met new text keys name is added =
    ap not added ∙ twice (list_any (λ (key : Bor (List ℕ)). bytes_eq text.now key.now) keys) ∙ mapped keys
    ∙ sym (or_none (list_any (bytes_eq text.now) (map (λ (key : Bor (List ℕ)). key.now) keys)))
    ∙ ap (λ (n : Held). are_met (map (λ (key : Bor (List ℕ)). key.now) keys) (present_names (held_name n ∷ []))) (sym is)
  where
    twice : (b : Bool) → not (not b) ≡ b
    twice true = refl
    twice false = refl

    or_none : (b : Bool) → (b || false) ≡ b
    or_none true = refl
    or_none false = refl

    mapped : (ks : List (Bor (List ℕ))) → list_any (λ (key : Bor (List ℕ)). bytes_eq text.now key.now) ks ≡ list_any (bytes_eq text.now) (map (λ (key : Bor (List ℕ)). key.now) ks)
    mapped [] = refl
    mapped (k ∷ ks) = ap (λ (b : Bool). bytes_eq text.now k.now || b) (mapped ks)

pub at_start : (keys : List (Bor (List ℕ))) (names : List (List ℕ)) → keys ≡ [] → has_repeated names ≡ (are_met (map (λ (key : Bor (List ℕ)). key.now) keys) names || has_repeated names)
at_start keys names e = at_first names ∙ ap (λ (ks : List (Bor (List ℕ))). are_met (map (λ (key : Bor (List ℕ)). key.now) ks) names || has_repeated names) (sym e)

pub met_step : (all seen later : List (List ℕ)) (left : List Held) (d : Held) → 1 ≤ length left → has_repeated all ≡ (are_met seen (present_names (map held_name left)) || has_repeated (present_names (map held_name left))) → are_met seen (present_names (held_name (get_or left 0 d) ∷ [])) ≡ false → later ≡ seen ++ present_names (held_name (get_or left 0 d) ∷ []) → has_repeated all ≡ (are_met later (present_names (map held_name (take (length left - 1) (drop 1 left)))) || has_repeated (present_names (map held_name (take (length left - 1) (drop 1 left)))))
met_step all seen later [] d h inv fresh more = absurd (omega (arith, h))
met_step all seen later (x ∷ xs) d h inv fresh more =
    let others : take (length (x ∷ xs) - 1) xs ≡ xs = ap (λ (n : ℕ). take n xs) (omega arith) ∙ take-length xs in
    subst (λ (ys : List Held). has_repeated all ≡ (are_met later (present_names (map held_name ys)) || has_repeated (present_names (map held_name ys)))) (sym others)
    (inv ∙ met_later seen (held_name x) (map held_name xs) fresh ∙ ap (λ (zs : List (List ℕ)). are_met zs (present_names (map held_name xs)) || has_repeated (present_names (map held_name xs))) (sym more))
