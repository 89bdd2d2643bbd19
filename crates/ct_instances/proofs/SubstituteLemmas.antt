-- Fields that match with sorts are these sorts, with what the parameters stand for in their place.
use Rattle.std.proofs.Common.{◌≡◌, ℕ, zero, suc, ◌==◌, Bool, true, false, if◌then◌else◌, List, [], ◌∷◌, unwrap_or, option_map, Option, Some, None, slice_get, refl, sym, ◌∙◌, ap, ap₂}
use Rattle.std.specs.Option.{option_and_then}
use Rattle.std.proofs.lemmas.Bool.Decides.{Decides-eqb}
use Rattle.std.proofs.lemmas.Option.{none-some, same_Some}
use Rattle.ct_generics.specs.Expression.{Expression, parameter, named, applied, substitute}
use Rattle.ct_sorts.specs.Same.{is_same}
use Rattle.ct_sorts.proofs.SameLemmas.{is_same-decides}
use Rattle.ct_instances.specs.Matching.{Assignment, assign, matched_parameter, matched, sorts_for}

-- what a parameter was matched with it is matched with still
abbrev pub Keeps : Assignment → Assignment → Type 0
Keeps m n = (i : ℕ) (e : Expression) → slice_get m i ≡ Some (Some e) → slice_get n i ≡ Some (Some e)

keeps_itself : (m n : Assignment) → (let o : Option Assignment = Some m in o) ≡ Some n → Keeps m n
keeps_itself m n e i x at = ap (λ (k : Assignment). slice_get k i) (sym (same_Some m n e)) ∙ at

-- the place that is assigned, and the others
assigned_there : (i : ℕ) (e : Expression) (m : Assignment) → slice_get m i ≡ Some None → slice_get (assign i e m) i ≡ Some (Some e)
assigned_there i e [] at = absurd (none-some None at)
assigned_there zero e (x ∷ m) at = refl
assigned_there (suc i) e (x ∷ m) at = assigned_there i e m at

assigned_keeps : (i : ℕ) (e : Expression) (m : Assignment) → slice_get m i ≡ Some None → Keeps m (assign i e m)
assigned_keeps i e [] at j x at_j = absurd (none-some (Some x) at_j)
assigned_keeps zero e (y ∷ m) at zero x at_j = absurd (none-some x (same_Some None (Some x) (sym at ∙ at_j)))
assigned_keeps zero e (y ∷ m) at (suc j) x at_j = at_j
assigned_keeps (suc i) e (y ∷ m) at zero x at_j = at_j
assigned_keeps (suc i) e (y ∷ m) at (suc j) x at_j = assigned_keeps i e m at j x at_j

if_keeps : (b : Bool) (m n : Assignment) → (if b then Some m else None) ≡ Some n → Keeps m n
if_keeps true m n e = keeps_itself m n e
if_keeps false m n e = absurd (none-some n e)

if_true : {X : Type 0} (b : Bool) (m n : X) → (if b then Some m else None) ≡ Some n → b ≡ true
if_true true m n e = refl
if_true false m n e = absurd (none-some n e)

parameter_keeps : (i : ℕ) (e : Expression) (m n : Assignment) (o : Option (Option Expression)) → slice_get m i ≡ o → matched_parameter i e m o ≡ Some n → Keeps m n
parameter_keeps i e m n None at is = absurd (none-some n is)
parameter_keeps i e m n (Some None) at is = λ j x at_j. ap (λ (k : Assignment). slice_get k j) (sym (same_Some (assign i e m) n is)) ∙ assigned_keeps i e m at j x at_j
parameter_keeps i e m n (Some (Some f)) at is = if_keeps (is_same f e) m n is

pub matched-keeps : (e o : Expression) (m n : Assignment) → matched e o m ≡ Some n → Keeps m n
matched-keeps (parameter i) o m n is = parameter_keeps i o m n (slice_get m i) refl is
matched-keeps (named g) (named h) m n is = if_keeps (g == h) m n is
matched-keeps (named g) (parameter j) m n is = absurd (none-some n is)
matched-keeps (named g) (applied p b) m n is = absurd (none-some n is)
matched-keeps (applied f a) (parameter j) m n is = absurd (none-some n is)
matched-keeps (applied f a) (named h) m n is = absurd (none-some n is)
matched-keeps (applied f a) (applied p b) m n is = by (matched f p m) refl (λ k at. matched-keeps f p m k at) (λ k at. matched-keeps a b k n at) is
  where
    by : (r : Option Assignment) → matched f p m ≡ r → ((k : Assignment) → matched f p m ≡ Some k → Keeps m k) → ((k : Assignment) → matched a b k ≡ Some n → Keeps k n) → option_and_then (matched a b) r ≡ Some n → Keeps m n
    by None at first second e = absurd (none-some n e)
    by (Some k) at first second e = λ i x at_i. second k e i x (first k at i x at_i)

-- the sort for which a parameter stands
stands_for : (m : Assignment) (es : List Expression) (i : ℕ) (e : Expression) → sorts_for m ≡ Some es → slice_get m i ≡ Some (Some e) → slice_get es i ≡ Some e
stands_for [] es i e is at = absurd (none-some (Some e) at)
stands_for (None ∷ m) es i e is at = absurd (none-some es is)
stands_for (Some x ∷ m) es i e is at = by (sorts_for m) refl is i at (λ xs found k at_k. stands_for m xs k e found at_k)
  where
    place : (xs : List Expression) (j : ℕ) → slice_get (Some x ∷ m) j ≡ Some (Some e) → ((k : ℕ) → slice_get m k ≡ Some (Some e) → slice_get xs k ≡ Some e) → slice_get (x ∷ xs) j ≡ Some e
    place xs zero at_j rest = same_Some (Some x) (Some e) at_j
    place xs (suc j) at_j rest = rest j at_j

    by : (r : Option (List Expression)) → sorts_for m ≡ r → option_map (λ ys. x ∷ ys) r ≡ Some es → (j : ℕ) → slice_get (Some x ∷ m) j ≡ Some (Some e) → ((ys : List Expression) → sorts_for m ≡ Some ys → (k : ℕ) → slice_get m k ≡ Some (Some e) → slice_get ys k ≡ Some e) → slice_get es j ≡ Some e
    by None found f j at_j rest = absurd (none-some es f)
    by (Some xs) found f j at_j rest = ap (λ (ys : List Expression). slice_get ys j) (sym (same_Some (x ∷ xs) es f)) ∙ place xs j at_j (rest xs found)

module _ (final : Assignment) (es : List Expression) (are : sorts_for final ≡ Some es) where
  parameter_is : (i : ℕ) (e : Expression) → slice_get final i ≡ Some (Some e) → substitute es (parameter i) ≡ e
  parameter_is i e at = ap (λ (o : Option Expression). unwrap_or o (parameter i)) (stands_for final es i e are at)

  parameter_matches : (i : ℕ) (e : Expression) (m n : Assignment) (o : Option (Option Expression)) → slice_get m i ≡ o → matched_parameter i e m o ≡ Some n → Keeps n final → substitute es (parameter i) ≡ e
  parameter_matches i e m n None at is keeps = absurd (none-some n is)
  parameter_matches i e m n (Some None) at is keeps = parameter_is i e (keeps i e (ap (λ (k : Assignment). slice_get k i) (sym (same_Some (assign i e m) n is)) ∙ assigned_there i e m at))
  parameter_matches i e m n (Some (Some f)) at is keeps =
      let same : f ≡ e = (is_same-decides f e).0 (if_true (is_same f e) m n is) in
      parameter_is i f (keeps i f (if_keeps (is_same f e) m n is i f at)) ∙ same

  pub matched-substitute : (e o : Expression) (m n : Assignment) → matched e o m ≡ Some n → Keeps n final → substitute es e ≡ o
  matched-substitute (parameter i) o m n is keeps = parameter_matches i o m n (slice_get m i) refl is keeps
  matched-substitute (named g) (named h) m n is keeps = ap named ((Decides-eqb g h).0 (if_true (g == h) m n is))
  matched-substitute (named g) (parameter j) m n is keeps = absurd (none-some n is)
  matched-substitute (named g) (applied p b) m n is keeps = absurd (none-some n is)
  matched-substitute (applied f a) (parameter j) m n is keeps = absurd (none-some n is)
  matched-substitute (applied f a) (named h) m n is keeps = absurd (none-some n is)
  matched-substitute (applied f a) (applied p b) m n is keeps = by (matched f p m) refl (λ k at kept. matched-substitute f p m k at kept) (λ k at. matched-substitute a b k n at keeps) is
    where
      by : (r : Option Assignment) → matched f p m ≡ r → ((k : Assignment) → matched f p m ≡ Some k → Keeps k final → substitute es f ≡ p) → ((k : Assignment) → matched a b k ≡ Some n → substitute es a ≡ b) → option_and_then (matched a b) r ≡ Some n → substitute es (applied f a) ≡ applied p b
      by None at first second e = absurd (none-some n e)
      by (Some k) at first second e = ap₂ applied (first k at (λ i x at_i. keeps i x (matched-keeps a b k n e i x at_i))) (second k e)
