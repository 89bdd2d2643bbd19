-- Environments under more variables.
use Rattle.std.proofs.Common.{◌≡◌, ℕ, zero, suc, ◌+◌, Bool, true, false, List, [], ◌∷◌, ◌++◌, length, drop, reverse, Some, slice_get, refl, sym, ap, subst, ◌∙◌, arith, true≢false}
use Rattle.std.specs.List.{AllZip}
use Rattle.std.proofs.lemmas.List.{reverse-append, length-reverse, append_assoc, drop_at}
use Rattle.std.proofs.lemmas.Option.{same_Some}
use Rattle.ct_terms.specs.CoreTree.{CoreTree}
use Rattle.ct_formulas.specs.Formula.{bind}
use Rattle.ct_scope.specs.declared.bound.Bound.{Bound}
use Rattle.ct_scope.specs.declared.bound.Bound.TheVariants.{Term, Field, Absent}
use Rattle.ct_operators.specs.Effect.{Within}
use Rattle.ct_scope.specs.Compilable.{IsThere, ArePresent}
use Rattle.ct_scope.specs.Binding.{IsBoundAs, WithinWhere}
use Rattle.ct_occurrence.specs.Marks.{flags_below}

-- what is bound stands one for one
pub bind_zip : {X Y : Type 0} (R : X → Y → Type 0) (xs : List X) (ys : List Y) (us : List X) (vs : List Y) → AllZip R xs ys → AllZip R us vs → AllZip R (bind xs us) (bind ys vs)
bind_zip R [] [] us vs h k = k
bind_zip R [] (y ∷ ys) us vs h k = absurd h
bind_zip R (x ∷ xs) [] us vs h k = absurd h
bind_zip R (x ∷ xs) (y ∷ ys) us vs h k = bind_zip R xs ys (x ∷ us) (y ∷ vs) h.1 (h.0, k)

-- the last that is bound is the first
pub bind_reverse : {X : Type 0} (xs env : List X) → bind xs env ≡ reverse xs ++ env
bind_reverse [] env = refl
bind_reverse {X} (x ∷ xs) env =
    bind_reverse xs (x ∷ env) ∙ sym (ap (λ (ys : List X). ys ++ env) (reverse-append (x ∷ []) xs) ∙ append_assoc (reverse xs) (x ∷ []) env)

-- after what is bound comes what there was
pub bind_past : {X : Type 0} (xs env : List X) (i : ℕ) → slice_get (bind xs env) (i + length xs) ≡ slice_get env i
bind_past [] env i = ap (slice_get env) (omega arith)
bind_past (x ∷ xs) env i = ap (slice_get (bind xs (x ∷ env))) (omega arith) ∙ bind_past xs (x ∷ env) (suc i)

pub bind_first : {X : Type 0} (x : X) (xs env : List X) → slice_get (bind xs (x ∷ env)) (length xs) ≡ Some x
bind_first x xs env = ap (slice_get (bind xs (x ∷ env))) (omega arith) ∙ bind_past xs (x ∷ env) 0

-- under what is bound there is what there was
pub bind_left : {X : Type 0} (xs env : List X) → drop (length xs) (bind xs env) ≡ env
bind_left {X} xs env = ap (λ (ys : List X). drop (length xs) ys) (bind_reverse xs env) ∙ drop_at (reverse xs) env (length xs) (length-reverse xs)

-- where each of these is there, all that occurs is there
pub bind_present : (p : ℕ → Bool) (xs env : List Bound) → AllZip (λ b x. b ≡ true → IsThere x) (flags_below p (length xs)) xs → ArePresent (λ i. p (i + length xs)) env → ArePresent p (bind xs env)
bind_present p [] env h k = λ i b e at. k i b (ap p (omega arith) ∙ e) at
bind_present p (x ∷ xs) env h k = bind_present p xs (x ∷ env) h.1 under
  where
    under : ArePresent (λ i. p (i + length xs)) (x ∷ env)
    under zero b e at = subst IsThere (same_Some x b at) (h.0 (ap p (omega arith) ∙ e))
    under (suc i) b e at = k i b (ap p (omega arith) ∙ e) at

-- a flag that is set says that the variable is there
there_as : (b : Bool) (x : Bound) → IsBoundAs b x → b ≡ true → IsThere x
there_as true (Term t) h e = tt
there_as true (Field s t) h e = absurd h
there_as true Absent h e = absurd h
there_as false x h e = absurd (true≢false (sym e))

pub all_there : (bs : List Bool) (xs : List Bound) → AllZip IsBoundAs bs xs → AllZip (λ b x. b ≡ true → IsThere x) bs xs
all_there [] [] h = tt
all_there [] (x ∷ xs) h = absurd h
all_there (b ∷ bs) [] h = absurd h
all_there (b ∷ bs) (x ∷ xs) h = (there_as b x h.0, all_there bs xs h.1)

-- where all trees of the test that are bound are within, those whose flag is set are
pub where_within : (allowed : List CoreTree) (p : ℕ → Bool) (us env : List CoreTree) → ((i : ℕ) (u : CoreTree) → p i ≡ true → slice_get (bind us env) i ≡ Some u → Within allowed u) → WithinWhere allowed (flags_below p (length us)) us
where_within allowed p [] env h = tt
where_within allowed p (u ∷ us) env h = (λ e. h (length us) u e (bind_first u us env), where_within allowed p us (u ∷ env) h)
