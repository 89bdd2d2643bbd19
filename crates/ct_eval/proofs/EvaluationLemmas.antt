-- What a term means: it depends on the terms under it alone, so that the bound of the recursion does not matter in an
-- ordered table, and nor do terms after it.
use Rattle.std.proofs.Common.{◌≡◌, ℕ, zero, suc, ◌<◌, Bool, not, ◌||◌, List, [], ◌∷◌, ◌++◌, length, map, Option, Some, None, slice_get, if◌then◌else◌, refl, sym, ap, ◌∙◌, arith}
use Rattle.std.specs.List.{list_all, list_any, AllByRecursion}
use Rattle.std.proofs.lemmas.List.Folds.{list_all-map}
use Rattle.ct_lemmas.proofs.Lists.{slice_get-prefix}
use Rattle.ct_sorts.specs.declared.ids.SortId.{SortId}
use Rattle.ct_sorts.specs.Declarations.{Declarations}
use Rattle.ct_values.specs.Value.{Value, construct, values_of}
use Rattle.ct_terms.specs.declared.ids.TermId.{TermId}
use Rattle.ct_terms.specs.declared.term.Core.{Core}
use Rattle.ct_terms.specs.declared.term.Core.TheVariants.{Con, Sel, Test, Apply, Eq, Not, And, Or, Iff, Ite}
use Rattle.ct_terms.specs.Terms.{Terms, HasArgumentsBelow, AreOrdered}
use Rattle.ct_eval.specs.declared.interp.Interp.{Interp}
use Rattle.ct_values.specs.TruthValue.{truth, is_built, is_true}
use Rattle.ct_eval.specs.Evaluation.{is_same, table_value, select, core_value, layer, value_below, value_of}

-- lists over which two functions agree
module _ {X Y : Type 0} (f g : X → Y) (P : X → Type 0) (agree : (x : X) → P x → f x ≡ g x) where
  -- give one list
  pub map-agrees : (xs : List X) → AllByRecursion P xs → map f xs ≡ map g xs
  map-agrees [] all = refl
  map-agrees (x ∷ xs) all =
      ap (λ (y : Y). y ∷ map f xs) (agree x all.0) ∙ ap (λ (ys : List Y). g x ∷ ys) (map-agrees xs all.1)

-- a test of each element through a function
pub list_any-map : {X Y : Type 0} (p : Y → Bool) (h : X → Y) (xs : List X) → list_any p (map h xs) ≡ list_any (λ x. p (h x)) xs
list_any-map p h [] = refl
list_any-map p h (x ∷ xs) = ap (λ (b : Bool). p (h x) || b) (list_any-map p h xs)

-- a test of each element of one list, through two functions
module _ {X Y : Type 0} (p : Y → Bool) (f g : X → Y) where
  pub list_all-agrees : (xs : List X) → map f xs ≡ map g xs → list_all (λ x. p (f x)) xs ≡ list_all (λ x. p (g x)) xs
  list_all-agrees xs e = sym (list_all-map p f xs) ∙ ap (list_all p) e ∙ list_all-map p g xs

  pub list_any-agrees : (xs : List X) → map f xs ≡ map g xs → list_any (λ x. p (f x)) xs ≡ list_any (λ x. p (g x)) xs
  list_any-agrees xs e = sym (list_any-map p f xs) ∙ ap (list_any p) e ∙ list_any-map p g xs

module _ (d : Declarations) (i : Interp) where
  module _ (f g : TermId → Value) (n : ℕ) (agree : (t : TermId) → t.0 < n → f t ≡ g t) where
    lists : (args : List TermId) → AllByRecursion (λ t. t.0 < n) args → map f args ≡ map g args
    lists args below = map-agrees f g (λ t. t.0 < n) agree args below

    -- one layer gives one value where the terms under it have the same values
    pub core_value-agrees : (core : Core) → HasArgumentsBelow n core → core_value d i f core ≡ core_value d i g core
    core_value-agrees (Con c args) below = ap (λ (vs : List Value). construct c (values_of vs)) (lists args below)
    core_value-agrees (Sel s t) below = ap (select i s (slice_get d.sels s.0)) (agree t below.0)
    core_value-agrees (Test c t) below = ap (λ (v : Value). truth (is_built i.graph c v)) (agree t below.0)
    core_value-agrees (Apply h args) below = ap (table_value i (slice_get i.funs h.0)) (lists args below)
    core_value-agrees (Eq a b) below =
        ap (λ (v : Value). truth (is_same i.graph v (f b))) (agree a below.0) ∙ ap (λ (v : Value). truth (is_same i.graph (g a) v)) (agree b below.1.0)
    core_value-agrees (Not t) below = ap (λ (v : Value). truth (not (is_true i.graph v))) (agree t below.0)
    core_value-agrees (And args) below = ap truth (list_all-agrees (is_true i.graph) f g args (lists args below))
    core_value-agrees (Or args) below = ap truth (list_any-agrees (is_true i.graph) f g args (lists args below))
    core_value-agrees (Iff a b) below =
        let iff : Value → Value → Value = λ v w. truth (if is_true i.graph v then is_true i.graph w else not (is_true i.graph w)) in
        ap (λ (v : Value). iff v (f b)) (agree a below.0) ∙ ap (λ (v : Value). iff (g a) v) (agree b below.1.0)
    core_value-agrees (Ite c a b) below =
        let ite : Value → Value → Value → Value = λ v w x. if is_true i.graph v then w else x in
        ap (λ (v : Value). ite v (f a) (f b)) (agree c below.0) ∙ ap (λ (v : Value). ite (g c) v (f b)) (agree a below.1.0) ∙ ap (λ (v : Value). ite (g c) (g a) v) (agree b below.1.1.0)

    -- so does what stands at a number
    pub layer-agrees : (r : Option (Core × SortId)) → ((core : Core) (s : SortId) → r ≡ Some (core, s) → HasArgumentsBelow n core) → layer d i f r ≡ layer d i g r
    layer-agrees None below = refl
    layer-agrees (Some (core, s)) below = core_value-agrees core (below core s refl)

  -- any two bounds above the number give one value
  pub value_below-enough : (terms : Terms) → AreOrdered terms → (n m : ℕ) (t : TermId) → t.0 < n → t.0 < m → value_below n d i terms t ≡ value_below m d i terms t
  unfolding value_below
  value_below-enough terms ordered zero m t h k = absurd (omega arith)
  value_below-enough terms ordered (suc n) zero t h k = absurd (omega arith)
  value_below-enough terms ordered (suc n) (suc m) t h k =
      layer-agrees (value_below n d i terms) (value_below m d i terms) t.0
      (λ u below. value_below-enough terms ordered n m u (omega arith) (omega arith))
      (slice_get terms t.0)
      (λ core s e. ordered t.0 core (s, e))

  -- a term means what its layer means over the values of the terms under it
  pub value_of-unfolds : (terms : Terms) (t : TermId) (core : Core) (sort : SortId) → AreOrdered terms → slice_get terms t.0 ≡ Some (core, sort) → value_of d i terms t ≡ core_value d i (value_of d i terms) core
  unfolding value_below
  value_of-unfolds terms t core sort ordered at =
      ap (layer d i (value_below t.0 d i terms)) at ∙ core_value-agrees (value_below t.0 d i terms) (value_of d i terms) t.0
      (λ u below. value_below-enough terms ordered t.0 (suc u.0) u below (omega arith))
      core (ordered t.0 core (sort, at))

  -- terms after those of an ordered table change nothing
  pub value_below-longer : (terms more : Terms) → AreOrdered (terms ++ more) → (n : ℕ) (t : TermId) → t.0 < length terms → value_below n d i (terms ++ more) t ≡ value_below n d i terms t
  unfolding value_below
  value_below-longer terms more ordered zero t within = refl
  value_below-longer terms more ordered (suc n) t within =
      layer-agrees (value_below n d i (terms ++ more)) (value_below n d i terms) t.0
      (λ u below. value_below-longer terms more ordered n u (omega arith))
      (slice_get (terms ++ more) t.0)
      (λ core s e. ordered t.0 core (s, e)) ∙ ap (layer d i (value_below n d i terms)) (slice_get-prefix terms more t.0 within)
