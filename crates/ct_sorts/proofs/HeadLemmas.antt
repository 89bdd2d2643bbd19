-- The sort or generic of a sort in the list: each but Bool is of one that is not the first.
use Rattle.std.proofs.Common.{◌≡◌, ℕ, zero, suc, ◌+◌, ◌<◌, List, length, slice_get, Option, Some, None, option_map, refl, sym, ◌∙◌, ap, subst, arith}
use Rattle.std.specs.List.{AllZip}
use Rattle.std.proofs.lemmas.Option.{none-some, same_Some, slice_get_within}
use Rattle.ct_lemmas.proofs.Lists.{slice_get-there}
use Rattle.ct_generics.specs.Expression.{Expression, parameter, named, applied, head_of}
use Rattle.ct_generics.specs.Declarations.{Head, IsExpression, Takes}
use Rattle.ct_generics.specs.Reach.{fields_of}
use Rattle.ct_sorts.specs.declared.spelling.Spelling.{Spelling}
use Rattle.ct_sorts.specs.Declarations.{Declarations}
use Rattle.ct_sorts.specs.Heads.{AreHeads, NamesEach}
use Rattle.ct_sorts.specs.Origins.{AreOrigins}
use Rattle.ct_sorts.specs.Shapes.{spelling_of}
use Rattle.ct_sorts.proofs.ShapeLemmas.{names_each}

pub head_there : (found : Option Head) (n : ℕ) → option_map (λ (head : Head). head.params) found ≡ Some n → (head : Head) × (found ≡ Some head) × (head.params ≡ n)
head_there None n e = absurd (none-some _ e)
head_there (Some head) n e = (head, refl, same_Some _ _ e)

module _ (heads : List Head) where
  -- an expression over no parameters is of a sort or generic that is there
  pub head_of_closed : (e : Expression) (more : ℕ) → Takes heads 0 more e → (h : ℕ) × (head : Head) × (head_of e ≡ Some h) × (slice_get heads h ≡ Some head)
  head_of_closed (parameter i) more takes = absurd (omega (arith, takes.1))
  head_of_closed (named h) more takes = let head = head_there (slice_get heads h) more takes in (h, head.0, refl, head.1)
  head_of_closed (applied e a) more takes = head_of_closed e (suc more) takes.0

  -- where the first has no parameters it is an expression alone
  only_named : ((head : Head) → slice_get heads 0 ≡ Some head → head.params ≡ 0) → (e : Expression) (more : ℕ) → Takes heads 0 more e → head_of e ≡ Some 0 → (more ≡ 0) × (e ≡ named 0)
  only_named none (parameter i) more takes is = absurd (omega (arith, takes.1))
  only_named none (named h) more takes is =
      let same : h ≡ 0 = same_Some h 0 is in
      let head = head_there (slice_get heads h) more takes in
      (sym head.2 ∙ none head.0 (ap (slice_get heads) (sym same) ∙ head.1), ap named same)
  only_named none (applied e a) more takes is = absurd (let rest = only_named none e (suc more) takes.0 is in omega (arith, rest.0))

  pub later_of_closed : ((head : Head) → slice_get heads 0 ≡ Some head → head.params ≡ 0) → (e : Expression) → IsExpression heads 0 e → (e ≡ named 0 → ⊥) → (k : ℕ) × (head : Head) × (head_of e ≡ Some (suc k)) × (slice_get heads (suc k) ≡ Some head)
  later_of_closed none e closed apart = by found.0 refl
    where
      found : (h : ℕ) × (head : Head) × (head_of e ≡ Some h) × (slice_get heads h ≡ Some head)
      found = head_of_closed e 0 closed

      by : (h : ℕ) → found.0 ≡ h → (k : ℕ) × (head : Head) × (head_of e ≡ Some (suc k)) × (slice_get heads (suc k) ≡ Some head)
      by zero is = absurd (apart (only_named none e 0 closed (found.2 ∙ ap Some is)).1)
      by (suc k) is = (k, found.1, found.2 ∙ ap Some is, ap (slice_get heads) (sym is) ∙ found.3)

-- so each constructor and field of a sort in the list that is not Bool has a name
pub names_of_sort : (d : Declarations) → AreOrigins d → AreHeads d → slice_get d.origins 0 ≡ Some (named 0) → ((head : Head) → slice_get d.declared.heads 0 ≡ Some head → head.params ≡ 0) → (s : ℕ) (e : Expression) → slice_get d.origins (1 + s) ≡ Some e → AllZip NamesEach (spelling_of d.spellings e) (fields_of d.declared.heads e)
names_of_sort d origins heads first none s e at =
    let apart : e ≡ named 0 → ⊥ = λ is. let number = origins.different (1 + s) 0 (named 0) (at ∙ ap Some is) first in absurd (omega (arith, number)) in
    let later = later_of_closed d.declared.heads none e (origins.sorts (1 + s) e at) apart in
    let names = slice_get-there d.spellings (suc later.0) (omega (arith, heads.one_each, slice_get_within d.declared.heads (suc later.0) later.1 later.3)) in
    names_each d.declared.heads d.spellings heads.spelled e later.0 later.1 names.0 later.2 later.3 names.1
