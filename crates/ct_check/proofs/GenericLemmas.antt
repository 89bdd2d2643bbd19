-- The term of a generic's constructor, where the sorts for which the parameters stand are known.
use Rattle.std.proofs.Common.{◌≡◌, ℕ, suc, List, [], ◌∷◌, length, map, All, MatchOption, Option, Some, None, option_map, Ok, refl, sym, ◌∙◌, ap, subst}
use Rattle.std.specs.Bool.{⊤}
use Rattle.std.specs.Global.{Vec}
use Rattle.std.specs.List.{AllZip, AllByRecursion}
use Rattle.std.proofs.lemmas.List.{length-map}
use Rattle.std.proofs.lemmas.List.Elements.{recursion_from_All}
use Rattle.ct_generics.specs.Expression.{Expression, named, with_args}
use Rattle.ct_sorts.specs.declared.ids.CtorId.{CtorId}
use Rattle.ct_sorts.specs.declared.ids.GenId.{GenId}
use Rattle.ct_sorts.specs.declared.ids.SortId.{SortId}
use Rattle.ct_sorts.specs.declared.ids.Symbol.TheVariants.{GenCtor}
use Rattle.ct_sorts.specs.Applied.{IsAt, TakesAll}
use Rattle.ct_sorts.specs.Consistent.{IsConsistent}
use Rattle.ct_sorts.specs.Declarations.{Declarations, IsSort}
use Rattle.ct_sorts.specs.Instances.{IsOrigin}
use Rattle.ct_sorts.specs.Lookup.{IsSymbol}
use Rattle.ct_formulas.specs.Formula.{Formula, Formulas}
use Rattle.ct_instances.specs.declared.among.NamedCtor.TheVariants.{Generic}
use Rattle.ct_instances.specs.Among.{origin_of, ctor_among}
use Rattle.ct_instances.specs.Fields.{generic_params}
use Rattle.ct_instances.specs.Matching.{Assignment, sorts_for}
use Rattle.ct_instances.proofs.CtorNameLemmas.{origin_at}
use Rattle.ct_instances.proofs.InstanceLemmas.{params_are}
use Rattle.ct_names.specs.Needs.{Reaches}
use Rattle.ct_names.specs.Outcome.{Elaborated, Sorted, and_then, step}
use Rattle.ct_names.specs.Sorts.{sort_there}
use Rattle.ct_names.specs.Elaboration.{instance_of, constructed}
use Rattle.ct_names.proofs.NeedLemmas.{reaches_first, reaches_same}
use Rattle.ct_check.specs.declared.heads.Head.TheVariants.{GenericCtor}
use Rattle.ct_check.specs.Expected.{Expectation}
use Rattle.ct_check.specs.Heads.{assignment_in, finished}

-- a sort for each parameter
sorts_long : (m : Assignment) (es : List Expression) → sorts_for m ≡ Some es → length es ≡ length m
sorts_long [] es e = let same : [] ≡ es = cc in ap (λ (xs : List Expression). length xs) (sym same)
sorts_long (None ∷ rest) es e = absurd cc
sorts_long (Some x ∷ rest) es e = by (sorts_for rest) (λ xs is. sorts_long rest xs is) e
  where
    by : (o : Option (List Expression)) → ((xs : List Expression) → o ≡ Some xs → length xs ≡ length rest) → option_map (λ (xs : List Expression). x ∷ xs) o ≡ Some es → length es ≡ suc (length rest)
    by None long h = absurd cc
    by (Some xs) long h = let same : x ∷ xs ≡ es = cc in ap (λ (ys : List Expression). length ys) (sym same) ∙ ap suc (long xs refl)

abbrev pub made : Formulas × Expectation → GenId → ℕ → Declarations → SortId → Elaborated Sorted
made r g i d s = Ok (constructed s r.0 (ctor_among d (Generic g i) s))

module _ (g : GenId) (i : ℕ) (r : Formulas × Expectation) (es : List Expression) (are : sorts_for (assignment_in r.1) ≡ Some es) where
  pub finished_is : (d : Declarations) → finished d (GenericCtor g i) r ≡ and_then (sort_there d (with_args (named g.0) es)) (made r g i d)
  finished_is d = ap (λ (o : Option (List Expression)). and_then (step (instance_of g o)) (λ e. and_then (sort_there d e) (made r g i d))) are

  pub finished_reaches : (d later : Declarations) → Reaches (λ n. sort_there n (with_args (named g.0) es)) d later → Reaches (λ n. finished n (GenericCtor g i) r) d later
  finished_reaches d later reaches =
      reaches_same (λ n. and_then (sort_there n (with_args (named g.0) es)) (made r g i n)) (λ n. finished n (GenericCtor g i) r) d later (λ n grows. finished_is n)
      (reaches_first (λ n. sort_there n (with_args (named g.0) es)) (λ n. made r g i n) d later reaches)

-- the term has its formula
pub made_is : (d : Declarations) (g : GenId) (i : ℕ) (r : Formulas × Expectation) (s : SortId) (t : Formula) → t ≡ (constructed s r.0 (ctor_among d (Generic g i) s)).0 → made r g i d s ≡ Ok (t, s)
made_is d g i r s t is = by (ctor_among d (Generic g i) s) is
  where
    by : (o : Option CtorId) → t ≡ (constructed s r.0 o).0 → (let made : Elaborated Sorted = Ok (constructed s r.0 o) in made) ≡ Ok (t, s)
    by None e = ap (λ (f : Formula). Ok (f, s)) (sym e)
    by (Some k) e = ap (λ (f : Formula). Ok (f, s)) (sym e)

-- what was found for the parameters
pub sorts_found : (d : Declarations) (m : Assignment) (found : Option (Vec SortId)) (sorts : Vec SortId) (slice : List SortId) → found ≡ Some sorts → slice ≡ sorts.items
    → MatchOption found (sorts_for m ≡ None) (λ own. sorts_for m ≡ Some (map (origin_of d) own.items)) → sorts_for m ≡ Some (map (origin_of d) slice)
sorts_found d m None sorts slice is same found = absurd cc
sorts_found d m (Some own) sorts slice is same found =
    let one : own ≡ sorts = cc in
    found ∙ ap (λ (v : Vec SortId). Some (map (origin_of d) v.items)) one ∙ ap (λ (xs : List SortId). Some (map (origin_of d) xs)) (sym same)

pub sorts_inside : (d : Declarations) (found : Option (Vec SortId)) (sorts : Vec SortId) (slice : List SortId) → found ≡ Some sorts → slice ≡ sorts.items
    → MatchOption found ⊤ (λ own. All (IsSort d) own.items) → All (IsSort d) slice
sorts_inside d None sorts slice is same found = absurd cc
sorts_inside d (Some own) sorts slice is same found =
    let one : own ≡ sorts = cc in
    subst (All (IsSort d)) (sym same) (subst (λ (v : Vec SortId). All (IsSort d) v.items) one found)

-- the sorts with these numbers are those for which the parameters stand
origins_are : (d : Declarations) → IsConsistent d → (sorts : List SortId) → AllByRecursion (IsSort d) sorts → AllZip (IsOrigin d) sorts (map (origin_of d) sorts)
origins_are d c [] all = tt
origins_are d c (s ∷ sorts) all = (origin_at d c s all.0, origins_are d c sorts all.1)

pub is_at : (d : Declarations) → IsConsistent d → (g : GenId) (sorts : List SortId) → All (IsSort d) sorts → IsAt d g sorts (with_args (named g.0) (map (origin_of d) sorts))
is_at d c g sorts all = (map (origin_of d) sorts, origins_are d c sorts (recursion_from_All (IsSort d) sorts all), refl)

pub takes_all : (d : Declarations) → IsConsistent d → (g : GenId) (i : ℕ) (sorts : List SortId) (m : Assignment) → IsSymbol d (GenCtor g i) → length m ≡ generic_params d g → sorts_for m ≡ Some (map (origin_of d) sorts) → TakesAll d g sorts
takes_all d c g i sorts m is long are =
    let head = is.1.0.0 in
    (head, is.1.0.1, sym (length-map sorts (origin_of d)) ∙ sorts_long m (map (origin_of d) sorts) are ∙ long ∙ params_are d c g head is.1.0.1)
