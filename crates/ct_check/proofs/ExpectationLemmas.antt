-- What the program expects of arguments stays where sorts are added.
use Rattle.std.proofs.Common.{◌≡◌, List, [], ◌∷◌, drop, Option, Some, None, IfSome, refl, sym, ◌∙◌, ap, ap₂}
use Rattle.std.specs.List.{AllByRecursion}
use Rattle.std.proofs.lemmas.List.Elements.{recursion_from_All}
use Rattle.ct_generics.specs.Expression.{Expression}
use Rattle.ct_sorts.specs.declared.ids.SortId.{SortId}
use Rattle.ct_sorts.specs.declared.ids.Symbol.TheVariants.{GenCtor}
use Rattle.ct_sorts.specs.Consistent.{IsConsistent}
use Rattle.ct_sorts.specs.Declarations.{Declarations, IsSort}
use Rattle.ct_instances.specs.declared.among.NamedCtor.{NamedCtor}
use Rattle.ct_instances.specs.declared.among.NamedCtor.TheVariants.{Plain, Generic}
use Rattle.ct_instances.specs.Among.{IsNamedCtor}
use Rattle.ct_instances.specs.Matching.{Assignment}
use Rattle.ct_instances.specs.Pairs.{assigned}
use Rattle.ct_names.specs.Needs.{Grows}
use Rattle.ct_names.proofs.NeedLemmas.{begins_within}
use Rattle.ct_names.proofs.LastingLemmas.{origin_same, symbol_declared, generic_fields_same, generic_params_same}
use Rattle.ct_check.specs.declared.expected.Expected.{Expected}
use Rattle.ct_check.specs.declared.expected.Expected.TheVariants.{These, Same, Choice, Fields, Owner}
use Rattle.ct_check.specs.Expected.{expectation_of, fields, IsExpectation}
use Rattle.ct_check.proofs.ExpectedStays.{IsAbout}

-- what is expected is about what is declared
pub expectation_about : (d : Declarations) (x : Expected) → IsExpectation d x → IsAbout d (expectation_of d x)
expectation_about d (These sorts place) is = tt
expectation_about d (Same first) is = tt
expectation_about d Choice is = tt
expectation_about d (Fields matching) is = tt
expectation_about d (Owner ctor last) is = is.0

module _ (later d : Declarations) (grows : Grows later d) (c : IsConsistent d) where
  pub sort_stays : (s : SortId) → IsSort d s → IsSort later s
  sort_stays s is = begins_within d.sorts later.sorts grows.extends.sorts s.0 is

  pub if_sort_stays : (s : Option SortId) → IfSome s (IsSort d) → IfSome s (IsSort later)
  if_sort_stays None is = tt
  if_sort_stays (Some s) is = sort_stays s is

  ctor_stays : (k : NamedCtor) → IsNamedCtor d k → IsNamedCtor later k
  ctor_stays (Plain n) is = begins_within d.ctors later.ctors grows.extends.ctors n.0 is
  ctor_stays (Generic g i) is = symbol_declared later d grows c (GenCtor g i) is

  pub expectation_stays : (x : Expected) → IsExpectation d x → IsExpectation later x
  expectation_stays (These sorts place) is = tt
  expectation_stays (Same first) is = tt
  expectation_stays Choice is = tt
  expectation_stays (Fields matching) is =
      record {
        ctor = symbol_declared later d grows c (GenCtor matching.g matching.index) is.ctor;
        params = is.params ∙ sym (generic_params_same later d grows c matching.g);
        sorts = λ k s h. if_sort_stays _ (is.sorts k s h);
      }
  expectation_stays (Owner ctor last) is = (ctor_stays ctor is.0, if_sort_stays last is.1)

  -- what parameters were matched with
  assigned_same : (sorts : List (Option SortId)) → AllByRecursion (λ (s : Option SortId). IfSome s (IsSort d)) sorts → assigned later sorts ≡ assigned d sorts
  assigned_same [] hold = refl
  assigned_same (None ∷ sorts) hold = ap (λ (m : Assignment). None ∷ m) (assigned_same sorts hold.1)
  assigned_same (Some s ∷ sorts) hold = ap₂ (λ (e : Expression) (m : Assignment). Some e ∷ m) (origin_same later d grows c s hold.0) (assigned_same sorts hold.1)

  pub expectation_same : (x : Expected) → IsExpectation d x → expectation_of later x ≡ expectation_of d x
  expectation_same (These sorts place) is = refl
  expectation_same (Same first) is = refl
  expectation_same Choice is = refl
  expectation_same (Fields matching) is =
      ap₂ fields (ap (drop matching.place) (generic_fields_same later d grows c matching.g matching.index))
      (assigned_same matching.sorts.items (recursion_from_All (λ (s : Option SortId). IfSome s (IsSort d)) matching.sorts.items is.sorts))
  expectation_same (Owner ctor last) is = refl
