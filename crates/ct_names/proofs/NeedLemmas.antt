-- Sorts come into declarations as elaboration needs them: what stays then, and what a step and what follows it reach together.
use Rattle.std.proofs.Common.{◌≡◌, ℕ, ◌<◌, List, [], ◌∷◌, ◌++◌, length, slice_get, Ok, Err, refl, sym, ◌∙◌, ap, subst, arith, length-append}
use Rattle.std.proofs.lemmas.List.{append_assoc, append-nil}
use Rattle.ct_lemmas.proofs.Lists.{slice_get-prefix}
use Rattle.ct_generics.specs.Expression.{Expression}
use Rattle.ct_sorts.specs.Declarations.{Declarations}
use Rattle.ct_sorts.specs.Grown.{Begins}
use Rattle.ct_sorts.specs.Instances.{IsWithSorts}
use Rattle.ct_sorts.specs.Made.{new_sorts, new_ctors, new_sels, shapes_of, with_sorts}
use Rattle.ct_sorts.specs.Same.{sort_among}
use Rattle.ct_sorts.specs.Shapes.{all_ctors}
use Rattle.ct_names.specs.Needs.{Grows, Reaches, as_they_are, with_needed}
use Rattle.ct_names.specs.Outcome.{Elaborated, and_then, missing}

-- ---- lists that begin with others

begins_itself : {X : Type 0} (xs : List X) → Begins xs xs
begins_itself xs = ([], sym (append-nil xs))

begins_further : {X : Type 0} (xs ys zs : List X) → Begins xs ys → Begins ys zs → Begins xs zs
begins_further xs ys zs first second = (first.0 ++ second.0, second.1 ∙ ap (λ ws. ws ++ second.0) first.1 ∙ append_assoc xs first.0 second.0)

-- what stands below the length stands there in the longer list
pub begins_same : {X : Type 0} (xs ys : List X) → Begins xs ys → (i : ℕ) → i < length xs → slice_get ys i ≡ slice_get xs i
begins_same xs ys begins i within = ap (λ ws. slice_get ws i) begins.1 ∙ slice_get-prefix xs begins.0 i within

pub begins_within : {X : Type 0} (xs ys : List X) → Begins xs ys → (i : ℕ) → i < length xs → i < length ys
begins_within xs ys begins i within = omega (arith, within, ap length begins.1, length-append xs begins.0)

-- ---- declarations with more sorts

pub grows_itself : (d : Declarations) → Grows d d
grows_itself d =
    record {
      extends = record {
        sorts = begins_itself d.sorts;
        ctors = begins_itself d.ctors;
        sels = begins_itself d.sels;
        functions = begins_itself d.functions;
        definitions = begins_itself d.definitions;
        heads = begins_itself d.declared.heads;
        synonyms = begins_itself d.declared.synonyms;
        spellings = begins_itself d.spellings;
        origins = begins_itself d.origins;
      };
      declared = refl;
      functions = refl;
      definitions = refl;
    }

pub grows_further : (last later earlier : Declarations) → Grows last later → Grows later earlier → Grows last earlier
grows_further last later earlier second first =
    let f = first.extends in
    let s = second.extends in
    record {
      extends = record {
        sorts = begins_further earlier.sorts later.sorts last.sorts f.sorts s.sorts;
        ctors = begins_further earlier.ctors later.ctors last.ctors f.ctors s.ctors;
        sels = begins_further earlier.sels later.sels last.sels f.sels s.sels;
        functions = begins_further earlier.functions later.functions last.functions f.functions s.functions;
        definitions = begins_further earlier.definitions later.definitions last.definitions f.definitions s.definitions;
        heads = begins_further earlier.declared.heads later.declared.heads last.declared.heads f.heads s.heads;
        synonyms = begins_further earlier.declared.synonyms later.declared.synonyms last.declared.synonyms f.synonyms s.synonyms;
        spellings = begins_further earlier.spellings later.spellings last.spellings f.spellings s.spellings;
        origins = begins_further earlier.origins later.origins last.origins f.origins s.origins;
      };
      declared = second.declared ∙ first.declared;
      functions = second.functions ∙ first.functions;
      definitions = second.definitions ∙ first.definitions;
    }

with_sorts_grows : (d : Declarations) (added : List Expression) → Grows (with_sorts d added) d
with_sorts_grows d added =
    record {
      extends = record {
        sorts = (new_sorts (length d.ctors) (shapes_of d added), refl);
        ctors = (new_ctors (length d.sorts) (length d.sels) (shapes_of d added), refl);
        sels = (new_sels (sort_among (d.origins ++ added)) (length d.ctors) (all_ctors (shapes_of d added)), refl);
        functions = begins_itself d.functions;
        definitions = begins_itself d.definitions;
        heads = begins_itself d.declared.heads;
        synonyms = begins_itself d.declared.synonyms;
        spellings = begins_itself d.spellings;
        origins = (added, refl);
      };
      declared = refl;
      functions = refl;
      definitions = refl;
    }

pub is_with_grows : (d : Declarations) (sorts : List Expression) (more : Declarations) → IsWithSorts d sorts more → Grows more d
is_with_grows d sorts more with_them = subst (λ (x : Declarations). Grows x d) (sym with_them.2) (with_sorts_grows d with_them.0)

-- ---- steps

pub reaches_grows : {X : Type 0} (f : Declarations → Elaborated X) (d later : Declarations) → Reaches f d later → Grows later d
reaches_grows f _ _ (as_they_are d) = grows_itself d
reaches_grows f _ _ (with_needed d more later e is added rest) = grows_further later more d (reaches_grows f more later rest) (is_with_grows d (e ∷ []) more added)

pub reaches_further : {X : Type 0} (f : Declarations → Elaborated X) (d middle later : Declarations) → Reaches f d middle → Reaches f middle later → Reaches f d later
reaches_further f _ _ later (as_they_are d) second = second
reaches_further f _ _ later (with_needed d more middle e is added rest) second = with_needed d more later e is added (reaches_further f more middle later rest second)

-- what is missing in a part of a step is missing in the step
pub reaches_along : {X Y : Type 0} (f : Declarations → Elaborated X) (g : Declarations → Elaborated Y) (start : Declarations) → ((d : Declarations) (e : Expression) → Grows d start → f d ≡ Err (missing e) → g d ≡ Err (missing e)) → (d later : Declarations) → Grows d start → Reaches f d later → Reaches g d later
reaches_along f g start along _ _ grows (as_they_are d) = as_they_are d
reaches_along f g start along _ _ grows (with_needed d more later e is added rest) =
    with_needed d more later e (along d e grows is) added (reaches_along f g start along more later (grows_further more d start (is_with_grows d (e ∷ []) more added) grows) rest)

-- a step, and what follows it
pub reaches_first : {X Y : Type 0} (f : Declarations → Elaborated X) (g : Declarations → X → Elaborated Y) (d later : Declarations) → Reaches f d later → Reaches (λ n. and_then (f n) (g n)) d later
reaches_first f g d later first = reaches_along f (λ n. and_then (f n) (g n)) d (λ n e grows is. ap (λ o. and_then o (g n)) is) d later (grows_itself d) first

pub reaches_both : {X Y : Type 0} (f : Declarations → Elaborated X) (g : Declarations → X → Elaborated Y) (d middle later : Declarations) (x : X) → Reaches f d middle → ((n : Declarations) → Grows n middle → f n ≡ Ok x) → Reaches (λ n. g n x) middle later → Reaches (λ n. and_then (f n) (g n)) d later
reaches_both f g d middle later x first stays second =
    reaches_further (λ n. and_then (f n) (g n)) d middle later (reaches_first f g d middle first)
    (reaches_along (λ n. g n x) (λ n. and_then (f n) (g n)) middle (λ n e grows is. ap (λ o. and_then o (g n)) (stays n grows) ∙ is) middle later (grows_itself middle) second)

-- a step that is the same at all declarations
pub reaches_same : {X : Type 0} (f g : Declarations → Elaborated X) (d later : Declarations) → ((n : Declarations) → Grows n d → g n ≡ f n) → Reaches f d later → Reaches g d later
reaches_same f g d later same first = reaches_along f g d (λ n e grows is. same n grows ∙ is) d later (grows_itself d) first
