use Rattle.std.proofs.Common.{◌<◌, List, length, get_or, slice_get, Contains, sym, ◌∙◌, ap, subst, arith}
use Rattle.std.proofs.lemmas.List.Elements.{Contains-get_or}
use Rattle.ct_sorts.specs.declared.ids.CtorId.{CtorId}
use Rattle.ct_listing.specs.Listing.{built_by, listed}
use Rattle.ct_finite.proofs.CountLemmas.{Theorems}
use Rattle.ct_finite.proofs.SingleLemmas.{built_some, single_entry}
use Rattle.ct_finite.proofs.StepLemmas.{ctors_read, first_ctor}
use Rattle.ct_finite.proofs.parts.single_at.Goals as goal

pub bounds-ctors-k : goal.bounds-ctors-k
bounds-ctors-k c =
    let e = ap length (ctors_read c.args.sig.now c.args.s c.ctors.result.now c.ctors.ensures.value) in
    omega (arith, c.requires.there, c.requires.single, e)

pub returns-clause-inside : goal.returns-clause-inside
returns-clause-inside c =
    let cs = c.ctors.result.now in
    let e = ctors_read c.args.sig.now c.args.s cs c.ctors.ensures.value in
    let long = ap length e in
    let within : c.args.k < length cs = omega (arith, c.requires.there, c.requires.single, long) in (
      subst (λ (l : List CtorId). Contains l (get_or cs c.args.k first_ctor)) (sym e) (Contains-get_or cs c.args.k first_ctor within),
      c.ctors.ensures.ctors c.args.k first_ctor within,
    )

pub returns-clause-less : goal.returns-clause-less
unfolding returns-clause-inside
returns-clause-less c =
    let d = c.args.sig.now in
    let t : Theorems d =
    record {
      consistent = c.sorts.ensures.consistent;
      built = c.listed_values.ensures.built d;
      parts = c.listed_values.ensures.parts d;
      unfolds = c.listed_values.ensures.unfolds d;
      some = λ s. c.listed_values.ensures.some d s c.sorts.ensures.consistent;
    } in
    built_some d t c.args.s c.requires.listable (get_or c.ctors.result.now c.args.k first_ctor) (returns-clause-inside c).0

pub returns-clause-entry : goal.returns-clause-entry
returns-clause-entry c =
    let d = c.args.sig.now in
    let t : Theorems d =
    record {
      consistent = c.sorts.ensures.consistent;
      built = c.listed_values.ensures.built d;
      parts = c.listed_values.ensures.parts d;
      unfolds = c.listed_values.ensures.unfolds d;
      some = λ s. c.listed_values.ensures.some d s c.sorts.ensures.consistent;
    } in
    single_entry d t c.args.s c.requires.listable c.args.k c.requires.single c.requires.there
    ∙ ap (λ (l : List CtorId). slice_get (built_by d (listed d) (get_or l c.args.k first_ctor)) 0) (ctors_read d c.args.s c.ctors.result.now c.ctors.ensures.value)
