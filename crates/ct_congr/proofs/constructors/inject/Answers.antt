use Rattle.std.proofs.Common.{◌≡◌, List, get_or, slice_get, length, Some, sym, subst, ◌∙◌, arith}
use Rattle.std.proofs.lemmas.Option.{slice_get-get_or, slice_get_within}
use Rattle.ct_terms.specs.declared.ids.TermId.{TermId}
use Rattle.ct_terms.specs.declared.term.Core.{Core}
use Rattle.ct_terms.specs.declared.term.Core.TheVariants.{Con}
use Rattle.ct_terms.specs.Terms.{Has, HasArgumentsBelow}
use Rattle.ct_congr.specs.Index.{IsUnder, class_key}
use Rattle.ct_congr.proofs.TermLemmas.{Has-constructor, arity, argument_below}
use Rattle.ct_congr.proofs.ConstructorLemmas.{injected_at, not_unknown}
use Rattle.ct_congr.proofs.constructors.inject.Goals as goal
use Rattle.ct_congr.proofs.constructors.inject.Goals.{In-Con, In-Some, In-Con-core}

abbrev zeroth : TermId
zeroth = record { 0 = 0 }

-- the term, and its representative
stands : (c : In-Con) → Has c.args.table.now (Con c.in-Con.c c.in-Con.xs) c.args.t.0
stands c = rw (← c.in-Con.is) c.core.ensures.value

at_term : (c : In-Con) → slice_get c.args.reps.now c.args.t.0 ≡ Some (get_or c.args.reps.now c.args.t.0 zeroth)
at_term c = slice_get-get_or c.args.reps.now c.args.t.0 zeroth (omega (arith, c.requires.inside, c.requires.long))

pub returns-in_default-known-clause-closed : goal.returns-in_default-known-clause-closed
returns-in_default-known-clause-closed c = λ none.
    let at = (goal.at.returns-in_default-known-clause-closed c).In-Con in
    absurd (not_unknown c.args.table.now c.args.reps.now c.args.index.now (length c.args.table.now) c.args.t (get_or c.args.reps.now c.args.t.0 zeroth) c.in-Con.c c.in-Con.xs c.requires.index c.requires.inside (stands at) (at_term at) (sym c.known.ensures.value ∙ c.in_default-known.is))

-- the term under its key
under : (c : In-Some) → IsUnder c.args.index.now (class_key c.in-Con.c (get_or c.args.reps.now c.args.t.0 zeroth)) c.in-Some.first
under c = sym c.known.ensures.value ∙ c.in-Some.is

pub core-requires-2 : goal.core-requires-2
core-requires-2 c =
    let h = c.requires.index.only (get_or c.args.reps.now c.args.t.0 zeroth) c.in-Some.first c.in-Con.c (under (goal.at.core-requires-2 c).In-Some) in
    record { within = slice_get_within c.args.table.now c.in-Some.first.0 (Con c.in-Con.c h.0, h.1.0) h.1.1 }

first_stands : (c : In-Con-core) → IsUnder c.args.index.now (class_key c.in-Con.c (get_or c.args.reps.now c.args.t.0 zeroth)) c.in-Some.first → Has c.args.table.now (Con c.in-Con.c c.in-Con-core.ys) c.in-Some.first.0
first_stands c is_under =
    let h = c.requires.index.only (get_or c.args.reps.now c.args.t.0 zeroth) c.in-Some.first c.in-Con.c is_under in
    let read : Has c.args.table.now (Con c.in-Con-core.field-0 c.in-Con-core.ys) c.in-Some.first.0 = rw (← c.in-Con-core.is) c.core-2.ensures.value in
    let same = Has-constructor c.args.table.now c.in-Con.c c.in-Con-core.field-0 h.0 c.in-Con-core.ys c.in-Some.first.0 h.1 read in
    subst (λ (zs : List TermId). Has c.args.table.now (Con c.in-Con.c zs) c.in-Some.first.0) same.1 h.1

pub inject_arguments-requires-clause-constructor : goal.inject_arguments-requires-clause-constructor
inject_arguments-requires-clause-constructor c =
    let has = stands (goal.at.inject_arguments-requires-clause-constructor c).In-Con in
    let built = c.requires.sorted c.args.t.0 (Con c.in-Con.c c.in-Con.xs) has.0 has.1 in
    slice_get_within c.args.sig.now.ctors c.in-Con.c.0 built.ctor built.declared

pub inject_arguments-requires-clause-left : goal.inject_arguments-requires-clause-left
inject_arguments-requires-clause-left c = λ ctor declared.
    rw c.as_slice.ensures.value (arity c.args.sig.now c.args.table.now c.in-Con.c ctor c.in-Con.xs c.args.t.0 c.requires.sorted declared (stands (goal.at.inject_arguments-requires-clause-left c).In-Con))

pub inject_arguments-requires-clause-right : goal.inject_arguments-requires-clause-right
inject_arguments-requires-clause-right c = λ ctor declared.
    let is_under = under (goal.at.inject_arguments-requires-clause-right c).In-Some in
    rw c.as_slice-2.ensures.value (arity c.args.sig.now c.args.table.now c.in-Con.c ctor c.in-Con-core.ys c.in-Some.first.0 c.requires.sorted declared (first_stands (goal.at.inject_arguments-requires-clause-right c).In-Con-core is_under))

pub inject_arguments-requires-clause-left_inside : goal.inject_arguments-requires-clause-left_inside
inject_arguments-requires-clause-left_inside c = λ k x at.
    let below : HasArgumentsBelow (length c.args.table.now) (Con c.in-Con.c c.in-Con.xs) = subst (λ (q : Core). HasArgumentsBelow (length c.args.table.now) q) c.in-Con.is c.core.ensures.inside in
    rw c.requires.long (argument_below (length c.args.table.now) c.in-Con.xs k x below (rw c.as_slice.ensures.value at at))

pub inject_arguments-requires-clause-right_inside : goal.inject_arguments-requires-clause-right_inside
inject_arguments-requires-clause-right_inside c = λ k x at.
    let below : HasArgumentsBelow (length c.args.table.now) (Con c.in-Con-core.field-0 c.in-Con-core.ys) = subst (λ (q : Core). HasArgumentsBelow (length c.args.table.now) q) c.in-Con-core.is c.core-2.ensures.inside in
    rw c.requires.long (argument_below (length c.args.table.now) c.in-Con-core.ys k x below (rw c.as_slice-2.ensures.value at at))

pub returns-clause-needed : goal.returns-clause-needed
returns-clause-needed c = λ hyps old.
    let place = goal.at.returns-clause-needed c in
    let is_under = under place.In-Some in
    let r = get_or c.args.reps.now c.args.t.0 zeroth in
    let h = c.requires.index.only r c.in-Some.first c.in-Con.c is_under in
    c.in_ok-inject_arguments.ensures.needed c.args.table.now hyps (r, at_term place.In-Con, h.2) (rw c.as_slice.ensures.value (stands place.In-Con)) (rw c.as_slice-2.ensures.value (first_stands place.In-Con-core is_under)) old

pub returns-clause-closed : goal.returns-clause-closed
returns-clause-closed c = λ none.
    let place = goal.at.returns-clause-closed c in
    let is_under = under place.In-Some in
    let both = c.in_ok-inject_arguments.ensures.closed none in (
      both.0,
      injected_at c.args.table.now c.args.reps.now c.args.index.now c.args.t c.in-Some.first (get_or c.args.reps.now c.args.t.0 zeroth) c.in-Con.c c.in-Con.xs c.in-Con-core.ys (stands place.In-Con) (at_term place.In-Con) is_under (first_stands place.In-Con-core is_under)
          (λ k x y at_x at_y. both.1 k x y (rw c.as_slice.ensures.value at_x) (rw c.as_slice-2.ensures.value at_y)),
    )
