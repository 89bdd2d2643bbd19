use Rattle.std.proofs.Common.{◌≡◌, ℕ, List, slice_get, length, Some, None, refl, sym, ap, subst, ◌∙◌}
use Rattle.std.proofs.lemmas.Option.{none-some}
use Rattle.ct_lemmas.proofs.Lists.{slice_get-one_length}
use Rattle.ct_sorts.specs.declared.ids.CtorId.{CtorId}
use Rattle.ct_terms.specs.declared.ids.TermId.{TermId}
use Rattle.ct_terms.specs.declared.term.Core.TheVariants.{Con, Sel}
use Rattle.ct_terms.specs.Terms.{Has}
use Rattle.ct_congr.specs.Partition.{InOneClass}
use Rattle.ct_congr.proofs.TermLemmas.{Has-inside, Has-constructor, one_arity}
use Rattle.ct_congr.proofs.RuleLemmas.{selector_at, place_at, IsSelection-at, selection_parts, selection_closed}
use Rattle.ct_congr.proofs.rules.select.Goals as goal
use Rattle.ct_congr.proofs.rules.select.Goals.{In-Some, In-Con, In-Some-argument_at}

-- the constructor term that was found, with its arguments
abbrev Found : In-Con → Type 0
Found c = (args : List TermId) × Has c.args.table.now (Con c.sel_ctor.result args) c.in-Some.con.0 × InOneClass c.args.reps.now c.args.u c.in-Some.con

found : (c : In-Con) → Found c
found c = c.in-Some.ensures.found c.args.table.now (length c.args.table.now) c.requires.index

-- the arguments that the code reads are those
stands : (c : In-Con) → Has c.args.table.now (Con c.sel_ctor.result c.in-Con.args) c.in-Some.con.0
stands c =
    let h = found c in
    let read : Has c.args.table.now (Con c.in-Con.field-0 c.in-Con.args) c.in-Some.con.0 = rw (← c.in-Con.is) c.core.ensures.value in
    let same = Has-constructor c.args.table.now c.sel_ctor.result c.in-Con.field-0 h.0 c.in-Con.args c.in-Some.con.0 h.1 read in
    subst (λ (xs : List TermId). Has c.args.table.now (Con c.sel_ctor.result xs) c.in-Some.con.0) same.1 h.1

pub returns-in_default-clause-closed : goal.returns-in_default-clause-closed
returns-in_default-clause-closed c = λ none injective y rule.
    let terms = c.args.table.now in
    let sel = selector_at c.args.sig.now c.args.s c.sel_ctor.result c.sel_ctor.ensures.value in
    let parts = selection_parts c.args.sig.now terms c.args.reps.now c.args.t c.args.u c.args.s sel.selector c.requires.stands sel.declared y rule in
    let has : Has terms (Con c.sel_ctor.result parts.1.0) rule.con.0 = subst (λ (q : CtorId). Has terms (Con q parts.1.0) rule.con.0) sel.ctor parts.1.1 in
    absurd (c.in_default.ensures.none terms (length terms) rule.con parts.1.0 c.requires.index (Has-inside terms (Con c.sel_ctor.result parts.1.0) rule.con.0 has) has parts.0)

pub core-requires : goal.core-requires
core-requires c =
    let h = c.in-Some.ensures.found c.args.table.now (length c.args.table.now) c.requires.index in
    record { within = Has-inside c.args.table.now (Con c.sel_ctor.result h.0) c.in-Some.con.0 h.1 }

pub returns-in_default-argument_at-clause-closed : goal.returns-in_default-argument_at-clause-closed
returns-in_default-argument_at-clause-closed c = λ none injective y rule.
    let at = (goal.at.returns-in_default-argument_at-clause-closed c).In-Con in
    let terms = c.args.table.now in
    let sel = selector_at c.args.sig.now c.args.s c.sel_ctor.result c.sel_ctor.ensures.value in
    let place : sel.selector.place ≡ c.sel_place.result = place_at c.args.sig.now c.args.s c.sel_ctor.result c.sel_place.result sel c.sel_place.ensures.value in
    let parts = selection_parts c.args.sig.now terms c.args.reps.now c.args.t c.args.u c.args.s sel.selector c.requires.stands sel.declared y rule in
    let has : Has terms (Con c.sel_ctor.result parts.1.0) rule.con.0 = subst (λ (q : CtorId). Has terms (Con q parts.1.0) rule.con.0) sel.ctor parts.1.1 in
    let long = one_arity c.args.sig.now terms c.sel_ctor.result parts.1.0 c.in-Con.args rule.con.0 c.in-Some.con.0 c.requires.sorted has (stands at) in
    let there = slice_get-one_length parts.1.0 c.in-Con.args sel.selector.place y long parts.1.2 in
    let empty : slice_get c.as_slice.result.now c.sel_place.result ≡ None = sym c.argument_at.ensures.value ∙ c.in_default-argument_at.is in
    let empty_args : slice_get c.in-Con.args c.sel_place.result ≡ None = rw c.as_slice.ensures.value at empty in
    absurd (none-some there.0 (sym empty_args ∙ ap (slice_get c.in-Con.args) (sym place) ∙ there.1))

pub need-requires-clause-left : goal.need-requires-clause-left
need-requires-clause-left c = rw c.requires.long (Has-inside c.args.table.now (Sel c.args.s c.args.u) c.args.t.0 c.requires.stands)

-- the argument stands at the place of the selector
at_place : (c : In-Some-argument_at) → (place : ℕ) → place ≡ c.sel_place.result → slice_get c.in-Con.args place ≡ Some c.in-Some-argument_at.argument
at_place c place is =
    let read : slice_get c.as_slice.result.now c.sel_place.result ≡ Some c.in-Some-argument_at.argument = sym c.argument_at.ensures.value ∙ c.in-Some-argument_at.is in
    ap (slice_get c.in-Con.args) is ∙ (rw c.as_slice.ensures.value at read)

pub returns-clause-needed : goal.returns-clause-needed
returns-clause-needed c = λ hyps old.
    let con = (goal.at.returns-clause-needed c).In-Con in
    let some = (goal.at.returns-clause-needed c).In-Some-argument_at in
    let terms = c.args.table.now in
    let sel = selector_at c.args.sig.now c.args.s c.sel_ctor.result c.sel_ctor.ensures.value in
    let place = place_at c.args.sig.now c.args.s c.sel_ctor.result c.sel_place.result sel c.sel_place.ensures.value in
    let has : Has terms (Con sel.selector.ctor c.in-Con.args) c.in-Some.con.0 = subst (λ (q : CtorId). Has terms (Con q c.in-Con.args) c.in-Some.con.0) (sym sel.ctor) (stands con) in
    let rule = IsSelection-at c.args.sig.now terms c.args.reps.now c.args.t c.args.u c.args.s sel.selector c.requires.stands sel.declared c.in-Some.con c.in-Some-argument_at.argument c.in-Con.args (found con).2 has (at_place some sel.selector.place place) in
    c.in_ok-need.ensures.needed c.args.sig.now terms hyps (refl, rule, refl) tt old

pub returns-clause-closed : goal.returns-clause-closed
returns-clause-closed c = λ none injective.
    let con = (goal.at.returns-clause-closed c).In-Con in
    let some = (goal.at.returns-clause-closed c).In-Some-argument_at in
    let terms = c.args.table.now in
    let sel = selector_at c.args.sig.now c.args.s c.sel_ctor.result c.sel_ctor.ensures.value in
    let place = place_at c.args.sig.now c.args.s c.sel_ctor.result c.sel_place.result sel c.sel_place.ensures.value in
    let has : Has terms (Con sel.selector.ctor c.in-Con.args) c.in-Some.con.0 = subst (λ (q : CtorId). Has terms (Con q c.in-Con.args) c.in-Some.con.0) (sym sel.ctor) (stands con) in
    selection_closed c.args.sig.now terms c.args.reps.now c.args.t c.args.u c.args.s sel.selector c.requires.stands sel.declared injective c.in-Some.con c.in-Some-argument_at.argument c.in-Con.args (found con).2 has (at_place some sel.selector.place place) (c.in_ok-need.ensures.none none).1
