use Rattle.std.proofs.Common.{ℕ, ◌-◌, List, [], ◌∷◌, ◌++◌, map, Ok, Err, reverse, take, sym, ap, subst, ◌∙◌}
use Rattle.std.proofs.lemmas.Result.{err_from_is_err_and}
use Rattle.ct_lemmas.proofs.Contained.{Contains-first, Contains-from_slice_get}
use Rattle.ct_terms.specs.CoreTree.{CoreTree, con, trees_of, term_at}
use Rattle.ct_terms.specs.CoreSorts.{HasTreeSort}
use Rattle.ct_listing.specs.Closed.{build, closed_of}
use Rattle.ct_listing.specs.Listing.{listed}
use Rattle.ct_scope.specs.declared.open_value.OpenValue.{OpenValue}
use Rattle.ct_scope.proofs.ValueLemmas.{values_stay, values_more}
use Rattle.ct_scope.proofs.AwaitLemmas.{made_below, made_tree, term_made, made_lost, await_failed, whole_made, under_goes_on}
use Rattle.ct_scope.proofs.open_value.make_open.Goals as goal

pub make-requires-clause-below : goal.make-requires-clause-below
make-requires-clause-below c =
    let h = c.requires.under_way.2 in
    made_below c.args.sig.now h.0 c.args.table.now c.args.top c.requires.kept c.requires.all h.1

pub make-requires-clause-sorted : goal.make-requires-clause-sorted
make-requires-clause-sorted c =
    let d = c.args.sig.now in
    let top = c.args.top in
    let h = c.requires.under_way.2 in
    let s = top.value.sort in
    let v = build top.ctor (closed_of h.1.built.0) in
    let closed = (c.listed_values.ensures.exact d s v c.sorts.ensures.consistent h.1.listable).0 (Contains-from_slice_get (listed d s) top.value.number v h.1.built.1) in
    (s, subst (λ (u : CoreTree). HasTreeSort d u s) (sym (made_tree d h.0 c.args.table.now top c.requires.kept c.requires.all h.1)) (c.listed_values.ensures.term d v s closed))

pub returns-in_err-term-clause-step : goal.returns-in_err-term-clause-step
returns-in_err-term-clause-step c = λ old whole h.
    let d = c.args.sig.now in
    let top = c.args.top in
    let new = c.make.new.table in
    let p = err_from_is_err_and c.from_residual.result c.from_residual.ensures.1 in
    rw (p.1, p.2) (await_failed d old whole h.0 top.value (reverse c.args.below.now.items) new _ h.2 (term_made d h.0 c.args.table.now top c.requires.kept c.requires.all h.1 new (Err _) tt c.in_err-term.ensures.effect))

pub returns-in_err-remember_value-clause-step : goal.returns-in_err-remember_value-clause-step
returns-in_err-remember_value-clause-step c = λ old whole h.
    let d = c.args.sig.now in
    let top = c.args.top in
    let new = c.make.new.table in
    let made = term_made d h.0 c.args.table.now top c.requires.kept c.requires.all h.1 new (Ok c.in_ok-term.term) c.in_ok-term.ensures.core c.in_ok-term.ensures.effect in
    let p = err_from_is_err_and c.from_residual-in_err-remember_value.result c.from_residual-in_err-remember_value.ensures.1 in
    rw (p.1, p.2) (await_failed d old whole h.0 top.value (reverse c.args.below.now.items) new _ h.2 (made_lost d h.0 new top.value c.in_ok-term.term _ c.in_err-remember_value.ensures.err made))

pub returns-in_err-next-in-Some-clause-step : goal.returns-in_err-next-in-Some-clause-step
returns-in_err-next-in-Some-clause-step c = λ old whole h.
    let d = c.args.sig.now in
    let top = c.args.top in
    let new = c.make.new.table in
    let made = term_made d h.0 c.args.table.now top c.requires.kept c.requires.all h.1 new (Ok c.in_ok-term.term) c.in_ok-term.ensures.core c.in_ok-term.ensures.effect in
    let p = err_from_is_err_and c.from_residual-in_err-next-in-Some.result c.from_residual-in_err-next-in-Some.ensures.1 in
    rw (p.1, p.2) (await_failed d old whole h.0 top.value (reverse c.args.below.now.items) new _ h.2 (made_lost d h.0 new top.value c.in_ok-term.term _ c.in_err-next-in-Some.ensures.err made))

pub returns-in-None-clause-step : goal.returns-in-None-clause-step
returns-in-None-clause-step c = λ old whole h.
    let d = c.args.sig.now in
    let top = c.args.top in
    let new = c.make.new.table in
    let made = term_made d h.0 c.args.table.now top c.requires.kept c.requires.all h.1 new (Ok c.in_ok-term.term) c.in_ok-term.ensures.core c.in_ok-term.ensures.effect in
    let left = c.args.below.now.items in
    let none = c.in-None.ensures.items ∙ ap (λ (os : List OpenValue). os ++ []) (c.in-None.ensures.rest ∙ ap (λ (n : ℕ). take (n - 1) left) c.in-None.ensures.cases.0) in
    whole_made d old whole h.0 new top.value c.args.below.now.items c.in_ok-term.term none h.2 made

pub returns-in_ok-next-in-Some-clause-step : goal.returns-in_ok-next-in-Some-clause-step
returns-in_ok-next-in-Some-clause-step c = λ old whole h.
    let d = c.args.sig.now in
    let top = c.args.top in
    let new = c.make.new.table in
    let made = term_made d h.0 c.args.table.now top c.requires.kept c.requires.all h.1 new (Ok c.in_ok-term.term) c.in_ok-term.ensures.core c.in_ok-term.ensures.effect in
    rw c.in_ok-next-in-Some.ensures.added (under_goes_on d old whole h.0 new top.value c.args.below.now.items c.pop.new.self.items c.in-Some.under c.in_ok-term.term c.in-Some.ensures.items h.2 made)

pub returns-in-None-clause-kept : goal.returns-in-None-clause-kept
returns-in-None-clause-kept c =
    let tree = con c.args.top.ctor (trees_of (map (term_at c.args.table.now) c.args.top.args)) in
    (c.in_ok-term.ensures.effect (tree ∷ []) (Contains-first tree [])).kept

pub returns-in-None-clause-right : goal.returns-in-None-clause-right
returns-in-None-clause-right c =
    let d = c.args.sig.now in
    let top = c.args.top in
    let old = c.args.table.now in
    let new = c.make.new.table in
    let term = c.in_ok-term.term in
    let tree = con top.ctor (trees_of (map (term_at old) top.args)) in
    let one = c.in_ok-term.ensures.effect (tree ∷ []) (Contains-first tree []) in
    let h = c.requires.under_way.2 in
    let v = build top.ctor (closed_of h.1.built.0) in
    let made = term_made d h.0 old top c.requires.kept c.requires.all h.1 new (Ok term) c.in_ok-term.ensures.core c.in_ok-term.ensures.effect v h.1.built.1 in
    values_more d new c.args.terms.now c.remember_value.new.terms top.value term v c.in_ok-remember_value.ensures.only h.1.built.1 made.core (values_stay d old new c.args.terms.now one.grown one.kept c.requires.right)

pub returns-in_ok-next-in-Some-clause-kept : goal.returns-in_ok-next-in-Some-clause-kept
returns-in_ok-next-in-Some-clause-kept c =
    let tree = con c.args.top.ctor (trees_of (map (term_at c.args.table.now) c.args.top.args)) in
    (c.in_ok-term.ensures.effect (tree ∷ []) (Contains-first tree [])).kept

pub returns-in_ok-next-in-Some-clause-right : goal.returns-in_ok-next-in-Some-clause-right
returns-in_ok-next-in-Some-clause-right c =
    let d = c.args.sig.now in
    let top = c.args.top in
    let old = c.args.table.now in
    let new = c.make.new.table in
    let term = c.in_ok-term.term in
    let tree = con top.ctor (trees_of (map (term_at old) top.args)) in
    let one = c.in_ok-term.ensures.effect (tree ∷ []) (Contains-first tree []) in
    let h = c.requires.under_way.2 in
    let v = build top.ctor (closed_of h.1.built.0) in
    let made = term_made d h.0 old top c.requires.kept c.requires.all h.1 new (Ok term) c.in_ok-term.ensures.core c.in_ok-term.ensures.effect v h.1.built.1 in
    values_more d new c.args.terms.now c.remember_value.new.terms top.value term v c.in_ok-remember_value.ensures.only h.1.built.1 made.core (values_stay d old new c.args.terms.now one.grown one.kept c.requires.right)
