use Rattle.std.proofs.Common.{◌≡◌, ℕ, slice_get, Some, refl, sym, ap, subst, ◌∙◌, arith}
use Rattle.std.proofs.lemmas.Option.{none-some, same_Some}
use Rattle.ct_sorts.specs.declared.ids.CtorId.{CtorId}
use Rattle.ct_sorts.specs.Declarations.{Selector}
use Rattle.ct_terms.specs.declared.term.Core.TheVariants.{Con, Sel}
use Rattle.ct_terms.specs.Terms.{Has}
use Rattle.ct_congr.specs.Joined.{AreJoined}
use Rattle.ct_congr.specs.Covered.{HasCon}
use Rattle.ct_congr.proofs.TermLemmas.{Has-inside, Has-constructor}
use Rattle.ct_congr.proofs.RuleLemmas.{selector_at, place_at, IsSelection-at}
use Rattle.ct_congr.proofs.AtTermLemmas.{HasCon-equal, HasCon-inside, rep_inside, Selects-rule, selection_none}
use Rattle.ct_congr.proofs.at_term.select_at.Goals as goal
use Rattle.ct_congr.proofs.at_term.select_at.Goals.{In-Some}

-- the constructor term that is stored for the class of what is selected from
stored : (c : In-Some) → HasCon c.args.reps.now c.args.cons.now c.args.u c.in-Some.con
stored c = (c.con_at.ensures.value c.in-Some.con).0 c.in-Some.is

pub con_at-requires-clause-own : goal.con_at-requires-clause-own
con_at-requires-clause-own c = rep_inside c.args.table.now c.args.reps.now c.args.cons.now c.requires.grouped c.args.u

pub is_built_by-requires : goal.is_built_by-requires
is_built_by-requires c = record { inside = HasCon-inside c.args.table.now c.args.reps.now c.args.cons.now c.requires.grouped c.args.u c.in-Some.con (stored (goal.at.is_built_by-requires c).In-Some) }

pub argument_of-requires : goal.argument_of-requires
argument_of-requires c = record { inside = HasCon-inside c.args.table.now c.args.reps.now c.args.cons.now c.requires.grouped c.args.u c.in-Some.con (stored (goal.at.argument_of-requires c).In-Some) }

pub let_wait-requires-clause-left : goal.let_wait-requires-clause-left
let_wait-requires-clause-left c = omega (arith, Has-inside c.args.table.now (Sel c.args.s c.args.u) c.args.t.0 c.requires.stands, c.requires.grouped.long)

pub let_wait-requires-clause-right : goal.let_wait-requires-clause-right
let_wait-requires-clause-right c = omega (arith, c.argument_of.ensures.inside c.in-Some-argument_of.argument c.in-Some-argument_of.is, c.requires.grouped.long)

pub returns-in_default-clause-covered : goal.returns-in_default-clause-covered
returns-in_default-clause-covered c = λ y rule.
    absurd (selection_none c.args.sig.now c.args.table.now c.args.reps.now c.args.cons.now c.args.t c.args.u c.args.s c.requires.stands (λ con has. none-some con (sym c.in_default.is ∙ (c.con_at.ensures.value con).1 has)) y rule)

pub returns-then-not-is_built_by-clause-covered : goal.returns-then-not-is_built_by-clause-covered
returns-then-not-is_built_by-clause-covered c = λ y rule.
    let terms = c.args.table.now in
    let t = Selects-rule c.args.sig.now terms c.args.reps.now c.args.cons.now c.args.t c.args.u c.in-Some.con c.args.s c.requires.stands (stored (goal.at.returns-then-not-is_built_by-clause-covered c).In-Some) y rule in
    let sel = selector_at c.args.sig.now c.args.s c.sel_ctor.result c.sel_ctor.ensures.value in
    let same : t.selector ≡ sel.selector = same_Some t.selector sel.selector (sym t.declared ∙ sel.declared) in
    let ctor : t.selector.ctor ≡ c.sel_ctor.result = ap (λ (q : Selector). q.ctor) same ∙ sel.ctor in
    absurd ((rw c.if-not-is_built_by.true at c.is_built_by.ensures.value) t.args (subst (λ (q : CtorId). Has terms (Con q t.args) c.in-Some.con.0) ctor t.stands))

pub returns-in_default-argument_of-clause-covered : goal.returns-in_default-argument_of-clause-covered
returns-in_default-argument_of-clause-covered c = λ y rule.
    let terms = c.args.table.now in
    let t = Selects-rule c.args.sig.now terms c.args.reps.now c.args.cons.now c.args.t c.args.u c.in-Some.con c.args.s c.requires.stands (stored (goal.at.returns-in_default-argument_of-clause-covered c).In-Some) y rule in
    let sel = selector_at c.args.sig.now c.args.s c.sel_ctor.result c.sel_ctor.ensures.value in
    let same : t.selector ≡ sel.selector = same_Some t.selector sel.selector (sym t.declared ∙ sel.declared) in
    let place : t.selector.place ≡ c.sel_place.result = ap (λ (q : Selector). q.place) same ∙ place_at c.args.sig.now c.args.s c.sel_ctor.result c.sel_place.result sel c.sel_place.ensures.value in
    absurd (none-some y (sym c.in_default-argument_of.is ∙ (c.argument_of.ensures.value y).1 (t.selector.ctor, t.args, t.stands, subst (λ (k : ℕ). slice_get t.args k ≡ Some y) place t.at)))

pub returns-clause-waits : goal.returns-clause-waits
returns-clause-waits c =
    let d = c.args.sig.now in
    let terms = c.args.table.now in
    let reps = c.args.reps.now in
    let con = c.in-Some.con in
    let sel = selector_at d c.args.s c.sel_ctor.result c.sel_ctor.ensures.value in
    let place = place_at d c.args.s c.sel_ctor.result c.sel_place.result sel c.sel_place.ensures.value in
    let built = rw c.if-not-is_built_by.false at c.is_built_by.ensures.value in
    let h = (c.argument_of.ensures.value c.in-Some-argument_of.argument).0 c.in-Some-argument_of.is in
    let same = (Has-constructor terms h.0 c.sel_ctor.result h.1 built.0 con.0 h.2 built.1).0 in
    let stands : Has terms (Con sel.selector.ctor h.1) con.0 = subst (λ (q : CtorId). Has terms (Con q h.1) con.0) (same ∙ sym sel.ctor) h.2 in
    let at : slice_get h.1 sel.selector.place ≡ Some c.in-Some-argument_of.argument = subst (λ (k : ℕ). slice_get h.1 k ≡ Some c.in-Some-argument_of.argument) (sym place) h.3 in
    let equal = HasCon-equal terms reps c.args.cons.now c.requires.grouped c.args.u con (stored (goal.at.returns-clause-waits c).In-Some) in
    let rule = IsSelection-at d terms reps c.args.t c.args.u c.args.s sel.selector c.requires.stands sel.declared con c.in-Some-argument_of.argument h.1 equal stands at in
    c.in_ok-let_wait.ensures.waits d terms (refl, rule, refl) tt

pub returns-clause-covered : goal.returns-clause-covered
returns-clause-covered c = λ y rule.
    let terms = c.args.table.now in
    let t = Selects-rule c.args.sig.now terms c.args.reps.now c.args.cons.now c.args.t c.args.u c.in-Some.con c.args.s c.requires.stands (stored (goal.at.returns-clause-covered c).In-Some) y rule in
    let sel = selector_at c.args.sig.now c.args.s c.sel_ctor.result c.sel_ctor.ensures.value in
    let same : t.selector ≡ sel.selector = same_Some t.selector sel.selector (sym t.declared ∙ sel.declared) in
    let place : t.selector.place ≡ c.sel_place.result = ap (λ (q : Selector). q.place) same ∙ place_at c.args.sig.now c.args.s c.sel_ctor.result c.sel_place.result sel c.sel_place.ensures.value in
    let found = (c.argument_of.ensures.value y).1 (t.selector.ctor, t.args, t.stands, subst (λ (k : ℕ). slice_get t.args k ≡ Some y) place t.at) in
    subst (AreJoined c.args.reps.now c.let_wait.new.waiting.items c.args.t) (same_Some c.in-Some-argument_of.argument y (sym c.in-Some-argument_of.is ∙ found)) c.in_ok-let_wait.ensures.joined
