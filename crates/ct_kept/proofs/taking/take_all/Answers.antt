use Rattle.std.proofs.Common.{◌∙◌, sym, ap, subst, arith, length, length-append, true≢false}
use Rattle.std.specs.List.{AllByRecursion}
use Rattle.ct_restriction.specs.Renumbered.{IsKnown}
use Rattle.ct_kept.proofs.TakenLemmas.{roots_within, taken_all, taken_over, without_room}
use Rattle.ct_kept.proofs.taking.take_all.Goals as goal

pub copying-requires-clause-within : goal.copying-requires-clause-within
copying-requires-clause-within c =
    roots_within c.args.sig.now c.args.terms.now c.args.lines.now c.deref.result.now c.requires.accepted (c.deref.ensures.value ∙ c.in_ok-roots.ensures.roots)

pub returns-then-not-knows-clause-taken : goal.returns-then-not-knows-clause-taken
returns-then-not-knows-clause-taken c =
    without_room c.args.terms.now c.args.lines.now c.args.table.now c.copying.new.to c.args.lemmas.now.items c.in_ok-numbers.numbers c.deref.result.now c.len-before.result c.cut_to.new.self
    (c.deref.ensures.value ∙ c.in_ok-roots.ensures.roots) c.in_ok-numbers.ensures.grown c.len-before.ensures.count c.cut_to.ensures.first c.in_ok-numbers.ensures.all
    (λ all. true≢false (sym (c.knows.ensures.known.1 (subst (AllByRecursion (IsKnown c.in_ok-numbers.numbers)) (c.deref.ensures.value ∙ sym c.deref-2.ensures.value) all)) ∙ c.if-not-knows.true))

pub returns-clause-taken : goal.returns-clause-taken
returns-clause-taken c =
    taken_all c.args.terms.now c.args.lines.now c.args.table.now c.copying.new.to c.args.lemmas.now.items c.push_lemmas.new.lemmas.items c.in_ok-numbers.numbers c.deref.result.now
    (c.deref.ensures.value ∙ c.in_ok-roots.ensures.roots) c.in_ok-numbers.ensures.grown c.in_ok-numbers.ensures.equal c.in_ok-numbers.ensures.only
    (subst (AllByRecursion (IsKnown c.in_ok-numbers.numbers)) (c.deref-2.ensures.value ∙ sym c.deref.ensures.value) (c.knows.ensures.known.0 c.if-not-knows.false)) c.in_ok-push_lemmas.ensures.pushes

pub returns-clause-over : goal.returns-clause-over
returns-clause-over c = λ over.
    taken_over c.args.terms.now c.args.lines.now c.args.table.now c.copying.new.to c.args.lemmas.now.items c.push_lemmas.new.lemmas.items c.in_ok-numbers.numbers c.deref.result.now
    (c.deref.ensures.value ∙ c.in_ok-roots.ensures.roots) c.in_ok-numbers.ensures.grown c.in_ok-numbers.ensures.equal c.in_ok-numbers.ensures.only
    (subst (AllByRecursion (IsKnown c.in_ok-numbers.numbers)) (c.deref-2.ensures.value ∙ sym c.deref.ensures.value) (c.knows.ensures.known.0 c.if-not-knows.false)) c.in_ok-push_lemmas.ensures.pushes
    (let grown = c.in_ok-numbers.ensures.grown in omega (arith, ap length grown.1, length-append c.args.table.now grown.0)) over
