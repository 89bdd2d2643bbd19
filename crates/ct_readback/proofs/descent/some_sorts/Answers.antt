use Rattle.std.proofs.Common.{◌≡◌, List, Option, sym, subst, ◌∙◌, arith}
use Rattle.std.proofs.lemmas.Option.{same_Some}
use Rattle.ct_sorts.specs.declared.ids.SortId.{SortId}
use Rattle.ct_sorts.specs.Declarations.{IsSort}
use Rattle.ct_sexpr.specs.View.{expressions_of}
use Rattle.ct_readback.specs.Parts.{count}
use Rattle.ct_readback.specs.Nodes.{CanHave}
use Rattle.ct_readback.specs.Descent.{Keeps, AreKnown}
use Rattle.ct_readback.proofs.RestLemmas.{count_of}
use Rattle.ct_readback.proofs.KnownLemmas.{known_reached, sorts_all}
use Rattle.ct_readback.proofs.FoundLemmas.{found_some}
use Rattle.ct_readback.proofs.SortSteps.{keeps_self, keeps_trans, sorts_none, sorts_more}
use Rattle.ct_readback.proofs.descent.some_sorts.Goals as goal

pub loop-i-init : goal.loop-i-init
loop-i-init c =
    let d = c.args.sig.now in
    let rows = expressions_of c.args.rows.now in
    let reached = c.args.reached.now in
    let same = c.in_ok-known.ensures.items in (
      subst (λ (l : List (Option SortId)). AreKnown d rows l) (sym same) (known_reached d c.requires.reached.0 rows reached c.requires.reached.1),
      subst (λ (l : List (Option SortId)). Keeps reached l) (sym same) (keeps_self reached),
      sorts_none d rows reached c.in_ok-sorts.sorts.items c.in_ok-sorts.ensures.items,
    )

pub sort_of-requires-clause-within : goal.sort_of-requires-clause-within
sort_of-requires-clause-within c = omega (arith, c.loop-i-test.true, c.requires.reached.1.long, count_of c.args.rows.now)

pub loop-i-preserved : goal.loop-i-preserved
loop-i-preserved c =
    let d = c.args.sig.now in
    let rows = expressions_of c.args.rows.now in
    let reached = c.args.reached.now in
    let known = c.loop-i.known.items in
    let later = c.sort_of.new.known.items in
    let sorts = c.loop-i.sorts.items in
    let i = c.loop-i.i in
    let s = c.in-Some.s in
    let held = c.loop-i.invariant in
    let done = c.in_ok-s.ensures in
    let both = found_some c.in_ok-s.field-0 s ((t : SortId) → CanHave d rows i t → ⊥) (λ (t : SortId). IsSort d t × CanHave d rows i t) c.in-Some.is done.sort in (
      done.known,
      keeps_trans reached known later held.1 done.keeps,
      sorts_more d rows reached known sorts c.push.new.self.items i s held.2 held.1 (λ t has. same_Some s t (sym c.in-Some.is ∙ done.first t has)) both.0 both.1 c.in_ok-push.ensures.items,
    )

pub returns : goal.returns
returns c =
    let d = c.args.sig.now in
    let rows = expressions_of c.args.rows.now in
    let reached = c.args.reached.now in
    let i = c.loop-i.i in
    let whole : i ≡ count rows = omega (arith, c.loop-i-test.false, c.loop-i.auto.i-end, c.requires.reached.1.long) in
    record { sorts = sorts_all d rows reached c.loop-i.sorts.items i c.loop-i.invariant.2 whole (omega (arith, c.loop-i-test.false)) }
