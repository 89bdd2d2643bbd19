use Rattle.std.proofs.Common.{false, get_or, subst}
use Rattle.std.proofs.lemmas.List.{take_all}
use Rattle.std.proofs.lemmas.List.Elements.{All-more, Contains-get_or}
use Rattle.ct_terms.specs.declared.ids.Lit.{Lit}
use Rattle.ct_terms.specs.Literal.{opposite}
use Rattle.ct_terms.specs.Propagation.{IsFalseIn, AreFalseIn}
use Rattle.ct_log.specs.Marks.{IsMarked}
use Rattle.ct_log.proofs.LookLemmas.{not_told}
use Rattle.ct_log.proofs.propagation.first_other.Goals as goal

abbrev default : Lit
default = record { term = record { 0 = 0 }; positive = false }

pub returns-then-not-has : goal.returns-then-not-has
returns-then-not-has c =
    let l = get_or c.args.clause.now c.loop-l.l-index default in
    record {
      other = λ set marked. (
        Contains-get_or c.args.clause.now c.loop-l.l-index default c.loop-l-test.true,
        λ f. not_told c.has.result (IsMarked c.args.marks.now (opposite l)) (rw c.signed.ensures.value at c.has.ensures.marked) c.if-not-has.true ((marked (opposite l)).1 f),
      );
    }

pub loop-l-preserved : goal.loop-l-preserved
loop-l-preserved c =
    let l = get_or c.args.clause.now c.loop-l.l-index default in
    λ set marked. All-more (IsFalseIn set) c.args.clause.now c.loop-l.l-index default c.loop-l-test.true (c.loop-l.invariant set marked) ((marked (opposite l)).0 ((rw c.signed.ensures.value at c.has.ensures.marked).0 c.if-not-has.false))

pub returns : goal.returns
returns c = record { other = λ set marked. subst (AreFalseIn set) (take_all c.loop-l.l-index c.args.clause.now c.loop-l-test.false) (c.loop-l.invariant set marked) }
