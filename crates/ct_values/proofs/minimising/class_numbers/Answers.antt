use Rattle.std.proofs.Common.{List, ℕ, subst, arith}
use Rattle.std.proofs.lemmas.Result.{IfOk-weaker}
use Rattle.ct_values.specs.Quotient.{NumbersClasses, AreNumbered}
use Rattle.ct_values.proofs.ClassLemmas.{class_early, class_own}
use Rattle.ct_values.proofs.QuotientLemmas.{AreNumbered-classes}
use Rattle.ct_values.proofs.minimising.class_numbers.Goals as goal

pub numbered-requires-clause-early : goal.numbered-requires-clause-early
numbered-requires-clause-early c =
    rw c.deref.ensures.value (class_early c.args.part.now c.in_ok-classes.classes.items c.in_ok-classes.ensures.classes)

pub numbered-requires-clause-own : goal.numbered-requires-clause-own
numbered-requires-clause-own c =
    let are = c.in_ok-classes.ensures.classes in
    rw c.deref.ensures.value (λ i within. class_own c.args.part.now c.in_ok-classes.classes.items are i (omega (arith, within, are.long)))

pub returns : goal.returns
returns c =
    let g = c.args.part.now in
    let classes = c.in_ok-classes.classes.items in
    record {
      numbers = IfOk-weaker c.numbered.result (λ numbers. NumbersClasses c.deref.result.now numbers.items) (λ numbers. AreNumbered g numbers.items) (λ numbers of. AreNumbered-classes g classes numbers.items c.in_ok-classes.ensures.classes (subst (λ (ids : List ℕ). NumbersClasses ids numbers.items) c.deref.ensures.value of)) c.numbered.ensures.numbers;
    }
