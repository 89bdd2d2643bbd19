use Rattle.std.proofs.Common.{get_or, arith}
use Rattle.std.proofs.lemmas.Option.{slice_get-get_or}
use Rattle.ct_terms.specs.declared.ids.TermId.{TermId}
use Rattle.ct_congr.proofs.ConstructorLemmas.{IsConIndex-more, IsConIndex-skip}
use Rattle.ct_congr.proofs.constructors.index_term.Goals as goal

abbrev zeroth : TermId
zeroth = record { 0 = 0 }

pub returns-in_ok-enter-in-Some : goal.returns-in_ok-enter-in-Some
returns-in_ok-enter-in-Some c =
    let reps = c.args.reps.now in
    let r = get_or reps c.args.t.0 zeroth in
    let built = c.in-Some.ensures.built in
    record {
      index = λ old. IsConIndex-more c.args.table.now reps c.args.index.now c.enter.new.index c.args.t c.in_ok-enter-in-Some.field-0 r c.in-Some.c built.0 built.1 (slice_get-get_or reps c.args.t.0 zeroth (omega (arith, c.requires.inside, c.requires.long))) c.in_ok-enter-in-Some.ensures.entered old;
    }

pub returns-in-None : goal.returns-in-None
returns-in-None c = record { index = λ old. IsConIndex-skip c.args.table.now c.args.reps.now c.args.index.now c.args.t c.in-None.ensures.other old }
