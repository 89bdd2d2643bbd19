use Rattle.ct_terms.specs.declared.term.Core.TheVariants.{Con}
use Rattle.ct_terms.specs.Terms.{Has}
use Rattle.ct_build.proofs.AnswerLemmas.{constructor_test}
use Rattle.ct_build.proofs.selectors.is_of.Goals as goal

pub returns-in-Con : goal.returns-in-Con
returns-in-Con c =
    let state = c.args.classes.now in
    let stands : Has state.terms (Con c.in-Con.own c.in-Con.field-1) c.in-Some.con.0 = rw (← c.in-Con.is, ← c.table.ensures.value) c.core.ensures.value in
    record { value = constructor_test state c.requires.quiet c.args.t c.in-Some.con c.in-Con.own c.args.c c.in-Con.field-1 c.in-Some.ensures.found.1 stands }

pub returns-in-None : goal.returns-in-None
returns-in-None c = record { value = λ args built. c.in-None.ensures.none built.con (c.args.c, args, built.stands) built.equal }
