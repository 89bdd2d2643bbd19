use Rattle.std.proofs.Common.{Some, ap, sym, ◌∙◌, arith}
use Rattle.std.proofs.lemmas.Option.{slice_get-get_or}
use Rattle.ct_sexpr.specs.View.{expressions_of}
use Rattle.ct_readback.proofs.RestLemmas.{count_of}
use Rattle.ct_readback.proofs.KnownLemmas.{known_can}
use Rattle.ct_readback.proofs.descent.sort_of.Goals as goal

pub index-requires : goal.index-requires
index-requires c = omega (arith, c.requires.within, c.requires.known.long, count_of c.args.rows.now, c.args.known.now.ok.0)

pub returns-in-Some-clause-sort : goal.returns-in-Some-clause-sort
returns-in-Some-clause-sort c =
    let d = c.args.sig.now in
    let rows = expressions_of c.args.rows.now in
    let i = c.args.i in
    let s = c.in-Some.s in
    let known = c.args.known.now.items in
    let has = slice_get-get_or known i c.index.result.now (omega (arith, c.requires.within, c.requires.known.long, count_of c.args.rows.now)) ∙ ap Some (sym c.index.ensures ∙ c.in-Some.is) in
    (c.requires.known.declared i s has, known_can d rows known i s c.requires.known has)
