use Rattle.std.proofs.Common.{◌∙◌, List, subst}
use Rattle.ct_terms.specs.declared.ids.TermId.{TermId}
use Rattle.ct_equivalence.specs.declared.places.Place.{Place}
use Rattle.ct_equivalence.specs.Digests.{AreExchanged, places_of}
use Rattle.ct_equivalence.proofs.DigestLemmas.{AreDigests-exchanged, rep_of-read}
use Rattle.ct_equivalence.proofs.joining.give.Goals as goal

pub returns-clause-digests : goal.returns-clause-digests
returns-clause-digests c = λ table places are.
    let reps = c.args.reps.now.items in
    let rows = c.args.places.now in
    let t = c.args.t in
    let before = c.args.digests.now.items in
    let after = c.exchange.new.digests.items in
    let read = c.index.result.now in
    let from = subst (λ (ps : List Place). AreExchanged read c.args.rep ps before after) c.row.ensures.value c.exchange.ensures.exchanged in
    AreDigests-exchanged reps t c.args.rep c.requires.inside table rows before after places
    (subst (λ (old : TermId). AreExchanged old c.args.rep (places_of rows t) before after) (c.index.ensures ∙ rep_of-read reps t read c.requires.inside) from) are
