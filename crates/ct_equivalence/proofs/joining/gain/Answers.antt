use Rattle.std.proofs.Common.{◌≡◌, ◌∙◌, false, Option, Some, None, is_some, set, get_or, refl, ap, sym}
use Rattle.std.proofs.lemmas.List.{set-set, set-get_or}
use Rattle.ct_terms.specs.declared.ids.TermId.{TermId}
use Rattle.ct_equivalence.proofs.joining.gain.Goals as goal

-- nothing is there
none_of : (o : Option TermId) → is_some o ≡ false → o ≡ None
none_of None h = refl
none_of (Some t) h = cc

pub returns-clause-undone : goal.returns-clause-undone
returns-clause-undone c =
    let cons = c.args.cons.now.items in
    let none : c.index.result.now ≡ None = none_of c.index.result.now (sym c.is_some.ensures ∙ c.if-is_some.false) in
    let at : get_or cons c.args.winner.0 None ≡ None = sym (rw none at c.index.ensures) in
    set-set cons c.args.winner.0 c.index-2.result.now None ∙ ap (set cons c.args.winner.0) (sym at) ∙ set-get_or cons c.args.winner.0 None
