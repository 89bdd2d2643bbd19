use Rattle.std.proofs.Common.{get_or, sym, ◌∙◌}
use Rattle.std.proofs.lemmas.Option.{slice_get-get_or}
use Rattle.ct_terms.specs.declared.ids.TermId.{TermId}
use Rattle.ct_congr.proofs.ListLemmas.{IfNone-from}
use Rattle.ct_congr.proofs.ConstructorLemmas.{none_built}
use Rattle.ct_congr.proofs.constructors.built_by.Goals as goal

abbrev zeroth : TermId
zeroth = record { 0 = 0 }

pub returns-clause-none : goal.returns-clause-none
returns-clause-none c =
    let r = get_or c.args.reps.now c.args.u.0 zeroth in
    IfNone-from c.known.result _ (λ none terms n t args is below has equal.
    none_built terms c.args.reps.now c.args.index.now n c.args.c c.args.u t r args is (sym c.known.ensures.value ∙ none) (slice_get-get_or c.args.reps.now c.args.u.0 zeroth c.requires.inside) below has equal)
