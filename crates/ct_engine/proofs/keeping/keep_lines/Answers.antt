use Rattle.ct_lemmas.proofs.Options.{OnOk-map}
use Rattle.ct_engine.proofs.KeepingLemmas.{first_within, takes_others}
use Rattle.ct_engine.proofs.keeping.keep_lines.Goals as goal

pub keep-requires-clause-declarations : goal.keep-requires-clause-declarations
keep-requires-clause-declarations c = let h = rw c.in-Unsat.is at c.requires.begun in h.0

pub keep-requires-clause-within : goal.keep-requires-clause-within
keep-requires-clause-within c =
    let h = rw c.in-Unsat.is at c.requires.begun in h.1

pub returns-in-Unsat-clause-kept : goal.returns-in-Unsat-clause-kept
returns-in-Unsat-clause-kept c =
    rw c.in-Unsat.is
    (OnOk-map c.keep.result _ _ (λ takes. (c.args.first, takes)) c.keep.ensures.taken)

pub keep-requires-in-Unknown-clause-declarations : goal.keep-requires-in-Unknown-clause-declarations
keep-requires-in-Unknown-clause-declarations c = let h = rw c.in-Unknown.is at c.requires.begun in h.0.declarations

pub keep-requires-in-Unknown-clause-within : goal.keep-requires-in-Unknown-clause-within
keep-requires-in-Unknown-clause-within c =
    let h = rw c.in-Unknown.is at c.requires.begun in
    first_within c.args.sig.now c.args.kept.now c.in-Unknown.spent.derivation c.args.first (h.0, h.1)

pub returns-in-Unknown-clause-kept : goal.returns-in-Unknown-clause-kept
returns-in-Unknown-clause-kept c =
    let h = rw c.in-Unknown.is at c.requires.begun in
    rw c.in-Unknown.is
    (OnOk-map c.keep-in-Unknown.result _ _ (λ takes. (h.0, h.2, takes_others c.args.sig.now c.args.kept.now c.keep-in-Unknown.new.kept c.in-Unknown.spent.derivation c.args.first (h.0, h.1) takes)) c.keep-in-Unknown.ensures.taken)
