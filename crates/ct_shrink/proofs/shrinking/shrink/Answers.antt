use Rattle.std.proofs.Common.{◌∙◌, ℕ, List, length, sym, subst}
use Rattle.ct_shrink.specs.Shrinking.{IsDraft}
use Rattle.ct_shrink.proofs.DraftLemmas.{shrunk_all}
use Rattle.ct_shrink.proofs.shrinking.shrink.Goals as goal

pub consider_all-requires-clause-draft : goal.consider_all-requires-clause-draft
consider_all-requires-clause-draft c =
    subst (λ (ps : List ℕ). IsDraft c.args.sig.now c.args.table.now c.args.asserts.now c.args.budget ps 0 c.in_ok-draft.draft) (c.as_slice.ensures.value ∙ sym c.as_slice-2.ensures.value)
    (c.in_ok-draft.ensures.draft c.args.budget)

pub returns : goal.returns
returns c =
    let places_are = c.as_slice-2.ensures.value in
    record {
      shrunk =
          shrunk_all c.args.sig.now c.args.table.now c.args.asserts.now c.args.budget c.args.core.places.items c.consider_all.new.draft c.finished.result
          (subst (λ (ps : List ℕ). IsDraft c.args.sig.now c.args.table.now c.args.asserts.now c.args.budget ps (length ps) c.consider_all.new.draft) places_are c.in_ok-consider_all.ensures.draft)
          c.finished.ensures.places c.finished.ensures.needs c.finished.ensures.derivation;
    }
