use Rattle.std.proofs.Common.{inl, inr, sym, ap, ◌∙◌, arith}
use Rattle.ct_lemmas.proofs.Lists.{slice_get-there}
use Rattle.indexmap.specs.IndexMap.{get}
use Rattle.ct_values.specs.KeyTest.{same_key}
use Rattle.ct_values.proofs.SharedLemmas.{IsKeyed-step, key_of_parts}
use Rattle.ct_values.proofs.shared.keyed.Goals as goal

pub loop-index-preserved : goal.loop-index-preserved
loop-index-preserved c =
    let g = c.args.graph.now in
    let classes = c.args.classes.now in
    let index = c.loop-index.index in
    let found = c.in_ok-first_with.ensures in
    let x = slice_get-there g index (omega (arith, c.requires.classes.long, c.loop-index-test.true)) in
    let key = key_of_parts g classes index x.0 c.head.result c.children.result.now c.in_ok-key.key x.1 c.head.ensures.value c.children.ensures.value c.in_ok-key.ensures.value in
    IsKeyed-step g classes c.loop-index.representatives c.first_with.new.representatives index c.in_ok-first_with.field-0 x.0 c.requires.classes c.loop-index.invariant x.1
    (ap (get same_key c.first_with.new.representatives) (sym key) ∙ found.found)
    found.stay
    (λ k m e. elim (found.only k m e) [ inl had ↦ inl had | inr new ↦ inr (new.0 ∙ key, new.1) ])
