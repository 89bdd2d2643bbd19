use Rattle.std.proofs.Common.{◌-◌, length, take, drop, refl, ap, ◌∙◌, sym}
use Rattle.ct_lemmas.proofs.Prefixes.{nothing_left, rest-step}
use Rattle.ct_terms.specs.Args.{digest_from}
use Rattle.ct_terms.specs.declared.ids.TermId.{TermId}
use Rattle.ct_terms.proofs.args.digest_from.Goals as goal

abbrev zeroth : TermId
zeroth = record { 0 = 0 }

pub loop-rest-init : goal.loop-rest-init
loop-rest-init c = refl

pub loop-rest-preserved : goal.loop-rest-preserved
loop-rest-preserved c =
    c.loop-rest.invariant
    ∙ ap (digest_from c.loop-rest.sum) (rest-step c.loop-rest.rest.now zeroth c.in-len1-up.len_at_least)
    ∙ ap (λ sum. digest_from sum (take (length c.loop-rest.rest.now - 1) (drop 1 c.loop-rest.rest.now))) (sym c.mix-sum.ensures.value)

pub returns : goal.returns
returns c = record { value = sym (c.loop-rest.invariant ∙ ap (digest_from c.loop-rest.sum) (nothing_left c.loop-rest.rest.now c.in_default.len_below)) }
