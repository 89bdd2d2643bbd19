use Rattle.std.proofs.Common.{false, get_or, refl}
use Rattle.std.proofs.lemmas.Option.{slice_get-get_or}
use Rattle.ct_terms.specs.declared.ids.Lit.{Lit}
use Rattle.ct_engine.proofs.TurnLemmas.{HaveInCommon-none, HaveInCommon-next}
use Rattle.ct_engine.proofs.settle.common.Goals as goal

abbrev default : Lit
default = record { term = record { 0 = 0 }; positive = false }

pub literals-init : goal.literals-init
literals-init c = HaveInCommon-none 0 c.args.told.now c.args.trail.now refl

pub literals-preserved : goal.literals-preserved
literals-preserved c =
    let told = c.args.told.now in
    let l = get_or told c.literals.count default in
    let stands = c.stands_at.ensures.value c.if-not-stands_at.false in
    HaveInCommon-next c.literals.count told c.args.trail.now l (slice_get-get_or told c.literals.count default c.literals-test.true) stands c.literals.invariant
