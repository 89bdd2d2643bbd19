use Rattle.std.proofs.Common.{◌≡◌, false, get_or, All, refl, subst}
use Rattle.std.proofs.lemmas.List.{take_all}
use Rattle.std.proofs.lemmas.List.Elements.{All-more, All-contains}
use Rattle.ct_log.proofs.EqualLemmas.{Decides-lit}
use Rattle.ct_log.proofs.LookLemmas.{not_told}
use Rattle.ct_log.proofs.marks.is_among.Goals as goal

pub loop-k-preserved : goal.loop-k-preserved
loop-k-preserved c =
    let k = get_or c.args.literals.now c.loop-k.k-index (record { term = record { 0 = 0 }; positive = false }) in
    All-more (λ x. x ≡ c.args.l → ⊥) c.args.literals.now c.loop-k.k-index (record { term = record { 0 = 0 }; positive = false }) c.loop-k-test.true c.loop-k.invariant
    (not_told c.eq.result (k ≡ c.args.l) (rw c.eq.ensures (Decides-lit k c.args.l)) c.if-eq.false)

pub returns : goal.returns
returns c = record {
  among = (
    λ e. cc,
    λ h. absurd (All-contains (λ x. x ≡ c.args.l → ⊥) c.args.literals.now c.args.l (subst (All (λ x. x ≡ c.args.l → ⊥)) (take_all c.loop-k.k-index c.args.literals.now c.loop-k-test.false) c.loop-k.invariant) h refl),
  );
}
