use Rattle.std.proofs.Common.{◌≡◌, All, refl, subst}
use Rattle.std.proofs.lemmas.List.{take_all}
use Rattle.std.proofs.lemmas.List.Elements.{All-contains}
use Rattle.ct_log.proofs.places.is_among.Goals as goal

pub returns : goal.returns
returns c = record {
  among = (
    λ e. cc,
    λ h. absurd (All-contains (λ x. x ≡ c.args.t → ⊥) c.args.terms.now c.args.t (subst (All (λ x. x ≡ c.args.t → ⊥)) (take_all c.loop-u.u-index c.args.terms.now c.loop-u-test.false) c.loop-u.invariant) h refl),
  );
}
