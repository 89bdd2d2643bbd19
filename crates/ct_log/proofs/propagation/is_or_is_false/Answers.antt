use Rattle.std.proofs.Common.{◌≡◌, inl, inr}
use Rattle.ct_terms.specs.Literal.{opposite}
use Rattle.ct_log.proofs.EqualLemmas.{Decides-lit}
use Rattle.ct_log.proofs.LookLemmas.{not_told}
use Rattle.ct_log.proofs.propagation.is_or_is_false.Goals as goal

pub returns : goal.returns
returns c =
    let told = rw c.signed.ensures.value at c.has.ensures.marked in
    record {
      either = λ set marked. (
        λ yes. inr ((marked (opposite c.args.k)).0 (told.0 yes)),
        λ h. elim h [
          | inl same ↦ absurd (not_told c.eq.result (c.args.k ≡ c.args.l) (rw c.eq.ensures (Decides-lit c.args.k c.args.l)) c.if-eq.false same)
          | inr f ↦ told.1 ((marked (opposite c.args.k)).1 f)
        ],
      );
    }
