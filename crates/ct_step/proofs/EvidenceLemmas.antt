-- What is kept of answers, and then of later ones.
use Rattle.std.proofs.Common.{◌≡◌, ◌∙◌, List, Option, None, Some, refl, ap}
use Rattle.std.proofs.lemmas.List.{append_assoc, append-nil}
use Rattle.ct_engine.specs.declared.verdict.Verdict.{Verdict}
use Rattle.ct_shrink.specs.declared.shrunk.Shrunk.{Shrunk}
use Rattle.ct_step.specs.declared.response.CheckResponse.{CheckResponse}
use Rattle.ct_step.specs.Evidence.{Evidence, evidence, no_evidence, latest, followed_by}

-- the same responses, the same verdict and the same core
pub both_same : (rs qs : List CheckResponse) (v w : Option Verdict) (s t : Option Shrunk) → rs ≡ qs → v ≡ w → s ≡ t → evidence rs v s ≡ evidence qs w t
both_same rs qs v w s t p q r =
    ap (λ (xs : List CheckResponse). evidence xs v s) p ∙ ap (λ (x : Option Verdict). evidence qs x s) q ∙ ap (λ (x : Option Shrunk). evidence qs w x) r

-- nothing earlier, or nothing later, changes nothing
pub latest_none : {X : Type 0} (later : Option X) → latest None later ≡ later
latest_none None = refl
latest_none (Some x) = refl

latest_assoc : {X : Type 0} (a b c : Option X) → latest (latest a b) c ≡ latest a (latest b c)
latest_assoc a b None = refl
latest_assoc a b (Some x) = refl

pub nothing_earlier : (e : Evidence) → followed_by no_evidence e ≡ e
nothing_earlier e = both_same _ _ _ _ _ _ refl (latest_none e.last) (latest_none e.shrunk)

pub nothing_later : (e : Evidence) → followed_by e no_evidence ≡ e
nothing_later e = both_same _ _ _ _ _ _ (append-nil e.responses) refl refl

pub followed_assoc : (a b c : Evidence) → followed_by (followed_by a b) c ≡ followed_by a (followed_by b c)
followed_assoc a b c = both_same _ _ _ _ _ _ (append_assoc a.responses b.responses c.responses) (latest_assoc a.last b.last c.last) (latest_assoc a.shrunk b.shrunk c.shrunk)
