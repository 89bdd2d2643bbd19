use Rattle.ct_generics.proofs.FindingLemmas.{AreFindings-joined}
use Rattle.ct_generics.proofs.findings.joined.Goals as goal

pub returns : goal.returns
returns c =
    record {
      found = λ from middle end hs first second left right. AreFindings-joined from middle end hs c.args.left c.args.right (record { large = c.either-large.result; mixed = c.either-mixed.result; unfounded = c.either-unfounded.result }) c.either-large.ensures.value c.either-mixed.ensures.value c.either-unfounded.ensures.value first second left right;
    }
