use Rattle.std.proofs.Common.{◌↔◌, Bool, IsTrue, Result, Ok, Err, IfOk}
use Rattle.ct_values.specs.Agreement.{Point, node_point, AgreeAlways}
use Rattle.ct_values.proofs.AgreeLemmas.{AgreeAlways-across}
use Rattle.ct_values.proofs.equality.same.Goals as goal

-- an answer about two points is one about two others that agree with them at every depth
across : {E : Type 0} (result : Result Bool E) (p q r s : Point) → AgreeAlways p r → AgreeAlways q s → IfOk result (λ b. IsTrue b ↔ AgreeAlways p q) → IfOk result (λ b. IsTrue b ↔ AgreeAlways r s)
across (Ok b) p q r s first second h =
    let turn = AgreeAlways-across p q r s first second in
    (λ t. turn.0 (h.0 t), λ always. h.1 (turn.1 always))
across (Err e) p q r s first second h = h

pub returns : goal.returns
returns c =
    let part = c.in_ok-part.part in
    let g = c.args.g.now in
    record {
      value = across c.decide.result (node_point part.graph part.first) (node_point part.graph part.second) (node_point g c.args.a) (node_point g c.args.b) c.in_ok-part.ensures.first c.in_ok-part.ensures.second c.decide.ensures.value;
    }
