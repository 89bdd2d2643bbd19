-- An expression, and what comes after it.
use Rattle.std.proofs.Common.{◌≡◌, List, ◌∷◌, Option, Result, Ok, Err, refl}
use Rattle.std.specs.Prelude.{option_map, IfOk}
use Rattle.ct_sexpr.specs.Text.{Located, Ending, Reads}
use Rattle.ct_sexpr.specs.Unread.{Unread}
use Rattle.ct_sexpr.specs.Answer.{IsFirstCommand}
use Rattle.ct_sexpr.specs.View.{expression_of}
use Rattle.ct_sexpr.specs.declared.sexpr.Sexpr.{Sexpr}
use Rattle.ct_replay.specs.declared.error.ReplayError.{ReplayError}
use Rattle.ct_replay.specs.One.{one_expression}
use Rattle.ct_replay.proofs.ReplayLemmas.{first_read}

-- an expression is followed by what is left
pub with_first : (u v : Unread) (first : Located) → IsFirstCommand u v first → (r : Result (Option Sexpr) ReplayError) → IfOk r (λ alone. (f : Located) → f.command ≡ first.command → (cs : List Located) × (x : Ending) × Reads v.line v.bytes cs x × (one_expression (f ∷ cs) x ≡ option_map expression_of alone)) → IfOk r (λ expr. (cs : List Located) × (x : Ending) × Reads u.line u.bytes cs x × (one_expression cs x ≡ option_map expression_of expr))
with_first u v first is (Ok alone) h = let r = h first refl in (first ∷ r.0, r.1, first_read u v first is r.0 r.1 r.2, r.3)
with_first u v first is (Err e) h = tt
