use Rattle.std.proofs.Common.{ℕ, List, Option, OnOk, IsErrOf, sym, subst}
use Rattle.std.specs.Borrow.{Bor}
use Rattle.ct_sorts.specs.Refusals.{IsFirstCause, IsNone, symbol_taken, too_many}
use Rattle.ct_command.specs.declared.error.CommandError.TheVariants.{Refused}
use Rattle.ct_command.specs.Seen.{bytes_seen}
use Rattle.ct_stack.specs.Refusal.{IsTakenLabel, HasNoRoomForLabel}
use Rattle.ct_stack.proofs.define.define_label.Goals as goal

pub returns-in-Some-clause-accepted : goal.returns-in-Some-clause-accepted
returns-in-Some-clause-accepted c =
    let d = c.args.scope.now.sig in
    subst (λ (o : Option (Bor (List ℕ))). OnOk c.define_truth.result ((n : ℕ) → IsFirstCause symbol_taken (IsTakenLabel d (bytes_seen o)) (IsFirstCause too_many (HasNoRoomForLabel d (bytes_seen o)) IsNone) n → ⊥)) (sym c.in-Some.is) c.define_truth.ensures.accepted

pub returns-in-Some-clause-refused : goal.returns-in-Some-clause-refused
returns-in-Some-clause-refused c =
    let d = c.args.scope.now.sig in
    subst (λ (o : Option (Bor (List ℕ))). (n : ℕ) → IsErrOf c.define_truth.result (Refused n) → IsFirstCause symbol_taken (IsTakenLabel d (bytes_seen o)) (IsFirstCause too_many (HasNoRoomForLabel d (bytes_seen o)) IsNone) n) (sym c.in-Some.is) c.define_truth.ensures.refused
