use Rattle.std.specs.Prelude.{is_some}
use Rattle.std.proofs.Common.{ℕ, List, Option, sym, subst, ◌∙◌}
use Rattle.ct_io.specs.declared.desk.Slot.TheVariants as slot
use Rattle.ct_input.specs.Slot.{IsTaken}
use Rattle.ct_run.proofs.RunLemmas.{both_read}
use Rattle.ct_run.proofs.audit.read_files.Goals as goal

pub returns-clause-fed : goal.returns-clause-fed
returns-clause-fed g c =
    let proof = c.in_ok-proof.ensures.fed in
    let script = c.in_ok-script.ensures.fed in
    (proof.0, script.0, c.both.ensures.files proof.0 script.0 proof.1 script.1)

pub returns-clause-held : goal.returns-clause-held
returns-clause-held g c = λ proof_bytes script_bytes first second.
    c.both.ensures.files proof_bytes script_bytes
    (c.in_ok-proof.ensures.held proof_bytes first)
    (c.in_ok-script.ensures.held script_bytes (c.in_ok-proof.ensures.names c.args.script.now ∙ second))

pub returns-clause-read : goal.returns-clause-read
returns-clause-read g c =
    both_read (is_some c.in_ok-proof.proof) (is_some c.in_ok-script.script) (is_some c.both.result) _ _ _ _ c.both.ensures.some
    (subst (λ (left : Option (List ℕ)). IsTaken (g.D.Desk.held c.args.desk.now c.args.proof.now) (is_some c.in_ok-proof.proof) left) (sym (c.in_ok-script.ensures.other slot.Proof (λ same. cc))) c.in_ok-proof.ensures.taken)
    (subst (λ (held : Option (List ℕ)). IsTaken held (is_some c.in_ok-script.script) (g.D.Desk.left c.read_whole_slot-2.new.desk slot.Script)) (c.in_ok-proof.ensures.names c.args.script.now) c.in_ok-script.ensures.taken)
