use Rattle.std.proofs.Common.{◌≡◌, Bool, true, false, MatchBool, sym, subst, ◌∙◌}
use Rattle.std.proofs.lemmas.Option.{none-some}
use Rattle.ct_rules.specs.Rules.{truth_term}
use Rattle.ct_congr.specs.Covered.{HasCon}
use Rattle.ct_congr.proofs.AtTermLemmas.{HasCon-same}
use Rattle.ct_congr.proofs.waiting.is_true.Goals as goal

-- whether the stored term is `true`, by a test of both
tested : (b : Bool) (P Q : Type 0) → (P → Q) → (Q → P) → MatchBool b P (P → ⊥) → MatchBool b Q (Q → ⊥)
tested true P Q to from h = to h
tested false P Q to from h = λ q. h (from q)

pub returns-in_default : goal.returns-in_default
returns-in_default c = record { value = λ has. absurd (none-some (truth_term true) (sym c.in_default.is ∙ (c.con_at.ensures.value (truth_term true)).1 has)) }

pub returns : goal.returns
returns c =
    let reps = c.args.reps.now in
    let cons = c.args.cons.now in
    let t = c.args.t in
    let has = (c.con_at.ensures.value c.in-Some.con).0 c.in-Some.is in
    record {
      value = tested c.is_term.result (c.in-Some.con ≡ truth_term true) (HasCon reps cons t (truth_term true))
          (λ e. subst (HasCon reps cons t) e has)
          (λ h. HasCon-same reps cons t c.in-Some.con (truth_term true) has h)
          c.is_term.ensures.value;
    }
