use Rattle.ct_audit.proofs.TheoremLemmas.{ReplayTheorems, answers_at}
use Rattle.ct_audit.proofs.theorems.found_checks.Goals as goal

pub returns : goal.returns
returns c =
    let t : ReplayTheorems = record {
      counts = c.replayed_scripts.ensures.counted;
      tells = c.replayed_scripts.ensures.told;
      leads_alike = c.replayed_scripts.ensures.replay;
      leads_counted = c.replayed_scripts.ensures.count;
      goes_through = c.replayed_scripts.ensures.through;
    } in
    record { found = answers_at t }
