-- What a learned clause changes.
use Rattle.std.proofs.Common.{◌≡◌, ℕ, ◌<◌, ◌++◌, List, length, take, drop, sym, ap, ◌∙◌, arith}
use Rattle.std.proofs.lemmas.List.{length-take-le, take-append-drop}
use Rattle.std.proofs.lemmas.Option.{slice_get_within}
use Rattle.ct_sorts.specs.Grown.{Begins}
use Rattle.ct_terms.specs.declared.ids.Lit.{Lit}
use Rattle.ct_terms.specs.Clause.{Clause}
use Rattle.ct_sat.specs.declared.decided.Decided.{Decided}
use Rattle.ct_sat.specs.State.{SearchState}
use Rattle.ct_sat.specs.Learning.{LearnsClause}
use Rattle.ct_engine.specs.Progress.{TakesBack}

-- a learned clause takes back a decision
pub takes_back : (old new : SearchState) (step : ℕ) (lits : Clause) (hints : List ℕ) (keep : ℕ) → LearnsClause old new step lits hints keep → TakesBack old new
takes_back old new step lits hints keep learned =
    let within : keep < length old.decided = slice_get_within old.decided keep learned.next learned.stands in
    let decided : new.decided ≡ take keep old.decided = ap (λ (s : SearchState). s.decided) learned.after in
    let long : length new.decided ≡ keep = ap (λ (ds : List Decided). length ds) decided ∙ length-take-le keep old.decided (omega arith) in
    record {
      counted = ap (λ (s : SearchState). s.count) learned.after;
      fewer = omega arith;
    }

-- and cuts the trail
pub cuts_trail : (old new : SearchState) (step : ℕ) (lits : Clause) (hints : List ℕ) (keep : ℕ) → LearnsClause old new step lits hints keep → Begins new.trail old.trail
cuts_trail old new step lits hints keep learned =
    let n = learned.next.index in
    let is : new.trail ≡ take n old.trail = ap (λ (s : SearchState). s.trail) learned.after in
    (drop n old.trail, sym (take-append-drop n old.trail) ∙ ap (λ (ls : List Lit). ls ++ drop n old.trail) (sym is))
