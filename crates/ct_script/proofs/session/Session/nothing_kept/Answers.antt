use Rattle.std.proofs.Common.{◌≡◌, ◌∙◌, Option, None, sym, ap}
use Rattle.ct_engine.specs.declared.verdict.Verdict.{Verdict}
use Rattle.ct_step.specs.Done.{kept_of}
use Rattle.ct_step.specs.Evidence.{Evidence}
use Rattle.ct_script.specs.Session.{Course}
use Rattle.ct_script.proofs.ReplayLemmas.{nothing_stands}
use Rattle.ct_script.proofs.session.Session.nothing_kept.Goals as goal

pub returns : goal.returns
returns c =
    let s = c.self.inside in
    record {
      kept = λ none.
          sym (ap (λ (t : Course). t.state.kept) c.self.view_is)
          ∙ ap (λ (o : Option Verdict). kept_of o s.state.kept) (ap (λ (t : Course). t.evidence.last) c.self.view_is ∙ ap (λ (kept : Evidence). kept.last) none)
          ∙ nothing_stands s.state.kept;
    }
