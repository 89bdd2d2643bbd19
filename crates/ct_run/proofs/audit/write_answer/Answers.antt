use Rattle.std.proofs.Common.{◌≡◌, ℕ, List, OnOk, IfErr, subst}
use Rattle.ct_script.specs.Answers.{lines_of}
use Rattle.ct_run.specs.Output.{wrote, IsLeft}
use Rattle.ct_run.proofs.audit.write_answer.Goals as goal

pub returns-in-Ok-clause-ok : goal.returns-in-Ok-clause-ok
returns-in-Ok-clause-ok g c =
    subst (λ (text : List ℕ). OnOk c.write_line.result (g.K.Sink.written c.write_line.new.out ≡ wrote (lines_of text) (g.K.Sink.written c.args.out.now)))
    c.in-Ok.ensures.text c.write_line.ensures.ok

pub returns-in-Ok-clause-broke : goal.returns-in-Ok-clause-broke
returns-in-Ok-clause-broke g c =
    subst (λ (text : List ℕ). IfErr c.write_line.result (λ e. IsLeft e (lines_of text) (g.K.Sink.written c.args.out.now) (g.K.Sink.written c.write_line.new.out)))
    c.in-Ok.ensures.text c.write_line.ensures.broke
