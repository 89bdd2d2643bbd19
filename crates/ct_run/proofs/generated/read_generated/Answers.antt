use Rattle.std.proofs.Common.{◌∙◌}
use Rattle.ct_run.proofs.GeneratedLemmas.{read_whole}
use Rattle.ct_run.proofs.generated.read_generated.Goals as goal

pub returns : goal.returns
returns c = record {
  fed = read_whole c.args.n c.as_slice.result.now c.in_ok-reader.reader _ c.end.new.self c.requires.few (c.as_slice.ensures.value ∙ c.in-Ok.ensures.text)
      c.end.ensures.over c.in_ok-feed.ensures.ok c.in_ok-reader.ensures.ok;
}
