use Rattle.std.proofs.Common.{◌∙◌, List, sym, ap, true≢false}
use Rattle.std.proofs.lemmas.Option.{none-some}
use Rattle.ct_terms.specs.declared.ids.TermId.{TermId}
use Rattle.ct_restriction.specs.Renamed.{renamed, number_in}
use Rattle.ct_restriction.specs.Renumbered.{Numbers}
use Rattle.ct_restriction.proofs.FoundLemmas.{under_known, find_is}
use Rattle.ct_restriction.proofs.renumbering.found.Goals as goal

pub returns-then-not-knows_under : goal.returns-then-not-knows_under
returns-then-not-knows_under c = record {
  found = λ u. (
    λ none. absurd (none-some u none),
    λ equal. absurd (true≢false (sym (c.knows_under.ensures.known.1
        (under_known c.args.from.now c.args.to.now c.len-terms.ensures.ordered c.len-others.ensures.ordered c.len-others.ensures.single c.args.t c.core-core.result.now c.core-core.ensures.value c.args.so_far.now c.requires.found c.requires.next u equal))
        ∙ c.if-not-knows_under.true)),
  );
}

pub returns : goal.returns
returns c = record {
  found = λ u.
      find_is c.args.from.now c.args.to.now c.len-terms.ensures.ordered c.len-others.ensures.ordered c.len-others.ensures.single c.args.t c.core-core.result.now c.core-core.ensures.value c.args.so_far.now c.requires.found c.requires.next
      (c.knows_under.ensures.known.0 c.if-not-knows_under.false) c.in_ok-core.core
      (c.in_ok-core.ensures.renamed ∙ ap (λ (ns : List TermId). renamed (number_in ns) c.core-core.result.now) (c.deref.ensures.value ∙ ap (λ (n : Numbers). n.numbers) c.so_far.view_is)) c.find-number.result c.find-number.ensures.found c.find-number.ensures.absent u;
}
