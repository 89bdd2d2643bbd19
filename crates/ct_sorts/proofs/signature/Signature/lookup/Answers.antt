use Rattle.ct_sorts.proofs.LookupLemmas.{symbol_inside}
use Rattle.ct_sorts.proofs.WordLemmas.{truth_found, word_found}
use Rattle.ct_sorts.proofs.signature.Signature.lookup.Goals as goal

pub returns : goal.returns
returns c =
    record {
      value = c.find_symbol.ensures.value;
      truths = truth_found c.args.self.now c.sorts.ensures.consistent c.args.name.now c.find_symbol.result c.find_symbol.ensures.value;
      words = word_found c.args.self.now c.sorts.ensures.consistent c.args.name.now c.find_symbol.result c.find_symbol.ensures.value;
      inside = symbol_inside c.args.self.now c.args.name.now c.find_symbol.result c.find_symbol.ensures.value;
    }
