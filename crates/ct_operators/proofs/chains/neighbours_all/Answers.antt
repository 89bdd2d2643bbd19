use Rattle.std.proofs.Common.{◌≡◌, sym, ◌∙◌, ap}
use Rattle.std.proofs.lemmas.Result.{IfOk-weaker}
use Rattle.ct_lemmas.proofs.Prefixes.{rest-step}
use Rattle.ct_formulas.specs.Pairs.{neighbours}
use Rattle.ct_operators.specs.Pairing.{both}
use Rattle.ct_operators.proofs.chains.neighbours_all.Goals as goal

pub returns-in-len1-up : goal.returns-in-len1-up
returns-in-len1-up c = record {
  pairs = IfOk-weaker c.neighbours_of.result _ (λ found. found.items ≡ neighbours both c.args.args.now)
      (λ found h. h ∙ ap (neighbours both) (sym (rest-step c.args.args.now _ c.in-len1-up.len_at_least))) c.neighbours_of.ensures.pairs;
}
