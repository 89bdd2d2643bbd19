use Rattle.std.proofs.Common.{List, length, take, sym, ap, subst, ◌∙◌, arith}
use Rattle.ct_terms.specs.Terms.{Terms}
use Rattle.ct_congr.specs.declared.merge.Merge.{Merge}
use Rattle.ct_lemmas.proofs.Prefixes.{take-whole}
use Rattle.ct_explain.specs.Trees.{IsForestOf}
use Rattle.ct_explain.proofs.theorems.forests.Goals as goal

pub returns : goal.returns
returns c = record {
  all = λ state planted h.
      let count = h.all in
      record {
        within = omega (arith, count);
        forest = subst (λ (l : List Merge). IsForestOf l planted.links) (sym (ap (λ k. take k state.merges) count ∙ take-whole state.merges)) h.over.forest;
        long = h.over.long;
      };
  alike = λ state other planted terms within same first. record {
    within = within;
    forest = subst (λ (l : List Merge). IsForestOf l planted.links) (sym same) first.forest;
    long = first.long ∙ ap (λ (t : Terms). length t) (sym terms);
  };
}
