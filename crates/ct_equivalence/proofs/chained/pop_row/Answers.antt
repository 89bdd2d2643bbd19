use Rattle.std.proofs.Common.{◌≡◌, ◌%◌, ◌∙◌, ℕ, List, length, set, sym, subst, mod-lt}
use Rattle.ct_equivalence.specs.declared.chained.Row.{Row}
use Rattle.ct_equivalence.specs.Chains.{AreChained}
use Rattle.ct_equivalence.proofs.ChainLemmas.{AreChained-pop}
use Rattle.ct_equivalence.proofs.chained.pop_row.Goals as goal

pub returns-clause-chained : goal.returns-clause-chained
returns-clause-chained c =
    let tops = c.args.tops.now.items in
    let row = c.in-Some.row in
    let rest = c.pop.new.self.items in
    let are = subst (λ (rs : List Row). AreChained rs tops) c.in-Some.ensures.items c.requires.chained in
    let long : c.len.result ≡ length tops = c.len.ensures ∙ c.args.tops.now.ok.0 in
    subst (λ (n : ℕ). AreChained rest (set tops (row.digest % n) row.before)) (sym long) (AreChained-pop rest tops row are (mod-lt row.digest c.requires.chained.some))
