use Rattle.std.proofs.Common.{◌≡◌, ◌∙◌, ◌++◌, List, length, map, drop, All, sym, ap, subst}
use Rattle.std.proofs.Math.Seq.{drop-append_seam}
use Rattle.ct_terms.specs.declared.ids.TermId.{TermId}
use Rattle.ct_terms.specs.Terms.{IsBoolean}
use Rattle.ct_closure.specs.ClosedTable.{terms_at}
use Rattle.ct_restriction.specs.Renamed.{number_in}
use Rattle.ct_base.proofs.GrowLemmas.{equal_trees, equal_booleans}
use Rattle.ct_base.proofs.growing.add_roots.Goals as goal

pub returns-clause-trees : goal.returns-clause-trees
returns-clause-trees c =
    let old = c.args.roots.now.items in
    let numbers = c.in_ok-made.made.numbers in
    let asserts = c.args.asserts.now in
    let pushed : c.push_numbers.new.list.items ≡ old ++ map (number_in numbers) asserts = c.in_ok-push_numbers.ensures.pushed in
    ap (λ (l : List TermId). terms_at c.copied.new.table (drop (length old) l)) pushed
    ∙ ap (terms_at c.copied.new.table) (drop-append_seam old (map (number_in numbers) asserts))
    ∙ equal_trees c.args.sig.now c.args.from.now c.copied.new.table numbers asserts c.in_ok-made.ensures.equal

pub returns-clause-booleans : goal.returns-clause-booleans
returns-clause-booleans c =
    let old = c.args.roots.now.items in
    let from = c.args.from.now in
    let to = c.copied.new.table in
    let numbers = c.in_ok-made.made.numbers in
    let asserts = c.args.asserts.now in
    let pushed : c.push_numbers.new.list.items ≡ old ++ map (number_in numbers) asserts = c.in_ok-push_numbers.ensures.pushed in
    subst (λ (l : List TermId). All (IsBoolean to) (drop (length old) l)) (sym pushed)
    (subst (All (IsBoolean to)) (sym (drop-append_seam old (map (number_in numbers) asserts)))
    (equal_booleans c.args.sig.now from to (λ t s of. c.core_trees.ensures.sorted c.args.sig.now from t s c.len-terms.ensures.ordered c.requires.sorted of)
    (λ t s of. c.core_trees.ensures.sorted c.args.sig.now to t s c.len-others.ensures.ordered c.copied.ensures.sorted of) (c.core_trees.ensures.one_sort c.args.sig.now) numbers asserts c.in_ok-made.ensures.equal c.requires.asserts))
