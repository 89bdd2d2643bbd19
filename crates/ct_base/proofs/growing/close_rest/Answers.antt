use Rattle.std.proofs.Common.{rules, IsErrOf, ◌≡◌, ◌∙◌, ◌↔◌, ◌++◌, List, length, vec_len, drop, All, sym, ap, subst, arith}
use Rattle.ct_sorts.proofs.PieceLemmas.{Begins-trans}
use Rattle.ct_terms.specs.Terms.{IsBoolean}
use Rattle.ct_terms.specs.CoreTree.{CoreTree}
use Rattle.ct_closure.specs.Closed.{InClosure, HasVariables, HasMoreThan, most_closure_terms}
use Rattle.ct_closure.specs.ClosedTable.{HasTree, terms_at}
use Rattle.ct_closure.specs.declared.error.CloseError.TheVariants.{TooLarge}
use Rattle.ct_closure.specs.Further.{AreFurtherSubtermsOf, IsClosureOver}
use Rattle.ct_base.proofs.RootLemmas.{booleans_longer, tree_longer, trees_longer}
use Rattle.ct_base.proofs.GrowLemmas.{further}
use Rattle.ct_base.proofs.growing.close_rest.Goals as goal

pub close_further-requires-clause-asserts : goal.close_further-requires-clause-asserts
close_further-requires-clause-asserts c =
    let count : vec_len c.args.roots.now ≡ length c.args.roots.now.items = omega (arith, c.args.roots.now.ok.0) in
    let ids : c.after-further.result.now ≡ drop (length c.args.roots.now.items) c.add_roots.new.roots.items =
    c.after-further.ensures.value ∙ ap (drop c.len-before.result) c.as_slice.ensures.value ∙ ap (λ k. drop k c.add_roots.new.roots.items) (c.len-before.ensures ∙ count) in
    subst (All (IsBoolean c.add_roots.new.table)) (sym ids) c.in_ok-add_roots.ensures.booleans

pub close_further-requires-clause-exact : goal.close_further-requires-clause-exact
close_further-requires-clause-exact c =
    let old = c.args.table.now in
    let new = c.add_roots.new.table in
    let count : vec_len c.args.roots.now ≡ length c.args.roots.now.items = omega (arith, c.args.roots.now.ok.0) in
    let ids : c.after-further.result.now ≡ drop (length c.args.roots.now.items) c.add_roots.new.roots.items =
    c.after-further.ensures.value ∙ ap (drop c.len-before.result) c.as_slice.ensures.value ∙ ap (λ k. drop k c.add_roots.new.roots.items) (c.len-before.ensures ∙ count) in
    subst (AreFurtherSubtermsOf new c.args.closed) (sym ids)
    (further old new c.args.from.now c.args.closed (drop (length c.args.roots.now.items) c.add_roots.new.roots.items) c.args.asserts.now
    (tree_longer c.core_trees.ensures.longer old new c.add_roots.ensures.grown c.len-terms.ensures.ordered) c.requires.rest c.in_ok-add_roots.ensures.only c.in_ok-add_roots.ensures.trees)

pub close_further-requires-clause-before : goal.close_further-requires-clause-before
close_further-requires-clause-before c =
    let (earlier, trees, before) = c.requires.before in
    (earlier, trees, c.closed_beginnings.ensures.longer c.args.sig.now earlier trees c.args.table.now c.add_roots.new.table c.args.closed c.args.split.now.items c.add_roots.ensures.grown before)

pub returns-in_err-closure-clause-grown : goal.returns-in_err-closure-clause-grown
returns-in_err-closure-clause-grown c = Begins-trans c.args.table.now c.add_roots.new.table c.close_further.new.table c.add_roots.ensures.grown c.close_further.ensures.grown

pub returns-in_err-closure-clause-too_large : goal.returns-in_err-closure-clause-too_large
returns-in_err-closure-clause-too_large c =
    let large : IsErrOf c.from_residual-in_err-closure.result TooLarge → IsErrOf c.close_further.result TooLarge = search rules in
    λ h earlier trees before.
    let count : vec_len c.args.roots.now ≡ length c.args.roots.now.items = omega (arith, c.args.roots.now.ok.0) in
    let ids : c.after-further.result.now ≡ drop (length c.args.roots.now.items) c.add_roots.new.roots.items =
    c.after-further.ensures.value ∙ ap (drop c.len-before.result) c.as_slice.ensures.value ∙ ap (λ k. drop k c.add_roots.new.roots.items) (c.len-before.ensures ∙ count) in
    let same : terms_at c.add_roots.new.table c.after-further.result.now ≡ terms_at c.args.from.now c.args.asserts.now = ap (terms_at c.add_roots.new.table) ids ∙ c.in_ok-add_roots.ensures.trees in
    subst (λ (l : List CoreTree). HasMoreThan c.args.sig.now (trees ++ l) most_closure_terms) same
    (c.close_further.ensures.too_large (large h) earlier trees
    (c.closed_beginnings.ensures.longer c.args.sig.now earlier trees c.args.table.now c.add_roots.new.table c.args.closed c.args.split.now.items c.add_roots.ensures.grown before))

pub returns-clause-grown : goal.returns-clause-grown
returns-clause-grown c = Begins-trans c.args.table.now c.add_roots.new.table c.close_further.new.table c.add_roots.ensures.grown c.close_further.ensures.grown

pub returns-clause-trees : goal.returns-clause-trees
returns-clause-trees c =
    trees_longer c.core_trees.ensures.longer c.add_roots.new.table c.close_further.new.table (drop (length c.args.roots.now.items) c.add_roots.new.roots.items) c.close_further.ensures.grown c.len-closed.ensures.ordered c.in_ok-add_roots.ensures.booleans
    ∙ c.in_ok-add_roots.ensures.trees

pub returns-clause-booleans : goal.returns-clause-booleans
returns-clause-booleans c =
    booleans_longer c.add_roots.new.table c.close_further.new.table (drop (length c.args.roots.now.items) c.add_roots.new.roots.items) c.close_further.ensures.grown c.in_ok-add_roots.ensures.booleans

pub returns-clause-over : goal.returns-clause-over
returns-clause-over c = λ earlier trees before.
    let count : vec_len c.args.roots.now ≡ length c.args.roots.now.items = omega (arith, c.args.roots.now.ok.0) in
    let ids : c.after-further.result.now ≡ drop (length c.args.roots.now.items) c.add_roots.new.roots.items =
    c.after-further.ensures.value ∙ ap (drop c.len-before.result) c.as_slice.ensures.value ∙ ap (λ k. drop k c.add_roots.new.roots.items) (c.len-before.ensures ∙ count) in
    let same : terms_at c.add_roots.new.table c.after-further.result.now ≡ terms_at c.args.from.now c.args.asserts.now = ap (terms_at c.add_roots.new.table) ids ∙ c.in_ok-add_roots.ensures.trees in
    subst (λ (l : List CoreTree). IsClosureOver c.args.sig.now (trees ++ l) c.close_further.new.table c.close_further.new.split.items) same
    (c.in_ok-closure.ensures.over earlier trees
    (c.closed_beginnings.ensures.longer c.args.sig.now earlier trees c.args.table.now c.add_roots.new.table c.args.closed c.args.split.now.items c.add_roots.ensures.grown before))

pub returns-clause-exact : goal.returns-clause-exact
returns-clause-exact c = λ earlier trees before.
    let count : vec_len c.args.roots.now ≡ length c.args.roots.now.items = omega (arith, c.args.roots.now.ok.0) in
    let ids : c.after-further.result.now ≡ drop (length c.args.roots.now.items) c.add_roots.new.roots.items =
    c.after-further.ensures.value ∙ ap (drop c.len-before.result) c.as_slice.ensures.value ∙ ap (λ k. drop k c.add_roots.new.roots.items) (c.len-before.ensures ∙ count) in
    let same : terms_at c.add_roots.new.table c.after-further.result.now ≡ terms_at c.args.from.now c.args.asserts.now = ap (terms_at c.add_roots.new.table) ids ∙ c.in_ok-add_roots.ensures.trees in
    subst (λ (l : List CoreTree). (t : CoreTree) → HasTree c.close_further.new.table t ↔ InClosure c.args.sig.now (trees ++ l) t) same
    (c.in_ok-closure.ensures.closure earlier trees
    (c.closed_beginnings.ensures.longer c.args.sig.now earlier trees c.args.table.now c.add_roots.new.table c.args.closed c.args.split.now.items c.add_roots.ensures.grown before))

pub returns-clause-variables : goal.returns-clause-variables
returns-clause-variables c = λ earlier trees before.
    let count : vec_len c.args.roots.now ≡ length c.args.roots.now.items = omega (arith, c.args.roots.now.ok.0) in
    let ids : c.after-further.result.now ≡ drop (length c.args.roots.now.items) c.add_roots.new.roots.items =
    c.after-further.ensures.value ∙ ap (drop c.len-before.result) c.as_slice.ensures.value ∙ ap (λ k. drop k c.add_roots.new.roots.items) (c.len-before.ensures ∙ count) in
    let same : terms_at c.add_roots.new.table c.after-further.result.now ≡ terms_at c.args.from.now c.args.asserts.now = ap (terms_at c.add_roots.new.table) ids ∙ c.in_ok-add_roots.ensures.trees in
    subst (λ (l : List CoreTree). HasVariables c.args.sig.now (trees ++ l) c.in_ok-closure.closure.variables) same
    (c.in_ok-closure.ensures.propositional earlier trees
    (c.closed_beginnings.ensures.longer c.args.sig.now earlier trees c.args.table.now c.add_roots.new.table c.args.closed c.args.split.now.items c.add_roots.ensures.grown before))
