use Rattle.std.proofs.Common.{◌≡◌, ◌≤◌, ◌∷◌, [], Some, get_or, map, length, slice_get, inr, arith}
use Rattle.std.proofs.lemmas.Option.{slice_get-get_or}
use Rattle.ct_sorts.specs.declared.ids.SelId.{SelId}
use Rattle.ct_values.specs.declared.node.NodeId.{NodeId}
use Rattle.ct_names.specs.Symbols.{field_sort_id}
use Rattle.ct_readback.specs.Descent.{pairs_of}
use Rattle.ct_readback.proofs.DescentLemmas.{pair_of, pair_inside, wanted_at, sort_is, on_true, on_false}
use Rattle.ct_readback.proofs.KnownLemmas.{IsAskedPair, adds_trans, asked_more}
use Rattle.ct_readback.proofs.descent.add_children.Goals as goal

abbrev zeroth : NodeId
zeroth = record { 0 = 0 }

abbrev no_field : SelId
no_field = record { 0 = 0 }

pub returns-then-not-branch-clause-adds : goal.returns-then-not-branch-clause-adds
returns-then-not-branch-clause-adds c =
    let d = c.args.sig.now in
    let fields = c.args.fields.now in
    let children = c.args.children.now in
    let wanted = map (field_sort_id d) fields in
    let known = c.args.known.now in
    let k = c.loop-k.k in
    let child = get_or children k zeroth in
    let field = get_or fields k no_field in
    let sort = c.sel_sort.result in
    let at : slice_get children k ≡ Some child = slice_get-get_or children k zeroth c.loop-k-test.true in
    let at_field : slice_get fields k ≡ Some field = slice_get-get_or fields k no_field (omega (arith, c.loop-k-test.true, c.if-fields-children.false)) in
    let at_sort : slice_get wanted k ≡ Some sort = wanted_at d fields k field sort at_field (sort_is d field sort c.sel_sort.ensures.value) in
    let done = c.in_ok-add.ensures in
    let adds = adds_trans c.args.pairs.now.keys c.loop-k.pairs.keys c.add.new.pairs.keys (pairs_of children wanted) (pair_of child.0 sort ∷ []) (pairs_of children wanted) (λ p h. h)
    (pair_inside children wanted k child sort at at_sort) c.loop-k.invariant.0 done.adds in
    adds

pub returns-then-not-branch-clause-missing : goal.returns-then-not-branch-clause-missing
returns-then-not-branch-clause-missing c =
    let d = c.args.sig.now in
    let fields = c.args.fields.now in
    let children = c.args.children.now in
    let wanted = map (field_sort_id d) fields in
    let known = c.args.known.now in
    let k = c.loop-k.k in
    let child = get_or children k zeroth in
    let field = get_or fields k no_field in
    let sort = c.sel_sort.result in
    let at : slice_get children k ≡ Some child = slice_get-get_or children k zeroth c.loop-k-test.true in
    let at_field : slice_get fields k ≡ Some field = slice_get-get_or fields k no_field (omega (arith, c.loop-k-test.true, c.if-fields-children.false)) in
    let at_sort : slice_get wanted k ≡ Some sort = wanted_at d fields k field sort at_field (sort_is d field sort c.sel_sort.ensures.value) in
    let done = c.in_ok-add.ensures in
    let adds = adds_trans c.args.pairs.now.keys c.loop-k.pairs.keys c.add.new.pairs.keys (pairs_of children wanted) (pair_of child.0 sort ∷ []) (pairs_of children wanted) (λ p h. h)
    (pair_inside children wanted k child sort at at_sort) c.loop-k.invariant.0 done.adds in
    inr (k, child, at, on_false c.in_ok-add.field-0 (length known ≤ child.0) c.if-not-branch.true done.missing)

pub loop-k-preserved : goal.loop-k-preserved
loop-k-preserved c =
    let d = c.args.sig.now in
    let fields = c.args.fields.now in
    let children = c.args.children.now in
    let wanted = map (field_sort_id d) fields in
    let known = c.args.known.now in
    let k = c.loop-k.k in
    let child = get_or children k zeroth in
    let field = get_or fields k no_field in
    let sort = c.sel_sort.result in
    let at : slice_get children k ≡ Some child = slice_get-get_or children k zeroth c.loop-k-test.true in
    let at_field : slice_get fields k ≡ Some field = slice_get-get_or fields k no_field (omega (arith, c.loop-k-test.true, c.if-fields-children.false)) in
    let at_sort : slice_get wanted k ≡ Some sort = wanted_at d fields k field sort at_field (sort_is d field sort c.sel_sort.ensures.value) in
    let done = c.in_ok-add.ensures in
    let adds = adds_trans c.args.pairs.now.keys c.loop-k.pairs.keys c.add.new.pairs.keys (pairs_of children wanted) (pair_of child.0 sort ∷ []) (pairs_of children wanted) (λ p h. h)
    (pair_inside children wanted k child sort at at_sort) c.loop-k.invariant.0 done.adds in (
      adds,
      asked_more known c.loop-k.pairs.keys c.add.new.pairs.keys children wanted k child sort at at_sort done.adds.begins
          (on_true c.in_ok-add.field-0 (IsAskedPair known c.add.new.pairs.keys child sort) c.if-not-branch.false done.asked) c.loop-k.invariant.1,
    )
