use Rattle.std.proofs.Common.{◌≡◌, ◌∷◌, [], Some, get_or, map, take, slice_get, inl, inr, arith}
use Rattle.std.proofs.lemmas.List.{length-map}
use Rattle.std.proofs.lemmas.Option.{slice_get-get_or}
use Rattle.ct_sorts.specs.declared.ids.SelId.{SelId}
use Rattle.ct_values.specs.declared.node.NodeId.{NodeId}
use Rattle.ct_names.specs.Symbols.{field_sort_id}
use Rattle.ct_readback.specs.Descent.{HasSort, IsOther, pairs_of}
use Rattle.ct_readback.proofs.DescentLemmas.{pair_of, extends_self, extends_trans, pair_inside, pairs_at, other_kept, wanted_at, sort_is, have_kept, have_more, have_all, on_true, on_false}
use Rattle.ct_readback.proofs.descent.meet_children.Goals as goal

abbrev zeroth : NodeId
zeroth = record { 0 = 0 }

abbrev no_field : SelId
no_field = record { 0 = 0 }

pub returns-then-fields-children-clause-extends : goal.returns-then-fields-children-clause-extends
returns-then-fields-children-clause-extends c = extends_self c.args.descent.now (pairs_of c.args.children.now (map (field_sort_id c.args.sig.now) c.args.fields.now))

pub returns-then-fields-children-clause-others : goal.returns-then-fields-children-clause-others
returns-then-fields-children-clause-others c =
    inl (λ same. let long = length-map c.args.fields.now (field_sort_id c.args.sig.now) in omega (arith, c.if-fields-children.true, same, long))

pub loop-k-init : goal.loop-k-init
loop-k-init c = (extends_self c.args.descent.now (pairs_of c.args.children.now (map (field_sort_id c.args.sig.now) c.args.fields.now)), tt)

pub returns-in_err-meet-clause-extends : goal.returns-in_err-meet-clause-extends
returns-in_err-meet-clause-extends c =
    let d = c.args.sig.now in
    let fields = c.args.fields.now in
    let children = c.args.children.now in
    let wanted = map (field_sort_id d) fields in
    let k = c.loop-k.k in
    let child = get_or children k zeroth in
    let field = get_or fields k no_field in
    let sort = c.sel_sort.result in
    let at : slice_get children k ≡ Some child = slice_get-get_or children k zeroth c.loop-k-test.true in
    let at_field : slice_get fields k ≡ Some field = slice_get-get_or fields k no_field (omega (arith, c.loop-k-test.true, c.if-fields-children.false)) in
    let at_sort : slice_get wanted k ≡ Some sort = wanted_at d fields k field sort at_field (sort_is d field sort c.sel_sort.ensures.value) in
    extends_trans c.args.descent.now c.loop-k.descent c.meet.new.descent (pairs_of children wanted) (pair_of child.0 sort ∷ []) (pairs_of children wanted) (λ p h. h) (pair_inside children wanted k child sort at at_sort)
    c.loop-k.invariant.0 c.in_err-meet.ensures.extends

pub returns-then-not-branch-clause-extends : goal.returns-then-not-branch-clause-extends
returns-then-not-branch-clause-extends c =
    let d = c.args.sig.now in
    let fields = c.args.fields.now in
    let children = c.args.children.now in
    let wanted = map (field_sort_id d) fields in
    let k = c.loop-k.k in
    let child = get_or children k zeroth in
    let field = get_or fields k no_field in
    let sort = c.sel_sort.result in
    let at : slice_get children k ≡ Some child = slice_get-get_or children k zeroth c.loop-k-test.true in
    let at_field : slice_get fields k ≡ Some field = slice_get-get_or fields k no_field (omega (arith, c.loop-k-test.true, c.if-fields-children.false)) in
    let at_sort : slice_get wanted k ≡ Some sort = wanted_at d fields k field sort at_field (sort_is d field sort c.sel_sort.ensures.value) in
    extends_trans c.args.descent.now c.loop-k.descent c.meet.new.descent (pairs_of children wanted) (pair_of child.0 sort ∷ []) (pairs_of children wanted) (λ p h. h) (pair_inside children wanted k child sort at at_sort)
    c.loop-k.invariant.0 c.in_ok-meet.ensures.extends

pub loop-k-preserved : goal.loop-k-preserved
loop-k-preserved c =
    let d = c.args.sig.now in
    let fields = c.args.fields.now in
    let children = c.args.children.now in
    let wanted = map (field_sort_id d) fields in
    let k = c.loop-k.k in
    let child = get_or children k zeroth in
    let field = get_or fields k no_field in
    let sort = c.sel_sort.result in
    let at : slice_get children k ≡ Some child = slice_get-get_or children k zeroth c.loop-k-test.true in
    let at_field : slice_get fields k ≡ Some field = slice_get-get_or fields k no_field (omega (arith, c.loop-k-test.true, c.if-fields-children.false)) in
    let at_sort : slice_get wanted k ≡ Some sort = wanted_at d fields k field sort at_field (sort_is d field sort c.sel_sort.ensures.value) in
    let old = c.loop-k.descent.sorts.items in
    let next = c.meet.new.descent in
    let done = c.in_ok-meet.ensures in (
      extends_trans c.args.descent.now c.loop-k.descent next (pairs_of children wanted) (pair_of child.0 sort ∷ []) (pairs_of children wanted) (λ p h. h) (pair_inside children wanted k child sort at at_sort)
          c.loop-k.invariant.0 done.extends,
      have_more next.sorts.items children wanted k child sort at at_sort (on_true c.in_ok-meet.field-0 (HasSort next.sorts.items child.0 sort) c.if-not-branch.false done.met)
          (have_kept old next.sorts.items (take k children) (take k wanted) done.extends.keeps c.loop-k.invariant.1),
    )

pub returns-then-not-branch-clause-others : goal.returns-then-not-branch-clause-others
returns-then-not-branch-clause-others c =
    let d = c.args.sig.now in
    let fields = c.args.fields.now in
    let children = c.args.children.now in
    let wanted = map (field_sort_id d) fields in
    let k = c.loop-k.k in
    let child = get_or children k zeroth in
    let field = get_or fields k no_field in
    let sort = c.sel_sort.result in
    let at : slice_get children k ≡ Some child = slice_get-get_or children k zeroth c.loop-k-test.true in
    let at_field : slice_get fields k ≡ Some field = slice_get-get_or fields k no_field (omega (arith, c.loop-k-test.true, c.if-fields-children.false)) in
    let at_sort : slice_get wanted k ≡ Some sort = wanted_at d fields k field sort at_field (sort_is d field sort c.sel_sort.ensures.value) in
    let old = c.loop-k.descent.sorts.items in
    let done = c.in_ok-meet.ensures in
    let next = c.meet.new.descent.sorts.items in
    inr (pair_of child.0 sort, pairs_at children wanted k child sort at at_sort, other_kept old next (pair_of child.0 sort) done.extends.keeps (on_false c.in_ok-meet.field-0 (IsOther old (pair_of child.0 sort)) c.if-not-branch.true done.other))

pub returns-clause-extends : goal.returns-clause-extends
returns-clause-extends c = c.loop-k.invariant.0

pub returns-clause-met : goal.returns-clause-met
returns-clause-met c =
    let wanted = map (field_sort_id c.args.sig.now) c.args.fields.now in
    let long = length-map c.args.fields.now (field_sort_id c.args.sig.now) in
    have_all c.loop-k.descent.sorts.items c.args.children.now wanted c.loop-k.k (omega (arith, c.loop-k-test.false)) (omega (arith, c.loop-k-test.false, c.if-fields-children.false, long)) c.loop-k.invariant.1
