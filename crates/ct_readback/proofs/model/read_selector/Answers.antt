use Rattle.std.proofs.Common.{◌∷◌, [], slice_get, true}
use Rattle.ct_sexpr.specs.View.{expressions_of}
use Rattle.ct_readback.specs.ModelReads.{items_of}
use Rattle.ct_readback.proofs.AnswerLemmas.{ok_map}
use Rattle.ct_readback.proofs.DueLemmas.{due_by, off_due, off_read, off_refusal}
use Rattle.ct_readback.proofs.model.read_selector.Goals as goal

pub returns-clause-read : goal.returns-clause-read
returns-clause-read c =
    let d = c.args.sig.now in
    let s = c.args.s.0 in
    let own = due_by true c.sel_name.result.now (c.ctor_sort-of.result ∷ []) c.sel_sort.result in
    let due_is = off_due d s c.sel_name.result.now c.sel_ctor.result c.ctor_sort-of.result c.sel_sort.result c.requires.declared c.sel_name.ensures.value c.sel_ctor.ensures.value c.ctor_sort-of.ensures.value c.sel_sort.ensures.value in
    ok_map _ _ c.table_at.result
    (λ table h. λ due at. off_read d c.table_at.new.graph (items_of (expressions_of c.args.items.now)) c.args.place s own due table due_is at h)
    c.table_at.ensures.read

pub returns-clause-refused : goal.returns-clause-refused
returns-clause-refused c = λ at code is.
    let d = c.args.sig.now in
    let s = c.args.s.0 in
    let own = due_by true c.sel_name.result.now (c.ctor_sort-of.result ∷ []) c.sel_sort.result in
    let due_is = off_due d s c.sel_name.result.now c.sel_ctor.result c.ctor_sort-of.result c.sel_sort.result c.requires.declared c.sel_name.ensures.value c.sel_ctor.ensures.value c.ctor_sort-of.ensures.value c.sel_sort.ensures.value in
    let refused = c.table_at.ensures.refused at code is in
    (refused.0, off_refusal d s own (slice_get (items_of (expressions_of c.args.items.now)) c.args.place) code due_is refused.1)
