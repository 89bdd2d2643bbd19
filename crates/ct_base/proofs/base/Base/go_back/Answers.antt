use Rattle.std.proofs.Common.{◌≡◌, ◌≤◌, List, length, take, reverse, sym, subst}
use Rattle.ct_terms.specs.declared.ids.TermId.{TermId}
use Rattle.ct_closure.specs.ClosedTable.{terms_at}
use Rattle.ct_base.specs.declared.stage.Stage.{Stage}
use Rattle.ct_base.specs.Cutting.{top_roots}
use Rattle.ct_base.proofs.StageLemmas.{stages_read, stages_taken, top_booleans, top_closure}
use Rattle.ct_base.proofs.BackLemmas.{open_rest, roots_left}
use Rattle.ct_base.proofs.base.Base.go_back.Goals as goal

pub returns-clause-base : goal.returns-clause-base
returns-clause-base c =
    let d = c.args.sig.now in
    let b = c.args.self.now in
    let back = c.take_back-closed in
    record {
      sized = c.requires.base.sized;
      sorted = back.ensures.sorted d c.requires.base.sorted;
      stages = stages_taken d b.table back.new.table b.roots.items back.new.roots.items b.split.items back.new.split.items c.deref-2.result.now c.keep_within.new.stages.items c.deref-2.ensures.value back.ensures.table back.ensures.roots back.ensures.split
          (c.keep_within.ensures.stages d b.table b.roots.items b.split.items c.requires.base.stages);
    }

pub returns-clause-same : goal.returns-clause-same
returns-clause-same c =
    let b = c.args.self.now in
    let left = stages_read c.args.sig.now b.table b.roots.items b.split.items c.deref-2.result.now c.keep_within.new.stages.items c.deref-2.ensures.value
    (c.keep_within.ensures.stages c.args.sig.now b.table b.roots.items b.split.items c.requires.base.stages) in
    let common = c.in_ok-common.common in
    let low : top_roots (reverse c.deref-2.result.now) ≤ common = subst (λ (l : List Stage). top_roots (reverse l) ≤ common) (sym c.deref-2.ensures.value) c.keep_within.ensures.few in
    let within : common ≤ length b.roots.items = subst (λ (l : List TermId). common ≤ length l) c.deref.ensures.value c.in_ok-common.ensures.within in
    let same : terms_at b.table (take common b.roots.items) ≡ terms_at c.args.table.now (take common c.args.asserts.now) =
    subst (λ (l : List TermId). terms_at b.table (take common l) ≡ terms_at c.args.table.now (take common c.args.asserts.now)) c.deref.ensures.value c.in_ok-common.ensures.common in
    rw (c.take_back-closed.ensures.table, c.take_back-closed.ensures.roots)
    (roots_left c.args.sig.now b.table c.args.table.now b.roots.items c.args.asserts.now b.split.items (reverse c.deref-2.result.now) common c.core_trees.ensures.longer c.len-terms.ensures.ordered left low within same)

pub returns-clause-booleans : goal.returns-clause-booleans
returns-clause-booleans c =
    let b = c.args.self.now in
    let left = stages_read c.args.sig.now b.table b.roots.items b.split.items c.deref-2.result.now c.keep_within.new.stages.items c.deref-2.ensures.value
    (c.keep_within.ensures.stages c.args.sig.now b.table b.roots.items b.split.items c.requires.base.stages) in
    rw (c.take_back-closed.ensures.table, c.take_back-closed.ensures.roots)
    (top_booleans c.args.sig.now b.table b.roots.items b.split.items (reverse c.deref-2.result.now) left)

pub returns-clause-before : goal.returns-clause-before
returns-clause-before c =
    let b = c.args.self.now in
    let left = stages_read c.args.sig.now b.table b.roots.items b.split.items c.deref-2.result.now c.keep_within.new.stages.items c.deref-2.ensures.value
    (c.keep_within.ensures.stages c.args.sig.now b.table b.roots.items b.split.items c.requires.base.stages) in
    rw (c.take_back-closed.ensures.table, c.take_back-closed.ensures.roots, c.take_back-closed.ensures.split, c.take_back-closed.ensures.closed)
    (top_closure c.args.sig.now b.table b.roots.items b.split.items (reverse c.deref-2.result.now) c.nothing_closed.ensures.nothing c.closed_beginnings.ensures.begins c.sorts-sorts.ensures.consistent left)

pub returns-clause-rest : goal.returns-clause-rest
returns-clause-rest c =
    let b = c.args.self.now in
    let left = stages_read c.args.sig.now b.table b.roots.items b.split.items c.deref-2.result.now c.keep_within.new.stages.items c.deref-2.ensures.value
    (c.keep_within.ensures.stages c.args.sig.now b.table b.roots.items b.split.items c.requires.base.stages) in
    rw (c.take_back-closed.ensures.table, c.take_back-closed.ensures.closed)
    (open_rest c.args.sig.now b.table b.roots.items b.split.items (reverse c.deref-2.result.now) c.len-terms.ensures.begins left)
