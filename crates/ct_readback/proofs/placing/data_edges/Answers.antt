use Rattle.std.proofs.Common.{◌≡◌, ◌+◌, ◌++◌, ◌∷◌, [], List, ℕ, length, vec_len, sym, ap, subst, ◌∙◌, arith}
use Rattle.ct_readback.specs.EdgeRows.{AreRows}
use Rattle.ct_readback.specs.Placed.{IsDataRow}
use Rattle.ct_readback.proofs.RowLemmas.{AreRows-more, ArePoints-of}
use Rattle.ct_readback.proofs.EdgeLemmas.{row_within, edges_of}
use Rattle.ct_readback.proofs.placing.data_edges.Goals as goal

pub loop-n-preserved : goal.loop-n-preserved
loop-n-preserved c =
    let d = c.args.sig.now in
    let h = c.args.h.now in
    let new = c.in_ok-add_row.ensures.added in
    let more = AreRows-more (length h) (IsDataRow d h) c.loop-n.n c.loop-n.starts.items c.loop-n.kids.items new.0 c.loop-n.invariant new.1 (row_within d h c.loop-n.n new.0 new.1) in
    let kids : c.add_row.new.kids.items ≡ c.loop-n.kids.items ++ new.0 = new.2 in
    let count : vec_len c.add_row.new.kids ≡ length c.add_row.new.kids.items = omega (arith, c.add_row.new.kids.ok.0) in
    let starts : c.push-in-loop-n.new.self.items ≡ c.loop-n.starts.items ++ length (c.loop-n.kids.items ++ new.0) ∷ [] =
    c.in_ok-push-2.ensures.items ∙ ap (λ n. c.loop-n.starts.items ++ n ∷ []) (c.len.ensures ∙ count ∙ ap length kids) in
    subst (λ (list : List ℕ). AreRows (length h) (IsDataRow d h) (c.loop-n.n + 1) list c.add_row.new.kids.items) (sym starts)
    (subst (λ (list : List ℕ). AreRows (length h) (IsDataRow d h) (c.loop-n.n + 1) (c.loop-n.starts.items ++ length (c.loop-n.kids.items ++ new.0) ∷ []) list) (sym kids) more)

pub returns-clause-formed : goal.returns-clause-formed
returns-clause-formed c =
    let d = c.args.sig.now in
    let h = c.args.h.now in
    let e : c.loop-n.n ≡ length h = omega (arith, c.len-n-end.ensures.count, c.loop-n-test.false) in
    ArePoints-of (IsDataRow d h) (length h) c.loop-n.starts.items c.loop-n.kids.items
    (subst (λ n. AreRows (length h) (IsDataRow d h) n c.loop-n.starts.items c.loop-n.kids.items) e c.loop-n.invariant)

pub returns-clause-edges : goal.returns-clause-edges
returns-clause-edges c =
    let d = c.args.sig.now in
    let h = c.args.h.now in
    let e : c.loop-n.n ≡ length h = omega (arith, c.len-n-end.ensures.count, c.loop-n-test.false) in
    edges_of d h c.loop-n.starts.items c.loop-n.kids.items
    (subst (λ n. AreRows (length h) (IsDataRow d h) n c.loop-n.starts.items c.loop-n.kids.items) e c.loop-n.invariant)
