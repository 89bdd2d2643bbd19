use Rattle.std.proofs.Common.{◌≡◌, ◌+◌, ◌++◌, ◌∷◌, [], List, ℕ, length, vec_len, sym, ap, subst, ◌∙◌, arith}
use Rattle.ct_acyclic.specs.Edges.{AreRows, IsRow}
use Rattle.ct_acyclic.proofs.RowLemmas.{AreRows-more, ArePoints-of}
use Rattle.ct_acyclic.proofs.ClassLemmas.{IsRow-within}
use Rattle.ct_acyclic.proofs.edges.edges.Goals as goal

pub loop-t-preserved : goal.loop-t-preserved
loop-t-preserved c =
    let state = c.args.classes.now in
    let bound = length state.terms in
    let new = c.in_ok-add_row.ensures.row in
    let more = AreRows-more bound (IsRow state) c.loop-t.t c.loop-t.starts.items c.loop-t.kids.items new.row c.loop-t.invariant new.is (IsRow-within state c.loop-t.t new.row c.merges.ensures.long new.is) in
    let kids : c.add_row.new.kids.items ≡ c.loop-t.kids.items ++ new.row = new.added in
    let count : vec_len c.add_row.new.kids ≡ length c.add_row.new.kids.items = omega (arith, c.add_row.new.kids.ok.0) in
    let starts : c.push-in-loop-t.new.self.items ≡ c.loop-t.starts.items ++ length (c.loop-t.kids.items ++ new.row) ∷ [] =
    c.in_ok-push-2.ensures.items ∙ ap (λ n. c.loop-t.starts.items ++ n ∷ []) (c.len.ensures ∙ count ∙ ap length kids) in
    subst (λ (list : List ℕ). AreRows bound (IsRow state) (c.loop-t.t + 1) list c.add_row.new.kids.items) (sym starts)
    (subst (λ (list : List ℕ). AreRows bound (IsRow state) (c.loop-t.t + 1) (c.loop-t.starts.items ++ length (c.loop-t.kids.items ++ new.row) ∷ []) list) (sym kids) more)

pub returns-clause-formed : goal.returns-clause-formed
returns-clause-formed c =
    let state = c.args.classes.now in
    let e : c.loop-t.t ≡ length state.terms = omega (arith, c.len-t-end.ensures.count, ap length c.table-table.ensures.value, c.loop-t-test.false) in
    ArePoints-of (IsRow state) (length state.terms) c.loop-t.starts.items c.loop-t.kids.items
    (subst (λ n. AreRows (length state.terms) (IsRow state) n c.loop-t.starts.items c.loop-t.kids.items) e c.loop-t.invariant)
