use Rattle.std.proofs.Common.{◌≡◌, ◌+◌, ◌++◌, ◌∷◌, [], List, ℕ, length, vec_len, sym, ap, subst, ◌∙◌, arith}
use Rattle.ct_unique.specs.Nodes.{AreRows, IsRow}
use Rattle.ct_unique.proofs.RowLemmas.{AreRows-more}
use Rattle.ct_unique.proofs.ClassLemmas.{IsRow-within}
use Rattle.ct_unique.proofs.edges.rows.Goals as goal

pub loop-t-preserved : goal.loop-t-preserved
loop-t-preserved c =
    let state = c.args.classes.now in
    let bound = length state.terms in
    let new = c.in_ok-add_row.ensures.row in
    let more = AreRows-more bound (IsRow state) c.loop-t.t c.loop-t.starts.items c.loop-t.children.items new.row c.loop-t.invariant new.is (IsRow-within state c.loop-t.t new.row c.merges.ensures.long new.is) in
    let children : c.add_row.new.children.items ≡ c.loop-t.children.items ++ new.row = new.added in
    let count : vec_len c.add_row.new.children ≡ length c.add_row.new.children.items = omega (arith, c.add_row.new.children.ok.0) in
    let starts : c.push-in-loop-t.new.self.items ≡ c.loop-t.starts.items ++ length (c.loop-t.children.items ++ new.row) ∷ [] =
    c.in_ok-push-2.ensures.items ∙ ap (λ n. c.loop-t.starts.items ++ n ∷ []) (c.len.ensures ∙ count ∙ ap length children) in
    subst (λ (list : List ℕ). AreRows bound (IsRow state) (c.loop-t.t + 1) list c.add_row.new.children.items) (sym starts)
    (subst (λ (list : List ℕ). AreRows bound (IsRow state) (c.loop-t.t + 1) (c.loop-t.starts.items ++ length (c.loop-t.children.items ++ new.row) ∷ []) list) (sym children) more)
