use Rattle.std.proofs.Common.{◌≡◌, ℕ, [], ◌∷◌, ◌++◌, length, vec_len, refl, ap, ◌∙◌, arith}
use Rattle.ct_lemmas.proofs.Lists.{slice_get-there}
use Rattle.ct_values.specs.Partition.{class_at}
use Rattle.ct_values.proofs.PointLemmas.{AreFirstPoints-more, ArePoints-of, ArePointsOf-first}
use Rattle.ct_values.proofs.points.nodes_as_points.Goals as goal

pub loop-n-preserved : goal.loop-n-preserved
loop-n-preserved c =
    let g = c.args.graph.now in
    let settled = c.args.settled.now in
    let n = c.loop-n.n in
    let children = c.add_row.new.children in
    let count : vec_len children ≡ length children.items = omega (arith, children.ok.0) in
    let there = slice_get-there g n (omega (arith, c.loop-n-test.true, c.len-n-end.ensures.count)) in
    AreFirstPoints-more g settled n c.loop-n.labels.items c.loop-n.starts.items c.loop-n.children.items c.head.result c.children.result.now (class_at settled n) c.len.result
    c.push-in-loop-n.new.self.items c.push-in-loop-n-2.new.self.items children.items
    c.loop-n.invariant c.head.ensures.value c.children.ensures.value c.children.ensures.below refl there
    (c.in_ok-push-2.ensures.items ∙ ap (λ (k : ℕ). c.loop-n.labels.items ++ k ∷ []) c.label_of.ensures.value)
    c.in_ok-add_row.ensures.added (c.len.ensures ∙ count) c.in_ok-push-3.ensures.items

pub returns-clause-formed : goal.returns-clause-formed
returns-clause-formed c =
    let g = c.args.graph.now in
    let all : c.loop-n.n ≡ length g = omega (arith, c.len-n-end.ensures.count) in
    ArePoints-of g c.args.settled.now c.loop-n.n c.loop-n.labels.items c.loop-n.starts.items c.loop-n.children.items all c.loop-n.invariant

pub returns-clause-nodes : goal.returns-clause-nodes
returns-clause-nodes c =
    let g = c.args.graph.now in
    let all : c.loop-n.n ≡ length g = omega (arith, c.len-n-end.ensures.count) in
    ArePointsOf-first g c.args.settled.now c.loop-n.n c.loop-n.labels.items c.loop-n.starts.items c.loop-n.children.items all c.loop-n.invariant
