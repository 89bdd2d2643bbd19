use Rattle.std.proofs.Common.{ℕ, ◌<◌, Bool, List, Option, arith, ap, sym, subst, length, take}
use Rattle.std.specs.List.{Contains}
use Rattle.std.proofs.lemmas.Option.{slice_get_within}
use Rattle.ct_lemmas.proofs.Prefixes.{take-whole}
use Rattle.ct_congr.specs.declared.merge.Merge.{Merge}
use Rattle.ct_congr.specs.Merges.{AreConnected}
use Rattle.ct_explain.specs.Resting.{HasNumber, IsMarked}
use Rattle.ct_explain.specs.Trees.{IsRoute}
use Rattle.ct_explain.specs.Writing.{AreDone}
use Rattle.ct_explain.proofs.WayLemmas.{route_of_path}
use Rattle.ct_explain.proofs.explain.write.Goals as goal

pub unreachable-requires : goal.unreachable-requires
unreachable-requires c =
    let state = c.args.classes.now in
    let a = c.args.a in
    let b = c.args.b in
    let count = ap length c.merges-bound.ensures.value in
    let at = slice_get_within state.reps a.0 c.requires.equal.0 c.requires.equal.1 in
    let within : a.0 < length c.args.forest.now.links = omega (arith, at, c.merges-bound.ensures.long, c.requires.forest.long) in
    let connected = c.merges-bound.ensures.connected a b c.requires.equal in
    let none = rw c.in-None.is at c.in_ok-path.ensures.none in
    none state.merges c.requires.forest.forest within
    (subst (λ (n : ℕ). AreConnected (take n state.merges) a b) (sym count) (subst (λ (l : List Merge). AreConnected l a b) (sym (take-whole state.merges)) connected))

pub write_way-requires-clause-inside : goal.write_way-requires-clause-inside
write_way-requires-clause-inside c =
    let at = slice_get_within c.args.classes.now.reps c.args.a.0 c.requires.equal.0 c.requires.equal.1 in
    omega (arith, at, c.merges-bound.ensures.long)

pub write_way-requires-clause-route : goal.write_way-requires-clause-route
write_way-requires-clause-route c =
    let state = c.args.classes.now in
    let a = c.args.a in
    let b = c.args.b in
    let at = slice_get_within state.reps a.0 c.requires.equal.0 c.requires.equal.1 in
    let within : a.0 < length state.terms = omega (arith, at, c.merges-bound.ensures.long) in
    let connected = c.merges-bound.ensures.connected a b c.requires.equal in
    subst (λ (l : List ℕ). IsRoute state.merges a l b) (sym c.deref-in-Some-3.ensures.value)
    (route_of_path state c.args.forest.now.links (length state.merges) a b c.in-Some.path.items c.requires.forest within (subst (λ (l : List Merge). AreConnected l a b) (sym (take-whole state.merges)) connected)
    (rw c.in-Some.is at c.in_ok-path.ensures.way)).1

pub write_way-requires-clause-paved : goal.write_way-requires-clause-paved
write_way-requires-clause-paved c = λ k inside.
    let count = ap length c.merges-bound.ensures.value in
    let in_path = subst (λ (l : List ℕ). Contains l k) c.deref-in-Some-3.ensures.value inside in
    let below = (rw c.in-Some.is at c.in_ok-path.ensures.below) in
    let less = below k in_path in
    let within : k < length c.args.classes.now.merges = omega (arith, less, count) in
    let marked = c.in_ok-marks-in-Some.ensures.path k (subst (λ (l : List ℕ). Contains l k) (sym c.deref.ensures.value) in_path) within in
    subst (λ (l : List (Option ℕ)). HasNumber l k) (sym c.deref-in-Some-2.ensures.value)
    (c.in_ok-done-in-Some.ensures.marked k within (subst (λ (l : List Bool). IsMarked l k) (sym c.deref-in-Some.ensures.value) marked))

pub write_way-requires-clause-done : goal.write_way-requires-clause-done
write_way-requires-clause-done c = subst (λ (l : List (Option ℕ)). AreDone c.write_needed.new.writer c.args.classes.now.merges l) (sym c.deref-in-Some-2.ensures.value) c.in_ok-done-in-Some.ensures.done
