use Rattle.std.proofs.Common.{◌≡◌, ℕ, ◌+◌, ◌≤◌, length, take, sym, ap, subst}
use Rattle.ct_congr.specs.State.{State}
use Rattle.ct_theory.specs.Consulting.{IsReady}
use Rattle.ct_theory.proofs.ReadyLemmas.{IsReady-back, begins_itself, begins_first}
use Rattle.ct_theory.proofs.ForestLemmas.{back_within}
use Rattle.ct_theory.proofs.telling.go_back.Goals as goal

pub returns-in-Some-clause-ready : goal.returns-in-Some-clause-ready
returns-in-Some-clause-ready c =
    let kept = c.in-Some.ensures.kept in
    let state = c.args.classes.now in
    subst IsReady (sym (c.back_to.ensures.back kept.0 kept.1 kept.2)) (IsReady-back state kept.0 (kept.0 + 1) kept.1 kept.2.stands c.requires.ready)

pub returns-in-Some-clause-declarations : goal.returns-in-Some-clause-declarations
returns-in-Some-clause-declarations c =
    let kept = c.in-Some.ensures.kept in
    ap (λ (s : State). s.declarations) (c.back_to.ensures.back kept.0 kept.1 kept.2)

pub returns-in-Some-clause-terms : goal.returns-in-Some-clause-terms
returns-in-Some-clause-terms c =
    let kept = c.in-Some.ensures.kept in
    ap (λ (s : State). s.terms) (c.back_to.ensures.back kept.0 kept.1 kept.2)

pub returns-in-Some-clause-begins : goal.returns-in-Some-clause-begins
returns-in-Some-clause-begins c =
    let first = c.back_to.ensures.first.hypotheses in
    begins_first c.back_to.new.self.hypotheses c.args.classes.now.hypotheses (length c.back_to.new.self.hypotheses) first

pub returns-in-Some-clause-forest : goal.returns-in-Some-clause-forest
returns-in-Some-clause-forest c =
    let old = c.args.classes.now in
    let new = c.back_to.new.self in
    let many = c.back_to.ensures.many in
    let within : c.back_to-in-Some.new.self.count ≤ length new.merges = subst (λ (n : ℕ). c.back_to-in-Some.new.self.count ≤ n) (sym many) (back_within c.args.forest.now.count c.in-Some.mark.merges c.back_to-in-Some.new.self.count c.back_to-in-Some.ensures.back c.back_to-in-Some.ensures.stays) in
    c.kept_forests.ensures.fewer old new c.back_to-in-Some.new.self c.back_to.ensures.terms within
    (subst (λ (n : ℕ). new.merges ≡ take n old.merges) (sym many) c.back_to.ensures.merges) (c.back_to-in-Some.ensures.first old c.requires.forest)
