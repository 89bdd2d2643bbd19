use Rattle.std.proofs.Common.{◌≡◌, ℕ, ◌+◌, ◌*◌, ◌≤◌, length, ◌∙◌, ap, subst, arith}
use Rattle.ct_card.specs.Nth.{IsNth}
use Rattle.ct_build.specs.declared.chosen.Chosen.{Chosen}
use Rattle.ct_build.specs.Trials.{IsRefusedNext}
use Rattle.ct_build.proofs.KnownLemmas.{refused_further, not_all}
use Rattle.ct_build.proofs.choice.settle.Goals as goal

pub loop-number-preserved : goal.loop-number-preserved
loop-number-preserved c =
    let state = c.args.classes.now in
    let defaults = c.args.defaults.now in
    let unbuilt = c.args.unbuilt.now in
    let before = c.args.chosen.now in
    let number = c.loop-number.number in
    let step = rw c.if-branch.false at c.in_ok-is_next.ensures.next in
    let refused : IsRefusedNext state (λ s n p. IsNth state.declarations c.args.sizes.now s.0 n p) before.graph defaults unbuilt before.nodes.items number =
    subst (λ (k : Chosen). IsRefusedNext state (λ s n p. IsNth state.declarations c.args.sizes.now s.0 n p) k.graph defaults unbuilt k.nodes.items number) c.loop-number.invariant.same step.1 in
    record {
      same = step.0 ∙ c.loop-number.invariant.same;
      refused = refused_further state (λ s n p. IsNth state.declarations c.args.sizes.now s.0 n p) defaults unbuilt before.graph before.nodes.items number refused c.loop-number.invariant.refused;
    }

-- numbers of which each is at most the other
both : (m n : ℕ) → m ≤ n → n ≤ m → m ≡ n
both m n below above = omega (arith, below, above)

pub unreachable-requires : goal.unreachable-requires
unreachable-requires c =
    let state = c.args.classes.now in
    let before = c.args.chosen.now in
    let count = c.len-count.result in
    let terms : count ≡ length state.terms = c.len-count.ensures.count ∙ ap length c.table.ensures.value in
    let tried : c.loop-number.number ≡ length state.terms * length state.terms + 1 =
    both c.loop-number.number (count * count + 1) c.loop-number.auto.number-end c.loop-number-test.false ∙ ap (λ (k : ℕ). k * k + 1) terms in
    not_all state c.known.ensures.known c.args.sizes.now c.requires.buildable c.args.defaults.now c.args.unbuilt.now c.requires.classes
    (c.different_values.ensures.different state.declarations c.args.sizes.now)
    before.graph before.nodes.items c.requires.chosen c.requires.apart c.requires.more c.loop-number.number tried c.loop-number.invariant.refused
