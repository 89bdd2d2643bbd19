use Rattle.std.proofs.Common.{◌≡◌, ℕ, ◌+◌, ◌-◌, ◌*◌, ◌/◌, ◌^◌, ◌<◌, min, length, get_or, slice_get, Some, sym, ◌∙◌, ap, arith}
use Rattle.std.proofs.lemmas.Option.{slice_get-get_or}
use Rattle.ct_sorts.specs.declared.ids.SortId.{SortId}
use Rattle.ct_values.specs.Agreement.{Point, node_point}
use Rattle.ct_card.specs.Nth.{IsNth}
use Rattle.ct_build.specs.declared.open_classes.OpenClass.{OpenClass}
use Rattle.ct_build.proofs.KnownLemmas.{chosen_within}
use Rattle.ct_build.proofs.SpreadLemmas.{spread_none, spread_more, node_stays}
use Rattle.ct_build.proofs.choice.push_all.Goals as goal

pub loop-chosen-init : goal.loop-chosen-init
loop-chosen-init c =
    let state = c.args.classes.now in
    let chosen = c.args.chosen.now in
    record {
      are_chosen = c.requires.chosen;
      spread = spread_none state (λ (s : SortId) (n : ℕ) (p : Point). IsNth state.declarations c.args.sizes.now s.0 n p) c.args.gap c.args.unbuilt.now (length chosen.nodes.items) chosen.graph chosen.nodes.items (omega arith);
      prepared = c.requires.prepared;
    }

pub loop-chosen-preserved : goal.loop-chosen-preserved
loop-chosen-preserved c =
    let state = c.args.classes.now in
    let unbuilt = c.args.unbuilt.now in
    let old = c.loop-chosen.chosen in
    let new = c.push_value.new.chosen in
    let are = c.loop-chosen.invariant.are_chosen in
    let known = c.known.ensures.known in
    let index = c.len-in-loop-chosen.result in
    let none : OpenClass = record { rep = record { 0 = 0 }; rank = 0 } in
    let class = get_or unbuilt index none in
    let count : index ≡ length old.nodes.items = omega (arith, c.len-in-loop-chosen.ensures, old.nodes.ok.0) in
    let more : index < length unbuilt = omega (arith, count, c.loop-chosen-test.true, c.len.ensures, old.nodes.ok.0) in
    let listed : slice_get unbuilt (length old.nodes.items) ≡ Some class = ap (slice_get unbuilt) (sym count) ∙ slice_get-get_or unbuilt index none more in
    let number : c.saturating_add-number.result ≡ min (min (class.rank * c.args.gap) (2 ^ 64 - 1) + c.args.gap / 2) (2 ^ 64 - 1) =
    c.saturating_add-number.ensures ∙ ap (λ (k : ℕ). min (k + c.args.gap / 2) (2 ^ 64 - 1)) c.saturating_mul.ensures in
    let pushed = c.in_ok-push_value.ensures.pushed in
    record {
      are_chosen = c.in_ok-push_value.ensures.chosen c.args.defaults.now are;
      spread =
          spread_more state (λ (s : SortId) (n : ℕ) (p : Point). IsNth state.declarations c.args.sizes.now s.0 n p) c.args.gap unbuilt (length c.args.chosen.now.nodes.items)
          old.graph new.graph old.nodes.items new.nodes.items class c.saturating_add-number.result listed number
          (λ i n s k at is.
          let within = chosen_within state known c.args.sizes.now c.requires.buildable c.args.defaults.now unbuilt c.requires.classes old.graph old.nodes.items are i n at in
          c.different_values.ensures.same state.declarations c.args.sizes.now s.0 k (node_point old.graph n) (node_point new.graph n) is
          (node_stays known.laws old.graph new.graph n (known.closed old.graph are.formed.fits) pushed.grown within))
          pushed c.loop-chosen.invariant.spread;
      prepared = c.in_ok-push_value.ensures.prepared;
    }

pub returns-clause-all : goal.returns-clause-all
returns-clause-all c = omega (arith, c.loop-chosen.invariant.are_chosen.few, c.loop-chosen-test.false)
