use Rattle.std.proofs.Common.{◌≡◌, ℕ, List, length, get_or, slice_get, Some, sym, ◌∙◌, ap, subst, arith}
use Rattle.std.proofs.lemmas.Option.{slice_get-get_or}
use Rattle.ct_sorts.specs.Declarations.{Declarations}
use Rattle.ct_values.specs.declared.node.NodeId.{NodeId}
use Rattle.ct_values.specs.Agreement.{node_point}
use Rattle.ct_values.specs.Fitting.{HasNodeSort}
use Rattle.ct_values.specs.WellFormed.{IsWellFormedGraph}
use Rattle.ct_card.specs.declared.size.Size.TheVariants.{Infinite}
use Rattle.ct_card.specs.Cardinality.{HasSize}
use Rattle.ct_card.specs.Made.{IsPrepared}
use Rattle.ct_card.specs.Nth.{IsNth}
use Rattle.ct_build.specs.declared.open_classes.OpenClass.{OpenClass}
use Rattle.ct_build.specs.Chosen.{AreChosen, IsPushed}
use Rattle.ct_build.proofs.ListedLemmas.{open_within, open_infinite}
use Rattle.ct_build.proofs.ChosenLemmas.{chosen_more, pushed_is}
use Rattle.ct_build.proofs.chosen.push_value.Goals as goal

-- the next open class
abbrev next : List OpenClass → ℕ → OpenClass
next unbuilt i = get_or unbuilt i (record { rep = record { 0 = 0 }; rank = 0 })

pub term_sort-s-requires : goal.term_sort-s-requires
term_sort-s-requires c = record {
  inside = open_within c.args.classes.now c.args.unbuilt.now c.len.result (next c.args.unbuilt.now c.len.result) c.requires.classes (slice_get-get_or c.args.unbuilt.now c.len.result (record { rep = record { 0 = 0 }; rank = 0 }) (omega (arith, c.len.ensures, c.args.chosen.now.nodes.ok.0, c.requires.more)));
}

pub nth_over-requires-clause-infinite : goal.nth_over-requires-clause-infinite
nth_over-requires-clause-infinite c =
    subst (λ (d : Declarations). HasSize d c.term_sort-s.result.0 Infinite) (sym c.signature.ensures.value)
    (open_infinite c.args.classes.now c.args.unbuilt.now c.len.result (next c.args.unbuilt.now c.len.result) c.term_sort-s.result c.requires.classes (slice_get-get_or c.args.unbuilt.now c.len.result (record { rep = record { 0 = 0 }; rank = 0 }) (omega (arith, c.len.ensures, c.args.chosen.now.nodes.ok.0, c.requires.more))) c.term_sort-s.ensures.sort)

pub nth_over-requires-clause-prepared : goal.nth_over-requires-clause-prepared
nth_over-requires-clause-prepared c =
    subst (λ (d : Declarations). IsPrepared d c.args.sizes.now c.args.chosen.now.graph c.args.chosen.now.prepared) (sym c.signature.ensures.value) c.requires.prepared

pub returns-clause-prepared : goal.returns-clause-prepared
returns-clause-prepared c = subst (λ (d : Declarations). IsPrepared d c.args.sizes.now c.nth_over.new.g c.nth_over.new.prepared) c.signature.ensures.value c.in_ok-n.ensures.prepared

pub returns-clause-pushed : goal.returns-clause-pushed
returns-clause-pushed c =
    let state = c.args.classes.now in
    let unbuilt = c.args.unbuilt.now in
    let chosen = c.args.chosen.now.nodes.items in
    let count : c.len.result ≡ length chosen = omega (arith, c.len.ensures, c.args.chosen.now.nodes.ok.0) in
    let class = next unbuilt c.len.result in
    let listed : slice_get unbuilt (length chosen) ≡ Some class = ap (slice_get unbuilt) (sym count) ∙ slice_get-get_or unbuilt c.len.result (record { rep = record { 0 = 0 }; rank = 0 }) (omega (arith, count, c.requires.more)) in
    let nth = subst (λ (d : Declarations). IsNth d c.args.sizes.now c.term_sort-s.result.0 c.args.number (node_point c.nth_over.new.g c.in_ok-n.n)) c.signature.ensures.value c.in_ok-n.ensures.nth in
    subst (λ (l : List NodeId). IsPushed state (λ s n p. IsNth state.declarations c.args.sizes.now s.0 n p) unbuilt c.args.chosen.now.graph chosen c.args.number c.nth_over.new.g l) (sym c.in_ok-push.ensures.items)
    (pushed_is state unbuilt c.args.chosen.now.graph c.nth_over.new.g chosen c.in_ok-n.ensures.grown class listed c.term_sort-s.result c.term_sort-s.ensures.sort c.in_ok-n.n (λ s n p. IsNth state.declarations c.args.sizes.now s.0 n p) c.args.number nth)

pub returns-clause-chosen : goal.returns-clause-chosen
returns-clause-chosen c = λ defaults old.
    let state = c.args.classes.now in
    let unbuilt = c.args.unbuilt.now in
    let chosen = c.args.chosen.now.nodes.items in
    let e = c.signature.ensures.value in
    let count : c.len.result ≡ length chosen = omega (arith, c.len.ensures, c.args.chosen.now.nodes.ok.0) in
    let class = next unbuilt c.len.result in
    let listed : slice_get unbuilt (length chosen) ≡ Some class = ap (slice_get unbuilt) (sym count) ∙ slice_get-get_or unbuilt c.len.result (record { rep = record { 0 = 0 }; rank = 0 }) (omega (arith, count, c.requires.more)) in
    let formed : IsWellFormedGraph state.declarations c.nth_over.new.g = subst (λ (d : Declarations). IsWellFormedGraph d c.args.chosen.now.graph → IsWellFormedGraph d c.nth_over.new.g) e c.in_ok-n.ensures.well_formed old.formed in
    let has : HasNodeSort state.declarations c.nth_over.new.g c.in_ok-n.n c.term_sort-s.result = subst (λ (d : Declarations). HasNodeSort d c.nth_over.new.g c.in_ok-n.n c.term_sort-s.result) e c.in_ok-n.ensures.sorted in
    subst (λ (l : List NodeId). AreChosen state c.nth_over.new.g defaults unbuilt l) (sym c.in_ok-push.ensures.items)
    (chosen_more state unbuilt c.args.chosen.now.graph c.nth_over.new.g chosen c.in_ok-n.ensures.grown class listed c.term_sort-s.result c.term_sort-s.ensures.sort c.in_ok-n.n defaults c.requires.more formed has old)
