use Rattle.std.proofs.Common.{◌∙◌, length, sym, subst, inl, inr, arith}
use Rattle.ct_lemmas.proofs.Numbers.{below_or_not}
use Rattle.ct_terms.specs.declared.ids.TermId.{TermId}
use Rattle.ct_terms.specs.Children.{core_children}
use Rattle.ct_terms.specs.Terms.{HasArgumentsBelow}
use Rattle.ct_equivalence.proofs.PlaceLemmas.{ArePlacesBelow-none, ArePlacesBelow-wide, ArePlacesBelow-narrow, ArePlaces-all}
use Rattle.ct_equivalence.proofs.places.list_places.Goals as goal

pub loop-t-init : goal.loop-t-init
loop-t-init c = record { long = c.in_ok-places.ensures.long ∙ c.len.ensures.count; places = ArePlacesBelow-none c.args.table.now c.in_ok-places.places c.in_ok-places.ensures.empty }

pub add_wide-requires : goal.add_wide-requires
add_wide-requires c = record { inside = subst (λ n. HasArgumentsBelow n c.core.result.now) (sym c.loop-t.invariant.long) c.core.ensures.inside }

pub loop-t-preserved : goal.loop-t-preserved
loop-t-preserved c =
    let terms = c.args.table.now in
    let core = c.core.result.now in
    let t : TermId = record { 0 = c.loop-t.t } in
    let rows = c.loop-t.places in
    let later = c.add_wide.new.places in
    record {
      long = c.in_ok-add_wide.ensures.long ∙ c.loop-t.invariant.long;
      places = elim (below_or_not 8 (length (core_children core))) [
        | inl wide ↦ ArePlacesBelow-wide terms t core c.core.ensures.value rows later c.loop-t.invariant.places (c.in_ok-add_wide.ensures.placed wide)
        | inr narrow ↦ ArePlacesBelow-narrow terms t core c.core.ensures.value rows later c.loop-t.invariant.places (λ wide. omega (arith, wide, narrow)) (c.in_ok-add_wide.ensures.narrow (λ wide. omega (arith, wide, narrow)))
      ];
    }

pub returns : goal.returns
returns c = record { places = ArePlaces-all c.args.table.now c.loop-t.t c.loop-t.places (omega (arith, c.loop-t-test.false, c.len-t-end.ensures.count)) c.loop-t.invariant.places }
