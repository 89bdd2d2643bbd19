use Rattle.std.proofs.Common.{◌≡◌, List, [], ◌∷◌, length, ap, ◌∙◌, arith, length-append}
use Rattle.ct_equivalence.specs.declared.places.Place.{Place}
use Rattle.ct_equivalence.specs.Digests.{places_of}
use Rattle.ct_equivalence.proofs.PlaceLemmas.{empty-more}
use Rattle.ct_equivalence.proofs.places.empty_places.Goals as goal

pub loop-init : goal.loop-init
loop-init c =
    let empty = c.new-rows.ensures.empty in
    record { long = ap length empty; empty = λ m. ap (λ (rows : List (List Place)). places_of rows m) empty }

pub loop-preserved : goal.loop-preserved
loop-preserved c =
    let rows = c.loop.rows in
    let more = c.in_ok-add_row.ensures.added in
    record {
      long = omega (arith, ap length more, length-append rows ([] ∷ []), c.loop.invariant.long);
      empty = λ m. ap (λ (list : List (List Place)). places_of list m) more ∙ empty-more rows c.loop.invariant.empty m;
    }

pub returns : goal.returns
returns c =
    let all : c.loop.counter ≡ c.args.count = omega arith in
    record { long = c.loop.invariant.long ∙ all; empty = c.loop.invariant.empty }
