use Rattle.std.proofs.Common.{◌≡◌, ◌<◌, ◌∷◌, [], ◌++◌, ◌∙◌, ℕ, List, length, set, get_or, take, refl, ap, sym, subst, arith}
use Rattle.std.proofs.lemmas.List.{take_more, take_all, length-take, length-set}
use Rattle.std.proofs.lemmas.List.Elements.{All-from_recursion, All-get_or}
use Rattle.ct_terms.specs.declared.ids.TermId.{TermId}
use Rattle.ct_equivalence.specs.Digests.{places_of}
use Rattle.ct_equivalence.specs.Places.{IsPlaced}
use Rattle.ct_equivalence.proofs.PlaceLemmas.{IsPlaced-none, IsPlaced-push}
use Rattle.ct_equivalence.proofs.places.add_arguments.Goals as goal

abbrev zeroth : TermId
zeroth = record { 0 = 0 }

pub loop-index-init : goal.loop-index-init
loop-index-init c = record { long = refl; placed = IsPlaced-none c.args.t c.args.places.now }

pub push-requires : goal.push-requires
push-requires c =
    let n = length c.args.places.now in
    let inside = All-get_or (λ (t : TermId). t.0 < n) c.args.args.now c.loop-index.index zeroth c.loop-index-test.true (All-from_recursion (λ (t : TermId). t.0 < n) c.args.args.now c.requires.inside) in
    record { inside = omega (arith, inside, c.loop-index.invariant.long) }

pub loop-index-preserved : goal.loop-index-preserved
loop-index-preserved c =
    let n = length c.args.places.now in
    let rows = c.loop-index.places in
    let index = c.loop-index.index in
    let a = get_or c.args.args.now index zeroth in
    let done = take index c.args.args.now in
    let inside = All-get_or (λ (t : TermId). t.0 < n) c.args.args.now index zeroth c.loop-index-test.true (All-from_recursion (λ (t : TermId). t.0 < n) c.args.args.now c.requires.inside) in
    let within : a.0 < length rows = omega (arith, inside, c.loop-index.invariant.long) in
    let long : length done ≡ index = omega (arith, c.loop-index-test.true, length-take index c.args.args.now) in
    let pushed = c.in_ok-push.ensures.pushed in
    let placed = subst (λ (k : ℕ). IsPlaced c.args.t (done ++ a ∷ []) c.args.places.now (set rows a.0 (places_of rows a ++ (record { term = c.args.t; index = k }) ∷ []))) long (IsPlaced-push c.args.t a done c.args.places.now rows within c.loop-index.invariant.placed) in
    rw (take_more c.args.args.now index zeroth c.loop-index-test.true)
    (record {
      long = ap length pushed ∙ length-set rows a.0 (places_of rows a ++ (record { term = c.args.t; index = index }) ∷ []) ∙ c.loop-index.invariant.long;
      placed = subst (IsPlaced c.args.t (done ++ a ∷ []) c.args.places.now) (sym pushed) placed;
    })

pub returns : goal.returns
returns c =
    let all = take_all c.loop-index.index c.args.args.now c.loop-index-test.false in
    record { long = c.loop-index.invariant.long; placed = subst (λ (xs : List TermId). IsPlaced c.args.t xs c.args.places.now c.loop-index.places) all c.loop-index.invariant.placed }
