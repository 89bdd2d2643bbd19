use Rattle.std.proofs.Common.{◌≡◌, ◌<◌, List, get_or, slice_get, length, Some, refl, sym, ap, subst, ◌∙◌, inl, inr, arith}
use Rattle.std.proofs.lemmas.Option.{same_Some, slice_get-get_or, slice_get_within}
use Rattle.ct_sorts.specs.declared.ids.SelId.{SelId}
use Rattle.ct_sorts.specs.Declarations.{Constructor, Selector}
use Rattle.ct_terms.specs.declared.ids.TermId.{TermId}
use Rattle.ct_terms.specs.declared.term.Core.TheVariants.{Con}
use Rattle.ct_terms.specs.Terms.{Terms, Has}
use Rattle.ct_congr.specs.Partition.{InOneClass}
use Rattle.ct_congr.specs.Joined.{AreJoined, WaitsOn}
use Rattle.ct_congr.proofs.JoinedLemmas.{AreJoined-more, WaitsOn-same, WaitsOn-trans}
use Rattle.ct_lemmas.proofs.Numbers.{same_or_other}
use Rattle.ct_lemmas.proofs.Options.{option_map-source}
use Rattle.ct_congr.proofs.pairing.pair_arguments.Goals as goal
use Rattle.ct_congr.proofs.pairing.pair_arguments.Goals.{In_ok-let_wait}

abbrev zeroth : SelId
zeroth = record { 0 = 0 }

abbrev first : TermId
first = record { 0 = 0 }

-- the place of the selector is its index, where both lists have an argument
record IsPlace (c : In_ok-let_wait) : Type 0 where
  is : c.sel_place-place.result ≡ c.loop-s.s-index
  left : c.sel_place-place.result < length c.args.xs.now
  right : c.sel_place-place.result < length c.args.ys.now

place : (c : In_ok-let_wait) → IsPlace c
place c =
    let d = c.args.sig.now in
    let sels = c.ctor_sels-s-items.result.now in
    let s = get_or sels c.loop-s.s-index zeroth in
    let ctor = option_map-source (λ (q : Constructor). q.sels) (slice_get d.ctors c.args.c.0) sels c.ctor_sels-s-items.ensures.value in
    let listed : slice_get ctor.0.sels c.loop-s.s-index ≡ Some s = ap (λ (l : List SelId). slice_get l c.loop-s.s-index) ctor.2 ∙ slice_get-get_or sels c.loop-s.s-index zeroth c.loop-s-test.true in
    let own = c.structure.ensures.own_selectors d c.sorts.ensures.consistent c.args.c.0 c.loop-s.s-index ctor.0 s ctor.1 listed in
    let read = option_map-source (λ (q : Selector). q.place) (slice_get d.sels s.0) c.sel_place-place.result c.sel_place-place.ensures.value in
    let is : c.sel_place-place.result ≡ c.loop-s.s-index = sym read.2 ∙ ap (λ (q : Selector). q.place) (same_Some read.0 own.0 (sym read.1 ∙ own.1)) ∙ own.3 in
    let long = ap length ctor.2 in
    record {
      is = is;
      left = omega (arith, is, long, c.requires.left ctor.0 ctor.1, c.loop-s-test.true);
      right = omega (arith, is, long, c.requires.right ctor.0 ctor.1, c.loop-s-test.true);
    }

pub loop-s-init : goal.loop-s-init
loop-s-init c = record {
  pairs = λ k x y below at_x at_y. absurd (omega (arith, below));
  waits = λ terms equal left right. WaitsOn-same c.args.sig.now terms c.args.reps.now c.args.waiting.now.items;
}

pub loop-s-preserved : goal.loop-s-preserved
loop-s-preserved c =
    let here = place c in
    let reps = c.args.reps.now in
    let xs = c.args.xs.now in
    let ys = c.args.ys.now in
    let k = c.sel_place-place.result in
    let x = get_or xs k first in
    let y = get_or ys k first in
    let left_at = slice_get-get_or xs k first here.left in
    let right_at = slice_get-get_or ys k first here.right in
    let initial = c.args.waiting.now.items in
    let before = c.loop-s.waiting.items in
    let after = c.let_wait.new.waiting.items in
    let waits : (terms : Terms) → InOneClass reps c.args.sides.0 c.args.sides.1 → Has terms (Con c.args.c xs) c.args.sides.0.0 → Has terms (Con c.args.c ys) c.args.sides.1.0 → WaitsOn c.args.sig.now terms reps before after = λ terms equal left right. c.in_ok-let_wait.ensures.waits c.args.sig.now terms (
      record {
        left = c.args.sides.0;
        right = c.args.sides.1;
        ctor = c.args.c;
        xs = xs;
        ys = ys;
        place = k;
        equal = equal;
        left_stands = left;
        right_stands = right;
        left_at = left_at;
        right_at = right_at;
      },
      refl,
      refl,
      refl,
    ) tt in
    record {
      pairs = λ j u v below at_u at_v. elim (same_or_other j c.loop-s.s-index) [
        | inl e ↦
            let same : j ≡ k = e ∙ sym here.is in
            let one : x ≡ u = same_Some x u (sym left_at ∙ ap (slice_get xs) (sym same) ∙ at_u) in
            let two : y ≡ v = same_Some y v (sym right_at ∙ ap (slice_get ys) (sym same) ∙ at_v) in
            subst (λ (q : TermId). AreJoined reps after q v) one (subst (AreJoined reps after x) two c.in_ok-let_wait.ensures.joined)
        | inr other ↦ AreJoined-more reps before after c.in_ok-let_wait.ensures.still u v (c.loop-s.invariant.pairs j u v (omega (arith, other, below)) at_u at_v)
      ];
      waits = λ terms equal left right. WaitsOn-trans c.args.sig.now terms reps initial before after (c.loop-s.invariant.waits terms equal left right) (waits terms equal left right);
    }

pub returns-clause-joined : goal.returns-clause-joined
returns-clause-joined c = λ k x y at_x at_y.
    let d = c.args.sig.now in
    let sels = c.ctor_sels-s-items.result.now in
    let ctor = option_map-source (λ (q : Constructor). q.sels) (slice_get d.ctors c.args.c.0) sels c.ctor_sels-s-items.ensures.value in
    c.loop-s.invariant.pairs k x y (omega (arith, slice_get_within c.args.xs.now k x at_x, ap length ctor.2, c.requires.left ctor.0 ctor.1, c.loop-s-test.false)) at_x at_y
