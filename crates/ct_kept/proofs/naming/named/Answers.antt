use Rattle.std.proofs.Common.{◌≡◌, ◌↔◌, ℕ, ◌+◌, ◌<◌, Bool, true, List, [], ◌∷◌, length, sym, ap, subst, arith, length-append}
use Rattle.std.specs.List.{AllByRecursion}
use Rattle.std.proofs.lemmas.Option.{slice_get_within}
use Rattle.ct_terms.specs.Children.{core_head, core_children}
use Rattle.ct_terms.specs.CoreTree.{term_at}
use Rattle.ct_restriction.specs.Restricted.{IsMarked}
use Rattle.ct_kept.specs.Names.{IsHeadBelow, NamesBelow}
use Rattle.ct_kept.proofs.NamingLemmas.{named_more}
use Rattle.ct_kept.proofs.naming.named.Goals as goal

pub loop-t-preserved : goal.loop-t-preserved
loop-t-preserved c =
    let before = c.loop-t.invariant in
    let marks = c.loop-t.marks.items in
    let yes = c.is_named-named.result in
    let core = c.core.result.now in
    let m = c.args.mark.now in
    record {
      long = omega (arith, before.long, ap length c.in_ok-push.ensures.items, length-append marks (yes ∷ []));
      named = λ u.
          subst (λ (ms : List Bool). IsMarked ms u ↔ ((u.0 < c.loop-t.t + 1) × NamesBelow m (term_at c.args.table.now u))) (sym c.in_ok-push.ensures.items)
          (named_more m c.args.table.now marks c.loop-t.t core c.len-t-end.ensures.ordered c.core.ensures.value before.long before.named yes
          (subst (λ (ms : List Bool). (yes ≡ true) ↔ (IsHeadBelow m (core_head core) × AllByRecursion (IsMarked ms) (core_children core))) c.deref.ensures.value c.is_named-named.ensures.named) u);
    }

pub loop-t-init : goal.loop-t-init
loop-t-init c = record {
  long = ap length c.new-marks.ensures.items;
  named = λ u. (
    λ at. absurd (omega (arith, slice_get_within c.new-marks.result.items u.0 true at, ap length c.new-marks.ensures.items)),
    λ names. absurd (omega (arith, names.0)),
  );
}

pub returns : goal.returns
returns c =
    let all : c.loop-t.t ≡ length c.args.table.now = omega (arith, c.loop-t.auto.t-end, c.loop-t-test.false, c.len-t-end.ensures.count) in
    record {
      named = λ u. subst (λ (k : ℕ). IsMarked c.loop-t.marks.items u ↔ ((u.0 < k) × NamesBelow c.args.mark.now (term_at c.args.table.now u))) all (c.loop-t.invariant.named u);
    }
