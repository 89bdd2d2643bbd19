use Rattle.std.proofs.Common.{◌≡◌, ◌+◌, ◌≤◌, List, length, slice_get, slice_set, Some, refl, sym, ap, subst, arith}
use Rattle.std.proofs.lemmas.Bool.{MatchBool-at_true, MatchBool-at_false}
use Rattle.std.proofs.lemmas.Option.{slice_get_read}
use Rattle.ct_sorts.specs.declared.ids.SortId.{SortId}
use Rattle.ct_build.specs.declared.open_classes.OpenClass.{OpenClass}
use Rattle.ct_build.specs.OpenClasses.{AreCounts, AreFirstOpen, count_of}
use Rattle.ct_build.proofs.TermLemmas.{one_term_sort}
use Rattle.ct_build.proofs.ListedLemmas.{first_open_skip, first_open_more, counts_more, count_few}
use Rattle.ct_build.proofs.open_classes.add_if_open.Goals as goal

pub returns-then-not-is_open-clause-first : goal.returns-then-not-is_open-clause-first
returns-then-not-is_open-clause-first c =
    first_open_skip c.args.classes.now c.args.list.now.items c.args.rep (MatchBool-at_false _ _ c.if-not-is_open.true c.is_open.ensures.class) c.is_open.ensures.own c.requires.first

pub returns-clause-counts : goal.returns-clause-counts
returns-clause-counts c =
    let state = c.args.classes.now in
    let s = c.term_sort-s.result in
    let counts = c.args.counts.now.items in
    let list = c.args.list.now.items in
    let rank = c.index-rank.result.now in
    let class : OpenClass = record { rep = c.args.rep; rank = rank } in
    let at : slice_get counts s.0 ≡ Some rank = slice_get_read counts (length counts) s.0 rank refl (omega (arith, c.requires.long, c.term_sort-s.ensures.declared)) c.index-rank.ensures in
    let is : rank ≡ count_of state.terms s list = c.requires.counts s rank at in
    let few : count_of state.terms s list ≤ length list = count_few state s list in
    let next : c.saturating_add.result ≡ rank + 1 = omega (arith, c.saturating_add.ensures, is, few, c.args.list.now.ok.0, c.args.list.now.ok.1, c.args.list.now.small) in
    subst (λ (l : List OpenClass). AreCounts state l (slice_set counts s.0 c.saturating_add.result)) (sym c.in_ok-push.ensures.items)
    (counts_more state list class s counts (slice_set counts s.0 c.saturating_add.result) c.term_sort-s.ensures.sort is (ap (slice_set counts s.0) next) c.requires.counts)

pub returns-clause-first : goal.returns-clause-first
returns-clause-first c =
    let state = c.args.classes.now in
    let s = c.term_sort-s.result in
    let counts = c.args.counts.now.items in
    let list = c.args.list.now.items in
    let rank = c.index-rank.result.now in
    let class : OpenClass = record { rep = c.args.rep; rank = rank } in
    let at : slice_get counts s.0 ≡ Some rank = slice_get_read counts (length counts) s.0 rank refl (omega (arith, c.requires.long, c.term_sort-s.ensures.declared)) c.index-rank.ensures in
    subst (λ (l : List OpenClass). AreFirstOpen state (c.args.rep.0 + 1) l) (sym c.in_ok-push.ensures.items)
    (first_open_more state list class (MatchBool-at_true _ _ c.if-not-is_open.false c.is_open.ensures.class _)
    (λ q has. subst (λ (x : SortId). rank ≡ count_of state.terms x list) (one_term_sort state.terms c.args.rep s q c.term_sort-s.ensures.sort has) (c.requires.counts s rank at))
    c.is_open.ensures.own c.requires.first)
