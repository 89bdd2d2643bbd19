use Rattle.std.proofs.Common.{◌≡◌, ◌+◌, true, false, [], ◌∷◌, ◌++◌, slice_get, Some, sym, ap, subst, ◌∙◌, arith}
use Rattle.std.proofs.lemmas.Option.{slice_get-get_or, slice_get_within}
use Rattle.ct_closure.proofs.ListingLemmas.{IsListing, listing_marked, listing_unmarked}
use Rattle.ct_closure.proofs.listing.marked.Goals as goal
use Rattle.ct_closure.proofs.listing.marked.Goals.{then-marks-n+in_ok-push, else-marks-n}

pub loop-n-preserved : goal.loop-n-preserved
loop-n-preserved c =
    let marks = c.args.marks.now in
    let n = c.loop-n.n in
    elim c.if-marks-n.branch [
      | then-marks-n+in_ok-push w ↦
          let at : slice_get marks n ≡ Some true = slice_get-get_or marks n false c.loop-n-test.true ∙ ap Some w.if-marks-n.true in
          let grown : c.if-marks-n.terms.items ≡ c.loop-n.terms.items ++ record { 0 = n } ∷ [] = cc (w.terms-is, w.in_ok-push.ensures.items) in
          subst (IsListing marks (n + 1)) (sym grown) (listing_marked marks n c.loop-n.terms.items c.loop-n.invariant at)
      | else-marks-n w ↦
          let at : slice_get marks n ≡ Some false = slice_get-get_or marks n false c.loop-n-test.true ∙ ap Some w.if-marks-n.false in
          let same : c.if-marks-n.terms.items ≡ c.loop-n.terms.items = cc w.terms-is in
          subst (IsListing marks (n + 1)) (sym same) (listing_unmarked marks n c.loop-n.terms.items c.loop-n.invariant at)
    ]

pub returns-clause-listed : goal.returns-clause-listed
returns-clause-listed c = λ t. (
  c.loop-n.invariant.only t,
  λ marked. let within = slice_get_within c.args.marks.now t.0 true marked in c.loop-n.invariant.all t (omega (arith, within, c.loop-n-test.false)) marked,
)
