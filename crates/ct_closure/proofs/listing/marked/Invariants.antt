use Rattle.ct_closure.proofs.ListingLemmas.{IsListing}
use Rattle.ct_closure.proofs.listing.marked.Given as goal

abbrev pub invariant-loop-n : goal.invariant-loop-n
invariant-loop-n l = IsListing l.marks l.n l.terms.items
