use Rattle.std.proofs.Common.{sym, subst}
use Rattle.ct_sorts.specs.Lookup.{AreDistinct, names_of}
use Rattle.ct_sorts.proofs.NumberedLemmas.{names_of-entries}
use Rattle.ct_sorts.proofs.numbered.Numbered.len.Goals as goal

pub returns-clause-distinct : goal.returns-clause-distinct
returns-clause-distinct g c = subst (λ xs. AreDistinct (names_of xs)) c.self.view_is (subst AreDistinct (sym (names_of-entries c.self.inside.entries.entries)) c.self.invariant)
