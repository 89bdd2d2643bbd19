use Rattle.std.proofs.Common.{refl, sym, ◌∙◌}
use Rattle.std.proofs.lemmas.Bool.{false≢true}
use Rattle.ct_generics.proofs.FreeLemmas.{find-Some, find-None}
use Rattle.ct_generics.proofs.generics.Generics.synonym_named.Goals as goal

pub returns-in-Some : goal.returns-in-Some
returns-in-Some c = record { listed = (λ _. find-Some c.args.name.now c.args.self.now.synonym_names c.in-Some.field-0 (sym c.find.ensures.place ∙ c.in-Some.is), λ _. refl) }

pub returns-in-None : goal.returns-in-None
returns-in-None c = record { listed = (λ h. absurd (false≢true h), λ listed. absurd (find-None c.args.name.now c.args.self.now.synonym_names (sym c.find.ensures.place ∙ c.in-None.is) listed)) }
