-- Marks of classes that were begun, and of classes with more merges under the same hypotheses and given equations.
use Rattle.std.proofs.Common.{◌≡◌, Bool, List, [], length, sym, refl}
use Rattle.std.proofs.lemmas.List.{append-nil}
use Rattle.std.proofs.lemmas.Option.{none-some}
use Rattle.ct_sorts.specs.Declarations.{Declarations}
use Rattle.ct_terms.specs.declared.ids.Lit.{Lit}
use Rattle.ct_terms.specs.Terms.{Terms}
use Rattle.ct_rules.specs.declared.equation.Equation.{Equation}
use Rattle.ct_equivalence.specs.Grouping.{Groupings}
use Rattle.ct_congr.specs.declared.merge.Merge.{Merge}
use Rattle.ct_congr.specs.declared.level.Level.{Level}
use Rattle.ct_congr.specs.Covered.{Keys}
use Rattle.ct_congr.specs.History.{IsFurther}
use Rattle.ct_congr.specs.Marks.{marks_of, AreMarked}
use Rattle.ct_congr.proofs.MarkLemmas.{AreMarked-more, marks_of-more}

-- no mark was set yet
pub AreMarked-none : (d : Declarations) (terms : Terms) (single : List Bool) (hyps : List Lit) (given : List Equation) (merges : List Merge) (keys : Keys) (parts : Groupings) → length parts.past ≡ length merges → AreMarked d terms single hyps given merges keys parts []
AreMarked-none d terms single hyps given merges keys parts long = record {
  long = long;
  rising = λ j k earlier later at there le. absurd (none-some earlier at);
  each = λ k level at. absurd (none-some level at);
}

pub marks_of-none : (hyps : List Lit) (given : List Equation) (merges : List Merge) (parts : Groupings) → marks_of hyps given merges parts [] ≡ []
unfolding marks_of
marks_of-none hyps given merges parts = refl

module _ (d : Declarations) (terms : Terms) (single : List Bool) (hyps : List Lit) (given : List Equation) (merges later : List Merge) (keys more : Keys) (old new : Groupings) (levels : List Level) (further : IsFurther terms old new merges later keys more) (marked : AreMarked d terms single hyps given merges keys old levels) where
  pub AreMarked-further : AreMarked d terms single hyps given later more new levels
  AreMarked-further = AreMarked-more d terms single hyps hyps given given merges later keys more old new levels ([], sym (append-nil hyps)) ([], sym (append-nil given)) further.extended further.more marked

  pub marks_of-further : marks_of hyps given later new levels ≡ marks_of hyps given merges old levels
  marks_of-further = marks_of-more d terms single hyps hyps given given merges later keys more old new levels ([], sym (append-nil hyps)) ([], sym (append-nil given)) further.extended further.more marked
