-- What a search for terms that are like one has come to.
use Rattle.std.specs.Prelude.{◌≡◌, ℕ, ◌≤◌, Bool, true, false, List, Some, slice_get}
use Rattle.ct_terms.specs.declared.ids.TermId.{TermId}
use Rattle.ct_terms.specs.declared.term.Core.{Core}
use Rattle.ct_terms.specs.Terms.{Terms, Has}
use Rattle.ct_rules.specs.Rules.{Equations}
use Rattle.ct_congr.specs.Covered.{Keys, IsAlike}

-- the answer says whether the two are alike, and then they are joined
abbrev pub IsTried : List TermId → Equations → TermId → TermId → Core → Core → Bool → Type 0
IsTried reps joined t u core other true = IsAlike reps core other × joined t u
IsTried reps joined t u core other false = IsAlike reps core other → ⊥

-- the row is of the digest, from a number on, and its term is like this one
pub record IsHit (terms : Terms) (reps : List TermId) (keys : Keys) (key : ℕ) (core : Core) (from : ℕ) (u : TermId) : Type 0 where
  pub row : ℕ
  pub after : from ≤ row
  pub at : slice_get keys row ≡ Some (key, u)
  pub other : Core
  pub has : Has terms other u.0
  pub alike : IsAlike reps core other

-- the term is joined with each such one, and the answer says whether there is any
pub record IsSearched (terms : Terms) (reps : List TermId) (keys : Keys) (key : ℕ) (joined : Equations) (t : TermId) (core : Core) (from : ℕ) (found : Bool) : Type 0 where
  pub each : (u : TermId) → IsHit terms reps keys key core from u → joined t u
  pub some : found ≡ true → (u : TermId) × IsHit terms reps keys key core from u
  pub none : found ≡ false → (u : TermId) → IsHit terms reps keys key core from u → ⊥
