-- What merges rest on: the ways between the terms whose equations their reasons need.
use Rattle.std.specs.Prelude.{◌≡◌, ℕ, ◌<◌, ◌≤◌, Bool, true, false, List, [], ◌∷◌, length, take, Option, None, Some, slice_get, Contains}
use Rattle.std.specs.List.{AllZip}
use Rattle.ct_terms.specs.declared.ids.TermId.{TermId}
use Rattle.ct_terms.specs.declared.term.Core.{Core}
use Rattle.ct_terms.specs.Children.{core_children}
use Rattle.ct_terms.specs.Terms.{Terms, Has}
use Rattle.ct_rules.specs.declared.equation.Equation.{Equation}
use Rattle.ct_rules.specs.Rules.{Equations, truth_term}
use Rattle.ct_rules.specs.Uniqueness.{AreMatched}
use Rattle.ct_congr.specs.declared.merge.Reason.{Reason}
use Rattle.ct_congr.specs.declared.merge.Reason.TheVariants.{Hyp, Cong, Inject, Sel, Test, Expand, EqualIn, EqualOut, Neg, Single, Unique}
use Rattle.ct_congr.specs.declared.merge.Merge.{Merge}
use Rattle.ct_congr.specs.Merges.{AreConnected}
use Rattle.ct_congr.specs.State.{State}
use Rattle.ct_explain.specs.declared.forest.Link.{Link}
use Rattle.ct_explain.specs.Trees.{IsForestOf, IsForestPath}
use Rattle.ct_explain.specs.Premises.{IsOver}

-- each merge on the way between the two terms has the property
abbrev pub IsPaved : List (Option Link) → (ℕ → Type 0) → TermId → TermId → Type 0
IsPaved links has x y = (path : List ℕ) → IsForestPath links x y path → (k : ℕ) → Contains path k → has k

-- this one, at this place, is the first of the equations whose sides the two terms equal
pub record IsFirstMatch (known : Equations) (equations : List Equation) (x y : TermId) (place : ℕ) (e : Equation) : Type 0 where
  pub at : slice_get equations place ≡ Some e
  pub left : known x e.left
  pub right : known e.right y
  pub first : (i : ℕ) (f : Equation) → i < place → slice_get equations i ≡ Some f → known x f.left → known f.right y → ⊥

-- how the two terms are matched: they are known to be equal, or else by the first of the equations that does
abbrev pub IsDetour : Equations → List Equation → TermId → TermId → Option (ℕ × Equation) → Type 0
IsDetour known equations x y None = known x y
IsDetour known equations x y (Some found) = (known x y → ⊥) × IsFirstMatch known equations x y found.0 found.1

-- the two terms and the sides of the equations are of a forest, and the merges below the bound or the equations match the two
pub record IsMatching (merges : List Merge) (links : List (Option Link)) (bound : ℕ) (equations : List Equation) (x y : TermId) : Type 0 where
  pub forest : IsForestOf merges links
  pub left : x.0 < length links
  pub right : y.0 < length links
  pub sides : (e : Equation) → Contains equations e → (e.left.0 < length links) × (e.right.0 < length links)
  pub matched : AreMatched (AreConnected (take bound merges)) equations x y

-- so are the ways of the two terms, where they are matched so
abbrev pub IsPavedBy : List (Option Link) → (ℕ → Type 0) → TermId → TermId → Option (ℕ × Equation) → Type 0
IsPavedBy links has x y None = IsPaved links has x y
IsPavedBy links has x y (Some found) = IsPaved links has x found.1.left × IsPaved links has found.1.right y

abbrev pub IsEntryPaved : List (Option Link) → Equations → (ℕ → Type 0) → List Equation → TermId → TermId → Type 0
IsEntryPaved links known has equations x y = (answer : Option (ℕ × Equation)) → IsDetour known equations x y answer → IsPavedBy links has x y answer

-- and those of the terms at each place
abbrev pub AreEntriesPaved : List (Option Link) → Equations → (ℕ → Type 0) → List Equation → List TermId → List TermId → Type 0
AreEntriesPaved links known has equations xs ys = (i : ℕ) (x y : TermId) → slice_get xs i ≡ Some x → slice_get ys i ≡ Some y → IsEntryPaved links known has equations x y

-- and those of the arguments of two terms
abbrev pub AreArgumentsPaved : Terms → List (Option Link) → Equations → (ℕ → Type 0) → List Equation → TermId → TermId → Type 0
AreArgumentsPaved terms links known has equations t u = (left right : Core) → Has terms left t.0 → Has terms right u.0 → AreEntriesPaved links known has equations (core_children left) (core_children right)

-- two terms of the table that are matched
pub record IsEntry (terms : Terms) (known : Equations) (equations : List Equation) (x y : TermId) : Type 0 where
  pub left : x.0 < length terms
  pub right : y.0 < length terms
  pub matched : AreMatched known equations x y

abbrev pub AreEntries : Terms → Equations → List Equation → List TermId → List TermId → Type 0
AreEntries terms known equations xs ys = (i : ℕ) (x y : TermId) → slice_get xs i ≡ Some x → slice_get ys i ≡ Some y → IsEntry terms known equations x y

-- two terms whose arguments are matched, one for one
pub record AreArgumentsMatched (terms : Terms) (known : Equations) (equations : List Equation) (t u : TermId) : Type 0 where
  pub left : Core
  pub right : Core
  pub left_stands : Has terms left t.0
  pub right_stands : Has terms right u.0
  pub arguments : AllZip (AreMatched known equations) (core_children left) (core_children right)

-- two terms of the table that are equal by known merges, all of which on the way between them have the property
pub record AreEqualAlong (terms : Terms) (links : List (Option Link)) (known : Equations) (has : ℕ → Type 0) (x y : TermId) : Type 0 where
  pub inside : x.0 < length terms
  pub equal : known x y
  pub paved : IsPaved links has x y

-- the sides of the premise of a reason whose rule has one; the merge has this right side
abbrev pub IsLone : Terms → TermId → Reason → TermId → TermId → Type 0
IsLone terms right (Inject a b k) x y = (x ≡ a) × (y ≡ b)
IsLone terms right (Sel t c) x y = IsOver terms t (x ∷ []) × (y ≡ c)
IsLone terms right (Test t c) x y = IsOver terms t (x ∷ []) × (y ≡ c)
IsLone terms right (Expand t c) x y = (x ≡ t) × (y ≡ truth_term true)
IsLone terms right (EqualIn t) x y = IsOver terms t (x ∷ (y ∷ []))
IsLone terms right (EqualOut t) x y = (x ≡ t) × (y ≡ truth_term true)
IsLone terms right (Neg t) x y = IsOver terms t (x ∷ []) × (right ≡ truth_term true → y ≡ truth_term false) × (right ≡ truth_term false → y ≡ truth_term true)
IsLone terms right why x y = ⊥

-- all ways that a merge with this right side and this reason rests on have only merges with the property
abbrev pub Rests : Terms → List (Option Link) → Equations → (ℕ → Type 0) → TermId → Reason → Type 0
Rests terms links known has right (Hyp l) = Unit {0}
Rests terms links known has right Single = Unit {0}
Rests terms links known has right (Cong t u) = AreArgumentsPaved terms links known has [] t u
Rests terms links known has right (Unique pairs) = (e : Equation) → Contains pairs e → AreArgumentsPaved terms links known has pairs e.left e.right
Rests terms links known has right why = (x y : TermId) → IsLone terms right why x y → IsPaved links has x y

-- the merge with this number is marked
abbrev pub IsMarked : List Bool → ℕ → Type 0
IsMarked marks k = slice_get marks k ≡ Some true

-- and its number is below the bound
abbrev pub IsMarkedBelow : List Bool → ℕ → ℕ → Type 0
IsMarkedBelow marks bound k = (k < bound) × IsMarked marks k

-- more merges below the bound are marked, and none above
pub record AreMarkedMore (old new : List Bool) (bound : ℕ) : Type 0 where
  pub long : length new ≡ length old
  pub stays : (k : ℕ) → IsMarked old k → IsMarked new k
  pub above : (k : ℕ) → bound ≤ k → IsMarked new k → IsMarked old k

-- a step states the merge with this number
abbrev pub HasNumber : List (Option ℕ) → ℕ → Type 0
HasNumber done k = (n : ℕ) × (slice_get done k ≡ Some (Some n))

-- whatever is marked rests on merges before it that are
abbrev pub AreClosed : State → List (Option Link) → List Bool → Type 0
AreClosed state links marks = (k : ℕ) (m : Merge) → slice_get state.merges k ≡ Some m → IsMarked marks k → Rests state.terms links (AreConnected (take k state.merges)) (IsMarkedBelow marks k) m.right m.why
