-- Values whose terms are being made without recursion: each awaits the term of the field that is made on top of it.
use Rattle.std.specs.Prelude.{◌≡◌, ℕ, ◌≤◌, List, [], ◌∷◌, ◌++◌, length, drop, reverse, Contains, Result, Ok, Err, Some, slice_get}
use Rattle.ct_sorts.specs.declared.ids.SortId.{SortId}
use Rattle.ct_sorts.specs.Declarations.{Declarations, IsConstructor}
use Rattle.ct_terms.specs.declared.ids.TermId.{TermId}
use Rattle.ct_terms.specs.declared.error.TermError.{TermError}
use Rattle.ct_terms.specs.Terms.{Terms}
use Rattle.ct_listing.specs.Closed.{ClosedValue}
use Rattle.ct_listing.specs.Listable.{IsListable, field_sorts}
use Rattle.ct_listing.specs.Listing.{listed}
use Rattle.ct_finite.specs.Counts.{most_values}
use Rattle.ct_finite.specs.Entries.{AreEntries, IsBuiltOf}
use Rattle.ct_scope.specs.declared.values.ListedValue.{ListedValue}
use Rattle.ct_scope.specs.declared.open_value.OpenValue.{OpenValue}
use Rattle.ct_scope.specs.declared.open_value.Progress.{Progress}
use Rattle.ct_scope.specs.declared.open_value.Progress.TheVariants as progress
use Rattle.ct_scope.specs.Values.{MakesValue, MakesFields}

-- these terms, and after them those that are made, if they are
abbrev pub with_rest : List TermId → Result (List TermId) TermError → Result (List TermId) TermError
with_rest args (Ok us) = Ok (args ++ us)
with_rest args (Err e) = Err e

-- the first of the fields with these numbers have these terms: with them, what making the others gives from this table on is
-- what making all gives from the first table on
pub record FieldsRest (d : Declarations) (sorts : List SortId) (numbers : List ℕ) (old table : Terms) (rest : List SortId) (others : List ℕ) (args : List TermId) : Type 0 where
  pub step : (vs : List ClosedValue) → AreEntries d sorts numbers vs → (left : List ClosedValue) × AreEntries d rest others left × ((new : Terms) (r : Result (List TermId) TermError) → MakesFields d table new left r → MakesFields d old new vs (with_rest args r))

-- the value is built as noted, and its first fields have the noted terms
pub record IsUnderWay (d : Declarations) (old table : Terms) (o : OpenValue) : Type 0 where
  pub listable : IsListable d o.value.sort
  pub declared : IsConstructor d o.ctor
  pub fields : (f : SortId) → Contains (field_sorts d o.ctor) f → IsListable d f × (length (listed d f) ≤ most_values)
  pub built : IsBuiltOf d o.value.sort o.value.number o.ctor o.numbers
  pub rest : FieldsRest d (field_sorts d o.ctor) o.numbers old table (drop (length o.args) (field_sorts d o.ctor)) (drop (length o.args) o.numbers) o.args

-- the value is that of the first field without a term
abbrev pub IsNextField : Declarations → OpenValue → ListedValue → Type 0
IsNextField d o value = (slice_get (field_sorts d o.ctor) (length o.args) ≡ Some value.sort) × (slice_get o.numbers (length o.args) ≡ Some value.number)

-- with the term of one field more
abbrev pub with_argument : OpenValue → TermId → OpenValue
with_argument o t = record { value = o.value; ctor = o.ctor; numbers = o.numbers; args = o.args ++ t ∷ [] }

-- this value, which is begun with this table, is the whole one, begun with the first table; or it is the next field of the first of
-- these, which await each other in the same way
abbrev pub Await : Declarations → Terms → ListedValue → Terms → ListedValue → List OpenValue → Type 0
Await d old whole table value [] = (table ≡ old) × (value ≡ whole)
Await d old whole table value (o ∷ os) = (before : Terms) × IsUnderWay d before table o × IsNextField d o value × Await d old whole before o.value os

-- the whole value is being made: this one is under way, and those below await its term, the last of them first
abbrev pub AreUnderWay : Declarations → Terms → ListedValue → Terms → List OpenValue → OpenValue → Type 0
AreUnderWay d old whole table below top = (start : Terms) × IsUnderWay d start table top × Await d old whole start top.value (reverse below)

-- one step goes on with the whole value, or makes its term, or fails
abbrev pub IsStep : Declarations → Terms → ListedValue → Terms → List OpenValue → Result Progress TermError → Type 0
IsStep d old whole new below (Ok (progress.Open top)) = AreUnderWay d old whole new below top
IsStep d old whole new below (Ok (progress.Made t)) = (v : ClosedValue) → slice_get (listed d whole.sort) whole.number ≡ Some v → MakesValue d old new v (Ok t)
IsStep d old whole new below (Err e) = (v : ClosedValue) → slice_get (listed d whole.sort) whole.number ≡ Some v → MakesValue d old new v (Err e)
