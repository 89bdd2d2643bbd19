-- Unsatisfiable cores of assertions and assumptions (SMT-LIB 2.7, section 4.2.7): what a core is, what a core is that was shrunk, and
-- what is printed of one.
use Rattle.std.specs.Prelude.{◌≡◌, ◌≢◌, ℕ, ◌-◌, nat_lt, List, ◌∷◌, [], length, Contains, Option, None, Some, option_map, option_to_list, slice_get, if◌then◌else◌}
use Rattle.std.specs.List.{AllZip, flat_map}
use Rattle.std.specs.Option.{option_flatten}
use Rattle.ct_sexpr.specs.Written.{written_name}
use Rattle.ct_eval.specs.declared.interp.Interp.{Interp}
use Rattle.ct_eval.specs.Interpretation.{IsProper}
use Rattle.ct_formulas.specs.Formula.{Formula}
use Rattle.ct_log.specs.Recorded.{Derived}
use Rattle.ct_meaning.specs.Meaning.{AllTrue}
use Rattle.ct_model.specs.Listed.{listed}
use Rattle.ct_core.specs.Core.{IsCore}
use Rattle.ct_engine.specs.declared.verdict.Spent.{Spent}
use Rattle.ct_shrink.specs.declared.shrunk.Need.{Need}
use Rattle.ct_shrink.specs.declared.shrunk.Need.TheVariants.{Shown, Open}
use Rattle.ct_shrink.specs.declared.shrunk.Shrunk.{Shrunk}
use Rattle.ct_shrink.specs.Shrunk.{ArePart, HaveOthers}
use Rattle.ct_stack.specs.Stack.{Context, in_force}
use Rattle.ct_stack.specs.Assuming.{Assumption}
use Rattle.ct_step.specs.declared.cores.Members.{Members}
use Rattle.ct_step.specs.declared.cores.Members.TheVariants.{Names, Assumptions}
use Rattle.ct_step.specs.State.{State}
use Rattle.ct_step.specs.Verdict.{Refutes, IsSpent}

-- the assertions at these places, in order
abbrev pub StandAt : List Formula → List ℕ → List Formula → Type 0
StandAt asserts places chosen = AllZip (λ place t. slice_get asserts place ≡ Some t) places chosen

-- the derivation refutes the assertions at these places
pub record RefutesAt (c : Context) (asserts : List Formula) (places : List ℕ) (derived : Derived) : Type 0 where
  pub chosen : List Formula
  pub stand : StandAt asserts places chosen
  pub refutes : Refutes c chosen derived

-- the places are those of the core of a derivation from these assertions, which refutes the assertions there
pub record HasCore (c : Context) (asserts : List Formula) (derived : Derived) (places : List ℕ) : Type 0 where
  pub core : Derived
  pub is_core : IsCore derived places core
  pub refutes : RefutesAt c asserts places core

-- the interpretation makes each assertion at these places true but that at this one
pub record ShowsNeed (c : Context) (asserts : List Formula) (places : List ℕ) (place : ℕ) (i : Interp) : Type 0 where
  pub proper : IsProper c.declarations i
  pub others : (other : ℕ) (t : Formula) → Contains places other → other ≢ place → slice_get asserts other ≡ Some t → AllTrue c.declarations i c.bodies (t ∷ [])

-- the record is that of a search that spent its decisions on assertions at some of the given places, with each of these places but
-- without this one
pub record LeavesOpen (c : Context) (asserts : List Formula) (budget : ℕ) (given places : List ℕ) (place : ℕ) (spent : Spent) : Type 0 where
  pub tried : List ℕ
  pub part : ArePart given tried
  pub others : HaveOthers tried places place
  pub without : Contains tried place → ⊥
  pub chosen : List Formula
  pub stand : StandAt asserts tried chosen
  pub spending : IsSpent c chosen budget spent

-- the assertion at this place is needed beside those at the others, or this was left open
abbrev pub Needs : Context → List Formula → ℕ → List ℕ → List ℕ → ℕ → Need → Type 0
Needs c asserts budget given places place (Shown i) = ShowsNeed c asserts places place i
Needs c asserts budget given places place (Open spent) = LeavesOpen c asserts budget given places place spent

-- the core has some of the given places, in order, and a derivation that refutes the assertions there; and for each place there is an
-- interpretation or a record, in order
pub record IsShrunkTo (c : Context) (asserts : List Formula) (budget : ℕ) (given : List ℕ) (shrunk : Shrunk) : Type 0 where
  pub part : ArePart given shrunk.core.places.items
  pub refutes : RefutesAt c asserts shrunk.core.places.items shrunk.core.derivation
  pub needs : AllZip (Needs c asserts budget given shrunk.core.places.items) shrunk.core.places.items shrunk.needs.items

-- the name of the assertion at this place, where it is labelled, and as it is written
abbrev pub label_at : List (Option (List ℕ)) → ℕ → Option (List ℕ)
label_at labels place = option_flatten (slice_get labels place)

abbrev pub name_at : List (Option (List ℕ)) → ℕ → Option (List ℕ)
name_at labels place = option_map written_name (label_at labels place)

-- the text of the assumption at this place among them
abbrev pub text_at : List Assumption → ℕ → Option (List ℕ)
text_at assumed place = option_map (λ (a : Assumption). a.text) (slice_get assumed place)

-- the same where the assumptions stand behind so many assertions
abbrev pub assumption_at : ℕ → List Assumption → ℕ → Option (List ℕ)
assumption_at count assumed place = if nat_lt place count then None else text_at assumed (place - count)

-- what is printed for a place: names of assertions, or assumptions
abbrev pub member_at : Members → State → List Assumption → ℕ → Option (List ℕ)
member_at Names s assumed place = name_at s.labels place
member_at Assumptions s assumed place = assumption_at (length (in_force s.stack)) assumed place

-- what is printed for these places, in order, where there is something
abbrev pub members_at : Members → State → List Assumption → List ℕ → List (List ℕ)
members_at members s assumed places = flat_map (λ place. option_to_list (member_at members s assumed place)) places

-- what is printed for these places, as one list
abbrev pub core_text : Members → State → List Assumption → List ℕ → List ℕ
core_text members s assumed places = listed (members_at members s assumed places)
