-- Shapes: a head over a list of classes, spelled step by step in a list of steps, each but the first after another.
use Rattle.std.specs.Prelude.{◌≡◌, ℕ, List, [], ◌∷◌, reverse, Some, slice_get}
use Rattle.indexmap.specs.IndexSet.{IndexSet, IsUnique}
use Rattle.ct_values.specs.declared.node.Head.{Head}
use Rattle.ct_values.specs.declared.node.Head.TheVariants as heads
use Rattle.ct_values.specs.declared.shape.ShapeStep.{ShapeStep}
use Rattle.ct_values.specs.declared.shape.ShapeStep.TheVariants.{Con, Elem, More}
use Rattle.ct_values.specs.contracts.shape.ShapeStepPartialEq.TheImpl as derived

-- the step that begins a shape with this head
abbrev pub first_step : Head → ShapeStep
first_step (heads.Con c) = Con c
first_step (heads.Elem s n) = Elem s n

-- the step at this index ends the shape of this head over these classes, the last of them first
abbrev pub SpellsBack : List ShapeStep → ℕ → Head → List ℕ → Type 0
SpellsBack steps n head [] = slice_get steps n ≡ Some (first_step head)
SpellsBack steps n head (class ∷ classes) = (m : ℕ) × (slice_get steps n ≡ Some (More m class)) × SpellsBack steps m head classes

-- the same of these classes in order
abbrev pub Spells : List ShapeStep → ℕ → Head → List ℕ → Type 0
Spells steps n head classes = SpellsBack steps n head (reverse classes)

-- no step stands twice
abbrev pub AreSteps : {S : Type 0} → IndexSet ShapeStep S → Type 0
AreSteps steps = IsUnique derived.eq-value.it steps
