-- Shapes: a number tells one head with its classes, where no step stands twice these have one number, and one class more is one step more.
use Rattle.std.proofs.Common.{◌≡◌, ℕ, ◌<◌, true, List, [], ◌∷◌, ◌++◌, length, reverse, nat_eq, Some, slice_get, refl, sym, ap, ap₂, subst, ◌∙◌}
use Rattle.std.specs.List.{IsDistinct}
use Rattle.std.proofs.lemmas.Bool.Decides.{Decides-eqb, Decides-and}
use Rattle.std.proofs.lemmas.List.{reverse-append, reverse-reverse}
use Rattle.std.proofs.lemmas.Option.{same_Some, slice_get_within}
use Rattle.indexmap.specs.IndexSet.{IndexSet}
use Rattle.ct_values.specs.declared.node.Head.{Head}
use Rattle.ct_values.specs.declared.node.Head.TheVariants as heads
use Rattle.ct_values.specs.declared.shape.ShapeStep.{ShapeStep}
use Rattle.ct_values.specs.declared.shape.ShapeStep.TheVariants.{Con, Elem, More}
use Rattle.ct_values.specs.contracts.shape.ShapeStepPartialEq.TheImpl as derived
use Rattle.ct_values.specs.Renumbering.{Stay}
use Rattle.ct_values.specs.Shape.{first_step, SpellsBack, Spells, AreSteps}
use Rattle.ct_values.proofs.RenumberLemmas.{one_index}

-- the derived test holds of each step and itself
own_step : (step : ShapeStep) → derived.eq-value.it step step ≡ true
own_step (Con c) = (Decides-eqb c.0 c.0).1 refl
own_step (Elem s n) = (Decides-and (nat_eq s.0 s.0) (nat_eq n n) (Decides-eqb s.0 s.0) (Decides-eqb n n)).1 (refl, refl)
own_step (More m class) = (Decides-and (nat_eq m m) (nat_eq class class) (Decides-eqb m m) (Decides-eqb class class)).1 (refl, refl)

-- a step begins one head
one_head : (a b : Head) → first_step a ≡ first_step b → a ≡ b
one_head (heads.Con c) (heads.Con d) e = cc
one_head (heads.Con c) (heads.Elem s n) e = absurd cc
one_head (heads.Elem s n) (heads.Con c) e = absurd cc
one_head (heads.Elem s m) (heads.Elem t n) e = cc

-- the step that begins a shape is no other
begins : (head : Head) (m class : ℕ) → first_step head ≡ More m class → ⊥
begins (heads.Con c) m class e = cc
begins (heads.Elem s n) m class e = cc

-- the last class first: a shape keeps its number where steps stay
SpellsBack-stay : (old new : List ShapeStep) (n : ℕ) (head : Head) (classes : List ℕ) → Stay old new → SpellsBack old n head classes → SpellsBack new n head classes
SpellsBack-stay old new n head [] stay spells = stay n (first_step head) spells
SpellsBack-stay old new n head (class ∷ classes) stay spells =
    (spells.0, stay n (More spells.0 class) spells.1, SpellsBack-stay old new spells.0 head classes stay spells.2)

-- a shape keeps its number where steps stay
pub Spells-stay : (old new : List ShapeStep) (n : ℕ) (head : Head) (classes : List ℕ) → Stay old new → Spells old n head classes → Spells new n head classes
Spells-stay old new n head classes = SpellsBack-stay old new n head (reverse classes)

-- one class more is one step more
pub Spells-push : (steps : List ShapeStep) (m n : ℕ) (head : Head) (classes : List ℕ) (class : ℕ) → Spells steps m head classes → slice_get steps n ≡ Some (More m class) → Spells steps n head (classes ++ class ∷ [])
Spells-push steps m n head classes class spells at =
    subst (SpellsBack steps n head) (sym (reverse-append classes (class ∷ []))) (m, at, spells)

-- the last class first: the number of a shape is an index among the steps
SpellsBack-within : (steps : List ShapeStep) (n : ℕ) (head : Head) (classes : List ℕ) → SpellsBack steps n head classes → n < length steps
SpellsBack-within steps n head [] spells = slice_get_within steps n (first_step head) spells
SpellsBack-within steps n head (class ∷ classes) spells = slice_get_within steps n (More spells.0 class) spells.1

-- the number of a shape is an index among the steps
pub Spells-within : (steps : List ShapeStep) (n : ℕ) (head : Head) (classes : List ℕ) → Spells steps n head classes → n < length steps
Spells-within steps n head classes = SpellsBack-within steps n head (reverse classes)

-- the last class first: two shapes with one number have one head and the same classes
SpellsBack-one : (steps : List ShapeStep) (n : ℕ) (a b : Head) (cs ds : List ℕ) → SpellsBack steps n a cs → SpellsBack steps n b ds → (a ≡ b) × (cs ≡ ds)
SpellsBack-one steps n a b [] [] left right = (one_head a b (same_Some (first_step a) (first_step b) (sym left ∙ right)), refl)
SpellsBack-one steps n a b [] (d ∷ ds) left right = absurd (begins a right.0 d (same_Some (first_step a) (More right.0 d) (sym left ∙ right.1)))
SpellsBack-one steps n a b (c ∷ cs) [] left right = absurd (begins b left.0 c (same_Some (first_step b) (More left.0 c) (sym right ∙ left.1)))
SpellsBack-one steps n a b (c ∷ cs) (d ∷ ds) left right =
    let parts = same_parts left.0 right.0 c d (same_Some (More left.0 c) (More right.0 d) (sym left.1 ∙ right.1)) in
    let rest = SpellsBack-one steps right.0 a b cs ds (subst (λ m. SpellsBack steps m a cs) parts.0 left.2) right.2 in
    (rest.0, ap₂ (λ (x : ℕ) (xs : List ℕ). x ∷ xs) parts.1 rest.1)
  where
    same_parts : (m n c d : ℕ) → More m c ≡ More n d → (m ≡ n) × (c ≡ d)
    same_parts m n c d e = (cc, cc)

-- two shapes with one number have one head and the same classes
pub Spells-one : (steps : List ShapeStep) (n : ℕ) (a b : Head) (cs ds : List ℕ) → Spells steps n a cs → Spells steps n b ds → (a ≡ b) × (cs ≡ ds)
Spells-one steps n a b cs ds left right =
    let parts = SpellsBack-one steps n a b (reverse cs) (reverse ds) left right in
    (parts.0, sym (reverse-reverse cs) ∙ ap reverse parts.1 ∙ reverse-reverse ds)

-- the last class first: where no step stands twice, a shape has one number
SpellsBack-unique : (steps : List ShapeStep) (m n : ℕ) (head : Head) (classes : List ℕ) → IsDistinct derived.eq-value.it steps → SpellsBack steps m head classes → SpellsBack steps n head classes → m ≡ n
SpellsBack-unique steps m n head [] distinct left right = one_index derived.eq-value.it own_step steps distinct m n (first_step head) left right
SpellsBack-unique steps m n head (class ∷ classes) distinct left right =
    let before = SpellsBack-unique steps left.0 right.0 head classes distinct left.2 right.2 in
    one_index derived.eq-value.it own_step steps distinct m n (More right.0 class) (left.1 ∙ ap (λ k. Some (More k class)) before) right.1

-- where no step stands twice, a shape has one number
pub Spells-unique : {S : Type 0} (steps : IndexSet ShapeStep S) (m n : ℕ) (head : Head) (classes : List ℕ) → AreSteps steps → Spells steps.keys m head classes → Spells steps.keys n head classes → m ≡ n
Spells-unique steps m n head classes distinct = SpellsBack-unique steps.keys m n head (reverse classes) distinct
