-- The n-th value of an infinite sort. One goes down by the field that the table gives for each sort. At an uninterpreted sort
-- stands the element n. Elsewhere each layer tells something of n, by what is seen there:
--
-- - where values end by another constructor, 0 is that end; else the layer counts one, n = 1 + m, and where the table names another
--   field of its constructor that field holds a digit, its default value or not: n = 1 + digit + 2 m,
-- - where the sort has one constructor and a field beside the step has several values, the first such layer on the way is read as
--   an end or not: it departs where n = 0, and else n = 1 + m; the next one is read as a digit: n = digit + 2 m; and so on in turn,
-- - where nothing can be told, n = m.
--
-- So n is told by the value alone, and its value has about as many layers as n has digits, where a layer on the way holds a digit.
use Rattle.std.specs.Prelude.{◌≡◌, ℕ, zero, suc, ◌+◌, ◌*◌, ◌⊎◌, Bool, true, false, not, List, [], ◌∷◌, Option, None, Some, slice_get}
use Rattle.ct_sorts.specs.declared.ids.CtorId.{CtorId}
use Rattle.ct_sorts.specs.Declarations.{Declarations}
use Rattle.ct_values.specs.declared.node.Head.{Head}
use Rattle.ct_values.specs.declared.node.Head.TheVariants.{Con, Elem}
use Rattle.ct_values.specs.Agreement.{Point, head, children}
use Rattle.ct_card.specs.declared.departure.Step.{Step}
use Rattle.ct_card.specs.declared.departure.Layer.{Layer}
use Rattle.ct_card.specs.declared.departure.Departure.{Departure}
use Rattle.ct_card.specs.declared.departure.Departure.TheVariants.{Nowhere, Constructor, Field}
use Rattle.ct_card.specs.Defaults.{is_free_sort}
use Rattle.ct_card.specs.Sizes.{Table}
use Rattle.ct_card.specs.Paths.{HasHeadAt}
use Rattle.ct_card.specs.Signs.{IsSign}

-- what a layer of default values has at the end of the path, and a value that departs has not
abbrev pub IsLayerSign : Declarations → List CtorId → List Departure → Layer → List ℕ → Head → Type 0
IsLayerSign d ctors seconds layer [] h = (other : CtorId) × (layer.departure ≡ Constructor other) × (h ≡ Con layer.step.ctor)
IsLayerSign d ctors seconds layer (place ∷ path) h = (step : Step) × (layer.departure ≡ Field step) × (place ≡ step.place) × IsSign d ctors seconds step.next path h

-- the value looks as default values do
abbrev pub IsPlain : Declarations → List CtorId → List Departure → Layer → Point → Type 0
IsPlain d ctors seconds layer p = (path : List ℕ) (h : Head) → IsLayerSign d ctors seconds layer path h → HasHeadAt path h p

-- the value departs from that
abbrev pub Departs : Declarations → List CtorId → List Departure → Layer → Point → Type 0
Departs d ctors seconds layer p = (path : List ℕ) × (h : Head) × IsLayerSign d ctors seconds layer path h × (HasHeadAt path h p → ⊥)

-- what the default value of the digit's field has at the end of the path, and its second value has not
abbrev pub IsDigitSign : Declarations → List CtorId → List Departure → Step → List ℕ → Head → Type 0
IsDigitSign d ctors seconds step [] h = ⊥
IsDigitSign d ctors seconds step (place ∷ path) h = (place ≡ step.place) × IsSign d ctors seconds step.next path h

-- the digit that the value shows at the field: 0 for the default value, 1 where it lacks a sign of that
abbrev pub ShowsDigit : Declarations → List CtorId → List Departure → Step → ℕ → Point → Type 0
ShowsDigit d ctors seconds step zero p = (path : List ℕ) (h : Head) → IsDigitSign d ctors seconds step path h → HasHeadAt path h p
ShowsDigit d ctors seconds step (suc zero) p = (path : List ℕ) × (h : Head) × IsDigitSign d ctors seconds step path h × (HasHeadAt path h p → ⊥)
ShowsDigit d ctors seconds step (suc (suc n)) p = ⊥

-- a layer at which a value can depart by a field alone is read as a digit where it is its turn, and else as an end or none
abbrev pub reads_digit : Bool → Departure → Bool
reads_digit turn Nowhere = false
reads_digit turn (Constructor other) = false
reads_digit turn (Field step) = turn

-- whose turn it is below a layer: after an end that was none comes a digit, and after a digit an end
abbrev pub turn_below : Bool → Departure → Bool
turn_below turn Nowhere = turn
turn_below turn (Constructor other) = turn
turn_below turn (Field step) = not turn

-- where one comes to the end: an element; or a value that departs with nothing left to count, at a layer that is not read as a digit
abbrev pub IsEnd : Declarations → List CtorId → List Departure → List Layer → Bool → ℕ → ℕ → Point → Type 0
IsEnd d ctors seconds layers turn s n p =
    ((is_free_sort d s ≡ true) × (head p ≡ Some (Elem (record { 0 = s }) n)))
    ⊎ ((is_free_sort d s ≡ false) × (n ≡ 0) × (layer : Layer) × (slice_get layers s ≡ Some layer) × (reads_digit turn layer.departure ≡ false) × Departs d ctors seconds layer p)

-- the value shows at the field of the step the digit of n, and m is what is left
abbrev pub CountsDigit : Declarations → List CtorId → List Departure → Step → ℕ → ℕ → Point → Type 0
CountsDigit d ctors seconds step n m p = (b : ℕ) × ShowsDigit d ctors seconds step b p × (n ≡ b + 2 * m)

-- at a layer that ends by another constructor, and may have a field for a digit
abbrev pub CountsEnd : Declarations → List CtorId → List Departure → Option Step → ℕ → ℕ → Point → Type 0
CountsEnd d ctors seconds None n m p = n ≡ suc m
CountsEnd d ctors seconds (Some step) n m p = (k : ℕ) × (n ≡ suc k) × CountsDigit d ctors seconds step k m p

-- the value shows at the layer that its number is n, where m is that of what stands below
abbrev pub Counts : Declarations → List CtorId → List Departure → Layer → Departure → Bool → ℕ → ℕ → Point → Type 0
Counts d ctors seconds layer Nowhere turn n m p = n ≡ m
Counts d ctors seconds layer (Constructor other) turn n m p = IsPlain d ctors seconds layer p × CountsEnd d ctors seconds layer.digit n m p
Counts d ctors seconds layer (Field step) true n m p = CountsDigit d ctors seconds step n m p
Counts d ctors seconds layer (Field step) false n m p = IsPlain d ctors seconds layer p × (n ≡ suc m)

-- so many layers above the end
abbrev pub IsNthAfter : Declarations → List CtorId → List Departure → List Layer → ℕ → Bool → ℕ → ℕ → Point → Type 0
IsNthAfter d ctors seconds layers zero turn s n p = IsEnd d ctors seconds layers turn s n p
IsNthAfter d ctors seconds layers (suc count) turn s n p =
    (is_free_sort d s ≡ false) × (layer : Layer) × (slice_get layers s ≡ Some layer) × (m : ℕ) × Counts d ctors seconds layer layer.departure turn n m p
    × (q : Point) × (slice_get (children p) layer.step.place ≡ Some q) × IsNthAfter d ctors seconds layers count (turn_below turn layer.departure) layer.step.next m q

-- the value is the n-th of the sort, by these lists of a table
abbrev pub IsNthIn : Declarations → List CtorId → List Departure → List Layer → ℕ → ℕ → Point → Type 0
IsNthIn d ctors seconds layers s n p = (count : ℕ) × IsNthAfter d ctors seconds layers count false s n p

-- the value is the n-th of the sort
abbrev pub IsNth : Declarations → Table → ℕ → ℕ → Point → Type 0
IsNth d table s n p = IsNthIn d table.ctors table.seconds table.layers s n p
