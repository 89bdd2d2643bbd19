-- The numbers and the texts of the arguments of a sort that comes into the table.
use Rattle.std.proofs.Common.{◌≡◌, ℕ, zero, suc, ◌<◌, All, List, [], ◌∷◌, length, map, take, Some, None, slice_get, Option, unwrap_or, if◌then◌else◌, ◌==◌, refl, sym, ◌∙◌, ap, ap₂, subst, arith, length-append}
use Rattle.std.specs.List.{AllZip}
use Rattle.std.proofs.lemmas.Option.{none-some, same_Some, slice_get-get_or}
use Rattle.std.proofs.lemmas.Bool.Decides.{Decides-eqb}
use Rattle.ct_lemmas.proofs.Booleans.{by_test}
use Rattle.ct_lemmas.proofs.Lists.{slice_get-map_at}
use Rattle.ct_generics.specs.declared.nodes.ExprId.{ExprId}
use Rattle.ct_generics.specs.declared.nodes.Node.{Node}
use Rattle.ct_generics.specs.Declarations.{Head}
use Rattle.ct_generics.specs.Denoted.{declared_of, sorts_of}
use Rattle.ct_generics.specs.Expression.{Expression, parameter, named, applied, head_of, args_of}
use Rattle.ct_generics.specs.Nodes.{Stands, StandFor}
use Rattle.ct_generics.specs.Reach.{AreDifferent}
use Rattle.ct_sorts.specs.declared.ids.SortId.{SortId}
use Rattle.ct_sorts.specs.declared.tables.Tables.{Tables}
use Rattle.ct_sorts.specs.Lookup.{names_of}
use Rattle.ct_sorts.specs.SortText.{name_of_head, head_name, sort_name, sort_text}
use Rattle.ct_sorts.specs.Tabled.{IsNumberOf}
use Rattle.ct_sorts.specs.TextParts.{text_with, texts_of}
use Rattle.ct_sorts.proofs.TextPartsLemmas.{text_is, texts_are}
use Rattle.ct_sorts.proofs.TableSortsLemmas.{stand_at, stands_one}

-- the numbers, each where its expression is in the list
abbrev pub AreNumbersOf : List ExprId → List SortId → List ExprId → Type 0
AreNumbersOf sorts ns ids = AllZip (λ (s : SortId) (id : ExprId). slice_get sorts s.0 ≡ Some id) ns ids

module _ (nodes : List Node) (sorts : List ExprId) (origins : List Expression) (all : StandFor nodes sorts origins) where
  -- they are those of the arguments
  pub args_numbered : (ns : List SortId) (ids : List ExprId) (es : List Expression) → AreNumbersOf sorts ns ids → StandFor nodes ids es → AllZip (IsNumberOf origins) ns es
  args_numbered [] [] [] numbers zipped = tt
  args_numbered [] [] (e ∷ es) numbers zipped = absurd zipped
  args_numbered [] (id ∷ ids) es numbers zipped = absurd numbers
  args_numbered (s ∷ ns) [] es numbers zipped = absurd numbers
  args_numbered (s ∷ ns) (id ∷ ids) [] numbers zipped = absurd zipped
  args_numbered (s ∷ ns) (id ∷ ids) (e ∷ es) numbers zipped =
      let origin = stand_at nodes sorts origins s.0 id all numbers.0 in (
        origin.1 ∙ ap Some (stands_one nodes id.0 origin.0 e origin.2 zipped.0),
        args_numbered ns ids es numbers.1 zipped.1,
      )

  -- the number of an expression that stands before a place is below it
  number_below : AreDifferent origins → (bound s i : ℕ) (id : ExprId) → slice_get sorts s ≡ Some id → slice_get sorts i ≡ Some id → i < bound → s < bound
  number_below different bound s i id at_s at_i below =
      let one = stand_at nodes sorts origins s id all at_s in
      let other = stand_at nodes sorts origins i id all at_i in
      let same : other.0 ≡ one.0 = stands_one nodes id.0 other.0 one.0 other.2 one.2 in
      subst (λ (k : ℕ). k < bound) (different i s one.0 (other.1 ∙ ap Some same) one.1) below

  -- so all of them are
  pub numbers_below : AreDifferent origins → (bound : ℕ) (ns : List SortId) (ids : List ExprId) → AreNumbersOf sorts ns ids
      → All (λ (id : ExprId). (i : ℕ) × (i < bound) × (slice_get sorts i ≡ Some id)) ids → All (λ (s : SortId). s.0 < bound) ns
  numbers_below different bound [] ids numbers there k s within = absurd (none-some _ (slice_get-get_or [] k s within))
  numbers_below different bound (n ∷ ns) [] numbers there k s within = absurd numbers
  numbers_below different bound (n ∷ ns) (id ∷ ids) numbers there zero s within =
      let at = there zero id (omega arith) in
      number_below different bound n.0 at.0 id numbers.0 at.2 at.1
  numbers_below different bound (n ∷ ns) (id ∷ ids) numbers there (suc k) s within =
      numbers_below different bound ns ids numbers.1 (λ j x below. there (suc j) x (omega (arith, below))) k s (omega (arith, within))

-- the texts of the arguments stand at their numbers
pub texts_at : (heads : List Head) (origins : List Expression) (texts : List (List ℕ)) (bound : ℕ) → texts ≡ take bound (map (sort_text heads) origins) → (ns : List SortId) (es : List Expression)
    → AllZip (IsNumberOf origins) ns es → All (λ (s : SortId). s.0 < bound) ns → AllZip (λ (s : SortId) (a : Expression). slice_get texts s.0 ≡ Some (sort_text heads a)) ns es
texts_at heads origins texts bound begun [] [] numbers below = tt
texts_at heads origins texts bound begun [] (e ∷ es) numbers below = absurd numbers
texts_at heads origins texts bound begun (s ∷ ns) [] numbers below = absurd numbers
texts_at heads origins texts bound begun (s ∷ ns) (e ∷ es) numbers below = (
  ap (λ (xs : List (List ℕ)). slice_get xs s.0) begun ∙ taken bound s.0 (map (sort_text heads) origins) (sort_text heads e) (below zero s (omega arith)) (slice_get-map_at (sort_text heads) origins s.0 e numbers.0),
  texts_at heads origins texts bound begun ns es numbers.1 (λ j x within. below (suc j) x (omega (arith, within))),
)
  where
    taken : (n k : ℕ) (xs : List (List ℕ)) (x : List ℕ) → k < n → slice_get xs k ≡ Some x → slice_get (take n xs) k ≡ Some x
    taken n k [] x within at = absurd (none-some _ at)
    taken zero k (y ∷ xs) x within at = absurd (omega (arith, within))
    taken (suc n) zero (y ∷ xs) x within at = at
    taken (suc n) (suc k) (y ∷ xs) x within at = taken n k xs x (omega (arith, within)) at

-- the text of the sort is made of the name and the texts at these numbers
pub text_entry : (t : Tables) (ns : List SortId) (ids : List ExprId) (h : ℕ) (known : Head) (e : Expression) → AreNumbersOf t.table.sorts ns ids → StandFor t.table.expressions ids (args_of e) → head_of e ≡ Some h
    → slice_get (declared_of t.generics).heads h ≡ Some known → StandFor t.table.expressions t.table.sorts (sorts_of t.table) → All (λ (s : SortId). s.0 < length t.sorts) ns
    → names_of t.sorts ≡ take (length t.sorts) (map (sort_text (declared_of t.generics).heads) (sorts_of t.table))
    → text_with known.name (texts_of (names_of t.sorts) ns) ≡ sort_text (declared_of t.generics).heads e
text_entry t ns ids h known e numbers zipped is at stand below begun =
    let heads = (declared_of t.generics).heads in
    let origins = sorts_of t.table in
    let name : known.name ≡ head_name heads h = sym (ap name_of_head at) in
    let numbered = args_numbered t.table.expressions t.table.sorts origins stand ns ids (args_of e) numbers zipped in
    ap₂ text_with name (texts_are heads (names_of t.sorts) ns (args_of e) (texts_at heads origins (names_of t.sorts) (length t.sorts) begun ns (args_of e) numbered below)) ∙ sym (text_is heads e h is)

-- the name of a sort without arguments is kept, and otherwise its text is its name
pub name_is : (heads : List Head) (e : Expression) (h : ℕ) (args : List SortId) → head_of e ≡ Some h → length args ≡ length (args_of e) → unwrap_or (if length args == 0 then Some (head_name heads h) else None) (sort_text heads e) ≡ sort_name heads e
name_is heads (parameter i) h args is long = absurd (none-some _ is)
name_is heads (named g) h [] is long = ap (head_name heads) (sym (same_Some g h is))
name_is heads (named g) h (s ∷ args) is long = absurd (omega (arith, long))
name_is heads (applied f a) h [] is long = absurd (omega (arith, long, length-append (args_of f) (a ∷ [])))
name_is heads (applied f a) h (s ∷ args) is long =
    by_test (λ (kept : Option (List ℕ)). unwrap_or kept (sort_text heads (applied f a)) ≡ sort_name heads (applied f a)) (length (s ∷ args) == 0) (Some (head_name heads h)) None
    (λ none. absurd (omega (arith, (Decides-eqb (length (s ∷ args)) 0).0 none))) (λ some. refl)

-- numbers are as many as what they stand for
pub as_many : (sorts : List ExprId) (ns : List SortId) (ids : List ExprId) → AreNumbersOf sorts ns ids → length ns ≡ length ids
as_many sorts [] [] numbers = refl
as_many sorts [] (id ∷ ids) numbers = absurd numbers
as_many sorts (s ∷ ns) [] numbers = absurd numbers
as_many sorts (s ∷ ns) (id ∷ ids) numbers = ap suc (as_many sorts ns ids numbers.1)

pub args_many : (nodes : List Node) (ids : List ExprId) (es : List Expression) → StandFor nodes ids es → length ids ≡ length es
args_many nodes [] [] all = refl
args_many nodes [] (e ∷ es) all = absurd all
args_many nodes (id ∷ ids) [] all = absurd all
args_many nodes (id ∷ ids) (e ∷ es) all = ap suc (args_many nodes ids es all.1)
