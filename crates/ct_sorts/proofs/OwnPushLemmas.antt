-- The sorts without parameters of a block come into the list of sorts one after another, and its sorts and generics get their
-- numbers; then come the sorts of their fields.
use Rattle.std.proofs.Common.{◌≡◌, ℕ, zero, suc, ◌+◌, ◌<◌, ◌≤◌, ◌==◌, Bool, true, false, if◌then◌else◌, List, [], ◌∷◌, ◌++◌, length, map, take, drop, get_or, slice_get, Some, refl, sym, ◌∙◌, ap, ap₂, subst, subst₂, ⊎_elim, arith, length-append}
use Rattle.std.specs.List.{AllZip, flat_map}
use Rattle.std.proofs.lemmas.Bool.Decides.{Decides-eqb}
use Rattle.std.proofs.lemmas.List.{append_assoc, append-nil, length-map, length-take, length-take-le, take_all, drop_all}
use Rattle.std.proofs.lemmas.List.Concat.{flat_map-append}
use Rattle.std.proofs.lemmas.Option.{slice_get_within}
use Rattle.ct_lemmas.proofs.Lists.{slice_get-append_cases}
use Rattle.ct_lemmas.proofs.Pairs.{AllZip-one_length}
use Rattle.ct_generics.specs.declared.decl.SortDecl.{SortDecl}
use Rattle.ct_generics.specs.declared.nodes.ExprId.{ExprId}
use Rattle.ct_generics.specs.declared.nodes.Node.{Node}
use Rattle.ct_generics.specs.declared.sort_table.SortTable.{SortTable}
use Rattle.ct_generics.specs.Add.{field_sorts}
use Rattle.ct_generics.specs.Declarations.{Head}
use Rattle.ct_generics.specs.Expression.{Expression, parameter, named, applied}
use Rattle.ct_generics.specs.Nodes.{Stands, StandFor, Stay}
use Rattle.ct_generics.specs.Reach.{fields_of}
use Rattle.ct_generics.specs.SortTable.{AreSorts}
use Rattle.ct_sorts.specs.declared.ids.Declared.{Declared as Given}
use Rattle.ct_sorts.specs.declared.ids.Declared.TheVariants.{Sort as GivenSort, Generic as GivenGeneric}
use Rattle.ct_sorts.specs.Block.{given_from, params_of, plain_from}
use Rattle.ct_sorts.proofs.GrowLemmas.{AllZip-append}
use Rattle.ct_sorts.proofs.OwnSortsLemmas.{plain_at}
use Rattle.ct_sorts.proofs.PieceLemmas.{piece_more, pieces_all}
use Rattle.ct_sorts.proofs.PushLemmas.{map-take_more}
use Rattle.ct_sorts.proofs.PushSortsLemmas.{drop_next}
use Rattle.ct_sorts.proofs.TableSortsLemmas.{stand_at, stands_stay}

-- ---- one more

pub plain_more : (h : ℕ) (ps : List ℕ) (p : ℕ) → plain_from h (ps ++ p ∷ []) ≡ plain_from h ps ++ plain_from (h + length ps) (p ∷ [])
plain_more h [] p = let here : h ≡ h + 0 = omega arith in ap (λ (k : ℕ). plain_from k (p ∷ [])) here
plain_more h (q ∷ ps) p =
    let next : h + 1 + length ps ≡ h + suc (length ps) = omega arith in
    by (q == 0) (plain_more (h + 1) ps p ∙ ap (λ (k : ℕ). plain_from (h + 1) ps ++ plain_from k (p ∷ [])) next)
  where
    by : (b : Bool) → plain_from (h + 1) (ps ++ p ∷ []) ≡ plain_from (h + 1) ps ++ plain_from (h + suc (length ps)) (p ∷ []) → (if b then named h ∷ plain_from (h + 1) (ps ++ p ∷ []) else plain_from (h + 1) (ps ++ p ∷ [])) ≡ (if b then named h ∷ plain_from (h + 1) ps else plain_from (h + 1) ps) ++ plain_from (h + suc (length ps)) (p ∷ [])
    by true e = ap (λ (xs : List Expression). named h ∷ xs) e
    by false e = e

-- one without parameters comes into the list, and one with parameters does not
pub plain_one : (P : List Expression → Type 0) (h params : ℕ) → (params ≡ 0 → P (named h ∷ [])) → (0 < params → P []) → P (plain_from h (params ∷ []))
plain_one P h params sort generic = by (params == 0) (Decides-eqb params 0)
  where
    some : (n : ℕ) → (n ≡ 0 → ⊥) → 0 < n
    some zero no_zero = absurd (no_zero refl)
    some (suc n) no_zero = omega arith

    by : (b : Bool) → (b ≡ true → params ≡ 0) × (params ≡ 0 → b ≡ true) → P (if b then named h ∷ [] else [])
    by true tells = sort (tells.0 refl)
    by false tells = generic (some params (λ e. let same = tells.1 e in absurd (let kept = same in cc)))

pub plain_sort : (h params : ℕ) → params ≡ 0 → plain_from h (params ∷ []) ≡ named h ∷ []
plain_sort h params none = ap (λ (n : ℕ). plain_from h (n ∷ [])) none

pub plain_none : (h params : ℕ) → 0 < params → plain_from h (params ∷ []) ≡ []
plain_none h params some = plain_one (λ (xs : List Expression). xs ≡ []) h params (λ none. absurd (omega (arith, none, some))) (λ other. refl)

-- so are their numbers
pub given_sort : (s h params : ℕ) → params ≡ 0 → given_from s h (params ∷ []) ≡ GivenSort (record { 0 = s }) ∷ []
given_sort s h params none = ap (λ (n : ℕ). given_from s h (n ∷ [])) none

pub given_generic : (s h params : ℕ) → 0 < params → given_from s h (params ∷ []) ≡ GivenGeneric (record { 0 = h }) ∷ []
given_generic s h params some = by (params == 0) (Decides-eqb params 0).0
  where
    by : (b : Bool) → (b ≡ true → params ≡ 0) → (if b then GivenSort (record { 0 = s }) ∷ [] else GivenGeneric (record { 0 = h }) ∷ []) ≡ GivenGeneric (record { 0 = h }) ∷ []
    by true tells = absurd (omega (arith, some, tells refl))
    by false tells = refl

at_most_one : (h p : ℕ) → length (plain_from h (p ∷ [])) ≤ 1
at_most_one h p = by (p == 0)
  where
    by : (b : Bool) → length (if b then named h ∷ [] else []) ≤ 1
    by true = omega arith
    by false = omega arith

given_next : (s h p : ℕ) (rest : List ℕ) → given_from s h (p ∷ rest) ≡ given_from s h (p ∷ []) ++ given_from (s + length (plain_from h (p ∷ []))) (h + 1) rest
given_next s h p rest = by (p == 0)
  where
    by : (b : Bool) → (if b then GivenSort (record { 0 = s }) ∷ given_from (s + 1) (h + 1) rest else GivenGeneric (record { 0 = h }) ∷ given_from s (h + 1) rest) ≡ (if b then GivenSort (record { 0 = s }) ∷ [] else GivenGeneric (record { 0 = h }) ∷ []) ++ given_from (s + length (if b then named h ∷ [] else [])) (h + 1) rest
    by true = refl
    by false = let here : s ≡ s + 0 = omega arith in ap (λ (k : ℕ). GivenGeneric (record { 0 = h }) ∷ given_from k (h + 1) rest) here

-- a number that stands for an expression is one of a node
pub stands_within : (nodes : List Node) (n : ℕ) (e : Expression) → Stands nodes n e → n < length nodes
stands_within nodes n (parameter i) stands = slice_get_within nodes n _ stands
stands_within nodes n (named h) stands = slice_get_within nodes n _ stands
stands_within nodes n (applied e a) stands = slice_get_within nodes n _ stands.2

same_named : (g h : ℕ) → named g ≡ named h → g ≡ h
same_named g h e = cc

-- ---- the sorts and generics of a block

-- those before the one with this index got their numbers
pub record ArePushedOwn (old now : SortTable) (first : ℕ) (block : List SortDecl) (given : List Given) (head i : ℕ) : Type 0 where
  pub at : head ≡ first + i
  pub few : length now.sorts ≤ length old.sorts + i
  pub given_are : given ++ given_from (length now.sorts) head (params_of (drop i block)) ≡ given_from (length old.sorts) first (params_of block)
  pub stand : (sorts : List Expression) → AreSorts old sorts → AreSorts now (sorts ++ plain_from first (params_of (take i block)))
  pub stay : Stay old.expressions now.expressions
  pub counts_same : now.counts ≡ old.counts

pub own_none : (t : SortTable) (first : ℕ) (block : List SortDecl) (given : List Given) → given ≡ [] → ArePushedOwn t t first block given first 0
own_none t first block given none = record {
  at = omega arith;
  few = omega arith;
  given_are = ap (λ (xs : List Given). xs ++ given_from (length t.sorts) first (params_of block)) none;
  stand = λ sorts stand. subst (AreSorts t) (sym (append-nil sorts)) stand;
  stay = λ n x at. at;
  counts_same = refl;
}

-- the next one is new
pub own_fresh : (old now : SortTable) (first : ℕ) (block : List SortDecl) (given : List Given) (head i : ℕ) → ArePushedOwn old now first block given head i → i < length block
    → (fresh : (sorts : List Expression) × AreSorts old sorts × ((s h : ℕ) → slice_get sorts s ≡ Some (named h) → h < first))
    → (sorts : List Expression) × AreSorts now sorts × ((s : ℕ) → slice_get sorts s ≡ Some (named head) → ⊥)
own_fresh old now first block given head i p within fresh = (fresh.0 ++ plain_from first (params_of (take i block)), p.stand fresh.0 fresh.1, not_there)
  where
    not_there : (s : ℕ) → slice_get (fresh.0 ++ plain_from first (params_of (take i block))) s ≡ Some (named head) → ⊥
    not_there s at =
        ⊎_elim (λ before. omega (arith, p.at, fresh.2 s head before))
        (λ own.
        let found = plain_at first (params_of (take i block)) own.0 (named head) own.2 in
        omega (
          arith,
          p.at,
          same_named head (first + found.0) found.1,
          slice_get_within (params_of (take i block)) found.0 0 found.2,
          length-map (take i block) (λ (x : SortDecl). x.params),
          length-take-le i block (omega (arith, within)),
        ))
        (slice_get-append_cases fresh.0 (plain_from first (params_of (take i block))) s (named head) at)

-- how many sorts there are with one more
after_head : (now new : SortTable) (head params : ℕ) (sorts : List Expression) → AreSorts now sorts → AreSorts new (sorts ++ plain_from head (params ∷ [])) → length new.sorts ≡ length now.sorts + length (plain_from head (params ∷ []))
after_head now new head params sorts before after = omega (arith, AllZip-one_length (λ (id : ExprId) (e : Expression). Stands now.expressions id.0 e) now.sorts sorts before, AllZip-one_length (λ (id : ExprId) (e : Expression). Stands new.expressions id.0 e) new.sorts (sorts ++ plain_from head (params ∷ [])) after, length-append sorts (plain_from head (params ∷ [])))

pub own_more : (old now new : SortTable) (first : ℕ) (block : List SortDecl) (given : List Given) (head i : ℕ) (decl : SortDecl) (one : Given) (then' : List Given) → ArePushedOwn old now first block given head i → i < length block → decl ≡ get_or block i decl
    → ((sorts : List Expression) × AreSorts old sorts)
    → one ∷ [] ≡ given_from (length now.sorts) head (decl.params ∷ [])
    → ((sorts : List Expression) → AreSorts now sorts → AreSorts new (sorts ++ plain_from head (decl.params ∷ [])))
    → Stay now.expressions new.expressions → new.counts ≡ now.counts → then' ≡ given ++ one ∷ []
    → ArePushedOwn old new first block then' (head + 1) (i + 1)
own_more old now new first block given head i decl one then' p within is some number stands stay counts pushed =
    let long : length new.sorts ≡ length now.sorts + length (plain_from head (decl.params ∷ [])) = after_head now new head decl.params (some.0 ++ plain_from first (params_of (take i block))) (p.stand some.0 some.1) (stands _ (p.stand some.0 some.1)) in
    let place : head ≡ first + length (params_of (take i block)) = omega (arith, p.at, length-map (take i block) (λ (x : SortDecl). x.params), length-take-le i block (omega (arith, within))) in
    let more : params_of (take (i + 1) block) ≡ params_of (take i block) ++ decl.params ∷ [] = map-take_more (λ (x : SortDecl). x.params) block i decl within is in
    record {
      at = omega (arith, p.at);
      few = omega (arith, p.few, long, at_most_one head decl.params);
      given_are =
          subst (λ (n : ℕ). then' ++ given_from n (head + 1) (params_of (drop (i + 1) block)) ≡ given_from (length old.sorts) first (params_of block)) (sym long)
          (piece_more (λ (k : ℕ × ℕ) (xs : List SortDecl). given_from k.0 k.1 (params_of xs)) (λ (k : ℕ × ℕ) (x : SortDecl). given_from k.0 k.1 (x.params ∷ [])) (λ (k : ℕ × ℕ) (x : SortDecl). (k.0 + length (plain_from k.1 (x.params ∷ [])), k.1 + 1))
          (λ k x xs. given_next k.0 k.1 x.params (params_of xs)) block i decl within is (length now.sorts, head) given (given_from (length old.sorts) first (params_of block)) p.given_are then' (pushed ∙ ap (λ (xs : List Given). given ++ xs) number));
      stand = λ sorts stand.
          subst (AreSorts new)
          (append_assoc sorts (plain_from first (params_of (take i block))) (plain_from head (decl.params ∷ []))
          ∙ ap (λ (xs : List Expression). sorts ++ xs)
          (ap (λ (k : ℕ). plain_from first (params_of (take i block)) ++ plain_from k (decl.params ∷ [])) place ∙ sym (plain_more first (params_of (take i block)) decl.params) ∙ ap (plain_from first) (sym more)))
          (stands (sorts ++ plain_from first (params_of (take i block))) (p.stand sorts stand));
      stay = λ n x at. stay n x (p.stay n x at);
      counts_same = counts ∙ p.counts_same;
    }

-- all of them
pub own_all : (old now : SortTable) (first : ℕ) (block : List SortDecl) (given : List Given) (head i : ℕ) → ArePushedOwn old now first block given head i → length block ≤ i
    → (given ≡ given_from (length old.sorts) first (params_of block)) × ((sorts : List Expression) → AreSorts old sorts → AreSorts now (sorts ++ plain_from first (params_of block)))
own_all old now first block given head i p past = (
  pieces_all (λ (k : ℕ × ℕ) (xs : List SortDecl). given_from k.0 k.1 (params_of xs)) (λ k. refl) block i past (length now.sorts, head) given (given_from (length old.sorts) first (params_of block)) p.given_are,
  λ sorts stand. subst (λ (xs : List SortDecl). AreSorts now (sorts ++ plain_from first (params_of xs))) (take_all i block past) (p.stand sorts stand),
)

-- ---- the sorts of fields

-- the numbers in all rows stand for the expressions in all rows
pub rows_stand : (nodes : List Node) (rows : List (List ExprId)) (es : List (List Expression)) → AllZip (StandFor nodes) rows es → StandFor nodes (flat_map (λ (r : List ExprId). r) rows) (flat_map (λ (r : List Expression). r) es)
rows_stand nodes [] [] all = tt
rows_stand nodes [] (row ∷ es) all = absurd all
rows_stand nodes (ids ∷ rows) [] all = absurd all
rows_stand nodes (ids ∷ rows) (row ∷ es) all = AllZip-append (λ (id : ExprId) (e : Expression). Stands nodes id.0 e) ids (flat_map (λ (r : List ExprId). r) rows) row (flat_map (λ (r : List Expression). r) es) all.0 (rows_stand nodes rows es all.1)

-- those of the sorts from `first` on and before the one with this index
pub record AreFieldsFrom (heads : List Head) (old now : SortTable) (first i : ℕ) (fields : List ExprId) : Type 0 where
  pub sorts_same : now.sorts ≡ old.sorts
  pub counts_same : now.counts ≡ old.counts
  pub stay : Stay old.expressions now.expressions
  pub stand : (sorts : List Expression) → AreSorts old sorts → (done : List Expression) × (done ++ drop i sorts ≡ drop first sorts) × StandFor now.expressions fields (flat_map (field_sorts heads) done)

pub fields_none : (heads : List Head) (t : SortTable) (first : ℕ) (fields : List ExprId) → fields ≡ [] → AreFieldsFrom heads t t first first fields
fields_none heads t first fields none = record {
  sorts_same = refl;
  counts_same = refl;
  stay = λ n x at. at;
  stand = λ sorts stand. ([], refl, subst (λ (xs : List ExprId). StandFor t.expressions xs []) (sym none) tt);
}

-- the number of the next sort is one of a node
pub next_within : (heads : List Head) (old now : SortTable) (first i : ℕ) (fields : List ExprId) (id : ExprId) → AreFieldsFrom heads old now first i fields → ((sorts : List Expression) × AreSorts old sorts) → slice_get now.sorts i ≡ Some id → id.0 < length now.expressions
next_within heads old now first i fields id p some at =
    let found = stand_at old.expressions old.sorts some.0 i id some.1 (ap (λ (xs : List ExprId). slice_get xs i) (sym p.sorts_same) ∙ at) in
    stands_within now.expressions id.0 found.0 (stands_stay old.expressions now.expressions p.stay id.0 found.0 found.2)

pub fields_more : (heads : List Head) (old now : SortTable) (new : List Node) (first i : ℕ) (fields then' : List ExprId) (id : ExprId) → AreFieldsFrom heads old now first i fields → slice_get now.sorts i ≡ Some id
    → ((e : Expression) → Stands now.expressions id.0 e → (more : List ExprId) × (then' ≡ fields ++ more) × StandFor new more (field_sorts heads e))
    → Stay now.expressions new → AreFieldsFrom heads old (record now { expressions = new }) first (i + 1) then'
fields_more heads old now new first i fields then' id p at rows stay = record {
  sorts_same = p.sorts_same;
  counts_same = p.counts_same;
  stay = λ n x there. stay n x (p.stay n x there);
  stand = λ sorts stand. next sorts stand;
}
  where
    longer : (done : List Expression) → (e : Expression) → flat_map (field_sorts heads) (done ++ e ∷ []) ≡ flat_map (field_sorts heads) done ++ field_sorts heads e
    longer done e = flat_map-append (field_sorts heads) done (e ∷ []) ∙ ap (λ (xs : List Expression). flat_map (field_sorts heads) done ++ xs) (append-nil (field_sorts heads e))

    stayed : (ids : List ExprId) (es : List Expression) → StandFor now.expressions ids es → StandFor new ids es
    stayed [] [] all = tt
    stayed [] (e ∷ es) all = absurd all
    stayed (x ∷ ids) [] all = absurd all
    stayed (x ∷ ids) (e ∷ es) all = (stands_stay now.expressions new stay x.0 e all.0, stayed ids es all.1)

    next : (sorts : List Expression) → AreSorts old sorts → (done : List Expression) × (done ++ drop (i + 1) sorts ≡ drop first sorts) × StandFor new then' (flat_map (field_sorts heads) done)
    next sorts stand =
        let so_far = p.stand sorts stand in
        let found = stand_at old.expressions old.sorts sorts i id stand (ap (λ (xs : List ExprId). slice_get xs i) (sym p.sorts_same) ∙ at) in
        let row = rows found.0 (stands_stay old.expressions now.expressions p.stay id.0 found.0 found.2) in (
          so_far.0 ++ found.0 ∷ [],
          append_assoc so_far.0 (found.0 ∷ []) (drop (i + 1) sorts) ∙ ap (λ (xs : List Expression). so_far.0 ++ xs) (sym (drop_next i sorts found.0 found.1)) ∙ so_far.1,
          subst₂ (StandFor new) (sym row.1) (sym (longer so_far.0 found.0))
              (AllZip-append (λ (x : ExprId) (e : Expression). Stands new x.0 e) fields row.0 (flat_map (field_sorts heads) so_far.0) (field_sorts heads found.0) (stayed fields (flat_map (field_sorts heads) so_far.0) so_far.2) row.2),
        )

pub fields_all : (heads : List Head) (old now : SortTable) (first i : ℕ) (fields : List ExprId) → AreFieldsFrom heads old now first i fields → length old.sorts ≤ i → (sorts : List Expression) → AreSorts old sorts → StandFor now.expressions fields (flat_map (field_sorts heads) (drop first sorts))
fields_all heads old now first i fields p past sorts stand =
    let so_far = p.stand sorts stand in
    subst (λ (xs : List Expression). StandFor now.expressions fields (flat_map (field_sorts heads) xs)) (sym (append-nil so_far.0) ∙ ap (λ (xs : List Expression). so_far.0 ++ xs) (sym (drop_all i sorts (omega (arith, past, AllZip-one_length (λ (id : ExprId) (e : Expression). Stands old.expressions id.0 e) old.sorts sorts stand)))) ∙ so_far.1) so_far.2
