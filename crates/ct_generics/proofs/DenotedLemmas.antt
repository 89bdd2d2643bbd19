-- What stored values stand for, as functions of these, is what they stand for.
use Rattle.std.proofs.Common.{◌≡◌, ℕ, zero, suc, ◌<◌, ◌≤◌, ◌+◌, Bool, true, false, ◌||◌, List, [], ◌∷◌, length, map, nat_eq, refl, sym, ap, ap₂, subst, ◌∙◌, arith}
use Rattle.std.specs.List.{IsDistinct, AllByRecursion, AllZip, list_any}
use Rattle.std.proofs.lemmas.Bool.{true≢false, false≢true}
use Rattle.std.proofs.lemmas.Bool.Decides.{Decides-eqb}
use Rattle.std.proofs.lemmas.Map.Steps.{length-le_from_distinct_below}
use Rattle.ct_generics.specs.declared.nodes.ExprId.{ExprId}
use Rattle.ct_generics.specs.declared.nodes.Node.{Node}
use Rattle.ct_generics.specs.declared.heads.StoredHead.{StoredHead}
use Rattle.ct_generics.specs.declared.heads.StoredSynonym.{StoredSynonym}
use Rattle.ct_generics.specs.declared.generics.Generics.{Generics}
use Rattle.ct_generics.specs.declared.sort_table.SortTable.{SortTable}
use Rattle.ct_generics.specs.Expression.{Expression, parameter, named, applied}
use Rattle.ct_generics.specs.Declarations.{Declared, Head, Synonym}
use Rattle.ct_generics.specs.Nodes.{Stands, StandFor, Stay}
use Rattle.ct_generics.specs.Stored.{AreDeclared, AreStored, IsStored, IsStoredSynonym}
use Rattle.ct_generics.specs.SortTable.{AreSorts}
use Rattle.ct_generics.specs.Denoted.{node_over, denoted, expression_at, head_stored, synonym_stored, declared_of, sorts_of}
use Rattle.ct_generics.proofs.NodeLemmas.{Stands-one, Stands-within}
use Rattle.ct_generics.proofs.SubstitutionLemmas.{StandFor-stay}

-- how many names and parameters an expression has
size : Expression → ℕ
size (parameter i) = 1
size (named h) = 1
size (applied e a) = size e + size a

size-some : (e : Expression) → 0 < size e
unfolding size
size-some (parameter i) = omega arith
size-some (named h) = omega arith
size-some (applied e a) = omega (arith, size-some e)

-- its parts have fewer
function_smaller : (e a : Expression) → size e < size (applied e a)
unfolding size
function_smaller e a = omega (arith, size-some a)

argument_smaller : (e a : Expression) → size a < size (applied e a)
unfolding size
argument_smaller e a = omega (arith, size-some e)

-- a list that does not have a number has only others
apart : (u : ℕ) (met : List ℕ) → list_any (nat_eq u) met ≡ false → AllByRecursion (λ y. nat_eq u y ≡ false) met
apart u [] h = tt
apart u (v ∷ met) h = by (nat_eq u v) refl h (λ k. apart u met k)
  where
    by : (b : Bool) → nat_eq u v ≡ b → (b || list_any (nat_eq u) met) ≡ false → (list_any (nat_eq u) met ≡ false → AllByRecursion (λ y. nat_eq u y ≡ false) met) → AllByRecursion (λ y. nat_eq u y ≡ false) (v ∷ met)
    by true e h rest = absurd (true≢false h)
    by false e h rest = (e, rest h)

module _ (nodes : List Node) where
  -- numbers that were met on the way to an expression: they are different, and stand for larger ones
  record AreMet (met : List ℕ) (e : Expression) : Type 0 where
    distinct : IsDistinct nat_eq met
    below : (v : ℕ) → list_any (nat_eq v) met ≡ true → v < length nodes
    larger : (v : ℕ) → list_any (nat_eq v) met ≡ true → (f : Expression) × Stands nodes v f × (size e < size f)

  new_number : (met : List ℕ) (n : ℕ) (e : Expression) → Stands nodes n e → AreMet met e → (b : Bool) → list_any (nat_eq n) met ≡ b → b ≡ false
  new_number met n e stands are true listed =
      let found = are.larger n listed in
      let same = Stands-one nodes n e found.0 stands found.1 in
      let less = subst (λ (f : Expression). size e < size f) (sym same) found.2 in
      absurd (omega (arith, less))
  new_number met n e stands are false listed = refl

  distinct_more : (met : List ℕ) (n : ℕ) → list_any (nat_eq n) met ≡ false → IsDistinct nat_eq met → IsDistinct nat_eq (n ∷ met)
  unfolding IsDistinct
  distinct_more met n fresh distinct = (apart n met fresh, distinct)

  -- with this number more, on the way to a part
  module _ (met : List ℕ) (n : ℕ) (e : Expression) (stands : Stands nodes n e) (are : AreMet met e) where
    fresh : list_any (nat_eq n) met ≡ false
    fresh = new_number met n e stands are (list_any (nat_eq n) met) refl

    below_more : (v : ℕ) (b : Bool) → nat_eq v n ≡ b → (b || list_any (nat_eq v) met) ≡ true → v < length nodes
    below_more v true is listed = subst (λ k. k < length nodes) (sym ((Decides-eqb v n).0 is)) (Stands-within nodes n e stands)
    below_more v false is listed = are.below v listed

    larger_more : (part : Expression) → size part < size e → (v : ℕ) (b : Bool) → nat_eq v n ≡ b → (b || list_any (nat_eq v) met) ≡ true → (f : Expression) × Stands nodes v f × (size part < size f)
    larger_more part less v true is listed = (e, subst (λ k. Stands nodes k e) (sym ((Decides-eqb v n).0 is)) stands, less)
    larger_more part less v false is listed = let found = are.larger v listed in (found.0, found.1, omega (arith, less, found.2))

    more : (part : Expression) → size part < size e → AreMet (n ∷ met) part
    more part less = record {
      distinct = distinct_more met n fresh are.distinct;
      below = λ v listed. below_more v (nat_eq v n) refl listed;
      larger = λ v listed. larger_more part less v (nat_eq v n) refl listed;
    }

    few : suc (length met) ≤ length nodes
    few = length-le_from_distinct_below (n ∷ met) (length nodes) (distinct_more met n fresh are.distinct) (λ v listed. below_more v (nat_eq v n) refl listed)

  denoted-is : (depth : ℕ) (met : List ℕ) (n : ℕ) (e : Expression) → Stands nodes n e → AreMet met e → length nodes ≤ depth + length met → denoted nodes depth n ≡ e
  denoted-is zero met n e stands are long = absurd (let enough = few met n e stands are in omega (arith, enough, long))
  denoted-is (suc depth) met n (parameter i) stands are long = ap (node_over (denoted nodes depth)) stands
  denoted-is (suc depth) met n (named h) stands are long = ap (node_over (denoted nodes depth)) stands
  denoted-is (suc depth) met n (applied e a) stands are long =
      let first = denoted-is depth (n ∷ met) stands.0.0 e stands.3 (more met n (applied e a) stands are e (function_smaller e a)) (omega (arith, long)) in
      let second = denoted-is depth (n ∷ met) stands.1.0 a stands.4 (more met n (applied e a) stands are a (argument_smaller e a)) (omega (arith, long)) in
      ap (node_over (denoted nodes depth)) stands.2 ∙ ap₂ applied first second

  none_met : IsDistinct nat_eq []
  unfolding IsDistinct
  none_met = tt

  pub expression_at-is : (id : ExprId) (e : Expression) → Stands nodes id.0 e → expression_at nodes id ≡ e
  expression_at-is id e stands =
      denoted-is (length nodes) [] id.0 e stands (record { distinct = none_met; below = λ v listed. absurd (false≢true listed); larger = λ v listed. absurd (false≢true listed) }) (omega arith)

  pub map_expression_at : (ids : List ExprId) (es : List Expression) → StandFor nodes ids es → map (expression_at nodes) ids ≡ es
  map_expression_at [] [] all = refl
  map_expression_at [] (e ∷ es) all = absurd all
  map_expression_at (id ∷ ids) [] all = absurd all
  map_expression_at (id ∷ ids) (e ∷ es) all = ap₂ (λ (x : Expression) (xs : List Expression). x ∷ xs) (expression_at-is id e all.0) (map_expression_at ids es all.1)

  map_map_expression_at : (rows : List (List ExprId)) (es : List (List Expression)) → AllZip (StandFor nodes) rows es → map (map (expression_at nodes)) rows ≡ es
  map_map_expression_at [] [] all = refl
  map_map_expression_at [] (e ∷ es) all = absurd all
  map_map_expression_at (row ∷ rows) [] all = absurd all
  map_map_expression_at (row ∷ rows) (e ∷ es) all = ap₂ (λ (x : List Expression) (xs : List (List Expression)). x ∷ xs) (map_expression_at row e all.0) (map_map_expression_at rows es all.1)

head_stored-is : (stored : StoredHead) (head : Head) → IsStored stored head → head_stored stored ≡ head
head_stored-is stored head is i = record { name = sym is.name_is i; kind = sym is.kind_is i; params = sym is.params_are i; ctors = map_map_expression_at stored.template stored.ctors head.ctors is.fields i }

synonym_stored-is : (stored : StoredSynonym) (s : Synonym) → IsStoredSynonym stored s → synonym_stored stored ≡ s
synonym_stored-is stored s is i = record { name = sym is.name_is i; params = sym is.params_are i; body = expression_at-is stored.template stored.body s.body is.stands i }

heads_stored-are : (stored : List StoredHead) (heads : List Head) → AreStored stored heads → map head_stored stored ≡ heads
heads_stored-are [] [] all = refl
heads_stored-are [] (h ∷ hs) all = absurd all
heads_stored-are (s ∷ ss) [] all = absurd all
heads_stored-are (s ∷ ss) (h ∷ hs) all = ap₂ (λ (x : Head) (xs : List Head). x ∷ xs) (head_stored-is s h all.0) (heads_stored-are ss hs all.1)

synonyms_stored-are : (stored : List StoredSynonym) (synonyms : List Synonym) → AllZip IsStoredSynonym stored synonyms → map synonym_stored stored ≡ synonyms
synonyms_stored-are [] [] all = refl
synonyms_stored-are [] (h ∷ hs) all = absurd all
synonyms_stored-are (s ∷ ss) [] all = absurd all
synonyms_stored-are (s ∷ ss) (h ∷ hs) all = ap₂ (λ (x : Synonym) (xs : List Synonym). x ∷ xs) (synonym_stored-is s h all.0) (synonyms_stored-are ss hs all.1)

-- what is declared is what the stored values stand for
pub declared_of-is : (g : Generics) (d : Declared) → AreDeclared g d → declared_of g ≡ d
declared_of-is g d are i = record { heads = heads_stored-are g.heads d.heads are.stored i; synonyms = synonyms_stored-are g.synonyms d.synonyms are.stored_synonyms i }

-- so are the sorts of a table
pub sorts_of-is : (table : SortTable) (sorts : List Expression) → AreSorts table sorts → sorts_of table ≡ sorts
sorts_of-is table sorts are = map_expression_at table.expressions table.sorts sorts are

-- sorts that stay in the list stand for the same where expressions stay
pub AreSorts-stay : (old new : SortTable) (sorts : List Expression) → AreSorts old sorts → new.sorts ≡ old.sorts → Stay old.expressions new.expressions → AreSorts new sorts
AreSorts-stay old new sorts are same stay = subst (λ ids. StandFor new.expressions ids sorts) (sym same) (StandFor-stay old.expressions new.expressions old.sorts sorts stay are)
