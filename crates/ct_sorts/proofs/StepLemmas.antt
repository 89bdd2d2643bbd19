-- Tables in which one part changes: what was stored is there still, and stands for what it stood for.
use Rattle.std.proofs.Common.{◌≡◌, ℕ, ◌+◌, ◌<◌, ◌≤◌, Bool, List, [], ◌∷◌, ◌++◌, length, map, drop, slice_get, Some, Err, IsErrOf, refl, sym, ◌∙◌, ap, ap₂, subst, subst₂, arith, length-append}
use Rattle.std.specs.List.{AllZip, flat_map}
use Rattle.std.proofs.Math.Seq.{drop-append_seam}
use Rattle.std.proofs.lemmas.List.{append_assoc, append-nil, length-map}
use Rattle.std.proofs.lemmas.Option.{none-some}
use Rattle.ct_lemmas.proofs.Pairs.{AllZip-at_left, AllZip-one_length}
use Rattle.ct_generics.specs.declared.error.GenericError.{GenericError}
use Rattle.ct_generics.specs.declared.error.GenericError.TheVariants.{Refused as RefusedBelow}
use Rattle.ct_generics.specs.declared.generics.Generics.{Generics}
use Rattle.ct_generics.specs.declared.nodes.ExprId.{ExprId}
use Rattle.ct_generics.specs.declared.nodes.Node.{Node}
use Rattle.ct_generics.specs.declared.sort_table.SortTable.{SortTable}
use Rattle.ct_generics.specs.Add.{field_sorts}
use Rattle.ct_generics.specs.Block.{with_heads}
use Rattle.ct_generics.specs.Declarations.{Declared, Head}
use Rattle.ct_generics.specs.Denoted.{declared_of, expression_at, sorts_of}
use Rattle.ct_generics.specs.Expression.{Expression}
use Rattle.ct_generics.specs.Nodes.{Stands, StandFor, Stay}
use Rattle.ct_generics.specs.SortTable.{AreSorts}
use Rattle.ct_generics.specs.Stored.{AreDeclared}
use Rattle.ct_sorts.specs.declared.error.SigError.{SigError}
use Rattle.ct_sorts.specs.declared.error.SigError.TheVariants.{Refused}
use Rattle.ct_sorts.specs.declared.ids.Symbol.{Symbol}
use Rattle.ct_sorts.specs.declared.spelling.Spelling.{Spelling}
use Rattle.ct_sorts.specs.declared.tables.Tables.{Tables}
use Rattle.ct_sorts.specs.Facts.{Facts}
use Rattle.ct_sorts.specs.Grown.{Begins}
use Rattle.ct_sorts.specs.Growing.{HaveGrown, IsStanding}
use Rattle.ct_sorts.proofs.PieceLemmas.{Begins-self}
use Rattle.ct_sorts.proofs.TableSortsLemmas.{stand_stay}

-- ---- the sorts in the list

pub standing_with : (facts : Facts) (t : Tables) (table : SortTable) (xs : List Expression) → IsStanding t → AreSorts table xs → IsStanding (record t { table = table })
standing_with facts t table xs s stand = record { declared = s.declared; stand = subst (AreSorts table) (sym (facts.sorts table xs stand)) stand }

pub grown_with : (facts : Facts) (t : Tables) (table : SortTable) (more : List Expression) → AreSorts table (sorts_of t.table ++ more) → HaveGrown t (record t { table = table })
grown_with facts t table more stand = record {
  heads = Begins-self (declared_of t.generics).heads;
  synonyms = Begins-self (declared_of t.generics).synonyms;
  spellings = Begins-self t.spellings;
  determined = Begins-self t.determined;
  symbols = Begins-self t.symbols;
  origins = (more, facts.sorts table (sorts_of t.table ++ more) stand);
  sorts = Begins-self t.sorts;
  ctors = Begins-self t.ctors;
  sels = Begins-self t.sels;
}

-- the same sorts in a table of more expressions
pub stand_longer : (facts : Facts) (old new : SortTable) (sorts : List Expression) → AreSorts old sorts → new.sorts ≡ old.sorts → Stay old.expressions new.expressions → AreSorts new sorts
stand_longer facts old new sorts stand same stay = facts.stay old new sorts stand same stay

-- ---- sorts and generics

pub standing_heads : (facts : Facts) (t : Tables) (g : Generics) (d : Declared) → IsStanding t → AreDeclared g d → IsStanding (record t { generics = g })
standing_heads facts t g d s declared = record { declared = subst (AreDeclared g) (sym (facts.declared g d declared)) declared; stand = s.stand }

pub grown_heads : (facts : Facts) (t : Tables) (g : Generics) (own : List Head) → AreDeclared g (with_heads (declared_of t.generics) own) → HaveGrown t (record t { generics = g })
grown_heads facts t g own declared =
    let is = facts.declared g (with_heads (declared_of t.generics) own) declared in
    record {
      heads = (own, ap (λ (d : Declared). d.heads) is);
      synonyms = ([], ap (λ (d : Declared). d.synonyms) is ∙ sym (append-nil (declared_of t.generics).synonyms));
      spellings = Begins-self t.spellings;
      determined = Begins-self t.determined;
      symbols = Begins-self t.symbols;
      origins = Begins-self (sorts_of t.table);
      sorts = Begins-self t.sorts;
      ctors = Begins-self t.ctors;
      sels = Begins-self t.sels;
    }

-- ---- the names of their constructors and fields

pub standing_names : (t : Tables) (spellings : List (List Spelling)) (determined : List (List Bool)) (symbols : List (List ℕ × Symbol)) → IsStanding t → IsStanding (record t { spellings = spellings; determined = determined; symbols = symbols })
standing_names t spellings determined symbols s = record { declared = s.declared; stand = s.stand }

pub grown_names : (t : Tables) (spellings : List (List Spelling)) (determined : List (List Bool)) (symbols : List (List ℕ × Symbol)) → Begins t.spellings spellings → Begins t.determined determined → Begins t.symbols symbols → HaveGrown t (record t { spellings = spellings; determined = determined; symbols = symbols })
grown_names t spellings determined symbols a b c = record {
  heads = Begins-self (declared_of t.generics).heads;
  synonyms = Begins-self (declared_of t.generics).synonyms;
  spellings = a;
  determined = b;
  symbols = c;
  origins = Begins-self (sorts_of t.table);
  sorts = Begins-self t.sorts;
  ctors = Begins-self t.ctors;
  sels = Begins-self t.sels;
}

-- ---- a sort or generic without constructors

pub standing_free : (facts : Facts) (t : Tables) (g : Generics) (own : List Head) (spellings : List (List Spelling)) (determined : List (List Bool)) → IsStanding t → AreDeclared g (with_heads (declared_of t.generics) own) → IsStanding (record t { generics = g; spellings = spellings; determined = determined })
standing_free facts t g own spellings determined s declared = record { declared = subst (AreDeclared g) (sym (facts.declared g (with_heads (declared_of t.generics) own) declared)) declared; stand = s.stand }

pub grown_free : (facts : Facts) (t : Tables) (g : Generics) (own : List Head) (spellings : List (List Spelling)) (determined : List (List Bool)) → AreDeclared g (with_heads (declared_of t.generics) own) → Begins t.spellings spellings → Begins t.determined determined → HaveGrown t (record t { generics = g; spellings = spellings; determined = determined })
grown_free facts t g own spellings determined declared a b =
    let is = facts.declared g (with_heads (declared_of t.generics) own) declared in
    record {
      heads = (own, ap (λ (d : Declared). d.heads) is);
      synonyms = ([], ap (λ (d : Declared). d.synonyms) is ∙ sym (append-nil (declared_of t.generics).synonyms));
      spellings = a;
      determined = b;
      symbols = Begins-self t.symbols;
      origins = Begins-self (sorts_of t.table);
      sorts = Begins-self t.sorts;
      ctors = Begins-self t.ctors;
      sels = Begins-self t.sels;
    }

-- a list that stayed begins as it was
pub begins_same : {X : Type 0} (old new : List X) → new ≡ old → Begins old new
begins_same old new is = ([], is ∙ sym (append-nil old))

-- ---- the sorts of a block and those of their fields

-- in an empty table there is nothing
pub none_there : (table : SortTable) → AreSorts table [] → (i : ℕ) (id : ExprId) → slice_get table.sorts i ≡ Some id → ⊥
none_there table stand i id at =
    let found = AllZip-at_left (λ (x : ExprId) (e : Expression). Stands table.expressions x.0 e) table.sorts [] i id stand at in
    none-some _ found.1

module _ (facts : Facts) (heads : List Head) (old pushed fielded forgot : SortTable) (plain : List Expression) (first_sort : ℕ) (fields : List ExprId) (first : first_sort ≡ length old.sorts)
    (own : AreSorts pushed (sorts_of old ++ plain)) (fields_same : fielded.sorts ≡ pushed.sorts) (fields_stay : Stay pushed.expressions fielded.expressions)
    (forgot_sorts : forgot.sorts ≡ fielded.sorts) (forgot_expressions : forgot.expressions ≡ fielded.expressions) where
  pub own_from : first_sort ≤ length pushed.sorts
  own_from =
      omega (
        arith,
        first,
        AllZip-one_length (λ (x : ExprId) (e : Expression). Stands pushed.expressions x.0 e) pushed.sorts (sorts_of old ++ plain) own,
        length-append (sorts_of old) plain,
        length-map old.sorts (expression_at old.expressions),
      )

  pub own_stand : AreSorts fielded (sorts_of old ++ plain)
  own_stand = facts.stay pushed fielded (sorts_of old ++ plain) own fields_same fields_stay

  pub own_kept : AreSorts forgot (sorts_of old ++ plain)
  own_kept = facts.stay fielded forgot (sorts_of old ++ plain) own_stand forgot_sorts (λ n x at. ap (λ (nodes : List Node). slice_get nodes n) forgot_expressions ∙ at)

  pub own_roots : ((sorts : List Expression) → AreSorts pushed sorts → StandFor fielded.expressions fields (flat_map (field_sorts heads) (drop first_sort sorts))) → StandFor forgot.expressions fields (flat_map (field_sorts heads) plain)
  own_roots rows =
      let from : drop first_sort (sorts_of old ++ plain) ≡ plain = ap (λ (n : ℕ). drop n (sorts_of old ++ plain)) (first ∙ sym (length-map old.sorts (expression_at old.expressions))) ∙ drop-append_seam (sorts_of old) plain in
      subst₂ (λ (nodes : List Node) (xs : List Expression). StandFor nodes fields (flat_map (field_sorts heads) xs)) (sym forgot_expressions) from (rows (sorts_of old ++ plain) own)

-- ---- refusals

-- a refusal of a crate below has the number of that here
pub refused_below : {T : Type 0} (error : GenericError) (result : SigError) (n : ℕ) → (result ≡ Refused n → error ≡ RefusedBelow n) → IsErrOf {T = T} (Err result) (Refused n) → error ≡ RefusedBelow n
refused_below error result n tells is = tells cc

-- so it is whatever the value would have been
pub err_cast : {X Y : Type 0} (a b : SigError) → IsErrOf {T = X} (Err a) b → IsErrOf {T = Y} (Err a) b
err_cast {X} {Y} a b e = let same : a ≡ b = cc in cc
