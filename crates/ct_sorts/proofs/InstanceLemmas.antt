-- An instance that comes into the list, or is there: what that says of the tables.
use Rattle.std.proofs.Common.{◌≡◌, ◌↔◌, ℕ, zero, suc, ◌+◌, ◌-◌, ◌<◌, ◌≤◌, ◌^◌, List, [], ◌∷◌, ◌++◌, length, map, drop, slice_get, Result, Ok, Err, Some, IsErrOf, refl, sym, ◌∙◌, ap, ap₂, subst, arith, length-append, ◌⊎◌, inl, inr}
use Rattle.std.proofs.lemmas.List.{append-nil, length-map}
use Rattle.std.proofs.lemmas.Option.{none-some, same_Some, slice_get_within}
use Rattle.ct_generics.specs.declared.error.GenericError.{GenericError}
use Rattle.ct_generics.specs.declared.nodes.ExprId.{ExprId}
use Rattle.ct_generics.specs.declared.nodes.Node.{Node}
use Rattle.ct_generics.specs.declared.room.Room.{Room}
use Rattle.ct_generics.specs.declared.sort_table.SortTable.{SortTable}
use Rattle.ct_generics.specs.declared.expr.SortExpr.{SortExpr}
use Rattle.ct_generics.specs.Add.{Adds, Fits, IsAdded, IsAmong}
use Rattle.ct_generics.specs.Add.Adds.{none, there}
use Rattle.ct_generics.specs.Declarations.{Head, IsExpression}
use Rattle.ct_generics.specs.Denoted.{declared_of, expression_at, sorts_of}
use Rattle.ct_generics.specs.Expression.{Expression}
use Rattle.ct_generics.specs.Nodes.{AreOrdered, Stands, StandFor, Stay}
use Rattle.ct_generics.specs.Resolved.{resolved}
use Rattle.ct_generics.specs.SortTable.{AreCounted, AreSorts}
use Rattle.ct_generics.specs.WellFormed.{AreExpressions}
use Rattle.ct_sorts.specs.declared.entries.SortEntry.{SortEntry}
use Rattle.ct_sorts.specs.declared.error.SigError.{SigError}
use Rattle.ct_sorts.specs.declared.tables.Tables.{Tables}
use Rattle.ct_sorts.specs.Consistent.{IsConsistent}
use Rattle.ct_sorts.specs.Declarations.{Declarations, Function}
use Rattle.ct_sorts.specs.Facts.{Facts}
use Rattle.ct_sorts.specs.Growing.{AreReady, AreWithin, HaveGrown, IsGrownBy, IsStanding}
use Rattle.ct_sorts.specs.Instances.{HasNoRoom, IsInstanceRefusal, IsWithSorts}
use Rattle.ct_sorts.specs.Limits.{room_in}
use Rattle.ct_sorts.specs.Made.{with_sorts}
use Rattle.ct_sorts.specs.SortText.{sort_text}
use Rattle.ct_sorts.specs.Tabled.{of_tables, IsTabled}
use Rattle.ct_sorts.proofs.CountedLemmas.{counted_stay}
use Rattle.ct_sorts.proofs.GrownLemmas.{grown_is}
use Rattle.ct_sorts.proofs.MissingLemmas.{ready, within, missing_consistent, missing_tabled, with_table}
use Rattle.ct_sorts.proofs.PieceLemmas.{Begins-self}
use Rattle.ct_sorts.proofs.SortEntryLemmas.{with_nodes}
use Rattle.ct_sorts.proofs.TableLemmas.{IsSameTables, same_tabled}
use Rattle.ct_sorts.proofs.TableSortsLemmas.{stand_at, stands_one}

-- there are as many numbers of sorts as sorts
pub numbers_long : (t : Tables) → length t.table.sorts ≡ length (sorts_of t.table)
numbers_long t = sym (length-map t.table.sorts (expression_at t.table.expressions))

pub entries_long : (t : Tables) → IsTabled t → length t.table.sorts ≡ length t.sorts
entries_long t tab =
    numbers_long t
    ∙ sym (length-map (sorts_of t.table) (sort_text (declared_of t.generics).heads))
    ∙ sym (ap length tab.texts)
    ∙ length-map t.sorts (λ (x : List ℕ × SortEntry). x.0)

-- they are few
pub numbers_few : (t : Tables) (fs ds : List Function) → IsConsistent (of_tables t fs ds) → length t.table.sorts ≤ 4096
numbers_few t fs ds c = omega (arith, numbers_long t, c.origins.one_each, c.few.sorts)

-- more nodes change nothing of what is kept
module _ (facts : Facts) (t : Tables) (tab : IsTabled t) (nodes : List Node) (stay : Stay t.table.expressions nodes) where
  pub nodes_same : IsSameTables t (with_nodes t nodes)
  nodes_same = record {
    declared = refl;
    origins = facts.sorts (with_nodes t nodes).table (sorts_of t.table) (facts.stay t.table (with_nodes t nodes).table (sorts_of t.table) tab.stand refl stay);
    spellings = refl;
    determined = refl;
    symbols = refl;
    sorts = refl;
    ctors = refl;
    sels = refl;
  }

  pub nodes_standing : IsStanding (with_nodes t nodes)
  nodes_standing = record {
    declared = tab.declared;
    stand = subst (AreSorts (with_nodes t nodes).table) (sym nodes_same.origins) (facts.stay t.table (with_nodes t nodes).table (sorts_of t.table) tab.stand refl stay);
  }

  pub nodes_tabled : AreOrdered t.table.expressions → IsTabled (with_nodes t nodes)
  nodes_tabled ordered = same_tabled t (with_nodes t nodes) nodes_same tab nodes_standing (counted_stay t.generics.heads t.table.expressions nodes t.table.counts ordered stay tab.counted)

-- so it is with a table of which only the nodes are others
module _ (facts : Facts) (t : Tables) (tab : IsTabled t) (table : SortTable) (others : table ≡ record t.table { expressions = table.expressions }) (stay : Stay t.table.expressions table.expressions) where
  pub more_same : IsSameTables t (with_table t table)
  more_same = subst (λ (x : SortTable). IsSameTables t (with_table t x)) (sym others) (nodes_same facts t tab table.expressions stay)

  pub more_tabled : AreOrdered t.table.expressions → IsTabled (with_table t table)
  more_tabled ordered = subst (λ (x : SortTable). IsTabled (with_table t x)) (sym others) (nodes_tabled facts t tab table.expressions stay ordered)

-- a table whose sorts are the same
module _ (facts : Facts) (t : Tables) (standing : IsStanding t) (table : SortTable) (same : table.sorts ≡ t.table.sorts) (stay : Stay t.table.expressions table.expressions) where
  table_sorts : AreSorts table (sorts_of t.table)
  table_sorts = facts.stay t.table table (sorts_of t.table) standing.stand same stay

  table_origins : sorts_of table ≡ sorts_of t.table
  table_origins = facts.sorts table (sorts_of t.table) table_sorts

  pub table_standing : IsStanding (with_table t table)
  table_standing = record { declared = standing.declared; stand = subst (AreSorts table) (sym table_origins) table_sorts }

  pub table_grown : HaveGrown t (with_table t table)
  table_grown = record {
    heads = Begins-self (declared_of t.generics).heads;
    synonyms = Begins-self (declared_of t.generics).synonyms;
    spellings = Begins-self t.spellings;
    determined = Begins-self t.determined;
    symbols = Begins-self t.symbols;
    origins = ([], table_origins ∙ sym (append-nil (sorts_of t.table)));
    sorts = Begins-self t.sorts;
    ctors = Begins-self t.ctors;
    sels = Begins-self t.sels;
  }

-- the sort came into the table with all that it needs
pub record HasCome (t : Tables) (table : SortTable) (room : Room) (e : Expression) : Type 0 where
  pub added : List Expression
  pub is_added : IsAdded (declared_of t.generics).heads room (e ∷ []) (sorts_of t.table) added
  pub sorts : AreSorts table (sorts_of t.table ++ added)

pub has_come : (t : Tables) (table : SortTable) (room : Room) (e : Expression) → ((added : List Expression) × IsAdded (declared_of t.generics).heads room (e ∷ []) (sorts_of t.table) added × AreSorts table (sorts_of t.table ++ added)) → HasCome t table room e
has_come t table room e p = record { added = p.0; is_added = p.1; sorts = p.2 }

one_closed : (heads : List Head) (e : Expression) → IsExpression heads 0 e → AreExpressions heads 0 (e ∷ [])
one_closed heads e closed zero f at = subst (IsExpression heads 0) (same_Some e f at) closed
one_closed heads e closed (suc k) f at = absurd (none-some _ at)

drop_part : {X : Type 0} (xs ys : List X) (n : ℕ) → n ≡ length xs → drop n (xs ++ ys) ≡ ys
drop_part [] ys zero is = refl
drop_part [] ys (suc n) is = absurd (omega (arith, is))
drop_part (x ∷ xs) ys zero is = absurd (omega (arith, is))
drop_part (x ∷ xs) ys (suc n) is = drop_part xs ys n (omega (arith, is))

module _ (facts : Facts) (t : Tables) (tab : IsTabled t) (table : SortTable) (room : Room) (e : Expression) (c : HasCome t table room e) where
  pub come_origins : sorts_of table ≡ sorts_of t.table ++ c.added
  come_origins = facts.sorts table (sorts_of t.table ++ c.added) c.sorts

  come_stand : AreSorts table (sorts_of table)
  come_stand = subst (AreSorts table) (sym come_origins) c.sorts

  pub come_first : drop (length t.table.sorts) (sorts_of table) ≡ c.added
  come_first = ap (drop (length t.table.sorts)) come_origins ∙ drop_part (sorts_of t.table) c.added (length t.table.sorts) (numbers_long t)

  pub come_within : length t.table.sorts ≤ length table.sorts
  come_within = omega (arith, numbers_long t, numbers_long (with_table t table), ap length come_origins, length-append (sorts_of t.table) c.added)

  pub come_grown : HaveGrown t (with_table t table)
  come_grown = record {
    heads = Begins-self (declared_of t.generics).heads;
    synonyms = Begins-self (declared_of t.generics).synonyms;
    spellings = Begins-self t.spellings;
    determined = Begins-self t.determined;
    symbols = Begins-self t.symbols;
    origins = (c.added, come_origins);
    sorts = Begins-self t.sorts;
    ctors = Begins-self t.ctors;
    sels = Begins-self t.sels;
  }

  -- it is in the list then
  pub come_there : (i : ℕ) × (slice_get (sorts_of table) i ≡ Some e)
  come_there =
      let keeps = facts.keeps (declared_of t.generics).heads (e ∷ []) (sorts_of t.table) (sorts_of t.table ++ c.added) c.is_added.0 in
      let at = keeps.all 0 e refl in
      (at.0, ap (λ (xs : List Expression). slice_get xs at.0) come_origins ∙ at.1)

  module _ (fs ds : List Function) (is_room : room ≡ room_in (of_tables t fs ds)) where
    fits : Fits (declared_of t.generics).heads (room_in (of_tables t fs ds)) c.added
    fits = subst (λ (r : Room). Fits (declared_of t.generics).heads r c.added) is_room c.is_added.1

    pub come_accepted : HasNoRoom (of_tables t fs ds) (e ∷ []) → ⊥
    come_accepted without = without c.added (c.is_added.0, fits)

    module _ (consistent : IsConsistent (of_tables t fs ds)) (closed : IsExpression (declared_of t.generics).heads 0 e) where
      closed_all : AreExpressions (declared_of t.generics).heads 0 (e ∷ [])
      closed_all = one_closed (declared_of t.generics).heads e closed

      pub come_ready : AreReady (with_table t table)
      come_ready = ready facts t table fs ds consistent tab (e ∷ []) c.added come_stand come_origins closed_all c.is_added.0 fits

      pub come_few : AreWithin (with_table t table) c.added
      come_few = within facts t table fs ds consistent tab (e ∷ []) c.added come_stand come_origins closed_all c.is_added.0 fits

      module _ (new : Tables) (grown : IsGrownBy (with_table t table) new c.added) where
        pub come_consistent : IsConsistent (of_tables new fs ds)
        come_consistent = missing_consistent facts t table fs ds consistent tab (e ∷ []) c.added come_stand come_origins closed_all c.is_added.0 fits new grown

        pub come_tabled : IsStanding new → AreCounted new.generics new.table → IsTabled new
        come_tabled = missing_tabled facts t table fs ds consistent tab (e ∷ []) c.added come_stand come_origins closed_all c.is_added.0 fits new grown

  -- what is declared then
  pub come_with : (new : Tables) → IsGrownBy (with_table t table) new c.added → (gs hs : List Function) → room ≡ room_in (of_tables t gs hs) → IsWithSorts (of_tables t gs hs) (e ∷ []) (of_tables new gs hs)
  come_with new grown gs hs also = (
    c.added,
    (c.is_added.0, subst (λ (r : Room). Fits (declared_of t.generics).heads r c.added) also c.is_added.1),
    grown_is (with_table t table) new (sorts_of t.table) c.added come_origins grown grown.same.origins_same gs hs,
  )

  -- so it is where the entries came
  pub come_listed : (new : Tables) → IsGrownBy (with_table t table) new c.added → (i : ℕ) × (slice_get (sorts_of new.table) i ≡ Some e)
  come_listed new grown = (come_there.0, ap (λ (xs : List Expression). slice_get xs come_there.0) grown.same.origins_same ∙ come_there.1)

-- the sort at the number of an expression is this expression
pub origin_at : (t : Tables) (s : ℕ) (id : ExprId) (e : Expression) → AreSorts t.table (sorts_of t.table) → slice_get t.table.sorts s ≡ Some id → Stands t.table.expressions id.0 e → slice_get (sorts_of t.table) s ≡ Some e
origin_at t s id e stand at stands =
    let own = stand_at t.table.expressions t.table.sorts (sorts_of t.table) s id stand at in
    own.1 ∙ ap Some (stands_one t.table.expressions id.0 own.0 e own.2 stands)

-- with no sorts more they are the same
pub with_none : (d : Declarations) → d ≡ with_sorts d []
with_none d i = record {
  sorts = sym (append-nil d.sorts) i;
  ctors = sym (append-nil d.ctors) i;
  sels = sym (append-nil d.sels) i;
  functions = d.functions;
  definitions = d.definitions;
  declared = d.declared;
  spellings = d.spellings;
  origins = sym (append-nil d.origins) i;
}

-- a sort that is there needs no room
pub is_there : (d : Declarations) (s : ℕ) (e : Expression) → slice_get d.origins s ≡ Some e → IsAdded d.declared.heads (room_in d) (e ∷ []) d.origins []
is_there d s e at = (
  subst (Adds d.declared.heads (e ∷ []) d.origins) (sym (append-nil d.origins)) (there e [] d.origins d.origins (s, at) (none d.origins)),
  record { sorts = omega arith; ctors = omega arith; sels = omega arith; texts = λ i f found. absurd (none-some _ found) },
)

pub with_there : (d later : Declarations) (s : ℕ) (e : Expression) → later ≡ d → slice_get d.origins s ≡ Some e → IsWithSorts d (e ∷ []) later
with_there d later s e same at = ([], is_there d s e at, same ∙ with_none d)

-- what a written sort stands for is one, and no refusal
pub ok_not_err : (e : Expression) (n : ℕ) → ◌≡◌ {A = Result Expression ℕ} (Ok e) (Err n) → ⊥
ok_not_err e n same = absurd cc

pub one_ok : (a b : Expression) → ◌≡◌ {A = Result Expression ℕ} (Ok a) (Ok b) → a ≡ b
one_ok a b same = cc

-- a written sort for which there is room is not refused
pub no_refusal : (d : Declarations) (expr : SortExpr) (e : Expression) (n : ℕ) → resolved d.declared expr ≡ Ok e → (HasNoRoom d (e ∷ []) → ⊥) → IsInstanceRefusal d expr n → ⊥
no_refusal d expr e n is room (inl refused) = ok_not_err e n (sym is ∙ refused)
no_refusal d expr e n is room (inr (f, also, without, number)) = room (subst (λ (x : Expression). HasNoRoom d (x ∷ [])) (one_ok f e (sym also ∙ is)) without)

-- what the tables say of a sort that is there
module _ (t : Tables) (tab : IsTabled t) (id : ExprId) (s : ℕ) (at : slice_get t.table.sorts s ≡ Some id) where
  there_at : (e : Expression) → Stands t.table.expressions id.0 e → slice_get (sorts_of t.table) s ≡ Some e
  there_at e stands = origin_at t s id e tab.stand at stands

  pub there_with : (e : Expression) (fs ds : List Function) → Stands t.table.expressions id.0 e → IsWithSorts (of_tables t fs ds) (e ∷ []) (of_tables t fs ds) × (slice_get (sorts_of t.table) s ≡ Some e)
  there_with e fs ds stands = (with_there (of_tables t fs ds) (of_tables t fs ds) s e refl (there_at e stands), there_at e stands)

  pub there_accepted : (e : Expression) (fs ds : List Function) → Stands t.table.expressions id.0 e → HasNoRoom (of_tables t fs ds) (e ∷ []) → ⊥
  there_accepted e fs ds stands without = without [] (is_there (of_tables t fs ds) s e (there_at e stands))

  pub there_few : (fs ds : List Function) → IsConsistent (of_tables t fs ds) → s < 2 ^ 32
  there_few fs ds c = omega (arith, slice_get_within t.table.sorts s id at, numbers_few t fs ds c)

-- the error of a refused call is that of the call below
pub refused_by : {T : Type 0} (error : GenericError) (e : SigError) (n : ℕ) → ((e ≡ SigError.Refused n) ↔ (error ≡ GenericError.Refused n)) → ◌≡◌ {A = Result T SigError} (Err e) (Err (SigError.Refused n)) → error ≡ GenericError.Refused n
refused_by {T} error e n iff is = iff.0 (one e (SigError.Refused n) is)
  where
    one : (a b : SigError) → ◌≡◌ {A = Result T SigError} (Err a) (Err b) → a ≡ b
    one a b same = cc
