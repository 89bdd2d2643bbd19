-- What holds of the tables after the steps in which a block is declared.
use Rattle.std.proofs.Common.{◌≡◌, ℕ, ◌+◌, ◌<◌, ◌≤◌, ◌⊎◌, Bool, true, List, [], ◌∷◌, ◌++◌, length, map, drop, slice_get, Some, Ok, refl, sym, ◌∙◌, ap, ap₂, subst, inl, inr, arith, length-append}
use Rattle.std.specs.List.{flat_map}
use Rattle.std.proofs.Math.Seq.{drop-append_seam}
use Rattle.std.proofs.lemmas.List.{length-map}
use Rattle.ct_generics.specs.declared.decl.SortDecl.{SortDecl}
use Rattle.ct_generics.specs.declared.room.Room.{Room}
use Rattle.ct_generics.specs.Add.{Adds, Fits, IsAdded, field_sorts}
use Rattle.ct_generics.specs.Block.{heads_in, with_heads, IsBlockRefusal as IsRefusalOfHeads}
use Rattle.ct_generics.specs.Declarations.{Head}
use Rattle.ct_generics.specs.Denoted.{declared_of, expression_at, sorts_of}
use Rattle.ct_generics.specs.Expression.{Expression}
use Rattle.ct_generics.specs.SortTable.{AreCounted}
use Rattle.ct_generics.specs.WellFormed.{AreBlockParametersBelow}
use Rattle.ct_sorts.specs.declared.ids.Declared.{Declared as Given}
use Rattle.ct_sorts.specs.declared.ids.Kind.{Kind}
use Rattle.ct_sorts.specs.declared.ids.Kind.TheVariants.{Data, Codata}
use Rattle.ct_sorts.specs.declared.tables.Tables.{Tables}
use Rattle.ct_sorts.specs.Block.{HasNameTaken, IsLaterRefusal, IsWithBlock, block_ctors, block_spellings, given_from, has_no_constructor, own_fields, own_sorts, params_of, plain_from, with_own, with_own_sorts}
use Rattle.ct_sorts.specs.Consistent.{IsConsistent}
use Rattle.ct_sorts.specs.Declarations.{Declarations, Function}
use Rattle.ct_sorts.specs.Facts.{Facts}
use Rattle.ct_sorts.specs.Growing.{AreReady, AreWithin, IsGrownBy, IsStanding}
use Rattle.ct_sorts.specs.Instances.{HasNoRoom}
use Rattle.ct_sorts.specs.Kinds.{head_kind}
use Rattle.ct_sorts.specs.Limits.{room_in}
use Rattle.ct_sorts.specs.Room.{IsLeft, decl_fields}
use Rattle.ct_sorts.specs.Tabled.{of_tables, IsTabled}
use Rattle.ct_sorts.proofs.BlockLemmas.{IsAccepted}
use Rattle.ct_sorts.proofs.BlockTablesLemmas.{block_consistent, block_is, block_ready, block_tabled, block_within, own_symbols}
use Rattle.ct_sorts.proofs.DeclareLemmas.{AreSteps, accepted, added_is, ctors_within, entries_long, none_refused, room_with, sels_within, sorts_within, with_block, within_limits}
use Rattle.ct_sorts.proofs.HeadTablesLemmas.{AreWithHeads}

-- there is room for the sorts of the fields over the tables where there is over the declarations, and the other way round
module _ (t one two : Tables) (fs ds : List Function) (kind : Kind) (kinds : (kind ≡ Data) ⊎ (kind ≡ Codata)) (block : List SortDecl) (own : List Head) (first_head : ℕ) (left : Room) (c : IsConsistent (of_tables t fs ds))
    (heads : heads_in (declared_of t.generics) (head_kind kind) block ≡ Ok own) (first : first_head ≡ length (declared_of t.generics).heads)
    (one_is : one ≡ record t { generics = one.generics }) (declared : declared_of one.generics ≡ with_heads (declared_of t.generics) own)
    (two_is : two ≡ record one { spellings = two.spellings; determined = two.determined; symbols = two.symbols })
    (is_left : IsLeft (room_in (of_tables t fs ds)) left (length block) (length (block_ctors block)) (length (decl_fields (block_ctors block)))) where
  -- what is added over the tables
  abbrev IsAddedTo : List Expression → Type 0
  IsAddedTo added = IsAdded (declared_of two.generics).heads left (flat_map (field_sorts (declared_of two.generics).heads) (plain_from first_head (params_of block))) (sorts_of two.table ++ plain_from first_head (params_of block)) added

  pub added_over : (added : List Expression) → IsAddedTo added → IsAdded ((declared_of t.generics).heads ++ own) left (own_fields (of_tables t fs ds) own) (sorts_of t.table ++ own_sorts (of_tables t fs ds) own) added
  added_over added is = subst (λ (X : Type 0). X) (added_is t one two fs ds kind block own first_head left added heads first one_is declared two_is) is

  pub no_room : ((added : List Expression) → IsAddedTo added → ⊥) → HasNoRoom (with_own_sorts (of_tables t fs ds) own (block_spellings block)) (own_fields (of_tables t fs ds) own)
  no_room none added is =
      none added
      (subst (λ (X : Type 0). X) (sym (added_is t one two fs ds kind block own first_head left added heads first one_is declared two_is))
      (subst (λ (room : Room). IsAdded ((declared_of t.generics).heads ++ own) room (own_fields (of_tables t fs ds) own) (sorts_of t.table ++ own_sorts (of_tables t fs ds) own) added) (sym (room_with (of_tables t fs ds) kind kinds block own c heads left is_left)) is))

  pub some_room : (added : List Expression) → IsAddedTo added → HasNoRoom (with_own_sorts (of_tables t fs ds) own (block_spellings block)) (own_fields (of_tables t fs ds) own) → ⊥
  some_room added is none =
      none added (subst (λ (room : Room). IsAdded ((declared_of t.generics).heads ++ own) room (own_fields (of_tables t fs ds) own) (sorts_of t.table ++ own_sorts (of_tables t fs ds) own) added) (room_with (of_tables t fs ds) kind kinds block own c heads left is_left) (added_over added is))

  -- so nothing refuses the block
  pub declared_accepted : ((m : ℕ) → IsRefusalOfHeads (declared_of t.generics) (head_kind kind) block m → ⊥) → (added : List Expression) → IsAddedTo added → (n : ℕ) → IsLaterRefusal (of_tables t fs ds) kind block n → ⊥
  declared_accepted not_heads added is =
      none_refused (of_tables t fs ds) kind block own heads not_heads
      (within_limits (of_tables t fs ds) kind kinds block own c heads left is_left (sorts_within (of_tables t fs ds) c.within) (ctors_within (of_tables t fs ds) c.within) (sels_within (of_tables t fs ds) c.within))
      (some_room added is)

  -- the tables get ready for the entries
  module _ (facts : Facts) (mid : Tables) (added : List Expression) (tab : IsTabled t) (not_heads : (m : ℕ) → IsRefusalOfHeads (declared_of t.generics) (head_kind kind) block m → ⊥) (free : HasNameTaken (of_tables t fs ds) block → ⊥) (built : has_no_constructor block ≡ true → ⊥)
      (below : AreBlockParametersBelow block) (is_added : IsAddedTo added) (s : AreSteps t one two mid block own first_head added) where
    a : IsAccepted (of_tables t fs ds) kind block own
    a = accepted (of_tables t fs ds) kind kinds block own left heads not_heads free built is_left

    over : IsAdded ((declared_of t.generics).heads ++ own) left (own_fields (of_tables t fs ds) own) (sorts_of t.table ++ own_sorts (of_tables t fs ds) own) added
    over = added_over added is_added

    m : AreWithHeads t mid own (block_spellings block) (own_symbols t block) (own_sorts (of_tables t fs ds) own ++ added)
    m = with_block t fs ds kind block own heads first_head first one two mid added s

    pub declared_ready : AreReady mid
    declared_ready = block_ready facts t mid fs ds kind block own c tab a below added over.0 left is_left over.1 m

    -- those that are to get entries
    new_ones : (first_sort : ℕ) → first_sort ≡ length t.table.sorts → drop first_sort (sorts_of mid.table) ≡ own_sorts (of_tables t fs ds) own ++ added
    new_ones first_sort is =
        ap₂ drop (is ∙ sym (length-map t.table.sorts (expression_at t.table.expressions))) m.origins_are ∙ drop-append_seam (sorts_of t.table) (own_sorts (of_tables t fs ds) own ++ added)

    pub declared_within : (first_sort : ℕ) → first_sort ≡ length t.table.sorts → AreWithin mid (drop first_sort (sorts_of mid.table))
    declared_within first_sort is = subst (AreWithin mid) (sym (new_ones first_sort is)) (block_within facts t mid fs ds kind block own c tab a below added over.0 left is_left over.1 m)

    pub declared_first : (first_sort : ℕ) → first_sort ≡ length t.table.sorts → first_sort ≡ length mid.sorts
    declared_first first_sort is = is ∙ sym (entries_long t tab) ∙ ap length (sym m.sorts_same)

    pub declared_from : (first_sort : ℕ) → first_sort ≡ length t.table.sorts → first_sort ≤ length mid.table.sorts
    declared_from first_sort is =
        omega (
          arith,
          is,
          ap length m.origins_are,
          length-map mid.table.sorts (expression_at mid.table.expressions),
          length-map t.table.sorts (expression_at t.table.expressions),
          length-append (sorts_of t.table) (own_sorts (of_tables t fs ds) own ++ added),
        )

    module _ (new : Tables) (first_sort : ℕ) (is : first_sort ≡ length t.table.sorts) (grown : IsGrownBy mid new (drop first_sort (sorts_of mid.table))) where
      all_grown : IsGrownBy mid new (own_sorts (of_tables t fs ds) own ++ added)
      all_grown = subst (IsGrownBy mid new) (new_ones first_sort is) grown

      pub declared_with : (given : List Given) → given ≡ given_from (length t.table.sorts) first_head (params_of block) → (gs hs : List Function) → IsWithBlock (of_tables t gs hs) kind block given (of_tables new gs hs)
      declared_with given numbers gs hs = (
        own,
        heads,
        added,
        over.0,
        block_is facts t mid fs ds kind block own c tab a below added over.0 left is_left over.1 m new all_grown gs hs,
        numbers ∙ ap₂ (λ (n k : ℕ). given_from n k (params_of block)) (sym (length-map t.table.sorts (expression_at t.table.expressions)) ∙ c.origins.one_each) first,
      )

      pub declared_consistent : IsConsistent (of_tables new fs ds)
      declared_consistent = block_consistent facts t mid fs ds kind block own c tab a below added over.0 left is_left over.1 m new all_grown

      pub declared_tabled : IsStanding new → AreCounted new.generics new.table → IsTabled new
      declared_tabled standing counted = block_tabled facts t mid fs ds kind block own c tab a below added over.0 left is_left over.1 m new all_grown standing counted
