-- An uninterpreted sort that is declared step by step: what each step asks for, and what the tables keep after the last.
use Rattle.std.proofs.Common.{◌≡◌, ℕ, ◌+◌, ◌<◌, ◌≤◌, Bool, List, [], ◌∷◌, ◌++◌, length, map, drop, slice_get, Some, refl, sym, ◌∙◌, ap, ap₂, subst, subst₂, arith, length-append}
use Rattle.std.proofs.Math.Seq.{drop-append_seam}
use Rattle.std.proofs.lemmas.List.{append-nil, length-map}
use Rattle.ct_generics.specs.declared.generics.Generics.{Generics}
use Rattle.ct_generics.specs.declared.kind.Kind.TheVariants.{Free as OfFree}
use Rattle.ct_generics.specs.declared.sort_table.SortTable.{SortTable}
use Rattle.ct_generics.specs.Block.{with_heads}
use Rattle.ct_generics.specs.Declarations.{Declared, Head}
use Rattle.ct_generics.specs.Denoted.{declared_of, expression_at, sorts_of}
use Rattle.ct_generics.specs.Expression.{Expression, named}
use Rattle.ct_generics.specs.SortTable.{AreCounted}
use Rattle.ct_sorts.specs.declared.ids.Kind.TheVariants.{Free}
use Rattle.ct_sorts.specs.declared.tables.Tables.{Tables}
use Rattle.ct_sorts.specs.Availability.{IsUnavailableSort}
use Rattle.ct_sorts.specs.Block.{plain_from}
use Rattle.ct_sorts.specs.Consistent.{IsConsistent}
use Rattle.ct_sorts.specs.Declarations.{Function, declared_names, most_sorts, with_head, with_sort}
use Rattle.ct_sorts.specs.Determined.{AreMarked}
use Rattle.ct_sorts.specs.Facts.{Facts}
use Rattle.ct_sorts.specs.Growing.{AreReady, AreWithin, IsGrownBy, IsStanding}
use Rattle.ct_sorts.specs.Limits.{sort_count}
use Rattle.ct_sorts.specs.Tabled.{of_tables, IsTabled}
use Rattle.ct_sorts.proofs.DeclareLemmas.{entries_long, named_before}
use Rattle.ct_sorts.proofs.FreeLemmas.{free_head}
use Rattle.ct_sorts.proofs.FreeTablesLemmas.{free_consistent, free_ready, free_tabled, free_within, generic_is, sort_is}
use Rattle.ct_sorts.proofs.GetterLemmas.{heads_under}
use Rattle.ct_sorts.proofs.HeadTablesLemmas.{AreWithHeads}
use Rattle.ct_sorts.proofs.MarkedLemmas.{marked_more}

-- with the sort or generic, and with the sort in the list
pub record AreFreeSteps (t one mid : Tables) (name : List ℕ) (params first_head : ℕ) : Type 0 where
  pub first : first_head ≡ length (declared_of t.generics).heads
  pub one_is : one ≡ record t { generics = one.generics; spellings = one.spellings; determined = one.determined }
  pub declared : declared_of one.generics ≡ with_heads (declared_of t.generics) (free_head name params ∷ [])
  pub spellings : one.spellings ≡ t.spellings ++ [] ∷ []
  pub determined : one.determined ≡ t.determined ++ [] ∷ []
  pub mid_is : mid ≡ record one { table = mid.table }
  pub origins : sorts_of mid.table ≡ sorts_of one.table ++ plain_from first_head (params ∷ [])
  pub standing : IsStanding mid

module _ (t : Tables) (fs ds : List Function) (c : IsConsistent (of_tables t fs ds)) (room : sort_count (of_tables t fs ds) < most_sorts) where
  -- there is room for one more
  pub one_fits : length t.table.sorts < most_sorts
  one_fits = omega (arith, room, c.origins.one_each, length-map t.table.sorts (expression_at t.table.expressions))

  pub head_fits : length (declared_of t.generics).heads < most_sorts
  head_fits = omega (arith, room, heads_under (of_tables t fs ds) c)

  -- the next one is new
  pub next_fresh : (s : ℕ) → slice_get (sorts_of t.table) s ≡ Some (named (length (declared_of t.generics).heads)) → ⊥
  next_fresh s at = omega (arith, named_before t fs ds c s (length (declared_of t.generics).heads) at)

module _ (facts : Facts) (t one mid : Tables) (fs ds : List Function) (name : List ℕ) (params first_head : ℕ) (c : IsConsistent (of_tables t fs ds)) (tab : IsTabled t) (free : IsUnavailableSort (declared_names (of_tables t fs ds)) name → ⊥) (room : sort_count (of_tables t fs ds) < most_sorts) (s : AreFreeSteps t one mid name params first_head) where
  m : AreWithHeads t mid (free_head name params ∷ []) ([] ∷ []) [] (plain_from (length (declared_of t.generics).heads) (params ∷ []))
  m =
      let generics : mid.generics ≡ one.generics = ap (λ (x : Tables). x.generics) s.mid_is in
      let declared : declared_of mid.generics ≡ with_heads (declared_of t.generics) (free_head name params ∷ []) = ap declared_of generics ∙ s.declared in
      let determined : mid.determined ≡ t.determined ++ [] ∷ [] = ap (λ (x : Tables). x.determined) s.mid_is ∙ s.determined in
      record {
        standing = s.standing;
        declared = declared;
        spellings = ap (λ (x : Tables). x.spellings) s.mid_is ∙ s.spellings;
        determined = subst₂ AreMarked (sym (ap (λ (x : Declared). x.heads) declared)) (sym determined) (marked_more (declared_of t.generics).heads t.determined (free_head name params) [] tab.determined tt);
        symbols = ap (λ (x : Tables). x.symbols) s.mid_is ∙ ap (λ (x : Tables). x.symbols) s.one_is ∙ sym (append-nil t.symbols);
        origins_are =
            s.origins
            ∙ ap₂ (λ (x : SortTable) (n : ℕ). sorts_of x ++ plain_from n (params ∷ [])) (ap (λ (x : Tables). x.table) s.one_is) s.first;
        sorts_same = ap (λ (x : Tables). x.sorts) s.mid_is ∙ ap (λ (x : Tables). x.sorts) s.one_is;
        ctors_same = ap (λ (x : Tables). x.ctors) s.mid_is ∙ ap (λ (x : Tables). x.ctors) s.one_is;
        sels_same = ap (λ (x : Tables). x.sels) s.mid_is ∙ ap (λ (x : Tables). x.sels) s.one_is;
      }

  pub freed_ready : AreReady mid
  freed_ready = free_ready facts t mid fs ds name params c tab free room m

  module _ (first_sort : ℕ) (is : first_sort ≡ length t.table.sorts) where
    new_ones : drop first_sort (sorts_of mid.table) ≡ plain_from (length (declared_of t.generics).heads) (params ∷ [])
    new_ones =
        ap₂ drop (is ∙ sym (length-map t.table.sorts (expression_at t.table.expressions))) m.origins_are ∙ drop-append_seam (sorts_of t.table) (plain_from (length (declared_of t.generics).heads) (params ∷ []))

    pub freed_within : AreWithin mid (drop first_sort (sorts_of mid.table))
    freed_within = subst (AreWithin mid) (sym new_ones) (free_within facts t mid fs ds name params c tab free room m)

    pub freed_first : first_sort ≡ length mid.sorts
    freed_first = is ∙ sym (entries_long t tab) ∙ ap length (sym m.sorts_same)

    pub freed_from : first_sort ≤ length mid.table.sorts
    freed_from =
        omega (
          arith,
          is,
          ap length m.origins_are,
          length-map mid.table.sorts (expression_at mid.table.expressions),
          length-map t.table.sorts (expression_at t.table.expressions),
          length-append (sorts_of t.table) (plain_from (length (declared_of t.generics).heads) (params ∷ [])),
        )

    module _ (new : Tables) (grown : IsGrownBy mid new (drop first_sort (sorts_of mid.table))) where
      all_grown : IsGrownBy mid new (plain_from (length (declared_of t.generics).heads) (params ∷ []))
      all_grown = subst (IsGrownBy mid new) new_ones grown

      pub freed_plain : params ≡ 0 → (gs hs : List Function) → of_tables new gs hs ≡ with_sort (of_tables t gs hs) (record { name = name; kind = Free; ctors = [] })
      freed_plain none gs hs = sort_is facts t mid fs ds name params c tab free room m new all_grown none gs hs

      pub freed_generic : 0 < params → (gs hs : List Function) → of_tables new gs hs ≡ with_head (of_tables t gs hs) (free_head name params) []
      freed_generic some gs hs = generic_is facts t mid fs ds name params c tab free room m new all_grown some gs hs

      pub freed_consistent : IsConsistent (of_tables new fs ds)
      freed_consistent = free_consistent facts t mid fs ds name params c tab free room m new all_grown

      pub freed_tabled : IsStanding new → AreCounted new.generics new.table → IsTabled new
      freed_tabled standing counted = free_tabled facts t mid fs ds name params c tab free room m new all_grown standing counted
