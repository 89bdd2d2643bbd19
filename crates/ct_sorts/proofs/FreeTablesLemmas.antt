-- The tables with an uninterpreted sort, with parameters or without.
use Rattle.std.proofs.Common.{◌≡◌, ℕ, zero, suc, ◌+◌, ◌-◌, ◌<◌, ◌≤◌, ◌==◌, Bool, true, false, if◌then◌else◌, List, [], ◌∷◌, ◌++◌, length, slice_get, Option, Some, refl, sym, ◌∙◌, ap, ap₂, subst, subst₂, arith}
use Rattle.std.proofs.lemmas.List.{append-nil}
use Rattle.std.proofs.lemmas.Option.{none-some}
use Rattle.ct_generics.specs.declared.kind.Kind.TheVariants.{Free as OfFree}
use Rattle.ct_generics.specs.Denoted.{declared_of, sorts_of}
use Rattle.ct_generics.specs.Declarations.{Head}
use Rattle.ct_generics.specs.Expression.{Expression, named}
use Rattle.ct_generics.specs.Reach.{AreDifferent}
use Rattle.ct_generics.specs.Additions.{ComeAfterArguments, HaveFields}
use Rattle.ct_generics.specs.SortTable.{AreCounted}
use Rattle.ct_sorts.specs.declared.ids.Kind.TheVariants.{Free}
use Rattle.ct_sorts.specs.declared.ids.Symbol.{Symbol}
use Rattle.ct_sorts.specs.declared.spelling.Spelling.{Spelling}
use Rattle.ct_sorts.specs.declared.tables.Tables.{Tables}
use Rattle.ct_sorts.specs.Availability.{IsUnavailableSort}
use Rattle.ct_sorts.specs.Block.{plain_from, with_own}
use Rattle.ct_sorts.specs.Consistent.{IsConsistent}
use Rattle.ct_sorts.specs.Declarations.{Declarations, Function, declared_names, head_symbols, most_sorts, with_head, with_sort}
use Rattle.ct_sorts.specs.Facts.{Facts}
use Rattle.ct_sorts.specs.Grown.{Extends}
use Rattle.ct_sorts.specs.Growing.{AreReady, AreWithin, IsGrownBy, IsStanding}
use Rattle.ct_sorts.specs.Limits.{sort_count}
use Rattle.ct_sorts.specs.Lookup.{names_of}
use Rattle.ct_sorts.specs.Made.{with_sorts}
use Rattle.ct_sorts.specs.Origins.{HavePlainSorts}
use Rattle.ct_sorts.specs.Symbols.{all_symbols, ctors_at, plain_symbols, symbols_from, symbols_of_head}
use Rattle.ct_sorts.specs.Tabled.{of_tables, IsTabled}
use Rattle.ct_sorts.proofs.AllSymbolsLemmas.{symbols_longer}
use Rattle.ct_sorts.proofs.BaseLemmas.{IsBase}
use Rattle.ct_sorts.proofs.FreeLemmas.{base_with_free, free_head}
use Rattle.ct_sorts.proofs.FreeSortLemmas.{added_plain, added_none, with_sort_is}
use Rattle.ct_sorts.proofs.HeadTablesLemmas.{AreWithHeads, heads_consistent, heads_is, heads_ready, heads_tabled, heads_within}
use Rattle.ct_sorts.proofs.OwnPushLemmas.{plain_none, plain_one}
use Rattle.ct_sorts.proofs.SortsLemmas.{AreAdded}

module _ (facts : Facts) (t mid : Tables) (fs ds : List Function) (name : List ℕ) (params : ℕ) (c : IsConsistent (of_tables t fs ds)) (tab : IsTabled t) (free : IsUnavailableSort (declared_names (of_tables t fs ds)) name → ⊥) (room : sort_count (of_tables t fs ds) < most_sorts)
    (m : AreWithHeads t mid (free_head name params ∷ []) ([] ∷ []) [] (plain_from (length (declared_of t.generics).heads) (params ∷ []))) where
  -- the declarations with it
  abbrev d : Declarations
  d = of_tables t fs ds

  base : IsBase (with_own d (free_head name params ∷ []) ([] ∷ []))
  base = base_with_free facts d name params c free room

  is_added : AreAdded (with_own d (free_head name params ∷ []) ([] ∷ [])) (plain_from (length d.declared.heads) (params ∷ []))
  is_added =
      plain_one (AreAdded (with_own d (free_head name params ∷ []) ([] ∷ []))) (length d.declared.heads) params
      (λ none. subst (λ (n : ℕ). AreAdded (with_own d (free_head name n ∷ []) ([] ∷ [])) (named (length d.declared.heads) ∷ [])) (sym none) (added_plain facts d name c free room))
      (λ some. added_none facts d name params c free room some)

  pub free_ready : AreReady mid
  free_ready = heads_ready facts t mid fs ds (free_head name params ∷ []) ([] ∷ []) [] (plain_from (length d.declared.heads) (params ∷ [])) c tab base is_added m

  pub free_within : AreWithin mid (plain_from (length d.declared.heads) (params ∷ []))
  free_within = heads_within facts t mid fs ds (free_head name params ∷ []) ([] ∷ []) [] (plain_from (length d.declared.heads) (params ∷ [])) c tab base is_added m

  module _ (new : Tables) (grown : IsGrownBy mid new (plain_from (length (declared_of t.generics).heads) (params ∷ []))) where
    free_is : (gs hs : List Function) → of_tables new gs hs ≡ with_sorts (with_own (of_tables t gs hs) (free_head name params ∷ []) ([] ∷ [])) (plain_from (length d.declared.heads) (params ∷ []))
    free_is gs hs = heads_is facts t mid fs ds (free_head name params ∷ []) ([] ∷ []) [] (plain_from (length d.declared.heads) (params ∷ [])) c tab base is_added m new grown gs hs

    pub free_consistent : IsConsistent (of_tables new fs ds)
    free_consistent = heads_consistent facts t mid fs ds (free_head name params ∷ []) ([] ∷ []) [] (plain_from (length d.declared.heads) (params ∷ [])) c tab base is_added m new grown

    -- one with parameters adds no sort
    pub generic_is : 0 < params → (gs hs : List Function) → of_tables new gs hs ≡ with_head (of_tables t gs hs) (free_head name params) []
    generic_is some gs hs =
        free_is gs hs
        ∙ ap (with_sorts (with_own (of_tables t gs hs) (free_head name params ∷ []) ([] ∷ []))) (plain_none (length (declared_of t.generics).heads) params some)
        ∙ no_sorts (with_head (of_tables t gs hs) (free_head name params) [])
      where
        no_sorts : (e : Declarations) → with_sorts e [] ≡ e
        no_sorts e i = record e { sorts = append-nil e.sorts i; ctors = append-nil e.ctors i; sels = append-nil e.sels i; origins = append-nil e.origins i }

    -- one without is one more sort
    pub sort_is : params ≡ 0 → (gs hs : List Function) → of_tables new gs hs ≡ with_sort (of_tables t gs hs) (record { name = name; kind = Free; ctors = [] })
    sort_is none gs hs = ap (λ (x : Declarations). record x { functions = gs; definitions = hs }) here
      where
        here : of_tables new fs ds ≡ with_sort (of_tables t fs ds) (record { name = name; kind = Free; ctors = [] })
        here =
            free_is fs ds
            ∙ ap (λ (n : ℕ). with_sorts (with_own (of_tables t fs ds) (free_head name n ∷ []) ([] ∷ [])) (plain_from (length (declared_of t.generics).heads) (n ∷ []))) none
            ∙ sym (with_sort_is facts (of_tables t fs ds) name c free room)

    abbrev later : Declarations
    later = with_sorts (with_own (of_tables t fs ds) (free_head name params ∷ []) ([] ∷ [])) (plain_from (length (declared_of t.generics).heads) (params ∷ []))

    no_symbols : (h : ℕ) → symbols_from later h (free_head name params ∷ []) ([] ∷ []) ≡ []
    no_symbols h = by (params == 0)
      where
        by : (b : Bool) → ◌≡◌ {A = List (List ℕ × Symbol)} ((if b then [] else []) ++ []) []
        by true = refl
        by false = refl

    abbrev extends_later : Extends later (of_tables t fs ds)
    extends_later = record {
      sorts = (_, refl);
      ctors = (_, refl);
      sels = (_, refl);
      functions = ([], sym (append-nil fs));
      definitions = ([], sym (append-nil ds));
      heads = (free_head name params ∷ [], refl);
      synonyms = ([], sym (append-nil (declared_of t.generics).synonyms));
      spellings = ([] ∷ [], refl);
      origins = (plain_from (length (declared_of t.generics).heads) (params ∷ []), refl);
    }

    resolves : all_symbols later ≡ all_symbols (of_tables t fs ds) ++ []
    resolves = symbols_longer later (of_tables t fs ds) extends_later c ∙ ap (λ (xs : List (List ℕ × Symbol)). all_symbols (of_tables t fs ds) ++ xs) (no_symbols (length (declared_of t.generics).heads))

    pub free_tabled : IsStanding new → AreCounted new.generics new.table → IsTabled new
    free_tabled standing counted =
        heads_tabled facts t mid fs ds (free_head name params ∷ []) ([] ∷ []) [] (plain_from (length (declared_of t.generics).heads) (params ∷ [])) c tab base is_added m new grown resolves refl standing counted
