-- A block that is declared step by step: what each step asks for, and what the tables keep after the last.
use Rattle.std.proofs.Common.{◌≡◌, ℕ, zero, suc, ◌+◌, ◌-◌, ◌<◌, ◌≤◌, ◌⊎◌, ⊎_elim, inl, inr, Bool, true, List, [], ◌∷◌, ◌++◌, length, map, take, drop, slice_get, Option, Some, Ok, Err, IsErrOf, unwrap_or, refl, sym, ◌∙◌, ap, ap₂, subst, subst₂, arith, length-append}
use Rattle.std.specs.List.{AllZip, flat_map}
use Rattle.std.proofs.lemmas.List.{append_assoc, length-map, take_at}
use Rattle.std.proofs.lemmas.Option.{none-some, same_Some, slice_get_within}
use Rattle.ct_lemmas.proofs.Lists.{slice_get-append_after, slice_get-map_source}
use Rattle.ct_generics.specs.declared.decl.SortDecl.{SortDecl}
use Rattle.ct_generics.specs.declared.kind.Kind.{Kind as HeadKind}
use Rattle.ct_generics.specs.declared.nodes.ExprId.{ExprId}
use Rattle.ct_generics.specs.declared.generics.Generics.{Generics}
use Rattle.ct_generics.specs.declared.room.Room.{Room}
use Rattle.ct_generics.specs.declared.sort_table.SortTable.{SortTable}
use Rattle.ct_generics.specs.Add.{Adds, Fits, IsAdded, field_sorts, ctor_count, sel_count}
use Rattle.ct_generics.specs.Block.{heads_in, with_heads, IsBlockRefusal as IsRefusalOfHeads}
use Rattle.ct_generics.specs.Declarations.{Declared, Head}
use Rattle.ct_generics.specs.Denoted.{declared_of, expression_at, sorts_of}
use Rattle.ct_generics.specs.Expression.{Expression, named, substitute}
use Rattle.ct_generics.specs.Reach.{fields_of}
use Rattle.ct_generics.specs.Stored.{AreFree}
use Rattle.ct_sorts.specs.declared.error.SigError.{SigError}
use Rattle.ct_sorts.specs.declared.error.SigError.TheVariants.{Refused}
use Rattle.ct_sorts.specs.declared.entries.CtorEntry.{CtorEntry}
use Rattle.ct_sorts.specs.declared.entries.SelEntry.{SelEntry}
use Rattle.ct_sorts.specs.declared.entries.SortEntry.{SortEntry}
use Rattle.ct_sorts.specs.declared.ids.Declared.{Declared as Given}
use Rattle.ct_sorts.specs.declared.ids.Kind.{Kind}
use Rattle.ct_sorts.specs.declared.ids.Kind.TheVariants.{Data, Codata}
use Rattle.ct_sorts.specs.declared.ids.Symbol.{Symbol}
use Rattle.ct_sorts.specs.declared.spelling.Spelling.{Spelling}
use Rattle.ct_sorts.specs.declared.tables.Tables.{Tables}
use Rattle.ct_sorts.specs.Availability.{HasRefused, IsListed, IsUnavailable, IsUnavailableSort}
use Rattle.ct_sorts.specs.Block.{HasNameTaken, IsBlockRefusal, IsBlockTooMany, IsLaterRefusal, IsWithBlock, block_ctors, block_names, block_spellings, ctor_symbols, given_from, has_no_constructor, own_fields, own_sorts, params_of, plain_from, spelling, with_own, with_own_sorts}
use Rattle.ct_sorts.specs.Consistent.{IsConsistent}
use Rattle.ct_sorts.specs.Declarations.{Declarations, Function, declared_names, head_symbols, symbol_names, most_sorts, most_ctors, most_sels}
use Rattle.ct_sorts.specs.Determined.{AreMarked}
use Rattle.ct_sorts.specs.Growing.{IsGrownBy, IsStanding}
use Rattle.ct_sorts.specs.Heads.{NamesEach}
use Rattle.ct_sorts.specs.Instances.{HasNoRoom}
use Rattle.ct_sorts.specs.Kinds.{head_kind}
use Rattle.ct_sorts.specs.Limits.{IsOverLimits, generic_count, sort_count, ctor_count as total_ctors, sel_count as total_sels, room_in}
use Rattle.ct_sorts.specs.Lookup.{AreDistinct, names_of}
use Rattle.ct_sorts.specs.Made.{new_sorts, new_ctors, new_sels, shapes_of}
use Rattle.ct_sorts.specs.Refusals.{IsFirstCause, name_taken, no_constructor, too_many}
use Rattle.ct_sorts.specs.Room.{DoesNotFit, IsLeft, decl_fields}
use Rattle.ct_sorts.specs.Same.{sort_among}
use Rattle.ct_sorts.specs.Shapes.{SortShape, all_ctors, all_fields, shape_of, spelling_of}
use Rattle.ct_sorts.specs.SortText.{sort_text}
use Rattle.ct_sorts.specs.Stored.{ctor_of, sel_of}
use Rattle.ct_sorts.specs.Symbols.{block_symbols}
use Rattle.ct_sorts.specs.Tabled.{of_tables, IsTabled}
use Rattle.ct_sorts.proofs.BlockLemmas.{IsAccepted, not_above}
use Rattle.ct_sorts.proofs.BlockTablesLemmas.{own_symbols}
use Rattle.ct_sorts.proofs.HeadTablesLemmas.{AreWithHeads}
use Rattle.ct_sorts.proofs.Counts.{AreDistinct-middle}
use Rattle.ct_sorts.proofs.GetterLemmas.{heads_under}
use Rattle.ct_sorts.proofs.HeadLemmas.{head_there}
use Rattle.ct_sorts.proofs.LookupLemmas.{IsListed-either, IsListed-left}
use Rattle.ct_sorts.proofs.MadeLemmas.{length-new_sorts, length-new_ctors, length-new_sels}
use Rattle.ct_sorts.proofs.OwnLemmas.{IsHeadOf, distinct_after, distinct_swapped, generic_count-append, generic_ctors-append, generic_sels-append, heads_of_block, own_long, params_of_own}
use Rattle.ct_sorts.proofs.OwnSortsLemmas.{fields_rows, own_ctors, own_sels, plain_and_generic, plain_at}
use Rattle.ct_sorts.proofs.ShapeLemmas.{count_ctors, count_sels, names_each-map}

-- ---- names that are not refused

-- names of sorts that are not refused where these are declared are free where some of these are
pub free_names : (declared names xs : List (List ℕ)) → ((name : List ℕ) → IsListed names name → IsListed declared name) → (HasRefused IsUnavailableSort declared xs → ⊥) → AreFree names xs
free_names declared names [] among free = tt
free_names declared names (x ∷ xs) among free = (λ h. free (inl (inl (among x h))), free_names (declared ++ x ∷ []) (names ++ x ∷ []) xs more (λ h. free (inr h)))
  where
    more : (name : List ℕ) → IsListed (names ++ x ∷ []) name → IsListed (declared ++ x ∷ []) name
    more name h =
        ⊎_elim (λ old. IsListed-left declared (x ∷ []) name (among name old))
        (λ new. (length declared + new.0, slice_get-append_after declared (x ∷ []) new.0 ∙ new.1))
        (IsListed-either names (x ∷ []) name h)

pub heads_free : (d : Declarations) (block : List SortDecl) → (HasNameTaken d block → ⊥) → AreFree (map (λ (h : Head). h.name) d.declared.heads) (block_names block)
heads_free d block free = free_names (declared_names d) (map (λ (h : Head). h.name) d.declared.heads) (block_names block) (λ name h. IsListed-left (map (λ (h : Head). h.name) d.declared.heads) _ name h) (λ h. free (inl h))

pub symbols_fresh : (t : Tables) (fs ds : List Function) (block : List SortDecl) → IsConsistent (of_tables t fs ds) → IsTabled t → (HasNameTaken (of_tables t fs ds) block → ⊥) → AreDistinct (names_of t.symbols ++ ctor_symbols (block_ctors block))
symbols_fresh t fs ds block c tab free =
    let d = of_tables t fs ds in
    let own = ctor_symbols (block_ctors block) in
    let others = map (λ (f : Function). f.name) fs ++ map (λ (f : Function). f.name) ds in
    let all : AreDistinct ((head_symbols t.spellings ++ others) ++ own) = distinct_after IsUnavailable (λ declared name listed. inl listed) (symbol_names d) own c.distinct (λ h. free (inr h)) in
    subst (λ (ns : List (List ℕ)). AreDistinct (ns ++ own)) (sym tab.symbols) (AreDistinct-middle [] (head_symbols t.spellings ++ own) others (distinct_swapped (head_symbols t.spellings) others own all))

-- ---- how much there is with the block

-- the declaration of one of its sorts and generics
decl_of : (k : HeadKind) (block : List SortDecl) (own : List Head) (j : ℕ) (head : Head) → AllZip (IsHeadOf k) block own → slice_get own j ≡ Some head → (decl : SortDecl) × IsHeadOf k decl head × (slice_get (block_spellings block) j ≡ Some (map spelling decl.ctors))
decl_of k [] [] j head all at = absurd (none-some _ at)
decl_of k [] (h ∷ own) j head all at = absurd all
decl_of k (s ∷ block) [] j head all at = absurd all
decl_of k (s ∷ block) (h ∷ own) zero head all at = (s, subst (IsHeadOf k s) (same_Some _ _ at) all.0, refl)
decl_of k (s ∷ block) (h ∷ own) (suc j) head all at = decl_of k block own j head all.1 at

module _ (d : Declarations) (kind : Kind) (kinds : (kind ≡ Data) ⊎ (kind ≡ Codata)) (block : List SortDecl) (own : List Head) (c : IsConsistent d) (heads : heads_in d.declared (head_kind kind) block ≡ Ok own) where
  zip : AllZip (IsHeadOf (head_kind kind)) block own
  zip = heads_of_block d.declared (head_kind kind) block own heads

  in_all : (j : ℕ) (head : Head) → slice_get own j ≡ Some head → slice_get (d.declared.heads ++ own) (length d.declared.heads + j) ≡ Some head
  in_all j head at = slice_get-append_after d.declared.heads own j ∙ at

  own_named : (i : ℕ) (e : Expression) → slice_get (own_sorts d own) i ≡ Some e → AllZip NamesEach (spelling_of (d.spellings ++ block_spellings block) e) (fields_of (d.declared.heads ++ own) e)
  own_named i e at =
      let found = plain_at (length d.declared.heads) (map (λ (h : Head). h.params) own) i e at in
      let head = slice_get-map_source (λ (h : Head). h.params) own found.0 0 found.2 in
      let decl = decl_of (head_kind kind) block own found.0 head.0 zip head.1 in
      let row : slice_get (d.spellings ++ block_spellings block) (length d.declared.heads + found.0) ≡ Some (map spelling decl.0.ctors) =
      ap (λ (n : ℕ). slice_get (d.spellings ++ block_spellings block) (n + found.0)) (sym c.heads.one_each) ∙ slice_get-append_after d.spellings (block_spellings block) found.0 ∙ decl.2 in
      let rows = fields_rows kind kinds (d.declared.heads ++ own) (length d.declared.heads + found.0) head.0 (in_all found.0 head.0 head.1) decl.1.kind_is in
      subst (λ (x : Expression). AllZip NamesEach (spelling_of (d.spellings ++ block_spellings block) x) (fields_of (d.declared.heads ++ own) x)) (sym found.1)
      (subst₂ (AllZip NamesEach) (sym (ap (λ (o : Option (List Spelling)). unwrap_or o []) row)) (sym rows) (names_each-map (substitute []) (map spelling decl.0.ctors) head.0.ctors decl.1.named_each))

  abbrev with_it : Declarations
  with_it = with_own d own (block_spellings block)

  pub sorts_with : sort_count (with_own_sorts d own (block_spellings block)) ≡ sort_count d + length block
  sorts_with =
      omega (
        arith,
        length-append d.sorts (new_sorts (length d.ctors) (shapes_of with_it (own_sorts d own))),
        length-new_sorts (length d.ctors) (shapes_of with_it (own_sorts d own)),
        length-map (own_sorts d own) (shape_of (d.declared.heads ++ own) (d.spellings ++ block_spellings block)),
        plain_and_generic (length d.declared.heads) own,
        generic_count-append d.declared.heads own,
        own_long (head_kind kind) block own zip,
      )

  pub ctors_with : total_ctors (with_own_sorts d own (block_spellings block)) ≡ total_ctors d + length (block_ctors block)
  ctors_with =
      omega (
        arith,
        length-append d.ctors (new_ctors (length d.sorts) (length d.sels) (shapes_of with_it (own_sorts d own))),
        length-new_ctors (length d.sorts) (length d.sels) (shapes_of with_it (own_sorts d own)),
        count_ctors (d.declared.heads ++ own) (d.spellings ++ block_spellings block) (λ e. AllZip NamesEach (spelling_of (d.spellings ++ block_spellings block) e) (fields_of (d.declared.heads ++ own) e)) (λ e h. h) (own_sorts d own) own_named,
        own_ctors kind kinds (d.declared.heads ++ own) (length d.declared.heads) block own zip in_all,
        generic_ctors-append d.declared.heads own d.spellings (block_spellings block) (sym c.heads.one_each),
      )

  pub sels_with : total_sels (with_own_sorts d own (block_spellings block)) ≡ total_sels d + length (decl_fields (block_ctors block))
  sels_with =
      omega (
        arith,
        length-append d.sels (new_sels (sort_among (d.origins ++ own_sorts d own)) (length d.ctors) (all_ctors (shapes_of with_it (own_sorts d own)))),
        length-new_sels (sort_among (d.origins ++ own_sorts d own)) (length d.ctors) (all_ctors (shapes_of with_it (own_sorts d own))),
        count_sels (d.declared.heads ++ own) (d.spellings ++ block_spellings block) (λ e. AllZip NamesEach (spelling_of (d.spellings ++ block_spellings block) e) (fields_of (d.declared.heads ++ own) e)) (λ e h. h) (own_sorts d own) own_named,
        own_sels kind kinds (d.declared.heads ++ own) (length d.declared.heads) block own zip in_all,
        generic_sels-append d.declared.heads own d.spellings (block_spellings block) (sym c.heads.one_each),
      )

  -- a block that does not fit passes the limits
  pub over_limits : DoesNotFit (room_in d) (length block) (length (block_ctors block)) (length (decl_fields (block_ctors block))) → IsOverLimits (with_own_sorts d own (block_spellings block))
  over_limits (inl h) = inl (omega (arith, h, sorts_with))
  over_limits (inr (inl h)) = inr (inl (omega (arith, h, ctors_with)))
  over_limits (inr (inr h)) = inr (inr (omega (arith, h, sels_with)))

  -- what is left is the room with it
  module _ (left : Room) (is_left : IsLeft (room_in d) left (length block) (length (block_ctors block)) (length (decl_fields (block_ctors block)))) where
    pub room_with : left ≡ room_in (with_own_sorts d own (block_spellings block))
    room_with =
        let a : left.sorts ≡ most_sorts - sort_count (with_own_sorts d own (block_spellings block)) = omega (arith, is_left.sorts_left, sorts_with) in
        let b : left.ctors ≡ most_ctors - total_ctors (with_own_sorts d own (block_spellings block)) = omega (arith, is_left.ctors_left, ctors_with) in
        let e : left.sels ≡ most_sels - total_sels (with_own_sorts d own (block_spellings block)) = omega (arith, is_left.sels_left, sels_with) in
        λ i. record { sorts = a i; ctors = b i; sels = e i }

    pub within_limits : sort_count d ≤ most_sorts → total_ctors d ≤ most_ctors → total_sels d ≤ most_sels → IsOverLimits (with_own_sorts d own (block_spellings block)) → ⊥
    within_limits sorts ctors sels (inl h) = omega (arith, h, sorts_with, is_left.sorts_left, sorts)
    within_limits sorts ctors sels (inr (inl h)) = omega (arith, h, ctors_with, is_left.ctors_left, ctors)
    within_limits sorts ctors sels (inr (inr h)) = omega (arith, h, sels_with, is_left.sels_left, sels)

-- ---- which refusal it is

-- the block is refused for its sorts and generics
pub heads_refused : (d : Declarations) (kind : Kind) (block : List SortDecl) (n : ℕ) → IsRefusalOfHeads d.declared (head_kind kind) block n → IsLaterRefusal d kind block n
heads_refused d kind block n h = inl h

heads_one : (d : Declarations) (kind : Kind) (block : List SortDecl) (own other : List Head) → heads_in d.declared (head_kind kind) block ≡ Ok own → heads_in d.declared (head_kind kind) block ≡ Ok other → own ≡ other
heads_one d kind block own other e f = let same = sym e ∙ f in cc

-- or for what would be too many
pub many_refused : (d : Declarations) (kind : Kind) (block : List SortDecl) (own : List Head) → heads_in d.declared (head_kind kind) block ≡ Ok own → ((m : ℕ) → IsRefusalOfHeads d.declared (head_kind kind) block m → ⊥)
    → IsOverLimits (with_own_sorts d own (block_spellings block)) ⊎ HasNoRoom (with_own_sorts d own (block_spellings block)) (own_fields d own)
    → (n : ℕ) → n ≡ too_many → IsLaterRefusal d kind block n
many_refused d kind block own heads accepted many n is =
    inr (accepted, inl (is, λ other also. subst (λ (hs : List Head). IsOverLimits (with_own_sorts d hs (block_spellings block)) ⊎ HasNoRoom (with_own_sorts d hs (block_spellings block)) (own_fields d hs)) (heads_one d kind block own other heads also) many))

-- none of them applies
pub none_refused : (d : Declarations) (kind : Kind) (block : List SortDecl) (own : List Head) → heads_in d.declared (head_kind kind) block ≡ Ok own → ((m : ℕ) → IsRefusalOfHeads d.declared (head_kind kind) block m → ⊥)
    → (IsOverLimits (with_own_sorts d own (block_spellings block)) → ⊥) → (HasNoRoom (with_own_sorts d own (block_spellings block)) (own_fields d own) → ⊥)
    → (n : ℕ) → IsLaterRefusal d kind block n → ⊥
none_refused d kind block own heads accepted within room n (inl h) = accepted n h
none_refused d kind block own heads accepted within room n (inr (none, inl (is, cause))) = ⊎_elim within room (cause own heads)
none_refused d kind block own heads accepted within room n (inr (none, inr (other, later))) = later

-- ---- the tables step by step

-- with its sorts and generics, with the names of their constructors and fields, and with its sorts in the list
pub record AreSteps (t one two mid : Tables) (block : List SortDecl) (own : List Head) (first_head : ℕ) (added : List Expression) : Type 0 where
  pub first : first_head ≡ length (declared_of t.generics).heads
  pub one_is : one ≡ record t { generics = one.generics }
  pub declared : declared_of one.generics ≡ with_heads (declared_of t.generics) own
  pub two_is : two ≡ record one { spellings = two.spellings; determined = two.determined; symbols = two.symbols }
  pub spellings : two.spellings ≡ one.spellings ++ block_spellings block
  pub determined : AreMarked (declared_of one.generics).heads two.determined
  pub symbols : two.symbols ≡ one.symbols ++ block_symbols first_head (length one.ctors) (length one.sels) (params_of block) (block_spellings block)
  pub mid_is : mid ≡ record two { table = mid.table }
  pub origins : sorts_of mid.table ≡ (sorts_of two.table ++ plain_from first_head (params_of block)) ++ added
  pub standing : IsStanding mid

module _ (t : Tables) (fs ds : List Function) (kind : Kind) (block : List SortDecl) (own : List Head) (heads : heads_in (declared_of t.generics) (head_kind kind) block ≡ Ok own) (first_head : ℕ) (first : first_head ≡ length (declared_of t.generics).heads) where
  pub own_is : plain_from first_head (params_of block) ≡ own_sorts (of_tables t fs ds) own
  own_is = ap₂ plain_from first (sym (params_of_own (head_kind kind) block own (heads_of_block (declared_of t.generics) (head_kind kind) block own heads)))

  module _ (one two mid : Tables) (added : List Expression) (s : AreSteps t one two mid block own first_head added) where
    pub with_block : AreWithHeads t mid own (block_spellings block) (own_symbols t block) (own_sorts (of_tables t fs ds) own ++ added)
    with_block =
        let generics_two : two.generics ≡ one.generics = ap (λ (x : Tables). x.generics) s.two_is in
        let generics_mid : mid.generics ≡ one.generics = ap (λ (x : Tables). x.generics) s.mid_is ∙ generics_two in
        let table_two : two.table ≡ t.table = ap (λ (x : Tables). x.table) s.two_is ∙ ap (λ (x : Tables). x.table) s.one_is in
        let ctors_one : one.ctors ≡ t.ctors = ap (λ (x : Tables). x.ctors) s.one_is in
        let sels_one : one.sels ≡ t.sels = ap (λ (x : Tables). x.sels) s.one_is in
        record {
          standing = s.standing;
          declared = ap declared_of generics_mid ∙ s.declared;
          spellings = ap (λ (x : Tables). x.spellings) s.mid_is ∙ s.spellings ∙ ap (λ (x : Tables). x.spellings ++ block_spellings block) s.one_is;
          determined = subst₂ (λ (g : Generics) (m : List (List Bool)). AreMarked (declared_of g).heads m) (sym generics_mid) (sym (ap (λ (x : Tables). x.determined) s.mid_is)) s.determined;
          symbols =
              ap (λ (x : Tables). x.symbols) s.mid_is ∙ s.symbols
              ∙ ap (λ (x : Tables). x.symbols ++ block_symbols first_head (length one.ctors) (length one.sels) (params_of block) (block_spellings block)) s.one_is
              ∙ ap₂ (λ (x : List CtorEntry) (y : List SelEntry). t.symbols ++ block_symbols first_head (length x) (length y) (params_of block) (block_spellings block)) ctors_one sels_one
              ∙ ap (λ (n : ℕ). t.symbols ++ block_symbols n (length t.ctors) (length t.sels) (params_of block) (block_spellings block)) first;
          origins_are =
              s.origins
              ∙ ap₂ (λ (x : SortTable) (xs : List Expression). (sorts_of x ++ xs) ++ added) table_two own_is
              ∙ append_assoc (sorts_of t.table) (own_sorts (of_tables t fs ds) own) added;
          sorts_same = ap (λ (x : Tables). x.sorts) s.mid_is ∙ ap (λ (x : Tables). x.sorts) s.two_is ∙ ap (λ (x : Tables). x.sorts) s.one_is;
          ctors_same = ap (λ (x : Tables). x.ctors) s.mid_is ∙ ap (λ (x : Tables). x.ctors) s.two_is ∙ ctors_one;
          sels_same = ap (λ (x : Tables). x.sels) s.mid_is ∙ ap (λ (x : Tables). x.sels) s.two_is ∙ sels_one;
        }

-- what is added to the tables in the third step is what is added to the declarations
pub added_is : (t one two : Tables) (fs ds : List Function) (kind : Kind) (block : List SortDecl) (own : List Head) (first_head : ℕ) (left : Room) (added : List Expression)
    → heads_in (declared_of t.generics) (head_kind kind) block ≡ Ok own → first_head ≡ length (declared_of t.generics).heads
    → one ≡ record t { generics = one.generics } → declared_of one.generics ≡ with_heads (declared_of t.generics) own
    → two ≡ record one { spellings = two.spellings; determined = two.determined; symbols = two.symbols }
    → IsAdded (declared_of two.generics).heads left (flat_map (field_sorts (declared_of two.generics).heads) (plain_from first_head (params_of block))) (sorts_of two.table ++ plain_from first_head (params_of block)) added
    ≡ IsAdded ((declared_of t.generics).heads ++ own) left (own_fields (of_tables t fs ds) own) (sorts_of t.table ++ own_sorts (of_tables t fs ds) own) added
added_is t one two fs ds kind block own first_head left added heads first one_is declared two_is =
    let generics_two : declared_of two.generics ≡ with_heads (declared_of t.generics) own = ap (λ (x : Tables). declared_of x.generics) two_is ∙ declared in
    let table_two : two.table ≡ t.table = ap (λ (x : Tables). x.table) two_is ∙ ap (λ (x : Tables). x.table) one_is in
    let xs = plain_from first_head (params_of block) in
    ap₂ (λ (d : Declared) (table : SortTable). IsAdded d.heads left (flat_map (field_sorts d.heads) xs) (sorts_of table ++ xs) added) generics_two table_two
    ∙ ap (λ (ys : List Expression). IsAdded ((declared_of t.generics).heads ++ own) left (flat_map (field_sorts ((declared_of t.generics).heads ++ own)) ys) (sorts_of t.table ++ ys) added) (own_is t fs ds kind block own heads first_head first)

-- nothing refuses it
pub accepted : (d : Declarations) (kind : Kind) (kinds : (kind ≡ Data) ⊎ (kind ≡ Codata)) (block : List SortDecl) (own : List Head) (left : Room) → heads_in d.declared (head_kind kind) block ≡ Ok own → ((m : ℕ) → IsRefusalOfHeads d.declared (head_kind kind) block m → ⊥) → (HasNameTaken d block → ⊥) → (has_no_constructor block ≡ true → ⊥)
    → IsLeft (room_in d) left (length block) (length (block_ctors block)) (length (decl_fields (block_ctors block))) → IsAccepted d kind block own
accepted d kind kinds block own left heads refused free built is_left = record {
  kinds = kinds;
  heads = heads;
  refused = refused;
  free = free;
  built = built;
  sorts_fit = omega (arith, is_left.sorts_left);
  ctors_fit = omega (arith, is_left.ctors_left);
  sels_fit = omega (arith, is_left.sels_left);
}

-- ---- what the steps ask for

-- as many entries as sorts
pub entries_long : (t : Tables) → IsTabled t → length t.sorts ≡ length t.table.sorts
entries_long t tab =
    sym (length-map t.sorts (λ (x : List ℕ × SortEntry). x.0)) ∙ ap length tab.texts ∙ length-map (sorts_of t.table) (sort_text (declared_of t.generics).heads) ∙ length-map t.table.sorts (expression_at t.table.expressions)

-- no limit is passed
pub sorts_within : (d : Declarations) → (IsOverLimits d → ⊥) → sort_count d ≤ most_sorts
sorts_within d within = not_above most_sorts (sort_count d) (λ h. within (inl h))

pub ctors_within : (d : Declarations) → (IsOverLimits d → ⊥) → total_ctors d ≤ most_ctors
ctors_within d within = not_above most_ctors (total_ctors d) (λ h. within (inr (inl h)))

pub sels_within : (d : Declarations) → (IsOverLimits d → ⊥) → total_sels d ≤ most_sels
sels_within d within = not_above most_sels (total_sels d) (λ h. within (inr (inr h)))

module _ (t : Tables) (fs ds : List Function) (c : IsConsistent (of_tables t fs ds)) where
  module _ (block : List SortDecl) (left : Room) (is_left : IsLeft (room_in (of_tables t fs ds)) left (length block) (length (block_ctors block)) (length (decl_fields (block_ctors block)))) where
    pub heads_fit : length (declared_of t.generics).heads + length block ≤ most_sorts
    heads_fit = omega (arith, heads_under (of_tables t fs ds) c, is_left.sorts_left, sorts_within (of_tables t fs ds) c.within)

    pub table_fits : length t.table.sorts + length block ≤ most_sorts
    table_fits = omega (arith, c.origins.one_each, length-map t.table.sorts (expression_at t.table.expressions), is_left.sorts_left, sorts_within (of_tables t fs ds) c.within)

    pub ctors_fit : length t.ctors + length (block_ctors block) ≤ most_ctors
    ctors_fit = omega (arith, is_left.ctors_left, length-map t.ctors (ctor_of t.spellings), ctors_within (of_tables t fs ds) c.within)

    pub sels_fit : length t.sels + length (decl_fields (block_ctors block)) ≤ most_sels
    sels_fit = omega (arith, is_left.sels_left, length-map t.sels (sel_of t.spellings), sels_within (of_tables t fs ds) c.within)

  -- each sort without parameters in the list is one of those that are declared
  pub named_before : (s h : ℕ) → slice_get (sorts_of t.table) s ≡ Some (named h) → h < length (declared_of t.generics).heads
  named_before s h at =
      let head = head_there (slice_get (declared_of t.generics).heads h) 0 (c.origins.sorts s (named h) at) in
      slice_get_within (declared_of t.generics).heads h head.0 head.1

-- the number of a refusal
pub refused_number : {T : Type 0} (n : ℕ) → IsErrOf {T = T} (Err (Refused 16)) (Refused n) → n ≡ too_many
refused_number n e = cc

-- the first cause that applies
pub name_refused : (d : Declarations) (kind : Kind) (block : List SortDecl) (n : ℕ) → n ≡ name_taken → HasNameTaken d block → IsBlockRefusal d kind block n
name_refused d kind block n is taken = inl (is, taken)

pub bare_refused : {T : Type 0} (d : Declarations) (kind : Kind) (block : List SortDecl) (n : ℕ) → (HasNameTaken d block → ⊥) → has_no_constructor block ≡ true → IsErrOf {T = T} (Err (Refused 13)) (Refused n) → IsBlockRefusal d kind block n
bare_refused d kind block n free bare is = let number : n ≡ no_constructor = cc in inr (free, inl (number, bare))

pub later_refused : (d : Declarations) (kind : Kind) (block : List SortDecl) (n : ℕ) → (HasNameTaken d block → ⊥) → (has_no_constructor block ≡ true → ⊥) → IsLaterRefusal d kind block n → IsBlockRefusal d kind block n
later_refused d kind block n free built later = inr (free, inr (built, later))

pub all_accepted : (d : Declarations) (kind : Kind) (block : List SortDecl) → (HasNameTaken d block → ⊥) → (has_no_constructor block ≡ true → ⊥) → ((n : ℕ) → IsLaterRefusal d kind block n → ⊥) → (n : ℕ) → IsBlockRefusal d kind block n → ⊥
all_accepted d kind block free built later n (inl (is, taken)) = free taken
all_accepted d kind block free built later n (inr (other, inl (is, bare))) = built bare
all_accepted d kind block free built later n (inr (other, inr (some, refusal))) = later n refusal
