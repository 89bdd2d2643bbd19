use Rattle.std.proofs.Common.{◌≡◌, ℕ, ◌+◌, ◌<◌, ◌≤◌, ◌++◌, List, [], ◌∷◌, length, map, take, drop, Some, slice_get, inl, inr, refl, sym, ◌∙◌, ap, ap₂, subst, subst₂, arith, length-append}
use Rattle.std.proofs.lemmas.List.{take_at}
use Rattle.std.proofs.lemmas.Result.{err_from_is_err_and}
use Rattle.ct_generics.specs.declared.room.Room.{Room}
use Rattle.ct_generics.specs.declared.sort_table.SortTable.{SortTable}
use Rattle.ct_generics.specs.Declarations.{Declared, Head}
use Rattle.ct_generics.specs.Denoted.{declared_of, sorts_of}
use Rattle.ct_generics.specs.Expression.{named}
use Rattle.ct_sorts.specs.declared.error.SigError.TheVariants.{Refused}
use Rattle.ct_sorts.specs.declared.ids.Symbol.{Symbol}
use Rattle.ct_sorts.specs.declared.tables.Tables.{Tables}
use Rattle.ct_sorts.specs.Block.{block_ctors, ctor_symbols, given_from, params_of}
use Rattle.ct_sorts.specs.Declarations.{Function}
use Rattle.ct_sorts.specs.Determined.{AreMarked}
use Rattle.ct_sorts.specs.Growing.{HaveGrown, IsStanding}
use Rattle.ct_sorts.specs.Limits.{room_in}
use Rattle.ct_sorts.specs.Lookup.{AreDistinct, names_of}
use Rattle.ct_sorts.specs.Room.{DoesNotFit, IsLeft, decl_fields}
use Rattle.ct_sorts.specs.Tabled.{of_tables}
use Rattle.ct_sorts.proofs.DeclareLemmas.{AreSteps, ctors_fit, heads_fit, heads_free, heads_refused, many_refused, named_before, over_limits, refused_number, sels_fit, symbols_fresh, table_fits}
use Rattle.ct_sorts.proofs.DeclaredLemmas.{declared_accepted, declared_consistent, declared_first, declared_from, declared_ready, declared_tabled, declared_with, declared_within, no_room}
use Rattle.ct_sorts.proofs.GrowLemmas.{grown_further}
use Rattle.ct_sorts.proofs.StepLemmas.{err_cast}
use Rattle.ct_sorts.proofs.block.try_block.Goals as goal

pub room_in-room-requires-clause-declared : goal.room_in-room-requires-clause-declared
room_in-room-requires-clause-declared c =
    c.requires.tabled.declared

pub room_in-room-requires-clause-within : goal.room_in-room-requires-clause-within
room_in-room-requires-clause-within c =
    (c.requires.free.0, c.requires.free.1, c.requires.free.2.within)

pub declare_heads-requires-clause-standing : goal.declare_heads-requires-clause-standing
declare_heads-requires-clause-standing c =
    record { declared = c.requires.tabled.declared; stand = c.requires.tabled.stand }

pub declare_heads-requires-clause-free : goal.declare_heads-requires-clause-free
declare_heads-requires-clause-free c =
    heads_free (of_tables c.args.tables.now c.requires.free.0 c.requires.free.1) c.args.block.now c.requires.free.3

pub returns-in_err-declare_heads-clause-refused : goal.returns-in_err-declare_heads-clause-refused
returns-in_err-declare_heads-clause-refused c =
    let p = err_from_is_err_and c.from_residual.result c.from_residual.ensures.1 in
    rw (p.1, p.2) (λ n fs ds err. heads_refused (of_tables c.args.tables.now fs ds) c.args.kind c.args.block.now n (c.in_err-declare_heads.ensures.refused n (err_cast _ (Refused n) err)))

pub returns-in_default-clause-refused : goal.returns-in_default-clause-refused
returns-in_default-clause-refused c =
    let t = c.args.tables.now in
    let fs = c.requires.free.0 in
    let ds = c.requires.free.1 in
    let d = of_tables t fs ds in
    let block = c.args.block.now in
    let one = c.declare_heads.new.tables in
    let own = c.in_ok-declare_heads.ensures.ok in
    let unfit = subst (λ (room : Room). DoesNotFit room (length block) (length (block_ctors block)) (length (decl_fields (block_ctors block)))) (c.room_in-room.ensures.room fs ds) c.in_default.ensures.none in
    λ n gs hs err. many_refused (of_tables t gs hs) c.args.kind block own.0 own.1 c.in_ok-declare_heads.ensures.accepted (inl (over_limits d c.args.kind c.requires.kind block own.0 c.requires.free.2 own.1 unfit)) n (refused_number n err)

pub declare_symbols-requires-clause-standing : goal.declare_symbols-requires-clause-standing
declare_symbols-requires-clause-standing c =
    c.declare_heads.ensures.standing

pub declare_symbols-requires-clause-first : goal.declare_symbols-requires-clause-first
declare_symbols-requires-clause-first c =
    let t = c.args.tables.now in
    let fs = c.requires.free.0 in
    let ds = c.requires.free.1 in
    let d = of_tables t fs ds in
    let block = c.args.block.now in
    let first : c.head_count-first_head.result ≡ length (declared_of t.generics).heads = c.head_count-first_head.ensures.count (declared_of t.generics) c.requires.tabled.declared in
    first ∙ sym c.requires.tabled.determined.one_each ∙ ap (λ (x : Tables). length x.determined) (sym c.declare_heads.ensures.others)

pub declare_symbols-requires-clause-within : goal.declare_symbols-requires-clause-within
declare_symbols-requires-clause-within c =
    let t = c.args.tables.now in
    let fs = c.requires.free.0 in
    let ds = c.requires.free.1 in
    let d = of_tables t fs ds in
    let block = c.args.block.now in
    let first : c.head_count-first_head.result ≡ length (declared_of t.generics).heads = c.head_count-first_head.ensures.count (declared_of t.generics) c.requires.tabled.declared in
    let one = c.declare_heads.new.tables in
    let own = c.in_ok-declare_heads.ensures.ok in
    omega (arith, first, ap (λ (x : Declared). length x.heads) own.2, length-append (declared_of t.generics).heads own.0)

pub declare_symbols-requires-clause-marked : goal.declare_symbols-requires-clause-marked
declare_symbols-requires-clause-marked c =
    let t = c.args.tables.now in
    let fs = c.requires.free.0 in
    let ds = c.requires.free.1 in
    let d = of_tables t fs ds in
    let block = c.args.block.now in
    let first : c.head_count-first_head.result ≡ length (declared_of t.generics).heads = c.head_count-first_head.ensures.count (declared_of t.generics) c.requires.tabled.declared in
    let one = c.declare_heads.new.tables in
    let own = c.in_ok-declare_heads.ensures.ok in
    subst₂ AreMarked (sym (ap (λ (x : Declared). take c.head_count-first_head.result x.heads) own.2 ∙ take_at (declared_of t.generics).heads own.0 c.head_count-first_head.result (sym first))) (ap (λ (x : Tables). x.determined) (sym c.declare_heads.ensures.others)) c.requires.tabled.determined

pub declare_symbols-requires-clause-heads_few : goal.declare_symbols-requires-clause-heads_few
declare_symbols-requires-clause-heads_few c =
    let t = c.args.tables.now in
    let fs = c.requires.free.0 in
    let ds = c.requires.free.1 in
    let d = of_tables t fs ds in
    let block = c.args.block.now in
    let first : c.head_count-first_head.result ≡ length (declared_of t.generics).heads = c.head_count-first_head.ensures.count (declared_of t.generics) c.requires.tabled.declared in
    let is_left : IsLeft (room_in d) c.in-Some.left (length block) (length (block_ctors block)) (length (decl_fields (block_ctors block))) = subst (λ (room : Room). IsLeft room c.in-Some.left (length block) (length (block_ctors block)) (length (decl_fields (block_ctors block)))) (c.room_in-room.ensures.room fs ds) c.in-Some.ensures.left in
    omega (arith, first, heads_fit t fs ds c.requires.free.2 block c.in-Some.left is_left)

pub declare_symbols-requires-clause-ctors_few : goal.declare_symbols-requires-clause-ctors_few
declare_symbols-requires-clause-ctors_few c =
    let t = c.args.tables.now in
    let fs = c.requires.free.0 in
    let ds = c.requires.free.1 in
    let d = of_tables t fs ds in
    let block = c.args.block.now in
    let is_left : IsLeft (room_in d) c.in-Some.left (length block) (length (block_ctors block)) (length (decl_fields (block_ctors block))) = subst (λ (room : Room). IsLeft room c.in-Some.left (length block) (length (block_ctors block)) (length (decl_fields (block_ctors block)))) (c.room_in-room.ensures.room fs ds) c.in-Some.ensures.left in
    omega (arith, ap (λ (x : Tables). length x.ctors) c.declare_heads.ensures.others, ctors_fit t fs ds c.requires.free.2 block c.in-Some.left is_left)

pub declare_symbols-requires-clause-sels_few : goal.declare_symbols-requires-clause-sels_few
declare_symbols-requires-clause-sels_few c =
    let t = c.args.tables.now in
    let fs = c.requires.free.0 in
    let ds = c.requires.free.1 in
    let d = of_tables t fs ds in
    let block = c.args.block.now in
    let is_left : IsLeft (room_in d) c.in-Some.left (length block) (length (block_ctors block)) (length (decl_fields (block_ctors block))) = subst (λ (room : Room). IsLeft room c.in-Some.left (length block) (length (block_ctors block)) (length (decl_fields (block_ctors block)))) (c.room_in-room.ensures.room fs ds) c.in-Some.ensures.left in
    omega (arith, ap (λ (x : Tables). length x.sels) c.declare_heads.ensures.others, sels_fit t fs ds c.requires.free.2 block c.in-Some.left is_left)

pub declare_symbols-requires-clause-fresh : goal.declare_symbols-requires-clause-fresh
declare_symbols-requires-clause-fresh c =
    let t = c.args.tables.now in
    let fs = c.requires.free.0 in
    let ds = c.requires.free.1 in
    let d = of_tables t fs ds in
    let block = c.args.block.now in
    subst (λ (xs : List (List ℕ × Symbol)). AreDistinct (names_of xs ++ ctor_symbols (block_ctors block))) (ap (λ (x : Tables). x.symbols) (sym c.declare_heads.ensures.others)) (symbols_fresh t fs ds block c.requires.free.2 c.requires.tabled c.requires.free.3)

pub returns-in_err-declare_symbols-clause-grown : goal.returns-in_err-declare_symbols-clause-grown
returns-in_err-declare_symbols-clause-grown c =
    grown_further c.args.tables.now c.declare_heads.new.tables c.declare_symbols.new.tables c.declare_heads.ensures.grown c.declare_symbols.ensures.grown

pub returns-in_err-declare_symbols-clause-standing : goal.returns-in_err-declare_symbols-clause-standing
returns-in_err-declare_symbols-clause-standing c =
    c.declare_symbols.ensures.standing

pub add_own-requires-clause-standing : goal.add_own-requires-clause-standing
add_own-requires-clause-standing c =
    c.declare_symbols.ensures.standing

pub add_own-requires-clause-fresh : goal.add_own-requires-clause-fresh
add_own-requires-clause-fresh c =
    let t = c.args.tables.now in
    let fs = c.requires.free.0 in
    let ds = c.requires.free.1 in
    let d = of_tables t fs ds in
    let block = c.args.block.now in
    let first : c.head_count-first_head.result ≡ length (declared_of t.generics).heads = c.head_count-first_head.ensures.count (declared_of t.generics) c.requires.tabled.declared in
    let two = c.declare_symbols.new.tables in
    let table : two.table ≡ t.table = ap (λ (x : Tables). x.table) c.declare_symbols.ensures.others ∙ ap (λ (x : Tables). x.table) c.declare_heads.ensures.others in
    subst₂ (λ (x : SortTable) (n : ℕ). (s h : ℕ) → slice_get (sorts_of x) s ≡ Some (named h) → h < n) (sym table) (sym first) (named_before t fs ds c.requires.free.2)

pub add_own-requires-clause-sorts_few : goal.add_own-requires-clause-sorts_few
add_own-requires-clause-sorts_few c =
    let t = c.args.tables.now in
    let fs = c.requires.free.0 in
    let ds = c.requires.free.1 in
    let d = of_tables t fs ds in
    let block = c.args.block.now in
    let two = c.declare_symbols.new.tables in
    let table : two.table ≡ t.table = ap (λ (x : Tables). x.table) c.declare_symbols.ensures.others ∙ ap (λ (x : Tables). x.table) c.declare_heads.ensures.others in
    let is_left : IsLeft (room_in d) c.in-Some.left (length block) (length (block_ctors block)) (length (decl_fields (block_ctors block))) = subst (λ (room : Room). IsLeft room c.in-Some.left (length block) (length (block_ctors block)) (length (decl_fields (block_ctors block)))) (c.room_in-room.ensures.room fs ds) c.in-Some.ensures.left in
    omega (arith, ap (λ (x : SortTable). length x.sorts) table, table_fits t fs ds c.requires.free.2 block c.in-Some.left is_left)

pub add_own-requires-clause-heads_few : goal.add_own-requires-clause-heads_few
add_own-requires-clause-heads_few c =
    let t = c.args.tables.now in
    let fs = c.requires.free.0 in
    let ds = c.requires.free.1 in
    let d = of_tables t fs ds in
    let block = c.args.block.now in
    let first : c.head_count-first_head.result ≡ length (declared_of t.generics).heads = c.head_count-first_head.ensures.count (declared_of t.generics) c.requires.tabled.declared in
    let is_left : IsLeft (room_in d) c.in-Some.left (length block) (length (block_ctors block)) (length (decl_fields (block_ctors block))) = subst (λ (room : Room). IsLeft room c.in-Some.left (length block) (length (block_ctors block)) (length (decl_fields (block_ctors block)))) (c.room_in-room.ensures.room fs ds) c.in-Some.ensures.left in
    omega (arith, first, heads_fit t fs ds c.requires.free.2 block c.in-Some.left is_left)

pub returns-in_err-given-clause-refused : goal.returns-in_err-given-clause-refused
returns-in_err-given-clause-refused c =
    let t = c.args.tables.now in
    let fs = c.requires.free.0 in
    let ds = c.requires.free.1 in
    let d = of_tables t fs ds in
    let block = c.args.block.now in
    let first : c.head_count-first_head.result ≡ length (declared_of t.generics).heads = c.head_count-first_head.ensures.count (declared_of t.generics) c.requires.tabled.declared in
    let one = c.declare_heads.new.tables in
    let own = c.in_ok-declare_heads.ensures.ok in
    let two = c.declare_symbols.new.tables in
    let is_left : IsLeft (room_in d) c.in-Some.left (length block) (length (block_ctors block)) (length (decl_fields (block_ctors block))) = subst (λ (room : Room). IsLeft room c.in-Some.left (length block) (length (block_ctors block)) (length (decl_fields (block_ctors block)))) (c.room_in-room.ensures.room fs ds) c.in-Some.ensures.left in
    let p = err_from_is_err_and c.from_residual-in_err-given.result c.from_residual-in_err-given.ensures.1 in
    rw (p.1, p.2) (λ n gs hs err.
    let cause = c.in_err-given.ensures.refused n err in
    many_refused (of_tables t gs hs) c.args.kind block own.0 own.1 c.in_ok-declare_heads.ensures.accepted (inr (no_room t one two fs ds c.args.kind c.requires.kind block own.0 c.head_count-first_head.result c.in-Some.left c.requires.free.2 own.1 first c.declare_heads.ensures.others own.2 c.declare_symbols.ensures.others is_left cause.1)) n cause.0)

pub returns-in_err-given-clause-grown : goal.returns-in_err-given-clause-grown
returns-in_err-given-clause-grown c =
    grown_further c.args.tables.now c.declare_symbols.new.tables c.add_own.new.tables (grown_further c.args.tables.now c.declare_heads.new.tables c.declare_symbols.new.tables c.declare_heads.ensures.grown c.declare_symbols.ensures.grown) c.add_own.ensures.grown

pub returns-in_err-given-clause-standing : goal.returns-in_err-given-clause-standing
returns-in_err-given-clause-standing c =
    c.add_own.ensures.standing

pub push_sorts-requires-clause-ready : goal.push_sorts-requires-clause-ready
push_sorts-requires-clause-ready c =
    let t = c.args.tables.now in
    let fs = c.requires.free.0 in
    let ds = c.requires.free.1 in
    let d = of_tables t fs ds in
    let block = c.args.block.now in
    let first : c.head_count-first_head.result ≡ length (declared_of t.generics).heads = c.head_count-first_head.ensures.count (declared_of t.generics) c.requires.tabled.declared in
    let one = c.declare_heads.new.tables in
    let own = c.in_ok-declare_heads.ensures.ok in
    let is_left : IsLeft (room_in d) c.in-Some.left (length block) (length (block_ctors block)) (length (decl_fields (block_ctors block))) = subst (λ (room : Room). IsLeft room c.in-Some.left (length block) (length (block_ctors block)) (length (decl_fields (block_ctors block)))) (c.room_in-room.ensures.room fs ds) c.in-Some.ensures.left in
    let two = c.declare_symbols.new.tables in
    let mid = c.add_own.new.tables in
    let added = c.in_ok-given.ensures.ok in
    let steps : AreSteps t one two mid block own.0 c.head_count-first_head.result added.0 =
    record {
      first = first;
      one_is = c.declare_heads.ensures.others;
      declared = own.2;
      two_is = c.declare_symbols.ensures.others;
      spellings = c.in_ok-declare_symbols.ensures.spellings;
      determined = c.in_ok-declare_symbols.ensures.determined;
      symbols = c.in_ok-declare_symbols.ensures.symbols;
      mid_is = c.add_own.ensures.others;
      origins = added.1;
      standing = c.add_own.ensures.standing;
    } in
    declared_ready t one two fs ds c.args.kind c.requires.kind block own.0 c.head_count-first_head.result c.in-Some.left c.requires.free.2 own.1 first c.declare_heads.ensures.others own.2 c.declare_symbols.ensures.others is_left c.facts.ensures.all mid added.0 c.requires.tabled c.in_ok-declare_heads.ensures.accepted c.requires.free.3 c.requires.built c.requires.parameters added.2 steps

pub push_sorts-requires-clause-first : goal.push_sorts-requires-clause-first
push_sorts-requires-clause-first c =
    let t = c.args.tables.now in
    let fs = c.requires.free.0 in
    let ds = c.requires.free.1 in
    let d = of_tables t fs ds in
    let block = c.args.block.now in
    let first : c.head_count-first_head.result ≡ length (declared_of t.generics).heads = c.head_count-first_head.ensures.count (declared_of t.generics) c.requires.tabled.declared in
    let one = c.declare_heads.new.tables in
    let own = c.in_ok-declare_heads.ensures.ok in
    let is_left : IsLeft (room_in d) c.in-Some.left (length block) (length (block_ctors block)) (length (decl_fields (block_ctors block))) = subst (λ (room : Room). IsLeft room c.in-Some.left (length block) (length (block_ctors block)) (length (decl_fields (block_ctors block)))) (c.room_in-room.ensures.room fs ds) c.in-Some.ensures.left in
    let two = c.declare_symbols.new.tables in
    let mid = c.add_own.new.tables in
    let added = c.in_ok-given.ensures.ok in
    let steps : AreSteps t one two mid block own.0 c.head_count-first_head.result added.0 =
    record {
      first = first;
      one_is = c.declare_heads.ensures.others;
      declared = own.2;
      two_is = c.declare_symbols.ensures.others;
      spellings = c.in_ok-declare_symbols.ensures.spellings;
      determined = c.in_ok-declare_symbols.ensures.determined;
      symbols = c.in_ok-declare_symbols.ensures.symbols;
      mid_is = c.add_own.ensures.others;
      origins = added.1;
      standing = c.add_own.ensures.standing;
    } in
    declared_first t one two fs ds c.args.kind c.requires.kind block own.0 c.head_count-first_head.result c.in-Some.left c.requires.free.2 own.1 first c.declare_heads.ensures.others own.2 c.declare_symbols.ensures.others is_left c.facts.ensures.all mid added.0 c.requires.tabled c.in_ok-declare_heads.ensures.accepted c.requires.free.3 c.requires.built c.requires.parameters added.2 steps c.len-first_sort.result c.len-first_sort.ensures.len

pub push_sorts-requires-clause-within : goal.push_sorts-requires-clause-within
push_sorts-requires-clause-within c =
    let t = c.args.tables.now in
    let fs = c.requires.free.0 in
    let ds = c.requires.free.1 in
    let d = of_tables t fs ds in
    let block = c.args.block.now in
    let first : c.head_count-first_head.result ≡ length (declared_of t.generics).heads = c.head_count-first_head.ensures.count (declared_of t.generics) c.requires.tabled.declared in
    let one = c.declare_heads.new.tables in
    let own = c.in_ok-declare_heads.ensures.ok in
    let is_left : IsLeft (room_in d) c.in-Some.left (length block) (length (block_ctors block)) (length (decl_fields (block_ctors block))) = subst (λ (room : Room). IsLeft room c.in-Some.left (length block) (length (block_ctors block)) (length (decl_fields (block_ctors block)))) (c.room_in-room.ensures.room fs ds) c.in-Some.ensures.left in
    let two = c.declare_symbols.new.tables in
    let mid = c.add_own.new.tables in
    let added = c.in_ok-given.ensures.ok in
    let steps : AreSteps t one two mid block own.0 c.head_count-first_head.result added.0 =
    record {
      first = first;
      one_is = c.declare_heads.ensures.others;
      declared = own.2;
      two_is = c.declare_symbols.ensures.others;
      spellings = c.in_ok-declare_symbols.ensures.spellings;
      determined = c.in_ok-declare_symbols.ensures.determined;
      symbols = c.in_ok-declare_symbols.ensures.symbols;
      mid_is = c.add_own.ensures.others;
      origins = added.1;
      standing = c.add_own.ensures.standing;
    } in
    declared_from t one two fs ds c.args.kind c.requires.kind block own.0 c.head_count-first_head.result c.in-Some.left c.requires.free.2 own.1 first c.declare_heads.ensures.others own.2 c.declare_symbols.ensures.others is_left c.facts.ensures.all mid added.0 c.requires.tabled c.in_ok-declare_heads.ensures.accepted c.requires.free.3 c.requires.built c.requires.parameters added.2 steps c.len-first_sort.result c.len-first_sort.ensures.len

pub push_sorts-requires-clause-few : goal.push_sorts-requires-clause-few
push_sorts-requires-clause-few c =
    let t = c.args.tables.now in
    let fs = c.requires.free.0 in
    let ds = c.requires.free.1 in
    let d = of_tables t fs ds in
    let block = c.args.block.now in
    let first : c.head_count-first_head.result ≡ length (declared_of t.generics).heads = c.head_count-first_head.ensures.count (declared_of t.generics) c.requires.tabled.declared in
    let one = c.declare_heads.new.tables in
    let own = c.in_ok-declare_heads.ensures.ok in
    let is_left : IsLeft (room_in d) c.in-Some.left (length block) (length (block_ctors block)) (length (decl_fields (block_ctors block))) = subst (λ (room : Room). IsLeft room c.in-Some.left (length block) (length (block_ctors block)) (length (decl_fields (block_ctors block)))) (c.room_in-room.ensures.room fs ds) c.in-Some.ensures.left in
    let two = c.declare_symbols.new.tables in
    let mid = c.add_own.new.tables in
    let added = c.in_ok-given.ensures.ok in
    let steps : AreSteps t one two mid block own.0 c.head_count-first_head.result added.0 =
    record {
      first = first;
      one_is = c.declare_heads.ensures.others;
      declared = own.2;
      two_is = c.declare_symbols.ensures.others;
      spellings = c.in_ok-declare_symbols.ensures.spellings;
      determined = c.in_ok-declare_symbols.ensures.determined;
      symbols = c.in_ok-declare_symbols.ensures.symbols;
      mid_is = c.add_own.ensures.others;
      origins = added.1;
      standing = c.add_own.ensures.standing;
    } in
    declared_within t one two fs ds c.args.kind c.requires.kind block own.0 c.head_count-first_head.result c.in-Some.left c.requires.free.2 own.1 first c.declare_heads.ensures.others own.2 c.declare_symbols.ensures.others is_left c.facts.ensures.all mid added.0 c.requires.tabled c.in_ok-declare_heads.ensures.accepted c.requires.free.3 c.requires.built c.requires.parameters added.2 steps c.len-first_sort.result c.len-first_sort.ensures.len

pub returns-in_err-push_sorts-clause-grown : goal.returns-in_err-push_sorts-clause-grown
returns-in_err-push_sorts-clause-grown c =
    grown_further c.args.tables.now c.add_own.new.tables c.push_sorts.new.tables (grown_further c.args.tables.now c.declare_symbols.new.tables c.add_own.new.tables (grown_further c.args.tables.now c.declare_heads.new.tables c.declare_symbols.new.tables c.declare_heads.ensures.grown c.declare_symbols.ensures.grown) c.add_own.ensures.grown) c.push_sorts.ensures.grown

pub returns-in_err-push_sorts-clause-standing : goal.returns-in_err-push_sorts-clause-standing
returns-in_err-push_sorts-clause-standing c =
    c.push_sorts.ensures.standing

pub returns-clause-ok : goal.returns-clause-ok
returns-clause-ok c =
    let t = c.args.tables.now in
    let fs = c.requires.free.0 in
    let ds = c.requires.free.1 in
    let d = of_tables t fs ds in
    let block = c.args.block.now in
    let first : c.head_count-first_head.result ≡ length (declared_of t.generics).heads = c.head_count-first_head.ensures.count (declared_of t.generics) c.requires.tabled.declared in
    let one = c.declare_heads.new.tables in
    let own = c.in_ok-declare_heads.ensures.ok in
    let is_left : IsLeft (room_in d) c.in-Some.left (length block) (length (block_ctors block)) (length (decl_fields (block_ctors block))) = subst (λ (room : Room). IsLeft room c.in-Some.left (length block) (length (block_ctors block)) (length (decl_fields (block_ctors block)))) (c.room_in-room.ensures.room fs ds) c.in-Some.ensures.left in
    let two = c.declare_symbols.new.tables in
    let mid = c.add_own.new.tables in
    let added = c.in_ok-given.ensures.ok in
    let steps : AreSteps t one two mid block own.0 c.head_count-first_head.result added.0 =
    record {
      first = first;
      one_is = c.declare_heads.ensures.others;
      declared = own.2;
      two_is = c.declare_symbols.ensures.others;
      spellings = c.in_ok-declare_symbols.ensures.spellings;
      determined = c.in_ok-declare_symbols.ensures.determined;
      symbols = c.in_ok-declare_symbols.ensures.symbols;
      mid_is = c.add_own.ensures.others;
      origins = added.1;
      standing = c.add_own.ensures.standing;
    } in
    let table : two.table ≡ t.table = ap (λ (x : Tables). x.table) c.declare_symbols.ensures.others ∙ ap (λ (x : Tables). x.table) c.declare_heads.ensures.others in
    let numbers = c.in_ok-given.ensures.given ∙ ap (λ (x : SortTable). given_from (length x.sorts) c.head_count-first_head.result (params_of block)) table in
    declared_with t one two fs ds c.args.kind c.requires.kind block own.0 c.head_count-first_head.result c.in-Some.left c.requires.free.2 own.1 first c.declare_heads.ensures.others own.2 c.declare_symbols.ensures.others is_left c.facts.ensures.all mid added.0 c.requires.tabled c.in_ok-declare_heads.ensures.accepted c.requires.free.3 c.requires.built c.requires.parameters added.2 steps c.push_sorts.new.tables c.len-first_sort.result c.len-first_sort.ensures.len c.in_ok-push_sorts.ensures.ok c.in_ok-given.given.items numbers

pub returns-clause-accepted : goal.returns-clause-accepted
returns-clause-accepted c =
    let t = c.args.tables.now in
    let fs = c.requires.free.0 in
    let ds = c.requires.free.1 in
    let d = of_tables t fs ds in
    let block = c.args.block.now in
    let first : c.head_count-first_head.result ≡ length (declared_of t.generics).heads = c.head_count-first_head.ensures.count (declared_of t.generics) c.requires.tabled.declared in
    let one = c.declare_heads.new.tables in
    let own = c.in_ok-declare_heads.ensures.ok in
    let is_left : IsLeft (room_in d) c.in-Some.left (length block) (length (block_ctors block)) (length (decl_fields (block_ctors block))) = subst (λ (room : Room). IsLeft room c.in-Some.left (length block) (length (block_ctors block)) (length (decl_fields (block_ctors block)))) (c.room_in-room.ensures.room fs ds) c.in-Some.ensures.left in
    let two = c.declare_symbols.new.tables in
    let mid = c.add_own.new.tables in
    let added = c.in_ok-given.ensures.ok in
    let steps : AreSteps t one two mid block own.0 c.head_count-first_head.result added.0 =
    record {
      first = first;
      one_is = c.declare_heads.ensures.others;
      declared = own.2;
      two_is = c.declare_symbols.ensures.others;
      spellings = c.in_ok-declare_symbols.ensures.spellings;
      determined = c.in_ok-declare_symbols.ensures.determined;
      symbols = c.in_ok-declare_symbols.ensures.symbols;
      mid_is = c.add_own.ensures.others;
      origins = added.1;
      standing = c.add_own.ensures.standing;
    } in
    λ n gs hs refused. declared_accepted t one two fs ds c.args.kind c.requires.kind block own.0 c.head_count-first_head.result c.in-Some.left c.requires.free.2 own.1 first c.declare_heads.ensures.others own.2 c.declare_symbols.ensures.others is_left c.in_ok-declare_heads.ensures.accepted added.0 added.2 n refused

pub returns-clause-grown : goal.returns-clause-grown
returns-clause-grown c =
    grown_further c.args.tables.now c.add_own.new.tables c.push_sorts.new.tables (grown_further c.args.tables.now c.declare_symbols.new.tables c.add_own.new.tables (grown_further c.args.tables.now c.declare_heads.new.tables c.declare_symbols.new.tables c.declare_heads.ensures.grown c.declare_symbols.ensures.grown) c.add_own.ensures.grown) c.push_sorts.ensures.grown

pub returns-clause-standing : goal.returns-clause-standing
returns-clause-standing c =
    c.push_sorts.ensures.standing

pub returns-clause-tabled : goal.returns-clause-tabled
returns-clause-tabled c =
    let t = c.args.tables.now in
    let fs = c.requires.free.0 in
    let ds = c.requires.free.1 in
    let d = of_tables t fs ds in
    let block = c.args.block.now in
    let first : c.head_count-first_head.result ≡ length (declared_of t.generics).heads = c.head_count-first_head.ensures.count (declared_of t.generics) c.requires.tabled.declared in
    let one = c.declare_heads.new.tables in
    let own = c.in_ok-declare_heads.ensures.ok in
    let is_left : IsLeft (room_in d) c.in-Some.left (length block) (length (block_ctors block)) (length (decl_fields (block_ctors block))) = subst (λ (room : Room). IsLeft room c.in-Some.left (length block) (length (block_ctors block)) (length (decl_fields (block_ctors block)))) (c.room_in-room.ensures.room fs ds) c.in-Some.ensures.left in
    let two = c.declare_symbols.new.tables in
    let mid = c.add_own.new.tables in
    let added = c.in_ok-given.ensures.ok in
    let steps : AreSteps t one two mid block own.0 c.head_count-first_head.result added.0 =
    record {
      first = first;
      one_is = c.declare_heads.ensures.others;
      declared = own.2;
      two_is = c.declare_symbols.ensures.others;
      spellings = c.in_ok-declare_symbols.ensures.spellings;
      determined = c.in_ok-declare_symbols.ensures.determined;
      symbols = c.in_ok-declare_symbols.ensures.symbols;
      mid_is = c.add_own.ensures.others;
      origins = added.1;
      standing = c.add_own.ensures.standing;
    } in
    declared_tabled t one two fs ds c.args.kind c.requires.kind block own.0 c.head_count-first_head.result c.in-Some.left c.requires.free.2 own.1 first c.declare_heads.ensures.others own.2 c.declare_symbols.ensures.others is_left c.facts.ensures.all mid added.0 c.requires.tabled c.in_ok-declare_heads.ensures.accepted c.requires.free.3 c.requires.built c.requires.parameters added.2 steps c.push_sorts.new.tables c.len-first_sort.result c.len-first_sort.ensures.len c.in_ok-push_sorts.ensures.ok c.push_sorts.ensures.standing (c.push_sorts.ensures.counted c.in_ok-given.ensures.counted)

pub returns-clause-consistent : goal.returns-clause-consistent
returns-clause-consistent c =
    let t = c.args.tables.now in
    let fs = c.requires.free.0 in
    let ds = c.requires.free.1 in
    let d = of_tables t fs ds in
    let block = c.args.block.now in
    let first : c.head_count-first_head.result ≡ length (declared_of t.generics).heads = c.head_count-first_head.ensures.count (declared_of t.generics) c.requires.tabled.declared in
    let one = c.declare_heads.new.tables in
    let own = c.in_ok-declare_heads.ensures.ok in
    let is_left : IsLeft (room_in d) c.in-Some.left (length block) (length (block_ctors block)) (length (decl_fields (block_ctors block))) = subst (λ (room : Room). IsLeft room c.in-Some.left (length block) (length (block_ctors block)) (length (decl_fields (block_ctors block)))) (c.room_in-room.ensures.room fs ds) c.in-Some.ensures.left in
    let two = c.declare_symbols.new.tables in
    let mid = c.add_own.new.tables in
    let added = c.in_ok-given.ensures.ok in
    let steps : AreSteps t one two mid block own.0 c.head_count-first_head.result added.0 =
    record {
      first = first;
      one_is = c.declare_heads.ensures.others;
      declared = own.2;
      two_is = c.declare_symbols.ensures.others;
      spellings = c.in_ok-declare_symbols.ensures.spellings;
      determined = c.in_ok-declare_symbols.ensures.determined;
      symbols = c.in_ok-declare_symbols.ensures.symbols;
      mid_is = c.add_own.ensures.others;
      origins = added.1;
      standing = c.add_own.ensures.standing;
    } in
    λ gs hs cons free. declared_consistent t one two gs hs c.args.kind c.requires.kind block own.0 c.head_count-first_head.result c.in-Some.left cons own.1 first c.declare_heads.ensures.others own.2 c.declare_symbols.ensures.others is_left c.facts.ensures.all mid added.0 c.requires.tabled c.in_ok-declare_heads.ensures.accepted free c.requires.built c.requires.parameters added.2 steps c.push_sorts.new.tables c.len-first_sort.result c.len-first_sort.ensures.len c.in_ok-push_sorts.ensures.ok
