use Rattle.std.proofs.Common.{◌≡◌, ℕ, ◌+◌, ◌<◌, ◌≤◌, ◌==◌, ◌++◌, List, [], ◌∷◌, length, map, take, drop, refl, sym, ◌∙◌, ap, ap₂, subst, arith}
use Rattle.std.proofs.lemmas.List.{length-map}
use Rattle.ct_generics.specs.declared.decl.SortDecl.{SortDecl}
use Rattle.ct_sorts.specs.declared.ids.Symbol.{Symbol}
use Rattle.ct_sorts.specs.Block.{block_ctors, block_spellings, ctor_symbols, params_of, spelling}
use Rattle.ct_sorts.specs.Grown.{Begins}
use Rattle.ct_sorts.specs.Lookup.{AreDistinct, names_of}
use Rattle.ct_sorts.proofs.BlockSymbolsLemmas.{names-block}
use Rattle.ct_sorts.proofs.OwnLemmas.{spelled_block}
use Rattle.ct_sorts.proofs.PieceLemmas.{Begins-self, Begins-trans, Begins-more, piece_distinct, piece_more, pieces_all}
use Rattle.ct_sorts.proofs.PushLemmas.{Place, after_decl, at_most, block_ctors_next, block_ctors_so_far, block_entries, block_fields_next, block_fields_so_far, block_unfolds, decl_entries, decl_names, names-append, place_after, whole_distinct}
use Rattle.ct_sorts.proofs.block.push_symbols.Goals as goal

pub loop-decl-init : goal.loop-decl-init
loop-decl-init c = (omega arith, omega arith, omega arith, Begins-self c.args.symbols.now, refl)

pub push_decl-requires-clause-heads_few : goal.push_decl-requires-clause-heads_few
push_decl-requires-clause-heads_few c = omega (arith, c.loop-decl.invariant.0, c.requires.heads_few, c.loop-decl-test.true)

pub push_decl-requires-clause-ctors_few : goal.push_decl-requires-clause-ctors_few
push_decl-requires-clause-ctors_few c = omega (arith, c.loop-decl.invariant.1, c.requires.ctors_few, block_ctors_so_far c.args.block.now c.loop-decl.decl-index c.decl-item.result c.loop-decl-test.true c.decl-item.is)

pub push_decl-requires-clause-sels_few : goal.push_decl-requires-clause-sels_few
push_decl-requires-clause-sels_few c = omega (arith, c.loop-decl.invariant.2, c.requires.sels_few, block_fields_so_far c.args.block.now c.loop-decl.decl-index c.decl-item.result c.loop-decl-test.true c.decl-item.is)

pub push_decl-requires-clause-fresh : goal.push_decl-requires-clause-fresh
push_decl-requires-clause-fresh c =
    let long : length (params_of c.args.block.now) ≡ length (block_spellings c.args.block.now) = length-map c.args.block.now (λ (x : SortDecl). x.params) ∙ sym (length-map c.args.block.now (λ (x : SortDecl). map spelling x.ctors)) in
    let names = names-block c.args.first_head c.args.first.ctor c.args.first.sel (params_of c.args.block.now) (block_spellings c.args.block.now) long ∙ spelled_block c.args.block.now in
    let all = whole_distinct c.args.symbols.now (block_entries (record { head = c.args.first_head; ctor = c.args.first.ctor; sel = c.args.first.sel }) c.args.block.now) (ctor_symbols (block_ctors c.args.block.now)) names c.requires.fresh in
    let here = piece_distinct block_entries decl_entries after_decl block_unfolds c.args.block.now c.loop-decl.decl-index c.decl-item.result c.loop-decl-test.true c.decl-item.is (record { head = c.loop-decl.head; ctor = c.loop-decl.next.ctor; sel = c.loop-decl.next.sel }) c.loop-decl.symbols (c.args.symbols.now ++ block_entries (record { head = c.args.first_head; ctor = c.args.first.ctor; sel = c.args.first.sel }) c.args.block.now) c.loop-decl.invariant.4 (λ (e : List ℕ × Symbol). e.0) all in
    subst AreDistinct (names-append c.loop-decl.symbols (decl_entries (record { head = c.loop-decl.head; ctor = c.loop-decl.next.ctor; sel = c.loop-decl.next.sel }) c.decl-item.result) ∙ ap (λ ns. names_of c.loop-decl.symbols ++ ns) (decl_names (record { head = c.loop-decl.head; ctor = c.loop-decl.next.ctor; sel = c.loop-decl.next.sel }) c.decl-item.result)) here

pub returns-in_err-next-clause-grown : goal.returns-in_err-next-clause-grown
returns-in_err-next-clause-grown c = Begins-trans c.args.symbols.now c.loop-decl.symbols c.push_decl.new.symbols c.loop-decl.invariant.3 c.in_err-next.ensures.grown

pub overflow_add-head : goal.overflow_add-head
overflow_add-head c = omega (arith, c.loop-decl.invariant.0, c.requires.heads_few, c.loop-decl-test.true)

pub loop-decl-preserved : goal.loop-decl-preserved
loop-decl-preserved c =
    let place = place_after (c.decl-item.result.params == 0) c.loop-decl.head c.loop-decl.next.ctor c.loop-decl.next.sel c.in_ok-next.next.ctor c.in_ok-next.next.sel c.decl-item.result.ctors c.in_ok-next.ensures.ctor c.in_ok-next.ensures.sel in (
      omega (arith, c.loop-decl.invariant.0),
      omega (arith, c.loop-decl.invariant.1, at_most (c.decl-item.result.params == 0) c.loop-decl.next.ctor (length c.decl-item.result.ctors) c.in_ok-next.next.ctor c.in_ok-next.ensures.ctor, block_ctors_next c.args.block.now c.loop-decl.decl-index c.decl-item.result c.loop-decl-test.true c.decl-item.is),
      omega (arith, c.loop-decl.invariant.2, at_most (c.decl-item.result.params == 0) c.loop-decl.next.sel _ c.in_ok-next.next.sel c.in_ok-next.ensures.sel, block_fields_next c.args.block.now c.loop-decl.decl-index c.decl-item.result c.loop-decl-test.true c.decl-item.is),
      Begins-more c.args.symbols.now c.loop-decl.symbols c.push_decl.new.symbols (decl_entries (record { head = c.loop-decl.head; ctor = c.loop-decl.next.ctor; sel = c.loop-decl.next.sel }) c.decl-item.result) c.loop-decl.invariant.3 c.in_ok-next.ensures.ok,
      subst (λ (k : Place). c.push_decl.new.symbols ++ block_entries k (drop (c.loop-decl.decl-index + 1) c.args.block.now) ≡ c.args.symbols.now ++ block_entries (record { head = c.args.first_head; ctor = c.args.first.ctor; sel = c.args.first.sel }) c.args.block.now) (sym place)
          (piece_more block_entries decl_entries after_decl block_unfolds c.args.block.now c.loop-decl.decl-index c.decl-item.result c.loop-decl-test.true c.decl-item.is (record { head = c.loop-decl.head; ctor = c.loop-decl.next.ctor; sel = c.loop-decl.next.sel }) c.loop-decl.symbols (c.args.symbols.now ++ block_entries (record { head = c.args.first_head; ctor = c.args.first.ctor; sel = c.args.first.sel }) c.args.block.now) c.loop-decl.invariant.4 c.push_decl.new.symbols c.in_ok-next.ensures.ok),
    )

pub returns-clause-ok : goal.returns-clause-ok
returns-clause-ok c = pieces_all block_entries (λ k. refl) c.args.block.now c.loop-decl.decl-index c.loop-decl-test.false (record { head = c.loop-decl.head; ctor = c.loop-decl.next.ctor; sel = c.loop-decl.next.sel }) c.loop-decl.symbols (c.args.symbols.now ++ block_entries (record { head = c.args.first_head; ctor = c.args.first.ctor; sel = c.args.first.sel }) c.args.block.now) c.loop-decl.invariant.4

pub returns-clause-grown : goal.returns-clause-grown
returns-clause-grown c = c.loop-decl.invariant.3
