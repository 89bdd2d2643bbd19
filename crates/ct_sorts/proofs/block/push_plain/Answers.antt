use Rattle.std.proofs.Common.{◌≡◌, ℕ, ◌+◌, ◌<◌, ◌≤◌, ◌++◌, List, [], ◌∷◌, length, map, take, drop, refl, sym, ◌∙◌, ap, ap₂, subst, arith}
use Rattle.std.proofs.lemmas.List.{append_assoc, length-map}
use Rattle.ct_generics.specs.declared.decl.CtorDecl.{CtorDecl}
use Rattle.ct_generics.specs.declared.decl.Field.{Field}
use Rattle.ct_sorts.specs.declared.ids.Symbol.{Symbol}
use Rattle.ct_sorts.specs.declared.ids.Symbol.TheVariants.{Ctor, GenCtor}
use Rattle.ct_sorts.specs.Availability.{IsListed}
use Rattle.ct_sorts.specs.Block.{ctor_symbols, spelling}
use Rattle.ct_sorts.specs.Grown.{Begins}
use Rattle.ct_sorts.specs.Lookup.{AreDistinct, names_of}
use Rattle.ct_sorts.specs.Room.{decl_fields}
use Rattle.ct_sorts.specs.Symbols.{generic_sel_symbols, numbered_sels}
use Rattle.ct_sorts.proofs.BlockSymbolsLemmas.{names-generic, names-numbered, sel_names-generic, sel_names-numbered}
use Rattle.ct_sorts.proofs.OwnLemmas.{spelled_ctors}
use Rattle.ct_sorts.proofs.PieceLemmas.{Begins-self, Begins-more, piece_distinct, piece_next, piece_more, pieces_all}
use Rattle.ct_sorts.proofs.PushLemmas.{after_ctor, after_next, fields_next, fields_so_far, next_fresh, plain_ctor, plain_ctors, plain_fields, whole_distinct}
use Rattle.ct_sorts.proofs.block.push_plain.Goals as goal

pub push-requires : goal.push-requires
push-requires c =
    let next = piece_next plain_ctors plain_ctor after_ctor (λ k x xs. refl) c.args.ctors.now c.loop-ctor.ctor-index c.ctor-item.result c.loop-ctor-test.true c.ctor-item.is (c.loop-ctor.next.ctor, c.loop-ctor.next.sel) c.loop-ctor.symbols (c.args.symbols.now ++ (plain_ctors) (c.args.first.ctor, c.args.first.sel) c.args.ctors.now) c.loop-ctor.invariant.3 in
    let all = whole_distinct c.args.symbols.now ((plain_ctors) (c.args.first.ctor, c.args.first.sel) c.args.ctors.now) (ctor_symbols c.args.ctors.now) (names-numbered c.args.first.ctor c.args.first.sel (map spelling c.args.ctors.now) ∙ spelled_ctors c.args.ctors.now) c.requires.fresh in
    record { fresh = subst (λ name. IsListed (names_of c.loop-ctor.symbols) name → ⊥) (sym (c.in_ok-name.ensures.ok ∙ c.as_slice.ensures.value)) (next_fresh c.loop-ctor.symbols c.ctor-item.result.name (Ctor (record { 0 = c.loop-ctor.next.ctor })) _ (subst (λ xs. AreDistinct (names_of xs)) (sym next) all)) }

pub push_plain_fields-requires-clause-few : goal.push_plain_fields-requires-clause-few
push_plain_fields-requires-clause-few c = omega (arith, c.loop-ctor.invariant.1, c.requires.sels_few, fields_so_far c.args.ctors.now c.loop-ctor.ctor-index c.ctor-item.result c.loop-ctor-test.true c.ctor-item.is, ap length c.as_slice-in-loop-ctor.ensures.value)

pub push_plain_fields-requires-clause-fresh : goal.push_plain_fields-requires-clause-fresh
push_plain_fields-requires-clause-fresh c =
    let all = whole_distinct c.args.symbols.now ((plain_ctors) (c.args.first.ctor, c.args.first.sel) c.args.ctors.now) (ctor_symbols c.args.ctors.now) (names-numbered c.args.first.ctor c.args.first.sel (map spelling c.args.ctors.now) ∙ spelled_ctors c.args.ctors.now) c.requires.fresh in
    let here = piece_distinct plain_ctors plain_ctor after_ctor (λ k x xs. refl) c.args.ctors.now c.loop-ctor.ctor-index c.ctor-item.result c.loop-ctor-test.true c.ctor-item.is (c.loop-ctor.next.ctor, c.loop-ctor.next.sel) c.loop-ctor.symbols (c.args.symbols.now ++ (plain_ctors) (c.args.first.ctor, c.args.first.sel) c.args.ctors.now) c.loop-ctor.invariant.3 (λ (e : List ℕ × Symbol). e.0) all in
    let pushed : c.push.new.self ≡ c.loop-ctor.symbols ++ (c.ctor-item.result.name, (Ctor (record { 0 = c.loop-ctor.next.ctor }))) ∷ [] = c.in_ok-push.ensures.ok ∙ ap (λ name. c.loop-ctor.symbols ++ (name, (Ctor (record { 0 = c.loop-ctor.next.ctor }))) ∷ []) (c.in_ok-name.ensures.ok ∙ c.as_slice.ensures.value) in
    subst (λ (fs : List Field). AreDistinct (names_of c.push.new.self ++ map (λ (f : Field). f.name) fs)) (sym c.as_slice-in-loop-ctor.ensures.value)
    (after_next c.loop-ctor.symbols c.ctor-item.result.name (Ctor (record { 0 = c.loop-ctor.next.ctor })) (plain_fields c.loop-ctor.next.sel c.ctor-item.result.fields) (map (λ (f : Field). f.name) c.ctor-item.result.fields) (sel_names-numbered c.loop-ctor.next.sel (map (λ (f : Field). f.name) c.ctor-item.result.fields)) here c.push.new.self pushed)

pub loop-ctor-preserved : goal.loop-ctor-preserved
loop-ctor-preserved c =
    let pushed : c.push.new.self ≡ c.loop-ctor.symbols ++ (c.ctor-item.result.name, (Ctor (record { 0 = c.loop-ctor.next.ctor }))) ∷ [] = c.in_ok-push.ensures.ok ∙ ap (λ name. c.loop-ctor.symbols ++ (name, (Ctor (record { 0 = c.loop-ctor.next.ctor }))) ∷ []) (c.in_ok-name.ensures.ok ∙ c.as_slice.ensures.value) in
    let whole : c.push_plain_fields.new.symbols ≡ c.loop-ctor.symbols ++ (plain_ctor) (c.loop-ctor.next.ctor, c.loop-ctor.next.sel) c.ctor-item.result =
    c.in_ok-sel.ensures.ok
    ∙ ap₂ (λ (xs : List (List ℕ × Symbol)) (fs : List Field). xs ++ plain_fields c.loop-ctor.next.sel fs) pushed c.as_slice-in-loop-ctor.ensures.value
    ∙ append_assoc c.loop-ctor.symbols ((c.ctor-item.result.name, (Ctor (record { 0 = c.loop-ctor.next.ctor }))) ∷ []) (plain_fields c.loop-ctor.next.sel c.ctor-item.result.fields) in
    let sel : c.in_ok-sel.sel ≡ c.loop-ctor.next.sel + length (map (λ (f : Field). f.name) c.ctor-item.result.fields) = omega (arith, c.in_ok-sel.ensures.next, ap length c.as_slice-in-loop-ctor.ensures.value, length-map c.ctor-item.result.fields (λ (f : Field). f.name)) in (
      omega (arith, c.loop-ctor.invariant.0),
      omega (arith, sel, c.loop-ctor.invariant.1, length-map c.ctor-item.result.fields (λ (f : Field). f.name), fields_next c.args.ctors.now c.loop-ctor.ctor-index c.ctor-item.result c.loop-ctor-test.true c.ctor-item.is),
      Begins-more c.args.symbols.now c.loop-ctor.symbols c.push_plain_fields.new.symbols ((plain_ctor) (c.loop-ctor.next.ctor, c.loop-ctor.next.sel) c.ctor-item.result) c.loop-ctor.invariant.2 whole,
      subst (λ (n : ℕ). c.push_plain_fields.new.symbols ++ plain_ctors (c.loop-ctor.next.ctor + 1, n) (drop (c.loop-ctor.ctor-index + 1) c.args.ctors.now) ≡ c.args.symbols.now ++ plain_ctors (c.args.first.ctor, c.args.first.sel) c.args.ctors.now) (sym sel)
          (piece_more plain_ctors plain_ctor after_ctor (λ k x xs. refl) c.args.ctors.now c.loop-ctor.ctor-index c.ctor-item.result c.loop-ctor-test.true c.ctor-item.is (c.loop-ctor.next.ctor, c.loop-ctor.next.sel) c.loop-ctor.symbols (c.args.symbols.now ++ (plain_ctors) (c.args.first.ctor, c.args.first.sel) c.args.ctors.now) c.loop-ctor.invariant.3 c.push_plain_fields.new.symbols whole),
    )

pub loop-ctor-init : goal.loop-ctor-init
loop-ctor-init c = (omega arith, omega arith, Begins-self c.args.symbols.now, refl)
