use Rattle.std.proofs.Common.{List, ℕ, ◌++◌, ap, inr, refl, sym, subst, ◌∙◌}
use Rattle.ct_lemmas.proofs.Options.{OnOk-map}
use Rattle.ct_lemmas.proofs.Pairs.{AllZip-one_length}
use Rattle.ct_generics.specs.declared.generics.Generics.{Generics}
use Rattle.ct_generics.specs.declared.heads.StoredHead.{StoredHead}
use Rattle.ct_generics.specs.Block.{IsShapeRefusal, with_names}
use Rattle.ct_generics.specs.Stored.{IsStored}
use Rattle.ct_generics.proofs.DeclareLemmas.{block-declared, not-refused}
use Rattle.ct_generics.proofs.declare.try_block.Goals as goal

pub refuse_shape-requires-clause-stored : goal.refuse_shape-requires-clause-stored
refuse_shape-requires-clause-stored c =
    let d = c.requires.declared in
    let mid = c.declare_names.new.g in
    let new : Generics = record { heads = c.append.new.self; head_names = mid.head_names; synonyms = mid.synonyms; synonym_names = mid.synonym_names } in
    let named = c.in_ok-declare_names.ensures.ok d.0 d.1 in
    let own = c.in_ok-own.ensures.ok (with_names d.0 c.args.kind c.args.block.now) named in
    let after = block-declared c.args.g.now mid new d.0 c.args.kind c.args.block.now c.in_ok-own.own.items own.0 c.args.first d.1 c.declare_names.ensures.begun named own.1 own.2 c.requires.first (c.in_ok-append.ensures.ok ∙ ap (λ (xs : List StoredHead). xs ++ c.in_ok-own.own.items) c.truncate.ensures.first) refl refl refl in
    (d.0.heads ++ own.0, rw c.as_slice.ensures.value after.stored)

pub returns-clause-ok : goal.returns-clause-ok
returns-clause-ok c =
    OnOk-map c.refuse_shape.result _ _ (λ passes d is.
    let kind = c.args.kind in
    let block = c.args.block.now in
    let mid = c.declare_names.new.g in
    let new : Generics = record { heads = c.append.new.self; head_names = mid.head_names; synonyms = mid.synonyms; synonym_names = mid.synonym_names } in
    let named = c.in_ok-declare_names.ensures.ok d is in
    let own = c.in_ok-own.ensures.ok (with_names d kind block) named in
    let after = block-declared c.args.g.now mid new d kind block c.in_ok-own.own.items own.0 c.args.first is c.declare_names.ensures.begun named own.1 own.2 c.requires.first (c.in_ok-append.ensures.ok ∙ ap (λ (xs : List StoredHead). xs ++ c.in_ok-own.own.items) c.truncate.ensures.first) refl refl refl in
    let first = c.requires.first ∙ AllZip-one_length IsStored c.args.g.now.heads d.heads is.stored in
    (own.0, own.1, after, not-refused d kind block own.0 own.1 (λ n shape. passes n (d.heads ++ own.0) (rw c.as_slice.ensures.value after.stored) (subst (λ (m : ℕ). IsShapeRefusal m kind (d.heads ++ own.0) n) (sym first) shape)))) c.refuse_shape.ensures.ok

pub returns-clause-refused : goal.returns-clause-refused
returns-clause-refused c n d e is =
    let kind = c.args.kind in
    let block = c.args.block.now in
    let mid = c.declare_names.new.g in
    let new : Generics = record { heads = c.append.new.self; head_names = mid.head_names; synonyms = mid.synonyms; synonym_names = mid.synonym_names } in
    let named = c.in_ok-declare_names.ensures.ok d is in
    let own = c.in_ok-own.ensures.ok (with_names d kind block) named in
    let after = block-declared c.args.g.now mid new d kind block c.in_ok-own.own.items own.0 c.args.first is c.declare_names.ensures.begun named own.1 own.2 c.requires.first (c.in_ok-append.ensures.ok ∙ ap (λ (xs : List StoredHead). xs ++ c.in_ok-own.own.items) c.truncate.ensures.first) refl refl refl in
    let first = c.requires.first ∙ AllZip-one_length IsStored c.args.g.now.heads d.heads is.stored in
    inr (own.0, own.1, subst (λ (m : ℕ). IsShapeRefusal m kind (d.heads ++ own.0) n) first (c.refuse_shape.ensures.refused n (d.heads ++ own.0) e (rw c.as_slice.ensures.value after.stored)))
