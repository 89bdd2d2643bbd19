use Rattle.std.proofs.Common.{◌≡◌, ℕ, ◌+◌, ◌<◌, ◌≤◌, ◌++◌, List, [], ◌∷◌, length, map, take, drop, refl, sym, ◌∙◌, ap, subst, arith}
use Rattle.ct_generics.specs.declared.decl.Field.{Field}
use Rattle.ct_sorts.specs.Availability.{IsListed}
use Rattle.ct_sorts.specs.Grown.{Begins}
use Rattle.ct_sorts.specs.Lookup.{AreDistinct, names_of}
use Rattle.ct_sorts.specs.declared.ids.Symbol.TheVariants.{Sel, GenSel}
use Rattle.ct_sorts.proofs.BlockSymbolsLemmas.{sel_names-generic, sel_names-numbered}
use Rattle.ct_sorts.proofs.PieceLemmas.{Begins-self, Begins-more, piece_next, piece_more, pieces_all}
use Rattle.ct_sorts.proofs.PushLemmas.{plain_field, plain_fields, next_fresh, whole_distinct}
use Rattle.ct_sorts.proofs.block.push_plain_fields.Goals as goal

pub loop-field-init : goal.loop-field-init
loop-field-init c = (omega arith, Begins-self c.args.symbols.now, refl)

pub returns-in_err-name-clause-grown : goal.returns-in_err-name-clause-grown
returns-in_err-name-clause-grown c = c.loop-field.invariant.1

pub push-requires : goal.push-requires
push-requires c =
    let next = piece_next plain_fields plain_field (λ k f. k + 1) (λ k f fs. refl) c.args.fields.now c.loop-field.field-index c.field-item.result c.loop-field-test.true c.field-item.is c.loop-field.sel c.loop-field.symbols (c.args.symbols.now ++ (plain_fields) c.args.first c.args.fields.now) c.loop-field.invariant.2 in
    let all = whole_distinct c.args.symbols.now ((plain_fields) c.args.first c.args.fields.now) (map (λ (f : Field). f.name) c.args.fields.now) (sel_names-numbered c.args.first (map (λ (f : Field). f.name) c.args.fields.now)) c.requires.fresh in
    record { fresh = subst (λ name. IsListed (names_of c.loop-field.symbols) name → ⊥) (sym (c.in_ok-name.ensures.ok ∙ c.as_slice.ensures.value)) (next_fresh c.loop-field.symbols c.field-item.result.name (Sel (record { 0 = c.loop-field.sel })) _ (subst (λ xs. AreDistinct (names_of xs)) (sym next) all)) }

pub returns-in_err-push-clause-grown : goal.returns-in_err-push-clause-grown
returns-in_err-push-clause-grown c = subst (Begins c.args.symbols.now) (sym c.in_err-push.ensures.unchanged) c.loop-field.invariant.1

pub overflow_add-sel : goal.overflow_add-sel
overflow_add-sel c = omega (arith, c.loop-field.invariant.0, c.requires.few, c.loop-field-test.true)

pub loop-field-preserved : goal.loop-field-preserved
loop-field-preserved c =
    let pushed : c.push.new.self ≡ c.loop-field.symbols ++ (c.field-item.result.name, Sel (record { 0 = c.loop-field.sel })) ∷ [] = c.in_ok-push.ensures.ok ∙ ap (λ name. c.loop-field.symbols ++ (name, Sel (record { 0 = c.loop-field.sel })) ∷ []) (c.in_ok-name.ensures.ok ∙ c.as_slice.ensures.value) in (
      omega (arith, c.loop-field.invariant.0),
      Begins-more c.args.symbols.now c.loop-field.symbols c.push.new.self ((plain_field) c.loop-field.sel c.field-item.result) c.loop-field.invariant.1 pushed,
      piece_more plain_fields plain_field (λ k f. k + 1) (λ k f fs. refl) c.args.fields.now c.loop-field.field-index c.field-item.result c.loop-field-test.true c.field-item.is c.loop-field.sel c.loop-field.symbols (c.args.symbols.now ++ (plain_fields) c.args.first c.args.fields.now) c.loop-field.invariant.2 c.push.new.self pushed,
    )

pub returns-clause-ok : goal.returns-clause-ok
returns-clause-ok c = pieces_all plain_fields (λ k. refl) c.args.fields.now c.loop-field.field-index c.loop-field-test.false c.loop-field.sel c.loop-field.symbols (c.args.symbols.now ++ (plain_fields) c.args.first c.args.fields.now) c.loop-field.invariant.2

pub returns-clause-next : goal.returns-clause-next
returns-clause-next c = omega (arith, c.loop-field.invariant.0, c.loop-field-test.false, c.loop-field.auto.field-index-end)

pub returns-clause-grown : goal.returns-clause-grown
returns-clause-grown c = c.loop-field.invariant.1
