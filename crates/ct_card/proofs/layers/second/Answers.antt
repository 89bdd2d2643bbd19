use Rattle.std.proofs.Common.{◌≡◌, ◌++◌, List, ℕ, Option, None, Some, false, length, option_map, unwrap_or, slice_get, sym, ◌∙◌, ap, subst}
use Rattle.std.proofs.lemmas.Option.{none-some, same_Some}
use Rattle.ct_sorts.specs.declared.ids.Kind.{Kind}
use Rattle.ct_sorts.specs.Declarations.{Declarations, Sort}
use Rattle.ct_card.specs.Defaults.{is_free, is_free_sort}
use Rattle.ct_card.specs.Fields.{ctor_fields}
use Rattle.ct_card.specs.Departures.{HasNoDeparture}
use Rattle.ct_card.proofs.BuiltLemmas.{own_within}
use Rattle.ct_card.proofs.DepartureLemmas.{departs_somewhere}
use Rattle.ct_card.proofs.layers.second.Goals as goal

-- a sort of this kind is not uninterpreted
is_not_free : (d : Declarations) (s : ℕ) (kind : Kind) → option_map (λ (x : Sort). x.kind) (slice_get d.sorts s) ≡ Some kind → is_free kind ≡ false → is_free_sort d s ≡ false
is_not_free d s kind at other = by (slice_get d.sorts s) at
  where
    by : (o : Option Sort) → option_map (λ (x : Sort). x.kind) o ≡ Some kind → unwrap_or (option_map (λ (x : Sort). is_free x.kind) o) false ≡ false
    by None e = absurd (none-some kind e)
    by (Some x) e = ap is_free (same_Some x.kind kind e) ∙ other

pub returns-clause-some : goal.returns-clause-some
returns-clause-some c = λ other derived none.
    let d = c.args.sig.now in
    let e = c.structure.ensures in
    let k = c.sorts.ensures.consistent in
    let listed = c.requires.listed other in
    let fields : c.push_fields.new.fields.items ≡ ctor_fields d c.args.c = c.in_ok-push_fields.ensures.value ∙ ap (λ (l : List ℕ). l ++ ctor_fields d c.args.c) c.new-fields.ensures.items in
    departs_somewhere d k (e.own_constructors d k) (e.own_selectors d k) (e.of_their_sorts d k) (e.of_their_constructors d k) c.args.several.now c.requires.several c.args.s.0 listed.0 c.args.c c.requires.inside listed.1 derived
    (subst (λ n. HasNoDeparture d c.args.several.now c.args.s.0 c.args.c n) (c.len.ensures ∙ sym c.deref.ensures.len ∙ ap length (c.deref.ensures.value ∙ fields)) (c.departure_from.ensures.nowhere none))

pub push_fields-requires : goal.push_fields-requires
push_fields-requires c =
    let d = c.args.sig.now in
    let e = c.structure.ensures in
    let k = c.sorts.ensures.consistent in
    let listed = c.requires.listed (is_not_free d c.args.s.0 c.kind.result c.kind.ensures.value (sym c.is_free.ensures.value ∙ c.if-is_free.false)) in
    record { inside = own_within d k (e.own_constructors d k) (e.own_selectors d k) (e.of_their_sorts d k) (e.of_their_constructors d k) c.args.s.0 listed.0 c.args.c c.requires.inside listed.1 }
