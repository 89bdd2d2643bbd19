use Rattle.std.proofs.Common.{◌<◌, length, sym, subst, arith}
use Rattle.std.proofs.lemmas.List.Elements.{All-weaker}
use Rattle.std.proofs.lemmas.Option.{slice_get_within, get_or_from_slice_get}
use Rattle.ct_sorts.specs.Declarations.{bool_sort}
use Rattle.ct_terms.specs.declared.ids.TermId.{TermId}
use Rattle.ct_terms.specs.Terms.{IsBoolean}
use Rattle.ct_restriction.specs.Renamed.{number_in}
use Rattle.ct_restriction.specs.Renumbered.{IsEqualTerm, IsKnown}
use Rattle.ct_base.proofs.growing.copied.Goals as goal

pub copying-requires-clause-within : goal.copying-requires-clause-within
copying-requires-clause-within c =
    All-weaker (IsBoolean c.args.from.now) (λ t. t.0 < length c.args.from.now) (λ t h. slice_get_within c.args.from.now t.0 (h.0, bool_sort) h.1) c.args.asserts.now c.requires.asserts

pub returns-in-Ok-clause-equal : goal.returns-in-Ok-clause-equal
returns-in-Ok-clause-equal c =
    let made = c.in-Ok.made in
    let is_equal : TermId → Type 0 = λ t. IsEqualTerm c.args.from.now c.copying.new.to t (number_in made.numbers t) in
    let room = c.requires.room in
    All-weaker (IsKnown made) is_equal
    (λ t k. subst (λ (u : TermId). IsEqualTerm c.args.from.now c.copying.new.to t u) (sym (get_or_from_slice_get made.numbers t.0 k.0 t k.1.1)) (c.in-Ok.ensures.equal t k.0 k.1))
    c.args.asserts.now (c.in-Ok.ensures.room (omega (arith, room)))
