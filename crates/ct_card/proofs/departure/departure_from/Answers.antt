use Rattle.std.proofs.Common.{◌<◌, List, ℕ, length, slice_get, sym, ◌∙◌, ap, arith}
use Rattle.std.proofs.lemmas.Option.{slice_get_within}
use Rattle.ct_sorts.specs.declared.ids.CtorId.{CtorId}
use Rattle.ct_card.proofs.DepartureLemmas.{own_list, distinct_list, field_departs, other_not_field, other_not_nowhere}
use Rattle.ct_card.proofs.departure.departure_from.Goals as goal

pub another-requires : goal.another-requires
another-requires c =
    let own = c.ctors-own.result.now in
    let same = own_list c.args.sig.now c.args.s.0 own c.ctors-own.ensures.value in
    let some : c.requires.listed.0 < length own = slice_get_within own c.requires.listed.0 c.args.c (ap (λ (l : List CtorId). slice_get l c.requires.listed.0) (sym same) ∙ c.requires.listed.1) in
    record {
      distinct = distinct_list c.args.sig.now c.sorts.ensures.consistent c.args.s.0 own c.requires.inside c.ctors-own.ensures.value;
      many = omega (arith, c.if-own-ne1.true, some);
    }

pub returns-then-own-ne1 : goal.returns-then-own-ne1
returns-then-own-ne1 c =
    let own = c.ctors-own.result.now in
    let same = own_list c.args.sig.now c.args.s.0 own c.ctors-own.ensures.value in
    let other = c.another.ensures.other in
    record {
      departs = record { index = other.0; listed = ap (λ (l : List CtorId). slice_get l other.0) same ∙ other.1; differ = other.2 };
      apart = λ step e. absurd (other_not_field c.another.result step e);
      nowhere = λ e. absurd (other_not_nowhere c.another.result e);
    }

pub returns : goal.returns
returns c =
    let d = c.args.sig.now in
    let several = c.args.several.now in
    let own = c.ctors-own.result.now in
    let same = own_list d c.args.s.0 own c.ctors-own.ensures.value in
    record {
      departs = field_departs d several c.args.s.0 c.args.c c.lower_field.result (λ step e. let h = c.lower_field.ensures.field step e in (h.0, ap (λ (l : List ℕ). slice_get l step.place) (sym c.requires.fields) ∙ h.1, h.2)) c.lower_field.ensures.constructor;
      apart = λ step e. (c.lower_field.ensures.field step e).3;
      nowhere = λ e. record {
        only = ap length same ∙ c.if-own-ne1.false;
        fields = λ k t at. c.lower_field.ensures.nowhere e k t (ap (λ (l : List ℕ). slice_get l k) c.requires.fields ∙ at);
      };
    }
