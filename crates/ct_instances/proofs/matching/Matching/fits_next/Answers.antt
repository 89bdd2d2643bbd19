use Rattle.std.proofs.Common.{◌+◌, ◌∷◌, ℕ, List, drop, sym, ap, subst, ◌∙◌}
use Rattle.ct_lemmas.proofs.Options.{IfOk-map}
use Rattle.ct_generics.specs.Declarations.{IsExpression}
use Rattle.ct_generics.specs.Expression.{Expression}
use Rattle.ct_instances.specs.declared.matching.Matching.{Matching}
use Rattle.ct_instances.specs.Among.{origin_of}
use Rattle.ct_instances.specs.Left.{assignment_of}
use Rattle.ct_instances.specs.Matching.{matched}
use Rattle.ct_instances.specs.Pairs.{assigned, HasMatched}
use Rattle.ct_instances.proofs.InstanceLemmas.{row_there, fields_are, params_are}
use Rattle.ct_instances.proofs.MatchLemmas.{row_item, drop_at, none_left, next_fits}
use Rattle.ct_instances.proofs.OccurLemmas.{gen_ctor_within}
use Rattle.ct_instances.proofs.matching.Matching.fits_next.Goals as goal

pub gen_fields-requires-clause-below : goal.gen_fields-requires-clause-below
gen_fields-requires-clause-below c = λ head at. gen_ctor_within c.args.sig.now c.sorts.ensures.consistent c.args.self.now.g c.args.self.now.index c.requires.inside.ctor head at

pub returns-in-None-clause-fits : goal.returns-in-None-clause-fits
returns-in-None-clause-fits c = λ field rest left.
    let d = c.args.sig.now in
    let g = c.args.self.now.g in
    let i = c.args.self.now.index in
    let is = c.requires.inside.ctor in
    let head = is.1.0 in
    let row = row_there d c.sorts.ensures.consistent g i is.0 is.1 head.0 head.1 in
    absurd (none_left c.gen_fields.result.0.now c.gen_fields.result.1.now row.0 c.args.self.now.place (c.gen_fields.ensures.value head.0 row.0 head.1 row.1) (sym c.field_at.ensures.value ∙ c.in-None.is) field rest
    (ap (drop c.args.self.now.place) (sym (fields_are d c.sorts.ensures.consistent g i head.0 row.0 head.1 row.1)) ∙ left))

pub fits-requires-clause-field : goal.fits-requires-clause-field
fits-requires-clause-field c =
    let d = c.args.sig.now in
    let g = c.args.self.now.g in
    let i = c.args.self.now.index in
    let is = c.requires.inside.ctor in
    let head = is.1.0 in
    let row = row_there d c.sorts.ensures.consistent g i is.0 is.1 head.0 head.1 in
    let item = row_item c.gen_fields.result.0.now c.gen_fields.result.1.now row.0 c.args.self.now.place c.in-Some.field (c.gen_fields.ensures.value head.0 row.0 head.1 row.1) (sym c.field_at.ensures.value ∙ c.in-Some.is) in
    (item.0, item.2, subst (λ (n : ℕ). IsExpression d.declared.heads n item.0) (sym (c.requires.inside.params ∙ params_are d c.sorts.ensures.consistent g head.0 head.1)) (c.sorts.ensures.consistent.heads.formed.heads g.0 head.0 head.1.0 i row.0 row.1 c.args.self.now.place item.0 item.1))

pub returns-in-Some-clause-fits : goal.returns-in-Some-clause-fits
returns-in-Some-clause-fits c =
    let d = c.args.sig.now in
    let g = c.args.self.now.g in
    let i = c.args.self.now.index in
    let is = c.requires.inside.ctor in
    let head = is.1.0 in
    let row = row_there d c.sorts.ensures.consistent g i is.0 is.1 head.0 head.1 in
    let fields = fields_are d c.sorts.ensures.consistent g i head.0 row.0 head.1 row.1 in
    let item = row_item c.gen_fields.result.0.now c.gen_fields.result.1.now row.0 c.args.self.now.place c.in-Some.field (c.gen_fields.ensures.value head.0 row.0 head.1 row.1) (sym c.field_at.ensures.value ∙ c.in-Some.is) in
    let at = c.denotations.ensures.expression c.gen_fields.result.0.now c.in-Some.field item.0 item.2 in
    let left = ap (drop c.args.self.now.place) fields ∙ drop_at row.0 c.args.self.now.place item.0 item.1 ∙ ap (λ (es : List Expression). item.0 ∷ drop (c.args.self.now.place + 1) es) (sym fields) in
    let after : Matching = record { g = g; index = i; place = c.args.self.now.place + 1; sorts = c.fits.new.sorts } in
    IfOk-map c.fits.result _ _ (λ b h. next_fits d c.args.self.now after c.args.sort item.0 b left (subst (λ (x : Expression). HasMatched (matched x (origin_of d c.args.sort) (assignment_of d c.args.self.now)) (assigned d c.fits.new.sorts.items) b) at h)) c.fits.ensures.fits
