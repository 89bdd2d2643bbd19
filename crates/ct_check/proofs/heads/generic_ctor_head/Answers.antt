use Rattle.std.proofs.Common.{◌==◌, length, sym, ◌∙◌}
use Rattle.std.proofs.lemmas.Bool.Decides.{Decides-eqb}
use Rattle.ct_lemmas.proofs.Booleans.{not_true}
use Rattle.ct_instances.specs.Fields.{generic_fields}
use Rattle.ct_instances.proofs.OccurLemmas.{gen_determined_is, gen_ctor_within, gen_fields_long}
use Rattle.ct_names.specs.Elaboration.{parts_of}
use Rattle.ct_names.specs.Parts.{count}
use Rattle.ct_check.proofs.HeadCases.{generic_later, generic_undetermined, generic_count}
use Rattle.ct_check.proofs.heads.generic_ctor_head.Goals as goal

pub returns-then-not-gen_determined-clause-value : goal.returns-then-not-gen_determined-clause-value
returns-then-not-gen_determined-clause-value c = λ needs scope es n.
    let d = c.args.sig.now in
    generic_undetermined d scope c.args.g c.args.index (parts_of d es) (sym (gen_determined_is d c.sorts.ensures.consistent c.args.g c.args.index c.requires.ctor _ c.if-not-gen_determined.ensures.value))

pub gen_fields-requires-clause-below : goal.gen_fields-requires-clause-below
gen_fields-requires-clause-below c = λ head at. gen_ctor_within c.args.sig.now c.sorts.ensures.consistent c.args.g c.args.index c.requires.ctor head at

pub returns-then-gen_fields-args-clause-value : goal.returns-then-gen_fields-args-clause-value
returns-then-gen_fields-args-clause-value c = λ needs scope es n.
    let d = c.args.sig.now in
    let g = c.args.g in
    let i = c.args.index in
    let long = gen_fields_long d c.sorts.ensures.consistent g i c.requires.ctor c.gen_fields.result.0.now c.gen_fields.result.1.now c.gen_fields.ensures.value in
    generic_count d scope g i (parts_of d es) (sym (gen_determined_is d c.sorts.ensures.consistent g i c.requires.ctor _ c.if-not-gen_determined.ensures.value))
    (not_true (length (generic_fields d g i) == count (parts_of d es)) (λ h. c.if-gen_fields-args.true (long ∙ (Decides-eqb (length (generic_fields d g i)) (count (parts_of d es))).0 h ∙ n)))

pub returns-clause-value : goal.returns-clause-value
returns-clause-value c = λ needs scope es n later grows.
    let d = c.args.sig.now in
    let g = c.args.g in
    let i = c.args.index in
    let long = gen_fields_long d c.sorts.ensures.consistent g i c.requires.ctor c.gen_fields.result.0.now c.gen_fields.result.1.now c.gen_fields.ensures.value in
    generic_later later d grows c.sorts.ensures.consistent scope g i es c.args.args (sym (gen_determined_is d c.sorts.ensures.consistent g i c.requires.ctor _ c.if-not-gen_determined.ensures.value)) (sym long ∙ c.if-gen_fields-args.false) n

pub returns-clause-counted : goal.returns-clause-counted
returns-clause-counted c =
    let d = c.args.sig.now in
    sym (gen_fields_long d c.sorts.ensures.consistent c.args.g c.args.index c.requires.ctor c.gen_fields.result.0.now c.gen_fields.result.1.now c.gen_fields.ensures.value) ∙ c.if-gen_fields-args.false
