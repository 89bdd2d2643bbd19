use Rattle.std.proofs.Common.{[], ◌∷◌, ◌++◌, ◌∙◌, ap, subst, inl}
use Rattle.std.proofs.lemmas.List.Concat.{flat_map_single}
use Rattle.std.proofs.lemmas.Result.{err_from_is_err_and}
use Rattle.ct_generics.specs.declared.decl.Field.{Field}
use Rattle.ct_sorts.specs.Availability.{IsUnavailable, HasUnavailable}
use Rattle.ct_sorts.specs.Declarations.{symbol_names}
use Rattle.ct_sorts.specs.Lookup.{names_of}
use Rattle.ct_sorts.proofs.AdmitLemmas.{IsAdmitted-start, IsAdmitted-more, IsAdmitted-refused, IsAdmitted-all, HasRefused-one}
use Rattle.ct_sorts.proofs.admit.admit_fields.Goals as goal

pub loop-field-init : goal.loop-field-init
loop-field-init c = IsAdmitted-start IsUnavailable (λ (f : Field). f.name ∷ []) (symbol_names c.args.sig.now) (names_of c.args.seen.now) c.args.fields.now

pub loop-field-preserved : goal.loop-field-preserved
loop-field-preserved c =
    IsAdmitted-more IsUnavailable (λ (f : Field). f.name ∷ []) (symbol_names c.args.sig.now) (names_of c.args.seen.now) c.args.fields.now (names_of c.loop-field.seen) (names_of c.admit_symbol.new.seen) c.loop-field.field-index c.field-item.result c.loop-field-test.true c.field-item.is c.loop-field.invariant
    (HasRefused-one IsUnavailable _ _ c.in_ok-admit_symbol.ensures.ok.0) c.in_ok-admit_symbol.ensures.ok.1

pub returns-in_err-admit_symbol-clause-refused : goal.returns-in_err-admit_symbol-clause-refused
returns-in_err-admit_symbol-clause-refused c =
    let p = err_from_is_err_and c.from_residual.result c.from_residual.ensures.1 in
    rw (p.1, p.2) (λ n e. let q = c.in_err-admit_symbol.ensures.refused n e in (q.0, subst (HasUnavailable (symbol_names c.args.sig.now ++ names_of c.args.seen.now)) (flat_map_single (λ (f : Field). f.name) c.args.fields.now) (IsAdmitted-refused IsUnavailable (λ (f : Field). f.name ∷ []) (symbol_names c.args.sig.now) (names_of c.args.seen.now) c.args.fields.now (names_of c.loop-field.seen) c.loop-field.field-index c.field-item.result c.loop-field-test.true c.field-item.is c.loop-field.invariant (inl q.1))))

pub returns-clause-ok : goal.returns-clause-ok
returns-clause-ok c =
    let all = IsAdmitted-all IsUnavailable (λ (f : Field). f.name ∷ []) (symbol_names c.args.sig.now) (names_of c.args.seen.now) c.args.fields.now (names_of c.loop-field.seen) c.loop-field.field-index c.loop-field-test.false c.loop-field.invariant in
    let same = flat_map_single (λ (f : Field). f.name) c.args.fields.now in
    (subst (λ names. HasUnavailable (symbol_names c.args.sig.now ++ names_of c.args.seen.now) names → ⊥) same all.0, all.1 ∙ ap (λ names. names_of c.args.seen.now ++ names) same)
