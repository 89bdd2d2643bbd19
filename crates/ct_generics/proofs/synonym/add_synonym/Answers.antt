use Rattle.std.proofs.Common.{refl, sym, inl, inr, ◌∙◌}
use Rattle.std.proofs.lemmas.Bool.{false≢true}
use Rattle.std.proofs.lemmas.Result.{err_from_is_err_and}
use Rattle.ct_lemmas.proofs.Options.{OnOk-map}
use Rattle.ct_generics.specs.Declarations.{Synonym}
use Rattle.ct_generics.specs.declared.error.GenericError.TheVariants.{Refused}
use Rattle.ct_generics.proofs.OutcomeLemmas.{err_cast}
use Rattle.ct_generics.proofs.SynonymLemmas.{long-text, short-text, same_refused}
use Rattle.ct_generics.proofs.synonym.add_synonym.Goals as goal

pub returns-in_err-body-clause-refused : goal.returns-in_err-body-clause-refused
returns-in_err-body-clause-refused c =
    let p = err_from_is_err_and c.from_residual.result c.from_residual.ensures.1 in
    rw (p.1, p.2) (λ n d e is. inl (c.in_err-body.ensures.refused n d (err_cast _ (Refused n) e) is))

pub returns-then-is_long-clause-refused : goal.returns-then-is_long-clause-refused
returns-then-is_long-clause-refused c n d e is =
    let body = c.in_ok-body.ensures.ok d is in
    let counts = c.in_ok-counts.ensures.counts d.heads (rw c.as_slice.ensures.value is.stored) in
    inr (body.0, body.1, long-text d.heads c.resolve.new.table c.in_ok-counts.counts.items c.in_ok-body.body body.0 counts body.2 (rw c.as_slice-2.ensures.value at (c.is_long.ensures.long.0 c.if-is_long.true)), same_refused 16 n _ refl e)

pub returns-clause-ok : goal.returns-clause-ok
returns-clause-ok c =
    OnOk-map c.store_synonym.result _ _ (λ stores d is.
    let body = c.in_ok-body.ensures.ok d is in
    let counts = c.in_ok-counts.ensures.counts d.heads (rw c.as_slice.ensures.value is.stored) in
    let s : Synonym = record { name = c.args.name.now; params = c.args.params; body = body.0 } in (
      body.0,
      body.1,
      short-text d.heads c.resolve.new.table c.in_ok-counts.counts.items c.in_ok-body.body body.0 c.in_ok-counts.ensures.long counts body.2 (λ long. false≢true (sym c.if-is_long.false ∙ c.is_long.ensures.long.1 (rw c.as_slice-2.ensures.value long))),
      stores d s is (record { name_is = sym (c.in_ok-name.ensures.ok ∙ c.as_slice-3.ensures.value); params_are = refl; stands = body.2 }),
    )) c.store_synonym.ensures.ok
