use Rattle.std.proofs.Common.{◌≡◌, [], ◌∷◌, ◌++◌, map, sym, ◌∙◌, ap, subst, ⊎_elim}
use Rattle.std.proofs.lemmas.List.{append_assoc}
use Rattle.std.proofs.lemmas.Result.{on_ok_weaker}
use Rattle.ct_generics.specs.declared.decl.Field.{Field}
use Rattle.ct_sorts.specs.Availability.{HasUnavailable}
use Rattle.ct_sorts.specs.Declarations.{symbol_names}
use Rattle.ct_sorts.specs.Lookup.{names_of}
use Rattle.ct_sorts.proofs.admit.admit_ctor.Goals as goal

pub returns-clause-ok : goal.returns-clause-ok
returns-clause-ok c =
    let declared = symbol_names c.args.sig.now in
    let before = names_of c.args.seen.now in
    let name = c.args.ctor.now.name in
    let p = c.in_ok-admit_symbol.ensures.ok in
    let fields : map (λ f. f.name) c.as_slice.result.now ≡ map (λ (f : Field). f.name) c.args.ctor.now.fields = ap (map (λ f. f.name)) c.as_slice.ensures.value in
    on_ok_weaker c.admit_fields.result
    (λ q. (
      λ h. ⊎_elim p.0 (λ r. q.0 (subst (HasUnavailable (declared ++ names_of c.admit_symbol.new.seen)) (sym fields) (subst (λ d. HasUnavailable d (map (λ f. f.name) c.args.ctor.now.fields)) (append_assoc declared before (name ∷ []) ∙ ap (λ ns. declared ++ ns) (sym p.1)) r))) h,
      q.1 ∙ ap (λ ns. names_of c.admit_symbol.new.seen ++ ns) fields ∙ ap (λ ns. ns ++ map (λ f. f.name) c.args.ctor.now.fields) p.1 ∙ append_assoc before (name ∷ []) (map (λ f. f.name) c.args.ctor.now.fields),
    ))
    c.admit_fields.ensures.ok
