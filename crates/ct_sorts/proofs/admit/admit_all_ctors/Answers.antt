use Rattle.std.proofs.Common.{ℕ, List, ◌∷◌, ◌++◌, map, sym, ◌∙◌, ap, subst}
use Rattle.std.proofs.lemmas.List.{append-nil}
use Rattle.std.proofs.lemmas.Result.{err_from_is_err_and}
use Rattle.std.specs.List.{flat_map}
use Rattle.ct_generics.specs.declared.decl.CtorDecl.{CtorDecl}
use Rattle.ct_generics.specs.declared.decl.SortDecl.{SortDecl}
use Rattle.ct_sorts.specs.Availability.{IsUnavailable, HasUnavailable}
use Rattle.ct_sorts.specs.Declarations.{symbol_names}
use Rattle.ct_sorts.specs.Lookup.{names_of}
use Rattle.ct_sorts.specs.Block.{ctor_symbols}
use Rattle.ct_sorts.proofs.AdmitLemmas.{IsAdmitted-start, IsAdmitted-more, IsAdmitted-refused, IsAdmitted-all, flat_map-flat_map}
use Rattle.ct_sorts.proofs.admit.admit_all_ctors.Goals as goal

pub loop-decl-init : goal.loop-decl-init
loop-decl-init c = IsAdmitted-start IsUnavailable (λ (s : SortDecl). ctor_symbols s.ctors) (symbol_names c.args.sig.now) (names_of c.args.seen.now) c.args.block.now

pub loop-decl-preserved : goal.loop-decl-preserved
loop-decl-preserved c =
    IsAdmitted-more IsUnavailable (λ (s : SortDecl). ctor_symbols s.ctors) (symbol_names c.args.sig.now) (names_of c.args.seen.now) c.args.block.now (names_of c.loop-decl.seen) (names_of c.admit_ctors.new.seen) c.loop-decl.decl-index c.decl-item.result c.loop-decl-test.true c.decl-item.is c.loop-decl.invariant
    (subst (λ ctors. HasUnavailable (symbol_names c.args.sig.now ++ names_of c.loop-decl.seen) (ctor_symbols ctors) → ⊥) c.as_slice.ensures.value c.in_ok-admit_ctors.ensures.ok.0) (c.in_ok-admit_ctors.ensures.ok.1 ∙ ap (λ ctors. names_of c.loop-decl.seen ++ ctor_symbols ctors) c.as_slice.ensures.value)

pub returns-in_err-admit_ctors-clause-refused : goal.returns-in_err-admit_ctors-clause-refused
returns-in_err-admit_ctors-clause-refused c =
    let p = err_from_is_err_and c.from_residual.result c.from_residual.ensures.1 in
    rw (p.1, p.2) (λ n e. let q = c.in_err-admit_ctors.ensures.refused n e in (q.0, subst (HasUnavailable (symbol_names c.args.sig.now)) (sym (flat_map-flat_map (λ (t : CtorDecl). t.name ∷ map (λ f. f.name) t.fields) (λ (s : SortDecl). s.ctors) c.args.block.now)) (subst (λ d. HasUnavailable d (flat_map (λ s. ctor_symbols s.ctors) c.args.block.now)) (ap (λ (seen : List (List ℕ × Unit {0})). symbol_names c.args.sig.now ++ names_of seen) c.requires.empty ∙ append-nil (symbol_names c.args.sig.now)) (IsAdmitted-refused IsUnavailable (λ (s : SortDecl). ctor_symbols s.ctors) (symbol_names c.args.sig.now) (names_of c.args.seen.now) c.args.block.now (names_of c.loop-decl.seen) c.loop-decl.decl-index c.decl-item.result c.loop-decl-test.true c.decl-item.is c.loop-decl.invariant (subst (λ ctors. HasUnavailable (symbol_names c.args.sig.now ++ names_of c.loop-decl.seen) (ctor_symbols ctors)) c.as_slice.ensures.value q.1)))))

pub returns-clause-ok : goal.returns-clause-ok
returns-clause-ok c =
    let all = IsAdmitted-all IsUnavailable (λ (s : SortDecl). ctor_symbols s.ctors) (symbol_names c.args.sig.now) (names_of c.args.seen.now) c.args.block.now (names_of c.loop-decl.seen) c.loop-decl.decl-index c.loop-decl-test.false c.loop-decl.invariant in
    subst (λ names. HasUnavailable (symbol_names c.args.sig.now) names → ⊥) (sym (flat_map-flat_map (λ (t : CtorDecl). t.name ∷ map (λ f. f.name) t.fields) (λ (s : SortDecl). s.ctors) c.args.block.now)) (subst (λ d. HasUnavailable d (flat_map (λ s. ctor_symbols s.ctors) c.args.block.now) → ⊥) (ap (λ (seen : List (List ℕ × Unit {0})). symbol_names c.args.sig.now ++ names_of seen) c.requires.empty ∙ append-nil (symbol_names c.args.sig.now)) all.0)
