use Rattle.std.proofs.Common.{◌∷◌, map}
use Rattle.std.proofs.lemmas.Result.{err_from_is_err_and}
use Rattle.ct_generics.specs.declared.decl.CtorDecl.{CtorDecl}
use Rattle.ct_sorts.specs.Availability.{IsUnavailable}
use Rattle.ct_sorts.specs.Declarations.{symbol_names}
use Rattle.ct_sorts.specs.Lookup.{names_of}
use Rattle.ct_sorts.proofs.AdmitLemmas.{IsAdmitted-start, IsAdmitted-more, IsAdmitted-refused, IsAdmitted-all}
use Rattle.ct_sorts.proofs.admit.admit_ctors.Goals as goal

pub loop-ctor-init : goal.loop-ctor-init
loop-ctor-init c = IsAdmitted-start IsUnavailable (λ (t : CtorDecl). t.name ∷ map (λ f. f.name) t.fields) (symbol_names c.args.sig.now) (names_of c.args.seen.now) c.args.ctors.now

pub loop-ctor-preserved : goal.loop-ctor-preserved
loop-ctor-preserved c =
    IsAdmitted-more IsUnavailable (λ (t : CtorDecl). t.name ∷ map (λ f. f.name) t.fields) (symbol_names c.args.sig.now) (names_of c.args.seen.now) c.args.ctors.now (names_of c.loop-ctor.seen) (names_of c.admit_ctor.new.seen) c.loop-ctor.ctor-index c.ctor-item.result c.loop-ctor-test.true c.ctor-item.is c.loop-ctor.invariant
    c.in_ok-admit_ctor.ensures.ok.0 c.in_ok-admit_ctor.ensures.ok.1

pub returns-in_err-admit_ctor-clause-refused : goal.returns-in_err-admit_ctor-clause-refused
returns-in_err-admit_ctor-clause-refused c =
    let p = err_from_is_err_and c.from_residual.result c.from_residual.ensures.1 in
    rw (p.1, p.2) (λ n e. let q = c.in_err-admit_ctor.ensures.refused n e in (q.0, IsAdmitted-refused IsUnavailable (λ (t : CtorDecl). t.name ∷ map (λ f. f.name) t.fields) (symbol_names c.args.sig.now) (names_of c.args.seen.now) c.args.ctors.now (names_of c.loop-ctor.seen) c.loop-ctor.ctor-index c.ctor-item.result c.loop-ctor-test.true c.ctor-item.is c.loop-ctor.invariant q.1))

pub returns-clause-ok : goal.returns-clause-ok
returns-clause-ok c =
    let all = IsAdmitted-all IsUnavailable (λ (t : CtorDecl). t.name ∷ map (λ f. f.name) t.fields) (symbol_names c.args.sig.now) (names_of c.args.seen.now) c.args.ctors.now (names_of c.loop-ctor.seen) c.loop-ctor.ctor-index c.loop-ctor-test.false c.loop-ctor.invariant in
    all
