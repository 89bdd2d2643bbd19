use Rattle.std.proofs.Common.{ℕ, List, [], ◌∷◌, ◌++◌, ◌∙◌, ap, subst, inl}
use Rattle.std.proofs.lemmas.List.{append-nil}
use Rattle.std.proofs.lemmas.List.Concat.{flat_map_single}
use Rattle.std.proofs.lemmas.Result.{err_from_is_err_and}
use Rattle.std.specs.List.{flat_map}
use Rattle.ct_generics.specs.declared.decl.SortDecl.{SortDecl}
use Rattle.ct_sorts.specs.Availability.{IsUnavailableSort, HasUnavailableSort}
use Rattle.ct_sorts.specs.Declarations.{declared_names}
use Rattle.ct_sorts.specs.Lookup.{names_of}
use Rattle.ct_sorts.specs.Block.{block_names}
use Rattle.ct_sorts.proofs.AdmitLemmas.{IsAdmitted-start, IsAdmitted-more, IsAdmitted-refused, IsAdmitted-all, HasRefused-one}
use Rattle.ct_sorts.proofs.admit.admit_sorts.Goals as goal

pub loop-decl-init : goal.loop-decl-init
loop-decl-init c = IsAdmitted-start IsUnavailableSort (λ (s : SortDecl). s.name ∷ []) (declared_names c.args.sig.now) (names_of c.args.own.now) c.args.block.now

pub loop-decl-preserved : goal.loop-decl-preserved
loop-decl-preserved c =
    IsAdmitted-more IsUnavailableSort (λ (s : SortDecl). s.name ∷ []) (declared_names c.args.sig.now) (names_of c.args.own.now) c.args.block.now (names_of c.loop-decl.own) (names_of c.admit_sort.new.own) c.loop-decl.decl-index c.decl-item.result c.loop-decl-test.true c.decl-item.is c.loop-decl.invariant
    (HasRefused-one IsUnavailableSort _ _ c.in_ok-admit_sort.ensures.ok.0) c.in_ok-admit_sort.ensures.ok.1

pub returns-in_err-admit_sort-clause-refused : goal.returns-in_err-admit_sort-clause-refused
returns-in_err-admit_sort-clause-refused c =
    let p = err_from_is_err_and c.from_residual.result c.from_residual.ensures.1 in
    rw (p.1, p.2) (λ n e. let q = c.in_err-admit_sort.ensures.refused n e in (q.0, subst (λ d. HasUnavailableSort d (block_names c.args.block.now)) (ap (λ (own : List (List ℕ × Unit {0})). declared_names c.args.sig.now ++ names_of own) c.requires.empty ∙ append-nil (declared_names c.args.sig.now)) (subst (HasUnavailableSort (declared_names c.args.sig.now ++ names_of c.args.own.now)) (flat_map_single (λ (s : SortDecl). s.name) c.args.block.now) (IsAdmitted-refused IsUnavailableSort (λ (s : SortDecl). s.name ∷ []) (declared_names c.args.sig.now) (names_of c.args.own.now) c.args.block.now (names_of c.loop-decl.own) c.loop-decl.decl-index c.decl-item.result c.loop-decl-test.true c.decl-item.is c.loop-decl.invariant (inl q.1)))))

pub returns-clause-ok : goal.returns-clause-ok
returns-clause-ok c =
    let all = IsAdmitted-all IsUnavailableSort (λ (s : SortDecl). s.name ∷ []) (declared_names c.args.sig.now) (names_of c.args.own.now) c.args.block.now (names_of c.loop-decl.own) c.loop-decl.decl-index c.loop-decl-test.false c.loop-decl.invariant in
    (subst (λ d. HasUnavailableSort d (block_names c.args.block.now) → ⊥) (ap (λ (own : List (List ℕ × Unit {0})). declared_names c.args.sig.now ++ names_of own) c.requires.empty ∙ append-nil (declared_names c.args.sig.now)) (subst (λ names. HasUnavailableSort (declared_names c.args.sig.now ++ names_of c.args.own.now) names → ⊥) (flat_map_single (λ (s : SortDecl). s.name) c.args.block.now) all.0), all.1 ∙ ap (λ (own : List (List ℕ × Unit {0})). names_of own ++ flat_map (λ (s : SortDecl). s.name ∷ []) c.args.block.now) c.requires.empty ∙ (flat_map_single (λ (s : SortDecl). s.name) c.args.block.now))
