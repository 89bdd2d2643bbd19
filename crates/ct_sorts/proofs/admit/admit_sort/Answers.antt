use Rattle.std.proofs.Common.{ℕ, List, [], ◌∷◌, ◌++◌, refl, sym, ◌∙◌, ap, subst, inl, ⊎_elim}
use Rattle.std.proofs.lemmas.Bool.{true≢false}
use Rattle.std.proofs.lemmas.List.{map-append}
use Rattle.std.proofs.lemmas.Result.{on_ok_weaker}
use Rattle.ct_sorts.specs.Availability.{IsListed}
use Rattle.ct_sorts.specs.Declarations.{declared_names}
use Rattle.ct_sorts.specs.Lookup.{names_of}
use Rattle.ct_sorts.proofs.LookupLemmas.{IsListed-right}
use Rattle.ct_sorts.proofs.AdmitLemmas.{IsUnavailableSort-either, IsUnavailableSort-left}
use Rattle.ct_sorts.proofs.admit.admit_sort.Goals as goal

pub returns-then-is_unavailable_sort-clause-refused : goal.returns-then-is_unavailable_sort-clause-refused
returns-then-is_unavailable_sort-clause-refused c =
    λ n e. (cc, IsUnavailableSort-left (declared_names c.args.sig.now) (names_of c.args.own.now) c.args.name.now (c.if-is_unavailable_sort.ensures.unavailable.0 refl))

pub returns-then-has-clause-refused : goal.returns-then-has-clause-refused
returns-then-has-clause-refused c =
    λ n e. (cc, inl (IsListed-right (declared_names c.args.sig.now) (names_of c.args.own.now) c.args.name.now (subst (IsListed (names_of c.args.own.now)) c.as_slice-text.ensures.value (c.if-has.ensures.listed.0 refl))))

pub returns-clause-ok : goal.returns-clause-ok
returns-clause-ok c =
    let declared = declared_names c.args.sig.now in
    let before = names_of c.args.own.now in
    on_ok_weaker c.push.result
    (λ e. (
      λ h. ⊎_elim (λ u. true≢false (sym (c.if-is_unavailable_sort.ensures.unavailable.1 u))) (λ l. true≢false (sym (c.if-has.ensures.listed.1 (subst (IsListed before) (sym c.as_slice-text.ensures.value) l)))) (IsUnavailableSort-either declared before c.args.name.now h),
      ap names_of e ∙ map-append (λ e. e.0) c.args.own.now _ ∙ ap (λ (name : List ℕ). before ++ name ∷ []) (c.in_ok-copied.ensures.ok ∙ c.as_slice-text.ensures.value),
    ))
    c.push.ensures.ok
