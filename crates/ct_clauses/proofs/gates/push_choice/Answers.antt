use Rattle.std.proofs.Common.{◌≡◌, ℕ, true, false, nat_eq, sym, ap, subst, ◌∙◌}
use Rattle.std.proofs.lemmas.Bool.Decides.{Decides-eqb}
use Rattle.ct_lemmas.proofs.Options.{OnOk-then}
use Rattle.ct_sorts.specs.declared.ids.SortId.{SortId}
use Rattle.ct_sorts.specs.Declarations.{bool_sort}
use Rattle.ct_clauses.specs.Initial.{choice_gates}
use Rattle.ct_clauses.specs.Growth.{HaveGates}
use Rattle.ct_clauses.proofs.GateLemmas.{sort_same, other_gates}
use Rattle.ct_clauses.proofs.gates.push_choice.Goals as goal

pub returns-then-eq-clause-grown : goal.returns-then-eq-clause-grown
returns-then-eq-clause-grown c =
    let table = c.args.table.now in
    let told : nat_eq c.sort.result.0 0 ≡ true = cc in
    let of : ℕ → SortId = λ n. record { 0 = n } in
    let bool : c.sort.result ≡ bool_sort = ap of ((Decides-eqb c.sort.result.0 0).0 told) in
    OnOk-then c.push_boolean_choice.result c.push_boolean_choice.ensures.grown
    (λ h sort at. subst (λ (s : SortId). HaveGates table c.args.lines.now.items c.push_boolean_choice.new.lines.items (choice_gates c.args.t s)) (sym bool ∙ sort_same table c.args.t c.sort.result sort c.sort.ensures.value at) h)

pub returns-clause-grown : goal.returns-clause-grown
returns-clause-grown c =
    let table = c.args.table.now in
    let told : nat_eq c.sort.result.0 0 ≡ false = cc in
    OnOk-then c.push_other_choice.result c.push_other_choice.ensures.grown
    (λ h sort at. subst (HaveGates table c.args.lines.now.items c.push_other_choice.new.lines.items)
    (sym (ap (choice_gates c.args.t) (sym (sort_same table c.args.t c.sort.result sort c.sort.ensures.value at)) ∙ other_gates c.args.t c.sort.result told)) h)
