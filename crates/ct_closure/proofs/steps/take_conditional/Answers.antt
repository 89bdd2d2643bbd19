use Rattle.std.proofs.Common.{rules, true≢false, eqb, ◌≡◌, ℕ, true, false, slice_get, Some, sym, ap, subst, ◌∙◌}
use Rattle.std.proofs.lemmas.Option.{same_Some}
use Rattle.ct_sorts.specs.declared.ids.SortId.{SortId}
use Rattle.ct_sorts.specs.Declarations.{bool_sort}
use Rattle.ct_terms.specs.declared.ids.TermId.{TermId}
use Rattle.ct_terms.specs.declared.term.Core.{Core}
use Rattle.ct_terms.specs.declared.term.Core.TheVariants.{Ite}
use Rattle.ct_terms.specs.Terms.{Terms, Has, IsOfSort}
use Rattle.ct_closure.proofs.GrowthLemmas.{stays_at, step_none}
use Rattle.ct_closure.proofs.CaseLemmas.{equations_sorted, then_step, both_steps, both_taken, one_sort_at, term_and_sort}
use Rattle.std.proofs.lemmas.Bool.Decides.{Decides-eqb}
use Rattle.ct_closure.proofs.steps.take_conditional.Goals as goal

-- the sort with number 0 is Bool, and another one is not
bool_is : (s : SortId) → true ≡ eqb s.0 0 → s ≡ bool_sort
bool_is s e = let id : ℕ → SortId = λ n. record { 0 = n } in ap id ((Decides-eqb s.0 0).0 (sym e))

other_is : (s : SortId) → false ≡ eqb s.0 0 → s ≡ bool_sort → ⊥
other_is s e same = true≢false (sym ((Decides-eqb s.0 0).1 (ap (λ (r : SortId). r.0) same)) ∙ sym e)

-- what stands at the number, by the term and the sort
here : (table : Terms) (t k a b : TermId) (s : SortId) (core : Core) → Has table core t.0 → core ≡ Ite k a b → IsOfSort table t s → slice_get table t.0 ≡ Some (Ite k a b, s)
here table t k a b s core has is sorted = term_and_sort table t (Ite k a b) s (subst (λ (x : Core). Has table x t.0) is has) sorted

pub returns-then-eq-clause-step : goal.returns-then-eq-clause-step
returns-then-eq-clause-step c = step_none c.args.sig.now c.args.table.now c.requires.sound

pub returns-then-eq-clause-taken : goal.returns-then-eq-clause-taken
returns-then-eq-clause-taken c = λ k a b sort at other.
    absurd (other (one_sort_at c.args.table.now c.args.t sort c.sort.result (Ite k a b, at) c.sort.ensures.value ∙ bool_is c.sort.result c.if-eq.ensures))

pub returns-in_default : goal.returns-in_default
returns-in_default c = record {
  step = step_none c.args.sig.now c.args.table.now c.requires.sound;
  taken = λ k a b sort at other.
      absurd (c.in_default.not-Ite k a b (ap (λ (e : Core × SortId). e.0) (same_Some (c.core.result.now, c.core.ensures.value.0) (Ite k a b, sort) (sym c.core.ensures.value.1 ∙ at))));
  few = c.requires.few;
  large = search rules;
}

pub add-requires-clause-well_sorted : goal.add-requires-clause-well_sorted
add-requires-clause-well_sorted c =
    let at = here c.args.table.now c.args.t c.in-Ite.field-0 c.in-Ite.a c.in-Ite.b c.sort.result c.core.result.now c.core.ensures.value c.in-Ite.is c.sort.ensures.value in
    (bool_sort, (equations_sorted c.args.sig.now c.args.table.now c.requires.sound c.args.t c.in-Ite.field-0 c.in-Ite.a c.in-Ite.b c.sort.result at (other_is c.sort.result c.if-eq.ensures)).0)

pub returns-in_err-add-clause-step : goal.returns-in_err-add-clause-step
returns-in_err-add-clause-step c =
    let at = here c.args.table.now c.args.t c.in-Ite.field-0 c.in-Ite.a c.in-Ite.b c.sort.result c.core.result.now c.core.ensures.value c.in-Ite.is c.sort.ensures.value in
    then_step c.trees.ensures.trees c.args.sig.now c.args.table.now c.add.new.table c.args.t c.in-Ite.field-0 c.in-Ite.a c.in-Ite.b c.sort.result at (other_is c.sort.result c.if-eq.ensures) c.add.ensures.sound c.add.ensures.added

pub add-requires-2-clause-well_sorted : goal.add-requires-2-clause-well_sorted
add-requires-2-clause-well_sorted c =
    let at = here c.args.table.now c.args.t c.in-Ite.field-0 c.in-Ite.a c.in-Ite.b c.sort.result c.core.result.now c.core.ensures.value c.in-Ite.is c.sort.ensures.value in
    let other = other_is c.sort.result c.if-eq.ensures in
    let step = then_step c.trees.ensures.trees c.args.sig.now c.args.table.now c.add.new.table c.args.t c.in-Ite.field-0 c.in-Ite.a c.in-Ite.b c.sort.result at other c.add.ensures.sound c.add.ensures.added in
    let later = stays_at c.args.table.now c.add.new.table step.grown c.args.t.0 (Ite c.in-Ite.field-0 c.in-Ite.a c.in-Ite.b, c.sort.result) at in
    (bool_sort, (equations_sorted c.args.sig.now c.add.new.table c.add.ensures.sound c.args.t c.in-Ite.field-0 c.in-Ite.a c.in-Ite.b c.sort.result later other).1)

pub returns-in_err-add-2-clause-step : goal.returns-in_err-add-2-clause-step
returns-in_err-add-2-clause-step c =
    let at = here c.args.table.now c.args.t c.in-Ite.field-0 c.in-Ite.a c.in-Ite.b c.sort.result c.core.result.now c.core.ensures.value c.in-Ite.is c.sort.ensures.value in
    both_steps c.trees.ensures.trees c.args.sig.now c.args.table.now c.add.new.table c.add-2.new.table c.args.t c.in-Ite.field-0 c.in-Ite.a c.in-Ite.b c.sort.result at (other_is c.sort.result c.if-eq.ensures) c.add.ensures.sound c.add.ensures.added c.add-2.ensures.sound c.add-2.ensures.added

pub returns-clause-step : goal.returns-clause-step
returns-clause-step c =
    let at = here c.args.table.now c.args.t c.in-Ite.field-0 c.in-Ite.a c.in-Ite.b c.sort.result c.core.result.now c.core.ensures.value c.in-Ite.is c.sort.ensures.value in
    both_steps c.trees.ensures.trees c.args.sig.now c.args.table.now c.add.new.table c.add-2.new.table c.args.t c.in-Ite.field-0 c.in-Ite.a c.in-Ite.b c.sort.result at (other_is c.sort.result c.if-eq.ensures) c.add.ensures.sound c.add.ensures.added c.add-2.ensures.sound c.add-2.ensures.added

pub returns-clause-taken : goal.returns-clause-taken
returns-clause-taken c =
    let at = here c.args.table.now c.args.t c.in-Ite.field-0 c.in-Ite.a c.in-Ite.b c.sort.result c.core.result.now c.core.ensures.value c.in-Ite.is c.sort.ensures.value in
    both_taken c.trees.ensures.trees c.args.sig.now c.args.table.now c.add.new.table c.add-2.new.table c.args.t c.in-Ite.field-0 c.in-Ite.a c.in-Ite.b c.sort.result at (other_is c.sort.result c.if-eq.ensures) c.add.ensures.sound c.add.ensures.added c.add-2.ensures.sound c.add-2.ensures.added
    (c.in_ok-add.field-0.0, c.in_ok-add.ensures.stands) (c.in_ok-add-2.field-0.0, c.in_ok-add-2.ensures.stands)
