use Rattle.std.proofs.Common.{List, [], ◌∷◌, ◌++◌, ◌≡◌, ◌<◌, ◌∙◌, Some, length, ap, inl, inr, refl, arith}
use Rattle.ct_lemmas.proofs.Lists.{slice_get-last}
use Rattle.ct_terms.specs.declared.ids.Lit.{Lit}
use Rattle.ct_terms.specs.Terms.{HasSort, most_terms}
use Rattle.ct_terms.specs.Literal.{literal_step, literal_of}
use Rattle.ct_terms.proofs.LiteralLemmas.{AreLiterals-push}
use Rattle.ct_terms.proofs.SortLemmas.{HasSort-same, HasSort-below, IsOfSort-append}
use Rattle.ct_terms.proofs.TableLemmas.{IsTermTable-push, IsOfSort-sorted, AreSorted-push, StandsSorted-made, insert_entry-absent}
use Rattle.ct_terms.proofs.table.TermTable.make.Goals as goal
use Rattle.ct_terms.proofs.table.TermTable.make.Goals.{After-unwrap}

-- the sort that is stored is the term's
stored : (c : After-unwrap) → HasSort c.args.sig.now c.args.self.now c.args.core c.sort_of-sort.result
stored c = c.sort_of-sort.ensures.sort

-- the table has grown by the term
grown : (c : After-unwrap) → c.insert.new.self.entries ≡ c.args.self.now ++ (c.args.core, c.sort_of-sort.result) ∷ []
grown c =
    rw (c.in_ok-insert.ensures.entries, c.self.view_is)
    (insert_entry-absent c.args.self.now c.args.core c.sort_of-sort.result c.in_default.ensures.absent)

-- the number is the old length
number : (c : After-unwrap) → c.len-number.result ≡ length c.args.self.now
number c = rw (← c.self.view_is) c.len-number.ensures.len

-- the terms under the new one are in the table
pub next_literal-literal-requires : goal.next_literal-literal-requires
next_literal-literal-requires c = record { inside = HasSort-below c.args.sig.now c.args.self.now c.args.core c.sort_of-sort.result c.sort_of-sort.ensures.sort }

-- the literals have grown by that of the term
literals : (c : After-unwrap) → c.push.new.self.items ≡ c.self.inside.literals.items ++ literal_step (literal_of c.args.self.now) (record { 0 = c.len-number.result }) (Some (c.args.core, c.sort_of-sort.result)) ∷ []
literals c =
    rw c.unwrap.ensures at c.push.ensures.items
    ∙ ap (λ (ls : List Lit). ls ++ c.next_literal-literal.result ∷ []) c.in_ok-reserve.ensures.items
    ∙ ap (λ (l : Lit). c.self.inside.literals.items ++ l ∷ []) (c.next_literal-literal.ensures.value c.sort_of-sort.result)

pub invariant_of-self-2 : goal.invariant_of-self-2
invariant_of-self-2 c =
    let room : length c.args.self.now < most_terms = omega (arith, number c) in
    let kept = rw c.self.view_is at c.self.invariant in
    let more = IsTermTable-push c.args.sig.now c.args.self.now c.args.core c.sort_of-sort.result kept.0 room c.in_default.ensures.absent (stored c) in
    rw (grown c, literals c)
    (more, AreLiterals-push c.args.self.now c.self.inside.literals.items c.args.core c.sort_of-sort.result (record { 0 = c.len-number.result }) more.ordered (number c) kept.1)

pub returns-in-Some-clause-full : goal.returns-in-Some-clause-full
returns-in-Some-clause-full c = (λ e. cc, λ h. absurd (h.0 c.in-Some.term.0 c.in-Some.ensures.found))

pub returns-in-Some-clause-sort : goal.returns-in-Some-clause-sort
returns-in-Some-clause-sort c =
    λ all s sorted. IsOfSort-sorted c.args.sig.now c.args.self.now c.args.core c.in-Some.term s all c.in-Some.ensures.found sorted

pub returns-then-number-ge-MOST_TERMS-clause-there : goal.returns-then-number-ge-MOST_TERMS-clause-there
returns-then-number-ge-MOST_TERMS-clause-there c = λ t has. absurd (c.in_default.ensures.absent t has)

pub returns-in_err-reserve-clause-there : goal.returns-in_err-reserve-clause-there
returns-in_err-reserve-clause-there c = λ t has. absurd (c.in_default.ensures.absent t has)

pub returns-in_err-insert-clause-there : goal.returns-in_err-insert-clause-there
returns-in_err-insert-clause-there c = λ t has. absurd (c.in_default.ensures.absent t has)

pub returns-clause-made : goal.returns-clause-made
returns-clause-made c = inr (c.in_default.ensures.absent, number c, (c.sort_of-sort.result, stored c, grown c))

pub returns-clause-keeps : goal.returns-clause-keeps
returns-clause-keeps c =
    λ t s of_sort. rw (grown c) (IsOfSort-append c.args.self.now ((c.args.core, c.sort_of-sort.result) ∷ []) t s of_sort)

pub returns-clause-sorted : goal.returns-clause-sorted
returns-clause-sorted c =
    λ all. rw (grown c) (AreSorted-push c.args.sig.now c.args.self.now c.args.core c.sort_of-sort.result (stored c) all)

pub returns-clause-sort : goal.returns-clause-sort
returns-clause-sort c =
    λ all s sorted.
    let same = HasSort-same c.args.sig.now c.args.self.now c.args.core c.sort_of-sort.result s (stored c) sorted in (
      c.args.core,
      rw (grown c, number c) (slice_get-last c.args.self.now (c.args.core, c.sort_of-sort.result) ∙ ap (λ r. Some (c.args.core, r)) same),
    )

pub returns-in-Some-clause-stands : goal.returns-in-Some-clause-stands
returns-in-Some-clause-stands c = StandsSorted-made c.args.sig.now c.args.self.now c.args.self.now c.args.core c.in-Some.term.0 (inl (refl, c.in-Some.ensures.found))

pub returns-clause-stands : goal.returns-clause-stands
returns-clause-stands c = StandsSorted-made c.args.sig.now c.args.self.now c.insert.new.self.entries c.args.core c.len-number.result (returns-clause-made c)
