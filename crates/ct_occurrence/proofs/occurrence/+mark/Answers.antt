use Rattle.std.proofs.Common.{◌≡◌, ℕ, ◌+◌, ◌-◌, ◌&&◌, Bool, true, false, List, [], ◌∷◌, ◌++◌, length, take, drop, reverse, get_or, None, Some, IfOk, sym, ap, ap₂, subst, ◌∙◌, arith}
use Rattle.ct_sorts.specs.declared.ids.SortId.{SortId}
use Rattle.std.proofs.lemmas.List.{reverse-append}
use Rattle.std.proofs.lemmas.Result.{IfOk-weaker}
use Rattle.ct_lemmas.proofs.Prefixes.{nothing_left, rest-item, rest-step}
use Rattle.ct_sorts.specs.declared.ids.CtorId.{CtorId}
use Rattle.ct_formulas.specs.declared.tree.Tree.{Tree}
use Rattle.ct_formulas.specs.declared.tree.Case.{Case}
use Rattle.ct_formulas.specs.declared.tree.Pattern.{Pattern}
use Rattle.ct_formulas.specs.declared.tree.Tree.TheOpen.{Tree-F}
use Rattle.ct_formulas.specs.declared.tree.Tree.TheFolds.{fold-roll-Tree}
use Rattle.ct_formulas.specs.declared.tree.Tree.TheVariants.{rolls-Def, rolls-Let, rolls-Quantified, rolls-Match}
use Rattle.ct_formulas.specs.TreeFormula.{formula_of, formulas_of_trees, formula_layer, case_layer}
use Rattle.ct_formulas.specs.Formula.{Formula, Cases, Def, Let, Match, Quantified, with_formula, with_case}
use Rattle.ct_formulas.specs.Compiled.{are_none}
use Rattle.ct_formulas.specs.Occurrence.{count_of, occurs, occurs_in_bound, matched_occurs, occurs_in_cases}
use Rattle.ct_occurrence.specs.declared.notes.Notes.{Notes}
use Rattle.ct_occurrence.specs.CaseFormula.{cases_of_trees}
use Rattle.ct_occurrence.proofs.Size.{size, sizes}
use Rattle.ct_occurrence.specs.Marks.{worked_in, flags_below, mark_each, pattern_variable_count, MayMark}
use Rattle.ct_occurrence.specs.Noted.{under_of, IsNoted}
use Rattle.ct_occurrence.proofs.MarkLemmas.{marked_none}
use Rattle.ct_occurrence.proofs.MayLemmas.{may_plain, marks_plain, may_condition, may_then, may_else, marks_choice, may_args, row_there, may_body, may_bound, marks_let, may_quantified, may_matched, may_cases, marks_match, MarksRest, rest_first, rest_lighter, rest_more, rest_end, MarksBound, bound_first, bound_lighter, bound_more, bound_end, bound_short, under_long, under_take, under_drop, ok_then, counted, heavier_plain}
use Rattle.ct_occurrence.proofs.NoteLemmas.{noted_operator, noted_call, noted_choice, noted_let, noted_quantified, noted_match, NotesRest, notes_more, notes_end, NotesBound, notes_bound_more, notes_bound_end}
use Rattle.ct_occurrence.specs.Matching.{tested_by}
use Rattle.ct_occurrence.proofs.CaseLemmas.{cases_is, none_is}
use Rattle.ct_occurrence.proofs.MarkedCases.{MarksCases, cases_first, cases_declared, cases_lighter, ends_matched, ends_marks, ends_noted, cases_next, none_matched, none_marks, none_noted}
use Rattle.ct_occurrence.proofs.occurrence.+mark.Goals as goal

-- ---- mark

pub mark-mark_all-requires : goal.mark-mark_all-requires
mark-mark_all-requires t c =
    let may = c.requires.may in
    let heavy = heavier_plain (formula_of c.args.tree.now) (formulas_of_trees c.in-Some.trees.now) c.in-Some.ensures.plain c.in-Some.ensures.under in
    (omega (arith, heavy, c.decreases), (may.0, may.1, may_plain c.args.sig.now may.0 may.1 (worked_in c.args.definitions.now) (formula_of c.args.tree.now) (formulas_of_trees c.in-Some.trees.now) c.in-Some.ensures.plain c.in-Some.ensures.under may.2))

pub mark-returns-in-Some-clause-marks : goal.mark-returns-in-Some-clause-marks
mark-returns-in-Some-clause-marks t c = λ uses n h.
    c.in_ok-under.ensures.marks uses n (may_plain c.args.sig.now uses n (worked_in c.args.definitions.now) (formula_of c.args.tree.now) (formulas_of_trees c.in-Some.trees.now) c.in-Some.ensures.plain c.in-Some.ensures.under h) ∙ marks_plain c.args.sig.now uses n (worked_in c.args.definitions.now) (formula_of c.args.tree.now) (formulas_of_trees c.in-Some.trees.now) c.in-Some.ensures.plain c.in-Some.ensures.under c.args.flags.now.items

pub mark-returns-in-Some-clause-noted : goal.mark-returns-in-Some-clause-noted
mark-returns-in-Some-clause-noted t c = λ uses n h.
    noted_operator c.args.sig.now (worked_in c.args.definitions.now) uses (formula_of c.args.tree.now) (formulas_of_trees c.in-Some.trees.now) c.plain.result c.in_ok-under.under.items c.in-Some.ensures.plain c.in-Some.ensures.under c.plain.ensures.under (c.in_ok-under.ensures.noted uses n (may_plain c.args.sig.now uses n (worked_in c.args.definitions.now) (formula_of c.args.tree.now) (formulas_of_trees c.in-Some.trees.now) c.in-Some.ensures.plain c.in-Some.ensures.under h))

pub mark-row_at-row-requires : goal.mark-row_at-row-requires
mark-row_at-row-requires t c =
    let may = c.requires.may in
    let h = subst (MayMark c.args.sig.now may.0 may.1 (worked_in c.args.definitions.now)) (ap formula_of (c.in-Def.is ∙ sym (rolls-Def c.in-Def.k c.in-Def.ts)) ∙ fold-roll-Tree Formula (Pattern × Formula) formula_layer case_layer (Tree-F.Def c.in-Def.k c.in-Def.ts)) may.2 in
    record { known = h.known.0 }

pub mark-mark_bound-requires : goal.mark-mark_bound-requires
mark-mark_bound-requires t c =
    let may = c.requires.may in
    let k = c.in-Def.k in
    let trees = c.as_slice.result.now in
    let is : formula_of c.args.tree.now ≡ Def k (formulas_of_trees trees) = (ap formula_of (c.in-Def.is ∙ sym (rolls-Def c.in-Def.k c.in-Def.ts)) ∙ fold-roll-Tree Formula (Pattern × Formula) formula_layer case_layer (Tree-F.Def c.in-Def.k c.in-Def.ts)) ∙ ap (λ (us : List Tree). Def k (formulas_of_trees us)) (sym c.as_slice.ensures.value) in
    let h : MayMark c.args.sig.now may.0 may.1 (worked_in c.args.definitions.now) (Def k (formulas_of_trees trees)) = subst (MayMark c.args.sig.now may.0 may.1 (worked_in c.args.definitions.now)) is may.2 in
    let row : c.row_at-row.result.now ≡ flags_below (may.0 k) (count_of (formulas_of_trees trees)) = row_there c.args.sig.now may.0 may.1 (worked_in c.args.definitions.now) k (formulas_of_trees trees) h c.row_at-row.result.now c.row_at-row.ensures.value in
    let heavy : size (formula_of c.args.tree.now) ≡ sizes (formulas_of_trees trees) + 2 = ap (size) is in
    (omega (arith, heavy, c.decreases), ((may.0, may.1, may_args c.args.sig.now may.0 may.1 (worked_in c.args.definitions.now) k (formulas_of_trees trees) h), (may.0 k, row)))

pub mark-returns-in_ok-under-in-Def-clause-marks : goal.mark-returns-in_ok-under-in-Def-clause-marks
mark-returns-in_ok-under-in-Def-clause-marks t c = λ uses n m.
    let k = c.in-Def.k in
    let trees = c.as_slice.result.now in
    let is : formula_of c.args.tree.now ≡ Def k (formulas_of_trees trees) = (ap formula_of (c.in-Def.is ∙ sym (rolls-Def c.in-Def.k c.in-Def.ts)) ∙ fold-roll-Tree Formula (Pattern × Formula) formula_layer case_layer (Tree-F.Def c.in-Def.k c.in-Def.ts)) ∙ ap (λ (us : List Tree). Def k (formulas_of_trees us)) (sym c.as_slice.ensures.value) in
    let h : MayMark c.args.sig.now uses n (worked_in c.args.definitions.now) (Def k (formulas_of_trees trees)) = subst (MayMark c.args.sig.now uses n (worked_in c.args.definitions.now)) is m in
    let row : c.row_at-row.result.now ≡ flags_below (uses k) (count_of (formulas_of_trees trees)) = row_there c.args.sig.now uses n (worked_in c.args.definitions.now) k (formulas_of_trees trees) h c.row_at-row.result.now c.row_at-row.ensures.value in
    c.in_ok-under-in-Def.ensures.marks (uses k) uses n (may_args c.args.sig.now uses n (worked_in c.args.definitions.now) k (formulas_of_trees trees) h) row ∙ ap (λ (f : Formula). mark_each (occurs c.args.sig.now uses f) c.args.flags.now.items) (sym is)

pub mark-returns-in_ok-under-in-Def-clause-noted : goal.mark-returns-in_ok-under-in-Def-clause-noted
mark-returns-in_ok-under-in-Def-clause-noted t c = λ uses n m.
    let k = c.in-Def.k in
    let trees = c.as_slice.result.now in
    let is : formula_of c.args.tree.now ≡ Def k (formulas_of_trees trees) = (ap formula_of (c.in-Def.is ∙ sym (rolls-Def c.in-Def.k c.in-Def.ts)) ∙ fold-roll-Tree Formula (Pattern × Formula) formula_layer case_layer (Tree-F.Def c.in-Def.k c.in-Def.ts)) ∙ ap (λ (us : List Tree). Def k (formulas_of_trees us)) (sym c.as_slice.ensures.value) in
    let h : MayMark c.args.sig.now uses n (worked_in c.args.definitions.now) (Def k (formulas_of_trees trees)) = subst (MayMark c.args.sig.now uses n (worked_in c.args.definitions.now)) is m in
    let row : c.row_at-row.result.now ≡ flags_below (uses k) (count_of (formulas_of_trees trees)) = row_there c.args.sig.now uses n (worked_in c.args.definitions.now) k (formulas_of_trees trees) h c.row_at-row.result.now c.row_at-row.ensures.value in
    subst (λ (f : Formula). IsNoted c.args.sig.now (worked_in c.args.definitions.now) uses f c.plain-in-Def.result) (sym is) (noted_call c.args.sig.now (worked_in c.args.definitions.now) uses k (formulas_of_trees trees) c.plain-in-Def.result c.in_ok-under-in-Def.under.items c.row_at-row.result.now row c.plain-in-Def.ensures.under h.known.0 (c.in_ok-under-in-Def.ensures.noted (uses k) uses n (may_args c.args.sig.now uses n (worked_in c.args.definitions.now) k (formulas_of_trees trees) h) row))

pub mark-returns-in-Let-clause-marks : goal.mark-returns-in-Let-clause-marks
mark-returns-in-Let-clause-marks t c = λ uses n m.
    let trees = c.as_slice-in-Let.result.now in
    let u = c.deref-in-Let.result.now in
    let is : formula_of c.args.tree.now ≡ Let (formulas_of_trees trees) (formula_of u) = (ap formula_of (c.in-Let.is ∙ sym (rolls-Let c.in-Let.ts c.in-Let.u)) ∙ fold-roll-Tree Formula (Pattern × Formula) formula_layer case_layer (Tree-F.Let c.in-Let.ts c.in-Let.u)) ∙ ap₂ (λ (us : List Tree) (v : Tree). Let (formulas_of_trees us) (formula_of v)) (sym c.as_slice-in-Let.ensures.value) (sym c.deref-in-Let.ensures) in
    ok_then c.mark_let.result _ _ _
    (ap (λ (f : Formula). mark_each (occurs c.args.sig.now uses f) c.args.flags.now.items) (sym is))
    (c.mark_let.ensures.marks uses n (subst (MayMark c.args.sig.now uses n (worked_in c.args.definitions.now)) is m))

pub mark-returns-in-Let-clause-noted : goal.mark-returns-in-Let-clause-noted
mark-returns-in-Let-clause-noted t c = λ uses n m.
    let trees = c.as_slice-in-Let.result.now in
    let u = c.deref-in-Let.result.now in
    let is : formula_of c.args.tree.now ≡ Let (formulas_of_trees trees) (formula_of u) = (ap formula_of (c.in-Let.is ∙ sym (rolls-Let c.in-Let.ts c.in-Let.u)) ∙ fold-roll-Tree Formula (Pattern × Formula) formula_layer case_layer (Tree-F.Let c.in-Let.ts c.in-Let.u)) ∙ ap₂ (λ (us : List Tree) (v : Tree). Let (formulas_of_trees us) (formula_of v)) (sym c.as_slice-in-Let.ensures.value) (sym c.deref-in-Let.ensures) in
    subst (λ (f : Formula). IfOk c.mark_let.result (IsNoted c.args.sig.now (worked_in c.args.definitions.now) uses f)) (sym is) (c.mark_let.ensures.noted uses n (subst (MayMark c.args.sig.now uses n (worked_in c.args.definitions.now)) is m))

pub mark-returns-in-Quantified-clause-noted : goal.mark-returns-in-Quantified-clause-noted
mark-returns-in-Quantified-clause-noted t c = λ uses n m.
    let sorts = c.as_slice-in-Quantified.result.now in
    let u = c.deref-in-Quantified.result.now in
    let q = c.in-Quantified.field-0 in
    let is : formula_of c.args.tree.now ≡ Quantified q sorts (formula_of u) = (ap formula_of (c.in-Quantified.is ∙ sym (rolls-Quantified q c.in-Quantified.sorts c.in-Quantified.t)) ∙ fold-roll-Tree Formula (Pattern × Formula) formula_layer case_layer (Tree-F.Quantified q c.in-Quantified.sorts c.in-Quantified.t)) ∙ ap₂ (λ (ss : List SortId) (v : Tree). Quantified q ss (formula_of v)) (sym c.as_slice-in-Quantified.ensures.value) (sym c.deref-in-Quantified.ensures) in
    subst (λ (f : Formula). IfOk c.mark_quantified.result (IsNoted c.args.sig.now (worked_in c.args.definitions.now) uses f)) (sym is) (c.mark_quantified.ensures.noted q uses n (subst (MayMark c.args.sig.now uses n (worked_in c.args.definitions.now)) is m))

pub mark-returns-in-Match-clause-marks : goal.mark-returns-in-Match-clause-marks
mark-returns-in-Match-clause-marks t c = λ uses n m.
    let cases = c.as_slice-in-Match.result.now in
    let u = c.deref-in-Match.result.now in
    let is : formula_of c.args.tree.now ≡ Match (formula_of u) (cases_of_trees cases) = (ap formula_of (c.in-Match.is ∙ sym (rolls-Match c.in-Match.t c.in-Match.cases)) ∙ fold-roll-Tree Formula (Pattern × Formula) formula_layer case_layer (Tree-F.Match c.in-Match.t c.in-Match.cases)) ∙ ap₂ (λ (v : Tree) (cs : List Case). Match (formula_of v) (cases_of_trees cs)) (sym c.deref-in-Match.ensures) (sym c.as_slice-in-Match.ensures.value) in
    ok_then c.mark_match.result _ _ _
    (ap (λ (f : Formula). mark_each (occurs c.args.sig.now uses f) c.args.flags.now.items) (sym is))
    (c.mark_match.ensures.marks uses n (subst (MayMark c.args.sig.now uses n (worked_in c.args.definitions.now)) is m))

pub mark-returns-in-Match-clause-noted : goal.mark-returns-in-Match-clause-noted
mark-returns-in-Match-clause-noted t c = λ uses n m.
    let cases = c.as_slice-in-Match.result.now in
    let u = c.deref-in-Match.result.now in
    let is : formula_of c.args.tree.now ≡ Match (formula_of u) (cases_of_trees cases) = (ap formula_of (c.in-Match.is ∙ sym (rolls-Match c.in-Match.t c.in-Match.cases)) ∙ fold-roll-Tree Formula (Pattern × Formula) formula_layer case_layer (Tree-F.Match c.in-Match.t c.in-Match.cases)) ∙ ap₂ (λ (v : Tree) (cs : List Case). Match (formula_of v) (cases_of_trees cs)) (sym c.deref-in-Match.ensures) (sym c.as_slice-in-Match.ensures.value) in
    subst (λ (f : Formula). IfOk c.mark_match.result (IsNoted c.args.sig.now (worked_in c.args.definitions.now) uses f)) (sym is) (c.mark_match.ensures.noted uses n (subst (MayMark c.args.sig.now uses n (worked_in c.args.definitions.now)) is m))

-- ---- mark_all

pub mark_all-mark-requires : goal.mark_all-mark-requires
mark_all-mark-requires t c =
    let may = c.requires.may in
    let loop = c.loop-rest in
    let all = formulas_of_trees c.args.trees.now in
    let first = c.args.flags.now.items in
    let more = formulas_of_trees (take (length loop.rest.now - 1) (drop 1 loop.rest.now)) in
    let split = subst (λ (xs : List Tree). MarksRest c.args.sig.now (worked_in c.args.definitions.now) all first (formulas_of_trees xs) loop.flags.items) (rest-item loop.rest.now c.tree-item.result c.in-len1-up.len_at_least c.tree-item.is) loop.invariant.marks in
    let lighter = rest_lighter c.args.sig.now (worked_in c.args.definitions.now) all first (formula_of c.tree-item.result) more loop.flags.items split in
    (omega (arith, lighter, c.decreases), (may.0, may.1, rest_first c.args.sig.now (worked_in c.args.definitions.now) all first (formula_of c.tree-item.result) more loop.flags.items split may.0 may.1 may.2))

pub mark_all-loop-rest-preserved : goal.mark_all-loop-rest-preserved
mark_all-loop-rest-preserved t c =
    let loop = c.loop-rest in
    let all = formulas_of_trees c.args.trees.now in
    let first = c.args.flags.now.items in
    let more = formulas_of_trees (take (length loop.rest.now - 1) (drop 1 loop.rest.now)) in
    let split = subst (λ (xs : List Tree). MarksRest c.args.sig.now (worked_in c.args.definitions.now) all first (formulas_of_trees xs) loop.flags.items) (rest-item loop.rest.now c.tree-item.result c.in-len1-up.len_at_least c.tree-item.is) loop.invariant.marks in
    let notes = subst (λ (xs : List Tree). NotesRest c.args.sig.now (worked_in c.args.definitions.now) all (formulas_of_trees xs) loop.all.items) (rest-item loop.rest.now c.tree-item.result c.in-len1-up.len_at_least c.tree-item.is) loop.invariant.notes in
    record {
      marks = rest_more c.args.sig.now (worked_in c.args.definitions.now) all first (formula_of c.tree-item.result) more loop.flags.items split c.mark.new.flags.items (λ uses n h. c.in_ok-notes.ensures.marks uses n h);
      notes = subst (λ (ms : List Notes). NotesRest c.args.sig.now (worked_in c.args.definitions.now) all more ms) (sym c.in_ok-push.ensures.items) (notes_more c.args.sig.now (worked_in c.args.definitions.now) all (formula_of c.tree-item.result) more loop.all.items c.in_ok-notes.notes notes (λ uses n h. c.in_ok-notes.ensures.noted uses n (rest_first c.args.sig.now (worked_in c.args.definitions.now) all first (formula_of c.tree-item.result) more loop.flags.items split uses n h)));
    }

pub mark_all-returns-clause-marks : goal.mark_all-returns-clause-marks
mark_all-returns-clause-marks t c = λ uses n h.
    let loop = c.loop-rest in
    let all = formulas_of_trees c.args.trees.now in
    let first = c.args.flags.now.items in
    let none : loop.rest.now ≡ [] = nothing_left loop.rest.now (omega (arith, c.in_default.len_below)) in
    let end = subst (λ (xs : List Tree). MarksRest c.args.sig.now (worked_in c.args.definitions.now) all first (formulas_of_trees xs) loop.flags.items) none loop.invariant.marks in
    rest_end c.args.sig.now (worked_in c.args.definitions.now) all first loop.flags.items uses n end h

pub mark_all-returns-clause-noted : goal.mark_all-returns-clause-noted
mark_all-returns-clause-noted t c = λ uses n h.
    let loop = c.loop-rest in
    let all = formulas_of_trees c.args.trees.now in
    let first = c.args.flags.now.items in
    let none : loop.rest.now ≡ [] = nothing_left loop.rest.now (omega (arith, c.in_default.len_below)) in
    let end = subst (λ (xs : List Tree). NotesRest c.args.sig.now (worked_in c.args.definitions.now) all (formulas_of_trees xs) loop.all.items) none loop.invariant.notes in
    notes_end c.args.sig.now (worked_in c.args.definitions.now) all loop.all.items uses n end h

-- ---- mark_bound

pub mark_bound-returns-in_default-left-clause-marks : goal.mark_bound-returns-in_default-left-clause-marks
mark_bound-returns-in_default-left-clause-marks t c = λ inner uses n h e.
    let loop = c.loop-rest in
    let all = formulas_of_trees c.args.trees.now in
    let first = c.args.flags.now.items in
    let more = formulas_of_trees (take (length loop.rest.now - 1) (drop 1 loop.rest.now)) in
    let split = subst (λ (xs : List Tree). MarksBound c.args.sig.now (worked_in c.args.definitions.now) c.args.bound.now all first loop.left.now (formulas_of_trees xs) loop.flags.items) (rest-item loop.rest.now c.tree-item.result c.in-len1-up.len_at_least c.tree-item.is) loop.invariant.marks in
    let none : loop.left.now ≡ [] = nothing_left loop.left.now (omega (arith, c.in_default-left.len_below)) in
    let short = subst (λ (bs : List Bool). MarksBound c.args.sig.now (worked_in c.args.definitions.now) c.args.bound.now all first bs (with_formula (formula_of c.tree-item.result) more) loop.flags.items) none split in
    absurd (bound_short c.args.sig.now (worked_in c.args.definitions.now) c.args.bound.now all first (formula_of c.tree-item.result) more loop.flags.items inner uses n short h e)

pub mark_bound-returns-in_default-left-clause-noted : goal.mark_bound-returns-in_default-left-clause-noted
mark_bound-returns-in_default-left-clause-noted t c = λ inner uses n h e.
    let loop = c.loop-rest in
    let all = formulas_of_trees c.args.trees.now in
    let first = c.args.flags.now.items in
    let more = formulas_of_trees (take (length loop.rest.now - 1) (drop 1 loop.rest.now)) in
    let split = subst (λ (xs : List Tree). MarksBound c.args.sig.now (worked_in c.args.definitions.now) c.args.bound.now all first loop.left.now (formulas_of_trees xs) loop.flags.items) (rest-item loop.rest.now c.tree-item.result c.in-len1-up.len_at_least c.tree-item.is) loop.invariant.marks in
    let none : loop.left.now ≡ [] = nothing_left loop.left.now (omega (arith, c.in_default-left.len_below)) in
    let short = subst (λ (bs : List Bool). MarksBound c.args.sig.now (worked_in c.args.definitions.now) c.args.bound.now all first bs (with_formula (formula_of c.tree-item.result) more) loop.flags.items) none split in
    absurd (bound_short c.args.sig.now (worked_in c.args.definitions.now) c.args.bound.now all first (formula_of c.tree-item.result) more loop.flags.items inner uses n short h e)

pub mark_bound-mark_where-requires : goal.mark_bound-mark_where-requires
mark_bound-mark_where-requires t c =
    let may = c.requires.may in
    let flags = c.requires.flags in
    let loop = c.loop-rest in
    let all = formulas_of_trees c.args.trees.now in
    let first = c.args.flags.now.items in
    let more = formulas_of_trees (take (length loop.rest.now - 1) (drop 1 loop.rest.now)) in
    let split = subst (λ (xs : List Tree). MarksBound c.args.sig.now (worked_in c.args.definitions.now) c.args.bound.now all first loop.left.now (formulas_of_trees xs) loop.flags.items) (rest-item loop.rest.now c.tree-item.result c.in-len1-up.len_at_least c.tree-item.is) loop.invariant.marks in
    let b = get_or loop.left.now 0 false in
    let left = take (length loop.left.now - 1) (drop 1 loop.left.now) in
    let both = subst (λ (bs : List Bool). MarksBound c.args.sig.now (worked_in c.args.definitions.now) c.args.bound.now all first bs (with_formula (formula_of c.tree-item.result) more) loop.flags.items) (rest-step loop.left.now false c.in-len1-up-left.len_at_least) split in
    let lighter = bound_lighter c.args.sig.now (worked_in c.args.definitions.now) c.args.bound.now all first b left (formula_of c.tree-item.result) more loop.flags.items both in
    (omega (arith, lighter, c.decreases), (may.0, may.1, bound_first c.args.sig.now (worked_in c.args.definitions.now) c.args.bound.now all first b left (formula_of c.tree-item.result) more loop.flags.items both flags.0 may.0 may.1 may.2 flags.1))

pub mark_bound-loop-rest-preserved : goal.mark_bound-loop-rest-preserved
mark_bound-loop-rest-preserved t c =
    let loop = c.loop-rest in
    let all = formulas_of_trees c.args.trees.now in
    let first = c.args.flags.now.items in
    let more = formulas_of_trees (take (length loop.rest.now - 1) (drop 1 loop.rest.now)) in
    let split = subst (λ (xs : List Tree). MarksBound c.args.sig.now (worked_in c.args.definitions.now) c.args.bound.now all first loop.left.now (formulas_of_trees xs) loop.flags.items) (rest-item loop.rest.now c.tree-item.result c.in-len1-up.len_at_least c.tree-item.is) loop.invariant.marks in
    let b = get_or loop.left.now 0 false in
    let left = take (length loop.left.now - 1) (drop 1 loop.left.now) in
    let both = subst (λ (bs : List Bool). MarksBound c.args.sig.now (worked_in c.args.definitions.now) c.args.bound.now all first bs (with_formula (formula_of c.tree-item.result) more) loop.flags.items) (rest-step loop.left.now false c.in-len1-up-left.len_at_least) split in
    let notes = subst (λ (bs : List Bool). NotesBound c.args.sig.now (worked_in c.args.definitions.now) c.args.bound.now all bs (with_formula (formula_of c.tree-item.result) more) loop.all.items) (rest-step loop.left.now false c.in-len1-up-left.len_at_least) (subst (λ (xs : List Tree). NotesBound c.args.sig.now (worked_in c.args.definitions.now) c.args.bound.now all loop.left.now (formulas_of_trees xs) loop.all.items) (rest-item loop.rest.now c.tree-item.result c.in-len1-up.len_at_least c.tree-item.is) loop.invariant.notes) in
    record {
      marks = bound_more c.args.sig.now (worked_in c.args.definitions.now) c.args.bound.now all first b left (formula_of c.tree-item.result) more loop.flags.items both c.mark_where.new.flags.items (λ uses n h. c.in_ok-notes.ensures.marks uses n h);
      notes = subst (λ (ms : List Notes). NotesBound c.args.sig.now (worked_in c.args.definitions.now) c.args.bound.now all left more ms) (sym c.in_ok-push.ensures.items) (notes_bound_more c.args.sig.now (worked_in c.args.definitions.now) c.args.bound.now all b left (formula_of c.tree-item.result) more loop.all.items c.in_ok-notes.notes notes (λ inner uses n h e is. c.in_ok-notes.ensures.noted uses n (bound_first c.args.sig.now (worked_in c.args.definitions.now) c.args.bound.now all first b left (formula_of c.tree-item.result) more loop.flags.items both inner uses n h e) is));
    }

pub mark_bound-returns-clause-marks : goal.mark_bound-returns-clause-marks
mark_bound-returns-clause-marks t c = λ inner uses n h e.
    let loop = c.loop-rest in
    let all = formulas_of_trees c.args.trees.now in
    let first = c.args.flags.now.items in
    let none : loop.rest.now ≡ [] = nothing_left loop.rest.now (omega (arith, c.in_default.len_below)) in
    let end = subst (λ (xs : List Tree). MarksBound c.args.sig.now (worked_in c.args.definitions.now) c.args.bound.now all first loop.left.now (formulas_of_trees xs) loop.flags.items) none loop.invariant.marks in
    bound_end c.args.sig.now (worked_in c.args.definitions.now) c.args.bound.now all first loop.left.now loop.flags.items inner uses n end h e

pub mark_bound-returns-clause-noted : goal.mark_bound-returns-clause-noted
mark_bound-returns-clause-noted t c = λ inner uses n h e.
    let loop = c.loop-rest in
    let all = formulas_of_trees c.args.trees.now in
    let first = c.args.flags.now.items in
    let none : loop.rest.now ≡ [] = nothing_left loop.rest.now (omega (arith, c.in_default.len_below)) in
    let end = subst (λ (xs : List Tree). NotesBound c.args.sig.now (worked_in c.args.definitions.now) c.args.bound.now all loop.left.now (formulas_of_trees xs) loop.all.items) none loop.invariant.notes in
    notes_bound_end c.args.sig.now (worked_in c.args.definitions.now) c.args.bound.now all loop.left.now loop.all.items inner uses n end h e

-- ---- mark_where

pub mark_where-returns-then-counts-clause-marks : goal.mark_where-returns-then-counts-clause-marks
mark_where-returns-then-counts-clause-marks t c = λ uses n h.
    ok_then c.mark.result _ _ _
    (ap (λ (b : Bool). mark_each (λ i. b && occurs c.args.sig.now uses (formula_of c.args.tree.now) i) c.args.flags.now.items) (sym c.if-counts.true))
    (c.mark.ensures.marks uses n h)

pub mark_where-returns-clause-marks : goal.mark_where-returns-clause-marks
mark_where-returns-clause-marks t c = λ uses n h. sym (ap (λ (b : Bool). mark_each (λ i. b && occurs c.args.sig.now uses (formula_of c.args.tree.now) i) c.args.flags.now.items) c.if-counts.false ∙ marked_none c.args.flags.now.items)

-- ---- mark_under

pub mark_under-split_off-requires : goal.mark_under-split_off-requires
mark_under-split_off-requires t c =
    let may = c.requires.may in
    let long : c.len-outside.result ≡ length c.args.flags.now.items = omega (arith, c.len-outside.ensures, c.args.flags.now.ok.0) in
    let more = under_long (occurs c.args.sig.now may.0 (formula_of c.args.tree.now)) c.args.count c.args.flags.now.items c.add_flags.new.flags.items c.mark.new.flags.items c.in_ok-add_flags.ensures.more (c.in_ok-notes.ensures.marks may.0 may.1 may.2) in
    omega (arith, long, more, c.mark.new.flags.ok.0)

pub mark_under-returns-clause-flags : goal.mark_under-returns-clause-flags
mark_under-returns-clause-flags t c = λ uses n h.
    let long : c.len-outside.result ≡ length c.args.flags.now.items = omega (arith, c.len-outside.ensures, c.args.flags.now.ok.0) in
    let tail = under_drop (occurs c.args.sig.now uses (formula_of c.args.tree.now)) c.args.count c.args.flags.now.items c.add_flags.new.flags.items c.mark.new.flags.items c.in_ok-add_flags.ensures.more (c.in_ok-notes.ensures.marks uses n h) c.len-outside.result long in
    IfOk-weaker c.split_off.result _ _ (λ w e. e ∙ tail) c.split_off.ensures.tail

pub mark_under-returns-clause-marks : goal.mark_under-returns-clause-marks
mark_under-returns-clause-marks t c = λ uses n h.
    let long : c.len-outside.result ≡ length c.args.flags.now.items = omega (arith, c.len-outside.ensures, c.args.flags.now.ok.0) in
    let front = under_take (occurs c.args.sig.now uses (formula_of c.args.tree.now)) c.args.count c.args.flags.now.items c.add_flags.new.flags.items c.mark.new.flags.items c.in_ok-add_flags.ensures.more (c.in_ok-notes.ensures.marks uses n h) c.len-outside.result long in
    ok_then c.split_off.result _ _ _ front c.split_off.ensures.items

-- ---- mark_choice

pub mark_choice-returns-clause-marks : goal.mark_choice-returns-clause-marks
mark_choice-returns-clause-marks t c = λ uses n h.
    let d = c.args.sig.now in
    let rows = (worked_in c.args.definitions.now) in
    let first = c.args.flags.now.items in
    let f = formula_of c.args.condition.now in
    let g = formula_of c.args.first.now in
    let k = formula_of c.args.second.now in
    let one : c.mark.new.flags.items ≡ mark_each (occurs d uses f) first = c.in_ok-c.ensures.marks uses n (may_condition d uses n rows f g k h) in
    let two : c.mark-2.new.flags.items ≡ mark_each (occurs d uses g) (mark_each (occurs d uses f) first) = c.in_ok-t.ensures.marks uses n (may_then d uses n rows f g k h) ∙ ap (mark_each (occurs d uses g)) one in
    c.in_ok-u.ensures.marks uses n (may_else d uses n rows f g k h) ∙ (ap (mark_each (occurs d uses k)) two ∙ marks_choice d uses n rows f g k first)

pub mark_choice-returns-clause-noted : goal.mark_choice-returns-clause-noted
mark_choice-returns-clause-noted t c = λ uses n h.
    let d = c.args.sig.now in
    let rows = (worked_in c.args.definitions.now) in
    let first = c.args.flags.now.items in
    let f = formula_of c.args.condition.now in
    let g = formula_of c.args.first.now in
    let k = formula_of c.args.second.now in
    let two : c.push-2.new.self.items ≡ c.in_ok-c.c ∷ (c.in_ok-t.t ∷ []) = c.in_ok-push-2.ensures.items ∙ ap (λ (ms : List Notes). ms ++ c.in_ok-t.t ∷ []) (c.in_ok-push.ensures.items ∙ ap (λ (ms : List Notes). ms ++ c.in_ok-c.c ∷ []) c.new-under.ensures.items) in
    let three : under_of c.plain.result ≡ c.in_ok-c.c ∷ (c.in_ok-t.t ∷ (c.in_ok-u.u ∷ [])) = c.plain.ensures.under ∙ (c.in_ok-push-3.ensures.items ∙ ap (λ (ms : List Notes). ms ++ c.in_ok-u.u ∷ []) two) in
    noted_choice d rows uses f g k c.plain.result c.in_ok-c.c c.in_ok-t.t c.in_ok-u.u three (c.in_ok-c.ensures.noted uses n (may_condition d uses n rows f g k h)) (c.in_ok-t.ensures.noted uses n (may_then d uses n rows f g k h)) (c.in_ok-u.ensures.noted uses n (may_else d uses n rows f g k h))

-- ---- mark_let

pub mark_let-mark_bound-requires : goal.mark_let-mark_bound-requires
mark_let-mark_bound-requires t c =
    let may = c.requires.may in
    let d = c.args.sig.now in
    let rows = (worked_in c.args.definitions.now) in
    let first = c.args.flags.now.items in
    let ts = formulas_of_trees c.args.trees.now in
    let u = formula_of c.args.body.now in
    let count : length c.args.trees.now ≡ count_of ts = sym (counted c.args.trees.now) in
    let body = may_body d may.0 may.1 rows ts u may.2 in
    let row : c.as_slice.result.now ≡ flags_below (occurs d may.0 u) (count_of ts) = c.as_slice.ensures.value ∙ (c.in_ok-bound.ensures.flags may.0 may.1 body ∙ ap (flags_below (occurs d may.0 u)) count) in
    (omega (arith, c.decreases), ((may.0, may.1, may_bound d may.0 may.1 rows ts u may.2), (occurs d may.0 u, row)))

pub mark_let-returns-clause-marks : goal.mark_let-returns-clause-marks
mark_let-returns-clause-marks t c = λ uses n h.
    let d = c.args.sig.now in
    let rows = (worked_in c.args.definitions.now) in
    let first = c.args.flags.now.items in
    let ts = formulas_of_trees c.args.trees.now in
    let u = formula_of c.args.body.now in
    let count : length c.args.trees.now ≡ count_of ts = sym (counted c.args.trees.now) in
    let body = may_body d uses n rows ts u h in
    let row : c.as_slice.result.now ≡ flags_below (occurs d uses u) (count_of ts) = c.as_slice.ensures.value ∙ (c.in_ok-bound.ensures.flags uses n body ∙ ap (flags_below (occurs d uses u)) count) in
    let under : c.mark_under.new.flags.items ≡ mark_each (λ i. occurs d uses u (i + count_of ts)) first = c.in_ok-bound.ensures.marks uses n body ∙ ap (λ (k : ℕ). mark_each (λ i. occurs d uses u (i + k)) first) count in
    c.in_ok-under.ensures.marks (occurs d uses u) uses n (may_bound d uses n rows ts u h) row ∙ (ap (mark_each (occurs_in_bound d uses (occurs d uses u) ts)) under ∙ marks_let d uses n rows ts u first)

pub mark_let-returns-clause-noted : goal.mark_let-returns-clause-noted
mark_let-returns-clause-noted t c = λ uses n h.
    let d = c.args.sig.now in
    let rows = (worked_in c.args.definitions.now) in
    let first = c.args.flags.now.items in
    let ts = formulas_of_trees c.args.trees.now in
    let u = formula_of c.args.body.now in
    let count : length c.args.trees.now ≡ count_of ts = sym (counted c.args.trees.now) in
    let body = may_body d uses n rows ts u h in
    let row : c.as_slice.result.now ≡ flags_below (occurs d uses u) (count_of ts) = c.as_slice.ensures.value ∙ (c.in_ok-bound.ensures.flags uses n body ∙ ap (flags_below (occurs d uses u)) count) in
    let noted = c.in_ok-bound.ensures.noted uses n body in
    let inner = c.binder.ensures.inner ∙ (noted.1 ∙ ap (λ (ms : List Notes). ms ++ noted.0 ∷ []) c.new-inner.ensures.items) in
    noted_let d rows uses ts u c.binder.result noted.0 c.as_slice.result.now c.in_ok-under.under.items row (c.binder.ensures.bound ∙ sym c.as_slice.ensures.value) c.binder.ensures.under inner (c.in_ok-under.ensures.noted (occurs d uses u) uses n (may_bound d uses n rows ts u h) row) noted.2

-- ---- mark_quantified

pub mark_quantified-mark_under-requires : goal.mark_quantified-mark_under-requires
mark_quantified-mark_under-requires t c =
    let may = c.requires.may in
    (omega (arith, c.decreases), (may.1, may.2, may_quantified c.args.sig.now may.1 may.2 (worked_in c.args.definitions.now) may.0 c.args.sorts.now (formula_of c.args.body.now) may.3))

pub mark_quantified-returns-clause-marks : goal.mark_quantified-returns-clause-marks
mark_quantified-returns-clause-marks t c = λ q uses n h.
    let d = c.args.sig.now in
    let body = formula_of c.args.body.now in
    c.in_ok-bound.ensures.marks uses n (may_quantified d uses n (worked_in c.args.definitions.now) q c.args.sorts.now body h)

pub mark_quantified-returns-clause-noted : goal.mark_quantified-returns-clause-noted
mark_quantified-returns-clause-noted t c = λ q uses n h.
    let d = c.args.sig.now in
    let rows = (worked_in c.args.definitions.now) in
    let body = formula_of c.args.body.now in
    let may = may_quantified d uses n rows q c.args.sorts.now body h in
    let noted = c.in_ok-bound.ensures.noted uses n may in
    let inner = c.binder.ensures.inner ∙ (noted.1 ∙ ap (λ (ms : List Notes). ms ++ noted.0 ∷ []) c.new-inner.ensures.items) in
    noted_quantified d rows uses q c.args.sorts.now body c.binder.result noted.0 c.in_ok-bound.bound.items (c.in_ok-bound.ensures.flags uses n may) c.binder.ensures.bound inner noted.2

-- ---- mark_match

pub mark_match-returns-clause-marks : goal.mark_match-returns-clause-marks
mark_match-returns-clause-marks t c = λ uses n m.
    let d = c.args.sig.now in
    let rows = (worked_in c.args.definitions.now) in
    let first = c.args.flags.now.items in
    let f = formula_of c.args.matched.now in
    let cases = cases_of_trees c.args.cases.now in
    let under = may_cases d uses n rows f cases m in
    let counts : c.in_ok-counts.counts ≡ matched_occurs d uses [] cases = c.in_ok-counts.ensures.matched uses n under in
    let bodies : c.mark_cases.new.flags.items ≡ mark_each (occurs_in_cases d uses [] cases) first = c.in_ok-counts.ensures.marks uses n under in
    c.in_ok-notes.ensures.marks uses n (may_matched d uses n rows f cases m) ∙ (ap (mark_each (λ i. c.in_ok-counts.counts && occurs d uses f i)) bodies ∙ marks_match d uses n rows f cases c.in_ok-counts.counts first counts)

pub mark_match-returns-clause-noted : goal.mark_match-returns-clause-noted
mark_match-returns-clause-noted t c = λ uses n m.
    let d = c.args.sig.now in
    let rows = (worked_in c.args.definitions.now) in
    let first = c.args.flags.now.items in
    let f = formula_of c.args.matched.now in
    let cases = cases_of_trees c.args.cases.now in
    let under = may_cases d uses n rows f cases m in
    let counts : c.in_ok-counts.counts ≡ matched_occurs d uses [] cases = c.in_ok-counts.ensures.matched uses n under in
    let noted = c.in_ok-counts.ensures.noted uses n under in
    let inner : c.mark_cases.new.inner.items ≡ noted.0 = noted.1 ∙ ap (λ (ms : List Notes). ms ++ noted.0) c.new-inner.ensures.items in
    let bound : c.push.new.self.items ≡ c.in_ok-counts.counts ∷ [] = c.in_ok-push.ensures.items ∙ ap (λ (bs : List Bool). bs ++ c.in_ok-counts.counts ∷ []) c.new-bound.ensures.items in
    let one : c.push-2.new.self.items ≡ c.in_ok-notes.notes ∷ [] = c.in_ok-push-2.ensures.items ∙ ap (λ (ms : List Notes). ms ++ c.in_ok-notes.notes ∷ []) c.new-under.ensures.items in
    noted_match d rows uses f cases c.binder.result c.in_ok-notes.notes c.in_ok-counts.counts noted.0 counts (c.binder.ensures.bound ∙ bound) (c.binder.ensures.under ∙ one) (c.binder.ensures.inner ∙ inner) (λ e. c.in_ok-notes.ensures.noted uses n (may_matched d uses n rows f cases m) e) noted.2

-- ---- mark_cases

pub mark_cases-variable_count-count-requires : goal.mark_cases-variable_count-count-requires
mark_cases-variable_count-count-requires t c =
    let d = c.args.sig.now in
    let rows = (worked_in c.args.definitions.now) in
    let all = cases_of_trees c.args.cases.now in
    let first = c.args.flags.now.items in
    let before = c.args.inner.now.items in
    let loop = c.loop-rest in
    let earlier = reverse loop.earlier in
    let p = c.pattern_of-pattern.result in
    let body = formula_of c.body_of-body.result.now in
    let others = take (length loop.rest.now - 1) (drop 1 loop.rest.now) in
    let later = cases_of_trees others in
    let whole : cases_of_trees loop.rest.now ≡ with_case p body later = cases_is loop.rest.now others c.case-item.result p body (rest-item loop.rest.now c.case-item.result c.in-len1-up.len_at_least c.case-item.is) c.pattern_of-pattern.ensures.value c.body_of-body.ensures.value in
    let split = subst (λ (cs : Cases). MarksCases d rows all first before earlier loop.tests cs loop.flags.items loop.inner.items) whole loop.invariant in
    let may = c.requires.may in
    record { declared = cases_declared d rows all first before earlier loop.tests p body later loop.flags.items loop.inner.items split may.0 may.1 may.2 }

pub mark_cases-mark_under-requires : goal.mark_cases-mark_under-requires
mark_cases-mark_under-requires t c =
    let d = c.args.sig.now in
    let rows = (worked_in c.args.definitions.now) in
    let all = cases_of_trees c.args.cases.now in
    let first = c.args.flags.now.items in
    let before = c.args.inner.now.items in
    let loop = c.loop-rest in
    let earlier = reverse loop.earlier in
    let p = c.pattern_of-pattern.result in
    let body = formula_of c.body_of-body.result.now in
    let others = take (length loop.rest.now - 1) (drop 1 loop.rest.now) in
    let later = cases_of_trees others in
    let whole : cases_of_trees loop.rest.now ≡ with_case p body later = cases_is loop.rest.now others c.case-item.result p body (rest-item loop.rest.now c.case-item.result c.in-len1-up.len_at_least c.case-item.is) c.pattern_of-pattern.ensures.value c.body_of-body.ensures.value in
    let split = subst (λ (cs : Cases). MarksCases d rows all first before earlier loop.tests cs loop.flags.items loop.inner.items) whole loop.invariant in
    let may = c.requires.may in
    let lighter = cases_lighter d rows all first before earlier loop.tests p body later loop.flags.items loop.inner.items split in
    (omega (arith, lighter, c.decreases), (may.0, may.1, cases_first d rows all first before earlier loop.tests p body later loop.flags.items loop.inner.items split may.0 may.1 may.2))

pub mark_cases-tested-requires : goal.mark_cases-tested-requires
mark_cases-tested-requires t c =
    let d = c.args.sig.now in
    let rows = (worked_in c.args.definitions.now) in
    let all = cases_of_trees c.args.cases.now in
    let first = c.args.flags.now.items in
    let before = c.args.inner.now.items in
    let loop = c.loop-rest in
    let earlier = reverse loop.earlier in
    let p = c.pattern_of-pattern.result in
    let body = formula_of c.body_of-body.result.now in
    let others = take (length loop.rest.now - 1) (drop 1 loop.rest.now) in
    let later = cases_of_trees others in
    let whole : cases_of_trees loop.rest.now ≡ with_case p body later = cases_is loop.rest.now others c.case-item.result p body (rest-item loop.rest.now c.case-item.result c.in-len1-up.len_at_least c.case-item.is) c.pattern_of-pattern.ensures.value c.body_of-body.ensures.value in
    let split = subst (λ (cs : Cases). MarksCases d rows all first before earlier loop.tests cs loop.flags.items loop.inner.items) whole loop.invariant in
    let may = c.requires.may in
    record { declared = cases_declared d rows all first before earlier loop.tests p body later loop.flags.items loop.inner.items split may.0 may.1 may.2 }

pub mark_cases-returns-in_default-tested-clause-matched : goal.mark_cases-returns-in_default-tested-clause-matched
mark_cases-returns-in_default-tested-clause-matched t c = λ uses n may.
    let d = c.args.sig.now in
    let rows = (worked_in c.args.definitions.now) in
    let all = cases_of_trees c.args.cases.now in
    let first = c.args.flags.now.items in
    let before = c.args.inner.now.items in
    let loop = c.loop-rest in
    let earlier = reverse loop.earlier in
    let p = c.pattern_of-pattern.result in
    let body = formula_of c.body_of-body.result.now in
    let others = take (length loop.rest.now - 1) (drop 1 loop.rest.now) in
    let later = cases_of_trees others in
    let whole : cases_of_trees loop.rest.now ≡ with_case p body later = cases_is loop.rest.now others c.case-item.result p body (rest-item loop.rest.now c.case-item.result c.in-len1-up.len_at_least c.case-item.is) c.pattern_of-pattern.ensures.value c.body_of-body.ensures.value in
    let split = subst (λ (cs : Cases). MarksCases d rows all first before earlier loop.tests cs loop.flags.items loop.inner.items) whole loop.invariant in
    let test : c.tested.result ≡ tested_by d earlier p (are_none later) = c.tested.ensures.value ∙ ap (tested_by d earlier p) (c.is_empty.ensures ∙ none_is others) in
    let end : tested_by d earlier p (are_none later) ≡ None = sym test ∙ c.in_default-tested.is in
    let bound : c.as_slice.result.now ≡ flags_below (occurs d uses body) (pattern_variable_count d p) = c.as_slice.ensures.value ∙ (c.in_ok-bound.ensures.flags uses n (cases_first d rows all first before earlier loop.tests p body later loop.flags.items loop.inner.items split uses n may) ∙ ap (flags_below (occurs d uses body)) c.variable_count-count.ensures.count) in
    c.has_set_or.ensures.value ∙ ends_matched d rows all first before earlier loop.tests p body later loop.flags.items loop.inner.items split uses n may end c.as_slice.result.now bound

pub mark_cases-returns-in_default-tested-clause-marks : goal.mark_cases-returns-in_default-tested-clause-marks
mark_cases-returns-in_default-tested-clause-marks t c = λ uses n may.
    let d = c.args.sig.now in
    let rows = (worked_in c.args.definitions.now) in
    let all = cases_of_trees c.args.cases.now in
    let first = c.args.flags.now.items in
    let before = c.args.inner.now.items in
    let loop = c.loop-rest in
    let earlier = reverse loop.earlier in
    let p = c.pattern_of-pattern.result in
    let body = formula_of c.body_of-body.result.now in
    let others = take (length loop.rest.now - 1) (drop 1 loop.rest.now) in
    let later = cases_of_trees others in
    let whole : cases_of_trees loop.rest.now ≡ with_case p body later = cases_is loop.rest.now others c.case-item.result p body (rest-item loop.rest.now c.case-item.result c.in-len1-up.len_at_least c.case-item.is) c.pattern_of-pattern.ensures.value c.body_of-body.ensures.value in
    let split = subst (λ (cs : Cases). MarksCases d rows all first before earlier loop.tests cs loop.flags.items loop.inner.items) whole loop.invariant in
    let test : c.tested.result ≡ tested_by d earlier p (are_none later) = c.tested.ensures.value ∙ ap (tested_by d earlier p) (c.is_empty.ensures ∙ none_is others) in
    let end : tested_by d earlier p (are_none later) ≡ None = sym test ∙ c.in_default-tested.is in
    let under : c.mark_under.new.flags.items ≡ mark_each (λ i. occurs d uses body (i + pattern_variable_count d p)) loop.flags.items = c.in_ok-bound.ensures.marks uses n (cases_first d rows all first before earlier loop.tests p body later loop.flags.items loop.inner.items split uses n may) ∙ ap (λ (m : ℕ). mark_each (λ i. occurs d uses body (i + m)) loop.flags.items) c.variable_count-count.ensures.count in
    ends_marks d rows all first before earlier loop.tests p body later loop.flags.items loop.inner.items split uses n may end c.mark_under.new.flags.items under

pub mark_cases-returns-in_default-tested-clause-noted : goal.mark_cases-returns-in_default-tested-clause-noted
mark_cases-returns-in_default-tested-clause-noted t c = λ uses n may.
    let d = c.args.sig.now in
    let rows = (worked_in c.args.definitions.now) in
    let all = cases_of_trees c.args.cases.now in
    let first = c.args.flags.now.items in
    let before = c.args.inner.now.items in
    let loop = c.loop-rest in
    let earlier = reverse loop.earlier in
    let p = c.pattern_of-pattern.result in
    let body = formula_of c.body_of-body.result.now in
    let others = take (length loop.rest.now - 1) (drop 1 loop.rest.now) in
    let later = cases_of_trees others in
    let whole : cases_of_trees loop.rest.now ≡ with_case p body later = cases_is loop.rest.now others c.case-item.result p body (rest-item loop.rest.now c.case-item.result c.in-len1-up.len_at_least c.case-item.is) c.pattern_of-pattern.ensures.value c.body_of-body.ensures.value in
    let split = subst (λ (cs : Cases). MarksCases d rows all first before earlier loop.tests cs loop.flags.items loop.inner.items) whole loop.invariant in
    let test : c.tested.result ≡ tested_by d earlier p (are_none later) = c.tested.ensures.value ∙ ap (tested_by d earlier p) (c.is_empty.ensures ∙ none_is others) in
    let end : tested_by d earlier p (are_none later) ≡ None = sym test ∙ c.in_default-tested.is in
    ends_noted d rows all first before earlier loop.tests p body later loop.flags.items loop.inner.items split uses n may end c.mark_under.new.inner.items (c.in_ok-bound.ensures.noted uses n (cases_first d rows all first before earlier loop.tests p body later loop.flags.items loop.inner.items split uses n may))

pub mark_cases-loop-rest-preserved : goal.mark_cases-loop-rest-preserved
mark_cases-loop-rest-preserved t c =
    let d = c.args.sig.now in
    let rows = (worked_in c.args.definitions.now) in
    let all = cases_of_trees c.args.cases.now in
    let first = c.args.flags.now.items in
    let before = c.args.inner.now.items in
    let loop = c.loop-rest in
    let earlier = reverse loop.earlier in
    let p = c.pattern_of-pattern.result in
    let body = formula_of c.body_of-body.result.now in
    let others = take (length loop.rest.now - 1) (drop 1 loop.rest.now) in
    let later = cases_of_trees others in
    let whole : cases_of_trees loop.rest.now ≡ with_case p body later = cases_is loop.rest.now others c.case-item.result p body (rest-item loop.rest.now c.case-item.result c.in-len1-up.len_at_least c.case-item.is) c.pattern_of-pattern.ensures.value c.body_of-body.ensures.value in
    let split = subst (λ (cs : Cases). MarksCases d rows all first before earlier loop.tests cs loop.flags.items loop.inner.items) whole loop.invariant in
    let test : c.tested.result ≡ tested_by d earlier p (are_none later) = c.tested.ensures.value ∙ ap (tested_by d earlier p) (c.is_empty.ensures ∙ none_is others) in
    let more : tested_by d earlier p (are_none later) ≡ Some c.in-Some.c = sym test ∙ c.in-Some.is in
    let longer : reverse c.push.new.self ≡ c.in-Some.c ∷ earlier = ap reverse c.in_ok-push.ensures.pushed ∙ reverse-append loop.earlier (c.in-Some.c ∷ []) in
    subst (λ (e : List CtorId). MarksCases d rows all first before e true later c.mark_under.new.flags.items c.mark_under.new.inner.items) (sym longer)
    (cases_next d rows all first before earlier loop.tests p body later loop.flags.items loop.inner.items split c.in-Some.c more c.mark_under.new.flags.items c.mark_under.new.inner.items
    (λ uses n may. c.in_ok-bound.ensures.marks uses n may ∙ ap (λ (m : ℕ). mark_each (λ i. occurs d uses body (i + m)) loop.flags.items) c.variable_count-count.ensures.count)
    (λ uses n may. c.in_ok-bound.ensures.noted uses n may))

pub mark_cases-returns-clause-matched : goal.mark_cases-returns-clause-matched
mark_cases-returns-clause-matched t c = λ uses n may.
    let d = c.args.sig.now in
    let rows = (worked_in c.args.definitions.now) in
    let all = cases_of_trees c.args.cases.now in
    let first = c.args.flags.now.items in
    let before = c.args.inner.now.items in
    let loop = c.loop-rest in
    let none = nothing_left loop.rest.now (omega (arith, c.in_default.len_below)) in
    let end = subst (λ (cs : List Case). MarksCases d rows all first before (reverse loop.earlier) loop.tests (cases_of_trees cs) loop.flags.items loop.inner.items) none loop.invariant in
    none_matched d rows all first before (reverse loop.earlier) loop.tests loop.flags.items loop.inner.items end uses n may

pub mark_cases-returns-clause-marks : goal.mark_cases-returns-clause-marks
mark_cases-returns-clause-marks t c = λ uses n may.
    let d = c.args.sig.now in
    let rows = (worked_in c.args.definitions.now) in
    let all = cases_of_trees c.args.cases.now in
    let first = c.args.flags.now.items in
    let before = c.args.inner.now.items in
    let loop = c.loop-rest in
    let none = nothing_left loop.rest.now (omega (arith, c.in_default.len_below)) in
    let end = subst (λ (cs : List Case). MarksCases d rows all first before (reverse loop.earlier) loop.tests (cases_of_trees cs) loop.flags.items loop.inner.items) none loop.invariant in
    none_marks d rows all first before (reverse loop.earlier) loop.tests loop.flags.items loop.inner.items end uses n may

pub mark_cases-returns-clause-noted : goal.mark_cases-returns-clause-noted
mark_cases-returns-clause-noted t c = λ uses n may.
    let d = c.args.sig.now in
    let rows = (worked_in c.args.definitions.now) in
    let all = cases_of_trees c.args.cases.now in
    let first = c.args.flags.now.items in
    let before = c.args.inner.now.items in
    let loop = c.loop-rest in
    let none = nothing_left loop.rest.now (omega (arith, c.in_default.len_below)) in
    let end = subst (λ (cs : List Case). MarksCases d rows all first before (reverse loop.earlier) loop.tests (cases_of_trees cs) loop.flags.items loop.inner.items) none loop.invariant in
    none_noted d rows all first before (reverse loop.earlier) loop.tests loop.flags.items loop.inner.items end uses n may
