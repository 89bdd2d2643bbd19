use Rattle.std.proofs.Common.{◌≡◌, ◌≤◌, ℕ, List, [], length, map, Contains, sym, subst, ap, ◌∙◌, arith}
use Rattle.std.proofs.lemmas.Result.{IfOk-weaker}
use Rattle.ct_terms.specs.declared.ids.TermId.{TermId}
use Rattle.ct_formulas.specs.declared.tree.Tree.{Tree}
use Rattle.ct_terms.specs.CoreTree.{CoreTree, subtrees, term_at}
use Rattle.ct_formulas.specs.Formula.{MentionsBelow}
use Rattle.ct_formulas.specs.TreeFormula.{formula_of}
use Rattle.ct_formulas.specs.Compiled.{compiled, core_of}
use Rattle.ct_operators.specs.Effect.{Stands, DoNotFit}
use Rattle.ct_operators.specs.Made.{MakesInOrder}
use Rattle.ct_scope.specs.Making.{making, defined, making_of}
use Rattle.ct_formulas.specs.Occurrence.{uses_below}
use Rattle.ct_occurrence.specs.Marks.{worked_in, HaveRows}
use Rattle.ct_occurrence.specs.Working.{AreRight}
use Rattle.ct_scope.specs.Compilable.{compiled_calls}
use Rattle.ct_scope.proofs.CallingLemmas.{state_start}
use Rattle.ct_operators.proofs.WithinLemmas.{within_subtrees}
use Rattle.ct_operators.proofs.OperatorLemmas.{stands_as}
use Rattle.ct_compile.proofs.FullLemmas.{do_not_fit}
use Rattle.ct_occurrence.specs.Noted.{IsOfFirst, IsNoted}
use Rattle.ct_compile.proofs.EntryLemmas.{all_below, entry_ready, entry_mark, rows_all, subterms_below}
use Rattle.ct_compile.proofs.entry.compile.Goals as goal

pub compile_deferring-requires-clause-ready : goal.compile_deferring-requires-clause-ready
compile_deferring-requires-clause-ready c = ([], [], c.requires.closed.0, (entry_ready c.term_theorems.ensures.hold c.args.scope.now.sig (map formula_of c.args.scope.now.bodies) c.args.table.now c.len-below.result (formula_of c.args.tree.now) c.requires.closed.0 c.sorts.ensures.consistent c.requires.sound c.requires.table c.len.ensures.ordered c.len.ensures.single (all_below c.args.scope.now.bodies c.len-below.result c.len-below.ensures.len) c.requires.closed.1))

pub work_out_named-requires-clause-within : goal.work_out_named-requires-clause-within
work_out_named-requires-clause-within c =
    let n = c.len-below.ensures.len in
    let same : length c.as_slice-bodies.result.now ≡ length c.args.scope.now.bodies = ap (λ (ts : List Tree). length ts) c.as_slice-bodies.ensures.value in
    omega (arith, n, same)

pub work_out_named-requires-clause-mentions : goal.work_out_named-requires-clause-mentions
work_out_named-requires-clause-mentions c =
    let d = c.args.scope.now.sig in
    let f = formula_of c.args.tree.now in
    subst (λ (m : ℕ). MentionsBelow m f) (sym (all_below c.args.scope.now.bodies c.len-below.result c.len-below.ensures.len ∙ c.requires.sound.one_each)) (c.term_theorems.ensures.hold.mentions d [] f c.requires.closed.0 c.requires.closed.1)

pub work_out_named-requires-clause-right : goal.work_out_named-requires-clause-right
work_out_named-requires-clause-right c = c.no_definitions-definitions.ensures.right c.args.scope.now.sig (map formula_of c.as_slice-bodies.result.now)

pub notes_on-requires : goal.notes_on-requires
notes_on-requires c =
    let d = c.args.scope.now.sig in
    let trees = c.args.scope.now.bodies in
    let n = length trees in
    let right = subst (λ (ts : List Tree). AreRight c.args.scope.now.sig (map formula_of ts) (worked_in c.work_out_named.new.definitions)) c.as_slice-bodies.ensures.value c.in_ok-work_out_named.ensures.right in
    record { may = (uses_below d (map formula_of trees) n, n, entry_mark c.term_theorems.ensures.hold d trees (worked_in c.work_out_named.new.definitions) (formula_of c.args.tree.now) c.requires.closed.0 c.requires.sound c.requires.closed.1 (rows_all d trees (worked_in c.work_out_named.new.definitions) right) c.in_ok-work_out_named.ensures.known) }

pub compile_deferring-requires-clause-state : goal.compile_deferring-requires-clause-state
compile_deferring-requires-clause-state c =
    let d = c.args.scope.now.sig in
    let trees = c.args.scope.now.bodies in
    let bodies = map formula_of trees in
    state_start d bodies c.len-below.result (worked_in c.work_out_named.new.definitions) c.args.table.now c.new-known.result c.new-known.ensures.empty
    (subst (λ (n : ℕ). HaveRows d (uses_below d bodies n) n (worked_in c.work_out_named.new.definitions)) (sym c.len-below.ensures.len) (rows_all d trees (worked_in c.work_out_named.new.definitions) (subst (λ (ts : List Tree). AreRight c.args.scope.now.sig (map formula_of ts) (worked_in c.work_out_named.new.definitions)) c.as_slice-bodies.ensures.value c.in_ok-work_out_named.ensures.right)))

pub compile_deferring-requires-clause-noted : goal.compile_deferring-requires-clause-noted
compile_deferring-requires-clause-noted c =
    let d = c.args.scope.now.sig in
    let trees = c.args.scope.now.bodies in
    let bodies = map formula_of trees in
    let n = length trees in
    let f = formula_of c.args.tree.now in
    let rows = worked_in c.work_out_named.new.definitions in
    let right = subst (λ (ts : List Tree). AreRight c.args.scope.now.sig (map formula_of ts) (worked_in c.work_out_named.new.definitions)) c.as_slice-bodies.ensures.value c.in_ok-work_out_named.ensures.right in
    let noted = c.in_ok-notes.ensures.noted (uses_below d bodies n) n (entry_mark c.term_theorems.ensures.hold d trees rows f c.requires.closed.0 c.requires.sound c.requires.closed.1 (rows_all d trees rows right) c.in_ok-work_out_named.ensures.known) in
    let below = subst (λ (m : ℕ). IsNoted d rows (uses_below d bodies m) f c.in_ok-notes.notes) (sym c.len-below.ensures.len) noted in
    (right.notes, subst (IsOfFirst (IsNoted d rows (uses_below d bodies c.len-below.result) f)) (sym c.alone.ensures.value) below)

pub returns-clause-grown : goal.returns-clause-grown
returns-clause-grown c = (c.compile_deferring.ensures.outcome.effect [] [] c.requires.closed.0 (subtrees (compiled c.args.scope.now.sig (compiled_calls c.args.scope.now.sig (map formula_of c.args.scope.now.bodies) c.len-below.result) [] (formula_of c.args.tree.now))) (entry_ready c.term_theorems.ensures.hold c.args.scope.now.sig (map formula_of c.args.scope.now.bodies) c.args.table.now c.len-below.result (formula_of c.args.tree.now) c.requires.closed.0 c.sorts.ensures.consistent c.requires.sound c.requires.table c.len.ensures.ordered c.len.ensures.single (all_below c.args.scope.now.bodies c.len-below.result c.len-below.ensures.len) c.requires.closed.1) (within_subtrees (compiled c.args.scope.now.sig (compiled_calls c.args.scope.now.sig (map formula_of c.args.scope.now.bodies) c.len-below.result) [] (formula_of c.args.tree.now)))).grown

pub returns-clause-sorted : goal.returns-clause-sorted
returns-clause-sorted c = (c.compile_deferring.ensures.outcome.effect [] [] c.requires.closed.0 (subtrees (compiled c.args.scope.now.sig (compiled_calls c.args.scope.now.sig (map formula_of c.args.scope.now.bodies) c.len-below.result) [] (formula_of c.args.tree.now))) (entry_ready c.term_theorems.ensures.hold c.args.scope.now.sig (map formula_of c.args.scope.now.bodies) c.args.table.now c.len-below.result (formula_of c.args.tree.now) c.requires.closed.0 c.sorts.ensures.consistent c.requires.sound c.requires.table c.len.ensures.ordered c.len.ensures.single (all_below c.args.scope.now.bodies c.len-below.result c.len-below.ensures.len) c.requires.closed.1) (within_subtrees (compiled c.args.scope.now.sig (compiled_calls c.args.scope.now.sig (map formula_of c.args.scope.now.bodies) c.len-below.result) [] (formula_of c.args.tree.now)))).kept.sorted

pub returns-clause-core : goal.returns-clause-core
returns-clause-core c =
    IfOk-weaker c.compile_deferring.result _ (λ t. Stands c.compile_deferring.new.table t (core_of c.args.scope.now.sig (map formula_of c.args.scope.now.bodies) [] (formula_of c.args.tree.now))) (λ t h. stands_as c.compile_deferring.new.table t _ _ (ap (λ (n : ℕ). compiled c.args.scope.now.sig (compiled_calls c.args.scope.now.sig (map formula_of c.args.scope.now.bodies) n) [] (formula_of c.args.tree.now)) (all_below c.args.scope.now.bodies c.len-below.result c.len-below.ensures.len)) h)
    (c.compile_deferring.ensures.outcome.core [] [] c.requires.closed.0 (entry_ready c.term_theorems.ensures.hold c.args.scope.now.sig (map formula_of c.args.scope.now.bodies) c.args.table.now c.len-below.result (formula_of c.args.tree.now) c.requires.closed.0 c.sorts.ensures.consistent c.requires.sound c.requires.table c.len.ensures.ordered c.len.ensures.single (all_below c.args.scope.now.bodies c.len-below.result c.len-below.ensures.len) c.requires.closed.1))

pub returns-clause-nothing_else : goal.returns-clause-nothing_else
returns-clause-nothing_else c = λ t from below. subst (λ (u : CoreTree). Contains (subtrees u) (term_at c.compile_deferring.new.table t)) (ap (λ (n : ℕ). compiled c.args.scope.now.sig (compiled_calls c.args.scope.now.sig (map formula_of c.args.scope.now.bodies) n) [] (formula_of c.args.tree.now)) (all_below c.args.scope.now.bodies c.len-below.result c.len-below.ensures.len)) ((c.compile_deferring.ensures.outcome.effect [] [] c.requires.closed.0 (subtrees (compiled c.args.scope.now.sig (compiled_calls c.args.scope.now.sig (map formula_of c.args.scope.now.bodies) c.len-below.result) [] (formula_of c.args.tree.now))) (entry_ready c.term_theorems.ensures.hold c.args.scope.now.sig (map formula_of c.args.scope.now.bodies) c.args.table.now c.len-below.result (formula_of c.args.tree.now) c.requires.closed.0 c.sorts.ensures.consistent c.requires.sound c.requires.table c.len.ensures.ordered c.len.ensures.single (all_below c.args.scope.now.bodies c.len-below.result c.len-below.ensures.len) c.requires.closed.1) (within_subtrees (compiled c.args.scope.now.sig (compiled_calls c.args.scope.now.sig (map formula_of c.args.scope.now.bodies) c.len-below.result) [] (formula_of c.args.tree.now)))).adds t from below)

pub returns-clause-full : goal.returns-clause-full
returns-clause-full c = λ full.
    let h = (c.compile_deferring.ensures.outcome.effect [] [] c.requires.closed.0 (subtrees (compiled c.args.scope.now.sig (compiled_calls c.args.scope.now.sig (map formula_of c.args.scope.now.bodies) c.len-below.result) [] (formula_of c.args.tree.now))) (entry_ready c.term_theorems.ensures.hold c.args.scope.now.sig (map formula_of c.args.scope.now.bodies) c.args.table.now c.len-below.result (formula_of c.args.tree.now) c.requires.closed.0 c.sorts.ensures.consistent c.requires.sound c.requires.table c.len.ensures.ordered c.len.ensures.single (all_below c.args.scope.now.bodies c.len-below.result c.len-below.ensures.len) c.requires.closed.1) (within_subtrees (compiled c.args.scope.now.sig (compiled_calls c.args.scope.now.sig (map formula_of c.args.scope.now.bodies) c.len-below.result) [] (formula_of c.args.tree.now)))) in
    subst (λ (u : CoreTree). (trees : List CoreTree) × DoNotFit (subtrees u) c.args.table.now trees) (ap (λ (n : ℕ). compiled c.args.scope.now.sig (compiled_calls c.args.scope.now.sig (map formula_of c.args.scope.now.bodies) n) [] (formula_of c.args.tree.now)) (all_below c.args.scope.now.bodies c.len-below.result c.len-below.ensures.len))
    (do_not_fit c.args.scope.now.sig _ c.args.table.now c.compile_deferring.new.table h.grown h.kept h.adds (h.lacks full))

pub returns-clause-complete : goal.returns-clause-complete
returns-clause-complete c =
    let kept = (c.compile_deferring.ensures.outcome.effect [] [] c.requires.closed.0 (subtrees (compiled c.args.scope.now.sig (compiled_calls c.args.scope.now.sig (map formula_of c.args.scope.now.bodies) c.len-below.result) [] (formula_of c.args.tree.now))) (entry_ready c.term_theorems.ensures.hold c.args.scope.now.sig (map formula_of c.args.scope.now.bodies) c.args.table.now c.len-below.result (formula_of c.args.tree.now) c.requires.closed.0 c.sorts.ensures.consistent c.requires.sound c.requires.table c.len.ensures.ordered c.len.ensures.single (all_below c.args.scope.now.bodies c.len-below.result c.len-below.ensures.len) c.requires.closed.1) (within_subtrees (compiled c.args.scope.now.sig (compiled_calls c.args.scope.now.sig (map formula_of c.args.scope.now.bodies) c.len-below.result) [] (formula_of c.args.tree.now)))).kept in
    IfOk-weaker c.compile_deferring.result _ (λ t. (s : CoreTree) → Contains (subtrees (core_of c.args.scope.now.sig (map formula_of c.args.scope.now.bodies) [] (formula_of c.args.tree.now))) s → (u : TermId) × (u.0 ≤ t.0) × (term_at c.compile_deferring.new.table u ≡ s)) (λ t h. subterms_below c.args.scope.now.sig c.compile_deferring.new.table kept (core_of c.args.scope.now.sig (map formula_of c.args.scope.now.bodies) [] (formula_of c.args.tree.now)) t h) (returns-clause-core c)

pub returns-clause-order : goal.returns-clause-order
returns-clause-order c =
    let d = c.args.scope.now.sig in
    let bodies = map formula_of c.args.scope.now.bodies in
    let f = formula_of c.args.tree.now in
    let n = c.len-below.result in
    let is = all_below c.args.scope.now.bodies n c.len-below.ensures.len in
    IfOk-weaker c.compile_deferring.result _ (λ t. MakesInOrder c.args.table.now (making_of d bodies [] f) c.compile_deferring.new.table) (λ t h. subst (λ (m : ℕ). MakesInOrder c.args.table.now (making d (defined d bodies m) [] f) c.compile_deferring.new.table) is h)
    (c.compile_deferring.ensures.outcome.order [] [] c.requires.closed.0 (entry_ready c.term_theorems.ensures.hold d bodies c.args.table.now n f c.requires.closed.0 c.sorts.ensures.consistent c.requires.sound c.requires.table c.len.ensures.ordered c.len.ensures.single is c.requires.closed.1))
