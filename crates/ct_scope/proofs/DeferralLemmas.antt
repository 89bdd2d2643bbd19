-- A call that is put off under a part of what is compiled is put off under the whole.
use Rattle.std.proofs.Common.{◌≡◌, ℕ, suc, ◌≤◌, List, ◌++◌, Result, Ok, Err, sym, ap, ◌∙◌, arith}
use Rattle.std.proofs.lemmas.List.{append_assoc}
use Rattle.ct_sorts.specs.Declarations.{Declarations}
use Rattle.ct_sorts.specs.declared.ids.SortId.{SortId}
use Rattle.ct_terms.specs.declared.error.TermError.{TermError}
use Rattle.ct_terms.specs.declared.error.TermError.TheVariants.{NoMemory}
use Rattle.ct_terms.specs.Terms.{Terms}
use Rattle.ct_terms.specs.CoreTree.{CoreTree}
use Rattle.ct_formulas.specs.Formula.{Formula, Formulas}
use Rattle.ct_formulas.specs.Compiled.{compiled, compiled_all}
use Rattle.ct_scope.specs.declared.bound.Bound.{Bound}
use Rattle.ct_operators.specs.declared.operator.Operator.{Operator}
use Rattle.ct_scope.specs.declared.stop.DeferredCall.{DeferredCall}
use Rattle.ct_scope.specs.declared.stop.Stop.{Stop}
use Rattle.ct_scope.specs.declared.stop.Stop.TheVariants.{Failed, TooDeep}
use Rattle.ct_scope.specs.Deferral.{ended, UnlessFailed, WhenTooDeep, WaitsForCall}
use Rattle.ct_operators.specs.Effect.{Within}
use Rattle.ct_operators.specs.Forms.{combined}
use Rattle.ct_operators.specs.Made.{MakesInOrder, made_by}
use Rattle.ct_scope.specs.Making.{making, made_each, makes_below, defined}
use Rattle.ct_scope.specs.Compilable.{compiled_calls, IsCompilable, AreUnder}
use Rattle.ct_occurrence.specs.Marks.{Rows}
use Rattle.ct_operators.proofs.MakesLemmas.{makes_then}

-- ---- where a part stops, the whole does

-- what an error of the part gives for the whole, its stop does
pub ended_by : {A B : Type 0} (s : Stop) (P : Result A TermError → Type 0) (Q : Result B TermError → Type 0) → ((e : TermError) → P (Err e) → Q (Err e)) → P (ended (Err s)) → Q (ended (Err s))
ended_by (Failed e) P Q f h = f e h
ended_by (TooDeep call) P Q f h = f NoMemory h

-- what goes on where the part is put off, goes on where the whole is
pub goes_on_by : (A B : Type 0) (s : Stop) (P Q : Type 0) → (P → Q) → UnlessFailed {A = A} (Err s) P → UnlessFailed {A = B} (Err s) Q
goes_on_by A B (Failed e) P Q f h = tt
goes_on_by A B (TooDeep call) P Q f h = f h

-- what holds of the call of the part, holds of that of the whole
pub too_deep_by : (A B : Type 0) (s : Stop) (P Q : DeferredCall → Type 0) → ((call : DeferredCall) → P call → Q call) → WhenTooDeep {A = A} (Err s) P → WhenTooDeep {A = B} (Err s) Q
too_deep_by A B (Failed e) P Q f h = tt
too_deep_by A B (TooDeep call) P Q f h = f call h

-- where it is always so, it is so where compiling goes on
pub goes_on_always : {A : Type 0} (r : Result A Stop) (P : Type 0) → P → UnlessFailed r P
goes_on_always (Ok a) P h = h
goes_on_always (Err (Failed e)) P h = tt
goes_on_always (Err (TooDeep call)) P h = h

-- ---- of a call that is put off: for all terms of the variables

-- under a formula
abbrev pub IsPutOff : Declarations → List Formula → Rows → ℕ → Terms → Terms → List Bound → Formula → DeferredCall → Type 0
IsPutOff d bodies rows n old new env t call = (trees : List CoreTree) (sorts : List SortId) (sort : SortId) → IsCompilable d bodies old n env t trees sorts sort → WaitsForCall d bodies rows n old new (making d (defined d bodies n) trees t) (λ allowed. Within allowed (compiled d (compiled_calls d bodies n) trees t)) call

-- under those of an operator
abbrev pub ArePutOff : Declarations → List Formula → Rows → ℕ → Terms → Terms → List Bound → Operator → Formulas → DeferredCall → Type 0
ArePutOff d bodies rows n old new env o ts call = (trees : List CoreTree) (sorts : List SortId) (each : List SortId) → AreUnder d bodies old n env o ts trees sorts each → WaitsForCall d bodies rows n old new (made_by d o (made_each d (defined d bodies n) trees ts)).making (λ allowed. Within allowed (combined d o (compiled_all d (compiled_calls d bodies n) trees ts))) call

-- ---- what was made before a part, and what comes after it

pub waits_under : (d : Declarations) (bodies : List Formula) (rows : Rows) (m n : ℕ) (old mid new : Terms) (made before part rest : List CoreTree) (part_allows allows : List CoreTree → Type 0) (call : DeferredCall) → m ≤ n → MakesInOrder old before mid → made ≡ before ++ (part ++ rest) → ((allowed : List CoreTree) → allows allowed → part_allows allowed) → WaitsForCall d bodies rows m mid new part part_allows call → WaitsForCall d bodies rows n old new made allows call
waits_under d bodies rows m n old mid new made before part rest part_allows allows call lower first is less w =
    let own = makes_below d bodies (suc call.definition.0) call.definition w.trees in
    let inside : part ++ rest ≡ w.before ++ (own ++ (w.after ++ rest)) =
    ap (λ (xs : List CoreTree). xs ++ rest) w.order
    ∙ append_assoc w.before (own ++ w.after) rest
    ∙ ap (λ (xs : List CoreTree). w.before ++ xs) (append_assoc own w.after rest) in
    record {
      trees = w.trees;
      below = let k = w.below in omega (arith, k, lower);
      is_call = w.is_call;
      within = λ allowed a. w.within allowed (less allowed a);
      before = before ++ w.before;
      after = w.after ++ rest;
      order = is ∙ ap (λ (xs : List CoreTree). before ++ xs) inside ∙ sym (append_assoc before w.before (own ++ (w.after ++ rest)));
      makes = makes_then before w.before old mid new first w.makes;
    }
