-- The marks as terms are taken.
use Rattle.std.proofs.Common.{◌≡◌, ℕ, zero, suc, ◌+◌, ◌<◌, ◌⊎◌, Bool, true, false, List, [], ◌∷◌, ◌++◌, length, slice_get, Some, refl, sym, ap, subst, ◌∙◌, inl, inr, arith, length-append, true≢false, IsTrue}
use Rattle.std.proofs.Math.ListN.{set}
use Rattle.std.proofs.lemmas.Option.{none-some}
use Rattle.ct_lemmas.proofs.Lists.{slice_get-append_left, slice_get-push_cases}
use Rattle.ct_lemmas.proofs.Numbers.{last_or_before}
use Rattle.ct_sorts.specs.declared.ids.SortId.{SortId}
use Rattle.ct_sorts.specs.Declarations.{Declarations}
use Rattle.ct_terms.specs.declared.ids.TermId.{TermId}
use Rattle.ct_terms.specs.declared.term.Core.{Core}
use Rattle.ct_terms.specs.declared.term.Core.TheVariants.{Con, Sel, Test, Apply, Eq, Not, And, Or, Iff, Ite}
use Rattle.ct_sorts.specs.declared.ids.CtorId.{CtorId}
use Rattle.ct_terms.specs.Terms.{Terms}
use Rattle.ct_closure.specs.ClosedTable.{IsConstruction, IsArgument, IsSplitTerm, HasCases}
use Rattle.ct_closure.specs.Steps.{IsArgumentOf, IsStep, IsMarked, AreMarked, HasMarks, IsConditionalTaken, IsArgumentTaken, IsFiniteTaken, IsTaken, IsUnderWay}
use Rattle.ct_closure.proofs.GrowthLemmas.{Begins-further, longer, AreMarked-stay, IsConditionalTaken-stays, IsArgumentTaken-stays, IsTaken-stays}

-- one mark more that is not set
pub pushed_was : (marks : List Bool) (t : TermId) → IsMarked (marks ++ false ∷ []) t → IsMarked marks t
pushed_was marks t h =
    elim (slice_get-push_cases marks false true t.0 h) [ inl was ↦ was | inr (last, bad) ↦ absurd (true≢false (sym bad)) ]

pub pushed_stay : (marks : List Bool) (t : TermId) → IsMarked marks t → IsMarked (marks ++ false ∷ []) t
pushed_stay marks t h = slice_get-append_left marks (false ∷ []) t.0 true h

-- a mark that is set
set_at : (marks : List Bool) (i k : ℕ) → slice_get (set marks i true) k ≡ Some true → (k ≡ i) ⊎ (slice_get marks k ≡ Some true)
set_at [] i k h = inr h
set_at (m ∷ marks) zero zero h = inl refl
set_at (m ∷ marks) zero (suc k) h = inr h
set_at (m ∷ marks) (suc i) zero h = inr h
set_at (m ∷ marks) (suc i) (suc k) h = elim (set_at marks i k h) [ inl e ↦ inl (ap suc e) | inr was ↦ inr was ]

set_stay : (marks : List Bool) (i k : ℕ) → slice_get marks k ≡ Some true → slice_get (set marks i true) k ≡ Some true
set_stay [] i k h = h
set_stay (m ∷ marks) zero zero h = refl
set_stay (m ∷ marks) zero (suc k) h = h
set_stay (m ∷ marks) (suc i) zero h = h
set_stay (m ∷ marks) (suc i) (suc k) h = set_stay marks i k h

pub set_here : (marks : List Bool) (i : ℕ) → i < length marks → slice_get (set marks i true) i ≡ Some true
set_here [] i h = absurd (omega arith)
set_here (m ∷ marks) zero h = refl
set_here (m ∷ marks) (suc i) h = set_here marks i (omega arith)

set_long : (marks : List Bool) (i : ℕ) → length (set marks i true) ≡ length marks
set_long [] i = refl
set_long (m ∷ marks) zero = refl
set_long (m ∷ marks) (suc i) = ap suc (set_long marks i)

-- marks as they are
pub marks_same : (d : Declarations) (table : Terms) (marks : List Bool) → AreMarked d table marks → HasMarks d table marks marks
marks_same d table marks h = record { long = refl; stay = λ t was. was; marked = h }

-- one more mark, of a term that is split and has its cases
pub marks_set : (d : Declarations) (old new : Terms) (marks : List Bool) (t : TermId) (sort : SortId) → IsStep d old new → AreMarked d old marks → IsSplitTerm d new t sort → HasCases d new t sort → HasMarks d new marks (set marks t.0 true)
marks_set d old new marks t sort step so_far split cases =
    let id : ℕ → TermId = λ k. record { 0 = k } in
    record {
      long = set_long marks t.0;
      stay = λ u was. set_stay marks t.0 u.0 was;
      marked = λ u here. elim (set_at marks t.0 u.0 here) [
        | inl same ↦ subst (λ (v : TermId). (s : SortId) × IsSplitTerm d new v s × HasCases d new v s) (ap id (sym same)) (sort, split, cases)
        | inr was ↦ AreMarked-stay old new step.grown d marks so_far u was
      ];
    }

-- the marks as the first term after those that are taken is met
pub marks_pushed : (d : Declarations) (old new : Terms) (marks : List Bool) → IsStep d old new → AreMarked d old marks → AreMarked d new (marks ++ false ∷ [])
marks_pushed d old new marks step so_far t here = AreMarked-stay old new step.grown d marks so_far t (pushed_was marks t here)

-- that term is taken by three steps
pub taken_next : (d : Declarations) (table first second third : Terms) (marks after last : List Bool) → length marks < length table → IsUnderWay d table marks → IsStep d table first → IsConditionalTaken first (record { 0 = length marks }) → IsStep d first second → HasMarks d second (marks ++ false ∷ []) after → IsArgumentTaken d second after (record { 0 = length marks }) → IsStep d second third → HasMarks d third after last → IsFiniteTaken d third last (record { 0 = length marks }) → (length last ≡ length marks + 1) × IsUnderWay d third last
taken_next d table first second third marks after last within under to_first conditional to_second marks_after argument to_third marks_last finite =
    let t : TermId = record { 0 = length marks } in
    let id : ℕ → TermId = λ k. record { 0 = k } in
    let grown = Begins-further table first third to_first.grown (Begins-further first second third to_second.grown to_third.grown) in
    let in_first : length marks < length first = omega (arith, longer table first to_first.grown, within) in
    let in_second : length marks < length second = omega (arith, longer first second to_second.grown, in_first) in
    let long : length last ≡ length marks + 1 = marks_last.long ∙ marks_after.long ∙ length-append marks (false ∷ []) in
    let here : IsTaken d third last t = record {
      conditional = IsConditionalTaken-stays first third (Begins-further first second third to_second.grown to_third.grown) d t in_first conditional;
      argument = IsArgumentTaken-stays second third to_third.grown d after last marks_last.stay to_third.sound.ordered t in_second argument;
      finite = finite;
    } in (
      long,
      record {
        taken = λ u less. elim (last_or_before u.0 (length marks) (omega (arith, long, less))) [
          | inl before ↦
              IsTaken-stays table third grown d marks last (λ v was. marks_last.stay v (marks_after.stay v (pushed_stay marks v was))) to_third.sound.ordered u
              (omega (arith, before, within)) (under.taken u before)
          | inr same ↦ subst (IsTaken d third last) (ap id (sym same)) here
        ];
        marked = marks_last.marked;
      },
    )

-- before the first step nothing is taken
pub under_way_none : (d : Declarations) (table : Terms) (marks : List Bool) → marks ≡ [] → IsUnderWay d table marks
under_way_none d table marks none =
    record {
      taken = λ t less. absurd (omega (arith, less, ap length none));
      marked = λ t here. absurd (none-some true (ap (λ (ms : List Bool). slice_get ms t.0) (sym none) ∙ here));
    }

-- the argument of a selection or a test is one
pub argument_of : (table : Terms) (x t : TermId) → IsArgumentOf table x t → IsArgument table x
argument_of table x t (inl h) = inl (h.0, (t.0, h.1))
argument_of table x t (inr h) = inr (h.0, (t.0, h.1))

-- a constructor term has a constructor and arguments
pub construction_parts : (core : Core) → IsConstruction core → (c : CtorId) × (args : List TermId) × (core ≡ Con c args)
construction_parts (Con c args) h = (c, args, refl)
construction_parts (Sel s t) h = absurd h
construction_parts (Test c t) h = absurd h
construction_parts (Apply f args) h = absurd h
construction_parts (Eq a b) h = absurd h
construction_parts (Not t) h = absurd h
construction_parts (And args) h = absurd h
construction_parts (Or args) h = absurd h
construction_parts (Iff a b) h = absurd h
construction_parts (Ite c a b) h = absurd h

-- a test that is true is not false
pub clash : (b : Bool) → IsTrue b → b ≡ false → ⊥
clash b holds fails = true≢false (sym holds ∙ fails)
