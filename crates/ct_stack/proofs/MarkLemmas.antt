-- Levels as the program keeps them: marks with the last one at the end, and the first parts of lists in memory.
use Rattle.std.proofs.Common.{◌≡◌, ◌∙◌, ℕ, ◌+◌, ◌≤◌, Bool, true, false, List, [], ◌∷◌, ◌++◌, length, map, take, reverse, replicate, refl, sym, ap, subst, inl, inr, arith}
use Rattle.std.proofs.lemmas.List.{reverse-append, length-reverse, length-map, take-map}
use Rattle.std.proofs.Math.Nat.{lt_of_not-le}
use Rattle.ct_sorts.specs.Declarations.{Declarations, start}
use Rattle.ct_sorts.specs.Lengths.{Lengths}
use Rattle.ct_sorts.specs.Marks.{CanCut, cut, lengths}
use Rattle.ct_sorts.specs.Consistent.{IsConsistent}
use Rattle.ct_terms.specs.declared.ids.TermId.{TermId}
use Rattle.ct_formulas.specs.declared.tree.Tree.{Tree}
use Rattle.ct_terms.specs.Terms.{Terms, BeginsWithTruths, AreSorted, AreOrdered, truth_terms}
use Rattle.ct_formulas.specs.Formula.{Formula}
use Rattle.ct_formulas.specs.TreeFormula.{formula_of}
use Rattle.ct_terms.specs.CoreTree.{CoreTree, term_at}
use Rattle.ct_scope.specs.declared.scope.Scope.{Scope}
use Rattle.ct_stack.specs.Theorems.{Theorems}
use Rattle.ct_stack.specs.Numbers.{too_many_levels, most_levels}
use Rattle.ct_stack.specs.Refusal.{IsPushRefusal}
use Rattle.ct_stack.specs.Stack.{Context, Level, Stack, core, in_force, first_stack}
use Rattle.ct_stack.specs.Levels.{pushed_by, popped, emptied}
use Rattle.ct_stack.specs.Held.{IsHeld, alone, context_in, level_in}
use Rattle.ct_stack.specs.Whole.{Whole, whole_in, level_at, whole_at, stack_of, AreHeld, IsKept}
use Rattle.ct_stack.specs.declared.levels.LevelMark.{LevelMark}
use Rattle.ct_stack.proofs.GrowingLemmas.{two_at_least}
use Rattle.ct_stack.proofs.HeldLemmas.{nothing_held, first_held}
use Rattle.ct_stack.proofs.LevelLemmas.{held_now, context_now, all_in_force, as_many, held_pushed, stack_pushed, whole_left, held_left, stack_left_global}

-- a list of no length
none_of : {X : Type 0} (xs : List X) → length xs ≡ 0 → xs ≡ []
none_of [] e = refl
none_of (x ∷ xs) e = absurd (omega (arith, e))

-- each assertion has a number
pub numbered : (l : Level) (table : Terms) (numbers : List TermId) → IsHeld l table numbers → length numbers ≡ length l.assertions
numbered l table numbers held =
    sym (length-map numbers (term_at table)) ∙ ap (λ (ts : List CoreTree). length ts) held.in_table.stand ∙ length-map l.assertions (core l.context)

-- as many levels are within the outermost one as there are marks
pub levels_are : (l : Level) (marks : List LevelMark) (s : Stack) → stack_of l (reverse marks) ≡ s → length s.below ≡ length marks
levels_are l marks s is = ap (λ (t : Stack). length t.below) (sym is) ∙ as_many l (reverse marks) ∙ length-reverse marks

-- the last mark is the first from the inside outwards
pub last_first : (marks rest : List LevelMark) (m : LevelMark) → marks ≡ rest ++ m ∷ [] → reverse marks ≡ m ∷ reverse rest
last_first marks rest m e = ap (λ (ms : List LevelMark). reverse ms) e ∙ reverse-append rest (m ∷ [])

module _ (theorems : Theorems) (scope : Scope) (asserts : List Tree) (table : Terms) (numbers : List TermId) (marks rest : List LevelMark) (m : LevelMark) (first : Lengths) (consistent : IsConsistent scope.sig) (kept : IsKept (whole_in scope asserts table numbers) (reverse marks) first) (parted : marks ≡ rest ++ m ∷ []) where
  held : AreHeld (whole_in scope asserts table numbers) (m ∷ reverse rest)
  held = subst (λ (ms : List LevelMark). AreHeld (whole_in scope asserts table numbers) ms) (last_first marks rest m parted) kept.held

  module _ (asserts_now : List Tree) (table_now : Terms) (numbers_now : List TermId) (asserts_are : asserts_now ≡ take m.asserts asserts) (table_is : table_now ≡ take m.terms table) (numbers_are : numbers_now ≡ take m.asserts numbers) where
    formulas_are : map formula_of asserts_now ≡ take m.asserts (map formula_of asserts)
    formulas_are = ap (map formula_of) asserts_are ∙ sym (take-map formula_of m.asserts asserts)

    global_is : whole_in scope asserts_now table_now numbers_now ≡ whole_left m (whole_in scope asserts table numbers)
    global_is =
        ap (λ (fs : List Formula). record { level = record { context = record { declarations = scope.sig; bodies = map formula_of scope.bodies }; assertions = fs }; table = table_now; numbers = numbers_now }) formulas_are
        ∙ ap (λ (ts : Terms). record { level = (whole_left m (whole_in scope asserts table numbers)).level; table = ts; numbers = numbers_now }) table_is
        ∙ ap (λ (ns : List TermId). record { level = (whole_left m (whole_in scope asserts table numbers)).level; table = take m.terms table; numbers = ns }) numbers_are

    pub kept_global : IsKept (whole_in scope asserts_now table_now numbers_now) (reverse rest) first
    kept_global =
        record {
          held = subst (λ (w : Whole). AreHeld w (reverse rest)) (sym global_is) (held_left theorems (whole_in scope asserts table numbers) m (reverse rest) consistent held);
          first_is = kept.first_is;
          first_consistent = kept.first_consistent;
          first_sorted = kept.first_sorted;
        }

    -- what was seen before, with one level fewer
    one_fewer : (global : Bool) (s : Stack) → stack_of (level_in scope asserts) (reverse marks) ≡ s → popped global (stack_of (level_in scope asserts) (m ∷ reverse rest)) ≡ popped global s
    one_fewer global s is = ap (λ (ms : List LevelMark). popped global (stack_of (level_in scope asserts) ms)) (sym (last_first marks rest m parted)) ∙ ap (popped global) is

    pub popped_global : (global : Bool) (s : Stack) → global ≡ true → stack_of (level_in scope asserts) (reverse marks) ≡ s → stack_of (level_in scope asserts_now) (reverse rest) ≡ popped global s
    popped_global global s e is =
        ap (λ (w : Whole). stack_of w.level (reverse rest)) global_is
        ∙ stack_left_global theorems (whole_in scope asserts table numbers) m (reverse rest) consistent held
        ∙ one_fewer true s is
        ∙ ap (λ (b : Bool). popped b s) (sym e)

    module _ (scope_now : Scope) (declared : scope_now.sig ≡ cut scope.sig m.declared) (defined : scope_now.bodies ≡ take m.declared.definitions scope.bodies) where
      level_is : level_in scope_now asserts_now ≡ level_at m (level_in scope asserts)
      level_is =
          ap (λ (d : Declarations). record { context = record { declarations = d; bodies = map formula_of scope_now.bodies }; assertions = map formula_of asserts_now }) declared
          ∙ ap (λ (bs : List Formula). record { context = record { declarations = cut scope.sig m.declared; bodies = bs }; assertions = map formula_of asserts_now }) (ap (map formula_of) defined ∙ sym (take-map formula_of m.declared.definitions scope.bodies))
          ∙ ap (λ (fs : List Formula). record { context = record { declarations = cut scope.sig m.declared; bodies = take m.declared.definitions (map formula_of scope.bodies) }; assertions = fs }) formulas_are

      whole_is : whole_in scope_now asserts_now table_now numbers_now ≡ whole_at m (whole_in scope asserts table numbers)
      whole_is =
          ap (λ (l : Level). record { level = l; table = table_now; numbers = numbers_now }) level_is
          ∙ ap (λ (ts : Terms). record { level = level_at m (level_in scope asserts); table = ts; numbers = numbers_now }) table_is
          ∙ ap (λ (ns : List TermId). record { level = level_at m (level_in scope asserts); table = take m.terms table; numbers = ns }) numbers_are

      pub kept_left : IsKept (whole_in scope_now asserts_now table_now numbers_now) (reverse rest) first
      kept_left =
          record {
            held = subst (λ (w : Whole). AreHeld w (reverse rest)) (sym whole_is) held.2;
            first_is = kept.first_is;
            first_consistent = kept.first_consistent;
            first_sorted = kept.first_sorted;
          }

      pub popped_left : (global : Bool) (s : Stack) → global ≡ false → stack_of (level_in scope asserts) (reverse marks) ≡ s → stack_of (level_in scope_now asserts_now) (reverse rest) ≡ popped global s
      popped_left global s e is =
          ap (λ (l : Level). stack_of l (reverse rest)) level_is
          ∙ one_fewer false s is
          ∙ ap (λ (b : Bool). popped b s) (sym e)

  -- what is cut back to a mark was there
  pub can_cut_back : CanCut scope.sig m.declared
  can_cut_back =
      let d = cut scope.sig m.declared in
      subst (λ (n : Lengths). CanCut scope.sig n) held.1.exact (theorems.can_cut scope.sig d held.1.consistent held.1.extends)

-- marks of all that is there
module _ (theorems : Theorems) (scope : Scope) (asserts : List Tree) (table : Terms) (numbers : List TermId) (marks : List LevelMark) (first : Lengths) (consistent : IsConsistent scope.sig) (kept : IsKept (whole_in scope asserts table numbers) (reverse marks) first) (begins : BeginsWithTruths table) (m : LevelMark) (declared : m.declared ≡ lengths scope.sig) (asserts_are : m.asserts ≡ length asserts) (terms_are : m.terms ≡ length table) (n : ℕ) (later now : List LevelMark) (put : reverse later ≡ replicate n m ++ reverse now) (same : now ≡ marks) where
  before : IsHeld (level_in scope asserts) table numbers
  before = held_now (whole_in scope asserts table numbers) (reverse marks) kept.held

  many : m.asserts ≡ length (map formula_of asserts)
  many = asserts_are ∙ sym (length-map asserts formula_of)

  marks_are : reverse later ≡ replicate n m ++ reverse marks
  marks_are = put ∙ ap (λ (ms : List LevelMark). replicate n m ++ reverse ms) same

  pub kept_pushed : IsKept (whole_in scope asserts table numbers) (reverse later) first
  kept_pushed =
      record {
        held = subst (λ (ms : List LevelMark). AreHeld (whole_in scope asserts table numbers) ms) (sym marks_are)
            (held_pushed theorems (whole_in scope asserts table numbers) m declared before.sound.bodies.one_each many (numbered (level_in scope asserts) table numbers before) terms_are (two_at_least table begins) consistent n (reverse marks) kept.held);
        first_is = kept.first_is;
        first_consistent = kept.first_consistent;
        first_sorted = kept.first_sorted;
      }

  pub stack_pushed_by : (s : Stack) → stack_of (level_in scope asserts) (reverse marks) ≡ s → stack_of (level_in scope asserts) (reverse later) ≡ pushed_by n s
  stack_pushed_by s is =
      ap (λ (ms : List LevelMark). stack_of (level_in scope asserts) ms) marks_are
      ∙ stack_pushed theorems (whole_in scope asserts table numbers) m declared before.sound.bodies.one_each many (numbered (level_in scope asserts) table numbers before) terms_are (two_at_least table begins) consistent n (reverse marks)
      ∙ ap (λ (t : Stack). pushed_by n t) is

-- when levels are refused
module _ (l : Level) (marks : List LevelMark) (s : Stack) (is : stack_of l (reverse marks) ≡ s) (n : ℕ) where
  pub push_refused : (length marks + n ≤ most_levels → ⊥) → IsPushRefusal s n too_many_levels
  push_refused full = inl (refl, omega (arith, lt_of_not-le full, levels_are l marks s is))

  pub push_accepted : length marks + n ≤ most_levels → (k : ℕ) → IsPushRefusal s n k → ⊥
  push_accepted room k (inl h) = absurd (omega (arith, h.1, room, levels_are l marks s is))
  push_accepted room k (inr h) = h.1

-- where nothing is asserted and the outermost level is alone
module _ (theorems : Theorems) (scope : Scope) (asserts : List Tree) (table : Terms) (numbers : List TermId) (marks : List LevelMark) (no_asserts : asserts ≡ []) (no_numbers : numbers ≡ []) (no_marks : marks ≡ []) where
  abbrev alone_held : Type 0
  alone_held = IsHeld (record { context = context_in scope; assertions = [] }) table []

  held_alone : alone_held → AreHeld (whole_in scope asserts table numbers) (reverse marks)
  held_alone h =
      subst (λ (ms : List LevelMark). AreHeld (whole_in scope asserts table numbers) (reverse ms)) (sym no_marks)
      (subst (λ (ns : List TermId). IsHeld (level_in scope asserts) table ns) (sym no_numbers)
      (subst (λ (ts : List Tree). IsHeld (level_in scope ts) table []) (sym no_asserts) h))

  pub kept_alone : (first : Lengths) → alone_held → first ≡ lengths start → IsConsistent start → AreSorted start truth_terms → IsKept (whole_in scope asserts table numbers) (reverse marks) first
  kept_alone first h is consistent sorted = record { held = held_alone h; first_is = is; first_consistent = consistent; first_sorted = sorted }

  pub stack_alone : stack_of (level_in scope asserts) (reverse marks) ≡ record { top = record { context = context_in scope; assertions = [] }; below = [] }
  stack_alone =
      ap (λ (ms : List LevelMark). stack_of (level_in scope asserts) (reverse ms)) no_marks
      ∙ ap (λ (ts : List Tree). alone (level_in scope ts)) no_asserts

  -- at the start
  pub kept_first : (first : Lengths) → scope.sig ≡ start → scope.bodies ≡ [] → table ≡ truth_terms → AreOrdered table → AreSorted start table → first ≡ lengths scope.sig → IsConsistent scope.sig → IsKept (whole_in scope asserts table numbers) (reverse marks) first
  kept_first first declared defined terms ordered sorted is consistent =
      kept_alone first (first_held theorems scope.sig (map formula_of scope.bodies) table declared (ap (map formula_of) defined) terms ordered (subst (λ (d : Declarations). AreSorted d table) (sym declared) sorted)) (is ∙ ap lengths declared) (subst IsConsistent declared consistent) (subst (AreSorted start) terms sorted)

-- where all assertions go
module _ (theorems : Theorems) (scope : Scope) (asserts : List Tree) (table : Terms) (numbers : List TermId) (marks : List LevelMark) (first : Lengths) (consistent : IsConsistent scope.sig) (kept : IsKept (whole_in scope asserts table numbers) (reverse marks) first) (asserts_now : List Tree) (table_now : Terms) (numbers_now : List TermId) (marks_now : List LevelMark) (no_asserts : asserts_now ≡ []) (no_numbers : numbers_now ≡ []) (no_marks : marks_now ≡ []) (terms : table_now ≡ truth_terms) (ordered : AreOrdered table_now) where
  -- and what is declared stays
  pub kept_global_empty : ((d : Declarations) → AreSorted d table → AreSorted d table_now) → IsKept (whole_in scope asserts_now table_now numbers_now) (reverse marks_now) first
  kept_global_empty sorted =
      let before = held_now (whole_in scope asserts table numbers) (reverse marks) kept.held in
      kept_alone theorems scope asserts_now table_now numbers_now marks_now no_asserts no_numbers no_marks first
      (nothing_held theorems scope.sig (map formula_of scope.bodies) table_now before.sound.bodies terms ordered (sorted scope.sig before.in_table.exact.sorted)) kept.first_is kept.first_consistent kept.first_sorted

  pub emptied_global : (global : Bool) (s : Stack) → global ≡ true → stack_of (level_in scope asserts) (reverse marks) ≡ s → stack_of (level_in scope asserts_now) (reverse marks_now) ≡ emptied global s
  emptied_global global s e is =
      stack_alone theorems scope asserts_now table_now numbers_now marks_now no_asserts no_numbers no_marks
      ∙ ap (λ (c : Context). record { top = record { context = c; assertions = [] }; below = [] }) (sym (context_now (level_in scope asserts) (reverse marks)) ∙ ap (λ (t : Stack). t.top.context) is)
      ∙ ap (λ (b : Bool). emptied b s) (sym e)

  -- and so does what is declared
  module _ (scope_now : Scope) (declared : scope_now.sig ≡ cut scope.sig first) (defined : scope_now.bodies ≡ take first.definitions scope.bodies) where
    first_declared : scope_now.sig ≡ start
    first_declared = declared ∙ ap (λ (n : Lengths). cut scope.sig n) kept.first_is ∙ theorems.cut_back scope.sig start (theorems.from_start scope.sig consistent)

    none_defined : scope_now.bodies ≡ []
    none_defined = defined ∙ ap (λ (n : Lengths). take n.definitions scope.bodies) kept.first_is

    pub kept_empty : IsKept (whole_in scope_now asserts_now table_now numbers_now) (reverse marks_now) first
    kept_empty =
        kept_alone theorems scope_now asserts_now table_now numbers_now marks_now no_asserts no_numbers no_marks first
        (first_held theorems scope_now.sig (map formula_of scope_now.bodies) table_now first_declared (ap (map formula_of) none_defined) terms ordered
        (subst (λ (d : Declarations). AreSorted d table_now) (sym first_declared) (subst (AreSorted start) (sym terms) kept.first_sorted)))
        kept.first_is kept.first_consistent kept.first_sorted

-- whether all is as at the start
module _ (theorems : Theorems) (scope : Scope) (asserts : List Tree) (table : Terms) (numbers : List TermId) (marks : List LevelMark) (first : Lengths) (consistent : IsConsistent scope.sig) (kept : IsKept (whole_in scope asserts table numbers) (reverse marks) first) (s : Stack) (is : stack_of (level_in scope asserts) (reverse marks) ≡ s) (declared : Lengths) (declared_is : declared ≡ lengths scope.sig) where
  pub first_from : (marks ≡ []) × (asserts ≡ []) × (declared ≡ first) → s ≡ first_stack
  first_from h =
      let before = held_now (whole_in scope asserts table numbers) (reverse marks) kept.held in
      let sig : scope.sig ≡ start =
      sym (theorems.cut_back scope.sig scope.sig (theorems.itself scope.sig))
      ∙ ap (λ (n : Lengths). cut scope.sig n) (sym declared_is ∙ h.2 ∙ kept.first_is)
      ∙ theorems.cut_back scope.sig start (theorems.from_start scope.sig consistent)
      in
      let none : map formula_of scope.bodies ≡ [] = none_of (map formula_of scope.bodies) (before.sound.bodies.one_each ∙ ap (λ (d : Declarations). length d.definitions) sig) in
      sym is
      ∙ ap (λ (ms : List LevelMark). stack_of (level_in scope asserts) (reverse ms)) h.0
      ∙ ap (λ (ts : List Tree). alone (level_in scope ts)) h.1
      ∙ ap (λ (bs : List Formula). alone (record { context = record { declarations = scope.sig; bodies = bs }; assertions = [] })) none
      ∙ ap (λ (d : Declarations). alone (record { context = record { declarations = d; bodies = [] }; assertions = [] })) sig

  pub first_to : s ≡ first_stack → (marks ≡ []) × (asserts ≡ []) × (declared ≡ first)
  first_to e =
      let whole : stack_of (level_in scope asserts) (reverse marks) ≡ first_stack = is ∙ e in
      let all : map formula_of asserts ≡ [] = sym (all_in_force (level_in scope asserts) (reverse marks)) ∙ ap in_force whole in
      let sig : scope.sig ≡ start = ap (λ (c : Context). c.declarations) (sym (context_now (level_in scope asserts) (reverse marks))) ∙ ap (λ (t : Stack). t.top.context.declarations) whole in (
        none_of marks (sym (levels_are (level_in scope asserts) marks first_stack whole)),
        none_of asserts (sym (length-map asserts formula_of) ∙ ap (λ (fs : List Formula). length fs) all),
        declared_is ∙ ap lengths sig ∙ sym kept.first_is,
      )
