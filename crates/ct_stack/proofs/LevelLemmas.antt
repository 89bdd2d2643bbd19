-- All that is in force and its levels: what grows, what a new level is, and what is left where a level goes.
use Rattle.std.proofs.Common.{◌≡◌, ◌∙◌, ℕ, zero, suc, ◌≤◌, true, List, [], ◌∷◌, ◌++◌, length, take, drop, reverse, replicate, refl, sym, ap, subst, arith}
use Rattle.std.specs.List.{flat_map}
use Rattle.std.proofs.lemmas.List.{append-nil, length-append, reverse-append, take-append-drop, take-append-le, drop-append-le}
use Rattle.std.proofs.lemmas.Grind.{flat_map-append}
use Rattle.std.proofs.Math.ListN.{drop_of_length-le}
use Rattle.ct_lemmas.proofs.Prefixes.{take-past}
use Rattle.ct_sorts.specs.Declarations.{Declarations}
use Rattle.ct_sorts.specs.Lengths.{Lengths}
use Rattle.ct_sorts.specs.Marks.{cut, lengths}
use Rattle.ct_sorts.specs.Consistent.{IsConsistent}
use Rattle.ct_sorts.specs.Grown.{Begins, Extends}
use Rattle.ct_terms.specs.declared.ids.TermId.{TermId}
use Rattle.ct_terms.specs.Terms.{Terms}
use Rattle.ct_formulas.specs.Formula.{Formula}
use Rattle.ct_formulas.specs.FormulaSorts.{AreSound}
use Rattle.ct_stack.specs.Theorems.{Theorems}
use Rattle.ct_stack.specs.Stack.{Context, Level, Stack, in_force, in_context, declaring}
use Rattle.ct_stack.specs.Levels.{pushed, pushed_by, popped}
use Rattle.ct_stack.specs.Held.{IsHeld, alone, as_one}
use Rattle.ct_stack.specs.Whole.{Whole, level_at, whole_at, levels_of, stack_of, IsMarkOf, AreHeld}
use Rattle.ct_stack.specs.declared.levels.LevelMark.{LevelMark}
use Rattle.ct_stack.proofs.HeldLemmas.{held_lasting}

-- a longer list has the same first part
take_stays : {X : Type 0} (n : ℕ) (xs ys : List X) → Begins xs ys → n ≤ length xs → take n ys ≡ take n xs
take_stays n xs ys (more, is) within = ap (take n) is ∙ take-append-le n xs more within

long_stays : {X : Type 0} (n : ℕ) (xs ys : List X) → Begins xs ys → n ≤ length xs → n ≤ length ys
long_stays n xs ys (more, is) within = omega (arith, within, ap length is, length-append xs more)

pub itself : {X : Type 0} (xs : List X) → Begins xs xs
itself xs = ([], sym (append-nil xs))

-- what is in force is held
pub held_now : (w : Whole) (marks : List LevelMark) → AreHeld w marks → IsHeld w.level w.table w.numbers
held_now w [] h = h
held_now w (m ∷ marks) h = h.0

pub context_now : (l : Level) (marks : List LevelMark) → (stack_of l marks).top.context ≡ l.context
context_now l [] = refl
context_now l (m ∷ marks) = refl

-- the levels have all assertions
pub all_in_force : (l : Level) (marks : List LevelMark) → in_force (stack_of l marks) ≡ l.assertions
all_in_force l [] = refl
all_in_force l (m ∷ marks) =
    let outer = stack_of (level_at m l) marks in
    let own : List Level → List Formula = λ ls. flat_map (λ level. level.assertions) ls in
    let last : own (reverse (levels_of outer)) ≡ in_force outer =
    ap own (reverse-append (outer.top ∷ []) outer.below)
    ∙ flat_map-append (λ (level : Level). level.assertions) (reverse outer.below) (outer.top ∷ [])
    ∙ ap (λ (fs : List Formula). own (reverse outer.below) ++ fs) (append-nil outer.top.assertions)
    in
    ap (λ (fs : List Formula). fs ++ drop m.asserts l.assertions) (last ∙ all_in_force (level_at m l) marks)
    ∙ take-append-drop m.asserts l.assertions

pub as_one_is : (l : Level) (marks : List LevelMark) → as_one (stack_of l marks) ≡ l
as_one_is l marks =
    ap (λ (c : Context). record { context = c; assertions = in_force (stack_of l marks) }) (context_now l marks)
    ∙ ap (λ (fs : List Formula). record { context = l.context; assertions = fs }) (all_in_force l marks)

-- as many levels are around the innermost one as marks were made
pub as_many : (l : Level) (marks : List LevelMark) → length (stack_of l marks).below ≡ length marks
as_many l [] = refl
as_many l (m ∷ marks) = omega (arith, as_many (level_at m l) marks)

-- more is in force than before
pub record Grows (later w : Whole) : Type 0 where
  pub declarations : Extends later.level.context.declarations w.level.context.declarations
  pub bodies : Begins w.level.context.bodies later.level.context.bodies
  pub assertions : Begins w.level.assertions later.level.assertions
  pub table : Begins w.table later.table
  pub numbers : Begins w.numbers later.numbers

-- what is in force where it goes and declarations are global
abbrev pub whole_left : LevelMark → Whole → Whole
whole_left m w = record { level = record w.level { assertions = take m.asserts w.level.assertions }; table = take m.terms w.table; numbers = take m.asserts w.numbers }

module _ (theorems : Theorems) where
  -- where more is in force, what was there at a mark is the same
  module _ (later w : Whole) (g : Grows later w) (m : LevelMark) (mark : IsMarkOf m w) where
    cut_stays : cut later.level.context.declarations m.declared ≡ cut w.level.context.declarations m.declared
    cut_stays =
        let d = cut w.level.context.declarations m.declared in
        ap (λ (n : Lengths). cut later.level.context.declarations n) (sym mark.exact)
        ∙ theorems.cut_back later.level.context.declarations d (theorems.further later.level.context.declarations w.level.context.declarations d g.declarations mark.extends)

    level_stays : level_at m later.level ≡ level_at m w.level
    level_stays =
        ap (λ (d : Declarations). record { context = record { declarations = d; bodies = take m.declared.definitions later.level.context.bodies }; assertions = take m.asserts later.level.assertions }) cut_stays
        ∙ ap (λ (bs : List Formula). record { context = record { declarations = cut w.level.context.declarations m.declared; bodies = bs }; assertions = take m.asserts later.level.assertions }) (take_stays m.declared.definitions w.level.context.bodies later.level.context.bodies g.bodies mark.bodies)
        ∙ ap (λ (fs : List Formula). record { context = record { declarations = cut w.level.context.declarations m.declared; bodies = take m.declared.definitions w.level.context.bodies }; assertions = fs }) (take_stays m.asserts w.level.assertions later.level.assertions g.assertions mark.asserts)

    whole_stays : whole_at m later ≡ whole_at m w
    whole_stays =
        ap (λ (l : Level). record { level = l; table = take m.terms later.table; numbers = take m.asserts later.numbers }) level_stays
        ∙ ap (λ (ts : Terms). record { level = level_at m w.level; table = ts; numbers = take m.asserts later.numbers }) (take_stays m.terms w.table later.table g.table mark.terms)
        ∙ ap (λ (ns : List TermId). record { level = level_at m w.level; table = take m.terms w.table; numbers = ns }) (take_stays m.asserts w.numbers later.numbers g.numbers mark.numbers)

    mark_stays : IsMarkOf m later
    mark_stays =
        let d = cut w.level.context.declarations m.declared in
        record {
          consistent = subst IsConsistent (sym cut_stays) mark.consistent;
          extends = subst (λ (e : Declarations). Extends later.level.context.declarations e) (sym cut_stays) (theorems.further later.level.context.declarations w.level.context.declarations d g.declarations mark.extends);
          exact = ap lengths cut_stays ∙ mark.exact;
          bodies = long_stays m.declared.definitions w.level.context.bodies later.level.context.bodies g.bodies mark.bodies;
          asserts = long_stays m.asserts w.level.assertions later.level.assertions g.assertions mark.asserts;
          numbers = long_stays m.asserts w.numbers later.numbers g.numbers mark.numbers;
          truths = mark.truths;
          terms = long_stays m.terms w.table later.table g.table mark.terms;
        }

  pub held_grown : (later w : Whole) (marks : List LevelMark) → Grows later w → IsHeld later.level later.table later.numbers → AreHeld w marks → AreHeld later marks
  held_grown later w [] g now held = now
  held_grown later w (m ∷ marks) g now held =
      (now, mark_stays later w g m held.1, subst (λ (x : Whole). AreHeld x marks) (sym (whole_stays later w g m held.1)) held.2)

  -- only the innermost level grows
  pub stack_grown : (later w : Whole) (marks : List LevelMark) (more : List Formula) → Grows later w → later.level.assertions ≡ w.level.assertions ++ more → AreHeld w marks → stack_of later.level marks ≡ record { top = record { context = later.level.context; assertions = (stack_of w.level marks).top.assertions ++ more }; below = (stack_of w.level marks).below }
  stack_grown later w [] more g e held = ap (λ (fs : List Formula). alone (record { context = later.level.context; assertions = fs })) e
  stack_grown later w (m ∷ marks) more g e held =
      ap (λ (fs : List Formula). record { top = record { context = later.level.context; assertions = fs }; below = levels_of (stack_of (level_at m later.level) marks) }) (ap (drop m.asserts) e ∙ drop-append-le m.asserts w.level.assertions more held.1.asserts)
      ∙ ap (λ (l : Level). record { top = record { context = later.level.context; assertions = drop m.asserts w.level.assertions ++ more }; below = levels_of (stack_of l marks) }) (level_stays later w g m held.1)

  -- with other declarations and definitions alone
  pub in_context_now : (later w : Whole) (marks : List LevelMark) → Grows later w → later.level.assertions ≡ w.level.assertions → AreHeld w marks → stack_of later.level marks ≡ in_context (stack_of w.level marks) later.level.context
  in_context_now later w marks g e held =
      stack_grown later w marks [] g (e ∙ sym (append-nil w.level.assertions)) held
      ∙ ap (λ (fs : List Formula). record { top = record { context = later.level.context; assertions = fs }; below = (stack_of w.level marks).below }) (append-nil (stack_of w.level marks).top.assertions)

  pub declaring_now : (later w : Whole) (marks : List LevelMark) (d : Declarations) → Grows later w → later.level ≡ record w.level { context = record w.level.context { declarations = d } } → AreHeld w marks → stack_of later.level marks ≡ declaring (stack_of w.level marks) d
  declaring_now later w marks d g e held =
      in_context_now later w marks g (ap (λ (l : Level). l.assertions) e) held
      ∙ ap (λ (l : Level). in_context (stack_of w.level marks) l.context) e
      ∙ ap (λ (c : Context). in_context (stack_of w.level marks) (record c { declarations = d })) (sym (context_now w.level marks))

  -- a mark of all that is there
  module _ (w : Whole) (m : LevelMark) (declared : m.declared ≡ lengths w.level.context.declarations) (one_each : length w.level.context.bodies ≡ length w.level.context.declarations.definitions) (asserts : m.asserts ≡ length w.level.assertions) (numbers : length w.numbers ≡ length w.level.assertions) (terms : m.terms ≡ length w.table) (truths : 2 ≤ length w.table) (consistent : IsConsistent w.level.context.declarations) where
    cut_none : cut w.level.context.declarations m.declared ≡ w.level.context.declarations
    cut_none = ap (λ (n : Lengths). cut w.level.context.declarations n) declared ∙ theorems.cut_back w.level.context.declarations w.level.context.declarations (theorems.itself w.level.context.declarations)

    many : m.declared.definitions ≡ length w.level.context.bodies
    many = ap (λ (n : Lengths). n.definitions) declared ∙ sym one_each

    level_whole : level_at m w.level ≡ w.level
    level_whole =
        ap (λ (d : Declarations). record { context = record { declarations = d; bodies = take m.declared.definitions w.level.context.bodies }; assertions = take m.asserts w.level.assertions }) cut_none
        ∙ ap (λ (bs : List Formula). record { context = record { declarations = w.level.context.declarations; bodies = bs }; assertions = take m.asserts w.level.assertions }) (take-past m.declared.definitions w.level.context.bodies (omega (arith, many)))
        ∙ ap (λ (fs : List Formula). record { context = w.level.context; assertions = fs }) (take-past m.asserts w.level.assertions (omega (arith, asserts)))

    whole_whole : whole_at m w ≡ w
    whole_whole =
        ap (λ (l : Level). record { level = l; table = take m.terms w.table; numbers = take m.asserts w.numbers }) level_whole
        ∙ ap (λ (ts : Terms). record { level = w.level; table = ts; numbers = take m.asserts w.numbers }) (take-past m.terms w.table (omega (arith, terms)))
        ∙ ap (λ (ns : List TermId). record { level = w.level; table = w.table; numbers = ns }) (take-past m.asserts w.numbers (omega (arith, asserts, numbers)))

    mark_whole : IsMarkOf m w
    mark_whole =
        record {
          consistent = subst IsConsistent (sym cut_none) consistent;
          extends = subst (λ (d : Declarations). Extends w.level.context.declarations d) (sym cut_none) (theorems.itself w.level.context.declarations);
          exact = ap lengths cut_none ∙ sym declared;
          bodies = omega (arith, many);
          asserts = omega (arith, asserts);
          numbers = omega (arith, asserts, numbers);
          truths = omega (arith, truths, terms);
          terms = omega (arith, terms);
        }

    pub held_pushed : (n : ℕ) (marks : List LevelMark) → AreHeld w marks → AreHeld w (replicate n m ++ marks)
    held_pushed zero marks held = held
    held_pushed (suc n) marks held =
        let inner = held_pushed n marks held in
        (held_now w (replicate n m ++ marks) inner, mark_whole, subst (λ (x : Whole). AreHeld x (replicate n m ++ marks)) (sym whole_whole) inner)

    one_pushed : (marks : List LevelMark) → stack_of w.level (m ∷ marks) ≡ pushed (stack_of w.level marks)
    one_pushed marks =
        ap (λ (fs : List Formula). record { top = record { context = w.level.context; assertions = fs }; below = levels_of (stack_of (level_at m w.level) marks) }) (drop_of_length-le w.level.assertions {i = m.asserts} (omega (arith, asserts)))
        ∙ ap (λ (l : Level). record { top = record { context = w.level.context; assertions = [] }; below = levels_of (stack_of l marks) }) level_whole
        ∙ ap (λ (c : Context). record { top = record { context = c; assertions = [] }; below = levels_of (stack_of w.level marks) }) (sym (context_now w.level marks))

    pub stack_pushed : (n : ℕ) (marks : List LevelMark) → stack_of w.level (replicate n m ++ marks) ≡ pushed_by n (stack_of w.level marks)
    stack_pushed zero marks = refl
    stack_pushed (suc n) marks =
        one_pushed (replicate n m ++ marks) ∙ ap pushed (stack_pushed n marks) ∙ last n (stack_of w.level marks)
      where
        last : (k : ℕ) (s : Stack) → pushed (pushed_by k s) ≡ pushed_by k (pushed s)
        last zero s = refl
        last (suc k) s = last k (pushed s)

  module _ (w : Whole) (m : LevelMark) (marks : List LevelMark) (consistent : IsConsistent w.level.context.declarations) (held : AreHeld w (m ∷ marks)) where
    rejoined : take m.declared.definitions w.level.context.bodies ++ drop m.declared.definitions w.level.context.bodies ≡ w.level.context.bodies
    rejoined = take-append-drop m.declared.definitions w.level.context.bodies

    grows : Grows (whole_left m w) (whole_at m w)
    grows =
        record {
          declarations = held.1.extends;
          bodies = (drop m.declared.definitions w.level.context.bodies, sym rejoined);
          assertions = itself (take m.asserts w.level.assertions);
          table = itself (take m.terms w.table);
          numbers = itself (take m.asserts w.numbers);
        }

    now : IsHeld (whole_left m w).level (take m.terms w.table) (take m.asserts w.numbers)
    now =
        let before = held_now (whole_at m w) marks held.2 in
        subst (λ (bs : List Formula). IsHeld (record { context = record { declarations = w.level.context.declarations; bodies = bs }; assertions = take m.asserts w.level.assertions }) (take m.terms w.table) (take m.asserts w.numbers)) rejoined
        (held_lasting theorems w.level.context.declarations (cut w.level.context.declarations m.declared) (take m.declared.definitions w.level.context.bodies) (drop m.declared.definitions w.level.context.bodies) consistent held.1.consistent held.1.extends before.sound.bodies (take m.asserts w.level.assertions) (take m.terms w.table) (take m.asserts w.numbers)
        (subst (AreSound w.level.context.declarations) (sym rejoined) held.0.sound.bodies) before)

    pub held_left : AreHeld (whole_left m w) marks
    held_left = held_grown (whole_left m w) (whole_at m w) marks grows now held.2

    pub stack_left_global : stack_of (whole_left m w).level marks ≡ popped true (stack_of w.level (m ∷ marks))
    stack_left_global = in_context_now (whole_left m w) (whole_at m w) marks grows refl held.2
