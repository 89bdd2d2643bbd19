-- The steps of a line are sound: where every literal of its clause is false, each step gives terms that have one value.
use Rattle.std.proofs.Common.{◌≡◌, ℕ, zero, suc, ◌<◌, inl, inr, Bool, true, false, not, List, [], ◌∷◌, length, map, take, All, Contains, refl, sym, subst, arith}
use Rattle.std.specs.List.{AllZip}
use Rattle.std.proofs.lemmas.List.Elements.{All-contains}
use Rattle.std.proofs.lemmas.Option.{slice_get_within}
use Rattle.ct_lemmas.proofs.Contained.{Contains-from_slice_get}
use Rattle.ct_lemmas.proofs.Lists.{slice_get-map_at, slice_get-there}
use Rattle.ct_lemmas.proofs.Prefixes.{slice_get-take, slice_get-take_below}
use Rattle.ct_sorts.specs.Declarations.{Declarations}
use Rattle.ct_terms.specs.declared.ids.TermId.{TermId}
use Rattle.ct_terms.specs.declared.ids.Lit.{Lit}
use Rattle.ct_terms.specs.Literal.{opposite, IsStripped}
use Rattle.ct_terms.specs.Clause.{Clause, with_value, literal_value}
use Rattle.ct_terms.specs.Children.{core_children}
use Rattle.ct_terms.specs.Terms.{Terms}
use Rattle.ct_eval.specs.declared.interp.Interp.{Interp}
use Rattle.ct_eval.specs.Truth.{truth_value}
use Rattle.ct_rules.specs.declared.equation.Equation.{Equation}
use Rattle.ct_rules.specs.Rules.{Equations, truth_term, Follows, by_symmetry, by_transitivity, by_congruence, by_injection, by_selection, by_testing, by_expansion, by_equation_in, by_equation_out, by_negation, by_singleton}
use Rattle.ct_rules.specs.Uniqueness.{AreMatched, IsPairMatched}
use Rattle.ct_log.specs.declared.rules.Entry.{Entry}
use Rattle.ct_log.specs.declared.rules.Entry.TheVariants as entry
use Rattle.ct_log.specs.declared.rules.Pair.{Pair}
use Rattle.ct_log.specs.declared.rules.EqStep.{EqStep}
use Rattle.ct_log.specs.declared.rules.EqStep.TheVariants.{Hyp, Refl, Sym, Trans, Cong, Inject, Sel, Test, Expand, EqualIn, EqualOut, Neg, Single, Unique}
use Rattle.ct_log.specs.Equations.{equation, Gave, GaveEach, IsEntryFor, AreEntriesFor, IsPairBy, AreUnique, Gives, GiveAll}
use Rattle.ct_checker.proofs.ListLemmas.{Contains-map_cases}
use Rattle.ct_checker.proofs.Setting.{Setting, Equal, value_point}
use Rattle.ct_checker.proofs.ValueLemmas.{stated}
use Rattle.ct_checker.proofs.RuleLemmas.{follows_sound}
use Rattle.ct_checker.proofs.UniquenessLemmas.{uniqueness_sound}

-- where the opposite of a literal is false its term is what the literal says
sign_of : (positive truth : Bool) → with_value (not positive) truth ≡ false → truth ≡ positive
sign_of true true e = refl
sign_of true false e = sym e
sign_of false true e = e
sign_of false false e = refl

-- the equation of a pair's sides
abbrev sides : Pair → Equation
sides pair = equation pair.left pair.right

-- some step gave the equation
abbrev IsGiven : List Equation → Equations
IsGiven given x y = (number : ℕ) × Gave given number x y

-- what steps gave for arguments is given for each
given_each : (given : List Equation) (numbers : List ℕ) (xs ys : List TermId) → GaveEach given numbers xs ys → AllZip (IsGiven given) xs ys
given_each given [] [] [] each = tt
given_each given [] [] (y ∷ ys) each = absurd each
given_each given [] (x ∷ xs) ys each = absurd each
given_each given (n ∷ ns) [] ys each = absurd each
given_each given (n ∷ ns) (x ∷ xs) [] each = absurd each
given_each given (n ∷ ns) (x ∷ xs) (y ∷ ys) each = ((n, each.0), given_each given ns xs ys each.1)

module _ (given : List Equation) (pairs : List Pair) where
  -- arguments with an entry are matched
  entry_matched : (e : Entry) (x y : TermId) → IsEntryFor given pairs e x y → AreMatched (IsGiven given) (map sides pairs) x y
  entry_matched (entry.Step n) x y gave = inl (n, gave)
  entry_matched (entry.Pair k m n) x y named =
      inr (sides named.0, Contains-from_slice_get (map sides pairs) k (sides named.0) (slice_get-map_at sides pairs k named.0 named.1), (m, named.2), (n, named.3))

  entries_matched : (es : List Entry) (xs ys : List TermId) → AreEntriesFor given pairs es xs ys → AllZip (AreMatched (IsGiven given) (map sides pairs)) xs ys
  entries_matched [] [] [] each = tt
  entries_matched [] [] (y ∷ ys) each = absurd each
  entries_matched [] (x ∷ xs) ys each = absurd each
  entries_matched (e ∷ es) [] ys each = absurd each
  entries_matched (e ∷ es) (x ∷ xs) [] each = absurd each
  entries_matched (e ∷ es) (x ∷ xs) (y ∷ ys) each = (entry_matched e x y each.0, entries_matched es xs ys each.1)

  -- a pair with entries is matched
  pair_matched : (terms : Terms) (pair : Pair) → IsPairBy terms given pairs pair → IsPairMatched terms (IsGiven given) (map sides pairs) pair.left pair.right
  pair_matched terms pair by_entries = record {
    ctor = by_entries.ctor;
    xs = by_entries.xs;
    ys = by_entries.ys;
    left_stands = by_entries.left_stands;
    right_stands = by_entries.right_stands;
    arguments = entries_matched pair.entries by_entries.xs by_entries.ys by_entries.entries;
  }

module _ (d : Declarations) (i : Interp) (terms : Terms) (setting : Setting d i terms) where
  -- other names of terms that are equal
  renamed : (x y t u : TermId) → x ≡ t → y ≡ u → Equal d i terms t u → Equal d i terms x y
  renamed x y t u left right equal = subst (Equal d i terms x) (sym right) (subst (λ (z : TermId). Equal d i terms z u) (sym left) equal)

  module _ (given : List Equation) (equal : (number : ℕ) (x y : TermId) → Gave given number x y → Equal d i terms x y) where
    sound : (x y : TermId) → IsGiven given x y → Equal d i terms x y
    sound x y (number, gave) = equal number x y gave

    -- what follows from what is given holds
    followed : (x y : TermId) → Follows d terms (IsGiven given) x y → Equal d i terms x y
    followed = follows_sound d i terms setting (IsGiven given) sound

    unique_sound : (number : ℕ) (pairs : List Pair) (x y : TermId) → AreUnique terms given number pairs x y → Equal d i terms x y
    unique_sound number pairs x y unique =
        renamed x y unique.asked.left unique.asked.right (sym unique.left) (sym unique.right)
        (uniqueness_sound d i terms setting (IsGiven given) sound unique.asked.left unique.asked.right (record {
          pairs = map sides pairs;
          listed = Contains-from_slice_get (map sides pairs) number (sides unique.asked) (slice_get-map_at sides pairs number unique.asked unique.stands);
          matched = λ pair listed. let one = Contains-map_cases sides pairs pair listed in
              subst (λ (e : Equation). IsPairMatched terms (IsGiven given) (map sides pairs) e.left e.right) one.3 (pair_matched given pairs terms one.1 (unique.each one.0 one.1 one.2));
        }))

    module _ (clause : Clause) (literals : All (λ l. IsStripped terms l.term) clause) (untrue : All (λ l. literal_value (λ t. truth_value d i terms (record { 0 = t })) l ≡ false) clause) where
      -- what a literal states holds where its opposite is in the clause
      hypothesis_sound : (l : Lit) → Contains clause (opposite l) → Equal d i terms l.term (truth_term l.positive)
      hypothesis_sound l inside =
          let stripped = All-contains (λ (k : Lit). IsStripped terms k.term) clause (opposite l) literals inside in
          let is = All-contains (λ (k : Lit). literal_value (λ t. truth_value d i terms (record { 0 = t })) k ≡ false) clause (opposite l) untrue inside in
          stated d i terms setting l.term l.positive stripped.0 (sign_of l.positive (truth_value d i terms l.term) is)

      pub gives_sound : (step : EqStep) (x y : TermId) → Gives d terms clause given step x y → Equal d i terms x y
      gives_sound (Hyp l) x y gives = renamed x y l.term (truth_term l.positive) gives.1 gives.2 (hypothesis_sound l gives.0)
      gives_sound (Refl t) x y gives = renamed x y t t gives.1 gives.2 (setting.same.itself (value_point d i terms t))
      gives_sound (Sym m) x y gives = followed x y (by_symmetry (m, gives))
      gives_sound (Trans m n) x y gives = followed x y (by_transitivity (record { middle = gives.0; first = (m, gives.1); second = (n, gives.2) }))
      gives_sound (Cong t u steps) x y gives =
          renamed x y t u gives.0 gives.1 (followed t u (by_congruence (record {
            left = gives.2.left;
            right = gives.2.right;
            left_stands = gives.2.left_stands;
            right_stands = gives.2.right_stands;
            head = gives.2.head;
            arguments = given_each given steps (core_children gives.2.left) (core_children gives.2.right) gives.2.arguments;
          })))
      gives_sound (Inject n place) x y gives = followed x y (by_injection (record {
        left = gives.left;
        right = gives.right;
        ctor = gives.ctor;
        xs = gives.xs;
        ys = gives.ys;
        place = place;
        equal = (n, gives.equal);
        left_stands = gives.left_stands;
        right_stands = gives.right_stands;
        left_at = gives.left_at;
        right_at = gives.right_at;
      }))
      gives_sound (Sel t n) x y gives = renamed x y t y gives.0 refl (followed t y (by_selection (record {
        sel = gives.1.sel;
        selector = gives.1.selector;
        argument = gives.1.argument;
        con = gives.1.con;
        args = gives.1.args;
        stands = gives.1.stands;
        declared = gives.1.declared;
        equal = (n, gives.1.equal);
        con_stands = gives.1.con_stands;
        at = gives.1.at;
      })))
      gives_sound (Test t n) x y gives = renamed x y t y gives.0 refl (followed t y (by_testing (record {
        tested = gives.1.tested;
        argument = gives.1.argument;
        con = gives.1.con;
        ctor = gives.1.ctor;
        args = gives.1.args;
        stands = gives.1.stands;
        equal = (n, gives.1.equal);
        con_stands = gives.1.con_stands;
        answer = gives.1.answer;
      })))
      gives_sound (Expand n c) x y gives = renamed x y x c refl gives.0 (followed x c (by_expansion (record {
        test = gives.1.test;
        id = gives.1.id;
        ctor = gives.1.ctor;
        args = gives.1.args;
        declared = gives.1.declared;
        holds = (n, gives.1.holds);
        test_stands = gives.1.test_stands;
        con_stands = gives.1.con_stands;
        fields = gives.1.fields;
      })))
      gives_sound (EqualIn t n) x y gives = renamed x y t (truth_term true) gives.0 gives.1 (followed t (truth_term true) (by_equation_in (record {
        left = gives.2.0;
        right = gives.2.1;
        stands = gives.2.2;
        equal = (n, gives.2.3);
        answer = refl;
      })))
      gives_sound (EqualOut n) x y gives = followed x y (by_equation_out (record { term = gives.0; stands = gives.2; holds = (n, gives.1) }))
      gives_sound (Neg t n) x y gives = renamed x y t y gives.0 refl (followed t y (by_negation (record {
        argument = gives.1.0;
        stands = gives.1.1;
        answer = elim gives.1.2 [ inl of_true ↦ inl ((n, of_true.0), of_true.1) | inr of_false ↦ inr ((n, of_false.0), of_false.1) ];
      })))
      gives_sound (Single t u) x y gives = renamed x y t u gives.0 gives.1 (followed t u (by_singleton gives.2))
      gives_sound (Unique number pairs) x y gives = unique_sound number pairs x y gives

  -- so all steps give terms that have one value, in the order of their numbers
  module _ (clause : Clause) (literals : All (λ l. IsStripped terms l.term) clause) (untrue : All (λ l. literal_value (λ t. truth_value d i terms (record { 0 = t })) l ≡ false) clause) (steps : List EqStep) (given : List Equation) (all : GiveAll d terms clause steps given) where
    given_below : (bound number : ℕ) (x y : TermId) → number < bound → Gave given number x y → Equal d i terms x y
    given_below zero number x y within gave = absurd (omega arith)
    given_below (suc bound) number x y within gave =
        let inside : number < length steps = subst (λ (n : ℕ). number < n) all.long (slice_get_within given number (equation x y) gave) in
        let step = slice_get-there steps number inside in
        gives_sound (take number given)
        (λ earlier a b before. given_below bound earlier a b (let below = slice_get-take_below number given earlier (equation a b) before in omega arith) (slice_get-take number given earlier (equation a b) before))
        clause literals untrue step.0 x y (all.each number step.0 (equation x y) step.1 gave)

    pub given_sound : (number : ℕ) (x y : TermId) → Gave given number x y → Equal d i terms x y
    given_sound number x y gave = given_below (suc number) number x y (omega arith) gave
