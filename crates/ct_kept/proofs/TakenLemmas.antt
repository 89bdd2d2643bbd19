-- What a store takes: the lemmas of the first lines, as many as are taken.
use Rattle.std.proofs.Common.{◌≡◌, ℕ, zero, suc, ◌+◌, ◌≤◌, ◌<◌, ◌⊎◌, List, [], ◌∷◌, ◌++◌, length, map, take, drop, get_or, Some, slice_get, All, refl, sym, ap, subst, ◌∙◌, inl, inr, arith, length-append}
use Rattle.std.specs.List.{AllZip, AllByRecursion, flat_map}
use Rattle.std.proofs.lemmas.List.{take-append-drop, take_all, take_more, append-nil, append_assoc, map-append}
use Rattle.std.proofs.lemmas.Grind.{flat_map-append}
use Rattle.std.proofs.lemmas.List.Elements.{All-from_recursion, recursion_from_All, All-append, Contains-append_left, Contains-append_right}
use Rattle.ct_sorts.specs.Declarations.{Declarations}
use Rattle.ct_sorts.specs.Grown.{Begins}
use Rattle.ct_terms.specs.declared.ids.TermId.{TermId}
use Rattle.ct_terms.specs.Terms.{Terms, AreOrdered}
use Rattle.ct_terms.specs.CoreTree.{CoreTree, term_at}
use Rattle.ct_closure.specs.ClosedTable.{terms_at}
use Rattle.ct_restriction.specs.Restricted.{IsSubtermOfOne}
use Rattle.ct_restriction.specs.Renamed.{number_in}
use Rattle.ct_restriction.specs.Renumbered.{IsEqualTerm, HasNoRoom, Numbers, IsNumber, IsKnown}
use Rattle.ct_terms.specs.declared.ids.Lit.{Lit}
use Rattle.ct_log.specs.declared.rules.EqStep.{EqStep}
use Rattle.ct_log.specs.declared.rules.Close.{Close}
use Rattle.ct_log.specs.declared.line.Line.{Line}
use Rattle.ct_log.specs.declared.line.Step.{Step}
use Rattle.ct_log.specs.declared.line.Step.TheVariants as step
use Rattle.ct_kept.specs.declared.lemma.Lemma.{Lemma}
use Rattle.ct_kept.specs.Lemmas.{renamed_lemma, lemma_terms, IsMoved, IsAcceptedLemma, lemmas_of_step, theory_lemmas}
use Rattle.ct_kept.specs.Kept.{Stored, IsOver, TakesAll, IsNextWithoutRoom, Takes, most_lemmas}
use Rattle.ct_kept.specs.Taken.{AreKnownLemmas, PushesLemmas, IsWithoutRoom, TakesFirst}
use Rattle.ct_lemmas.proofs.Lists.{slice_get-append_left}
use Rattle.ct_lemmas.proofs.Pairs.{AllZip-one_length, AllZip-weaker}
use Rattle.ct_terms.proofs.CoreTreeLemmas.{term_at-longer}
use Rattle.ct_kept.proofs.TermLemmas.{each_left, each_right, each_both, lemma_has}
use Rattle.ct_kept.proofs.AcceptedLemmas.{accepted_over}
use Rattle.ct_kept.proofs.MovedLemmas.{moved_by, number_is}

-- the lemmas of lines that follow others
pub lemmas_append : (xs ys : List Line) → theory_lemmas (xs ++ ys) ≡ theory_lemmas xs ++ theory_lemmas ys
lemmas_append xs ys = flat_map-append (λ line. lemmas_of_step line.clause line.step) xs ys

pub lemmas_split : (n : ℕ) (lines : List Line) → theory_lemmas lines ≡ theory_lemmas (take n lines) ++ theory_lemmas (drop n lines)
lemmas_split n lines = ap theory_lemmas (sym (take-append-drop n lines)) ∙ lemmas_append (take n lines) (drop n lines)

-- the first of a list that is put together
pub take_first : {X : Type 0} (xs ys : List X) → take (length xs) (xs ++ ys) ≡ xs
take_first [] ys = refl
take_first (x ∷ xs) ys = ap (λ zs. x ∷ zs) (take_first xs ys)

-- one line more
module _ (lines : List Line) (i : ℕ) (d : Line) (within : i < length lines) where
  abbrev line : Line
  line = get_or lines i d

  abbrev of_line : List Lemma
  of_line = lemmas_of_step line.clause line.step

  abbrev so_far : List Lemma
  so_far = theory_lemmas (take i lines)

  lemmas_more : theory_lemmas (take (i + 1) lines) ≡ so_far ++ of_line
  lemmas_more =
      ap theory_lemmas (take_more lines i d within)
      ∙ (lemmas_append (take i lines) (line ∷ []) ∙ ap (λ (ls : List Lemma). so_far ++ ls) (append-nil of_line))

  -- they are as many more
  pub counted_more : length (theory_lemmas (take (i + 1) lines)) ≡ length so_far + length of_line
  counted_more = ap length lemmas_more ∙ length-append so_far of_line

  -- their terms come after those of the others
  pub roots_more : (before after : List TermId) → before ≡ flat_map lemma_terms so_far → after ≡ before ++ flat_map lemma_terms of_line → after ≡ flat_map lemma_terms (theory_lemmas (take (i + 1) lines))
  roots_more before after was is =
      is ∙ (ap (λ (ts : List TermId). ts ++ flat_map lemma_terms of_line) was
      ∙ (sym (flat_map-append lemma_terms so_far of_line) ∙ sym (ap (flat_map lemma_terms) lemmas_more)))

  module _ (n : Numbers) where
    abbrev over_numbers : List Lemma → List Lemma
    over_numbers ls = map (renamed_lemma (number_in n.numbers)) ls

    abbrev AreAllKnown : List Lemma → Type 0
    AreAllKnown ls = AllByRecursion (λ lemma. All (IsKnown n) (lemma_terms lemma)) ls

    -- they are known where those of the line are
    pub known_more : AreKnownLemmas n so_far → AreKnownLemmas n of_line → AreKnownLemmas n (theory_lemmas (take (i + 1) lines))
    known_more before here =
        subst (AreKnownLemmas n) (sym lemmas_more) (All-append (λ lemma. All (IsKnown n) (lemma_terms lemma)) so_far of_line before here)

    -- and are put at the end
    pub pushed_more : (old before after : List Lemma) → before ≡ old ++ over_numbers so_far → after ≡ before ++ over_numbers of_line → after ≡ old ++ over_numbers (theory_lemmas (take (i + 1) lines))
    pushed_more old before after was is =
        is ∙ (ap (λ (ls : List Lemma). ls ++ over_numbers of_line) was
        ∙ (append_assoc old (over_numbers so_far) (over_numbers of_line)
        ∙ ap (λ (ls : List Lemma). old ++ ls) (sym (map-append (renamed_lemma (number_in n.numbers)) so_far of_line) ∙ sym (ap over_numbers lemmas_more))))

    -- where they are not known the work stops before them
    pub pushes_some : (old before after : List Lemma) → AreKnownLemmas n so_far → before ≡ old ++ over_numbers so_far → (AreKnownLemmas n of_line → ⊥) × (after ≡ before) → PushesLemmas n lines old after
    pushes_some old before after known was here = record {
      done = i;
      within = omega (arith, within);
      known = known;
      pushed = here.1 ∙ was;
      stops = inr (λ all. here.0 (All-from_recursion (λ lemma. All (IsKnown n) (lemma_terms lemma)) of_line (last_part (recursion_from_All (λ lemma. All (IsKnown n) (lemma_terms lemma)) (theory_lemmas lines) all))));
    }
      where
        last_part : AreAllKnown (theory_lemmas lines) → AreAllKnown of_line
        last_part all =
            each_right (λ lemma. All (IsKnown n) (lemma_terms lemma)) so_far of_line
            (subst AreAllKnown lemmas_more
            (each_left (λ lemma. All (IsKnown n) (lemma_terms lemma)) (theory_lemmas (take (i + 1) lines)) (theory_lemmas (drop (i + 1) lines)) (subst AreAllKnown (lemmas_split (i + 1) lines) all)))

-- the one lemma of a line of the theory, over the numbers of its terms or with one that is not known
module _ (n : Numbers) (clause : List Lit) (s : Step) (steps : List EqStep) (close : Close) (is : s ≡ step.Theory steps close)
    (given : List Lit) (given_steps : List EqStep) (same : given ≡ clause) (same_steps : given_steps ≡ steps) where
  abbrev one : Lemma
  one = record { clause = clause; steps = steps; close = close }

  abbrev given_one : Lemma
  given_one = record { clause = given; steps = given_steps; close = close }

  same_one : given_one ≡ one
  same_one =
      ap (λ (c : List Lit). record { clause = c; steps = given_steps; close = close }) same
      ∙ ap (λ (ss : List EqStep). record { clause = clause; steps = ss; close = close }) same_steps

  lemmas_are : lemmas_of_step clause s ≡ one ∷ []
  lemmas_are = ap (lemmas_of_step clause) is

  pub pushed_one : (lemma : Lemma) (old new : List Lemma) → All (IsKnown n) (lemma_terms given_one) × (lemma ≡ renamed_lemma (number_in n.numbers) given_one) → new ≡ old ++ lemma ∷ [] →
      AreKnownLemmas n (lemmas_of_step clause s) × (new ≡ old ++ map (renamed_lemma (number_in n.numbers)) (lemmas_of_step clause s))
  pushed_one lemma old new moved pushed =
      let known : All (IsKnown n) (lemma_terms one) = subst (λ (l : Lemma). All (IsKnown n) (lemma_terms l)) same_one moved.0 in
      let is_one : lemma ≡ renamed_lemma (number_in n.numbers) one = moved.1 ∙ ap (renamed_lemma (number_in n.numbers)) same_one in (
        subst (AreKnownLemmas n) (sym lemmas_are) (All-from_recursion (λ lemma. All (IsKnown n) (lemma_terms lemma)) (one ∷ []) (known, tt)),
        pushed ∙ (ap (λ (l : Lemma). old ++ l ∷ []) is_one ∙ ap (λ (ls : List Lemma). old ++ map (renamed_lemma (number_in n.numbers)) ls) (sym lemmas_are)),
      )

  pub unknown_one : (All (IsKnown n) (lemma_terms given_one) → ⊥) → AreKnownLemmas n (lemmas_of_step clause s) → ⊥
  unknown_one unknown all =
      let all_one = recursion_from_All (λ lemma. All (IsKnown n) (lemma_terms lemma)) (one ∷ []) (subst (AreKnownLemmas n) lemmas_are all) in
      unknown (subst (λ (l : Lemma). All (IsKnown n) (lemma_terms l)) (sym same_one) all_one.0)

-- all lines
pub pushes_all : (lines : List Line) (i : ℕ) (n : Numbers) (old now : List Lemma) → length lines ≤ i → AreKnownLemmas n (theory_lemmas (take i lines)) →
    now ≡ old ++ map (renamed_lemma (number_in n.numbers)) (theory_lemmas (take i lines)) → PushesLemmas n lines old now
pushes_all lines i n old now past known pushed =
    let same : take i lines ≡ take (length lines) lines = take_all i lines past ∙ sym (take_all (length lines) lines (omega arith)) in
    record {
      done = length lines;
      within = omega arith;
      known = subst (λ (ls : List Line). AreKnownLemmas n (theory_lemmas ls)) same known;
      pushed = pushed ∙ ap (λ (ls : List Line). old ++ map (renamed_lemma (number_in n.numbers)) (theory_lemmas ls)) same;
      stops = inl refl;
    }

-- the roots of the lemmas
pub roots_known : (n : Numbers) (lemmas : List Lemma) → AllByRecursion (IsKnown n) (flat_map lemma_terms lemmas) → AllByRecursion (λ lemma. All (IsKnown n) (lemma_terms lemma)) lemmas
roots_known n [] all = tt
roots_known n (lemma ∷ lemmas) all =
    (All-from_recursion (IsKnown n) (lemma_terms lemma) (each_left (IsKnown n) (lemma_terms lemma) (flat_map lemma_terms lemmas) all), roots_known n lemmas (each_right (IsKnown n) (lemma_terms lemma) (flat_map lemma_terms lemmas) all))

pub roots_over : (d : Declarations) (terms : Terms) (lemmas : List Lemma) → AllByRecursion (IsAcceptedLemma d terms) lemmas → AllByRecursion (λ t. t.0 < length terms) (flat_map lemma_terms lemmas)
roots_over d terms [] all = tt
roots_over d terms (lemma ∷ lemmas) all =
    each_both (λ t. t.0 < length terms) (lemma_terms lemma) (flat_map lemma_terms lemmas)
    (recursion_from_All (λ t. t.0 < length terms) (lemma_terms lemma) (accepted_over d terms lemma all.0)) (roots_over d terms lemmas all.1)

-- the lemmas of fewer lines are accepted too
pub accepted_first : (d : Declarations) (terms : Terms) (k : ℕ) (lines : List Line) → All (IsAcceptedLemma d terms) (theory_lemmas lines) → AllByRecursion (IsAcceptedLemma d terms) (theory_lemmas (take k lines))
accepted_first d terms k lines all =
    each_left (IsAcceptedLemma d terms) (theory_lemmas (take k lines)) (theory_lemmas (drop k lines))
    (subst (AllByRecursion (IsAcceptedLemma d terms)) (lemmas_split k lines) (recursion_from_All (IsAcceptedLemma d terms) (theory_lemmas lines) all))

-- the roots of accepted lemmas stand in the table of the lines
pub roots_within : (d : Declarations) (terms : Terms) (lines : List Line) (roots : List TermId) → All (IsAcceptedLemma d terms) (theory_lemmas lines) → roots ≡ flat_map lemma_terms (theory_lemmas lines) → All (λ t. t.0 < length terms) roots
roots_within d terms lines roots accepted are =
    subst (All (λ t. t.0 < length terms)) (sym are)
    (All-from_recursion (λ t. t.0 < length terms) (flat_map lemma_terms (theory_lemmas lines))
    (roots_over d terms (theory_lemmas lines) (recursion_from_All (IsAcceptedLemma d terms) (theory_lemmas lines) accepted)))

-- the lemmas of the first lines, and of those after them, are accepted too
pub first_accepted : (d : Declarations) (terms : Terms) (k : ℕ) (lines : List Line) → All (IsAcceptedLemma d terms) (theory_lemmas lines) → All (IsAcceptedLemma d terms) (theory_lemmas (take k lines))
first_accepted d terms k lines all = All-from_recursion (IsAcceptedLemma d terms) (theory_lemmas (take k lines)) (accepted_first d terms k lines all)

pub later_accepted : (d : Declarations) (terms : Terms) (k : ℕ) (lines : List Line) → All (IsAcceptedLemma d terms) (theory_lemmas lines) → All (IsAcceptedLemma d terms) (theory_lemmas (drop k lines))
later_accepted d terms k lines all =
    All-from_recursion (IsAcceptedLemma d terms) (theory_lemmas (drop k lines))
    (each_right (IsAcceptedLemma d terms) (theory_lemmas (take k lines)) (theory_lemmas (drop k lines))
    (subst (AllByRecursion (IsAcceptedLemma d terms)) (lemmas_split k lines) (recursion_from_All (IsAcceptedLemma d terms) (theory_lemmas lines) all)))

-- lemmas over numbers of equal terms
module _ (from to : Terms) (n : Numbers) (equal : (t u : TermId) → IsNumber n t u → IsEqualTerm from to t u) where
  pub all_moved : (lemmas : List Lemma) → AllByRecursion (λ lemma. All (IsKnown n) (lemma_terms lemma)) lemmas → AllZip (IsMoved from to) lemmas (map (renamed_lemma (number_in n.numbers)) lemmas)
  all_moved [] known = tt
  all_moved (lemma ∷ lemmas) known = (moved_by from to n lemma equal known.0, all_moved lemmas known.1)

  pub one_over : (lemma : Lemma) → All (IsKnown n) (lemma_terms lemma) → IsOver to (renamed_lemma (number_in n.numbers) lemma)
  one_over lemma known =
      All-from_recursion (λ t. t.0 < length to) (lemma_terms (renamed_lemma (number_in n.numbers) lemma))
      (lemma_has (IsKnown n) (λ t. t.0 < length to) (number_in n.numbers)
      (λ t k. subst (λ (u : TermId). u.0 < length to) (sym (number_is n t k.0 k.1)) (let e = equal t k.0 k.1 in e.within)) lemma
      (recursion_from_All (IsKnown n) (lemma_terms lemma) known))

  pub all_over : (lemmas : List Lemma) → AllByRecursion (λ lemma. All (IsKnown n) (lemma_terms lemma)) lemmas → AllByRecursion (IsOver to) (map (renamed_lemma (number_in n.numbers)) lemmas)
  all_over [] known = tt
  all_over (lemma ∷ lemmas) known = (one_over lemma known.0, all_over lemmas known.1)

-- what stands in a table stands in a longer one
pub over_longer : (table longer : Terms) → length table ≤ length longer → (lemmas : List Lemma) → AllByRecursion (IsOver table) lemmas → AllByRecursion (IsOver longer) lemmas
over_longer table longer long [] all = tt
over_longer table longer long (lemma ∷ lemmas) all =
    (All-from_recursion (λ t. t.0 < length longer) (lemma_terms lemma) (further (lemma_terms lemma) (recursion_from_All (λ t. t.0 < length table) (lemma_terms lemma) all.0)), over_longer table longer long lemmas all.1)
  where
    further : (ts : List TermId) → AllByRecursion (λ t. t.0 < length table) ts → AllByRecursion (λ t. t.0 < length longer) ts
    further [] low = tt
    further (t ∷ ts) low = (omega (arith, low.0, long), further ts low.1)

-- what stands after others
slice_get-after : {X : Type 0} (xs : List X) (y : X) (ys : List X) → slice_get (xs ++ y ∷ ys) (length xs) ≡ Some y
slice_get-after [] y ys = refl
slice_get-after (x ∷ xs) y ys = slice_get-after xs y ys

-- so many items and so many more
take-plus : {X : Type 0} (n m : ℕ) (xs : List X) → take (n + m) xs ≡ take n xs ++ take m (drop n xs)
take-plus zero m xs = let same : zero + m ≡ m = omega arith in ap (λ (k : ℕ). take k xs) same
take-plus (suc n) m [] = take_all (suc n + m) [] (omega arith) ∙ sym (take_all m [] (omega arith))
take-plus {X} (suc n) m (x ∷ xs) = let same : suc n + m ≡ suc (n + m) = omega arith in ap (λ (k : ℕ). take k (x ∷ xs)) same ∙ ap (λ (ys : List X). x ∷ ys) (take-plus n m xs)

-- a line has at most one lemma
one_at_most : (clause : List Lit) (s : Step) (m : Lemma) (ms : List Lemma) → lemmas_of_step clause s ≡ m ∷ ms → ms ≡ []
one_at_most clause (step.Theory steps close) m ms has = sym (ap (drop 1) has)
one_at_most clause (step.Input i) m ms has = absurd (omega (arith, ap length has))
one_at_most clause (step.Gate a b c) m ms has = absurd (omega (arith, ap length has))
one_at_most clause (step.Exhaust a) m ms has = absurd (omega (arith, ap length has))
one_at_most clause (step.Learn a) m ms has = absurd (omega (arith, ap length has))

-- the lemmas of all lines, with their terms alone
module _ (terms : Terms) (lines : List Line) (old new : Terms) (before after : List Lemma) (n : Numbers) (roots : List TermId) (are : roots ≡ flat_map lemma_terms (theory_lemmas lines))
    (grown : Begins old new) (equal : (t u : TermId) → IsNumber n t u → IsEqualTerm terms new t u)
    (only : (u : TermId) → u.0 < length new → (u.0 < length old) ⊎ IsSubtermOfOne (terms_at terms roots) (term_at new u))
    (knows : AllByRecursion (IsKnown n) roots) (pushes : PushesLemmas n lines before after) where
  abbrev moved_lemmas : List Lemma
  moved_lemmas = map (renamed_lemma (number_in n.numbers)) (theory_lemmas lines)

  known : AllByRecursion (λ lemma. All (IsKnown n) (lemma_terms lemma)) (theory_lemmas lines)
  known = roots_known n (theory_lemmas lines) (subst (AllByRecursion (IsKnown n)) are knows)

  all_lines : take pushes.done lines ≡ lines
  all_lines = elim pushes.stops [
    | inl whole ↦ take_all pushes.done lines (omega (arith, whole))
    | inr unknown ↦ absurd (unknown (All-from_recursion (λ lemma. All (IsKnown n) (lemma_terms lemma)) (theory_lemmas lines) known))
  ]

  pushed : after ≡ before ++ moved_lemmas
  pushed = pushes.pushed ∙ ap (λ (ls : List Line). before ++ map (renamed_lemma (number_in n.numbers)) (theory_lemmas ls)) all_lines

  pub taken_all : TakesAll (record { table = old; lemmas = before }) terms (theory_lemmas lines) (record { table = new; lemmas = after })
  taken_all = record {
    taken = moved_lemmas;
    grown = grown;
    only = λ u within. subst (λ (ts : List TermId). (u.0 < length old) ⊎ IsSubtermOfOne (terms_at terms ts) (term_at new u)) are (only u within);
    after = pushed;
    moved = all_moved terms new n equal (theory_lemmas lines) known;
  }

  pub taken_over : length old ≤ length new → All (IsOver old) before → All (IsOver new) after
  taken_over longer over =
      subst (All (IsOver new)) (sym pushed)
      (All-append (IsOver new) before moved_lemmas
      (All-from_recursion (IsOver new) before (over_longer old new longer before (recursion_from_All (IsOver old) before over)))
      (All-from_recursion (IsOver new) moved_lemmas (all_over terms new n equal (theory_lemmas lines) known)))

-- no room: nothing has changed
pub without_room : (terms : Terms) (lines : List Line) (old full : Terms) (lemmas : List Lemma) (n : Numbers) (roots : List TermId) (before : ℕ) (new : Terms) → roots ≡ flat_map lemma_terms (theory_lemmas lines) →
    Begins old full → before ≡ length old → new ≡ take before full → All (IsKnown n) roots ⊎ HasNoRoom old terms roots → (AllByRecursion (IsKnown n) roots → ⊥) →
    IsWithoutRoom (record { table = old; lemmas = lemmas }) terms (theory_lemmas lines) (record { table = new; lemmas = lemmas })
without_room terms lines old full lemmas n roots before new are grown long cut all unknown = record {
  some = λ none. unknown (subst (AllByRecursion (IsKnown n)) (sym (are ∙ ap (flat_map lemma_terms) none)) tt);
  no_room = elim all [
    | inl known ↦ absurd (unknown (recursion_from_All (IsKnown n) roots known))
    | inr no_room ↦ subst (HasNoRoom old terms) are no_room
  ];
  same = ap (λ (ts : Terms). record { table = ts; lemmas = lemmas }) (cut ∙ (ap (λ (k : ℕ). take k full) long ∙ (ap (take (length old)) grown.1 ∙ take_first old grown.0)));
}

-- no lemmas are taken
pub taken_none : (terms : Terms) (store : Stored) → TakesAll store terms [] store
taken_none terms store = record {
  taken = [];
  grown = ([], sym (append-nil store.table));
  only = λ u within. inl within;
  after = sym (append-nil store.lemmas);
  moved = tt;
}

-- lemmas after others
module _ (terms : Terms) (xs ys : List Lemma) (a b c : Stored) (f : TakesAll a terms xs b) (g : TakesAll b terms ys c) (ordered : AreOrdered c.table) where
  longer : length b.table ≤ length c.table
  longer = let grown = g.grown in omega (arith, ap length grown.1, length-append b.table grown.0)

  stays : (u : TermId) → u.0 < length b.table → term_at c.table u ≡ term_at b.table u
  stays u within = let grown = g.grown in ap (λ (ts : Terms). term_at ts u) grown.1 ∙ term_at-longer b.table grown.0 u (subst AreOrdered grown.1 ordered) within

  abbrev roots : List Lemma → List CoreTree
  roots ls = terms_at terms (flat_map lemma_terms ls)

  both : roots (xs ++ ys) ≡ roots xs ++ roots ys
  both = ap (map (term_at terms)) (flat_map-append lemma_terms xs ys) ∙ map-append (term_at terms) (flat_map lemma_terms xs) (flat_map lemma_terms ys)

  moved_further : (ls ms : List Lemma) → AllZip (IsMoved terms b.table) ls ms → AllZip (IsMoved terms c.table) ls ms
  moved_further ls ms all = AllZip-weaker (IsMoved terms b.table) (IsMoved terms c.table) (λ l m h. record {
    number = h.number;
    equal = All-from_recursion (λ t. IsEqualTerm terms c.table t (h.number t)) (lemma_terms l)
        (each h.number (lemma_terms l) (recursion_from_All (λ t. IsEqualTerm terms b.table t (h.number t)) (lemma_terms l) h.equal));
    exchanged = h.exchanged;
  }) ls ms all
    where
      each : (number : TermId → TermId) (ts : List TermId) → AllByRecursion (λ t. IsEqualTerm terms b.table t (number t)) ts → AllByRecursion (λ t. IsEqualTerm terms c.table t (number t)) ts
      each number [] equal = tt
      each number (t ∷ ts) equal = (
        let e = equal.0 in record { there = e.there; within = let within = e.within in omega (arith, within, longer); tree = stays (number t) e.within ∙ e.tree },
        each number ts equal.1,
      )

  zip_append : (P : Lemma → Lemma → Type 0) (ls ms ls' ms' : List Lemma) → AllZip P ls ms → AllZip P ls' ms' → AllZip P (ls ++ ls') (ms ++ ms')
  zip_append P [] [] ls' ms' first second = second
  zip_append P [] (m ∷ ms) ls' ms' first second = absurd first
  zip_append P (l ∷ ls) [] ls' ms' first second = absurd first
  zip_append P (l ∷ ls) (m ∷ ms) ls' ms' first second = (first.0, zip_append P ls ms ls' ms' first.1 second)

  pub taken_more : TakesAll a terms (xs ++ ys) c
  taken_more = record {
    taken = f.taken ++ g.taken;
    grown = begins_further a.table b.table c.table f.grown g.grown;
    only = λ u within. elim (g.only u within) [
      | inr later ↦ inr (subst (λ (ts : List CoreTree). IsSubtermOfOne ts (term_at c.table u)) (sym both) (later.0, Contains-append_right (roots xs) (roots ys) later.0 later.1, later.2))
      | inl before ↦ elim (f.only u before) [
        | inl old ↦ inl old
        | inr first ↦ inr (subst (λ (t : CoreTree). IsSubtermOfOne (roots (xs ++ ys)) t) (sym (stays u before))
            (subst (λ (ts : List CoreTree). IsSubtermOfOne ts (term_at b.table u)) (sym both) (first.0, Contains-append_left (roots xs) (roots ys) first.0 first.1, first.2)))
      ]
    ];
    after = g.after ∙ (ap (λ (ls : List Lemma). ls ++ g.taken) f.after ∙ append_assoc a.lemmas f.taken g.taken);
    moved = zip_append (IsMoved terms c.table) xs f.taken ys g.taken (moved_further xs f.taken f.moved) g.moved;
  }
    where
      begins_further : (x y z : Terms) → Begins x y → Begins y z → Begins x z
      begins_further x y z first second = (first.0 ++ second.0, second.1 ∙ (ap (λ (ts : Terms). ts ++ second.0) first.1 ∙ append_assoc x first.0 second.0))

-- the first lines and those after them
module _ (lines : List Line) (done count : ℕ) where
  abbrev rest : List Line
  rest = drop done lines

  pub lines_more : theory_lemmas (take (done + count) lines) ≡ theory_lemmas (take done lines) ++ theory_lemmas (take count rest)
  lines_more = ap theory_lemmas (take-plus done count lines) ∙ lemmas_append (take done lines) (take count rest)

  -- the lemma of the next line stands after those of the first ones
  module _ (terms table : Terms) (some : theory_lemmas (take 1 rest) ≡ [] → ⊥) (no_room : HasNoRoom table terms (flat_map lemma_terms (theory_lemmas (take 1 rest)))) where
    pub next_without_room : IsNextWithoutRoom table terms (theory_lemmas lines) (length (theory_lemmas (take done lines)))
    next_without_room = by rest refl
      where
        by : (ls : List Line) → rest ≡ ls → IsNextWithoutRoom table terms (theory_lemmas lines) (length (theory_lemmas (take done lines)))
        by [] is = absurd (some (ap (λ (ls : List Line). theory_lemmas (take 1 ls)) is))
        by (l ∷ ls) is = step_of (lemmas_of_step l.clause l.step) refl
          where
            ones : theory_lemmas (take 1 rest) ≡ lemmas_of_step l.clause l.step
            ones = ap (λ (ls : List Line). theory_lemmas (take 1 ls)) is ∙ append-nil (lemmas_of_step l.clause l.step)

            step_of : (ms : List Lemma) → lemmas_of_step l.clause l.step ≡ ms → IsNextWithoutRoom table terms (theory_lemmas lines) (length (theory_lemmas (take done lines)))
            step_of [] none = absurd (some (ones ∙ none))
            step_of (m ∷ ms) has = (
              m,
              ap (λ (ns : List Lemma). slice_get ns (length (theory_lemmas (take done lines)))) whole ∙ slice_get-after (theory_lemmas (take done lines)) m (ms ++ theory_lemmas ls),
              subst (HasNoRoom table terms) (ap (flat_map lemma_terms) (ones ∙ has ∙ ap (λ (ns : List Lemma). m ∷ ns) alone) ∙ append-nil (lemma_terms m)) no_room,
            )
              where
                alone : ms ≡ []
                alone = one_at_most l.clause l.step m ms has

                whole : theory_lemmas lines ≡ theory_lemmas (take done lines) ++ m ∷ (ms ++ theory_lemmas ls)
                whole = lemmas_split done lines ∙ ap (λ (ns : List Lemma). theory_lemmas (take done lines) ++ ns) (ap theory_lemmas is ∙ ap (λ (ns : List Lemma). ns ++ theory_lemmas ls) has)

-- up to 4,096
module _ (terms : Terms) (lines : List Line) (count : ℕ) (old new : Stored) (room : ℕ)
    (most : room + length old.lemmas ≡ most_lemmas) (within : count ≤ length lines)
    (few : length (theory_lemmas (take count lines)) ≤ room)
    (end : (count ≡ length lines) ⊎ (length (theory_lemmas (take count lines)) ≡ room))
    (first : TakesFirst old terms (take count lines) new) where
  abbrev taken : List Lemma
  taken = theory_lemmas (take first.done (take count lines))

  split : theory_lemmas lines ≡ taken ++ (theory_lemmas (drop first.done (take count lines)) ++ theory_lemmas (drop count lines))
  split =
      lemmas_split count lines
      ∙ (ap (λ (ls : List Lemma). ls ++ theory_lemmas (drop count lines)) (lemmas_split first.done (take count lines))
      ∙ append_assoc taken (theory_lemmas (drop first.done (take count lines))) (theory_lemmas (drop count lines)))

  long : length new.lemmas ≡ length old.lemmas + length taken
  long = let all = first.takes in ap length all.after ∙ (length-append old.lemmas all.taken ∙ ap (λ (k : ℕ). length old.lemmas + k) (sym (AllZip-one_length (IsMoved terms new.table) taken all.taken all.moved)))

  pub takes : Takes old terms (theory_lemmas lines) new
  takes = record {
    count = length taken;
    takes = subst (λ (ls : List Lemma). TakesAll old terms ls new)
        (sym (ap (take (length taken)) split ∙ take_first taken (theory_lemmas (drop first.done (take count lines)) ++ theory_lemmas (drop count lines)))) first.takes;
    stops = elim first.stops [
      | inl whole ↦
          let same : take first.done (take count lines) ≡ take count lines = take_all first.done (take count lines) whole in
          elim end [
            | inl last ↦
                let lines_same : take count lines ≡ lines = take_all count lines (omega (arith, last)) in
                inl (omega (arith, ap (λ (ls : List Line). length (theory_lemmas ls)) (same ∙ lines_same)))
            | inr full ↦ inr (inl (omega (arith, most, full, ap (λ (ls : List Line). length (theory_lemmas ls)) same, long)))
          ]
      | inr next ↦ inr (inr (
        next.0,
        ap (λ (ls : List Lemma). slice_get ls (length taken)) (lemmas_split count lines)
            ∙ slice_get-append_left (theory_lemmas (take count lines)) (theory_lemmas (drop count lines)) (length taken) next.0 next.1,
        next.2,
      ))
    ];
  }

  pub taken_few : length new.lemmas ≤ most_lemmas
  taken_few =
      let part = ap length (lemmas_split first.done (take count lines)) in
      omega (arith, most, few, part, length-append taken (theory_lemmas (drop first.done (take count lines))), long)

-- what was cut back is as it was
pub cut_back : (old : Stored) (table : Terms) (lemmas : List Lemma) (m n : ℕ) → Begins old.table table → Begins old.lemmas lemmas → m ≡ length old.table → n ≡ length old.lemmas →
    record { table = take m table; lemmas = take n lemmas } ≡ old
cut_back old table lemmas m n more others long count =
    ap (λ (ts : Terms). record { table = ts; lemmas = take n lemmas }) (first old.table table m more long) ∙ ap (λ (ls : List Lemma). record { table = old.table; lemmas = ls }) (first old.lemmas lemmas n others count)
  where
    first : {X : Type 0} (xs ys : List X) (k : ℕ) → Begins xs ys → k ≡ length xs → take k ys ≡ xs
    first xs ys k begins is = ap (λ (i : ℕ). take i ys) is ∙ ap (take (length xs)) begins.1 ∙ take_first xs begins.0
