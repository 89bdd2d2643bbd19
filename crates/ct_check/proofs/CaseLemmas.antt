-- The cases of a `match` one after the other: those so far, the next one, and all.
use Rattle.std.proofs.Common.{◌≡◌, Bool, true, false, List, [], ◌∷◌, ◌++◌, Option, Some, None, Ok, Err, refl, sym, ◌∙◌, ap}
use Rattle.ct_sexpr.specs.declared.sexpr.Sexpr.{Sexpr}
use Rattle.ct_sexpr.specs.Expression.{Expression, Expressions}
use Rattle.ct_sexpr.specs.View.{expression_of, expressions_of}
use Rattle.ct_sorts.specs.declared.ids.SortId.{SortId}
use Rattle.ct_sorts.specs.Consistent.{IsConsistent}
use Rattle.ct_sorts.specs.Declarations.{Declarations, IsSort}
use Rattle.ct_formulas.specs.declared.tree.Pattern.{Pattern}
use Rattle.ct_formulas.specs.Formula.{Formula, Cases, with_case, bind}
use Rattle.ct_formulas.specs.TreeFormula.{cases_of}
use Rattle.ct_names.specs.Needs.{Grows, Reaches, as_they_are}
use Rattle.ct_names.specs.Outcome.{Outcome, Elaborated, Halt, Sorted, and_then, unless_halted, step, refused}
use Rattle.ct_names.specs.Refusals.{wrong_sort, out_of_scope}
use Rattle.ct_names.specs.Patterns.{Binding, pattern}
use Rattle.ct_names.specs.Variables.{Variable, ScopeIn}
use Rattle.ct_names.specs.Parts.{with_part, no_parts}
use Rattle.ct_names.specs.Elaboration.{Checked, elaborated, part_of, parts_of, no_more, goes_with, with_case_before, checked_cases}
use Rattle.ct_names.proofs.LastingLemmas.{scope_declared, sort_declared}
use Rattle.ct_names.proofs.NeedLemmas.{reaches_grows, reaches_first, reaches_same}
use Rattle.ct_names.proofs.StayLemmas.{stays_step}
use Rattle.ct_names.proofs.StayPatterns.{IsBound, pattern_stays}
use Rattle.ct_names.proofs.StayTerms.{cases_stay, all_last}
use Rattle.ct_check.proofs.BindingLemmas.{IsPair, joined-append}
use Rattle.ct_check.proofs.ItemLemmas.{cases_joined, both, cases_after, cases_join}
use Rattle.ct_check.proofs.OtherForms.{is_pair, case-other}
use Rattle.ct_check.proofs.StepLemmas.{Stands, next_is, next_reaches}

-- one case more
abbrev pub with_last : Checked → Pattern → Sorted → Checked
with_last first p u = both first (with_case_before p u.0 (no_more (Some u.1)))

-- in a list
cases_push : (cs : List (Pattern × Formula)) (p : Pattern) (t : Formula) → cases_joined (cases_of cs) (cases_of ((p, t) ∷ [])) ≡ cases_of (cs ++ (p, t) ∷ [])
cases_push [] p t = refl
cases_push (c ∷ cs) p t = ap (λ (rest : Cases). with_case c.0 c.1 rest) (cases_push cs p t)

checked_push : (cs : List (Pattern × Formula)) (ps : List Pattern) (sort : Option SortId) (p : Pattern) (u : Sorted)
    → with_last (record { cases = cases_of cs; patterns = ps; sort = sort }) p u ≡ record { cases = cases_of (cs ++ (p, u.0) ∷ []); patterns = ps ++ p ∷ []; sort = Some u.1 }
checked_push cs ps sort p u = ap (λ (k : Cases). (let x : Checked = record { cases = k; patterns = ps ++ p ∷ []; sort = Some u.1 } in x)) (cases_push cs p u.0)

pub checked_after : (cs ds : List (Pattern × Formula)) (ps qs : List Pattern) (sort last : Option SortId) (p : Pattern) (u : Sorted) → ds ≡ cs ++ (p, u.0) ∷ [] → qs ≡ ps ++ p ∷ [] → last ≡ Some u.1
    → with_last (record { cases = cases_of cs; patterns = ps; sort = sort }) p u ≡ record { cases = cases_of ds; patterns = qs; sort = last }
checked_after cs ds ps qs sort last p u e f g =
    checked_push cs ps sort p u
    ∙ ap (λ (ks : List (Pattern × Formula)). (let x : Checked = record { cases = cases_of ks; patterns = ps ++ p ∷ []; sort = Some u.1 } in x)) (sym e)
    ∙ ap (λ (rs : List Pattern). (let x : Checked = record { cases = cases_of ds; patterns = rs; sort = Some u.1 } in x)) (sym f)
    ∙ ap (λ (s : Option SortId). (let x : Checked = record { cases = cases_of ds; patterns = qs; sort = s } in x)) (sym g)

module _ (scope : List Variable) (side : SortId) where
  -- these cases
  abbrev pub so_far : List Sexpr → Declarations → Elaborated Checked
  so_far xs n = checked_cases n scope side None (parts_of n (expressions_of xs))

  -- these and others
  and_more : (xs ys : List Sexpr) (d : Declarations) → so_far (xs ++ ys) d ≡ and_then (so_far xs d) (cases_after d scope side (expressions_of ys))
  and_more xs ys d = ap (λ (es : Expressions). checked_cases d scope side None (parts_of d es)) (joined-append xs ys) ∙ cases_join d scope side None (expressions_of xs) (expressions_of ys)

  -- where these stop, so do all
  pub all_stop : (xs ys all : List Sexpr) → all ≡ xs ++ ys → (d : Declarations) (h : Halt) → so_far xs d ≡ Err h → so_far all d ≡ Err h
  all_stop xs ys all is d h e = ap (λ zs. so_far zs d) is ∙ and_more xs ys d ∙ ap (λ (o : Elaborated Checked). and_then o (cases_after d scope side (expressions_of ys))) e

  -- the term of the next case, after these, where its pattern is known
  abbrev pub with_body : Checked → Pattern → Sorted → Elaborated Checked
  with_body first p u = unless_halted (goes_with first.sort u.1) wrong_sort (Ok (with_last first p u))

  abbrev pub next_body : Declarations → Sexpr → Checked → Binding → Elaborated Checked
  next_body d t first b = and_then (elaborated d (bind b.1 scope) (expression_of t)) (with_body first b.0)

  -- the next case, after these
  abbrev pub next_case : Declarations → Sexpr → Sexpr → Checked → Elaborated Checked
  next_case d p t first = and_then (step (pattern d side (part_of d (expression_of p)))) (next_body d t first)

  push : (xs : List Sexpr) (k p t : Sexpr) → IsPair k p t → (d : Declarations) → so_far (xs ++ k ∷ []) d ≡ and_then (so_far xs d) (next_case d p t)
  push xs k p t pair d = and_more xs (k ∷ []) d ∙ by (so_far xs d)
    where
      tested : (first : Checked) (b : Pattern) (u : Sorted) (goes : Bool) → and_then (unless_halted goes wrong_sort (and_then (Ok (no_more (Some u.1))) (λ checked. Ok (with_case_before b u.0 checked)))) (λ second. Ok (both first second)) ≡ unless_halted goes wrong_sort (Ok (with_last first b u))
      tested first b u true = refl
      tested first b u false = refl

      bodies : (first : Checked) (b : Pattern) (o : Elaborated Sorted) → and_then (and_then o (λ u. unless_halted (goes_with first.sort u.1) wrong_sort (and_then (Ok (no_more (Some u.1))) (λ checked. Ok (with_case_before b u.0 checked))))) (λ second. Ok (both first second)) ≡ and_then o (with_body first b)
      bodies first b (Err h) = refl
      bodies first b (Ok u) = tested first b u (goes_with first.sort u.1)

      patterns : (first : Checked) (o : Outcome Binding) → and_then (and_then (step o) (λ b. and_then (elaborated d (bind b.1 scope) (expression_of t)) (λ u. unless_halted (goes_with first.sort u.1) wrong_sort (and_then (Ok (no_more (Some u.1))) (λ checked. Ok (with_case_before b.0 u.0 checked)))))) (λ second. Ok (both first second)) ≡ and_then (step o) (next_body d t first)
      patterns first (Err n) = refl
      patterns first (Ok b) = bodies first b.0 (elaborated d (bind b.1 scope) (expression_of t))

      by : (o : Elaborated Checked) → and_then o (cases_after d scope side (expressions_of (k ∷ []))) ≡ and_then o (next_case d p t)
      by (Err h) = refl
      by (Ok first) =
          ap (λ (e : Expression). and_then (checked_cases d scope side first.sort (with_part (part_of d e) no_parts)) (λ second. Ok (both first second))) pair
          ∙ patterns first (pattern d side (part_of d (expression_of p)))

  module _ (first now : Declarations) (c : IsConsistent first) (cn : IsConsistent now) (inside : ScopeIn first scope) (there : IsSort first side) (xs : List Sexpr) (k : Checked) (value : so_far xs now ≡ Ok k) (reaches : Reaches (so_far xs) first now) where
    grown : Grows now first
    grown = reaches_grows (so_far xs) first now reaches

    pub stands : Stands (so_far xs) first now k
    stands = record {
      reaches = reaches;
      stays = λ n grows. (cases_stay n now grows cn scope (scope_declared now first grown c scope inside) side (sort_declared now first grown c side there) None tt (expressions_of xs) (all_last n now grows cn (expressions_of xs)) k value).0;
    }

    -- a case that is no list of two
    pub other_stop : (b : Sexpr) → is_pair (part_of now (expression_of b)) ≡ false → so_far (xs ++ b ∷ []) now ≡ Err (refused out_of_scope)
    other_stop b other =
        and_more xs (b ∷ []) now
        ∙ ap (λ (o : Elaborated Checked). and_then o (cases_after now scope side (expressions_of (b ∷ [])))) value
        ∙ ap (λ (o : Elaborated Checked). and_then o (λ second. Ok (both k second))) (case-other now scope side k.sort (part_of now (expression_of b)) no_parts other)

    module _ (b p t : Sexpr) (pair : IsPair b p t) where
      next_at : (d : Declarations) → Grows d now → so_far (xs ++ b ∷ []) d ≡ next_case d p t k
      next_at d grows = push xs b p t pair d ∙ next_is (so_far xs) (λ n. next_case n p t) first now k stands d grows

      -- its pattern is refused
      pub pattern_stop : (h : Halt) → step (pattern now side (part_of now (expression_of p))) ≡ Err h → so_far (xs ++ b ∷ []) now ≡ Err h
      pattern_stop h e = next_at now (reaches_grows (so_far xs) now now (as_they_are now)) ∙ ap (λ (o : Elaborated Binding). and_then o (next_body now t k)) e

      module _ (binding : Binding) (fits : step (pattern now side (part_of now (expression_of p))) ≡ Ok binding) (later : Declarations) (next : Reaches (λ n. elaborated n (bind binding.1 scope) (expression_of t)) now later) where
        patterns_stand : Stands (λ n. step (pattern n side (part_of n (expression_of p)))) now now binding
        patterns_stand = record {
          reaches = as_they_are now;
          stays = λ n grows. (stays_step (IsBound n now grows cn) (pattern now side (part_of now (expression_of p))) (pattern n side (part_of n (expression_of p))) (pattern_stays n now grows cn side (sort_declared now first grown c side there) (expression_of p)) binding fits).0;
        }

        pub more_reached : Reaches (so_far (xs ++ b ∷ [])) first later
        more_reached =
            reaches_same (λ n. and_then (so_far xs n) (next_case n p t)) (so_far (xs ++ b ∷ [])) first later (λ n _. push xs b p t pair n)
            (next_reaches (so_far xs) (λ n. next_case n p t) first now k stands later
            (next_reaches (λ n. step (pattern n side (part_of n (expression_of p)))) (λ n. next_body n t k) now now binding patterns_stand later
            (reaches_first (λ n. elaborated n (bind binding.1 scope) (expression_of t)) (λ n. with_body k binding.0) now later next)))

        more_is : so_far (xs ++ b ∷ []) later ≡ next_body later t k binding
        more_is =
            let grows = reaches_grows (λ n. elaborated n (bind binding.1 scope) (expression_of t)) now later next in
            next_at later grows ∙ next_is (λ n. step (pattern n side (part_of n (expression_of p)))) (λ n. next_body n t k) now now binding patterns_stand later grows

        -- its term stops
        pub more_stop : (h : Halt) → elaborated later (bind binding.1 scope) (expression_of t) ≡ Err h → so_far (xs ++ b ∷ []) later ≡ Err h
        more_stop h f = more_is ∙ ap (λ (o : Elaborated Sorted). and_then o (with_body k binding.0)) f

        -- its term has another sort
        pub sort_stop : (u : Sorted) → elaborated later (bind binding.1 scope) (expression_of t) ≡ Ok u → goes_with k.sort u.1 ≡ false → so_far (xs ++ b ∷ []) later ≡ Err (refused wrong_sort)
        sort_stop u f goes = more_is ∙ ap (λ (o : Elaborated Sorted). and_then o (with_body k binding.0)) f ∙ ap (λ (x : Bool). unless_halted x wrong_sort (Ok (with_last k binding.0 u))) goes

        pub more_met : (u : Sorted) → elaborated later (bind binding.1 scope) (expression_of t) ≡ Ok u → goes_with k.sort u.1 ≡ true → so_far (xs ++ b ∷ []) later ≡ Ok (with_last k binding.0 u)
        more_met u f goes = more_is ∙ ap (λ (o : Elaborated Sorted). and_then o (with_body k binding.0)) f ∙ ap (λ (x : Bool). unless_halted x wrong_sort (Ok (with_last k binding.0 u))) goes
