-- The terms of bindings one after the other: those so far, the next one, and all.
use Rattle.std.proofs.Common.{◌≡◌, List, [], ◌∷◌, ◌++◌, length, Vec, Global, false, Ok, Err, refl, sym, ◌∙◌, ap, arith}
use Rattle.ct_sexpr.specs.declared.sexpr.Sexpr.{Sexpr, List as list_in_memory}
use Rattle.ct_sexpr.specs.Expression.{Expression, Expressions, list, none, more}
use Rattle.ct_sexpr.specs.View.{expression_of, expressions_of}
use Rattle.ct_sorts.specs.declared.ids.SortId.{SortId}
use Rattle.ct_sorts.specs.Consistent.{IsConsistent}
use Rattle.ct_sorts.specs.Declarations.{Declarations}
use Rattle.ct_formulas.specs.declared.tree.Tree.{Tree}
use Rattle.ct_formulas.specs.Formula.{with_formula}
use Rattle.ct_formulas.specs.TreeFormula.{formula_of, formulas_of_trees}
use Rattle.ct_names.specs.Needs.{Reaches}
use Rattle.ct_names.specs.Outcome.{Elaborated, Halt, Sorted, and_then, refused}
use Rattle.ct_names.specs.Refusals.{out_of_scope}
use Rattle.ct_names.specs.Variables.{Variable, ScopeIn}
use Rattle.ct_names.specs.Parts.{with_part, no_parts}
use Rattle.ct_names.specs.Elaboration.{elaborated, part_of, parts_of, bound_terms, without_sorts, sorts_of}
use Rattle.ct_names.proofs.LastingLemmas.{scope_declared}
use Rattle.ct_names.proofs.NeedLemmas.{reaches_grows, reaches_first, reaches_same}
use Rattle.ct_names.proofs.Rows.{expression_of_list}
use Rattle.ct_names.proofs.StayTerms.{bound_terms_stay, all_last}
use Rattle.ct_check.specs.Trees.{sorted_trees}
use Rattle.ct_check.proofs.ItemLemmas.{joined, bound_join, and_others}
use Rattle.ct_check.proofs.OtherForms.{is_pair, binding-other}
use Rattle.ct_check.proofs.StepLemmas.{Stands, next_is, next_reaches}

-- trees with their sorts, one more of each
pub sorted_trees-push : (ts : List Tree) (ss : List SortId) (t : Tree) (s : SortId) → length ts ≡ length ss → sorted_trees (ts ++ t ∷ []) (ss ++ s ∷ []) ≡ sorted_trees ts ss ++ (formula_of t, s) ∷ []
sorted_trees-push [] [] t s e = refl
sorted_trees-push [] (r ∷ ss) t s e = absurd (omega (arith, e))
sorted_trees-push (u ∷ ts) [] t s e = absurd (omega (arith, e))
sorted_trees-push (u ∷ ts) (r ∷ ss) t s e = ap (λ rest. (formula_of u, r) ∷ rest) (sorted_trees-push ts ss t s (omega (arith, e)))

-- their formulas, and their sorts
pub formulas_of-sorted : (ts : List Tree) (ss : List SortId) → length ts ≡ length ss → without_sorts (sorted_trees ts ss) ≡ formulas_of_trees ts
formulas_of-sorted [] ss e = refl
formulas_of-sorted (t ∷ ts) [] e = absurd (omega (arith, e))
formulas_of-sorted (t ∷ ts) (s ∷ ss) e = ap (λ rest. with_formula (formula_of t) rest) (formulas_of-sorted ts ss (omega (arith, e)))

pub sorts_of-sorted : (ts : List Tree) (ss : List SortId) → length ts ≡ length ss → sorts_of (sorted_trees ts ss) ≡ ss
sorts_of-sorted [] [] e = refl
sorts_of-sorted [] (s ∷ ss) e = absurd (omega (arith, e))
sorts_of-sorted (t ∷ ts) [] e = absurd (omega (arith, e))
sorts_of-sorted (t ∷ ts) (s ∷ ss) e = ap (λ rest. s ∷ rest) (sorts_of-sorted ts ss (omega (arith, e)))

-- a list of two in memory
abbrev pub IsPair : Sexpr → Sexpr → Sexpr → Type 0
IsPair b x t = expression_of b ≡ list (more (expression_of x) (more (expression_of t) none))

pub pair_is : (b : Sexpr) (items : Vec Sexpr Global) (slice : List Sexpr) (x t : Sexpr) → b ≡ list_in_memory items → slice ≡ items.items → slice ≡ x ∷ (t ∷ []) → IsPair b x t
pair_is b items slice x t is same two =
    ap (λ (e : Sexpr). expression_of e) is ∙ expression_of_list items ∙ ap (λ (xs : List Sexpr). list (expressions_of xs)) (sym same ∙ two)

-- expressions and others
pub joined-append : (xs ys : List Sexpr) → expressions_of (xs ++ ys) ≡ joined (expressions_of xs) (expressions_of ys)
joined-append [] ys = refl
joined-append (x ∷ xs) ys = ap (λ (es : Expressions). more (expression_of x) es) (joined-append xs ys)

module _ (scope : List Variable) where
  -- these bindings
  abbrev pub so_far : List Sexpr → Declarations → Elaborated (List Sorted)
  so_far xs n = bound_terms n scope (parts_of n (expressions_of xs))

  -- these and others
  and_more : (xs ys : List Sexpr) (d : Declarations) → so_far (xs ++ ys) d ≡ and_then (so_far xs d) (λ ts. and_then (so_far ys d) (and_others d scope ts))
  and_more xs ys d = ap (λ (es : Expressions). bound_terms d scope (parts_of d es)) (joined-append xs ys) ∙ bound_join d scope (expressions_of xs) (expressions_of ys)

  -- where these stop, so do all
  pub all_stop : (xs ys all : List Sexpr) → all ≡ xs ++ ys → (d : Declarations) (h : Halt) → so_far xs d ≡ Err h → so_far all d ≡ Err h
  all_stop xs ys all is d h e = ap (λ zs. so_far zs d) is ∙ and_more xs ys d ∙ ap (λ (o : Elaborated (List Sorted)). and_then o (λ ts. and_then (so_far ys d) (and_others d scope ts))) e

  -- the next term, after these
  abbrev pub next_term : Declarations → Sexpr → List Sorted → Elaborated (List Sorted)
  next_term d t ts = and_then (elaborated d scope (expression_of t)) (λ u. Ok (ts ++ u ∷ []))

  push : (xs : List Sexpr) (b x t : Sexpr) → IsPair b x t → (d : Declarations) → so_far (xs ++ b ∷ []) d ≡ and_then (so_far xs d) (next_term d t)
  push xs b x t pair d = and_more xs (b ∷ []) d ∙ by (so_far xs d)
    where
      at : (ts : List Sorted) (o : Elaborated Sorted) → and_then (and_then o (λ u. and_then (Ok []) (λ us. Ok (u ∷ us)))) (and_others d scope ts) ≡ and_then o (λ u. Ok (ts ++ u ∷ []))
      at ts (Ok u) = refl
      at ts (Err h) = refl

      by : (o : Elaborated (List Sorted)) → and_then o (λ ts. and_then (so_far (b ∷ []) d) (and_others d scope ts)) ≡ and_then o (next_term d t)
      by (Err h) = refl
      by (Ok ts) = ap (λ (e : Expression). and_then (bound_terms d scope (with_part (part_of d e) no_parts)) (and_others d scope ts)) pair ∙ at ts (elaborated d scope (expression_of t))

  module _ (first now : Declarations) (c : IsConsistent first) (cn : IsConsistent now) (inside : ScopeIn first scope) (xs : List Sexpr) (ts : List Sorted) (value : so_far xs now ≡ Ok ts) (reaches : Reaches (so_far xs) first now) where
    pub stands : Stands (so_far xs) first now ts
    stands =
        let grown = reaches_grows (so_far xs) first now reaches in
        record {
          reaches = reaches;
          stays = λ n grows. (bound_terms_stay n now grows cn scope (scope_declared now first grown c scope inside) (expressions_of xs) (all_last n now grows cn (expressions_of xs)) ts value).0;
        }

    -- a binding that is no list of two
    pub other_stop : (b : Sexpr) → is_pair (part_of now (expression_of b)) ≡ false → so_far (xs ++ b ∷ []) now ≡ Err (refused out_of_scope)
    other_stop b other =
        and_more xs (b ∷ []) now
        ∙ ap (λ (o : Elaborated (List Sorted)). and_then o (λ us. and_then (so_far (b ∷ []) now) (and_others now scope us))) value
        ∙ ap (λ (o : Elaborated (List Sorted)). and_then o (and_others now scope ts)) (binding-other now scope (part_of now (expression_of b)) no_parts other)

    module _ (b x t : Sexpr) (pair : IsPair b x t) (later : Declarations) (next : Reaches (λ n. elaborated n scope (expression_of t)) now later) where
      pub more_reached : Reaches (so_far (xs ++ b ∷ [])) first later
      more_reached =
          reaches_same (λ n. and_then (so_far xs n) (next_term n t)) (so_far (xs ++ b ∷ [])) first later (λ n _. push xs b x t pair n)
          (next_reaches (so_far xs) (λ n. next_term n t) first now ts stands later (reaches_first (λ n. elaborated n scope (expression_of t)) (λ n u. Ok (ts ++ u ∷ [])) now later next))

      more_is : so_far (xs ++ b ∷ []) later ≡ next_term later t ts
      more_is = push xs b x t pair later ∙ next_is (so_far xs) (λ n. next_term n t) first now ts stands later (reaches_grows (λ n. elaborated n scope (expression_of t)) now later next)

      pub more_stop : (h : Halt) → elaborated later scope (expression_of t) ≡ Err h → so_far (xs ++ b ∷ []) later ≡ Err h
      more_stop h f = more_is ∙ ap (λ (o : Elaborated Sorted). and_then o (λ u. Ok (ts ++ u ∷ []))) f

      pub more_met : (u : Sorted) → elaborated later scope (expression_of t) ≡ Ok u → so_far (xs ++ b ∷ []) later ≡ Ok (ts ++ u ∷ [])
      more_met u f = more_is ∙ ap (λ (o : Elaborated Sorted). and_then o (λ w. Ok (ts ++ w ∷ []))) f
