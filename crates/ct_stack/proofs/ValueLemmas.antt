-- Values of terms: what is asked, the numbers of core terms, and the nodes that stand for values.
use Rattle.std.proofs.Common.{◌≡◌, ◌∙◌, ℕ, suc, ◌+◌, ◌<◌, List, [], ◌∷◌, ◌++◌, length, map, All, Some, slice_get, Result, Ok, Err, refl, sym, ap, subst, inl, inr, arith}
use Rattle.std.specs.List.{AllZip, range_with_len}
use Rattle.std.proofs.lemmas.List.{append_assoc, append-nil}
use Rattle.std.proofs.lemmas.List.Elements.{All-head, All-tail, All-nil, All-cons}
use Rattle.std.proofs.lemmas.Option.{same_Some}
use Rattle.ct_lemmas.proofs.Pairs.{AllZip-one_length, AllZip-push}
use Rattle.ct_sexpr.specs.declared.sexpr.Sexpr.{Sexpr}
use Rattle.ct_sexpr.specs.Expression.{Expression}
use Rattle.ct_sexpr.specs.View.{expression_of}
use Rattle.ct_sorts.specs.declared.ids.SortId.{SortId}
use Rattle.ct_sorts.specs.Declarations.{Declarations}
use Rattle.ct_sorts.specs.Consistent.{IsConsistent}
use Rattle.ct_terms.specs.declared.ids.TermId.{TermId}
use Rattle.ct_formulas.specs.declared.tree.Tree.{Tree}
use Rattle.ct_terms.specs.Terms.{Terms}
use Rattle.ct_terms.specs.CoreTree.{CoreTree, term_at}
use Rattle.ct_terms.specs.CoreSorts.{HasTreeSort}
use Rattle.ct_formulas.specs.Formula.{Formula}
use Rattle.ct_formulas.specs.FormulaSorts.{IsSorted, AreSound}
use Rattle.ct_formulas.specs.TreeFormula.{formula_of}
use Rattle.ct_formulas.specs.Compiled.{core_of}
use Rattle.ct_compile.specs.Effect.{Stands, AllStand}
use Rattle.ct_names.specs.Outcome.{Outcome, Elaborated, refused, missing, Sorted, and_then}
use Rattle.ct_check.specs.Trees.{sorted_trees}
use Rattle.ct_names.specs.Elaboration.{elaborated}
use Rattle.ct_names.specs.Needs.{ends_with}
use Rattle.ct_names.specs.Refusals.{out_of_scope}
use Rattle.ct_command.specs.Seen.{all_seen}
use Rattle.ct_values.specs.declared.node.NodeId.{NodeId}
use Rattle.ct_values.specs.Graph.{Nodes}
use Rattle.ct_values.specs.Value.{Value}
use Rattle.ct_values.specs.ValueSort.{HasValueSort}
use Rattle.ct_values.specs.Agreement.{Point, AgreeAlways, point, node_point}
use Rattle.ct_values.specs.Fitting.{FitsGraph}
use Rattle.ct_eval.specs.declared.interp.Interp.{Interp}
use Rattle.ct_eval.specs.declared.interp.Valuation.{Valuation}
use Rattle.ct_eval.specs.Interpretation.{IsProper}
use Rattle.ct_eval.specs.Evaluation.{value_of}
use Rattle.ct_eval.specs.TreeValue.{tree_value}
use Rattle.ct_meaning.specs.Meaning.{eval, Means}
use Rattle.ct_eval.specs.Valued.{IsValuation}
use Rattle.ct_sexpr.specs.Written.{written}
use Rattle.ct_model.specs.Listed.{listed}
use Rattle.ct_model.specs.PairsText.{IsPairAt}
use Rattle.ct_model.specs.Within.{IsNode}
use Rattle.ct_stack.specs.Stack.{Context, core, cores}
use Rattle.ct_sorts.specs.Refusals.{IsFirstCause, IsNone}
use Rattle.ct_stack.specs.Numbers.{too_many_terms}
use Rattle.ct_stack.specs.Outcomes.{each_of, IsErrorOr}
use Rattle.ct_stack.specs.Refusal.{HasManyTerms, IsTermsRefusal, formula_list}
use Rattle.ct_stack.specs.Sorts.{AreSortedTerms, HasSomeSort}
use Rattle.ct_stack.specs.Values.{IsValuePair, IsPairOf, ArePairs}

-- what ends with a value is there
pub there : {X : Type 0} (number : ℕ) (o : Elaborated X) (x : X) → ends_with number o ≡ Ok x → o ≡ Ok x
there number (Ok y) x e = let same : y ≡ x = cc in ap (λ z. Ok z) same
there number (Err (refused n)) x e = absurd cc
there number (Err (missing m)) x e = absurd cc

-- steps that gave a list gave its first element, and the rest
taken : {Y E : Type 0} (first : Result Y E) (rest : Result (List Y) E) (z : Y) (zs : List Y) → and_then first (λ y. and_then rest (λ ys. Ok (y ∷ ys))) ≡ Ok (z ∷ zs) → (first ≡ Ok z) × (rest ≡ Ok zs)
taken (Ok y) (Ok ys) z zs e = (cc, cc)
taken (Ok y) (Err n) z zs e = absurd cc
taken (Err n) rest z zs e = absurd cc

not_none : {Y E : Type 0} (first : Result Y E) (rest : Result (List Y) E) → and_then first (λ y. and_then rest (λ ys. Ok (y ∷ ys))) ≡ Ok [] → ⊥
not_none (Ok y) (Ok ys) e = cc
not_none (Ok y) (Err n) e = cc
not_none (Err n) rest e = cc

module _ {X Y E : Type 0} (step : X → Result Y E) where
  pub each_of-cons : (x : X) (xs : List X) (z : Y) (zs : List Y) → each_of step (x ∷ xs) ≡ Ok (z ∷ zs) → (step x ≡ Ok z) × (each_of step xs ≡ Ok zs)
  each_of-cons x xs z zs e = taken (step x) (each_of step xs) z zs e

  -- as many values as steps
  pub each_of-long : (xs : List X) (ys : List Y) → each_of step xs ≡ Ok ys → length ys ≡ length xs
  each_of-long [] [] e = refl
  each_of-long [] (y ∷ ys) e = absurd cc
  each_of-long (x ∷ xs) [] e = absurd (not_none (step x) (each_of step xs) e)
  each_of-long (x ∷ xs) (y ∷ ys) e = ap suc (each_of-long xs ys (each_of-cons x xs y ys e).1)

-- the formulas of trees with their sorts are those of the trees
pub formulas-sorted : (trees : List Tree) (sorts : List SortId) → length trees ≡ length sorts → formula_list (sorted_trees trees sorts) ≡ map formula_of trees
formulas-sorted [] sorts e = refl
formulas-sorted (t ∷ trees) [] e = absurd (omega (arith, e))
formulas-sorted (t ∷ trees) (s ∷ sorts) e =
    ap (λ (fs : List Formula). formula_of t ∷ fs) (formulas-sorted trees sorts (omega (arith, e)))

-- with one tree and its sort more
pub sorted_trees-push : (trees : List Tree) (sorts : List SortId) (t : Tree) (s : SortId) → length trees ≡ length sorts → sorted_trees (trees ++ t ∷ []) (sorts ++ s ∷ []) ≡ sorted_trees trees sorts ++ (formula_of t, s) ∷ []
sorted_trees-push [] [] t s e = refl
sorted_trees-push [] (r ∷ sorts) t s e = absurd (omega (arith, e))
sorted_trees-push (u ∷ trees) [] t s e = absurd (omega (arith, e))
sorted_trees-push (u ∷ trees) (r ∷ sorts) t s e =
    ap (λ (ts : List Sorted). (formula_of u, r) ∷ ts) (sorted_trees-push trees sorts t s (omega (arith, e)))

sorted_trees-long : (trees : List Tree) (sorts : List SortId) → length trees ≡ length sorts → length (sorted_trees trees sorts) ≡ length trees
sorted_trees-long [] sorts e = refl
sorted_trees-long (t ∷ trees) [] e = absurd (omega (arith, e))
sorted_trees-long (t ∷ trees) (s ∷ sorts) e = ap suc (sorted_trees-long trees sorts (omega (arith, e)))

module _ (d : Declarations) where
  pub AreSortedTerms-long : (trees : List Tree) (sorts : List SortId) → AreSortedTerms d trees sorts → length trees ≡ length sorts
  AreSortedTerms-long trees sorts all = AllZip-one_length (λ t sort. IsSorted d [] (formula_of t) sort) trees sorts all

  pub AreSortedTerms-each : (trees : List Tree) (sorts : List SortId) → AreSortedTerms d trees sorts → All (HasSomeSort d) trees
  AreSortedTerms-each [] sorts all = All-nil (HasSomeSort d)
  AreSortedTerms-each (t ∷ trees) [] all = absurd all
  AreSortedTerms-each (t ∷ trees) (s ∷ sorts) all = All-cons (HasSomeSort d) t trees (s, all.0) (AreSortedTerms-each trees sorts all.1)

  -- as many trees as expressions
  pub terms-long : (exprs : List Sexpr) (trees : List Tree) (sorts : List SortId) → each_of (elaborated d []) (all_seen exprs) ≡ Ok (sorted_trees trees sorts) → AreSortedTerms d trees sorts → length exprs ≡ length trees
  terms-long exprs trees sorts e all =
      omega (arith, each_of-long (elaborated d []) (all_seen exprs) (sorted_trees trees sorts) e, sorted_trees-long trees sorts (AreSortedTerms-long trees sorts all), seen_long exprs)
    where
      seen_long : (es : List Sexpr) → length (all_seen es) ≡ length es
      seen_long [] = refl
      seen_long (e ∷ es) = ap suc (seen_long es)

-- pairs of expressions in memory and formulas are pairs of the terms that the expressions write
pub values_of_terms : (c : Context) (i : Interp) (exprs : List Sexpr) (trees : List Tree) (sorts : List SortId) (pairs : List (List ℕ)) → each_of (elaborated c.declarations []) (all_seen exprs) ≡ Ok (sorted_trees trees sorts) → ArePairs c i exprs (map formula_of trees) pairs → AllZip (IsValuePair c i) (all_seen exprs) pairs
values_of_terms c i [] [] sorts [] e h = tt
values_of_terms c i [] [] sorts (p ∷ pairs) e h = absurd h
values_of_terms c i [] (t ∷ trees) sorts [] e h = absurd h
values_of_terms c i [] (t ∷ trees) sorts (p ∷ pairs) e h = absurd h
values_of_terms c i (x ∷ exprs) [] sorts [] e h = absurd h
values_of_terms c i (x ∷ exprs) [] sorts (p ∷ pairs) e h = absurd h
values_of_terms c i (x ∷ exprs) (t ∷ trees) sorts [] e h = absurd h
values_of_terms c i (x ∷ exprs) (t ∷ trees) [] (p ∷ pairs) e h = absurd (not_none (elaborated c.declarations [] (expression_of x)) (each_of (elaborated c.declarations []) (all_seen exprs)) e)
values_of_terms c i (x ∷ exprs) (t ∷ trees) (s ∷ sorts) (p ∷ pairs) e h =
    let parts = each_of-cons (elaborated c.declarations []) (expression_of x) (all_seen exprs) (formula_of t, s) (sorted_trees trees sorts) e in
    (record { term = (formula_of t, s); means = ap (ends_with out_of_scope) parts.0; value = h.0.value; value_is = h.0.value_is; text_is = h.0.text_is }, values_of_terms c i exprs trees sorts pairs parts.1 h.1)

-- what a node stands for
abbrev StandsFor : Context → Interp → Nodes → NodeId → Formula → Type 0
StandsFor c i g n f = AgreeAlways (node_point g n) (point i.graph (eval c.declarations i c.bodies [] f))

abbrev IsNodeOf : Valuation → TermId → NodeId → Type 0
IsNodeOf v t n = slice_get v.nodes t.0 ≡ Some n

-- the theorems on meanings that are needed
pub record Meanings : Type 0 where
  pub tree : (d : Declarations) (i : Interp) (terms : Terms) (t : TermId) → value_of d i terms t ≡ tree_value d i (term_at terms t)
  pub compiled : (d : Declarations) (i : Interp) (bodies : List Formula) (terms : List CoreTree) (env : List Value) (sorts : List SortId) (t : Formula) (sort : SortId) → IsConsistent d → IsProper d i → AreSound d bodies → AllZip (HasTreeSort d) terms sorts → AllZip (HasValueSort d i.graph) env sorts → AllZip (Means d i) terms env → IsSorted d sorts t sort → Means d i (core_of d bodies terms t) (eval d i bodies env t)
  pub chained : (p q r : Point) → AgreeAlways p q → AgreeAlways q r → AgreeAlways p r

module _ (meanings : Meanings) (c : Context) (i : Interp) (table : Terms) (v : Valuation) (consistent : IsConsistent c.declarations) (proper : IsProper c.declarations i) (sound : AreSound c.declarations c.bodies) (valued : IsValuation c.declarations i table v) where
  -- the node of a core term stands for what the formula means
  one_meant : (t : TermId) (n : NodeId) (f : Formula) (sort : SortId) → IsSorted c.declarations [] f sort → term_at table t ≡ core c f → IsNodeOf v t n → StandsFor c i v.graph n f
  one_meant t n f sort sorted tree at =
      let same : value_of c.declarations i table t ≡ tree_value c.declarations i (core c f) = meanings.tree c.declarations i table t ∙ ap (tree_value c.declarations i) tree in
      let here : AgreeAlways (node_point v.graph n) (point i.graph (tree_value c.declarations i (core c f))) = subst (λ (w : Value). AgreeAlways (node_point v.graph n) (point i.graph w)) same (valued.values t n at).same in
      meanings.chained (node_point v.graph n) (point i.graph (tree_value c.declarations i (core c f))) (point i.graph (eval c.declarations i c.bodies [] f)) here
      (meanings.compiled c.declarations i c.bodies [] [] [] f sort consistent proper sound tt tt tt sorted)

  pub all_meant : (numbers : List TermId) (nodes : List NodeId) (trees : List Tree) → AllStand table numbers (cores c (map formula_of trees)) → AllZip (IsNodeOf v) numbers nodes → All (HasSomeSort c.declarations) trees → AllZip (StandsFor c i v.graph) nodes (map formula_of trees)
  all_meant [] [] [] stand at all = tt
  all_meant [] [] (t ∷ trees) stand at all = absurd stand
  all_meant [] (n ∷ nodes) trees stand at all = absurd at
  all_meant (t ∷ numbers) [] trees stand at all = absurd at
  all_meant (t ∷ numbers) (n ∷ nodes) [] stand at all = absurd stand
  all_meant (t ∷ numbers) (n ∷ nodes) (tree ∷ trees) stand at all =
      let sorted = All-head (HasSomeSort c.declarations) tree trees all in
      (one_meant t n (formula_of tree) sorted.0 sorted.1 stand.0.1 at.0, all_meant numbers nodes trees stand.1 at.1 (All-tail (HasSomeSort c.declarations) tree trees all))

  -- the nodes are in the graph
  pub all_within : (numbers : List TermId) (nodes : List NodeId) → AllZip (IsNodeOf v) numbers nodes → All (IsNode v.graph) nodes
  all_within [] [] at = All-nil (IsNode v.graph)
  all_within [] (n ∷ nodes) at = absurd at
  all_within (t ∷ numbers) [] at = absurd at
  all_within (t ∷ numbers) (n ∷ nodes) at =
      All-cons (IsNode v.graph) n nodes (valued.values t n at.0).within (all_within numbers nodes at.1)

  -- the core terms have nodes
  pub numbers_within : (numbers : List TermId) (trees : List CoreTree) → AllStand table numbers trees → All (λ t. t.0 < length v.nodes) numbers
  numbers_within [] trees stand = All-nil (λ t. t.0 < length v.nodes)
  numbers_within (t ∷ numbers) [] stand = absurd stand
  numbers_within (t ∷ numbers) (tree ∷ trees) stand =
      All-cons (λ t. t.0 < length v.nodes) t numbers (omega (arith, stand.0.0, valued.all)) (numbers_within numbers trees stand.1)

  -- as many nodes as expressions
  pub nodes_long : (exprs : List Sexpr) (trees : List Tree) (numbers : List TermId) (nodes : List NodeId) → length exprs ≡ length trees → AllStand table numbers (cores c (map formula_of trees)) → AllZip (IsNodeOf v) numbers nodes → length exprs ≡ length nodes
  nodes_long exprs trees numbers nodes long stand at =
      omega (arith, long, AllZip-one_length (Stands table) numbers (cores c (map formula_of trees)) stand, AllZip-one_length (IsNodeOf v) numbers nodes at, map_long trees)
    where
      map_long : (ts : List Tree) → length (cores c (map formula_of ts)) ≡ length ts
      map_long [] = refl
      map_long (t ∷ ts) = ap suc (map_long ts)

-- pairs of expressions and nodes are pairs of expressions and the formulas for which the nodes stand
module _ (c : Context) (i : Interp) (g : Nodes) (fits : FitsGraph c.declarations g) (exprs : List Sexpr) (nodes : List NodeId) where
  pairs_from : (start : ℕ) (es : List Sexpr) (ns : List NodeId) (fs : List Formula) (ts : List (List ℕ)) → ((k : ℕ) → slice_get exprs (start + k) ≡ slice_get es k) → ((k : ℕ) → slice_get nodes (start + k) ≡ slice_get ns k) → length es ≡ length ns → AllZip (StandsFor c i g) ns fs → AllZip (IsPairAt c.declarations g exprs nodes) (range_with_len start (length es)) ts → ArePairs c i es fs ts
  pairs_from start [] [] [] [] of_exprs of_nodes long all pairs = tt
  pairs_from start [] [] [] (t ∷ ts) of_exprs of_nodes long all pairs = absurd pairs
  pairs_from start [] [] (f ∷ fs) ts of_exprs of_nodes long all pairs = absurd all
  pairs_from start [] (n ∷ ns) fs ts of_exprs of_nodes long all pairs = absurd (omega (arith, long))
  pairs_from start (e ∷ es) [] fs ts of_exprs of_nodes long all pairs = absurd (omega (arith, long))
  pairs_from start (e ∷ es) (n ∷ ns) [] ts of_exprs of_nodes long all pairs = absurd all
  pairs_from start (e ∷ es) (n ∷ ns) (f ∷ fs) [] of_exprs of_nodes long all pairs = absurd pairs
  pairs_from start (e ∷ es) (n ∷ ns) (f ∷ fs) (t ∷ ts) of_exprs of_nodes long all pairs =
      (one pairs.0, pairs_from (start + 1) es ns fs ts (λ k. ap (slice_get exprs) (next k) ∙ of_exprs (suc k)) (λ k. ap (slice_get nodes) (next k) ∙ of_nodes (suc k)) (omega (arith, long)) all.1 pairs.1)
    where
      next : (k : ℕ) → (start + 1) + k ≡ start + suc k
      next k = omega arith

      here : start ≡ start + 0
      here = omega arith

      one : IsPairAt c.declarations g exprs nodes start t → IsPairOf c i e f t
      one at =
          let same_expr : at.expr ≡ e = same_Some at.expr e (sym at.at_expr ∙ (ap (slice_get exprs) here ∙ of_exprs 0)) in
          let same_node : at.node ≡ n = same_Some at.node n (sym at.at_node ∙ (ap (slice_get nodes) here ∙ of_nodes 0)) in
          record {
            value = at.pair.value;
            value_is =
                record {
                  graph = g;
                  fits = fits;
                  node = at.node;
                  equal = subst (λ (m : NodeId). StandsFor c i g m f) (sym same_node) all.0;
                  text_is = at.pair.value_is;
                };
            text_is = subst (λ (x : Sexpr). t ≡ listed (written (expression_of x) ∷ (at.pair.value ∷ []))) same_expr at.pair.text_is;
          }

  pub pairs_of_nodes : (fs : List Formula) (ts : List (List ℕ)) → length exprs ≡ length nodes → AllZip (StandsFor c i g) nodes fs → AllZip (IsPairAt c.declarations g exprs nodes) (range_with_len 0 (length exprs)) ts → ArePairs c i exprs fs ts
  pairs_of_nodes fs ts long all pairs = pairs_from 0 exprs nodes fs ts (λ k. ap (slice_get exprs) (zero_more k)) (λ k. ap (slice_get nodes) (zero_more k)) long all pairs
    where
      zero_more : (k : ℕ) → 0 + k ≡ k
      zero_more k = omega arith

-- what refuses terms that are well sorted
abbrev TooMany : Context → List CoreTree → List Sorted → ℕ → Type 0
TooMany c roots terms = IsFirstCause too_many_terms (HasManyTerms (roots ++ cores c (formula_list terms))) IsNone

module _ (c : Context) (roots : List CoreTree) (ts : List Expression) where
  -- a term is refused
  pub terms_refused : (n : ℕ) → ends_with out_of_scope (each_of (elaborated c.declarations []) ts) ≡ Err n → IsTermsRefusal c roots ts n
  terms_refused n e = subst (λ (o : Outcome (List Sorted)). IsErrorOr o (TooMany c roots) n) (sym e) refl

  module _ (trees : List Tree) (sorts : List SortId) (long : length trees ≡ length sorts) (e : each_of (elaborated c.declarations []) ts ≡ Ok (sorted_trees trees sorts)) where
    -- there are too many
    pub terms_too_many : (n : ℕ) → n ≡ too_many_terms → HasManyTerms (roots ++ cores c (map formula_of trees)) → IsTermsRefusal c roots ts n
    terms_too_many n is many =
        subst (λ (o : Outcome (List Sorted)). IsErrorOr o (TooMany c roots) n) (sym (ap (ends_with out_of_scope) e))
        (inl (is, subst (λ (fs : List Formula). HasManyTerms (roots ++ cores c fs)) (sym (formulas-sorted trees sorts long)) many))

    -- there are not
    pub terms_accepted : (HasManyTerms (roots ++ cores c (map formula_of trees)) → ⊥) → (n : ℕ) → IsTermsRefusal c roots ts n → ⊥
    terms_accepted few n refusal = by (subst (λ (o : Outcome (List Sorted)). IsErrorOr o (TooMany c roots) n) (ap (ends_with out_of_scope) e) refusal)
      where
        by : TooMany c roots (sorted_trees trees sorts) n → ⊥
        by (inl first) = few (subst (λ (fs : List Formula). HasManyTerms (roots ++ cores c fs)) (formulas-sorted trees sorts long) first.1)
        by (inr none) = none.1

-- so far terms have got their nodes, of which these are left
pub record HaveNodes (found : List NodeId) (all left : List TermId) (nodes : List NodeId) : Type 0 where
  pub so_far : List TermId
  pub whole : all ≡ so_far ++ left
  pub have : AllZip (λ (t : TermId) n. slice_get found t.0 ≡ Some n) so_far nodes
  pub within : All (λ (t : TermId). t.0 < length found) left

module _ (found : List NodeId) (all : List TermId) where
  abbrev HasNode : TermId → NodeId → Type 0
  HasNode t n = slice_get found t.0 ≡ Some n

  pub no_nodes : All (λ (t : TermId). t.0 < length found) all → HaveNodes found all all []
  no_nodes within = record { so_far = []; whole = refl; have = tt; within = within }

  pub one_node_more : (t : TermId) (left : List TermId) (nodes : List NodeId) (n : NodeId) → HaveNodes found all (t ∷ left) nodes → slice_get found t.0 ≡ Some n → HaveNodes found all left (nodes ++ n ∷ [])
  one_node_more t left nodes n way at =
      record {
        so_far = way.so_far ++ t ∷ [];
        whole = way.whole ∙ sym (append_assoc way.so_far (t ∷ []) left);
        have = AllZip-push HasNode way.so_far nodes t n way.have at;
        within = All-tail (λ (t : TermId). t.0 < length found) t left way.within;
      }

  pub first_within : (t : TermId) (left : List TermId) (nodes : List NodeId) → HaveNodes found all (t ∷ left) nodes → t.0 < length found
  first_within t left nodes way = All-head (λ (t : TermId). t.0 < length found) t left way.within

  pub all_nodes : (nodes : List NodeId) → HaveNodes found all [] nodes → AllZip HasNode all nodes
  all_nodes nodes way = subst (λ (ts : List TermId). AllZip HasNode ts nodes) (sym (way.whole ∙ append-nil way.so_far)) way.have
