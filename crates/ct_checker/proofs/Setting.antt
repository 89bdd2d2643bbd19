-- What the lemmas here have from the crates below, for a table of terms in a proper interpretation.
use Rattle.std.proofs.Common.{◌≡◌, ◌↔◌, ℕ, suc, Bool, true, not, IsTrue, List, [], ◌∷◌, ◌++◌, map, Some, slice_get, Contains, if◌then◌else◌}
use Rattle.std.specs.Cmp.{IsEquivalence}
use Rattle.std.specs.List.{AllZip, list_all, list_any}
use Rattle.ct_sorts.specs.declared.ids.CtorId.{CtorId}
use Rattle.ct_sorts.specs.declared.ids.SelId.{SelId}
use Rattle.ct_sorts.specs.declared.ids.SortId.{SortId}
use Rattle.ct_sorts.specs.declared.ids.Kind.TheVariants.{Free}
use Rattle.ct_sorts.specs.Declarations.{Declarations, Sort, Selector}
use Rattle.ct_sorts.specs.Structure.{AreOfTheirSorts, HaveOwnSelectors}
use Rattle.ct_values.specs.declared.node.Head.TheVariants as heads
use Rattle.ct_values.specs.Value.{Value}
use Rattle.ct_values.specs.Agreement.{Point, point, head, children, children_of, agree, AgreeAlways}
use Rattle.ct_values.specs.TruthValue.{truth, is_built}
use Rattle.ct_values.specs.ValueSort.{HasValueSort, IsDataChain}
use Rattle.ct_values.specs.Inversion.{IsConstructed}
use Rattle.ct_terms.specs.declared.ids.TermId.{TermId}
use Rattle.ct_terms.specs.declared.term.Core.{Core}
use Rattle.ct_terms.specs.declared.term.Core.TheVariants as core
use Rattle.ct_terms.specs.Terms.{Terms, IsOfSort, IsBoolean, AreSorted, BeginsWithTruths, Has}
use Rattle.ct_terms.specs.Literal.{literal_of}
use Rattle.ct_terms.specs.Clause.{Clause, literal_value, HoldsUnder}
use Rattle.ct_terms.specs.Propagation.{Rup, IsNumbered}
use Rattle.ct_card.specs.Cardinality.{IsSingle}
use Rattle.ct_eval.specs.declared.interp.Interp.{Interp}
use Rattle.ct_eval.specs.Evaluation.{value_of}
use Rattle.ct_eval.specs.Congruence.{AreCongruent, HaveOneValue}
use Rattle.ct_eval.specs.Truth.{truth_value}

-- the value of a term, in the graph of the interpretation
abbrev pub value_point : Declarations → Interp → Terms → TermId → Point
value_point d i terms t = point i.graph (value_of d i terms t)

-- the terms have one value
abbrev pub Equal : Declarations → Interp → Terms → TermId → TermId → Type 0
Equal d i terms = HaveOneValue i (value_of d i terms) (value_of d i terms)

-- what is known of values: to be the same is an equivalence, that of heads and of children, at each depth and at all
pub record Sameness : Type 0 where
  pub start : (p q : Point) → IsTrue (agree 0 p q)
  pub step : (k : ℕ) (p q : Point) → IsTrue (agree (suc k) p q) ↔ ((head p ≡ head q) × AllZip (λ x y. IsTrue (agree k x y)) (children p) (children q))
  pub equivalence : (k : ℕ) → IsEquivalence (agree k)
  pub itself : (p : Point) → AgreeAlways p p
  pub turned : (p q : Point) → AgreeAlways p q → AgreeAlways q p
  pub chained : (p q r : Point) → AgreeAlways p q → AgreeAlways q r → AgreeAlways p r
  pub always : (p q : Point) → AgreeAlways p q ↔ ((head p ≡ head q) × AllZip AgreeAlways (children p) (children q))

-- of values of sorts, over the graph of the interpretation
pub record ValueFacts (d : Declarations) (i : Interp) : Type 0 where
  pub of_their_sorts : AreOfTheirSorts d
  pub own_selectors : HaveOwnSelectors d
  pub built : (v : Value) (c : CtorId) → (is_built i.graph c v ≡ true) ↔ (head (point i.graph v) ≡ Some (heads.Con c))
  pub constructor : (v : Value) (s : SortId) (c : CtorId) → HasValueSort d i.graph v s → head (point i.graph v) ≡ Some (heads.Con c) → IsConstructed d i.graph v c s
  pub constructed : (v : Value) (s : SortId) (sort : Sort) → HasValueSort d i.graph v s → slice_get d.sorts s.0 ≡ Some sort → (sort.kind ≡ Free → ⊥) → (c : CtorId) × IsConstructed d i.graph v c s
  pub single : (v w : Value) (s : SortId) → IsSingle d s.0 → HasValueSort d i.graph v s → HasValueSort d i.graph w s → AgreeAlways (point i.graph v) (point i.graph w)
  pub no_cycle : (v : Value) (chain : List Value) (last : Value) → IsDataChain d i.graph v (chain ++ last ∷ []) → AgreeAlways (point i.graph last) (point i.graph v) → ⊥

-- of terms and their values
pub record TermFacts (d : Declarations) (i : Interp) (terms : Terms) : Type 0 where
  pub begins : BeginsWithTruths terms
  pub sorts : AreSorted d terms
  pub sorted : (t : TermId) (sort : SortId) → IsOfSort terms t sort → HasValueSort d i.graph (value_of d i terms t) sort
  pub boolean : (t : TermId) → IsBoolean terms t → AgreeAlways (value_point d i terms t) (point i.graph (truth (truth_value d i terms t)))
  pub congruent : (t u : TermId) (left right : Core) → Has terms left t.0 → Has terms right u.0 → AreCongruent (Equal d i terms) left right → Equal d i terms t u
  pub one_truth : (t u : TermId) → Equal d i terms t u → truth_value d i terms t ≡ truth_value d i terms u
  pub one_answer : (c : CtorId) (t u : TermId) → Equal d i terms t u → is_built i.graph c (value_of d i terms t) ≡ is_built i.graph c (value_of d i terms u)
  pub ctor_head : (t : TermId) (c : CtorId) (args : List TermId) → Has terms (core.Con c args) t.0 → head (value_point d i terms t) ≡ Some (heads.Con c)
  pub ctor_children : (t : TermId) (c : CtorId) (args : List TermId) → Has terms (core.Con c args) t.0 → children_of i.graph (value_of d i terms t) ≡ map (value_of d i terms) args
  pub selected : (t a : TermId) (s : SelId) (selector : Selector) → Has terms (core.Sel s a) t.0 → slice_get d.sels s.0 ≡ Some selector → is_built i.graph selector.ctor (value_of d i terms a) ≡ true → slice_get (children_of i.graph (value_of d i terms a)) selector.place ≡ Some (value_of d i terms t)

-- of the truth of terms, literals and clauses
pub record TruthFacts (d : Declarations) (i : Interp) (terms : Terms) : Type 0 where
  pub literal : (t : TermId) → truth_value d i terms t ≡ literal_value (λ k. truth_value d i terms (record { 0 = k })) (literal_of terms t)
  pub test : (t a : TermId) (c : CtorId) → Has terms (core.Test c a) t.0 → truth_value d i terms t ≡ is_built i.graph c (value_of d i terms a)
  pub equality : (t a b : TermId) → Has terms (core.Eq a b) t.0 → (truth_value d i terms t ≡ true) ↔ Equal d i terms a b
  pub negation : (t a : TermId) → Has terms (core.Not a) t.0 → truth_value d i terms t ≡ not (truth_value d i terms a)
  pub conjunction : (t : TermId) (args : List TermId) → Has terms (core.And args) t.0 → truth_value d i terms t ≡ list_all (truth_value d i terms) args
  pub disjunction : (t : TermId) (args : List TermId) → Has terms (core.Or args) t.0 → truth_value d i terms t ≡ list_any (truth_value d i terms) args
  pub equivalence : (t a b : TermId) → Has terms (core.Iff a b) t.0 → (truth_value d i terms t ≡ true) ↔ (truth_value d i terms a ≡ truth_value d i terms b)
  pub choice : (t c a b : TermId) → Has terms (core.Ite c a b) t.0 → value_of d i terms t ≡ (if truth_value d i terms c then value_of d i terms a else value_of d i terms b)
  pub propagation : (clauses : List Clause) (hints : List ℕ) (clause : Clause) (assigned : ℕ → Bool) → Rup clauses hints clause → ((hint : ℕ) (named : Clause) → Contains hints hint → IsNumbered clauses hint named → HoldsUnder assigned named) → HoldsUnder assigned clause

-- all of it
pub record Setting (d : Declarations) (i : Interp) (terms : Terms) : Type 0 where
  pub same : Sameness
  pub values : ValueFacts d i
  pub table : TermFacts d i terms
  pub truths : TruthFacts d i terms
