-- What a trial is: an interpretation of what is declared, and the values in it of the first terms of a table.
use Rattle.std.specs.Prelude.{◌≡◌, ℕ, ◌<◌, ◌≤◌, ◌⊎◌, List, length, map, take, Some, slice_get}
use Rattle.indexmap.specs.IndexMap.{IndexMap}
use Rattle.ct_sorts.specs.Declarations.{Declarations}
use Rattle.ct_sorts.specs.Consistent.{IsConsistent}
use Rattle.ct_sorts.specs.Grown.{Extends}
use Rattle.ct_sorts.specs.declared.ids.FunId.{FunId}
use Rattle.ct_sorts.specs.declared.ids.SortId.{SortId}
use Rattle.ct_values.specs.declared.node.NodeId.{NodeId}
use Rattle.ct_terms.specs.declared.ids.TermId.{TermId}
use Rattle.ct_terms.specs.declared.term.Core.{Core}
use Rattle.ct_terms.specs.declared.term.Core.TheVariants.{Apply}
use Rattle.ct_terms.specs.Terms.{Terms, Has, IsOfSort, AreOrdered, HasArgumentsBelow}
use Rattle.ct_eval.specs.declared.interp.Interp.{Interp}
use Rattle.ct_eval.specs.declared.index.RowKey.{RowKey}
use Rattle.ct_eval.specs.Interpretation.{IsProper}
use Rattle.ct_eval.specs.Evaluation.{value_of}
use Rattle.ct_eval.specs.EvaluationStep.{HasValue, AreValued}
use Rattle.ct_trial.specs.declared.trial.Trial.{Trial}
use Rattle.ct_eval.specs.Index.{AreIndexed}
use Rattle.ct_trial.specs.Growth.{HasRow, AreRowed}

-- the interpretation is one of the declarations, and the map has the rows of its functions; the first terms of the table, as many as
-- there are nodes, have the representatives of their values in it; and each of them that applies a function has a row for its arguments
pub record IsTried {S : Type 0} (d : Declarations) (terms : Terms) (i : Interp) (funs : IndexMap RowKey NodeId S) (nodes : List NodeId) : Type 0 where
  pub consistent : IsConsistent d
  pub ordered : AreOrdered terms
  pub proper : IsProper d i
  pub functions : AreIndexed i.graph i.funs funs
  pub few : length nodes ≤ length terms
  pub valued : AreValued d i terms i.graph nodes (value_of d i terms)
  pub rowed : AreRowed d i terms (length nodes)

-- the trial has in this interpretation the values of the first terms of the table, and finds representatives in its graph
pub record IsTrial (d : Declarations) (terms : Terms) (i : Interp) (t : Trial) : Type 0 where
  pub tried : IsTried d terms i t.funs t.nodes.items
  pub selectors : AreIndexed i.graph i.offs t.offs
  pub shared : t.shared ≡ i.graph

-- the term is one of the table, and the terms right under it are among the first, so many
pub record IsOver (terms : Terms) (count : ℕ) (t : TermId) : Type 0 where
  pub within : t.0 < length terms
  pub below : (core : Core) → Has terms core t.0 → HasArgumentsBelow count core

-- the node is the representative of the term's value
abbrev pub IsNodeOf : Declarations → Terms → Interp → TermId → NodeId → Type 0
IsNodeOf d terms i t n = (sort : SortId) → IsOfSort terms t sort → HasValue d i i.graph (value_of d i terms t) sort n

-- where the term applies a function, it has a row for its arguments
abbrev pub IsRowed : Declarations → Terms → Interp → TermId → Type 0
IsRowed d terms i t =
    (f : FunId) (args : List TermId) (sort : SortId) → slice_get terms t.0 ≡ Some (Apply f args, sort)
    → HasRow i.graph (slice_get i.funs f.0) (map (value_of d i terms) args)

-- the later declarations are the earlier ones, of which functions at the end may have gone, and others than sorts, constructors and selectors
pub record IsCutTo (earlier later : Declarations) : Type 0 where
  pub consistent : IsConsistent later
  pub sorts : later.sorts ≡ earlier.sorts
  pub ctors : later.ctors ≡ earlier.ctors
  pub sels : later.sels ≡ earlier.sels
  pub functions : later.functions ≡ take (length later.functions) earlier.functions

-- the later declarations are the earlier ones, and more or less than these
abbrev pub Follows : Declarations → Declarations → Type 0
Follows earlier later = IsCutTo earlier later ⊎ (IsConsistent earlier × Extends later earlier)
