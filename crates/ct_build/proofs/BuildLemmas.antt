-- In the interpretation that is built two terms have one value exactly where they are of one class.
use Rattle.std.proofs.Common.{◌≡◌, ◌↔◌, IsTrue, List, length, slice_get, Some, sym, subst}
use Rattle.std.proofs.lemmas.Option.{slice_get_within}
use Rattle.ct_sorts.specs.declared.ids.SortId.{SortId}
use Rattle.ct_sorts.specs.Declarations.{Declarations}
use Rattle.ct_card.specs.Sizes.{Table, AreSizes}
use Rattle.ct_closure.specs.ClosedTable.{IsClosedTable}
use Rattle.ct_values.specs.declared.node.NodeId.{NodeId}
use Rattle.ct_values.specs.Graph.{IsClosed}
use Rattle.ct_terms.specs.declared.ids.TermId.{TermId}
use Rattle.ct_terms.specs.declared.term.Core.{Core}
use Rattle.ct_terms.specs.Terms.{Terms, IsOfSort}
use Rattle.ct_congr.specs.State.{State, AreEqual, IsQuiet}
use Rattle.ct_unique.specs.Partition.{IsStronglyExtensional}
use Rattle.ct_eval.specs.declared.interp.Interp.{Interp}
use Rattle.ct_eval.specs.Evaluation.{core_value, is_same, value_of}
use Rattle.ct_build.specs.Assignment.{AreDecided}
use Rattle.ct_build.specs.OpenClasses.{HaveOwnRepresentatives}
use Rattle.ct_build.specs.Nodes.{AreValued}
use Rattle.ct_build.specs.Tables.{AreFunctionRows, AreSelectorRows}
use Rattle.ct_build.specs.Buildable.{AreBuildable}
use Rattle.ct_build.specs.Known.{Known}
use Rattle.ct_build.proofs.KnownLemmas.{represented, sized}
use Rattle.ct_build.proofs.EvaluatedLemmas.{one_value}

-- a term evaluates by its layer
abbrev Unfolds : Declarations → Terms → Interp → Type 0
Unfolds d terms i = (t : TermId) (core : Core) (sort : SortId) → slice_get terms t.0 ≡ Some (core, sort) → value_of d i terms t ≡ core_value d i (value_of d i terms) core

abbrev HaveOneValue : Declarations → Terms → Interp → State → Type 0
HaveOneValue d terms i state = (t u : TermId) (s : SortId) → IsOfSort terms t s → IsOfSort terms u s → IsTrue (is_same i.graph (value_of d i terms t) (value_of d i terms u)) ↔ AreEqual state t u

module _ (state : State) (known : Known state) (sizes : Table) (buildable : AreBuildable state sizes) (i : Interp) (closed : IsClosed i.graph) (nodes : List NodeId) (valued : AreValued state i.graph nodes) (offs : AreSelectorRows state nodes (length state.terms) i.offs) where
  at_state : AreFunctionRows state.terms nodes (length state.terms) i.funs → Unfolds state.declarations state.terms i → HaveOneValue state.declarations state.terms i state
  at_state funs unfolds t u s is_t is_u =
      one_value known.laws state known.sorted known.ordered known.begins known.consistent known.own_sorts known.own_ctors known.some (represented state known buildable.own) buildable.quiet buildable.decided (sized state known sizes buildable) (known.splits buildable.closed)
      i closed nodes valued funs offs unfolds t u (slice_get_within state.terms t.0 _ is_t.1) (slice_get_within state.terms u.0 _ is_u.1)

  pub one_value_in : (d : Declarations) (terms : Terms) → state.declarations ≡ d → state.terms ≡ terms → AreFunctionRows terms nodes (length terms) i.funs → Unfolds d terms i → HaveOneValue d terms i state
  one_value_in d terms e f =
      subst (λ (ts : Terms). AreFunctionRows ts nodes (length ts) i.funs → Unfolds d ts i → HaveOneValue d ts i state) f
      (subst (λ (k : Declarations). AreFunctionRows state.terms nodes (length state.terms) i.funs → Unfolds k state.terms i → HaveOneValue k state.terms i state) e at_state)

-- classes over declarations and terms that are theirs can be given values
pub buildable_from : (state : State) (sizes : Table) (d : Declarations) (terms : Terms) → state.declarations ≡ d → state.terms ≡ terms → AreSizes d sizes → IsQuiet state → IsStronglyExtensional state → IsClosedTable d terms → AreDecided state → HaveOwnRepresentatives state → AreBuildable state sizes
buildable_from state sizes d terms e f sized quiet extensional closed decided own = record {
  sized = subst (λ (k : Declarations). AreSizes k sizes) (sym e) sized;
  quiet = quiet;
  extensional = extensional;
  closed = subst (λ (k : Declarations). IsClosedTable k state.terms) (sym e) (subst (λ (ts : Terms). IsClosedTable d ts) (sym f) closed);
  decided = decided;
  own = own;
}
