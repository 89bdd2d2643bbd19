-- What was read stays read where the graph grows.
use Rattle.std.proofs.Common.{◌≡◌, ℕ, ◌+◌, ◌<◌, Bool, true, false, List, [], ◌∷◌, ◌++◌, length, length-append, Some, option_map, slice_get, sym, ap, subst, ◌∙◌, arith}
use Rattle.std.proofs.lemmas.Option.{none-some, same_Some}
use Rattle.ct_sorts.proofs.PieceLemmas.{Begins-trans}
use Rattle.ct_sorts.specs.declared.ids.SelId.{SelId}
use Rattle.ct_sorts.specs.declared.ids.SortId.{SortId}
use Rattle.ct_sorts.specs.Declarations.{Declarations, Function, Selector}
use Rattle.ct_sorts.specs.Grown.{Begins}
use Rattle.ct_sexpr.specs.Expression.{Expression, Expressions}
use Rattle.ct_values.specs.declared.node.NodeId.{NodeId}
use Rattle.ct_values.specs.Graph.{Nodes, IsClosed}
use Rattle.ct_values.specs.WellFormed.{IsWellFormedGraph}
use Rattle.ct_values.proofs.LastingLemmas.{fits_closed}
use Rattle.ct_card.specs.Sizes.{Table as Sizes}
use Rattle.ct_eval.specs.declared.interp.Row.{Row}
use Rattle.ct_eval.specs.declared.interp.Table.{Table}
use Rattle.ct_model.specs.ModelText.{can_miss}
use Rattle.ct_readback.specs.ItemText.{Due, due_function, due_off}
use Rattle.ct_readback.specs.ItemAt.{IsTestAt}
use Rattle.ct_readback.specs.ModelReads.{IsRefusedAt, IsFirstRefused}
use Rattle.ct_readback.specs.Said.{IsPart, AreNodesFor, all_points}
use Rattle.ct_readback.specs.declared.item.Part.TheVariants as parts
use Rattle.ct_readback.specs.Progress.{IsReadAt, IsOtherTable, AreFunctions, AreSelectors, AreDefaults, first_offs}
use Rattle.ct_readback.proofs.TreeSteps.{AreTreesSoFar, trees_so_far_longer}
use Rattle.ct_readback.proofs.PartLemmas.{AreEquationsSoFar, equations_longer, nodes_longer}
use Rattle.ct_readback.specs.BodySoFar.{IsBodySoFar}
use Rattle.ct_readback.proofs.BodySteps.{body_longer}
use Rattle.ct_readback.proofs.DefaultLemmas.{defaults_longer}
use Rattle.ct_readback.proofs.ModelLemmas.{functions_longer, functions_more}
use Rattle.ct_readback.proofs.SelectorLemmas.{offs_more, offs_same, selectors_longer, selectors_off, selectors_other}
use Rattle.ct_readback.proofs.RefusedLemmas.{selector_refused}

pub formed_closed : (d : Declarations) (g : Nodes) → IsWellFormedGraph d g → IsClosed g
formed_closed d g formed = fits_closed d g formed.fits

module _ (d : Declarations) (g new : Nodes) (formed : IsWellFormedGraph d g) (grown : Begins g new) where
  pub trees_begins : (fields : List SelId) (es : Expressions) (left : List SelId) (rest : Expressions) (nodes : List NodeId) → AreTreesSoFar d g fields es left rest nodes → AreTreesSoFar d new fields es left rest nodes
  trees_begins fields es left rest nodes h =
      subst (λ (k : Nodes). AreTreesSoFar d k fields es left rest nodes) (sym grown.1) (trees_so_far_longer d g grown.0 fields es left rest nodes (formed_closed d g formed) h)

  pub equations_begins : (sorts : List SortId) (equations : Expressions) (i : ℕ) (ss : List SortId) (left : Expressions) (b : Bool) (nodes : List NodeId)
      → AreEquationsSoFar d g sorts equations i ss left b nodes → AreEquationsSoFar d new sorts equations i ss left b nodes
  equations_begins sorts equations i ss left b nodes h =
      subst (λ (k : Nodes). AreEquationsSoFar d k sorts equations i ss left b nodes) (sym grown.1) (equations_longer d g grown.0 sorts equations i ss left b nodes (formed_closed d g formed) h)

  pub body_begins : (args : List SortId) (s : SortId) (body left : Expression) (b : Bool) (rows : List Row) → IsBodySoFar d args s body g left b rows → IsBodySoFar d args s body new left b rows
  body_begins args s body left b rows h =
      subst (λ (k : Nodes). IsBodySoFar d args s body k left b rows) (sym grown.1) (body_longer d args s body g grown.0 left b rows (formed_closed d g formed) h)

  pub args_begins : (sorts : List SortId) (test : Expression) (nodes : List NodeId) → IsPart d (IsTestAt d sorts test) all_points (AreNodesFor d g sorts) (parts.Fine nodes)
      → IsPart d (IsTestAt d sorts test) all_points (AreNodesFor d new sorts) (parts.Fine nodes)
  args_begins sorts test nodes (ps, says, never, have) =
      (ps, says, never, subst (λ (k : Nodes). AreNodesFor d k sorts ps nodes) (sym grown.1) (nodes_longer d g grown.0 sorts ps nodes (formed_closed d g formed) have))

  pub defaults_begins : (sizes : Sizes) (nodes : List NodeId) → AreDefaults d sizes g nodes → AreDefaults d sizes new nodes
  defaults_begins sizes nodes h = subst (λ (k : Nodes). AreDefaults d sizes k nodes) (sym grown.1) (defaults_longer d sizes g grown.0 nodes h)

  pub functions_begins : (items : List Expression) (count : ℕ) (tables : List Table) → AreFunctions d g items count tables → AreFunctions d new items count tables
  functions_begins items count tables h = subst (λ (k : Nodes). AreFunctions d k items count tables) (sym grown.1) (functions_longer d g grown.0 items count tables (formed_closed d g formed) h)

  pub functions_step : (items : List Expression) (count : ℕ) (tables : List Table) (table : Table) → AreFunctions d g items count tables
      → ((function : Function) → slice_get d.functions count ≡ Some function → IsReadAt d new items (due_function function) count table) → AreFunctions d new items (count + 1) (tables ++ table ∷ [])
  functions_step items count tables table h read = functions_more d new items count tables table (functions_begins items count tables h) read

  selectors_begins : (sizes : Sizes) (items : List Expression) (first count : ℕ) (tables : List Table) → AreSelectors d sizes g items first count tables → AreSelectors d sizes new items first count tables
  selectors_begins sizes items first count tables h =
      subst (λ (k : Nodes). AreSelectors d sizes k items first count tables) (sym grown.1) (selectors_longer d sizes items first g grown.0 count tables (formed_closed d g formed) h)

  pub off_step : (sizes : Sizes) (items : List Expression) (first count place : ℕ) (tables : List Table) (table : Table) → AreSelectors d sizes g items first count tables → can_miss d count ≡ true → place ≡ first + length (first_offs d count)
      → ((due : Due) → due_off d count ≡ Some due → IsReadAt d new items due place table) → AreSelectors d sizes new items first (count + 1) (tables ++ table ∷ [])
  off_step sizes items first count place tables table h misses at read =
      selectors_off d sizes items first new count tables table (selectors_begins sizes items first count tables h) misses
      (λ due is. subst (λ n. IsReadAt d new items due n table) at (read due is))

  pub other_step : (sizes : Sizes) (items : List Expression) (first count : ℕ) (tables : List Table) (table : Table) → AreSelectors d sizes g items first count tables → can_miss d count ≡ false
      → ((selector : Selector) → slice_get d.sels count ≡ Some selector → IsOtherTable d sizes new selector.sort table) → AreSelectors d sizes new items first (count + 1) (tables ++ table ∷ [])
  other_step sizes items first count tables table h no_miss is_other =
      selectors_other d sizes items first new count tables table (selectors_begins sizes items first count tables h) no_miss is_other

-- a graph without nodes is well formed
pub empty_formed : (d : Declarations) (g : Nodes) → g ≡ [] → IsWellFormedGraph d g
empty_formed d g nothing =
    subst (λ (k : Nodes). IsWellFormedGraph d k) (sym nothing) (record {
      fits = λ n node at. absurd (none-some node at);
      finite = λ n child node at contains data_n data_child. absurd (none-some node at);
    })

-- ---- selectors, one after the other

-- what is known of the first of them
abbrev pub AreSelectorsSoFar : Declarations → Sizes → List Expression → ℕ → Nodes → Nodes → ℕ → ℕ → List NodeId → List Table → Type 0
AreSelectorsSoFar d sizes items first start g count place defaults tables =
    Begins start g × IsWellFormedGraph d g × (place ≡ first + length (first_offs d count)) × AreDefaults d sizes g defaults × AreSelectors d sizes g items first count tables

module _ (d : Declarations) (sizes : Sizes) (items : List Expression) (first : ℕ) (start g : Nodes) (count place : ℕ) (defaults : List NodeId) (tables : List Table)
    (so_far : AreSelectorsSoFar d sizes items first start g count place defaults tables)
  where
    -- a table of default values more
    pub other_more : (new : Nodes) (later : List NodeId) (table : Table) (sort : SortId) → Begins g new → IsWellFormedGraph d new → can_miss d count ≡ false → AreDefaults d sizes new later
        → option_map (λ (x : Selector). x.sort) (slice_get d.sels count) ≡ Some sort → IsOtherTable d sizes new sort table → AreSelectorsSoFar d sizes items first start new (count + 1) place later (tables ++ table ∷ [])
    other_more new later table sort grown formed no_miss held at other = (
      Begins-trans start g new so_far.0 grown,
      formed,
      so_far.2 ∙ ap (λ (ns : List ℕ). first + length ns) (sym (offs_same d count no_miss)),
      held,
      other_step d g new so_far.1 grown sizes items first count tables table so_far.4 no_miss
          (λ selector here. subst (λ (s : SortId). IsOtherTable d sizes new s table) (sym (same_Some selector.sort sort (sym (ap (option_map (λ (x : Selector). x.sort)) here) ∙ at))) other),
    )

    -- and one of an item
    pub off_more : (new : Nodes) (table : Table) → Begins g new → IsWellFormedGraph d new → can_miss d count ≡ true → ((due : Due) → due_off d count ≡ Some due → IsReadAt d new items due place table)
        → AreSelectorsSoFar d sizes items first start new (count + 1) (place + 1) defaults (tables ++ table ∷ [])
    off_more new table grown formed misses read =
        let more_offs : length (first_offs d (count + 1)) ≡ length (first_offs d count) + 1 = ap length (offs_more d count misses) ∙ length-append (first_offs d count) (count ∷ []) in
        let at = so_far.2 in (
          Begins-trans start g new so_far.0 grown,
          formed,
          omega (arith, at, more_offs),
          defaults_begins d g new so_far.1 grown sizes defaults so_far.3,
          off_step d g new so_far.1 grown sizes items first count place tables table so_far.4 misses at read,
        )

    -- one is refused
    pub off_refused : (funs : List Table) (code : ℕ) → IsWellFormedGraph d start → first ≡ length d.functions → AreFunctions d start items first funs → count < length d.sels → can_miss d count ≡ true
        → IsRefusedAt d (Some (due_off d count)) (slice_get items place) code → IsFirstRefused d items place code
    off_refused funs code formed is_first functions less misses refused =
        let at : place ≡ length d.functions + length (first_offs d count) = so_far.2 ∙ ap (λ n. n + length (first_offs d count)) is_first in
        let own = subst (λ n. AreFunctions d g items n funs) is_first (functions_begins d start g formed so_far.0 items first funs functions) in
        let selectors = subst (λ n. AreSelectors d sizes g items n count tables) is_first so_far.4 in
        subst (λ n. IsFirstRefused d items n code) (sym at)
        (selector_refused d sizes g items funs tables count (omega (arith, less)) own selectors code less misses (subst (λ n. IsRefusedAt d (Some (due_off d count)) (slice_get items n) code) at refused))
