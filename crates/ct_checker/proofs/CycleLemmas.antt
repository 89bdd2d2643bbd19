-- Cycles are impossible: along one the values make a chain through datatypes that comes back to where it began.
use Rattle.std.proofs.Common.{ℕ, List, [], ◌∷◌, ◌++◌}
use Rattle.ct_lemmas.proofs.Contained.{Contains-from_slice_get}
use Rattle.ct_sorts.specs.Declarations.{Declarations}
use Rattle.ct_values.specs.Value.{Value}
use Rattle.ct_values.specs.ValueSort.{IsOfData, IsLinked, IsDataChain}
use Rattle.ct_terms.specs.declared.ids.TermId.{TermId}
use Rattle.ct_terms.specs.Terms.{Terms}
use Rattle.ct_eval.specs.declared.interp.Interp.{Interp}
use Rattle.ct_eval.specs.Evaluation.{value_of}
use Rattle.ct_rules.specs.Rules.{Equations}
use Rattle.ct_rules.specs.Cycle.{IsOfDatatype, LeadsTo, LeadBack, IsCycle}
use Rattle.ct_checker.proofs.Setting.{Setting, Equal, value_point}
use Rattle.ct_checker.proofs.ValueLemmas.{argument_at}

module _ (d : Declarations) (i : Interp) (terms : Terms) (setting : Setting d i terms) (known : Equations) (sound : (x y : TermId) → known x y → Equal d i terms x y) where
  -- the value of a term of a datatype is of the datatype
  of_data : (t : TermId) → IsOfDatatype d terms t → IsOfData d i.graph (value_of d i terms t)
  of_data t of = (of.id, of.sort, setting.table.sorted t of.id of.sorted, of.declared, of.kind)

  -- where a term leads to the next its value is linked to that of the next
  linked : (con : TermId) (place : ℕ) (next : TermId) → LeadsTo d terms known con place next → IsLinked i.graph (value_of d i terms con) (value_of d i terms next)
  linked con place next leads = (
    value_of d i terms leads.argument,
    Contains-from_slice_get _ place _ (argument_at d i terms setting con leads.ctor leads.args place leads.argument leads.stands leads.at),
    sound leads.argument next leads.equal,
  )

  -- the first of the terms is of a datatype
  first_of_data : (hop : TermId × ℕ) (hops : List (TermId × ℕ)) (end : TermId) → LeadBack d terms known (hop ∷ hops) end → IsOfDatatype d terms hop.0
  first_of_data hop [] end back = back.datatype
  first_of_data hop (next ∷ hops) end back = back.0.datatype

  -- the values along the terms are a chain to that of the end
  chain_to : (hop : TermId × ℕ) (hops : List (TermId × ℕ)) (end : TermId) → IsOfData d i.graph (value_of d i terms end) → LeadBack d terms known (hop ∷ hops) end → (chain : List Value) × IsDataChain d i.graph (value_of d i terms hop.0) (chain ++ value_of d i terms end ∷ [])
  chain_to hop [] end of back = ([], (of_data hop.0 back.datatype, linked hop.0 hop.1 end back, of))
  chain_to hop (next ∷ hops) end of back =
      let rest = chain_to next hops end of back.1 in
      (value_of d i terms next.0 ∷ rest.0, (of_data hop.0 back.0.datatype, linked hop.0 hop.1 next.0 back.0, rest.1))

  pub no_cycle : (hops : List (TermId × ℕ)) → IsCycle d terms known hops → ⊥
  no_cycle [] cycle = cycle
  no_cycle (hop ∷ hops) cycle =
      let chain = chain_to hop hops hop.0 (of_data hop.0 (first_of_data hop hops hop.0 cycle)) cycle in
      setting.values.no_cycle (value_of d i terms hop.0) chain.0 (value_of d i terms hop.0) chain.1 (setting.same.itself (value_point d i terms hop.0))
