use Rattle.ct_formulas.proofs.FormulaSortLemmas.{sorted_mentions, fields_of_sorted, compiled_sorted, given_sorted, core_of_sorted}
use Rattle.ct_formulas.proofs.OccurrenceLemmas.{compiled_same, definitions_same, core_of_same}
use Rattle.ct_formulas.proofs.OccurringSubterms.{occurring_under, calls_give_used, core_of_under}
use Rattle.ct_formulas.proofs.CompiledReach.{core_of_reaches}
use Rattle.ct_formulas.proofs.QuantifierLemmas.{sorted_choices}
use Rattle.ct_formulas.proofs.theorems.formulas.Goals as goal

pub returns-clause-mentions : goal.returns-clause-mentions
returns-clause-mentions c = sorted_mentions

pub returns-clause-sorted : goal.returns-clause-sorted
returns-clause-sorted c = λ d bodies env sorts t sort consistent sound fit h.
    core_of_sorted d (c.structure.ensures.own_selectors d consistent) (sorted_choices d (λ v s. c.listed_values.ensures.term d v s) (λ ss vs. c.listed_values.ensures.choices d ss vs consistent)) bodies sound env sorts t sort fit h

pub returns-clause-compiled : goal.returns-clause-compiled
returns-clause-compiled c = λ d n call env sorts t sort consistent give fit m h.
    compiled_sorted d (c.structure.ensures.own_selectors d consistent) (sorted_choices d (λ v s. c.listed_values.ensures.term d v s) (λ ss vs. c.listed_values.ensures.choices d ss vs consistent)) n call give t env sorts sort fit m h

pub returns-clause-calls : goal.returns-clause-calls
returns-clause-calls c = λ d bodies n consistent sound. given_sorted d (c.structure.ensures.own_selectors d consistent) (sorted_choices d (λ v s. c.listed_values.ensures.term d v s) (λ ss vs. c.listed_values.ensures.choices d ss vs consistent)) bodies sound n

pub returns-clause-fields : goal.returns-clause-fields
returns-clause-fields c = λ d k ctor t sorts consistent declared h fields.
    fields_of_sorted d (c.structure.ensures.own_selectors d consistent) k ctor t sorts declared h fields

pub returns-clause-occurring : goal.returns-clause-occurring
returns-clause-occurring c = λ d uses call t env others use_same h. compiled_same d uses call use_same t env others h

pub returns-clause-used : goal.returns-clause-used
returns-clause-used c = definitions_same

pub returns-clause-same : goal.returns-clause-same
returns-clause-same c = λ d bodies t env others h. core_of_same d bodies t env others h

pub returns-clause-longer : goal.returns-clause-longer
returns-clause-longer c = λ later earlier bodies more env sorts t sort consistent extends sound fit h.
    core_of_reaches later earlier extends (c.structure.ensures.own_selectors earlier consistent) (c.structure.ensures.of_their_sorts earlier consistent)
    (sorted_choices earlier (λ v s. c.listed_values.ensures.term earlier v s) (λ ss vs. c.listed_values.ensures.choices earlier ss vs consistent))
    (record { listable = λ r. c.listed_values.ensures.lasting later earlier r consistent extends; listed = λ r. c.listed_values.ensures.longer later earlier r consistent extends }) bodies more sound t env sorts sort fit h

pub returns-clause-occurs : goal.returns-clause-occurs
returns-clause-occurs c = λ d bodies env sorts t sort i u sound h o at. core_of_under d bodies sound t env sorts sort i u h o at

pub returns-clause-occurring_subterm : goal.returns-clause-occurring_subterm
returns-clause-occurring_subterm c = λ d uses call env sorts t sort i u give h o at. occurring_under d uses call give t env sorts sort i u h o at

pub returns-clause-used_subterm : goal.returns-clause-used_subterm
returns-clause-used_subterm c = λ d bodies n sound. calls_give_used d bodies sound n
