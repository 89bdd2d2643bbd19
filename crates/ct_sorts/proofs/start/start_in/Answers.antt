use Rattle.std.proofs.Common.{◌≡◌, OnOk, refl, sym, ◌∙◌, ap, subst}
use Rattle.ct_generics.specs.declared.generics.Generics.{Generics}
use Rattle.ct_generics.specs.Stored.{AreDeclared}
use Rattle.ct_sorts.specs.declared.tables.Tables.{Tables}
use Rattle.ct_sorts.specs.Declarations.{start}
use Rattle.ct_sorts.specs.Tabled.{of_tables, IsTabled}
use Rattle.ct_sorts.proofs.ResultLemmas.{on_ok}
use Rattle.ct_sorts.proofs.StartTablesLemmas.{IsStart, on_all, start_is, start_tabled}
use Rattle.ct_sorts.proofs.start.start_in.Goals as goal

-- the tables keep the start where the last call succeeds
started : (c : goal.After-start_list) → OnOk c.start_list.result (IsStart c.start_list.new.tables)
started c =
    let new = c.start_list.new.tables in
    let same = c.start_list.ensures.others in
    on_all c.start_list.result (λ stand counted sorts texts entries ctors homes sels. record {
      declared = subst (λ (x : Tables). AreDeclared x.generics start.declared) (sym same) c.in_ok-start_heads.ensures.declared;
      stand = stand;
      counted = counted new.generics;
      spellings = ap (λ (x : Tables). x.spellings) same ∙ c.in_ok-start_heads.ensures.spellings;
      determined = ap (λ (x : Tables). x.determined) same ∙ c.in_ok-start_heads.ensures.determined;
      symbols = ap (λ (x : Tables). x.symbols) same ∙ c.in_ok-start_heads.ensures.symbols;
      sorts = sorts;
      texts = texts;
      entries = entries;
      ctors = ctors;
      homes = homes;
      sels = sels;
    }) c.start_list.ensures.stand c.start_list.ensures.counted c.start_list.ensures.sorts c.start_list.ensures.texts c.start_list.ensures.entries c.start_list.ensures.ctors c.start_list.ensures.homes c.start_list.ensures.sels

pub returns-clause-tabled : goal.returns-clause-tabled
returns-clause-tabled c = on_ok c.start_list.result (λ s. start_tabled c.facts.ensures.all c.start_list.new.tables s) (started c)

pub returns-clause-start : goal.returns-clause-start
returns-clause-start c = on_ok c.start_list.result (λ s. start_is c.facts.ensures.all c.start_list.new.tables s) (started c)
