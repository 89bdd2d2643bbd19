use Rattle.std.proofs.Common.{◌≡◌, ◌-◌, List, ap, ◌∙◌, arith}
use Rattle.std.proofs.lemmas.List.{length-map}
use Rattle.ct_generics.specs.Denoted.{declared_of}
use Rattle.ct_sorts.specs.declared.spelling.Spelling.{Spelling}
use Rattle.ct_sorts.specs.Declarations.{most_sorts, most_ctors, most_sels}
use Rattle.ct_sorts.specs.Limits.{generic_ctors, generic_sels, sort_count, ctor_count, sel_count}
use Rattle.ct_sorts.specs.Stored.{sort_of_entry, ctor_of, sel_of}
use Rattle.ct_sorts.specs.Tabled.{of_tables}
use Rattle.ct_sorts.proofs.TotalLemmas.{within_sorts}
use Rattle.ct_sorts.proofs.limits.sort_count.Goals as goal

pub overflow_add-result-2 : goal.overflow_add-result-2
overflow_add-result-2 c =
    let few = within_sorts (of_tables c.args.tables.now c.requires.within.0 c.requires.within.1) c.requires.within.2 in
    omega (arith, few, length-map c.args.tables.now.sorts sort_of_entry, c.len.ensures.len, c.generic_totals-generics.ensures.sorts, c.synonym_count.ensures.count (declared_of c.args.tables.now.generics) c.requires.declared)

pub returns : goal.returns
returns c = record { count = λ fs ds. omega (arith, length-map c.args.tables.now.sorts sort_of_entry, c.len.ensures.len, c.generic_totals-generics.ensures.sorts, c.synonym_count.ensures.count (declared_of c.args.tables.now.generics) c.requires.declared) }
