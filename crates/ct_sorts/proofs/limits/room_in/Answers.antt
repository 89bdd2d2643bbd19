use Rattle.std.proofs.Common.{◌≡◌, ◌+◌, ◌-◌, List, ap, ◌∙◌, arith}
use Rattle.std.proofs.lemmas.List.{length-map}
use Rattle.ct_generics.specs.Denoted.{declared_of}
use Rattle.ct_sorts.specs.declared.spelling.Spelling.{Spelling}
use Rattle.ct_sorts.specs.Declarations.{most_sorts, most_ctors, most_sels}
use Rattle.ct_sorts.specs.Limits.{generic_ctors, generic_sels, sort_count, ctor_count, sel_count}
use Rattle.ct_sorts.specs.Stored.{sort_of_entry, ctor_of, sel_of}
use Rattle.ct_sorts.specs.Tabled.{of_tables}
use Rattle.ct_sorts.proofs.TotalLemmas.{within_sorts}
use Rattle.ct_sorts.proofs.limits.room_in.Goals as goal

pub overflow_add-result-2 : goal.overflow_add-result-2
overflow_add-result-2 c =
    let few = within_sorts (of_tables c.args.tables.now c.requires.within.0 c.requires.within.1) c.requires.within.2 in
    omega (arith, few, length-map c.args.tables.now.sorts sort_of_entry, c.len.ensures.len, c.generic_totals-generics.ensures.sorts, c.synonym_count-synonyms.ensures.count (declared_of c.args.tables.now.generics) c.requires.declared)

pub overflow_sub-result : goal.overflow_sub-result
overflow_sub-result c =
    let few = within_sorts (of_tables c.args.tables.now c.requires.within.0 c.requires.within.1) c.requires.within.2 in
    omega (arith, few, length-map c.args.tables.now.sorts sort_of_entry, c.len.ensures.len, c.generic_totals-generics.ensures.sorts, c.synonym_count-synonyms.ensures.count (declared_of c.args.tables.now.generics) c.requires.declared)

pub returns : goal.returns
returns c =
    let t = c.args.tables.now in
    let heads = (declared_of t.generics).heads in
    let ctors = c.generic_totals-generics.ensures.ctors ∙ ap (λ (all : List (List Spelling)). generic_ctors heads all) c.as_slice.ensures.value in
    let sels = c.generic_totals-generics.ensures.sels ∙ ap (λ (all : List (List Spelling)). generic_sels heads all) c.as_slice.ensures.value in
    record {
      room = λ fs ds.
          let d = of_tables t fs ds in
          let first : c.len.result + c.generic_totals-generics.result.sorts + c.synonym_count-synonyms.result ≡ sort_count d = omega (arith, length-map c.args.tables.now.sorts sort_of_entry, c.len.ensures.len, c.generic_totals-generics.ensures.sorts, c.synonym_count-synonyms.ensures.count (declared_of t.generics) c.requires.declared) in
          let second : c.len-2.result + c.generic_totals-generics.result.ctors ≡ ctor_count d = omega (arith, length-map t.ctors (ctor_of t.spellings), c.len-2.ensures.len, ctors) in
          let third : c.len-3.result + c.generic_totals-generics.result.sels ≡ sel_count d = omega (arith, length-map t.sels (sel_of t.spellings), c.len-3.ensures.len, sels) in
          λ i. record { sorts = ap (λ n. most_sorts - n) first i; ctors = ap (λ n. most_ctors - n) second i; sels = ap (λ n. most_sels - n) third i };
    }
