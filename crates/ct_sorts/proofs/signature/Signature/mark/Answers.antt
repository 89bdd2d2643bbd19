use Rattle.std.proofs.Common.{◌≡◌, ℕ, ◌+◌, ◌<◌, ◌≤◌, List, length, map, refl, sym, ◌∙◌, ap, subst, arith}
use Rattle.std.proofs.lemmas.List.{length-map}
use Rattle.ct_generics.specs.Denoted.{declared_of}
use Rattle.ct_sorts.specs.Consistent.{IsConsistent}
use Rattle.ct_sorts.specs.Declarations.{start}
use Rattle.ct_sorts.specs.Lengths.{Lengths}
use Rattle.ct_sorts.specs.Limits.{generic_count}
use Rattle.ct_sorts.specs.Marks.{CanCut, lengths}
use Rattle.ct_sorts.specs.Stored.{sort_of_entry, ctor_of, sel_of, function_of}
use Rattle.ct_sorts.specs.Tabled.{of_tables}
use Rattle.ct_sorts.specs.declared.ids.Symbol.{Symbol}
use Rattle.ct_sorts.proofs.ConsistentLemmas.{begins}
use Rattle.ct_sorts.proofs.GetterLemmas.{heads_few}
use Rattle.ct_sorts.proofs.GrowthLemmas.{can_cut_to_earlier}
use Rattle.ct_sorts.proofs.TotalLemmas.{within_sorts}
use Rattle.ct_sorts.proofs.signature.Signature.mark.Goals as goal

pub invariant_of-result : goal.invariant_of-result
invariant_of-result c = omega (arith, begins 1 _ start.sorts c.self.invariant.consistent.first_sort refl, length-map c.self.inside.tables.sorts sort_of_entry, c.len.ensures.len)

pub overflow_cast-result-6 : goal.overflow_cast-result-6
overflow_cast-result-6 c =
    let t = c.self.inside.tables in
    let d = of_tables t (map function_of c.self.inside.functions) (map function_of c.self.inside.definitions) in
    omega (arith, heads_few d c.self.invariant.consistent, c.head_count.ensures.count (declared_of t.generics) c.self.invariant.tabled.declared)

pub overflow_cast-result-7 : goal.overflow_cast-result-7
overflow_cast-result-7 c =
    let t = c.self.inside.tables in
    let d = of_tables t (map function_of c.self.inside.functions) (map function_of c.self.inside.definitions) in
    let all : length d.sorts + generic_count d.declared.heads + length d.declared.synonyms ≤ 4096 = within_sorts d c.self.invariant.consistent.within in
    omega (arith, all, c.synonym_count.ensures.count (declared_of t.generics) c.self.invariant.tabled.declared)

pub returns : goal.returns
returns c =
    let t = c.self.inside.tables in
    let consistent = c.self.invariant.consistent in
    let tab = c.self.invariant.tabled in
    let sorts : c.len.result ≡ length (map sort_of_entry t.sorts) = c.len.ensures.len ∙ sym (length-map t.sorts sort_of_entry) in
    let heads : c.head_count.result ≡ length (declared_of t.generics).heads = c.head_count.ensures.count (declared_of t.generics) tab.declared in
    let same : ◌≡◌ {A = Lengths} (record { sorts = c.len.result; ctors = c.len-2.result; sels = c.len-3.result; functions = c.len-4.result; definitions = c.len-5.result; heads = c.head_count.result; synonyms = c.synonym_count.result; symbols = c.len-6.result; origins = c.len.result; spellings = c.head_count.result }) (lengths c.args.self.now) =
    (λ j. record {
      sorts = sorts j;
      ctors = (c.len-2.ensures.len ∙ sym (length-map t.ctors (ctor_of t.spellings))) j;
      sels = (c.len-3.ensures.len ∙ sym (length-map t.sels (sel_of t.spellings))) j;
      functions = (c.len-4.ensures.len ∙ sym (length-map c.self.inside.functions function_of)) j;
      definitions = (c.len-5.ensures.len ∙ sym (length-map c.self.inside.definitions function_of)) j;
      heads = heads j;
      synonyms = c.synonym_count.ensures.count (declared_of t.generics) tab.declared j;
      symbols = (c.len-6.ensures.len ∙ sym (length-map t.symbols (λ (e : List ℕ × Symbol). e.0)) ∙ ap length tab.symbols) j;
      origins = (sorts ∙ sym consistent.origins.one_each) j;
      spellings = (heads ∙ sym consistent.heads.one_each) j;
    })
    ∙ ap lengths c.self.view_is in
    record {
      lengths = same;
      lasting = λ later grown. subst (CanCut later) (sym same) (can_cut_to_earlier later c.args.self.now (subst IsConsistent c.self.view_is consistent) grown);
    }
