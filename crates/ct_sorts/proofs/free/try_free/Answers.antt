use Rattle.std.proofs.Common.{◌≡◌, ℕ, ◌+◌, ◌<◌, ◌≤◌, List, length, map, drop, Some, slice_get, inl, refl, sym, ◌∙◌, ap, subst, subst₂, arith}
use Rattle.ct_generics.specs.declared.sort_table.SortTable.{SortTable}
use Rattle.ct_generics.specs.Declarations.{Head, Synonym}
use Rattle.ct_generics.specs.Denoted.{declared_of, sorts_of}
use Rattle.ct_generics.specs.Expression.{named}
use Rattle.ct_sorts.specs.declared.tables.Tables.{Tables}
use Rattle.ct_sorts.specs.Availability.{IsListed}
use Rattle.ct_sorts.proofs.FreeStepLemmas.{AreFreeSteps, freed_consistent, freed_first, freed_from, freed_generic, freed_plain, freed_ready, freed_tabled, freed_within, head_fits, next_fresh, one_fits}
use Rattle.ct_sorts.proofs.GrowLemmas.{grown_further}
use Rattle.ct_sorts.proofs.LookupLemmas.{IsListed-left}
use Rattle.ct_sorts.proofs.ResultLemmas.{on_ok}
use Rattle.ct_sorts.proofs.free.try_free.Goals as goal

pub declare_head-requires-clause-standing : goal.declare_head-requires-clause-standing
declare_head-requires-clause-standing c = record { declared = c.requires.tabled.declared; stand = c.requires.tabled.stand }

pub declare_head-requires-clause-free : goal.declare_head-requires-clause-free
declare_head-requires-clause-free c =
    let d = declared_of c.args.tables.now.generics in
    let heads = map (λ (h : Head). h.name) d.heads in
    λ listed. c.requires.free (inl (IsListed-left heads (map (λ (s : Synonym). s.name) d.synonyms) c.args.name.now (subst (λ (names : List (List ℕ)). IsListed names c.args.name.now) c.requires.tabled.declared.names_are listed)))

pub list_head-requires-clause-standing : goal.list_head-requires-clause-standing
list_head-requires-clause-standing c = c.declare_head.ensures.standing

pub list_head-requires-clause-fresh : goal.list_head-requires-clause-fresh
list_head-requires-clause-fresh c =
    let t = c.args.tables.now in
    let fs = c.requires.consistent.0 in
    let ds = c.requires.consistent.1 in
    let first : c.head_count-first_head.result ≡ length (declared_of t.generics).heads = c.head_count-first_head.ensures.count (declared_of t.generics) c.requires.tabled.declared in
    let table : c.declare_head.new.tables.table ≡ t.table = ap (λ (x : Tables). x.table) c.declare_head.ensures.others in
    subst₂ (λ (x : SortTable) (n : ℕ). (s : ℕ) → slice_get (sorts_of x) s ≡ Some (named n) → ⊥) (sym table) (sym first) (next_fresh t fs ds c.requires.consistent.2 c.requires.few)

pub list_head-requires-clause-sorts_few : goal.list_head-requires-clause-sorts_few
list_head-requires-clause-sorts_few c =
    let t = c.args.tables.now in
    let fs = c.requires.consistent.0 in
    let ds = c.requires.consistent.1 in
    let table : c.declare_head.new.tables.table ≡ t.table = ap (λ (x : Tables). x.table) c.declare_head.ensures.others in
    omega (arith, ap (λ (x : SortTable). length x.sorts) table, one_fits t fs ds c.requires.consistent.2 c.requires.few)

pub list_head-requires-clause-heads_few : goal.list_head-requires-clause-heads_few
list_head-requires-clause-heads_few c =
    let t = c.args.tables.now in
    let fs = c.requires.consistent.0 in
    let ds = c.requires.consistent.1 in
    let first : c.head_count-first_head.result ≡ length (declared_of t.generics).heads = c.head_count-first_head.ensures.count (declared_of t.generics) c.requires.tabled.declared in
    omega (arith, first, head_fits t fs ds c.requires.consistent.2 c.requires.few)

pub returns-in_err-list_head-clause-grown : goal.returns-in_err-list_head-clause-grown
returns-in_err-list_head-clause-grown c = grown_further c.args.tables.now c.declare_head.new.tables c.list_head.new.tables c.declare_head.ensures.grown c.list_head.ensures.grown

pub returns-in_err-list_head-clause-standing : goal.returns-in_err-list_head-clause-standing
returns-in_err-list_head-clause-standing c = c.list_head.ensures.standing

pub push_sorts-requires-clause-ready : goal.push_sorts-requires-clause-ready
push_sorts-requires-clause-ready c =
    let t = c.args.tables.now in
    let fs = c.requires.consistent.0 in
    let ds = c.requires.consistent.1 in
    let first : c.head_count-first_head.result ≡ length (declared_of t.generics).heads = c.head_count-first_head.ensures.count (declared_of t.generics) c.requires.tabled.declared in
    let one = c.declare_head.new.tables in
    let mid = c.list_head.new.tables in
    let steps : AreFreeSteps t one mid c.args.name.now c.args.params c.head_count-first_head.result =
    record {
      first = first;
      one_is = c.declare_head.ensures.others;
      declared = c.in_ok-declare_head.ensures.declared;
      spellings = c.in_ok-declare_head.ensures.spellings;
      determined = c.in_ok-declare_head.ensures.determined;
      mid_is = c.list_head.ensures.others;
      origins = c.in_ok-list_head.ensures.ok;
      standing = c.list_head.ensures.standing;
    } in
    freed_ready c.facts.ensures.all t one mid fs ds c.args.name.now c.args.params c.head_count-first_head.result c.requires.consistent.2 c.requires.tabled c.requires.free c.requires.few steps

pub push_sorts-requires-clause-first : goal.push_sorts-requires-clause-first
push_sorts-requires-clause-first c =
    let t = c.args.tables.now in
    let fs = c.requires.consistent.0 in
    let ds = c.requires.consistent.1 in
    let first : c.head_count-first_head.result ≡ length (declared_of t.generics).heads = c.head_count-first_head.ensures.count (declared_of t.generics) c.requires.tabled.declared in
    let one = c.declare_head.new.tables in
    let mid = c.list_head.new.tables in
    let steps : AreFreeSteps t one mid c.args.name.now c.args.params c.head_count-first_head.result =
    record {
      first = first;
      one_is = c.declare_head.ensures.others;
      declared = c.in_ok-declare_head.ensures.declared;
      spellings = c.in_ok-declare_head.ensures.spellings;
      determined = c.in_ok-declare_head.ensures.determined;
      mid_is = c.list_head.ensures.others;
      origins = c.in_ok-list_head.ensures.ok;
      standing = c.list_head.ensures.standing;
    } in
    freed_first c.facts.ensures.all t one mid fs ds c.args.name.now c.args.params c.head_count-first_head.result c.requires.consistent.2 c.requires.tabled c.requires.free c.requires.few steps c.len-first_sort.result c.len-first_sort.ensures.len

pub push_sorts-requires-clause-within : goal.push_sorts-requires-clause-within
push_sorts-requires-clause-within c =
    let t = c.args.tables.now in
    let fs = c.requires.consistent.0 in
    let ds = c.requires.consistent.1 in
    let first : c.head_count-first_head.result ≡ length (declared_of t.generics).heads = c.head_count-first_head.ensures.count (declared_of t.generics) c.requires.tabled.declared in
    let one = c.declare_head.new.tables in
    let mid = c.list_head.new.tables in
    let steps : AreFreeSteps t one mid c.args.name.now c.args.params c.head_count-first_head.result =
    record {
      first = first;
      one_is = c.declare_head.ensures.others;
      declared = c.in_ok-declare_head.ensures.declared;
      spellings = c.in_ok-declare_head.ensures.spellings;
      determined = c.in_ok-declare_head.ensures.determined;
      mid_is = c.list_head.ensures.others;
      origins = c.in_ok-list_head.ensures.ok;
      standing = c.list_head.ensures.standing;
    } in
    freed_from c.facts.ensures.all t one mid fs ds c.args.name.now c.args.params c.head_count-first_head.result c.requires.consistent.2 c.requires.tabled c.requires.free c.requires.few steps c.len-first_sort.result c.len-first_sort.ensures.len

pub push_sorts-requires-clause-few : goal.push_sorts-requires-clause-few
push_sorts-requires-clause-few c =
    let t = c.args.tables.now in
    let fs = c.requires.consistent.0 in
    let ds = c.requires.consistent.1 in
    let first : c.head_count-first_head.result ≡ length (declared_of t.generics).heads = c.head_count-first_head.ensures.count (declared_of t.generics) c.requires.tabled.declared in
    let one = c.declare_head.new.tables in
    let mid = c.list_head.new.tables in
    let steps : AreFreeSteps t one mid c.args.name.now c.args.params c.head_count-first_head.result =
    record {
      first = first;
      one_is = c.declare_head.ensures.others;
      declared = c.in_ok-declare_head.ensures.declared;
      spellings = c.in_ok-declare_head.ensures.spellings;
      determined = c.in_ok-declare_head.ensures.determined;
      mid_is = c.list_head.ensures.others;
      origins = c.in_ok-list_head.ensures.ok;
      standing = c.list_head.ensures.standing;
    } in
    freed_within c.facts.ensures.all t one mid fs ds c.args.name.now c.args.params c.head_count-first_head.result c.requires.consistent.2 c.requires.tabled c.requires.free c.requires.few steps c.len-first_sort.result c.len-first_sort.ensures.len

pub returns-clause-plain : goal.returns-clause-plain
returns-clause-plain c =
    let t = c.args.tables.now in
    let fs = c.requires.consistent.0 in
    let ds = c.requires.consistent.1 in
    let first : c.head_count-first_head.result ≡ length (declared_of t.generics).heads = c.head_count-first_head.ensures.count (declared_of t.generics) c.requires.tabled.declared in
    let one = c.declare_head.new.tables in
    let mid = c.list_head.new.tables in
    let steps : AreFreeSteps t one mid c.args.name.now c.args.params c.head_count-first_head.result =
    record {
      first = first;
      one_is = c.declare_head.ensures.others;
      declared = c.in_ok-declare_head.ensures.declared;
      spellings = c.in_ok-declare_head.ensures.spellings;
      determined = c.in_ok-declare_head.ensures.determined;
      mid_is = c.list_head.ensures.others;
      origins = c.in_ok-list_head.ensures.ok;
      standing = c.list_head.ensures.standing;
    } in
    on_ok c.push_sorts.result (λ grown. freed_plain c.facts.ensures.all t one mid fs ds c.args.name.now c.args.params c.head_count-first_head.result c.requires.consistent.2 c.requires.tabled c.requires.free c.requires.few steps c.len-first_sort.result c.len-first_sort.ensures.len c.push_sorts.new.tables grown) c.push_sorts.ensures.ok

pub returns-clause-generic : goal.returns-clause-generic
returns-clause-generic c =
    let t = c.args.tables.now in
    let fs = c.requires.consistent.0 in
    let ds = c.requires.consistent.1 in
    let first : c.head_count-first_head.result ≡ length (declared_of t.generics).heads = c.head_count-first_head.ensures.count (declared_of t.generics) c.requires.tabled.declared in
    let one = c.declare_head.new.tables in
    let mid = c.list_head.new.tables in
    let steps : AreFreeSteps t one mid c.args.name.now c.args.params c.head_count-first_head.result =
    record {
      first = first;
      one_is = c.declare_head.ensures.others;
      declared = c.in_ok-declare_head.ensures.declared;
      spellings = c.in_ok-declare_head.ensures.spellings;
      determined = c.in_ok-declare_head.ensures.determined;
      mid_is = c.list_head.ensures.others;
      origins = c.in_ok-list_head.ensures.ok;
      standing = c.list_head.ensures.standing;
    } in
    on_ok c.push_sorts.result (λ grown. freed_generic c.facts.ensures.all t one mid fs ds c.args.name.now c.args.params c.head_count-first_head.result c.requires.consistent.2 c.requires.tabled c.requires.free c.requires.few steps c.len-first_sort.result c.len-first_sort.ensures.len c.push_sorts.new.tables grown) c.push_sorts.ensures.ok

pub returns-clause-grown : goal.returns-clause-grown
returns-clause-grown c = grown_further c.args.tables.now c.list_head.new.tables c.push_sorts.new.tables (grown_further c.args.tables.now c.declare_head.new.tables c.list_head.new.tables c.declare_head.ensures.grown c.list_head.ensures.grown) c.push_sorts.ensures.grown

pub returns-clause-standing : goal.returns-clause-standing
returns-clause-standing c = c.push_sorts.ensures.standing

pub returns-clause-tabled : goal.returns-clause-tabled
returns-clause-tabled c =
    let t = c.args.tables.now in
    let fs = c.requires.consistent.0 in
    let ds = c.requires.consistent.1 in
    let first : c.head_count-first_head.result ≡ length (declared_of t.generics).heads = c.head_count-first_head.ensures.count (declared_of t.generics) c.requires.tabled.declared in
    let one = c.declare_head.new.tables in
    let mid = c.list_head.new.tables in
    let steps : AreFreeSteps t one mid c.args.name.now c.args.params c.head_count-first_head.result =
    record {
      first = first;
      one_is = c.declare_head.ensures.others;
      declared = c.in_ok-declare_head.ensures.declared;
      spellings = c.in_ok-declare_head.ensures.spellings;
      determined = c.in_ok-declare_head.ensures.determined;
      mid_is = c.list_head.ensures.others;
      origins = c.in_ok-list_head.ensures.ok;
      standing = c.list_head.ensures.standing;
    } in
    on_ok c.push_sorts.result (λ grown. freed_tabled c.facts.ensures.all t one mid fs ds c.args.name.now c.args.params c.head_count-first_head.result c.requires.consistent.2 c.requires.tabled c.requires.free c.requires.few steps c.len-first_sort.result c.len-first_sort.ensures.len c.push_sorts.new.tables grown c.push_sorts.ensures.standing (c.push_sorts.ensures.counted c.list_head.ensures.counted)) c.push_sorts.ensures.ok

pub returns-clause-consistent : goal.returns-clause-consistent
returns-clause-consistent c =
    let t = c.args.tables.now in
    let fs = c.requires.consistent.0 in
    let ds = c.requires.consistent.1 in
    let first : c.head_count-first_head.result ≡ length (declared_of t.generics).heads = c.head_count-first_head.ensures.count (declared_of t.generics) c.requires.tabled.declared in
    let one = c.declare_head.new.tables in
    let mid = c.list_head.new.tables in
    let steps : AreFreeSteps t one mid c.args.name.now c.args.params c.head_count-first_head.result =
    record {
      first = first;
      one_is = c.declare_head.ensures.others;
      declared = c.in_ok-declare_head.ensures.declared;
      spellings = c.in_ok-declare_head.ensures.spellings;
      determined = c.in_ok-declare_head.ensures.determined;
      mid_is = c.list_head.ensures.others;
      origins = c.in_ok-list_head.ensures.ok;
      standing = c.list_head.ensures.standing;
    } in
    on_ok c.push_sorts.result (λ grown gs hs consistent. freed_consistent c.facts.ensures.all t one mid gs hs c.args.name.now c.args.params c.head_count-first_head.result consistent c.requires.tabled c.requires.free c.requires.few steps c.len-first_sort.result c.len-first_sort.ensures.len c.push_sorts.new.tables grown) c.push_sorts.ensures.ok
