use Rattle.std.proofs.Common.{◌≡◌, ◌↔◌, ℕ, ◌<◌, ◌≤◌, List, [], Err, IsErrOf, OnOk, length, map, true, refl, sym, ◌∙◌, ap, subst, inl, inr, arith}
use Rattle.std.proofs.lemmas.List.{length-map}
use Rattle.std.proofs.lemmas.Result.{err_from_is_err_and}
use Rattle.ct_generics.specs.Denoted.{declared_of}
use Rattle.ct_sorts.specs.declared.ids.Kind.TheVariants.{Free}
use Rattle.ct_sorts.specs.Availability.{IsUnavailableSort}
use Rattle.ct_sorts.specs.Consistent.{IsConsistent}
use Rattle.ct_sorts.specs.Declarations.{Declarations, Function, declared_names, most_sorts, with_head, with_sort}
use Rattle.ct_sorts.specs.Limits.{sort_count}
use Rattle.ct_sorts.specs.Marks.{lengths}
use Rattle.ct_sorts.specs.Stored.{function_of, sort_of_entry}
use Rattle.ct_sorts.specs.Tabled.{of_tables}
use Rattle.ct_sorts.proofs.FreeLemmas.{free_head}
use Rattle.ct_sorts.proofs.signature.Signature.add_free.Goals as goal

pub declare_free-requires-clause-tabled : goal.declare_free-requires-clause-tabled
declare_free-requires-clause-tabled c = c.self.invariant.tabled

pub declare_free-requires-clause-consistent : goal.declare_free-requires-clause-consistent
declare_free-requires-clause-consistent c = ((map function_of c.self.inside.functions), (map function_of c.self.inside.definitions), c.self.invariant.consistent)

pub declare_free-requires-clause-free : goal.declare_free-requires-clause-free
declare_free-requires-clause-free c = subst (λ (d : Declarations). IsUnavailableSort (declared_names d) c.args.name → ⊥) (sym c.self.view_is) c.in_ok-refuse_name.ensures.ok

pub declare_free-requires-clause-mark : goal.declare_free-requires-clause-mark
declare_free-requires-clause-mark c = ((map function_of c.self.inside.functions), (map function_of c.self.inside.definitions), c.mark-mark.ensures.lengths ∙ ap lengths (sym c.self.view_is))

pub declare_free-requires-clause-few : goal.declare_free-requires-clause-few
declare_free-requires-clause-few c = subst (λ (d : Declarations). sort_count d < most_sorts) (sym c.self.view_is) c.in_ok-refuse_one_more.ensures.ok

pub invariant_of-self : goal.invariant_of-self
invariant_of-self c = record { consistent = c.declare_free.ensures.consistent (map function_of c.self.inside.functions) (map function_of c.self.inside.definitions) c.self.invariant.consistent; tabled = c.declare_free.ensures.tabled }

pub invariant_of-self-2 : goal.invariant_of-self-2
invariant_of-self-2 c = record { consistent = c.declare_free.ensures.consistent (map function_of c.self.inside.functions) (map function_of c.self.inside.definitions) c.self.invariant.consistent; tabled = c.declare_free.ensures.tabled }

pub returns-in_err-declare_free-clause-refused : goal.returns-in_err-declare_free-clause-refused
returns-in_err-declare_free-clause-refused c =
    let p = err_from_is_err_and c.from_residual-in_err-declare_free.result c.from_residual-in_err-declare_free.ensures.1 in
    rw (p.1) (c.in_err-declare_free.ensures.unchanged (map function_of c.self.inside.functions) (map function_of c.self.inside.definitions) ∙ c.self.view_is)

pub returns-clause-ok : goal.returns-clause-ok
returns-clause-ok c = (
  c.len-count.ensures.len ∙ sym (length-map c.self.inside.tables.sorts sort_of_entry) ∙ ap (λ (d : Declarations). length d.sorts) c.self.view_is,
  c.in_ok-declare_free.ensures.plain refl (map function_of c.self.inside.functions) (map function_of c.self.inside.definitions) ∙ ap (λ (d : Declarations). with_sort d (record { name = c.args.name; kind = Free; ctors = [] })) c.self.view_is,
)
