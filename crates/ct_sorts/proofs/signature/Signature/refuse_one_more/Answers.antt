use Rattle.std.proofs.Common.{◌≡◌, ℕ, ◌<◌, ◌≤◌, List, map, ◌∙◌, ap, subst, arith}
use Rattle.ct_sorts.specs.Declarations.{Declarations, most_sorts}
use Rattle.ct_sorts.specs.Limits.{sort_count}
use Rattle.ct_sorts.specs.Stored.{function_of}
use Rattle.ct_sorts.proofs.signature.Signature.refuse_one_more.Goals as goal

pub sort_count-requires-clause-declared : goal.sort_count-requires-clause-declared
sort_count-requires-clause-declared c = c.self.invariant.tabled.declared

pub sort_count-requires-clause-within : goal.sort_count-requires-clause-within
sort_count-requires-clause-within c = ((map function_of c.self.inside.functions), (map function_of c.self.inside.definitions), c.self.invariant.consistent.within)

pub returns-then-sort_count-ge-MOST_SORTS-clause-refused : goal.returns-then-sort_count-ge-MOST_SORTS-clause-refused
returns-then-sort_count-ge-MOST_SORTS-clause-refused c =
    let count : c.sort_count.result ≡ sort_count c.args.self.now = c.sort_count.ensures.count (map function_of c.self.inside.functions) (map function_of c.self.inside.definitions) ∙ ap sort_count c.self.view_is in
    subst (λ (n : ℕ). most_sorts ≤ n) count (omega (arith, c.if-sort_count-ge-MOST_SORTS.true))

pub returns-clause-ok : goal.returns-clause-ok
returns-clause-ok c =
    let count : c.sort_count.result ≡ sort_count c.args.self.now = c.sort_count.ensures.count (map function_of c.self.inside.functions) (map function_of c.self.inside.definitions) ∙ ap sort_count c.self.view_is in
    subst (λ (n : ℕ). n < most_sorts) count (omega (arith, c.if-sort_count-ge-MOST_SORTS.false))
