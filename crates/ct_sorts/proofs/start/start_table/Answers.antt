use Rattle.std.proofs.Common.{◌≡◌, ℕ, List, [], ◌∷◌, sym, subst}
use Rattle.ct_generics.specs.declared.generics.Generics.{Generics}
use Rattle.ct_generics.specs.declared.nodes.ExprId.{ExprId}
use Rattle.ct_generics.specs.Expression.{named}
use Rattle.ct_generics.specs.Nodes.{StandFor}
use Rattle.ct_sorts.proofs.CountedLemmas.{counted_stay}
use Rattle.ct_sorts.proofs.StepLemmas.{none_there}
use Rattle.ct_sorts.proofs.TableSortsLemmas.{push_sort}
use Rattle.ct_sorts.proofs.start.start_table.Goals as goal

pub push-requires : goal.push-requires
push-requires c = record { fresh = λ i at. none_there c.new-table.result c.new-table.ensures.empty i c.in_ok-bool_sort.bool_sort at }

pub returns-clause-sorts : goal.returns-clause-sorts
returns-clause-sorts c =
    subst (λ (ids : List ExprId). StandFor c.head.new.self ids (named 0 ∷ [])) (sym c.in_ok-push.ensures.ok)
    (push_sort c.new-table.result.expressions c.head.new.self c.new-table.result.sorts [] c.in_ok-bool_sort.bool_sort (named 0) c.new-table.ensures.empty c.head.ensures.stay c.in_ok-bool_sort.ensures.ok)

pub returns-clause-counted : goal.returns-clause-counted
returns-clause-counted c = λ (g : Generics). counted_stay g.heads c.new-table.result.expressions c.head.new.self c.new-table.result.counts c.len-ordered.ensures.ordered c.head.ensures.stay (c.new-table.ensures.counted g)
