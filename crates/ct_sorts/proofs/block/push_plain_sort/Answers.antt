use Rattle.std.proofs.Common.{◌≡◌, ℕ, ◌++◌, List, [], ◌∷◌, length, Some, slice_get, sym, subst, subst₂}
use Rattle.std.proofs.lemmas.List.{append-nil}
use Rattle.ct_lemmas.proofs.Lists.{slice_get-append_left}
use Rattle.ct_generics.specs.declared.nodes.ExprId.{ExprId}
use Rattle.ct_generics.specs.Expression.{Expression, named}
use Rattle.ct_generics.specs.Nodes.{StandFor, Stands, Stay}
use Rattle.ct_sorts.proofs.TableSortsLemmas.{not_listed, push_sort, stand_stay}
use Rattle.ct_sorts.proofs.block.push_plain_sort.Goals as goal

pub push-requires : goal.push-requires
push-requires c =
    let known = c.requires.fresh in
    record { fresh = not_listed c.args.table.now.expressions c.head.new.self c.args.table.now.sorts known.0 c.in-Ok.id (named c.args.head) known.1 c.head.ensures.stay c.in-Ok.ensures.ok known.2 }

pub returns-in-Ok-push-clause-sorts : goal.returns-in-Ok-push-clause-sorts
returns-in-Ok-push-clause-sorts c = λ sorts stand.
    subst (λ (ids : List ExprId). StandFor c.head.new.self ids (sorts ++ named c.args.head ∷ [])) (sym c.in-Ok-push.ensures.ok)
    (push_sort c.args.table.now.expressions c.head.new.self c.args.table.now.sorts sorts c.in-Ok.id (named c.args.head) stand c.head.ensures.stay c.in-Ok.ensures.ok)

pub returns-in-Ok-push-clause-begun : goal.returns-in-Ok-push-clause-begun
returns-in-Ok-push-clause-begun c = λ sorts stand. (
  named c.args.head ∷ [],
  subst (λ (ids : List ExprId). StandFor c.head.new.self ids (sorts ++ named c.args.head ∷ [])) (sym c.in-Ok-push.ensures.ok)
      (push_sort c.args.table.now.expressions c.head.new.self c.args.table.now.sorts sorts c.in-Ok.id (named c.args.head) stand c.head.ensures.stay c.in-Ok.ensures.ok),
)

pub returns-in-Err-clause-begun : goal.returns-in-Err-clause-begun
returns-in-Err-clause-begun c = λ sorts stand. (
  [],
  subst (StandFor c.head.new.self c.args.table.now.sorts) (sym (append-nil sorts)) (stand_stay c.args.table.now.expressions c.head.new.self c.head.ensures.stay c.args.table.now.sorts sorts stand),
)

pub returns-in-Err-push-clause-begun : goal.returns-in-Err-push-clause-begun
returns-in-Err-push-clause-begun c = λ sorts stand. (
  [],
  subst₂ (λ (ids : List ExprId) (es : List Expression). StandFor c.head.new.self ids es) (sym c.in-Err-push.ensures.unchanged) (sym (append-nil sorts))
      (stand_stay c.args.table.now.expressions c.head.new.self c.head.ensures.stay c.args.table.now.sorts sorts stand),
)
