-- How sorts are added: what was added so far, and what the tasks will add.
use Rattle.std.proofs.Common.{◌≡◌, ◌↔◌, List, [], ◌∷◌, ◌++◌, map, reverse, Some, None, refl, sym, ap, subst, ◌∙◌}
use Rattle.std.proofs.lemmas.List.{append_assoc, append-nil, append_cancel_left}
use Rattle.ct_generics.specs.declared.room.Room.{Room}
use Rattle.ct_generics.specs.declared.nodes.ExprId.{ExprId}
use Rattle.ct_generics.specs.declared.nodes.Node.{Node}
use Rattle.ct_generics.specs.declared.tasks.Task.{Task as StoredTask}
use Rattle.ct_generics.specs.declared.tasks.Task.TheVariants.{Add}
use Rattle.ct_generics.specs.Expression.{Expression}
use Rattle.ct_generics.specs.Declarations.{Head}
use Rattle.ct_generics.specs.Nodes.{Stands, StandFor}
use Rattle.ct_generics.specs.Add.{Adds, Fits, IsAdded, Leaves, field_sorts}
use Rattle.ct_generics.specs.Tasks.{Task, add, AreTasks, Completes, IsMadeNext, IsNext}
use Rattle.ct_generics.proofs.AddLemmas.{Completes-begins, step-made, tasks-begin}
use Rattle.ct_generics.proofs.TaskLemmas.{AreTasks-sorts}
use Rattle.ct_generics.proofs.RoomLemmas.{Leaves-none, Leaves-more, Leaves-fits, Fits-next}

-- so far this was added, and with the tasks on the stack it becomes what the sorts are to add
pub record IsUnderWay (heads : List Head) (room : Room) (es before : List Expression) (nodes : List Node) (ids : List ExprId) (stack : List StoredTask) (left : Room) : Type 0 where
  pub added : List Expression
  pub todo : List Task
  pub sorts : StandFor nodes ids (before ++ added)
  pub leaves : Leaves heads room added left
  pub tasks : AreTasks nodes stack todo
  pub same : (after : List Expression) → Completes heads todo (before ++ added) after ↔ Adds heads es before after

pub under_way-start : (heads : List Head) (room : Room) (es before : List Expression) (nodes : List Node) (ids roots : List ExprId) (none stack : List StoredTask) → none ≡ [] → reverse stack ≡ map Add roots ++ reverse none → StandFor nodes ids before → StandFor nodes roots es → IsUnderWay heads room es before nodes ids stack room
under_way-start heads room es before nodes ids roots none stack none_is stack_is sorts stand =
    record {
      added = [];
      todo = map add es ++ [];
      sorts = subst (StandFor nodes ids) (sym (append-nil before)) sorts;
      leaves = Leaves-none heads room;
      tasks = AreTasks-sorts nodes [] stack roots es [] (stack_is ∙ ap (λ (s : List StoredTask). map Add roots ++ reverse s) none_is) stand tt;
      same = λ after. subst (λ (s : List Expression). Completes heads (map add es ++ []) s after ↔ Adds heads es before after) (sym (append-nil before)) (tasks-begin heads es before after);
    }

module _ (heads : List Head) (room : Room) (es before : List Expression) (nodes : List Node) (ids : List ExprId) (stack : List StoredTask) (left : Room) (way : IsUnderWay heads room es before nodes ids stack left) where
  -- the sort that is to be made
  pub under_way-next : (id : ExprId) (under : List StoredTask) → IsNext nodes ids stack (Some id) under → IsMadeNext heads nodes (before ++ way.added) way.todo id under
  under_way-next id under next = next heads (before ++ way.added) way.todo way.sorts way.tasks

  pub under_way-made : (id : ExprId) (under stacked : List StoredTask) (new : List Node) (made : List ExprId) (rest : Room) → IsNext nodes ids stack (Some id) under → ((e : Expression) (later : List Task) → Stands nodes id.0 e → AreTasks nodes under later → Leaves heads left (e ∷ []) rest × StandFor new made ((before ++ way.added) ++ e ∷ []) × AreTasks new stacked (map add (field_sorts heads e) ++ later)) → IsUnderWay heads room es before new made stacked rest
  under_way-made id under stacked new made rest next known =
      let is = under_way-next id under next in
      let e = is.sort in
      let now = known e is.later is.stands is.tasks in
      let longer : (before ++ way.added) ++ e ∷ [] ≡ before ++ (way.added ++ e ∷ []) = append_assoc before way.added (e ∷ []) in
      record {
        added = way.added ++ e ∷ [];
        todo = map add (field_sorts heads e) ++ is.later;
        sorts = subst (StandFor new made) longer now.1;
        leaves = Leaves-more heads room left rest way.added e way.leaves now.0;
        tasks = now.2;
        same = λ after.
            let made_now = step-made heads e is.later (before ++ way.added) is.absent after in
            subst (λ (s : List Expression). Completes heads (map add (field_sorts heads e) ++ is.later) s after ↔ Adds heads es before after) longer (
              λ h. (way.same after).0 ((is.same after).1 (made_now.1 h)),
              λ h. made_now.0 ((is.same after).0 ((way.same after).1 h)),
            );
      }

  -- where the next sort does not fit, what is to be added does not
  pub under_way-refused : (id : ExprId) (under : List StoredTask) → IsNext nodes ids stack (Some id) under → ((e : Expression) → Stands nodes id.0 e → Fits heads left (e ∷ []) → ⊥) → (all : List Expression) → IsAdded heads room es before all → ⊥
  under_way-refused id under next refused all is_added =
      let is = under_way-next id under next in
      let e = is.sort in
      let done = (step-made heads e is.later (before ++ way.added) is.absent (before ++ all)).0 ((is.same (before ++ all)).0 ((way.same (before ++ all)).1 is_added.0)) in
      let begins = Completes-begins heads (map add (field_sorts heads e) ++ is.later) ((before ++ way.added) ++ e ∷ []) (before ++ all) done in
      let more = begins.0 in
      let all_is : all ≡ way.added ++ e ∷ more = append_cancel_left before all (way.added ++ e ∷ more) (begins.1 ∙ append_assoc (before ++ way.added) (e ∷ []) more ∙ append_assoc before way.added (e ∷ more)) in
      refused e is.stands (Fits-next heads room left way.added more e way.leaves (subst (Fits heads room) all_is is_added.1))

  -- where nothing is left to do all was added
  pub under_way-end : (under : List StoredTask) → IsNext nodes ids stack None under → (added : List Expression) × IsAdded heads room es before added × StandFor nodes ids (before ++ added)
  under_way-end under next =
      let is = next heads (before ++ way.added) way.todo way.sorts way.tasks in
      let adds : Adds heads es before (before ++ way.added) = (way.same (before ++ way.added)).0 ((is (before ++ way.added)).1 refl) in
      (way.added, (adds, Leaves-fits heads room left way.added way.leaves), way.sorts)
