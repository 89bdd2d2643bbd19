-- The stack of tasks while sorts are added.
use Rattle.std.proofs.Common.{◌≡◌, ℕ, zero, suc, ◌+◌, ◌<◌, ◌≤◌, List, [], ◌∷◌, ◌++◌, map, reverse, Some, None, slice_get, refl, sym, ap, ap₂, subst, ◌∙◌, arith}
use Rattle.std.specs.List.{AllZip}
use Rattle.std.proofs.lemmas.List.{reverse-append, append_assoc, map-append}
use Rattle.std.proofs.lemmas.List.Sums.{sum-map, sum_by-append}
use Rattle.ct_lemmas.proofs.Pairs.{AllZip-at_left, AllZip-at_right, AllZip-weaker, AllZip-none}
use Rattle.ct_generics.specs.declared.nodes.ExprId.{ExprId}
use Rattle.ct_generics.specs.declared.nodes.Node.{Node}
use Rattle.ct_generics.specs.declared.nodes.Node.TheVariants.{Apply}
use Rattle.ct_generics.specs.declared.tasks.Task.{Task as StoredTask}
use Rattle.ct_generics.specs.declared.tasks.Task.TheVariants.{Add, Arguments, Make}
use Rattle.ct_generics.specs.Expression.{Expression, args_of, parameter, named, applied}
use Rattle.ct_generics.specs.Declarations.{Head}
use Rattle.ct_generics.specs.Nodes.{Stands, StandFor, Stay, AreSingle, IsNoApply}
use Rattle.ct_generics.specs.Add.{IsAmong}
use Rattle.ct_generics.specs.Tasks.{Task, add, arguments, make, AreTasks, IsTask, IsBegun, IsMadeNext, IsGoneOn, DoTheSame, tripled, weight, weight_of}
use Rattle.ct_generics.proofs.NodeLemmas.{Stands-stay, Stands-one, Stands-unique, Stands-apply}
use Rattle.ct_generics.proofs.AddLemmas.{step-there, step-new, step-no_arguments, step-arguments, step-given, DoTheSame-same, DoTheSame-trans}

-- ---- tasks on a stack

pub AreTasks-push : (nodes : List Node) (stack : List StoredTask) (todo : List Task) (task : StoredTask) (first : Task) → IsTask nodes task first → AreTasks nodes stack todo → AreTasks nodes (stack ++ task ∷ []) (first ∷ todo)
AreTasks-push nodes stack todo task first is are = subst (λ (s : List StoredTask). AllZip (IsTask nodes) s (first ∷ todo)) (sym (reverse-append stack (task ∷ []))) (is, are)

-- the last task and those before it
pub record IsPopped (nodes : List Node) (stack : List StoredTask) (task : StoredTask) (todo : List Task) : Type 0 where
  pub first : Task
  pub rest : List Task
  pub all : todo ≡ first ∷ rest
  pub top : IsTask nodes task first
  pub under : AreTasks nodes stack rest

pub AreTasks-pop : (nodes : List Node) (before stack : List StoredTask) (task : StoredTask) (todo : List Task) → before ≡ stack ++ task ∷ [] → AreTasks nodes before todo → IsPopped nodes stack task todo
AreTasks-pop nodes before stack task todo is are = by todo (subst (λ (s : List StoredTask). AllZip (IsTask nodes) s todo) (ap reverse is ∙ reverse-append stack (task ∷ [])) are)
  where
    by : (tasks : List Task) → AllZip (IsTask nodes) (task ∷ reverse stack) tasks → IsPopped nodes stack task tasks
    by [] all = absurd all
    by (first ∷ rest) all = record { first = first; rest = rest; all = refl; top = all.0; under = all.1 }

IsTask-stay : (old new : List Node) → Stay old new → (task : StoredTask) (first : Task) → IsTask old task first → IsTask new task first
IsTask-stay old new stay (Add id) first is = (is.0, is.1, Stands-stay old new id.0 is.0 stay is.2)
IsTask-stay old new stay (Arguments id) first is = (is.0, is.1, Stands-stay old new id.0 is.0 stay is.2)
IsTask-stay old new stay (Make id) first is = (is.0, is.1, Stands-stay old new id.0 is.0 stay is.2)

pub AreTasks-stay : (old new : List Node) (stack : List StoredTask) (todo : List Task) → Stay old new → AreTasks old stack todo → AreTasks new stack todo
AreTasks-stay old new stack todo stay = AllZip-weaker (IsTask old) (IsTask new) (IsTask-stay old new stay) (reverse stack) todo

-- one more sort on top, of those that are still to be put there
pub pushed-sort : (rest left : List ExprId) (id : ExprId) (old new items : List StoredTask) → rest ≡ left ++ id ∷ [] → new ≡ old ++ Add id ∷ [] → map Add rest ++ reverse old ≡ items → map Add left ++ reverse new ≡ items
pushed-sort rest left id old new items rest_is new_is e =
    ap (λ (s : List StoredTask). map Add left ++ s) (ap reverse new_is ∙ reverse-append old (Add id ∷ []))
    ∙ sym (append_assoc (map Add left) (Add id ∷ []) (reverse old))
    ∙ ap (λ (s : List StoredTask). s ++ reverse old) (sym (map-append Add left (id ∷ [])) ∙ ap (map Add) (sym rest_is))
    ∙ e

sorts-first : (nodes : List Node) (ids : List ExprId) (es : List Expression) (stored : List StoredTask) (todo : List Task) → StandFor nodes ids es → AllZip (IsTask nodes) stored todo → AllZip (IsTask nodes) (map Add ids ++ stored) (map add es ++ todo)
sorts-first nodes [] [] stored todo stand are = are
sorts-first nodes [] (e ∷ es) stored todo stand are = absurd stand
sorts-first nodes (id ∷ ids) [] stored todo stand are = absurd stand
sorts-first nodes (id ∷ ids) (e ∷ es) stored todo stand are = ((e, refl, stand.0), sorts-first nodes ids es stored todo stand.1 are)

-- with sorts on top
pub AreTasks-sorts : (nodes : List Node) (old new : List StoredTask) (ids : List ExprId) (es : List Expression) (todo : List Task) → reverse new ≡ map Add ids ++ reverse old → StandFor nodes ids es → AreTasks nodes old todo → AreTasks nodes new (map add es ++ todo)
AreTasks-sorts nodes old new ids es todo is stand are = subst (λ (s : List StoredTask). AllZip (IsTask nodes) s (map add es ++ todo)) (sym is) (sorts-first nodes ids es (reverse old) todo stand are)

-- ---- which sorts are there

same_id : (m n : ExprId) → m.0 ≡ n.0 → m ≡ n
same_id m n e i = record { 0 = e i }

among : (nodes : List Node) (ids : List ExprId) (sorts : List Expression) (id : ExprId) (e : Expression) → StandFor nodes ids sorts → Stands nodes id.0 e → ((i : ℕ) × (slice_get ids i ≡ Some id)) → IsAmong sorts e
among nodes ids sorts id e stand stands at =
    let sort = AllZip-at_left (λ (x : ExprId) (f : Expression). Stands nodes x.0 f) ids sorts at.0 id stand at.1 in
    (at.0, sort.1 ∙ ap Some (Stands-one nodes id.0 sort.0 e sort.2 stands))

not_among : (nodes : List Node) (ids : List ExprId) (sorts : List Expression) (id : ExprId) (e : Expression) → AreSingle nodes → StandFor nodes ids sorts → Stands nodes id.0 e → ((i : ℕ) → slice_get ids i ≡ Some id → ⊥) → IsAmong sorts e → ⊥
not_among nodes ids sorts id e single stand stands absent is =
    let sort = AllZip-at_right (λ (x : ExprId) (f : Expression). Stands nodes x.0 f) ids sorts is.0 e stand is.1 in
    absent is.0 (sort.1 ∙ ap Some (same_id sort.0 id (Stands-unique nodes single sort.0.0 id.0 e sort.2 stands)))

pub not_on : (nodes : List Node) (ids : List ExprId) (sorts : List Expression) (id : ExprId) (e : Expression) → StandFor nodes ids sorts → Stands nodes id.0 e → (IsAmong sorts e → ⊥) → (i : ℕ) → slice_get ids i ≡ Some id → ⊥
not_on nodes ids sorts id e stand stands absent i at = absent (among nodes ids sorts id e stand stands (i, at))

-- ---- how a task begins

-- a sort that is there
pub begun-there : (nodes : List Node) (ids : List ExprId) (id : ExprId) (stack : List StoredTask) → ((i : ℕ) × (slice_get ids i ≡ Some id)) → IsBegun nodes ids (Add id) stack None stack
begun-there nodes ids id stack at heads sorts first todo stand is are =
    record {
      later = todo;
      tasks = are;
      same = subst (λ (t : Task). DoTheSame heads (t ∷ todo) sorts todo sorts) (sym is.1) (step-there heads is.0 todo sorts (among nodes ids sorts id is.0 stand is.2 at));
    }

-- and one that is not
pub begun-new : (nodes : List Node) (ids : List ExprId) (id : ExprId) (stack middle new : List StoredTask) → AreSingle nodes → ((i : ℕ) → slice_get ids i ≡ Some id → ⊥) → middle ≡ stack ++ Make id ∷ [] → new ≡ middle ++ Arguments id ∷ [] → IsBegun nodes ids (Add id) stack None new
begun-new nodes ids id stack middle new single absent middle_is new_is heads sorts first todo stand is are =
    let e = is.0 in
    let under : AreTasks nodes middle (make e ∷ todo) = subst (λ (s : List StoredTask). AreTasks nodes s (make e ∷ todo)) (sym middle_is) (AreTasks-push nodes stack todo (Make id) (make e) (e, refl, is.2) are) in
    record {
      later = arguments e ∷ make e ∷ todo;
      tasks = subst (λ (s : List StoredTask). AreTasks nodes s (arguments e ∷ make e ∷ todo)) (sym new_is) (AreTasks-push nodes middle (make e ∷ todo) (Arguments id) (arguments e) (e, refl, is.2) under);
      same = subst (λ (t : Task). DoTheSame heads (t ∷ todo) sorts (arguments e ∷ make e ∷ todo) sorts) (sym is.1) (step-new heads e todo sorts (not_among nodes ids sorts id e single stand is.2 absent));
    }

-- no arguments
pub bare-args : (nodes : List Node) (n : ℕ) (e : Expression) → ((node : Node) → slice_get nodes n ≡ Some node → IsNoApply node) → Stands nodes n e → args_of e ≡ []
bare-args nodes n (parameter i) bare stands = refl
bare-args nodes n (named h) bare stands = refl
bare-args nodes n (applied e a) bare stands = absurd (bare (Apply stands.0 stands.1) stands.2)

pub begun-bare : (nodes : List Node) (ids : List ExprId) (id : ExprId) (stack : List StoredTask) → ((e : Expression) → Stands nodes id.0 e → args_of e ≡ []) → IsBegun nodes ids (Arguments id) stack None stack
begun-bare nodes ids id stack bare heads sorts first todo stand is are =
    record {
      later = todo;
      tasks = are;
      same = subst (λ (t : Task). DoTheSame heads (t ∷ todo) sorts todo sorts) (sym is.1) (step-no_arguments heads is.0 todo sorts (bare is.0 is.2));
    }

-- and some
pub begun-arguments : (nodes : List Node) (ids : List ExprId) (id function argument : ExprId) (stack middle new : List StoredTask) → slice_get nodes id.0 ≡ Some (Apply function argument) → middle ≡ stack ++ Add argument ∷ [] → new ≡ middle ++ Arguments function ∷ [] → IsBegun nodes ids (Arguments id) stack None new
begun-arguments nodes ids id function argument stack middle new at middle_is new_is heads sorts first todo stand is are =
    let parts = Stands-apply nodes id.0 function argument is.0 at is.2 in
    let f = parts.0 in
    let a = parts.1 in
    let under : AreTasks nodes middle (add a ∷ todo) = subst (λ (s : List StoredTask). AreTasks nodes s (add a ∷ todo)) (sym middle_is) (AreTasks-push nodes stack todo (Add argument) (add a) (a, refl, parts.4) are) in
    record {
      later = arguments f ∷ add a ∷ todo;
      tasks = subst (λ (s : List StoredTask). AreTasks nodes s (arguments f ∷ add a ∷ todo)) (sym new_is) (AreTasks-push nodes middle (add a ∷ todo) (Arguments function) (arguments f) (f, refl, parts.3) under);
      same = subst (λ (t : Task). DoTheSame heads (t ∷ todo) sorts (arguments f ∷ add a ∷ todo) sorts) (sym (is.1 ∙ ap arguments parts.2)) (step-arguments heads f a todo sorts);
    }

-- a sort that came to be there
pub begun-given : (nodes : List Node) (ids : List ExprId) (id : ExprId) (stack : List StoredTask) → ((i : ℕ) × (slice_get ids i ≡ Some id)) → IsBegun nodes ids (Make id) stack None stack
begun-given nodes ids id stack at heads sorts first todo stand is are =
    record {
      later = todo;
      tasks = are;
      same = subst (λ (t : Task). DoTheSame heads (t ∷ todo) sorts todo sorts) (sym is.1) (step-given heads is.0 todo sorts (among nodes ids sorts id is.0 stand is.2 at));
    }

-- and one that is to be made
pub begun-missing : (nodes : List Node) (ids : List ExprId) (id : ExprId) (stack : List StoredTask) → AreSingle nodes → ((i : ℕ) → slice_get ids i ≡ Some id → ⊥) → IsBegun nodes ids (Make id) stack (Some id) stack
begun-missing nodes ids id stack single absent heads sorts first todo stand is are =
    record {
      sort = is.0;
      later = todo;
      stands = is.2;
      absent = not_among nodes ids sorts id is.0 single stand is.2 absent;
      tasks = are;
      same = subst (λ (t : Task). DoTheSame heads (t ∷ todo) sorts (make is.0 ∷ todo) sorts) (sym is.1) (DoTheSame-same heads (make is.0 ∷ todo) sorts);
    }

-- ---- one task after the other

-- tasks that do the same, of which the first has begun
pub went-on : (heads : List Head) (nodes : List Node) (sorts : List Expression) (todo tasks others : List Task) (stack : List StoredTask) → tasks ≡ others → DoTheSame heads todo sorts tasks sorts → IsGoneOn heads nodes sorts others stack → IsGoneOn heads nodes sorts todo stack
went-on heads nodes sorts todo tasks others stack is same gone =
    record { later = gone.later; tasks = gone.tasks; same = DoTheSame-trans heads todo others gone.later sorts sorts sorts (subst (λ (ts : List Task). DoTheSame heads todo sorts ts sorts) is same) gone.same }

pub went-on-made : (heads : List Head) (nodes : List Node) (sorts : List Expression) (todo tasks others : List Task) (id : ExprId) (stack : List StoredTask) → tasks ≡ others → DoTheSame heads todo sorts tasks sorts → IsMadeNext heads nodes sorts others id stack → IsMadeNext heads nodes sorts todo id stack
went-on-made heads nodes sorts todo tasks others id stack is same next =
    record {
      sort = next.sort;
      later = next.later;
      stands = next.stands;
      absent = next.absent;
      tasks = next.tasks;
      same = DoTheSame-trans heads todo others (make next.sort ∷ next.later) sorts sorts sorts (subst (λ (ts : List Task). DoTheSame heads todo sorts ts sorts) is same) next.same;
    }

pub went-on-nothing : (heads : List Head) (nodes : List Node) (sorts : List Expression) (todo : List Task) (stack : List StoredTask) → stack ≡ [] → IsGoneOn heads nodes sorts todo stack → DoTheSame heads todo sorts [] sorts
went-on-nothing heads nodes sorts todo stack none_left gone =
    let nothing : gone.later ≡ [] = AllZip-none (IsTask nodes) gone.later (subst (λ (s : List StoredTask). AreTasks nodes s gone.later) none_left gone.tasks) in
    subst (λ (ts : List Task). DoTheSame heads todo sorts ts sorts) nothing gone.same

-- ---- the weight of what is left

pub weight-push : (stack new : List StoredTask) (task : StoredTask) → new ≡ stack ++ task ∷ [] → weight new ≡ weight stack + weight_of task
weight-push stack new task is =
    ap weight is ∙ sum-map weight_of (stack ++ task ∷ []) ∙ sum_by-append weight_of stack (task ∷ []) ∙ ap₂ (λ (a b : ℕ). a + b) (sym (sum-map weight_of stack)) (omega arith)

three : (n : ℕ) → 3 ≤ tripled n
three zero = omega arith
three (suc n) = let h = three n in omega (arith, h)

tripled-rises : (n m : ℕ) → n ≤ m → tripled n ≤ tripled m
tripled-rises zero m h = three m
tripled-rises (suc n) zero h = absurd (omega (arith, h))
tripled-rises (suc n) (suc m) h = let rises = tripled-rises n m (omega (arith, h)) in omega (arith, rises)

pub tripled-less : (f a n : ℕ) → f < n → a < n → tripled a + 2 + tripled f < tripled n
tripled-less f a zero f_less a_less = absurd (omega (arith, f_less))
tripled-less f a (suc n) f_less a_less =
    let first = tripled-rises f n (omega (arith, f_less)) in
    let second = tripled-rises a n (omega (arith, a_less)) in
    let least = three n in
    omega (arith, first, second, least)

pub weighs : (task : StoredTask) → 0 < weight_of task
weighs (Add id) = omega arith
weighs (Arguments id) = let h = three id.0 in omega (arith, h)
weighs (Make id) = omega arith
