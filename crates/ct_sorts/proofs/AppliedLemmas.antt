-- A generic at sorts by their numbers: where its shared expression stands.
use Rattle.std.proofs.Common.{◌≡◌, ℕ, zero, suc, ◌+◌, ◌<◌, ◌≤◌, All, List, [], ◌∷◌, ◌++◌, length, map, take, drop, get_or, slice_get, Option, Some, option_map, refl, sym, ◌∙◌, ap, ap₂, subst, arith}
use Rattle.std.specs.List.{AllZip}
use Rattle.std.proofs.lemmas.List.{length-map, take_all, take_more}
use Rattle.std.proofs.lemmas.Option.{none-some, same_Some, slice_get_within, slice_get-get_or}
use Rattle.ct_lemmas.proofs.Lists.{slice_get-there}
use Rattle.ct_generics.specs.declared.nodes.ExprId.{ExprId}
use Rattle.ct_generics.specs.declared.nodes.HeadId.{HeadId}
use Rattle.ct_generics.specs.declared.nodes.Node.{Node}
use Rattle.ct_generics.specs.declared.nodes.Node.TheVariants.{Param, Head as HeadNode, Apply}
use Rattle.ct_generics.specs.declared.sort_table.SortTable.{SortTable}
use Rattle.ct_generics.specs.Declarations.{Head, IsExpression, Takes}
use Rattle.ct_generics.specs.Denoted.{declared_of, sorts_of}
use Rattle.ct_generics.specs.Expression.{Expression, parameter, named, applied, with_args}
use Rattle.ct_generics.specs.Nodes.{AreSingle, Stands, StandFor, Stay}
use Rattle.ct_generics.specs.SortTable.{AreSorts}
use Rattle.ct_sorts.specs.declared.ids.GenId.{GenId}
use Rattle.ct_sorts.specs.declared.ids.SortId.{SortId}
use Rattle.ct_sorts.specs.declared.tables.Tables.{Tables}
use Rattle.ct_sorts.specs.Applied.{IsAt}
use Rattle.ct_sorts.specs.Consistent.{IsConsistent}
use Rattle.ct_sorts.specs.Declarations.{Function, IsSort}
use Rattle.ct_sorts.specs.Stored.{sort_of_entry}
use Rattle.ct_sorts.specs.Tabled.{of_tables, IsNumberOf, IsTabled}
use Rattle.ct_sorts.proofs.InstanceLemmas.{entries_long, numbers_long}
use Rattle.ct_sorts.proofs.ListedLemmas.{stands_single}
use Rattle.ct_sorts.proofs.TableSortsLemmas.{stand_at, stands_one, stands_stay}

-- one argument more at the end
with_args-push : (e : Expression) (xs : List Expression) (a : Expression) → with_args e (xs ++ a ∷ []) ≡ applied (with_args e xs) a
with_args-push e [] a = refl
with_args-push e (x ∷ xs) a = with_args-push (applied e x) xs a

-- where an expression with arguments stands, that without them does
pub without_args : (nodes : List Node) (e : Expression) (es : List Expression) (n : ℕ) → Stands nodes n (with_args e es) → (m : ℕ) × Stands nodes m e
without_args nodes e [] n stands = (n, stands)
without_args nodes e (a ∷ es) n stands = let under = without_args nodes (applied e a) es n stands in (under.1.0.0, under.1.3)

-- a generic at as many sorts as it has parameters is a sort
pub at_sorts : (heads : List Head) (h : ℕ) (head : Head) (es : List Expression) → slice_get heads h ≡ Some head → length es ≡ head.params → ((i : ℕ) (e : Expression) → slice_get es i ≡ Some e → IsExpression heads 0 e) → IsExpression heads 0 (with_args (named h) es)
at_sorts heads h head es at long closed = by (named h) es (ap (option_map (λ (x : Head). x.params)) at ∙ ap Some (sym long ∙ sym (plus es))) closed
  where
    plus : (es : List Expression) → length es + 0 ≡ length es
    plus es = omega arith

    by : (e : Expression) (es : List Expression) → Takes heads 0 (length es + 0) e → ((i : ℕ) (e : Expression) → slice_get es i ≡ Some e → IsExpression heads 0 e) → Takes heads 0 0 (with_args e es)
    by e [] takes closed = takes
    by e (a ∷ es) takes closed = by (applied e a) es (subst (λ (k : ℕ). Takes heads 0 k e) (more es) takes, closed zero a refl) (λ i f found. closed (suc i) f found)
      where
        more : (es : List Expression) → length (a ∷ es) + 0 ≡ suc (length es + 0)
        more es = omega arith

-- numbers of the list are those of sorts
pub numbers_exist : (origins : List Expression) (args : List SortId) → All (λ (s : SortId). s.0 < length origins) args → (es : List Expression) × AllZip (IsNumberOf origins) args es
numbers_exist origins [] within = ([], tt)
numbers_exist origins (s ∷ args) within =
    let here = slice_get-there origins s.0 (within zero s (omega arith)) in
    let rest = numbers_exist origins args (λ i x below. within (suc i) x (omega (arith, below))) in
    (here.0 ∷ rest.0, (here.1, rest.1))

-- the sorts are as many as the numbers
pub numbers_many : (origins : List Expression) (args : List SortId) (es : List Expression) → AllZip (IsNumberOf origins) args es → length args ≡ length es
numbers_many origins [] [] all = refl
numbers_many origins [] (e ∷ es) all = absurd all
numbers_many origins (s ∷ args) [] all = absurd all
numbers_many origins (s ∷ args) (e ∷ es) all = ap suc (numbers_many origins args es all.1)

-- each is one of the list
pub numbers_listed : (origins : List Expression) (args : List SortId) (es : List Expression) → AllZip (IsNumberOf origins) args es → (i : ℕ) (e : Expression) → slice_get es i ≡ Some e → (s : ℕ) × (slice_get origins s ≡ Some e)
numbers_listed origins [] [] all i e at = absurd (none-some _ at)
numbers_listed origins [] (f ∷ es) all i e at = absurd all
numbers_listed origins (s ∷ args) [] all i e at = absurd all
numbers_listed origins (s ∷ args) (f ∷ es) all zero e at = (s.0, all.0 ∙ at)
numbers_listed origins (s ∷ args) (f ∷ es) all (suc i) e at = numbers_listed origins args es all.1 i e at

-- so they are these
pub one_row : (origins : List Expression) (args : List SortId) (es fs : List Expression) → AllZip (IsNumberOf origins) args es → AllZip (IsNumberOf origins) args fs → es ≡ fs
one_row origins [] [] [] a b = refl
one_row origins [] [] (f ∷ fs) a b = absurd b
one_row origins [] (e ∷ es) fs a b = absurd a
one_row origins (s ∷ args) [] fs a b = absurd a
one_row origins (s ∷ args) (e ∷ es) [] a b = absurd b
one_row origins (s ∷ args) (e ∷ es) (f ∷ fs) a b = ap₂ (λ (x : Expression) (xs : List Expression). x ∷ xs) (same_Some e f (sym a.0 ∙ b.0)) (one_row origins args es fs a.1 b.1)

split_row : (origins : List Expression) (args : List SortId) (arg : SortId) (es : List Expression) → AllZip (IsNumberOf origins) (args ++ arg ∷ []) es → (fs : List Expression) × (f : Expression) × (es ≡ fs ++ f ∷ []) × AllZip (IsNumberOf origins) args fs × IsNumberOf origins arg f
split_row origins [] arg [] all = absurd all
split_row origins [] arg (e ∷ []) all = ([], e, refl, tt, all.0)
split_row origins [] arg (e ∷ (f ∷ es)) all = absurd all.1
split_row origins (s ∷ args) arg [] all = absurd all
split_row origins (s ∷ args) arg (e ∷ es) all =
    let rest = split_row origins args arg es all.1 in
    (e ∷ rest.0, rest.1, ap (λ (xs : List Expression). e ∷ xs) rest.2, (all.0, rest.3), rest.4)

-- the number stands for the generic at these sorts
abbrev pub StandsAt : List Expression → List Node → ℕ → List SortId → ExprId → Type 0
StandsAt origins nodes g args id = (es : List Expression) → AllZip (IsNumberOf origins) args es → Stands nodes id.0 (with_args (named g) es)

pub at_none : (origins : List Expression) (nodes : List Node) (g : ℕ) (id : ExprId) → Stands nodes id.0 (named g) → StandsAt origins nodes g [] id
at_none origins nodes g id stands [] all = stands
at_none origins nodes g id stands (e ∷ es) all = absurd all

-- what one argument more makes of the function and of the argument's number
pub at_more : (origins : List Expression) (old new : List Node) (g : ℕ) (args : List SortId) (arg : SortId) (function argument id : ExprId) → StandsAt origins old g args function → ((f : Expression) → IsNumberOf origins arg f → Stands old argument.0 f)
    → ((e a : Expression) → Stands old function.0 e → Stands old argument.0 a → Stands new id.0 (applied e a)) → StandsAt origins new g (args ++ arg ∷ []) id
at_more origins old new g args arg function argument id stands named_arg made es all =
    let row = split_row origins args arg es all in
    subst (Stands new id.0) (sym (with_args-push (named g) row.0 row.1) ∙ ap (with_args (named g)) (sym row.2))
    (made (with_args (named g) row.0) row.1 (stands row.0 row.3) (named_arg row.1 row.4))

-- the number of an argument stands for it
pub argument_stands : (nodes : List Node) (sorts : List ExprId) (origins : List Expression) (arg : SortId) (argument : ExprId) → StandFor nodes sorts origins → slice_get sorts arg.0 ≡ Some argument → (f : Expression) → IsNumberOf origins arg f → Stands nodes argument.0 f
argument_stands nodes sorts origins arg argument all at f is =
    let own = stand_at nodes sorts origins arg.0 argument all at in
    subst (Stands nodes argument.0) (same_Some own.0 f (sym own.1 ∙ is)) own.2

-- where the expression with one argument more is not there, no such one with further arguments is
pub at_missing : (nodes : List Node) (single : AreSingle nodes) (sorts : List ExprId) (origins : List Expression) (g : ℕ) (function argument : ExprId) (i : ℕ) (args : List SortId) (arg : SortId) → StandFor nodes sorts origins
    → StandsAt origins nodes g (take i args) function → slice_get args i ≡ Some arg → slice_get sorts arg.0 ≡ Some argument → ((n : ℕ) → slice_get nodes n ≡ Some (Apply function argument) → ⊥)
    → (es : List Expression) (n : ℕ) → AllZip (IsNumberOf origins) args es → Stands nodes n (with_args (named g) es) → ⊥
at_missing nodes single sorts origins g function argument i args arg all before at number missing es n zipped stands =
    let parts = part i args es arg at zipped in
    let under = without_args nodes (applied (with_args (named g) parts.0) parts.1) parts.2 n (subst (Stands nodes n) (ap (with_args (named g)) parts.3 ∙ whole (named g) parts.0 parts.1 parts.2) stands) in
    let left : under.1.0 ≡ function = same_id under.1.0 function (stands_single nodes single (with_args (named g) parts.0) under.1.0.0 function.0 under.1.3 (before parts.0 parts.4)) in
    let right : under.1.1 ≡ argument = same_id under.1.1 argument (stands_single nodes single parts.1 under.1.1.0 argument.0 under.1.4 (argument_stands nodes sorts origins arg argument all number parts.1 parts.5)) in
    missing under.0 (under.1.2 ∙ ap₂ (λ (x y : ExprId). Some (Apply x y)) left right)
  where
    same_id : (a b : ExprId) → a.0 ≡ b.0 → a ≡ b
    same_id a b e i = record { 0 = e i }

    whole : (e : Expression) (xs : List Expression) (a : Expression) (ys : List Expression) → with_args e (xs ++ a ∷ ys) ≡ with_args (applied (with_args e xs) a) ys
    whole e [] a ys = refl
    whole e (x ∷ xs) a ys = whole (applied e x) xs a ys

    part : (i : ℕ) (args : List SortId) (es : List Expression) (arg : SortId) → slice_get args i ≡ Some arg → AllZip (IsNumberOf origins) args es → (fs : List Expression) × (f : Expression) × (rest : List Expression) × (es ≡ fs ++ f ∷ rest) × AllZip (IsNumberOf origins) (take i args) fs × IsNumberOf origins arg f
    part i [] es arg at zipped = absurd (none-some _ at)
    part i (s ∷ args) [] arg at zipped = absurd zipped
    part zero (s ∷ args) (e ∷ es) arg at zipped = ([], e, es, refl, tt, subst (λ (x : SortId). IsNumberOf origins x e) (same_Some s arg at) zipped.0)
    part (suc i) (s ∷ args) (e ∷ es) arg at zipped =
        let rest = part i args es arg at zipped.1 in
        (e ∷ rest.0, rest.1, rest.2, ap (λ (xs : List Expression). e ∷ xs) rest.3, (zipped.0, rest.4), rest.5)

-- the table while arguments are added
pub record IsUnderWay (old now : SortTable) (g : ℕ) (args : List SortId) (id : ExprId) (i : ℕ) : Type 0 where
  pub others : now ≡ record old { expressions = now.expressions }
  pub stay : Stay old.expressions now.expressions
  pub within : id.0 < length now.expressions
  pub stands : StandsAt (sorts_of old) now.expressions g (take i args) id

stands_below : (nodes : List Node) (n : ℕ) (e : Expression) → Stands nodes n e → n < length nodes
stands_below nodes n (parameter i) stands = slice_get_within nodes n (Param i) stands
stands_below nodes n (named h) stands = slice_get_within nodes n (HeadNode (record { 0 = h })) stands
stands_below nodes n (applied e a) stands = slice_get_within nodes n (Apply stands.0 stands.1) stands.2

-- one argument more of a row
module _ (origins : List Expression) (nodes : List Node) (sorts : List ExprId) (stand : StandFor nodes sorts origins) (g : ℕ) (args : List SortId) (i : ℕ) (d : SortId) (below : i < length args) (within : All (λ (s : SortId). s.0 < length sorts) args) (function : ExprId) (before : StandsAt origins nodes g (take i args) function) where
  number_here : (k : ExprId) × (slice_get sorts (get_or args i d).0 ≡ Some k)
  number_here = slice_get-there sorts (get_or args i d).0 (within i d below)

  pub more_here : (id : ExprId) → ((k : ExprId) → slice_get sorts (get_or args i d).0 ≡ Some k → slice_get nodes id.0 ≡ Some (Apply function k)) → StandsAt origins nodes g (take (i + 1) args) id
  more_here id made =
      let k = number_here in
      subst (λ (xs : List SortId). StandsAt origins nodes g xs id) (sym (take_more args i d below))
      (at_more origins nodes nodes g (take i args) (get_or args i d) function k.0 id before (argument_stands nodes sorts origins (get_or args i d) k.0 stand k.1) (λ e a p q. (function, k.0, made k.0 k.1, p, q)))

  pub missing_here : AreSingle nodes → ((k : ExprId) (n : ℕ) → slice_get sorts (get_or args i d).0 ≡ Some k → slice_get nodes n ≡ Some (Apply function k) → ⊥)
      → (es : List Expression) (n : ℕ) → AllZip (IsNumberOf origins) args es → Stands nodes n (with_args (named g) es) → ⊥
  missing_here single missing =
      let k = number_here in
      at_missing nodes single sorts origins g function k.0 i args (get_or args i d) stand before (slice_get-get_or args i d below) k.1 (λ n at. missing k.0 n k.1 at)

-- the whole row
pub whole_row : (origins : List Expression) (nodes : List Node) (g : ℕ) (args : List SortId) (i : ℕ) (id : ExprId) → length args ≤ i → StandsAt origins nodes g (take i args) id → StandsAt origins nodes g args id
whole_row origins nodes g args i id past stands = subst (λ (xs : List SortId). StandsAt origins nodes g xs id) (take_all i args past) stands

-- where the generic is not there, it is there with no arguments
pub no_head : (nodes : List Node) (g : ℕ) → ((n : ℕ) → slice_get nodes n ≡ Some (HeadNode (record { 0 = g })) → ⊥) → (es : List Expression) (n : ℕ) → Stands nodes n (with_args (named g) es) → ⊥
no_head nodes g missing es n stands = let under = without_args nodes (named g) es n stands in missing under.0 under.1

-- arguments that are added
module _ (old now : SortTable) (g : ℕ) (args : List SortId) (function : ExprId) (i : ℕ) (p : IsUnderWay old now g args function i) (d : SortId) (below : i < length args) where
  pub argument_within : All (λ (s : SortId). s.0 < length old.sorts) args → (get_or args i d).0 < length now.sorts
  argument_within within = subst (λ (x : SortTable). (get_or args i d).0 < length x.sorts) (sym p.others) (within i d below)

  module _ (stand : AreSorts old (sorts_of old)) (k : ExprId) (at : slice_get now.sorts (get_or args i d).0 ≡ Some k) where
    at_old : slice_get old.sorts (get_or args i d).0 ≡ Some k
    at_old = subst (λ (x : SortTable). slice_get x.sorts (get_or args i d).0 ≡ Some k) p.others at

    pub argument_below : k.0 < length now.expressions
    argument_below =
        let own = stand_at old.expressions old.sorts (sorts_of old) (get_or args i d).0 k stand at_old in
        stands_below now.expressions k.0 own.0 (stands_stay old.expressions now.expressions p.stay k.0 own.0 own.2)

    pub under_way_more : (new : SortTable) (id : ExprId) → new ≡ record now { expressions = new.expressions } → Stay now.expressions new.expressions → id.0 < length new.expressions
        → ((e a : Expression) → Stands now.expressions function.0 e → Stands now.expressions k.0 a → Stands new.expressions id.0 (applied e a)) → IsUnderWay old new g args id (i + 1)
    under_way_more new id others stay within made = record {
      others = others ∙ ap (λ (x : SortTable). record x { expressions = new.expressions }) p.others;
      stay = λ n node found. stay n node (p.stay n node found);
      within = within;
      stands = subst (λ (xs : List SortId). StandsAt (sorts_of old) new.expressions g xs id) (sym (take_more args i d below))
          (at_more (sorts_of old) now.expressions new.expressions g (take i args) (get_or args i d) function k id p.stands
          (λ f is. stands_stay old.expressions now.expressions p.stay k.0 f (argument_stands old.expressions old.sorts (sorts_of old) (get_or args i d) k stand at_old f is)) made);
    }

-- what a generic at these numbers is
module _ (t : Tables) (g : GenId) (args : List SortId) where
  pub at_stands : (nodes : List Node) (id : ExprId) (fs ds : List Function) (e : Expression) → StandsAt (sorts_of t.table) nodes g.0 args id → IsAt (of_tables t fs ds) g args e → Stands nodes id.0 e
  at_stands nodes id fs ds e stands at = subst (Stands nodes id.0) (sym at.2) (stands at.0 at.1)

  pub at_exists : (fs ds : List Function) → All (λ (s : SortId). s.0 < length t.table.sorts) args → (e : Expression) × IsAt (of_tables t fs ds) g args e
  at_exists fs ds within =
      let row = numbers_exist (sorts_of t.table) args (λ i s below. subst (λ (n : ℕ). (get_or args i s).0 < n) (numbers_long t) (within i s below)) in
      (with_args (named g.0) row.0, (row.0, row.1, refl))

  pub at_closed : (fs ds : List Function) → IsConsistent (of_tables t fs ds) → (head : Head) → slice_get (declared_of t.generics).heads g.0 ≡ Some head → length args ≡ head.params → (e : Expression) → IsAt (of_tables t fs ds) g args e → IsExpression (declared_of t.generics).heads 0 e
  at_closed fs ds c head known long e at =
      subst (IsExpression (declared_of t.generics).heads 0) (sym at.2)
      (at_sorts (declared_of t.generics).heads g.0 head at.0 known (sym (numbers_many (sorts_of t.table) args at.0 at.1) ∙ long)
      (λ i f found. let place = numbers_listed (sorts_of t.table) args at.0 at.1 i f found in c.origins.sorts place.0 f place.1))

-- numbers of sorts are numbers of the list
pub sorts_within : (t : Tables) → IsTabled t → (fs ds : List Function) (args : List SortId) → All (IsSort (of_tables t fs ds)) args → All (λ (s : SortId). s.0 < length t.table.sorts) args
sorts_within t tab fs ds args within i s below = omega (arith, within i s below, length-map t.sorts sort_of_entry, entries_long t tab)
