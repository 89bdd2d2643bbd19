use Rattle.std.proofs.Common.{◌≡◌, ℕ, ◌+◌, ◌-◌, ◌<◌, List, [], ◌∷◌, ◌++◌, length, map, take, drop, take_all, Err, refl, sym, ◌∙◌, ap, subst, arith}
use Rattle.std.specs.Borrow.{Bor}
use Rattle.std.proofs.lemmas.Result.{err_from_is_err_and}
use Rattle.ct_lemmas.proofs.Options.{IfOk-map}
use Rattle.ct_lemmas.proofs.Prefixes.{nothing_left, rest-item}
use Rattle.ct_generics.specs.declared.expr.SortExpr.{SortExpr, App}
use Rattle.ct_sexpr.specs.declared.sexpr.Sexpr.{Sexpr}
use Rattle.ct_sexpr.specs.Expression.{Expression, list, none, more}
use Rattle.ct_sexpr.specs.View.{expression_of, expressions_of}
use Rattle.ct_names.specs.Sorts.{IsReadAs, AreReadAs, IsNotRead, AreNotRead, declared_in, HaveBelow}
use Rattle.ct_names.proofs.NestingLemmas.{nests_item, nests_rest, nests_list}
use Rattle.ct_names.proofs.PartLemmas.{take_item, expression_of_items}
use Rattle.ct_names.proofs.PlaceLemmas.{below_applied, below-push, split_item}
use Rattle.ct_names.proofs.RefusalLemmas.{refused_at, refused_on}
use Rattle.ct_names.proofs.WrittenLemmas.{applied_read, empty_unread, read-none, headless_unread, unknown_unread, args_unread, read-push, read-stop}
use Rattle.ct_names.proofs.sorts.+sorts.Goals as goal

-- each call nests less, or goes down to items
pub read_sort-applied_sort-requires : goal.read_sort-applied_sort-requires
read_sort-applied_sort-requires t c = (omega (arith, nests_list c.args.expr.now c.in-List.items c.as_slice.result.now c.in-List.is c.as_slice.ensures.value, c.decreases), tt)

pub applied_sort-read_sorts-requires : goal.applied_sort-read_sorts-requires
applied_sort-read_sorts-requires t c = (omega (arith, nests_rest c.args.items.now c.in-len1-up.len_at_least, c.decreases), tt)

pub read_sorts-read_sort-requires : goal.read_sorts-read_sort-requires
read_sorts-read_sort-requires t c = (omega (arith, nests_item c.args.exprs.now c.loop-expr.expr-index c.expr-item.result c.loop-expr-test.true c.expr-item.is, c.decreases), tt)

-- a list is what its items are
pub read_sort-returns-in-List-clause-ok : goal.read_sort-returns-in-List-clause-ok
read_sort-returns-in-List-clause-ok t c =
    let o = declared_in c.args.known in
    let params = map (λ (p : Bor (List ℕ)). p.now) c.args.params.now in
    let is = expression_of_items c.args.expr.now c.in-List.items c.as_slice.result.now c.in-List.is c.as_slice.ensures.value in
    IfOk-map c.applied_sort.result _ _ (λ w h. subst (λ (x : Expression). IsReadAs o params x w) (sym is) h) c.applied_sort.ensures.ok

pub read_sort-returns-in-List-clause-refused : goal.read_sort-returns-in-List-clause-refused
read_sort-returns-in-List-clause-refused t c =
    let o = declared_in c.args.known in
    let params = map (λ (p : Bor (List ℕ)). p.now) c.args.params.now in
    let is = expression_of_items c.args.expr.now c.in-List.items c.as_slice.result.now c.in-List.is c.as_slice.ensures.value in
    λ n e. subst (λ (x : Expression). IsNotRead o params x n) (sym is) (c.applied_sort.ensures.refused n e)

-- a name with sorts
pub applied_sort-returns-in_default-clause-refused : goal.applied_sort-returns-in_default-clause-refused
applied_sort-returns-in_default-clause-refused t c =
    let o = declared_in c.args.known in
    let params = map (λ (p : Bor (List ℕ)). p.now) c.args.params.now in
    refused_at (λ (n : ℕ). IsNotRead o params (list (expressions_of c.args.items.now)) n) 28
    (subst (λ (xs : List Sexpr). IsNotRead o params (list (expressions_of xs)) 28) (sym (nothing_left c.args.items.now c.in_default.len_below)) (empty_unread o params))

pub applied_sort-returns-in_err-name-clause-refused : goal.applied_sort-returns-in_err-name-clause-refused
applied_sort-returns-in_err-name-clause-refused t c =
    let o = declared_in c.args.known in
    let params = map (λ (p : Bor (List ℕ)). p.now) c.args.params.now in
    let items = c.args.items.now in
    let head = c.head-item.result in
    let rest : List Sexpr = take (length items - 1) (drop 1 items) in
    let is : items ≡ head ∷ rest = rest-item items head c.in-len1-up.len_at_least c.head-item.is in
    let p = err_from_is_err_and c.from_residual.result c.from_residual.ensures.1 in
    refused_on (λ (n : ℕ). IsNotRead o params (list (expressions_of items)) n) c.in_err-name.field-0.0 c.from_residual.result (p.1 ∙ ap Err p.2)
    (λ n e.
    let h = c.in_err-name.ensures.refused n e in
    subst (λ (xs : List Sexpr). IsNotRead o params (list (expressions_of xs)) n) (sym is)
    (subst (λ (k : ℕ). IsNotRead o params (list (more (expression_of head) (expressions_of rest))) k) (sym h.0)
    (headless_unread o params (expression_of head) rest (λ name named some at. h.1 name named (omega (arith, some, ap length is)) at))))

pub applied_sort-returns-in_err-look_up-clause-refused : goal.applied_sort-returns-in_err-look_up-clause-refused
applied_sort-returns-in_err-look_up-clause-refused t c =
    let o = declared_in c.args.known in
    let params = map (λ (p : Bor (List ℕ)). p.now) c.args.params.now in
    let items = c.args.items.now in
    let head = c.head-item.result in
    let rest : List Sexpr = take (length items - 1) (drop 1 items) in
    let is : items ≡ head ∷ rest = rest-item items head c.in-len1-up.len_at_least c.head-item.is in
    let name = c.in_ok-name.name.now in
    let named = c.in_ok-name.ensures.ok in
    let some : 0 < length rest = omega (arith, named.1, ap length is) in
    let p = err_from_is_err_and c.from_residual-in_err-look_up.result c.from_residual-in_err-look_up.ensures.1 in
    refused_on (λ (n : ℕ). IsNotRead o params (list (expressions_of items)) n) c.in_err-look_up.field-0.0 c.from_residual-in_err-look_up.result (p.1 ∙ ap Err p.2)
    (λ n e. subst (λ (xs : List Sexpr). IsNotRead o params (list (expressions_of xs)) n) (sym is)
    (unknown_unread o params (expression_of head) rest name n named.0 some named.2 (c.in_err-look_up.ensures.refused n e)))

pub applied_sort-returns-in_err-sorts-clause-refused : goal.applied_sort-returns-in_err-sorts-clause-refused
applied_sort-returns-in_err-sorts-clause-refused t c =
    let o = declared_in c.args.known in
    let params = map (λ (p : Bor (List ℕ)). p.now) c.args.params.now in
    let items = c.args.items.now in
    let head = c.head-item.result in
    let rest : List Sexpr = take (length items - 1) (drop 1 items) in
    let is : items ≡ head ∷ rest = rest-item items head c.in-len1-up.len_at_least c.head-item.is in
    let name = c.in_ok-name.name.now in
    let named = c.in_ok-name.ensures.ok in
    let some : 0 < length rest = omega (arith, named.1, ap length is) in
    let known = c.in_ok-look_up.ensures.ok in
    let p = err_from_is_err_and c.from_residual-in_err-sorts.result c.from_residual-in_err-sorts.ensures.1 in
    refused_on (λ (n : ℕ). IsNotRead o params (list (expressions_of items)) n) c.in_err-sorts.field-0.0 c.from_residual-in_err-sorts.result (p.1 ∙ ap Err p.2)
    (λ n e. subst (λ (xs : List Sexpr). IsNotRead o params (list (expressions_of xs)) n) (sym is)
    (args_unread o params (expression_of head) rest name n named.0 some named.2 known (c.in_err-sorts.ensures.refused n e)))

pub applied_sort-returns-clause-ok : goal.applied_sort-returns-clause-ok
applied_sort-returns-clause-ok t c =
    let o = declared_in c.args.known in
    let params = map (λ (p : Bor (List ℕ)). p.now) c.args.params.now in
    let items = c.args.items.now in
    let head = c.head-item.result in
    let rest : List Sexpr = take (length items - 1) (drop 1 items) in
    let is : items ≡ head ∷ rest = rest-item items head c.in-len1-up.len_at_least c.head-item.is in
    let name = c.in_ok-name.name.now in
    let named = c.in_ok-name.ensures.ok in
    let some : 0 < length rest = omega (arith, named.1, ap length is) in
    let known = c.in_ok-look_up.ensures.ok in
    subst (λ (xs : List Sexpr). IsReadAs o params (list (expressions_of xs)) (App c.in_ok-from_slice.field-0 c.in_ok-sorts.sorts)) (sym is)
    (subst (λ (text : List ℕ). IsReadAs o params (list (more (expression_of head) (expressions_of rest))) (App text c.in_ok-sorts.sorts)) (sym c.in_ok-from_slice.ensures.ok)
    (applied_read o params (expression_of head) rest name c.in_ok-sorts.sorts named.0 some named.2 known c.in_ok-sorts.ensures.ok))

pub applied_sort-returns-clause-below : goal.applied_sort-returns-clause-below
applied_sort-returns-clause-below t c = below_applied (length c.args.params.now) c.in_ok-from_slice.field-0 c.in_ok-sorts.sorts c.in_ok-sorts.ensures.below

-- sorts one after the other
pub read_sorts-loop-expr-init : goal.read_sorts-loop-expr-init
read_sorts-loop-expr-init t c =
    let o = declared_in c.args.known in
    let params = map (λ (p : Bor (List ℕ)). p.now) c.args.params.now in
    record {
      read = subst (λ (ws : List SortExpr). AreReadAs o params none ws) (sym c.in_ok-sorts.ensures.items) (read-none o params);
      below = subst (λ (ws : List SortExpr). HaveBelow (length c.args.params.now) ws) (sym c.in_ok-sorts.ensures.items) refl;
    }

pub read_sorts-returns-in_err-sort-clause-refused : goal.read_sorts-returns-in_err-sort-clause-refused
read_sorts-returns-in_err-sort-clause-refused t c =
    let o = declared_in c.args.known in
    let params = map (λ (p : Bor (List ℕ)). p.now) c.args.params.now in
    let loop = c.loop-expr in
    let exprs = c.args.exprs.now in
    let x = c.expr-item.result in
    let p = err_from_is_err_and c.from_residual-in_err-sort.result c.from_residual-in_err-sort.ensures.1 in
    refused_on (λ (n : ℕ). AreNotRead o params (expressions_of exprs) n) c.in_err-sort.field-0.0 c.from_residual-in_err-sort.result (p.1 ∙ ap Err p.2)
    (λ n e. subst (λ (xs : List Sexpr). AreNotRead o params (expressions_of xs) n) (sym (split_item exprs loop.expr-index x c.loop-expr-test.true c.expr-item.is))
    (read-stop o params (take loop.expr-index exprs) x (drop (loop.expr-index + 1) exprs) loop.sorts.items n loop.invariant.read (c.in_err-sort.ensures.refused n e)))

pub read_sorts-loop-expr-preserved : goal.read_sorts-loop-expr-preserved
read_sorts-loop-expr-preserved t c =
    let o = declared_in c.args.known in
    let params = map (λ (p : Bor (List ℕ)). p.now) c.args.params.now in
    let loop = c.loop-expr in
    let exprs = c.args.exprs.now in
    let x = c.expr-item.result in
    record {
      read = rw c.in_ok-push.ensures.items
          (subst (λ (xs : List Sexpr). AreReadAs o params (expressions_of xs) (loop.sorts.items ++ c.in_ok-sort.sort ∷ [])) (sym (take_item exprs loop.expr-index x c.loop-expr-test.true c.expr-item.is))
          (read-push o params (take loop.expr-index exprs) x loop.sorts.items c.in_ok-sort.sort loop.invariant.read c.in_ok-sort.ensures.ok));
      below = rw c.in_ok-push.ensures.items (below-push (length c.args.params.now) loop.sorts.items c.in_ok-sort.sort loop.invariant.below c.in_ok-sort.ensures.below);
    }

pub read_sorts-returns-clause-ok : goal.read_sorts-returns-clause-ok
read_sorts-returns-clause-ok t c =
    let o = declared_in c.args.known in
    let params = map (λ (p : Bor (List ℕ)). p.now) c.args.params.now in
    let loop = c.loop-expr in
    subst (λ (xs : List Sexpr). AreReadAs o params (expressions_of xs) loop.sorts.items) (take_all loop.expr-index c.args.exprs.now (omega (arith, c.loop-expr-test.false))) loop.invariant.read
