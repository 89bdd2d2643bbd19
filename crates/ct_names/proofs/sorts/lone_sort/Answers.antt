use Rattle.std.proofs.Common.{ℕ, List, length, map, None, Some, Err, sym, ◌∙◌, ap, subst}
use Rattle.std.specs.Borrow.{Bor}
use Rattle.std.proofs.lemmas.Result.{err_from_is_err_and}
use Rattle.ct_generics.specs.declared.expr.SortExpr.{Param, App}
use Rattle.ct_sexpr.specs.Expression.{Expression, leaf as leaf_of}
use Rattle.ct_sexpr.specs.View.{expression_of}
use Rattle.ct_sorts.specs.Declarations.{start}
use Rattle.ct_names.specs.Sorts.{IsReadAs, IsNotRead, declared_in}
use Rattle.ct_names.proofs.PlaceLemmas.{place_within, below_parameter}
use Rattle.ct_names.proofs.PlainLemmas.{name_of_leaf}
use Rattle.ct_names.proofs.RefusalLemmas.{refused_at, refused_on}
use Rattle.ct_names.proofs.WrittenLemmas.{parameter_read, name_read, nameless, unknown_name}
use Rattle.ct_names.proofs.sorts.lone_sort.Goals as goal

pub returns-in_default-clause-refused : goal.returns-in_default-clause-refused
returns-in_default-clause-refused c =
    let o = declared_in c.args.known in
    let params = map (λ (p : Bor (List ℕ)). p.now) c.args.params.now in
    let leaf = c.requires.leaf in
    let none = name_of_leaf (expression_of c.args.expr.now) leaf.0 None leaf.1 (c.in_default.ensures.name start) in
    refused_at (λ (n : ℕ). IsNotRead o params (expression_of c.args.expr.now) n) 28 (subst (λ (x : Expression). IsNotRead o params x 28) (sym leaf.1) (nameless o params leaf.0 none))

pub returns-in-Some-parameter_at-clause-ok : goal.returns-in-Some-parameter_at-clause-ok
returns-in-Some-parameter_at-clause-ok c =
    let o = declared_in c.args.known in
    let params = map (λ (p : Bor (List ℕ)). p.now) c.args.params.now in
    let leaf = c.requires.leaf in
    let name = c.in-Some.name.now in
    let i = c.in-Some-parameter_at.index in
    let is = name_of_leaf (expression_of c.args.expr.now) leaf.0 (Some name) leaf.1 (c.in-Some.ensures.name start) in
    subst (λ (x : Expression). IsReadAs o params x (Param i)) (sym leaf.1) (parameter_read o params leaf.0 name i is (sym c.parameter_at.ensures.value ∙ c.in-Some-parameter_at.is))

pub returns-in-Some-parameter_at-clause-below : goal.returns-in-Some-parameter_at-clause-below
returns-in-Some-parameter_at-clause-below c =
    below_parameter (length c.args.params.now) c.in-Some-parameter_at.index (place_within c.args.params.now c.in-Some.name.now c.in-Some-parameter_at.index (sym c.parameter_at.ensures.value ∙ c.in-Some-parameter_at.is))

pub returns-in_err-look_up-clause-refused : goal.returns-in_err-look_up-clause-refused
returns-in_err-look_up-clause-refused c =
    let o = declared_in c.args.known in
    let params = map (λ (p : Bor (List ℕ)). p.now) c.args.params.now in
    let leaf = c.requires.leaf in
    let name = c.in-Some.name.now in
    let is = name_of_leaf (expression_of c.args.expr.now) leaf.0 (Some name) leaf.1 (c.in-Some.ensures.name start) in
    let none = sym c.parameter_at.ensures.value ∙ c.in_default-parameter_at.is in
    let p = err_from_is_err_and c.from_residual.result c.from_residual.ensures.1 in
    refused_on (λ (n : ℕ). IsNotRead o params (expression_of c.args.expr.now) n) c.in_err-look_up.field-0.0 c.from_residual.result (p.1 ∙ ap Err p.2)
    (λ n e. subst (λ (x : Expression). IsNotRead o params x n) (sym leaf.1) (unknown_name o params leaf.0 name n is none (c.in_err-look_up.ensures.refused n e)))

pub returns-clause-ok : goal.returns-clause-ok
returns-clause-ok c =
    let o = declared_in c.args.known in
    let params = map (λ (p : Bor (List ℕ)). p.now) c.args.params.now in
    let leaf = c.requires.leaf in
    let name = c.in-Some.name.now in
    let is = name_of_leaf (expression_of c.args.expr.now) leaf.0 (Some name) leaf.1 (c.in-Some.ensures.name start) in
    let none = sym c.parameter_at.ensures.value ∙ c.in_default-parameter_at.is in
    subst (λ (x : Expression). IsReadAs o params x (App c.in_ok-from_slice.field-0 c.new.result)) (sym leaf.1)
    (subst (λ (text : List ℕ). IsReadAs o params (leaf_of leaf.0) (App text c.new.result)) (sym c.in_ok-from_slice.ensures.ok) (name_read o params leaf.0 name c.new.result is none c.in_ok-look_up.ensures.ok c.new.ensures.items))
