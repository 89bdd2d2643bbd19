use Rattle.std.proofs.Common.{◌≡◌, Bool, Ok, refl, sym, ◌∙◌, ap}
use Rattle.std.proofs.lemmas.Result.{err_from_is_err_and}
use Rattle.ct_sexpr.specs.View.{expression_of, expressions_of}
use Rattle.ct_sorts.specs.declared.ids.SortId.{SortId}
use Rattle.ct_sorts.specs.Declarations.{Declarations}
use Rattle.ct_names.specs.Answer.{as_it_is}
use Rattle.ct_names.specs.Needs.{as_they_are}
use Rattle.ct_names.specs.Outcome.{Elaborated, and_then, unless_halted}
use Rattle.ct_names.specs.Refusals.{out_of_scope}
use Rattle.ct_names.specs.Sorts.{sort_of}
use Rattle.ct_names.specs.Elaboration.{part_of, listable_sort}
use Rattle.ct_names.proofs.AnswerLemmas.{stops_memory}
use Rattle.ct_names.proofs.NeedLemmas.{grows_itself, reaches_first, reaches_same}
use Rattle.ct_check.proofs.FormSteps.{pair_at}
use Rattle.ct_check.proofs.KnownLemmas.{known_covers, known_true, known_false}
use Rattle.ct_check.proofs.OtherForms.{leaf-no_pair, length-no_pair, sort-other}
use Rattle.ct_check.proofs.QuantifierLemmas.{if_listable, pair_sort}
use Rattle.ct_check.proofs.StepLemmas.{stops_with}
use Rattle.ct_check.proofs.quantifiers.listable_sort.Goals as goal

pub returns-in_default : goal.returns-in_default
returns-in_default c =
    let d = c.args.sig.now in
    record {
      value = sort-other d (part_of d (expression_of c.args.binding.now)) (leaf-no_pair d c.args.binding.now c.in_default.not-List);
      reaches = as_they_are d;
      kept = λ e. refl;
      grown = (grows_itself d).extends;
      known = tt;
    }

pub returns-then-items-ne2-clause-value : goal.returns-then-items-ne2-clause-value
returns-then-items-ne2-clause-value c =
    let d = c.args.sig.now in
    sort-other d (part_of d (expression_of c.args.binding.now)) (length-no_pair d c.args.binding.now c.in-List.items c.as_slice-items.result.now c.in-List.is c.as_slice-items.ensures.value c.if-items-ne2.true)

pub returns-then-items-ne2-clause-reaches : goal.returns-then-items-ne2-clause-reaches
returns-then-items-ne2-clause-reaches c = as_they_are c.args.sig.now

pub returns-then-items-ne2-clause-grown : goal.returns-then-items-ne2-clause-grown
returns-then-items-ne2-clause-grown c = (grows_itself c.args.sig.now).extends

pub returns-in_err-sort-clause-value : goal.returns-in_err-sort-clause-value
returns-in_err-sort-clause-value c =
    let b = c.args.binding.now in
    let e = expression_of c.index-items-1.result in
    let two = pair_at c.as_slice-items.result.now c.index-items-1.result c.if-items-ne2.false c.index-items-1.is in
    let is : (n : Declarations) → listable_sort n (part_of n (expression_of b)) ≡ and_then (sort_of n e) (if_listable n) =
    λ n. pair_sort n b c.in-List.items c.as_slice-items.result.now c.in-List.is c.as_slice-items.ensures.value two.0 c.index-items-1.result two.1 in
    let d = c.named_sort.new.sig in
    let p = err_from_is_err_and c.from_residual.result c.from_residual.ensures.1 in
    rw (p.1, p.2) (stops_with c.args.needs d (as_it_is {X = SortId}) (as_it_is {X = SortId}) (sort_of d e) (listable_sort d (part_of d (expression_of b))) _ (λ h f. is d ∙ ap (λ (o : Elaborated SortId). and_then o (if_listable d)) f) c.in_err-sort.ensures.value)

pub returns-in_err-sort-clause-reaches : goal.returns-in_err-sort-clause-reaches
returns-in_err-sort-clause-reaches c =
    let b = c.args.binding.now in
    let e = expression_of c.index-items-1.result in
    let two = pair_at c.as_slice-items.result.now c.index-items-1.result c.if-items-ne2.false c.index-items-1.is in
    let is : (n : Declarations) → listable_sort n (part_of n (expression_of b)) ≡ and_then (sort_of n e) (if_listable n) =
    λ n. pair_sort n b c.in-List.items c.as_slice-items.result.now c.in-List.is c.as_slice-items.ensures.value two.0 c.index-items-1.result two.1 in
    reaches_same (λ n. and_then (sort_of n e) (if_listable n)) (λ n. listable_sort n (part_of n (expression_of b))) c.args.sig.now c.named_sort.new.sig (λ n _. is n) (reaches_first (λ n. sort_of n e) if_listable c.args.sig.now c.named_sort.new.sig c.in_err-sort.ensures.reaches)

pub returns-in_err-sort-clause-kept : goal.returns-in_err-sort-clause-kept
returns-in_err-sort-clause-kept c = c.in_err-sort.ensures.kept

pub returns-in_err-sort-clause-grown : goal.returns-in_err-sort-clause-grown
returns-in_err-sort-clause-grown c = c.in_err-sort.ensures.grown

pub returns-in_err-sort-clause-known : goal.returns-in_err-sort-clause-known
returns-in_err-sort-clause-known c =
    let p = err_from_is_err_and c.from_residual.result c.from_residual.ensures.1 in
    rw p.1 tt

pub keep_up-requires : goal.keep_up-requires
keep_up-requires c = record { known = (c.args.sig.now, c.requires.known, c.sorts-before.ensures.consistent, c.in_ok-sort.ensures.grown, sym c.sorts-before.ensures.count) }

pub returns-in_err-keep_up-clause-value : goal.returns-in_err-keep_up-clause-value
returns-in_err-keep_up-clause-value c =
    let d = c.named_sort.new.sig in
    let p = err_from_is_err_and c.from_residual-in_err-keep_up.result c.from_residual-in_err-keep_up.ensures.1 in
    rw (p.1, p.2) (stops_memory c.args.needs d (as_it_is {X = SortId}) (listable_sort d (part_of d (expression_of c.args.binding.now))) _ c.in_err-keep_up.ensures.err)

pub returns-in_err-keep_up-clause-reaches : goal.returns-in_err-keep_up-clause-reaches
returns-in_err-keep_up-clause-reaches c =
    let b = c.args.binding.now in
    let e = expression_of c.index-items-1.result in
    let two = pair_at c.as_slice-items.result.now c.index-items-1.result c.if-items-ne2.false c.index-items-1.is in
    let is : (n : Declarations) → listable_sort n (part_of n (expression_of b)) ≡ and_then (sort_of n e) (if_listable n) =
    λ n. pair_sort n b c.in-List.items c.as_slice-items.result.now c.in-List.is c.as_slice-items.ensures.value two.0 c.index-items-1.result two.1 in
    reaches_same (λ n. and_then (sort_of n e) (if_listable n)) (λ n. listable_sort n (part_of n (expression_of b))) c.args.sig.now c.named_sort.new.sig (λ n _. is n) (reaches_first (λ n. sort_of n e) if_listable c.args.sig.now c.named_sort.new.sig c.in_ok-sort.ensures.reaches)

pub returns-in_err-keep_up-clause-kept : goal.returns-in_err-keep_up-clause-kept
returns-in_err-keep_up-clause-kept c = c.in_ok-sort.ensures.kept

pub returns-in_err-keep_up-clause-grown : goal.returns-in_err-keep_up-clause-grown
returns-in_err-keep_up-clause-grown c = c.in_ok-sort.ensures.grown

pub returns-in_err-keep_up-clause-known : goal.returns-in_err-keep_up-clause-known
returns-in_err-keep_up-clause-known c =
    let p = err_from_is_err_and c.from_residual-in_err-keep_up.result c.from_residual-in_err-keep_up.ensures.1 in
    rw p.1 tt

pub listable-requires : goal.listable-requires
listable-requires c = record { inside = known_covers c.named_sort.new.sig c.keep_up.new.known c.in_ok-keep_up.ensures.known c.in_ok-sort.sort c.in_ok-sort.ensures.inside }

pub returns-then-not-listable-clause-value : goal.returns-then-not-listable-clause-value
returns-then-not-listable-clause-value c =
    let b = c.args.binding.now in
    let e = expression_of c.index-items-1.result in
    let two = pair_at c.as_slice-items.result.now c.index-items-1.result c.if-items-ne2.false c.index-items-1.is in
    let is : (n : Declarations) → listable_sort n (part_of n (expression_of b)) ≡ and_then (sort_of n e) (if_listable n) =
    λ n. pair_sort n b c.in-List.items c.as_slice-items.result.now c.in-List.is c.as_slice-items.ensures.value two.0 c.index-items-1.result two.1 in
    let d = c.named_sort.new.sig in
    let k = c.in_ok-keep_up.ensures.known in
    is d ∙ ap (λ (o : Elaborated SortId). and_then o (if_listable d)) c.in_ok-sort.ensures.value
    ∙ ap (λ (listable : Bool). unless_halted listable out_of_scope (Ok c.in_ok-sort.sort)) (known_false d c.keep_up.new.known k c.in_ok-sort.sort c.listable.result c.in_ok-sort.ensures.inside (c.listable.ensures.exact k.earlier k.right) c.if-not-listable.true)

pub returns-then-not-listable-clause-reaches : goal.returns-then-not-listable-clause-reaches
returns-then-not-listable-clause-reaches c =
    let b = c.args.binding.now in
    let e = expression_of c.index-items-1.result in
    let two = pair_at c.as_slice-items.result.now c.index-items-1.result c.if-items-ne2.false c.index-items-1.is in
    let is : (n : Declarations) → listable_sort n (part_of n (expression_of b)) ≡ and_then (sort_of n e) (if_listable n) =
    λ n. pair_sort n b c.in-List.items c.as_slice-items.result.now c.in-List.is c.as_slice-items.ensures.value two.0 c.index-items-1.result two.1 in
    reaches_same (λ n. and_then (sort_of n e) (if_listable n)) (λ n. listable_sort n (part_of n (expression_of b))) c.args.sig.now c.named_sort.new.sig (λ n _. is n) (reaches_first (λ n. sort_of n e) if_listable c.args.sig.now c.named_sort.new.sig c.in_ok-sort.ensures.reaches)

pub returns-then-not-listable-clause-kept : goal.returns-then-not-listable-clause-kept
returns-then-not-listable-clause-kept c = c.in_ok-sort.ensures.kept

pub returns-then-not-listable-clause-grown : goal.returns-then-not-listable-clause-grown
returns-then-not-listable-clause-grown c = c.in_ok-sort.ensures.grown

pub returns-clause-value : goal.returns-clause-value
returns-clause-value c =
    let b = c.args.binding.now in
    let e = expression_of c.index-items-1.result in
    let two = pair_at c.as_slice-items.result.now c.index-items-1.result c.if-items-ne2.false c.index-items-1.is in
    let is : (n : Declarations) → listable_sort n (part_of n (expression_of b)) ≡ and_then (sort_of n e) (if_listable n) =
    λ n. pair_sort n b c.in-List.items c.as_slice-items.result.now c.in-List.is c.as_slice-items.ensures.value two.0 c.index-items-1.result two.1 in
    let d = c.named_sort.new.sig in
    let k = c.in_ok-keep_up.ensures.known in
    is d ∙ ap (λ (o : Elaborated SortId). and_then o (if_listable d)) c.in_ok-sort.ensures.value
    ∙ ap (λ (listable : Bool). unless_halted listable out_of_scope (Ok c.in_ok-sort.sort)) (known_true d c.keep_up.new.known k c.in_ok-sort.sort c.listable.result (c.listable.ensures.exact k.earlier k.right) c.if-not-listable.false)

pub returns-clause-reaches : goal.returns-clause-reaches
returns-clause-reaches c =
    let b = c.args.binding.now in
    let e = expression_of c.index-items-1.result in
    let two = pair_at c.as_slice-items.result.now c.index-items-1.result c.if-items-ne2.false c.index-items-1.is in
    let is : (n : Declarations) → listable_sort n (part_of n (expression_of b)) ≡ and_then (sort_of n e) (if_listable n) =
    λ n. pair_sort n b c.in-List.items c.as_slice-items.result.now c.in-List.is c.as_slice-items.ensures.value two.0 c.index-items-1.result two.1 in
    reaches_same (λ n. and_then (sort_of n e) (if_listable n)) (λ n. listable_sort n (part_of n (expression_of b))) c.args.sig.now c.named_sort.new.sig (λ n _. is n) (reaches_first (λ n. sort_of n e) if_listable c.args.sig.now c.named_sort.new.sig c.in_ok-sort.ensures.reaches)

pub returns-clause-kept : goal.returns-clause-kept
returns-clause-kept c = c.in_ok-sort.ensures.kept

pub returns-clause-grown : goal.returns-clause-grown
returns-clause-grown c = c.in_ok-sort.ensures.grown

pub returns-clause-known : goal.returns-clause-known
returns-clause-known c = c.in_ok-keep_up.ensures.known
