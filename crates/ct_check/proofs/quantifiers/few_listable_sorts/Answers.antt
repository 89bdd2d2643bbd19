use Rattle.std.proofs.Common.{◌≡◌, Bool, not, nat_le, List, length, All, Vec, Global, Ok, sym, ◌∙◌, ap, subst}
use Rattle.std.proofs.lemmas.Result.{err_from_is_err_and}
use Rattle.ct_sexpr.specs.View.{expressions_of}
use Rattle.ct_sorts.specs.declared.ids.SortId.{SortId}
use Rattle.ct_listing.specs.Closed.{ClosedValue}
use Rattle.ct_listing.specs.Listable.{IsListable}
use Rattle.ct_formulas.specs.Choices.{choices_of, most_choices}
use Rattle.ct_names.specs.Needs.{as_they_are}
use Rattle.ct_names.specs.Outcome.{Elaborated, and_then, unless_halted}
use Rattle.ct_names.specs.Refusals.{too_many_values}
use Rattle.ct_names.specs.Elaboration.{parts_of}
use Rattle.ct_names.proofs.AnswerLemmas.{stops_memory}
use Rattle.ct_names.proofs.NeedLemmas.{grows_itself, reaches_first}
use Rattle.ct_names.proofs.StayListable.{listable_sorts_stay}
use Rattle.ct_check.specs.Quantifiers.{few_listable_sorts}
use Rattle.ct_check.proofs.KnownLemmas.{known_sorts, known_choices, too_many_choices, few_choices}
use Rattle.ct_check.proofs.QuantifierLemmas.{so_far, if_few}
use Rattle.ct_check.proofs.StepLemmas.{stops_with}
use Rattle.ct_check.proofs.quantifiers.few_listable_sorts.Goals as goal

pub returns-in_err-known-clause-value : goal.returns-in_err-known-clause-value
returns-in_err-known-clause-value c =
    let d = c.args.sig.now in
    let p = err_from_is_err_and c.from_residual.result c.from_residual.ensures.1 in
    rw (p.1, p.2) (stops_memory c.args.needs d (λ (found : Vec SortId Global). found.items) (few_listable_sorts d (parts_of d (expressions_of c.args.bindings.now))) _ c.in_err-known.ensures.err)

pub returns-in_err-known-clause-reaches : goal.returns-in_err-known-clause-reaches
returns-in_err-known-clause-reaches c = as_they_are c.args.sig.now

pub returns-in_err-known-clause-grown : goal.returns-in_err-known-clause-grown
returns-in_err-known-clause-grown c = (grows_itself c.args.sig.now).extends

pub listable_sorts-requires : goal.listable_sorts-requires
listable_sorts-requires c = record { known = c.in_ok-known.ensures.known }

pub returns-in_err-sorts-clause-value : goal.returns-in_err-sorts-clause-value
returns-in_err-sorts-clause-value c =
    let d = c.listable_sorts.new.sig in
    let p = err_from_is_err_and c.from_residual-in_err-sorts.result c.from_residual-in_err-sorts.ensures.1 in
    rw (p.1, p.2) (stops_with c.args.needs d (λ (found : Vec SortId Global). found.items) (λ (found : Vec SortId Global). found.items) (so_far c.args.bindings.now d) (few_listable_sorts d (parts_of d (expressions_of c.args.bindings.now))) _ (λ h e. ap (λ (o : Elaborated (List SortId)). and_then o (if_few d)) e) c.in_err-sorts.ensures.value)

pub returns-in_err-sorts-clause-reaches : goal.returns-in_err-sorts-clause-reaches
returns-in_err-sorts-clause-reaches c = reaches_first (so_far c.args.bindings.now) if_few c.args.sig.now c.listable_sorts.new.sig c.in_err-sorts.ensures.reaches

pub choice_count-requires : goal.choice_count-requires
choice_count-requires c =
    let d = c.listable_sorts.new.sig in
    let k = c.in_ok-sorts.ensures.known in
    let counts = c.listable_sorts.new.known in
    let sorts = c.in_ok-sorts.sorts.items in
    let xs = c.as_slice.result.now in
    let same : xs ≡ sorts = c.as_slice.ensures.value in
    let are = (listable_sorts_stay d d (grows_itself d) c.sorts.ensures.consistent (expressions_of c.args.bindings.now) sorts c.in_ok-sorts.ensures.value).1 in
    let all : All (IsListable k.earlier) xs = subst (λ (ys : List SortId). All (IsListable k.earlier) ys) (sym same) (known_sorts d counts k sorts are) in
    record { listable = (k.earlier, k.right, all) }

pub returns-then-is_none-clause-value : goal.returns-then-is_none-clause-value
returns-then-is_none-clause-value c =
    let d = c.listable_sorts.new.sig in
    let k = c.in_ok-sorts.ensures.known in
    let counts = c.listable_sorts.new.known in
    let sorts = c.in_ok-sorts.sorts.items in
    let xs = c.as_slice.result.now in
    let same : xs ≡ sorts = c.as_slice.ensures.value in
    let are = (listable_sorts_stay d d (grows_itself d) c.sorts.ensures.consistent (expressions_of c.args.bindings.now) sorts c.in_ok-sorts.ensures.value).1 in
    let all : All (IsListable k.earlier) xs = subst (λ (ys : List SortId). All (IsListable k.earlier) ys) (sym same) (known_sorts d counts k sorts are) in
    ap (λ (o : Elaborated (List SortId)). and_then o (if_few d)) c.in_ok-sorts.ensures.value
    ∙ ap (λ (few : Bool). unless_halted few too_many_values (Ok sorts))
    (ap (λ (vss : List (List ClosedValue)). nat_le (length vss) most_choices) (known_choices d counts k sorts are)
    ∙ ap (λ (ys : List SortId). nat_le (length (choices_of k.earlier ys)) most_choices) (sym same)
    ∙ too_many_choices c.choice_count.result (length (choices_of k.earlier xs)) (c.choice_count.ensures.exact k.earlier k.right all) (c.is_none.ensures ∙ ap not c.if-is_none.true))

pub returns-then-is_none-clause-reaches : goal.returns-then-is_none-clause-reaches
returns-then-is_none-clause-reaches c = reaches_first (so_far c.args.bindings.now) if_few c.args.sig.now c.listable_sorts.new.sig c.in_ok-sorts.ensures.reaches

pub returns-clause-value : goal.returns-clause-value
returns-clause-value c =
    let d = c.listable_sorts.new.sig in
    let k = c.in_ok-sorts.ensures.known in
    let counts = c.listable_sorts.new.known in
    let sorts = c.in_ok-sorts.sorts.items in
    let xs = c.as_slice.result.now in
    let same : xs ≡ sorts = c.as_slice.ensures.value in
    let are = (listable_sorts_stay d d (grows_itself d) c.sorts.ensures.consistent (expressions_of c.args.bindings.now) sorts c.in_ok-sorts.ensures.value).1 in
    let all : All (IsListable k.earlier) xs = subst (λ (ys : List SortId). All (IsListable k.earlier) ys) (sym same) (known_sorts d counts k sorts are) in
    ap (λ (o : Elaborated (List SortId)). and_then o (if_few d)) c.in_ok-sorts.ensures.value
    ∙ ap (λ (few : Bool). unless_halted few too_many_values (Ok sorts))
    (ap (λ (vss : List (List ClosedValue)). nat_le (length vss) most_choices) (known_choices d counts k sorts are)
    ∙ ap (λ (ys : List SortId). nat_le (length (choices_of k.earlier ys)) most_choices) (sym same)
    ∙ few_choices c.choice_count.result (length (choices_of k.earlier xs)) (c.choice_count.ensures.exact k.earlier k.right all) (c.is_none.ensures ∙ ap not c.if-is_none.false))

pub returns-clause-reaches : goal.returns-clause-reaches
returns-clause-reaches c = reaches_first (so_far c.args.bindings.now) if_few c.args.sig.now c.listable_sorts.new.sig c.in_ok-sorts.ensures.reaches
