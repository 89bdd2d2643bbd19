use Rattle.std.proofs.Common.{ℕ, ◌≡◌, ◌+◌, ◌<◌, List, take, length, get_or, map, Some, sym, ◌∙◌, ap, subst, arith}
use Rattle.std.proofs.lemmas.Grind.{get_or_default_zero}
use Rattle.ct_sorts.specs.declared.ids.SortId.{SortId}
use Rattle.ct_formulas.specs.declared.tree.Tree.{Tree}
use Rattle.ct_formulas.specs.Formula.{Formula}
use Rattle.ct_formulas.specs.TreeFormula.{formula_of}
use Rattle.ct_finite.specs.ClosedFormula.{formula_of_value}
use Rattle.ct_finite.specs.Entries.{under_at}
use Rattle.ct_finite.proofs.CountLemmas.{Theorems}
use Rattle.ct_finite.proofs.PartLemmas.{field_listable, field_few}
use Rattle.ct_finite.proofs.StepLemmas.{field_read, fields_read, first_sel}
use Rattle.ct_finite.proofs.TreeLemmas.{IsFieldEntry, field_entry, numbers_long, argument_step, arguments_done}
use Rattle.ct_finite.proofs.trees.+tree_at.Goals as goal

pub index-requires : goal.index-requires
index-requires t c =
    let d = c.args.sig.now in
    let ctor = c.in_ok-part.part.ctor in
    let sels = c.ctor_sels-sels.result.now in
    let long = numbers_long d c.args.s c.args.k ctor c.in_ok-part.part.numbers.items c.in_ok-part.ensures.part sels (fields_read d ctor sels c.ctor_sels-sels.ensures.value) in
    omega (arith, long, c.loop-i-test.true)

pub tree_at-requires : goal.tree_at-requires
tree_at-requires t c =
    let d = c.args.sig.now in
    let theorems : Theorems d =
    record {
      consistent = c.sorts.ensures.consistent;
      built = c.listed_values.ensures.built d;
      parts = c.listed_values.ensures.parts d;
      unfolds = c.listed_values.ensures.unfolds d;
      some = λ s. c.listed_values.ensures.some d s c.sorts.ensures.consistent;
    } in
    let s = c.args.s in
    let k = c.args.k in
    let ctor = c.in_ok-part.part.ctor in
    let numbers = c.in_ok-part.part.numbers.items in
    let built = c.in_ok-part.ensures.part in
    let among = c.in_ok-part.ensures.inside.0 in
    let sels = c.ctor_sels-sels.result.now in
    let i = c.loop-i.i in
    let f = c.sel_sort-field.result in
    let n = c.index.result.now in
    let fields = fields_read d ctor sels c.ctor_sels-sels.ensures.value in
    let within : i < length numbers = omega (arith, numbers_long d s k ctor numbers built sels fields, c.loop-i-test.true) in
    let read : get_or numbers i 0 ≡ n = sym (c.index.ensures ∙ get_or_default_zero numbers i n within) in
    let at : IsFieldEntry d s k ctor built.0 i f n =
    subst (λ (m : ℕ). IsFieldEntry d s k ctor built.0 i f m) read
    (subst (λ (g : SortId). IsFieldEntry d s k ctor built.0 i g (get_or numbers i 0)) (field_read d (get_or sels i first_sel) f c.sel_sort-field.ensures.value)
    (field_entry d s k ctor numbers built sels i fields c.loop-i-test.true)) in (
      omega (arith, at.less, c.decreases),
      (
        c.sel_sort-field.ensures.sort,
        (
          c.requires.counts,
          (
            field_listable d theorems s c.requires.listable ctor f among at.field,
            (
              field_few d theorems s c.requires.listable c.requires.few ctor f among at.field,
              at.inside,
            ),
          ),
        ),
      ),
    )

pub loop-i-preserved : goal.loop-i-preserved
loop-i-preserved t c =
    let d = c.args.sig.now in
    let s = c.args.s in
    let k = c.args.k in
    let ctor = c.in_ok-part.part.ctor in
    let numbers = c.in_ok-part.part.numbers.items in
    let built = c.in_ok-part.ensures.part in
    let sels = c.ctor_sels-sels.result.now in
    let i = c.loop-i.i in
    let f = c.sel_sort-field.result in
    let n = c.index.result.now in
    let fields = fields_read d ctor sels c.ctor_sels-sels.ensures.value in
    let within : i < length numbers = omega (arith, numbers_long d s k ctor numbers built sels fields, c.loop-i-test.true) in
    let read : get_or numbers i 0 ≡ n = sym (c.index.ensures ∙ get_or_default_zero numbers i n within) in
    let at : IsFieldEntry d s k ctor built.0 i f n =
    subst (λ (m : ℕ). IsFieldEntry d s k ctor built.0 i f m) read
    (subst (λ (g : SortId). IsFieldEntry d s k ctor built.0 i g (get_or numbers i 0)) (field_read d (get_or sels i first_sel) f c.sel_sort-field.ensures.value)
    (field_entry d s k ctor numbers built sels i fields c.loop-i-test.true)) in
    subst (λ (l : List Tree). map formula_of l ≡ map formula_of_value (take (i + 1) (under_at d s k))) (sym c.in_ok-push.ensures.items) (argument_step d s k ctor numbers built c.loop-i.args.items c.in_ok-arg.arg i f n at c.loop-i.invariant c.in_ok-arg.ensures.tree)

pub returns : goal.returns
returns t c =
    let d = c.args.sig.now in
    let ctor = c.in_ok-part.part.ctor in
    let sels = c.ctor_sels-sels.result.now in
    let done =
    arguments_done d c.args.s c.args.k ctor c.in_ok-part.part.numbers.items c.in_ok-part.ensures.part c.loop-i.args.items sels c.loop-i.i (fields_read d ctor sels c.ctor_sels-sels.ensures.value) c.loop-i-test.false c.loop-i.invariant
    ∙ ap (λ (f : Formula). Some f) (sym c.tree_of.ensures.value) in
    record { tree = done }
