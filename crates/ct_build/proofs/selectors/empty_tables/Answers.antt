use Rattle.std.proofs.Common.{◌≡◌, ℕ, ◌+◌, ◌++◌, ◌∷◌, [], List, length, get_or, slice_get, Some, option_map, refl, sym, ap, ◌∙◌, subst, arith}
use Rattle.std.proofs.lemmas.Option.{slice_get-get_or, same_Some}
use Rattle.ct_lemmas.proofs.Lists.{slice_get-there}
use Rattle.ct_sorts.specs.Declarations.{Selector}
use Rattle.ct_sorts.specs.Lengths.{Lengths}
use Rattle.ct_values.specs.Fitting.{HasNodeSort}
use Rattle.ct_eval.specs.declared.interp.Row.{Row}
use Rattle.ct_eval.specs.declared.interp.Table.{Table}
use Rattle.ct_build.proofs.ListLemmas.{length-push}
use Rattle.ct_build.proofs.TableLemmas.{HasFirstSelectors, first_selector}
use Rattle.ct_build.proofs.RowLemmas.{empty_more}
use Rattle.ct_build.proofs.selectors.empty_tables.Goals as goal

pub loop-s-preserved : goal.loop-s-preserved
loop-s-preserved c =
    let d = c.args.sig.now in
    let s = c.sel_sort-field.result in
    let n = get_or c.args.defaults.now s.0 (record { 0 = 0 }) in
    let selector = slice_get-there d.sels c.loop-s.s (omega (arith, c.loop-s-test.true, c.sels-s-end.ensures.value, ap (λ (m : Lengths). m.sels) c.mark.ensures.lengths)) in
    let is : selector.0.sort ≡ s = same_Some _ _ (ap (option_map (λ (k : Selector). k.sort)) (sym selector.1) ∙ c.sel_sort-field.ensures.value) in
    let rows = c.new-in-loop-s.ensures.value ∙ c.new.ensures.items in
    record {
      many = ap length c.in_ok-push.ensures.items ∙ length-push c.loop-s.tables.items _ ∙ ap (λ k. k + 1) c.loop-s.invariant.many;
      selectors = λ g all.
          let has : HasNodeSort d g n s = all.sorted s.0 n (slice_get-get_or c.args.defaults.now s.0 (record { 0 = 0 }) (omega (arith, c.requires.defaults, c.sel_sort-field.ensures.sort))) in
          subst (λ (l : List Table). HasFirstSelectors d g (c.loop-s.s + 1) l) (sym (c.in_ok-push.ensures.items ∙ ap (λ (rs : List Row). c.loop-s.tables.items ++ (record { rows = rs; default = n }) ∷ []) rows))
          (first_selector d g c.loop-s.s c.loop-s.tables.items selector.0 n selector.1 (subst (HasNodeSort d g n) (sym is) has) (c.loop-s.invariant.selectors g all));
      empty = subst (λ (l : List Table). (k : ℕ) (table : Table) → slice_get l k ≡ Some table → table.rows ≡ []) (sym (c.in_ok-push.ensures.items ∙ ap (λ (rs : List Row). c.loop-s.tables.items ++ (record { rows = rs; default = n }) ∷ []) rows))
          (empty_more c.loop-s.tables.items (record { rows = []; default = n }) refl c.loop-s.invariant.empty);
    }

pub returns-clause-selectors : goal.returns-clause-selectors
returns-clause-selectors c = λ g all.
    let known = c.loop-s.invariant.selectors g all in
    let count : c.loop-s.s ≡ length c.args.sig.now.sels = omega (arith, c.loop-s-test.false, c.loop-s.auto.s-end, c.sels-s-end.ensures.value, ap (λ (m : Lengths). m.sels) c.mark.ensures.lengths) in
    record { one_each = known.long ∙ count; fit = known.fit }
