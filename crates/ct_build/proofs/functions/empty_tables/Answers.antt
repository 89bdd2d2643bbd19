use Rattle.std.proofs.Common.{◌≡◌, ℕ, ◌+◌, ◌++◌, ◌∷◌, [], List, length, get_or, slice_get, Some, option_map, refl, sym, ap, ◌∙◌, subst, arith}
use Rattle.std.proofs.lemmas.Option.{slice_get-get_or, same_Some}
use Rattle.ct_lemmas.proofs.Lists.{slice_get-there}
use Rattle.ct_sorts.specs.Declarations.{Function}
use Rattle.ct_values.specs.Fitting.{HasNodeSort}
use Rattle.ct_eval.specs.declared.interp.Row.{Row}
use Rattle.ct_eval.specs.declared.interp.Table.{Table}
use Rattle.ct_build.proofs.ListLemmas.{length-push}
use Rattle.ct_build.proofs.TableLemmas.{HasFirstFunctions, first_function}
use Rattle.ct_build.proofs.RowLemmas.{empty_more}
use Rattle.ct_build.proofs.functions.empty_tables.Goals as goal

pub loop-f-preserved : goal.loop-f-preserved
loop-f-preserved c =
    let d = c.args.sig.now in
    let s = c.fun_result-s.result in
    let n = get_or c.args.defaults.now s.0 (record { 0 = 0 }) in
    let function = slice_get-there d.functions c.loop-f.f (omega (arith, c.loop-f-test.true, c.funs-f-end.ensures.count)) in
    let is : function.0.result ≡ s = same_Some _ _ (ap (option_map (λ (k : Function). k.result)) (sym function.1) ∙ c.fun_result-s.ensures.value) in
    let rows = c.new-in-loop-f.ensures.value ∙ c.new.ensures.items in
    record {
      many = ap length c.in_ok-push.ensures.items ∙ length-push c.loop-f.tables.items _ ∙ ap (λ k. k + 1) c.loop-f.invariant.many;
      functions = λ g all.
          let has : HasNodeSort d g n s = all.sorted s.0 n (slice_get-get_or c.args.defaults.now s.0 (record { 0 = 0 }) (omega (arith, c.requires.defaults, c.fun_result-s.ensures.sort))) in
          subst (λ (l : List Table). HasFirstFunctions d g (c.loop-f.f + 1) l) (sym (c.in_ok-push.ensures.items ∙ ap (λ (rs : List Row). c.loop-f.tables.items ++ (record { rows = rs; default = n }) ∷ []) rows))
          (first_function d g c.loop-f.f c.loop-f.tables.items function.0 n function.1 (subst (HasNodeSort d g n) (sym is) has) (c.loop-f.invariant.functions g all));
      empty = subst (λ (l : List Table). (k : ℕ) (table : Table) → slice_get l k ≡ Some table → table.rows ≡ []) (sym (c.in_ok-push.ensures.items ∙ ap (λ (rs : List Row). c.loop-f.tables.items ++ (record { rows = rs; default = n }) ∷ []) rows))
          (empty_more c.loop-f.tables.items (record { rows = []; default = n }) refl c.loop-f.invariant.empty);
    }

pub returns-clause-functions : goal.returns-clause-functions
returns-clause-functions c = λ g all.
    let known = c.loop-f.invariant.functions g all in
    let count : c.loop-f.f ≡ length c.args.sig.now.functions = omega (arith, c.funs-f-end.ensures.count, c.loop-f-test.false) in
    record { one_each = known.long ∙ count; fit = known.fit }
