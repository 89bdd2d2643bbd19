use Rattle.std.proofs.Common.{◌≡◌, ◌++◌, ◌∷◌, [], List, length, set, Some, sym, ◌∙◌, ap, refl}
use Rattle.std.proofs.lemmas.Option.{slice_get_read}
use Rattle.ct_eval.specs.declared.interp.Row.{Row}
use Rattle.ct_trial.proofs.RowLemmas.{set_twice}
use Rattle.ct_trial.proofs.tables.put_row.Goals as goal

pub returns : goal.returns
returns c =
    let tables = c.args.tables.now.items in
    let table = c.replace-table.result in
    let rows : c.new-3.result ≡ table.rows ++ c.args.row ∷ [] = c.new-3.ensures.value ∙ c.in_ok-push.ensures.items ∙ ap (λ (l : List Row). l ++ c.args.row ∷ []) (c.make_room.ensures.same ∙ c.into_vec-rows.ensures.value) in
    record {
      added = (
        table,
        slice_get_read tables (length tables) c.args.number c.index_mut.result.now refl c.requires.within c.index_mut.ensures.value ∙ ap Some (sym c.replace-table.ensures.value),
        set_twice tables c.args.number c.replace-table.new.dest (record { rows = c.new-3.result; default = table.default }) ∙ ap (λ (l : List Row). set tables c.args.number (record { rows = l; default = table.default })) rows,
      );
    }
