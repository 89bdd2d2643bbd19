use Rattle.std.proofs.Common.{◌≡◌, ℕ, List, Some, get_or, slice_get, ◌∙◌}
use Rattle.std.proofs.lemmas.Option.{slice_get-get_or, slice_get-map}
use Rattle.ct_sorts.specs.declared.entries.SortEntry.{SortEntry}
use Rattle.ct_sorts.specs.declared.ids.SortId.{SortId}
use Rattle.ct_sorts.specs.Lookup.{names_of}
use Rattle.ct_sorts.proofs.ArgumentTextLemmas.{args_more}
use Rattle.ct_sorts.proofs.text.push_args.Goals as goal

pub loop-arg-preserved : goal.loop-arg-preserved
loop-arg-preserved c =
    let args = c.args.args.now in
    let i = c.loop-arg.arg-index in
    let none : SortId = record { 0 = 0 } in
    let arg = get_or args i none in
    args_more (names_of c.args.sorts.now) args i arg c.name.result.now c.args.text.now.items c.loop-arg.text.items c.push.new.self.items c.extend_from_slice.new.self.items (slice_get-get_or args i none c.loop-arg-test.true) (slice_get-map (λ (e : List ℕ × SortEntry). e.0) c.args.sorts.now arg.0 ∙ c.name.ensures.name) c.loop-arg.invariant c.in_ok-push.ensures.items c.in_ok-extend_from_slice.ensures.items
