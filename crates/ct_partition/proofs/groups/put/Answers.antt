use Rattle.std.proofs.Common.{◌≡◌, ℕ, ◌++◌, List, [], ◌∷◌, length, sym, ap, ◌∙◌, arith, length-set}
use Rattle.std.proofs.lemmas.List.{get_or_read}
use Rattle.ct_partition.specs.Sets.{row_at}
use Rattle.ct_partition.proofs.GroupLemmas.{HaveRow, HaveRow-new, HaveRow-old, put_row}
use Rattle.ct_partition.proofs.groups.put.Goals as goal
use Rattle.ct_partition.proofs.groups.put.Goals.{then-group-len+in_ok-push, else-group-len}

pub returns : goal.returns
returns c =
    let old = c.args.groups.now.items in
    let rows = c.if-group-len.groups.items in
    let group = c.args.group in
    let count : c.len.result ≡ length old = omega (arith, c.len.ensures, c.args.groups.now.ok.0) in
    let have : HaveRow old rows group = elim c.if-group-len.branch [
      | then-group-len+in_ok-push w ↦
          HaveRow-new old rows group (ap (λ v. v.items) w.groups-is ∙ w.in_ok-push.ensures.items ∙ ap (λ (row : List ℕ). old ++ row ∷ []) (w.new-then-group-len.ensures.value ∙ w.new.ensures.items)) (w.if-group-len.true ∙ count)
      | else-group-len w ↦
          HaveRow-old old rows group (ap (λ v. v.items) w.groups-is) c.requires.next (λ e. w.if-group-len.false (e ∙ sym count))
    ] in
    let row : c.push-2.new.self ≡ row_at rows group ++ c.args.i ∷ [] = c.in_ok-push-2.ensures.value ∙ ap (λ (xs : List ℕ). xs ++ c.args.i ∷ []) (get_or_read rows group c.index_mut.result.now have.room c.index_mut.ensures.value []) in
    let long = length-set rows group c.push-2.new.self in
    record {
      room = omega (arith, have.room, long);
      more = omega (arith, have.longer, long);
      put = put_row old rows c.push-2.new.self group c.args.i have row;
    }
