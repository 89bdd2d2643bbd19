use Rattle.std.proofs.Common.{◌≡◌, ◌<◌, ◌∙◌, List, ◌++◌, length, set, map, get_or, ap, ap₂, sym, arith}
use Rattle.std.proofs.lemmas.List.{length-map}
use Rattle.ct_terms.specs.declared.ids.TermId.{TermId}
use Rattle.ct_equivalence.specs.Undoing.{row_of}
use Rattle.ct_equivalence.proofs.ListLemmas.{on_err}
use Rattle.ct_equivalence.proofs.RowLemmas.{row_of-mine, row_of-moved, map-appended, map-unchanged}
use Rattle.ct_equivalence.proofs.rows.Rows.append.Goals as goal

pub returns-in_err-done-clause-unchanged : goal.returns-in_err-done-clause-unchanged
returns-in_err-done-clause-unchanged c =
    let rows = c.self.inside.rows.items in
    let length_is = length-map rows (λ v. v.items) in
    let into_in : c.args.into.0 < length rows = omega (arith, c.requires.into, ap length c.self.view_is, length_is) in
    let from_in : c.args.from.0 < length rows = omega (arith, c.requires.from, ap length c.self.view_is, length_is) in
    let none = c.replace-moved.new.dest in
    let mine = c.index_mut-2.result.now in
    let joined = c.extend_from_slice-done.new.self in
    let moved = c.replace-moved.result in
    let moved_is : moved ≡ get_or rows c.args.from.0 moved = rw c.replace-moved.ensures.value c.index_mut.ensures.value in
    let mine_is : mine ≡ get_or (set rows c.args.from.0 none) c.args.into.0 mine = c.index_mut-2.ensures.value in
    rw (← c.self.view_is)
    (on_err c.from_residual.result
    (map-unchanged rows c.args.into c.args.from none mine joined moved c.requires.apart into_in from_in moved_is mine_is c.in_err-done.ensures.items))

pub returns-clause-appended : goal.returns-clause-appended
returns-clause-appended c =
    let rows = c.self.inside.rows.items in
    let length_is = length-map rows (λ v. v.items) in
    let into_in : c.args.into.0 < length rows = omega (arith, c.requires.into, ap length c.self.view_is, length_is) in
    let from_in : c.args.from.0 < length rows = omega (arith, c.requires.from, ap length c.self.view_is, length_is) in
    let none = c.replace-moved.new.dest in
    let mine = c.index_mut-2.result.now in
    let joined = c.extend_from_slice-done.new.self in
    let moved = c.replace-moved.result in
    let moved_is : moved ≡ get_or rows c.args.from.0 moved = rw c.replace-moved.ensures.value c.index_mut.ensures.value in
    let mine_is : mine ≡ get_or (set rows c.args.from.0 none) c.args.into.0 mine = c.index_mut-2.ensures.value in
    let row = row_of-mine rows c.args.into c.args.from none mine joined moved c.requires.apart into_in from_in moved_is mine_is in
    let gone = row_of-moved rows c.args.into c.args.from none mine joined moved c.requires.apart into_in from_in moved_is mine_is in
    let view = map (λ v. v.items) rows in
    rw (← c.self.view_is)
    (map-appended rows c.args.into c.args.from none mine joined moved c.requires.apart into_in from_in moved_is mine_is (row_of view c.args.into ++ row_of view c.args.from)
    (c.in_ok-done.ensures.items ∙ ap (λ (xs : List TermId). mine.items ++ xs) c.deref.ensures.value ∙ ap₂ (λ (xs ys : List TermId). xs ++ ys) (sym row) (sym gone)))
