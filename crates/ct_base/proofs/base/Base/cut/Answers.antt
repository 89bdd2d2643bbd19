use Rattle.std.proofs.Common.{◌≡◌, ◌∙◌, length, vec_len, sym, arith}
use Rattle.std.proofs.lemmas.List.{length-take-le}
use Rattle.ct_sorts.specs.Marks.{cut}
use Rattle.ct_base.proofs.StageLemmas.{cut_extends}
use Rattle.ct_base.proofs.BaseLemmas.{base_cut, some_left}
use Rattle.ct_base.proofs.base.Base.cut.Goals as goal

pub returns : goal.returns
returns c = record {
  base = λ yes.
      let d = c.args.sig.now in
      let m = c.args.mark.now in
      let b = c.size_all.new.self in
      let back = c.take_back in
      let left = c.keep_declared.new.stages.items in
      let count : vec_len c.keep_declared.new.stages ≡ length left = omega (arith, c.keep_declared.new.stages.ok.0) in
      let sizes = c.cut_to.ensures.sizes d (cut d m) c.requires.consistent (cut_extends d m) (c.sorts.ensures.value ∙ sym (length-take-le m.sorts d.sorts c.requires.can_cut.sorts_within)) c.in-Ok.ensures.sizes in
      let all = base_cut d m b.table back.new.table b.roots.items back.new.roots.items b.split.items back.new.split.items c.deref.result.now left c.cut_to.new.self c.requires.can_cut c.requires.consistent (c.growth.ensures.itself (cut d m)) c.one_lasting_sort.ensures.table
      (some_left left (vec_len c.keep_declared.new.stages) count (sym c.is_empty.ensures ∙ c.if-is_empty.false)) c.keep_declared.ensures.below (c.keep_declared.ensures.stages d b.table b.roots.items b.split.items c.size_all.ensures.base.stages) sizes
      c.deref.ensures.value back.ensures.table back.ensures.roots back.ensures.split in
      record { sized = all.0; sorted = all.1; stages = all.2 };
}
