use Rattle.std.proofs.Common.{ap, ◌∙◌, take}
use Rattle.std.proofs.lemmas.List.{take-map}
use Rattle.ct_congr.specs.Marks.{mark_of}
use Rattle.ct_congr.proofs.level.Levels.cut.Goals as goal

-- the marks of the first levels are the first marks
pub invariant_of-self : goal.invariant_of-self
invariant_of-self c =
    rw (c.truncate.ensures.items, c.truncate-2.ensures.items) (ap (take c.args.len) c.self.invariant ∙ take-map mark_of c.args.len c.self.inside.levels.items)
