use Rattle.std.proofs.Common.{◌≡◌, take}
use Rattle.ct_kept.specs.Kept.{AreChosen, IsUsable, IsLineOf}
use Rattle.ct_kept.proofs.lines.moved_lines.Given as goal

abbrev pub invariant-loop-lemma : goal.invariant-loop-lemma
invariant-loop-lemma l = record {
  chosen : AreChosen (IsUsable l.sig l.kept.table l.terms) (IsLineOf l.sig l.kept.table l.terms) (take l.lemma-index l.lemmas) l.lines.items;
  room : l.room ≡ l.initial.room;
}
