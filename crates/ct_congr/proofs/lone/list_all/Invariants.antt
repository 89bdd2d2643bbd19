use Rattle.std.proofs.Common.{◌≡◌, ◌<◌, length}
use Rattle.ct_terms.specs.declared.ids.TermId.{TermId}
use Rattle.ct_terms.specs.declared.term.Core.{Core}
use Rattle.ct_terms.specs.Terms.{Has}
use Rattle.ct_congr.specs.Lone.{AreKeysBelow, IsListed}
use Rattle.ct_congr.proofs.lone.list_all.Given as goal

abbrev pub invariant-loop-t : goal.invariant-loop-t
invariant-loop-t l = record {
  marks : length l.lone.items ≡ length l.table;
  below : AreKeysBelow (length l.table) l.keys;
  listed : (t : TermId) (core : Core) → t.0 < l.t → Has l.table core t.0 → IsListed l.blank l.keys l.lone.items t core;
}
