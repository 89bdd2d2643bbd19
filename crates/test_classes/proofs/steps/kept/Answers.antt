use Rattle.std.proofs.Common.{◌≡◌, ℕ, Option, Some, None, List, length, slice_get, sym}
use Rattle.std.specs.List.{AllZip}
use Rattle.std.specs.Option.{IfSome}
use Rattle.ct_congr.specs.declared.merge.ClassMark.{ClassMark}
use Rattle.ct_congr.specs.State.{Marked, IsFirstMark}
use Rattle.ct_congr.proofs.FirstMarkLemmas.{first_kept}
use Rattle.test_classes.proofs.steps.kept.Goals as goal

-- the mark that was read, if any
kept_if : (marks : List ClassMark) (at : List Marked) (i : ℕ) → AllZip (λ (m : ClassMark) (s : Marked). m.merges ≡ length s.merges) marks at → (found : Option ClassMark) → found ≡ slice_get marks i → IfSome found (λ (mark : ClassMark). (k : ℕ) × (first : Marked) × IsFirstMark at mark.merges k first)
kept_if marks at i value None is = tt
kept_if marks at i value (Some mark) is = first_kept marks at i mark value (sym is)

pub returns : goal.returns
returns c = record { kept = kept_if c.marks.result.now c.args.classes.now.marks c.args.index c.marks.ensures.value c.mark_at.result c.mark_at.ensures.value }
