use Rattle.std.proofs.Common.{take}
use Rattle.ct_value_text.specs.ValueText.{IsValueText}
use Rattle.ct_model.specs.Listed.{spaced}
use Rattle.ct_model.specs.TableText.{equations}
use Rattle.ct_model.proofs.ListLemmas.{AreWritten}
use Rattle.ct_model.proofs.body.write_equations.Given as goal

abbrev pub invariant-loop-number : goal.invariant-loop-number
invariant-loop-number l = AreWritten (IsValueText l.sig l.graph) (λ texts. spaced (equations 0 texts)) (take l.number l.nodes) l.fn.out.items l.out.items
