use Rattle.std.proofs.Common.{sym, ◌∙◌}
use Rattle.std.proofs.lemmas.Bool.{true≢false}
use Rattle.test_reading.proofs.generics.add_free.Goals as goal

pub add_named-requires : goal.add_named-requires
add_named-requires c = record { fresh = λ listed. true≢false (sym (c.has_head.ensures.listed.1 listed) ∙ c.if-has_head.false) }

pub returns-in-Ok : goal.returns-in-Ok
returns-in-Ok c = record { declared = let d = c.requires.declared in (_, c.in-Ok.ensures.ok d.0 d.1) }

pub returns-in-Err : goal.returns-in-Err
returns-in-Err c = record { declared = rw c.in-Err.ensures.unchanged c.requires.declared }
