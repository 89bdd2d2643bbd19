use Rattle.std.proofs.Common.{sym, ◌∙◌}
use Rattle.std.proofs.lemmas.Bool.{true≢false}
use Rattle.test_reading.proofs.generics.add_new_synonym.Goals as goal

pub add_synonym-requires : goal.add_synonym-requires
add_synonym-requires c = record { declared = c.requires.declared; fresh = λ listed. true≢false (sym (c.has_synonym.ensures.listed.1 listed) ∙ c.if-has_synonym.false) }

pub returns-in-Ok : goal.returns-in-Ok
returns-in-Ok c = record { declared = let d = c.requires.declared in let body = c.in-Ok.ensures.ok d.0 d.1 in (_, body.3) }

pub returns-in-Err : goal.returns-in-Err
returns-in-Err c = record { declared = rw c.in-Err.ensures.unchanged c.requires.declared }
