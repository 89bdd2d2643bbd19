use Rattle.std.proofs.Common.{◌≡◌, take, map}
use Rattle.ct_log_lines.specs.Forms.{term_numbered}
use Rattle.ct_log_text.proofs.built.terms_of.Given as goal

abbrev pub invariant-loop-n : goal.invariant-loop-n
invariant-loop-n l = l.args ≡ map term_numbered (take l.n-index l.numbers)
