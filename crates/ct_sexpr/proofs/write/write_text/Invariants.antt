use Rattle.std.proofs.Common.{◌≡◌, ◌∷◌, ◌++◌, take}
use Rattle.ct_sexpr.specs.Token.{quotation_mark}
use Rattle.ct_sexpr.specs.Written.{doubled}
use Rattle.ct_sexpr.proofs.write.write_text.Given as goal

abbrev pub invariant-loop-byte : goal.invariant-loop-byte
invariant-loop-byte l = l.out.items ≡ l.fn.out.items ++ quotation_mark ∷ doubled (take l.byte-index l.content)
