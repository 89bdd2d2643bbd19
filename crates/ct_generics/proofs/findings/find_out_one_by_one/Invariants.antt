use Rattle.std.proofs.Common.{List}
use Rattle.ct_generics.specs.Declarations.{Head}
use Rattle.ct_generics.specs.Stored.{AreStored}
use Rattle.ct_generics.specs.Findings.{AreFindings}
use Rattle.ct_generics.proofs.findings.find_out_one_by_one.Given as goal

abbrev pub invariant-loop-h : goal.invariant-loop-h
invariant-loop-h l = (hs : List Head) → AreStored l.heads hs → AreFindings l.first l.h hs l.all
