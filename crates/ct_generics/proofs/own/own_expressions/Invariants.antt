use Rattle.std.proofs.Common.{List}
use Rattle.ct_generics.specs.Expression.{Expression}
use Rattle.ct_generics.specs.Declarations.{Head}
use Rattle.ct_generics.specs.Nodes.{StandFor}
use Rattle.ct_generics.specs.Stored.{AreStored}
use Rattle.ct_generics.specs.Findings.{AreOwn}
use Rattle.ct_generics.proofs.own.own_expressions.Given as goal

abbrev pub invariant-loop-h : goal.invariant-loop-h
invariant-loop-h l = (hs : List Head) → AreStored l.heads hs → (es : List Expression) × StandFor l.table l.roots.items es × AreOwn l.from l.h hs es
