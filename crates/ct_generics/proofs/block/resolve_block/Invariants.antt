use Rattle.std.proofs.Common.{◌≡◌, List, take, Ok}
use Rattle.ct_generics.specs.Declarations.{Declared, Head}
use Rattle.ct_generics.specs.Outcome.{each}
use Rattle.ct_generics.specs.Block.{head_in}
use Rattle.ct_generics.specs.Stored.{AreDeclared, AreStored}
use Rattle.ct_generics.proofs.block.resolve_block.Given as goal

abbrev pub invariant-loop-decl : goal.invariant-loop-decl
invariant-loop-decl l = (d : Declared) → AreDeclared l.g d → (hs : List Head) × (each (head_in d l.kind) (take l.decl-index l.block) ≡ Ok hs) × AreStored l.own.items hs
