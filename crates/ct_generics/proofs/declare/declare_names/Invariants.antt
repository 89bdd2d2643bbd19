use Rattle.std.proofs.Common.{map, take, drop}
use Rattle.ct_generics.specs.declared.decl.SortDecl.{SortDecl}
use Rattle.ct_generics.specs.Declarations.{Declared}
use Rattle.ct_generics.specs.Block.{with_names}
use Rattle.ct_generics.specs.Stored.{AreDeclared, AreFree, IsBegun}
use Rattle.ct_generics.proofs.declare.declare_names.Given as goal

abbrev pub invariant-loop-decl : goal.invariant-loop-decl
invariant-loop-decl l =
    record {
      begun : IsBegun l.fn.g l.g;
      free : AreFree l.g.head_names (map (λ (s : SortDecl). s.name) (drop l.decl-index l.block));
      known : (d : Declared) → AreDeclared l.fn.g d → AreDeclared l.g (with_names d l.kind (take l.decl-index l.block));
    }
