-- Recursion of datatypes through codatatypes.
use Rattle.std.specs.Prelude.{List}
use Rattle.ct_generics.specs.declared.kind.Kind.TheVariants.{Data, Codata}
use Rattle.ct_generics.specs.Expression.{Expression}
use Rattle.ct_generics.specs.Declarations.{Head, IsOfKind}
use Rattle.ct_generics.specs.Reach.{Reaches}

-- the expression reaches a datatype and a codatatype that reach each other
pub record IsMixed (heads : List Head) (e : Expression) : Type 0 where
  pub datatype : Expression
  pub codatatype : Expression
  pub data_kind : IsOfKind heads Data datatype
  pub codata_kind : IsOfKind heads Codata codatatype
  pub to_datatype : Reaches heads e datatype
  pub to_codatatype : Reaches heads e codatatype
  pub down : Reaches heads datatype codatatype
  pub up : Reaches heads codatatype datatype
