use Rattle.std.proofs.Common.{map, arith}
use Rattle.ct_generics.specs.Denoted.{declared_of}
use Rattle.ct_sorts.specs.Stored.{function_of}
use Rattle.ct_sorts.specs.Tabled.{of_tables}
use Rattle.ct_sorts.proofs.GetterLemmas.{heads_few}
use Rattle.ct_sorts.proofs.signature.Signature.heads.Goals as goal

pub overflow_cast-result : goal.overflow_cast-result
overflow_cast-result c =
    let t = c.self.inside.tables in
    let few = heads_few (of_tables t (map function_of c.self.inside.functions) (map function_of c.self.inside.definitions)) c.self.invariant.consistent in
    omega (arith, few, c.head_count.ensures.count (declared_of t.generics) c.self.invariant.tabled.declared)
