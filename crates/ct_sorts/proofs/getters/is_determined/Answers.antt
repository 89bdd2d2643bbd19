use Rattle.std.proofs.Common.{refl}
use Rattle.ct_generics.specs.Denoted.{declared_of}
use Rattle.ct_sorts.proofs.GetterLemmas.{no_mark, mark_tells}
use Rattle.ct_sorts.proofs.getters.is_determined.Goals as goal

pub returns-in-None : goal.returns-in-None
returns-in-None c =
    record { value = λ head at. (λ _. no_mark (declared_of c.args.tables.now.generics).heads c.args.tables.now.determined c.args.home.head c.args.home.ctor head c.requires.marked at (rw c.as_slice.ensures.value at c.in-None.ensures.none), λ _. refl) }

pub returns-in-Some : goal.returns-in-Some
returns-in-Some c =
    record { value = λ head at. mark_tells (declared_of c.args.tables.now.generics).heads c.args.tables.now.determined c.args.home.head c.args.home.ctor head c.in-Some.ctors.now c.is_marked.result c.requires.marked at (rw c.as_slice.ensures.value at c.in-Some.ensures.some) (rw c.as_slice-in-Some.ensures.value at c.is_marked.ensures.some) (rw c.as_slice-in-Some.ensures.value at c.is_marked.ensures.none) }
