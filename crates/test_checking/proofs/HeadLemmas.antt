-- What stands at the heads of the terms of a well-sorted table.
use Rattle.std.proofs.Common.{ℕ}
use Rattle.std.proofs.lemmas.Option.{slice_get_within}
use Rattle.ct_sorts.specs.declared.ids.SortId.{SortId}
use Rattle.ct_sorts.specs.Declarations.{Declarations}
use Rattle.ct_terms.specs.declared.term.Core.{Core}
use Rattle.ct_terms.specs.declared.term.Core.TheVariants.{Con, Sel, Test, Apply, Eq, Not, And, Or, Iff, Ite}
use Rattle.ct_terms.specs.Terms.{Terms, Has, HasSort, AreSorted}
use Rattle.ct_log_text.specs.Written.{IsNamed}

-- the head of a well-sorted term is declared
sorted_head : (d : Declarations) (table : Terms) (core : Core) (sort : SortId) → HasSort d table core sort → IsNamed d core
sorted_head d table (Con c args) sort h = slice_get_within d.ctors c.0 h.ctor h.declared
sorted_head d table (Sel s t) sort h = slice_get_within d.sels s.0 h.selector h.declared
sorted_head d table (Test c t) sort h = slice_get_within d.ctors c.0 h.ctor h.declared
sorted_head d table (Apply f args) sort h = slice_get_within d.functions f.0 h.function h.declared
sorted_head d table (Eq a b) sort h = tt
sorted_head d table (Not a) sort h = tt
sorted_head d table (And args) sort h = tt
sorted_head d table (Or args) sort h = tt
sorted_head d table (Iff a b) sort h = tt
sorted_head d table (Ite c a b) sort h = tt

-- so is that of each term of a well-sorted table
pub head_declared : (d : Declarations) (table : Terms) (core : Core) (t : ℕ) → AreSorted d table → Has table core t → IsNamed d core
head_declared d table core t sorted has = sorted_head d table core has.0 (sorted t core has.0 has.1)
