use Rattle.std.proofs.Common.{◌≡◌, ℕ, List, Option, Result, Ok, Err, IfNone, IfOk}
use Rattle.std.specs.Result.{result_err}
use Rattle.ct_sexpr.specs.Atom.{Atom, atom_of}
use Rattle.ct_sexpr.specs.AtomKind.{atom_as}
use Rattle.ct_sexpr.specs.declared.atom.AtomKind.{AtomKind}
use Rattle.ct_sexpr.proofs.scanner.Scanner.error_of_word.Goals as goal

-- a word without an error is an atom
is_atom : (P : Type 0) (read : Result AtomKind ℕ) (error : Option ℕ) (word : List ℕ) → error ≡ result_err read → IfOk read (λ kind. atom_of word ≡ Ok (atom_as kind word)) →
    IfNone error (P → (a : Atom) × (atom_of word ≡ Ok a))
is_atom P (Ok kind) error word e is = rw e (λ _. (atom_as kind word, is))
is_atom P (Err code) error word e is = rw e tt

pub returns-in-Word-clause-none : goal.returns-in-Word-clause-none
returns-in-Word-clause-none c = is_atom _ c.kind_of.result c.err.result c.args.self.now.word.items c.err.ensures.value (rw c.deref.ensures.value at c.kind_of.ensures.ok)
