-- What kind of atom a word, a keyword or a literal is, beside its bytes.
use Rattle.std.specs.Prelude.{ℕ, List}
use Rattle.ct_sexpr.specs.Atom.{Atom, symbol, keyword, numeral, decimal, binary, hexadecimal}
use Rattle.ct_sexpr.specs.declared.atom.AtomKind.{AtomKind}
use Rattle.ct_sexpr.specs.declared.atom.AtomKind.TheVariants.{Symbol, Keyword, Numeral, Decimal, Binary, Hex}

-- the atom of this kind with these bytes; a numeral has its value in the kind, whatever its bytes
abbrev pub atom_as : AtomKind → List ℕ → Atom
atom_as Symbol word = symbol word
atom_as Keyword word = keyword word
atom_as (Numeral n) word = numeral n
atom_as Decimal word = decimal word
atom_as Binary word = binary word
atom_as Hex word = hexadecimal word
