-- Quoting makes no other name, and no other text where it is not needed.
use Rattle.std.proofs.Common.{◌≡◌, ℕ, Bool, true, false, not, cond, List, ◌∷◌, ◌++◌, [], Option, Some, None, refl, sym, ap, ◌∙◌}
use Rattle.std.specs.Cmp.Derive.{both_true}
use Rattle.ct_lemmas.proofs.Booleans.{both_parts, not_is_false}
use Rattle.ct_sexpr.specs.Atom.{Atom, symbol, quoted, keyword, text, numeral, decimal, binary, hexadecimal}
use Rattle.ct_sexpr.specs.Expression.{Expression, leaf, list, Expressions, none, more}
use Rattle.ct_sexpr.specs.Written.{is_reserved, forms_symbol, is_simple, written_name, written_atom, written, written_items, written_after, canonical_atom, canonical, canonical_each}
use Rattle.ct_sexpr.specs.Readable.{HasForm, name_of_atom}
use Rattle.ct_sexpr.proofs.Branches.{by_test}

-- an atom that is quoted only where it needs to be is the same name
pub simple_name : (a : Atom) → name_of_atom (canonical_atom a) ≡ name_of_atom a
simple_name (symbol w) = refl
simple_name (quoted w) =
    by_test (λ a. name_of_atom a ≡ Some w) (is_simple w) (symbol w) (quoted w)
    (λ e. rw (not_is_false (is_reserved w) (both_parts (forms_symbol w) (not (is_reserved w)) e).1) refl) (λ _. refl)
simple_name (keyword w) = refl
simple_name (text w) = refl
simple_name (numeral n) = refl
simple_name (decimal w) = refl
simple_name (binary w) = refl
simple_name (hexadecimal w) = refl

symbol_named : (reserved : Bool) (w name : List ℕ) → cond {A = Option (List ℕ)} reserved None (Some w) ≡ Some name → (reserved ≡ false) × (w ≡ name)
symbol_named true w name e = cc
symbol_named false w name e = (refl, cc)

-- a name has one text
pub name_text : (a : Atom) (name : List ℕ) → HasForm a → name_of_atom a ≡ Some name → written_atom a ≡ written_name name
name_text (symbol w) name h e =
    let p = symbol_named (is_reserved w) w name e in
    let empty : is_simple w ≡ true = both_true h (ap not p.0) in
    let text_is : written_name w ≡ w = rw empty refl in
    sym text_is ∙ ap written_name p.1
name_text (quoted w) name h e = let same : w ≡ name = cc in ap written_name same
name_text (keyword w) name h e = cc
name_text (text w) name h e = cc
name_text (numeral n) name h e = cc
name_text (decimal w) name h e = cc
name_text (binary w) name h e = cc
name_text (hexadecimal w) name h e = cc

canonical_atom_text : (a : Atom) → written_atom (canonical_atom a) ≡ written_atom a
canonical_atom_text (symbol w) = refl
canonical_atom_text (quoted w) = by_test (λ a. written_atom a ≡ written_name w) (is_simple w) (symbol w) (quoted w) (λ e. rw e refl) (λ _. refl)
canonical_atom_text (keyword w) = refl
canonical_atom_text (text w) = refl
canonical_atom_text (numeral n) = refl
canonical_atom_text (decimal w) = refl
canonical_atom_text (binary w) = refl
canonical_atom_text (hexadecimal w) = refl

-- an expression that is quoted only where it needs to be has the same text
mutual
  pub canonical_text : (e : Expression) → written (canonical e) ≡ written e
  canonical_text (leaf a) = canonical_atom_text a
  canonical_text (list es) = ap (λ w. 40 ∷ (w ++ 41 ∷ [])) (canonical_items es)

  canonical_items : (es : Expressions) → written_items (canonical_each es) ≡ written_items es
  canonical_items none = refl
  canonical_items (more e es) = ap (λ w. w ++ written_after (canonical_each es)) (canonical_text e) ∙ ap (λ w. written e ++ w) (canonical_after es)

  canonical_after : (es : Expressions) → written_after (canonical_each es) ≡ written_after es
  canonical_after none = refl
  canonical_after (more e es) = ap (λ w. 32 ∷ (w ++ written_after (canonical_each es))) (canonical_text e) ∙ ap (λ w. 32 ∷ (written e ++ w)) (canonical_after es)
