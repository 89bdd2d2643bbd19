-- What the name of a term line that is written stands for is the constructor or the selector of the term.
use Rattle.std.proofs.Common.{◌≡◌, ℕ, ◌+◌, ◌-◌, Bool, true, false, if◌then◌else◌, List, [], ◌∷◌, ◌++◌, map, option_map, Option, Some, None, MatchOption, Decides, slice_get, position, refl, sym, ◌∙◌, ap, ap₂}
use Rattle.std.specs.Str.{bytes_eq}
use Rattle.std.proofs.lemmas.Slice.Eq.{bytes_eq-Decides}
use Rattle.ct_lemmas.proofs.Lists.{slice_get-map_at, slice_get-map_source}
use Rattle.ct_generics.specs.Expression.{Expression}
use Rattle.ct_sexpr.specs.Atom.{symbol, quoted, keyword, text, numeral, decimal, binary, hexadecimal}
use Rattle.ct_sexpr.specs.Expression.{Expression as Sexpr, Expressions as Sexprs, leaf, list, none, more}
use Rattle.ct_sexpr.specs.Written.{written, written_items, written_after, written_atom, written_name, canonical, canonical_each, is_simple}
use Rattle.ct_sorts.specs.declared.ids.SortId.{SortId}
use Rattle.ct_sorts.specs.Availability.{IsListed}
use Rattle.ct_sorts.specs.Consistent.{IsConsistent}
use Rattle.ct_sorts.specs.Declarations.{Declarations, IsSort}
use Rattle.ct_sorts.specs.SortText.{as_written, sort_text}
use Rattle.ct_sorts.proofs.NameLemmas.{position-cases}
use Rattle.ct_instances.specs.Among.{origin_of}
use Rattle.ct_instances.proofs.CtorNameLemmas.{origin_at}
use Rattle.ct_log_text.specs.Named.{sort_with_text}
use Rattle.ct_log_text.specs.Written.{sort_item}

-- ---- texts

-- an expression is written as it is with its names quoted only where they need to be
mutual
  pub written_canonical : (e : Sexpr) → written (canonical e) ≡ written e
  written_canonical (leaf (symbol w)) = refl
  written_canonical (leaf (quoted w)) = by (is_simple w) refl
    where
      by : (b : Bool) → is_simple w ≡ b → written_atom (if b then symbol w else quoted w) ≡ written_name w
      by true e = ap (λ (t : Bool). if t then w else 124 ∷ (w ++ 124 ∷ [])) (sym e)
      by false e = refl
  written_canonical (leaf (keyword w)) = refl
  written_canonical (leaf (text w)) = refl
  written_canonical (leaf (numeral n)) = refl
  written_canonical (leaf (decimal w)) = refl
  written_canonical (leaf (binary w)) = refl
  written_canonical (leaf (hexadecimal w)) = refl
  written_canonical (list es) = ap (λ (w : List ℕ). 40 ∷ (w ++ 41 ∷ [])) (written_canonical_items es)

  written_canonical_items : (es : Sexprs) → written_items (canonical_each es) ≡ written_items es
  written_canonical_items none = refl
  written_canonical_items (more e es) = ap₂ (λ (x y : List ℕ). x ++ y) (written_canonical e) (written_canonical_after es)

  written_canonical_after : (es : Sexprs) → written_after (canonical_each es) ≡ written_after es
  written_canonical_after none = refl
  written_canonical_after (more e es) = ap₂ (λ (x y : List ℕ). 32 ∷ (x ++ y)) (written_canonical e) (written_canonical_after es)

-- no two sorts have one text
abbrev pub OneText : Declarations → Type 0
OneText d = (s t : ℕ) (e f : Expression) → slice_get d.origins s ≡ Some e → slice_get d.origins t ≡ Some f → sort_text d.declared.heads e ≡ sort_text d.declared.heads f → s ≡ t

module _ (d : Declarations) (consistent : IsConsistent d) (one_text : OneText d) where
  -- a sort is found by its text
  pub sort_found : (s : SortId) → IsSort d s → sort_with_text d (sort_text d.declared.heads (origin_of d s)) ≡ Some s
  sort_found s within = by (position (λ e. bytes_eq (sort_text d.declared.heads e) wanted) d.origins) (position-cases (sort_text d.declared.heads) (λ e. bytes_eq (sort_text d.declared.heads e) wanted) wanted decides d.origins)
    where
      wanted : List ℕ
      wanted = sort_text d.declared.heads (origin_of d s)

      decides : (key : Expression) → Decides (bytes_eq (sort_text d.declared.heads key) wanted) (wanted ≡ sort_text d.declared.heads key)
      decides key =
          let both = bytes_eq-Decides (sort_text d.declared.heads key) wanted in
          (λ t. sym (both.0 t), λ e. both.1 (sym e))

      by : (o : Option ℕ) → MatchOption o (IsListed (map (sort_text d.declared.heads) d.origins) wanted → ⊥) (λ index. slice_get (map (sort_text d.declared.heads) d.origins) index ≡ Some wanted) → option_map (λ (n : ℕ). record { 0 = n }) o ≡ Some s
      by None missing = absurd (missing (s.0, slice_get-map_at (sort_text d.declared.heads) d.origins s.0 (origin_of d s) (origin_at d consistent s within)))
      by (Some n) found =
          let source = slice_get-map_source (sort_text d.declared.heads) d.origins n wanted found in
          let same : n ≡ s.0 = one_text n s.0 source.0 (origin_of d s) source.1 (origin_at d consistent s within) source.2 in
          ap (λ (k : ℕ). Some (record { 0 = k })) same

  -- so it is by the text that a term line has
  pub item_found : (s : SortId) → IsSort d s → sort_with_text d (written (sort_item d s)) ≡ Some s
  item_found s within = ap (sort_with_text d) (written_canonical (as_written d.declared.heads (origin_of d s))) ∙ sort_found s within
