-- What is left of the limits, piece by piece.
use Rattle.std.proofs.Common.{◌≡◌, ℕ, ◌+◌, ◌<◌, ◌≤◌, List, ◌++◌, length, take, drop, get_or, sym, ◌∙◌, ap, inl, inr, arith, length-append}
use Rattle.std.specs.List.{flat_map}
use Rattle.std.proofs.lemmas.List.Concat.{flat_map-append}
use Rattle.ct_generics.specs.declared.room.Room.{Room}
use Rattle.ct_generics.specs.declared.decl.CtorDecl.{CtorDecl}
use Rattle.ct_generics.specs.declared.decl.SortDecl.{SortDecl}
use Rattle.ct_sorts.specs.Block.{block_ctors}
use Rattle.ct_sorts.specs.Room.{IsLeft, DoesNotFit, decl_fields}
use Rattle.ct_sorts.proofs.AdmitLemmas.{flat_map-take_more, flat_map-around}

-- after no sorts all of the room is left
pub IsLeft-none : (room : Room) → IsLeft room room 0 0 0
IsLeft-none room = record { sorts_left = omega arith; ctors_left = omega arith; sels_left = omega arith }

-- after more there is less
pub IsLeft-more : (room left rest : Room) (a b c s t u x y z : ℕ) → IsLeft room left a b c → IsLeft left rest s t u → x ≡ a + s → y ≡ b + t → z ≡ c + u → IsLeft room rest x y z
IsLeft-more room left rest a b c s t u x y z first second e f g =
    record {
      sorts_left = omega (arith, first.sorts_left, second.sorts_left, e);
      ctors_left = omega (arith, first.ctors_left, second.ctors_left, f);
      sels_left = omega (arith, first.sels_left, second.sels_left, g);
    }

-- what does not fit in what is left does not fit with what came before
pub DoesNotFit-more : (room left : Room) (a b c s t u x y z : ℕ) → IsLeft room left a b c → DoesNotFit left s t u → a + s ≤ x → b + t ≤ y → c + u ≤ z → DoesNotFit room x y z
DoesNotFit-more room left a b c s t u x y z first (inl h) e f g = inl (omega (arith, first.sorts_left, h, e))
DoesNotFit-more room left a b c s t u x y z first (inr (inl h)) e f g = inr (inl (omega (arith, first.ctors_left, h, f)))
DoesNotFit-more room left a b c s t u x y z first (inr (inr h)) e f g = inr (inr (omega (arith, first.sels_left, h, g)))

module _ (block : List SortDecl) (i : ℕ) (decl : SortDecl) (within : i < length block) (is : decl ≡ get_or block i decl) where
  -- the constructors and fields of one sort more
  pub ctors_more : length (block_ctors (take (i + 1) block)) ≡ length (block_ctors (take i block)) + length decl.ctors
  ctors_more = ap length (flat_map-take_more (λ (s : SortDecl). s.ctors) block i decl within is) ∙ length-append (block_ctors (take i block)) decl.ctors

  pub fields_more : length (decl_fields (block_ctors (take (i + 1) block))) ≡ length (decl_fields (block_ctors (take i block))) + length (decl_fields decl.ctors)
  fields_more =
      ap (λ cs. length (decl_fields cs)) (flat_map-take_more (λ (s : SortDecl). s.ctors) block i decl within is)
      ∙ ap length (flat_map-append (λ (c : CtorDecl). c.fields) (block_ctors (take i block)) decl.ctors)
      ∙ length-append (decl_fields (block_ctors (take i block))) (decl_fields decl.ctors)

  -- are among those of all
  pub ctors_among : length (block_ctors (take i block)) + length decl.ctors ≤ length (block_ctors block)
  ctors_among =
      omega (
        arith,
        ap length (flat_map-around (λ (s : SortDecl). s.ctors) block i decl within is),
        length-append (block_ctors (take i block)) (decl.ctors ++ block_ctors (drop (i + 1) block)),
        length-append decl.ctors (block_ctors (drop (i + 1) block)),
      )

  pub fields_among : length (decl_fields (block_ctors (take i block))) + length (decl_fields decl.ctors) ≤ length (decl_fields (block_ctors block))
  fields_among =
      omega (
        arith,
        ap (λ cs. length (decl_fields cs)) (flat_map-around (λ (s : SortDecl). s.ctors) block i decl within is),
        ap length (flat_map-append (λ (c : CtorDecl). c.fields) (block_ctors (take i block)) (decl.ctors ++ block_ctors (drop (i + 1) block))),
        length-append (decl_fields (block_ctors (take i block))) (decl_fields (decl.ctors ++ block_ctors (drop (i + 1) block))),
        ap length (flat_map-append (λ (c : CtorDecl). c.fields) decl.ctors (block_ctors (drop (i + 1) block))),
        length-append (decl_fields decl.ctors) (decl_fields (block_ctors (drop (i + 1) block))),
      )
