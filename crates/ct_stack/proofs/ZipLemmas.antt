-- Two lists, place by place, where the second is made from the first one item after the other.
use Rattle.std.proofs.Common.{◌≡◌, List, [], ◌∷◌, ◌++◌, sym, ap, subst, refl, ◌∙◌}
use Rattle.std.specs.List.{AllZip}
use Rattle.std.proofs.lemmas.List.{append_assoc, append-nil}

-- what goes with what is left makes the whole, and what goes with the whole leaves that
pub record IsZipped {X Y : Type 0} (R : X → Y → Type 0) (whole : List X) (out : List Y) (left : List X) : Type 0 where
  pub completes : (rest : List Y) → AllZip R left rest → AllZip R whole (out ++ rest)
  pub leaves : (all : List Y) → AllZip R whole all → (rest : List Y) × AllZip R left rest

module _ {X Y : Type 0} (R : X → Y → Type 0) (whole : List X) where
  pub zip_start : IsZipped R whole [] whole
  zip_start = record { completes = λ rest all. all; leaves = λ all zip. (all, zip) }

  tail : (x : X) (left : List X) → (rest : List Y) × AllZip R (x ∷ left) rest → (rest : List Y) × AllZip R left rest
  tail x left ([], all) = absurd all
  tail x left (y ∷ rest, all) = (rest, all.1)

  pub zip_push : (out : List Y) (x : X) (y : Y) (left : List X) → R x y → IsZipped R whole out (x ∷ left) → IsZipped R whole (out ++ y ∷ []) left
  zip_push out x y left r h =
      record {
        completes = λ rest all. subst (λ (ys : List Y). AllZip R whole ys) (sym (append_assoc out (y ∷ []) rest)) (h.completes (y ∷ rest) (r, all));
        leaves = λ all zip. tail x left (h.leaves all zip);
      }

  pub zip_end : (out : List Y) → IsZipped R whole out [] → AllZip R whole out
  zip_end out h = subst (λ (ys : List Y). AllZip R whole ys) (append-nil out) (h.completes [] tt)

  -- where nothing goes with one of the first, nothing goes with them
  no_zip : (x : X) (left : List X) (none : (y : Y) → R x y → ⊥) → (rest : List Y) × AllZip R (x ∷ left) rest → ⊥
  no_zip x left none ([], all) = all
  no_zip x left none (y ∷ rest, all) = none y all.0

  pub zip_stop : (out : List Y) (x : X) (left : List X) → ((y : Y) → R x y → ⊥) → IsZipped R whole out (x ∷ left) → (all : List Y) → AllZip R whole all → ⊥
  zip_stop out x left none h all zip = no_zip x left none (h.leaves all zip)
