-- Lines that are written one after another, whole and in part.
use Rattle.std.specs.List.{concat}
use Rattle.std.proofs.Common.{◌≡◌, ℕ, ◌+◌, List, [], ◌∷◌, ◌++◌, length, take, Option, Some, None, refl, ap, sym, ◌∙◌, subst, arith, append_assoc, length-append}
use Rattle.std.proofs.Math.Seq.{take-append-add, take-length}
use Rattle.std.proofs.lemmas.List.Folds.{concat-append}
use Rattle.std.proofs.lemmas.List.{append-nil}
use Rattle.ct_io.specs.Bytes.{appended, GrewByPrefix, GrewByPart}
use Rattle.ct_io.specs.declared.sink.SinkError.{SinkError}
use Rattle.ct_io.specs.declared.sink.SinkError.TheVariants.{Fault, NoMemory}
use Rattle.ct_script.specs.Answers.{lines_of}
use Rattle.ct_run.specs.Output.{wrote, BreaksInLine, IsLeft}

-- nothing was appended
pub appended-nothing : (o : Option (List ℕ)) → appended [] o ≡ o
appended-nothing None = refl
appended-nothing (Some bytes) = ap (λ (b : List ℕ). Some b) (append-nil bytes)

-- two pieces one after the other are one piece
pub appended-twice : (xs ys : List ℕ) (o : Option (List ℕ)) → appended ys (appended xs o) ≡ appended (xs ++ ys) o
appended-twice xs ys None = refl
appended-twice xs ys (Some bytes) = ap (λ (b : List ℕ). Some b) (append_assoc bytes xs ys)

-- a part of a piece is a prefix of it
pub prefix_of_part : (piece : List ℕ) (old new : Option (List ℕ)) → GrewByPart piece old new → GrewByPrefix piece old new
prefix_of_part piece old new part = record { count = part.count; within = omega (arith, part.short); grown = part.grown }

-- a prefix of the second of two pieces is a prefix of both
pub prefix-more : (first second : List ℕ) (old mid new : Option (List ℕ)) → mid ≡ appended first old → GrewByPrefix second mid new → GrewByPrefix (first ++ second) old new
prefix-more first second old mid new begun prefix = record {
  count = length first + prefix.count;
  within = omega (arith, prefix.within, length-append first second);
  grown = prefix.grown ∙ ap (appended (take prefix.count second)) begun ∙ appended-twice first (take prefix.count second) old
      ∙ ap (λ (text : List ℕ). appended text old) (sym (take-append-add first second prefix.count));
}

-- a part of one line was written
pub BreaksInLine-one : (line : List ℕ) (old new : Option (List ℕ)) → GrewByPart line old new → BreaksInLine (line ∷ []) old new
BreaksInLine-one line old new part = record {
  before = [];
  last = line;
  all = refl;
  part = subst (λ (begun : Option (List ℕ)). GrewByPart line begun new) (sym (appended-nothing old)) part;
}

-- lines were written whole, and then others up to a part of the last
pub BreaksInLine-later : (first lines : List (List ℕ)) (old mid new : Option (List ℕ)) → mid ≡ appended (concat first) old → BreaksInLine lines mid new → BreaksInLine (first ++ lines) old new
BreaksInLine-later first lines old mid new begun breaks = record {
  before = first ++ breaks.before;
  last = breaks.last;
  all = ap (λ (others : List (List ℕ)). first ++ others) breaks.all ∙ sym (append_assoc first breaks.before (breaks.last ∷ []));
  part = subst (λ (written : Option (List ℕ)). GrewByPart breaks.last written new)
      (ap (appended (concat breaks.before)) begun ∙ appended-twice (concat first) (concat breaks.before) old ∙ ap (λ (text : List ℕ). appended text old) (sym (concat-append first breaks.before)))
      breaks.part;
}

-- a whole piece is a prefix
pub all_written : (text : List ℕ) (old new : Option (List ℕ)) → new ≡ appended text old → GrewByPrefix text old new
all_written text old new grown = record {
  count = length text;
  within = omega arith;
  grown = grown ∙ ap (λ (xs : List ℕ). appended xs old) (sym (take-length text));
}

-- nothing was written
pub nothing_written : (text : List ℕ) (old new : Option (List ℕ)) → new ≡ old → GrewByPrefix text old new
nothing_written text old new same = record { count = 0; within = omega arith; grown = same ∙ sym (appended-nothing old) }

-- lines after lines
pub wrote-twice : (first lines : List (List ℕ)) (old : Option (List ℕ)) → wrote lines (wrote first old) ≡ wrote (first ++ lines) old
wrote-twice first lines old = appended-twice (concat first) (concat lines) old ∙ ap (λ (text : List ℕ). appended text old) (sym (concat-append first lines))

pub wrote-later : (first lines : List (List ℕ)) (old mid new : Option (List ℕ)) → mid ≡ wrote first old → new ≡ wrote lines mid → new ≡ wrote (first ++ lines) old
wrote-later first lines old mid new begun more = more ∙ ap (wrote lines) begun ∙ wrote-twice first lines old

-- lines were written whole, and then others up to an error
pub IsLeft-later : (e : SinkError) (first lines : List (List ℕ)) (old mid new : Option (List ℕ)) → mid ≡ wrote first old → IsLeft e lines mid new → IsLeft e (first ++ lines) old new
IsLeft-later Fault first lines old mid new begun left = BreaksInLine-later first lines old mid new begun left
IsLeft-later NoMemory first lines old mid new begun left =
    subst (λ (text : List ℕ). GrewByPrefix text old new) (sym (concat-append first lines)) (prefix-more (concat first) (concat lines) old mid new begun left)

-- one line up to an error
pub IsLeft-one : (e : SinkError) (line : List ℕ) (old new : Option (List ℕ)) → GrewByPart line old new → IsLeft e (line ∷ []) old new
IsLeft-one Fault line old new part = BreaksInLine-one line old new part
IsLeft-one NoMemory line old new part = subst (λ (text : List ℕ). GrewByPrefix text old new) (sym (append-nil line)) (prefix_of_part line old new part)

-- the line of a text
pub line_of_some : (text : List ℕ) → (text ≡ [] → ⊥) → lines_of text ≡ (text ++ 10 ∷ []) ∷ []
line_of_some [] some = absurd (some refl)
line_of_some (b ∷ bs) some = refl

-- a text is written whole, or up to an error
pub line_written : (text piece : List ℕ) (old new : Option (List ℕ)) → (text ≡ [] → ⊥) → piece ≡ text ++ 10 ∷ [] → new ≡ appended piece old → new ≡ wrote (lines_of text) old
line_written text piece old new some is grown =
    grown
    ∙ ap (λ (xs : List ℕ). appended xs old) (is ∙ sym (append-nil (text ++ 10 ∷ [])))
    ∙ ap (λ (lines : List (List ℕ)). wrote lines old) (sym (line_of_some text some))

pub line_left : (e : SinkError) (text piece : List ℕ) (old new : Option (List ℕ)) → (text ≡ [] → ⊥) → piece ≡ text ++ 10 ∷ [] → GrewByPart piece old new → IsLeft e (lines_of text) old new
line_left e text piece old new some is part =
    subst (λ (lines : List (List ℕ)). IsLeft e lines old new) (sym (line_of_some text some))
    (IsLeft-one e (text ++ 10 ∷ []) old new (subst (λ (xs : List ℕ). GrewByPart xs old new) is part))
