-- How names of logics split into parts: a name begins with one part alone, as nothing that is parts begins with the X of `AX`.
use Rattle.std.proofs.Common.{◌≡◌, ◌∙◌, ◌↔◌, ◌≤◌, ◌+◌, ℕ, zero, suc, Bool, true, false, List, [], ◌∷◌, ◌++◌, length, drop, Option, None, Some, IfSome, if◌then◌else◌, refl, sym, ap, subst, arith}
use Rattle.std.specs.Prelude.{nat_eq, option_map, codes}
use Rattle.std.specs.Borrow.{Bor}
use Rattle.std.specs.List.{AllByRecursion, concat, starts_with}
use Rattle.std.proofs.lemmas.List.{append_cancel_left, length-append}
use Rattle.std.proofs.lemmas.Option.{none-some, same_Some}
use Rattle.std.proofs.lemmas.Bool.Decides.{Decides-eqb}
use Rattle.std.proofs.lemmas.Slice.Eq.{starts_is}
use Rattle.ct_words.specs.NameList.{IsListed}
use Rattle.ct_words.specs.Words.{logic_part_names}
use Rattle.ct_step.specs.Logics.{AreParts, AreDifferentParts, IsSplit, first_of}

-- what holds of each of the names holds of one that is listed
every : (P : List ℕ → Type 0) (names : List (List ℕ)) → AllByRecursion P names → (name : List ℕ) → IsListed names name → P name
every P [] all name (index, at) = absurd (none-some name at)
every P (x ∷ xs) all name (zero, at) = subst P (same_Some x name at) all.0
every P (x ∷ xs) all name (suc index, at) = every P xs all.1 name (index, at)

-- the parts, in the order in which they are tried
abbrev pub tried : List (List ℕ)
tried = codes "AX" ∷ (codes "A" ∷ (codes "UF" ∷ (codes "BV" ∷ (codes "FP" ∷ (codes "DT" ∷ (codes "S" ∷ (codes "IDL" ∷ (codes "RDL" ∷ (codes "LIA" ∷ (codes "LRA" ∷ (codes "LIRA" ∷ (codes "NIA" ∷ (codes "NRA" ∷ (codes "NIRA" ∷ []))))))))))))))

-- behind `A` parts make no `AX`
no_X : (parts : List (List ℕ)) → AreParts parts → starts_with nat_eq (codes "A" ++ concat parts) (codes "AX") ≡ false
no_X [] known = refl
no_X (part ∷ parts) known =
    every (λ p. starts_with nat_eq (codes "A" ++ (p ++ concat parts)) (codes "AX") ≡ false) logic_part_names
    (refl, (refl, (refl, (refl, (refl, (refl, (refl, (refl, (refl, (refl, (refl, (refl, (refl, (refl, (refl, tt)))))))))))))))
    part known.0

-- a part with parts behind it is the first that is met
met : (parts : List (List ℕ)) → AreParts parts → (part : List ℕ) → IsListed logic_part_names part → first_of tried (part ++ concat parts) ≡ Some part
met parts known part listed =
    every (λ p. first_of tried (p ++ concat parts) ≡ Some p) logic_part_names (
      ap (λ (b : Bool). if b then Some (codes "AX") else Some (codes "A")) (no_X parts known),
      (refl, (refl, (refl, (refl, (refl, (refl, (refl, (refl, (refl, (refl, (refl, (refl, (refl, (refl, tt)))))))))))))),
    )
    part listed

-- what is met is the only part with which a name of parts can begin
abbrev pub IsOnly : List ℕ → Option (List ℕ) → Type 0
IsOnly name found = (part : List ℕ) (parts : List (List ℕ)) → AreParts (part ∷ parts) → concat (part ∷ parts) ≡ name → found ≡ Some part

pub only_met : (name : List ℕ) → IsOnly name (first_of tried name)
only_met name part parts known is = ap (λ (bytes : List ℕ). first_of tried bytes) (sym is) ∙ met parts known.1 part known.0

-- what is found is one of the words
module _ (P : List ℕ → Type 0) (bytes word : List ℕ) where
  found_by : (first : List ℕ) (others : List (List ℕ)) → P first → (first_of others bytes ≡ Some word → P word) → (b : Bool) → (if b then Some first else first_of others bytes) ≡ Some word → P word
  found_by first others holds later true is = subst P (same_Some first word is) holds
  found_by first others holds later false is = later is

  found_in : (words : List (List ℕ)) → AllByRecursion P words → first_of words bytes ≡ Some word → P word
  found_in [] all is = absurd (none-some word is)
  found_in (first ∷ others) all is = found_by first others all.0 (found_in others all.1) (starts_with nat_eq bytes first) is

-- so it is a part, and has a byte at least
abbrev IsPart : List ℕ → Type 0
IsPart part = IsListed logic_part_names part × (1 ≤ length part)

pub found_part : (bytes part : List ℕ) → first_of tried bytes ≡ Some part → IsPart part
found_part bytes part is =
    found_in IsPart bytes part tried
    (((1, refl), omega arith), (((0, refl), omega arith), (((2, refl), omega arith), (((3, refl), omega arith), (((4, refl), omega arith), (((5, refl), omega arith), (((6, refl), omega arith), (((7, refl), omega arith), (((8, refl), omega arith), (((9, refl), omega arith), (((10, refl), omega arith), (((11, refl), omega arith), (((12, refl), omega arith), (((13, refl), omega arith), (((14, refl), omega arith), tt)))))))))))))))
    is

-- and the bytes begin with it
module _ (bytes word : List ℕ) where
  begins_by : (first : List ℕ) (others : List (List ℕ)) → (starts_with nat_eq bytes first ≡ true → bytes ≡ first ++ drop (length first) bytes) → (first_of others bytes ≡ Some word → bytes ≡ word ++ drop (length word) bytes) → (b : Bool) → starts_with nat_eq bytes first ≡ b → (if b then Some first else first_of others bytes) ≡ Some word → bytes ≡ word ++ drop (length word) bytes
  begins_by first others begun later true starts is = subst (λ (w : List ℕ). bytes ≡ w ++ drop (length w) bytes) (same_Some first word is) (begun starts)
  begins_by first others begun later false starts is = later is

  pub begins_with : (words : List (List ℕ)) → first_of words bytes ≡ Some word → bytes ≡ word ++ drop (length word) bytes
  begins_with [] is = absurd (none-some word is)
  begins_with (first ∷ others) is =
      begins_by first others (starts_is Decides-eqb bytes first (starts_with nat_eq bytes first) refl).0 (begins_with others) (starts_with nat_eq bytes first) refl is

-- so it is not longer than they are
pub not_longer : (name part others : List ℕ) → name ≡ part ++ others → length part ≤ length name
not_longer name part others is =
    let lengths : length name ≡ length part + length others = ap (λ (bytes : List ℕ). length bytes) is ∙ length-append part others in
    omega (arith, lengths)

-- what holds of the word that was found
pub of_found : (P : List ℕ → Type 0) (found : Option (Bor (List ℕ))) → ((word : List ℕ) → option_map (λ (b : Bor (List ℕ)). b.now) found ≡ Some word → P word) → IfSome found (λ word. P word.now)
of_found P None holds = tt
of_found P (Some word) holds = holds word.now refl

-- parts behind parts are parts
pub are_parts : (parts : List (List ℕ)) → AreDifferentParts parts → AreParts parts
are_parts [] different = tt
are_parts (part ∷ parts) different = (different.0, are_parts parts different.2)

-- no parts have no bytes
nothing : (name part others : List ℕ) → 1 ≤ length part → name ≡ part ++ others → [] ≡ name → ⊥
nothing name [] others short is none = absurd (omega arith)
nothing name (x ∷ xs) others short is none =
    let lengths : 0 ≡ suc (length (xs ++ others)) = ap (λ (bytes : List ℕ). length bytes) (none ∙ is) in
    absurd (omega arith)

-- a name that begins with a part alone
module _ (name part others : List ℕ) (some : 1 ≤ length part) (is : name ≡ part ++ others) (only : IsOnly name (Some part)) where
  -- parts that are the name are that part and others
  pub behind : (first : List ℕ) (parts : List (List ℕ)) → AreParts (first ∷ parts) → concat (first ∷ parts) ≡ name → (part ≡ first) × (concat parts ≡ others)
  behind first parts known spelled =
      let same : part ≡ first = same_Some part first (only first parts known spelled) in (
        same,
        append_cancel_left part (concat parts) others (ap (λ (p : List ℕ). p ++ concat parts) same ∙ spelled ∙ is),
      )

  pub split_alike : IsListed logic_part_names part → ((parts : List (List ℕ)) → AreParts parts → concat parts ≡ others → IsListed parts part → ⊥) → IsSplit name ↔ IsSplit others
  split_alike listed apart = (into, back)
    where
      into : IsSplit name → IsSplit others
      into ([], different, spelled) = absurd (nothing name part others some is spelled)
      into (first ∷ parts, different, spelled) = (parts, different.2, (behind first parts (are_parts (first ∷ parts) different) spelled).1)

      back : IsSplit others → IsSplit name
      back (parts, different, spelled) = (part ∷ parts, (listed, apart parts (are_parts parts different) spelled, different), ap (λ (bytes : List ℕ). part ++ bytes) spelled ∙ sym is)

  pub not_split : ((parts : List (List ℕ)) → AreParts parts → concat parts ≡ others → IsListed parts part) → IsSplit name → ⊥
  not_split again ([], different, spelled) = nothing name part others some is spelled
  not_split again (first ∷ parts, different, spelled) =
      let b : (part ≡ first) × (concat parts ≡ others) = behind first parts (are_parts (first ∷ parts) different) spelled in
      different.1 (subst (λ (p : List ℕ). IsListed parts p) b.0 (again parts (are_parts parts different.2) b.1))

-- a name that begins with no part
pub split_alone : (name : List ℕ) → IsOnly name None → IsSplit name → name ≡ []
split_alone name only ([], different, spelled) = sym spelled
split_alone name only (first ∷ parts, different, spelled) = absurd (none-some first (only first parts (are_parts (first ∷ parts) different) spelled))

pub no_bytes_split : (name : List ℕ) → name ≡ [] → IsSplit name
no_bytes_split name is = ([], tt, sym is)

-- whether a part is among those that a name is, as far as they are walked
abbrev pub IsAmongRest : List ℕ → List ℕ → List ℕ → Type 0
IsAmongRest wanted name left =
    (parts : List (List ℕ)) → AreParts parts → concat parts ≡ name →
    (rest : List (List ℕ)) × AreParts rest × (concat rest ≡ left) × (IsListed parts wanted ↔ IsListed rest wanted)

pub among_all : (wanted name : List ℕ) → IsAmongRest wanted name name
among_all wanted name parts known spelled = (parts, known, spelled, (λ h. h, λ h. h))

-- one that is not the first is among the others
listed_behind : (wanted first : List ℕ) (parts : List (List ℕ)) → (first ≡ wanted → ⊥) → IsListed (first ∷ parts) wanted ↔ IsListed parts wanted
listed_behind wanted first parts other = (into, λ h. (suc h.0, h.1))
  where
    into : IsListed (first ∷ parts) wanted → IsListed parts wanted
    into (zero, at) = absurd (other (same_Some first wanted at))
    into (suc index, at) = (index, at)

module _ (wanted name left part others : List ℕ) (some : 1 ≤ length part) (is : left ≡ part ++ others) (only : IsOnly left (Some part)) (among : IsAmongRest wanted name left) where
  pub among_others : (part ≡ wanted → ⊥) → IsAmongRest wanted name others
  among_others other parts known spelled =
      let (rest, known_rest, spelled_rest, alike) = among parts known spelled in
      by rest known_rest spelled_rest alike
    where
      by : {X : Type 0} → (rest : List (List ℕ)) → AreParts rest → concat rest ≡ left → X ↔ IsListed rest wanted → (more : List (List ℕ)) × AreParts more × (concat more ≡ others) × (X ↔ IsListed more wanted)
      by [] known spelled alike = absurd (nothing left part others some is spelled)
      by (first ∷ more) known spelled alike =
          let b : (part ≡ first) × (concat more ≡ others) = behind left part others some is only first more known spelled in
          let step : IsListed (first ∷ more) wanted ↔ IsListed more wanted = listed_behind wanted first more (λ e. other (b.0 ∙ e)) in
          (more, known.1, b.1, (λ h. step.0 (alike.0 h), λ h. alike.1 (step.1 h)))

  pub among_here : part ≡ wanted → (parts : List (List ℕ)) → AreParts parts → concat parts ≡ name → IsListed parts wanted
  among_here same parts known spelled =
      let (rest, known_rest, spelled_rest, alike) = among parts known spelled in
      alike.1 (by rest known_rest spelled_rest)
    where
      by : (rest : List (List ℕ)) → AreParts rest → concat rest ≡ left → IsListed rest wanted
      by [] known spelled = absurd (nothing left part others some is spelled)
      by (first ∷ more) known spelled = (0, ap (λ (p : List ℕ). Some p) (sym (behind left part others some is only first more known spelled).0 ∙ same))

-- nor is it where no part is left
pub among_none : (wanted name left : List ℕ) → IsOnly left None → IsAmongRest wanted name left → (parts : List (List ℕ)) → AreParts parts → concat parts ≡ name → IsListed parts wanted → ⊥
among_none wanted name left only among parts known spelled listed =
    let (rest, known_rest, spelled_rest, alike) = among parts known spelled in
    by rest known_rest spelled_rest (alike.0 listed)
  where
    by : (rest : List (List ℕ)) → AreParts rest → concat rest ≡ left → IsListed rest wanted → ⊥
    by [] known spelled h = none-some wanted h.1
    by (first ∷ more) known spelled h = none-some first (only first more known spelled)
