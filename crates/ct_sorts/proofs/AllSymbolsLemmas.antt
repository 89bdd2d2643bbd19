-- What stands under the names of constructors and selectors stays where more is declared.
use Rattle.std.proofs.Common.{◌≡◌, ℕ, zero, suc, ◌+◌, ◌<◌, ◌==◌, Bool, true, false, if◌then◌else◌, List, [], ◌∷◌, ◌++◌, length, slice_get, Option, Some, option_map, unwrap_or, refl, sym, ◌∙◌, ap, subst, arith}
use Rattle.std.proofs.lemmas.Bool.Decides.{Decides-eqb}
use Rattle.std.proofs.lemmas.List.{append_assoc}
use Rattle.ct_lemmas.proofs.Lists.{slice_get-append_left, slice_get-there}
use Rattle.ct_generics.specs.Expression.{Expression, named}
use Rattle.ct_generics.specs.Declarations.{Head}
use Rattle.ct_sorts.specs.declared.ids.SortId.{SortId}
use Rattle.ct_sorts.specs.declared.ids.CtorId.{CtorId}
use Rattle.ct_sorts.specs.declared.ids.Symbol.{Symbol}
use Rattle.ct_sorts.specs.declared.ids.Symbol.TheVariants.{Ctor}
use Rattle.ct_sorts.specs.declared.spelling.Spelling.{Spelling}
use Rattle.ct_sorts.specs.Declarations.{Declarations, Sort, Constructor}
use Rattle.ct_sorts.specs.Consistent.{IsConsistent}
use Rattle.ct_sorts.specs.Grown.{Begins, Extends}
use Rattle.ct_sorts.specs.Same.{sort_among}
use Rattle.ct_sorts.specs.Symbols.{ctors_at, sels_at, sel_symbols, plain_symbols, generic_symbols, symbols_of_head, symbols_from, all_symbols}
use Rattle.ct_sorts.proofs.FoundedLemmas.{ctor_within}
use Rattle.ct_sorts.proofs.SameLemmas.{sort_longer, sort_within}

-- what stands at an index of the first list stands there in the longer one
at_longer : {X : Type 0} (first second : List X) → Begins first second → (i : ℕ) → i < length first → slice_get second i ≡ slice_get first i
at_longer first second b i within =
    let x = slice_get-there first i within in
    ap (λ xs. slice_get xs i) b.1 ∙ slice_get-append_left first b.0 i x.0 x.1 ∙ sym x.1

module _ (later earlier : Declarations) (h : Extends later earlier) (c : IsConsistent earlier) where
  sels_same : (k : CtorId) → k.0 < length earlier.ctors → sels_at later.ctors k ≡ sels_at earlier.ctors k
  sels_same k within = ap (λ (o : Option Constructor). unwrap_or (option_map (λ (t : Constructor). t.sels) o) []) (at_longer earlier.ctors later.ctors h.ctors k.0 within)

  plain_same : (ss : List Spelling) (ids : List CtorId) → ((j : ℕ) (k : CtorId) → slice_get ids j ≡ Some k → k.0 < length earlier.ctors) → plain_symbols later.ctors ss ids ≡ plain_symbols earlier.ctors ss ids
  plain_same [] ids below = refl
  plain_same (s ∷ ss) [] below = refl
  plain_same (s ∷ ss) (k ∷ ids) below =
      λ i. (s.name, Ctor k) ∷ (sel_symbols s.fields (sels_same k (below 0 k refl) i) ++ plain_same ss ids (λ j m at. below (suc j) m at) i)

  -- the constructors of a sort without parameters are those that it had
  ctors_same : (n : ℕ) (head : Head) → slice_get earlier.declared.heads n ≡ Some head → head.params ≡ 0 → (ctors_at later.sorts (sort_among later.origins (named n)) ≡ ctors_at earlier.sorts (sort_among earlier.origins (named n))) × ((j : ℕ) (k : CtorId) → slice_get (ctors_at earlier.sorts (sort_among earlier.origins (named n))) j ≡ Some k → k.0 < length earlier.ctors)
  ctors_same n head at none =
      let among = c.plain n head at none in
      let number : sort_among later.origins (named n) ≡ sort_among earlier.origins (named n) = ap (λ (xs : List Expression). sort_among xs (named n)) h.origins.1 ∙ sort_longer earlier.origins (named n) among h.origins.0 in
      let within : (sort_among earlier.origins (named n)).0 < length earlier.sorts = subst (λ k. (sort_among earlier.origins (named n)).0 < k) c.origins.one_each (sort_within earlier.origins (named n) among) in
      let sort = slice_get-there earlier.sorts (sort_among earlier.origins (named n)).0 within in
      let own : ctors_at earlier.sorts (sort_among earlier.origins (named n)) ≡ sort.0.ctors = ap (λ (o : Option Sort). unwrap_or (option_map (λ (t : Sort). t.ctors) o) []) sort.1 in (
        ap (ctors_at later.sorts) number ∙ ap (λ (o : Option Sort). unwrap_or (option_map (λ (t : Sort). t.ctors) o) []) (at_longer earlier.sorts later.sorts h.sorts (sort_among earlier.origins (named n)).0 within),
        λ j k at_j. ctor_within earlier c.all_ctors (sort_among earlier.origins (named n)).0 sort.0 j k sort.1 (subst (λ (ids : List CtorId). slice_get ids j ≡ Some k) own at_j),
      )

  head_same : (n : ℕ) (head : Head) (ss : List Spelling) → slice_get earlier.declared.heads n ≡ Some head → symbols_of_head later n head ss ≡ symbols_of_head earlier n head ss
  head_same n head ss at = by (head.params == 0) (Decides-eqb head.params 0).0
    where
      by : (b : Bool) → (b ≡ true → head.params ≡ 0) → (if b then plain_symbols later.ctors ss (ctors_at later.sorts (sort_among later.origins (named n))) else generic_symbols (record { 0 = n }) 0 ss) ≡ (if b then plain_symbols earlier.ctors ss (ctors_at earlier.sorts (sort_among earlier.origins (named n))) else generic_symbols (record { 0 = n }) 0 ss)
      by true tells =
          let same = ctors_same n head at (tells refl) in
          ap (plain_symbols later.ctors ss) same.0 ∙ plain_same ss (ctors_at earlier.sorts (sort_among earlier.origins (named n))) same.1
      by false tells = refl

  from_same : (n : ℕ) (heads : List Head) (spellings : List (List Spelling)) → ((i : ℕ) (head : Head) → slice_get heads i ≡ Some head → slice_get earlier.declared.heads (n + i) ≡ Some head) → symbols_from later n heads spellings ≡ symbols_from earlier n heads spellings
  from_same n [] spellings at = refl
  from_same n (head ∷ heads) [] at = refl
  from_same n (head ∷ heads) (ss ∷ spellings) at =
      let first : n + 0 ≡ n = omega arith in
      let next : (j : ℕ) → n + suc j ≡ n + 1 + j = λ j. omega arith in
      λ i. head_same n head ss (subst (λ k. slice_get earlier.declared.heads k ≡ Some head) first (at 0 head refl)) i
      ++ from_same (n + 1) heads spellings (λ j x at_j. subst (λ k. slice_get earlier.declared.heads k ≡ Some x) (next j) (at (suc j) x at_j)) i

  -- the names that were there stand for what they stood for
  pub symbols_stay : symbols_from later 0 earlier.declared.heads earlier.spellings ≡ all_symbols earlier
  symbols_stay =
      let start : (i : ℕ) → i ≡ 0 + i = λ i. omega arith in
      from_same 0 earlier.declared.heads earlier.spellings (λ i head at. subst (λ k. slice_get earlier.declared.heads k ≡ Some head) (start i) at)

-- the names of two rows of sorts and generics
pub symbols_from-append : (d : Declarations) (n : ℕ) (heads more : List Head) (spellings rest : List (List Spelling)) → length heads ≡ length spellings → symbols_from d n (heads ++ more) (spellings ++ rest) ≡ symbols_from d n heads spellings ++ symbols_from d (n + length heads) more rest
symbols_from-append d n [] more [] rest same = let e : n + 0 ≡ n = omega arith in rw e refl
symbols_from-append d n [] more (ss ∷ spellings) rest same = absurd (omega (arith, same))
symbols_from-append d n (head ∷ heads) more [] rest same = absurd (omega (arith, same))
symbols_from-append d n (head ∷ heads) more (ss ∷ spellings) rest same =
    let e : n + suc (length heads) ≡ n + 1 + length heads = omega arith in
    rw (e, symbols_from-append d (n + 1) heads more spellings rest (omega (arith, same))) (sym (append_assoc (symbols_of_head d n head ss) (symbols_from d (n + 1) heads spellings) (symbols_from d (n + 1 + length heads) more rest)))

-- and those that are there still come first
pub symbols_longer : (later earlier : Declarations) (h : Extends later earlier) → IsConsistent earlier → all_symbols later ≡ all_symbols earlier ++ symbols_from later (length earlier.declared.heads) h.heads.0 h.spellings.0
symbols_longer later earlier h c =
    let zero_plus : 0 + length earlier.declared.heads ≡ length earlier.declared.heads = omega arith in
    (λ i. symbols_from later 0 (h.heads.1 i) (h.spellings.1 i))
    ∙ symbols_from-append later 0 earlier.declared.heads h.heads.0 earlier.spellings h.spellings.0 (sym c.heads.one_each)
    ∙ ap (λ (n : ℕ). symbols_from later 0 earlier.declared.heads earlier.spellings ++ symbols_from later n h.heads.0 h.spellings.0) zero_plus
    ∙ ap (λ (xs : List (List ℕ × Symbol)). xs ++ symbols_from later (length earlier.declared.heads) h.heads.0 h.spellings.0) (symbols_stay later earlier h c)
