-- What the words of the core theory stand for: `true` and `false` for the first two constructors, the others for nothing.
use Rattle.std.proofs.Common.{◌≡◌, ℕ, length, zero, suc, ◌+◌, ◌<◌, ◌≤◌, ◌⊎◌, List, [], ◌∷◌, ◌++◌, codes, map, take, drop, slice_get, Option, Some, None, refl, sym, ◌∙◌, ap, subst, inl, inr, ⊎_elim, arith}
use Rattle.std.proofs.lemmas.List.{take-map, length-take, take-append-drop}
use Rattle.std.proofs.lemmas.Option.{same_Some, slice_get_within}
use Rattle.ct_lemmas.proofs.Lists.{slice_get-flat_map}
use Rattle.ct_lemmas.proofs.Prefixes.{slice_get-take}
use Rattle.ct_sorts.specs.declared.ids.Symbol.{Symbol}
use Rattle.ct_sorts.specs.declared.ids.Symbol.TheVariants.{Ctor, Sel, Fun, Def, GenCtor, GenSel}
use Rattle.ct_generics.specs.Declarations.{Head}
use Rattle.ct_sorts.specs.declared.ids.GenId.{GenId}
use Rattle.ct_sorts.specs.declared.spelling.Spelling.{Spelling}
use Rattle.ct_sorts.specs.Availability.{IsListed, IsUnavailable, core_words}
use Rattle.ct_sorts.specs.Declarations.{Declarations, Constructor, ctor_names, head_symbols, spelled, start}
use Rattle.ct_sorts.specs.Lookup.{ResolvesTo, IsGeneric, IsGenericCtor}
use Rattle.ct_sorts.specs.Consistent.{IsConsistent}
use Rattle.ct_sorts.proofs.BaseLemmas.{IsBase, base_of}
use Rattle.ct_sorts.proofs.Lists.{slice_get-drop, take-slice_get}
use Rattle.ct_sorts.proofs.NameLemmas.{AreDistinct-differ}
use Rattle.ct_sorts.proofs.LookupLemmas.{IsListed-left}

-- the first two constructors have the first two words as names
truths_first : (d : Declarations) → IsConsistent d → (n : ℕ) (name : List ℕ) → n < 2 → slice_get core_words n ≡ Some name → slice_get (ctor_names d) n ≡ Some name
truths_first d c n name few at = slice_get-take 2 (ctor_names d) n name (subst (λ xs. slice_get xs n ≡ Some name) (sym first) (by n few at))
  where
    first : take 2 (ctor_names d) ≡ ctor_names start
    first = take-map (λ (t : Constructor). t.name) 2 d.ctors ∙ ap (map (λ (t : Constructor). t.name)) c.first_ctors

    by : (n : ℕ) → n < 2 → slice_get core_words n ≡ Some name → slice_get (ctor_names start) n ≡ Some name
    by zero h e = e
    by (suc zero) h e = e
    by (suc (suc n)) h e = absurd (omega arith)

-- a constructor that has a word as name has the number of the word, and is one of the first two
word_number : (d : Declarations) → IsConsistent d → (name : List ℕ) (k n : ℕ) → slice_get (ctor_names d) k ≡ Some name → slice_get core_words n ≡ Some name → (n < 2) × (k ≡ n)
word_number d c name k n stands at = by k refl
  where
    early : (m : ℕ) → k ≡ m → m < 2 → (text : List ℕ) → slice_get core_words m ≡ Some text → (n < 2) × (k ≡ n)
    early m e few text word =
        let named : slice_get (ctor_names d) k ≡ Some text = subst (λ i. slice_get (ctor_names d) i ≡ Some text) (sym e) (truths_first d c m text few word) in
        let same : text ≡ name = same_Some text name (sym named ∙ stands) in
        let number : m ≡ n = AreDistinct-differ core_words refl m n name (word ∙ ap Some same) at in
        (subst (λ i. i < 2) number few, e ∙ number)

    -- a later constructor may be declared, and so its name is no word
    later : (m : ℕ) → k ≡ 2 + m → ⊥
    later m e = c.ctors_available m name (slice_get-drop 2 (ctor_names d) m ∙ subst (λ i. slice_get (ctor_names d) i ≡ Some name) e stands) (inr (inl (n, at)))

    by : (m : ℕ) → k ≡ m → (n < 2) × (k ≡ n)
    by zero e = early 0 e (omega arith) _ refl
    by (suc zero) e = early 1 e (omega arith) _ refl
    by (suc (suc m)) e = absurd (later m (omega (arith, e)))

-- the names of the first sort are the first two
pub symbols_begin : (d : Declarations) → IsBase d → head_symbols d.spellings ≡ codes "true" ∷ (codes "false" ∷ head_symbols (drop 1 d.spellings))
symbols_begin d c = ap head_symbols (sym (take-append-drop 1 d.spellings)) ∙ ap (λ (first : List (List Spelling)). head_symbols (first ++ drop 1 d.spellings)) c.first_spelling

-- a generic is not the first
generic_later : (d : Declarations) → IsConsistent d → (g : GenId) → IsGeneric d g → (k : ℕ) × (g.0 ≡ suc k)
generic_later d c g is = by g.0 refl
  where
    by : (k : ℕ) → g.0 ≡ k → (j : ℕ) × (g.0 ≡ suc j)
    by zero e =
        let at : slice_get d.declared.heads 0 ≡ Some is.0 = subst (λ h. slice_get d.declared.heads h ≡ Some is.0) e is.1.0 in
        let first : slice_get start.declared.heads 0 ≡ Some is.0 = subst (λ xs. slice_get xs 0 ≡ Some is.0) c.first_head (take-slice_get 1 d.declared.heads 0 is.0 (omega (arith, length-take 1 d.declared.heads, slice_get_within d.declared.heads 0 is.0 at)) at) in
        let none : 0 ≡ is.0.params = ap (λ (h : Head). h.params) (same_Some _ _ first) in
        absurd (omega (arith, none, is.1.1))
    by (suc k) e = (k, e)

-- the names of the constructors and fields of one that is not the first come after those of the first, and so may be declared
pub later_name : (d : Declarations) → IsBase d → (k : ℕ) (ctors : List Spelling) (i j : ℕ) (ctor : Spelling) (name : List ℕ) → slice_get d.spellings (suc k) ≡ Some ctors → slice_get ctors i ≡ Some ctor → slice_get (ctor.name ∷ ctor.fields) j ≡ Some name → IsUnavailable [] name → ⊥
later_name d c k ctors i j ctor name at at_i at_j =
    let next : 1 + k ≡ suc k = omega arith in
    let row : slice_get (drop 1 d.spellings) k ≡ Some ctors = slice_get-drop 1 d.spellings k ∙ ap (slice_get d.spellings) next ∙ at in
    let inner = slice_get-flat_map (λ (s : Spelling). s.name ∷ s.fields) ctors i j ctor name at_i at_j in
    let outer = slice_get-flat_map spelled (drop 1 d.spellings) k inner.0 ctors name row inner.1 in
    c.symbols_available outer.0 name (ap (λ xs. slice_get (drop 2 xs) outer.0) (symbols_begin d c) ∙ outer.1)

generic_no_word : (d : Declarations) → IsConsistent d → (g : GenId) (i : ℕ) (ctor : Spelling) → IsGenericCtor d g i ctor → (name : List ℕ) → IsListed (ctor.name ∷ ctor.fields) name → IsUnavailable [] name → ⊥
generic_no_word d c g i ctor is name listed =
    let later = generic_later d c g is.0 in
    later_name d (base_of d c) later.0 is.1.0 i listed.0 ctor name (subst (λ h. slice_get d.spellings h ≡ Some is.1.0) later.1 is.1.1) is.1.2 listed.1

-- what a word stands for: nothing, or the constructor with its number, one of the first two
word_stands : (d : Declarations) → IsConsistent d → (name : List ℕ) (found : Option Symbol) → ResolvesTo d name found → (n : ℕ) → slice_get core_words n ≡ Some name → (found ≡ None) ⊎ ((n < 2) × (found ≡ Some (Ctor (record { 0 = n }))))
word_stands d c name None absent n at = inl refl
word_stands d c name (Some (Ctor k)) stands n at =
    let h = word_number d c name k.0 n stands.0 at in
    inr (h.0, λ j. Some (Ctor (record { 0 = h.1 j })))
word_stands d c name (Some (Sel s)) stands n at = absurd (c.sels_available s.0 name stands.0 (inr (inl (n, at))))
word_stands d c name (Some (Fun f)) stands n at = absurd (c.available f.0 name stands (inr (inl (n, at))))
word_stands d c name (Some (Def f)) stands n at = absurd (c.definitions_available f.0 name stands (inr (inl (n, at))))
word_stands d c name (Some (GenCtor g i)) stands n at = absurd (generic_no_word d c g i stands.0 stands.1 name (0, ap Some stands.2) (inr (inl (n, at))))
word_stands d c name (Some (GenSel g i k)) stands n at = absurd (generic_no_word d c g i stands.0 stands.1 name (suc k, stands.2) (inr (inl (n, at))))

-- the first two words are names of symbols
truth_listed : (d : Declarations) → IsConsistent d → (name : List ℕ) (n : ℕ) → n < 2 → slice_get core_words n ≡ Some name → IsListed (head_symbols d.spellings) name
truth_listed d c name n few at = (n, ap (λ xs. slice_get xs n) (symbols_begin d (base_of d c)) ∙ by n few at)
  where
    by : (n : ℕ) → n < 2 → slice_get core_words n ≡ Some name → slice_get (codes "true" ∷ (codes "false" ∷ head_symbols (drop 1 d.spellings))) n ≡ Some name
    by zero h e = e
    by (suc zero) h e = e
    by (suc (suc n)) h e = absurd (omega arith)

-- `true` and `false` stand for the first two constructors
pub truth_found : (d : Declarations) → IsConsistent d → (name : List ℕ) (found : Option Symbol) → ResolvesTo d name found → (n : ℕ) → n < 2 → slice_get core_words n ≡ Some name → found ≡ Some (Ctor (record { 0 = n }))
truth_found d c name found stands n few at = ⊎_elim missing (λ h. h.1) (word_stands d c name found stands n at)
  where
    missing : found ≡ None → found ≡ Some (Ctor (record { 0 = n }))
    missing e = absurd (subst (ResolvesTo d name) e stands (IsListed-left (head_symbols d.spellings) _ name (truth_listed d c name n few at)))

-- the other words stand for nothing
pub word_found : (d : Declarations) → IsConsistent d → (name : List ℕ) (found : Option Symbol) → ResolvesTo d name found → (n : ℕ) → 2 ≤ n → slice_get core_words n ≡ Some name → found ≡ None
word_found d c name found stands n many at = ⊎_elim (λ e. e) (λ h. absurd (omega (arith, h.0))) (word_stands d c name found stands n at)
