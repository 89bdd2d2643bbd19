-- Rounds of marking: what they mark is well founded, and where a round marks nothing all that is well founded is marked.
use Rattle.std.proofs.Common.{◌≡◌, ◌↔◌, ℕ, zero, suc, ◌+◌, ◌<◌, ◌⊎◌, Bool, true, false, ◌||◌, List, [], ◌∷◌, length, set, slice_get, replicate, Option, Some, None, refl, sym, ◌∙◌, ap, subst, inl, inr, ⊎_elim, arith}
use Rattle.std.specs.List.{list_any, list_all}
use Rattle.std.proofs.Math.Bool.{or-true}
use Rattle.std.proofs.lemmas.Bool.{true≢false, false≢true}
use Rattle.std.proofs.lemmas.Option.{same_Some, none-some}
use Rattle.ct_lemmas.proofs.Lists.{list_all-at}
use Rattle.ct_generics.specs.declared.kind.Kind.{Kind}
use Rattle.ct_generics.specs.declared.kind.Kind.TheVariants.{Bool as BoolKind, Free, Data, Codata}
use Rattle.ct_generics.specs.declared.graph.Vertex.{Vertex}
use Rattle.ct_generics.specs.Graph.{IsFoundedAt, other, built}
use Rattle.ct_generics.specs.Marks.{marked, unmarked, is_built_of, is_built, IsClosedSet, AreMarksSound}

-- an element of a list passes the test
pub list_any-source : {X : Type 0} (test : X → Bool) (xs : List X) → list_any test xs ≡ true → (i : ℕ) × (x : X) × (slice_get xs i ≡ Some x) × (test x ≡ true)
list_any-source test [] h = absurd (false≢true h)
list_any-source test (x ∷ xs) h = by (test x) refl (list_any-source test xs) h
  where
    by : (b : Bool) → test x ≡ b → (list_any test xs ≡ true → (i : ℕ) × (y : _) × (slice_get xs i ≡ Some y) × (test y ≡ true)) → (b || list_any test xs) ≡ true → (i : ℕ) × (y : _) × (slice_get (x ∷ xs) i ≡ Some y) × (test y ≡ true)
    by true e rest h = (0, x, refl, e)
    by false e rest h = let found = rest h in (suc found.0, found.1, found.2, found.3)

-- a test that an element passes
pub list_any-at : {X : Type 0} (test : X → Bool) (xs : List X) (i : ℕ) (x : X) → slice_get xs i ≡ Some x → test x ≡ true → list_any test xs ≡ true
list_any-at test [] i x at holds = absurd (none-some x at)
list_any-at test (y ∷ xs) zero x at holds = rw (ap test (same_Some y x at) ∙ holds) refl
list_any-at test (y ∷ xs) (suc i) x at holds = rw (list_any-at test xs i x at holds) (or-true (test y))

-- a test that all elements pass
pub list_all-each : {X : Type 0} (test : X → Bool) (xs : List X) → ((i : ℕ) (x : X) → slice_get xs i ≡ Some x → test x ≡ true) → list_all test xs ≡ true
list_all-each test [] each = refl
list_all-each test (y ∷ xs) each = rw (each 0 y refl, list_all-each test xs (λ i x at. each (suc i) x at)) refl

-- what is built from well founded vertices is well founded
founded-built : (g : List Vertex) (marks : List Bool) (i : ℕ) (v : Vertex) → AreMarksSound g marks → slice_get g i ≡ Some v → (kind : Option Kind) → v.kind ≡ kind → is_built_of kind (marked marks) v.ctors ≡ true → IsFoundedAt g i
founded-built g marks i v sound at None is h = other i v at (λ e. let f = sym is ∙ e in none-some Data f)
founded-built g marks i v sound at (Some BoolKind) is h = other i v at (λ e. let f = same_Some BoolKind Data (sym is ∙ e) in cc)
founded-built g marks i v sound at (Some Free) is h = other i v at (λ e. let f = same_Some Free Data (sym is ∙ e) in cc)
founded-built g marks i v sound at (Some Codata) is h = other i v at (λ e. let f = same_Some Codata Data (sym is ∙ e) in cc)
founded-built g marks i v sound at (Some Data) is h =
    let found = list_any-source (list_all (marked marks)) v.ctors h in
    built i v found.0 found.1 at found.2 (λ b j at_j. sound j (list_all-at (marked marks) found.1 b j found.3 at_j))

-- what is not Data is built
built_of_other : (kind : Option Kind) (set : ℕ → Bool) (ctors : List (List ℕ)) → (kind ≡ Some Data → ⊥) → is_built_of kind set ctors ≡ true
built_of_other None set ctors h = refl
built_of_other (Some BoolKind) set ctors h = refl
built_of_other (Some Free) set ctors h = refl
built_of_other (Some Codata) set ctors h = refl
built_of_other (Some Data) set ctors h = absurd (h refl)

-- a constructor of vertices in the set
built_of_fields : (kind : Option Kind) (set : ℕ → Bool) (ctors : List (List ℕ)) (a : ℕ) (fields : List ℕ) → slice_get ctors a ≡ Some fields → list_all set fields ≡ true → is_built_of kind set ctors ≡ true
built_of_fields None set ctors a fields at h = refl
built_of_fields (Some BoolKind) set ctors a fields at h = refl
built_of_fields (Some Free) set ctors a fields at h = refl
built_of_fields (Some Codata) set ctors a fields at h = refl
built_of_fields (Some Data) set ctors a fields at h = list_any-at (list_all set) ctors a fields at h

-- a closed set holds all that is well founded
founded-closed : (g : List Vertex) (holds : ℕ → Bool) → IsClosedSet g holds → (i : ℕ) → IsFoundedAt g i → holds i ≡ true
founded-closed g holds closed i (other k v at h) = closed k v at (built_of_other v.kind holds v.ctors h)
founded-closed g holds closed i (built k v a fields at at_a each) =
    closed k v at (built_of_fields v.kind holds v.ctors a fields at_a (list_all-each holds fields (λ b j at_j. founded-closed g holds closed j (each b j at_j))))

-- sound marks of a closed set are exactly the well founded vertices
pub founded_exactly : (g : List Vertex) (marks : List Bool) → AreMarksSound g marks → IsClosedSet g (marked marks) → (i : ℕ) → (marked marks i ≡ true) ↔ IsFoundedAt g i
founded_exactly g marks sound closed i = (sound i, founded-closed g (marked marks) closed i)

-- a mark at an index, and elsewhere
pub marked-set : (marks : List Bool) (i j : ℕ) → marked (set marks i true) j ≡ true → (j ≡ i) ⊎ (marked marks j ≡ true)
marked-set [] i j h = inr h
marked-set (m ∷ marks) zero zero h = inl refl
marked-set (m ∷ marks) zero (suc j) h = inr h
marked-set (m ∷ marks) (suc i) zero h = inr h
marked-set (m ∷ marks) (suc i) (suc j) h = ⊎_elim (λ e. inl (ap suc e)) (λ e. inr e) (marked-set marks i j h)

-- a vertex that is built from marked ones may be marked
pub AreMarksSound-set : (g : List Vertex) (marks : List Bool) (i : ℕ) (v : Vertex) → slice_get g i ≡ Some v → is_built (marked marks) v ≡ true → AreMarksSound g marks → AreMarksSound g (set marks i true)
AreMarksSound-set g marks i v at holds sound j h =
    ⊎_elim (λ e. subst (IsFoundedAt g) (sym e) (founded-built g marks i v sound at v.kind refl holds)) (λ m. sound j m) (marked-set marks i j h)

-- a new mark leaves one fewer without
pub unmarked-set : (marks : List Bool) (i : ℕ) → i < length marks → marked marks i ≡ false → unmarked (set marks i true) < unmarked marks
unmarked-set [] i h e = absurd (omega arith)
unmarked-set (true ∷ marks) zero h e = absurd (true≢false e)
unmarked-set (false ∷ marks) zero h e = omega arith
unmarked-set (true ∷ marks) (suc i) h e = unmarked-set marks i (omega arith) e
unmarked-set (false ∷ marks) (suc i) h e = omega (arith, unmarked-set marks i (omega arith) e)

-- nothing is marked where no mark is set
pub none_marked : (n i : ℕ) → marked (replicate n false) i ≡ true → ⊥
none_marked zero i h = false≢true h
none_marked (suc n) zero h = false≢true h
none_marked (suc n) (suc i) h = none_marked n i h

-- no mark is sound
pub AreMarksSound-none : (g : List Vertex) (n : ℕ) → AreMarksSound g (replicate n false)
AreMarksSound-none g n i h = absurd (none_marked n i h)

-- a round so far, over the vertices before index i: `old` became `marks`
pub record IsRound (g : List Vertex) (old marks : List Bool) (changed : Bool) (i : ℕ) : Type 0 where
  pub sound : AreMarksSound g old → AreMarksSound g marks
  pub fewer : changed ≡ true → unmarked marks < unmarked old
  pub same : changed ≡ false → marks ≡ old
  pub closed : changed ≡ false → (k : ℕ) (v : Vertex) → k < i → slice_get g k ≡ Some v → is_built (marked old) v ≡ true → marked old k ≡ true

module _ (g : List Vertex) (old marks : List Bool) (changed : Bool) (i : ℕ) (v : Vertex) (at : slice_get g i ≡ Some v) (r : IsRound g old marks changed i) where
  -- a vertex is marked
  pub IsRound-marked : i < length marks → marked marks i ≡ false → is_built (marked marks) v ≡ true → IsRound g old (set marks i true) true (i + 1)
  IsRound-marked within unset holds =
      record {
        sound = λ before. AreMarksSound-set g marks i v at holds (r.sound before);
        fewer = λ _. by changed refl;
        same = λ e. absurd (true≢false e);
        closed = λ e. absurd (true≢false e);
      }
    where
      by : (b : Bool) → changed ≡ b → unmarked (set marks i true) < unmarked old
      by true e = omega (arith, unmarked-set marks i within unset, r.fewer e)
      by false e = subst (λ ms. unmarked (set marks i true) < unmarked ms) (r.same e) (unmarked-set marks i within unset)

  -- a vertex is left as it is
  pub IsRound-stored : (is_built (marked marks) v ≡ true → marked marks i ≡ true) → IsRound g old marks changed (i + 1)
  IsRound-stored stored =
      record {
        sound = r.sound;
        fewer = r.fewer;
        same = r.same;
        closed = closed;
      }
    where
      closed : changed ≡ false → (k : ℕ) (d : Vertex) → k < i + 1 → slice_get g k ≡ Some d → is_built (marked old) d ≡ true → marked old k ≡ true
      closed e k d h at_k holds = ⊎_elim (λ l. r.closed e k d l at_k holds) (λ s. last s) (split k i h)
        where
          split : (k i : ℕ) → k < i + 1 → (k < i) ⊎ (k ≡ i)
          split k zero h = inr (omega arith)
          split zero (suc i) h = inl (omega arith)
          split (suc k) (suc i) h = ⊎_elim (λ l. inl (omega (arith, l))) (λ s. inr (ap suc s)) (split k i (omega arith))

          last : k ≡ i → marked old k ≡ true
          last s =
              let same_vertex : d ≡ v = same_Some _ _ (sym at_k ∙ ap (slice_get g) s ∙ at) in
              let holds' : is_built (marked marks) v ≡ true = subst (λ ms. is_built (marked ms) v ≡ true) (sym (r.same e)) (subst (λ t. is_built (marked old) t ≡ true) same_vertex holds) in
              subst (λ ms. marked ms k ≡ true) (r.same e) (subst (λ n. marked marks n ≡ true) (sym s) (stored holds'))

pub IsRound-start : (g : List Vertex) (old : List Bool) → IsRound g old old false 0
IsRound-start g old = record { sound = λ h. h; fewer = λ e. absurd (false≢true e); same = λ _. refl; closed = λ _ k v h. absurd (omega arith) }
