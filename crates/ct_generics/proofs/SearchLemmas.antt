-- A search through a graph of expressions: marks and the stack step by step, what is marked at its end, and that a datatype
-- and a codatatype lead to each other exactly where a codatatype leads to a datatype with a field of it.
use Rattle.std.proofs.Common.{◌≡◌, ◌↔◌, ℕ, zero, suc, ◌+◌, ◌<◌, ◌⊎◌, Bool, true, false, ◌==◌, List, [], ◌∷◌, ◌++◌, length, set, take, get_or, slice_get, Some, refl, sym, ◌∙◌, ap, subst, inl, inr, arith}
use Rattle.std.specs.List.{flat_map, list_any}
use Rattle.std.proofs.Math.Bool.{or-true}
use Rattle.std.proofs.lemmas.List.{take_more, append-nil}
use Rattle.std.proofs.lemmas.Grind.{flat_map-append}
use Rattle.std.proofs.lemmas.Bool.{false≢true}
use Rattle.std.proofs.lemmas.Bool.Decides.{Decides-eqb}
use Rattle.std.proofs.lemmas.Option.{same_Some, none-some}
use Rattle.ct_lemmas.proofs.Lists.{slice_get-append_left, slice_get-append_right, slice_get-append_cases, slice_get-flat_map}
use Rattle.ct_lemmas.proofs.Numbers.{same_number}
use Rattle.ct_generics.specs.declared.kind.Kind.TheVariants.{Data, Codata}
use Rattle.ct_generics.specs.declared.graph.Vertex.{Vertex}
use Rattle.ct_generics.specs.Graph.{Leads, here, onward, HasArc, HasPlainEnds, IsVertexOf, IsMixedGraph, arcs_of}
use Rattle.ct_generics.specs.Marks.{marked}
use Rattle.ct_generics.specs.Search.{On, IsMarking, IsBack, IsSearch}
use Rattle.ct_generics.proofs.MarkLemmas.{marked-set, unmarked-set, list_any-source, list_any-at}
use Rattle.ct_generics.proofs.SubstitutionLemmas.{length-push}

-- ---- lists

On-left : (xs ys : List ℕ) (i : ℕ) → On xs i → On (xs ++ ys) i
On-left xs ys i on = (on.0, slice_get-append_left xs ys on.0 i on.1)

On-right : (xs ys : List ℕ) (i : ℕ) → On ys i → On (xs ++ ys) i
On-right xs ys i on = (length xs + on.0, slice_get-append_right xs ys on.0 i on.1)

On-cases : (xs ys : List ℕ) (i : ℕ) → On (xs ++ ys) i → On xs i ⊎ On ys i
On-cases xs ys i on = elim (slice_get-append_cases xs ys on.0 i on.1) [ inl left ↦ inl (on.0, left) | inr right ↦ inr (right.0, right.2) ]

On-one : (x i : ℕ) → On (x ∷ []) i → x ≡ i
On-one x i on = by on.0 on.1
  where
    by : (k : ℕ) → slice_get (x ∷ []) k ≡ Some i → x ≡ i
    by zero e = same_Some x i e
    by (suc k) e = absurd (none-some i e)

pub marked-there : (marks : List Bool) (i : ℕ) → marked marks i ≡ true → i < length marks
marked-there [] i h = absurd (false≢true h)
marked-there (m ∷ marks) zero h = omega arith
marked-there (m ∷ marks) (suc i) h = omega (arith, marked-there marks i h)

marked-set_same : (marks : List Bool) (i : ℕ) → i < length marks → marked (set marks i true) i ≡ true
marked-set_same [] i h = absurd (omega arith)
marked-set_same (m ∷ marks) zero h = refl
marked-set_same (m ∷ marks) (suc i) h = marked-set_same marks i (omega arith)

marked-set_stay : (marks : List Bool) (i j : ℕ) → marked marks j ≡ true → marked (set marks i true) j ≡ true
marked-set_stay [] i j h = h
marked-set_stay (m ∷ marks) zero zero h = refl
marked-set_stay (m ∷ marks) zero (suc j) h = h
marked-set_stay (m ∷ marks) (suc i) zero h = h
marked-set_stay (m ∷ marks) (suc i) (suc j) h = marked-set_stay marks i j h

length-set_mark : (marks : List Bool) (i : ℕ) → length (set marks i true) ≡ length marks
length-set_mark [] i = refl
length-set_mark (m ∷ marks) zero = refl
length-set_mark (m ∷ marks) (suc i) = ap suc (length-set_mark marks i)

-- a number stands in one of the rows where the test finds it
pub arcs-tested : (ctors : List (List ℕ)) (y : ℕ) → (list_any (list_any (λ z. z == y)) ctors ≡ true) ↔ On (flat_map (λ fields. fields) ctors) y
arcs-tested ctors y = (there ctors, found ctors)
  where
    there : (ctors : List (List ℕ)) → list_any (list_any (λ z. z == y)) ctors ≡ true → On (flat_map (λ fields. fields) ctors) y
    there ctors h =
        let row = list_any-source (list_any (λ z. z == y)) ctors h in
        let item = list_any-source (λ z. z == y) row.1 row.3 in
        let at : slice_get row.1 item.0 ≡ Some y = item.2 ∙ ap Some (same_number item.1 y item.3) in
        slice_get-flat_map (λ (fields : List ℕ). fields) ctors row.0 item.0 row.1 y row.2 at

    found : (ctors : List (List ℕ)) → On (flat_map (λ fields. fields) ctors) y → list_any (list_any (λ z. z == y)) ctors ≡ true
    found [] on = absurd (none-some y on.1)
    found (fields ∷ ctors) on = elim (On-cases fields (flat_map (λ fields. fields) ctors) y on) [
      | inl first ↦ rw (list_any-at (λ z. z == y) fields first.0 y first.1 ((Decides-eqb y y).1 refl)) refl
      | inr rest ↦ rw (found ctors rest) (or-true (list_any (λ z. z == y) fields))
    ]

-- one row more
pub arcs-more : (ctors : List (List ℕ)) (i : ℕ) (row : List ℕ) → i < length ctors → row ≡ get_or ctors i row → flat_map (λ fields. fields) (take (i + 1) ctors) ≡ flat_map (λ fields. fields) (take i ctors) ++ row
arcs-more ctors i row within is =
    let all = flat_map (λ (fields : List ℕ). fields) in
    ap all (take_more ctors i row within ∙ ap (λ r. take i ctors ++ r ∷ []) (sym is)) ∙ flat_map-append (λ (fields : List ℕ). fields) (take i ctors) (row ∷ []) ∙ ap (λ (r : List ℕ). all (take i ctors) ++ r) (append-nil row)

-- ---- marking

pub IsMarking-none : (marks : List Bool) (stack : List ℕ) → IsMarking marks stack [] marks stack
IsMarking-none marks stack =
    record {
      long = refl;
      stay = λ i h. h;
      wait = λ i on. on;
      new = λ i h. inl h;
      stacked = λ i on. inl on;
      done = λ i on within. absurd (none-some i on.1);
      less = omega arith;
    }

-- a vertex that is marked already, or is none
pub IsMarking-old : (marks : List Bool) (stack : List ℕ) (x : ℕ) → (x < length marks → marked marks x ≡ true) → IsMarking marks stack (x ∷ []) marks stack
IsMarking-old marks stack x had =
    record {
      long = refl;
      stay = λ i h. h;
      wait = λ i on. on;
      new = λ i h. inl h;
      stacked = λ i on. inl on;
      done = λ i on within. subst (λ j. marked marks j ≡ true) (On-one x i on) (had (subst (λ j. j < length marks) (sym (On-one x i on)) within));
      less = omega arith;
    }

-- a vertex that was not marked
pub IsMarking-new : (marks : List Bool) (stack : List ℕ) (x : ℕ) → x < length marks → marked marks x ≡ false → IsMarking marks stack (x ∷ []) (set marks x true) (stack ++ x ∷ [])
IsMarking-new marks stack x within unset =
    record {
      long = length-set_mark marks x;
      stay = λ i h. marked-set_stay marks x i h;
      wait = λ i on. On-left stack (x ∷ []) i on;
      new = new;
      stacked = stacked;
      done = λ i on inside. subst (λ j. marked (set marks x true) j ≡ true) (On-one x i on) (marked-set_same marks x within);
      less = omega (arith, unmarked-set marks x within unset, length-push stack x);
    }
  where
    new : (i : ℕ) → marked (set marks x true) i ≡ true → (marked marks i ≡ true) ⊎ (On (x ∷ []) i × On (stack ++ x ∷ []) i)
    new i h = elim (marked-set marks x i h) [
      | inl e ↦
          let last : On (x ∷ []) i = (0, ap Some (sym e)) in
          inr (last, On-right stack (x ∷ []) i last)
      | inr had ↦ inl had
    ]

    stacked : (i : ℕ) → On (stack ++ x ∷ []) i → On stack i ⊎ (marked (set marks x true) i ≡ true)
    stacked i on = elim (On-cases stack (x ∷ []) i on) [
      | inl left ↦ inl left
      | inr right ↦ inr (subst (λ j. marked (set marks x true) j ≡ true) (On-one x i right) (marked-set_same marks x within))
    ]

-- one marking after the other
pub IsMarking-then : (a b c : List Bool) (s t u v w : List ℕ) → IsMarking a s v b t → IsMarking b t w c u → IsMarking a s (v ++ w) c u
IsMarking-then a b c s t u v w first second =
    record {
      long = second.long ∙ first.long;
      stay = λ i h. second.stay i (first.stay i h);
      wait = λ i on. second.wait i (first.wait i on);
      new = new;
      stacked = stacked;
      done = done;
      less = omega (arith, first.less, second.less);
    }
  where
    new : (i : ℕ) → marked c i ≡ true → (marked a i ≡ true) ⊎ (On (v ++ w) i × On u i)
    new i h = elim (second.new i h) [
      | inl before ↦ elim (first.new i before) [
        | inl had ↦ inl had
        | inr now ↦ inr (On-left v w i now.0, second.wait i now.1)
      ]
      | inr now ↦ inr (On-right v w i now.0, now.1)
    ]

    stacked : (i : ℕ) → On u i → On s i ⊎ (marked c i ≡ true)
    stacked i on = elim (second.stacked i on) [
      | inl before ↦ elim (first.stacked i before) [
        | inl had ↦ inl had
        | inr now ↦ inr (second.stay i now)
      ]
      | inr now ↦ inr now
    ]

    done : (i : ℕ) → On (v ++ w) i → i < length a → marked c i ≡ true
    done i on within = elim (On-cases v w i on) [
      | inl left ↦ second.stay i (first.done i left within)
      | inr right ↦ second.done i right (omega (arith, first.long, within))
    ]

-- ---- the search

-- the search begins
pub IsSearch-start : (g : List Vertex) (start : ℕ) (marks after : List Bool) (stack : List ℕ) → start < length g → length marks ≡ length g → ((i : ℕ) → marked marks i ≡ true → ⊥) → IsMarking marks [] (start ∷ []) after stack → IsSearch g start after stack
IsSearch-start g start marks after stack within same unset marking =
    record {
      long = marking.long ∙ same;
      sound = sound;
      begun = marking.done start (0, refl) (omega (arith, within, same));
      stacked = stacked;
      closed = closed;
    }
  where
    sound : (i : ℕ) → marked after i ≡ true → Leads g start i
    sound i h = elim (marking.new i h) [
      | inl had ↦ absurd (unset i had)
      | inr now ↦ subst (Leads g start) (On-one start i now.0) here
    ]

    stacked : (i : ℕ) → On stack i → marked after i ≡ true
    stacked i on = elim (marking.stacked i on) [ inl none ↦ absurd (none-some i none.1) | inr h ↦ h ]

    closed : (i : ℕ) → marked after i ≡ true → On stack i ⊎ ((j : ℕ) → HasArc g i j → marked after j ≡ true)
    closed i h = elim (marking.new i h) [ inl had ↦ absurd (unset i had) | inr now ↦ inl now.1 ]

-- the vertex that waited last is done
pub IsSearch-step : (g : List Vertex) (start i : ℕ) (v : Vertex) (marks after : List Bool) (stack rest grown : List ℕ) → ((i j : ℕ) → HasArc g i j → j < length g) → slice_get g i ≡ Some v → stack ≡ rest ++ i ∷ [] → IsSearch g start marks stack → IsMarking marks rest (arcs_of v) after grown → IsSearch g start after grown
IsSearch-step g start i v marks after stack rest grown inside at is search marking =
    record {
      long = marking.long ∙ search.long;
      sound = sound;
      begun = marking.stay start search.begun;
      stacked = stacked;
      closed = closed;
    }
  where
    popped : On stack i
    popped = subst (λ s. On s i) (sym is) (On-right rest (i ∷ []) i (0, refl))

    sound : (j : ℕ) → marked after j ≡ true → Leads g start j
    sound j h = elim (marking.new j h) [
      | inl had ↦ search.sound j had
      | inr now ↦ onward i j (search.sound i (search.stacked i popped)) (v, at, now.0)
    ]

    stacked : (j : ℕ) → On grown j → marked after j ≡ true
    stacked j on = elim (marking.stacked j on) [
      | inl before ↦ marking.stay j (search.stacked j (subst (λ s. On s j) (sym is) (On-left rest (i ∷ []) j before)))
      | inr h ↦ h
    ]

    -- the fields of the vertex are marked
    own : (j : ℕ) → HasArc g i j → marked after j ≡ true
    own j arc =
        let same : arc.0 ≡ v = same_Some arc.0 v (sym arc.1 ∙ at) in
        marking.done j (subst (λ (x : Vertex). On (arcs_of x) j) same arc.2) (omega (arith, inside i j arc, search.long))

    closed : (j : ℕ) → marked after j ≡ true → On grown j ⊎ ((k : ℕ) → HasArc g j k → marked after k ≡ true)
    closed j h = elim (marking.new j h) [
      | inl had ↦ elim (search.closed j had) [
        | inl waits ↦ elim (On-cases rest (i ∷ []) j (subst (λ s. On s j) is waits)) [
          | inl before ↦ inl (marking.wait j before)
          | inr last ↦ inr (subst (λ x. (k : ℕ) → HasArc g x k → marked after k ≡ true) (On-one i j last) own)
        ]
        | inr all ↦ inr (λ k arc. marking.stay k (all k arc))
      ]
      | inr now ↦ inl now.1
    ]

reached-marked : (g : List Vertex) (start : ℕ) (marks : List Bool) → IsSearch g start marks [] → (i : ℕ) → Leads g start i → marked marks i ≡ true
reached-marked g start marks search _ here = search.begun
reached-marked g start marks search _ (onward j k leads arc) =
    elim (search.closed j (reached-marked g start marks search j leads)) [
      | inl none ↦ absurd (none-some j none.1)
      | inr all ↦ all k arc
    ]

-- where nothing waits, the marks are exactly what the vertex leads to
pub reached_exactly : (g : List Vertex) (start : ℕ) (marks : List Bool) → IsSearch g start marks [] → (i : ℕ) → (marked marks i ≡ true) ↔ Leads g start i
reached_exactly g start marks search i = (search.sound i, reached-marked g start marks search i)

-- ---- mixed recursion

pub Leads-trans : (g : List Vertex) (i j k : ℕ) → Leads g i j → Leads g j k → Leads g i k
Leads-trans g i j _ first here = first
Leads-trans g i j _ first (onward m k leads arc) = onward m k (Leads-trans g i j m first leads) arc

same_kind : (g : List Vertex) (i : ℕ) → IsVertexOf g Data i → IsVertexOf g Codata i → ⊥
same_kind g i one two =
    let v : one.0 ≡ two.0 = same_Some one.0 two.0 (sym one.1 ∙ two.1) in
    let e = same_Some Data Codata (sym one.2 ∙ ap (λ (x : Vertex). x.kind) v ∙ two.2) in
    cc

-- on the way from a datatype to a codatatype there is an arc from a datatype to a codatatype
crossing : (g : List Vertex) → HasPlainEnds g → (d c : ℕ) → IsVertexOf g Data d → Leads g d c → IsVertexOf g Codata c → (x y : ℕ) × IsVertexOf g Data x × IsVertexOf g Codata y × HasArc g x y × Leads g d x × Leads g y c
crossing g ends d _ data_d here codata_c = absurd (same_kind g d data_d codata_c)
crossing g ends d _ data_d (onward j k leads arc) codata_c = elim (ends j k arc) [
  | inl data_j ↦ (j, k, data_j, codata_c, arc, leads, here)
  | inr codata_j ↦
      let before = crossing g ends d j data_d leads codata_j in
      (before.0, before.1, before.2, before.3, before.4, before.5, onward j k before.6 arc)
]

pub back_mixed : (g : List Vertex) (y : ℕ) → IsBack g y → IsMixedGraph g
back_mixed g y back = (back.1.0, y, back.1.1, back.0, onward back.1.0 y here back.1.2, back.1.3)

pub mixed_back : (g : List Vertex) → HasPlainEnds g → IsMixedGraph g → (y : ℕ) × IsBack g y
mixed_back g ends mixed =
    let found = crossing g ends mixed.0 mixed.1 mixed.2 mixed.4 mixed.3 in
    (found.1, (found.3, (found.0, found.2, found.4, Leads-trans g found.1 mixed.0 found.0 (Leads-trans g found.1 mixed.1 mixed.0 found.6 mixed.5) found.5)))

-- the vertex that waited last is one of the graph
pub IsSearch-last : (g : List Vertex) (start i : ℕ) (marks : List Bool) (stack rest : List ℕ) → stack ≡ rest ++ i ∷ [] → IsSearch g start marks stack → i < length g
IsSearch-last g start i marks stack rest is search =
    let waits : On stack i = subst (λ s. On s i) (sym is) (On-right rest (i ∷ []) i (0, refl)) in
    omega (arith, marked-there marks i (search.stacked i waits), search.long)
