-- How many decisions a legal list of moves has: the weight of the trail rises with each, and does not fall.
use Rattle.std.proofs.Common.{◌≡◌, ℕ, zero, suc, ◌+◌, ◌^◌, ◌<◌, ◌≤◌, ◌⊎◌, inl, inr, cond, List, [], ◌∷◌, ◌++◌, length, take, slice_get, All, Contains, refl, sym, ap, subst, ◌∙◌, arith}
use Rattle.std.specs.List.{count_by}
use Rattle.std.proofs.lemmas.List.{length-map, map-append}
use Rattle.std.proofs.lemmas.List.Sums.{sum_by-cons}
use Rattle.std.proofs.lemmas.List.Elements.{All-contains, All-weaker, Contains-push}
use Rattle.ct_lemmas.proofs.Contained.{Contains-cons, Contains-none}
use Rattle.ct_terms.specs.declared.ids.TermId.{TermId}
use Rattle.ct_terms.specs.declared.ids.Lit.{Lit}
use Rattle.ct_terms.specs.Literal.{opposite}
use Rattle.ct_terms.specs.Clause.{Clause}
use Rattle.ct_log.specs.declared.line.Line.{Line}
use Rattle.ct_sat.specs.Up.{Up, IsAssigned, negative_of}
use Rattle.ct_engine.specs.declared.verdict.Move.{Move}
use Rattle.ct_engine.specs.declared.verdict.Move.TheVariants as move
use Rattle.ct_engine.specs.Moves.{Choice, Replay, FollowsIn, IsLineWith, Decides, Adds, Learns, IsLegal, AreLegal, is_decision, decisions_of, LackValue}
use Rattle.ct_engine.specs.Theorems.{GrowthTheorems}
use Rattle.ct_engine.proofs.ValuedLemmas.{HasValue-more, valued_by}
use Rattle.ct_engine.proofs.TrailLemmas.{Place, by_choice, by_clause, variables_of, variable_of, choices_of, weight, doubled, some_weight, weight-bound, IsNext, ArePlaces, ArePlaces-more, assigned_at, cut_at}

-- the variables differ, and each counts
abbrev pub AreCounted : (TermId → Type 0) → List TermId → Type 0
AreCounted Counts [] = Unit {0}
AreCounted Counts (t ∷ ts) = Counts t × (Contains ts t → ⊥) × AreCounted Counts ts

-- the variables and the lines of a record, which of the variables count, the clauses at the start, and a bound on how many count
module _ (theorems : GrowthTheorems) (variables : List TermId) (lines : List Line) (Counts : TermId → Type 0) (first : List Clause) (bound : ℕ)
    (inside : (t : TermId) → Counts t → Contains variables t)
    (others : (t : TermId) → Contains variables t → Counts t ⊎ IsAssigned (Up first []) t)
    (over : (number : ℕ) (line : Line) → IsLineWith lines number line → All (λ l. Contains variables l.term) line.clause)
    (few : (ts : List TermId) → AreCounted Counts ts → length ts ≤ bound) where
  counted_at : (clauses : List Clause) (places : List Place) → ArePlaces variables Counts first clauses places → AreCounted Counts (variables_of places)
  counted_at clauses [] are = tt
  counted_at clauses (p ∷ places) (next, are) = (next.counts, next.fresh, counted_at clauses places are)

  -- places that belong to the state, of at least this weight
  record IsWeighed (state : Replay) (least : ℕ) : Type 0 where
    places : List Place
    are : ArePlaces variables Counts first state.clauses places
    choices : choices_of places ≡ state.decided
    room : ℕ
    fits : room + length places ≡ bound
    heavy : least ≤ weight room places
    start : (l : Lit) → Up first [] l → Up state.clauses [] l

  -- what has a value at the start has one in the state
  starts : (state : Replay) (t : TermId) → ((l : Lit) → Up first [] l → Up state.clauses [] l) → IsAssigned (Up first []) t → IsAssigned (FollowsIn state) t
  starts state t start has = HasValue-more (Up first []) (FollowsIn state) t (λ l h. theorems.more_decided state.clauses [] (decisions_of state.decided) l (start l h)) has

  -- and so have the variables of the places
  assigned_in : (state : Replay) (least : ℕ) (w : IsWeighed state least) (t : TermId) → Contains (variables_of w.places) t → IsAssigned (FollowsIn state) t
  assigned_in state least w t h =
      subst (λ (cs : List Choice). IsAssigned (Up state.clauses (decisions_of cs)) t) w.choices
      (assigned_at variables Counts first theorems state.clauses w.places t w.are h)

  -- a variable without a value counts, and finds room
  unset_counts : (state : Replay) (least : ℕ) → IsWeighed state least → (t : TermId) → Contains variables t → (IsAssigned (FollowsIn state) t → ⊥) → Counts t
  unset_counts state least w t listed unset =
      elim (others t listed) [ inl counts ↦ counts | inr has ↦ absurd (unset (starts state t w.start has)) ]

  unset_fits : (state : Replay) (least : ℕ) (w : IsWeighed state least) (t : TermId) → Contains variables t → (IsAssigned (FollowsIn state) t → ⊥) → suc (length w.places) ≤ bound
  unset_fits state least w t listed unset =
      let h = few (t ∷ variables_of w.places) (unset_counts state least w t listed unset, λ h. unset (assigned_in state least w t h), counted_at state.clauses w.places w.are) in
      let n = length-map w.places variable_of in
      omega arith

  -- one place less of the room
  room_left : (room n : ℕ) → room + n ≡ bound → suc n ≤ bound → (less : ℕ) × (room ≡ suc less)
  room_left zero n e h = absurd (omega arith)
  room_left (suc less) n e h = (less, refl)

  -- a decision makes the trail heavier
  decided_next : (old : Replay) (least : ℕ) (w : IsWeighed old least) (t : TermId) (new : Replay) (d : Decides variables old t new)
      → IsNext variables Counts first old.clauses w.places (by_choice (record { literal = negative_of t; valued = d.valued }))
  decided_next old least w t new d =
      let c : Choice = record { literal = negative_of t; valued = d.valued } in
      record {
        counts = unset_counts old least w t d.lowest.variable d.lowest.unset;
        fresh = λ h. d.lowest.unset (assigned_in old least w t h);
        assigned = inr (All-contains (Up old.clauses (decisions_of (choices_of w.places ++ c ∷ []))) (decisions_of (choices_of w.places ++ c ∷ [])) (negative_of t)
            (theorems.decided old.clauses (decisions_of (choices_of w.places ++ c ∷ [])))
            (subst (λ (ls : List Lit). Contains ls (negative_of t)) (sym (map-append (λ (k : Choice). k.literal) (choices_of w.places) (c ∷ []))) (Contains-push (decisions_of (choices_of w.places)) (negative_of t))));
        recorded = record {
          before = λ s h. (d.exact s).1 (inside s (counts_at old.clauses w.places s w.are h), assigned_in old least w s h);
          start = λ s listed has. (d.exact s).1 (listed, starts old s w.start has);
        };
      }
    where
      counts_at : (clauses : List Clause) (places : List Place) (s : TermId) → ArePlaces variables Counts first clauses places → Contains (variables_of places) s → Counts s
      counts_at clauses places s are h = by (variables_of places) (counted_at clauses places are) h
        where
          by : (ts : List TermId) → AreCounted Counts ts → Contains ts s → Counts s
          by [] all k = absurd (Contains-none s k)
          by (u ∷ ts) all k = elim (Contains-cons u ts s k) [ inl same ↦ subst Counts same all.0 | inr rest ↦ by ts all.2 rest ]

  after_decision : (old : Replay) (least : ℕ) → IsWeighed old least → (t : TermId) (new : Replay) → Decides variables old t new → IsWeighed new (least + 1)
  after_decision old least w t new d =
      let c : Choice = record { literal = negative_of t; valued = d.valued } in
      let left = room_left w.room (length w.places) w.fits (unset_fits old least w t d.lowest.variable d.lowest.unset) in
      let heavy : least ≤ weight (suc left.0) w.places = subst (λ (r : ℕ). least ≤ weight r w.places) left.1 w.heavy in
      let fits = w.fits in
      let room = left.1 in
      subst (λ (s : Replay). IsWeighed s (least + 1)) (sym d.after) (record {
        places = by_choice c ∷ w.places;
        are = (decided_next old least w t new d, w.are);
        choices = ap (λ (cs : List Choice). cs ++ c ∷ []) w.choices;
        room = left.0;
        fits = omega arith;
        heavy = omega arith;
        start = w.start;
      })

  -- a clause that is added changes nothing
  after_addition : (old : Replay) (least : ℕ) → IsWeighed old least → (number : ℕ) (new : Replay) → Adds lines old number new → IsWeighed new least
  after_addition old least w number new a =
      subst (λ (s : Replay). IsWeighed s least) (sym a.after) (record {
        places = w.places;
        are = ArePlaces-more variables Counts first theorems old.clauses (a.line.clause ∷ []) w.places w.are;
        choices = w.choices;
        room = w.room;
        fits = w.fits;
        heavy = w.heavy;
        start = λ l h. theorems.more_clauses old.clauses (a.line.clause ∷ []) [] l (w.start l h);
      })

  -- where a clause is learned, the variable that it asserts takes the place of a decision
  after_learning : (old : Replay) (least : ℕ) → IsWeighed old least → (number keep : ℕ) (new : Replay) → Learns lines old number keep new → IsWeighed new least
  after_learning old least w number keep new l =
      let clause = l.line.clause in
      let clauses = old.clauses ++ clause ∷ [] in
      let t = l.asserted.term in
      let cut = cut_at variables Counts first old.clauses w.places w.room keep l.next w.are (ap (λ (cs : List Choice). slice_get cs keep) w.choices ∙ l.undone) in
      let kept : choices_of cut.rest ≡ take keep old.decided = cut.kept ∙ ap (take keep) w.choices in
      let follows : Up clauses (decisions_of (take keep old.decided)) l.asserted =
      theorems.forced clauses (decisions_of (take keep old.decided)) clause l.asserted (Contains-push old.clauses clause) l.inside
      (All-weaker (λ k. (k ≡ l.asserted) ⊎ Up old.clauses (decisions_of (take keep old.decided)) (opposite k)) (λ k. (k ≡ l.asserted) ⊎ Up clauses (decisions_of (take keep old.decided)) (opposite k))
      (λ k h. elim h [ inl same ↦ inl same | inr up ↦ inr (theorems.more_clauses old.clauses (clause ∷ []) (decisions_of (take keep old.decided)) (opposite k) up) ]) clause l.others_false) in
      let listed : Contains variables t = All-contains (λ (k : Lit). Contains variables k.term) clause l.asserted (over number l.line l.stands) l.inside in
      let counts : Counts t = elim (others t listed) [ inl is ↦ is | inr has ↦ absurd (l.unset (cut.recorded.start t listed has)) ] in
      let fits = cut.fits in
      let heavy = w.heavy in
      let worth = cut.worth in
      let some = some_weight w.room in
      let whole = w.fits in
      subst (λ (s : Replay). IsWeighed s least) (sym l.after) (record {
        places = by_clause t ∷ cut.rest;
        are = (
          record {
            counts = counts;
            fresh = λ h. l.unset (cut.recorded.before t h);
            assigned = subst (λ (cs : List Choice). IsAssigned (Up clauses (decisions_of cs)) t) (sym kept) (valued_by (Up clauses (decisions_of (take keep old.decided))) l.asserted follows);
            recorded = tt;
          },
          ArePlaces-more variables Counts first theorems old.clauses (clause ∷ []) cut.rest cut.are,
        );
        choices = kept;
        room = cut.after;
        fits = omega arith;
        heavy = omega arith;
        start = λ k h. theorems.more_clauses old.clauses (clause ∷ []) [] k (w.start k h);
      })

  -- each move makes the trail heavier by what it counts
  after_move : (m : Move) (old : Replay) (least : ℕ) → IsWeighed old least → (new : Replay) → IsLegal variables lines old m new → IsWeighed new (least + cond (is_decision m) 1 0)
  after_move (move.Decide t) old least w new is = after_decision old least w t new is
  after_move (move.Add number) old least w new is = subst (IsWeighed new) (omega arith) (after_addition old least w number new is)
  after_move (move.Learn number keep) old least w new is = subst (IsWeighed new) (omega arith) (after_learning old least w number keep new is)

  -- so after legal moves it weighs at least as much as they have decisions
  after_moves : (moves : List Move) (old new : Replay) (least : ℕ) → IsWeighed old least → AreLegal variables lines old moves new → IsWeighed new (least + count_by is_decision moves)
  after_moves [] old new least w legal =
      let h : least ≡ least + count_by is_decision [] = omega arith in
      subst (IsWeighed new) h (subst (λ (s : Replay). IsWeighed s least) (sym legal) w)
  after_moves (m ∷ moves) old new least w (middle, legal, rest) =
      let one = cond (is_decision m) 1 0 in
      let h : count_by is_decision (m ∷ moves) ≡ one + count_by is_decision moves = sum_by-cons (λ (k : Move). cond (is_decision k) 1 0) m moves in
      let e : least + one + count_by is_decision moves ≡ least + count_by is_decision (m ∷ moves) = omega arith in
      subst (IsWeighed new) e (after_moves moves middle new (least + one) (after_move m old least w middle legal) rest)

  -- so where some variable has no value at the end, the decisions are fewer than 2 ^ bound - 1
  pub few_decisions : (moves : List Move) (end : Replay) → AreLegal variables lines (record { clauses = first; decided = [] }) moves end → LackValue variables (FollowsIn end) → suc (count_by is_decision moves) < 2 ^ bound
  few_decisions moves end legal (t, listed, unset) =
      let start : IsWeighed (record { clauses = first; decided = [] }) 0 = record {
        places = [];
        are = tt;
        choices = refl;
        room = bound;
        fits = omega arith;
        heavy = omega arith;
        start = λ l h. h;
      } in
      let w = after_moves moves (record { clauses = first; decided = [] }) end 0 start legal in
      let left = room_left w.room (length w.places) w.fits (unset_fits end (0 + count_by is_decision moves) w t listed unset) in
      let whole : weight w.room w.places + 2 ^ w.room ≤ 2 ^ bound = subst (λ (n : ℕ). weight w.room w.places + 2 ^ w.room ≤ 2 ^ n) w.fits (weight-bound w.places w.room) in
      let grown : 2 ^ w.room ≡ 2 ^ suc left.0 = ap (λ (n : ℕ). 2 ^ n) left.1 in
      let two = doubled left.0 in
      let some = some_weight left.0 in
      let heavy = w.heavy in
      omega arith
