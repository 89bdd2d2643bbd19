-- The clause that a conflict teaches.
use Rattle.std.proofs.Common.{◌≡◌, ℕ, ◌+◌, ◌<◌, ◌≤◌, ◌⊎◌, inl, inr, Bool, true, false, List, [], ◌∷◌, ◌++◌, length, take, reverse, Option, Some, slice_get, get_or, set, replicate, All, Contains, refl, sym, ap, subst, ◌∙◌, arith, true≢false}
use Rattle.std.proofs.lemmas.Option.{none-some, same_Some, slice_get_within, slice_get-get_or, slice_get_read}
use Rattle.std.proofs.lemmas.List.{append-nil, append_assoc, length-set}
use Rattle.std.proofs.lemmas.List.Elements.{All-weaker, All-push, All-nil, All-append, Contains-append_left, Contains-push, Contains-push_cases}
use Rattle.ct_lemmas.proofs.Contained.{Contains-from_slice_get, Contains-take, Contains-take_at, Contains-take_more, slice_get-from_Contains}
use Rattle.ct_lemmas.proofs.Lists.{slice_get-replicate_false, slice_get-set_other, slice_get-set_same, slice_get-there}
use Rattle.ct_lemmas.proofs.Numbers.{order_cases, same_or_other}
use Rattle.ct_lemmas.proofs.Prefixes.{slice_get-take, slice_get-take_below}
use Rattle.ct_terms.specs.declared.ids.Lit.{Lit}
use Rattle.ct_terms.specs.Literal.{opposite}
use Rattle.ct_terms.specs.Clause.{Clause}
use Rattle.ct_terms.specs.Propagation.{IsFalseIn, AreFalseIn}
use Rattle.ct_sat.specs.declared.clause.StepClause.{StepClause}
use Rattle.ct_sat.specs.declared.decided.Decided.{Decided}
use Rattle.ct_sat.specs.Up.{IsAssigned, positive_of, negative_of}
use Rattle.ct_sat.specs.State.{IsConsistent, HaveOneNumber}
use Rattle.ct_sat.specs.Status.{IsFalseAt}
use Rattle.ct_sat.specs.Trail.{AreDecisions}
use Rattle.ct_sat.specs.Learning.{FollowsBy}
use Rattle.ct_sat.specs.Analysis.{IsIndexOf, MarksClause, Lowers, Raises, Leads, GoesDown, HasNoMark, HasNoDecision, StandBefore, Collects, IsStart, IsLocated, IsAnalysed}
use Rattle.ct_sat.proofs.UpLemmas.{opposite-opposite}
use Rattle.ct_sat.proofs.AnalysisLemmas.{Leads-skip, Leads-put, Leads-start, Leads-end}

-- an index that was read as not marked
pub unmarked_here : (marks : List Bool) (index : ℕ) (b : Bool) → index < length marks → b ≡ get_or marks index b → b ≡ false → HasNoMark marks index (index + 1)
unmarked_here marks index b within read is k from below mark =
    let at : slice_get marks index ≡ Some b = slice_get_read marks (length marks) index b refl within read in
    let k_is : index ≡ k = omega arith in
    let both : Some true ≡ Some b = sym mark ∙ ap (slice_get marks) (sym k_is) ∙ at in
    true≢false (same_Some true b both ∙ is)

-- nothing was put yet
pub Collects-none : (trail : List Lit) (above : ℕ) (lits : Clause) → Collects trail above lits lits
Collects-none trail above lits = record { more = []; put = sym (append-nil lits); false = All-nil (IsFalseIn (take above trail)) }

-- one literal more
pub Collects-put : (trail : List Lit) (above higher index : ℕ) (older now : Clause) (l : Lit) → above ≤ higher → index < higher → slice_get trail index ≡ Some l → Collects trail above older now → Collects trail higher older (now ++ opposite l ∷ [])
Collects-put trail above higher index older now l more below at old = record {
  more = old.more ++ opposite l ∷ [];
  put = ap (λ (xs : List Lit). xs ++ opposite l ∷ []) old.put ∙ append_assoc older old.more (opposite l ∷ []);
  false = All-push (IsFalseIn (take higher trail)) old.more (opposite l)
      (All-weaker (IsFalseIn (take above trail)) (IsFalseIn (take higher trail)) (λ k h. Contains-take_more above higher trail (opposite k) more h) old.more old.false)
      (subst (Contains (take higher trail)) (sym (opposite-opposite l)) (Contains-take_at higher trail index l below at));
}

-- the first decisions stand before an index, and the next one from it on
pub StandBefore-some : (decided : List Decided) (index n : ℕ) (d : Decided) → ((i j : ℕ) (d e : Decided) → i < j → slice_get decided i ≡ Some d → slice_get decided j ≡ Some e → d.index < e.index) → slice_get decided n ≡ Some d → index ≤ d.index → ((j : ℕ) (e : Decided) → slice_get decided j ≡ Some e → j < n → e.index < index) → StandBefore decided index n
StandBefore-some decided index n d in_order at high before = record {
  fits = (let h = slice_get_within decided n d at in omega arith);
  before = before;
  after = λ j e at_e from. elim (order_cases n j) [
    | inl low ↦ (let h = in_order n j d e low at at_e in omega arith)
    | inr rest ↦ elim rest [
      | inl same ↦ (let is : d ≡ e = same_Some d e (sym at ∙ ap (slice_get decided) same ∙ at_e) in
          let index_is : d.index ≡ e.index = ap (λ (x : Decided). x.index) is in omega arith)
      | inr bad ↦ absurd (omega arith)
    ]
  ];
}

pub StandBefore-all : (decided : List Decided) (index n : ℕ) → n ≡ length decided → ((j : ℕ) (e : Decided) → slice_get decided j ≡ Some e → j < n → e.index < index) → StandBefore decided index n
StandBefore-all decided index n long before = record {
  fits = omega arith;
  before = before;
  after = λ j e at from. absurd (let h = slice_get_within decided j e at in omega arith);
}

-- one decision more stands before the index
pub before-more : (decided : List Decided) (index n : ℕ) (d : Decided) → slice_get decided n ≡ Some d → d.index < index → ((j : ℕ) (e : Decided) → slice_get decided j ≡ Some e → j < n → e.index < index) → (j : ℕ) (e : Decided) → slice_get decided j ≡ Some e → j < n + 1 → e.index < index
before-more decided index n d at low before j e at_e below =
    elim (order_cases j n) [
      | inl h ↦ before j e at_e h
      | inr h ↦ elim h [
        | inl same ↦ (let is : d ≡ e = same_Some d e (sym at ∙ ap (slice_get decided) (sym same) ∙ at_e) in
            let index_is : d.index ≡ e.index = ap (λ (x : Decided). x.index) is in omega arith)
        | inr bad ↦ absurd (omega arith)
      ]
    ]

-- no decision stands between the start of a level and an index of it: the first decision, or the last before the index
pub start_first : (decided : List Decided) (index start : ℕ) → StandBefore decided index 0 → HasNoDecision decided (start + 1) index
start_first decided index start h j d at from below = let high = h.after j d at (omega arith) in omega arith

pub start_last : (decided : List Decided) (index n : ℕ) (d : Decided) → ((i j : ℕ) (d e : Decided) → i < j → slice_get decided i ≡ Some d → slice_get decided j ≡ Some e → d.index < e.index) → StandBefore decided index (n + 1) → slice_get decided n ≡ Some d → HasNoDecision decided (d.index + 1) index
start_last decided index n d in_order h at j e at_e from below =
    elim (order_cases j n) [
      | inl low ↦ (let g = in_order j n e d low at_e at in omega arith)
      | inr rest ↦ elim rest [
        | inl same ↦ (let is : e ≡ d = same_Some e d (sym at_e ∙ ap (slice_get decided) same ∙ at) in
            let index_is : e.index ≡ d.index = ap (λ (x : Decided). x.index) is in omega arith)
        | inr high ↦ (let g = h.after j e at_e (omega arith) in omega arith)
      ]
    ]

-- the conflict's literals were marked, and none of them stands from `start` up to the lowest
pub marked_none : (trail : List Lit) (clause : Clause) (old new : List Bool) (start bound lowest : ℕ) → HasNoMark old 0 (length trail) → length old ≡ length trail → MarksClause trail clause old new → Lowers trail clause start bound lowest → HasNoMark new start lowest
marked_none trail clause old new start bound lowest unmarked long marks lowers k from below mark =
    elim (marks.only k mark) [
      | inl before ↦ (let within = slice_get_within old k true before in unmarked k (omega arith) (omega arith) before)
      | inr p ↦ (let low = lowers.below p.0 k p.1 p.2 from in absurd (omega arith))
    ]

-- the analysis starts at the conflict
pub conflict_leads : (clauses : List StepClause) (trail : List Lit) (old new : List Bool) (top bound : ℕ) (conflict : Clause) → AreFalseIn trail conflict → MarksClause trail conflict old new → Raises trail conflict 0 top → top ≤ bound → Leads clauses trail new [] bound [] conflict
conflict_leads clauses trail old new top bound conflict false_all marks raises high =
    Leads-start clauses trail new bound conflict false_all (λ l k inside index. (marks.done l k inside index, (let h = raises.above l k inside index in omega arith)))

-- the clause of an analysis
pub IsAnalysed-from : (clauses : List StepClause) (trail : List Lit) (reasons : List (Option ℕ)) (decided : List Decided) (lits : Clause) (hints : List ℕ) (keep start unique above : ℕ) (l : Lit) → IsConsistent trail → AreDecisions trail reasons decided → FollowsBy clauses hints lits → slice_get trail unique ≡ Some l → start ≤ unique → IsStart decided start → above ≤ start → Collects trail above (opposite l ∷ []) lits → StandBefore decided above keep → IsAnalysed clauses trail decided lits hints keep
IsAnalysed-from clauses trail reasons decided lits hints keep start unique above l consistent decisions follows at from (j, d, at_j, d_start) high collects before =
    record {
      follows = follows;
      false = subst (AreFalseIn trail) (sym collects.put) (All-append (IsFalseIn trail) (opposite l ∷ []) collects.more
          (All-push (IsFalseIn trail) [] (opposite l) (All-nil (IsFalseIn trail)) (subst (Contains trail) (sym (opposite-opposite l)) (Contains-from_slice_get trail unique l at)))
          (All-weaker (IsFalseIn (take above trail)) (IsFalseIn trail) (λ k h. Contains-take above trail (opposite k) h) collects.more collects.false));
      next = next.0;
      stands = next.1;
      asserted = opposite l;
      asserting = record {
        inside = subst (λ (xs : List Lit). Contains xs (opposite l)) (sym collects.put) (Contains-append_left (opposite l ∷ []) collects.more (opposite l) (Contains-push [] (opposite l)));
        unset = unset;
        others_false = subst (λ (xs : List Lit). All (λ k. (k ≡ opposite l) ⊎ IsFalseIn (take next.0.index trail) k) xs) (sym collects.put)
            (All-append (λ k. (k ≡ opposite l) ⊎ IsFalseIn (take next.0.index trail) k) (opposite l ∷ []) collects.more
            (All-push (λ k. (k ≡ opposite l) ⊎ IsFalseIn (take next.0.index trail) k) [] (opposite l) (All-nil (λ k. (k ≡ opposite l) ⊎ IsFalseIn (take next.0.index trail) k)) (inl refl))
            (All-weaker (IsFalseIn (take above trail)) (λ k. (k ≡ opposite l) ⊎ IsFalseIn (take next.0.index trail) k) (λ k h. inr (Contains-take_more above next.0.index trail (opposite k) after h)) collects.more collects.false));
      };
    }
  where
    keep_le : keep ≤ j
    keep_le = elim (order_cases j keep) [
      | inl bad ↦ (let h = before.before j d at_j bad in absurd (omega arith))
      | inr rest ↦ elim rest [ inl e ↦ omega arith | inr g ↦ omega arith ]
    ]

    next : (e : Decided) × (slice_get decided keep ≡ Some e)
    next = slice_get-there decided keep (let h = slice_get_within decided j d at_j in let k = keep_le in omega arith)

    after : above ≤ next.0.index
    after = before.after keep next.0 next.1 (omega arith)

    next_le : next.0.index ≤ start
    next_le = elim (order_cases keep j) [
      | inl low ↦ (let h = decisions.in_order keep j next.0 d low next.1 at_j in omega arith)
      | inr rest ↦ elim rest [
        | inl same ↦ (let is : next.0 ≡ d = same_Some next.0 d (sym next.1 ∙ ap (slice_get decided) same ∙ at_j) in
            let index_is : next.0.index ≡ d.index = ap (λ (x : Decided). x.index) is in omega arith)
        | inr bad ↦ (let k = keep_le in absurd (omega arith))
      ]
    ]

    elsewhere : (k : Lit) → k.term.0 ≡ l.term.0 → Contains (take next.0.index trail) k → ⊥
    elsewhere k same h =
        let at_k = slice_get-from_Contains (take next.0.index trail) k h in
        let below = slice_get-take_below next.0.index trail at_k.0 k at_k.1 in
        let index_is : at_k.0 ≡ unique = consistent at_k.0 unique k l (slice_get-take next.0.index trail at_k.0 k at_k.1) at same in
        let low = next_le in omega arith

    unset : IsAssigned (Contains (take next.0.index trail)) l.term → ⊥
    unset (inl h) = elsewhere (positive_of l.term) refl h
    unset (inr h) = elsewhere (negative_of l.term) refl h

-- a level starts within the trail
pub start_within : (literals : List Lit) (reasons : List (Option ℕ)) (decided : List Decided) (start : ℕ) → AreDecisions literals reasons decided → IsStart decided start → start < length literals
start_within literals reasons decided start decisions (j, d, at, is) =
    let h = slice_get_within literals d.index d.literal (decisions.stand j d at) in
    subst (λ (n : ℕ). n < length literals) is h

-- some decision stands
pub start_some : (decided : List Decided) (start : ℕ) → IsStart decided start → 0 < length decided
start_some decided start (j, d, at, is) = let h = slice_get_within decided j d at in omega arith

-- the literal alone in a clause
alone : (k l : Lit) → Contains (l ∷ []) k → k ≡ l
alone k l h = elim (Contains-push_cases [] l k h) [ inl none ↦ absurd (omega (arith, none.1)) | inr same ↦ sym same ]

-- its variable's index is the only one
only_index : (trail : List Lit) (l m k : Lit) (i j : ℕ) → IsConsistent trail → slice_get trail i ≡ Some m → m.term.0 ≡ l.term.0 → Contains (l ∷ []) k → IsIndexOf trail k j → i ≡ j
only_index trail l m k i j consistent at same inside (n, at_j, of) =
    consistent i j m n at at_j (same ∙ ap (λ (x : Lit). x.term.0) (sym (alone k l inside)) ∙ sym of)

pub MarksClause-one : (trail : List Lit) (l m : Lit) (i : ℕ) (old : List Bool) → IsConsistent trail → slice_get trail i ≡ Some m → m.term.0 ≡ l.term.0 → length old ≡ length trail → MarksClause trail (l ∷ []) old (set old i true)
MarksClause-one trail l m i old consistent at same long = record {
  long = length-set old i true;
  stored = λ k h. elim (same_or_other k i) [
    | inl e ↦ ap (slice_get (set old i true)) e ∙ slice_get-set_same old i true within
    | inr n ↦ slice_get-set_other old i k true n ∙ h
  ];
  done = λ k j inside index. ap (slice_get (set old i true)) (sym (only_index trail l m k i j consistent at same inside index)) ∙ slice_get-set_same old i true within;
  only = λ k h. elim (same_or_other k i) [
    | inl e ↦ inr (l, Contains-push [] l, (m, ap (slice_get trail) e ∙ at, same))
    | inr n ↦ inl (sym (slice_get-set_other old i k true n) ∙ h)
  ];
}
  where
    within : i < length old
    within = let h = slice_get_within trail i m at in omega arith

pub MarksClause-absent : (trail : List Lit) (l : Lit) (old : List Bool) → ((i : ℕ) (m : Lit) → slice_get trail i ≡ Some m → m.term.0 ≡ l.term.0 → ⊥) → MarksClause trail (l ∷ []) old old
MarksClause-absent trail l old none = record {
  long = refl;
  stored = λ k h. h;
  done = λ k j inside index. absurd (none j index.0 index.1 (index.2 ∙ ap (λ (x : Lit). x.term.0) (alone k l inside)));
  only = λ k h. inl h;
}

pub Lowers-one : (trail : List Lit) (l m : Lit) (i start old new : ℕ) → IsConsistent trail → slice_get trail i ≡ Some m → m.term.0 ≡ l.term.0 → new ≤ old → (start ≤ old → start ≤ new) → (start ≤ i → new ≤ i) → Lowers trail (l ∷ []) start old new
Lowers-one trail l m i start old new consistent at same most least low = record {
  at_most = most;
  at_least = least;
  below = λ k j inside index from. (let is = only_index trail l m k i j consistent at same inside index in let h = low (omega arith) in omega arith);
}

pub Lowers-absent : (trail : List Lit) (l : Lit) (start old : ℕ) → ((i : ℕ) (m : Lit) → slice_get trail i ≡ Some m → m.term.0 ≡ l.term.0 → ⊥) → Lowers trail (l ∷ []) start old old
Lowers-absent trail l start old none = record {
  at_most = omega arith;
  at_least = λ h. h;
  below = λ k j inside index from. absurd (none j index.0 index.1 (index.2 ∙ ap (λ (x : Lit). x.term.0) (alone k l inside)));
}

pub Raises-one : (trail : List Lit) (l m : Lit) (i old new : ℕ) → IsConsistent trail → slice_get trail i ≡ Some m → m.term.0 ≡ l.term.0 → old ≤ new → (old ≤ length trail → new ≤ length trail) → i < new → Raises trail (l ∷ []) old new
Raises-one trail l m i old new consistent at same least inside_trail high = record {
  at_least = least;
  inside = inside_trail;
  above = λ k j inside index. (let is = only_index trail l m k i j consistent at same inside index in omega arith);
}

pub Raises-absent : (trail : List Lit) (l : Lit) (old : ℕ) → ((i : ℕ) (m : Lit) → slice_get trail i ≡ Some m → m.term.0 ≡ l.term.0 → ⊥) → Raises trail (l ∷ []) old old
Raises-absent trail l old none = record {
  at_least = omega arith;
  inside = λ h. h;
  above = λ k j inside index. absurd (none j index.0 index.1 (index.2 ∙ ap (λ (x : Lit). x.term.0) (alone k l inside)));
}

-- the clause at an index that is false
pub false_at : (clauses : List StepClause) (trail : List Lit) (i : ℕ) (x : StepClause) → IsFalseAt clauses trail i → x ≡ get_or clauses i x → AreFalseIn trail x.literals
false_at clauses trail i x (c, at, false_one) read =
    let within = slice_get_within clauses i c at in
    let here = slice_get_read clauses (length clauses) i x refl within read in
    let same : c ≡ x = same_Some c x (sym at ∙ here) in
    subst (λ (y : StepClause). AreFalseIn trail y.literals) same false_one

pub false_there : (clauses : List StepClause) (trail : List Lit) (i : ℕ) (x : StepClause) → IsFalseAt clauses trail i → x ≡ get_or clauses i x → (c : StepClause) × (c.step ≡ x.step) × Contains clauses c × AreFalseIn trail c.literals
false_there clauses trail i x (c, at, false_one) read =
    let within = slice_get_within clauses i c at in
    let here = slice_get_read clauses (length clauses) i x refl within read in
    let same : c ≡ x = same_Some c x (sym at ∙ here) in
    (c, ap (λ (y : StepClause). y.step) same, Contains-from_slice_get clauses i c at, false_one)

-- the clause with the conflict's number is the conflict
pub conflict_found : (clauses : List StepClause) (trail : List Lit) (i step : ℕ) → HaveOneNumber clauses → (c : StepClause) × (slice_get clauses i ≡ Some c) × (c.step ≡ step) → (c : StepClause) × (c.step ≡ step) × Contains clauses c × AreFalseIn trail c.literals → IsFalseAt clauses trail i
conflict_found clauses trail i step one (c, at, number) (d, same_number, listed, false_one) =
    let same : d ≡ c = one d c listed (Contains-from_slice_get clauses i c at) (same_number ∙ sym number) in
    (c, at, subst (λ (y : StepClause). AreFalseIn trail y.literals) same false_one)

pub HasNoMark-new : (marks : List Bool) (n from to : ℕ) → marks ≡ replicate n false → HasNoMark marks from to
HasNoMark-new marks n from to is k low high mark = slice_get-replicate_false n k (ap (λ (xs : List Bool). slice_get xs k) (sym is) ∙ mark)

-- the first decision stands in the trail, and none before it
pub first_fits : (literals : List Lit) (reasons : List (Option ℕ)) (decided : List Decided) (d : Decided) → AreDecisions literals reasons decided → 0 < length decided → (get_or decided 0 d).index ≤ length literals
first_fits literals reasons decided d decisions some =
    let first = get_or decided 0 d in
    let h = slice_get_within literals first.index first.literal (decisions.stand 0 first (slice_get-get_or decided 0 d some)) in
    omega arith

pub first_decision : (literals : List Lit) (reasons : List (Option ℕ)) (decided : List Decided) (d : Decided) → AreDecisions literals reasons decided → 0 < length decided → HasNoDecision decided 0 (get_or decided 0 d).index
first_decision literals reasons decided d decisions some j e at low high =
    let first = get_or decided 0 d in
    let here = slice_get-get_or decided 0 d some in
    elim (order_cases 0 j) [
      | inl later ↦ (let h = decisions.in_order 0 j first e later here at in omega arith)
      | inr rest ↦ elim rest [
        | inl same ↦ (let is : first ≡ e = same_Some first e (sym here ∙ ap (slice_get decided) same ∙ at) in
            let index_is : first.index ≡ e.index = ap (λ (x : Decided). x.index) is in omega arith)
        | inr bad ↦ absurd (omega arith)
      ]
    ]

-- without decisions none stands anywhere
pub HasNoDecision-none : (decided : List Decided) (from to : ℕ) → decided ≡ [] → HasNoDecision decided from to
HasNoDecision-none decided from to is j d at low high = none-some d (sym (ap (λ (xs : List Decided). slice_get xs j) is) ∙ at)

-- the literals of a learned clause are false in the trail
put_false : (trail : List Lit) (above unique : ℕ) (l : Lit) (lits : Clause) → slice_get trail unique ≡ Some l → Collects trail above (opposite l ∷ []) lits → AreFalseIn trail lits
put_false trail above unique l lits at collects =
    subst (AreFalseIn trail) (sym collects.put) (All-append (IsFalseIn trail) (opposite l ∷ []) collects.more
    (All-push (IsFalseIn trail) [] (opposite l) (All-nil (IsFalseIn trail)) (subst (Contains trail) (sym (opposite-opposite l)) (Contains-from_slice_get trail unique l at)))
    (All-weaker (IsFalseIn (take above trail)) (IsFalseIn trail) (λ k h. Contains-take above trail (opposite k) h) collects.more collects.false))

-- the whole analysis while decisions stand
pub analysed : (clauses : List StepClause) (trail : List Lit) (reasons : List (Option ℕ)) (decided : List Decided) (marks middle marks' : List Bool) (hints between hints' : List ℕ) (lits : Clause) (c : StepClause) (keep start unique above : ℕ) (l : Lit) (first : Decided) → IsConsistent trail → AreDecisions trail reasons decided → Contains clauses c → IsLocated clauses trail decided marks hints c.literals start unique → slice_get trail unique ≡ Some l → slice_get decided 0 ≡ Some first → ((conflict : Clause) (d : Decided) → slice_get decided 0 ≡ Some d → Leads clauses trail marks hints start (opposite l ∷ []) conflict → Leads clauses trail middle between d.index lits conflict) → GoesDown clauses trail middle between first.index marks' hints' 0 → above ≤ start → Collects trail above (opposite l ∷ []) lits → StandBefore decided above keep → IsAnalysed clauses trail decided lits (reverse hints' ++ c.step ∷ []) keep
analysed clauses trail reasons decided marks middle marks' hints between hints' lits c keep start unique above l first consistent decisions listed located at at_first collected down high collects before =
    let put : Leads clauses trail marks hints unique (opposite l ∷ []) c.literals = Leads-put clauses trail marks hints unique [] c.literals l at located.leads in
    let low = Leads-skip clauses trail marks hints unique start (opposite l ∷ []) c.literals located.unmarked put in
    let foot = down lits c.literals (collected c.literals first at_first low) in
    IsAnalysed-from clauses trail reasons decided lits (reverse hints' ++ c.step ∷ []) keep start unique above l consistent decisions
    (Leads-end clauses trail marks' hints' lits c listed (put_false trail above unique l lits at collects) foot)
    at located.from located.decision high collects before

-- the whole analysis while no decision stands
pub refuted : (clauses : List StepClause) (trail : List Lit) (old marks marks' : List Bool) (hints' : List ℕ) (n : ℕ) (c : StepClause) → Contains clauses c → AreFalseIn trail c.literals → MarksClause trail c.literals old marks → n ≡ length trail → GoesDown clauses trail marks [] n marks' hints' 0 → FollowsBy clauses (reverse hints' ++ c.step ∷ []) []
refuted clauses trail old marks marks' hints' n c listed false_one marking long down =
    Leads-end clauses trail marks' hints' [] c listed (All-nil (IsFalseIn trail))
    (down [] c.literals (Leads-start clauses trail marks n c.literals false_one (λ l k inside index. (marking.done l k inside index, (let h = slice_get_within trail k index.0 index.1 in omega arith)))))

pub listed_at : (clauses : List StepClause) (trail : List Lit) (i : ℕ) (x : StepClause) → IsFalseAt clauses trail i → x ≡ get_or clauses i x → Contains clauses x
listed_at clauses trail i x (c, at, false_one) read =
    let within = slice_get_within clauses i c at in
    Contains-from_slice_get clauses i x (slice_get_read clauses (length clauses) i x refl within read)
