-- The analysis of a conflict, step by step.
use Rattle.std.proofs.Common.{◌≡◌, ℕ, ◌+◌, ◌<◌, ◌≤◌, ◌⊎◌, inl, inr, Bool, List, [], ◌∷◌, ◌++◌, take, reverse, Option, Some, None, slice_get, All, Contains, refl, sym, ap, subst, ◌∙◌, arith}
use Rattle.std.proofs.lemmas.Option.{same_Some}
use Rattle.std.proofs.lemmas.List.{reverse-append}
use Rattle.std.proofs.lemmas.List.Elements.{All-weaker, All-contains, All-push, Contains-append_left, Contains-append_right, Contains-push, Contains-append_cases}
use Rattle.ct_lemmas.proofs.Contained.{Contains-from_slice_get, Contains-map, Contains-map_cases, slice_get-from_Contains}
use Rattle.ct_lemmas.proofs.Each.{All-from_Contains}
use Rattle.ct_lemmas.proofs.Numbers.{order_cases}
use Rattle.ct_lemmas.proofs.Prefixes.{slice_get-take, slice_get-take_below}
use Rattle.ct_terms.specs.declared.ids.Lit.{Lit}
use Rattle.ct_terms.specs.Literal.{opposite}
use Rattle.ct_terms.specs.Clause.{Clause, opposites}
use Rattle.ct_terms.specs.Propagation.{IsFalseIn, AreFalseIn, IsUnit, IsNumbered, Propagates, Rup}
use Rattle.ct_sat.specs.declared.clause.StepClause.{StepClause}
use Rattle.ct_sat.specs.declared.decided.Decided.{Decided}
use Rattle.ct_sat.specs.State.{IsConsistent}
use Rattle.ct_sat.specs.Assigned.{IsReason}
use Rattle.ct_sat.specs.Trail.{AreDecisions}
use Rattle.ct_sat.specs.Learning.{HasStep, PropagatesBy, FollowsBy, StandAtSteps}
use Rattle.ct_sat.specs.Analysis.{IsMarked, IsIndexOf, MarksClause, Lowers, Raises, IsBase, Leads, HasNoMark, HasNoDecision}
use Rattle.ct_sat.proofs.UpLemmas.{opposites_apart, opposite-opposite}

-- where the index has no mark, the analysis goes on below it
pub Leads-skip : (clauses : List StepClause) (trail : List Lit) (marks : List Bool) (hints : List ℕ) (p q : ℕ) (put conflict : Clause) → HasNoMark marks q p → Leads clauses trail marks hints p put conflict → Leads clauses trail marks hints q put conflict
Leads-skip clauses trail marks hints p q put conflict unmarked h = record {
  leads = λ set base. h.leads set (record {
    inside = base.inside;
    false = base.false;
    marked = λ k l below mark at. elim (order_cases k q) [
      | inl low ↦ base.marked k l low mark at
      | inr high ↦ absurd (unmarked k (elim high [ inl e ↦ omega arith | inr g ↦ omega arith ]) below mark)
    ];
  });
}

-- higher indices than all marks
pub Leads-raise : (clauses : List StepClause) (trail : List Lit) (marks : List Bool) (hints : List ℕ) (p q : ℕ) (put conflict : Clause) → p ≤ q → Leads clauses trail marks hints p put conflict → Leads clauses trail marks hints q put conflict
Leads-raise clauses trail marks hints p q put conflict more h = record {
  leads = λ set base. h.leads set (record {
    inside = base.inside;
    false = base.false;
    marked = λ k l below mark at. base.marked k l (omega arith) mark at;
  });
}

-- the opposite of the literal at the index is put into the clause
pub Leads-put : (clauses : List StepClause) (trail : List Lit) (marks : List Bool) (hints : List ℕ) (p : ℕ) (put conflict : Clause) (l : Lit) → slice_get trail p ≡ Some l → Leads clauses trail marks hints (p + 1) put conflict → Leads clauses trail marks hints p (put ++ opposite l ∷ []) conflict
Leads-put clauses trail marks hints p put conflict l at h = record {
  leads = λ set base. h.leads set (record {
    inside = base.inside;
    false = All-from_Contains (IsFalseIn set) put (λ k inside. All-contains (IsFalseIn set) (put ++ opposite l ∷ []) k base.false (Contains-append_left put (opposite l ∷ []) k inside));
    marked = λ k m below mark at_k. elim (order_cases k p) [
      | inl low ↦ base.marked k m low mark at_k
      | inr high ↦ elim high [
        | inl e ↦ (let is : l ≡ m = same_Some l m (sym at ∙ ap (slice_get trail) (sym e) ∙ at_k) in
            let here : IsFalseIn set (opposite l) = All-contains (IsFalseIn set) (put ++ opposite l ∷ []) (opposite l) base.false (Contains-push put (opposite l)) in
            subst (Contains set) (opposite-opposite l ∙ is) here)
        | inr g ↦ absurd (omega arith)
      ]
    ];
  });
}

-- a marked literal is explained by its reason
pub Leads-explain : (clauses : List StepClause) (trail : List Lit) (old new : List Bool) (hints : List ℕ) (p : ℕ) (put conflict : Clause) (c : StepClause) → IsConsistent trail → IsReason clauses trail p c → MarksClause trail c.literals old new → Leads clauses trail old hints (p + 1) put conflict → Leads clauses trail new (hints ++ c.step ∷ []) p put conflict
Leads-explain clauses trail old new hints p put conflict c consistent reason marks h = record {
  leads = λ set base.
      (let l = reason.literal in
      let larger : List Lit = set ++ l ∷ [] in
      let in_trail : Contains trail l = Contains-from_slice_get trail p l reason.stands in
      let others : All (λ k. (k ≡ l) ⊎ IsFalseIn set k) c.literals =
      All-from_Contains (λ k. (k ≡ l) ⊎ IsFalseIn set k) c.literals (λ k inside.
      elim (All-contains (λ m. (m ≡ l) ⊎ IsFalseIn (take p trail) m) c.literals k reason.forces.others_false inside) [
        | inl same ↦ inl same
        | inr earlier ↦ (let at = slice_get-from_Contains (take p trail) (opposite k) earlier in
            let below = slice_get-take_below p trail at.0 (opposite k) at.1 in
            let at_trail = slice_get-take p trail at.0 (opposite k) at.1 in
            inr (base.marked at.0 (opposite k) below (marks.done k at.0 inside (opposite k, at_trail, refl)) at_trail))
      ]) in
      let unit : IsUnit set c.literals l = record {
        inside = reason.forces.inside;
        not_false = λ bad. opposites_apart trail l consistent in_trail (All-contains (Contains trail) set (opposite l) base.inside bad);
        others_false = others;
      } in
      let wider : IsBase trail old (p + 1) put larger = record {
        inside = All-push (Contains trail) set l base.inside in_trail;
        false = All-weaker (IsFalseIn set) (IsFalseIn larger) (λ k f. Contains-append_left set (l ∷ []) (opposite k) f) put base.false;
        marked = λ k m below mark at. elim (order_cases k p) [
          | inl low ↦ Contains-append_left set (l ∷ []) m (base.marked k m low (marks.stored k mark) at)
          | inr high ↦ elim high [
            | inl e ↦ (let is : l ≡ m = same_Some l m (sym reason.stands ∙ ap (slice_get trail) (sym e) ∙ at) in
                subst (Contains larger) is (Contains-push set l))
            | inr g ↦ absurd (omega arith)
          ]
        ];
      } in
      let rest = h.leads larger wider in
      record {
        after = rest.after;
        propagates = subst (λ (hs : List ℕ). PropagatesBy clauses hs set rest.after) (sym (reverse-append hints (c.step ∷ []))) (c, l, (reason.clause, refl), unit, rest.propagates);
        false = rest.false;
      });
}

-- a conflict leads from above all marks of its literals
pub Leads-start : (clauses : List StepClause) (trail : List Lit) (marks : List Bool) (p : ℕ) (conflict : Clause) → AreFalseIn trail conflict → ((l : Lit) (k : ℕ) → Contains conflict l → IsIndexOf trail l k → IsMarked marks k × (k < p)) → Leads clauses trail marks [] p [] conflict
Leads-start clauses trail marks p conflict false_all marked = record {
  leads = λ set base. record {
    after = set;
    propagates = refl;
    false = All-from_Contains (IsFalseIn set) conflict (λ l inside.
        let at = slice_get-from_Contains trail (opposite l) (All-contains (IsFalseIn trail) conflict l false_all inside) in
        let here = marked l at.0 inside (opposite l, at.1, refl) in
        base.marked at.0 (opposite l) here.1 here.0 at.1);
  };
}

-- at the foot of the trail the clause follows by the hints
pub Leads-end : (clauses : List StepClause) (trail : List Lit) (marks : List Bool) (hints : List ℕ) (lits : Clause) (c : StepClause) → Contains clauses c → AreFalseIn trail lits → Leads clauses trail marks hints 0 lits c.literals → FollowsBy clauses (reverse hints ++ c.step ∷ []) lits
Leads-end clauses trail marks hints lits c listed false_lits h =
    let inside : All (Contains trail) (opposites lits) = All-from_Contains (Contains trail) (opposites lits) (λ k has.
    let l = Contains-map_cases opposite lits k has in
    subst (Contains trail) l.2 (All-contains (IsFalseIn trail) lits l.0 false_lits l.1)) in
    let end = h.leads (opposites lits) (record {
      inside = inside;
      false = All-from_Contains (IsFalseIn (opposites lits)) lits (λ l has. Contains-map opposite lits l has);
      marked = λ k l below mark at. absurd (omega arith);
    }) in
    record {
      units = reverse hints;
      last = c.step;
      are_hints = refl;
      set = end.after;
      propagates = end.propagates;
      refuted = c;
      has_step = (listed, refl);
      false = end.false;
    }

-- the clause with this step has it as its number
HasStep-numbered : (clauses : List StepClause) (all : List Clause) (step : ℕ) (c : StepClause) → StandAtSteps clauses all → HasStep clauses step c → IsNumbered all step c.literals
HasStep-numbered clauses all step c stand has = subst (λ (n : ℕ). IsNumbered all n c.literals) has.1 (stand c has.0)

-- hints propagate in the list of all clauses
PropagatesBy-listed : (clauses : List StepClause) (all : List Clause) (hints : List ℕ) (before after : List Lit) → StandAtSteps clauses all → PropagatesBy clauses hints before after → Propagates all hints before after
PropagatesBy-listed clauses all [] before after stand same = same
PropagatesBy-listed clauses all (hint ∷ hints) before after stand (c, l, has, unit, rest) =
    (c.literals, l, HasStep-numbered clauses all hint c stand has, unit, PropagatesBy-listed clauses all hints (before ++ l ∷ []) after stand rest)

-- what follows by hints follows by them in the list of all clauses
pub FollowsBy-listed : (clauses : List StepClause) (all : List Clause) (hints : List ℕ) (clause : Clause) → StandAtSteps clauses all → FollowsBy clauses hints clause → Rup all hints clause
FollowsBy-listed clauses all hints clause stand follows = record {
  units = follows.units;
  last = follows.last;
  are_hints = follows.are_hints;
  set = follows.set;
  propagates = PropagatesBy-listed clauses all follows.units (opposites clause) follows.set stand follows.propagates;
  refuted = follows.refuted.literals;
  numbered = HasStep-numbered clauses all follows.last follows.refuted stand follows.has_step;
  false = follows.false;
}

-- marks of one literal more
pub MarksClause-none : (trail : List Lit) (marks : List Bool) → MarksClause trail [] marks marks
MarksClause-none trail marks = record {
  long = refl;
  stored = λ k h. h;
  done = λ l k h. absurd (omega (arith, h.1));
  only = λ k h. inl h;
}

pub MarksClause-more : (trail : List Lit) (clause : Clause) (l : Lit) (a b c : List Bool) → MarksClause trail clause a b → MarksClause trail (l ∷ []) b c → MarksClause trail (clause ++ l ∷ []) a c
MarksClause-more trail clause l a b c one two = record {
  long = two.long ∙ one.long;
  stored = λ k h. two.stored k (one.stored k h);
  done = λ m k h at. elim (Contains-append_cases clause (l ∷ []) m h) [
    | inl before ↦ two.stored k (one.done m k before at)
    | inr last ↦ two.done m k last at
  ];
  only = λ k h. elim (two.only k h) [
    | inl before ↦ elim (one.only k before) [
      | inl older ↦ inl older
      | inr p ↦ inr (p.0, Contains-append_left clause (l ∷ []) p.0 p.1, p.2)
    ]
    | inr p ↦ inr (p.0, Contains-append_right clause (l ∷ []) p.0 p.1, p.2)
  ];
}

pub Lowers-none : (trail : List Lit) (start n : ℕ) → Lowers trail [] start n n
Lowers-none trail start n = record { at_most = omega arith; at_least = λ h. h; below = λ l k h. absurd (omega (arith, h.1)) }

pub Lowers-more : (trail : List Lit) (clause : Clause) (l : Lit) (start a b c : ℕ) → Lowers trail clause start a b → Lowers trail (l ∷ []) start b c → Lowers trail (clause ++ l ∷ []) start a c
Lowers-more trail clause l start a b c one two = record {
  at_most = (let x = one.at_most in let y = two.at_most in omega arith);
  at_least = λ h. two.at_least (one.at_least h);
  below = λ m k h at from. elim (Contains-append_cases clause (l ∷ []) m h) [
    | inl before ↦ (let x = one.below m k before at from in let y = two.at_most in omega arith)
    | inr last ↦ two.below m k last at from
  ];
}

pub Raises-none : (trail : List Lit) (n : ℕ) → Raises trail [] n n
Raises-none trail n = record { at_least = omega arith; inside = λ h. h; above = λ l k h. absurd (omega (arith, h.1)) }

pub Raises-more : (trail : List Lit) (clause : Clause) (l : Lit) (a b c : ℕ) → Raises trail clause a b → Raises trail (l ∷ []) b c → Raises trail (clause ++ l ∷ []) a c
Raises-more trail clause l a b c one two = record {
  at_least = (let x = one.at_least in let y = two.at_least in omega arith);
  inside = λ h. two.inside (one.inside h);
  above = λ m k h at. elim (Contains-append_cases clause (l ∷ []) m h) [
    | inl before ↦ (let x = one.above m k before at in let y = two.at_least in omega arith)
    | inr last ↦ two.above m k last at
  ];
}

-- no mark from `start` up to the lowest
pub HasNoMark-more : (trail : List Lit) (clause : Clause) (old new : List Bool) (start lowest lower : ℕ) → MarksClause trail clause old new → Lowers trail clause start lowest lower → HasNoMark old start lowest → HasNoMark new start lower
HasNoMark-more trail clause old new start lowest lower marks lowers unmarked k from below mark =
    let at_most = lowers.at_most in
    elim (marks.only k mark) [
      | inl before ↦ unmarked k from (omega arith) before
      | inr p ↦ (let low = lowers.below p.0 k p.1 p.2 from in absurd (omega arith))
    ]

-- an index that holds no decision has a reason
pub reason_there : (literals : List Lit) (reasons : List (Option ℕ)) (decided : List Decided) (i : ℕ) → AreDecisions literals reasons decided → HasNoDecision decided i (i + 1) → slice_get reasons i ≡ Some None → ⊥
reason_there literals reasons decided i h none at =
    let d = h.each i at in
    let index = d.3 in
    none d.0 d.1 d.2 (omega arith) (omega arith)

pub HasNoDecision-part : (decided : List Decided) (from to from' to' : ℕ) → from ≤ from' → to' ≤ to → HasNoDecision decided from to → HasNoDecision decided from' to'
HasNoDecision-part decided from to from' to' low high none j d at a b = none j d at (omega arith) (omega arith)
