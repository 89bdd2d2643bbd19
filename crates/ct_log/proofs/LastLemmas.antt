-- Acceptance lasts: over a longer table, with more assertions, after more earlier lines.
use Rattle.std.proofs.Common.{◌≡◌, ℕ, zero, suc, ◌<◌, List, [], ◌∷◌, ◌++◌, length, take, Option, Some, None, slice_get, All, Contains, refl, sym, ap, subst, ◌∙◌, arith, length-append}
use Rattle.std.specs.List.{AllByRecursion}
use Rattle.std.proofs.lemmas.List.Elements.{All-contains, Contains-append_left, Contains-push}
use Rattle.std.proofs.lemmas.Option.{none-some, same_Some, slice_get_within}
use Rattle.ct_lemmas.proofs.Lists.{slice_get-append_left, slice_get-prefix}
use Rattle.ct_lemmas.proofs.Pairs.{AllZip-weaker}
use Rattle.ct_sorts.specs.declared.ids.SortId.{SortId}
use Rattle.ct_sorts.specs.Declarations.{Declarations, bool_sort}
use Rattle.ct_terms.specs.declared.ids.TermId.{TermId}
use Rattle.ct_terms.specs.declared.ids.Lit.{Lit}
use Rattle.ct_terms.specs.declared.term.Core.{Core}
use Rattle.ct_terms.specs.declared.term.Core.TheVariants as core
use Rattle.ct_terms.specs.Children.{HasArgumentsBelow}
use Rattle.ct_terms.specs.Clause.{Clause, opposites}
use Rattle.ct_terms.specs.Literal.{opposite, literal_of, literal_step, literal_below, IsStripped}
use Rattle.ct_terms.specs.Terms.{Terms, IsOfSort, IsBoolean, Has, AreOrdered}
use Rattle.ct_terms.specs.Propagation.{Rup}
use Rattle.ct_rules.specs.declared.equation.Equation.{Equation}
use Rattle.ct_rules.specs.Rules.{IsSelected}
use Rattle.ct_rules.specs.Cycle.{LeadsTo}
use Rattle.ct_log.specs.declared.line.Line.{Line}
use Rattle.ct_log.specs.declared.line.Step.{Step}
use Rattle.ct_log.specs.declared.line.Step.TheVariants as step
use Rattle.ct_log.specs.declared.rules.Gate.{Gate}
use Rattle.ct_log.specs.declared.rules.Gate.TheVariants.{True, False, AndPos, AndNeg, OrPos, OrNeg, Iff1, Iff2, Iff3, Iff4, Ite1, Ite2, Ite3, Ite4, Then, Else}
use Rattle.ct_log.specs.declared.rules.Close.{Close}
use Rattle.ct_log.specs.declared.rules.Close.TheVariants.{Clash, Cycle}
use Rattle.ct_log.specs.declared.rules.Hop.{Hop}
use Rattle.ct_log.specs.declared.rules.EqStep.{EqStep}
use Rattle.ct_log.specs.declared.rules.EqStep.TheVariants as eq
use Rattle.ct_log.specs.Acceptance.{IsAccepted, Justifies}
use Rattle.ct_log.specs.Closing.{Closes, IsCycleBy, LeadBackBy}
use Rattle.ct_log.specs.Equations.{Gives, Gave}
use Rattle.ct_log.specs.Gates.{IsGateClause, IsExhaustion, IsTestOf, OfEquivalence, OfChoice, literals_of, positive, negative}

-- an element of such a list is below
at_below : (n : ℕ) (args : List TermId) (k : ℕ) (a : TermId) → AllByRecursion (λ t. t.0 < n) args → slice_get args k ≡ Some a → a.0 < n
at_below n [] k a all at = absurd (none-some a at)
at_below n (x ∷ xs) zero a all at = subst (λ (t : TermId). t.0 < n) (same_Some x a at) all.0
at_below n (x ∷ xs) (suc k) a all at = at_below n xs k a all.1 at

-- the literal of a term that is not there is itself
literal_outside : (terms : Terms) (t : TermId) → slice_get terms t.0 ≡ None → literal_of terms t ≡ positive t
unfolding literal_below
literal_outside terms t none = ap (literal_step (literal_below t.0 terms) t) none

module _ (terms more : Terms) (ordered : AreOrdered (terms ++ more)) (lasts : (t : TermId) → t.0 < length terms → literal_of (terms ++ more) t ≡ literal_of terms t) where
  abbrev longer : Terms
  longer = terms ++ more

  has_more : (term : Core) (t : ℕ) → Has terms term t → Has longer term t
  has_more term t h = (h.0, slice_get-append_left terms more t (term, h.0) h.1)

  sort_more : (t : TermId) (s : SortId) → IsOfSort terms t s → IsOfSort longer t s
  sort_more t s h = (h.0, slice_get-append_left terms more t.0 (h.0, s) h.1)

  has_back : (term : Core) (t : ℕ) → t < length terms → Has longer term t → Has terms term t
  has_back term t within h = (h.0, sym (slice_get-prefix terms more t within) ∙ h.1)

  inside : (term : Core) (t : ℕ) → Has terms term t → t < length terms
  inside term t h = slice_get_within terms t (term, h.0) h.1

  below : (term : Core) (t : ℕ) → Has terms term t → HasArgumentsBelow t term
  below term t h = ordered t term (has_more term t h)

  stripped_more : (t : TermId) → IsStripped terms t → IsStripped longer t
  stripped_more t h = (sort_more t bool_sort h.0, λ a has. h.1 a (has_back (core.Not a) t.0 (slice_get_within terms t.0 _ h.0.1) has))

  literals_more : (n : ℕ) (args : List TermId) → n < length terms → AllByRecursion (λ t. t.0 < n) args → literals_of longer args ≡ literals_of terms args
  literals_more n [] within all = refl
  literals_more n (a ∷ args) within all =
      let one = lasts a (let h = all.0 in omega arith) in
      ap (λ (l : Lit). l ∷ literals_of longer args) one ∙ ap (λ (ls : List Lit). literal_of terms a ∷ ls) (literals_more n args within all.1)

  equivalence_more : (t : TermId) (clause_of : Lit → Lit → Clause) (clause : Clause) → OfEquivalence terms t clause_of clause → OfEquivalence longer t clause_of clause
  equivalence_more t clause_of clause h =
      let within = inside (core.Iff h.0 h.1) t.0 h.2 in
      let args = below (core.Iff h.0 h.1) t.0 h.2 in
      let a = lasts h.0 (let k = args.0 in omega arith) in
      let b = lasts h.1 (let k = args.1.0 in omega arith) in
      (h.0, h.1, has_more (core.Iff h.0 h.1) t.0 h.2, h.3 ∙ ap (λ (l : Lit). clause_of l (literal_of terms h.1)) (sym a) ∙ ap (λ (l : Lit). clause_of (literal_of longer h.0) l) (sym b))

  choice_more : (t : TermId) (clause_of : Lit → Lit → Lit → Clause) (clause : Clause) → OfChoice terms t clause_of clause → OfChoice longer t clause_of clause
  choice_more t clause_of clause h =
      let term = core.Ite h.0 h.1 h.2 in
      let within = inside term t.0 h.3.0 in
      let args = below term t.0 h.3.0 in
      let c = lasts h.0 (let k = args.0 in omega arith) in
      let a = lasts h.1 (let k = args.1.0 in omega arith) in
      let b = lasts h.2 (let k = args.1.1.0 in omega arith) in (
        h.0,
        h.1,
        h.2,
        (has_more term t.0 h.3.0, sort_more t bool_sort h.3.1),
        h.4
            ∙ ap (λ (l : Lit). clause_of l (literal_of terms h.1) (literal_of terms h.2)) (sym c)
            ∙ ap (λ (l : Lit). clause_of (literal_of longer h.0) l (literal_of terms h.2)) (sym a)
            ∙ ap (λ (l : Lit). clause_of (literal_of longer h.0) (literal_of longer h.1) l) (sym b),
      )

  -- a choice that is not Boolean stays so
  other_more : (term : Core) (t : TermId) → Has terms term t.0 → (IsBoolean terms t → ⊥) → IsBoolean longer t → ⊥
  other_more term t has other h = other (h.0, sym (slice_get-prefix terms more t.0 (inside term t.0 has)) ∙ h.1)

  gate_more : (gate : Gate) (t : TermId) (k : ℕ) (clause : Clause) → IsGateClause terms gate t k clause → IsGateClause longer gate t k clause
  gate_more True t k clause h = h
  gate_more False t k clause h = h
  gate_more AndPos t k clause h =
      let term = core.And h.0 in
      let within = inside term t.0 h.2 in
      let low = at_below t.0 h.0 k h.1 (below term t.0 h.2) h.3 in
      (h.0, h.1, has_more term t.0 h.2, h.3, h.4 ∙ ap (λ (l : Lit). negative t ∷ (l ∷ [])) (sym (lasts h.1 (omega arith))))
  gate_more AndNeg t k clause h =
      let term = core.And h.0 in
      (h.0, has_more term t.0 h.1, h.2, h.3 ∙ ap (λ (ls : List Lit). positive t ∷ opposites ls) (sym (literals_more t.0 h.0 (inside term t.0 h.1) (below term t.0 h.1))))
  gate_more OrPos t k clause h =
      let term = core.Or h.0 in
      (h.0, has_more term t.0 h.1, h.2, h.3 ∙ ap (λ (ls : List Lit). negative t ∷ ls) (sym (literals_more t.0 h.0 (inside term t.0 h.1) (below term t.0 h.1))))
  gate_more OrNeg t k clause h =
      let term = core.Or h.0 in
      let within = inside term t.0 h.2 in
      let low = at_below t.0 h.0 k h.1 (below term t.0 h.2) h.3 in
      (h.0, h.1, has_more term t.0 h.2, h.3, h.4 ∙ ap (λ (l : Lit). positive t ∷ (opposite l ∷ [])) (sym (lasts h.1 (omega arith))))
  gate_more Iff1 t k clause h = (h.0, equivalence_more t (λ a b. negative t ∷ (opposite a ∷ (b ∷ []))) clause h.1)
  gate_more Iff2 t k clause h = (h.0, equivalence_more t (λ a b. negative t ∷ (a ∷ (opposite b ∷ []))) clause h.1)
  gate_more Iff3 t k clause h = (h.0, equivalence_more t (λ a b. positive t ∷ (a ∷ (b ∷ []))) clause h.1)
  gate_more Iff4 t k clause h = (h.0, equivalence_more t (λ a b. positive t ∷ (opposite a ∷ (opposite b ∷ []))) clause h.1)
  gate_more Ite1 t k clause h = (h.0, choice_more t (λ c a b. negative t ∷ (opposite c ∷ (a ∷ []))) clause h.1)
  gate_more Ite2 t k clause h = (h.0, choice_more t (λ c a b. negative t ∷ (c ∷ (b ∷ []))) clause h.1)
  gate_more Ite3 t k clause h = (h.0, choice_more t (λ c a b. positive t ∷ (opposite c ∷ (opposite a ∷ []))) clause h.1)
  gate_more Ite4 t k clause h = (h.0, choice_more t (λ c a b. positive t ∷ (c ∷ (opposite b ∷ []))) clause h.1)
  gate_more Then t k clause h =
      let term = core.Ite h.0 h.1 h.2 in
      let within = inside term t.0 h.4.0 in
      let low = (below term t.0 h.4.0).0 in
      (h.0, h.1, h.2, h.3, (has_more term t.0 h.4.0, other_more term t h.4.0 h.4.1), has_more (core.Eq t h.1) h.3.0 h.5, h.6, h.7 ∙ ap (λ (l : Lit). opposite l ∷ (positive h.3 ∷ [])) (sym (lasts h.0 (omega arith))))
  gate_more Else t k clause h =
      let term = core.Ite h.0 h.1 h.2 in
      let within = inside term t.0 h.4.0 in
      let low = (below term t.0 h.4.0).0 in
      (h.0, h.1, h.2, h.3, (has_more term t.0 h.4.0, other_more term t h.4.0 h.4.1), has_more (core.Eq t h.2) h.3.0 h.5, h.6, h.7 ∙ ap (λ (l : Lit). l ∷ (positive h.3 ∷ [])) (sym (lasts h.0 (omega arith))))

  exhaustion_more : (d : Declarations) (t : TermId) (clause : Clause) → IsExhaustion d terms t clause → IsExhaustion d longer t clause
  exhaustion_more d t clause h = record {
    id = h.id;
    sort = h.sort;
    sorted = sort_more t h.id h.sorted;
    declared = h.declared;
    kind = h.kind;
    tests = AllZip-weaker (IsTestOf terms t) (IsTestOf longer t) (λ l c k. (k.0, has_more (core.Test c t) l.term.0 k.1)) clause h.sort.ctors h.tests;
  }

  gives_more : (d : Declarations) (clause : Clause) (given : List Equation) (st : EqStep) (x y : TermId) → Gives d terms clause given st x y → Gives d longer clause given st x y
  gives_more d clause given (eq.Hyp l) x y h = h
  gives_more d clause given (eq.Refl t) x y h = (let k = h.0 in let l = length-append terms more in omega arith, h.1, h.2)
  gives_more d clause given (eq.Sym i) x y h = h
  gives_more d clause given (eq.Trans i j) x y h = h
  gives_more d clause given (eq.Cong t u steps) x y h =
      let by = h.2 in
      (h.0, h.1, record { left = by.left; right = by.right; left_stands = has_more by.left t.0 by.left_stands; right_stands = has_more by.right u.0 by.right_stands; head = by.head; arguments = by.arguments })
  gives_more d clause given (eq.Inject i k) x y h = record { left = h.left; right = h.right; ctor = h.ctor; xs = h.xs; ys = h.ys; equal = h.equal; left_stands = has_more _ h.left.0 h.left_stands; right_stands = has_more _ h.right.0 h.right_stands; left_at = h.left_at; right_at = h.right_at }
  gives_more d clause given (eq.Sel t i) x y h =
      let by = h.1 in
      (h.0, record { sel = by.sel; selector = by.selector; argument = by.argument; con = by.con; args = by.args; stands = has_more _ t.0 by.stands; declared = by.declared; equal = by.equal; con_stands = has_more _ by.con.0 by.con_stands; at = by.at })
  gives_more d clause given (eq.Test t i) x y h =
      let by = h.1 in
      (h.0, record { tested = by.tested; argument = by.argument; con = by.con; ctor = by.ctor; args = by.args; stands = has_more _ t.0 by.stands; equal = by.equal; con_stands = has_more _ by.con.0 by.con_stands; answer = by.answer })
  gives_more d clause given (eq.Expand i c) x y h =
      let by = h.1 in (
        h.0,
        record {
          test = by.test;
          id = by.id;
          ctor = by.ctor;
          args = by.args;
          declared = by.declared;
          holds = by.holds;
          test_stands = has_more _ by.test.0 by.test_stands;
          con_stands = has_more _ c.0 by.con_stands;
          fields = AllZip-weaker (IsSelected terms x) (IsSelected longer x) (λ t s k. has_more (core.Sel s x) t.0 k) by.args by.ctor.sels by.fields;
        },
      )
  gives_more d clause given (eq.EqualIn t i) x y h = (h.0, h.1, (h.2.0, h.2.1, has_more _ t.0 h.2.2, h.2.3))
  gives_more d clause given (eq.EqualOut i) x y h = (h.0, h.1, has_more _ h.0.0 h.2)
  gives_more d clause given (eq.Neg t i) x y h = (h.0, (h.1.0, has_more _ t.0 h.1.1, h.1.2))
  gives_more d clause given (eq.Single t u) x y h = (h.0, h.1, record { sort = h.2.sort; left = sort_more t h.2.sort h.2.left; right = sort_more u h.2.sort h.2.right; single = h.2.single })
  gives_more d clause given (eq.Unique p pairs) x y h = record {
    asked = h.asked;
    stands = h.stands;
    left = h.left;
    right = h.right;
    each = λ index pair at.
        let by = h.each index pair at in
        record { ctor = by.ctor; xs = by.xs; ys = by.ys; left_stands = has_more _ pair.left.0 by.left_stands; right_stands = has_more _ pair.right.0 by.right_stands; entries = by.entries };
  }

  leads_more : (d : Declarations) (given : List Equation) (st : ℕ) (con : TermId) (place : ℕ) (next : TermId) → LeadsTo d terms (Gave given st) con place next → LeadsTo d longer (Gave given st) con place next
  leads_more d given st con place next h =
      let of = h.datatype in
      record {
        ctor = h.ctor;
        args = h.args;
        argument = h.argument;
        stands = has_more _ con.0 h.stands;
        datatype = record { id = of.id; sort = of.sort; sorted = sort_more con of.id of.sorted; declared = of.declared; kind = of.kind };
        at = h.at;
        equal = h.equal;
      }

  back_more : (d : Declarations) (given : List Equation) (hops : List Hop) (end : TermId) → LeadBackBy d terms given hops end → LeadBackBy d longer given hops end
  back_more d given [] end h = absurd h
  back_more d given (hop ∷ []) end h = leads_more d given hop.step hop.con hop.place end h
  back_more d given (hop ∷ (next ∷ hops)) end h = (leads_more d given hop.step hop.con hop.place next.con h.0, back_more d given (next ∷ hops) end h.1)

  cycle_more : (d : Declarations) (given : List Equation) (hops : List Hop) → IsCycleBy d terms given hops → IsCycleBy d longer given hops
  cycle_more d given [] h = absurd h
  cycle_more d given (hop ∷ hops) h = back_more d given (hop ∷ hops) hop.con h

  closes_more : (d : Declarations) (given : List Equation) (close : Close) → Closes d terms given close → Closes d longer given close
  closes_more d given (Clash i) h = record { left = h.left; right = h.right; ctor = h.ctor; other = h.other; xs = h.xs; ys = h.ys; equal = h.equal; left_stands = has_more _ h.left.0 h.left_stands; right_stands = has_more _ h.right.0 h.right_stands; differ = h.differ }
  closes_more d given (Cycle hops) h = cycle_more d given hops h

  -- the term of an input is in the table, since its literal is
  input_inside : (t : TermId) (clause : Clause) → All (λ l. IsStripped terms l.term) clause → clause ≡ literal_of terms t ∷ [] → t.0 < length terms
  input_inside t clause stripped is = by (slice_get terms t.0) refl
    where
      by : (o : Option (Core × SortId)) → slice_get terms t.0 ≡ o → t.0 < length terms
      by (Some e) at = slice_get_within terms t.0 e at
      by None none =
          let l : clause ≡ positive t ∷ [] = is ∙ ap (λ (k : Lit). k ∷ []) (literal_outside terms t none) in
          let one = All-contains (λ (k : Lit). IsStripped terms k.term) clause (positive t) stripped (subst (λ (ls : List Lit). Contains ls (positive t)) (sym l) (Contains-push [] (positive t))) in
          absurd (none-some (one.0.0, bool_sort) (sym none ∙ one.0.1))

  justifies_more : (d : Declarations) (asserts further : List TermId) (earlier later : List Clause) (st : Step) (clause : Clause) → ((hints : List ℕ) → Rup earlier hints clause → Rup (earlier ++ later) hints clause) → All (λ l. IsStripped terms l.term) clause → Justifies d terms asserts earlier st clause → Justifies d longer (asserts ++ further) (earlier ++ later) st clause
  justifies_more d asserts further earlier later (step.Input t) clause rup stripped h =
      (Contains-append_left asserts further t h.0, h.1 ∙ ap (λ (l : Lit). l ∷ []) (sym (lasts t (input_inside t clause stripped h.1))))
  justifies_more d asserts further earlier later (step.Gate gate t place) clause rup stripped h = gate_more gate t place clause h
  justifies_more d asserts further earlier later (step.Exhaust t) clause rup stripped h = exhaustion_more d t clause h
  justifies_more d asserts further earlier later (step.Theory steps close) clause rup stripped h = record {
    given = h.given;
    give = record { long = h.give.long; each = λ index st e at_step at. gives_more d clause (take index h.given) st e.left e.right (h.give.each index st e at_step at) };
    closes = closes_more d h.given close h.closes;
  }
  justifies_more d asserts further earlier later (step.Learn hints) clause rup stripped h = rup hints h

  pub accepted_more : (d : Declarations) (asserts further : List TermId) (earlier later : List Clause) (line : Line) → ((hints : List ℕ) → Rup earlier hints line.clause → Rup (earlier ++ later) hints line.clause) → IsAccepted d terms asserts earlier line → IsAccepted d longer (asserts ++ further) (earlier ++ later) line
  accepted_more d asserts further earlier later line rup h = record {
    literals = λ k default within. stripped_more _ (h.literals k default within);
    justified = justifies_more d asserts further earlier later line.step line.clause rup h.literals h.justified;
  }
