-- Steps that are added one after the other, chains of hops, and the line that they make.
use Rattle.std.proofs.Common.{◌≡◌, ℕ, ◌<◌, List, [], ◌∷◌, ◌++◌, length, refl, sym, ap, subst, ◌∙◌, inl, inr, append-nil, append_assoc}
use Rattle.std.specs.List.{Contains}
use Rattle.std.proofs.lemmas.Option.{none-some, slice_get_within}
use Rattle.std.proofs.lemmas.List.Elements.{Contains-append_left, Contains-append_right, Contains-append_cases}
use Rattle.ct_lemmas.proofs.Contained.{slice_get-from_Contains}
use Rattle.ct_lemmas.proofs.Each.{All-from_Contains}
use Rattle.ct_lemmas.proofs.Lists.{slice_get-append_left}
use Rattle.ct_sorts.specs.Declarations.{Declarations}
use Rattle.ct_terms.specs.declared.ids.TermId.{TermId}
use Rattle.ct_terms.specs.declared.ids.Lit.{Lit}
use Rattle.ct_terms.specs.Literal.{opposite, IsStripped}
use Rattle.ct_terms.specs.Clause.{Clause}
use Rattle.ct_terms.specs.Terms.{Terms}
use Rattle.ct_rules.specs.declared.equation.Equation.{Equation}
use Rattle.ct_rules.specs.Rules.{Equations}
use Rattle.ct_rules.specs.Cycle.{LeadsTo, LeadBack, IsCycle}
use Rattle.ct_log.specs.declared.rules.Hop.{Hop}
use Rattle.ct_log.specs.declared.rules.Close.{Close}
use Rattle.ct_log.specs.declared.rules.EqStep.{EqStep}
use Rattle.ct_log.specs.declared.rules.EqStep.TheVariants.{Hyp}
use Rattle.ct_log.specs.Equations.{Gave, GiveAll}
use Rattle.ct_log.specs.Closing.{IsClash, Closes, LeadBackBy, IsCycleBy}
use Rattle.ct_congr.specs.State.{State, IsClashOf}
use Rattle.ct_explain.specs.Explained.{IsExplained}
use Rattle.ct_theory.specs.Entailment.{IsConflictOf}
use Rattle.ct_theory.specs.Steps.{Covers, Adds, IsChain, IsPath, IsPathBy, IsClauseOf}

-- ---- steps that are added

module _ (state : State) where
  -- what holds of the equations whatever is added to them
  abbrev Lasts : (List Equation → Type 0) → Type 0
  Lasts P = (given after : List Equation) → P given → P (given ++ after)

  -- from what the steps give something else
  pub Adds-via : (old new : List EqStep) (P Q : List Equation → Type 0) → ((given : List Equation) → P given → Q given) → Adds state old new P → Adds state old new Q
  Adds-via old new P Q step adds = record {
    more = adds.more;
    stays = adds.stays;
    named = adds.named;
    accepted = λ clause given give covers. let a = adds.accepted clause given give covers in (a.0, a.1, step (given ++ a.0) a.2);
  }

  -- no steps
  pub Adds-none : (P : List Equation → Type 0) → ((given : List Equation) → P given) → Adds state [] [] P
  Adds-none P p = record {
    more = [];
    stays = refl;
    named = λ l h. absurd (none-some (Hyp l) (slice_get-from_Contains [] (Hyp l) h).1);
    accepted = λ clause given give covers. ([], subst (GiveAll state.declarations state.terms clause []) (sym (append-nil given)) give, p (given ++ []));
  }

  -- some steps and then others
  pub Adds-then : (old mid new : List EqStep) (P Q : List Equation → Type 0) → Lasts P → Adds state old mid P → Adds state mid new Q → Adds state old new (λ given. P given × Q given)
  Adds-then old mid new P Q lasts first second = record {
    more = first.more ++ second.more;
    stays = second.stays ∙ ap (λ s. s ++ second.more) first.stays ∙ append_assoc old first.more second.more;
    named = λ l h. elim (Contains-append_cases first.more second.more (Hyp l) h) [ inl a ↦ first.named l a | inr b ↦ second.named l b ];
    accepted = accepted;
  }
    where
      accepted : (clause : Clause) (given : List Equation) → GiveAll state.declarations state.terms clause old given → Covers clause (first.more ++ second.more) → (after : List Equation) × GiveAll state.declarations state.terms clause new (given ++ after) × (P (given ++ after) × Q (given ++ after))
      accepted clause given give covers =
          let a = first.accepted clause given give (λ l h. covers l (Contains-append_left first.more second.more (Hyp l) h)) in
          let b = second.accepted clause (given ++ a.0) a.1 (λ l h. covers l (Contains-append_right first.more second.more (Hyp l) h)) in
          let same : (given ++ a.0) ++ b.0 ≡ given ++ (a.0 ++ b.0) = append_assoc given a.0 b.0 in (
            a.0 ++ b.0,
            subst (GiveAll state.declarations state.terms clause new) same b.1,
            (subst P same (lasts (given ++ a.0) b.0 a.2), subst Q same b.2),
          )

  -- steps that are explained
  pub Adds-explained : (old new : List EqStep) (n : ℕ) (a b : TermId) → IsExplained state old new n a b → Adds state old new (λ given. Gave given n a b)
  Adds-explained old new n a b h = record { more = h.more; stays = h.stays; named = h.named; accepted = h.accepted }

  -- no equations are given by no steps
  GiveAll-none : (clause : Clause) → GiveAll state.declarations state.terms clause [] []
  GiveAll-none clause = record { long = refl; each = λ index step e at_step at_e. absurd (none-some step at_step) }

  -- steps to equations that contradict each other, with their clause, make a conflict
  pub IsConflictOf-adds : (steps : List EqStep) (close : Close) (clause : Clause) → Adds state [] steps (λ given. Closes state.declarations state.terms given close) → IsClauseOf steps clause → IsConflictOf state.declarations state.terms state.hypotheses clause steps close
  IsConflictOf-adds steps close clause adds is =
      let named : (l : Lit) → Contains steps (Hyp l) → Contains adds.more (Hyp l) = λ l h. subst (λ (s : List EqStep). Contains s (Hyp l)) adds.stays h in
      let all = adds.accepted clause [] (GiveAll-none clause) (λ l h. is.covers l (subst (λ (s : List EqStep). Contains s (Hyp l)) (sym adds.stays) h)) in
      record {
        false = All-from_Contains (λ l. Contains state.hypotheses (opposite l)) clause (λ l h. adds.named (opposite l) (named (opposite l) (is.used l h)));
        used = is.used;
        once = is.once;
        refuted = record { given = all.0; give = all.1; closes = all.2 };
      }

  -- ---- two constructors

  pub Closes-clash : (n : ℕ) (a b : TermId) → IsClashOf state.terms state.reps a b → (given : List Equation) → Gave given n a b → IsClash state.terms given n
  Closes-clash n a b clash given gave = record {
    left = a;
    right = b;
    ctor = clash.first;
    other = clash.second;
    xs = clash.xs;
    ys = clash.ys;
    equal = gave;
    left_stands = clash.left;
    right_stands = clash.right;
    differ = clash.apart;
  }

-- ---- chains

module _ {A : Type 0} (begins : A → TermId) where
  -- one more item at the end
  pub IsChain-push : (leads : A → TermId → Type 0) (items : List A) (item : A) (from end next : TermId) → IsChain begins leads items from end → begins item ≡ end → leads item next → IsChain begins leads (items ++ item ∷ []) from next
  IsChain-push leads [] item from end next chain starts to = (starts ∙ sym chain, (next, to, refl))
  IsChain-push leads (i ∷ items) item from end next chain starts to =
      (chain.0, (chain.1.0, chain.1.1, IsChain-push leads items item chain.1.0 end next chain.1.2 starts to))

  -- links that hold of more
  pub IsChain-weaker : (leads weaker : A → TermId → Type 0) → ((i : A) (t : TermId) → leads i t → weaker i t) → (items : List A) (from end : TermId) → IsChain begins leads items from end → IsChain begins weaker items from end
  IsChain-weaker leads weaker each [] from end chain = chain
  IsChain-weaker leads weaker each (i ∷ items) from end chain =
      (chain.0, (chain.1.0, each i chain.1.0 chain.1.1, IsChain-weaker leads weaker each items chain.1.0 end chain.1.2))

module _ (d : Declarations) (terms : Terms) where
  -- a link over more equations
  pub LeadsTo-wider : (known wider : Equations) → ((x y : TermId) → known x y → wider x y) → (con : TermId) (place : ℕ) (next : TermId) → LeadsTo d terms known con place next → LeadsTo d terms wider con place next
  LeadsTo-wider known wider each con place next h = record {
    ctor = h.ctor;
    args = h.args;
    argument = h.argument;
    stands = h.stands;
    datatype = h.datatype;
    at = h.at;
    equal = each h.argument next h.equal;
  }

  Gave-lasts : (given after : List Equation) (n : ℕ) (x y : TermId) → Gave given n x y → Gave (given ++ after) n x y
  Gave-lasts given after n x y h = slice_get-append_left given after n (record { left = x; right = y }) h

  pub LeadsTo-lasts : (given after : List Equation) (n : ℕ) (con : TermId) (place : ℕ) (next : TermId) → LeadsTo d terms (Gave given n) con place next → LeadsTo d terms (Gave (given ++ after) n) con place next
  LeadsTo-lasts given after n con place next = LeadsTo-wider (Gave given n) (Gave (given ++ after) n) (Gave-lasts given after n) con place next

  pub IsPathBy-lasts : (given after : List Equation) (hops : List Hop) (from end : TermId) → IsPathBy d terms given hops from end → IsPathBy d terms (given ++ after) hops from end
  IsPathBy-lasts given after hops from end =
      IsChain-weaker (λ (hop : Hop). hop.con) (λ (hop : Hop). LeadsTo d terms (Gave given hop.step) hop.con hop.place) (λ (hop : Hop). LeadsTo d terms (Gave (given ++ after) hop.step) hop.con hop.place)
      (λ hop next h. LeadsTo-lasts given after hop.step hop.con hop.place next h) hops from end

  -- a cycle is a path to where it begins
  LeadBack-path : (known : Equations) (hop : TermId × ℕ) (hops : List (TermId × ℕ)) (end : TermId) → LeadBack d terms known (hop ∷ hops) end → IsPath d terms known (hop ∷ hops) hop.0 end
  LeadBack-path known hop [] end h = (refl, (end, h, refl))
  LeadBack-path known hop (next ∷ hops) end h = (refl, (next.0, h.0, LeadBack-path known next hops end h.1))

  pub IsCycle-path : (known : Equations) (hop : TermId × ℕ) (hops : List (TermId × ℕ)) → IsCycle d terms known (hop ∷ hops) → IsPath d terms known (hop ∷ hops) hop.0 hop.0
  IsCycle-path known hop hops h = LeadBack-path known hop hops hop.0 h

  -- and back
  LeadBackBy-path : (given : List Equation) (hop : Hop) (hops : List Hop) (from end : TermId) → IsPathBy d terms given (hop ∷ hops) from end → LeadBackBy d terms given (hop ∷ hops) end
  LeadBackBy-path given hop [] from end h = subst (LeadsTo d terms (Gave given hop.step) hop.con hop.place) h.1.2 h.1.1
  LeadBackBy-path given hop (next ∷ hops) from end h = (
    subst (LeadsTo d terms (Gave given hop.step) hop.con hop.place) (sym h.1.2.0) h.1.1,
    LeadBackBy-path given next hops h.1.0 end h.1.2,
  )

  pub IsCycleBy-path : (given : List Equation) (hops : List Hop) (from : TermId) → (hops ≡ [] → ⊥) → IsPathBy d terms given hops from from → IsCycleBy d terms given hops
  IsCycleBy-path given [] from some h = absurd (some refl)
  IsCycleBy-path given (hop ∷ hops) from some h = subst (LeadBackBy d terms given (hop ∷ hops)) (sym h.0) (LeadBackBy-path given hop hops from from h)

-- the terms of the literals that added steps name are terms of the table
pub named_inside : (state : State) (steps : List EqStep) (gives : List Equation → Type 0) → Adds state [] steps gives → ((l : Lit) → Contains state.hypotheses l → IsStripped state.terms l.term) → (l : Lit) → Contains steps (Hyp l) → l.term.0 < length state.terms
named_inside state steps gives adds stripped l h =
    let is = stripped l (adds.named l (subst (λ (s : List EqStep). Contains s (Hyp l)) adds.stays h)) in
    slice_get_within state.terms l.term.0 _ is.0.1
