-- Acceptance depends on the clauses that a line names, and not on their numbers.
use Rattle.std.proofs.Common.{◌≡◌, ℕ, List, [], ◌∷◌, ◌++◌, map, Contains, refl, sym, ap, subst, ◌∙◌}
use Rattle.std.proofs.lemmas.List.{map-append}
use Rattle.std.proofs.lemmas.List.Elements.{Contains-append_left, Contains-push}
use Rattle.ct_lemmas.proofs.Contained.{Contains-first, Contains-rest}
use Rattle.ct_sorts.specs.Declarations.{Declarations}
use Rattle.ct_terms.specs.declared.ids.TermId.{TermId}
use Rattle.ct_terms.specs.declared.ids.Lit.{Lit}
use Rattle.ct_terms.specs.Clause.{Clause}
use Rattle.ct_terms.specs.Terms.{Terms}
use Rattle.ct_terms.specs.Propagation.{Propagates, IsNumbered, Rup}
use Rattle.ct_log.specs.declared.line.Line.{Line}
use Rattle.ct_log.specs.declared.line.Step.{Step}
use Rattle.ct_log.specs.declared.line.Step.TheVariants as step
use Rattle.ct_log.specs.Acceptance.{IsAccepted, Justifies}
use Rattle.ct_core.specs.Cited.{hints_of}
use Rattle.ct_core.specs.Trimmed.{renumbered, renumbered_step}

module _ (earlier later : List Clause) (place : ℕ → ℕ) where
  -- what these numbers name among the earlier clauses has the new numbers among the later ones
  abbrev pub AreRenumberedHints : List ℕ → Type 0
  AreRenumberedHints hints = (hint : ℕ) (clause : Clause) → Contains hints hint → IsNumbered earlier hint clause → IsNumbered later (place hint) clause

  propagates_renumbered : (hints : List ℕ) (before after : List Lit) → AreRenumberedHints hints → Propagates earlier hints before after → Propagates later (map place hints) before after
  propagates_renumbered [] before after each h = h
  propagates_renumbered (hint ∷ hints) before after each h = (
    h.0,
    h.1,
    each hint h.0 (Contains-first hint hints) h.2,
    h.3,
    propagates_renumbered hints (before ++ h.1 ∷ []) after (λ k clause inside. each k clause (Contains-rest hint hints k inside)) h.4,
  )

  -- a clause that follows by hints follows by the new ones
  rup_renumbered : (hints : List ℕ) (clause : Clause) → AreRenumberedHints hints → Rup earlier hints clause → Rup later (map place hints) clause
  rup_renumbered hints clause each h =
      let inside : (k : ℕ) → Contains (h.units ++ h.last ∷ []) k → Contains hints k = λ k i. subst (λ (ks : List ℕ). Contains ks k) (sym h.are_hints) i in
      record {
        units = map place h.units;
        last = place h.last;
        are_hints = ap (map place) h.are_hints ∙ map-append place h.units (h.last ∷ []);
        set = h.set;
        propagates = propagates_renumbered h.units _ h.set (λ k c i. each k c (inside k (Contains-append_left h.units (h.last ∷ []) k i))) h.propagates;
        refuted = h.refuted;
        numbered = each h.last h.refuted (inside h.last (Contains-push h.units h.last)) h.numbered;
        false = h.false;
      }

  justified_renumbered : (d : Declarations) (terms : Terms) (asserts others : List TermId) (st : Step) (clause : Clause) → ((t : TermId) → st ≡ step.Input t → Contains others t) → AreRenumberedHints (hints_of st)
      → Justifies d terms asserts earlier st clause → Justifies d terms others later (renumbered_step place st) clause
  justified_renumbered d terms asserts others (step.Input t) clause inputs each h = (inputs t refl, h.1)
  justified_renumbered d terms asserts others (step.Gate gate t argument) clause inputs each h = h
  justified_renumbered d terms asserts others (step.Exhaust t) clause inputs each h = h
  justified_renumbered d terms asserts others (step.Theory steps close) clause inputs each h = h
  justified_renumbered d terms asserts others (step.Learn hints) clause inputs each h = rup_renumbered hints clause each h

  -- a line that is accepted is accepted with its hints renumbered
  pub accepted_renumbered : (d : Declarations) (terms : Terms) (asserts others : List TermId) (line : Line) → ((t : TermId) → line.step ≡ step.Input t → Contains others t) → AreRenumberedHints (hints_of line.step)
      → IsAccepted d terms asserts earlier line → IsAccepted d terms others later (renumbered place line)
  accepted_renumbered d terms asserts others line inputs each h = record {
    literals = h.literals;
    justified = justified_renumbered d terms asserts others line.step line.clause inputs each h.justified;
  }
