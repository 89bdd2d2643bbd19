-- Derivations: no line yet, and one line more.
use Rattle.std.proofs.Common.{◌≡◌, inl, inr, List, [], ◌∷◌, ◌++◌, take, sym, subst, ◌∙◌, arith}
use Rattle.std.proofs.lemmas.List.{take_all, take-append-le}
use Rattle.std.proofs.lemmas.Option.{none-some, slice_get_within}
use Rattle.ct_lemmas.proofs.Lists.{slice_get-push_cases}
use Rattle.ct_sorts.specs.Declarations.{Declarations}
use Rattle.ct_card.specs.Sizes.{Table}
use Rattle.ct_terms.specs.declared.ids.TermId.{TermId}
use Rattle.ct_terms.specs.Terms.{Terms}
use Rattle.ct_log.specs.declared.line.Line.{Line}
use Rattle.ct_log.specs.Acceptance.{IsAccepted, AreAccepted, clauses_of}
use Rattle.ct_log.specs.Recorded.{AreJudges, Derived, IsDerivation}

-- no line yet
pub IsDerivation-begun : (d : Declarations) (sizes : Table) (terms : Terms) (asserts : List TermId) → AreJudges d sizes terms asserts → IsDerivation (record { declarations = d; sizes = sizes; rec = record { terms = terms; lines = [] }; asserts = asserts })
IsDerivation-begun d sizes terms asserts judges = record { judges = judges; accepted = λ index line at. absurd (none-some line at) }

AreAccepted-push : (d : Declarations) (terms : Terms) (asserts : List TermId) (lines : List Line) (line : Line) → AreAccepted d terms asserts lines → IsAccepted d terms asserts (clauses_of lines) line → AreAccepted d terms asserts (lines ++ line ∷ [])
AreAccepted-push d terms asserts lines line all one index other at =
    elim (slice_get-push_cases lines line other index at) [
      | inl old ↦
          let within = slice_get_within lines index other old in
          subst (λ (ls : List Line). IsAccepted d terms asserts (clauses_of ls) other) (sym (take-append-le index lines (line ∷ []) (omega arith))) (all index other old)
      | inr last ↦
          let is = last.0 in
          let whole : take index (lines ++ line ∷ []) ≡ lines = take-append-le index lines (line ∷ []) (omega arith) ∙ take_all index lines (omega arith) in
          subst (λ (ls : List Line). IsAccepted d terms asserts (clauses_of ls) other) (sym whole) (subst (IsAccepted d terms asserts (clauses_of lines)) last.1 one)
    ]

-- one line more
pub IsDerivation-push : (x : Derived) (line : Line) → IsDerivation x → IsAccepted x.declarations x.rec.terms x.asserts (clauses_of x.rec.lines) line → IsDerivation (record { declarations = x.declarations; sizes = x.sizes; rec = record { terms = x.rec.terms; lines = x.rec.lines ++ line ∷ [] }; asserts = x.asserts })
IsDerivation-push x line all one = record { judges = all.judges; accepted = AreAccepted-push x.declarations x.rec.terms x.asserts x.rec.lines line all.accepted one }
