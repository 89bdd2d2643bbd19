-- A derivation has one reading: one record, or one item that is refused and one number of an error.
use Rattle.std.proofs.Common.{◌≡◌, ℕ, ◌+◌, Bool, true, false, List, [], ◌∷◌, ◌++◌, length, Option, Some, None, is_some, Result, Ok, Err, inl, inr, MatchResult, codes, sym, ap, subst, ◌∙◌}
use Rattle.std.specs.Bool.{MatchBool}
use Rattle.std.specs.List.{list_all}
use Rattle.ct_sexpr.specs.Expression.{Expression, Expressions, none, more}
use Rattle.ct_sorts.specs.Declarations.{Declarations}
use Rattle.ct_sorts.specs.Lookup.{ResolvesTo}
use Rattle.ct_sorts.specs.declared.ids.SortId.{SortId}
use Rattle.ct_sorts.specs.declared.ids.Symbol.{Symbol}
use Rattle.ct_terms.specs.declared.term.Core.{Core}
use Rattle.ct_terms.specs.Terms.{Terms, HasSort}
use Rattle.ct_log_lines.specs.declared.term_lines.TermLine.{TermLine}
use Rattle.ct_log_lines.specs.Forms.{parts_after}
use Rattle.ct_log_text.specs.Cores.{core_with}
use Rattle.ct_log_lines.specs.TermLines.{has_name, term_line}
use Rattle.ct_log_text.specs.Fitting.{is_term}
use Rattle.ct_log_text.specs.Named.{symbol_at}
use Rattle.ct_log_text.specs.Reading.{not_yet, ReadOutcome, terms_of, sorts_of, Adds, StandsFor, GivesNamed, GivesLine, GivesTerm, read_lines, ReadsTerms, AfterItem, Reads, items_in, after_constant}

both_bool : (test : Bool) (X Y V W Z : Type 0) → MatchBool test X Y → MatchBool test V W → (X → V → Z) → (Y → W → Z) → Z
both_bool true X Y V W Z h k f g = f h k
both_bool false X Y V W Z h k f g = g h k

both_results : (given : Result Terms ℕ) (P R : Terms → Type 0) (Q S : ℕ → Type 0) (Z : Type 0) → MatchResult given P Q → MatchResult given R S
    → ((new : Terms) → P new → R new → Z) → ((code : ℕ) → Q code → S code → Z) → Z
both_results (Ok new) P R Q S Z h k f g = f new h k
both_results (Err code) P R Q S Z h k f g = g code h k

both_items : (place : ℕ) (one other : ReadOutcome) (Next After : Expressions → Type 0) (o : Option Expressions) → AfterItem place one Next o → AfterItem place other After o
    → ((items : Expressions) → Next items → After items → one ≡ other) → one ≡ other
both_items place one other Next After None h k each = h ∙ sym k
both_items place one other Next After (Some items) h k each = each items h k

-- what comes of a term line and the items after it
abbrev TermThen : Declarations → ℕ → Terms → Expression → Expressions → ReadOutcome → Type 0
TermThen d place terms item items outcome =
    (given : Result Terms ℕ) × GivesTerm d terms item given × MatchResult given (λ new. ReadsTerms d (place + 1) new items outcome) (λ code. outcome ≡ Err (place, code))

-- a name stands for one symbol, and a term has one sort
abbrev OneSymbol : Declarations → Type 0
OneSymbol d = (name : List ℕ) (found other : Option Symbol) → ResolvesTo d name found → ResolvesTo d name other → other ≡ found

abbrev OneSort : Declarations → Type 0
OneSort d = (terms : Terms) (core : Core) (r s : SortId) → HasSort d terms core r → HasSort d terms core s → r ≡ s

module _ (d : Declarations) (symbols : OneSymbol d) (sorts : OneSort d) where
  -- what the name of the line resolves to, and what it stands for
  abbrev Found : Terms → TermLine → Option Symbol → Type 0
  Found terms line symbol = (found : Option Symbol) × ResolvesTo d line.name found × (symbol ≡ symbol_at d line (sorts_of terms (terms_of line)) found)

  one_added : (terms : Terms) (core : Option Core) (one other : Result Terms ℕ) → Adds d terms core one → Adds d terms core other → one ≡ other
  one_added terms None one other h k = h ∙ sym k
  one_added terms (Some core) (Ok new) (Ok more_terms) h k = ap (λ ts. Ok ts) (h.3 ∙ ap (λ sort. terms ++ (core, sort) ∷ []) (sorts terms core h.0 k.0 h.1 k.1) ∙ sym k.3)
  one_added terms (Some core) (Ok new) (Err code) h (inl k) = absurd (k.1 (h.0, h.1))
  one_added terms (Some core) (Ok new) (Err code) h (inr k) = absurd (h.2 k.2.0 k.2.1)
  one_added terms (Some core) (Err code) (Ok new) (inl h) k = absurd (h.1 (k.0, k.1))
  one_added terms (Some core) (Err code) (Ok new) (inr h) k = absurd (k.2 h.2.0 h.2.1)
  one_added terms (Some core) (Err code) (Err number) (inl h) (inl k) = ap (λ n. Err n) (h.0 ∙ sym k.0)
  one_added terms (Some core) (Err code) (Err number) (inl h) (inr k) = absurd (h.1 k.1)
  one_added terms (Some core) (Err code) (Err number) (inr h) (inl k) = absurd (k.1 h.1)
  one_added terms (Some core) (Err code) (Err number) (inr h) (inr k) = ap (λ n. Err n) (h.0 ∙ sym k.0)

  one_meaning : (terms : Terms) (line : TermLine) (one other : Option Symbol) → StandsFor d terms line one → StandsFor d terms line other → other ≡ one
  one_meaning terms line one other h k =
      both_bool (has_name line.kind) (Found terms line one) (one ≡ None) (Found terms line other) (other ≡ None) (other ≡ one) h k
      (λ p q. q.2 ∙ ap (symbol_at d line (sorts_of terms (terms_of line))) (symbols line.name p.0 q.0 p.1 q.1) ∙ sym p.2) (λ p q. q ∙ sym p)

  one_named : (terms : Terms) (line : TermLine) (one other : Result Terms ℕ) → GivesNamed d terms line one → GivesNamed d terms line other → one ≡ other
  one_named terms line one other h k =
      one_added terms (core_with line.kind h.0 (terms_of line)) one other h.2
      (subst (λ symbol. Adds d terms (core_with line.kind symbol (terms_of line)) other) (one_meaning terms line h.0 k.0 h.1 k.1) k.2)

  one_line : (terms : Terms) (line : Option TermLine) (one other : Result Terms ℕ) → GivesLine d terms line one → GivesLine d terms line other → one ≡ other
  one_line terms None one other h k = h ∙ sym k
  one_line terms (Some line) one other h k =
      both_bool (list_all (is_term (length terms)) (terms_of line)) (GivesNamed d terms line one) (one ≡ Err not_yet) (GivesNamed d terms line other) (other ≡ Err not_yet) (one ≡ other) h k
      (one_named terms line one other) (λ p q. p ∙ sym q)

  one_end : (items : Expressions) (place : ℕ) (terms : Terms) (one other : ReadOutcome) → ReadsTerms d place terms items one → ReadsTerms d place terms items other → one ≡ other
  one_end none place terms one other h k = h ∙ sym k
  one_end (more item items) place terms one other h k =
      both_bool (is_some (parts_after (codes "t") item)) (TermThen d place terms item items one) (one ≡ read_lines place terms [] (more item items))
      (TermThen d place terms item items other) (other ≡ read_lines place terms [] (more item items)) (one ≡ other) h k
      (λ (a : TermThen d place terms item items one) (b : TermThen d place terms item items other).
      both_results a.0 (λ new. ReadsTerms d (place + 1) new items one) (λ new. ReadsTerms d (place + 1) new items other) (λ code. one ≡ Err (place, code)) (λ code. other ≡ Err (place, code)) (one ≡ other) a.2
      (subst (λ given. MatchResult given (λ new. ReadsTerms d (place + 1) new items other) (λ code. other ≡ Err (place, code))) (one_line terms (term_line (length terms) item) b.0 a.0 b.1 a.1) b.2)
      (λ new first also. one_end items (place + 1) new one other first also) (λ code p q. p ∙ sym q))
      (λ p q. p ∙ sym q)

  pub one_reading : (e : Expression) (one other : ReadOutcome) → Reads d e one → Reads d e other → one ≡ other
  one_reading e one other h k =
      both_items 0 one other _ _ (items_in e) h k (λ items first also.
      both_items 1 one other _ _ (after_constant 0 (codes "true") items) first also (λ later second too.
      both_items 2 one other _ _ (after_constant 1 (codes "false") later) second too (λ last third yet. one_end last 3 _ one other third yet)))
