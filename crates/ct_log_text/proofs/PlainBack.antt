-- Derivations that are written are readable expressions, with names quoted only where they need to be.
use Rattle.std.proofs.Common.{◌≡◌, ℕ, zero, suc, ◌+◌, ◌<◌, Bool, true, false, not, if◌then◌else◌, ◌&&◌, ◌==◌, ◌↔◌, nat_lt, List, [], ◌∷◌, length, drop, Some, slice_get, unwrap_or, codes, inl, inr, refl, sym, ap, ap₂, subst, ◌∙◌, arith}
use Rattle.std.proofs.lemmas.Bool.{ltb-true, eqb-true}
use Rattle.std.proofs.lemmas.Option.{none-some, same_Some}
use Rattle.std.specs.List.{list_all}
use Rattle.ct_lemmas.proofs.Booleans.{both_parts}
use Rattle.ct_sexpr.specs.Token.{is_in_quoted_symbol}
use Rattle.ct_sexpr.specs.Atom.{Atom, symbol, quoted, keyword, text, numeral, decimal, binary, hexadecimal}
use Rattle.ct_sexpr.specs.Expression.{Expression, leaf, list, Expressions, none, more, word}
use Rattle.ct_sexpr.specs.Readable.{IsReadable, AreReadable, name_of_atom}
use Rattle.ct_sexpr.specs.Written.{written, canonical, canonical_each, canonical_atom, is_reserved, is_simple, forms_symbol}
use Rattle.ct_sorts.specs.declared.ids.SortId.{SortId}
use Rattle.ct_sorts.specs.Availability.{HasByte, IsUnavailable}
use Rattle.ct_sorts.specs.declared.ids.CtorId.{CtorId}
use Rattle.ct_sorts.specs.Declarations.{Declarations, IsSort, ctor_names, sel_names, function_names}
use Rattle.ct_sorts.specs.SortText.{as_written}
use Rattle.ct_sorts.proofs.BaseLemmas.{base_of}
use Rattle.ct_sorts.proofs.TextLemmas.{readable}
use Rattle.ct_instances.specs.Among.{origin_of}
use Rattle.ct_instances.specs.Fields.{is_ctor_determined, sort_of_ctor}
use Rattle.ct_instances.proofs.CtorNameLemmas.{origin_at, sort_of_ctor_within}
use Rattle.ct_sorts.specs.Consistent.{IsConsistent, AreAvailable}
use Rattle.ct_terms.specs.declared.ids.Lit.{Lit}
use Rattle.ct_terms.specs.declared.ids.TermId.{TermId}
use Rattle.ct_terms.specs.declared.term.Core.{Core}
use Rattle.ct_terms.specs.declared.term.Core.TheVariants as cores
use Rattle.ct_terms.specs.Terms.{Terms}
use Rattle.ct_log.specs.declared.rules.Gate.{Gate}
use Rattle.ct_log.specs.declared.rules.Gate.TheVariants.{True, False, AndPos, AndNeg, OrPos, OrNeg, Iff1, Iff2, Iff3, Iff4, Ite1, Ite2, Ite3, Ite4, Then, Else}
use Rattle.ct_log.specs.declared.rules.Entry.{Entry}
use Rattle.ct_log.specs.declared.rules.Entry.TheVariants as entries
use Rattle.ct_log.specs.declared.rules.Pair.{Pair}
use Rattle.ct_log.specs.declared.rules.Hop.{Hop}
use Rattle.ct_log.specs.declared.rules.EqStep.{EqStep}
use Rattle.ct_log.specs.declared.rules.EqStep.TheVariants.{Hyp, Refl, Sym, Trans, Cong, Inject, Sel, Test, Expand, EqualIn, EqualOut, Neg, Single, Unique}
use Rattle.ct_log.specs.declared.rules.Close.{Close}
use Rattle.ct_log.specs.declared.rules.Close.TheVariants.{Clash, Cycle}
use Rattle.ct_log.specs.declared.line.Line.{Line}
use Rattle.ct_log.specs.declared.line.Step.{Step}
use Rattle.ct_log.specs.declared.line.Step.TheVariants as steps
use Rattle.ct_log.specs.Recorded.{Recorded}
use Rattle.ct_log_lines.specs.declared.term_lines.TermKind.{TermKind}
use Rattle.ct_log_lines.specs.declared.term_lines.TermKind.TheVariants as kind
use Rattle.ct_log_lines.specs.Forms.{number_bound}
use Rattle.ct_log_lines.specs.TermLines.{kind_word}
use Rattle.ct_log_lines.specs.Gates.{gate_name}
use Rattle.ct_log_text.specs.Written.{number, numbers, term_numbers, name, sort_item, qualified_item, ctor_item, row, items_as, kind_of, core_parts, term_item, literal, entry_item, pair_item, hop_item, step_item, close_item, gate_numbers, rule_parts, line_item, end_item, term_items, line_items, expression_of_record, IsNamed}
use Rattle.ct_log_text.specs.Writable.{is_short, are_short, CanBeRead}
use Rattle.ct_log_text.proofs.WriteLemmas.{named}
use Rattle.ct_log_text.proofs.TermsBack.{name_there}
use Rattle.ct_log_text.proofs.WholeBack.{true_name, false_name}

-- readable, with names quoted only where they need to be
abbrev IsPlain : Expression → Type 0
IsPlain e = IsReadable e × (canonical e ≡ e)

abbrev ArePlain : Expressions → Type 0
ArePlain es = AreReadable es × (canonical_each es ≡ es)

plain_none : ArePlain none
plain_none = (tt, refl)

plain_more : (e : Expression) (es : Expressions) → IsPlain e → ArePlain es → ArePlain (more e es)
plain_more e es p q = ((p.0, q.0), ap₂ (λ x xs. more x xs) p.1 q.1)

plain_list : (es : Expressions) → ArePlain es → IsPlain (list es)
plain_list es p = (p.0, ap (λ xs. list xs) p.1)

plain_number : (n : ℕ) → nat_lt n number_bound ≡ true → IsPlain (number n)
plain_number n short = let h = ltb-true n 18446744073709551616 short in (omega (arith, h), refl)

plain_word : (w : List ℕ) → forms_symbol w ≡ true → IsPlain (word w)
plain_word w h = (h, refl)

plain_name_of : (bytes : List ℕ) (forms reserved : Bool) → forms_symbol bytes ≡ forms → is_reserved bytes ≡ reserved → list_all is_in_quoted_symbol bytes ≡ true → IsPlain (name bytes)
plain_name_of bytes true true f r fit = rw (f, r) (fit, rw (f, r) refl)
plain_name_of bytes true false f r fit = rw (f, r) (f, refl)
plain_name_of bytes false reserved f r fit = rw f (fit, rw f refl)

plain_name : (bytes : List ℕ) → list_all is_in_quoted_symbol bytes ≡ true → IsPlain (name bytes)
plain_name bytes fit = plain_name_of bytes (forms_symbol bytes) (is_reserved bytes) refl refl fit

plain_numbers : (ns : List ℕ) → are_short (numbers ns) ≡ true → ArePlain (numbers ns)
plain_numbers [] h = plain_none
plain_numbers (n ∷ ns) h =
    let parts = both_parts (nat_lt n number_bound) (are_short (numbers ns)) h in
    plain_more (number n) (numbers ns) (plain_number n parts.0) (plain_numbers ns parts.1)

plain_row : (w : List ℕ) (es : Expressions) → forms_symbol w ≡ true → ArePlain es → IsPlain (row w es)
plain_row w es h p = plain_list (more (word w) es) (plain_more (word w) es (plain_word w h) p)

module _ {X : Type 0} (item : X → Expression) (plain : (x : X) → is_short (item x) ≡ true → IsPlain (item x)) where
  plain_all : (xs : List X) → are_short (items_as item xs) ≡ true → ArePlain (items_as item xs)
  plain_all [] h = plain_none
  plain_all (x ∷ xs) h =
      let parts = both_parts (is_short (item x)) (are_short (items_as item xs)) h in
      plain_more (item x) (items_as item xs) (plain x parts.0) (plain_all xs parts.1)

plain_literal_of : (t : TermId) (positive : Bool) → is_short (literal (record { term = t; positive = positive })) ≡ true → IsPlain (literal (record { term = t; positive = positive }))
plain_literal_of t true h = plain_number t.0 h
plain_literal_of t false h = plain_row (codes "not") (numbers (t.0 ∷ [])) refl (plain_numbers (t.0 ∷ []) h)

plain_literal : (l : Lit) → is_short (literal l) ≡ true → IsPlain (literal l)
plain_literal l h = plain_literal_of l.term l.positive h

plain_entry : (entry : Entry) → is_short (entry_item entry) ≡ true → IsPlain (entry_item entry)
plain_entry (entries.Step i) h = plain_number i h
plain_entry (entries.Pair p i j) h = plain_row (codes "pair") (numbers (p ∷ (i ∷ (j ∷ [])))) refl (plain_numbers (p ∷ (i ∷ (j ∷ []))) h)

plain_pair : (pair : Pair) → is_short (pair_item pair) ≡ true → IsPlain (pair_item pair)
plain_pair pair h =
    let first = both_parts (nat_lt pair.left.0 number_bound) (nat_lt pair.right.0 number_bound && are_short (items_as entry_item pair.entries)) h in
    let second = both_parts (nat_lt pair.right.0 number_bound) (are_short (items_as entry_item pair.entries)) first.1 in
    plain_list _ (plain_more _ _ (plain_number pair.left.0 first.0) (plain_more _ _ (plain_number pair.right.0 second.0) (plain_all entry_item plain_entry pair.entries second.1)))

plain_hop : (hop : Hop) → is_short (hop_item hop) ≡ true → IsPlain (hop_item hop)
plain_hop hop h = plain_list _ (plain_numbers (hop.con.0 ∷ (hop.place ∷ (hop.step ∷ []))) h)

plain_step : (step : EqStep) → is_short (step_item step) ≡ true → IsPlain (step_item step)
plain_step (Hyp l) h = let parts = both_parts (is_short (literal l)) true h in plain_row (codes "hyp") (more (literal l) none) refl (plain_more _ _ (plain_literal l parts.0) (plain_none))
plain_step (Refl t) h = plain_row (codes "refl") (numbers (t.0 ∷ [])) refl (plain_numbers (t.0 ∷ []) h)
plain_step (Sym i) h = plain_row (codes "sym") (numbers (i ∷ [])) refl (plain_numbers (i ∷ []) h)
plain_step (Trans i j) h = plain_row (codes "trans") (numbers (i ∷ (j ∷ []))) refl (plain_numbers (i ∷ (j ∷ [])) h)
plain_step (Cong t u is) h = plain_row (codes "cong") (numbers (t.0 ∷ (u.0 ∷ is))) refl (plain_numbers (t.0 ∷ (u.0 ∷ is)) h)
plain_step (Inject i k) h = plain_row (codes "inject") (numbers (i ∷ (k ∷ []))) refl (plain_numbers (i ∷ (k ∷ [])) h)
plain_step (Sel t i) h = plain_row (codes "sel") (numbers (t.0 ∷ (i ∷ []))) refl (plain_numbers (t.0 ∷ (i ∷ [])) h)
plain_step (Test t i) h = plain_row (codes "test") (numbers (t.0 ∷ (i ∷ []))) refl (plain_numbers (t.0 ∷ (i ∷ [])) h)
plain_step (Expand i c) h = plain_row (codes "expand") (numbers (i ∷ (c.0 ∷ []))) refl (plain_numbers (i ∷ (c.0 ∷ [])) h)
plain_step (EqualIn t i) h = plain_row (codes "equal-in") (numbers (t.0 ∷ (i ∷ []))) refl (plain_numbers (t.0 ∷ (i ∷ [])) h)
plain_step (EqualOut i) h = plain_row (codes "equal-out") (numbers (i ∷ [])) refl (plain_numbers (i ∷ []) h)
plain_step (Neg t i) h = plain_row (codes "neg") (numbers (t.0 ∷ (i ∷ []))) refl (plain_numbers (t.0 ∷ (i ∷ [])) h)
plain_step (Single x y) h = plain_row (codes "single") (numbers (x.0 ∷ (y.0 ∷ []))) refl (plain_numbers (x.0 ∷ (y.0 ∷ [])) h)
plain_step (Unique p pairs) h =
    let parts = both_parts (nat_lt p number_bound) (are_short (items_as pair_item pairs)) h in
    plain_row (codes "unique") (more (number p) (items_as pair_item pairs)) refl (plain_more _ _ (plain_number p parts.0) (plain_all pair_item plain_pair pairs parts.1))

plain_close : (close : Close) → is_short (close_item close) ≡ true → IsPlain (close_item close)
plain_close (Clash i) h = plain_row (codes "clash") (numbers (i ∷ [])) refl (plain_numbers (i ∷ []) h)
plain_close (Cycle hops) h = plain_row (codes "cycle") (items_as hop_item hops) refl (plain_all hop_item plain_hop hops h)

gate_symbol : (gate : Gate) → forms_symbol (gate_name gate) ≡ true
gate_symbol True = refl
gate_symbol False = refl
gate_symbol AndPos = refl
gate_symbol AndNeg = refl
gate_symbol OrPos = refl
gate_symbol OrNeg = refl
gate_symbol Iff1 = refl
gate_symbol Iff2 = refl
gate_symbol Iff3 = refl
gate_symbol Iff4 = refl
gate_symbol Ite1 = refl
gate_symbol Ite2 = refl
gate_symbol Ite3 = refl
gate_symbol Ite4 = refl
gate_symbol Then = refl
gate_symbol Else = refl

plain_rule : (step : Step) → are_short (rule_parts step) ≡ true → ArePlain (rule_parts step)
plain_rule (steps.Input t) h = plain_more _ _ (plain_word (codes "input") refl) (plain_numbers (t.0 ∷ []) h)
plain_rule (steps.Gate gate t place) h =
    plain_more _ _ (plain_word (codes "gate") refl) (plain_more _ _ (plain_word (gate_name gate) (gate_symbol gate)) (plain_numbers (gate_numbers gate t place) h))
plain_rule (steps.Exhaust t) h = plain_more _ _ (plain_word (codes "exhaust") refl) (plain_numbers (t.0 ∷ []) h)
plain_rule (steps.Theory all close) h =
    let first = both_parts (are_short (items_as step_item all)) (is_short (close_item close) && true) h in
    let second = both_parts (is_short (close_item close)) true first.1 in
    plain_more _ _ (plain_word (codes "theory") refl)
    (plain_more _ _ (plain_list _ (plain_all step_item plain_step all first.0))
    (plain_more _ _ (plain_close close second.0) (plain_none)))
plain_rule (steps.Learn hints) h = plain_more _ _ (plain_word (codes "learn") refl) (plain_numbers hints h)

plain_line : (n : ℕ) (line : Line) → is_short (line_item n line) ≡ true → IsPlain (line_item n line)
plain_line n line h =
    let first = both_parts (nat_lt n number_bound) (are_short (items_as literal line.clause) && are_short (rule_parts line.step)) h in
    let second = both_parts (are_short (items_as literal line.clause)) (are_short (rule_parts line.step)) first.1 in
    plain_row (codes "s") _ refl
    (plain_more _ _ (plain_number n first.0) (plain_more _ _ (plain_list _ (plain_all literal plain_literal line.clause second.0)) (plain_rule line.step second.1)))

-- names hold neither of the bytes that no quoted symbol may hold
byte_fits : (b : ℕ) (bar_too slash_too : Bool) → (b == 124) ≡ bar_too → (b == 92) ≡ slash_too → (b ≡ 124 → ⊥) → (b ≡ 92 → ⊥) → is_in_quoted_symbol b ≡ true
byte_fits b true slash_too p q no_bar no_slash = absurd (no_bar (eqb-true b 124 p))
byte_fits b false true p q no_bar no_slash = absurd (no_slash (eqb-true b 92 q))
byte_fits b false false p q no_bar no_slash = rw (p, q) refl

bytes_fit : (bytes : List ℕ) → (HasByte bytes 124 → ⊥) → (HasByte bytes 92 → ⊥) → list_all is_in_quoted_symbol bytes ≡ true
bytes_fit [] no_bar no_slash = refl
bytes_fit (b ∷ bytes) no_bar no_slash =
    rw (byte_fits b (b == 124) (b == 92) refl refl (λ e. no_bar (0, ap (λ x. Some x) e)) (λ e. no_slash (0, ap (λ x. Some x) e)))
    (bytes_fit bytes (λ has. no_bar (suc has.0, has.1)) (λ has. no_slash (suc has.0, has.1)))

name_fits : (bytes : List ℕ) → (IsUnavailable [] bytes → ⊥) → list_all is_in_quoted_symbol bytes ≡ true
name_fits bytes available = bytes_fit bytes (λ has. available (inr (inr (inr (inr (inl has)))))) (λ has. available (inr (inr (inr (inr (inr has))))))

ctor_fits : (names : List (List ℕ)) → slice_get names 0 ≡ Some (codes "true") → slice_get names 1 ≡ Some (codes "false") → AreAvailable (drop 2 names) → (i : ℕ) (bytes : List ℕ) → slice_get names i ≡ Some bytes
    → list_all is_in_quoted_symbol bytes ≡ true
ctor_fits [] p q available i bytes at = absurd (none-some _ p)
ctor_fits (x ∷ []) p q available i bytes at = absurd (none-some _ q)
ctor_fits (x ∷ (y ∷ names)) p q available zero bytes at = subst (λ b. list_all is_in_quoted_symbol b ≡ true) (same_Some _ _ (sym p ∙ at)) refl
ctor_fits (x ∷ (y ∷ names)) p q available (suc zero) bytes at = subst (λ b. list_all is_in_quoted_symbol b ≡ true) (same_Some _ _ (sym q ∙ at)) refl
ctor_fits (x ∷ (y ∷ names)) p q available (suc (suc i)) bytes at = name_fits bytes (available i bytes at)

kind_symbol : (k : TermKind) → forms_symbol (kind_word k) ≡ true
kind_symbol kind.Con = refl
kind_symbol kind.Apply = refl
kind_symbol kind.Sel = refl
kind_symbol kind.Test = refl
kind_symbol kind.Eq = refl
kind_symbol kind.Not = refl
kind_symbol kind.And = refl
kind_symbol kind.Or = refl
kind_symbol kind.Iff = refl
kind_symbol kind.Ite = refl

-- an expression with its names quoted only where they need to be
plain_quoted : (w : List ℕ) (b : Bool) → is_simple w ≡ b → list_all is_in_quoted_symbol w ≡ true → IsPlain (leaf (if b then symbol w else quoted w))
plain_quoted w true e fit = ((both_parts (forms_symbol w) (not (is_reserved w)) e).0, refl)
plain_quoted w false e fit = (fit, ap (λ (b : Bool). leaf (if b then symbol w else quoted w)) e)

mutual
  plain_canonical : (e : Expression) → IsReadable e → IsPlain (canonical e)
  plain_canonical (leaf (symbol w)) form = (form, refl)
  plain_canonical (leaf (quoted w)) form = plain_quoted w (is_simple w) refl form
  plain_canonical (leaf (keyword w)) form = (form, refl)
  plain_canonical (leaf (text w)) form = (form, refl)
  plain_canonical (leaf (numeral n)) form = (form, refl)
  plain_canonical (leaf (decimal w)) form = (form, refl)
  plain_canonical (leaf (binary w)) form = (form, refl)
  plain_canonical (leaf (hexadecimal w)) form = (form, refl)
  plain_canonical (list es) form = plain_list (canonical_each es) (plain_canonical_each es form)

  plain_canonical_each : (es : Expressions) → AreReadable es → ArePlain (canonical_each es)
  plain_canonical_each none form = plain_none
  plain_canonical_each (more e es) form = plain_more (canonical e) (canonical_each es) (plain_canonical e form.0) (plain_canonical_each es form.1)

-- what the texts of expressions tell
pub record TextTheorems : Type 0 where
  pub same_text : (e f : Expression) → IsReadable e → IsReadable f → (written e ≡ written f) ↔ (canonical e ≡ canonical f)
  pub one_name : (a : Atom) → name_of_atom (canonical_atom a) ≡ name_of_atom a

module _ (theorems : TextTheorems) (d : Declarations) (consistent : IsConsistent d) where
  plain_named : (bytes : List ℕ) (ns : List ℕ) → list_all is_in_quoted_symbol bytes ≡ true → are_short (more (name bytes) (numbers ns)) ≡ true → ArePlain (more (name bytes) (numbers ns))
  plain_named bytes ns fit h =
      let parts = both_parts (is_short (name bytes)) (are_short (numbers ns)) h in
      plain_more (name bytes) (numbers ns) (plain_name bytes fit) (plain_numbers ns parts.1)

  ctor_name_fits : (c : ℕ) → c < length d.ctors → list_all is_in_quoted_symbol (unwrap_or (slice_get (ctor_names d) c) []) ≡ true
  ctor_name_fits c within = ctor_fits (ctor_names d) (true_name d consistent) (false_name d consistent) consistent.ctors_available c _ (name_there (λ x. x.name) d.ctors c within)

  plain_sort : (s : SortId) → IsSort d s → IsPlain (sort_item d s)
  plain_sort s within =
      plain_canonical (as_written d.declared.heads (origin_of d s)) (readable theorems.same_text theorems.one_name d (base_of d consistent) (origin_of d s) 0 (consistent.origins.sorts s.0 (origin_of d s) (origin_at d consistent s within)))

  plain_ctor : (c : CtorId) → c.0 < length d.ctors → IsPlain (ctor_item d c)
  plain_ctor c within = by (is_ctor_determined d c)
    where
      alone : IsPlain (name (unwrap_or (slice_get (ctor_names d) c.0) []))
      alone = plain_name (unwrap_or (slice_get (ctor_names d) c.0) []) (ctor_name_fits c.0 within)

      by : (b : Bool) → IsPlain (if b then name (unwrap_or (slice_get (ctor_names d) c.0) []) else qualified_item d c)
      by true = alone
      by false = plain_row (codes "as") _ refl (plain_more _ _ alone (plain_more _ _ (plain_sort (sort_of_ctor d c) (sort_of_ctor_within d consistent c within)) plain_none))

  plain_con : (c : CtorId) (ns : List ℕ) → c.0 < length d.ctors → are_short (more (ctor_item d c) (numbers ns)) ≡ true → ArePlain (more (ctor_item d c) (numbers ns))
  plain_con c ns within h =
      let parts = both_parts (is_short (ctor_item d c)) (are_short (numbers ns)) h in
      plain_more (ctor_item d c) (numbers ns) (plain_ctor c within) (plain_numbers ns parts.1)

  plain_core : (core : Core) → IsNamed d core → are_short (core_parts d core) ≡ true → ArePlain (core_parts d core)
  plain_core (cores.Con c args) is h = plain_con c (term_numbers args) is h
  plain_core (cores.Sel s t) is h = plain_named (unwrap_or (slice_get (sel_names d) s.0) []) (t.0 ∷ []) (name_fits (unwrap_or (slice_get (sel_names d) s.0) []) (consistent.sels_available s.0 (unwrap_or (slice_get (sel_names d) s.0) []) (name_there (λ x. x.name) d.sels s.0 is))) h
  plain_core (cores.Test c t) is h = plain_con c (t.0 ∷ []) is h
  plain_core (cores.Apply f args) is h = plain_named (unwrap_or (slice_get (function_names d) f.0) []) (term_numbers args) (name_fits (unwrap_or (slice_get (function_names d) f.0) []) (consistent.available f.0 (unwrap_or (slice_get (function_names d) f.0) []) (name_there (λ x. x.name) d.functions f.0 is))) h
  plain_core (cores.Eq a b) is h = plain_numbers (a.0 ∷ (b.0 ∷ [])) h
  plain_core (cores.Not t) is h = plain_numbers (t.0 ∷ []) h
  plain_core (cores.And args) is h = plain_numbers (term_numbers args) h
  plain_core (cores.Or args) is h = plain_numbers (term_numbers args) h
  plain_core (cores.Iff a b) is h = plain_numbers (a.0 ∷ (b.0 ∷ [])) h
  plain_core (cores.Ite c a b) is h = plain_numbers (c.0 ∷ (a.0 ∷ (b.0 ∷ []))) h

  plain_term : (n : ℕ) (core : Core) → IsNamed d core → is_short (term_item d n core) ≡ true → IsPlain (term_item d n core)
  plain_term n core is h =
      let first = both_parts (nat_lt n number_bound) (is_short (word (kind_word (kind_of core))) && are_short (core_parts d core)) h in
      let second = both_parts (is_short (word (kind_word (kind_of core)))) (are_short (core_parts d core)) first.1 in
      plain_row (codes "t") _ refl (plain_more _ _ (plain_number n first.0) (plain_more _ _ (plain_word (kind_word (kind_of core)) (kind_symbol (kind_of core))) (plain_core core is second.1)))

  plain_lines : (n : ℕ) (lines : List Line) (after : Expressions) → are_short (line_items n lines after) ≡ true → (are_short after ≡ true → ArePlain after) → ArePlain (line_items n lines after)
  plain_lines n [] after h plain = plain h
  plain_lines n (line ∷ lines) after h plain =
      let parts = both_parts (is_short (line_item n line)) (are_short (line_items (n + 1) lines after)) h in
      plain_more _ _ (plain_line n line parts.0) (plain_lines (n + 1) lines after parts.1 plain)

  plain_terms : (n : ℕ) (terms : Terms) (after : Expressions) → ((t : ℕ) (entry : Core × SortId) → slice_get terms t ≡ Some entry → IsNamed d entry.0) → are_short (term_items d n terms after) ≡ true
      → (are_short after ≡ true → ArePlain after) → ArePlain (term_items d n terms after)
  plain_terms n [] after is h plain = plain h
  plain_terms n ((core, sort) ∷ terms) after is h plain =
      let parts = both_parts (is_short (term_item d n core)) (are_short (term_items d (n + 1) terms after)) h in
      plain_more _ _ (plain_term n core (is 0 (core, sort) refl) parts.0) (plain_terms (n + 1) terms after (λ t entry at. is (suc t) entry at) parts.1 plain)

  plain_end : (m : ℕ) → are_short (more (end_item m) none) ≡ true → ArePlain (more (end_item m) none)
  plain_end m h = let parts = both_parts (are_short (numbers (m ∷ []))) true h in plain_more _ _ (plain_row (codes "end") _ refl (plain_numbers (m ∷ []) parts.0)) (plain_none)

  -- the expression of a record
  pub plain_record : (k : ℕ) (rec : Recorded) → CanBeRead d k rec
      → IsReadable (expression_of_record d k rec) × (canonical (expression_of_record d k rec) ≡ expression_of_record d k rec)
  plain_record k rec can =
      let last = more (end_item (length rec.lines)) none in
      let lines = line_items 1 rec.lines last in
      let first = both_parts (are_short (numbers (k ∷ []))) (are_short (term_items d 0 rec.terms lines)) can.short in
      plain_list _ (plain_more _ _ (plain_row (codes "cosmt-derivation") _ refl (plain_numbers (k ∷ []) first.0))
      (plain_terms 0 rec.terms lines (λ t entry at. named d rec.terms entry.0 entry.1 (can.sorted t entry.0 entry.1 at)) first.1
      (λ h. plain_lines 1 rec.lines last h (plain_end (length rec.lines)))))
