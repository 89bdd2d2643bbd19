-- What stands at the head of a list, step by step: forms with reserved words, symbols, testers and what `as` qualifies.
use Rattle.std.proofs.Common.{◌≡◌, ℕ, ◌==◌, ◌&&◌, Bool, true, false, not, List, length, ◌⊎◌, inl, inr, Option, Some, is_some, Ok, Err, codes, if◌then◌else◌, refl, sym, ◌∙◌, ap, ap₂, subst}
use Rattle.std.specs.Str.{bytes_eq}
use Rattle.std.proofs.lemmas.Bool.Decides.{Decides-eqb}
use Rattle.ct_lemmas.proofs.Booleans.{both_parts, not_true}
use Rattle.ct_sexpr.specs.Expression.{Expression, Expressions}
use Rattle.ct_sorts.specs.declared.ids.SortId.{SortId}
use Rattle.ct_sorts.specs.declared.ids.CtorId.{CtorId}
use Rattle.ct_sorts.specs.declared.ids.SelId.{SelId}
use Rattle.ct_sorts.specs.declared.ids.FunId.{FunId}
use Rattle.ct_sorts.specs.declared.ids.DefId.{DefId}
use Rattle.ct_sorts.specs.declared.ids.GenId.{GenId}
use Rattle.ct_sorts.specs.declared.ids.Symbol.{Symbol}
use Rattle.ct_sorts.specs.declared.ids.Symbol.TheVariants.{Ctor, Sel, Fun, Def}
use Rattle.ct_sorts.specs.Consistent.{IsConsistent}
use Rattle.ct_sorts.specs.Declarations.{Declarations, IsConstructor}
use Rattle.ct_sorts.specs.Lookup.{IsSymbol}
use Rattle.ct_instances.specs.declared.among.NamedCtor.{NamedCtor}
use Rattle.ct_instances.specs.declared.among.NamedCtor.TheVariants.{Plain}
use Rattle.ct_instances.specs.Among.{IsNamedCtor}
use Rattle.ct_instances.specs.Fields.{generic_fields, is_determined}
use Rattle.ct_formulas.specs.declared.tree.Quantifier.TheVariants.{Forall, Exists}
use Rattle.ct_names.specs.Needs.{Grows, Reaches, as_they_are}
use Rattle.ct_names.specs.Outcome.{Outcome, Elaborated, Sorted, and_then, unless_halted, step, refused}
use Rattle.ct_names.specs.Parts.{Part, Parts, with_part, no_parts, count, name_of}
use Rattle.ct_names.specs.Refusals.{undetermined, unknown_symbol, wrong_count, out_of_scope}
use Rattle.ct_names.specs.Sorts.{sort_of, sort_of_part}
use Rattle.ct_names.specs.Symbols.{symbol_of, argument_sorts}
use Rattle.ct_names.specs.Variables.{Variable, find}
use Rattle.ct_names.specs.Elaboration.{part_of, parts_of, lone_symbol, let_form, match_form, quantified_form, annotated, reserved, applied_symbol, applied_plain, generic_ctor, tested_term, qualified_name, qualified_symbol, may_qualify, of_result, tester}
use Rattle.ct_names.proofs.LastingLemmas.{arguments_same, generic_fields_same, determined_same}
use Rattle.ct_names.proofs.NeedLemmas.{begins_within}
use Rattle.ct_names.proofs.StayLemmas.{stays_step, count_same, expression_same}
use Rattle.ct_names.proofs.StayPatterns.{qualify_stays}
use Rattle.ct_check.specs.declared.callees.Callee.TheVariants.{Symbol as SymbolOf, Tester}
use Rattle.ct_check.specs.Callees.{called}
use Rattle.ct_check.specs.GenericTerms.{generic_term}
use Rattle.ct_check.proofs.HeadLemmas.{plain-called, tester-called}
use Rattle.ct_check.proofs.QualifiedLemmas.{qualified_symbol_stays, tester_stays}

-- the declarations stay as they are
pub reaches_itself : {X : Type 0} (f : Declarations → Elaborated X) (d : Declarations) → Reaches f d d
reaches_itself f d = as_they_are d

-- ---- a symbol of stated sorts

-- one of the symbols that have stated sorts
abbrev IsPlain : Symbol → Type 0
IsPlain s = ((k : CtorId) × (s ≡ Ctor k)) ⊎ (((k : SelId) × (s ≡ Sel k)) ⊎ (((k : FunId) × (s ≡ Fun k)) ⊎ ((k : DefId) × (s ≡ Def k))))

pub plain_is : (d : Declarations) (scope : List Variable) (s : Symbol) (ps : Parts) → IsPlain s → applied_symbol d scope s ps ≡ applied_plain d scope s ps
plain_is d scope s ps (inl is) = subst (λ (x : Symbol). applied_symbol d scope x ps ≡ applied_plain d scope x ps) (sym is.1) refl
plain_is d scope s ps (inr (inl is)) = subst (λ (x : Symbol). applied_symbol d scope x ps ≡ applied_plain d scope x ps) (sym is.1) refl
plain_is d scope s ps (inr (inr (inl is))) = subst (λ (x : Symbol). applied_symbol d scope x ps ≡ applied_plain d scope x ps) (sym is.1) refl
plain_is d scope s ps (inr (inr (inr is))) = subst (λ (x : Symbol). applied_symbol d scope x ps ≡ applied_plain d scope x ps) (sym is.1) refl

-- not both are none
pub not_both : (a b : ℕ) → ((a ≡ 0) × (b ≡ 0 → ⊥)) ⊎ (a ≡ 0 → ⊥) → ((a == 0) && (b == 0)) ≡ false
not_both a b (inl h) = not_true ((a == 0) && (b == 0)) (λ t. h.1 ((Decides-eqb b 0).0 (both_parts (a == 0) (b == 0) t).1))
not_both a b (inr h) = not_true ((a == 0) && (b == 0)) (λ t. h ((Decides-eqb a 0).0 (both_parts (a == 0) (b == 0) t).0))

same_test : (a b : ℕ) → a ≡ b → (a == b) ≡ true
same_test a b e = (Decides-eqb a b).1 e

module _ (later d : Declarations) (grows : Grows later d) (c : IsConsistent d) where
  pub plain_later : (scope : List Variable) (s : Symbol) (es : Expressions) (wanted args : ℕ) → IsSymbol d s → wanted ≡ length (argument_sorts d s) → ((wanted == 0) && (args == 0)) ≡ false → wanted ≡ args → count (parts_of d es) ≡ args → applied_plain later scope s (parts_of later es) ≡ called later scope (SymbolOf s) (parts_of later es)
  plain_later scope s es wanted args is own some same n =
      let long : length (argument_sorts later s) ≡ wanted = ap (λ (sorts : List SortId). length sorts) (arguments_same later d grows c s is) ∙ sym own in
      let number : count (parts_of later es) ≡ args = count_same later d es ∙ n in
      plain-called later scope s (parts_of later es) (ap₂ (λ (x y : ℕ). (x == 0) && (y == 0)) long number ∙ some) (long ∙ same ∙ sym number)

  -- a constructor of a generic with as many arguments as it has fields
  pub generic_later : (scope : List Variable) (g : GenId) (i : ℕ) (es : Expressions) (args : ℕ) → is_determined d g i ≡ true → length (generic_fields d g i) ≡ args → count (parts_of d es) ≡ args → generic_ctor later scope g i (parts_of later es) ≡ generic_term later scope g i (parts_of later es)
  generic_later scope g i es args determined long n =
      ap₂ (λ (x y : Bool). unless_halted x undetermined (unless_halted y wrong_count (generic_term later scope g i (parts_of later es))))
      (determined_same later d grows c g i ∙ determined)
      (same_test (length (generic_fields later g i)) (count (parts_of later es)) (ap length (generic_fields_same later d grows c g i) ∙ long ∙ sym (count_same later d es ∙ n)))

  -- what `as` qualifies, at the head of a list with arguments
  pub whole_later : (scope : List Variable) (es : Expressions) (s : Symbol) → qualified_symbol d scope (parts_of d es) ≡ Ok s → and_then (qualified_symbol later scope (parts_of later es)) (lone_symbol later) ≡ lone_symbol later s
  whole_later scope es s is = ap (λ (o : Elaborated Symbol). and_then o (lone_symbol later)) (qualified_symbol_stays later d grows c scope es s is).0

  pub as_later : (scope : List Variable) (head es : Expressions) (s : Symbol) → qualified_symbol d scope (parts_of d head) ≡ Ok s → and_then (qualified_symbol later scope (parts_of later head)) (λ x. applied_symbol later scope x (parts_of later es)) ≡ applied_symbol later scope s (parts_of later es)
  as_later scope head es s is = ap (λ (o : Elaborated Symbol). and_then o (λ x. applied_symbol later scope x (parts_of later es))) (qualified_symbol_stays later d grows c scope head s is).0

  pub tester_later : (scope : List Variable) (head es : Expressions) (k : NamedCtor) → step (tester d (parts_of d head)) ≡ Ok k → and_then (step (tester later (parts_of later head))) (λ x. tested_term later scope x (parts_of later es)) ≡ tested_term later scope k (parts_of later es)
  tester_later scope head es k is = ap (λ (o : Elaborated NamedCtor). and_then o (λ x. tested_term later scope x (parts_of later es))) (stays_step (IsNamedCtor d) (tester d (parts_of d head)) (tester later (parts_of later head)) (tester_stays later d grows c head) k is).0

-- a tester of a sort declared without parameters
pub tester_plain_later : (later d : Declarations) → Grows later d → (scope : List Variable) (k : CtorId) (es : Expressions) → IsConstructor d k → count (parts_of d es) ≡ 1 → tested_term later scope (Plain k) (parts_of later es) ≡ called later scope (Tester k) (parts_of later es)
tester_plain_later later d grows scope k es is n = tester-called later scope k (parts_of later es) (begins_within d.ctors later.ctors grows.extends.ctors k.0 is) (count_same later d es ∙ n)

-- a constructor of a generic that is refused
module _ (d : Declarations) (scope : List Variable) (g : GenId) (i : ℕ) (ps : Parts) where
  pub generic_undetermined : is_determined d g i ≡ false → generic_ctor d scope g i ps ≡ Err (refused undetermined)
  generic_undetermined e = ap (λ (b : Bool). unless_halted b undetermined (unless_halted (length (generic_fields d g i) == count ps) wrong_count (generic_term d scope g i ps))) e

  pub generic_count : is_determined d g i ≡ true → (length (generic_fields d g i) == count ps) ≡ false → generic_ctor d scope g i ps ≡ Err (refused wrong_count)
  generic_count e f = ap₂ (λ (x y : Bool). unless_halted x undetermined (unless_halted y wrong_count (generic_term d scope g i ps))) e f

-- ---- forms with reserved words

module _ (d : Declarations) (scope : List Variable) (ps : Parts) where
  abbrev pub by_word : Bool → Bool → Bool → Bool → Bool → Bool → Elaborated Sorted
  by_word a b c e f g =
      if a then let_form d scope ps else
      (if b then match_form d scope ps else
      (if c then annotated d scope ps else
      (if e then and_then (qualified_symbol d scope ps) (lone_symbol d) else
      (if f then quantified_form d scope Forall ps else
      (if g then quantified_form d scope Exists ps else Err (refused out_of_scope))))))

  pub reserved_is : (w : List ℕ) (a b c e f g : Bool) → bytes_eq w (codes "let") ≡ a → bytes_eq w (codes "match") ≡ b → bytes_eq w (codes "!") ≡ c → bytes_eq w (codes "as") ≡ e → bytes_eq w (codes "forall") ≡ f → bytes_eq w (codes "exists") ≡ g → reserved d scope w ps ≡ by_word a b c e f g
  reserved_is w a b c e f g p q r s u v =
      ap (λ (x : Bool). by_word x (bytes_eq w (codes "match")) (bytes_eq w (codes "!")) (bytes_eq w (codes "as")) (bytes_eq w (codes "forall")) (bytes_eq w (codes "exists"))) p
      ∙ ap (λ (x : Bool). by_word a x (bytes_eq w (codes "!")) (bytes_eq w (codes "as")) (bytes_eq w (codes "forall")) (bytes_eq w (codes "exists"))) q
      ∙ ap (λ (x : Bool). by_word a b x (bytes_eq w (codes "as")) (bytes_eq w (codes "forall")) (bytes_eq w (codes "exists"))) r
      ∙ ap (λ (x : Bool). by_word a b c x (bytes_eq w (codes "forall")) (bytes_eq w (codes "exists"))) s
      ∙ ap (λ (x : Bool). by_word a b c e x (bytes_eq w (codes "exists"))) u
      ∙ ap (λ (x : Bool). by_word a b c e f x) v

-- ---- `(as f S)`, by f and S

module _ (d : Declarations) (scope : List Variable) (f sort : Part) where
  abbrev two_parts : Parts
  two_parts = with_part f (with_part sort no_parts)

  abbrev after_symbol : Symbol → Elaborated Symbol
  after_symbol s = and_then (sort_of_part d sort) (λ t. step (of_result d s t))

  abbrev after_name : Outcome Symbol → Elaborated Symbol
  after_name o = and_then (step o) after_symbol

  pub qualified_named : (name : List ℕ) → name_of f ≡ Some name → is_some (find scope name) ≡ false → qualified_symbol d scope two_parts ≡ and_then (step (may_qualify (symbol_of d name))) (λ s. and_then (sort_of_part d sort) (λ t. step (of_result d s t)))
  qualified_named name e is = ap (λ (o : Option (List ℕ)). qualified_name d scope o sort) e ∙ ap (λ (b : Bool). unless_halted (not b) unknown_symbol (after_name (may_qualify (symbol_of d name)))) is

  qualified_sort : (name : List ℕ) (s : Symbol) → name_of f ≡ Some name → is_some (find scope name) ≡ false → step (may_qualify (symbol_of d name)) ≡ Ok s → qualified_symbol d scope two_parts ≡ and_then (sort_of_part d sort) (λ t. step (of_result d s t))
  qualified_sort name s e is may = qualified_named name e is ∙ ap (λ (o : Elaborated Symbol). and_then o after_symbol) may

-- the same where more sorts are there
module _ (old : Declarations) (c : IsConsistent old) (scope : List Variable) (f e : Expression) (name : List ℕ) (s : Symbol) (is_name : (d : Declarations) → name_of (part_of d f) ≡ Some name) (free : is_some (find scope name) ≡ false) (may : step (may_qualify (symbol_of old name)) ≡ Ok s) where
  pub qualified_at : (d : Declarations) → Grows d old → qualified_symbol d scope (with_part (part_of d f) (with_part (part_of d e) no_parts)) ≡ and_then (sort_of d e) (λ t. step (of_result d s t))
  qualified_at d grows =
      qualified_sort d scope (part_of d f) (part_of d e) name s (is_name d) free (stays_step (IsSymbol old) (may_qualify (symbol_of old name)) (may_qualify (symbol_of d name)) (qualify_stays d old grows c name) s may).0
      ∙ ap (λ (o : Elaborated SortId). and_then o (λ t. step (of_result d s t))) (ap (sort_of d) (expression_same d e))
