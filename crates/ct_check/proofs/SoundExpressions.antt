-- The formula of every expression is well sorted.
use Rattle.std.proofs.Common.{◌≡◌, ℕ, Bool, true, false, not, List, Option, Some, None, is_some, codes, Ok, Err, refl, ap, subst, if◌then◌else◌}
use Rattle.std.specs.Str.{bytes_eq}
use Rattle.std.proofs.lemmas.Option.{slice_get_within}
use Rattle.ct_sexpr.specs.Atom.{Atom, symbol, quoted, keyword, text, numeral, decimal, binary, hexadecimal}
use Rattle.ct_sexpr.specs.Expression.{Expression, Expressions, leaf, list, none, more}
use Rattle.ct_sexpr.specs.Written.{is_reserved}
use Rattle.ct_sorts.specs.declared.ids.SortId.{SortId}
use Rattle.ct_sorts.specs.declared.ids.CtorId.{CtorId}
use Rattle.ct_sorts.specs.declared.ids.Symbol.{Symbol}
use Rattle.ct_sorts.specs.declared.ids.Symbol.TheVariants.{Ctor, Sel, Fun, Def, GenCtor, GenSel}
use Rattle.ct_sorts.specs.Declarations.{Declarations}
use Rattle.ct_sorts.specs.Lookup.{IsSymbol}
use Rattle.ct_instances.specs.declared.among.NamedCtor.{NamedCtor}
use Rattle.ct_instances.specs.declared.among.NamedCtor.TheVariants.{Generic}
use Rattle.ct_instances.specs.Among.{ctor_among}
use Rattle.ct_formulas.specs.declared.tree.Quantifier.{Quantifier}
use Rattle.ct_formulas.specs.declared.tree.Quantifier.TheVariants.{Forall, Exists}
use Rattle.ct_names.specs.declared.operator.CoreOperator.{CoreOperator}
use Rattle.ct_names.specs.Refusals.{unknown_symbol, wrong_count, wrong_sort, out_of_scope}
use Rattle.ct_names.specs.Outcome.{Sorted, and_then, unless_refused, step, refused, is_sort}
use Rattle.ct_names.specs.Symbols.{symbol_of, operator_of, tester_named, result_sort}
use Rattle.ct_names.specs.Variables.{Variable, ScopeIn, find, variable_sorts}
use Rattle.ct_names.specs.Forms.{is_word, are_attributes}
use Rattle.ct_names.specs.Parts.{Part, Parts, atom_part, list_part, no_parts, with_part, count, name_of}
use Rattle.ct_names.specs.Elaboration.{meaning_of_part, takes, operated, applied_symbol, global, application, let_form, match_form, quantified_form, annotated, lone_symbol, may_qualify, of_instance, of_result, qualified_name, qualified_symbol, tester, tested_term, tested_by_name, qualified, reserved, headed, list_meaning, part_of, parts_of, elaborated}
use Rattle.ct_names.specs.Sorts.{sort_of_part}
use Rattle.ct_names.proofs.LastingLemmas.{symbol_inside}
use Rattle.ct_names.proofs.NeedLemmas.{grows_itself}
use Rattle.ct_names.proofs.StayTerms.{elaborated_stays}
use Rattle.ct_check.proofs.Inversions.{and_then-inverse, unless-inverse, halted-inverse, step-inverse, same_value}
use Rattle.ct_check.proofs.SymbolSorts.{Theorems}
use Rattle.ct_check.proofs.SoundLemmas.{IsSoundPart, AreSoundParts, HasOwnSort, meaning_sound, lone_symbol_sound}
use Rattle.ct_check.proofs.SoundForms.{operated_sound, applied_sound, bound_sound}
use Rattle.ct_check.proofs.SoundQuantifiers.{quantified_sound}
use Rattle.ct_check.proofs.SoundGenerics.{generic_ctor_sound, generic_sel_sound, tested_term_sound}
use Rattle.ct_check.proofs.SoundMatch.{cases_of_sound}
use Rattle.ct_check.proofs.SoundPatterns.{among_of}

module _ (d : Declarations) (theorems : Theorems d) where
  -- a symbol that a name stands for is declared
  named_inside : (name : List ℕ) (s : Symbol) → symbol_of d name ≡ Some s → IsSymbol d s
  named_inside name s is = symbol_inside d d (grows_itself d) theorems.consistent name s is

  qualifies : (o : Option Symbol) (s : Symbol) → may_qualify o ≡ Ok s → o ≡ Some s
  qualifies None s e = absurd cc
  qualifies (Some (Sel x)) s e = absurd cc
  qualifies (Some (GenSel g i k)) s e = absurd cc
  qualifies (Some (Ctor x)) s e = ap (λ (r : Symbol). Some r) (same_value (Ctor x) s e)
  qualifies (Some (Fun x)) s e = ap (λ (r : Symbol). Some r) (same_value (Fun x) s e)
  qualifies (Some (Def x)) s e = ap (λ (r : Symbol). Some r) (same_value (Def x) s e)
  qualifies (Some (GenCtor g i)) s e = ap (λ (r : Symbol). Some r) (same_value (GenCtor g i) s e)

  -- the symbol of `(as f S)` is declared
  instance_inside : (t : SortId) (k : NamedCtor) (o : Option CtorId) → ctor_among d k t ≡ o → (r : Symbol) → of_instance o ≡ Ok r → IsSymbol d r
  instance_inside t k None is r e = absurd cc
  instance_inside t k (Some c) is r e =
      let of = among_of d theorems t k c is in
      subst (λ (x : Symbol). IsSymbol d x) (same_value (Ctor c) r e) (slice_get_within d.ctors c.0 of.ctor of.at)

  plain_inside : (s : Symbol) → IsSymbol d s → (t : SortId) (r : Symbol) → unless_refused (is_sort (result_sort d s) t) wrong_sort (Ok s) ≡ Ok r → IsSymbol d r
  plain_inside s inside t r e = subst (λ (x : Symbol). IsSymbol d x) (same_value s r (unless-inverse (is_sort (result_sort d s) t) wrong_sort (Ok s) r e).1) inside

  result_inside : (s : Symbol) → IsSymbol d s → (t : SortId) (r : Symbol) → of_result d s t ≡ Ok r → IsSymbol d r
  result_inside (GenCtor g i) inside t r e = instance_inside t (Generic g i) (ctor_among d (Generic g i) t) refl r e
  result_inside (Ctor c) inside t r e = plain_inside (Ctor c) inside t r e
  result_inside (Sel x) inside t r e = plain_inside (Sel x) inside t r e
  result_inside (Fun f) inside t r e = plain_inside (Fun f) inside t r e
  result_inside (Def k) inside t r e = plain_inside (Def k) inside t r e
  result_inside (GenSel g i k) inside t r e = plain_inside (GenSel g i k) inside t r e

  qualified_name_inside : (scope : List Variable) (name : Option (List ℕ)) (sort : Part) (s : Symbol) → qualified_name d scope name sort ≡ Ok s → IsSymbol d s
  qualified_name_inside scope None sort s e = absurd cc
  qualified_name_inside scope (Some name) sort s e =
      let hidden = halted-inverse (not (is_some (find scope name))) unknown_symbol _ s e in
      let found = and_then-inverse (step (may_qualify (symbol_of d name))) _ s hidden.1 in
      let wanted = and_then-inverse (sort_of_part d sort) (λ t. step (of_result d found.0 t)) s found.2 in
      result_inside found.0 (named_inside name found.0 (qualifies (symbol_of d name) found.0 (step-inverse (may_qualify (symbol_of d name)) found.0 found.1))) wanted.0 s
      (step-inverse (of_result d found.0 wanted.0) s wanted.2)

  qualified_symbol_inside : (scope : List Variable) (ps : Parts) (s : Symbol) → qualified_symbol d scope ps ≡ Ok s → IsSymbol d s
  qualified_symbol_inside scope (with_part f (with_part sort no_parts)) s e = qualified_name_inside scope (name_of f) sort s e
  qualified_symbol_inside scope no_parts s e = absurd cc
  qualified_symbol_inside scope (with_part f no_parts) s e = absurd cc
  qualified_symbol_inside scope (with_part f (with_part sort (with_part p ps))) s e = absurd cc

  module _ (scope : List Variable) (inside : ScopeIn d scope) where
    symbol_sound : (s : Symbol) → IsSymbol d s → (ps : Parts) → AreSoundParts d ps → (t : Sorted) → applied_symbol d scope s ps ≡ Ok t → HasOwnSort d (variable_sorts scope) t
    symbol_sound (GenCtor g i) is ps sound t e = generic_ctor_sound d theorems scope inside g i is ps sound t e
    symbol_sound (GenSel g i k) is ps sound t e = generic_sel_sound d theorems scope inside g i k ps sound t e
    symbol_sound (Ctor c) is ps sound t e = applied_sound d theorems scope inside (Ctor c) tt is ps sound t e
    symbol_sound (Sel x) is ps sound t e = applied_sound d theorems scope inside (Sel x) tt is ps sound t e
    symbol_sound (Fun f) is ps sound t e = applied_sound d theorems scope inside (Fun f) tt is ps sound t e
    symbol_sound (Def k) is ps sound t e = applied_sound d theorems scope inside (Def k) tt is ps sound t e

    qualified_sound : (head : Parts) (ps : Parts) → AreSoundParts d ps → (t : Sorted) → qualified d scope head ps ≡ Ok t → HasOwnSort d (variable_sorts scope) t
    qualified_sound no_parts ps sound t e = absurd cc
    qualified_sound (with_part word head) ps sound t e = by (is_word (codes "_") word) refl
      where
        as_symbol : (b : Bool) → (if b then and_then (qualified_symbol d scope head) (λ s. applied_symbol d scope s ps) else Err (refused out_of_scope)) ≡ Ok t → HasOwnSort d (variable_sorts scope) t
        as_symbol true f =
            let s = and_then-inverse (qualified_symbol d scope head) (λ s. applied_symbol d scope s ps) t f in
            symbol_sound s.0 (qualified_symbol_inside scope head s.0 s.1) ps sound t s.2
        as_symbol false f = absurd cc

        by : (b : Bool) → is_word (codes "_") word ≡ b → HasOwnSort d (variable_sorts scope) t
        by true is =
            let f : and_then (step (tester d head)) (λ k. tested_term d scope k ps) ≡ Ok t = rw is at e in
            let k = and_then-inverse (step (tester d head)) (λ k. tested_term d scope k ps) t f in
            tested_term_sound d theorems scope inside k.0 ps sound t k.2
        by false is = as_symbol (is_word (codes "as") word) (rw is at e)

    let_sound : (ps : Parts) → AreSoundParts d ps → (t : Sorted) → let_form d scope ps ≡ Ok t → HasOwnSort d (variable_sorts scope) t
    let_sound (with_part (list_part bindings m) (with_part body no_parts)) sound t e = bound_sound d theorems scope inside bindings body sound.0.0 sound.1.0 t e
    let_sound no_parts sound t e = absurd cc
    let_sound (with_part (atom_part a) ps) sound t e = absurd cc
    let_sound (with_part (list_part bindings m) no_parts) sound t e = absurd cc
    let_sound (with_part (list_part bindings m) (with_part body (with_part p ps))) sound t e = absurd cc

    quantifier_sound : (q : Quantifier) (ps : Parts) → AreSoundParts d ps → (t : Sorted) → quantified_form d scope q ps ≡ Ok t → HasOwnSort d (variable_sorts scope) t
    quantifier_sound q (with_part (list_part bindings m) (with_part body no_parts)) sound t e = quantified_sound d theorems scope inside q bindings body sound.1.0 t e
    quantifier_sound q no_parts sound t e = absurd cc
    quantifier_sound q (with_part (atom_part a) ps) sound t e = absurd cc
    quantifier_sound q (with_part (list_part bindings m) no_parts) sound t e = absurd cc
    quantifier_sound q (with_part (list_part bindings m) (with_part body (with_part p ps))) sound t e = absurd cc

    match_sound : (ps : Parts) → AreSoundParts d ps → (t : Sorted) → match_form d scope ps ≡ Ok t → HasOwnSort d (variable_sorts scope) t
    match_sound (with_part p (with_part (list_part cases m) no_parts)) sound t e = cases_of_sound d theorems scope inside p cases sound.0 sound.1.0.0 t e
    match_sound no_parts sound t e = absurd cc
    match_sound (with_part p no_parts) sound t e = absurd cc
    match_sound (with_part p (with_part (atom_part a) ps)) sound t e = absurd cc
    match_sound (with_part p (with_part (list_part cases m) (with_part q ps))) sound t e = absurd cc

    annotated_sound : (ps : Parts) → AreSoundParts d ps → (t : Sorted) → annotated d scope ps ≡ Ok t → HasOwnSort d (variable_sorts scope) t
    annotated_sound no_parts sound t e = absurd cc
    annotated_sound (with_part p attributes) sound t e =
        meaning_sound d theorems scope inside p sound.0 t (halted-inverse (are_attributes attributes) out_of_scope (meaning_of_part d scope p) t e).1

    -- `(as f S)` that stands alone
    whole_sound : (ps : Parts) (t : Sorted) → and_then (qualified_symbol d scope ps) (lone_symbol d) ≡ Ok t → HasOwnSort d (variable_sorts scope) t
    whole_sound ps t e =
        let s = and_then-inverse (qualified_symbol d scope ps) (lone_symbol d) t e in
        lone_symbol_sound d theorems (variable_sorts scope) s.0 (qualified_symbol_inside scope ps s.0 s.1) t s.2

    reserved_sound : (w : List ℕ) (ps : Parts) → AreSoundParts d ps → (t : Sorted) → reserved d scope w ps ≡ Ok t → HasOwnSort d (variable_sorts scope) t
    reserved_sound w ps sound t e = by_let (bytes_eq w (codes "let")) e
      where
        by_exists : (b : Bool) → (if b then quantified_form d scope Exists ps else Err (refused out_of_scope)) ≡ Ok t → HasOwnSort d (variable_sorts scope) t
        by_exists true f = quantifier_sound Exists ps sound t f
        by_exists false f = absurd cc

        by_forall : (b : Bool) → (if b then quantified_form d scope Forall ps else (if bytes_eq w (codes "exists") then quantified_form d scope Exists ps else Err (refused out_of_scope))) ≡ Ok t → HasOwnSort d (variable_sorts scope) t
        by_forall true f = quantifier_sound Forall ps sound t f
        by_forall false f = by_exists (bytes_eq w (codes "exists")) f

        by_as : (b : Bool) → (if b then and_then (qualified_symbol d scope ps) (lone_symbol d) else (if bytes_eq w (codes "forall") then quantified_form d scope Forall ps else (if bytes_eq w (codes "exists") then quantified_form d scope Exists ps else Err (refused out_of_scope)))) ≡ Ok t → HasOwnSort d (variable_sorts scope) t
        by_as true f = whole_sound ps t f
        by_as false f = by_forall (bytes_eq w (codes "forall")) f

        by_bang : (b : Bool) → (if b then annotated d scope ps else (if bytes_eq w (codes "as") then and_then (qualified_symbol d scope ps) (lone_symbol d) else (if bytes_eq w (codes "forall") then quantified_form d scope Forall ps else (if bytes_eq w (codes "exists") then quantified_form d scope Exists ps else Err (refused out_of_scope))))) ≡ Ok t → HasOwnSort d (variable_sorts scope) t
        by_bang true f = annotated_sound ps sound t f
        by_bang false f = by_as (bytes_eq w (codes "as")) f

        by_match : (b : Bool) → (if b then match_form d scope ps else (if bytes_eq w (codes "!") then annotated d scope ps else (if bytes_eq w (codes "as") then and_then (qualified_symbol d scope ps) (lone_symbol d) else (if bytes_eq w (codes "forall") then quantified_form d scope Forall ps else (if bytes_eq w (codes "exists") then quantified_form d scope Exists ps else Err (refused out_of_scope)))))) ≡ Ok t → HasOwnSort d (variable_sorts scope) t
        by_match true f = match_sound ps sound t f
        by_match false f = by_bang (bytes_eq w (codes "!")) f

        by_let : (b : Bool) → (if b then let_form d scope ps else (if bytes_eq w (codes "match") then match_form d scope ps else (if bytes_eq w (codes "!") then annotated d scope ps else (if bytes_eq w (codes "as") then and_then (qualified_symbol d scope ps) (lone_symbol d) else (if bytes_eq w (codes "forall") then quantified_form d scope Forall ps else (if bytes_eq w (codes "exists") then quantified_form d scope Exists ps else Err (refused out_of_scope))))))) ≡ Ok t → HasOwnSort d (variable_sorts scope) t
        by_let true f = let_sound ps sound t f
        by_let false f = by_match (bytes_eq w (codes "match")) f

    by_name_sound : (k : Option NamedCtor) (ps : Parts) → AreSoundParts d ps → (t : Sorted) → tested_by_name d scope k ps ≡ Ok t → HasOwnSort d (variable_sorts scope) t
    by_name_sound None ps sound t e = absurd cc
    by_name_sound (Some k) ps sound t e = tested_term_sound d theorems scope inside k ps sound t e

    global_sound : (o : Option CoreOperator) (name : List ℕ) (s : Option Symbol) → symbol_of d name ≡ s → (ps : Parts) → AreSoundParts d ps → (t : Sorted) → global d scope name o s ps ≡ Ok t → HasOwnSort d (variable_sorts scope) t
    global_sound (Some o) name s is ps sound t e =
        let enough = halted-inverse (takes o (count ps)) wrong_count (operated d scope o ps) t e in
        operated_sound d theorems scope inside o ps sound enough.0 t enough.1
    global_sound None name None is ps sound t e = by_name_sound (tester_named d name) ps sound t e
    global_sound None name (Some s) is ps sound t e = symbol_sound s (named_inside name s is) ps sound t e

    application_sound : (name : List ℕ) (ps : Parts) → AreSoundParts d ps → (t : Sorted) → application d scope name ps ≡ Ok t → HasOwnSort d (variable_sorts scope) t
    application_sound name ps sound t e =
        global_sound (operator_of name) name (symbol_of d name) refl ps sound t
        (halted-inverse (not (is_some (find scope name))) unknown_symbol (global d scope name (operator_of name) (symbol_of d name) ps) t e).1

    headed_sound : (a : Atom) (ps : Parts) → AreSoundParts d ps → (t : Sorted) → headed d scope a ps ≡ Ok t → HasOwnSort d (variable_sorts scope) t
    headed_sound (symbol w) ps sound t e = by (is_reserved w) e
      where
        by : (b : Bool) → (if b then reserved d scope w ps else application d scope w ps) ≡ Ok t → HasOwnSort d (variable_sorts scope) t
        by true f = reserved_sound w ps sound t f
        by false f = application_sound w ps sound t f
    headed_sound (quoted w) ps sound t e = application_sound w ps sound t e
    headed_sound (keyword w) ps sound t e = absurd cc
    headed_sound (text w) ps sound t e = absurd cc
    headed_sound (numeral n) ps sound t e = absurd cc
    headed_sound (decimal w) ps sound t e = absurd cc
    headed_sound (binary w) ps sound t e = absurd cc
    headed_sound (hexadecimal w) ps sound t e = absurd cc

  list_sound : (ps : Parts) → AreSoundParts d ps → (scope : List Variable) → ScopeIn d scope → (t : Sorted) → list_meaning d ps scope ≡ Ok t → HasOwnSort d (variable_sorts scope) t
  list_sound no_parts sound scope inside t e = absurd cc
  list_sound (with_part (atom_part a) ps) sound scope inside t e = headed_sound scope inside a ps sound.1 t e
  list_sound (with_part (list_part head m) ps) sound scope inside t e = qualified_sound scope inside head ps sound.1 t e

  mutual
    part_sound : (e : Expression) → IsSoundPart d (part_of d e)
    part_sound (leaf a) = tt
    part_sound (list es) = (
      parts_sound es,
      λ scope inside t is. (list_sound (parts_of d es) (parts_sound es) scope inside t is, (elaborated_stays d d (grows_itself d) theorems.consistent scope inside (list es) t is).1),
    )

    parts_sound : (es : Expressions) → AreSoundParts d (parts_of d es)
    parts_sound none = tt
    parts_sound (more e es) = (part_sound e, parts_sound es)

  -- the formula of an expression is well sorted
  pub elaborated_sound : (scope : List Variable) → ScopeIn d scope → (e : Expression) (t : Sorted) → elaborated d scope e ≡ Ok t → HasOwnSort d (variable_sorts scope) t
  elaborated_sound scope inside e t is = meaning_sound d theorems scope inside (part_of d e) (part_sound e) t is
