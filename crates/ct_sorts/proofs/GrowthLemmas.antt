-- Declarations that grew: what was there can be cut back to.
use Rattle.std.proofs.Common.{◌≡◌, ℕ, ◌≤◌, List, [], ◌∷◌, ◌++◌, length, take, drop, refl, sym, ◌∙◌, ap, subst, arith, length-append}
use Rattle.std.proofs.Math.Seq.{take-append_seam}
use Rattle.std.proofs.lemmas.List.{append-nil, take-append-drop}
use Rattle.std.specs.List.{flat_map}
use Rattle.ct_generics.specs.declared.decl.SortDecl.{SortDecl}
use Rattle.ct_generics.specs.declared.expr.SortExpr.{SortExpr}
use Rattle.ct_generics.specs.Expression.{Expression, named}
use Rattle.ct_generics.specs.Declarations.{Head}
use Rattle.ct_sorts.specs.declared.ids.Declared.{Declared as Given}
use Rattle.ct_sorts.specs.declared.ids.Kind.{Kind}
use Rattle.ct_sorts.specs.declared.ids.SortId.{SortId}
use Rattle.ct_sorts.specs.declared.spelling.Spelling.{Spelling}
use Rattle.ct_sorts.specs.Declarations.{Declarations, Sort, Function, start, head_symbols, with_sort, with_head, with_function, with_definition}
use Rattle.ct_sorts.specs.Made.{with_sorts}
use Rattle.ct_sorts.specs.Block.{IsWithBlock, with_own, own_sorts, block_spellings}
use Rattle.ct_sorts.specs.Instances.{IsWithSorts, IsWithInstance}
use Rattle.ct_sorts.specs.Synonyms.{IsWithSynonym}
use Rattle.ct_sorts.specs.Consistent.{IsConsistent, AreFieldsOverSorts, AreOverSorts}
use Rattle.ct_sorts.specs.Heads.{AreHeads}
use Rattle.ct_sorts.specs.Origins.{AreOrigins, HavePlainSorts}
use Rattle.ct_sorts.specs.Grown.{Begins, Extends}
use Rattle.ct_sorts.specs.Marks.{CanCut, cut, lengths}
use Rattle.ct_sorts.proofs.PieceLemmas.{Begins-self, Begins-trans}

-- the first list is what comes first
pub prefix : {X : Type 0} (xs ys : List X) → Begins xs ys → take (length xs) ys ≡ xs
prefix xs ys h = subst (λ l. take (length xs) l ≡ xs) (sym h.1) (take-append_seam xs h.0)

-- and is no longer
within : {X : Type 0} (xs ys : List X) → Begins xs ys → length xs ≤ length ys
within xs ys h = omega (arith, ap length h.1, length-append xs h.0)

pub extends_itself : (d : Declarations) → Extends d d
extends_itself d = record {
  sorts = Begins-self d.sorts;
  ctors = Begins-self d.ctors;
  sels = Begins-self d.sels;
  functions = Begins-self d.functions;
  definitions = Begins-self d.definitions;
  heads = Begins-self d.declared.heads;
  synonyms = Begins-self d.declared.synonyms;
  spellings = Begins-self d.spellings;
  origins = Begins-self d.origins;
}

pub extends_further : (last later earlier : Declarations) → Extends last later → Extends later earlier → Extends last earlier
extends_further last later earlier h k =
    record {
      sorts = Begins-trans earlier.sorts later.sorts last.sorts k.sorts h.sorts;
      ctors = Begins-trans earlier.ctors later.ctors last.ctors k.ctors h.ctors;
      sels = Begins-trans earlier.sels later.sels last.sels k.sels h.sels;
      functions = Begins-trans earlier.functions later.functions last.functions k.functions h.functions;
      definitions = Begins-trans earlier.definitions later.definitions last.definitions k.definitions h.definitions;
      heads = Begins-trans earlier.declared.heads later.declared.heads last.declared.heads k.heads h.heads;
      synonyms = Begins-trans earlier.declared.synonyms later.declared.synonyms last.declared.synonyms k.synonyms h.synonyms;
      spellings = Begins-trans earlier.spellings later.spellings last.spellings k.spellings h.spellings;
      origins = Begins-trans earlier.origins later.origins last.origins k.origins h.origins;
    }

pub extends_sort : (d : Declarations) (s : Sort) → Extends (with_sort d s) d
extends_sort d s = record {
  sorts = (s ∷ [], refl);
  ctors = Begins-self d.ctors;
  sels = Begins-self d.sels;
  functions = Begins-self d.functions;
  definitions = Begins-self d.definitions;
  heads = (_, refl);
  synonyms = Begins-self d.declared.synonyms;
  spellings = (_, refl);
  origins = (_, refl);
}

pub extends_head : (d : Declarations) (head : Head) (ctors : List Spelling) → Extends (with_head d head ctors) d
extends_head d head ctors = record {
  sorts = Begins-self d.sorts;
  ctors = Begins-self d.ctors;
  sels = Begins-self d.sels;
  functions = Begins-self d.functions;
  definitions = Begins-self d.definitions;
  heads = (head ∷ [], refl);
  synonyms = Begins-self d.declared.synonyms;
  spellings = (ctors ∷ [], refl);
  origins = Begins-self d.origins;
}

pub extends_sorts : (d : Declarations) (sorts : List Expression) → Extends (with_sorts d sorts) d
extends_sorts d sorts = record {
  sorts = (_, refl);
  ctors = (_, refl);
  sels = (_, refl);
  functions = Begins-self d.functions;
  definitions = Begins-self d.definitions;
  heads = Begins-self d.declared.heads;
  synonyms = Begins-self d.declared.synonyms;
  spellings = Begins-self d.spellings;
  origins = (sorts, refl);
}

pub extends_own : (d : Declarations) (own : List Head) (spellings : List (List Spelling)) → Extends (with_own d own spellings) d
extends_own d own spellings = record {
  sorts = Begins-self d.sorts;
  ctors = Begins-self d.ctors;
  sels = Begins-self d.sels;
  functions = Begins-self d.functions;
  definitions = Begins-self d.definitions;
  heads = (own, refl);
  synonyms = Begins-self d.declared.synonyms;
  spellings = (spellings, refl);
  origins = Begins-self d.origins;
}

pub extends_with_sorts : (d later : Declarations) (sorts : List Expression) → IsWithSorts d sorts later → Extends later d
extends_with_sorts d later sorts h = subst (λ (x : Declarations). Extends x d) (sym h.2) (extends_sorts d h.0)

pub extends_block : (d later : Declarations) (kind : Kind) (decls : List SortDecl) (given : List Given) → IsWithBlock d kind decls given later → Extends later d
extends_block d later kind decls given h =
    let own = with_own d h.0 (block_spellings decls) in
    let sorts = own_sorts d h.0 ++ h.2 in
    subst (λ (x : Declarations). Extends x d) (sym h.4) (extends_further (with_sorts own sorts) own d (extends_sorts own sorts) (extends_own d h.0 (block_spellings decls)))

pub extends_synonym : (d later : Declarations) (name : List ℕ) (params : ℕ) (body : SortExpr) → IsWithSynonym d name params body later → Extends later d
extends_synonym d later name params body h =
    subst (λ (x : Declarations). Extends x d) (sym h.2) (record {
      sorts = Begins-self d.sorts;
      ctors = Begins-self d.ctors;
      sels = Begins-self d.sels;
      functions = Begins-self d.functions;
      definitions = Begins-self d.definitions;
      heads = Begins-self d.declared.heads;
      synonyms = (_, refl);
      spellings = Begins-self d.spellings;
      origins = Begins-self d.origins;
    })

pub extends_instance : (d later : Declarations) (expr : SortExpr) (s : SortId) → IsWithInstance d expr later s → Extends later d
extends_instance d later expr s h = extends_with_sorts d later (h.0 ∷ []) h.2

pub extends_function : (d : Declarations) (f : Function) → Extends (with_function d f) d
extends_function d f = record {
  sorts = Begins-self d.sorts;
  ctors = Begins-self d.ctors;
  sels = Begins-self d.sels;
  functions = (f ∷ [], refl);
  definitions = Begins-self d.definitions;
  heads = Begins-self d.declared.heads;
  synonyms = Begins-self d.declared.synonyms;
  spellings = Begins-self d.spellings;
  origins = Begins-self d.origins;
}

pub extends_definition : (d : Declarations) (f : Function) → Extends (with_definition d f) d
extends_definition d f = record {
  sorts = Begins-self d.sorts;
  ctors = Begins-self d.ctors;
  sels = Begins-self d.sels;
  functions = Begins-self d.functions;
  definitions = (f ∷ [], refl);
  heads = Begins-self d.declared.heads;
  synonyms = Begins-self d.declared.synonyms;
  spellings = Begins-self d.spellings;
  origins = Begins-self d.origins;
}

pub cut_to_earlier : (later earlier : Declarations) → Extends later earlier → cut later (lengths earlier) ≡ earlier
cut_to_earlier later earlier h =
    λ j. record {
      sorts = prefix earlier.sorts later.sorts h.sorts j;
      ctors = prefix earlier.ctors later.ctors h.ctors j;
      sels = prefix earlier.sels later.sels h.sels j;
      functions = prefix earlier.functions later.functions h.functions j;
      definitions = prefix earlier.definitions later.definitions h.definitions j;
      declared = record { heads = prefix earlier.declared.heads later.declared.heads h.heads j; synonyms = prefix earlier.declared.synonyms later.declared.synonyms h.synonyms j };
      spellings = prefix earlier.spellings later.spellings h.spellings j;
      origins = prefix earlier.origins later.origins h.origins j;
    }

pub can_cut_to_earlier : (later earlier : Declarations) → IsConsistent earlier → Extends later earlier → CanCut later (lengths earlier)
can_cut_to_earlier later earlier c h =
    record {
      sorts_within = within earlier.sorts later.sorts h.sorts;
      ctors_within = within earlier.ctors later.ctors h.ctors;
      sels_within = within earlier.sels later.sels h.sels;
      functions_within = within earlier.functions later.functions h.functions;
      definitions_within = within earlier.definitions later.definitions h.definitions;
      heads_within = within earlier.declared.heads later.declared.heads h.heads;
      synonyms_within = within earlier.declared.synonyms later.declared.synonyms h.synonyms;
      origins_within = within earlier.origins later.origins h.origins;
      spellings_within = within earlier.spellings later.spellings h.spellings;
      whole_sorts = ap (flat_map (λ s. s.ctors)) (prefix earlier.sorts later.sorts h.sorts) ∙ c.all_ctors;
      whole_ctors = ap (flat_map (λ c. c.sels)) (prefix earlier.ctors later.ctors h.ctors) ∙ c.all_sels;
      fields = subst AreFieldsOverSorts (sym (cut_to_earlier later earlier h)) c.fields;
      over_sorts = subst (λ x. AreOverSorts x x.functions) (sym (cut_to_earlier later earlier h)) c.over_sorts;
      definitions_over_sorts = subst (λ x. AreOverSorts x x.definitions) (sym (cut_to_earlier later earlier h)) c.definitions_over_sorts;
      whole_symbols = ap (λ x. length (head_symbols x)) (prefix earlier.spellings later.spellings h.spellings);
      heads = subst AreHeads (sym (cut_to_earlier later earlier h)) c.heads;
      origins = subst AreOrigins (sym (cut_to_earlier later earlier h)) c.origins;
      plain = subst HavePlainSorts (sym (cut_to_earlier later earlier h)) c.plain;
    }

-- consistent declarations begin with those that are there at the start
begins : {X : Type 0} (n : ℕ) (first xs : List X) → take n xs ≡ first → Begins first xs
begins {X} n first xs h = (drop n xs, sym (take-append-drop n xs) ∙ ap (λ (ys : List X). ys ++ drop n xs) h)

pub extends_start : (d : Declarations) → IsConsistent d → Extends d start
extends_start d fits = record {
  sorts = begins 1 start.sorts d.sorts fits.first_sort;
  ctors = begins 2 start.ctors d.ctors fits.first_ctors;
  sels = (d.sels, refl);
  functions = (d.functions, refl);
  definitions = (d.definitions, refl);
  heads = begins 1 start.declared.heads d.declared.heads fits.first_head;
  synonyms = (d.declared.synonyms, refl);
  spellings = begins 1 start.spellings d.spellings fits.first_spelling;
  origins = begins 1 start.origins d.origins fits.first_origin;
}
