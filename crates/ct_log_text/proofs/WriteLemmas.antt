-- What is written of whole derivations.
use Rattle.std.proofs.Common.{◌≡◌, ℕ, ◌+◌, List, [], ◌∷◌, ◌++◌, Some, drop, slice_get, refl, sym, ap, ◌∙◌, append_assoc, append-nil, add-one, drop-cons}
use Rattle.std.proofs.lemmas.Option.{get_or_from_slice_get, slice_get_within}
use Rattle.ct_sexpr.specs.Expression.{Expressions, none, more}
use Rattle.ct_sexpr.specs.Written.{written, written_after}
use Rattle.ct_sorts.specs.declared.ids.SortId.{SortId}
use Rattle.ct_sorts.specs.Declarations.{Declarations}
use Rattle.ct_sorts.specs.SortText.{as_written, sort_text}
use Rattle.ct_instances.specs.Among.{origin_of}
use Rattle.ct_terms.specs.declared.term.Core.{Core}
use Rattle.ct_terms.specs.declared.term.Core.TheVariants.{Con, Sel, Test, Apply, Eq, Not, And, Or, Iff, Ite}
use Rattle.ct_terms.specs.Terms.{Terms, HasSort}
use Rattle.ct_log_text.specs.Written.{sort_item, term_item, term_items, item_lines, IsNamed}
use Rattle.ct_log_text.proofs.ResolveBack.{written_canonical}

-- what a well sorted term names is declared
pub named : (d : Declarations) (terms : Terms) (core : Core) (sort : SortId) → HasSort d terms core sort → IsNamed d core
named d terms (Con c args) sort has = slice_get_within _ _ _ has.declared
named d terms (Sel s t) sort has = slice_get_within _ _ _ has.declared
named d terms (Test c t) sort has = slice_get_within _ _ _ has.declared
named d terms (Apply f args) sort has = slice_get_within _ _ _ has.declared
named d terms (Eq a b) sort has = tt
named d terms (Not t) sort has = tt
named d terms (And args) sort has = tt
named d terms (Or args) sort has = tt
named d terms (Iff a b) sort has = tt
named d terms (Ite c a b) sort has = tt

-- the items from a place on are the one there and those after it
pub drop_some : {X : Type 0} (xs : List X) (n : ℕ) (x : X) → slice_get xs n ≡ Some x → drop n xs ≡ x ∷ drop (n + 1) xs
drop_some xs n x at = rw (add-one, drop-cons xs n x (slice_get_within xs n x at), get_or_from_slice_get xs n x x at) refl

-- one term line more
pub term_line_more : (d : Declarations) (n : ℕ) (terms : Terms) (core : Core) (sort : SortId) (after : Expressions) (out put new : List ℕ)
    → slice_get terms n ≡ Some (core, sort) → put ≡ out ++ written (term_item d n core) → new ≡ put ++ 10 ∷ []
    → new ++ item_lines (term_items d (n + 1) (drop (n + 1) terms) after) ≡ out ++ item_lines (term_items d n (drop n terms) after)
term_line_more d n terms core sort after out put new at p q =
    let others = item_lines (term_items d (n + 1) (drop (n + 1) terms) after) in
    let line = written (term_item d n core) in
    ap (λ w. w ++ others) (q ∙ ap (λ w. w ++ 10 ∷ []) p)
    ∙ append_assoc (out ++ line) (10 ∷ []) others
    ∙ append_assoc out line (10 ∷ others)
    ∙ ap (λ ts. out ++ item_lines (term_items d n ts after)) (sym (drop_some terms n (core, sort) at))

-- all items between two lines
pub text_whole : (out o1 o2 o3 o4 o5 o6 header terms lines end : List ℕ)
    → o1 ≡ out ++ 40 ∷ (10 ∷ []) → o2 ≡ o1 ++ (header ++ 10 ∷ []) → o3 ++ lines ≡ o2 ++ terms → o4 ++ end ≡ o3 ++ lines → o5 ≡ o4 ++ end → o6 ≡ o5 ++ 41 ∷ []
    → o6 ≡ out ++ 40 ∷ (10 ∷ ((header ++ 10 ∷ terms) ++ 41 ∷ []))
text_whole out o1 o2 o3 o4 o5 o6 header terms lines end p1 p2 p3 p4 p5 p6 =
    let close : List ℕ = 41 ∷ [] in
    p6
    ∙ ap (λ w. w ++ close) (p5 ∙ p4 ∙ p3 ∙ ap (λ w. w ++ terms) (p2 ∙ ap (λ w. w ++ (header ++ 10 ∷ [])) p1))
    ∙ append_assoc ((out ++ 40 ∷ (10 ∷ [])) ++ (header ++ 10 ∷ [])) terms close
    ∙ append_assoc (out ++ 40 ∷ (10 ∷ [])) (header ++ 10 ∷ []) (terms ++ close)
    ∙ append_assoc out (40 ∷ (10 ∷ [])) ((header ++ 10 ∷ []) ++ (terms ++ close))
    ∙ ap (λ w. out ++ 40 ∷ (10 ∷ w)) (append_assoc header (10 ∷ []) (terms ++ close) ∙ sym (append_assoc header (10 ∷ terms) close))

-- a space and the text of a sort
pub sort_put : (d : Declarations) (s : SortId) (old mid new text : List ℕ) → mid ≡ old ++ 32 ∷ [] → new ≡ mid ++ text → text ≡ sort_text d.declared.heads (origin_of d s) → new ≡ old ++ written_after (more (sort_item d s) none)
sort_put d s old mid new text p q is =
    q
    ∙ ap (λ w. w ++ text) p
    ∙ append_assoc old (32 ∷ []) text
    ∙ ap (λ w. old ++ 32 ∷ w) (is ∙ sym (written_canonical (as_written d.declared.heads (origin_of d s))) ∙ sym (append-nil (written (sort_item d s))))
