-- Two sorts in the list have one text only where they are one.
use Rattle.std.proofs.Common.{◌≡◌, ◌↔◌, ℕ, zero, suc, ◌+◌, ◌<◌, true, not, nat_eq, List, [], ◌∷◌, ◌++◌, map, slice_get, Some, option_map, refl, sym, ◌∙◌, ap, ap₂, subst, inl, inr, arith}
use Rattle.std.specs.List.{list_all}
use Rattle.std.specs.Cmp.Derive.{both_true}
use Rattle.std.proofs.lemmas.Option.{none-some, same_Some}
use Rattle.std.proofs.lemmas.Bool.Decides.{nat_tests}
use Rattle.ct_lemmas.proofs.Lists.{slice_get-append_left, slice_get-map_at}
use Rattle.ct_sexpr.specs.Atom.{Atom, quoted}
use Rattle.ct_sexpr.specs.Token.{is_in_quoted_symbol}
use Rattle.ct_sexpr.specs.Expression.{Expression as Sexpr, Expressions as Sexprs, leaf, list, none, more, with_last}
use Rattle.ct_sexpr.specs.Written.{written, canonical, canonical_each, canonical_atom}
use Rattle.ct_sexpr.specs.Readable.{IsReadable, AreReadable, HasForm, name_of_atom}
use Rattle.ct_generics.specs.Expression.{Expression, parameter, named, applied}
use Rattle.ct_generics.specs.Declarations.{Head, Synonym, IsExpression, Takes}
use Rattle.ct_sorts.specs.Availability.{HasByte, IsUnfit}
use Rattle.ct_sorts.specs.Declarations.{Declarations, declared_names}
use Rattle.ct_sorts.specs.SortText.{as_written, items_of, head_name, name_of_head, sort_text}
use Rattle.ct_sorts.proofs.BaseLemmas.{IsBase}
use Rattle.ct_sorts.proofs.HeadLemmas.{head_there}

-- ---- lists of expressions

with_last-some : (es : Sexprs) (e : Sexpr) → with_last es e ≡ none → ⊥
with_last-some none e is = let same = is in cc
with_last-some (more f es) e is = let same = is in cc

same_more : (e f : Sexpr) (es fs : Sexprs) → more e es ≡ more f fs → (e ≡ f) × (es ≡ fs)
same_more e f es fs is = (cc, cc)

with_last-parts : (es fs : Sexprs) (e f : Sexpr) → with_last es e ≡ with_last fs f → (es ≡ fs) × (e ≡ f)
with_last-parts none none e f is = (refl, (same_more e f none none is).0)
with_last-parts none (more g fs) e f is = absurd (with_last-some fs f (sym (same_more e g none (with_last fs f) is).1))
with_last-parts (more g es) none e f is = absurd (with_last-some es e (same_more g f (with_last es e) none is).1)
with_last-parts (more g es) (more h fs) e f is =
    let parts = same_more g h (with_last es e) (with_last fs f) is in
    let rest = with_last-parts es fs e f parts.1 in
    (ap₂ more parts.0 rest.0, rest.1)

canonical_each-with_last : (es : Sexprs) (e : Sexpr) → canonical_each (with_last es e) ≡ with_last (canonical_each es) (canonical e)
canonical_each-with_last none e = refl
canonical_each-with_last (more f es) e = ap (more (canonical f)) (canonical_each-with_last es e)

AreReadable-with_last : (es : Sexprs) (e : Sexpr) → AreReadable es → IsReadable e → AreReadable (with_last es e)
AreReadable-with_last none e all h = (h, tt)
AreReadable-with_last (more f es) e all h = (all.0, AreReadable-with_last es e all.1 h)

same_leaf : (a b : Atom) → leaf a ≡ leaf b → a ≡ b
same_leaf a b is = cc

same_list : (es fs : Sexprs) → list es ≡ list fs → es ≡ fs
same_list es fs is = cc

-- ---- bytes that may stand in a quoted symbol

pub in_quoted_symbol : (name : List ℕ) → (HasByte name 124 → ⊥) → (HasByte name 92 → ⊥) → list_all is_in_quoted_symbol name ≡ true
in_quoted_symbol [] bars slashes = refl
in_quoted_symbol (b ∷ bs) bars slashes =
    let rest = in_quoted_symbol bs (λ h. bars (suc h.0, h.1)) (λ h. slashes (suc h.0, h.1)) in
    let first : is_in_quoted_symbol b ≡ true = fits_byte b (λ e. bars (0, ap Some e)) (λ e. slashes (0, ap Some e)) in
    both_true first rest
  where
    fits_byte : (b : ℕ) → (b ≡ 124 → ⊥) → (b ≡ 92 → ⊥) → is_in_quoted_symbol b ≡ true
    fits_byte b no_bar no_slash = grind (arith, nat_tests)

module _ (same_text : (e f : Sexpr) → IsReadable e → IsReadable f → (written e ≡ written f) ↔ (canonical e ≡ canonical f)) (one_name : (a : Atom) → name_of_atom (canonical_atom a) ≡ name_of_atom a) (d : Declarations) (consistent : IsBase d) where
  -- the name of a sort or generic that is there
  name_at : (h m : ℕ) → option_map (λ (head : Head). head.params) (slice_get d.declared.heads h) ≡ Some m → slice_get (declared_names d) h ≡ Some (head_name d.declared.heads h)
  name_at h m takes =
      let head = head_there (slice_get d.declared.heads h) m takes in
      slice_get-append_left (map (λ (k : Head). k.name) d.declared.heads) (map (λ (s : Synonym). s.name) d.declared.synonyms) h (head_name d.declared.heads h)
      (slice_get-map_at (λ (k : Head). k.name) d.declared.heads h head.0 head.1 ∙ ap Some (ap name_of_head (sym head.1)))

  -- it can be read
  readable_name : (h m : ℕ) → option_map (λ (head : Head). head.params) (slice_get d.declared.heads h) ≡ Some m → HasForm (quoted (head_name d.declared.heads h))
  readable_name h m takes =
      let fit = consistent.fit h (head_name d.declared.heads h) (name_at h m takes) in
      in_quoted_symbol (head_name d.declared.heads h) (λ bar. fit (inr (inr (inl bar)))) (λ slash. fit (inr (inr (inr slash))))

  mutual
    pub readable : (e : Expression) (m : ℕ) → Takes d.declared.heads 0 m e → IsReadable (as_written d.declared.heads e)
    readable (parameter i) m takes = tt
    readable (named h) m takes = readable_name h m takes
    readable (applied e a) m takes = AreReadable-with_last (items_of d.declared.heads e) (as_written d.declared.heads a) (readable_items e (suc m) takes.0) (readable a 0 takes.1)

    readable_items : (e : Expression) (m : ℕ) → Takes d.declared.heads 0 m e → AreReadable (items_of d.declared.heads e)
    readable_items (parameter i) m takes = tt
    readable_items (named h) m takes = (readable_name h m takes, tt)
    readable_items (applied e a) m takes = AreReadable-with_last (items_of d.declared.heads e) (as_written d.declared.heads a) (readable_items e (suc m) takes.0) (readable a 0 takes.1)

  -- two that are written as one name are one
  same_head : (g h m n : ℕ) → option_map (λ (head : Head). head.params) (slice_get d.declared.heads g) ≡ Some m → option_map (λ (head : Head). head.params) (slice_get d.declared.heads h) ≡ Some n → canonical (leaf (quoted (head_name d.declared.heads g))) ≡ canonical (leaf (quoted (head_name d.declared.heads h))) → named g ≡ named h
  same_head g h m n at_g at_h is =
      let left = head_name d.declared.heads g in
      let right = head_name d.declared.heads h in
      let atoms : canonical_atom (quoted left) ≡ canonical_atom (quoted right) = same_leaf (canonical_atom (quoted left)) (canonical_atom (quoted right)) is in
      let names : Some left ≡ Some right = sym (one_name (quoted left)) ∙ ap name_of_atom atoms ∙ one_name (quoted right) in
      let number : g ≡ h = consistent.names_distinct g h left (name_at g m at_g) (name_at h n at_h ∙ sym names) in
      ap named number

  -- there is an item at least, and one more with each argument
  one_item : (e : Expression) (m : ℕ) → Takes d.declared.heads 0 m e → canonical_each (items_of d.declared.heads e) ≡ none → ⊥
  one_item (parameter i) m takes is = omega (arith, takes.1)
  one_item (named h) m takes is = let same = is in cc
  one_item (applied e a) m takes is = with_last-some (canonical_each (items_of d.declared.heads e)) (canonical (as_written d.declared.heads a)) (sym (canonical_each-with_last (items_of d.declared.heads e) (as_written d.declared.heads a)) ∙ is)

  not_one : (x : Sexpr) (e : Expression) (m : ℕ) (a : Expression) → Takes d.declared.heads 0 m e → more x none ≡ canonical_each (items_of d.declared.heads (applied e a)) → ⊥
  not_one x e m a takes is =
      let parts = with_last-parts none (canonical_each (items_of d.declared.heads e)) x (canonical (as_written d.declared.heads a)) (is ∙ canonical_each-with_last (items_of d.declared.heads e) (as_written d.declared.heads a)) in
      one_item e m takes (sym parts.0)

  -- with one list of items the expressions before the last argument and these arguments are written as one
  same_parts : (e a f b : Expression) → canonical_each (items_of d.declared.heads (applied e a)) ≡ canonical_each (items_of d.declared.heads (applied f b)) → (canonical_each (items_of d.declared.heads e) ≡ canonical_each (items_of d.declared.heads f)) × (canonical (as_written d.declared.heads a) ≡ canonical (as_written d.declared.heads b))
  same_parts e a f b is =
      with_last-parts (canonical_each (items_of d.declared.heads e)) (canonical_each (items_of d.declared.heads f)) (canonical (as_written d.declared.heads a)) (canonical (as_written d.declared.heads b)) (sym (canonical_each-with_last (items_of d.declared.heads e) (as_written d.declared.heads a)) ∙ is ∙ canonical_each-with_last (items_of d.declared.heads f) (as_written d.declared.heads b))

  mutual
    same_written : (e f : Expression) → Takes d.declared.heads 0 0 e → Takes d.declared.heads 0 0 f → canonical (as_written d.declared.heads e) ≡ canonical (as_written d.declared.heads f) → e ≡ f
    same_written (parameter i) f p q is = absurd (omega (arith, p.1))
    same_written (named g) (parameter j) p q is = absurd (omega (arith, q.1))
    same_written (named g) (named h) p q is = same_head g h 0 0 p q is
    same_written (named g) (applied f b) p q is = absurd (let same = is in cc)
    same_written (applied e a) (parameter j) p q is = absurd (omega (arith, q.1))
    same_written (applied e a) (named h) p q is = absurd (let same = is in cc)
    same_written (applied e a) (applied f b) p q is =
        let parts = same_parts e a f b (same_list (canonical_each (items_of d.declared.heads (applied e a))) (canonical_each (items_of d.declared.heads (applied f b))) is) in
        ap₂ applied (same_items e f 1 1 p.0 q.0 parts.0) (same_written a b p.1 q.1 parts.1)

    same_items : (e f : Expression) (m n : ℕ) → Takes d.declared.heads 0 m e → Takes d.declared.heads 0 n f → canonical_each (items_of d.declared.heads e) ≡ canonical_each (items_of d.declared.heads f) → e ≡ f
    same_items (parameter i) f m n p q is = absurd (omega (arith, p.1))
    same_items (named g) (parameter j) m n p q is = absurd (omega (arith, q.1))
    same_items (named g) (named h) m n p q is = same_head g h m n p q (same_more (canonical (leaf (quoted (head_name d.declared.heads g)))) (canonical (leaf (quoted (head_name d.declared.heads h)))) none none is).0
    same_items (named g) (applied f b) m n p q is = absurd (not_one (canonical (leaf (quoted (head_name d.declared.heads g)))) f (suc n) b q.0 is)
    same_items (applied e a) (parameter j) m n p q is = absurd (omega (arith, q.1))
    same_items (applied e a) (named h) m n p q is = absurd (not_one (canonical (leaf (quoted (head_name d.declared.heads h)))) e (suc m) a p.0 (sym is))
    same_items (applied e a) (applied f b) m n p q is =
        let parts = same_parts e a f b is in
        ap₂ applied (same_items e f (suc m) (suc n) p.0 q.0 parts.0) (same_written a b p.1 q.1 parts.1)

  -- sorts with one text are one
  pub same_sort : (e f : Expression) → IsExpression d.declared.heads 0 e → IsExpression d.declared.heads 0 f → sort_text d.declared.heads e ≡ sort_text d.declared.heads f → e ≡ f
  same_sort e f p q is =
      same_written e f p q ((same_text (as_written d.declared.heads e) (as_written d.declared.heads f) (readable e 0 p) (readable f 0 q)).0 is)

  pub one_text : (s t : ℕ) (e f : Expression) → slice_get d.origins s ≡ Some e → slice_get d.origins t ≡ Some f → sort_text d.declared.heads e ≡ sort_text d.declared.heads f → s ≡ t
  one_text s t e f at_s at_t is =
      let same = same_sort e f (consistent.origins.sorts s e at_s) (consistent.origins.sorts t f at_t) is in
      consistent.origins.different s t f (at_s ∙ ap Some same) at_t
