-- What is declared with a block, and what a block is refused for.
use Rattle.std.proofs.Common.{◌≡◌, ℕ, zero, suc, ◌+◌, ◌<◌, List, [], ◌∷◌, ◌++◌, length, map, take, drop, get_or, Ok, refl, sym, ap, ap₂, subst, ◌∙◌, inl, inr, arith}
use Rattle.std.specs.List.{AllZip}
use Rattle.std.proofs.lemmas.List.{append_assoc, append-nil, map-append, take_more, take-map}
use Rattle.ct_lemmas.proofs.Pairs.{AllZip-push}
use Rattle.ct_generics.specs.declared.decl.SortDecl.{SortDecl}
use Rattle.ct_generics.specs.declared.generics.Generics.{Generics}
use Rattle.ct_generics.specs.declared.heads.StoredHead.{StoredHead}
use Rattle.ct_generics.specs.declared.kind.Kind.{Kind}
use Rattle.ct_generics.specs.Declarations.{Declared, Head, Synonym}
use Rattle.ct_generics.specs.Expression.{Expression}
use Rattle.ct_generics.specs.Outcome.{each}
use Rattle.ct_generics.specs.Stored.{AreDeclared, AreFree, AreStored, IsBegun, IsStored, IsStoredSynonym}
use Rattle.ct_generics.specs.Synonyms.{first_of, with_synonym}
use Rattle.ct_generics.specs.declared.heads.StoredSynonym.{StoredSynonym}
use Rattle.ct_generics.specs.Block.{IsBlockRefusal, IsShapeRefusal, fields_in, head_in, heads_in, named_only, with_heads, with_names}
use Rattle.ct_generics.proofs.OutcomeLemmas.{and_then-ok, each-parts, ok-err, same_Ok}

append-zip : {X Y : Type 0} (R : X → Y → Type 0) (xs more : List X) (ys rest : List Y) → AllZip R xs ys → AllZip R more rest → AllZip R (xs ++ more) (ys ++ rest)
append-zip R [] more [] rest first second = second
append-zip R [] more (y ∷ ys) rest first second = absurd first
append-zip R (x ∷ xs) more [] rest first second = absurd first
append-zip R (x ∷ xs) more (y ∷ ys) rest first second = (first.0, append-zip R xs more ys rest first.1 second)

-- more sorts and generics
pub AreDeclared-more : (old new : Generics) (d : Declared) (stored : List StoredHead) (own : List Head) → AreDeclared old d → AreStored stored own → new.heads ≡ old.heads ++ stored → new.head_names ≡ old.head_names ++ map (λ (head : Head). head.name) own → new.synonyms ≡ old.synonyms → new.synonym_names ≡ old.synonym_names → AreDeclared new (with_heads d own)
AreDeclared-more old new d stored own before all heads names synonyms synonym_names =
    record {
      stored = rw heads (append-zip IsStored old.heads stored d.heads own before.stored all);
      names_are = names ∙ ap (λ (xs : List (List ℕ)). xs ++ map (λ (head : Head). head.name) own) before.names_are ∙ sym (map-append (λ (head : Head). head.name) d.heads own);
      stored_synonyms = rw synonyms before.stored_synonyms;
      synonym_names_are = synonym_names ∙ before.synonym_names_are;
    }

-- one name more of the block
pub with_names-push : (d : Declared) (kind : Kind) (block : List SortDecl) (decl : SortDecl) → with_heads (with_names d kind block) (named_only kind decl ∷ []) ≡ with_names d kind (block ++ decl ∷ [])
with_names-push d kind block decl =
    ap (λ (heads : List Head). record d { heads = heads }) (append_assoc d.heads (map (named_only kind) block) (named_only kind decl ∷ []) ∙ ap (λ (own : List Head). d.heads ++ own) (sym (map-append (named_only kind) block (decl ∷ []))))

-- no names of the block
pub with_names-none : (d : Declared) (kind : Kind) → d ≡ with_names d kind []
with_names-none d kind = ap (λ (heads : List Head). record d { heads = heads }) (sym (append-nil d.heads))

take-first : {X : Type 0} (xs ys : List X) → take (length xs) (xs ++ ys) ≡ xs
take-first [] ys = refl
take-first (x ∷ xs) ys = ap (λ (zs : List _). x ∷ zs) (take-first xs ys)

pub take-of : {X : Type 0} (xs ys zs : List X) → zs ≡ xs ++ ys → take (length xs) zs ≡ xs
take-of xs ys zs is = ap (take (length xs)) is ∙ take-first xs ys

take-all : {X : Type 0} (xs : List X) → take (length xs) xs ≡ xs
take-all [] = refl
take-all (x ∷ xs) = ap (λ (zs : List _). x ∷ zs) (take-all xs)

pub IsBegun-same : (g : Generics) → IsBegun g g
IsBegun-same g = record { heads_begin = take-all g.heads; names_begin = take-all g.head_names; synonyms_stay = refl; synonym_names_stay = refl }

take-take : {X : Type 0} (xs ys zs : List X) → take (length xs) ys ≡ xs → take (length ys) zs ≡ ys → take (length xs) zs ≡ xs
take-take [] ys zs first second = refl
take-take (x ∷ xs) [] zs first second = absurd (let n = ap length first in omega (arith, n))
take-take (x ∷ xs) (y ∷ ys) [] first second = absurd (let n = ap length second in omega (arith, n))
take-take (x ∷ xs) (y ∷ ys) (z ∷ zs) first second =
    let a = parts y x (take (length xs) ys) xs first in
    let b = parts z y (take (length ys) zs) ys second in
    ap₂ (λ (w : _) (ws : List _). w ∷ ws) (b.0 ∙ a.0) (take-take xs ys zs a.1 b.1)
  where
    parts : {X : Type 0} (x y : X) (xs ys : List X) → x ∷ xs ≡ y ∷ ys → (x ≡ y) × (xs ≡ ys)
    parts x y xs ys e = (cc, cc)

pub IsBegun-trans : (a b c : Generics) → IsBegun a b → IsBegun b c → IsBegun a c
IsBegun-trans a b c first second =
    record {
      heads_begin = take-take a.heads b.heads c.heads first.heads_begin second.heads_begin;
      names_begin = take-take a.head_names b.head_names c.head_names first.names_begin second.names_begin;
      synonyms_stay = second.synonyms_stay ∙ first.synonyms_stay;
      synonym_names_stay = second.synonym_names_stay ∙ first.synonym_names_stay;
    }

-- the sorts and generics have the names of their declarations
pub own-names : (d : Declared) (kind : Kind) (block : List SortDecl) (own : List Head) → each (head_in d kind) block ≡ Ok own → map (λ (head : Head). head.name) own ≡ map (λ (s : SortDecl). s.name) block
own-names d kind [] own e = ap (map (λ (head : Head). head.name)) (sym (same_Ok [] own (Ok []) refl e))
own-names d kind (decl ∷ block) own e =
    let parts = each-parts (head_in d kind) decl block own e in
    let made = and_then-ok (each (fields_in d) decl.ctors) _ parts.0 parts.2 in
    let head : Head = record { name = decl.name; kind = kind; params = decl.params; ctors = made.0 } in
    let same : head ≡ parts.0 = same_Ok head parts.0 (Ok head) refl made.2 in
    rw parts.4 (ap₂ (λ (w : List ℕ) (ws : List (List ℕ)). w ∷ ws) (ap (λ (x : Head). x.name) (sym same)) (own-names d kind block parts.1 parts.3))

-- a block whose names are known and that is not refused for its shape is not refused
pub not-refused : (d : Declared) (kind : Kind) (block : List SortDecl) (own : List Head) → heads_in d kind block ≡ Ok own → ((n : ℕ) → IsShapeRefusal (length d.heads) kind (d.heads ++ own) n → ⊥) → (n : ℕ) → IsBlockRefusal d kind block n → ⊥
not-refused d kind block own is never n (inl e) = ok-err own n (heads_in d kind block) is e
not-refused d kind block own is never n (inr (other, e, shape)) =
    never n (subst (λ (heads : List Head). IsShapeRefusal (length d.heads) kind (d.heads ++ heads) n) (same_Ok other own (heads_in d kind block) e is) shape)

-- the names that are left are free
pub AreFree-rest : (names : List (List ℕ)) (block : List SortDecl) (i : ℕ) (x : SortDecl) → i < length block → x ≡ get_or block i x → AreFree names (map (λ (s : SortDecl). s.name) (drop i block)) → AreFree names (x.name ∷ []) × AreFree (names ++ x.name ∷ []) (map (λ (s : SortDecl). s.name) (drop (i + 1) block))
AreFree-rest names [] i x less is free = absurd (omega (arith, less))
AreFree-rest names (decl ∷ block) zero x less is free = subst (λ (s : SortDecl). AreFree names (s.name ∷ []) × AreFree (names ++ s.name ∷ []) (map (λ (t : SortDecl). t.name) block)) (sym is) ((free.0, tt), free.1)
AreFree-rest names (decl ∷ block) (suc i) x less is free = let e : suc i + 1 ≡ suc (i + 1) = omega arith in rw e (AreFree-rest names block i x (omega (arith, less)) is free)

-- one name more of the block is declared
pub with_names-more : (g : Generics) (d : Declared) (kind : Kind) (block : List SortDecl) (i : ℕ) (x : SortDecl) → i < length block → x ≡ get_or block i x → AreDeclared g (with_heads (with_names d kind (take i block)) (named_only kind x ∷ [])) → AreDeclared g (with_names d kind (take (i + 1) block))
with_names-more g d kind block i x less is =
    subst (AreDeclared g) (with_names-push d kind (take i block) x ∙ ap (with_names d kind) (ap (λ (y : SortDecl). take i block ++ y ∷ []) is ∙ sym (take_more block i x less)))

-- what is declared, by its parts
pub same_generics : (a b : Generics) → a.heads ≡ b.heads → a.head_names ≡ b.head_names → a.synonyms ≡ b.synonyms → a.synonym_names ≡ b.synonym_names → a ≡ b
same_generics a b heads names synonyms synonym_names i = record { heads = heads i; head_names = names i; synonyms = synonyms i; synonym_names = synonym_names i }

-- cut back to what was there first
pub cut-back : (old mid new : Generics) → IsBegun old mid → new.heads ≡ take (length old.heads) mid.heads → new.head_names ≡ take (length old.head_names) mid.head_names → new.synonyms ≡ mid.synonyms → new.synonym_names ≡ mid.synonym_names → new ≡ old
cut-back old mid new begun heads names synonyms synonym_names =
    same_generics new old (heads ∙ begun.heads_begin) (names ∙ begun.names_begin) (synonyms ∙ begun.synonyms_stay) (synonym_names ∙ begun.synonym_names_stay)

AllZip-take : {X Y : Type 0} (R : X → Y → Type 0) (n : ℕ) (xs : List X) (ys : List Y) → AllZip R xs ys → AllZip R (take n xs) (take n ys)
AllZip-take R zero [] [] all = tt
AllZip-take R zero [] (y ∷ ys) all = absurd all
AllZip-take R zero (x ∷ xs) [] all = absurd all
AllZip-take R zero (x ∷ xs) (y ∷ ys) all = tt
AllZip-take R (suc n) [] [] all = tt
AllZip-take R (suc n) [] (y ∷ ys) all = absurd all
AllZip-take R (suc n) (x ∷ xs) [] all = absurd all
AllZip-take R (suc n) (x ∷ xs) (y ∷ ys) all = (all.0, AllZip-take R n xs ys all.1)

-- what was declared first
pub AreDeclared-first : (old new : Generics) (d : Declared) (heads synonyms : ℕ) → AreDeclared old d → new.heads ≡ take heads old.heads → new.head_names ≡ take heads old.head_names → new.synonyms ≡ take synonyms old.synonyms → new.synonym_names ≡ take synonyms old.synonym_names → AreDeclared new (first_of heads synonyms d)
AreDeclared-first old new d heads synonyms before heads_are names_are synonyms_are synonym_names_are =
    record {
      stored = rw heads_are (AllZip-take IsStored heads old.heads d.heads before.stored);
      names_are = names_are ∙ ap (λ (xs : List (List ℕ)). take heads xs) before.names_are ∙ take-map (λ (head : Head). head.name) heads d.heads;
      stored_synonyms = rw synonyms_are (AllZip-take IsStoredSynonym synonyms old.synonyms d.synonyms before.stored_synonyms);
      synonym_names_are = synonym_names_are ∙ ap (λ (xs : List (List ℕ)). take synonyms xs) before.synonym_names_are ∙ take-map (λ (s : Synonym). s.name) synonyms d.synonyms;
    }

-- one synonym more
pub AreDeclared-synonym : (old new : Generics) (d : Declared) (stored : StoredSynonym) (s : Synonym) → AreDeclared old d → IsStoredSynonym stored s → new.heads ≡ old.heads → new.head_names ≡ old.head_names → new.synonyms ≡ old.synonyms ++ stored ∷ [] → new.synonym_names ≡ old.synonym_names ++ stored.name ∷ [] → AreDeclared new (with_synonym d s)
AreDeclared-synonym old new d stored s before is heads names synonyms synonym_names =
    record {
      stored = rw heads before.stored;
      names_are = names ∙ before.names_are;
      stored_synonyms = rw synonyms (AllZip-push IsStoredSynonym old.synonyms d.synonyms stored s before.stored_synonyms is);
      synonym_names_are = synonym_names ∙ ap₂ (λ (xs : List (List ℕ)) (x : List ℕ). xs ++ x ∷ []) before.synonym_names_are (sym is.name_is) ∙ sym (map-append (λ (t : Synonym). t.name) d.synonyms (s ∷ []));
    }

-- cut back by one, what is declared is as it was
pub same_after : {X : Type 0} (xs ys zs : List X) (x : X) → ys ≡ xs ++ x ∷ [] → zs ≡ take (length xs) ys → zs ≡ xs
same_after xs ys zs x grown cut = cut ∙ take-of xs (x ∷ []) ys grown

-- the names of the block
named-names : (kind : Kind) (block : List SortDecl) → map (λ (head : Head). head.name) (map (named_only kind) block) ≡ map (λ (s : SortDecl). s.name) block
named-names kind [] = refl
named-names kind (decl ∷ block) = ap (λ (names : List (List ℕ)). decl.name ∷ names) (named-names kind block)

-- a block is declared where its sorts and generics come in place of their names alone
pub block-declared : (old mid new : Generics) (d : Declared) (kind : Kind) (block : List SortDecl) (stored : List StoredHead) (own : List Head) (first : ℕ) → AreDeclared old d → IsBegun old mid → AreDeclared mid (with_names d kind block) → heads_in d kind block ≡ Ok own → AreStored stored own → first ≡ length old.heads → new.heads ≡ take first mid.heads ++ stored → new.head_names ≡ mid.head_names → new.synonyms ≡ mid.synonyms → new.synonym_names ≡ mid.synonym_names → AreDeclared new (with_heads d own)
block-declared old mid new d kind block stored own first before begun named is all first_is heads names synonyms synonym_names =
    AreDeclared-more old new d stored own before all
    (heads ∙ ap (λ (xs : List StoredHead). xs ++ stored) (ap (λ n. take n mid.heads) first_is ∙ begun.heads_begin))
    (names ∙ named.names_are ∙ map-append (λ (head : Head). head.name) d.heads (map (named_only kind) block) ∙ ap₂ (λ (xs ys : List (List ℕ)). xs ++ ys) (sym before.names_are) (named-names kind block ∙ sym (own-names (with_names d kind block) kind block own is)))
    (synonyms ∙ begun.synonyms_stay)
    (synonym_names ∙ begun.synonym_names_stay)

-- a sort or generic of the block, where its field sorts are known
pub head_in-ok : (d : Declared) (kind : Kind) (decl : SortDecl) (ctors : List (List Expression)) → each (fields_in d) decl.ctors ≡ Ok ctors → head_in d kind decl ≡ Ok (record { name = decl.name; kind = kind; params = decl.params; ctors = ctors })
head_in-ok d kind decl ctors e = rw e refl
