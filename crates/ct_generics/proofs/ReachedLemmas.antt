-- The graph of what an expression reaches: the vertex of an expression, and what is met.
use Rattle.std.proofs.Common.{◌≡◌, ℕ, ◌<◌, List, [], ◌∷◌, length, map, All, Option, Some, None, IfSome, IfNone, slice_get, refl, sym, ◌∙◌}
use Rattle.std.specs.List.{AllZip}
use Rattle.std.proofs.lemmas.Option.{none-some}
use Rattle.ct_lemmas.proofs.Each.{All-from_slice_get}
use Rattle.ct_lemmas.proofs.Lists.{slice_get-map_at}
use Rattle.ct_lemmas.proofs.Pairs.{AllZip-at_left, AllZip-at_right}
use Rattle.ct_generics.specs.declared.nodes.ExprId.{ExprId}
use Rattle.ct_generics.specs.declared.nodes.Node.{Node}
use Rattle.ct_generics.specs.declared.heads.StoredHead.{StoredHead}
use Rattle.ct_generics.specs.Expression.{Expression, substitute}
use Rattle.ct_generics.specs.Declarations.{Head}
use Rattle.ct_generics.specs.Nodes.{Stands, StandFor, AreImages}
use Rattle.ct_generics.specs.Images.{IsImageAt, IsRowImage, AreBelow}
use Rattle.ct_generics.specs.Stored.{IsStored}
use Rattle.ct_generics.specs.Reach.{StandsIn}
use Rattle.ct_generics.specs.Reached.{StandsAt}
use Rattle.ct_generics.proofs.NodeLemmas.{Stands-within}

-- the image of a field is its sort with the arguments in place of the parameters
fields-images : (template nodes : List Node) (images ids : List ExprId) (args : List Expression) → AreImages template nodes images args → (is : List ℕ) (fields : List ExprId) (es : List Expression) → AllZip (IsImageAt images ids) is fields → StandFor template fields es → AllZip (StandsAt nodes ids) is (map (substitute args) es)
fields-images template nodes images ids args known [] [] [] at stand = tt
fields-images template nodes images ids args known [] [] (e ∷ es) at stand = absurd stand
fields-images template nodes images ids args known [] (f ∷ fields) es at stand = absurd at
fields-images template nodes images ids args known (i ∷ is) [] es at stand = absurd at
fields-images template nodes images ids args known (i ∷ is) (f ∷ fields) [] at stand = absurd stand
fields-images template nodes images ids args known (i ∷ is) (f ∷ fields) (e ∷ es) at stand =
    ((at.0.0, at.0.2, known f.0 at.0.0 e at.0.1 stand.0), fields-images template nodes images ids args known is fields es at.1 stand.1)

-- the same of each constructor
pub rows-images : (template nodes : List Node) (images ids : List ExprId) (args : List Expression) → AreImages template nodes images args → (rows : List (List ℕ)) (ctors : List (List ExprId)) (es : List (List Expression)) → AllZip (AllZip (IsImageAt images ids)) rows ctors → AllZip (StandFor template) ctors es → AllZip (AllZip (StandsAt nodes ids)) rows (map (map (substitute args)) es)
rows-images template nodes images ids args known [] [] [] at stand = tt
rows-images template nodes images ids args known [] [] (e ∷ es) at stand = absurd stand
rows-images template nodes images ids args known [] (f ∷ fields) es at stand = absurd at
rows-images template nodes images ids args known (i ∷ is) [] es at stand = absurd at
rows-images template nodes images ids args known (i ∷ is) (f ∷ fields) [] at stand = absurd stand
rows-images template nodes images ids args known (i ∷ is) (f ∷ fields) (e ∷ es) at stand =
    (fields-images template nodes images ids args known i f e at.0 stand.0, rows-images template nodes images ids args known is fields es at.1 stand.1)

-- what is met newly is the sort of a field
pub row-image : (template nodes : List Node) (images : List ExprId) (args : List Expression) → AreImages template nodes images args → (ctors : List (List ExprId)) (es : List (List Expression)) (id : ExprId) → AllZip (StandFor template) ctors es → IsRowImage images ctors id → (f : Expression) × Stands nodes id.0 f × StandsIn (map (map (substitute args)) es) f
row-image template nodes images args known ctors es id stand image =
    let row = AllZip-at_left (StandFor template) ctors es image.0 image.1 stand image.2 in
    let field = image.3 in
    let sort = AllZip-at_left (λ (x : ExprId) (e : Expression). Stands template x.0 e) image.1 row.0 field.0 field.1 row.2 field.2 in
    let at_row : slice_get (map (map (substitute args)) es) image.0 ≡ Some (map (substitute args) row.0) = slice_get-map_at (map (substitute args)) es image.0 row.0 row.1 in
    let at_field : slice_get (map (substitute args) row.0) field.0 ≡ Some (substitute args sort.0) = slice_get-map_at (substitute args) row.0 field.0 sort.0 sort.1 in
    (substitute args sort.0, known field.1.0 id sort.0 field.3 sort.2, (image.0, field.0, map (substitute args) row.0, at_row, at_field))

-- the fields of what is stored are expressions of the template
pub stored_below : (stored : StoredHead) (head : Head) → IsStored stored head → All (AreBelow (length stored.template)) stored.ctors
stored_below stored head is =
    All-from_slice_get (AreBelow (length stored.template)) stored.ctors (λ a fields at.
    let row = AllZip-at_left (StandFor stored.template) stored.ctors head.ctors a fields is.fields at in
    All-from_slice_get (λ (x : ExprId). x.0 < length stored.template) fields (λ b field at_b.
    let sort = AllZip-at_left (λ (x : ExprId) (e : Expression). Stands stored.template x.0 e) fields row.0 b field row.2 at_b in
    Stands-within stored.template field.0 sort.0 sort.2))

pub IfSome-map : {X : Type 0} (o : Option X) (P Q : X → Type 0) → ((x : X) → P x → Q x) → IfSome o P → IfSome o Q
IfSome-map None P Q map h = h
IfSome-map (Some x) P Q map h = map x h

pub IfNone-map : {X : Type 0} (o : Option X) (P Q : Type 0) → (P → Q) → IfNone o P → IfNone o Q
IfNone-map None P Q map h = map h
IfNone-map (Some x) P Q map h = h

-- where nothing is stored nothing is declared
pub AllZip-missing : {X Y : Type 0} (R : X → Y → Type 0) (xs : List X) (ys : List Y) (i : ℕ) → AllZip R xs ys → slice_get xs i ≡ None → slice_get ys i ≡ None
AllZip-missing R xs ys i all none = by (slice_get ys i) refl
  where
    by : (o : Option _) → slice_get ys i ≡ o → slice_get ys i ≡ None
    by None e = e
    by (Some y) e = let found = AllZip-at_right R xs ys i y all e in absurd (none-some found.0 (sym none ∙ found.1))
