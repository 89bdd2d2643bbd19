-- Numbers of expressions that are sorts of the list stand there.
use Rattle.std.proofs.Common.{◌≡◌, ℕ, zero, suc, ◌+◌, ◌<◌, All, List, [], ◌∷◌, ◌++◌, length, get_or, slice_get, Option, Some, refl, sym, ◌∙◌, ap, ap₂, subst}
use Rattle.std.specs.List.{AllZip, flat_map}
use Rattle.std.proofs.lemmas.Option.{none-some, same_Some, slice_get_within, slice_get-get_or}
use Rattle.ct_lemmas.proofs.Lists.{slice_get-flat_map, slice_get-map_at}
use Rattle.ct_generics.specs.declared.nodes.ExprId.{ExprId}
use Rattle.ct_generics.specs.declared.nodes.HeadId.{HeadId}
use Rattle.ct_generics.specs.declared.nodes.Node.{Node}
use Rattle.ct_generics.specs.declared.nodes.Node.TheVariants.{Param, Head as HeadNode, Apply}
use Rattle.ct_generics.specs.Expression.{Expression, parameter, named, applied, args_of}
use Rattle.ct_generics.specs.Nodes.{AreSingle, Stands, StandFor}
use Rattle.ct_generics.specs.Reach.{AreDifferent}
use Rattle.ct_sorts.specs.Growing.{AreNumbered}
use Rattle.ct_sorts.specs.Same.{number_among}
use Rattle.ct_sorts.proofs.CutLemmas.{AllZip-source}
use Rattle.ct_sorts.proofs.SameLemmas.{number_at}
use Rattle.ct_sorts.proofs.TableSortsLemmas.{stand_at, stands_one}

module _ (nodes : List Node) (single : AreSingle nodes) where
  same_id : (a b : ExprId) → a.0 ≡ b.0 → a ≡ b
  same_id a b e i = record { 0 = e i }

  -- an expression has one number
  pub stands_single : (e : Expression) (m n : ℕ) → Stands nodes m e → Stands nodes n e → m ≡ n
  stands_single (parameter i) m n p q = single m n (Param i) p q
  stands_single (named h) m n p q = single m n (HeadNode (record { 0 = h })) p q
  stands_single (applied e a) m n p q =
      let left = same_id p.0 q.0 (stands_single e p.0.0 q.0.0 p.3 q.3) in
      let right = same_id p.1 q.1 (stands_single a p.1.0 q.1.0 p.4 q.4) in
      single m n (Apply p.0 p.1) p.2 (q.2 ∙ ap₂ (λ (x y : ExprId). Some (Apply x y)) (sym left) (sym right))

  pub number_of : (ids : List ExprId) (es : List Expression) (s : ℕ) (f : Expression) → StandFor nodes ids es → slice_get es s ≡ Some f → (id : ExprId) × (slice_get ids s ≡ Some id) × Stands nodes id.0 f
  number_of [] [] s f all at = absurd (none-some _ at)
  number_of [] (e ∷ es) s f all at = absurd all
  number_of (id ∷ ids) [] s f all at = absurd all
  number_of (id ∷ ids) (e ∷ es) zero f all at = (id, refl, subst (Stands nodes id.0) (same_Some _ _ at) all.0)
  number_of (id ∷ ids) (e ∷ es) (suc s) f all at = number_of ids es s f all.1 at

  -- the number of a sort of the list stands at its place
  pub listed : (ids : List ExprId) (es : List Expression) (s : ℕ) (id : ExprId) (f : Expression) → StandFor nodes ids es → slice_get es s ≡ Some f → Stands nodes id.0 f → slice_get ids s ≡ Some id
  listed ids es s id f all at stands =
      let there = number_of ids es s f all at in
      there.1 ∙ ap Some (same_id there.0 id (stands_single f there.0.0 id.0 there.2 stands))

  -- so do those of rows of such sorts
  pub rows_listed : (ids : List ExprId) (es : List Expression) (rows : List (List ExprId)) (fields : List (List Expression)) → StandFor nodes ids es → AllZip (StandFor nodes) rows fields
      → ((i j : ℕ) (row : List Expression) (f : Expression) → slice_get fields i ≡ Some row → slice_get row j ≡ Some f → (s : ℕ) × (slice_get es s ≡ Some f))
      → All (All (λ (id : ExprId). (i : ℕ) × (slice_get ids i ≡ Some id))) rows
  rows_listed ids es rows fields all zipped there k row within j id below =
      let own = AllZip-source (StandFor nodes) rows fields k (get_or rows k row) zipped (slice_get-get_or rows k row within) in
      let field = AllZip-source (λ (x : ExprId) (e : Expression). Stands nodes x.0 e) (get_or rows k row) own.0 j (get_or (get_or rows k row) j id) own.2 (slice_get-get_or (get_or rows k row) j id below) in
      let s = there k j own.0 field.0 own.1 field.1 in
      (s.0, listed ids es s.0 (get_or (get_or rows k row) j id) field.0 all s.1 field.2)

  -- and those of arguments
  pub args_listed : (ids args : List ExprId) (es fs : List Expression) (bound : ℕ) → StandFor nodes ids es → StandFor nodes args fs
      → ((k : ℕ) (f : Expression) → slice_get fs k ≡ Some f → (s : ℕ) × (s < bound) × (slice_get es s ≡ Some f))
      → All (λ (id : ExprId). (i : ℕ) × (i < bound) × (slice_get ids i ≡ Some id)) args
  args_listed ids args es fs bound all zipped there k id below =
      let field = AllZip-source (λ (x : ExprId) (e : Expression). Stands nodes x.0 e) args fs k (get_or args k id) zipped (slice_get-get_or args k id below) in
      let s = there k field.0 field.1 in
      (s.0, s.1, listed ids es s.0 (get_or args k id) field.0 all s.2 field.2)

AllZip-length' : {X Y : Type 0} (R : X → Y → Type 0) (xs : List X) (ys : List Y) → AllZip R xs ys → length xs ≡ length ys
AllZip-length' R [] [] all = refl
AllZip-length' R [] (y ∷ ys) all = absurd all
AllZip-length' R (x ∷ xs) [] all = absurd all
AllZip-length' R (x ∷ xs) (y ∷ ys) all = ap suc (AllZip-length' R xs ys all.1)

-- the numbers of a row are those of its sorts
pub row_numbered : (nodes : List Node) (ids : List ExprId) (origins : List Expression) (row : List ExprId) (es : List Expression) → AreDifferent origins → StandFor nodes ids origins → StandFor nodes row es → AreNumbered ids row origins es
row_numbered nodes ids origins row es different all zipped = (
  AllZip-length' (λ (x : ExprId) (e : Expression). Stands nodes x.0 e) row es zipped,
  λ j s id e at_row at_es at_ids.
      let field = AllZip-source (λ (x : ExprId) (f : Expression). Stands nodes x.0 f) row es j id zipped at_row in
      let same_field : field.0 ≡ e = same_Some _ _ (sym field.1 ∙ at_es) in
      let origin = stand_at nodes ids origins s id all at_ids in
      let same : origin.0 ≡ e = stands_one nodes id.0 origin.0 e origin.2 (subst (Stands nodes id.0) same_field field.2) in
      let found = number_at origins e (s, origin.1 ∙ ap Some same) in
      found.1 ∙ ap Some (different found.0 s e found.2 (origin.1 ∙ ap Some same)),
)

pub rows_numbered : (nodes : List Node) (ids : List ExprId) (origins : List Expression) (rows : List (List ExprId)) (fields : List (List Expression)) → AreDifferent origins → StandFor nodes ids origins → AllZip (StandFor nodes) rows fields → AllZip (λ (row : List ExprId) (es : List Expression). AreNumbered ids row origins es) rows fields
rows_numbered nodes ids origins [] [] different all zipped = tt
rows_numbered nodes ids origins [] (es ∷ fields) different all zipped = absurd zipped
rows_numbered nodes ids origins (row ∷ rows) [] different all zipped = absurd zipped
rows_numbered nodes ids origins (row ∷ rows) (es ∷ fields) different all zipped = (row_numbered nodes ids origins row es different all zipped.0, rows_numbered nodes ids origins rows fields different all zipped.1)
