-- Which parameters occur in the expressions of marked nodes.
use Rattle.std.proofs.Common.{◌≡◌, ◌↔◌, ℕ, zero, suc, ◌+◌, ◌<◌, Bool, true, false, List, [], ◌∷◌, length, set, slice_get, Some, option_map, refl, sym, ◌∙◌, ap, subst, inl, inr, ⊎_elim, arith}
use Rattle.std.proofs.lemmas.Bool.{true≢false}
use Rattle.std.proofs.lemmas.Option.{same_Some, slice_get_within}
use Rattle.std.specs.List.{AllZip}
use Rattle.ct_lemmas.proofs.Each.{All-from_slice_get}
use Rattle.ct_lemmas.proofs.Numbers.{last_or_before}
use Rattle.ct_lemmas.proofs.Pairs.{AllZip-at_left, AllZip-at_right}
use Rattle.ct_generics.specs.declared.nodes.ExprId.{ExprId}
use Rattle.ct_generics.specs.declared.nodes.HeadId.{HeadId}
use Rattle.ct_generics.specs.declared.nodes.Node.{Node}
use Rattle.ct_generics.specs.declared.nodes.Node.TheVariants.{Param, Head, Apply}
use Rattle.ct_generics.specs.Expression.{Expression, parameter, applied}
use Rattle.ct_generics.specs.Marks.{marked}
use Rattle.ct_generics.specs.declared.generics.Generics.{Generics}
use Rattle.ct_generics.specs.declared.heads.StoredHead.{StoredHead}
use Rattle.ct_generics.specs.Declarations.{Declared, Head as DeclaredHead}
use Rattle.ct_generics.specs.Stored.{AreDeclared, IsStored}
use Rattle.ct_generics.specs.Nodes.{Stands, StandFor, AreOrdered, AreSingle, AreWithin}
use Rattle.ct_generics.specs.Occurrence.{Occurs, OccursIn, ArePartMarks}
use Rattle.ct_generics.proofs.MarkLemmas.{marked-set}
use Rattle.ct_generics.proofs.NodeLemmas.{Stands-apply, Stands-head, Stands-one, Stands-param, Stands-some, Stands-within}

-- a mark stays where another is set
pub marked-stays : (marks : List Bool) (i j : ℕ) → marked marks j ≡ true → marked (set marks i true) j ≡ true
marked-stays [] i j h = h
marked-stays (m ∷ marks) zero zero h = refl
marked-stays (m ∷ marks) zero (suc j) h = h
marked-stays (m ∷ marks) (suc i) zero h = h
marked-stays (m ∷ marks) (suc i) (suc j) h = marked-stays marks i j h

pub marked-new : (marks : List Bool) (i : ℕ) → i < length marks → marked (set marks i true) i ≡ true
marked-new [] i h = absurd (omega (arith, h))
marked-new (m ∷ marks) zero h = refl
marked-new (m ∷ marks) (suc i) h = marked-new marks i (omega (arith, h))

-- the marks are those of the first fields
pub record AreFieldMarks (fields : List ExprId) (marks : List Bool) (end : ℕ) : Type 0 where
  pub here : (j : ℕ) (id : ExprId) → j < end → slice_get fields j ≡ Some id → marked marks id.0 ≡ true
  pub only : (n : ℕ) → marked marks n ≡ true → (j : ℕ) × (id : ExprId) × (slice_get fields j ≡ Some id) × (n ≡ id.0)

pub AreFieldMarks-start : (fields : List ExprId) (marks : List Bool) → ((n : ℕ) → marked marks n ≡ true → ⊥) → AreFieldMarks fields marks 0
AreFieldMarks-start fields marks unset = record { here = λ j id h. absurd (omega (arith, h)); only = λ n h. absurd (unset n h) }

pub AreFieldMarks-more : (fields : List ExprId) (marks : List Bool) (end : ℕ) (id : ExprId) → slice_get fields end ≡ Some id → id.0 < length marks → AreFieldMarks fields marks end → AreFieldMarks fields (set marks id.0 true) (end + 1)
AreFieldMarks-more fields marks end id at within are =
    record {
      here = λ j other less at_j.
          ⊎_elim (λ before. marked-stays marks id.0 other.0 (are.here j other before at_j))
          (λ last. subst (λ (x : ExprId). marked (set marks id.0 true) x.0 ≡ true) (same_Some id other (sym at ∙ ap (slice_get fields) (sym last) ∙ at_j)) (marked-new marks id.0 within)) (last_or_before j end less);
      only = λ n h. ⊎_elim (λ same. (end, id, at, same)) (λ old. are.only n old) (marked-set marks id.0 n h);
    }

pub ArePartMarks-start : (nodes : List Node) (fields : List ExprId) (row : List Expression) (marks : List Bool) → StandFor nodes fields row → AreFieldMarks fields marks (length fields) → ArePartMarks nodes row (length nodes) marks
ArePartMarks-start nodes fields row marks stand are =
    record {
      only = λ n i e h stands occurs.
          let field = are.only n h in
          let sort = AllZip-at_left (λ (x : ExprId) (f : Expression). Stands nodes x.0 f) fields row field.0 field.1 stand field.2 in
          (field.0, sort.0, sort.1, subst (Occurs i) (Stands-one nodes n e sort.0 stands (subst (λ k. Stands nodes k sort.0) (sym field.3) sort.2)) occurs);
      all = λ i occurs.
          let field = AllZip-at_right (λ (x : ExprId) (f : Expression). Stands nodes x.0 f) fields row occurs.0 occurs.1 stand occurs.2 in
          inl (field.0.0, occurs.1, Stands-within nodes field.0.0 occurs.1 field.2, are.here occurs.0 field.0 (slice_get_within fields occurs.0 field.0 field.1) field.1, field.2, occurs.3);
    }

module _ (nodes : List Node) (row : List Expression) (k : ℕ) (marks : List Bool) (are : ArePartMarks nodes row (k + 1) marks) where
  -- the node is not marked
  pub ArePartMarks-unmarked : marked marks k ≡ false → ArePartMarks nodes row k marks
  ArePartMarks-unmarked unset =
      record {
        only = are.only;
        all = λ i occurs.
            ⊎_elim (λ found.
            ⊎_elim (λ before. inl (found.0, found.1, before, found.3, found.4, found.5))
            (λ last. absurd (true≢false (sym found.3 ∙ ap (marked marks) last ∙ unset))) (last_or_before found.0 k found.2)) (λ node. inr node) (are.all i occurs);
      }

  -- it is that of a parameter
  pub ArePartMarks-param : (j : ℕ) → slice_get nodes k ≡ Some (Param j) → marked marks k ≡ true → ArePartMarks nodes row k marks
  ArePartMarks-param j at set_k =
      record {
        only = are.only;
        all = λ i occurs.
            ⊎_elim (λ found.
            ⊎_elim (λ before. inl (found.0, found.1, before, found.3, found.4, found.5))
            (λ last.
            let is = Stands-param nodes k j found.1 at (subst (λ n. Stands nodes n found.1) last found.4) in
            let same : i ≡ j = subst (Occurs i) is found.5 in
            inr (k, at ∙ ap (λ n. Some (Param n)) (sym same), set_k)) (last_or_before found.0 k found.2)) (λ node. inr node) (are.all i occurs);
      }

  -- it is that of a sort or generic
  pub ArePartMarks-head : (h : HeadId) → slice_get nodes k ≡ Some (Head h) → ArePartMarks nodes row k marks
  ArePartMarks-head h at =
      record {
        only = are.only;
        all = λ i occurs.
            ⊎_elim (λ found.
            ⊎_elim (λ before. inl (found.0, found.1, before, found.3, found.4, found.5))
            (λ last.
            let is = Stands-head nodes k h found.1 at (subst (λ n. Stands nodes n found.1) last found.4) in
            absurd (subst (Occurs i) is found.5)) (last_or_before found.0 k found.2)) (λ node. inr node) (are.all i occurs);
      }

  -- it is that of an expression with an argument more: both parts are marked
  module _ (m l : ExprId) (ordered : AreOrdered nodes) (at : slice_get nodes k ≡ Some (Apply m l)) (set_k : marked marks k ≡ true) (long : length marks ≡ length nodes) where
    both : List Bool
    both = set (set marks m.0 true) l.0 true

    stays : (n : ℕ) → marked marks n ≡ true → marked both n ≡ true
    unfolding both
    stays n h = marked-stays (set marks m.0 true) l.0 n (marked-stays marks m.0 n h)

    whole : (e : Expression) × Stands nodes k e
    whole = Stands-some nodes ordered k (slice_get_within nodes k (Apply m l) at)

    parts : (f a : Expression) × (whole.0 ≡ applied f a) × Stands nodes m.0 f × Stands nodes l.0 a
    parts = Stands-apply nodes k m l whole.0 at whole.1

    in_whole : (i : ℕ) → Occurs i whole.0 → OccursIn row i
    in_whole i occurs = are.only k i whole.0 set_k whole.1 occurs

    only_parts : (n i : ℕ) (e : Expression) → marked both n ≡ true → Stands nodes n e → Occurs i e → OccursIn row i
    unfolding both
    only_parts n i e h stands occurs =
        ⊎_elim
        (λ argument. in_whole i (subst (Occurs i) (sym parts.2) (inr (subst (Occurs i) (Stands-one nodes n e parts.1 stands (subst (λ x. Stands nodes x parts.1) (sym argument) parts.4)) occurs))))
        (λ before.
        ⊎_elim
        (λ function. in_whole i (subst (Occurs i) (sym parts.2) (inl (subst (Occurs i) (Stands-one nodes n e parts.0 stands (subst (λ x. Stands nodes x parts.0) (sym function) parts.3)) occurs))))
        (λ old. are.only n i e old stands occurs) (marked-set marks m.0 n before)) (marked-set (set marks m.0 true) l.0 n h)

    below : (m.0 < k) × (l.0 < k)
    below = ordered k (Apply m l) at

    within : k < length nodes
    within = slice_get_within nodes k (Apply m l) at

    pub ArePartMarks-apply : length (set marks m.0 true) ≡ length marks → ArePartMarks nodes row k (set (set marks m.0 true) l.0 true)
    unfolding both
    ArePartMarks-apply same_length =
        record {
          only = only_parts;
          all = λ i occurs.
              ⊎_elim (λ found.
              ⊎_elim (λ before. inl (found.0, found.1, before, stays found.0 found.3, found.4, found.5))
              (λ last.
              let of = Stands-apply nodes k m l found.1 at (subst (λ n. Stands nodes n found.1) last found.4) in
              ⊎_elim
              (λ function. inl (m.0, of.0, below.0, marked-stays (set marks m.0 true) l.0 m.0 (marked-new marks m.0 (omega (arith, below.0, within, long))), of.3, function))
              (λ argument. inl (l.0, of.1, below.1, marked-new (set marks m.0 true) l.0 (omega (arith, below.1, within, long, same_length)), of.4, argument)) (subst (Occurs i) of.2 found.5)) (last_or_before found.0 k found.2))
              (λ node. inr (node.0, node.1, stays node.0 node.2)) (are.all i occurs);
        }

-- ---- what is stored

pub StandFor-within : (nodes : List Node) (ids : List ExprId) (es : List Expression) → StandFor nodes ids es → AreWithin nodes ids
StandFor-within nodes ids es stand =
    All-from_slice_get (λ (id : ExprId). id.0 < length nodes) ids (λ k id at.
    let sort = AllZip-at_left (λ (x : ExprId) (e : Expression). Stands nodes x.0 e) ids es k id stand at in
    Stands-within nodes id.0 sort.0 sort.2)

-- the rows of a sort or generic stand in its template for the sorts of its fields
pub rows_stand : (g : Generics) (d : Declared) (h : ℕ) (head : DeclaredHead) (template : List Node) (rows : List (List ExprId)) → AreDeclared g d → slice_get d.heads h ≡ Some head → option_map (λ (stored : StoredHead). stored.template) (slice_get g.heads h) ≡ Some template → option_map (λ (stored : StoredHead). stored.ctors) (slice_get g.heads h) ≡ Some rows → AllZip (StandFor template) rows head.ctors
rows_stand g d h head template rows are at template_is rows_are =
    let found = AllZip-at_right IsStored g.heads d.heads h head are.stored at in
    let same_template : found.0.template ≡ template = same_Some found.0.template template (sym (ap (option_map (λ (stored : StoredHead). stored.template)) found.1) ∙ template_is) in
    let same_rows : found.0.ctors ≡ rows = same_Some found.0.ctors rows (sym (ap (option_map (λ (stored : StoredHead). stored.ctors)) found.1) ∙ rows_are) in
    subst (λ (rs : List (List ExprId)). AllZip (StandFor template) rs head.ctors) same_rows (subst (λ (nodes : List Node). AllZip (StandFor nodes) found.0.ctors head.ctors) same_template found.2.fields)

-- where all is marked, exactly the marked parameters occur
pub param_marked : (nodes : List Node) (row : List Expression) (marks : List Bool) (n i : ℕ) → AreSingle nodes → slice_get nodes n ≡ Some (Param i) → ArePartMarks nodes row 0 marks → (marked marks n ≡ true) ↔ OccursIn row i
param_marked nodes row marks n i single at are = (
  λ h. are.only n i (parameter i) h at refl,
  λ occurs. ⊎_elim (λ found. absurd (omega (arith, found.2))) (λ node. subst (λ k. marked marks k ≡ true) (single node.0 n (Param i) node.1 at) node.2) (are.all i occurs),
)

pub no_param : (nodes : List Node) (row : List Expression) (marks : List Bool) (i : ℕ) → ((n : ℕ) → slice_get nodes n ≡ Some (Param i) → ⊥) → ArePartMarks nodes row 0 marks → OccursIn row i → ⊥
no_param nodes row marks i absent are occurs = ⊎_elim (λ found. omega (arith, found.2)) (λ node. absent node.0 node.1) (are.all i occurs)
