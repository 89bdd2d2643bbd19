-- Values of terms that are the same: of Boolean terms by their truth, and of constructor terms argument by argument.
use Rattle.std.proofs.Common.{◌≡◌, ℕ, zero, suc, Bool, true, false, List, [], ◌∷◌, map, Some, slice_get, refl, sym, ap, subst, ◌∙◌}
use Rattle.std.specs.List.{AllZip}
use Rattle.std.proofs.lemmas.Option.{none-some, same_Some}
use Rattle.ct_lemmas.proofs.Lists.{slice_get-map_at}
use Rattle.ct_lemmas.proofs.Prefixes.{slice_get-take}
use Rattle.ct_sorts.specs.declared.ids.CtorId.{CtorId}
use Rattle.ct_sorts.specs.declared.ids.SortId.{SortId}
use Rattle.ct_sorts.specs.Declarations.{Declarations, bool_sort}
use Rattle.ct_values.specs.declared.node.Head.TheVariants as heads
use Rattle.ct_values.specs.Graph.{Nodes}
use Rattle.ct_values.specs.Value.{Value}
use Rattle.ct_values.specs.Agreement.{Point, point, children, children_of, AgreeAlways}
use Rattle.ct_values.specs.TruthValue.{truth, truth_ctor, is_head, is_built}
use Rattle.ct_terms.specs.declared.ids.TermId.{TermId}
use Rattle.ct_terms.specs.declared.term.Core.{Core}
use Rattle.ct_terms.specs.declared.term.Core.TheVariants as core
use Rattle.ct_terms.specs.Terms.{Terms, IsBoolean, Has}
use Rattle.ct_eval.specs.declared.interp.Interp.{Interp}
use Rattle.ct_eval.specs.Evaluation.{value_of}
use Rattle.ct_eval.specs.Truth.{truth_value}
use Rattle.ct_rules.specs.Rules.{truth_term}
use Rattle.ct_checker.proofs.Setting.{Setting, Equal, value_point}

-- values that are the same one for one are so at each index
pub same_at : (g : Nodes) (vs ws : List Value) (index : ℕ) (v w : Value) → AllZip AgreeAlways (map (point g) vs) (map (point g) ws) → slice_get vs index ≡ Some v → slice_get ws index ≡ Some w → AgreeAlways (point g v) (point g w)
same_at g [] ws index v w all left right = absurd (none-some _ left)
same_at g (x ∷ vs) [] index v w all left right = absurd all
same_at g (x ∷ vs) (y ∷ ws) zero v w all left right =
    subst (λ (z : Value). AgreeAlways (point g v) (point g z)) (same_Some _ _ right) (subst (λ (z : Value). AgreeAlways (point g z) (point g y)) (same_Some _ _ left) all.0)
same_at g (x ∷ vs) (y ∷ ws) (suc index) v w all left right = same_at g vs ws index v w all.1 left right

module _ (d : Declarations) (i : Interp) (terms : Terms) (setting : Setting d i terms) where
  -- `true` and `false` stand in the table, and are Boolean
  pub truth_stands : (b : Bool) → slice_get terms (truth_term b).0 ≡ Some (core.Con (truth_ctor b) [], bool_sort)
  truth_stands true = slice_get-take 2 terms 0 _ (ap (λ (l : List (Core × SortId)). slice_get l 0) setting.table.begins)
  truth_stands false = slice_get-take 2 terms 1 _ (ap (λ (l : List (Core × SortId)). slice_get l 1) setting.table.begins)

  truth_boolean : (b : Bool) → IsBoolean terms (truth_term b)
  truth_boolean b = (core.Con (truth_ctor b) [], truth_stands b)

  -- each is what it says
  truth_head : (b : Bool) → is_head (truth_ctor true) (Some (heads.Con (truth_ctor b))) ≡ b
  truth_head true = refl
  truth_head false = refl

  pub truth_of-truth : (b : Bool) → truth_value d i terms (truth_term b) ≡ b
  truth_of-truth b =
      ap (is_head (truth_ctor true)) (setting.table.ctor_head (truth_term b) (truth_ctor b) [] (bool_sort, truth_stands b)) ∙ truth_head b

  -- a Boolean term equals the term of its truth value
  pub stated : (t : TermId) (b : Bool) → IsBoolean terms t → truth_value d i terms t ≡ b → Equal d i terms t (truth_term b)
  stated t b boolean is =
      let own : AgreeAlways (value_point d i terms t) (point i.graph (truth b)) =
      subst (λ (c : Bool). AgreeAlways (value_point d i terms t) (point i.graph (truth c))) is (setting.table.boolean t boolean) in
      let other : AgreeAlways (value_point d i terms (truth_term b)) (point i.graph (truth b)) =
      subst (λ (c : Bool). AgreeAlways (value_point d i terms (truth_term b)) (point i.graph (truth c))) (truth_of-truth b) (setting.table.boolean (truth_term b) (truth_boolean b)) in
      setting.same.chained _ _ _ own (setting.same.turned _ _ other)

  -- and what equals it has that truth value
  pub read : (t : TermId) (b : Bool) → Equal d i terms t (truth_term b) → truth_value d i terms t ≡ b
  read t b equal = setting.table.one_truth t (truth_term b) equal ∙ truth_of-truth b

  -- a constructor term is built by its constructor
  pub ctor_built : (t : TermId) (c : CtorId) (args : List TermId) → Has terms (core.Con c args) t.0 → is_built i.graph c (value_of d i terms t) ≡ true
  ctor_built t c args stands = (setting.values.built (value_of d i terms t) c).1 (setting.table.ctor_head t c args stands)

  -- what equals a constructor term is built by its constructor
  pub equal_built : (t con : TermId) (c : CtorId) (args : List TermId) → Has terms (core.Con c args) con.0 → Equal d i terms t con → is_built i.graph c (value_of d i terms t) ≡ true
  equal_built t con c args stands equal = setting.table.one_answer c t con equal ∙ ctor_built con c args stands

  -- the children of terms that are equal are the same one for one
  pub equal_children : (t u : TermId) → Equal d i terms t u → AllZip AgreeAlways (map (point i.graph) (children_of i.graph (value_of d i terms t))) (map (point i.graph) (children_of i.graph (value_of d i terms u)))
  equal_children t u equal = ((setting.same.always (value_point d i terms t) (value_point d i terms u)).0 equal).1

  -- and where they stand for constructor terms, so are heads and arguments
  pub argument_at : (t : TermId) (c : CtorId) (args : List TermId) (index : ℕ) (a : TermId) → Has terms (core.Con c args) t.0 → slice_get args index ≡ Some a → slice_get (children_of i.graph (value_of d i terms t)) index ≡ Some (value_of d i terms a)
  argument_at t c args index a stands at =
      ap (λ (vs : List Value). slice_get vs index) (setting.table.ctor_children t c args stands) ∙ slice_get-map_at (value_of d i terms) args index a at

  -- what holds of the arguments of constructor terms, one for one, holds of the children of their values
  pub over_arguments : (R : Point → Point → Type 0) (x y : TermId) (c k : CtorId) (xs ys : List TermId) → Has terms (core.Con c xs) x.0 → Has terms (core.Con k ys) y.0 → AllZip R (map (point i.graph) (map (value_of d i terms) xs)) (map (point i.graph) (map (value_of d i terms) ys)) → AllZip R (children (value_point d i terms x)) (children (value_point d i terms y))
  over_arguments R x y c k xs ys left right all =
      subst (λ (vs : List Value). AllZip R (map (point i.graph) vs) (children (value_point d i terms y))) (sym (setting.table.ctor_children x c xs left))
      (subst (λ (vs : List Value). AllZip R (map (point i.graph) (map (value_of d i terms) xs)) (map (point i.graph) vs)) (sym (setting.table.ctor_children y k ys right)) all)
