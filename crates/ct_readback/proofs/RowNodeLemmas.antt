-- The nodes that rows say with sorts that these can have, one after the other.
use Rattle.std.proofs.Common.{◌≡◌, ℕ, zero, suc, ◌+◌, ◌<◌, ◌⊎◌, List, [], ◌∷◌, ◌++◌, length, length-append, All, get_or, Option, None, Some, slice_get, refl, sym, ap, ap₂, subst, ◌∙◌, inl, inr, arith}
use Rattle.std.proofs.lemmas.Option.{none-some, same_Some, slice_get_within, slice_get-get_or}
use Rattle.ct_lemmas.proofs.Lists.{slice_get-prefix, slice_get-last, slice_get-there}
use Rattle.ct_sorts.specs.declared.ids.SortId.{SortId}
use Rattle.ct_sorts.specs.Declarations.{Declarations}
use Rattle.ct_sexpr.specs.Expression.{Expressions}
use Rattle.ct_values.specs.declared.node.NodeId.{NodeId}
use Rattle.ct_values.specs.declared.node.Node.{Node}
use Rattle.ct_values.specs.Graph.{Nodes, IsClosed, node_children}
use Rattle.ct_readback.specs.Parts.{count}
use Rattle.ct_readback.specs.Nodes.{said_at}
use Rattle.ct_readback.specs.Descent.{AreSorts, AreNodesSaid}

before_or_last : (k n : ℕ) → k < n + 1 → (k < n) ⊎ (k ≡ n)
before_or_last zero zero less = inr refl
before_or_last zero (suc n) less = inl (omega arith)
before_or_last (suc k) zero less = absurd (omega (arith, less))
before_or_last (suc k) (suc n) less = elim (before_or_last k n (omega (arith, less))) [ inl before ↦ inl (omega (arith, before)) | inr same ↦ inr (ap suc same) ]

module _ (d : Declarations) (rows : Expressions) (reached : List (Option SortId)) (sorts : List SortId) (all : AreSorts d rows reached sorts) where
  -- the first nodes are those that the first rows say
  abbrev pub AreSaidSoFar : Nodes → ℕ → Type 0
  AreSaidSoFar h n = (j : ℕ) (s : SortId) → j < n → slice_get sorts j ≡ Some s → said_at d rows j s ≡ slice_get h j

  -- each row says one
  pub never_unsaid : (i : ℕ) (s : SortId) → slice_get sorts i ≡ Some s → said_at d rows i s ≡ None → ⊥
  never_unsaid i s at unsaid = let own = all.each i s at in none-some own.node (sym unsaid ∙ own.said)

  -- one more
  pub said_more : (h new : Nodes) (x : Node) (i : ℕ) (s : SortId) → slice_get sorts i ≡ Some s → said_at d rows i s ≡ Some x → new ≡ h ++ x ∷ [] → length h ≡ i → AreSaidSoFar h i → (length new ≡ i + 1) × AreSaidSoFar new (i + 1)
  said_more h new x i s at said is long so_far = (
    let longer = length-append h (x ∷ []) in let same = ap length is in omega (arith, longer, same, long),
    λ j t less at_j. elim (before_or_last j i less) [
      | inl before ↦ so_far j t before at_j ∙ sym (ap (λ (l : Nodes). slice_get l j) is ∙ slice_get-prefix h (x ∷ []) j (omega (arith, before, long)))
      | inr last ↦
          let sort : t ≡ s = same_Some t s (sym at_j ∙ ap (slice_get sorts) last ∙ at) in
          ap₂ (λ (m : ℕ) (u : SortId). said_at d rows m u) last sort ∙ said
          ∙ sym (ap (λ (l : Nodes). slice_get l j) is ∙ ap (λ (m : ℕ). slice_get (h ++ x ∷ []) m) (last ∙ sym long) ∙ slice_get-last h x)
    ],
  )

  -- all of them
  pub said_all : (h : Nodes) (i : ℕ) → length h ≡ i → AreSaidSoFar h i → i ≡ length sorts → AreNodesSaid d rows sorts h
  said_all h i long so_far is = record {
    long = long ∙ is;
    each = λ j s at. so_far j s (let within = slice_get_within sorts j s at in omega (arith, within, is)) at;
  }

  -- their children are among them
  pub said_closed : (h : Nodes) → AreNodesSaid d rows sorts h → IsClosed h
  said_closed h nodes n other within k child inside =
      let x = get_or h n other in
      let at : slice_get h n ≡ Some x = slice_get-get_or h n other within in
      let long = nodes.long in
      let t = slice_get-there sorts n (omega (arith, within, long)) in
      let said = all.each n t.0 t.1 in
      let own : said.node ≡ x = same_Some said.node x (sym said.said ∙ nodes.each n t.0 t.1 ∙ at) in
      let below = subst (λ (y : Node). All (λ (c : NodeId). c.0 < count rows) (node_children y)) own said.within k child inside in
      let whole = nodes.long ∙ all.long in
      omega (arith, below, whole)
