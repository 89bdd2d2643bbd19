-- What tests of the builder say of open classes and of other classes.
use Rattle.std.proofs.Common.{◌≡◌, ℕ, Bool, true, false, not, nat_eq, List, [], ◌∷◌, ◌++◌, length, slice_get, Some, None, Option, option_map, unwrap_or, is_some, MatchBool, IfSome, IfNone, refl, sym, ◌∙◌, ap, subst, true≢false}
use Rattle.std.proofs.lemmas.Bool.Decides.{Decides-eqb}
use Rattle.std.proofs.lemmas.Option.{none-some, same_Some}
use Rattle.ct_lemmas.proofs.Lists.{slice_get-last}
use Rattle.ct_sorts.specs.declared.ids.CtorId.{CtorId}
use Rattle.ct_sorts.specs.declared.ids.SortId.{SortId}
use Rattle.ct_sorts.specs.declared.ids.Kind.{Kind}
use Rattle.ct_sorts.specs.declared.ids.Kind.TheVariants.{Free, Data}
use Rattle.ct_sorts.specs.Declarations.{Declarations, Sort}
use Rattle.ct_sorts.specs.Grown.{Begins}
use Rattle.ct_card.specs.declared.size.Size.{Size}
use Rattle.ct_card.specs.declared.size.Size.TheVariants.{Infinite}
use Rattle.ct_card.specs.Cardinality.{HasSize}
use Rattle.ct_card.specs.Defaults.{is_free, is_free_sort}
use Rattle.ct_values.specs.declared.node.NodeId.{NodeId}
use Rattle.ct_values.specs.declared.node.Node.{Node}
use Rattle.ct_values.specs.Graph.{Nodes, node_head}
use Rattle.ct_values.specs.Agreement.{node_point, head}
use Rattle.ct_terms.specs.declared.ids.TermId.{TermId}
use Rattle.ct_terms.specs.declared.term.Core.TheVariants.{Con}
use Rattle.ct_terms.specs.Terms.{Has, IsOfSort}
use Rattle.ct_congr.specs.State.{State, AreEqual, IsConstructorTerm, IsQuiet}
use Rattle.ct_build.specs.declared.open_classes.OpenClass.{OpenClass}
use Rattle.ct_build.specs.ClassValues.{IsBuiltBy}
use Rattle.ct_build.specs.OpenClasses.{IsOpenClass}
use Rattle.ct_build.specs.Nodes.{IsOtherClass}
use Rattle.ct_build.proofs.TermLemmas.{one_term_sort}

-- two numbers of terms that the test tells apart, or not
pub other_term : (t u : TermId) → not (nat_eq t.0 u.0) ≡ true → t ≡ u → ⊥
other_term t u told same = true≢false (sym told ∙ ap not ((Decides-eqb t.0 u.0).1 (ap (λ (s : TermId). s.0) same)))

pub same_term : (t u : TermId) → not (nat_eq t.0 u.0) ≡ false → t ≡ u
same_term t u told = by (nat_eq t.0 u.0) refl told
  where
    by : (b : Bool) → nat_eq t.0 u.0 ≡ b → not b ≡ false → t ≡ u
    by true e h = let number = (Decides-eqb t.0 u.0).0 e in λ i. record { 0 = number i }
    by false e h = absurd (true≢false h)

module _ (state : State) (t : TermId) where
  pub own_of : (rep : TermId) → slice_get state.reps t.0 ≡ Some rep → slice_get state.reps rep.0 ≡ Some rep → (r : TermId) → slice_get state.reps t.0 ≡ Some r → slice_get state.reps r.0 ≡ Some r
  own_of rep at own r at_r = subst (λ (q : TermId). slice_get state.reps q.0 ≡ Some q) (same_Some rep r (sym at ∙ at_r)) own

  -- a term that is not its own representative represents no class
  pub not_own : (rep : TermId) → slice_get state.reps t.0 ≡ Some rep → (rep ≡ t → ⊥) → slice_get state.reps t.0 ≡ Some t → ⊥
  not_own rep at other own = other (same_Some rep t (sym at ∙ own))

  own_class : (class : OpenClass) → class.rep ≡ t → IsOpenClass state class → slice_get state.reps t.0 ≡ Some t
  own_class class same is = subst (λ (q : TermId). slice_get state.reps q.0 ≡ Some q) same is.own

  pub not_own_open : (rep : TermId) → slice_get state.reps t.0 ≡ Some rep → (rep ≡ t → ⊥) → (class : OpenClass) → class.rep ≡ t → IsOpenClass state class → ⊥
  not_own_open rep at other class same is = not_own rep at other (own_class class same is)

  pub built_open : (con : TermId) → IsConstructorTerm state.terms con → AreEqual state t con → (class : OpenClass) → class.rep ≡ t → IsOpenClass state class → ⊥
  built_open con built equal class same is = is.unbuilt con built (subst (λ (q : TermId). AreEqual state q con) (sym same) equal)

  pub built_some : (o : Option TermId) → is_some o ≡ true → IfSome o (λ con. IsConstructorTerm state.terms con × AreEqual state t con) → (class : OpenClass) → class.rep ≡ t → IsOpenClass state class → ⊥
  built_some None e h = absurd (true≢false (sym e))
  built_some (Some con) e h = built_open con h.0 h.1

  pub small_open : (s : SortId) (size : Size) → IsOfSort state.terms t s → HasSize state.declarations s.0 size → ((a b : Size) → HasSize state.declarations s.0 a → HasSize state.declarations s.0 b → a ≡ b) → (size ≡ Infinite → ⊥) → (class : OpenClass) → class.rep ≡ t → IsOpenClass state class → ⊥
  small_open s size is_of has one other class same is =
      let sort_is : is.sort ≡ s = one_term_sort state.terms t is.sort s (subst (λ (q : TermId). IsOfSort state.terms q is.sort) same is.sorted) is_of in
      other (one size Infinite has (subst (λ (q : SortId). HasSize state.declarations q.0 Infinite) sort_is is.infinite))

  pub kind_other : (s : SortId) (k : Kind) → slice_get state.reps t.0 ≡ Some t → IsOfSort state.terms t s → option_map (λ (x : Sort). x.kind) (slice_get state.declarations.sorts s.0) ≡ Some k → (k ≡ Data → ⊥) → IsOtherClass state t
  kind_other s k own is_of kind not_data = record {
    own = own;
    other = λ is.
        let one : is.id ≡ s = one_term_sort state.terms t is.id s is.sorted is_of in
        not_data (same_Some k Data (sym kind ∙ ap (λ (q : SortId). option_map (λ (x : Sort). x.kind) (slice_get state.declarations.sorts q.0)) (sym one) ∙ ap (option_map (λ (x : Sort). x.kind)) is.declared ∙ ap Some is.kind));
  }

-- an uninterpreted sort is one
pub free_sort : (d : Declarations) (s : ℕ) → option_map (λ (x : Sort). x.kind) (slice_get d.sorts s) ≡ Some Free → is_free_sort d s ≡ true
free_sort d s e = by (slice_get d.sorts s) e
  where
    by : (o : Option Sort) → option_map (λ (x : Sort). x.kind) o ≡ Some Free → unwrap_or (option_map (λ (x : Sort). is_free x.kind) o) false ≡ true
    by None h = absurd (none-some Free h)
    by (Some sort) h = ap is_free (same_Some sort.kind Free h)

-- what stands at the end of a graph
pub pushed_head : (g : Nodes) (node : Node) (n : NodeId) → n.0 ≡ length g → head (node_point (g ++ node ∷ []) n) ≡ Some (node_head node)
pushed_head g node n number = ap (option_map node_head) (ap (slice_get (g ++ node ∷ [])) number ∙ slice_get-last g node)

-- a graph that got one node begins as it was
pub begins_pushed : (g : Nodes) (node : Node) → Begins g (g ++ node ∷ [])
begins_pushed g node = (node ∷ [], refl)

-- what follows from an answer that is nothing, or something
pub if_none : {X : Type 0} (P Q : Type 0) (o : Option X) → (P → Q) → IfNone o P → IfNone o Q
if_none P Q None step h = step h
if_none P Q (Some x) step h = h

pub if_some : {X : Type 0} (P Q : X → Type 0) (o : Option X) → ((x : X) → P x → Q x) → IfSome o P → IfSome o Q
if_some P Q None step h = h
if_some P Q (Some x) step h = step x h

-- whether a class has a term of this constructor is whether it has this one
pub constructor_test : (state : State) → IsQuiet state → (t con : TermId) (own c : CtorId) (xs : List TermId) → AreEqual state t con → Has state.terms (Con own xs) con.0 → MatchBool (nat_eq own.0 c.0) ((args : List TermId) × IsBuiltBy state t c args) ((args : List TermId) → IsBuiltBy state t c args → ⊥)
constructor_test state quiet t con own c xs equal stands = by (nat_eq own.0 c.0) refl
  where
    by : (b : Bool) → nat_eq own.0 c.0 ≡ b → MatchBool b ((args : List TermId) × IsBuiltBy state t c args) ((args : List TermId) → IsBuiltBy state t c args → ⊥)
    by true e =
        let number = (Decides-eqb own.0 c.0).0 e in
        let same : own ≡ c = λ i. record { 0 = number i } in
        (xs, record { con = con; equal = equal; stands = subst (λ (k : CtorId). Has state.terms (Con k xs) con.0) same stands })
    by false e = λ args built. absurd (quiet.one con built.con (record {
      first = own;
      second = c;
      xs = xs;
      ys = args;
      left = stands;
      right = built.stands;
      apart = λ same. true≢false (sym ((Decides-eqb own.0 c.0).1 (ap (λ (k : CtorId). k.0) same)) ∙ e);
      equal = (equal.0, equal.2, sym (sym equal.1 ∙ built.equal.1 ∙ sym built.equal.2));
    }))
