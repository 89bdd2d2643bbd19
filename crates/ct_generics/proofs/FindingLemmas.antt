-- What is found out about the sorts and generics of a block.
use Rattle.std.proofs.Common.{◌≡◌, ◌↔◌, ℕ, suc, ◌+◌, ◌-◌, ◌<◌, ◌≤◌, ◌⊎◌, Bool, true, false, not, ◌||◌, List, [], ◌∷◌, ◌++◌, length, get_or, Some, slice_get, IsTrue, refl, sym, ap, subst, ◌∙◌, inl, inr, ⊎_elim, arith}
use Rattle.std.specs.List.{AllZip, list_any}
use Rattle.std.proofs.lemmas.Bool.{true≢false, false≢true}
use Rattle.std.proofs.lemmas.Option.{same_Some, none-some, slice_get_within, slice_get-get_or}
use Rattle.indexmap.proofs.IndexTableLemmas.Probe.{pigeonhole}
use Rattle.ct_lemmas.proofs.Booleans.{or_cases, or_left, or_right}
use Rattle.ct_lemmas.proofs.Lists.{slice_get-there, slice_get-push_cases}
use Rattle.ct_lemmas.proofs.Numbers.{below_or_not}
use Rattle.ct_lemmas.proofs.Pairs.{AllZip-at_left, AllZip-at_right, AllZip-one_length, AllZip-push}
use Rattle.ct_generics.specs.declared.nodes.ExprId.{ExprId}
use Rattle.ct_generics.specs.declared.nodes.Node.{Node}
use Rattle.ct_generics.specs.declared.graph.Vertex.{Vertex}
use Rattle.ct_generics.specs.declared.findings.Findings.{Findings}
use Rattle.ct_generics.specs.Expression.{Expression, parameter, named, applied, parameters, with_args, at_own_parameters}
use Rattle.ct_generics.specs.Declarations.{Head}
use Rattle.ct_generics.specs.Nodes.{Stands, Stay, StandFor, AreSingle, AreUnlike}
use Rattle.ct_generics.specs.Reach.{Reaches, ReachesMoreThan, most_reached}
use Rattle.ct_generics.specs.Reached.{StandsAt, IsReached, ReachMoreThan, ReachedFrom, TellsOf}
use Rattle.ct_generics.specs.Founded.{IsFounded}
use Rattle.ct_generics.specs.Mixed.{IsMixed}
use Rattle.ct_generics.specs.Graph.{IsFoundedAt}
use Rattle.ct_generics.specs.Marks.{marked}
use Rattle.ct_generics.specs.Text.{text_length, most_text}
use Rattle.ct_generics.specs.Lengths.{AreCounts, IsLongAt}
use Rattle.ct_generics.specs.Block.{IsTooLarge}
use Rattle.ct_generics.specs.Findings.{IsOwn, AreOwn, SomeOf, SomeIn, AreFindings}
use Rattle.ct_generics.proofs.NodeLemmas.{Stands-within, Stands-one}
use Rattle.ct_generics.proofs.MarkLemmas.{list_any-at, list_any-source}
use Rattle.ct_generics.specs.declared.heads.StoredHead.{StoredHead}
use Rattle.ct_generics.specs.Stored.{IsStored, AreStored}
use Rattle.ct_generics.proofs.GraphLemmas.{leads_down}
use Rattle.ct_generics.proofs.ResolveLemmas.{with_args-push}
use Rattle.ct_generics.proofs.ShapeLemmas.{parameters-suc}
use Rattle.ct_generics.proofs.SubstitutionLemmas.{length-push, StandFor-stay}

-- one of the expressions is one of the sorts and generics
pub SomeIn-expressions : (from end : ℕ) (heads : List Head) (es : List Expression) (P : Expression → Type 0) → AreOwn from end heads es → SomeOf es P ↔ SomeIn from end heads P
SomeIn-expressions from end heads es P own = (up, down)
  where
    up : SomeOf es P → SomeIn from end heads P
    up (k, e, at, p) =
        let is = own.own k e at in
        (from + k, is.0, omega arith, omega (arith, own.long, slice_get_within es k e at), is.1, subst P is.2 p)

    down : SomeIn from end heads P → SomeOf es P
    down (h, head, ge, less, at, p) =
        let there = slice_get-there es (h - from) (omega (arith, own.long, ge, less)) in
        let is = own.own (h - from) there.0 there.1 in
        let back : from + (h - from) ≡ h = omega (arith, ge) in
        let same : is.0 ≡ head = same_Some is.0 head (sym is.1 ∙ ap (slice_get heads) back ∙ at) in
        let e : there.0 ≡ at_own_parameters h head.params = is.2 ∙ ap (λ n. at_own_parameters n is.0.params) back ∙ ap (λ (x : Head). at_own_parameters h x.params) same in
        (h - from, there.0, there.1, subst P (sym e) p)

-- of two parts
SomeIn-parts : (from middle end : ℕ) (heads : List Head) (P : Expression → Type 0) → from ≤ middle → middle ≤ end → SomeIn from end heads P → SomeIn from middle heads P ⊎ SomeIn middle end heads P
SomeIn-parts from middle end heads P first second (h, head, ge, less, at, p) =
    ⊎_elim (λ below. inl (h, head, ge, below, at, p)) (λ past. inr (h, head, past, less, at, p)) (below_or_not h middle)

SomeIn-left : (from middle end : ℕ) (heads : List Head) (P : Expression → Type 0) → middle ≤ end → SomeIn from middle heads P → SomeIn from end heads P
SomeIn-left from middle end heads P second (h, head, ge, less, at, p) = (h, head, ge, omega (arith, less, second), at, p)

SomeIn-right : (from middle end : ℕ) (heads : List Head) (P : Expression → Type 0) → from ≤ middle → SomeIn middle end heads P → SomeIn from end heads P
SomeIn-right from middle end heads P first (h, head, ge, less, at, p) = (h, head, omega (arith, ge, first), less, at, p)

-- one of two tests
joined : (from middle end : ℕ) (heads : List Head) (P : Expression → Type 0) (a b : Bool) → from ≤ middle → middle ≤ end → IsTrue a ↔ SomeIn from middle heads P → IsTrue b ↔ SomeIn middle end heads P → IsTrue (a || b) ↔ SomeIn from end heads P
joined from middle end heads P a b first second left right = (
  λ h. ⊎_elim (λ l. SomeIn-left from middle end heads P second (left.0 l)) (λ r. SomeIn-right from middle end heads P first (right.0 r)) (or_cases a b h),
  λ some. ⊎_elim (λ l. or_left a b (left.1 l)) (λ r. or_right a b (right.1 r)) (SomeIn-parts from middle end heads P first second some),
)

neither : (a b : Bool) → (a || b) ≡ false → (a ≡ false) × (b ≡ false)
neither true b e = absurd (true≢false e)
neither false b e = (refl, e)

pub AreFindings-joined : (from middle end : ℕ) (heads : List Head) (left right all : Findings) → all.large ≡ (left.large || right.large) → all.mixed ≡ (left.mixed || right.mixed) → all.unfounded ≡ (left.unfounded || right.unfounded) → from ≤ middle → middle ≤ end → AreFindings from middle heads left → AreFindings middle end heads right → AreFindings from end heads all
AreFindings-joined from middle end heads left right all large mixed unfounded first second of_left of_right =
    record {
      size = rw large (joined from middle end heads (IsTooLarge heads) left.large right.large first second of_left.size of_right.size);
      mixing = λ small. let parts = neither left.large right.large (sym large ∙ small) in rw mixed (joined from middle end heads (IsMixed heads) left.mixed right.mixed first second (of_left.mixing parts.0) (of_right.mixing parts.1));
      founding = λ small. let parts = neither left.large right.large (sym large ∙ small) in rw unfounded (joined from middle end heads (λ e. IsFounded heads e → ⊥) left.unfounded right.unfounded first second (of_left.founding parts.0) (of_right.founding parts.1));
    }

nobody : (from : ℕ) (heads : List Head) (P : Expression → Type 0) (b : Bool) → b ≡ false → IsTrue b ↔ SomeIn from from heads P
nobody from heads P b unset = (λ h. absurd (false≢true (sym unset ∙ h)), λ (h, head, ge, less, at, p). absurd (omega (arith, ge, less)))

pub AreFindings-none : (from : ℕ) (heads : List Head) (f : Findings) → f.large ≡ false → f.mixed ≡ false → f.unfounded ≡ false → AreFindings from from heads f
AreFindings-none from heads f large mixed unfounded =
    record {
      size = nobody from heads (IsTooLarge heads) f.large large;
      mixing = λ _. nobody from heads (IsMixed heads) f.mixed mixed;
      founding = λ _. nobody from heads (λ e. IsFounded heads e → ⊥) f.unfounded unfounded;
    }

-- where one is too large, nothing more is told
pub AreFindings-large : (from end : ℕ) (heads : List Head) (f : Findings) → f.large ≡ true → SomeIn from end heads (IsTooLarge heads) → AreFindings from end heads f
AreFindings-large from end heads f large some =
    record {
      size = (λ _. some, λ _. large);
      mixing = λ small. absurd (true≢false (sym large ∙ small));
      founding = λ small. absurd (true≢false (sym large ∙ small));
    }

-- what is found of expressions is found of the sorts and generics
pub AreFindings-own : (from end : ℕ) (heads : List Head) (es : List Expression) (f : Findings) → AreOwn from end heads es → IsTrue f.large ↔ SomeOf es (IsTooLarge heads) → IsTrue f.mixed ↔ SomeOf es (IsMixed heads) → IsTrue f.unfounded ↔ SomeOf es (λ e. IsFounded heads e → ⊥) → AreFindings from end heads f
AreFindings-own from end heads es f own large mixed unfounded =
    record {
      size = over (IsTooLarge heads) f.large large;
      mixing = λ _. over (IsMixed heads) f.mixed mixed;
      founding = λ _. over (λ e. IsFounded heads e → ⊥) f.unfounded unfounded;
    }
  where
    over : (P : Expression → Type 0) (b : Bool) → IsTrue b ↔ SomeOf es P → IsTrue b ↔ SomeIn from end heads P
    over P b tells =
        let both = SomeIn-expressions from end heads es P own in
        (λ h. both.0 (tells.0 h), λ some. tells.1 (both.1 some))

-- one that reaches too many
pub alone-large : (from end : ℕ) (heads : List Head) (es : List Expression) → end ≡ from + 1 → AreOwn from end heads es → ReachMoreThan heads es most_reached → SomeIn from end heads (IsTooLarge heads)
alone-large from end heads es one own (fs, different, many, each) =
    let there = slice_get-there es 0 (omega (arith, one, own.long)) in
    (SomeIn-expressions from end heads es (IsTooLarge heads) own).0 (0, there.0, there.1, inl (fs, different, many, λ i f at. alone f there.0 there.1 (each i f at)))
  where
    alone : (f e : Expression) → slice_get es 0 ≡ Some e → ReachedFrom heads es f → Reaches heads e f
    alone f e at (k, root, at_k, reaches) =
        let zero_k : k ≡ 0 = omega (arith, one, own.long, slice_get_within es k root at_k) in
        subst (λ (x : Expression). Reaches heads x f) (same_Some root e (sym at_k ∙ ap (slice_get es) zero_k ∙ at)) reaches

-- a long text is one of an expression that is reached
pub long-large : (heads : List Head) (nodes : List Node) (ids : List ExprId) (graph : List Vertex) (starts : List ℕ) (es : List Expression) (counts : List ℕ) (i : ℕ) (id : ExprId) → IsReached heads nodes ids graph starts es → AreCounts heads nodes counts → slice_get ids i ≡ Some id → IsLongAt counts id → SomeOf es (IsTooLarge heads)
long-large heads nodes ids graph starts es counts i id whole known at (n, at_n, big) =
    let found = whole.reached i id at in
    let count = known id.0 n found.0 at_n found.1 in
    let long : most_text < text_length heads found.0 = ⊎_elim (λ more. more) (λ small. let e = count.exact small in absurd (omega (arith, e, small, big))) (below_or_not most_text (text_length heads found.0)) in
    (found.2.0, found.2.1, found.2.2, inr (found.0, found.2.3, long))

module _ (heads : List Head) (nodes : List Node) (ids : List ExprId) (graph : List Vertex) (starts : List ℕ) (es : List Expression) (single : AreSingle nodes) (unlike : AreUnlike ids) (whole : IsReached heads nodes ids graph starts es) (same : length graph ≡ length ids) where
  -- what one of the expressions reaches stands among the numbers
  place_of : (k : ℕ) (e : Expression) → slice_get es k ≡ Some e → (f : Expression) → Reaches heads e f → (j : ℕ) × StandsAt nodes ids j f
  place_of k e at f reaches =
      let start = AllZip-at_right (StandsAt nodes ids) starts es k e whole.begun at in
      let found = leads_down heads nodes ids graph starts es single unlike whole same start.0 e start.2 f reaches in
      (found.0, found.2)

  places : (k : ℕ) (e : Expression) → slice_get es k ≡ Some e → (fs : List Expression) → ((i : ℕ) (f : Expression) → slice_get fs i ≡ Some f → Reaches heads e f) → (js : List ℕ) × AllZip (StandsAt nodes ids) js fs
  places k e at [] each = ([], tt)
  places k e at (f ∷ fs) each =
      let first = place_of k e at f (each 0 f refl) in
      let rest = places k e at fs (λ i g at_g. each (suc i) g at_g) in
      (first.0 ∷ rest.0, (first.1, rest.1))

  -- so it does not reach more expressions than there are numbers
  few-reached : (bound k : ℕ) (e : Expression) → slice_get es k ≡ Some e → length ids ≤ bound → ReachesMoreThan heads e bound → ⊥
  few-reached bound k e at few (fs, different, many, each) =
      let fits = pigeonhole (length all.0) (length ids) (λ i. get_or all.0 i 0) into one in
      omega (arith, fits, few, many, AllZip-one_length (StandsAt nodes ids) all.0 fs all.1)
    where
      all : (js : List ℕ) × AllZip (StandsAt nodes ids) js fs
      all = places k e at fs each

      at_place : (i : ℕ) → i < length all.0 → (f : Expression) × (slice_get fs i ≡ Some f) × StandsAt nodes ids (get_or all.0 i 0) f
      at_place i within = AllZip-at_left (StandsAt nodes ids) all.0 fs i (get_or all.0 i 0) all.1 (slice_get-get_or all.0 i 0 within)

      into : (i : ℕ) → i < length all.0 → get_or all.0 i 0 < length ids
      into i within = let f = at_place i within in slice_get_within ids (get_or all.0 i 0) f.2.0 f.2.1

      one : (i j : ℕ) → i < length all.0 → j < length all.0 → get_or all.0 i 0 ≡ get_or all.0 j 0 → i ≡ j
      one i j within_i within_j e =
          let f = at_place i within_i in
          let g = at_place j within_j in
          let id : f.2.0 ≡ g.2.0 = same_Some f.2.0 g.2.0 (sym f.2.1 ∙ ap (slice_get ids) e ∙ g.2.1) in
          let same_f : f.0 ≡ g.0 = Stands-one nodes g.2.0.0 f.0 g.0 (subst (λ (x : ExprId). Stands nodes x.0 f.0) id f.2.2) g.2.2 in
          different i j g.0 (f.1 ∙ ap Some same_f) g.1

  -- and a text that is too long is one among the numbers
  pub large-long : (counts : List ℕ) → length counts ≡ length nodes → AreCounts heads nodes counts → length ids ≤ most_reached → SomeOf es (IsTooLarge heads) → (i : ℕ) × (id : ExprId) × (slice_get ids i ≡ Some id) × IsLongAt counts id
  large-long counts long known few (k, e, at, large) = by large
    where
      by : IsTooLarge heads e → (i : ℕ) × (id : ExprId) × (slice_get ids i ≡ Some id) × IsLongAt counts id
      by (inl many) = absurd (few-reached most_reached k e at few many)
      by (inr (f, reaches, big)) =
          let found = place_of k e at f reaches in
          let there = slice_get-there counts found.1.0.0 (omega (arith, long, Stands-within nodes found.1.0.0 f found.1.2)) in
          let count = known found.1.0.0 there.0 f there.1 found.1.2 in
          (found.0, found.1.0, found.1.1, (there.0, there.1, count.over big))

-- where all starts are marked all are well founded
pub unmarked-unfounded : (heads : List Head) (nodes : List Node) (ids : List ExprId) (graph : List Vertex) (starts : List ℕ) (es : List Expression) (marks : List Bool) → IsReached heads nodes ids graph starts es → TellsOf heads graph starts es → ((i : ℕ) → (marked marks i ≡ true) ↔ IsFoundedAt graph i) → (list_any (λ i. not (marked marks i)) starts ≡ true) ↔ SomeOf es (λ e. IsFounded heads e → ⊥)
unmarked-unfounded heads nodes ids graph starts es marks whole tells founded = (up, down)
  where
    test : ℕ → Bool
    test i = not (marked marks i)

    up : list_any test starts ≡ true → SomeOf es (λ e. IsFounded heads e → ⊥)
    up h =
        let found = list_any-source test starts h in
        let e = AllZip-at_left (StandsAt nodes ids) starts es found.0 found.1 whole.begun found.2 in
        (found.0, e.0, e.1, λ is. false≢true (sym (ap not ((founded found.1).1 ((tells.founded found.0 found.1 e.0 found.2 e.1).1 is))) ∙ found.3))

    down : SomeOf es (λ e. IsFounded heads e → ⊥) → list_any test starts ≡ true
    down (k, e, at, never) =
        let start = AllZip-at_right (StandsAt nodes ids) starts es k e whole.begun at in
        list_any-at test starts k start.0 start.1 (by start.0 start.1 (marked marks start.0) refl)
      where
        by : (i : ℕ) → slice_get starts k ≡ Some i → (b : Bool) → marked marks i ≡ b → not (marked marks i) ≡ true
        by i at_i true m = absurd (never ((tells.founded k i e at_i at).0 ((founded i).0 m)))
        by i at_i false m = ap not m

-- one more sort or generic at its own parameters
pub own-more : (from h : ℕ) (stored : List StoredHead) (hs : List Head) (old new : List Node) (roots : List ExprId) (root : ExprId) (s : StoredHead) → Stay old new → AreStored stored hs → slice_get stored h ≡ Some s → Stands new root.0 (at_own_parameters h s.params) → (es : List Expression) × StandFor old roots es × AreOwn from h hs es → (es : List Expression) × StandFor new (roots ++ root ∷ []) es × AreOwn from (h + 1) hs es
own-more from h stored hs old new roots root s stay all at stands (es, stand, own) = (es ++ e ∷ [], whole, record { long = omega (arith, own.long, length-push es e); own = each })
  where
    head : (hd : Head) × (slice_get hs h ≡ Some hd) × IsStored s hd
    head = AllZip-at_left IsStored stored hs h s all at

    e : Expression
    e = at_own_parameters h s.params

    whole : StandFor new (roots ++ root ∷ []) (es ++ e ∷ [])
    whole = AllZip-push (λ (id : ExprId) (f : Expression). Stands new id.0 f) roots es root e (StandFor-stay old new roots es stay stand) stands

    each : (k : ℕ) (f : Expression) → slice_get (es ++ e ∷ []) k ≡ Some f → IsOwn hs (from + k) f
    each k f at_k = elim (slice_get-push_cases es e f k at_k) [
      | inl before ↦ own.own k f before
      | inr last ↦
          let here : from + k ≡ h = omega (arith, last.0, own.long) in
          (head.0, ap (slice_get hs) here ∙ head.1, sym last.1 ∙ ap (at_own_parameters h) (sym head.2.params_are) ∙ ap (λ n. at_own_parameters n head.0.params) (sym here))
    ]

-- one argument more
pub own-parameter : (h i : ℕ) → at_own_parameters h (i + 1) ≡ applied (at_own_parameters h i) (parameter i)
own-parameter h i = ap (with_args (named h)) (parameters-suc i) ∙ with_args-push (named h) (parameters i) (parameter i)

pub own-none : (from : ℕ) (hs : List Head) → AreOwn from from hs []
own-none from hs = record { long = omega arith; own = λ k e at. absurd (none-some e at) }
