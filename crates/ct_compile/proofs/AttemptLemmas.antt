-- Attempts to compile a closed formula: first parts that are made, and calls that are put off.
use Rattle.std.proofs.Common.{◌≡◌, ◌⊎◌, ◌-◌, ℕ, suc, ◌<◌, Bool, List, [], ◌∷◌, ◌++◌, Contains, length, Result, Ok, Err, Option, Some, None, is_some, option_map, slice_get, get_or, IfOk, IsErrOf, true, false, true≢false, refl, sym, ap, ap₂, subst, ◌∙◌, inl, inr, arith}
use Rattle.std.proofs.Math.Seq.{get_or-append_seam}
use Rattle.std.proofs.lemmas.List.{append-nil, append_assoc, length-append}
use Rattle.std.proofs.lemmas.List.Elements.{Contains-append_cases, Contains-append_left}
use Rattle.std.proofs.lemmas.Option.{none-some, same_Some}
use Rattle.std.proofs.lemmas.Result.{IfOk-weaker}
use Rattle.ct_lemmas.proofs.Contained.{Contains-cons, Contains-none}
use Rattle.ct_lemmas.proofs.Pairs.{AllZip-none}
use Rattle.indexmap.specs.IndexMap.{IndexMap, get}
use Rattle.ct_sorts.specs.declared.ids.DefId.{DefId}
use Rattle.ct_sorts.specs.declared.ids.SortId.{SortId}
use Rattle.ct_sorts.specs.Declarations.{Declarations}
use Rattle.ct_terms.specs.declared.ids.TermId.{TermId}
use Rattle.ct_terms.specs.declared.error.TermError.{TermError}
use Rattle.ct_terms.specs.declared.error.TermError.TheVariants.{Full, NoMemory}
use Rattle.ct_terms.specs.Terms.{Terms, AreOrdered}
use Rattle.ct_terms.specs.CoreTree.{CoreTree, subtrees}
use Rattle.ct_formulas.specs.Formula.{Formula, bind}
use Rattle.ct_formulas.specs.Compiled.{compiled}
use Rattle.ct_occurrence.specs.declared.definitions.Worked.{Worked}
use Rattle.ct_scope.specs.declared.known.Called.{Called}
use Rattle.ct_scope.specs.declared.stop.DeferredCall.{DeferredCall}
use Rattle.ct_scope.specs.declared.stop.Stop.{Stop}
use Rattle.ct_scope.specs.declared.stop.Stop.TheVariants.{Failed, TooDeep}
use Rattle.ct_operators.specs.Theorems.{Theorems}
use Rattle.ct_operators.specs.Effect.{Stands, IsSoundTable, IsPrefix, Within, Effect}
use Rattle.ct_operators.specs.Made.{HasTrees, MakesInOrder}
use Rattle.ct_scope.specs.Making.{making, makes_below, defined}
use Rattle.ct_occurrence.specs.Marks.{Rows, row_in, IsKnown}
use Rattle.ct_scope.specs.Compilable.{compiled_calls, IsBound, IsCompilable, MayCompile, Compiles}
use Rattle.ct_scope.specs.Calling.{same_call, call_of, IsRecalled, IsState}
use Rattle.ct_scope.specs.Deferral.{ended, UnlessFailed, WhenTooDeep, IsCall, WaitsForCall, Defers}
use Rattle.ct_compile.specs.Attempts.{MakesFirst, closed_core, closed_making, IsWaiting, AreWaiting, IsLastKnown}
use Rattle.ct_operators.proofs.EffectLemmas.{prefix_itself, effect_none, effect_then, effect_because}
use Rattle.ct_scope.proofs.CompilableLemmas.{bounds_stay, ready_stays}
use Rattle.ct_operators.proofs.OperatorLemmas.{stands_as}
use Rattle.ct_operators.proofs.MakesLemmas.{prefix_ordered, have_stay, have_left, have_right, makes_then, makes_none, makes_nothing, makes_split, makes_has}
use Rattle.ct_scope.proofs.MakingLemmas.{makes_is}
use Rattle.ct_scope.proofs.DefinitionLemmas.{given_is}
use Rattle.ct_operators.proofs.WithinLemmas.{within_subtrees}
use Rattle.ct_scope.proofs.DeferralLemmas.{waits_under}

-- ---- first parts

-- of two first parts of one list, one is a first part of the other
parted : {X : Type 0} (a b c e : List X) → a ++ b ≡ c ++ e → ((m : List X) × (c ≡ a ++ m)) ⊎ ((m : List X) × (a ≡ c ++ m))
parted [] b c e h = inl (c, refl)
parted (x ∷ xs) b [] e h = inr (x ∷ xs, refl)
parted {X} (x ∷ xs) b (y ∷ ys) e h = elim (parted xs b ys e (rest h)) [
  | inl r ↦ inl (r.0, ap₂ (λ (z : X) (zs : List X). z ∷ zs) (sym (first h)) r.1)
  | inr r ↦ inr (r.0, ap₂ (λ (z : X) (zs : List X). z ∷ zs) (first h) r.1)
]
  where
    first : {us vs : List X} → x ∷ us ≡ y ∷ vs → x ≡ y
    first k = cc

    rest : {us vs : List X} → x ∷ us ≡ y ∷ vs → us ≡ vs
    rest k = cc

-- nothing is made yet
pub makes_first_none : (ts : List CoreTree) (table : Terms) → MakesFirst table ts table
makes_first_none ts table = ([], ts, refl, refl)

-- one attempt after the other
pub makes_first_then : (theorems : Theorems) (ts : List CoreTree) (a b c : Terms) → AreOrdered b → MakesFirst a ts b → MakesFirst b ts c → MakesFirst a ts c
makes_first_then theorems ts a b c ordered h k =
    let there : HasTrees b h.0 = makes_has theorems h.0 a b ordered h.3 in
    elim (parted h.0 h.1 k.0 k.1 (sym h.2 ∙ k.2)) [
      | inl r ↦ (
        k.0,
        k.1,
        k.2,
        subst (λ (xs : List CoreTree). MakesInOrder a xs c) (sym r.1)
            (makes_then h.0 r.0 a b c h.3 (
            let parts = makes_split h.0 r.0 b c (subst (λ (xs : List CoreTree). MakesInOrder b xs c) r.1 k.3) in
            subst (λ (xs : Terms). MakesInOrder xs r.0 c) (makes_nothing h.0 b parts.0 there parts.1.0) parts.1.1)),
      )
      | inr r ↦ (
        h.0,
        h.1,
        h.2,
        subst (MakesInOrder a h.0) (sym (makes_nothing k.0 b c (have_left b k.0 r.0 (subst (HasTrees b) r.1 there)) k.3)) h.3,
      )
    ]

-- where all of it is there all of it is made
pub makes_first_all : (ts : List CoreTree) (a b : Terms) → HasTrees b ts → MakesFirst a ts b → MakesInOrder a ts b
makes_first_all ts a b there h =
    subst (λ (xs : List CoreTree). MakesInOrder a xs b) (sym h.2)
    (makes_then h.0 h.1 a b b h.3 (makes_none h.1 b (have_right b h.0 h.1 (subst (HasTrees b) h.2 there))))

-- ---- tables that grow

pub call_stays : (d : Declarations) (bodies : List Formula) (rows : Rows) (old new : Terms) (call : DeferredCall) (trees : List CoreTree) → IsPrefix old new → IsSoundTable d new → IsCall d bodies rows old call trees → IsCall d bodies rows new call trees
call_stays d bodies rows old new call trees grown kept h = record {
  row = h.row;
  at_row = h.at_row;
  flags = h.flags;
  stand = bounds_stay d old new call.bounds trees grown kept h.stand;
  body = h.body;
  at = h.at;
  sorts = h.sorts;
  sort = h.sort;
  ready = ready_stays d bodies old new call.definition.0 (bind call.bounds []) h.body (bind trees []) (bind h.sorts []) h.sort grown kept h.ready;
}

-- what was made before the call is there from then on
pub waits_stay : (d : Declarations) (bodies : List Formula) (rows : Rows) (n : ℕ) (a b c : Terms) (made : List CoreTree) (allows : List CoreTree → Type 0) (call : DeferredCall) → IsPrefix b c → IsSoundTable d c → WaitsForCall d bodies rows n a b made allows call → WaitsForCall d bodies rows n c c made allows call
waits_stay d bodies rows n a b c made allows call grown kept w = record {
  trees = w.trees;
  below = w.below;
  is_call = call_stays d bodies rows b c call w.trees grown kept w.is_call;
  within = w.within;
  before = w.before;
  after = w.after;
  order = w.order;
  makes = makes_none w.before c (have_stay kept.theorems b c w.before grown kept.ordered (makes_has kept.theorems w.before a b (prefix_ordered b c grown kept.ordered) w.makes));
}

pub waiting_stay : (d : Declarations) (bodies : List Formula) (rows : Rows) (n : ℕ) (t : Formula) (old new : Terms) (calls : List DeferredCall) → IsPrefix old new → IsSoundTable d new → AreWaiting d bodies rows n t old calls → AreWaiting d bodies rows n t new calls
waiting_stay d bodies rows n t old new calls grown kept h = λ call c. waits_stay d bodies rows n old old new (closed_making d bodies n t) (λ allowed. Within allowed (closed_core d bodies n t)) call grown kept (h call c)

-- ---- a call that is compiled first

module _ (d : Declarations) (bodies : List Formula) (rows : Rows) (old : Terms) (call : DeferredCall) (body : Formula) (at : slice_get bodies call.definition.0 ≡ Some body) where
  abbrev k : ℕ
  k = call.definition.0

  gives : (trees : List CoreTree) → compiled_calls d bodies (suc k) call.definition trees ≡ compiled d (compiled_calls d bodies k) (bind trees []) body
  gives trees = given_is bodies call.definition body at d (suc k) trees (omega arith)

  makes : (trees : List CoreTree) → makes_below d bodies (suc k) call.definition trees ≡ making d (defined d bodies k) (bind trees []) body
  makes trees = makes_is bodies call.definition body at d (suc k) trees (omega arith)

  ready : (trees : List CoreTree) (h : IsCall d bodies rows old call trees) → IsCompilable d bodies old k (bind call.bounds []) body (bind trees []) (bind h.sorts []) h.sort
  ready trees h = subst (λ (t : Formula). IsCompilable d bodies old k (bind call.bounds []) t (bind trees []) (bind h.sorts []) h.sort) (same_Some h.body body (sym h.at ∙ at)) h.ready

  pub call_may : (trees : List CoreTree) → IsCall d bodies rows old call trees → MayCompile d bodies old k (bind call.bounds []) body
  call_may trees h = (bind trees [], bind h.sorts [], h.sort, ready trees h)

  module _ (new : Terms) (r : Result TermId TermError) (one : Compiles d bodies k old new (bind call.bounds []) body r) where
    pub call_effect : (trees : List CoreTree) (allowed : List CoreTree) → IsCall d bodies rows old call trees → Within allowed (compiled_calls d bodies (suc k) call.definition trees) → Effect d allowed old new (IsErrOf r Full)
    call_effect trees allowed h w = one.effect (bind trees []) (bind h.sorts []) h.sort allowed (ready trees h) (subst (Within allowed) (gives trees) w)

    pub call_grown : (trees : List CoreTree) → IsCall d bodies rows old call trees → IsPrefix old new × IsSoundTable d new
    call_grown trees h =
        let e = call_effect trees _ h (within_subtrees (compiled_calls d bodies (suc k) call.definition trees)) in
        (e.grown, e.kept)

    pub call_makes : (trees : List CoreTree) → IsCall d bodies rows old call trees → IfOk r (λ u. MakesInOrder old (makes_below d bodies (suc k) call.definition trees) new)
    call_makes trees h =
        IfOk-weaker r (λ u. MakesInOrder old (making d (defined d bodies k) (bind trees []) body) new) (λ u. MakesInOrder old (makes_below d bodies (suc k) call.definition trees) new)
        (λ u m. subst (λ (xs : List CoreTree). MakesInOrder old xs new) (sym (makes trees)) m)
        (one.order (bind trees []) (bind h.sorts []) h.sort (ready trees h))

  -- its term is put down
  pub call_known : (new : Terms) (t : TermId) → Compiles d bodies k old new (bind call.bounds []) body (Ok t) → (trees : List CoreTree) → IsCall d bodies rows old call trees → IsRecalled d bodies rows new (call_of call.definition call.bounds) t
  call_known new t one trees h =
      let g = call_grown new (Ok t) one trees h in
      record {
        bounds = call.bounds;
        trees = trees;
        row = h.row;
        args = refl;
        at = h.at_row;
        flags = h.flags;
        stand = bounds_stay d old new call.bounds trees g.0 g.1 h.stand;
        stands = stands_as new t _ _ (sym (gives trees)) (one.core (bind trees []) (bind h.sorts []) h.sort (ready trees h));
        made = makes_has g.1.theorems (makes_below d bodies (suc k) call.definition trees) old new g.1.ordered (call_makes new (Ok t) one trees h);
      }

  -- a call under it is put off
  pub call_waits : (new : Terms) (deeper : DeferredCall) → ((trees : List CoreTree) (sorts : List SortId) (sort : SortId) → IsCompilable d bodies old k (bind call.bounds []) body trees sorts sort → WaitsForCall d bodies rows k old new (making d (defined d bodies k) trees body) (λ allowed. Within allowed (compiled d (compiled_calls d bodies k) trees body)) deeper) → (trees : List CoreTree) → IsCall d bodies rows old call trees → WaitsForCall d bodies rows k old new (makes_below d bodies (suc k) call.definition trees) (λ allowed. Within allowed (compiled_calls d bodies (suc k) call.definition trees)) deeper
  call_waits new deeper defers trees h =
      let w = defers (bind trees []) (bind h.sorts []) h.sort (ready trees h) in
      record {
        trees = w.trees;
        below = w.below;
        is_call = w.is_call;
        within = λ allowed a. w.within allowed (subst (Within allowed) (gives trees) a);
        before = w.before;
        after = w.after;
        order = makes trees ∙ w.order;
        makes = w.makes;
      }

  pub call_defers : (new : Terms) (r : Result TermId Stop) → Defers d bodies rows k old new (bind call.bounds []) body r → (trees : List CoreTree) → IsCall d bodies rows old call trees → WhenTooDeep r (WaitsForCall d bodies rows k old new (makes_below d bodies (suc k) call.definition trees) (λ allowed. Within allowed (compiled_calls d bodies (suc k) call.definition trees)))
  call_defers new (Ok t) defers trees h = tt
  call_defers new (Err (Failed e)) defers trees h = tt
  call_defers new (Err (TooDeep deeper)) defers trees h = call_waits new deeper defers trees h

  -- there is no memory to put down its term
  pub call_lost : (new : Terms) (t : TermId) (e : TermError) → e ≡ NoMemory → Compiles d bodies k old new (bind call.bounds []) body (Ok t) → (trees : List CoreTree) (allowed : List CoreTree) → IsCall d bodies rows old call trees → Within allowed (compiled_calls d bodies (suc k) call.definition trees) → Effect d allowed old new (IsErrOf {T = TermId} (Err e) Full)
  call_lost new t e is one trees allowed h w = effect_because d allowed old new _ _ (λ x. cc) (call_effect new (Ok t) one trees allowed h w)

-- a definition with a row is worked out
pub row_known : (rows : Rows) (k : DefId) (row : List Bool) → row_in rows k ≡ Some row → IsKnown rows k
row_known rows k row e = by (rows k) e
  where
    by : (o : Option Worked) → option_map (λ (w : Worked). w.flags.items) o ≡ Some row → (w : Worked) × (o ≡ Some w)
    by None h = absurd (none-some row h)
    by (Some w) h = (w, refl)

-- where nothing could be taken out, there was nothing
pub emptied : {X : Type 0} (xs : List X) (n : ℕ) (o : Option X) → is_some o ≡ false → length xs ≡ n → (0 < n → is_some o ≡ true) → xs ≡ []
emptied [] n o e long some = refl
emptied (x ∷ xs) n o e long some = absurd (true≢false (sym (some (omega (arith, long))) ∙ e))

-- ---- the last of the calls

last_is : {X : Type 0} (xs earlier : List X) (x y : X) → xs ≡ earlier ++ x ∷ [] → y ≡ get_or xs (length xs - 1) y → y ≡ x
last_is {X = X} xs earlier x y is at =
    let long = ap length is ∙ length-append earlier (x ∷ []) in
    let place : length xs - 1 ≡ length earlier = omega (arith, long) in
    at ∙ ap₂ (λ (zs : List X) (i : ℕ). get_or zs i y) is place ∙ get_or-append_seam earlier x [] y

-- where it is known, with this term, the last is
pub last_known : {S : Type 0} (known : IndexMap Called TermId S) (calls : List DeferredCall) (call : DeferredCall) → call ≡ get_or calls (length calls - 1) call → (r : Result TermId Stop) → IfOk r (λ term. get same_call known (call_of call.definition call.bounds) ≡ Some term) → IfOk r (λ term. IsLastKnown known calls term)
last_known known calls call at r h = IfOk-weaker r (λ term. get same_call known (call_of call.definition call.bounds) ≡ Some term) (λ term. IsLastKnown known calls term) (λ term has earlier last is. subst (λ (x : DeferredCall). get same_call known (call_of x.definition x.bounds) ≡ Some term) (last_is calls earlier last call is at) has) h

-- there is none
pub last_none : {S : Type 0} (known : IndexMap Called TermId S) (calls : List DeferredCall) → length calls < 1 → (r : Result TermId Stop) → IfOk r (λ term. IsLastKnown known calls term)
last_none known calls empty (Ok term) = λ earlier last is. let long = ap length is ∙ length-append earlier (last ∷ []) in absurd (omega (arith, empty, long))
last_none known calls empty (Err s) = tt

-- ---- a closed formula

module _ (d : Declarations) (bodies : List Formula) (rows : Rows) (n : ℕ) (t : Formula) where
  no_trees : (table : Terms) (trees : List CoreTree) (sorts : List SortId) (sort : SortId) → IsCompilable d bodies table n [] t trees sorts sort → trees ≡ []
  no_trees table trees sorts sort h = AllZip-none (IsBound table) trees h.setting.bound

  pub closed_compiles : (old new : Terms) (r : Result TermId TermError) → IfOk r (λ u. Stands new u (closed_core d bodies n t)) → ((allowed : List CoreTree) → Within allowed (closed_core d bodies n t) → Effect d allowed old new (IsErrOf r Full)) → IfOk r (λ u. MakesInOrder old (closed_making d bodies n t) new) → Compiles d bodies n old new [] t r
  closed_compiles old new r core effect order = record {
    core = λ trees sorts sort h. subst (λ (us : List CoreTree). IfOk r (λ u. Stands new u (compiled d (compiled_calls d bodies n) us t))) (sym (no_trees old trees sorts sort h)) core;
    effect = λ trees sorts sort allowed h w. effect allowed (subst (λ (us : List CoreTree). Within allowed (compiled d (compiled_calls d bodies n) us t)) (no_trees old trees sorts sort h) w);
    order = λ trees sorts sort h. subst (λ (us : List CoreTree). IfOk r (λ u. MakesInOrder old (making d (defined d bodies n) us t) new)) (sym (no_trees old trees sorts sort h)) order;
  }

  -- it is ready
  pub closed_ready : (old : Terms) → MayCompile d bodies old n [] t → (sorts : List SortId) × (sort : SortId) × IsCompilable d bodies old n [] t [] sorts sort
  closed_ready old may = (may.1, may.2, subst (λ (us : List CoreTree). IsCompilable d bodies old n [] t us may.1 may.2) (no_trees old may.0 may.1 may.2 may.3) may.3)

  -- a call under a call that is put off is put off
  pub waits_deeper : (old new : Terms) (call deeper : DeferredCall) (w : IsWaiting d bodies rows n t old call) → WaitsForCall d bodies rows call.definition.0 old new (makes_below d bodies (suc call.definition.0) call.definition w.trees) (λ allowed. Within allowed (compiled_calls d bodies (suc call.definition.0) call.definition w.trees)) deeper → WaitsForCall d bodies rows n old new (closed_making d bodies n t) (λ allowed. Within allowed (closed_core d bodies n t)) deeper
  waits_deeper old new call deeper w v =
      waits_under d bodies rows call.definition.0 n old old new (closed_making d bodies n t) w.before (makes_below d bodies (suc call.definition.0) call.definition w.trees) w.after _ _ deeper (let b = w.below in omega (arith, b)) w.makes w.order w.within v

  -- what comes before a call that is put off is a first part, and with its terms it is one
  pub waits_first : (old new : Terms) (call : DeferredCall) (w : WaitsForCall d bodies rows n old new (closed_making d bodies n t) (λ allowed. Within allowed (closed_core d bodies n t)) call) → MakesFirst old (closed_making d bodies n t) new
  waits_first old new call w = (w.before, makes_below d bodies (suc call.definition.0) call.definition w.trees ++ w.after, w.order, w.makes)

  pub made_first : (old new : Terms) (call : DeferredCall) (w : IsWaiting d bodies rows n t old call) → MakesInOrder old (makes_below d bodies (suc call.definition.0) call.definition w.trees) new → MakesFirst old (closed_making d bodies n t) new
  made_first old new call w m =
      let own = makes_below d bodies (suc call.definition.0) call.definition w.trees in
      (w.before ++ own, w.after, w.order ∙ sym (append_assoc w.before own w.after), makes_then w.before own old old new w.makes m)

  abbrev making_all : List CoreTree
  making_all = closed_making d bodies n t

  abbrev core : CoreTree
  core = closed_core d bodies n t

  -- what was made before a call is there
  now_waiting : (old new : Terms) (call : DeferredCall) → IsSoundTable d new → WaitsForCall d bodies rows n old new making_all (λ allowed. Within allowed core) call → IsWaiting d bodies rows n t new call
  now_waiting old new call kept w = waits_stay d bodies rows n old new new making_all (λ allowed. Within allowed core) call (prefix_itself new) kept w

  -- the last of the calls is compiled
  module _ (old new : Terms) (call : DeferredCall) (w : IsWaiting d bodies rows n t old call) (r : Result TermId Stop) where
    abbrev own : List CoreTree
    own = makes_below d bodies (suc call.definition.0) call.definition w.trees

    abbrev Deeper : DeferredCall → Type 0
    Deeper deeper = WaitsForCall d bodies rows call.definition.0 old new own (λ allowed. Within allowed (compiled_calls d bodies (suc call.definition.0) call.definition w.trees)) deeper

    pub called_makes : IfOk r (λ u. MakesInOrder old own new) → WhenTooDeep r Deeper → UnlessFailed r (MakesFirst old making_all new)
    called_makes = by r
      where
        by : (r : Result TermId Stop) → IfOk r (λ u. MakesInOrder old own new) → WhenTooDeep r Deeper → UnlessFailed r (MakesFirst old making_all new)
        by (Ok u) m v = made_first old new call w m
        by (Err (Failed e)) m v = tt
        by (Err (TooDeep deeper)) m v = waits_first old new deeper (waits_deeper old new call deeper w v)

    pub called_waits : IsSoundTable d new → WhenTooDeep r Deeper → WhenTooDeep r (IsWaiting d bodies rows n t new)
    called_waits kept = by r
      where
        by : (r : Result TermId Stop) → WhenTooDeep r Deeper → WhenTooDeep r (IsWaiting d bodies rows n t new)
        by (Ok u) v = tt
        by (Err (Failed e)) v = tt
        by (Err (TooDeep deeper)) v = now_waiting old new deeper kept (waits_deeper old new call deeper w v)

  -- the formula is compiled
  module _ (old new : Terms) (may : MayCompile d bodies old n [] t) where
    pub closed_effect : (r : Result TermId Stop) → Compiles d bodies n old new [] t (ended r) → (allowed : List CoreTree) → Within allowed core → Effect d allowed old new (IsErrOf (ended r) Full)
    closed_effect r one allowed w = let h = closed_ready old may in one.effect [] h.0 h.1 allowed h.2 w

    closed_kept : (r : Result TermId Stop) → Compiles d bodies n old new [] t (ended r) → IsSoundTable d new
    closed_kept r one = (closed_effect r one (subtrees core) (within_subtrees core)).kept

    pub closed_makes : (r : Result TermId Stop) → Compiles d bodies n old new [] t (ended r) → Defers d bodies rows n old new [] t r → UnlessFailed r (MakesFirst old making_all new)
    closed_makes (Ok u) one v = let h = closed_ready old may in (making_all, [], sym (append-nil making_all), one.order [] h.0 h.1 h.2)
    closed_makes (Err (Failed e)) one v = tt
    closed_makes (Err (TooDeep call)) one v = let h = closed_ready old may in waits_first old new call (v [] h.0 h.1 h.2)

    pub closed_waits : (r : Result TermId Stop) → Compiles d bodies n old new [] t (ended r) → Defers d bodies rows n old new [] t r → WhenTooDeep r (IsWaiting d bodies rows n t new)
    closed_waits (Ok u) one v = tt
    closed_waits (Err (Failed e)) one v = tt
    closed_waits (Err (TooDeep call)) one v = let h = closed_ready old may in now_waiting old new call (closed_kept (Err (TooDeep call)) one) (v [] h.0 h.1 h.2)

    pub closed_all : (r : Result TermId Stop) → Compiles d bodies n old new [] t (ended r) → IfOk r (λ u. Stands new u core × HasTrees new making_all)
    closed_all (Ok u) one = let h = closed_ready old may in let kept = closed_kept (Ok u) one in (one.core [] h.0 h.1 h.2, makes_has kept.theorems making_all old new kept.ordered (one.order [] h.0 h.1 h.2))
    closed_all (Err s) one = tt

-- ---- attempts one after the other

-- some of a formula is compiled, and these calls are put off
pub record IsUnderWay {S : Type 0} (d : Declarations) (bodies : List Formula) (rows : Rows) (n : ℕ) (t : Formula) (start table : Terms) (known : IndexMap Called TermId S) (calls : List DeferredCall) : Type 0 where
  pub state : IsState d bodies n rows table known
  pub makes : MakesFirst start (closed_making d bodies n t) table
  pub effect : (allowed : List CoreTree) → Within allowed (closed_core d bodies n t) → Effect d allowed start table ⊥
  pub waiting : AreWaiting d bodies rows n t table calls

module _ {S : Type 0} (d : Declarations) (bodies : List Formula) (rows : Rows) (n : ℕ) (t : Formula) (start : Terms) (may : MayCompile d bodies start n [] t) where
  pub way_start : (known : IndexMap Called TermId S) (calls : List DeferredCall) → calls ≡ [] → IsState d bodies n rows start known → IsUnderWay d bodies rows n t start start known calls
  way_start known calls empty state = record {
    state = state;
    makes = makes_first_none (closed_making d bodies n t) start;
    effect = λ allowed w. effect_none d allowed start ⊥ may.3.setting.kept (λ x. x);
    waiting = λ call c. absurd (Contains-none call (subst (λ (cs : List DeferredCall). Contains cs call) empty c));
  }

  module _ (table : Terms) (known : IndexMap Called TermId S) (calls : List DeferredCall) (u : IsUnderWay d bodies rows n t start table known calls) where
    so_far : Effect d (subtrees (closed_core d bodies n t)) start table ⊥
    so_far = u.effect (subtrees (closed_core d bodies n t)) (within_subtrees (closed_core d bodies n t))

    pub way_ready : MayCompile d bodies table n [] t
    way_ready = (may.0, may.1, may.2, ready_stays d bodies start table n [] t may.0 may.1 may.2 so_far.grown so_far.kept may.3)

    -- there is no memory to go on
    pub way_out : (e : TermError) → e ≡ NoMemory → Compiles d bodies n start table [] t (Err e)
    way_out e is = closed_compiles d bodies rows n t start table (Err e) tt (λ allowed w. effect_because d allowed start table _ _ (λ x. cc) (u.effect allowed w)) tt

    -- an attempt fails
    pub way_failed : (new : Terms) (e : TermError) → ((allowed : List CoreTree) → Within allowed (closed_core d bodies n t) → Effect d allowed table new (IsErrOf {T = TermId} (Err e) Full)) → Compiles d bodies n start new [] t (Err e)
    way_failed new e effect = closed_compiles d bodies rows n t start new (Err e) tt (λ allowed w. effect_then d allowed start table new ⊥ _ (u.effect allowed w) (effect allowed w)) tt

    -- an attempt goes on
    pub way_next : (new : Terms) (more : IndexMap Called TermId S) (full : Type 0) → ((allowed : List CoreTree) → Within allowed (closed_core d bodies n t) → Effect d allowed table new full) → MakesFirst table (closed_making d bodies n t) new → IsState d bodies n rows new more → IsUnderWay d bodies rows n t start new more calls
    way_next new more full effect makes state =
        let e = effect (subtrees (closed_core d bodies n t)) (within_subtrees (closed_core d bodies n t)) in
        record {
          state = state;
          makes = makes_first_then so_far.kept.theorems (closed_making d bodies n t) start table new so_far.kept.ordered u.makes makes;
          effect = λ allowed w. effect_because d allowed start new full ⊥ (λ x. absurd x) (effect_then d allowed start table new ⊥ full (u.effect allowed w) (effect allowed w));
          waiting = waiting_stay d bodies rows n t table new calls e.grown e.kept u.waiting;
        }

    -- fewer calls
    pub way_fewer : (rest more : List DeferredCall) → calls ≡ rest ++ more → IsUnderWay d bodies rows n t start table known rest
    way_fewer rest more is = record {
      state = u.state;
      makes = u.makes;
      effect = u.effect;
      waiting = λ call c. u.waiting call (subst (λ (cs : List DeferredCall). Contains cs call) (sym is) (Contains-append_left rest more call c));
    }

    -- one call more
    pub way_more : (call : DeferredCall) → IsWaiting d bodies rows n t table call → IsUnderWay d bodies rows n t start table known (calls ++ call ∷ [])
    way_more call waits = record {
      state = u.state;
      makes = u.makes;
      effect = u.effect;
      waiting = λ other c. elim (Contains-append_cases calls (call ∷ []) other c) [
        | inl before ↦ u.waiting other before
        | inr new ↦ elim (Contains-cons call [] other new) [
          | inl e ↦ subst (IsWaiting d bodies rows n t table) e waits
          | inr none ↦ absurd (Contains-none other none)
        ]
      ];
    }

    -- the formula is compiled
    pub way_end : (x : TermId) → Stands table x (closed_core d bodies n t) × HasTrees table (closed_making d bodies n t) → Compiles d bodies n start table [] t (Ok x)
    way_end x all = closed_compiles d bodies rows n t start table (Ok x) all.0 (λ allowed w. effect_because d allowed start table _ _ (λ y. cc) (u.effect allowed w)) (makes_first_all (closed_making d bodies n t) start table all.1 u.makes)
