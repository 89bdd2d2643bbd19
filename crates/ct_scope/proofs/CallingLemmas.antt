-- What is known of calls: it stays true as the table grows, and with one call more.
use Rattle.std.proofs.Common.{◌≡◌, ◌⊎◌, ℕ, suc, ◌≤◌, Bool, true, false, List, [], ◌∷◌, ◌++◌, length, Contains, Ok, Err, Some, slice_get, refl, sym, ap, ap₂, subst, ◌∙◌, inl, inr, arith, true≢false}
use Rattle.std.specs.List.{AllZip}
use Rattle.std.proofs.lemmas.Option.{none-some, same_Some}
use Rattle.std.proofs.lemmas.List.{append-nil}
use Rattle.std.specs.Map.{lookup}
use Rattle.ct_lemmas.proofs.Contained.{Contains-first}
use Rattle.ct_lemmas.proofs.Pairs.{AllZip-none, AllZip-one_length}
use Rattle.indexmap.specs.IndexMap.{IndexMap, get}
use Rattle.ct_sorts.specs.declared.ids.DefId.{DefId}
use Rattle.ct_sorts.specs.declared.ids.SortId.{SortId}
use Rattle.ct_sorts.specs.Declarations.{Declarations}
use Rattle.ct_terms.specs.declared.ids.TermId.{TermId}
use Rattle.ct_terms.specs.Terms.{Terms}
use Rattle.ct_terms.specs.CoreTree.{CoreTree, subtrees}
use Rattle.ct_terms.specs.CoreSorts.{HasTreeSort}
use Rattle.ct_formulas.specs.Formula.{Formula, Formulas, Def, bind}
use Rattle.ct_formulas.specs.FormulaSorts.{AreSound}
use Rattle.ct_formulas.specs.Compiled.{compiled, compiled_all}
use Rattle.ct_formulas.specs.Occurrence.{count_of, uses_below, AreBoundSame}
use Rattle.ct_scope.specs.declared.bound.Bound.{Bound}
use Rattle.ct_scope.specs.declared.bound.Bound.TheVariants.{Term, Field, Absent}
use Rattle.ct_scope.specs.declared.known.Called.{Called}
use Rattle.ct_scope.specs.declared.stop.Stop.TheVariants.{TooDeep}
use Rattle.ct_scope.specs.Deferral.{Defers}
use Rattle.ct_operators.specs.Made.{HasTrees}
use Rattle.ct_scope.specs.Making.{making, makes_below, defined}
use Rattle.ct_operators.specs.Effect.{Stands, IsSoundTable, IsPrefix, Within, Effect}
use Rattle.ct_scope.specs.Compilable.{compiled_calls, IsBound, IsCompilable}
use Rattle.ct_occurrence.specs.Marks.{flags_below, Rows, row_in, HaveRows}
use Rattle.ct_scope.specs.Binding.{IsBoundAs, making_where, Binds}
use Rattle.ct_scope.specs.Calling.{same_call, terms_bound, call_of, IsRecalled, IsState}
use Rattle.ct_operators.proofs.EffectLemmas.{stands_stays}
use Rattle.ct_operators.proofs.WithinLemmas.{within_subtrees}
use Rattle.ct_scope.proofs.CompilableLemmas.{bounds_stay}
use Rattle.ct_operators.proofs.OperatorLemmas.{stands_as}
use Rattle.ct_operators.proofs.MakesLemmas.{have_stay}
use Rattle.ct_scope.proofs.MakingLemmas.{makes_is, makes_same_below}
use Rattle.ct_scope.proofs.DefinitionLemmas.{given_is, fewer_rows}
use Rattle.ct_scope.proofs.UnderLemmas.{Under, count_sorted, count_terms, call_view, body_ready}

-- ---- tables that grow

pub recalled_stays : (d : Declarations) (bodies : List Formula) (rows : Rows) (old new : Terms) (call : Called) (t : TermId) → IsPrefix old new → IsSoundTable d new → IsRecalled d bodies rows old call t → IsRecalled d bodies rows new call t
recalled_stays d bodies rows old new call t grown kept h = record {
  bounds = h.bounds;
  trees = h.trees;
  row = h.row;
  args = h.args;
  at = h.at;
  flags = h.flags;
  stand = bounds_stay d old new h.bounds h.trees grown kept h.stand;
  stands = stands_stays d old new t (compiled_calls d bodies (suc call.definition.0) call.definition h.trees) grown kept h.stands;
  made = have_stay kept.theorems old new (makes_below d bodies (suc call.definition.0) call.definition h.trees) grown kept.ordered h.made;
}

module _ {S : Type 0} (d : Declarations) (bodies : List Formula) (rows : Rows) where
  pub state_stays : (n : ℕ) (old new : Terms) (known : IndexMap Called TermId S) → IsPrefix old new → IsSoundTable d new → IsState d bodies n rows old known → IsState d bodies n rows new known
  state_stays n old new known grown kept h = record {
    have = h.have;
    recalls = λ call t at. recalled_stays d bodies rows old new call t grown kept (h.recalls call t at);
  }

  -- where subterms of a tree are made, or the tree
  pub state_within : (n : ℕ) (old new : Terms) (known : IndexMap Called TermId S) (full : Type 0) (tree : CoreTree) → ((allowed : List CoreTree) → Within allowed tree → Effect d allowed old new full) → IsState d bodies n rows old known → IsState d bodies n rows new known
  state_within n old new known full tree effect h = let e = effect (subtrees tree) (within_subtrees tree) in state_stays n old new known e.grown e.kept h

  pub state_made : (n : ℕ) (old new : Terms) (known : IndexMap Called TermId S) (full : Type 0) (tree : CoreTree) → ((allowed : List CoreTree) → Contains allowed tree → Effect d allowed old new full) → IsState d bodies n rows old known → IsState d bodies n rows new known
  state_made n old new known full tree effect h = let e = effect (tree ∷ []) (Contains-first tree []) in state_stays n old new known e.grown e.kept h

  -- for the definitions below a smaller number
  pub state_below : (m n : ℕ) (table : Terms) (known : IndexMap Called TermId S) → AreSound d bodies → m ≤ n → IsState d bodies n rows table known → IsState d bodies m rows table known
  state_below m n table known sound less h = record {
    have = fewer_rows d bodies m n rows sound less h.have;
    recalls = h.recalls;
  }

  -- and back, with the rows that there were
  pub state_back : (m n : ℕ) (old table : Terms) (before known : IndexMap Called TermId S) → IsState d bodies n rows old before → IsState d bodies m rows table known → IsState d bodies n rows table known
  state_back m n old table before known h k = record { have = h.have; recalls = k.recalls }

  -- one call more
  pub state_with : (n : ℕ) (table : Terms) (known more : IndexMap Called TermId S) (call : Called) (t : TermId) → IsState d bodies n rows table known → IsRecalled d bodies rows table call t → ((other : Called) (u : TermId) → get same_call more other ≡ Some u → (get same_call known other ≡ Some u) ⊎ ((other ≡ call) × (u ≡ t))) → IsState d bodies n rows table more
  state_with n table known more call t h is only = record {
    have = h.have;
    recalls = λ other u at. elim (only other u at) [
      | inl before ↦ h.recalls other u before
      | inr new ↦ subst (λ (x : Called). IsRecalled d bodies rows table x u) (sym new.0) (subst (IsRecalled d bodies rows table call) (sym new.1) is)
    ];
  }

-- ---- what a call is known to give

-- flags and terms say what is bound
same_bounds : (flags : List Bool) (bs cs : List Bound) → AllZip IsBoundAs flags bs → AllZip IsBoundAs flags cs → terms_bound bs ≡ terms_bound cs → bs ≡ cs
same_bounds [] [] [] h k e = refl
same_bounds [] [] (c ∷ cs) h k e = absurd k
same_bounds [] (b ∷ bs) cs h k e = absurd h
same_bounds (f ∷ fs) [] cs h k e = absurd h
same_bounds (f ∷ fs) (b ∷ bs) [] h k e = absurd k
same_bounds (true ∷ fs) (Term s ∷ bs) (Term t ∷ cs) h k e =
    ap₂ (λ (x : TermId) (xs : List Bound). Term x ∷ xs) (first e) (same_bounds fs bs cs h.1 k.1 (rest e))
  where
    first : {xs ys : List TermId} → s ∷ xs ≡ t ∷ ys → s ≡ t
    first e = cc

    rest : {xs ys : List TermId} → s ∷ xs ≡ t ∷ ys → xs ≡ ys
    rest e = cc
same_bounds (true ∷ fs) (Term s ∷ bs) (Field r t ∷ cs) h k e = absurd k.0
same_bounds (true ∷ fs) (Term s ∷ bs) (Absent ∷ cs) h k e = absurd k.0
same_bounds (true ∷ fs) (Field r s ∷ bs) (c ∷ cs) h k e = absurd h.0
same_bounds (true ∷ fs) (Absent ∷ bs) (c ∷ cs) h k e = absurd h.0
same_bounds (false ∷ fs) (Term s ∷ bs) (c ∷ cs) h k e = absurd h.0
same_bounds (false ∷ fs) (Field r s ∷ bs) (c ∷ cs) h k e = absurd h.0
same_bounds (false ∷ fs) (Absent ∷ bs) (Term t ∷ cs) h k e = absurd k.0
same_bounds (false ∷ fs) (Absent ∷ bs) (Field r t ∷ cs) h k e = absurd k.0
same_bounds (false ∷ fs) (Absent ∷ bs) (Absent ∷ cs) h k e = ap (λ (xs : List Bound). Absent ∷ xs) (same_bounds fs bs cs h.1 k.1 e)

-- what is bound to a variable that occurs has one tree
one_tree : (table : Terms) (f : Bool) (b : Bound) (x y : CoreTree) → IsBoundAs f b → IsBound table b x → IsBound table b y → f ≡ true → x ≡ y
one_tree table true (Term t) x y marked_as h k e = sym h.1 ∙ k.1
one_tree table true (Field s t) x y marked_as h k e = absurd marked_as
one_tree table true Absent x y marked_as h k e = absurd marked_as
one_tree table false b x y marked_as h k e = absurd (true≢false (sym e))

bound_same : (table : Terms) (p : ℕ → Bool) (bs : List Bound) (us vs : List CoreTree) → AllZip IsBoundAs (flags_below p (length bs)) bs → AllZip (IsBound table) bs us → AllZip (IsBound table) bs vs → AreBoundSame p us vs
bound_same table p [] [] [] marked_as h k = tt
bound_same table p [] [] (v ∷ vs) marked_as h k = absurd k
bound_same table p [] (u ∷ us) vs marked_as h k = absurd h
bound_same table p (b ∷ bs) [] vs marked_as h k = absurd h
bound_same table p (b ∷ bs) (u ∷ us) [] marked_as h k = absurd k
bound_same table p (b ∷ bs) (u ∷ us) (v ∷ vs) marked_as h k = (
  λ e. one_tree table (p (length bs)) b u v marked_as.0 h.0 k.0 (ap p (AllZip-one_length (IsBound table) bs us h.1) ∙ e),
  bound_same table p bs us vs marked_as.1 h.1 k.1,
)

same_definition : (call : Called) (k : DefId) (bs : List Bound) → call ≡ call_of k bs → call.definition ≡ k
same_definition call k bs e = ap (λ (c : Called). c.definition) e

module _ (d : Declarations) (bodies : List Formula) (n : ℕ) (rows : Rows) (old : Terms) (env : List Bound) (k : DefId) (ts : Formulas) (row : List Bool) (at_row : row_in rows k ≡ Some row) (body : Formula) (at : slice_get bodies k.0 ≡ Some body) (have : HaveRows d (uses_below d bodies n) n rows) where
  -- the row says which parameters occur
  pub row_is : (trees : List CoreTree) (sorts : List SortId) (sort : SortId) → IsCompilable d bodies old n env (Def k ts) trees sorts sort → row ≡ flags_below (uses_below d bodies n k) (count_of ts)
  row_is trees sorts sort h =
      have k h.sorted.0 row h.mentions.0 h.sorted.1 at_row
      ∙ ap (flags_below (uses_below d bodies n k)) (sym (count_sorted d sorts ts h.sorted.0.args h.sorted.2))

  pub call_under : (trees : List CoreTree) (sorts : List SortId) (sort : SortId) → IsCompilable d bodies old n env (Def k ts) trees sorts sort → Under d bodies n k.0 old env [] row (Def k ts) ts body trees sorts sort
  call_under trees sorts sort h = call_view d bodies n old env row k ts body at (row_is trees sorts sort h) trees sorts sort h

  abbrev parts : List CoreTree → List CoreTree
  parts trees = compiled_all d (compiled_calls d bodies n) trees ts

  module _ (mid : Terms) (bs : List Bound) (all : Binds d bodies n old mid env row ts (Ok bs)) where
    -- a known term is that of the call
    pub known_stands : (t : TermId) → IsRecalled d bodies rows mid (call_of k bs) t → (trees : List CoreTree) (sorts : List SortId) (sort : SortId) → IsCompilable d bodies old n env (Def k ts) trees sorts sort → Stands mid t (compiled d (compiled_calls d bodies n) trees (Def k ts))
    known_stands t is trees sorts sort h =
        let view = call_under trees sorts sort h in
        let one_row : is.row ≡ row = same_Some is.row row (sym is.at ∙ at_row) in
        let flags : AllZip IsBoundAs row is.bounds = subst (λ (xs : List Bool). AllZip IsBoundAs xs is.bounds) one_row is.flags in
        let one : bs ≡ is.bounds = same_bounds row bs is.bounds all.flagged flags (ap (λ (c : Called). c.args) is.args) in
        let stand : AllZip (IsBound mid) bs is.trees = subst (λ (xs : List Bound). AllZip (IsBound mid) xs is.trees) (sym one) is.stand in
        let core = all.core trees sorts view.each view.binding in
        let count : count_of ts ≡ length bs = sym (count_terms d (compiled_calls d bodies n) trees ts) ∙ sym (AllZip-one_length (IsBound mid) bs (parts trees) core) in
        let marked_as : AllZip IsBoundAs (flags_below (uses_below d bodies n k) (length bs)) bs = subst (λ (xs : List Bool). AllZip IsBoundAs xs bs) (row_is trees sorts sort h ∙ ap (flags_below (uses_below d bodies n k)) count) all.flagged in
        stands_as mid t _ _
        (given_is bodies k body at d (suc k.0) is.trees (omega arith)
        ∙ sym (given_is bodies k body at d n is.trees h.mentions.0)
        ∙ sym (h.setting.kept.theorems.used d bodies n k (parts trees) is.trees (bound_same mid (uses_below d bodies n k) bs (parts trees) is.trees marked_as core stand)))
        is.stands

    -- what is made for a known term is there
    pub known_made : (t : TermId) → IsRecalled d bodies rows mid (call_of k bs) t → (trees : List CoreTree) (sorts : List SortId) (sort : SortId) → (h : IsCompilable d bodies old n env (Def k ts) trees sorts sort) → HasTrees mid (making d (defined d bodies k.0) (bind (parts trees) (call_under trees sorts sort h).others) body)
    known_made t is trees sorts sort h =
        let view = call_under trees sorts sort h in
        let one_row : is.row ≡ row = same_Some is.row row (sym is.at ∙ at_row) in
        let flags : AllZip IsBoundAs row is.bounds = subst (λ (xs : List Bool). AllZip IsBoundAs xs is.bounds) one_row is.flags in
        let one : bs ≡ is.bounds = same_bounds row bs is.bounds all.flagged flags (ap (λ (c : Called). c.args) is.args) in
        let stand : AllZip (IsBound mid) bs is.trees = subst (λ (xs : List Bound). AllZip (IsBound mid) xs is.trees) (sym one) is.stand in
        let core = all.core trees sorts view.each view.binding in
        let count : count_of ts ≡ length bs = sym (count_terms d (compiled_calls d bodies n) trees ts) ∙ sym (AllZip-one_length (IsBound mid) bs (parts trees) core) in
        let marked_as : AllZip IsBoundAs (flags_below (uses_below d bodies n k) (length bs)) bs = subst (λ (xs : List Bool). AllZip IsBoundAs xs bs) (row_is trees sorts sort h ∙ ap (flags_below (uses_below d bodies n k)) count) all.flagged in
        subst (HasTrees mid)
        (makes_is bodies k body at d (suc k.0) is.trees (omega arith)
        ∙ sym (makes_is bodies k body at d n is.trees h.mentions.0)
        ∙ sym (makes_same_below h.setting.kept.theorems d bodies n k (parts trees) is.trees (bound_same mid (uses_below d bodies n k) bs (parts trees) is.trees marked_as core stand))
        ∙ makes_is bodies k body at d n (parts trees) h.mentions.0
        ∙ ap (λ (us : List CoreTree). making d (defined d bodies k.0) (bind (parts trees) us) body) (sym (AllZip-none (IsBound old) view.others view.bound)))
        is.made

    -- the term of the call is put down
    pub call_recalled : (new : Terms) (t : TermId) → IsPrefix mid new → IsSoundTable d new → (trees : List CoreTree) (sorts : List SortId) (sort : SortId) → (h : IsCompilable d bodies old n env (Def k ts) trees sorts sort) → Stands new t (compiled d (compiled_calls d bodies n) trees (Def k ts)) → HasTrees new (making d (defined d bodies k.0) (bind (parts trees) (call_under trees sorts sort h).others) body) → IsRecalled d bodies rows new (call_of k bs) t
    call_recalled new t grown kept trees sorts sort h stands made =
        let view = call_under trees sorts sort h in
        record {
          bounds = bs;
          trees = parts trees;
          row = row;
          args = refl;
          at = at_row;
          flags = all.flagged;
          stand = bounds_stay d mid new bs (parts trees) grown kept (all.core trees sorts view.each view.binding);
          stands = stands_as new t _ _ (given_is bodies k body at d n (parts trees) h.mentions.0 ∙ sym (given_is bodies k body at d (suc k.0) (parts trees) (omega arith))) stands;
          made = subst (HasTrees new) (ap (λ (us : List CoreTree). making d (defined d bodies k.0) (bind (parts trees) us) body) (AllZip-none (IsBound old) view.others view.bound) ∙ sym (makes_is bodies k body at d (suc k.0) (parts trees) (omega arith))) made;
        }

    -- the call is put off: its arguments are made
    pub call_waits : Defers d bodies rows n old mid env (Def k ts) (Err (TooDeep (record { definition = k; bounds = bs })))
    call_waits trees sorts sort h =
        let view = call_under trees sorts sort h in
        let before = making_where d (defined d bodies n) trees row ts in
        let none : view.others ≡ [] = AllZip-none (IsBound old) view.others view.bound in
        let no_sorts : view.other_sorts ≡ [] = AllZip-none (HasTreeSort d) view.other_sorts (subst (λ (us : List CoreTree). AllZip (HasTreeSort d) us view.other_sorts) none view.fitting) in
        let ready = body_ready d bodies n k.0 old env [] row (Def k ts) ts body call_under mid bs all trees sorts sort h in
        record {
          trees = parts trees;
          below = h.mentions.0;
          is_call = record {
            row = row;
            at_row = at_row;
            flags = all.flagged;
            stand = all.core trees sorts view.each view.binding;
            body = body;
            at = at;
            sorts = view.each;
            sort = sort;
            ready = subst (λ (ss : List SortId). IsCompilable d bodies mid k.0 (bind bs []) body (bind (parts trees) []) (bind view.each ss) sort) no_sorts
                (subst (λ (us : List CoreTree). IsCompilable d bodies mid k.0 (bind bs []) body (bind (parts trees) us) (bind view.each view.other_sorts) sort) none ready);
          };
          within = λ allowed inside. subst (Within allowed) (given_is bodies k body at d n (parts trees) h.mentions.0 ∙ sym (given_is bodies k body at d (suc k.0) (parts trees) (omega arith))) inside;
          before = before;
          after = [];
          order =
              view.makes
              ∙ ap (λ (us : List CoreTree). before ++ making d (defined d bodies k.0) (bind (parts trees) us) body) none
              ∙ ap (λ (xs : List CoreTree). before ++ xs) (sym (makes_is bodies k body at d (suc k.0) (parts trees) (omega arith)) ∙ sym (append-nil (makes_below d bodies (suc k.0) k (parts trees))));
          makes = all.order trees sorts view.each view.binding;
        }

-- nothing is known at first
pub state_start : {S : Type 0} (d : Declarations) (bodies : List Formula) (n : ℕ) (rows : Rows) (table : Terms) (known : IndexMap Called TermId S) → known.entries ≡ [] → HaveRows d (uses_below d bodies n) n rows → IsState d bodies n rows table known
state_start d bodies n rows table known empty have = record {
  have = have;
  recalls = λ call t at. absurd (none-some t (sym (ap (lookup (same_call call)) empty) ∙ at));
}
