-- A formula under variables that are bound to others: the body of a `let`, or of a definition that is called.
use Rattle.std.proofs.Common.{◌≡◌, ℕ, zero, suc, ◌+◌, ◌≤◌, arith, Bool, ◌&&◌, ◌||◌, List, [], ◌∷◌, length, Contains, Result, Ok, Err, Some, slice_get, refl, sym, ap, subst, ◌∙◌, ◌++◌, ap₂}
use Rattle.std.specs.List.{AllZip}
use Rattle.std.proofs.lemmas.Option.{none-some}
use Rattle.std.proofs.lemmas.List.{append-nil}
use Rattle.std.proofs.lemmas.Result.{IfOk-weaker}
use Rattle.ct_lemmas.proofs.Booleans.{or_left, or_right}
use Rattle.ct_lemmas.proofs.Pairs.{AllZip-one_length}
use Rattle.ct_sorts.specs.declared.ids.DefId.{DefId}
use Rattle.ct_sorts.specs.declared.ids.SortId.{SortId}
use Rattle.ct_sorts.specs.Declarations.{Declarations}
use Rattle.ct_terms.specs.declared.ids.TermId.{TermId}
use Rattle.ct_terms.specs.declared.error.TermError.{TermError}
use Rattle.ct_terms.specs.declared.error.TermError.TheVariants.{Full, NoMemory}
use Rattle.ct_terms.specs.Terms.{Terms}
use Rattle.ct_terms.specs.CoreTree.{CoreTree, subtrees}
use Rattle.ct_terms.specs.CoreSorts.{HasTreeSort}
use Rattle.ct_formulas.specs.Formula.{Formula, Formulas, Def, Let, no_formulas, with_formula, bind, MentionsBelow, AllMentionBelow}
use Rattle.ct_formulas.specs.FormulaSorts.{IsSorted, AllSorted}
use Rattle.ct_formulas.specs.Compiled.{compiled, compiled_all}
use Rattle.ct_formulas.specs.Occurrence.{count_of, occurs, occurs_in_bound, uses_below}
use Rattle.ct_scope.specs.declared.bound.Bound.{Bound}
use Rattle.ct_scope.specs.declared.stop.Stop.{Stop}
use Rattle.ct_scope.specs.declared.stop.DeferredCall.{DeferredCall}
use Rattle.ct_scope.specs.declared.stop.Stop.TheVariants.{Failed, TooDeep}
use Rattle.ct_scope.specs.Deferral.{ended, WhenTooDeep, Defers, DefersBound}
use Rattle.ct_operators.specs.Effect.{Stands, IsSoundTable, IsPrefix, Within}
use Rattle.ct_scope.specs.Compilable.{compiled_calls, IsBound, ArePresent, IsSetting, IsCompilable, MayCompile, Compiles}
use Rattle.ct_occurrence.specs.Marks.{flags_below, Rows}
use Rattle.ct_operators.specs.Made.{HasTrees, MakesInOrder}
use Rattle.ct_scope.specs.Making.{making, defined}
use Rattle.ct_scope.specs.Binding.{IsBoundAs, occurs_where, WithinWhere, making_where, AreBinding, MayBind, Binds}
use Rattle.ct_operators.proofs.EffectLemmas.{effect_then, effect_because}
use Rattle.ct_scope.proofs.CompilableLemmas.{bounds_stay, present_less}
use Rattle.ct_operators.proofs.OperatorLemmas.{stands_as}
use Rattle.ct_operators.proofs.MakesLemmas.{makes_then, makes_none, makes_has}
use Rattle.ct_scope.proofs.MakingLemmas.{makes_is, making_listed}
use Rattle.ct_operators.proofs.EffectLemmas.{same_error}
use Rattle.ct_scope.proofs.BindLemmas.{bind_zip, bind_present, all_there, where_within}
use Rattle.ct_scope.proofs.DefinitionLemmas.{given_is, uses_is, listed_same}
use Rattle.ct_scope.proofs.DeferralLemmas.{ended_by, too_deep_by, waits_under}

-- what holds of a call that is put off, where another thing does
pub too_deep_same : {A : Type 0} (r : Result A Stop) (P Q : DeferredCall → Type 0) → ((call : DeferredCall) → P call → Q call) → WhenTooDeep r P → WhenTooDeep r Q
too_deep_same (Ok a) P Q f h = tt
too_deep_same (Err (Failed e)) P Q f h = tt
too_deep_same (Err (TooDeep call)) P Q f h = f call h

-- what the formula is over, for these trees of the variables
pub record Under (d : Declarations) (bodies : List Formula) (n m : ℕ) (old : Terms) (env outer : List Bound) (flags : List Bool) (t : Formula) (ts : Formulas) (body : Formula) (trees : List CoreTree) (sorts : List SortId) (sort : SortId) : Type 0 where
  pub each : List SortId
  pub binding : AreBinding d bodies old n env flags ts trees sorts each
  pub others : List CoreTree
  pub other_sorts : List SortId
  pub bound : AllZip (IsBound old) outer others
  pub fitting : AllZip (HasTreeSort d) others other_sorts
  pub mentions : MentionsBelow m body
  pub sorted : IsSorted d (bind each other_sorts) body sort
  pub present : ArePresent (λ i. occurs d (uses_below d bodies m) body (i + count_of ts)) outer
  pub flags_are : flags ≡ flags_below (occurs d (uses_below d bodies m) body) (count_of ts)
  pub same : compiled d (compiled_calls d bodies n) trees t ≡ compiled d (compiled_calls d bodies m) (bind (compiled_all d (compiled_calls d bodies n) trees ts) others) body
  pub makes : making d (defined d bodies n) trees t ≡ making_where d (defined d bodies n) trees flags ts ++ making d (defined d bodies m) (bind (compiled_all d (compiled_calls d bodies n) trees ts) others) body

pub count_terms : (d : Declarations) (call : DefId → List CoreTree → CoreTree) (env : List CoreTree) (ts : Formulas) → length (compiled_all d call env ts) ≡ count_of ts
count_terms d call env no_formulas = refl
count_terms d call env (with_formula t ts) = ap suc (count_terms d call env ts)

-- the core terms have the sorts of the formulas
pub parts_fit : (d : Declarations) (bodies : List Formula) (table : Terms) (n : ℕ) (env : List Bound) (trees : List CoreTree) (sorts : List SortId) → IsSetting d bodies table env trees sorts → (ts : Formulas) (each : List SortId) → AllMentionBelow n ts → AllSorted d sorts ts each → AllZip (HasTreeSort d) (compiled_all d (compiled_calls d bodies n) trees ts) each
parts_fit d bodies table n env trees sorts s no_formulas [] mentions sorted = tt
parts_fit d bodies table n env trees sorts s no_formulas (x ∷ each) mentions sorted = absurd sorted
parts_fit d bodies table n env trees sorts s (with_formula t ts) [] mentions sorted = absurd sorted
parts_fit d bodies table n env trees sorts s (with_formula t ts) (x ∷ each) mentions sorted = (
  s.kept.theorems.compiled_sorted d n (compiled_calls d bodies n) trees sorts t x s.consistent (s.kept.theorems.calls_sorted d bodies n s.consistent s.sound) s.fitting mentions.0 sorted.0,
  parts_fit d bodies table n env trees sorts s ts each mentions.1 sorted.1,
)

module _ (d : Declarations) (bodies : List Formula) (n m : ℕ) (old : Terms) (env outer : List Bound) (flags : List Bool) (t : Formula) (ts : Formulas) (body : Formula) (view : (trees : List CoreTree) (sorts : List SortId) (sort : SortId) → IsCompilable d bodies old n env t trees sorts sort → Under d bodies n m old env outer flags t ts body trees sorts sort) where
  abbrev parts : List CoreTree → List CoreTree
  parts trees = compiled_all d (compiled_calls d bodies n) trees ts

  -- a test of the variables that occur in the body
  abbrev p : ℕ → Bool
  p = occurs d (uses_below d bodies m) body

  pub under_may : MayCompile d bodies old n env t → MayBind d bodies old n env flags ts
  under_may may = let u = view may.0 may.1 may.2 may.3 in (may.0, may.1, u.each, u.binding)

  -- what occurs in the body is a subterm of the whole
  within_parts : (trees : List CoreTree) (sorts : List SortId) (sort : SortId) (h : IsCompilable d bodies old n env t trees sorts sort) (allowed : List CoreTree) → Within allowed (compiled d (compiled_calls d bodies n) trees t) → WithinWhere allowed flags (parts trees)
  within_parts trees sorts sort h allowed w =
      let u = view trees sorts sort h in
      let theorems = h.setting.kept.theorems in
      let is : flags ≡ flags_below p (length (parts trees)) = u.flags_are ∙ ap (flags_below p) (sym (count_terms d (compiled_calls d bodies n) trees ts)) in
      subst (λ (bs : List Bool). WithinWhere allowed bs (parts trees)) (sym is)
      (where_within allowed p (parts trees) u.others (λ i x e at s inside.
      w s (subst (λ (y : CoreTree). Contains (subtrees y) s) (sym u.same)
      (theorems.subterms_of_subterms _ x s
      (theorems.occurring_subterm d (uses_below d bodies m) (compiled_calls d bodies m) (bind (parts trees) u.others) (bind u.each u.other_sorts) body sort i x (theorems.used_subterm d bodies m h.setting.sound) u.sorted e at) inside))))

  pub under_failed : (new : Terms) (e : TermError) → Binds d bodies n old new env flags ts (Err e) → Compiles d bodies n old new env t (Err e)
  under_failed new e all = record {
    core = λ trees sorts sort h. tt;
    effect = λ trees sorts sort allowed h w.
        let u = view trees sorts sort h in
        effect_because d allowed old new _ _ (same_error e Full) (all.effect trees sorts u.each allowed u.binding (within_parts trees sorts sort h allowed w));
    order = λ trees sorts sort h. tt;
  }

  pub under_stopped : (new : Terms) (s : Stop) → Binds d bodies n old new env flags ts (ended (Err s)) → Compiles d bodies n old new env t (ended (Err s))
  under_stopped new s all = ended_by s (λ r. Binds d bodies n old new env flags ts r) (λ r. Compiles d bodies n old new env t r) (under_failed new) all

  -- a call under what is bound is put off
  pub under_waits : (rows : Rows) (new : Terms) (s : Stop) → DefersBound d bodies rows n old new env flags ts (Err s) → Defers d bodies rows n old new env t (Err s)
  under_waits rows new s all =
      too_deep_by (List Bound) TermId s _ _ (λ call w trees sorts sort h.
      let u = view trees sorts sort h in
      waits_under d bodies rows n n old old new (making d (defined d bodies n) trees t) [] (making_where d (defined d bodies n) trees flags ts) (making d (defined d bodies m) (bind (parts trees) u.others) body)
      (λ allowed. WithinWhere allowed flags (parts trees)) (λ allowed. Within allowed (compiled d (compiled_calls d bodies n) trees t)) call
      (omega arith) refl u.makes (λ allowed inside. within_parts trees sorts sort h allowed inside) (w trees sorts u.each u.binding)) all

  module _ (mid : Terms) (bs : List Bound) (all : Binds d bodies n old mid env flags ts (Ok bs)) where
    -- there is no memory for more
    pub under_out : (e : TermError) → e ≡ NoMemory → Compiles d bodies n old mid env t (Err e)
    under_out e is = record {
      core = λ trees sorts sort h. tt;
      effect = λ trees sorts sort allowed h w.
          let u = view trees sorts sort h in
          effect_because d allowed old mid _ _ (λ x. cc) (all.effect trees sorts u.each allowed u.binding (within_parts trees sorts sort h allowed w));
      order = λ trees sorts sort h. tt;
    }

    -- the term is known already
    pub under_known : (x : TermId) → ((trees : List CoreTree) (sorts : List SortId) (sort : SortId) → IsCompilable d bodies old n env t trees sorts sort → Stands mid x (compiled d (compiled_calls d bodies n) trees t)) → ((trees : List CoreTree) (sorts : List SortId) (sort : SortId) (h : IsCompilable d bodies old n env t trees sorts sort) → HasTrees mid (making d (defined d bodies m) (bind (parts trees) (view trees sorts sort h).others) body)) → Compiles d bodies n old mid env t (Ok x)
    under_known x stands made = record {
      core = stands;
      effect = λ trees sorts sort allowed h w.
          let u = view trees sorts sort h in
          effect_because d allowed old mid _ _ (λ y. cc) (all.effect trees sorts u.each allowed u.binding (within_parts trees sorts sort h allowed w));
      order = λ trees sorts sort h.
          let u = view trees sorts sort h in
          let inner = making d (defined d bodies m) (bind (parts trees) u.others) body in
          subst (λ (xs : List CoreTree). MakesInOrder old xs mid) (sym u.makes)
          (makes_then (making_where d (defined d bodies n) trees flags ts) inner old mid mid (all.order trees sorts u.each u.binding) (makes_none inner mid (made trees sorts sort h)));
    }

    -- the table has grown, and is kept
    pub under_grown : MayCompile d bodies old n env t → IsPrefix old mid × IsSoundTable d mid
    under_grown may = let u = view may.0 may.1 may.2 may.3 in all.grown may.0 may.1 u.each u.binding

    pub body_ready : (trees : List CoreTree) (sorts : List SortId) (sort : SortId) (h : IsCompilable d bodies old n env t trees sorts sort) → IsCompilable d bodies mid m (bind bs outer) body (bind (parts trees) (view trees sorts sort h).others) (bind (view trees sorts sort h).each (view trees sorts sort h).other_sorts) sort
    body_ready trees sorts sort h =
        let u = view trees sorts sort h in
        let g = all.grown trees sorts u.each u.binding in
        let count : count_of ts ≡ length bs = sym u.binding.long ∙ AllZip-one_length IsBoundAs flags bs all.flagged in
        record {
          setting = record {
            consistent = h.setting.consistent;
            sound = h.setting.sound;
            kept = g.1;
            bound = bind_zip (IsBound mid) bs (parts trees) outer u.others (all.core trees sorts u.each u.binding) (bounds_stay d old mid outer u.others g.0 g.1 u.bound);
            fitting = bind_zip (HasTreeSort d) (parts trees) u.each u.others u.other_sorts (parts_fit d bodies old n env trees sorts h.setting ts u.each u.binding.mentions u.binding.sorted) u.fitting;
          };
          mentions = u.mentions;
          sorted = u.sorted;
          present = bind_present p bs outer
              (all_there (flags_below p (length bs)) bs (subst (λ (xs : List Bool). AllZip IsBoundAs xs bs) (u.flags_are ∙ ap (flags_below p) count) all.flagged))
              (subst (λ (k : ℕ). ArePresent (λ i. p (i + k)) outer) count u.present);
        }

    pub under_body : MayCompile d bodies old n env t → MayCompile d bodies mid m (bind bs outer) body
    under_body may =
        let u = view may.0 may.1 may.2 may.3 in
        (bind (parts may.0) u.others, bind u.each u.other_sorts, may.2, body_ready may.0 may.1 may.2 may.3)

    pub under_made : (new : Terms) (r : Result TermId TermError) → Compiles d bodies m mid new (bind bs outer) body r → Compiles d bodies n old new env t r
    under_made new r one = record {
      core = λ trees sorts sort h.
          let u = view trees sorts sort h in
          IfOk-weaker r _ (λ x. Stands new x (compiled d (compiled_calls d bodies n) trees t)) (λ x k. stands_as new x _ _ (sym u.same) k) (one.core (bind (parts trees) u.others) (bind u.each u.other_sorts) sort (body_ready trees sorts sort h));
      effect = λ trees sorts sort allowed h w.
          let u = view trees sorts sort h in
          effect_then d allowed old mid new _ _ (all.effect trees sorts u.each allowed u.binding (within_parts trees sorts sort h allowed w))
          (one.effect (bind (parts trees) u.others) (bind u.each u.other_sorts) sort allowed (body_ready trees sorts sort h) (subst (Within allowed) u.same w));
      order = λ trees sorts sort h.
          let u = view trees sorts sort h in
          let inner = making d (defined d bodies m) (bind (parts trees) u.others) body in
          IfOk-weaker r (λ x. MakesInOrder mid inner new) (λ x. MakesInOrder old (making d (defined d bodies n) trees t) new)
          (λ x k. subst (λ (xs : List CoreTree). MakesInOrder old xs new) (sym u.makes) (makes_then (making_where d (defined d bodies n) trees flags ts) inner old mid new (all.order trees sorts u.each u.binding) k))
          (one.order (bind (parts trees) u.others) (bind u.each u.other_sorts) sort (body_ready trees sorts sort h));
    }

    -- a call under the body is put off
    pub under_later : (rows : Rows) → m ≤ n → (new : Terms) (r : Result TermId Stop) → Defers d bodies rows m mid new (bind bs outer) body r → Defers d bodies rows n old new env t r
    under_later rows lower new r one =
        too_deep_same r _ _ (λ call w trees sorts sort h.
        let u = view trees sorts sort h in
        let before = making_where d (defined d bodies n) trees flags ts in
        let inner = making d (defined d bodies m) (bind (parts trees) u.others) body in
        waits_under d bodies rows m n old mid new (making d (defined d bodies n) trees t) before inner []
        (λ allowed. Within allowed (compiled d (compiled_calls d bodies m) (bind (parts trees) u.others) body)) (λ allowed. Within allowed (compiled d (compiled_calls d bodies n) trees t)) call
        lower (all.order trees sorts u.each u.binding) (u.makes ∙ ap (λ (xs : List CoreTree). before ++ xs) (sym (append-nil inner))) (λ allowed inside. subst (Within allowed) u.same inside)
        (w (bind (parts trees) u.others) (bind u.each u.other_sorts) sort (body_ready trees sorts sort h))) one

    -- what is made for the body is there
    pub under_has : (new : Terms) (x : TermId) → IsSoundTable d new → Compiles d bodies m mid new (bind bs outer) body (Ok x) → (trees : List CoreTree) (sorts : List SortId) (sort : SortId) (h : IsCompilable d bodies old n env t trees sorts sort) → HasTrees new (making d (defined d bodies m) (bind (parts trees) (view trees sorts sort h).others) body)
    under_has new x kept one trees sorts sort h =
        let u = view trees sorts sort h in
        makes_has kept.theorems (making d (defined d bodies m) (bind (parts trees) u.others) body) mid new kept.ordered (one.order (bind (parts trees) u.others) (bind u.each u.other_sorts) sort (body_ready trees sorts sort h))

    -- the same, and then there is no memory to put it down
    pub under_lost : (new : Terms) (x : TermId) (e : TermError) → e ≡ NoMemory → Compiles d bodies m mid new (bind bs outer) body (Ok x) → Compiles d bodies n old new env t (Err e)
    under_lost new x e is one = record {
      core = λ trees sorts sort h. tt;
      effect = λ trees sorts sort allowed h w. effect_because d allowed old new _ _ (λ y. cc) ((under_made new (Ok x) one).effect trees sorts sort allowed h w);
      order = λ trees sorts sort h. tt;
    }

-- ---- flags of variables

-- with these flags what occurs in the bound formulas does
pub flagged_occurs : (d : Declarations) (uses : DefId → ℕ → Bool) (inner : ℕ → Bool) (ts : Formulas) (i : ℕ) → occurs_where d uses (flags_below inner (count_of ts)) ts i ≡ occurs_in_bound d uses inner ts i
flagged_occurs d uses inner no_formulas i = refl
flagged_occurs d uses inner (with_formula t ts) i = ap (λ (b : Bool). (inner (count_of ts) && occurs d uses t i) || b) (flagged_occurs d uses inner ts i)

pub listed_length : (p : ℕ → Bool) (k : ℕ) → length (flags_below p k) ≡ k
listed_length p zero = refl
listed_length p (suc k) = ap suc (listed_length p k)

-- ---- a `let`

pub let_view : (d : Declarations) (bodies : List Formula) (n : ℕ) (old : Terms) (env : List Bound) (flags : List Bool) (ts : Formulas) (body : Formula) → flags ≡ flags_below (occurs d (uses_below d bodies n) body) (count_of ts) → (trees : List CoreTree) (sorts : List SortId) (sort : SortId) → IsCompilable d bodies old n env (Let ts body) trees sorts sort → Under d bodies n n old env env flags (Let ts body) ts body trees sorts sort
let_view d bodies n old env flags ts body is trees sorts sort h =
    let uses = uses_below d bodies n in
    let inner = occurs d uses body in
    record {
      each = h.sorted.0;
      binding = record {
        setting = h.setting;
        mentions = h.mentions.0;
        sorted = h.sorted.2;
        present = present_less (occurs_where d uses flags ts) (occurs d uses (Let ts body)) env
            (λ i e. or_left (occurs_in_bound d uses inner ts i) (inner (i + count_of ts)) (sym (flagged_occurs d uses inner ts i) ∙ ap (λ (bs : List Bool). occurs_where d uses bs ts i) (sym is) ∙ e)) h.present;
        long = ap (λ (bs : List Bool). length bs) is ∙ listed_length inner (count_of ts);
      };
      others = trees;
      other_sorts = sorts;
      bound = h.setting.bound;
      fitting = h.setting.fitting;
      mentions = h.mentions.1;
      sorted = h.sorted.3;
      present = present_less (λ i. inner (i + count_of ts)) (occurs d uses (Let ts body)) env
          (λ i e. or_right (occurs_in_bound d uses inner ts i) (inner (i + count_of ts)) e) h.present;
      flags_are = is;
      same = refl;
      makes = ap (λ (xs : List CoreTree). xs ++ making d (defined d bodies n) (bind (compiled_all d (compiled_calls d bodies n) trees ts) trees) body) (sym (ap (λ (bs : List Bool). making_where d (defined d bodies n) trees bs ts) is ∙ making_listed d (defined d bodies n) trees inner ts));
    }

-- ---- a call

pub count_sorted : (d : Declarations) (sorts : List SortId) (ts : Formulas) (each : List SortId) → AllSorted d sorts ts each → count_of ts ≡ length each
count_sorted d sorts no_formulas [] h = refl
count_sorted d sorts no_formulas (s ∷ each) h = absurd h
count_sorted d sorts (with_formula t ts) [] h = absurd h
count_sorted d sorts (with_formula t ts) (s ∷ each) h = ap suc (count_sorted d sorts ts each h.1)

pub call_view : (d : Declarations) (bodies : List Formula) (n : ℕ) (old : Terms) (env : List Bound) (flags : List Bool) (k : DefId) (ts : Formulas) (body : Formula) → slice_get bodies k.0 ≡ Some body → flags ≡ flags_below (uses_below d bodies n k) (count_of ts) → (trees : List CoreTree) (sorts : List SortId) (sort : SortId) → IsCompilable d bodies old n env (Def k ts) trees sorts sort → Under d bodies n k.0 old env [] flags (Def k ts) ts body trees sorts sort
call_view d bodies n old env flags k ts body at is trees sorts sort h =
    let uses = uses_below d bodies n in
    let definition = h.sorted.0 in
    record {
      each = definition.args;
      binding = record {
        setting = h.setting;
        mentions = h.mentions.1;
        sorted = h.sorted.2;
        present = present_less (occurs_where d uses flags ts) (occurs d uses (Def k ts)) env
            (λ i e. sym (flagged_occurs d uses (uses k) ts i) ∙ ap (λ (bs : List Bool). occurs_where d uses bs ts i) (sym is) ∙ e) h.present;
        long = ap (λ (bs : List Bool). length bs) is ∙ listed_length (uses k) (count_of ts);
      };
      others = [];
      other_sorts = [];
      bound = tt;
      fitting = tt;
      mentions = h.setting.sound.earlier k.0 body at;
      sorted = subst (IsSorted d (bind definition.args []) body) h.sorted.3 (h.setting.sound.sorted k.0 definition body h.sorted.1 at);
      present = λ i b e there. absurd (none_there i b there);
      flags_are = is ∙ listed_same (uses k) (occurs d (uses_below d bodies k.0) body) (count_of ts) (λ i. uses_is bodies k body at d n i h.mentions.0);
      same = given_is bodies k body at d n (compiled_all d (compiled_calls d bodies n) trees ts) h.mentions.0;
      makes = ap₂ (λ (xs ys : List CoreTree). xs ++ ys)
          (sym (ap (λ (bs : List Bool). making_where d (defined d bodies n) trees bs ts) is ∙ making_listed d (defined d bodies n) trees (uses k) ts))
          (makes_is bodies k body at d n (compiled_all d (compiled_calls d bodies n) trees ts) h.mentions.0);
    }
  where
    none_there : (i : ℕ) (b : Bound) → slice_get [] i ≡ Some b → ⊥
    none_there i b there = none-some b there
