-- The cases of a `match`, one after the other.
use Rattle.std.proofs.Common.{◌≡◌, ℕ, zero, suc, ◌+◌, ◌<◌, ◌≤◌, Bool, true, false, not, ◌&&◌, ◌||◌, List, [], ◌∷◌, ◌++◌, length, map, Contains, Option, Some, None, if◌then◌else◌, Result, Ok, Err, slice_get, IfOk, IsErrOf, refl, sym, ap, ap₂, subst, ◌∙◌, ◌⊎◌, inl, inr, arith, true≢false}
use Rattle.std.specs.List.{AllZip}
use Rattle.std.proofs.lemmas.Option.{none-some, same_Some}
use Rattle.std.proofs.lemmas.Result.{IfOk-weaker}
use Rattle.std.proofs.lemmas.Bool.{cases_lt}
use Rattle.std.proofs.lemmas.List.{append-nil}
use Rattle.ct_lemmas.proofs.Booleans.{or_left, or_right}
use Rattle.ct_lemmas.proofs.Contained.{Contains-rest}
use Rattle.ct_sorts.specs.declared.ids.CtorId.{CtorId}
use Rattle.ct_sorts.specs.declared.ids.DefId.{DefId}
use Rattle.ct_sorts.specs.declared.ids.SelId.{SelId}
use Rattle.ct_sorts.specs.declared.ids.SortId.{SortId}
use Rattle.ct_sorts.specs.Declarations.{Declarations, bool_sort}
use Rattle.ct_sorts.specs.Consistent.{IsConsistent}
use Rattle.ct_terms.specs.declared.ids.TermId.{TermId}
use Rattle.ct_terms.specs.declared.error.TermError.{TermError}
use Rattle.ct_terms.specs.declared.error.TermError.TheVariants.{Full, NoMemory}
use Rattle.ct_formulas.specs.declared.tree.Pattern.{Pattern}
use Rattle.ct_formulas.specs.declared.tree.Pattern.TheVariants.{Ctor, Any}
use Rattle.ct_terms.specs.Terms.{Terms}
use Rattle.ct_terms.specs.CoreTree.{CoreTree, sel, test, choice, subtrees, term_at}
use Rattle.ct_terms.specs.CoreSorts.{HasTreeSort}
use Rattle.ct_formulas.specs.Formula.{Formula, Cases, no_cases, with_case, bind}
use Rattle.ct_formulas.specs.FormulaSorts.{BindsSorts, AreSortedCases, HasSomeCase}
use Rattle.ct_terms.specs.Fields.{fields_of}
use Rattle.ct_formulas.specs.Compiled.{surely_fits, are_none, compiled, compiled_cases}
use Rattle.ct_formulas.specs.Occurrence.{any_below, field_count, occurs, matched_occurs, occurs_in_cases, uses_below, GiveUsed}
use Rattle.ct_scope.specs.declared.bound.Bound.{Bound}
use Rattle.ct_scope.specs.declared.stop.Stop.{Stop}
use Rattle.ct_scope.specs.Deferral.{ended, Defers, DefersCases}
use Rattle.ct_scope.specs.declared.bound.Bound.TheVariants.{Term, Field, Absent}
use Rattle.ct_operators.specs.Theorems.{Theorems}
use Rattle.ct_operators.specs.Effect.{Stands, IsSoundTable, IsPrefix, Within, Effect}
use Rattle.ct_scope.specs.Compilable.{compiled_calls, IsBound, IsThere, ArePresent, IsCompilable, MayCompile, Compiles}
use Rattle.ct_occurrence.specs.Marks.{flags_below, Rows}
use Rattle.ct_operators.specs.Made.{HasTree, MakesInOrder}
use Rattle.ct_scope.specs.Making.{Defined, making, making_cases, defined}
use Rattle.ct_scope.specs.Matching.{IsTerm, bound_field, sels_of, bound_by, trees_by, AreCases, MayCases, CompilesCases}
use Rattle.ct_occurrence.specs.Matching.{tested_by, IsPatternDeclared}
use Rattle.ct_operators.proofs.EffectLemmas.{prefix_trans, stands_stays, effect_none, effect_then, effect_because}
use Rattle.ct_operators.proofs.WithinLemmas.{within_subtrees, within_itself, within_choice, within_test}
use Rattle.ct_scope.proofs.CompilableLemmas.{bound_stays, setting_stays, present_less}
use Rattle.ct_operators.proofs.OperatorLemmas.{stands_as}
use Rattle.ct_operators.proofs.MakesLemmas.{makes_then, makes_one}
use Rattle.ct_scope.proofs.BindLemmas.{bind_zip, bind_first, bind_present}
use Rattle.ct_scope.proofs.DeferralLemmas.{ended_by, too_deep_by, waits_under}

-- ---- what a case is

test_none : (b : Bool) (c : CtorId) → (if b then None else Some c) ≡ None → b ≡ true
test_none true c e = refl
test_none false c e = absurd (none-some c (sym e))

test_some : (b : Bool) (c e : CtorId) → (if b then None else Some c) ≡ Some e → (b ≡ false) × (c ≡ e)
test_some true c e h = absurd (none-some e h)
test_some false c e h = (refl, same_Some c e h)

module _ (d : Declarations) (call : DefId → List CoreTree → CoreTree) (env : List CoreTree) (t : CoreTree) (earlier : List CtorId) (body : Formula) (rest : Cases) where
  -- it ends the cases
  pub case_none : (p : Pattern) → tested_by d earlier p (are_none rest) ≡ None → compiled_cases d call env t earlier (with_case p body rest) ≡ compiled d call (bind (trees_by d p t) env) body
  case_none Any e = refl
  case_none (Ctor c) e =
      ap (λ (b : Bool). if b then compiled d call (bind (fields_of d c t) env) body else choice (test c t) (compiled d call (bind (fields_of d c t) env) body) (compiled_cases d call env t (c ∷ earlier) rest))
      (test_none (surely_fits d earlier c || are_none rest) c e)

  -- it has a test
  pub case_some : (p : Pattern) (c : CtorId) → tested_by d earlier p (are_none rest) ≡ Some c → compiled_cases d call env t earlier (with_case p body rest) ≡ choice (test c t) (compiled d call (bind (trees_by d p t) env) body) (compiled_cases d call env t (c ∷ earlier) rest)
  case_some Any c e = absurd (none-some c e)
  case_some (Ctor k) c e =
      let both = test_some (surely_fits d earlier k || are_none rest) k c e in
      ap (λ (b : Bool). if b then compiled d call (bind (fields_of d k t) env) body else choice (test k t) (compiled d call (bind (fields_of d k t) env) body) (compiled_cases d call env t (k ∷ earlier) rest)) both.0
      ∙ ap (λ (x : CtorId). choice (test x t) (compiled d call (bind (fields_of d k t) env) body) (compiled_cases d call env t (x ∷ earlier) rest)) both.1

-- what is made for a case that ends the cases, and for one that has a test
module _ (d : Declarations) (defs : Defined) (env : List CoreTree) (t : CoreTree) (earlier : List CtorId) (body : Formula) (rest : Cases) where
  abbrev body_of_case : CtorId → List CoreTree
  body_of_case c = making d defs (bind (fields_of d c t) env) body

  abbrev made_with : CtorId → Bool → CoreTree → List CoreTree
  made_with c b x = if b then body_of_case c else test c t ∷ (body_of_case c ++ (making_cases d defs env t (c ∷ earlier) rest ++ x ∷ []))

  pub making_none : (p : Pattern) → tested_by d earlier p (are_none rest) ≡ None → making_cases d defs env t earlier (with_case p body rest) ≡ making d defs (bind (trees_by d p t) env) body
  making_none Any e = refl
  making_none (Ctor c) e =
      ap (λ (b : Bool). made_with c b (choice (test c t) (compiled d defs.gives (bind (fields_of d c t) env) body) (compiled_cases d defs.gives env t (c ∷ earlier) rest))) (test_none (surely_fits d earlier c || are_none rest) c e)

  pub making_some : (p : Pattern) (c : CtorId) → tested_by d earlier p (are_none rest) ≡ Some c → making_cases d defs env t earlier (with_case p body rest) ≡ (test c t ∷ making d defs (bind (trees_by d p t) env) body) ++ (making_cases d defs env t (c ∷ earlier) rest ++ compiled_cases d defs.gives env t earlier (with_case p body rest) ∷ [])
  making_some Any c e = absurd (none-some c e)
  making_some (Ctor k) c e =
      let both = test_some (surely_fits d earlier k || are_none rest) k c e in
      ap (λ (b : Bool). made_with k b (choice (test k t) (compiled d defs.gives (bind (fields_of d k t) env) body) (compiled_cases d defs.gives env t (k ∷ earlier) rest))) both.0
      ∙ ap (λ (x : CoreTree). made_with k false x) (sym (case_some d defs.gives env t earlier body rest (Ctor k) k (e ∙ ap Some (sym both.1))))
      ∙ ap (λ (x : CtorId). test x t ∷ (body_of_case k ++ (making_cases d defs env t (x ∷ earlier) rest ++ compiled_cases d defs.gives env t earlier (with_case (Ctor k) body rest) ∷ []))) both.1

-- what is bound to a term is there
pub term_tree : (table : Terms) (b : Bound) (tree : CoreTree) → IsTerm b → IsBound table b tree → HasTree table tree
term_tree table (Term t) tree h k = (t, k)
term_tree table (Field r t) tree h k = absurd h
term_tree table Absent tree h k = absurd h

pub tested_is : (d : Declarations) (earlier : List CtorId) (p : Pattern) (last : Bool) (c : CtorId) → tested_by d earlier p last ≡ Some c → p ≡ Ctor c
tested_is d earlier Any last c e = absurd (none-some c e)
tested_is d earlier (Ctor k) last c e = ap Ctor (test_some (surely_fits d earlier k || last) k c e).1

-- ---- what its variables stand for

-- a field that is bound to a term is there
field_there : (b : Bound) (s : SelId) → IsTerm b → IsThere (bound_field b s)
field_there (Term t) s h = tt
field_there (Field r t) s h = absurd h
field_there Absent s h = absurd h

term_there : (b : Bound) → IsTerm b → IsThere b
term_there (Term t) h = tt
term_there (Field r t) h = absurd h
term_there Absent h = absurd h

field_bound : (table : Terms) (b : Bound) (tree : CoreTree) (s : SelId) → IsBound table b tree → IsBound table (bound_field b s) (sel s tree)
field_bound table (Term t) tree s h = (h.0, ap (sel s) h.1)
field_bound table (Field r t) tree s h = tt
field_bound table Absent tree s h = tt

fields_bound : (table : Terms) (b : Bound) (tree : CoreTree) → IsBound table b tree → (sels : List SelId) → AllZip (IsBound table) (map (bound_field b) sels) (map (λ s. sel s tree) sels)
fields_bound table b tree h [] = tt
fields_bound table b tree h (s ∷ sels) = (field_bound table b tree s h, fields_bound table b tree h sels)

pattern_bound : (d : Declarations) (table : Terms) (b : Bound) (tree : CoreTree) (p : Pattern) → IsBound table b tree → AllZip (IsBound table) (bound_by d p b) (trees_by d p tree)
pattern_bound d table b tree Any h = (h, tt)
pattern_bound d table b tree (Ctor c) h = fields_bound table b tree h (sels_of d c)

pattern_fits : (theorems : Theorems) (d : Declarations) (tree : CoreTree) (side : SortId) (p : Pattern) (sorts : List SortId) → IsConsistent d → BindsSorts d side p sorts → HasTreeSort d tree side → AllZip (HasTreeSort d) (trees_by d p tree) sorts
pattern_fits theorems d tree side Any sorts consistent binds h = subst (λ (ss : List SortId). AllZip (HasTreeSort d) (tree ∷ []) ss) (sym binds) (h, tt)
pattern_fits theorems d tree side (Ctor c) sorts consistent binds h = theorems.fields d c binds.0 tree sorts consistent binds.1 (subst (HasTreeSort d tree) (sym binds.2) h) binds.3

-- a test that holds below a bound
below_any : (q : ℕ → Bool) (n j : ℕ) → j < n → q j ≡ true → any_below q n ≡ true
below_any q zero j less e = absurd (omega (arith, less))
below_any q (suc n) j less e = by (cases_lt j n) (λ below. below_any q n j below e)
  where
    by : (j < n) ⊎ (n ≤ j) → (j < n → any_below q n ≡ true) → any_below q (suc n) ≡ true
    by (inl below) rest = or_right (q n) (any_below q n) (rest below)
    by (inr over) rest = or_left (q n) (any_below q n) (ap q (omega (arith, less, over)) ∙ e)

map_length : {X Y : Type 0} (f : X → Y) (xs : List X) → length (map f xs) ≡ length xs
map_length f [] = refl
map_length f (x ∷ xs) = ap suc (map_length f xs)

fields_there : (q : ℕ → Bool) (b : Bound) (sels : List SelId) → ((j : ℕ) → j < length sels → q j ≡ true → IsTerm b) → AllZip (λ f x. f ≡ true → IsThere x) (flags_below q (length (map (bound_field b) sels))) (map (bound_field b) sels)
fields_there q b [] h = tt
fields_there q b (s ∷ sels) h = (
  λ e. field_there b s (h (length (map (bound_field b) sels)) (omega (arith, map_length (bound_field b) sels)) e),
  fields_there q b sels (λ j less e. h j (omega (arith, less)) e),
)

module _ (d : Declarations) (uses : DefId → ℕ → Bool) (env : List Bound) (b : Bound) (earlier : List CtorId) (body : Formula) (rest : Cases) where
  -- what occurs in the body is there
  pub body_present : (p : Pattern) → (matched_occurs d uses earlier (with_case p body rest) ≡ true → IsTerm b) → ArePresent (occurs_in_cases d uses earlier (with_case p body rest)) env → ArePresent (occurs d uses body) (bind (bound_by d p b) env)
  body_present Any there present =
      bind_present (occurs d uses body) (b ∷ []) env
      ((λ e. term_there b (there e)), tt)
      (present_less (λ i. occurs d uses body (i + 1)) (λ i. occurs d uses body (suc i)) env (λ i e. ap (occurs d uses body) (omega arith) ∙ e) present)
  body_present (Ctor c) there present =
      bind_present (occurs d uses body) (map (bound_field b) (sels_of d c)) env
      (fields_there (occurs d uses body) b (sels_of d c) (λ j less e. there (or_right (not (surely_fits d earlier c || are_none rest)) (any_below (occurs d uses body) (field_count d c)) (below_any (occurs d uses body) (field_count d c) j less e))))
      (present_less (λ i. occurs d uses body (i + length (map (bound_field b) (sels_of d c)))) (occurs_in_cases d uses earlier (with_case (Ctor c) body rest)) env
      (λ i e. or_left (occurs d uses body (i + field_count d c)) (not (surely_fits d earlier c || are_none rest) && occurs_in_cases d uses (c ∷ earlier) rest i) (ap (λ (m : ℕ). occurs d uses body (i + m)) (sym (map_length (bound_field b) (sels_of d c))) ∙ e)) present)

  -- what occurs in the later cases is there, and what is matched
  pub rest_present : (p : Pattern) (c : CtorId) → tested_by d earlier p (are_none rest) ≡ Some c → ArePresent (occurs_in_cases d uses earlier (with_case p body rest)) env → ArePresent (occurs_in_cases d uses (c ∷ earlier) rest) env
  rest_present Any c e present = absurd (none-some c e)
  rest_present (Ctor k) c e present =
      let both = test_some (surely_fits d earlier k || are_none rest) k c e in
      present_less (occurs_in_cases d uses (c ∷ earlier) rest) (occurs_in_cases d uses earlier (with_case (Ctor k) body rest)) env
      (λ i o. or_right (occurs d uses body (i + field_count d k)) (not (surely_fits d earlier k || are_none rest) && occurs_in_cases d uses (k ∷ earlier) rest i)
      (ap (λ (x : Bool). not x && occurs_in_cases d uses (k ∷ earlier) rest i) both.0 ∙ ap (λ (x : CtorId). occurs_in_cases d uses (x ∷ earlier) rest i) both.1 ∙ o)) present

  pub tested_there : (p : Pattern) (c : CtorId) → tested_by d earlier p (are_none rest) ≡ Some c → (matched_occurs d uses earlier (with_case p body rest) ≡ true → IsTerm b) → IsTerm b
  tested_there Any c e there = absurd (none-some c e)
  tested_there (Ctor k) c e there =
      let both = test_some (surely_fits d earlier k || are_none rest) k c e in
      there (ap (λ (x : Bool). not x || any_below (occurs d uses body) (field_count d k)) both.0)

  pub tested_more : (p : Pattern) (c : CtorId) → tested_by d earlier p (are_none rest) ≡ Some c → HasSomeCase rest
  tested_more Any c e = absurd (none-some c e)
  tested_more (Ctor k) c e = some rest (or_right_false (surely_fits d earlier k) (are_none rest) (test_some (surely_fits d earlier k || are_none rest) k c e).0)
    where
      or_right_false : (x y : Bool) → (x || y) ≡ false → y ≡ false
      or_right_false true y h = absurd (true≢false h)
      or_right_false false y h = h

      some : (cases : Cases) → are_none cases ≡ false → HasSomeCase cases
      some no_cases h = absurd (true≢false h)
      some (with_case q f cases) h = tt

-- ---- tables that grow

pub cases_stay : (d : Declarations) (bodies : List Formula) (old new : Terms) (n : ℕ) (env : List Bound) (matched : Bound) (earlier : List CtorId) (cases : Cases) (tree : CoreTree) (side : SortId) (trees : List CoreTree) (sorts : List SortId) (sort : SortId) → IsPrefix old new → IsSoundTable d new → AreCases d bodies old n env matched earlier cases tree side trees sorts sort → AreCases d bodies new n env matched earlier cases tree side trees sorts sort
cases_stay d bodies old new n env matched earlier cases tree side trees sorts sort grown kept h = record {
  setting = setting_stays d bodies old new env trees sorts grown kept h.setting;
  mentions = h.mentions;
  sorted = h.sorted;
  some = h.some;
  bound = bound_stays d old new matched tree grown kept h.bound;
  fits = h.fits;
  there = h.there;
  present = h.present;
}

-- nothing done, out of memory
pub cases_nothing : (d : Declarations) (bodies : List Formula) (n : ℕ) (table : Terms) (env : List Bound) (matched : Bound) (earlier : List CtorId) (cases : Cases) (e : TermError) → e ≡ NoMemory → CompilesCases d bodies n table table env matched earlier cases (Err e)
cases_nothing d bodies n table env matched earlier cases e is = record {
  core = λ tree side trees sorts sort h. tt;
  effect = λ tree side trees sorts sort allowed h w. effect_none d allowed table (IsErrOf (Err e) Full) h.setting.kept (λ x. cc);
  order = λ tree side trees sorts sort h. tt;
}

-- the constructor of a pattern is declared
pattern_declared : (d : Declarations) (side : SortId) (p : Pattern) (sorts : List SortId) → BindsSorts d side p sorts → IsPatternDeclared d p
pattern_declared d side Any sorts binds = tt
pattern_declared d side (Ctor c) sorts binds = (binds.0, binds.1)

test_sorted : (d : Declarations) (side : SortId) (p : Pattern) (c : CtorId) (sorts : List SortId) (tree : CoreTree) → p ≡ Ctor c → BindsSorts d side p sorts → HasTreeSort d tree side → HasTreeSort d (test c tree) bool_sort
test_sorted d side p c sorts tree is binds h =
    let b = subst (λ (q : Pattern). BindsSorts d side q sorts) is binds in
    (b.0, b.1, subst (HasTreeSort d tree) (sym b.2) h, refl)

-- the test and the body of a case are made, and the cases after it may be compiled
pub record IsChosen (d : Declarations) (bodies : List Formula) (n : ℕ) (env : List Bound) (matched : Bound) (earlier : List CtorId) (c : CtorId) (all rest : Cases) (old new : Terms) (a b : TermId) (tree : CoreTree) (side : SortId) (trees : List CoreTree) (sorts : List SortId) (sort : SortId) : Type 0 where
  pub grown : IsPrefix old new
  pub kept : IsSoundTable d new
  pub ready : AreCases d bodies new n env matched (c ∷ earlier) rest tree side trees sorts sort
  pub condition : a.0 < length new
  pub body : b.0 < length new
  pub same : compiled_cases d (compiled_calls d bodies n) trees tree earlier all ≡ choice (term_at new a) (term_at new b) (compiled_cases d (compiled_calls d bodies n) trees tree (c ∷ earlier) rest)
  pub effect : (allowed : List CoreTree) → Within allowed (compiled_cases d (compiled_calls d bodies n) trees tree earlier all) → Effect d allowed old new ⊥
  pub begun : List CoreTree
  pub makes : making_cases d (defined d bodies n) trees tree earlier all ≡ begun ++ (making_cases d (defined d bodies n) trees tree (c ∷ earlier) rest ++ compiled_cases d (compiled_calls d bodies n) trees tree earlier all ∷ [])
  pub order : MakesInOrder old begun new

module _ (d : Declarations) (bodies : List Formula) (n : ℕ) (env : List Bound) (matched : Bound) (earlier : List CtorId) (p : Pattern) (body : Formula) (rest : Cases) where
  abbrev all : Cases
  all = with_case p body rest

  abbrev inner : List Bound
  inner = bind (bound_by d p matched) env

  abbrev whole : CoreTree → List CoreTree → CoreTree
  whole tree trees = compiled_cases d (compiled_calls d bodies n) trees tree earlier all

  abbrev core_body : CoreTree → List CoreTree → CoreTree
  core_body tree trees = compiled d (compiled_calls d bodies n) (bind (trees_by d p tree) trees) body

  body_ready : (table : Terms) (tree : CoreTree) (side : SortId) (trees : List CoreTree) (sorts : List SortId) (sort : SortId) (h : AreCases d bodies table n env matched earlier all tree side trees sorts sort) → IsCompilable d bodies table n inner body (bind (trees_by d p tree) trees) (bind h.sorted.0.0 sorts) sort
  body_ready table tree side trees sorts sort h = record {
    setting = record {
      consistent = h.setting.consistent;
      sound = h.setting.sound;
      kept = h.setting.kept;
      bound = bind_zip (IsBound table) (bound_by d p matched) (trees_by d p tree) env trees (pattern_bound d table matched tree p h.bound) h.setting.bound;
      fitting = bind_zip (HasTreeSort d) (trees_by d p tree) h.sorted.0.0 trees sorts (pattern_fits h.setting.kept.theorems d tree side p h.sorted.0.0 h.setting.consistent h.sorted.0.1 h.fits) h.setting.fitting;
    };
    mentions = h.mentions.0;
    sorted = h.sorted.0.2;
    present = body_present d (uses_below d bodies n) env matched earlier body rest p h.there h.present;
  }

  pub case_declared : (table : Terms) → MayCases d bodies table n env matched earlier all → IsPatternDeclared d p
  case_declared table may = let h = may.5 in pattern_declared d may.1 p h.sorted.0.0 h.sorted.0.1

  pub case_body : (table : Terms) → MayCases d bodies table n env matched earlier all → MayCompile d bodies table n inner body
  case_body table may = let h = may.5 in (bind (trees_by d p may.0) may.2, bind h.sorted.0.0 may.3, may.4, body_ready table may.0 may.1 may.2 may.3 may.4 h)

  -- the case ends the cases
  pub case_ends : tested_by d earlier p (are_none rest) ≡ None → (old new : Terms) (r : Result TermId TermError) → Compiles d bodies n old new inner body r → CompilesCases d bodies n old new env matched earlier all r
  case_ends e old new r one = record {
    core = λ tree side trees sorts sort h.
        IfOk-weaker r _ (λ u. Stands new u (whole tree trees)) (λ u k. stands_as new u _ _ (sym (case_none d (compiled_calls d bodies n) trees tree earlier body rest p e)) k)
        (one.core (bind (trees_by d p tree) trees) (bind h.sorted.0.0 sorts) sort (body_ready old tree side trees sorts sort h));
    effect = λ tree side trees sorts sort allowed h w.
        one.effect (bind (trees_by d p tree) trees) (bind h.sorted.0.0 sorts) sort allowed (body_ready old tree side trees sorts sort h) (subst (Within allowed) (case_none d (compiled_calls d bodies n) trees tree earlier body rest p e) w);
    order = λ tree side trees sorts sort h.
        IfOk-weaker r (λ u. MakesInOrder old (making d (defined d bodies n) (bind (trees_by d p tree) trees) body) new) (λ u. MakesInOrder old (making_cases d (defined d bodies n) trees tree earlier all) new)
        (λ u k. subst (λ (xs : List CoreTree). MakesInOrder old xs new) (sym (making_none d (defined d bodies n) trees tree earlier body rest p e)) k)
        (one.order (bind (trees_by d p tree) trees) (bind h.sorted.0.0 sorts) sort (body_ready old tree side trees sorts sort h));
  }

  -- a call under a case that ends the cases is put off
  pub ends_waits : (rows : Rows) → tested_by d earlier p (are_none rest) ≡ None → (old new : Terms) (s : Stop) → Defers d bodies rows n old new inner body (Err s) → DefersCases d bodies rows n old new env matched earlier all (Err s)
  ends_waits rows e old new s one =
      too_deep_by TermId TermId s _ _ (λ call w tree side trees sorts sort h.
      let part = making d (defined d bodies n) (bind (trees_by d p tree) trees) body in
      waits_under d bodies rows n n old old new (making_cases d (defined d bodies n) trees tree earlier all) [] part [] (λ allowed. Within allowed (core_body tree trees)) (λ allowed. Within allowed (whole tree trees)) call
      (omega arith) refl (making_none d (defined d bodies n) trees tree earlier body rest p e ∙ sym (append-nil part)) (λ allowed inside. subst (Within allowed) (case_none d (compiled_calls d bodies n) trees tree earlier body rest p e) inside)
      (w (bind (trees_by d p tree) trees) (bind h.sorted.0.0 sorts) sort (body_ready old tree side trees sorts sort h))) one

  -- the case has a test
  module _ (c : CtorId) (e : tested_by d earlier p (are_none rest) ≡ Some c) (old : Terms) where
    abbrev core_rest : CoreTree → List CoreTree → CoreTree
    core_rest tree trees = compiled_cases d (compiled_calls d bodies n) trees tree (c ∷ earlier) rest

    whole_is : (tree : CoreTree) (trees : List CoreTree) → whole tree trees ≡ choice (test c tree) (core_body tree trees) (core_rest tree trees)
    whole_is tree trees = case_some d (compiled_calls d bodies n) trees tree earlier body rest p c e

    within : (tree : CoreTree) (trees allowed : List CoreTree) → Within allowed (whole tree trees) → Within allowed (test c tree) × (Within allowed (core_body tree trees) × Within allowed (core_rest tree trees))
    within tree trees allowed w = within_choice allowed (test c tree) (core_body tree trees) (core_rest tree trees) (subst (Within allowed) (whole_is tree trees) w)

    rest_cases : (table : Terms) (tree : CoreTree) (side : SortId) (trees : List CoreTree) (sorts : List SortId) (sort : SortId) → AreCases d bodies table n env matched earlier all tree side trees sorts sort → AreCases d bodies table n env matched (c ∷ earlier) rest tree side trees sorts sort
    rest_cases table tree side trees sorts sort h = record {
      setting = h.setting;
      mentions = h.mentions.1;
      sorted = h.sorted.1;
      some = tested_more d (uses_below d bodies n) env matched earlier body rest p c e;
      bound = h.bound;
      fits = h.fits;
      there = λ o. tested_there d (uses_below d bodies n) env matched earlier body rest p c e h.there;
      present = rest_present d (uses_below d bodies n) env matched earlier body rest p c e h.present;
    }

    pub test_kept : MayCases d bodies old n env matched earlier all → IsSoundTable d old
    test_kept may = may.5.setting.kept

    pub test_there : MayCases d bodies old n env matched earlier all → IsTerm matched
    test_there may = tested_there d (uses_below d bodies n) env matched earlier body rest p c e may.5.there

    test_sort : (table : Terms) (tree : CoreTree) (side : SortId) (trees : List CoreTree) (sorts : List SortId) (sort : SortId) → AreCases d bodies table n env matched earlier all tree side trees sorts sort → HasTreeSort d (test c tree) bool_sort
    test_sort table tree side trees sorts sort h = test_sorted d side p c h.sorted.0.0 tree (tested_is d earlier p (are_none rest) c e) h.sorted.0.1 h.fits

    pub test_bound : MayCases d bodies old n env matched earlier all → (tree : CoreTree) × (sort : SortId) × IsBound old matched tree × HasTreeSort d (test c tree) sort
    test_bound may = (may.0, bool_sort, may.5.bound, test_sort old may.0 may.1 may.2 may.3 may.4 may.5)

    module _ (m1 : Terms) (full : Type 0) (tests : (tree : CoreTree) (allowed : List CoreTree) → IsBound old matched tree → Contains allowed (test c tree) → Effect d allowed old m1 full) where
      test_effect : (tree : CoreTree) (side : SortId) (trees : List CoreTree) (sorts : List SortId) (sort : SortId) (allowed : List CoreTree) → AreCases d bodies old n env matched earlier all tree side trees sorts sort → Within allowed (whole tree trees) → Effect d allowed old m1 full
      test_effect tree side trees sorts sort allowed h w = tests tree allowed h.bound (within_itself h.setting.kept.theorems allowed (test c tree) (within tree trees allowed w).0)

      pub test_failed : (x : TermError) → (IsErrOf {T = TermId} {E = TermError} (Err x) Full → full) → CompilesCases d bodies n old m1 env matched earlier all (Err x)
      test_failed x why = record {
        core = λ tree side trees sorts sort h. tt;
        effect = λ tree side trees sorts sort allowed h w. effect_because d allowed old m1 full _ why (test_effect tree side trees sorts sort allowed h w);
        order = λ tree side trees sorts sort h. tt;
      }

      grown_1 : (tree : CoreTree) (side : SortId) (trees : List CoreTree) (sorts : List SortId) (sort : SortId) → AreCases d bodies old n env matched earlier all tree side trees sorts sort → IsPrefix old m1 × IsSoundTable d m1
      grown_1 tree side trees sorts sort h = let k = test_effect tree side trees sorts sort (subtrees (whole tree trees)) h (within_subtrees (whole tree trees)) in (k.grown, k.kept)

      cases_1 : (tree : CoreTree) (side : SortId) (trees : List CoreTree) (sorts : List SortId) (sort : SortId) → AreCases d bodies old n env matched earlier all tree side trees sorts sort → AreCases d bodies m1 n env matched earlier all tree side trees sorts sort
      cases_1 tree side trees sorts sort h = let g = grown_1 tree side trees sorts sort h in cases_stay d bodies old m1 n env matched earlier all tree side trees sorts sort g.0 g.1 h

      pub test_grown : MayCases d bodies old n env matched earlier all → IsPrefix old m1 × IsSoundTable d m1
      test_grown may = grown_1 may.0 may.1 may.2 may.3 may.4 may.5

      -- the test is made
      test_made : (a : TermId) → ((tree : CoreTree) → IsBound old matched tree → Stands m1 a (test c tree)) → (tree : CoreTree) (side : SortId) (trees : List CoreTree) (sorts : List SortId) (sort : SortId) → AreCases d bodies old n env matched earlier all tree side trees sorts sort → MakesInOrder old (test c tree ∷ []) m1
      test_made a made tree side trees sorts sort h =
          makes_one d old m1 (test c tree) full (tests tree (subtrees (test c tree)) h.bound (within_itself h.setting.kept.theorems (subtrees (test c tree)) (test c tree) (within_subtrees (test c tree))))
          (term_tree old matched tree (tested_there d (uses_below d bodies n) env matched earlier body rest p c e h.there) h.bound, tt) (a, made tree h.bound)

      -- a call under the body is put off
      pub first_waits : (rows : Rows) (a : TermId) → ((tree : CoreTree) → IsBound old matched tree → Stands m1 a (test c tree)) → (m2 : Terms) (s : Stop) → Defers d bodies rows n m1 m2 inner body (Err s) → DefersCases d bodies rows n old m2 env matched earlier all (Err s)
      first_waits rows a made m2 s first =
          too_deep_by TermId TermId s _ _ (λ call w tree side trees sorts sort h.
          let k = cases_1 tree side trees sorts sort h in
          let part = making d (defined d bodies n) (bind (trees_by d p tree) trees) body in
          waits_under d bodies rows n n old m1 m2 (making_cases d (defined d bodies n) trees tree earlier all) (test c tree ∷ []) part (making_cases d (defined d bodies n) trees tree (c ∷ earlier) rest ++ whole tree trees ∷ []) (λ allowed. Within allowed (core_body tree trees)) (λ allowed. Within allowed (whole tree trees)) call
          (omega arith) (test_made a made tree side trees sorts sort h) (making_some d (defined d bodies n) trees tree earlier body rest p c e) (λ allowed inside. (within tree trees allowed inside).1.0)
          (w (bind (trees_by d p tree) trees) (bind k.sorted.0.0 sorts) sort (body_ready m1 tree side trees sorts sort k))) first

      pub first_may : MayCases d bodies old n env matched earlier all → MayCompile d bodies m1 n inner body
      first_may may = case_body m1 (may.0, may.1, may.2, may.3, may.4, cases_1 may.0 may.1 may.2 may.3 may.4 may.5)

      module _ (m2 : Terms) (r : Result TermId TermError) (first : Compiles d bodies n m1 m2 inner body r) where
        first_effect : (tree : CoreTree) (side : SortId) (trees : List CoreTree) (sorts : List SortId) (sort : SortId) (allowed : List CoreTree) → AreCases d bodies old n env matched earlier all tree side trees sorts sort → Within allowed (whole tree trees) → Effect d allowed old m2 (IsErrOf r Full)
        first_effect tree side trees sorts sort allowed h w =
            let k = cases_1 tree side trees sorts sort h in
            effect_then d allowed old m1 m2 full _ (test_effect tree side trees sorts sort allowed h w)
            (first.effect (bind (trees_by d p tree) trees) (bind k.sorted.0.0 sorts) sort allowed (body_ready m1 tree side trees sorts sort k) (within tree trees allowed w).1.0)

        -- it fails, or there is no memory after it
        pub first_failed : (x : TermError) → (IsErrOf {T = TermId} {E = TermError} (Err x) Full → IsErrOf r Full) → CompilesCases d bodies n old m2 env matched earlier all (Err x)
        first_failed x why = record {
          core = λ tree side trees sorts sort h. tt;
          effect = λ tree side trees sorts sort allowed h w. effect_because d allowed old m2 _ _ why (first_effect tree side trees sorts sort allowed h w);
          order = λ tree side trees sorts sort h. tt;
        }

        grown_2 : (tree : CoreTree) (side : SortId) (trees : List CoreTree) (sorts : List SortId) (sort : SortId) → AreCases d bodies old n env matched earlier all tree side trees sorts sort → IsPrefix m1 m2 × IsSoundTable d m2
        grown_2 tree side trees sorts sort h =
            let k = cases_1 tree side trees sorts sort h in
            let f = first.effect (bind (trees_by d p tree) trees) (bind k.sorted.0.0 sorts) sort (subtrees (core_body tree trees)) (body_ready m1 tree side trees sorts sort k) (within_subtrees (core_body tree trees)) in
            (f.grown, f.kept)

        cases_2 : (tree : CoreTree) (side : SortId) (trees : List CoreTree) (sorts : List SortId) (sort : SortId) → AreCases d bodies old n env matched earlier all tree side trees sorts sort → AreCases d bodies m2 n env matched (c ∷ earlier) rest tree side trees sorts sort
        cases_2 tree side trees sorts sort h =
            let g = grown_2 tree side trees sorts sort h in
            rest_cases m2 tree side trees sorts sort (cases_stay d bodies m1 m2 n env matched earlier all tree side trees sorts sort g.0 g.1 (cases_1 tree side trees sorts sort h))

        -- both are made
        pub case_chosen : (a b : TermId) → ((tree : CoreTree) → IsBound old matched tree → Stands m1 a (test c tree)) → r ≡ Ok b → (tree : CoreTree) (side : SortId) (trees : List CoreTree) (sorts : List SortId) (sort : SortId) → AreCases d bodies old n env matched earlier all tree side trees sorts sort → IsChosen d bodies n env matched earlier c all rest old m2 a b tree side trees sorts sort
        case_chosen a b made is_first tree side trees sorts sort h =
            let k = cases_1 tree side trees sorts sort h in
            let f = first.effect (bind (trees_by d p tree) trees) (bind k.sorted.0.0 sorts) sort (subtrees (core_body tree trees)) (body_ready m1 tree side trees sorts sort k) (within_subtrees (core_body tree trees)) in
            let g = grown_1 tree side trees sorts sort h in
            let one : Stands m2 a (test c tree) = stands_stays d m1 m2 a (test c tree) f.grown f.kept (made tree h.bound) in
            let two : Stands m2 b (core_body tree trees) = subst (λ (z : Result TermId TermError). IfOk z (λ x. Stands m2 x (core_body tree trees))) is_first (first.core (bind (trees_by d p tree) trees) (bind k.sorted.0.0 sorts) sort (body_ready m1 tree side trees sorts sort k)) in
            record {
              grown = prefix_trans old m1 m2 g.0 f.grown;
              kept = f.kept;
              ready = cases_2 tree side trees sorts sort h;
              condition = one.0;
              body = two.0;
              same = whole_is tree trees ∙ ap₂ (λ (x y : CoreTree). choice x y (core_rest tree trees)) (sym one.1) (sym two.1);
              effect = λ allowed w. effect_because d allowed old m2 _ ⊥ (λ x. absurd x) (first_effect tree side trees sorts sort allowed h w);
              begun = test c tree ∷ making d (defined d bodies n) (bind (trees_by d p tree) trees) body;
              makes = making_some d (defined d bodies n) trees tree earlier body rest p c e;
              order =
                  makes_then (test c tree ∷ []) (making d (defined d bodies n) (bind (trees_by d p tree) trees) body) old m1 m2
                  (test_made a made tree side trees sorts sort h)
                  (subst (λ (z : Result TermId TermError). IfOk z (λ x. MakesInOrder m1 (making d (defined d bodies n) (bind (trees_by d p tree) trees) body) m2)) is_first (first.order (bind (trees_by d p tree) trees) (bind k.sorted.0.0 sorts) sort (body_ready m1 tree side trees sorts sort k)));
            }

      -- the body stops
      pub first_stopped : (m2 : Terms) (s : Stop) → Compiles d bodies n m1 m2 inner body (ended (Err s)) → CompilesCases d bodies n old m2 env matched earlier all (ended (Err s))
      first_stopped m2 s first = ended_by s (λ r. Compiles d bodies n m1 m2 inner body r) (λ r. CompilesCases d bodies n old m2 env matched earlier all r) (λ e k. first_failed m2 (Err e) k e (λ x. x)) first

-- the core term of cases has the sort of the `match`
pub cases_sorted : (d : Declarations) (bodies : List Formula) (table : Terms) (n : ℕ) (env : List Bound) (matched : Bound) (cases : Cases) (earlier : List CtorId) (tree : CoreTree) (side : SortId) (trees : List CoreTree) (sorts : List SortId) (sort : SortId) → AreCases d bodies table n env matched earlier cases tree side trees sorts sort → HasTreeSort d (compiled_cases d (compiled_calls d bodies n) trees tree earlier cases) sort
cases_sorted d bodies table n env matched no_cases earlier tree side trees sorts sort h = absurd h.some
cases_sorted d bodies table n env matched (with_case p body rest) earlier tree side trees sorts sort h =
    by (tested_by d earlier p (are_none rest)) refl (λ c e. cases_sorted d bodies table n env matched rest (c ∷ earlier) tree side trees sorts sort (rest_cases d bodies n env matched earlier p body rest c e table table tree side trees sorts sort h))
  where
    body_sort : HasTreeSort d (compiled d (compiled_calls d bodies n) (bind (trees_by d p tree) trees) body) sort
    body_sort =
        let k = body_ready d bodies n env matched earlier p body rest table tree side trees sorts sort h in
        let s = k.setting in
        s.kept.theorems.compiled_sorted d n (compiled_calls d bodies n) (bind (trees_by d p tree) trees) (bind h.sorted.0.0 sorts) body sort s.consistent (s.kept.theorems.calls_sorted d bodies n s.consistent s.sound) s.fitting k.mentions k.sorted

    by : (o : Option CtorId) → tested_by d earlier p (are_none rest) ≡ o → ((c : CtorId) → tested_by d earlier p (are_none rest) ≡ Some c → HasTreeSort d (compiled_cases d (compiled_calls d bodies n) trees tree (c ∷ earlier) rest) sort) → HasTreeSort d (compiled_cases d (compiled_calls d bodies n) trees tree earlier (with_case p body rest)) sort
    by None e later = subst (λ (x : CoreTree). HasTreeSort d x sort) (sym (case_none d (compiled_calls d bodies n) trees tree earlier body rest p e)) body_sort
    by (Some c) e later =
        subst (λ (x : CoreTree). HasTreeSort d x sort) (sym (case_some d (compiled_calls d bodies n) trees tree earlier body rest p c e))
        (test_sorted d side p c h.sorted.0.0 tree (tested_is d earlier p (are_none rest) c e) h.sorted.0.1 h.fits, body_sort, later c e)

-- ---- the matched term

-- the field of an index that occurs
sel_there : (q : ℕ → Bool) (t : CoreTree) (sels : List SelId) (env : List CoreTree) → any_below q (length sels) ≡ true → (j : ℕ) × (s : SelId) × (q j ≡ true) × (slice_get (bind (map (λ s. sel s t) sels) env) j ≡ Some (sel s t))
sel_there q t [] env h = absurd (true≢false (sym h))
sel_there q t (s ∷ sels) env h = by (q (length sels)) refl (λ k. sel_there q t sels (sel s t ∷ env) k)
  where
    by : (b : Bool) → q (length sels) ≡ b → (any_below q (length sels) ≡ true → (j : ℕ) × (r : SelId) × (q j ≡ true) × (slice_get (bind (map (λ s. sel s t) sels) (sel s t ∷ env)) j ≡ Some (sel r t))) → (j : ℕ) × (r : SelId) × (q j ≡ true) × (slice_get (bind (map (λ s. sel s t) sels) (sel s t ∷ env)) j ≡ Some (sel r t))
    by true e rest = (length sels, s, e, ap (slice_get (bind (map (λ s. sel s t) sels) (sel s t ∷ env))) (sym (map_length (λ s. sel s t) sels)) ∙ bind_first (sel s t) (map (λ s. sel s t) sels) env)
    by false e rest = rest (sym (ap (λ (b : Bool). b || any_below q (length sels)) e) ∙ h)

-- where it occurs in the cases it is a subterm of their core term
pub matched_under : (theorems : Theorems) (d : Declarations) (uses : DefId → ℕ → Bool) (call : DefId → List CoreTree → CoreTree) (env : List CoreTree) (sorts : List SortId) (side sort : SortId) (t : CoreTree) (earlier : List CtorId) (cases : Cases) → GiveUsed uses call → AreSortedCases d sorts side cases sort → matched_occurs d uses earlier cases ≡ true → Contains (subtrees (compiled_cases d call env t earlier cases)) t
matched_under theorems d uses call env sorts side sort t earlier no_cases give h o = absurd (true≢false (sym o))
matched_under theorems d uses call env sorts side sort t earlier (with_case Any body rest) give h o =
    theorems.occurring_subterm d uses call (t ∷ env) (bind h.0.0 sorts) body sort 0 t give h.0.2 o refl
matched_under theorems d uses call env sorts side sort t earlier (with_case (Ctor c) body rest) give h o = by (surely_fits d earlier c || are_none rest) refl
  where
    by : (x : Bool) → (surely_fits d earlier c || are_none rest) ≡ x → Contains (subtrees (if surely_fits d earlier c || are_none rest then (compiled d call (bind (fields_of d c t) env) body) else choice (test c t) (compiled d call (bind (fields_of d c t) env) body) (compiled_cases d call env t (c ∷ earlier) rest))) t
    by true e =
        let f = sel_there (occurs d uses body) t (sels_of d c) env (sym (ap (λ (x : Bool). not x || any_below (occurs d uses body) (field_count d c)) e) ∙ o) in
        let inside : Contains (subtrees (compiled d call (bind (fields_of d c t) env) body)) (sel f.1 t) = theorems.occurring_subterm d uses call (bind (fields_of d c t) env) (bind h.0.0 sorts) body sort f.0 (sel f.1 t) give h.0.2 f.2 f.3 in
        subst (λ (x : Bool). Contains (subtrees (if x then (compiled d call (bind (fields_of d c t) env) body) else choice (test c t) (compiled d call (bind (fields_of d c t) env) body) (compiled_cases d call env t (c ∷ earlier) rest))) t) (sym e)
        (theorems.subterms_of_subterms (compiled d call (bind (fields_of d c t) env) body) (sel f.1 t) t inside (Contains-rest (sel f.1 t) (subtrees t) t (within_itself theorems (subtrees t) t (within_subtrees t))))
    by false e =
        let whole = choice (test c t) (compiled d call (bind (fields_of d c t) env) body) (compiled_cases d call env t (c ∷ earlier) rest) in
        subst (λ (x : Bool). Contains (subtrees (if x then (compiled d call (bind (fields_of d c t) env) body) else choice (test c t) (compiled d call (bind (fields_of d c t) env) body) (compiled_cases d call env t (c ∷ earlier) rest))) t) (sym e)
        (within_itself theorems (subtrees whole) t (within_test (subtrees whole) c t (within_choice (subtrees whole) (test c t) (compiled d call (bind (fields_of d c t) env) body) (compiled_cases d call env t (c ∷ earlier) rest) (within_subtrees whole)).0))
