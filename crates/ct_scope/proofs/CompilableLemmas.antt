-- What is ready to be compiled: the formulas under a formula, and all of it in a table that has grown.
use Rattle.std.proofs.Common.{◌≡◌, ℕ, Bool, true, false, ◌||◌, List, [], ◌∷◌, refl, sym, ap, ◌∙◌, arith, true≢false}
use Rattle.std.specs.List.{AllZip}
use Rattle.ct_lemmas.proofs.Booleans.{or_left, or_right}
use Rattle.ct_sorts.specs.declared.ids.SortId.{SortId}
use Rattle.ct_sorts.specs.Declarations.{Declarations, bool_sort}
use Rattle.ct_terms.specs.Terms.{Terms}
use Rattle.ct_terms.specs.CoreTree.{CoreTree, sel}
use Rattle.ct_formulas.specs.Formula.{Formula, Formulas, Var, Con, Sel, Test, Apply, Def, Not, And, Or, Xor, Implies, Equal, Distinct, Ite, Let, Match, Quantified, no_formulas, with_formula, MentionsBelow, AllMentionBelow}
use Rattle.ct_formulas.specs.FormulaSorts.{IsSorted, AllSorted, AreOfSort}
use Rattle.ct_formulas.specs.Compiled.{compiled, compiled_all}
use Rattle.ct_formulas.specs.Occurrence.{occurs, occurs_in_some, uses_below}
use Rattle.ct_scope.specs.declared.bound.Bound.{Bound}
use Rattle.ct_scope.specs.declared.bound.Bound.TheVariants.{Term, Field, Absent}
use Rattle.ct_operators.specs.Effect.{IsSoundTable, IsPrefix}
use Rattle.ct_occurrence.specs.Plain.{is_plain, formulas_under}
use Rattle.ct_operators.specs.Forms.{operator_for, combined}
use Rattle.ct_scope.specs.Compilable.{compiled_calls, IsBound, ArePresent, IsSetting, IsCompilable, AreCompilable}
use Rattle.ct_operators.proofs.EffectLemmas.{prefix_length, same_tree, stands_stays}

-- ---- tables that grow

pub bound_stays : (d : Declarations) (old new : Terms) (b : Bound) (tree : CoreTree) → IsPrefix old new → IsSoundTable d new → IsBound old b tree → IsBound new b tree
bound_stays d old new (Term t) tree grown kept h = stands_stays d old new t tree grown kept h
bound_stays d old new (Field s t) tree grown kept h = (omega (arith, h.0, prefix_length old new grown), ap (sel s) (same_tree d old new t grown kept h.0) ∙ h.1)
bound_stays d old new Absent tree grown kept h = tt

pub bounds_stay : (d : Declarations) (old new : Terms) (bs : List Bound) (trees : List CoreTree) → IsPrefix old new → IsSoundTable d new → AllZip (IsBound old) bs trees → AllZip (IsBound new) bs trees
bounds_stay d old new [] [] grown kept h = h
bounds_stay d old new [] (u ∷ us) grown kept h = h
bounds_stay d old new (b ∷ bs) [] grown kept h = h
bounds_stay d old new (b ∷ bs) (u ∷ us) grown kept h = (bound_stays d old new b u grown kept h.0, bounds_stay d old new bs us grown kept h.1)

pub setting_stays : (d : Declarations) (bodies : List Formula) (old new : Terms) (env : List Bound) (trees : List CoreTree) (sorts : List SortId) → IsPrefix old new → IsSoundTable d new → IsSetting d bodies old env trees sorts → IsSetting d bodies new env trees sorts
setting_stays d bodies old new env trees sorts grown kept h = record {
  consistent = h.consistent;
  sound = h.sound;
  kept = kept;
  bound = bounds_stay d old new env trees grown kept h.bound;
  fitting = h.fitting;
}

pub ready_stays : (d : Declarations) (bodies : List Formula) (old new : Terms) (n : ℕ) (env : List Bound) (t : Formula) (trees : List CoreTree) (sorts : List SortId) (sort : SortId) → IsPrefix old new → IsSoundTable d new → IsCompilable d bodies old n env t trees sorts sort → IsCompilable d bodies new n env t trees sorts sort
ready_stays d bodies old new n env t trees sorts sort grown kept h = record {
  setting = setting_stays d bodies old new env trees sorts grown kept h.setting;
  mentions = h.mentions;
  sorted = h.sorted;
  present = h.present;
}

pub all_ready_stay : (d : Declarations) (bodies : List Formula) (old new : Terms) (n : ℕ) (env : List Bound) (ts : Formulas) (trees : List CoreTree) (sorts each : List SortId) → IsPrefix old new → IsSoundTable d new → AreCompilable d bodies old n env ts trees sorts each → AreCompilable d bodies new n env ts trees sorts each
all_ready_stay d bodies old new n env ts trees sorts each grown kept h = record {
  setting = setting_stays d bodies old new env trees sorts grown kept h.setting;
  mentions = h.mentions;
  sorted = h.sorted;
  present = h.present;
}

-- ---- variables of a part

pub present_less : (p q : ℕ → Bool) (env : List Bound) → ((i : ℕ) → p i ≡ true → q i ≡ true) → ArePresent q env → ArePresent p env
present_less p q env less h i b e at = h i b (less i e) at

-- ---- several formulas

pub each_sorted : (d : Declarations) (env : List SortId) (ts : Formulas) (side : SortId) → AreOfSort d env ts side → (each : List SortId) × AllSorted d env ts each
each_sorted d env no_formulas side h = ([], tt)
each_sorted d env (with_formula t ts) side h = let rest = each_sorted d env ts side h.1 in (side ∷ rest.0, (h.0, rest.1))

module _ (d : Declarations) (bodies : List Formula) (table : Terms) (n : ℕ) (env : List Bound) (trees : List CoreTree) (sorts : List SortId) where
  -- the first of several, and the rest
  pub first_ready : (t : Formula) (ts : Formulas) (s : SortId) (each : List SortId) → AreCompilable d bodies table n env (with_formula t ts) trees sorts (s ∷ each) → IsCompilable d bodies table n env t trees sorts s
  first_ready t ts s each h = record {
    setting = h.setting;
    mentions = h.mentions.0;
    sorted = h.sorted.0;
    present = present_less _ _ env (λ i e. or_left (occurs d (uses_below d bodies n) t i) (occurs_in_some d (uses_below d bodies n) ts i) e) h.present;
  }

  pub rest_ready : (t : Formula) (ts : Formulas) (s : SortId) (each : List SortId) → AreCompilable d bodies table n env (with_formula t ts) trees sorts (s ∷ each) → AreCompilable d bodies table n env ts trees sorts each
  rest_ready t ts s each h = record {
    setting = h.setting;
    mentions = h.mentions.1;
    sorted = h.sorted.1;
    present = present_less _ _ env (λ i e. or_right (occurs d (uses_below d bodies n) t i) (occurs_in_some d (uses_below d bodies n) ts i) e) h.present;
  }

  -- the formulas under an operator
  pub plain_sorted : (t : Formula) (sort : SortId) → is_plain t ≡ true → IsSorted d sorts t sort → (each : List SortId) × AllSorted d sorts (formulas_under t) each
  plain_sorted (Con c ts) sort plain h = (h.1, h.4)
  plain_sorted (Sel s t) sort plain h = (h.1.sort ∷ [], (h.4, tt))
  plain_sorted (Test c t) sort plain h = (h.0.sort ∷ [], (h.2, tt))
  plain_sorted (Apply f ts) sort plain h = (h.0.args, h.2)
  plain_sorted (Not t) sort plain h = (bool_sort ∷ [], (h.0, tt))
  plain_sorted (And ts) sort plain h = each_sorted d sorts ts bool_sort h.1
  plain_sorted (Or ts) sort plain h = each_sorted d sorts ts bool_sort h.1
  plain_sorted (Xor ts) sort plain h = each_sorted d sorts ts bool_sort h.1
  plain_sorted (Implies ts) sort plain h = each_sorted d sorts ts bool_sort h.1
  plain_sorted (Equal ts) sort plain h = each_sorted d sorts ts h.0 h.2
  plain_sorted (Distinct ts) sort plain h = each_sorted d sorts ts h.0 h.2
  plain_sorted (Var i) sort plain h = absurd (true≢false (sym plain))
  plain_sorted (Def k ts) sort plain h = absurd (true≢false (sym plain))
  plain_sorted (Ite c t u) sort plain h = absurd (true≢false (sym plain))
  plain_sorted (Let ts u) sort plain h = absurd (true≢false (sym plain))
  plain_sorted (Match t cases) sort plain h = absurd (true≢false (sym plain))
  plain_sorted (Quantified q bound t) sort plain h = absurd (true≢false (sym plain))

  pub plain_mentions : (t : Formula) → is_plain t ≡ true → MentionsBelow n t → AllMentionBelow n (formulas_under t)
  plain_mentions (Con c ts) plain h = h
  plain_mentions (Sel s t) plain h = (h, tt)
  plain_mentions (Test c t) plain h = (h, tt)
  plain_mentions (Apply f ts) plain h = h
  plain_mentions (Not t) plain h = (h, tt)
  plain_mentions (And ts) plain h = h
  plain_mentions (Or ts) plain h = h
  plain_mentions (Xor ts) plain h = h
  plain_mentions (Implies ts) plain h = h
  plain_mentions (Equal ts) plain h = h
  plain_mentions (Distinct ts) plain h = h
  plain_mentions (Var i) plain h = absurd (true≢false (sym plain))
  plain_mentions (Def k ts) plain h = absurd (true≢false (sym plain))
  plain_mentions (Ite c t u) plain h = absurd (true≢false (sym plain))
  plain_mentions (Let ts u) plain h = absurd (true≢false (sym plain))
  plain_mentions (Match t cases) plain h = absurd (true≢false (sym plain))
  plain_mentions (Quantified q bound t) plain h = absurd (true≢false (sym plain))

  or_none : (b : Bool) → (b || false) ≡ true → b ≡ true
  or_none true h = refl
  or_none false h = h

  plain_occurs : (t : Formula) → is_plain t ≡ true → (i : ℕ) → occurs_in_some d (uses_below d bodies n) (formulas_under t) i ≡ true → occurs d (uses_below d bodies n) t i ≡ true
  plain_occurs (Con c ts) plain i h = h
  plain_occurs (Sel s t) plain i h = or_none (occurs d (uses_below d bodies n) t i) h
  plain_occurs (Test c t) plain i h = or_none (occurs d (uses_below d bodies n) t i) h
  plain_occurs (Apply f ts) plain i h = h
  plain_occurs (Not t) plain i h = or_none (occurs d (uses_below d bodies n) t i) h
  plain_occurs (And ts) plain i h = h
  plain_occurs (Or ts) plain i h = h
  plain_occurs (Xor ts) plain i h = h
  plain_occurs (Implies ts) plain i h = h
  plain_occurs (Equal ts) plain i h = h
  plain_occurs (Distinct ts) plain i h = h
  plain_occurs (Var k) plain i h = absurd (true≢false (sym plain))
  plain_occurs (Def k ts) plain i h = absurd (true≢false (sym plain))
  plain_occurs (Ite c t u) plain i h = absurd (true≢false (sym plain))
  plain_occurs (Let ts u) plain i h = absurd (true≢false (sym plain))
  plain_occurs (Match t cases) plain i h = absurd (true≢false (sym plain))
  plain_occurs (Quantified q bound t) plain i h = absurd (true≢false (sym plain))

  pub children_ready : (t : Formula) (sort : SortId) → is_plain t ≡ true → IsCompilable d bodies table n env t trees sorts sort → (each : List SortId) × AreCompilable d bodies table n env (formulas_under t) trees sorts each
  children_ready t sort plain h =
      let each = plain_sorted t sort plain h.sorted in (
        each.0,
        record {
          setting = h.setting;
          mentions = plain_mentions t plain h.mentions;
          sorted = each.1;
          present = present_less _ _ env (plain_occurs t plain) h.present;
        },
      )

-- the core term of an operator, over those of the formulas under it
pub compiled_plain : (d : Declarations) (bodies : List Formula) (n : ℕ) (trees : List CoreTree) (t : Formula) → is_plain t ≡ true → compiled d (compiled_calls d bodies n) trees t ≡ combined d (operator_for t) (compiled_all d (compiled_calls d bodies n) trees (formulas_under t))
compiled_plain d bodies n trees (Con c ts) plain = refl
compiled_plain d bodies n trees (Sel s t) plain = refl
compiled_plain d bodies n trees (Test c t) plain = refl
compiled_plain d bodies n trees (Apply f ts) plain = refl
compiled_plain d bodies n trees (Not t) plain = refl
compiled_plain d bodies n trees (And ts) plain = refl
compiled_plain d bodies n trees (Or ts) plain = refl
compiled_plain d bodies n trees (Xor ts) plain = refl
compiled_plain d bodies n trees (Implies ts) plain = refl
compiled_plain d bodies n trees (Equal ts) plain = refl
compiled_plain d bodies n trees (Distinct ts) plain = refl
compiled_plain d bodies n trees (Var k) plain = absurd (true≢false (sym plain))
compiled_plain d bodies n trees (Def k ts) plain = absurd (true≢false (sym plain))
compiled_plain d bodies n trees (Ite c t u) plain = absurd (true≢false (sym plain))
compiled_plain d bodies n trees (Let ts u) plain = absurd (true≢false (sym plain))
compiled_plain d bodies n trees (Match t cases) plain = absurd (true≢false (sym plain))
compiled_plain d bodies n trees (Quantified q bound t) plain = absurd (true≢false (sym plain))
