-- A formula keeps its sort where more is declared, and definitions stay sound; so they do with one more, and cut back.
use Rattle.std.proofs.Common.{◌≡◌, ◌⊎◌, ℕ, zero, suc, ◌+◌, ◌<◌, ◌≤◌, List, [], ◌∷◌, ◌++◌, length, take, Some, slice_get, refl, sym, ap, subst, ◌∙◌, inl, inr, arith, length-append}
use Rattle.std.proofs.lemmas.Option.{same_Some, slice_get_within}
use Rattle.ct_lemmas.proofs.Lists.{slice_get-append_left, slice_get-push_cases}
use Rattle.ct_lemmas.proofs.Prefixes.{slice_get-take, slice_get-take_below, take-slice_get}
use Rattle.ct_sorts.specs.declared.ids.SelId.{SelId}
use Rattle.ct_sorts.specs.declared.ids.SortId.{SortId}
use Rattle.ct_sorts.specs.Declarations.{Declarations, Sort, Constructor, Selector, Function, bool_sort, with_definition}
use Rattle.ct_sorts.specs.Structure.{HaveOwnConstructors, AreOfTheirSorts}
use Rattle.ct_sorts.specs.Grown.{Extends}
use Rattle.ct_formulas.specs.declared.tree.Pattern.{Pattern}
use Rattle.ct_formulas.specs.declared.tree.Pattern.TheVariants.{Ctor, Any}
use Rattle.ct_terms.specs.CoreSorts.{AreFieldSorts}
use Rattle.ct_formulas.specs.Formula.{Formula, Formulas, Cases, Var, Con, Sel, Test, Apply, Def, Not, And, Or, Xor, Implies, Equal, Distinct, Ite, Let, Match, Quantified, no_formulas, with_formula, no_cases, with_case, bind, MentionsBelow, AllMentionBelow, CasesMentionBelow}
use Rattle.ct_formulas.specs.FormulaSorts.{IsMatchable, BindsSorts, IsExhaustive, IsSorted, AllSorted, AreOfSort, AreSortedCases, AreSound, cut_definitions}
use Rattle.ct_terms.proofs.SortLemmas.{slice_get-longer}
use Rattle.ct_formulas.proofs.QuantifierLemmas.{KeepsLists, quantifiable_kept, keeps_first}
use Rattle.ct_formulas.proofs.FormulaSortLemmas.{sorted_mentions}

-- a formula that names definitions below a number names none at or above a greater one
module _ (m n : ℕ) (up : m ≤ n) where
  mutual
    pub mentions_more : (t : Formula) → MentionsBelow m t → MentionsBelow n t
    mentions_more (Var i) h = h
    mentions_more (Con c ts) h = all_mention_more ts h
    mentions_more (Sel s t) h = mentions_more t h
    mentions_more (Test c t) h = mentions_more t h
    mentions_more (Apply f ts) h = all_mention_more ts h
    mentions_more (Def k ts) h = (omega (arith, up, h.0), all_mention_more ts h.1)
    mentions_more (Not t) h = mentions_more t h
    mentions_more (And ts) h = all_mention_more ts h
    mentions_more (Or ts) h = all_mention_more ts h
    mentions_more (Xor ts) h = all_mention_more ts h
    mentions_more (Implies ts) h = all_mention_more ts h
    mentions_more (Equal ts) h = all_mention_more ts h
    mentions_more (Distinct ts) h = all_mention_more ts h
    mentions_more (Ite c t u) h = (mentions_more c h.0, mentions_more t h.1, mentions_more u h.2)
    mentions_more (Let ts u) h = (all_mention_more ts h.0, mentions_more u h.1)
    mentions_more (Match t cases) h = (mentions_more t h.0, cases_mention_more cases h.1)
    mentions_more (Quantified q sorts t) h = mentions_more t h

    all_mention_more : (ts : Formulas) → AllMentionBelow m ts → AllMentionBelow n ts
    all_mention_more no_formulas h = h
    all_mention_more (with_formula t ts) h = (mentions_more t h.0, all_mention_more ts h.1)

    cases_mention_more : (cases : Cases) → CasesMentionBelow m cases → CasesMentionBelow n cases
    cases_mention_more no_cases h = h
    cases_mention_more (with_case p body cases) h = (mentions_more body h.0, cases_mention_more cases h.1)

-- what is declared in the first is declared in the second, with definitions below the number alone; a sort of the first
-- that may be matched has no more constructors in the second, and listable ones keep their lists
record Carries (from to : Declarations) (n : ℕ) : Type 0 where
  pub sorts : (s : ℕ) (sort : Sort) → slice_get from.sorts s ≡ Some sort → slice_get to.sorts s ≡ Some sort
  pub ctors : (c : ℕ) (ctor : Constructor) → slice_get from.ctors c ≡ Some ctor → slice_get to.ctors c ≡ Some ctor
  pub sels : (s : ℕ) (selector : Selector) → slice_get from.sels s ≡ Some selector → slice_get to.sels s ≡ Some selector
  pub functions : (f : ℕ) (function : Function) → slice_get from.functions f ≡ Some function → slice_get to.functions f ≡ Some function
  pub definitions : (k : ℕ) (definition : Function) → k < n → slice_get from.definitions k ≡ Some definition → slice_get to.definitions k ≡ Some definition
  pub no_more : (side : SortId) (c : ℕ) (ctor : Constructor) → IsMatchable from side → slice_get to.ctors c ≡ Some ctor → ctor.sort ≡ side → slice_get from.ctors c ≡ Some ctor
  pub lists : KeepsLists from to

module _ (from to : Declarations) (n : ℕ) (carries : Carries from to n) where
  fields_carried : (sels : List SelId) (sorts : List SortId) → AreFieldSorts from sels sorts → AreFieldSorts to sels sorts
  fields_carried [] [] h = h
  fields_carried [] (r ∷ sorts) h = h
  fields_carried (s ∷ sels) [] h = h
  fields_carried (s ∷ sels) (r ∷ sorts) h = ((h.0.0, carries.sels s.0 h.0.0 h.0.1, h.0.2), fields_carried sels sorts h.1)

  binds_carried : (side : SortId) (p : Pattern) (sorts : List SortId) → BindsSorts from side p sorts → BindsSorts to side p sorts
  binds_carried side (Ctor c) sorts h = (h.0, carries.ctors c.0 h.0 h.1, h.2, fields_carried h.0.sels sorts h.3)
  binds_carried side Any sorts h = h

  exhaustive_carried : (side : SortId) (cases : Cases) → IsMatchable from side → IsExhaustive from side cases → IsExhaustive to side cases
  exhaustive_carried side cases matchable (inl any) = inl any
  exhaustive_carried side cases matchable (inr each) = inr (λ c ctor declared of. each c ctor (carries.no_more side c.0 ctor matchable declared of) of)

  mutual
    sorted_carried : (t : Formula) (env : List SortId) (sort : SortId) → MentionsBelow n t → IsSorted from env t sort → IsSorted to env t sort
    sorted_carried (Var i) env sort m h = h
    sorted_carried (Con c ts) env sort m h = (h.0, h.1, carries.ctors c.0 h.0 h.2, fields_carried h.0.sels h.1 h.3, all_carried ts env h.1 m h.4, h.5)
    sorted_carried (Sel s t) env sort m h = (h.0, h.1, carries.sels s.0 h.0 h.2, carries.ctors h.0.ctor.0 h.1 h.3, sorted_carried t env h.1.sort m h.4, h.5)
    sorted_carried (Test c t) env sort m h = (h.0, carries.ctors c.0 h.0 h.1, sorted_carried t env h.0.sort m h.2, h.3)
    sorted_carried (Apply f ts) env sort m h = (h.0, carries.functions f.0 h.0 h.1, all_carried ts env h.0.args m h.2, h.3)
    sorted_carried (Def k ts) env sort m h = (h.0, carries.definitions k.0 h.0 m.0 h.1, all_carried ts env h.0.args m.1 h.2, h.3)
    sorted_carried (Not t) env sort m h = (sorted_carried t env bool_sort m h.0, h.1)
    sorted_carried (And ts) env sort m h = (h.0, one_carried ts env bool_sort m h.1, h.2)
    sorted_carried (Or ts) env sort m h = (h.0, one_carried ts env bool_sort m h.1, h.2)
    sorted_carried (Xor ts) env sort m h = (h.0, one_carried ts env bool_sort m h.1, h.2)
    sorted_carried (Implies ts) env sort m h = (h.0, one_carried ts env bool_sort m h.1, h.2)
    sorted_carried (Equal ts) env sort m h = (h.0, h.1, one_carried ts env h.0 m h.2, h.3)
    sorted_carried (Distinct ts) env sort m h = (h.0, h.1, one_carried ts env h.0 m h.2, h.3)
    sorted_carried (Ite c t u) env sort m h = (sorted_carried c env bool_sort m.0 h.0, sorted_carried t env sort m.1 h.1, sorted_carried u env sort m.2 h.2)
    sorted_carried (Let ts u) env sort m h = (h.0, h.1, all_carried ts env h.0 m.0 h.2, sorted_carried u (bind h.0 env) sort m.1 h.3)
    sorted_carried (Match t cases) env sort m h = (
      h.0,
      sorted_carried t env h.0 m.0 h.1,
      (h.2.0, carries.sorts h.0.0 h.2.0 h.2.1, h.2.2),
      h.3,
      cases_carried cases env h.0 sort m.1 h.4,
      exhaustive_carried h.0 cases h.2 h.5,
    )
    sorted_carried (Quantified q sorts t) env sort m h = (quantifiable_kept from to carries.lists sorts h.0, sorted_carried t (bind sorts env) bool_sort m h.1, h.2)

    all_carried : (ts : Formulas) (env sorts : List SortId) → AllMentionBelow n ts → AllSorted from env ts sorts → AllSorted to env ts sorts
    all_carried no_formulas env [] m h = h
    all_carried no_formulas env (s ∷ sorts) m h = h
    all_carried (with_formula t ts) env [] m h = h
    all_carried (with_formula t ts) env (s ∷ sorts) m h = (sorted_carried t env s m.0 h.0, all_carried ts env sorts m.1 h.1)

    one_carried : (ts : Formulas) (env : List SortId) (sort : SortId) → AllMentionBelow n ts → AreOfSort from env ts sort → AreOfSort to env ts sort
    one_carried no_formulas env sort m h = h
    one_carried (with_formula t ts) env sort m h = (sorted_carried t env sort m.0 h.0, one_carried ts env sort m.1 h.1)

    cases_carried : (cases : Cases) (env : List SortId) (side sort : SortId) → CasesMentionBelow n cases → AreSortedCases from env side cases sort → AreSortedCases to env side cases sort
    cases_carried no_cases env side sort m h = h
    cases_carried (with_case p body cases) env side sort m h = (
      (h.0.0, binds_carried side p h.0.0 h.0.1, sorted_carried body (bind h.0.0 env) sort m.0 h.0.2),
      cases_carried cases env side sort m.1 h.1,
    )

-- more declarations: a sort that has constructors gets no more of them
module _ (later earlier : Declarations) (extends : Extends later earlier) (of_sorts : AreOfTheirSorts later) (own : HaveOwnConstructors earlier) (lists : KeepsLists earlier later) where
  no_more_constructors : (side : SortId) (c : ℕ) (ctor : Constructor) → IsMatchable earlier side → slice_get later.ctors c ≡ Some ctor → ctor.sort ≡ side → slice_get earlier.ctors c ≡ Some ctor
  no_more_constructors side c ctor matchable declared of =
      let index = of_sorts c ctor declared in
      let still : slice_get later.sorts side.0 ≡ Some matchable.0 = slice_get-longer later.sorts earlier.sorts side.0 matchable.0 extends.sorts matchable.1 in
      let there : slice_get later.sorts side.0 ≡ Some index.0 = ap (λ (s : SortId). slice_get later.sorts s.0) (sym of) ∙ index.2 in
      let one : index.0 ≡ matchable.0 = same_Some index.0 matchable.0 (sym there ∙ still) in
      let listed : slice_get matchable.0.ctors index.1 ≡ Some (record { 0 = c }) = ap (λ (s : Sort). slice_get s.ctors index.1) (sym one) ∙ index.3 in
      let found = own side.0 index.1 matchable.0 (record { 0 = c }) matchable.1 listed in
      let same : found.0 ≡ ctor = same_Some found.0 ctor (sym (slice_get-longer later.ctors earlier.ctors c found.0 extends.ctors found.1) ∙ declared) in
      found.1 ∙ ap Some same

  carries_longer : (n : ℕ) → Carries earlier later n
  carries_longer n = record {
    sorts = λ s sort at. slice_get-longer later.sorts earlier.sorts s sort extends.sorts at;
    ctors = λ c ctor at. slice_get-longer later.ctors earlier.ctors c ctor extends.ctors at;
    sels = λ s selector at. slice_get-longer later.sels earlier.sels s selector extends.sels at;
    functions = λ f function at. slice_get-longer later.functions earlier.functions f function extends.functions at;
    definitions = λ k definition below at. slice_get-longer later.definitions earlier.definitions k definition extends.definitions at;
    no_more = no_more_constructors;
    lists = lists;
  }

  pub sorted_lasting : (env : List SortId) (t : Formula) (sort : SortId) → IsSorted earlier env t sort → IsSorted later env t sort
  sorted_lasting env t sort h = sorted_carried earlier later (length earlier.definitions) (carries_longer (length earlier.definitions)) t env sort (sorted_mentions earlier env t sort h) h

  pub sound_lasting : (bodies : List Formula) → later.definitions ≡ earlier.definitions → AreSound earlier bodies → AreSound later bodies
  sound_lasting bodies same sound = record {
    one_each = sound.one_each ∙ ap length (sym same);
    sorted = λ k definition body declared at.
        sorted_lasting (bind definition.args []) body definition.result (sound.sorted k definition body (ap (λ (ds : List Function). slice_get ds k) (sym same) ∙ declared) at);
    earlier = sound.earlier;
  }

-- one more definition, with its body
module _ (d : Declarations) (f : Function) where
  carries_one_more : (n : ℕ) → Carries d (with_definition d f) n
  carries_one_more n = record {
    sorts = λ s sort at. at;
    ctors = λ c ctor at. at;
    sels = λ s selector at. at;
    functions = λ g function at. at;
    definitions = λ k definition below at. slice_get-append_left d.definitions (f ∷ []) k definition at;
    no_more = λ side c ctor matchable declared of. declared;
    lists = keeps_first d (d.definitions ++ f ∷ []);
  }

  sorted_one_more : (env : List SortId) (t : Formula) (sort : SortId) → IsSorted d env t sort → IsSorted (with_definition d f) env t sort
  sorted_one_more env t sort h = sorted_carried d (with_definition d f) (length d.definitions) (carries_one_more (length d.definitions)) t env sort (sorted_mentions d env t sort h) h

  module _ (bodies : List Formula) (body : Formula) (sound : AreSound d bodies) (of : IsSorted d (bind f.args []) body f.result) where
    longer_each : length (bodies ++ body ∷ []) ≡ length (d.definitions ++ f ∷ [])
    longer_each = length-append bodies (body ∷ []) ∙ ap (λ (n : ℕ). n + 1) sound.one_each ∙ sym (length-append d.definitions (f ∷ []))

    sorted_with : (k : ℕ) (g : Function) (t : Formula) → slice_get (d.definitions ++ f ∷ []) k ≡ Some g → slice_get (bodies ++ body ∷ []) k ≡ Some t → IsSorted (with_definition d f) (bind g.args []) t g.result
    sorted_with k g t declared at = by (slice_get-push_cases d.definitions f g k declared) (slice_get-push_cases bodies body t k at)
      where
        by : (slice_get d.definitions k ≡ Some g) ⊎ ((k ≡ length d.definitions) × (f ≡ g)) → (slice_get bodies k ≡ Some t) ⊎ ((k ≡ length bodies) × (body ≡ t)) → IsSorted (with_definition d f) (bind g.args []) t g.result
        by (inl old) (inl there) = sorted_one_more (bind g.args []) t g.result (sound.sorted k g t old there)
        by (inl old) (inr last) = absurd (omega (arith, slice_get_within d.definitions k g old, last.0, sound.one_each))
        by (inr last) (inl there) = absurd (omega (arith, slice_get_within bodies k t there, last.0, sound.one_each))
        by (inr last) (inr new) =
            subst (λ (h : Function). IsSorted (with_definition d f) (bind h.args []) t h.result) last.1
            (subst (λ (u : Formula). IsSorted (with_definition d f) (bind f.args []) u f.result) new.1 (sorted_one_more (bind f.args []) body f.result of))

    earlier_with : (k : ℕ) (t : Formula) → slice_get (bodies ++ body ∷ []) k ≡ Some t → MentionsBelow k t
    earlier_with k t at = by (slice_get-push_cases bodies body t k at)
      where
        by : (slice_get bodies k ≡ Some t) ⊎ ((k ≡ length bodies) × (body ≡ t)) → MentionsBelow k t
        by (inl there) = sound.earlier k t there
        by (inr last) =
            subst (λ (u : Formula). MentionsBelow k u) last.1 (subst (λ (n : ℕ). MentionsBelow n body) (sym (last.0 ∙ sound.one_each)) (sorted_mentions d (bind f.args []) body f.result of))

    pub sound_with : AreSound (with_definition d f) (bodies ++ body ∷ [])
    sound_with = record { one_each = longer_each; sorted = sorted_with; earlier = earlier_with }

-- the first definitions alone, with their bodies
module _ (d : Declarations) (n : ℕ) where
  carries_first : Carries d (cut_definitions d n) n
  carries_first = record {
    sorts = λ s sort at. at;
    ctors = λ c ctor at. at;
    sels = λ s selector at. at;
    functions = λ g function at. at;
    definitions = λ k definition below at. take-slice_get n d.definitions k definition below at;
    no_more = λ side c ctor matchable declared of. declared;
    lists = keeps_first d (take n d.definitions);
  }

  first_each : {X Y : Type 0} (m : ℕ) (xs : List X) (ys : List Y) → length xs ≡ length ys → length (take m xs) ≡ length (take m ys)
  first_each zero xs ys same = refl
  first_each (suc m) [] [] same = refl
  first_each (suc m) [] (y ∷ ys) same = absurd (omega (arith, same))
  first_each (suc m) (x ∷ xs) [] same = absurd (omega (arith, same))
  first_each (suc m) (x ∷ xs) (y ∷ ys) same = ap suc (first_each m xs ys (omega (arith, same)))

  pub sound_cut : (bodies : List Formula) → AreSound d bodies → AreSound (cut_definitions d n) (take n bodies)
  sound_cut bodies sound = record {
    one_each = first_each n bodies d.definitions sound.one_each;
    sorted = λ k definition body declared at.
        let there : slice_get bodies k ≡ Some body = slice_get-take n bodies k body at in
        let below : k < n = slice_get-take_below n bodies k body at in
        sorted_carried d (cut_definitions d n) n carries_first body (bind definition.args []) definition.result
        (mentions_more k n (omega (arith, below)) body (sound.earlier k body there)) (sound.sorted k definition body (slice_get-take n d.definitions k definition declared) there);
    earlier = λ k body at. sound.earlier k body (slice_get-take n bodies k body at);
  }
