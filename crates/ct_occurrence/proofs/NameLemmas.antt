-- The definitions that a formula names, from those that the formulas under it name.
use Rattle.std.proofs.Common.{◌≡◌, ℕ, ◌<◌, ◌≤◌, Bool, true, List, [], ◌∷◌, ◌++◌, Contains, sym, subst, inl, inr, arith}
use Rattle.std.proofs.lemmas.List.Elements.{Contains-append_left, Contains-push, Contains-push_cases}
use Rattle.ct_sorts.specs.declared.ids.DefId.{DefId}
use Rattle.ct_formulas.specs.declared.tree.Pattern.{Pattern}
use Rattle.ct_formulas.specs.Formula.{Formula, Formulas, Cases, Var, Con, Sel, Test, Apply, Def, Not, And, Or, Xor, Implies, Equal, Distinct, Ite, Let, Match, Quantified, no_formulas, with_formula, no_cases, with_case, MentionsBelow, AllMentionBelow, CasesMentionBelow}
use Rattle.ct_occurrence.specs.Calls.{CallsAre, AllCallsAre, CaseCallsAre, AllPass, AddsNamed, AddsAllNamed, AddsCaseNamed}
use Rattle.ct_occurrence.specs.Plain.{is_plain, formulas_under}
use Rattle.ct_occurrence.proofs.Size.{size, sizes, case_sizes}
use Rattle.ct_occurrence.proofs.MayLemmas.{plain_calls}

-- where every definition that is such is also such another
module _ (P Q : DefId → Type 0) (more : (k : DefId) → P k → Q k) where
  mutual
    pub calls_more : (t : Formula) → CallsAre P t → CallsAre Q t
    calls_more (Var i) h = tt
    calls_more (Con c ts) h = all_calls_more ts h
    calls_more (Sel s t) h = calls_more t h
    calls_more (Test c t) h = calls_more t h
    calls_more (Apply f ts) h = all_calls_more ts h
    calls_more (Def k ts) h = (more k h.0, all_calls_more ts h.1)
    calls_more (Not t) h = calls_more t h
    calls_more (And ts) h = all_calls_more ts h
    calls_more (Or ts) h = all_calls_more ts h
    calls_more (Xor ts) h = all_calls_more ts h
    calls_more (Implies ts) h = all_calls_more ts h
    calls_more (Equal ts) h = all_calls_more ts h
    calls_more (Distinct ts) h = all_calls_more ts h
    calls_more (Ite c t u) h = (calls_more c h.0, calls_more t h.1, calls_more u h.2)
    calls_more (Let ts u) h = (all_calls_more ts h.0, calls_more u h.1)
    calls_more (Match t cases) h = (calls_more t h.0, case_calls_more cases h.1)
    calls_more (Quantified q sorts t) h = calls_more t h

    pub all_calls_more : (ts : Formulas) → AllCallsAre P ts → AllCallsAre Q ts
    all_calls_more no_formulas h = tt
    all_calls_more (with_formula t ts) h = (calls_more t h.0, all_calls_more ts h.1)

    pub case_calls_more : (cases : Cases) → CaseCallsAre P cases → CaseCallsAre Q cases
    case_calls_more no_cases h = tt
    case_calls_more (with_case p body cases) h = (calls_more body h.0, case_calls_more cases h.1)

mutual
  pub mentions_calls : (n : ℕ) (t : Formula) → MentionsBelow n t → CallsAre (λ k. k.0 < n) t
  mentions_calls n (Var i) h = tt
  mentions_calls n (Con c ts) h = all_mentions_calls n ts h
  mentions_calls n (Sel s t) h = mentions_calls n t h
  mentions_calls n (Test c t) h = mentions_calls n t h
  mentions_calls n (Apply f ts) h = all_mentions_calls n ts h
  mentions_calls n (Def k ts) h = (h.0, all_mentions_calls n ts h.1)
  mentions_calls n (Not t) h = mentions_calls n t h
  mentions_calls n (And ts) h = all_mentions_calls n ts h
  mentions_calls n (Or ts) h = all_mentions_calls n ts h
  mentions_calls n (Xor ts) h = all_mentions_calls n ts h
  mentions_calls n (Implies ts) h = all_mentions_calls n ts h
  mentions_calls n (Equal ts) h = all_mentions_calls n ts h
  mentions_calls n (Distinct ts) h = all_mentions_calls n ts h
  mentions_calls n (Ite c t u) h = (mentions_calls n c h.0, mentions_calls n t h.1, mentions_calls n u h.2)
  mentions_calls n (Let ts u) h = (all_mentions_calls n ts h.0, mentions_calls n u h.1)
  mentions_calls n (Match t cases) h = (mentions_calls n t h.0, case_mentions_calls n cases h.1)
  mentions_calls n (Quantified q sorts t) h = mentions_calls n t h

  all_mentions_calls : (n : ℕ) (ts : Formulas) → AllMentionBelow n ts → AllCallsAre (λ k. k.0 < n) ts
  all_mentions_calls n no_formulas h = tt
  all_mentions_calls n (with_formula t ts) h = (mentions_calls n t h.0, all_mentions_calls n ts h.1)

  case_mentions_calls : (n : ℕ) (cases : Cases) → CasesMentionBelow n cases → CaseCallsAre (λ k. k.0 < n) cases
  case_mentions_calls n no_cases h = tt
  case_mentions_calls n (with_case p body cases) h = (mentions_calls n body h.0, case_mentions_calls n cases h.1)

plain_from : (P : DefId → Type 0) (t : Formula) → is_plain t ≡ true → AllCallsAre P (formulas_under t) → CallsAre P t
plain_from P (Con c ts) plain h = h
plain_from P (Sel s t) plain h = h.0
plain_from P (Test c t) plain h = h.0
plain_from P (Apply f ts) plain h = h
plain_from P (Not t) plain h = h.0
plain_from P (And ts) plain h = h
plain_from P (Or ts) plain h = h
plain_from P (Xor ts) plain h = h
plain_from P (Implies ts) plain h = h
plain_from P (Equal ts) plain h = h
plain_from P (Distinct ts) plain h = h
plain_from P (Var i) plain h = cc
plain_from P (Def k ts) plain h = cc
plain_from P (Ite c t u) plain h = cc
plain_from P (Let ts u) plain h = cc
plain_from P (Match t cases) plain h = cc
plain_from P (Quantified q sorts t) plain h = cc

-- ---- one form each

pub adds_plain : (t : Formula) (ts : Formulas) (old new : List DefId) → is_plain t ≡ true → formulas_under t ≡ ts → AddsAllNamed ts old new → AddsNamed t old new
adds_plain t ts old new plain under h =
    let k : AddsAllNamed (formulas_under t) old new = subst (λ (us : Formulas). AddsAllNamed us old new) (sym under) h in
    record {
      named = plain_from (Contains new) t plain k.named;
      stay = k.stay;
      only = λ p c b. k.only p (plain_calls (λ j. p j ≡ true) t plain c) b;
    }

pub adds_choice : (c t u : Formula) (first second third last : List DefId) → AddsNamed c first second → AddsNamed t second third → AddsNamed u third last → AddsNamed (Ite c t u) first last
adds_choice c t u first second third last f g h = record {
  named = (
    calls_more (Contains second) (Contains last) (λ k x. h.stay k (g.stay k x)) c f.named,
    calls_more (Contains third) (Contains last) h.stay t g.named,
    h.named,
  );
  stay = λ k x. h.stay k (g.stay k (f.stay k x));
  only = λ p x b. h.only p x.2 (g.only p x.1 (f.only p x.0 b));
}

pub adds_call : (k : DefId) (ts : Formulas) (first second last : List DefId) → second ≡ first ++ k ∷ [] → AddsAllNamed ts second last → AddsNamed (Def k ts) first last
adds_call k ts first second last is h = record {
  named = (h.stay k (subst (λ (ks : List DefId). Contains ks k) (sym is) (Contains-push first k)), h.named);
  stay = λ j x. h.stay j (subst (λ (ks : List DefId). Contains ks j) (sym is) (Contains-append_left first (k ∷ []) j x));
  only = λ p x b. h.only p x.1 (subst (AllPass p) (sym is) (pushed p x.0 b));
}
  where
    pushed : (p : DefId → Bool) → p k ≡ true → AllPass p first → AllPass p (first ++ k ∷ [])
    pushed p passed b j x = elim (Contains-push_cases first k j x) [
      | inl before ↦ b j before
      | inr one ↦ subst (λ (i : DefId). p i ≡ true) one passed
    ]

pub adds_let : (ts : Formulas) (u : Formula) (first second last : List DefId) → AddsAllNamed ts first second → AddsNamed u second last → AddsNamed (Let ts u) first last
adds_let ts u first second last f g = record {
  named = (all_calls_more (Contains second) (Contains last) g.stay ts f.named, g.named);
  stay = λ k x. g.stay k (f.stay k x);
  only = λ p x b. g.only p x.1 (f.only p x.0 b);
}

pub adds_match : (t : Formula) (cases : Cases) (first second last : List DefId) → AddsNamed t first second → AddsCaseNamed cases second last → AddsNamed (Match t cases) first last
adds_match t cases first second last f g = record {
  named = (calls_more (Contains second) (Contains last) g.stay t f.named, g.named);
  stay = λ k x. g.stay k (f.stay k x);
  only = λ p x b. g.only p x.1 (f.only p x.0 b);
}

-- ---- the loop over several formulas: what adds the names of the rest adds those of all

pub record NamesRest (all rest : Formulas) (first now : List DefId) : Type 0 where
  pub adds : (new : List DefId) → AddsAllNamed rest now new → AddsAllNamed all first new
  pub lighter : sizes rest ≤ sizes all

pub names_next : (all : Formulas) (t : Formula) (ts : Formulas) (first now later : List DefId) → NamesRest all (with_formula t ts) first now → AddsNamed t now later → NamesRest all ts first later
names_next all t ts first now later h f = record {
  adds = λ new g. h.adds new record {
    named = (calls_more (Contains later) (Contains new) g.stay t f.named, g.named);
    stay = λ k x. g.stay k (f.stay k x);
    only = λ p x b. g.only p x.1 (f.only p x.0 b);
  };
  lighter = let k = h.lighter in omega (arith, k);
}

pub names_lighter : (all : Formulas) (t : Formula) (ts : Formulas) (first now : List DefId) → NamesRest all (with_formula t ts) first now → size t < sizes all
names_lighter all t ts first now h = let k = h.lighter in omega (arith, k)

pub names_end : (all : Formulas) (first now : List DefId) → NamesRest all no_formulas first now → AddsAllNamed all first now
names_end all first now h = h.adds now record { named = tt; stay = λ k x. x; only = λ p c b. b }

-- ---- the loop over cases

pub record CaseNamesRest (all rest : Cases) (first now : List DefId) : Type 0 where
  pub adds : (new : List DefId) → AddsCaseNamed rest now new → AddsCaseNamed all first new
  pub lighter : case_sizes rest ≤ case_sizes all

pub case_names_next : (all : Cases) (p : Pattern) (body : Formula) (cases : Cases) (first now later : List DefId) → CaseNamesRest all (with_case p body cases) first now → AddsNamed body now later → CaseNamesRest all cases first later
case_names_next all p body cases first now later h f = record {
  adds = λ new g. h.adds new record {
    named = (calls_more (Contains later) (Contains new) g.stay body f.named, g.named);
    stay = λ k x. g.stay k (f.stay k x);
    only = λ p x b. g.only p x.1 (f.only p x.0 b);
  };
  lighter = let k = h.lighter in omega (arith, k);
}

pub case_names_lighter : (all : Cases) (p : Pattern) (body : Formula) (cases : Cases) (first now : List DefId) → CaseNamesRest all (with_case p body cases) first now → size body < case_sizes all
case_names_lighter all p body cases first now h = let k = h.lighter in omega (arith, k)

pub case_names_end : (all : Cases) (first now : List DefId) → CaseNamesRest all no_cases first now → AddsCaseNamed all first now
case_names_end all first now h = h.adds now record { named = tt; stay = λ k x. x; only = λ p c b. b }
