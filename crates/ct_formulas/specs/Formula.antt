-- Formulas: terms with variables, bindings, `match` and definitions, as trees (SMT-LIB 2.7, section 3.6).
use Rattle.std.specs.Prelude.{ℕ, ◌<◌, List, [], ◌∷◌}
use Rattle.ct_sorts.specs.declared.ids.CtorId.{CtorId}
use Rattle.ct_sorts.specs.declared.ids.SelId.{SelId}
use Rattle.ct_sorts.specs.declared.ids.FunId.{FunId}
use Rattle.ct_sorts.specs.declared.ids.DefId.{DefId}
use Rattle.ct_sorts.specs.declared.ids.SortId.{SortId}
use Rattle.ct_formulas.specs.declared.tree.Pattern.{Pattern}
use Rattle.ct_formulas.specs.declared.tree.Quantifier.{Quantifier}

mutual
  -- a term of any sort; variable 0 is the one that was bound last
  pub data Formula : Type 0 where
    Var : ℕ → Formula
    Con : CtorId → Formulas → Formula
    Sel : SelId → Formula → Formula
    Test : CtorId → Formula → Formula
    Apply : FunId → Formulas → Formula
    Def : DefId → Formulas → Formula
    Not : Formula → Formula
    And : Formulas → Formula
    Or : Formulas → Formula
    Xor : Formulas → Formula
    Implies : Formulas → Formula
    Equal : Formulas → Formula
    Distinct : Formulas → Formula
    Ite : Formula → Formula → Formula → Formula
    Let : Formulas → Formula → Formula
    Match : Formula → Cases → Formula
    Quantified : Quantifier → List SortId → Formula → Formula

  -- arguments or bindings, in order
  pub data Formulas : Type 0 where
    no_formulas : Formulas
    with_formula : Formula → Formulas → Formulas

  -- the cases of a `match`, in order
  pub data Cases : Type 0 where
    no_cases : Cases
    with_case : Pattern → Formula → Cases → Cases

-- the environment in which these are bound in order, each as the new innermost: the last of them is variable 0
abbrev pub bind : {X : Type 0} → List X → List X → List X
bind [] env = env
bind (x ∷ xs) env = bind xs (x ∷ env)

abbrev mutual
  -- every definition that the formula names has a number below the bound
  pub MentionsBelow : ℕ → Formula → Type 0
  MentionsBelow n (Var i) = Unit {0}
  MentionsBelow n (Con c ts) = AllMentionBelow n ts
  MentionsBelow n (Sel s t) = MentionsBelow n t
  MentionsBelow n (Test c t) = MentionsBelow n t
  MentionsBelow n (Apply f ts) = AllMentionBelow n ts
  MentionsBelow n (Def k ts) = (k.0 < n) × AllMentionBelow n ts
  MentionsBelow n (Not t) = MentionsBelow n t
  MentionsBelow n (And ts) = AllMentionBelow n ts
  MentionsBelow n (Or ts) = AllMentionBelow n ts
  MentionsBelow n (Xor ts) = AllMentionBelow n ts
  MentionsBelow n (Implies ts) = AllMentionBelow n ts
  MentionsBelow n (Equal ts) = AllMentionBelow n ts
  MentionsBelow n (Distinct ts) = AllMentionBelow n ts
  MentionsBelow n (Ite c t u) = MentionsBelow n c × MentionsBelow n t × MentionsBelow n u
  MentionsBelow n (Let ts u) = AllMentionBelow n ts × MentionsBelow n u
  MentionsBelow n (Match t cases) = MentionsBelow n t × CasesMentionBelow n cases
  MentionsBelow n (Quantified q sorts t) = MentionsBelow n t

  pub AllMentionBelow : ℕ → Formulas → Type 0
  AllMentionBelow n no_formulas = Unit {0}
  AllMentionBelow n (with_formula t ts) = MentionsBelow n t × AllMentionBelow n ts

  pub CasesMentionBelow : ℕ → Cases → Type 0
  CasesMentionBelow n no_cases = Unit {0}
  CasesMentionBelow n (with_case p body cases) = MentionsBelow n body × CasesMentionBelow n cases
