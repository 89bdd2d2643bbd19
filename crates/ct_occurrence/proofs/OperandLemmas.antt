-- The formulas under an operator: their sorts, and the definitions that they mention.
use Rattle.std.proofs.Common.{◌≡◌, ℕ, true, List, [], ◌∷◌, sym, true≢false}
use Rattle.ct_sorts.specs.declared.ids.SortId.{SortId}
use Rattle.ct_sorts.specs.Declarations.{Declarations, bool_sort}
use Rattle.ct_formulas.specs.Formula.{Formula, Formulas, Var, Con, Sel, Test, Apply, Def, Not, And, Or, Xor, Implies, Equal, Distinct, Ite, Let, Match, Quantified, no_formulas, with_formula, MentionsBelow, AllMentionBelow}
use Rattle.ct_formulas.specs.FormulaSorts.{IsSorted, AllSorted, AreOfSort}
use Rattle.ct_occurrence.specs.Plain.{is_plain, formulas_under}

pub each_sorted : (d : Declarations) (env : List SortId) (ts : Formulas) (side : SortId) → AreOfSort d env ts side → (each : List SortId) × AllSorted d env ts each
each_sorted d env no_formulas side h = ([], tt)
each_sorted d env (with_formula t ts) side h = let rest = each_sorted d env ts side h.1 in (side ∷ rest.0, (h.0, rest.1))

pub plain_sorted : (d : Declarations) (sorts : List SortId) (t : Formula) (sort : SortId) → is_plain t ≡ true → IsSorted d sorts t sort → (each : List SortId) × AllSorted d sorts (formulas_under t) each
plain_sorted d sorts (Con c ts) sort plain h = (h.1, h.4)
plain_sorted d sorts (Sel s t) sort plain h = (h.1.sort ∷ [], (h.4, tt))
plain_sorted d sorts (Test c t) sort plain h = (h.0.sort ∷ [], (h.2, tt))
plain_sorted d sorts (Apply f ts) sort plain h = (h.0.args, h.2)
plain_sorted d sorts (Not t) sort plain h = (bool_sort ∷ [], (h.0, tt))
plain_sorted d sorts (And ts) sort plain h = each_sorted d sorts ts bool_sort h.1
plain_sorted d sorts (Or ts) sort plain h = each_sorted d sorts ts bool_sort h.1
plain_sorted d sorts (Xor ts) sort plain h = each_sorted d sorts ts bool_sort h.1
plain_sorted d sorts (Implies ts) sort plain h = each_sorted d sorts ts bool_sort h.1
plain_sorted d sorts (Equal ts) sort plain h = each_sorted d sorts ts h.0 h.2
plain_sorted d sorts (Distinct ts) sort plain h = each_sorted d sorts ts h.0 h.2
plain_sorted d sorts (Var i) sort plain h = absurd (true≢false (sym plain))
plain_sorted d sorts (Def k ts) sort plain h = absurd (true≢false (sym plain))
plain_sorted d sorts (Ite c t u) sort plain h = absurd (true≢false (sym plain))
plain_sorted d sorts (Let ts u) sort plain h = absurd (true≢false (sym plain))
plain_sorted d sorts (Match t cases) sort plain h = absurd (true≢false (sym plain))
plain_sorted d sorts (Quantified q bound t) sort plain h = absurd (true≢false (sym plain))

pub plain_mentions : (n : ℕ) (t : Formula) → is_plain t ≡ true → MentionsBelow n t → AllMentionBelow n (formulas_under t)
plain_mentions n (Con c ts) plain h = h
plain_mentions n (Sel s t) plain h = (h, tt)
plain_mentions n (Test c t) plain h = (h, tt)
plain_mentions n (Apply f ts) plain h = h
plain_mentions n (Not t) plain h = (h, tt)
plain_mentions n (And ts) plain h = h
plain_mentions n (Or ts) plain h = h
plain_mentions n (Xor ts) plain h = h
plain_mentions n (Implies ts) plain h = h
plain_mentions n (Equal ts) plain h = h
plain_mentions n (Distinct ts) plain h = h
plain_mentions n (Var i) plain h = absurd (true≢false (sym plain))
plain_mentions n (Def k ts) plain h = absurd (true≢false (sym plain))
plain_mentions n (Ite c t u) plain h = absurd (true≢false (sym plain))
plain_mentions n (Let ts u) plain h = absurd (true≢false (sym plain))
plain_mentions n (Match t cases) plain h = absurd (true≢false (sym plain))
plain_mentions n (Quantified q sorts t) plain h = absurd (true≢false (sym plain))
