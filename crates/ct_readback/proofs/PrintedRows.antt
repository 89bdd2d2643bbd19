-- What rows of tables read back as where they were printed: equations of parameters and values, tests and results.
use Rattle.std.proofs.Common.{◌≡◌, ℕ, suc, ◌+◌, ◌<◌, ◌≤◌, Bool, true, false, ◌&&◌, ◌==◌, List, [], ◌∷◌, ◌++◌, length, MatchBool, Some, refl, sym, ap, ap₂, subst, ◌∙◌, arith, codes, inl, inr, if◌then◌else◌}
use Rattle.std.specs.List.{AllZip}
use Rattle.std.proofs.lemmas.Option.{same_Some}
use Rattle.std.proofs.lemmas.Bool.Decides.{nat_tests}
use Rattle.std.proofs.lemmas.Cmp.{nat_eq_equiv}
use Rattle.ct_lemmas.proofs.Booleans.{both_true}
use Rattle.ct_lemmas.proofs.Contained.{Contains-none, Contains-cons}
use Rattle.ct_sorts.specs.declared.ids.SortId.{SortId}
use Rattle.ct_sorts.specs.Declarations.{Declarations}
use Rattle.ct_sexpr.specs.Expression.{Expression, list, Expressions, none, more, word}
use Rattle.ct_sexpr.specs.Written.{written, written_items, written_after, canonical, canonical_each}
use Rattle.ct_sexpr.specs.Readable.{IsReadable, AreReadable}
use Rattle.ct_values.specs.declared.node.NodeId.{NodeId}
use Rattle.ct_values.specs.Graph.{Nodes}
use Rattle.ct_values.specs.Agreement.{Point}
use Rattle.ct_values.specs.Fitting.{HasNodeSort}
use Rattle.ct_value_text.specs.ValueText.{IsValueText}
use Rattle.ct_value_text.proofs.FitNameLemmas.{digits_word}
use Rattle.ct_value_text.proofs.SortTextLemmas.{TextTheorems}
use Rattle.ct_model.specs.Listed.{spaced, joined, listed}
use Rattle.ct_model.specs.TableText.{parameter, equation, equations, conjunction}
use Rattle.ct_readback.specs.Words.{number_bound, numbered, is_numbered}
use Rattle.ct_readback.specs.Parts.{holds, only_if, count}
use Rattle.ct_readback.specs.Cycles.{HasDataCycle}
use Rattle.ct_readback.specs.ValueAt.{is_value, IsValueAt}
use Rattle.ct_readback.specs.Rows.{equation_value, conjuncts, is_equation, are_equations, is_test}
use Rattle.ct_readback.specs.ItemAt.{HasValue, AreEquationsAt, AreConjunctsAt, IsTestAt, HasCycle}
use Rattle.ct_readback.proofs.PrintedWords.{number_after_own, is_own}
use Rattle.ct_readback.proofs.PrintedValues.{IsPrintable, ValueReads, IsPrinted, value_printed}

-- ---- lists of texts

-- the texts are those of the expressions
abbrev pub AreWritten : List (List ℕ) → Expressions → Type 0
AreWritten [] none = Unit {0}
AreWritten [] (more e es) = ⊥
AreWritten (t ∷ ts) none = ⊥
AreWritten (t ∷ ts) (more e es) = (t ≡ written e) × AreWritten ts es

spaced_written : (ts : List (List ℕ)) (es : Expressions) → AreWritten ts es → spaced ts ≡ written_after es
spaced_written [] none h = refl
spaced_written [] (more e es) h = absurd h
spaced_written (t ∷ ts) none h = absurd h
spaced_written (t ∷ ts) (more e es) h = ap₂ (λ (x y : List ℕ). 32 ∷ (x ++ y)) h.0 (spaced_written ts es h.1)

joined_written : (ts : List (List ℕ)) (es : Expressions) → AreWritten ts es → joined ts ≡ written_items es
joined_written [] none h = refl
joined_written [] (more e es) h = absurd h
joined_written (t ∷ ts) none h = absurd h
joined_written (t ∷ ts) (more e es) h = ap₂ (λ (x y : List ℕ). x ++ y) h.0 (spaced_written ts es h.1)

-- a list of texts is the text of the list
pub listed_written : (ts : List (List ℕ)) (es : Expressions) → AreWritten ts es → listed ts ≡ written (list es)
listed_written ts es h = ap (λ (x : List ℕ). 40 ∷ (x ++ 41 ∷ [])) (joined_written ts es h)

-- ---- equations

-- the parameter number n
abbrev pub parameter_word : ℕ → Expression
parameter_word n = word (parameter n)

pub parameter_is : (n : ℕ) → n < number_bound → is_numbered (codes "@x") n (parameter_word n) ≡ true
parameter_is n small = is_own n (numbered (codes "@x") (parameter_word n)) (number_after_own (64 ∷ (120 ∷ [])) n small)

pub parameter_readable : (n : ℕ) → IsReadable (parameter_word n)
parameter_readable n = digits_word n

abbrev pub equation_of : ℕ → Expression → Expression
equation_of n value = list (more (word (codes "=")) (more (parameter_word n) (more value none)))

equation_text : (n : ℕ) (value : Expression) → n < number_bound → equation_value n (equation_of n value) ≡ Some value
equation_text n value small = ap (λ (b : Bool). only_if b value) (parameter_is n small)

-- what equations of the parameters from the number i on read as
pub record EquationsRead (d : Declarations) (g : Nodes) (i : ℕ) (ss : List SortId) (ns : List NodeId) (es : Expressions) : Type 0 where
  pub values : List Point
  pub said : AreEquationsAt d i ss es values
  pub only : (ps : List Point) → AreEquationsAt d i ss es ps → ps ≡ values
  pub same : AllZip (HasValue g) values ns
  pub acyclic : HasCycle d values → ⊥
  pub form : are_equations i es ≡ true
  pub long : count es ≡ length ss

pub record ArePrinted (texts : List (List ℕ)) (P : Expressions → Type 0) : Type 0 where
  pub printed : Expressions
  pub readable : AreReadable printed
  pub text_is : AreWritten texts printed
  pub reads : P (canonical_each printed)

-- no value is cyclic where the first is not, nor one of the others
pub acyclic_more : (d : Declarations) (p : Point) (ps : List Point) → (HasDataCycle d p.graph → ⊥) → (HasCycle d ps → ⊥) → HasCycle d (p ∷ ps) → ⊥
acyclic_more d p ps first rest (q, inside, cycle) =
    elim (Contains-cons p ps q inside) [
      | inl e ↦ first (subst (λ (x : Point). HasDataCycle d x.graph) (sym e) cycle)
      | inr later ↦ rest (q, later, cycle)
    ]

pub acyclic_none : (d : Declarations) → HasCycle d [] → ⊥
acyclic_none d (q, inside, cycle) = Contains-none q inside

equation_read : (d : Declarations) (g : Nodes) (i : ℕ) (s : SortId) (ss : List SortId) (n : NodeId) (ns : List NodeId) (e : Expression) (es : Expressions)
    → i < number_bound → ValueReads d g s n e → EquationsRead d g (suc i) ss ns es → EquationsRead d g i (s ∷ ss) (n ∷ ns) (more (equation_of i e) es)
equation_read d g i s ss n ns e es small first rest = record {
  values = first.value ∷ rest.values;
  said = (record { text = e; written = equation_text i e small; value = first.said }, rest.said);
  only = λ ps said. only_by ps said;
  same = (first.same, rest.same);
  acyclic = acyclic_more d first.value rest.values first.acyclic rest.acyclic;
  form = both_true (is_equation i (equation_of i e)) (are_equations (suc i) es) (ap (holds is_value) (equation_text i e small) ∙ first.form) rest.form;
  long = ap suc rest.long;
}
  where
    only_by : (ps : List Point) → AreEquationsAt d i (s ∷ ss) (more (equation_of i e) es) ps → ps ≡ first.value ∷ rest.values
    only_by [] said = absurd said
    only_by (p ∷ ps) said =
        let text : said.0.text ≡ e = same_Some said.0.text e (sym said.0.written ∙ equation_text i e small) in
        let value : p ≡ first.value = first.only p (subst (λ (x : Expression). IsValueAt d s x p) text said.0.value) in
        ap₂ (λ (x : Point) (xs : List Point). x ∷ xs) value (rest.only ps said.1)

module _ (theorems : TextTheorems) (d : Declarations) (g : Nodes) (printable : IsPrintable d g) where
  -- what is printed of equations reads so
  pub equations_printed : (i : ℕ) (ss : List SortId) (ns : List NodeId) (texts : List (List ℕ)) → i + length ss ≤ number_bound → AllZip (HasNodeSort d g) ns ss → AllZip (IsValueText d g) ns texts
      → ArePrinted (equations i texts) (EquationsRead d g i ss ns)
  equations_printed i [] [] [] few sorted are = record {
    printed = none;
    readable = tt;
    text_is = tt;
    reads = record { values = []; said = tt; only = λ ps said. empty ps said; same = tt; acyclic = acyclic_none d; form = refl; long = refl };
  }
    where
      empty : (ps : List Point) → AreEquationsAt d i [] none ps → ps ≡ []
      empty [] said = refl
      empty (p ∷ ps) said = absurd said
  equations_printed i [] [] (t ∷ ts) few sorted are = absurd are
  equations_printed i [] (n ∷ ns) texts few sorted are = absurd sorted
  equations_printed i (s ∷ ss) [] texts few sorted are = absurd sorted
  equations_printed i (s ∷ ss) (n ∷ ns) [] few sorted are = absurd are
  equations_printed i (s ∷ ss) (n ∷ ns) (t ∷ ts) few sorted are =
      let small : i < number_bound = omega (arith, few) in
      let first = value_printed theorems d g s n t printable sorted.0 are.0 in
      let rest = equations_printed (suc i) ss ns ts (omega (arith, few)) sorted.1 are.1 in
      record {
        printed = more (equation_of i first.printed) rest.printed;
        readable = ((refl, (parameter_readable i, (first.readable, tt))), rest.readable);
        text_is = (listed_written (codes "=" ∷ (parameter i ∷ (t ∷ []))) (more (word (codes "=")) (more (parameter_word i) (more first.printed none))) (refl, (refl, (first.text_is, tt))), rest.text_is);
        reads = equation_read d g i s ss n ns (canonical first.printed) (canonical_each rest.printed) small first.reads rest.reads;
      }

-- ---- tests

-- what a test of parameters of these sorts reads as
pub record TestReads (d : Declarations) (g : Nodes) (ss : List SortId) (ns : List NodeId) (e : Expression) : Type 0 where
  pub values : List Point
  pub said : IsTestAt d ss e values
  pub only : (ps : List Point) → IsTestAt d ss e ps → ps ≡ values
  pub same : AllZip (HasValue g) values ns
  pub acyclic : HasCycle d values → ⊥
  pub form : is_test (length ss) e ≡ true

-- of one parameter it is an equation
single_test : (d : Declarations) (g : Nodes) (s : SortId) (ns : List NodeId) (e : Expression) → EquationsRead d g 0 (s ∷ []) ns (more e none) → TestReads d g (s ∷ []) ns e
single_test d g s ns e reads = record {
  values = reads.values;
  said = reads.said;
  only = reads.only;
  same = reads.same;
  acyclic = reads.acyclic;
  form = first_part (is_equation 0 e) reads.form;
}
  where
    first_part : (b : Bool) → (b && true) ≡ true → b ≡ true
    first_part true h = refl
    first_part false h = h

-- of more it is `and` before equations
abbrev pub conjunction_of : Expressions → Expression
conjunction_of es = list (more (word (codes "and")) es)

two_or_more : (n : ℕ) → (suc (suc n) == 1) ≡ false
two_or_more n = grind (arith, nat_tests)

several_test : (d : Declarations) (g : Nodes) (s t : SortId) (ss : List SortId) (ns : List NodeId) (es : Expressions) → EquationsRead d g 0 (s ∷ (t ∷ ss)) ns es → TestReads d g (s ∷ (t ∷ ss)) ns (conjunction_of es)
several_test d g s t ss ns es reads =
    let parameters = length (s ∷ (t ∷ ss)) in
    let counted : (count es == parameters) ≡ true = ap (λ n. n == parameters) reads.long ∙ nat_eq_equiv.refl parameters in
    let written : conjuncts parameters (conjunction_of es) ≡ Some es = ap (λ (b : Bool). only_if b es) counted in
    record {
      values = reads.values;
      said = subst (λ (b : Bool). MatchBool b (AreEquationsAt d 0 (s ∷ (t ∷ ss)) (more (conjunction_of es) none) reads.values) (AreConjunctsAt d (s ∷ (t ∷ ss)) (conjunction_of es) reads.values)) (sym several)
          (record { equations = es; written = written; said = reads.said });
      only = λ ps said. by written ps (subst (λ (b : Bool). MatchBool b (AreEquationsAt d 0 (s ∷ (t ∷ ss)) (more (conjunction_of es) none) ps) (AreConjunctsAt d (s ∷ (t ∷ ss)) (conjunction_of es) ps)) several said);
      same = reads.same;
      acyclic = reads.acyclic;
      form = ap (λ (b : Bool). if b then is_equation 0 (conjunction_of es) else holds (are_equations 0) (conjuncts parameters (conjunction_of es))) several
          ∙ ap (holds (are_equations 0)) written ∙ reads.form;
    }
  where
    several : (length (s ∷ (t ∷ ss)) == 1) ≡ false
    several = two_or_more (length ss)

    by : conjuncts (length (s ∷ (t ∷ ss))) (conjunction_of es) ≡ Some es → (ps : List Point) → AreConjunctsAt d (s ∷ (t ∷ ss)) (conjunction_of es) ps → ps ≡ reads.values
    by written ps said =
        let same : said.equations ≡ es = same_Some said.equations es (sym said.written ∙ written) in
        reads.only ps (subst (λ (xs : Expressions). AreEquationsAt d 0 (s ∷ (t ∷ ss)) xs ps) same said.said)

module _ (theorems : TextTheorems) (d : Declarations) (g : Nodes) (printable : IsPrintable d g) where
  pub test_printed : (s : SortId) (ss : List SortId) (ns : List NodeId) (texts : List (List ℕ)) → length (s ∷ ss) ≤ number_bound → AllZip (HasNodeSort d g) ns (s ∷ ss) → AllZip (IsValueText d g) ns texts
      → IsPrinted (conjunction (equations 0 texts)) (TestReads d g (s ∷ ss) ns)
  test_printed s [] [] texts few sorted are = absurd sorted
  test_printed s [] (n ∷ []) [] few sorted are = absurd are
  test_printed s [] (n ∷ []) (t ∷ []) few sorted are =
      let all = equations_printed theorems d g printable 0 (s ∷ []) (n ∷ []) (t ∷ []) (omega (arith, few)) sorted are in
      by all.printed all.readable all.text_is all.reads
    where
      by : (es : Expressions) → AreReadable es → AreWritten (equation 0 t ∷ []) es → EquationsRead d g 0 (s ∷ []) (n ∷ []) (canonical_each es) → IsPrinted (equation 0 t) (TestReads d g (s ∷ []) (n ∷ []))
      by none readable is reads = absurd is
      by (more e none) readable is reads = record { printed = e; readable = readable.0; text_is = is.0; reads = single_test d g s (n ∷ []) (canonical e) reads }
      by (more e (more f es)) readable is reads = absurd is.1
  test_printed s [] (n ∷ []) (t ∷ (u ∷ ts)) few sorted are = absurd are.1
  test_printed s [] (n ∷ (m ∷ ns)) texts few sorted are = absurd sorted.1
  test_printed s (r ∷ ss) [] texts few sorted are = absurd sorted
  test_printed s (r ∷ ss) (n ∷ []) texts few sorted are = absurd sorted.1
  test_printed s (r ∷ ss) (n ∷ (m ∷ ns)) [] few sorted are = absurd are
  test_printed s (r ∷ ss) (n ∷ (m ∷ ns)) (t ∷ []) few sorted are = absurd are.1
  test_printed s (r ∷ ss) (n ∷ (m ∷ ns)) (t ∷ (u ∷ ts)) few sorted are =
      let all = equations_printed theorems d g printable 0 (s ∷ (r ∷ ss)) (n ∷ (m ∷ ns)) (t ∷ (u ∷ ts)) (omega (arith, few)) sorted are in
      record {
        printed = conjunction_of all.printed;
        readable = (refl, all.readable);
        text_is = listed_written (codes "and" ∷ equations 0 (t ∷ (u ∷ ts))) (more (word (codes "and")) all.printed) (refl, all.text_is);
        reads = several_test d g s r ss (n ∷ (m ∷ ns)) (canonical_each all.printed) all.reads;
      }
