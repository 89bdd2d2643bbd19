-- Stages in a table that grows or is taken back, over declarations that grow or are cut.
use Rattle.std.proofs.Common.{◌≡◌, ℕ, zero, suc, ◌+◌, ◌-◌, ◌<◌, ◌≤◌, List, [], ◌∷◌, ◌++◌, length, take, drop, reverse, All, get_or, ◌⊎◌, inl, inr, sym, ap, subst, ◌∙◌, arith, length-append}
use Rattle.std.proofs.lemmas.List.{take-append-le, take-append-drop, length-take-le, reverse-append}
use Rattle.std.proofs.lemmas.List.Elements.{All-head, All-tail, All-append}
use Rattle.std.proofs.Math.Seq.{take-length, take-append-add}
use Rattle.ct_sorts.specs.Declarations.{Declarations}
use Rattle.ct_sorts.specs.Consistent.{IsConsistent}
use Rattle.ct_sorts.specs.Grown.{Begins, Extends}
use Rattle.ct_sorts.specs.Lengths.{Lengths}
use Rattle.ct_sorts.specs.Marks.{CanCut, lengths, cut}
use Rattle.ct_sorts.proofs.PieceLemmas.{Begins-self}
use Rattle.ct_terms.specs.declared.ids.TermId.{TermId}
use Rattle.ct_terms.specs.Terms.{Terms, IsBoolean, BeginsWithTruths}
use Rattle.ct_terms.specs.CoreTree.{CoreTree}
use Rattle.ct_closure.specs.Closed.{most_closure_terms}
use Rattle.ct_closure.specs.ClosedTable.{terms_at}
use Rattle.ct_closure.specs.Further.{BeginsClosed, IsClosureOver}
use Rattle.ct_base.specs.declared.stage.Stage.{Stage}
use Rattle.ct_base.specs.Base.{IsStage, AreStages}
use Rattle.ct_base.specs.Cutting.{IsBelowMark, IsBelow, top_terms, top_closed, top_roots, top_split}

-- ---- first items

take_grown : {X : Type 0} (n : ℕ) (xs ys : List X) → n ≤ length xs → Begins xs ys → take n ys ≡ take n xs
take_grown n xs ys low (rest, is) = ap (take n) is ∙ take-append-le n xs rest low

long_grown : {X : Type 0} (n : ℕ) (xs ys : List X) → n ≤ length xs → Begins xs ys → n ≤ length ys
long_grown {X} n xs ys low (rest, is) =
    let long : length ys ≡ length xs + length rest = ap (λ (l : List X). length l) is ∙ length-append xs rest in
    omega (arith, low, long)

take_again : {X : Type 0} (n : ℕ) (xs : List X) → n ≤ length xs → take n (take n xs) ≡ take n xs
take_again n xs low = subst (λ (k : ℕ). take k (take n xs) ≡ take n xs) (length-take-le n xs low) (take-length (take n xs))

begins_take : {X : Type 0} (n : ℕ) (xs ys : List X) → length xs ≤ n → Begins xs ys → Begins xs (take n ys)
begins_take {X} n xs ys low (rest, is) =
    let more : n ≡ length xs + (n - length xs) = omega (arith, low) in (
      take (n - length xs) rest,
      ap (take n) is ∙ ap (λ (k : ℕ). take k (xs ++ rest)) more ∙ take-append-add xs rest (n - length xs),
    )

-- ---- equal tables

pub same_stages : (d : Declarations) (table other : Terms) (roots ids split parts : List TermId) (stages : List Stage) → other ≡ table → ids ≡ roots → parts ≡ split → AreStages d table roots split stages → AreStages d other ids parts stages
same_stages d table other roots ids split parts stages same_table same_roots same_split are =
    subst (λ (ts : Terms). AreStages d ts ids parts stages) (sym same_table)
    (subst (λ (l : List TermId). AreStages d table l parts stages) (sym same_roots)
    (subst (λ (l : List TermId). AreStages d table roots l stages) (sym same_split) are))

-- the closure where its table, its roots and what is split are the same
same_closure : (d : Declarations) (table other : Terms) (roots ids split parts : List TermId) → other ≡ table → ids ≡ roots → parts ≡ split → IsClosureOver d (terms_at table roots) table split → IsClosureOver d (terms_at other ids) other parts
same_closure d table other roots ids split parts same_table same_roots same_split closure =
    subst (λ (ts : Terms). IsClosureOver d (terms_at ts ids) ts parts) (sym same_table)
    (subst (λ (l : List TermId). IsClosureOver d (terms_at table l) table parts) (sym same_roots)
    (subst (λ (l : List TermId). IsClosureOver d (terms_at table roots) table l) (sym same_split) closure))

same_booleans : (table other : Terms) (roots ids : List TermId) → other ≡ table → ids ≡ roots → All (IsBoolean table) roots → All (IsBoolean other) ids
same_booleans table other roots ids same_table same_roots all =
    subst (λ (ts : Terms). All (IsBoolean ts) ids) (sym same_table) (subst (All (IsBoolean table)) (sym same_roots) all)

-- ---- tables that grow

module _ (d : Declarations) (table longer : Terms) (roots more split further : List TermId) (grown : Begins table longer) (roots_grown : Begins roots more) (split_grown : Begins split further) where
  stage_grown : (s : Stage) → IsStage d table roots split s → IsStage d longer more further s
  stage_grown s st =
      let same_table = take_grown s.terms table longer st.terms grown in
      let same_roots = take_grown s.roots roots more st.some_roots roots_grown in
      let same_split = take_grown s.split split further st.some_split split_grown in
      record {
        earlier = st.earlier;
        consistent = st.consistent;
        extends = st.extends;
        declared = st.declared;
        truths = st.truths;
        terms = long_grown s.terms table longer st.terms grown;
        few = st.few;
        some_roots = long_grown s.roots roots more st.some_roots roots_grown;
        some_split = long_grown s.split split further st.some_split split_grown;
        booleans = same_booleans (take s.terms table) (take s.terms longer) (take s.roots roots) (take s.roots more) same_table same_roots st.booleans;
        closure = same_closure st.earlier (take s.terms table) (take s.terms longer) (take s.roots roots) (take s.roots more) (take s.split split) (take s.split further) same_table same_roots same_split st.closure;
      }

  pub stages_grown : (stages : List Stage) → AreStages d table roots split stages → AreStages d longer more further stages
  stages_grown [] are = tt
  stages_grown (s ∷ stages) are = (
    stage_grown s are.0,
    same_stages d (take s.terms table) (take s.terms longer) (take s.roots roots) (take s.roots more) (take s.split split) (take s.split further) stages
        (take_grown s.terms table longer are.0.terms grown) (take_grown s.roots roots more are.0.some_roots roots_grown) (take_grown s.split split further are.0.some_split split_grown) are.1,
  )

-- ---- the last one goes

-- the stages within the last one are stages of the whole
pub stages_within : (d : Declarations) (table : Terms) (roots split : List TermId) (s : Stage) (stages : List Stage) → AreStages d table roots split (s ∷ stages) → AreStages d table roots split stages
stages_within d table roots split s stages are =
    stages_grown d (take s.terms table) table (take s.roots roots) roots (take s.split split) split (begins_whole s.terms table) (begins_whole s.roots roots) (begins_whole s.split split) stages are.1
  where
    begins_whole : {X : Type 0} (n : ℕ) (xs : List X) → Begins (take n xs) xs
    begins_whole n xs = (drop n xs, sym (take-append-drop n xs))

-- so are those that are left of more
stages_after : (d : Declarations) (table : Terms) (roots split : List TermId) (gone stages : List Stage) → AreStages d table roots split (gone ++ stages) → AreStages d table roots split stages
stages_after d table roots split [] stages are = are
stages_after d table roots split (s ∷ gone) stages are = stages_after d table roots split gone stages (stages_within d table roots split s (gone ++ stages) are)

pub stages_first : (n : ℕ) (stages : List Stage) (d : Declarations) (table : Terms) (roots split : List TermId) → AreStages d table roots split (reverse stages) → AreStages d table roots split (reverse (take n stages))
stages_first n stages d table roots split are =
    stages_after d table roots split (reverse (drop n stages)) (reverse (take n stages))
    (subst (AreStages d table roots split) (ap (λ (l : List Stage). reverse l) (sym (take-append-drop n stages)) ∙ reverse-append (take n stages) (drop n stages)) are)

-- what holds of each stage holds of each in the other order
pub all_reversed : (P : Stage → Type 0) (stages : List Stage) → All P stages → All P (reverse stages)
all_reversed P [] all = λ i x low. absurd (omega (arith, low))
all_reversed P (s ∷ stages) all =
    subst (All P) (sym (reverse-append (s ∷ []) stages))
    (All-append P (reverse stages) (s ∷ []) (all_reversed P stages (All-tail P s stages all)) (All-one P s (All-head P s stages all)))
  where
    All-one : (P : Stage → Type 0) (s : Stage) → P s → All P (s ∷ [])
    All-one P s holds = by
      where
        by : (i : ℕ) (d : Stage) → i < length (s ∷ []) → P (get_or (s ∷ []) i d)
        by zero d low = holds
        by (suc i) d low = absurd (omega (arith, low))

pub top_within : (n : ℕ) (stages : List Stage) → All (λ s. s.roots ≤ n) stages → top_roots stages ≤ n
top_within n [] all = omega arith
top_within n (s ∷ stages) all = All-head (λ (x : Stage). x.roots ≤ n) s stages all

-- ---- the table is taken back to the last stage

stage_back : (d : Declarations) (table : Terms) (roots split : List TermId) (s : Stage) → IsStage d table roots split s → IsStage d (take s.terms table) (take s.roots roots) (take s.split split) s
stage_back d table roots split s st =
    let same_table = take_again s.terms table st.terms in
    let same_roots = take_again s.roots roots st.some_roots in
    let same_split = take_again s.split split st.some_split in
    let long_table : length (take s.terms table) ≡ s.terms = length-take-le s.terms table st.terms in
    let long_roots : length (take s.roots roots) ≡ s.roots = length-take-le s.roots roots st.some_roots in
    let long_split : length (take s.split split) ≡ s.split = length-take-le s.split split st.some_split in
    record {
      earlier = st.earlier;
      consistent = st.consistent;
      extends = st.extends;
      declared = st.declared;
      truths = st.truths;
      terms = omega (arith, long_table);
      few = st.few;
      some_roots = omega (arith, long_roots);
      some_split = omega (arith, long_split);
      booleans = same_booleans (take s.terms table) (take s.terms (take s.terms table)) (take s.roots roots) (take s.roots (take s.roots roots)) same_table same_roots st.booleans;
      closure = same_closure st.earlier (take s.terms table) (take s.terms (take s.terms table)) (take s.roots roots) (take s.roots (take s.roots roots)) (take s.split split) (take s.split (take s.split split)) same_table same_roots same_split st.closure;
    }

pub stages_back : (d : Declarations) (table : Terms) (roots split : List TermId) (stages : List Stage) → AreStages d table roots split stages → AreStages d (take (top_terms stages) table) (take (top_roots stages) roots) (take (top_split stages) split) stages
stages_back d table roots split [] are = tt
stages_back d table roots split (s ∷ stages) are = (
  stage_back d table roots split s are.0,
  same_stages d (take s.terms table) (take s.terms (take s.terms table)) (take s.roots roots) (take s.roots (take s.roots roots)) (take s.split split) (take s.split (take s.split split)) stages
      (take_again s.terms table are.0.terms) (take_again s.roots roots are.0.some_roots) (take_again s.split split are.0.some_split) are.1,
)

-- where the stages are read under another name
pub stages_read : (d : Declarations) (table : Terms) (roots split : List TermId) (read stages : List Stage) → read ≡ stages → AreStages d table roots split (reverse stages) → AreStages d table roots split (reverse read)
stages_read d table roots split read stages same are = subst (λ (l : List Stage). AreStages d table roots split (reverse l)) (sym same) are

-- where the table, its roots and the split terms are taken so
pub stages_taken : (d : Declarations) (table new : Terms) (roots ids split parts : List TermId) (read stages : List Stage) → read ≡ stages → new ≡ take (top_terms (reverse read)) table → ids ≡ take (top_roots (reverse read)) roots → parts ≡ take (top_split (reverse read)) split
    → AreStages d table roots split (reverse stages) → AreStages d new ids parts (reverse stages)
stages_taken d table new roots ids split parts read stages same same_table same_roots same_split are =
    subst (λ (l : List Stage). AreStages d new ids parts (reverse l)) same
    (same_stages d (take (top_terms (reverse read)) table) new (take (top_roots (reverse read)) roots) ids (take (top_split (reverse read)) split) parts (reverse read) same_table same_roots same_split
    (stages_back d table roots split (reverse read) (stages_read d table roots split read stages same are)))

-- what is there then begins as a closure
pub top_closure : (d : Declarations) (table : Terms) (roots split : List TermId) (stages : List Stage)
    → ((e : Declarations) (t : Terms) → IsConsistent e → BeginsClosed e e [] t 0 [])
    → ((later earlier : Declarations) (trees : List CoreTree) (t longer : Terms) (s : List TermId) → IsConsistent earlier → Extends later earlier → Begins t longer → IsClosureOver earlier trees t s → BeginsClosed later earlier trees longer (length t) s)
    → IsConsistent d → AreStages d table roots split stages
    → (earlier : Declarations) × BeginsClosed d earlier (terms_at (take (top_terms stages) table) (take (top_roots stages) roots)) (take (top_terms stages) table) (top_closed stages) (take (top_split stages) split)
top_closure d table roots split [] nothing begins consistent are = (d, nothing d (take 2 table) consistent)
top_closure d table roots split (s ∷ stages) nothing begins consistent are =
    let st = are.0 in
    let terms = take s.terms table in
    let trees = terms_at terms (take s.roots roots) in (
      st.earlier,
      subst (λ (k : ℕ). BeginsClosed d st.earlier trees terms k (take s.split split)) (length-take-le s.terms table st.terms)
          (begins d st.earlier trees terms terms (take s.split split) st.consistent st.extends (Begins-self terms) st.closure),
    )

-- the roots are Boolean, and there are few terms
pub top_booleans : (d : Declarations) (table : Terms) (roots split : List TermId) (stages : List Stage) → AreStages d table roots split stages → All (IsBoolean (take (top_terms stages) table)) (take (top_roots stages) roots)
top_booleans d table roots split [] are = λ i x low. absurd (omega (arith, low))
top_booleans d table roots split (s ∷ stages) are = are.0.booleans

-- ---- a stage more

-- `true` and `false` are there
pub two_there : (table : Terms) → BeginsWithTruths table → 2 ≤ length table
two_there [] begins = absurd (omega (arith, ap (λ (ts : Terms). length ts) begins))
two_there (x ∷ []) begins = absurd (omega (arith, ap (λ (ts : Terms). length ts) begins))
two_there (x ∷ (y ∷ rest)) begins = omega arith

pub stages_with : (d : Declarations) (table : Terms) (roots split : List TermId) (s : Stage) (stages : List Stage) → IsConsistent d → Extends d d → s.declared ≡ lengths d → s.terms ≡ length table → s.roots ≡ length roots → s.split ≡ length split
    → 2 ≤ length table → length table ≤ most_closure_terms → All (IsBoolean table) roots → IsClosureOver d (terms_at table roots) table split → AreStages d table roots split stages → AreStages d table roots split (s ∷ stages)
stages_with d table roots split s stages consistent itself declared all_terms all_roots all_split truths few booleans closure are =
    let same_table : take s.terms table ≡ table = ap (λ (k : ℕ). take k table) all_terms ∙ take-length table in
    let same_roots : take s.roots roots ≡ roots = ap (λ (k : ℕ). take k roots) all_roots ∙ take-length roots in
    let same_split : take s.split split ≡ split = ap (λ (k : ℕ). take k split) all_split ∙ take-length split in (
      record {
        earlier = d;
        consistent = consistent;
        extends = itself;
        declared = declared;
        truths = omega (arith, truths, all_terms);
        terms = omega (arith, all_terms);
        few = omega (arith, few, all_terms);
        some_roots = omega (arith, all_roots);
        some_split = omega (arith, all_split);
        booleans = same_booleans table (take s.terms table) roots (take s.roots roots) same_table same_roots booleans;
        closure = same_closure d table (take s.terms table) roots (take s.roots roots) split (take s.split split) same_table same_roots same_split closure;
      },
      same_stages d table (take s.terms table) roots (take s.roots roots) split (take s.split split) stages same_table same_roots same_split are,
    )

pub stages_put : (d : Declarations) (table : Terms) (roots split : List TermId) (s : Stage) (old new : List Stage) → IsConsistent d → Extends d d → s.declared ≡ lengths d → s.terms ≡ length table → s.roots ≡ length roots → s.split ≡ length split
    → 2 ≤ length table → length table ≤ most_closure_terms → All (IsBoolean table) roots → IsClosureOver d (terms_at table roots) table split
    → (new ≡ old) ⊎ (new ≡ old ++ s ∷ []) → AreStages d table roots split (reverse old) → AreStages d table roots split (reverse new)
stages_put d table roots split s old new consistent itself declared all_terms all_roots all_split truths few booleans closure pushed are = elim pushed [
  | inl same ↦ subst (λ (l : List Stage). AreStages d table roots split (reverse l)) (sym same) are
  | inr more ↦
      subst (AreStages d table roots split) (sym (ap (λ (l : List Stage). reverse l) more ∙ reverse-append old (s ∷ [])))
      (stages_with d table roots split s (reverse old) consistent itself declared all_terms all_roots all_split truths few booleans closure are)
]

-- ---- declarations that grow or are cut

stage_over : (d e : Declarations) (table : Terms) (roots split : List TermId) (s : Stage) → (st : IsStage d table roots split s) → Extends e st.earlier → IsStage e table roots split s
stage_over d e table roots split s st extends = record {
  earlier = st.earlier;
  consistent = st.consistent;
  extends = extends;
  declared = st.declared;
  truths = st.truths;
  terms = st.terms;
  few = st.few;
  some_roots = st.some_roots;
  some_split = st.some_split;
  booleans = st.booleans;
  closure = st.closure;
}

pub stages_later : (d later : Declarations) (table : Terms) (roots split : List TermId) (stages : List Stage) → ((last mid earlier : Declarations) → Extends last mid → Extends mid earlier → Extends last earlier) → Extends later d → AreStages d table roots split stages → AreStages later table roots split stages
stages_later d later table roots split [] further extends are = tt
stages_later d later table roots split (s ∷ stages) further extends are = (
  stage_over d later table roots split s are.0 (further later d are.0.earlier extends are.0.extends),
  stages_later d later (take s.terms table) (take s.roots roots) (take s.split split) stages further extends are.1,
)

-- what was declared when no more was there than at the mark is there after the cut
extends_cut : (d e : Declarations) (m : Lengths) → CanCut d m → IsConsistent e → Extends d e → IsBelowMark m (lengths e) → Extends (cut d m) e
extends_cut d e m can consistent extends below =
    let beside_sorts : m.origins ≡ m.sorts = omega (arith, can.origins.one_each, length-take-le m.origins d.origins can.origins_within, length-take-le m.sorts d.sorts can.sorts_within) in
    let beside_heads : m.spellings ≡ m.heads = omega (arith, can.heads.one_each, length-take-le m.spellings d.spellings can.spellings_within, length-take-le m.heads d.declared.heads can.heads_within) in
    let low_origins : length e.origins ≤ m.origins = let one = consistent.origins.one_each in let low = below.sorts in omega (arith, one, low, beside_sorts) in
    let low_spellings : length e.spellings ≤ m.spellings = let one = consistent.heads.one_each in let low = below.heads in omega (arith, one, low, beside_heads) in
    record {
      sorts = begins_take m.sorts e.sorts d.sorts below.sorts extends.sorts;
      ctors = begins_take m.ctors e.ctors d.ctors below.ctors extends.ctors;
      sels = begins_take m.sels e.sels d.sels below.sels extends.sels;
      functions = begins_take m.functions e.functions d.functions below.functions extends.functions;
      definitions = begins_take m.definitions e.definitions d.definitions below.definitions extends.definitions;
      heads = begins_take m.heads e.declared.heads d.declared.heads below.heads extends.heads;
      synonyms = begins_take m.synonyms e.declared.synonyms d.declared.synonyms below.synonyms extends.synonyms;
      spellings = begins_take m.spellings e.spellings d.spellings low_spellings extends.spellings;
      origins = begins_take m.origins e.origins d.origins low_origins extends.origins;
    }

-- declarations extend those that are left after a cut
pub cut_extends : (d : Declarations) (m : Lengths) → Extends d (cut d m)
cut_extends d m = record {
  sorts = first m.sorts d.sorts;
  ctors = first m.ctors d.ctors;
  sels = first m.sels d.sels;
  functions = first m.functions d.functions;
  definitions = first m.definitions d.definitions;
  heads = first m.heads d.declared.heads;
  synonyms = first m.synonyms d.declared.synonyms;
  spellings = first m.spellings d.spellings;
  origins = first m.origins d.origins;
}
  where
    first : {X : Type 0} (n : ℕ) (xs : List X) → Begins (take n xs) xs
    first n xs = (drop n xs, sym (take-append-drop n xs))

pub stages_cut : (d : Declarations) (m : Lengths) (table : Terms) (roots split : List TermId) (stages : List Stage) → CanCut d m → All (IsBelow m) stages → AreStages d table roots split stages → AreStages (cut d m) table roots split stages
stages_cut d m table roots split [] can all are = tt
stages_cut d m table roots split (s ∷ stages) can all are =
    let below : IsBelowMark m (lengths are.0.earlier) = subst (IsBelowMark m) are.0.declared (All-head (IsBelow m) s stages all) in (
      stage_over d (cut d m) table roots split s are.0 (extends_cut d are.0.earlier m can are.0.consistent are.0.extends below),
      stages_cut d m (take s.terms table) (take s.roots roots) (take s.split split) stages can (All-tail (IsBelow m) s stages all) are.1,
    )
