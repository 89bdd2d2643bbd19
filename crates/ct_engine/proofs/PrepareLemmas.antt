-- What a search begins with.
use Rattle.std.proofs.Common.{◌≡◌, ◌↔◌, ℕ, Bool, false, ◌<◌, ◌≤◌, List, [], ◌∷◌, ◌++◌, length, Some, slice_get, All, Contains, refl, sym, ap, subst, ◌∙◌, arith}
use Rattle.std.proofs.lemmas.Option.{slice_get_within}
use Rattle.std.proofs.lemmas.List.{append-nil}
use Rattle.std.proofs.lemmas.List.Elements.{All-weaker, All-head, All-tail}
use Rattle.ct_lemmas.proofs.Contained.{slice_get-from_Contains}
use Rattle.ct_lemmas.proofs.Each.{All-from_Contains}
use Rattle.ct_lemmas.proofs.Lists.{slice_get-append_left}
use Rattle.ct_sorts.specs.Declarations.{Declarations, bool_sort}
use Rattle.ct_sorts.specs.Grown.{Begins}
use Rattle.ct_terms.specs.declared.ids.TermId.{TermId}
use Rattle.ct_terms.specs.declared.ids.Lit.{Lit}
use Rattle.ct_terms.specs.Literal.{IsStripped}
use Rattle.ct_terms.specs.Terms.{Terms, IsBoolean, AreOrdered, AreSorted}
use Rattle.ct_terms.specs.CoreTree.{CoreTree, term_at}
use Rattle.ct_closure.specs.Closed.{InClosure, HasMoreThan, HasVariables, most_closure_terms}
use Rattle.ct_closure.specs.ClosedTable.{HasTree, IsClosedTable, ClosureValue, terms_at}
use Rattle.ct_log.specs.declared.line.Line.{Line}
use Rattle.ct_log.specs.Acceptance.{AreAccepted, clauses_of}
use Rattle.ct_sat.specs.declared.clause.StepClause.{StepClause}
use Rattle.ct_sat.specs.Learning.{StandAtSteps}
use Rattle.ct_sat.specs.State.{AreVariables, AreOver}
use Rattle.ct_log.specs.Recorded.{Derived}
use Rattle.ct_sat.specs.State.{SearchState, begun, clauses_of as clauses_in}
use Rattle.ct_engine.specs.declared.course.Course.{Course}
use Rattle.ct_clauses.specs.Initial.{AreInitialLines}
use Rattle.ct_base.specs.declared.base.Base.{Base}
use Rattle.ct_base.specs.Base.{IsClosedFor}
use Rattle.ct_engine.specs.declared.closed.Closed.{Closed}
use Rattle.ct_engine.specs.Progress.{IsClosureOf, IsClosed, IsClosedAs, IsBegunOver, IsSearchOver, IsTaskOf, IsAtStart}
use Rattle.ct_engine.proofs.CountLemmas.{few_trees}

-- a term keeps its sort in a longer table
IsBoolean-longer : (table longer : Terms) (t : TermId) → Begins table longer → IsBoolean table t → IsBoolean longer t
IsBoolean-longer table longer t (rest, is) (core, stands) =
    (core, subst (λ (ts : Terms). slice_get ts t.0 ≡ Some (core, bool_sort)) (sym is) (slice_get-append_left table rest t.0 (core, bool_sort) stands))

pub booleans_longer : (table longer : Terms) (asserts : List TermId) → Begins table longer → All (IsBoolean table) asserts → All (IsBoolean longer) asserts
booleans_longer table longer asserts grown all = All-weaker (IsBoolean table) (IsBoolean longer) (λ t h. IsBoolean-longer table longer t grown h) asserts all

-- terms keep their trees
trees_by : (longer table : Terms) (asserts : List TermId) → ((t : TermId) → t.0 < length table → term_at longer t ≡ term_at table t) → All (IsBoolean table) asserts → terms_at longer asserts ≡ terms_at table asserts
trees_by longer table [] same all = refl
trees_by longer table (t ∷ asserts) same all =
    let here : IsBoolean table t = All-head (IsBoolean table) t asserts all in
    let within : t.0 < length table = slice_get_within table t.0 (here.0, bool_sort) here.1 in
    let first : term_at longer t ≡ term_at table t = same t within in
    let rest : terms_at longer asserts ≡ terms_at table asserts = trees_by longer table asserts same (All-tail (IsBoolean table) t asserts all) in
    both (term_at longer t) (term_at table t) (terms_at longer asserts) (terms_at table asserts) first rest
  where
    both : (a b : CoreTree) (xs ys : List CoreTree) → a ≡ b → xs ≡ ys → a ∷ xs ≡ b ∷ ys
    both a b xs ys e f = cc

pub trees_longer : ((table more : Terms) (t : TermId) → AreOrdered (table ++ more) → t.0 < length table → term_at (table ++ more) t ≡ term_at table t) → (table longer : Terms) (asserts : List TermId) → Begins table longer → AreOrdered longer → All (IsBoolean table) asserts → terms_at longer asserts ≡ terms_at table asserts
trees_longer theorem table longer asserts (rest, is) ordered all =
    trees_by longer table asserts
    (λ t within. ap (λ (ts : Terms). term_at ts t) is ∙ theorem table rest t (subst AreOrdered is ordered) within) all

-- a closure that a table of so few terms holds has no more
pub closure_fits : (d : Declarations) (roots : List CoreTree) (table : Terms) → ((t : CoreTree) → HasTree table t ↔ InClosure d roots t) → length table ≤ most_closure_terms → HasMoreThan d roots most_closure_terms → ⊥
closure_fits d roots table exact few more =
    let count : length more.members ≤ length table = few_trees table more.members more.different (λ t h. (exact t).1 (more.inside t h)) in
    let many : most_closure_terms < length more.members = more.many in
    absurd (omega (arith, few))

-- the literals of accepted lines are over the variables
pub lines_over : (d : Declarations) (terms : Terms) (asserts : List TermId) (lines : List Line) (variables : List TermId) → AreVariables terms variables → AreAccepted d terms asserts lines → All (λ (line : Line). AreOver variables line.clause) lines
lines_over d terms asserts lines variables are accepted =
    All-from_Contains (λ (line : Line). AreOver variables line.clause) lines (λ line inside.
    let at = slice_get-from_Contains lines line inside in
    All-weaker (λ (l : Lit). IsStripped terms l.term) (λ (l : Lit). Contains variables l.term) (λ l h. are.each l.term h) line.clause (accepted at.0 line at.1).literals)

-- the closure of assertions is one of itself
closure_of_itself : (d : Declarations) (table closed : Terms) (asserts : List TermId) (closure : ClosureValue) → terms_at closed asserts ≡ terms_at table asserts → IsClosureOf d table asserts closed closure → IsClosureOf d closed asserts closed closure
closure_of_itself d table closed asserts closure same is = record {
  grown = ([], sym (append-nil closed));
  sorted = is.sorted;
  exact = λ t. subst (λ (roots : List CoreTree). HasTree closed t ↔ InClosure d roots t) (sym same) (is.exact t);
  is_closed = is.is_closed;
  split = is.split;
  rising = is.rising;
  variables = subst (λ (roots : List CoreTree). HasVariables d roots closure.variables) (sym same) is.variables;
}

-- a closed table as one value
pub closed_as : (d : Declarations) (table closed : Terms) (asserts roots : List TermId) (closure : ClosureValue) → roots ≡ asserts → terms_at closed asserts ≡ terms_at table asserts → All (IsBoolean closed) asserts → IsClosureOf d table asserts closed closure
    → (made : Closed) → made.table ≡ closed → made.roots.items ≡ roots → made.closure ≡ closure → IsClosedAs d table asserts made
closed_as d table closed asserts roots closure same trees booleans is made same_table same_roots same_closure =
    let ids : made.roots.items ≡ asserts = same_roots ∙ same in
    record {
      is_closed = record {
        closure =
            subst (λ (ts : Terms). IsClosureOf d ts made.roots.items ts made.closure) (sym same_table)
            (subst (λ (l : List TermId). IsClosureOf d closed l closed made.closure) (sym ids)
            (subst (λ (v : ClosureValue). IsClosureOf d closed asserts closed v) (sym same_closure) (closure_of_itself d table closed asserts closure trees is)));
        booleans = subst (λ (ts : Terms). All (IsBoolean ts) made.roots.items) (sym same_table) (subst (All (IsBoolean closed)) (sym ids) booleans);
      };
      trees =
          ap (λ (ts : Terms). terms_at ts made.roots.items) same_table ∙ ap (λ (l : List TermId). terms_at closed l) ids ∙ trees;
    }

-- the closed table of a base, copied
pub closed_from : (d : Declarations) (table : Terms) (asserts : List TermId) (base : Base) (closure : ClosureValue) → IsClosedFor d (terms_at table asserts) base closure
    → (made : Closed) → made.table ≡ base.table → made.roots.items ≡ base.roots.items → made.closure ≡ closure → IsClosedAs d table asserts made
closed_from d table asserts base closure is made same_table same_roots same_closure =
    let own : IsClosureOf d base.table base.roots.items base.table closure = record {
      grown = ([], sym (append-nil base.table));
      sorted = is.sorted;
      exact = λ t. subst (λ (trees : List CoreTree). HasTree base.table t ↔ InClosure d trees t) (sym is.roots) (is.exact t);
      is_closed = is.is_closed;
      split = is.splits;
      rising = is.rising;
      variables = subst (λ (trees : List CoreTree). HasVariables d trees closure.variables) (sym is.roots) is.variables;
    } in
    let whole = closed_as d base.table base.table base.roots.items base.roots.items closure refl refl is.booleans own made same_table same_roots same_closure in
    record { is_closed = whole.is_closed; trees = whole.trees ∙ is.roots }

-- a search over the closure of the assertions is of their task
pub IsTaskOf-begun : (d : Declarations) (table closed : Terms) (asserts roots : List TermId) (budget : ℕ) (closure : ClosureValue) (course : Course) → terms_at closed roots ≡ terms_at table asserts → IsClosureOf d closed roots closed closure → IsBegunOver d closed roots course.derivation → IsSearchOver course.derivation budget course.search → course.variables ≡ closure.variables → IsTaskOf d table asserts course
IsTaskOf-begun d table closed asserts roots budget closure course same closed_is begun_is over counted = record {
  declarations = begun_is.declarations;
  asserted = ap (λ (ts : Terms). terms_at ts course.derivation.asserts) begun_is.terms_are ∙ ap (λ (ids : List TermId). terms_at closed ids) begun_is.asserts_are ∙ same;
  closure = λ t.
      subst (λ (ts : Terms). HasTree ts t ↔ InClosure d (terms_at table asserts) t) (sym begun_is.terms_are)
      (subst (λ (trees : List CoreTree). HasTree closed t ↔ InClosure d trees t) same (closed_is.exact t));
  variables =
      subst (HasVariables d (terms_at table asserts)) (sym counted)
      (subst (λ (trees : List CoreTree). HasVariables d trees closure.variables) same closed_is.variables);
  sorted = subst (AreSorted d) (sym begun_is.terms_are) closed_is.sorted;
  is_closed = subst (IsClosedTable d) (sym begun_is.terms_are) closed_is.is_closed;
}

-- and it is at its start
pub IsAtStart-begun : (d : Declarations) (closed : Terms) (roots : List TermId) (budget : ℕ) (closure : ClosureValue) (course : Course) → IsClosureOf d closed roots closed closure → IsBegunOver d closed roots course.derivation → IsSearchOver course.derivation budget course.search → course.moves.items ≡ [] → course.initial ≡ length course.derivation.rec.lines → course.kept ≡ 0 → IsAtStart d course
IsAtStart-begun d closed roots budget closure course closed_is begun_is over moves initial kept =
    let derived = course.derivation in
    record {
      decided = ap (λ (s : SearchState). s.decided) over.only_begun;
      moves = moves;
      initial = initial;
      kept = kept;
      closure = λ t.
          subst (λ (ids : List TermId). HasTree derived.rec.terms t ↔ InClosure d (terms_at derived.rec.terms ids) t) (sym begun_is.asserts_are)
          (subst (λ (ts : Terms). HasTree ts t ↔ InClosure d (terms_at ts roots) t) (sym begun_is.terms_are) (closed_is.exact t));
      lines =
          subst (λ (ids : List TermId). AreInitialLines d derived.rec.terms ids derived.rec.lines) (sym begun_is.asserts_are)
          (subst (λ (ts : Terms). AreInitialLines d ts roots derived.rec.lines) (sym begun_is.terms_are) begun_is.lines);
    }

-- it begins over its own declarations, terms and assertions
pub IsBegunOver-itself : (d : Declarations) (terms : Terms) (asserts : List TermId) (derived : Derived) → IsBegunOver d terms asserts derived → IsBegunOver derived.declarations derived.rec.terms derived.asserts derived
IsBegunOver-itself d terms asserts derived is =
    subst (λ (ids : List TermId). IsBegunOver derived.declarations derived.rec.terms ids derived) (sym is.asserts_are)
    (subst (λ (ts : Terms). IsBegunOver derived.declarations ts asserts derived) (sym is.terms_are)
    (subst (λ (e : Declarations). IsBegunOver e terms asserts derived) (sym is.declarations) is))

-- a search that has only the clauses of the lines
pub IsSearchOver-from : (derived : Derived) (budget : ℕ) (first search : SearchState) (terms : Terms) (lines : List Line) → terms ≡ derived.rec.terms → lines ≡ derived.rec.lines → first ≡ begun first.variables budget → AreVariables terms first.variables → clauses_in search.clauses ≡ clauses_of lines → StandAtSteps search.clauses (clauses_of lines) → search ≡ record first { clauses = search.clauses; propagated = search.propagated } → IsSearchOver derived budget search
IsSearchOver-from derived budget first search terms lines same_terms same_lines is variables clauses numbered same =
    let over : search.variables ≡ first.variables = ap (λ (s : SearchState). s.variables) same in
    record {
      variables = subst (λ (ts : Terms). AreVariables ts search.variables) same_terms (subst (AreVariables terms) (sym over) variables);
      clauses = clauses ∙ ap clauses_of same_lines;
      numbered = subst (λ (ls : List Line). StandAtSteps search.clauses (clauses_of ls)) same_lines numbered;
      only_begun = same
          ∙ ap (λ (s : SearchState). record s { clauses = search.clauses; propagated = search.propagated }) is
          ∙ ap (λ (vs : List TermId). record (begun vs budget) { clauses = search.clauses; propagated = search.propagated }) (sym over);
    }

-- only clauses changed, and clauses only
pub same_but_clauses : (first old new : SearchState) (clauses : List StepClause) → old ≡ record first { clauses = old.clauses; propagated = old.propagated } → new ≡ record old { clauses = clauses; propagated = false } → new ≡ record first { clauses = new.clauses; propagated = new.propagated }
same_but_clauses first old new clauses same is =
    is
    ∙ ap (λ (s : SearchState). record s { clauses = clauses; propagated = false }) same
    ∙ ap (λ (cs : List StepClause). record first { clauses = cs; propagated = false }) (sym (ap (λ (s : SearchState). s.clauses) is))
    ∙ ap (λ (b : Bool). record first { clauses = new.clauses; propagated = b }) (sym (ap (λ (s : SearchState). s.propagated) is))
