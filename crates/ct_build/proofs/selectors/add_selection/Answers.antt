use Rattle.std.proofs.Common.{◌≡◌, ◌<◌, ◌++◌, ◌∷◌, [], List, length, get_or, slice_get, Some, option_map, refl, sym, ◌∙◌, ap, subst, arith}
use Rattle.std.proofs.lemmas.Option.{slice_get-get_or, same_Some}
use Rattle.ct_sorts.specs.declared.ids.CtorId.{CtorId}
use Rattle.ct_sorts.specs.Declarations.{Declarations, Selector}
use Rattle.ct_values.specs.declared.node.NodeId.{NodeId}
use Rattle.ct_terms.specs.declared.term.Core.TheVariants.{Sel}
use Rattle.ct_terms.specs.Terms.{Terms, Has}
use Rattle.ct_eval.specs.EvaluationStep.{node_under}
use Rattle.ct_eval.specs.Interpretation.{FitsRow}
use Rattle.ct_build.specs.ClassValues.{IsBuiltBy}
use Rattle.ct_build.specs.Tables.{IsWronglyApplied}
use Rattle.ct_build.proofs.RowLemmas.{selector_rows_skip, selector_rows_more, right_selection}
use Rattle.ct_build.proofs.TableLemmas.{at_ok, selectors_more, selection_fits, selection_inside, selection_within}
use Rattle.ct_build.proofs.selectors.add_selection.Goals as goal

pub sel_ctor-requires : goal.sel_ctor-requires
sel_ctor-requires c =
    let state = c.args.classes.now in
    let stands : Has state.terms (Sel c.in-Sel.s c.in-Sel.of) c.args.t.0 = rw (← c.in-Sel.is, ← c.table.ensures.value) c.core.ensures.value in
    record { inside = subst (λ (d : Declarations). c.in-Sel.s.0 < length d.sels) (sym c.signature.ensures.value) (selection_inside state.declarations state.terms c.table.ensures.sorted c.args.t c.in-Sel.of c.in-Sel.s stands) }

pub add_first-requires : goal.add_first-requires
add_first-requires c =
    let state = c.args.classes.now in
    let stands : Has state.terms (Sel c.in-Sel.s c.in-Sel.of) c.args.t.0 = rw (← c.in-Sel.is, ← c.table.ensures.value) c.core.ensures.value in
    record { within = omega (arith, c.requires.one_each, selection_inside state.declarations state.terms c.table.ensures.sorted c.args.t c.in-Sel.of c.in-Sel.s stands); seen = c.requires.seen }

pub returns-in_ok-push-in-Sel-clause-selectors : goal.returns-in_ok-push-in-Sel-clause-selectors
returns-in_ok-push-in-Sel-clause-selectors c =
    let state = c.args.classes.now in
    let d = state.declarations in
    let nodes = c.args.nodes.now in
    let s = c.in-Sel.s in
    let of = c.in-Sel.of in
    let n = get_or nodes of.0 (record { 0 = 0 }) in
    let m = get_or nodes c.args.t.0 (record { 0 = 0 }) in
    let stands : Has state.terms (Sel s of) c.args.t.0 = rw (← c.in-Sel.is, ← c.table.ensures.value) c.core.ensures.value in
    let at_of : slice_get nodes of.0 ≡ Some n = slice_get-get_or nodes of.0 (record { 0 = 0 }) (omega (arith, c.requires.long, selection_within d state.terms c.table.ensures.sorted c.args.t of s stands)) in
    let at : slice_get nodes c.args.t.0 ≡ Some m = slice_get-get_or nodes c.args.t.0 (record { 0 = 0 }) (omega (arith, c.requires.long, c.requires.inside)) in
    let is : c.new.result ≡ n ∷ [] = c.new.ensures.value ∙ c.in_ok-push-in-Sel.ensures.items ∙ ap (λ (l : List NodeId). l ++ n ∷ []) c.new-args.ensures.items in
    at_ok c.add_first.result c.add_first.ensures.added (λ adds g have old.
    selectors_more d g c.args.tables.now.items c.add_first.new.tables.items s.0 (record { args = c.new.result; result = m }) old adds (λ selector ctor declared built.
    subst (λ (l : List NodeId). FitsRow d g (ctor.sort ∷ []) selector.sort (record { args = l; result = m })) (sym is)
    (selection_fits d g state.terms nodes c.table.ensures.sorted have c.args.t of s stands.0 n m stands.1 at_of at selector ctor declared built)))

pub returns-in_ok-push-in-Sel-clause-rows : goal.returns-in_ok-push-in-Sel-clause-rows
returns-in_ok-push-in-Sel-clause-rows c =
    let state = c.args.classes.now in
    let nodes = c.args.nodes.now in
    let s = c.in-Sel.s in
    let of = c.in-Sel.of in
    let m = get_or nodes c.args.t.0 (record { 0 = 0 }) in
    let stands : Has state.terms (Sel s of) c.args.t.0 = rw (← c.in-Sel.is, ← c.table.ensures.value) c.core.ensures.value in
    let selects = c.table.ensures.sorted c.args.t.0 (Sel s of) stands.0 stands.1 in
    let ctor : option_map (λ (x : Selector). x.ctor) (slice_get state.declarations.sels s.0) ≡ Some c.sel_ctor.result =
    subst (λ (d : Declarations). option_map (λ (x : Selector). x.ctor) (slice_get d.sels s.0) ≡ Some c.sel_ctor.result) c.signature.ensures.value c.sel_ctor.ensures.value in
    let same : c.sel_ctor.result ≡ selects.selector.ctor = same_Some _ _ (sym ctor ∙ ap (option_map (λ (x : Selector). x.ctor)) selects.declared) in
    let none = rw c.if-is_of.false at c.is_of.ensures.value in
    let wrong : IsWronglyApplied state selects.selector of = λ args built. none args (subst (λ (k : CtorId). IsBuiltBy state of k args) (sym same) built) in
    let is : c.new.result ≡ node_under nodes of ∷ [] = c.new.ensures.value ∙ c.in_ok-push-in-Sel.ensures.items ∙ ap (λ (l : List NodeId). l ++ node_under nodes of ∷ []) c.new-args.ensures.items in
    at_ok c.add_first.result c.add_first.ensures.added (λ adds before. selector_rows_more state nodes c.args.t s of selects.selector (record { args = c.new.result; result = m }) c.args.tables.now.items c.add_first.new.tables.items stands selects.declared wrong is refl adds before)

pub returns-then-is_of-clause-rows : goal.returns-then-is_of-clause-rows
returns-then-is_of-clause-rows c = λ before.
    let state = c.args.classes.now in
    let s = c.in-Sel.s in
    let of = c.in-Sel.of in
    let stands : Has state.terms (Sel s of) c.args.t.0 = rw (← c.in-Sel.is, ← c.table.ensures.value) c.core.ensures.value in
    let ctor : option_map (λ (x : Selector). x.ctor) (slice_get state.declarations.sels s.0) ≡ Some c.sel_ctor.result =
    subst (λ (d : Declarations). option_map (λ (x : Selector). x.ctor) (slice_get d.sels s.0) ≡ Some c.sel_ctor.result) c.signature.ensures.value c.sel_ctor.ensures.value in
    let found = rw c.if-is_of.true at c.is_of.ensures.value in
    selector_rows_skip state c.args.nodes.now c.args.t (Sel s of) c.args.tables.now.items stands (λ q other selector same declared wrong.
    right_selection state s q of other c.sel_ctor.result found.0 selector found.1 ctor same declared wrong) before

pub returns-in_default : goal.returns-in_default
returns-in_default c =
    let state = c.args.classes.now in
    let stands : Has state.terms c.core.result.now c.args.t.0 = subst (λ (terms : Terms). Has terms c.core.result.now c.args.t.0) c.table.ensures.value c.core.ensures.value in
    record {
      one_each = c.requires.one_each;
      selectors = λ g have old. old;
      seen = c.requires.seen;
      rows = λ before. selector_rows_skip state c.args.nodes.now c.args.t c.core.result.now c.args.tables.now.items stands (λ s of selector same declared wrong. c.in_default.not-Sel s of same) before;
    }
