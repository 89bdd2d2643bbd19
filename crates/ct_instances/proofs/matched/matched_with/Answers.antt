use Rattle.std.proofs.Common.{List, map, ap, ◌∙◌}
use Rattle.ct_lemmas.proofs.Options.{IfOk-map}
use Rattle.ct_lemmas.proofs.Prefixes.{nothing_left}
use Rattle.ct_sorts.specs.declared.ids.SortId.{SortId}
use Rattle.ct_instances.specs.Among.{origin_of}
use Rattle.ct_instances.specs.Left.{fields_left, assignment_of}
use Rattle.ct_instances.specs.Matching.{all_matched}
use Rattle.ct_instances.proofs.MatchLemmas.{is_matched, takes_found}
use Rattle.ct_instances.proofs.matched.matched_with.Goals as goal

pub returns-clause-value : goal.returns-clause-value
returns-clause-value c =
    let d = c.args.sig.now in
    let m = c.loop-left.matching in
    let whole = c.loop-left.invariant.comes ∙ ap (λ (ss : List SortId). all_matched (fields_left d m) (map (origin_of d) ss) (assignment_of d m)) (nothing_left c.loop-left.left.now c.in_default.len_below) in
    IfOk-map c.sorts.result _ _ (λ found h. is_matched d _ (assignment_of d m) found whole h) (c.sorts.ensures.sorts d)

pub returns-clause-inside : goal.returns-clause-inside
returns-clause-inside c = c.sorts.ensures.inside c.args.sig.now c.loop-left.invariant.inside

pub returns-clause-takes : goal.returns-clause-takes
returns-clause-takes c =
    let head = c.requires.ctor.1.0 in
    let m = c.loop-left.matching in
    IfOk-map c.sorts.result _ _ (λ found h. takes_found c.args.sig.now c.args.g head.0 head.1 m c.loop-left.invariant.generic c.loop-left.invariant.inside.params found h) c.sorts.ensures.long
