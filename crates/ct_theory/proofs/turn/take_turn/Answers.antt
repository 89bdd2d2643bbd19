use Rattle.std.proofs.Common.{List, ◌∙◌}
use Rattle.ct_lemmas.proofs.Options.{IfOk-map, OnOk-map}
use Rattle.ct_sorts.specs.Declarations.{Declarations}
use Rattle.ct_terms.specs.declared.ids.Lit.{Lit}
use Rattle.ct_terms.specs.Terms.{Terms}
use Rattle.ct_theory.specs.declared.turn.Turn.{Turn}
use Rattle.ct_theory.specs.Consulting.{IsUnderWay, IsTurn}
use Rattle.ct_theory.proofs.TurnLemmas.{IsUnderWay-continues}
use Rattle.ct_theory.proofs.AnswerLemmas.{HaveMerges, Connect, AreAllStripped-continues, IsTurn-since, unequal-continues}
use Rattle.ct_theory.proofs.turn.take_turn.Goals as goal

pub clash-requires-clause-stripped : goal.clash-requires-clause-stripped
clash-requires-clause-stripped c = AreAllStripped-continues c.args.classes.now c.close_or_clash.new.self c.in_ok-closed.ensures.continues c.requires.stripped

pub turn_of_quiet-requires-clause-stripped : goal.turn_of_quiet-requires-clause-stripped
turn_of_quiet-requires-clause-stripped c = AreAllStripped-continues c.args.classes.now c.close_or_clash.new.self c.in_ok-closed.ensures.continues c.requires.stripped

pub returns-in-Quiet-clause-marks : goal.returns-in-Quiet-clause-marks
returns-in-Quiet-clause-marks c =
    OnOk-map c.turn_of_quiet.result _ _ (λ same. same ∙ c.in_ok-closed.ensures.continues.marks) c.turn_of_quiet.ensures.marks

pub returns-in-Quiet-clause-under_way : goal.returns-in-Quiet-clause-under_way
returns-in-Quiet-clause-under_way c =
    OnOk-map c.turn_of_quiet.result _ _
    (λ keeps d terms literals under. keeps d terms literals (IsUnderWay-continues d terms literals c.args.classes.now under c.close_or_clash.new.self c.in_ok-closed.ensures.continues c.in_ok-closed.ensures.given))
    c.turn_of_quiet.ensures.under_way

pub returns-in-Quiet-clause-turn : goal.returns-in-Quiet-clause-turn
returns-in-Quiet-clause-turn c =
    let old = c.args.classes.now in
    let mid = c.close_or_clash.new.self in
    let new = c.turn_of_quiet.new.classes in
    let later = c.in_ok-closed.ensures.continues in
    let connect : Connect = record { more = c.classes_of_merges.ensures.connected_more; sides = c.classes_of_merges.ensures.connected_merge } in
    let before : HaveMerges old = record { long = c.merges.ensures.long; connected = c.merges.ensures.connected; equal = c.merges.ensures.equal; states = c.merges.ensures.states } in
    let after : HaveMerges mid = record { long = c.merges-2.ensures.long; connected = c.merges-2.ensures.connected; equal = c.merges-2.ensures.equal; states = c.merges-2.ensures.states } in
    let falls = unequal-continues old mid connect before after later in
    IfOk-map c.turn_of_quiet.result
    (λ (t : Turn). (d : Declarations) (terms : Terms) (literals : List Lit) → IsUnderWay d terms literals mid → IsTurn d terms literals mid new t)
    (λ (t : Turn). (d : Declarations) (terms : Terms) (literals : List Lit) → IsUnderWay d terms literals old → IsTurn d terms literals old new t)
    (λ t turned d terms literals under. IsTurn-since d terms literals old mid new t falls (turned d terms literals (IsUnderWay-continues d terms literals old under mid later c.in_ok-closed.ensures.given)))
    c.turn_of_quiet.ensures.turn

pub clash-requires-clause-forest : goal.clash-requires-clause-forest
clash-requires-clause-forest c =
    let later = c.in_ok-closed.ensures.continues in
    c.kept_forests.ensures.more c.args.classes.now c.close_or_clash.new.self later.more later.terms later.merges c.args.forest.now c.requires.forest

pub turn_of_quiet-requires-clause-forest : goal.turn_of_quiet-requires-clause-forest
turn_of_quiet-requires-clause-forest c =
    let later = c.in_ok-closed.ensures.continues in
    c.kept_forests.ensures.more c.args.classes.now c.close_or_clash.new.self later.more later.terms later.merges c.args.forest.now c.requires.forest
