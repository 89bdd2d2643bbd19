use Rattle.std.proofs.Common.{◌∙◌, ℕ, map, OnOk, sym, subst}
use Rattle.ct_lemmas.proofs.Options.{OnOk-map}
use Rattle.ct_sorts.specs.declared.ids.Kind.{Kind}
use Rattle.ct_sorts.specs.Block.{IsBlockRefusal, IsWithBlock}
use Rattle.ct_command.specs.Seen.{head_seen, body_seen}
use Rattle.ct_stack.proofs.BlockLemmas.{types_accepted, types_refused}
use Rattle.ct_stack.proofs.block.declare_block.Goals as goal

pub returns-clause-ok : goal.returns-clause-ok
returns-clause-ok c =
    let decls = c.in_ok-decls.decls.items in
    OnOk-map c.add_block.result _ _
    (λ h. (decls, h.0, c.in_ok-decls.ensures.ok, subst (λ (k : Kind). IsWithBlock c.args.sig.now k decls h.0 c.add_block.new.sig) c.kind_of.ensures.value h.1))
    c.add_block.ensures.ok

pub returns-clause-accepted : goal.returns-clause-accepted
returns-clause-accepted c =
    let decls = c.in_ok-decls.decls.items in
    types_accepted c.args.sig.now c.args.family (map head_seen c.args.heads.now) (map body_seen c.args.bodies.now) decls c.in_ok-decls.ensures.ok (sym c.are_counted.ensures.value ∙ c.if-not-are_counted.false) (sym c.in_ok-have_repeated_parameter.ensures.value ∙ c.if-branch.false) c.add_block.result
    (subst (λ (k : Kind). OnOk c.add_block.result ((n : ℕ) → IsBlockRefusal c.args.sig.now k decls n → ⊥)) c.kind_of.ensures.value c.add_block.ensures.accepted)

pub returns-clause-refused : goal.returns-clause-refused
returns-clause-refused c = λ n e.
    let decls = c.in_ok-decls.decls.items in
    types_refused c.args.sig.now c.args.family (map head_seen c.args.heads.now) (map body_seen c.args.bodies.now) decls c.in_ok-decls.ensures.ok (sym c.are_counted.ensures.value ∙ c.if-not-are_counted.false) (sym c.in_ok-have_repeated_parameter.ensures.value ∙ c.if-branch.false) n
    (subst (λ (k : Kind). IsBlockRefusal c.args.sig.now k decls n) c.kind_of.ensures.value (c.add_block.ensures.refused n e))
