use Rattle.ct_lemmas.proofs.Options.{OnOk-map}
use Rattle.ct_generics.proofs.RefusalLemmas.{found-below, shape-passed, shape-refused}
use Rattle.ct_generics.proofs.refusal.refuse_shape.Goals as goal

pub returns-clause-ok : goal.returns-clause-ok
returns-clause-ok c =
    OnOk-map c.refuse_findings.result _ _ (λ passes n hs all.
    let uniform = (c.in_ok-are_uniform.ensures.uniform hs all).0 c.if-not-branch.false in
    let found = found-below c.args.first c.args.heads.now hs c.in_ok-found.found all (c.in_ok-found.ensures.found hs all) in
    shape-passed c.args.first c.args.kind hs n uniform (passes c.args.first n hs found)) c.refuse_findings.ensures.ok

pub returns-clause-refused : goal.returns-clause-refused
returns-clause-refused c n hs e all =
    let uniform = (c.in_ok-are_uniform.ensures.uniform hs all).0 c.if-not-branch.false in
    let found = found-below c.args.first c.args.heads.now hs c.in_ok-found.found all (c.in_ok-found.ensures.found hs all) in
    shape-refused c.args.first c.args.kind hs n uniform (c.refuse_findings.ensures.refused c.args.first n hs e found)
