use Rattle.ct_lemmas.proofs.Options.{IfOk-map}
use Rattle.ct_generics.proofs.NodeLemmas.{Stands-stay}
use Rattle.ct_generics.proofs.nodes.Expressions.apply.Goals as goal

pub returns-clause-ok : goal.returns-clause-ok
returns-clause-ok c =
    IfOk-map c.add.result _ _ (λ n at e a first second. (c.args.m, c.args.k, at, Stands-stay c.args.self.now c.add.new.self c.args.m.0 e c.add.ensures.stay first, Stands-stay c.args.self.now c.add.new.self c.args.k.0 a c.add.ensures.stay second)) c.add.ensures.ok
