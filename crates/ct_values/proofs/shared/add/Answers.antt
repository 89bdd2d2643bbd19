use Rattle.std.proofs.Common.{◌≡◌, ℕ, List, [], ◌∷◌, ◌++◌, ap, ◌∙◌}
use Rattle.ct_values.proofs.SharedLemmas.{IsShared-added, IsRepresentative-added}
use Rattle.ct_values.proofs.shared.add.Goals as goal

pub returns-clause-shared : goal.returns-clause-shared
returns-clause-shared c =
    let done = c.in_ok-n.ensures in
    let pushed : c.push.new.self.items ≡ c.reserve.new.self.items ++ c.in_ok-n.n.0 ∷ [] = rw c.unwrap.ensures at c.push.ensures.items in
    let items : c.push.new.self.items ≡ c.args.classes.now.items ++ c.in_ok-n.n.0 ∷ [] = pushed ∙ ap (λ (cs : List ℕ). cs ++ c.in_ok-n.n.0 ∷ []) c.reserve.ensures.items in
    IsShared-added c.args.graph.now c.push_keyed.new.self c.args.classes.now.items c.push.new.self.items c.args.representatives.now c.push_keyed.new.representatives c.args.key c.args.node c.in_ok-n.n.0 c.requires.shared c.requires.below c.requires.key c.requires.absent done.found done.stay done.only done.ok.0 done.ok.1 items

pub returns-clause-first : goal.returns-clause-first
returns-clause-first c =
    let done = c.in_ok-n.ensures in
    IsRepresentative-added c.args.graph.now c.push_keyed.new.self c.args.classes.now.items c.args.representatives.now c.args.key c.args.node c.in_ok-n.n c.requires.shared c.requires.below c.requires.key c.requires.absent done.ok.0 done.ok.1
