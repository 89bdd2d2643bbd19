use Rattle.ct_sexpr.proofs.Opened.{open_of-finish}
use Rattle.ct_sexpr.proofs.open_lists.OpenLists.finish.Goals as goal

pub returns-clause-command : goal.returns-clause-command
returns-clause-command c =
    (open_of-finish c.self.inside.lists.items c.pop.new.self.items c.in-Some.items c.args.self.now c.self.view_is c.in-Some.ensures.items c.requires.one).0
