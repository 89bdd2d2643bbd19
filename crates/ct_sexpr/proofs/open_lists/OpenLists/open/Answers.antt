use Rattle.ct_sexpr.proofs.Opened.{open_of-push}
use Rattle.ct_sexpr.proofs.open_lists.OpenLists.open.Goals as goal

pub returns-clause-ok : goal.returns-clause-ok
returns-clause-ok c = rw c.in_ok-push.ensures.items (open_of-push c.self.inside.lists.items _ c.args.self.now c.self.view_is c.new.ensures.items)
