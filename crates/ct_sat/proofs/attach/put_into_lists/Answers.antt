use Rattle.std.proofs.Common.{refl, inl}
use Rattle.ct_lemmas.proofs.Lists.{slice_get-set_same}
use Rattle.ct_sat.proofs.AttachLemmas.{chosen, second-watched, second-room}
use Rattle.ct_sat.proofs.attach.put_into_lists.Goals as goal

pub link-requires-clause-watched : goal.link-requires-clause-watched
link-requires-clause-watched c = (chosen c.args.one c.args.other, c.args.other, 0, slice_get-set_same c.args.watches.now.of_clauses.items c.args.clause (chosen c.args.one c.args.other) c.requires.within, inl (refl, refl, refl))

pub link-requires-2-clause-watched : goal.link-requires-2-clause-watched
link-requires-2-clause-watched c = second-watched c.args.watches.now.of_clauses.items c.link.new.watches.of_clauses.items c.args.watches.now.lists.items c.link.new.watches.lists.items c.args.clause c.args.one c.args.other c.link.ensures.linked c.requires.within

pub link-requires-2-clause-room : goal.link-requires-2-clause-room
link-requires-2-clause-room c = second-room c.args.watches.now.of_clauses.items c.link.new.watches.of_clauses.items c.args.watches.now.lists.items c.link.new.watches.lists.items c.args.clause (chosen c.args.one c.args.other) c.args.one c.args.other c.link.ensures.linked c.requires.differ c.requires.few_other
