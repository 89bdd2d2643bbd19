use Rattle.ct_command.specs.Reading.{command}
use Rattle.ct_step.specs.Step.{counted}
use Rattle.ct_script.proofs.OneStackLemmas.{steps_one, steps_stop, check_rests, replayed_alike, replayed_counted, replayed_told, leads_alike, leads_counted, answers_through}
use Rattle.ct_script.proofs.theorems.replayed_scripts.Goals as goal

pub returns-clause-step : goal.returns-clause-step
returns-clause-step c = λ s t number count line read e f one h k. steps_one c.additions.ensures.same s t number count line read e f one h k

pub returns-clause-stop : goal.returns-clause-stop
returns-clause-stop c = λ s t number count line read e f one decided h k. steps_stop c.additions.ensures.same s t number count line read e f one h k decided

pub returns-clause-check : goal.returns-clause-check
returns-clause-check c = check_rests

pub returns-clause-replayed : goal.returns-clause-replayed
returns-clause-replayed c = λ s number line x e old new standing r one step replays.
    replayed_alike c.additions.ensures.same s (counted number x) old new standing line (command x) e r one step replays

pub returns-clause-counted : goal.returns-clause-counted
returns-clause-counted c = λ line x old new standing r replays. replayed_counted old new standing line (command x) r replays

pub returns-clause-told : goal.returns-clause-told
returns-clause-told c = λ line x old new standing r replays. replayed_told old new standing line (command x) r replays

pub returns-clause-replay : goal.returns-clause-replay
returns-clause-replay c = leads_alike c.additions.ensures.same

pub returns-clause-count : goal.returns-clause-count
returns-clause-count c = leads_counted

pub returns-clause-through : goal.returns-clause-through
returns-clause-through c = answers_through c.additions.ensures.same
