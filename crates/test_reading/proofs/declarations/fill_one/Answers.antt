use Rattle.ct_cases.proofs.GrownLemmas.{by_equal}
use Rattle.test_reading.proofs.declarations.fill_one.Goals as goal

pub returns-in_ok-add_fun-in-functions : goal.returns-in_ok-add_fun-in-functions
returns-in_ok-add_fun-in-functions c = record { grown = by_equal _ _ _ c.in_ok-add_fun-in-functions.ensures.ok.1 (c.growth.ensures.function c.args.sig.now _) }

pub returns-in_ok-add_def-in-definitions : goal.returns-in_ok-add_def-in-definitions
returns-in_ok-add_def-in-definitions c = record { grown = by_equal _ _ _ c.in_ok-add_def-in-definitions.ensures.ok.1 (c.growth.ensures.definition c.args.sig.now _) }

pub returns-in_ok-add_free-in-sorts : goal.returns-in_ok-add_free-in-sorts
returns-in_ok-add_free-in-sorts c = record { grown = by_equal _ _ _ c.in_ok-add_free-in-sorts.ensures.ok.1 (c.growth.ensures.sort c.args.sig.now _) }
