use Rattle.ct_value_text.proofs.SortTextLemmas.{TextTheorems}
use Rattle.ct_readback.proofs.PrintedModels.{model_reads_back, command_reads_back}
use Rattle.ct_readback.proofs.theorems.printed_models.Goals as goal

-- the theorems on texts that the call gives
texts : goal.After-written_texts → TextTheorems
texts c = record { same_text = c.written_texts.ensures.same_text; one_name = c.written_texts.ensures.one_name }

pub returns-clause-written : goal.returns-clause-written
returns-clause-written c = λ d sizes i text consistent proper range is. model_reads_back (texts c) d sizes i text consistent proper range is

pub returns-clause-read : goal.returns-clause-read
returns-clause-read c = λ d sizes i text e consistent proper range is command. command_reads_back (texts c) d sizes i text consistent proper range is e command
