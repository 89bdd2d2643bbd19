use Rattle.ct_values.proofs.ChainLemmas.{node_chain, value_chain, no_way_back}
use Rattle.ct_values.proofs.PathLemmas.{node_path, value_path}
use Rattle.ct_values.proofs.theorems.finite_values.Goals as goal

pub returns-clause-finite : goal.returns-clause-finite
returns-clause-finite c = λ d g v path finite along. value_path d g finite v path along

pub returns-clause-finite_node : goal.returns-clause-finite_node
returns-clause-finite_node c = λ d g n path finite along. node_path d g finite n path along

pub returns-clause-chain : goal.returns-clause-chain
returns-clause-chain c = λ d g v chain formed along. value_chain d g formed.fits formed.finite v chain along

pub returns-clause-chain_node : goal.returns-clause-chain_node
returns-clause-chain_node c = λ d g n chain formed along. node_chain d g formed.fits formed.finite n chain along

pub returns-clause-no_cycle : goal.returns-clause-no_cycle
returns-clause-no_cycle c = λ d g v chain last formed along back. no_way_back d g formed.fits formed.finite v chain last along back
