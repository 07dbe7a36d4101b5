use Rattle.spec_format.proofs.Chains.{chain_keys, chain_lawful}
use Rattle.spec_format.proofs.shape_laws.chain_is_lawful.Goals as goal

pub returns-clause-lawful : goal.returns-clause-lawful
returns-clause-lawful c = chain_lawful

pub returns-clause-keys : goal.returns-clause-keys
returns-clause-keys c = chain_keys
