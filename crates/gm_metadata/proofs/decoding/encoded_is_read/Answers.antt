use Rattle.gm_metadata.proofs.Read.{encoded_decodes, encoded_reads}
use Rattle.gm_metadata.proofs.decoding.encoded_is_read.Goals as goal

pub returns-clause-metadata : goal.returns-clause-metadata
returns-clause-metadata c = encoded_decodes

pub returns-clause-version : goal.returns-clause-version
returns-clause-version c = encoded_reads
