use Rattle.perm_parse.proofs.RoundTrip.{reads_back, reads_only_back}
use Rattle.perm_parse.proofs.reads_back.Goals as goal

pub returns-clause-read : goal.returns-clause-read
returns-clause-read c = reads_back

pub returns-clause-alone : goal.returns-clause-alone
returns-clause-alone c = reads_only_back
