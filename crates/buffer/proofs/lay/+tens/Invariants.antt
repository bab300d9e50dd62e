-- `buffer::lay::tens` meets its contract.
use Rattle.buffer.proofs.lay.+tens.Given as goal

abbrev pub decreases-tens : goal.decreases-tens
decreases-tens l = l.n
