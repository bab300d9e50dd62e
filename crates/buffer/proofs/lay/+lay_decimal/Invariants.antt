-- `buffer::lay::lay_decimal` meets its contract.
use Rattle.buffer.proofs.lay.+lay_decimal.Given as goal

abbrev pub decreases-lay_decimal : goal.decreases-lay_decimal
decreases-lay_decimal l = l.n
