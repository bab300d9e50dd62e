-- `buffer::put_decimal` meets its contract: all digits but the last, and the last. The measure is the number.
use Rattle.buffer.proofs.+put_decimal.Given as goal

abbrev pub decreases-put_decimal : goal.decreases-put_decimal
decreases-put_decimal l = l.n
