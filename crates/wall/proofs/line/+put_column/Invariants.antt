-- `wall::line::put_column` meets its contract: all digits but the last, and the last. The measure is how many columns there are.
use Rattle.wall.proofs.line.+put_column.Given as goal

abbrev pub decreases-put_column : goal.decreases-put_column
decreases-put_column l = l.columns
