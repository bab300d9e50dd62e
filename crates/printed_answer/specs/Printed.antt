-- What is left in the lent bytes.
use Rattle.std.specs.Prelude.{ℕ, ◌≤◌, List, length}
use Rattle.buffer.specs.Wrote.{Wrote}

-- six numbers of ten digits with a comma after each, the longest path, and the line's end
abbrev pub max_output : ℕ
max_output = 32835

-- the output is at the start, as much of it as there is room for, and `next` is after it
pub record Printed (output before after : List ℕ) (next : ℕ) : Type 0 where
  pub wrote : Wrote before after 0 output next
  pub short : length output ≤ max_output
