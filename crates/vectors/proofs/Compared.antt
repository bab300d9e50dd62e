-- Comparing with the line that was written is comparing with the output; and a case counts once at most.
use Prim.Native.Nat.{ℕ, ◌-◌, ◌≤◌}
use mathlib.Core.Bool.{Bool, true, false, cond}
use mathlib.Core.List.{List}
use mathlib.Core.Path.{◌≡◌}
use native.Mathlib.Omega.{arith}
use lib.ListN.{length, take}
use Rattle.printed_answer.specs.Printed.{max_output, Printed}
use Rattle.printed_answer.specs.PrintedLaws.{printed-whole}

-- as the part `&line[0..n]` is in the code's facts
pub compared : {output before after expected : List ℕ} {n : ℕ} {r : Bool} → Printed output before after n → max_output ≤ length before
    → (r ≡ true → take (n - 0) after ≡ expected) × (take (n - 0) after ≡ expected → r ≡ true)
    → (r ≡ true → output ≡ expected) × (output ≡ expected → r ≡ true)
compared {n = n} p room same =
    let whole : n - 0 ≡ n = omega arith in
    rw (whole, printed-whole p room) at same

pub tally : (agrees : Bool) {n : ℕ} → n ≡ cond agrees 1 0 → n ≤ 1
tally true e = omega arith
tally false e = omega arith
