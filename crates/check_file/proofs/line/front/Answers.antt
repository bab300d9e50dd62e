-- `check_file::line::front` meets its contract.
use Prim.Native.Nat.{ℕ, ◌-◌}
use mathlib.Core.Path.{◌≡◌, ap, sym}
use lib.ListN.{take}
use lib.Seq.{take_all}
use native.Mathlib.Omega.{arith}
use Rattle.check_file.proofs.line.front.Goals as goal

pub returns-then-end-bytes : goal.returns-then-end-bytes
returns-then-end-bytes c =
    let whole : c.args.n - 0 ≡ c.args.n = omega arith in
    ap (λ (k : ℕ). take k c.args.bytes.now) whole

pub returns : goal.returns
returns c = sym (take_all c.args.n c.args.bytes.now (omega arith))
