-- `json_text::string::is_plain_8` meets its contract: eight bytes, all of them tested.
use Prim.Native.Nat.{◌+◌}
use Rattle.json_text.proofs.Scanning.{plain-one, plain-both}
use Rattle.json_text.proofs.string.is_plain_8.Goals as goal

pub returns : goal.returns
returns c t =
    let s = c.args.s.now in
    let i = c.args.i in
    plain-both s i 7 1 (plain-both s i 6 1 (plain-both s i 5 1 (plain-both s i 4 1 (plain-both s i 3 1 (plain-both s i 2 1 (plain-both s i 1 1 (λ e. plain-one s i (c.is_plain.ensures e))
    (λ e. plain-one s (i + 1) (c.is_plain-2.ensures e)))
    (λ e. plain-one s (i + 2) (c.is_plain-3.ensures e)))
    (λ e. plain-one s (i + 3) (c.is_plain-4.ensures e)))
    (λ e. plain-one s (i + 4) (c.is_plain-5.ensures e)))
    (λ e. plain-one s (i + 5) (c.is_plain-6.ensures e)))
    (λ e. plain-one s (i + 6) (c.is_plain-7.ensures e)))
    (λ e. plain-one s (i + 7) (c.is_plain-8.ensures e)) t
