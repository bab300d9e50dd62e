-- `sheet::entry::is_text` meets its contract: as many bytes as asked for, tested.
use Prim.Native.Nat.{◌+◌, ◌-◌}
use mathlib.Core.Bool.{true}
use mathlib.Core.Path.{◌≡◌, sym}
use native.Mathlib.Omega.{arith}
use Rattle.sheet.proofs.Chains.{text-empty, text-tested, text-short}
use Rattle.sheet.proofs.entry.is_text.Goals as goal

pub returns-then-len-eq0 : goal.returns-then-len-eq0
returns-then-len-eq0 c =
    let a = c.args in
    text-empty a.len a.s.now a.at c.requires (omega (arith, c.if-len-eq0.true))

pub is_short_ascii-requires : goal.is_short_ascii-requires
is_short_ascii-requires c = omega (arith, c.requires)

pub returns-then-is_short_ascii : goal.returns-then-is_short_ascii
returns-then-is_short_ascii c =
    let a = c.args in
    text-tested a.len a.s.now a.at c.requires c.if-len-s.true true (sym (c.is_short_ascii.ensures c.if-is_short_ascii.true))

pub returns-then-len-s : goal.returns-then-len-s
returns-then-len-s c =
    let a = c.args in
    let n : a.at + a.len - a.at ≡ a.len = omega arith in
    text-tested a.len a.s.now a.at c.requires c.if-len-s.true c.is_utf8.result (rw n at c.is_utf8.ensures)

pub returns : goal.returns
returns c =
    let a = c.args in
    text-short a.len a.s.now a.at c.requires c.if-len-s.false
