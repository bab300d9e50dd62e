-- `rule::index::start_of` meets its contract: past the last word the definition reads 0 too.
use Prim.Native.Nat.{ℕ, ◌/◌}
use mathlib.Core.Path.{sym, ap}
use Rattle.rule.proofs.KeptLaws.{get_d-behind}
use Rattle.rule.proofs.index.start_of.Goals as goal

pub returns : goal.returns
returns c = ap (λ (w : ℕ). w / 4096) (sym (get_d-behind c.args.words.now c.args.i c.if-i-words.false))
