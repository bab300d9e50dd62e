use Prim.Native.Nat.{◌-◌, ◌≤◌}
use Rattle.name_table.proofs.Tables.{Reading}
use Rattle.name_table.proofs.read.read_table.Given as goal

abbrev pub invariant-loop-next : goal.invariant-loop-next
invariant-loop-next l = Reading l.s l.kind l.next l.at l.row l.sound
