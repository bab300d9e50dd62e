-- `check_file::line::write_line` meets its contract: eight writes, one after the other.
use lib.ListN.{take}
use Rattle.check_file.proofs.Writing.{wrote-line}
use Rattle.check_file.proofs.line.write_line.Goals as goal

pub returns : goal.returns
returns c =
    wrote-line c.args.number c.args.family c.args.detail c.args.place c.args.over c.args.passed c.args.size (take c.args.size c.args.path.now)
    c.put_field-at.ensures c.put_field-at-2.ensures c.put_field-at-3.ensures c.put_field-at-4.ensures c.put_field-at-5.ensures c.put_field-at-6.ensures
    (rw c.front.ensures at c.put-at.ensures) c.push.ensures
