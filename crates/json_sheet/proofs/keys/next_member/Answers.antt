-- `json_sheet::keys::next_member` meets its contract.
use Rattle.json_sheet.proofs.NextKeys.{next-unnamed, next-unvalued, next_more, next-end, next-bad}
use Rattle.json_sheet.proofs.keys.next_member.Goals as goal

pub returns-in_default : goal.returns-in_default
returns-in_default c = next-unnamed c.args.s.now c.args.at (rw c.in_default.is at c.read_key.ensures)

pub returns-in_default-read_value : goal.returns-in_default-read_value
returns-in_default-read_value c = next-unvalued c.args.s.now c.args.at (rw c.in-Some.is at c.read_key.ensures) (rw c.in_default-read_value.is at c.read_value.ensures)

pub read_separator-requires : goal.read_separator-requires
read_separator-requires c = let v = rw c.in-Some-read_value.is at c.read_value.ensures in v.read.within

pub returns-in-Some-More : goal.returns-in-Some-More
returns-in-Some-More c =
    let v = rw c.in-Some-read_value.is at c.read_value.ensures in
    next_more c.args.s.now c.args.at (rw c.in-Some.is at c.read_key.ensures) v.tree v.read (rw c.in-Some-More.field-0-is at c.in-Some-More.ensures)

pub returns-in-Some-End : goal.returns-in-Some-End
returns-in-Some-End c =
    let v = rw c.in-Some-read_value.is at c.read_value.ensures in
    next-end c.args.s.now c.args.at (rw c.in-Some.is at c.read_key.ensures) v.tree v.read (rw c.in-Some-End.field-0-is at c.in-Some-End.ensures)

pub returns-in-None : goal.returns-in-None
returns-in-None c =
    let v = rw c.in-Some-read_value.is at c.read_value.ensures in
    next-bad c.args.s.now c.args.at (rw c.in-Some.is at c.read_key.ensures) v.tree v.read (rw c.in-None.is at c.read_separator.ensures)
