-- `json_text::string::is_plain_32` meets its contract: four eights, all of them tested.
use Rattle.json_text.proofs.Scanning.{plain-both}
use Rattle.json_text.proofs.string.is_plain_32.Goals as goal

pub returns : goal.returns
returns c t =
    let s = c.args.s.now in
    let i = c.args.i in
    plain-both s i 24 8 (plain-both s i 16 8 (plain-both s i 8 8 c.is_plain_8.ensures c.is_plain_8-2.ensures) c.is_plain_8-3.ensures) c.is_plain_8-4.ensures t
