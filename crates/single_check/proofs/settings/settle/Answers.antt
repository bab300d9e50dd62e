use Rattle.single_check.proofs.SettingSteps.{table-bad, table-sets, table-unsound}
use Rattle.single_check.proofs.settings.settle.Goals as goal

pub returns-in_default : goal.returns-in_default
returns-in_default c =
    table-bad c.args.kind c.args.semantics c.args.table.now (rw c.in_default.is at c.lent_table.ensures)

pub returns-then-sound : goal.returns-then-sound
returns-then-sound c =
    let has = rw c.in-Some.is at c.lent_table.ensures in
    table-sets c.args.kind c.args.semantics c.args.table.now has _ c.if-sound.true c.setting_of.ensures

pub returns : goal.returns
returns c =
    let has = rw c.in-Some.is at c.lent_table.ensures in
    table-unsound c.args.kind c.args.semantics c.args.table.now has c.if-sound.false
