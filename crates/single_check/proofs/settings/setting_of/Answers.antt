use borrow.Author.Rules.{rules}
use Rattle.single_check.proofs.SettingSteps.{setting-is}
use Rattle.single_check.proofs.settings.setting_of.Goals as goal

pub returns : goal.returns
returns c = search (setting-is, rules)
