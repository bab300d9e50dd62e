-- `entity_rules::change::reason_number` meets its contract.
use borrow.Author.Rules.{rules}
use Rattle.widening.specs.SheetDecision.{reason_number}
use Rattle.entity_rules.proofs.change.reason_number.Goals as goal

pub returns-in-FieldMissing : goal.returns-in-FieldMissing
unfolding reason_number
returns-in-FieldMissing c = search rules

pub returns-in-KindDiffers : goal.returns-in-KindDiffers
unfolding reason_number
returns-in-KindDiffers c = search rules

pub returns-in-ItemsDiffer : goal.returns-in-ItemsDiffer
unfolding reason_number
returns-in-ItemsDiffer c = search rules

pub returns-in-TagDiffers : goal.returns-in-TagDiffers
unfolding reason_number
returns-in-TagDiffers c = search rules

pub returns-in-MarkCloses : goal.returns-in-MarkCloses
unfolding reason_number
returns-in-MarkCloses c = search rules

pub returns-in-FieldAdded : goal.returns-in-FieldAdded
unfolding reason_number
returns-in-FieldAdded c = search rules

pub returns-in-ArgumentsGo : goal.returns-in-ArgumentsGo
unfolding reason_number
returns-in-ArgumentsGo c = search rules
