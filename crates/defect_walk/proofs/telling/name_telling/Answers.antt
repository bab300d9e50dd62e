use Rattle.walk.specs.DotLaws.{part_length}
use Rattle.defect_walk.proofs.TellingLaws.{name-behind, name-none, name-read, name-refused, name-rooted}
use borrow.Author.Rules.{rules}
use Rattle.defect_walk.proofs.telling.name_telling.Goals as goal

pub returns-then-text-end : goal.returns-then-text-end
returns-then-text-end c = search (name-behind, rules)

pub slice_bounds-name_of-end : goal.slice_bounds-name_of-end
slice_bounds-name_of-end c = search (part_length, rules)

pub returns-in_default : goal.returns-in_default
returns-in_default c = search (name-none, rules)

pub returns-then-end-text : goal.returns-then-end-text
returns-then-end-text c = search (name-rooted, rules)

pub returns-then-may_read : goal.returns-then-may_read
returns-then-may_read c = search (name-read, rules)

pub returns : goal.returns
returns c = search (name-refused, rules)
