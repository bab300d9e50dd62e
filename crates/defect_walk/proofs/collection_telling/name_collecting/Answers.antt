use Rattle.defect_walk.proofs.CollectionLaws.{part-shorter, name-short, name-none, name-no-path, name-absent, name-rooted}
use borrow.Author.Rules.{rules}
use Rattle.defect_walk.proofs.collection_telling.name_collecting.Goals as goal

pub returns-then-text-end : goal.returns-then-text-end
returns-then-text-end c = search (name-short, rules)

pub slice_bounds-name_of-end : goal.slice_bounds-name_of-end
slice_bounds-name_of-end c = search (part-shorter, rules)

pub returns-in_default : goal.returns-in_default
returns-in_default c = search (name-none, rules)

pub returns-in-Nothing : goal.returns-in-Nothing
returns-in-Nothing c = search (name-no-path, rules)

pub returns-in-Missing : goal.returns-in-Missing
returns-in-Missing c = search (name-absent, rules)

pub returns-in-At : goal.returns-in-At
returns-in-At c = search (name-rooted, rules)
