use Rattle.defect_message.proofs.CollectionSteps.{text-laid}
use borrow.Author.Rules.{rules}
use Rattle.defect_message.proofs.collections.lay_collection_text.Goals as goal

pub returns : goal.returns
returns c = search (text-laid, rules)
