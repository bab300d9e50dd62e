use borrow.Author.Rules.{rules}
use Rattle.walk.specs.Answers.{collection_detail}
use Rattle.single_check.proofs.finding.collection_detail.Goals as goal

pub returns-in-NotAString : goal.returns-in-NotAString
unfolding collection_detail
returns-in-NotAString c = search rules

pub returns-in-UnknownProperty : goal.returns-in-UnknownProperty
unfolding collection_detail
returns-in-UnknownProperty c = search rules

pub returns-in-NoMember : goal.returns-in-NoMember
unfolding collection_detail
returns-in-NoMember c = search rules

pub returns-in-NotACollection : goal.returns-in-NotACollection
unfolding collection_detail
returns-in-NotACollection c = search rules

pub returns-in-NoName : goal.returns-in-NoName
unfolding collection_detail
returns-in-NoName c = search rules
