use borrow.Author.Rules.{rules}
use Rattle.walk.specs.Answers.{reference_detail}
use Rattle.single_check.proofs.finding.reference_detail.Goals as goal

pub returns-in-EmptyPath : goal.returns-in-EmptyPath
unfolding reference_detail
returns-in-EmptyPath c = search rules

pub returns-in-UnknownRoot : goal.returns-in-UnknownRoot
unfolding reference_detail
returns-in-UnknownRoot c = search rules

pub returns-in-UnknownProperty : goal.returns-in-UnknownProperty
unfolding reference_detail
returns-in-UnknownProperty c = search rules

pub returns-in-ArrayMember : goal.returns-in-ArrayMember
unfolding reference_detail
returns-in-ArrayMember c = search rules

pub returns-in-MapMember : goal.returns-in-MapMember
unfolding reference_detail
returns-in-MapMember c = search rules

pub returns-in-AfterCount : goal.returns-in-AfterCount
unfolding reference_detail
returns-in-AfterCount c = search rules

pub returns-in-AfterTag : goal.returns-in-AfterTag
unfolding reference_detail
returns-in-AfterTag c = search rules

pub returns-in-UnionMember : goal.returns-in-UnionMember
unfolding reference_detail
returns-in-UnionMember c = search rules

pub returns-in-NoCount : goal.returns-in-NoCount
unfolding reference_detail
returns-in-NoCount c = search rules

pub returns-in-NoMember : goal.returns-in-NoMember
unfolding reference_detail
returns-in-NoMember c = search rules

pub returns-in-RootNotAvailable : goal.returns-in-RootNotAvailable
unfolding reference_detail
returns-in-RootNotAvailable c = search rules

pub returns-in-NoSuchReference : goal.returns-in-NoSuchReference
unfolding reference_detail
returns-in-NoSuchReference c = search rules

pub returns-in-TextCount : goal.returns-in-TextCount
unfolding reference_detail
returns-in-TextCount c = search rules
