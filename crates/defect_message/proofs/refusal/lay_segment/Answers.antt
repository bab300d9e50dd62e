use Rattle.text.specs.Ascii.{ascii}
use Rattle.defect_message.proofs.RefusalLaws.{says-empty, says-property, says-array, says_map, says-after-count, says-after-tag, says-union, says-no-count, says-no-member, says-root, says-unavailable, says-no-reference, says-text-count}
use Rattle.defect_message.proofs.refusal.lay_segment.Goals as goal

pub returns-in-EmptyPath : goal.returns-in-EmptyPath
unfolding ascii
returns-in-EmptyPath c = says-empty c.in-EmptyPath.is c.lay.ensures

pub returns-in-UnknownProperty : goal.returns-in-UnknownProperty
unfolding ascii
returns-in-UnknownProperty c = says-property c.in-UnknownProperty.is c.lay_both.ensures

pub returns-in-ArrayMember : goal.returns-in-ArrayMember
unfolding ascii
returns-in-ArrayMember c = says-array c.in-ArrayMember.is c.lay_both-in-ArrayMember.ensures

pub returns-in-MapMember : goal.returns-in-MapMember
unfolding ascii
returns-in-MapMember c = says_map c.in-MapMember.is c.lay_both-in-MapMember.ensures

pub returns-in-AfterCount : goal.returns-in-AfterCount
unfolding ascii
returns-in-AfterCount c = says-after-count c.in-AfterCount.is c.lay_both-in-AfterCount.ensures

pub returns-in-AfterTag : goal.returns-in-AfterTag
unfolding ascii
returns-in-AfterTag c = says-after-tag c.in-AfterTag.is c.lay_both-in-AfterTag.ensures

pub returns-in-UnionMember : goal.returns-in-UnionMember
unfolding ascii
returns-in-UnionMember c = says-union c.in-UnionMember.is c.lay_union.ensures

pub returns-in-NoCount : goal.returns-in-NoCount
unfolding ascii
returns-in-NoCount c = says-no-count c.in-NoCount.is c.lay_no_count.ensures

pub returns-in-NoMember : goal.returns-in-NoMember
unfolding ascii
returns-in-NoMember c = says-no-member c.in-NoMember.is c.lay_no_member.ensures

pub returns-in-UnknownRoot : goal.returns-in-UnknownRoot
unfolding ascii
returns-in-UnknownRoot c = says-root c.in-UnknownRoot.is c.lay_no_member-in-UnknownRoot.ensures

pub returns-in-RootNotAvailable : goal.returns-in-RootNotAvailable
unfolding ascii
returns-in-RootNotAvailable c = says-unavailable c.in-RootNotAvailable.is c.lay_no_member-in-RootNotAvailable.ensures

pub returns-in-NoSuchReference : goal.returns-in-NoSuchReference
unfolding ascii
returns-in-NoSuchReference c = says-no-reference c.in-NoSuchReference.is c.lay_no_member-in-NoSuchReference.ensures

pub returns-in-TextCount : goal.returns-in-TextCount
unfolding ascii
returns-in-TextCount c = says-text-count c.in-TextCount.is c.lay_no_member-in-TextCount.ensures
