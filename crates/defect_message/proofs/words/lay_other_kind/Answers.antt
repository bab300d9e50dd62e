use Rattle.text.specs.Ascii.{ascii}
use Rattle.sheet.specs.FieldKinds.{kind_name}
use Rattle.defect_message.proofs.LayingLaws.{kind-last}
use Rattle.defect_message.proofs.words.lay_other_kind.Goals as goal

pub returns-in-7 : goal.returns-in-7
unfolding kind_name ascii
returns-in-7 c = rw c.in-7.is c.lay.ensures

pub returns-in-8 : goal.returns-in-8
unfolding kind_name ascii
returns-in-8 c = rw c.in-8.is c.lay-in-8.ensures

pub returns-in-9 : goal.returns-in-9
unfolding kind_name ascii
returns-in-9 c = rw c.in-9.is c.lay-in-9.ensures

pub returns-in-10 : goal.returns-in-10
unfolding kind_name ascii
returns-in-10 c = rw c.in-10.is c.lay-in-10.ensures

pub returns-in-11 : goal.returns-in-11
unfolding kind_name ascii
returns-in-11 c = rw c.in-11.is c.lay-in-11.ensures

pub returns-in_default : goal.returns-in_default
unfolding kind_name ascii
returns-in_default c = rw (kind-last _ c.requires c.in_default.in_default-own.rest.0.0.0.0.1 c.in_default.in_default-own.rest.0.0.0.1 c.in_default.in_default-own.rest.0.0.1 c.in_default.in_default-own.rest.0.1 c.in_default.in_default-own.rest.1) c.lay-in_default.ensures
