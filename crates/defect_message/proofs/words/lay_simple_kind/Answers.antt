use Rattle.text.specs.Ascii.{ascii}
use Rattle.sheet.specs.FieldKinds.{kind_name}
use Rattle.defect_message.proofs.LayingLaws.{kind-array}
use Rattle.defect_message.proofs.words.lay_simple_kind.Goals as goal

pub returns-in-1 : goal.returns-in-1
unfolding kind_name ascii
returns-in-1 c = rw c.in-1.is c.lay.ensures

pub returns-in-2 : goal.returns-in-2
unfolding kind_name ascii
returns-in-2 c = rw c.in-2.is c.lay-in-2.ensures

pub returns-in-3 : goal.returns-in-3
unfolding kind_name ascii
returns-in-3 c = rw c.in-3.is c.lay-in-3.ensures

pub returns-in-4 : goal.returns-in-4
unfolding kind_name ascii
returns-in-4 c = rw c.in-4.is c.lay-in-4.ensures

pub returns-in-5 : goal.returns-in-5
unfolding kind_name ascii
returns-in-5 c = rw c.in-5.is c.lay-in-5.ensures

pub returns-in_default : goal.returns-in_default
unfolding kind_name ascii
returns-in_default c = rw (kind-array _ c.requires.0 c.requires.1 c.in_default.in_default-own.rest.0.0.0.0.1 c.in_default.in_default-own.rest.0.0.0.1 c.in_default.in_default-own.rest.0.0.1 c.in_default.in_default-own.rest.0.1 c.in_default.in_default-own.rest.1) c.lay-in_default.ensures
