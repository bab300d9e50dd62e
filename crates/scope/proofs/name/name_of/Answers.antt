-- `scope::name::name_of` meets its contract: `fields` first.
use Rattle.text.specs.Ascii.{ascii}
use Rattle.reference.specs.Setting.{spelling}
use Rattle.scope.specs.Names.{name_is}
use Rattle.scope.proofs.NameLaws.{named-fields, named_other}
use Rattle.scope.proofs.name.name_of.Goals as goal

pub returns-then-same_bytes : goal.returns-then-same_bytes
unfolding name_is spelling ascii
returns-then-same_bytes c = named-fields _ _ c.same_bytes.ensures c.if-same_bytes.true

pub returns : goal.returns
unfolding spelling ascii
returns c = named_other _ _ c.same_bytes.ensures c.if-same_bytes.false c.other_name.result c.other_name.ensures
