use Rattle.text.specs.Ascii.{ascii}
use Rattle.message.specs.Words.{noun_of}
use Rattle.scope.specs.Names.{name_is}
use Rattle.buffer.specs.LaidLaws.{laid-nothing}
use native.Mathlib.Omega.{arith}
use Rattle.defect_message.proofs.words.lay_noun.Goals as goal

pub returns-in-Id : goal.returns-in-Id
unfolding name_is noun_of
returns-in-Id c = rw c.in-Id.is (laid-nothing _ _ (omega arith))

pub returns-in-Entity : goal.returns-in-Entity
unfolding name_is noun_of
returns-in-Entity c = rw c.in-Entity.is (laid-nothing _ _ (omega arith))

pub returns-in-Version : goal.returns-in-Version
unfolding name_is noun_of
returns-in-Version c = rw c.in-Version.is (laid-nothing _ _ (omega arith))

pub returns-in-Fields : goal.returns-in-Fields
unfolding name_is noun_of ascii
returns-in-Fields c = rw c.in-Fields.is c.lay.ensures

pub returns-in-State : goal.returns-in-State
unfolding name_is noun_of
returns-in-State c = rw c.in-State.is (laid-nothing _ _ (omega arith))

pub returns-in-ToState : goal.returns-in-ToState
unfolding name_is noun_of
returns-in-ToState c = rw c.in-ToState.is (laid-nothing _ _ (omega arith))

pub returns-in-FromState : goal.returns-in-FromState
unfolding name_is noun_of
returns-in-FromState c = rw c.in-FromState.is (laid-nothing _ _ (omega arith))

pub returns-in-Args : goal.returns-in-Args
unfolding name_is noun_of ascii
returns-in-Args c = rw c.in-Args.is c.lay-in-Args.ensures

pub returns-in-OldFields : goal.returns-in-OldFields
unfolding name_is noun_of ascii
returns-in-OldFields c = rw c.in-OldFields.is c.lay-in-OldFields.ensures
