-- `scope::name::may_read` meets its contract.
use Rattle.scope.proofs.NameLaws.{read-args, read-entity, read-fields, read-from-state, read-id, read-old-fields, read-state, read-to-state, read-version}
use borrow.Author.Rules.{rules}
use Rattle.scope.proofs.name.may_read.Goals as goal

pub returns-in-Id : goal.returns-in-Id
returns-in-Id c = search (read-id, rules)

pub returns-in-Entity : goal.returns-in-Entity
returns-in-Entity c = search (read-entity, rules)

pub returns-in-Version : goal.returns-in-Version
returns-in-Version c = search (read-version, rules)

pub returns-in-Fields : goal.returns-in-Fields
returns-in-Fields c = search (read-fields, rules)

pub returns-in-State : goal.returns-in-State
returns-in-State c = search (read-state, rules)

pub returns-in-ToState : goal.returns-in-ToState
returns-in-ToState c = search (read-to-state, rules)

pub returns-in-FromState : goal.returns-in-FromState
returns-in-FromState c = search (read-from-state, rules)

pub returns-in-Args : goal.returns-in-Args
returns-in-Args c = search (read-args, rules)

pub returns-in-OldFields : goal.returns-in-OldFields
returns-in-OldFields c = search (read-old-fields, rules)
