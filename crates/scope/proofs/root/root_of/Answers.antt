-- `scope::root::root_of` meets its contract.
use Rattle.scope.proofs.RootLaws.{root-args, root-entity, root-fields, root-from-state, root-id, root-missing, root-old-fields, root-state, root-to-state, root-version}
use borrow.Author.Rules.{rules}
use Rattle.scope.proofs.root.root_of.Goals as goal

pub returns-in_default : goal.returns-in_default
returns-in_default c = search (root-missing, rules)

pub returns-in-Fields : goal.returns-in-Fields
returns-in-Fields c = search (root-fields, rules)

pub returns-in-OldFields : goal.returns-in-OldFields
returns-in-OldFields c = search (root-old-fields, rules)

pub returns-in-Some : goal.returns-in-Some
returns-in-Some c = search (root-args, rules)

pub returns-in-Id : goal.returns-in-Id
returns-in-Id c = search (root-id, rules)

pub returns-in-Entity : goal.returns-in-Entity
returns-in-Entity c = search (root-entity, rules)

pub returns-in-Version : goal.returns-in-Version
returns-in-Version c = search (root-version, rules)

pub returns-in-State : goal.returns-in-State
returns-in-State c = search (root-state, rules)

pub returns-in-ToState : goal.returns-in-ToState
returns-in-ToState c = search (root-to-state, rules)

pub returns-in-FromState : goal.returns-in-FromState
returns-in-FromState c = search (root-from-state, rules)
