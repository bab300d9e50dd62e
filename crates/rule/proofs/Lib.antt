mod CloseLaws
mod ConditionAnswers
mod ConditionLaws
mod KeptLaws
mod KeyLaws
mod LeafLaws
mod PlainLaws
mod ReaderLaws
mod RuleLaws
mod SearchLaws
mod SiblingKinds
mod SiblingLaws
mod TableLaws
mod ValueAnswers
mod ValueLaws
pub mod KindSteps
pub mod NodeSteps
pub mod EntrySteps
pub mod Opening
