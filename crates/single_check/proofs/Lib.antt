pub mod SettingSteps
mod FindingSteps
pub mod SheetSteps
mod AnswerSteps
pub mod WholeSteps
