pub mod SkipSteps
pub mod PlaceSteps
pub mod CountSteps
pub mod SheetSteps
pub mod HeadSteps
pub mod SizeSteps
pub mod EditSteps
