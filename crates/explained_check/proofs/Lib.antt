mod SayingSteps
pub mod ExplainedSteps
pub mod Edges
pub mod StockNames
