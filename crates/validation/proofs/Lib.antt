pub mod RefusalLaws
pub mod KeptLaws
pub mod LoadingLaws
pub mod CheckLaws
pub mod WideningLaws
pub mod CountLaws
pub mod DemandLaws
pub mod Demands
pub mod Upgrade
pub mod KernelLaws
pub mod KeyLaws
pub mod KeyDemands
pub mod ServiceLaws
pub mod ServiceCallLaws
pub mod KernelToService
pub mod ConstantLaws
pub mod MarkingLaws
pub mod OpeningLaws
pub mod RisingLaws
pub mod LeastLaws
pub mod RoundLaws
pub mod FewestLaws
pub mod CollectionDetails
pub mod Calls
pub mod Runs
pub mod Edges
pub mod Bounds
pub mod KeyEdges
pub mod Widened
pub mod Slips
pub mod ShutOut
pub mod Moves
pub mod TableEdges
mod MemberOrder
pub mod ConstantEdges
pub mod MarkEdges
pub mod OpeningEdges
mod Scratches
mod Functions
mod Refused
