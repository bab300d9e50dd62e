pub mod ApartLaws
pub mod AsJsonLaws
pub mod BackLaws
pub mod DistinctLaws
pub mod RoundTrip
pub mod RuleStreamedLaws
pub mod ShapedLaws
pub mod StreamedLaws
pub mod WritingLaws
mod Examples
mod Shapes
mod Edges
