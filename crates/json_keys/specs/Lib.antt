pub mod Texts
pub mod Repeats
pub mod TextLaws
pub mod DepthLaws
pub mod ScanLaws
pub mod TableLaws
