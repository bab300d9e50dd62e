pub mod Fares
pub mod FareLaws
pub mod RoundTrip
pub mod SizeLaws
pub mod Numbered
pub mod LimitLaws
pub mod SoundLaws
pub mod FitLaws
