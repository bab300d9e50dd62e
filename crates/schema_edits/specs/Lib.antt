pub mod Forest
pub mod ForestLaws
pub mod Place
pub mod Size
pub mod Edit
pub mod EditLaws
