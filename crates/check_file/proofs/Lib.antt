mod Examples
mod Reading
mod Apart
mod Writing
mod Sizes
