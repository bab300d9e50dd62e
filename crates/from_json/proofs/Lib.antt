mod Edges
mod Refusing
