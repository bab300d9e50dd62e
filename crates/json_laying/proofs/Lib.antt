pub mod Laying
mod OperatorNames
