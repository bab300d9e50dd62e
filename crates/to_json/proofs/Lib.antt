mod PartLaws
mod Laying
mod Answers
