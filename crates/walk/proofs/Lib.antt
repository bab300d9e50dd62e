mod Dots
mod Digits
mod StepLaws
mod PathLaws
mod CollectionLaws
