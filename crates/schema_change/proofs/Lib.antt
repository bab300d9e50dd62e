mod Joins
mod EntryLaws
mod Behind
mod Skipping
mod PlaceLaws
mod SchemaLaws
mod FieldLaws
mod MemberLaws
