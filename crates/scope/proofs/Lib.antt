mod NameLaws
mod BinderLaws
mod RootLaws
mod ReferenceLaws
mod CollectionLaws
