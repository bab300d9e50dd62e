-- What the code finds of an `in` value that names no collection, beside what is said of it.
use Rattle.std.specs.Prelude.{ℕ, ◌≤◌, List, ◌∷◌, ◌++◌, ◌≡◌, length, drop}
use Rattle.std.proofs.Math.Option.{Option, none, some}
use Rattle.text.specs.Ascii.{ascii}
use Rattle.definition.specs.Tree as Tree
use Rattle.definition.specs.Tree.{Text, Field}
use Rattle.reference.specs.Path.{split}
use Rattle.reference.specs.Setting.{Setting, name_of}
use Rattle.reference.specs.Walk.{lookup, member_step}
use Rattle.reference.specs.Reference.{Environment, root_of, behind_first}
use Rattle.schema.specs.Slot.{SlotHolds, HolderAt}
use Rattle.schema.specs.Read.{SchemaAt}
use Rattle.schema.specs.declared.index.Holder.{Holder}
use Rattle.walk.specs.Dots.{Ends}
use Rattle.walk.specs.Answers.{collection_detail}
use Rattle.scope.specs.Scopes.{ScopeAt}
use Rattle.scope.specs.declared.binder.Scope.{Scope}
use Rattle.message.specs.Words.{in_quotes}
use Rattle.message.specs.Tell.{field_sentence, no_collection, tell_last, tell_field, no_name, collection_root_told, tell_collection_in, tell_collection_named, tell_collection_text}
use Rattle.defect_walk.specs.declared.collection_telling.CollectionTelling.{CollectionTelling}
use Rattle.defect_walk.specs.declared.collection_telling.CollectionTelling.TheVariants.{Nothing, NoName, NotAvailable, NotDeclared, NoElements, Refused}

-- what is said of a text, `behind` being what follows its first character
abbrev pub CollectIs : (sheet words : List ℕ) (text behind : Text) → CollectionTelling → Option Text → Type 0
CollectIs sheet words text behind Nothing x = x ≡ none
CollectIs sheet words text behind NoName x = x ≡ some (no_name text)
CollectIs sheet words text behind NotAvailable x = x ≡ some (in_quotes text ++ ascii " is not available here")
CollectIs sheet words text behind NotDeclared x = x ≡ some (in_quotes text ++ ascii " names nothing the schema declares")
CollectIs sheet words text behind (NoElements k) x = (f : Field) × SlotHolds sheet words k f × (x ≡ some (no_collection f))
CollectIs sheet words text behind (Refused fault at k) x =
    (f : Field) × SlotHolds sheet words k f × (at ≤ length behind) × (x ≡ some (field_sentence (collection_detail fault) (split (drop at behind)).first f))

-- the field of slot `k` as a collection
pub record ElementTells (sheet words : List ℕ) (k : ℕ) (r : CollectionTelling) : Type 0 where
  pub leads : (text behind : Text) (f : Field) → SlotHolds sheet words k f → CollectIs sheet words text behind r (tell_last f)

-- a path from the field of slot `k` on
pub record FieldTells (sheet words : List ℕ) (k : ℕ) (path : Text) (at : ℕ) (r : CollectionTelling) : Type 0 where
  pub leads : (text behind : Text) (f : Field) → at ≤ length behind → path ≡ drop at behind → SlotHolds sheet words k f
      → CollectIs sheet words text behind r (tell_field ((split path).first ∷ (split path).others) f)

-- a path after the record or the arguments
pub record RootCollects (sheet words : List ℕ) (h : Holder) (path : Text) (at : ℕ) (r : CollectionTelling) : Type 0 where
  pub leads : (text behind : Text) (t : Tree.Holder) → at ≤ length behind → path ≡ drop at behind → HolderAt sheet words h t
      → CollectIs sheet words text behind r (collection_root_told text (split path).others (member_step (lookup (split path).first t.members) t.is_open 7))

-- a reference whose name, of `end` bytes, is not a binder's
pub record NameCollects (sheet words : List ℕ) (scope : Scope) (behind : Text) (end : ℕ) (r : CollectionTelling) : Type 0 where
  pub leads : (text : Text) (t : Tree.Schema) → SchemaAt sheet words scope.schema t → Ends behind end
      → CollectIs sheet words text behind r (tell_collection_named text t (name_of (split behind).first) (split behind).others)

-- the text of an `in` value
pub record TextCollects (sheet rule words : List ℕ) (scope : Scope) (text behind : Text) (r : CollectionTelling) : Type 0 where
  pub leads : (setting : Setting) (t : Tree.Schema) (env : Environment) → behind ≡ behind_first text → ScopeAt sheet rule words scope setting t env
      → CollectIs sheet words text behind r (tell_collection_text t env text)
