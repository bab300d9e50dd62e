-- What the code answers about a collection, for every schema and all binders that the scope stands for.
use Rattle.std.specs.Prelude.{ℕ, List, Option, Result}
use Rattle.definition.specs.Tree as Tree
use Rattle.definition.specs.Tree.{Text, string}
use Rattle.reference.specs.Path.{split}
use Rattle.reference.specs.Setting.{Setting, name_of}
use Rattle.reference.specs.Reference as Reference
use Rattle.reference.specs.Reference.{Environment, collection_in, collection_named, collection}
use Rattle.schema.specs.Slot.{HolderAt}
use Rattle.schema.specs.Read.{SchemaAt}
use Rattle.schema.specs.declared.index.Holder.{Holder}
use Rattle.walk.specs.Dots.{Ends}
use Rattle.walk.specs.Answers.{CollectedIs}
use Rattle.scope.specs.Scopes.{ScopeAt}
use Rattle.scope.specs.declared.binder.Scope.{Scope}
use Rattle.walk.specs.declared.answer.CollectionFault.{CollectionFault}

-- a path after the record or the arguments
pub record RootCollects (sheet words : List ℕ) (at : ℕ) (h : Holder) (path : Text) (r : Result (Option ℕ) (CollectionFault × ℕ)) : Type 0 where
  pub leads : (t : Tree.Holder) → HolderAt sheet words h t
      → CollectedIs sheet words r (collection_in (Reference.root at t) (split path).first (split path).others)

-- a reference whose name, of `end` bytes, is not a binder's
pub record NameCollects (sheet words : List ℕ) (scope : Scope) (text : Text) (end : ℕ) (r : Result (Option ℕ) (CollectionFault × ℕ)) : Type 0 where
  pub leads : (t : Tree.Schema) → SchemaAt sheet words scope.schema t → Ends text end
      → CollectedIs sheet words r (collection_named t (name_of (split text).first) (split text).others)

-- the text of an `in` value, as `collection_element` reads it
pub record CollectionIs (sheet rule words : List ℕ) (scope : Scope) (text : Text) (r : Result (Option ℕ) (CollectionFault × ℕ)) : Type 0 where
  pub leads : (setting : Setting) (t : Tree.Schema) (env : Environment) (e : ℕ) → ScopeAt sheet rule words scope setting t env
      → CollectedIs sheet words r (collection t env (string e text))
