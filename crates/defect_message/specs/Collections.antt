-- What is said of an `in` value, laid into a buffer.
use Rattle.std.specs.Prelude.{ℕ, ◌≤◌, List, [], ◌++◌, ◌≡◌, length, drop}
use Rattle.std.proofs.Math.Option.{Option, get_or}
use Rattle.buffer.specs.Laid.{Laid}
use Rattle.definition.specs.Tree.{Text, Field, Schema, Value}
use Rattle.reference.specs.Path.{split}
use Rattle.reference.specs.Setting.{Setting}
use Rattle.reference.specs.Reference.{Environment}
use Rattle.rule.specs.Index.{ValueAt}
use Rattle.schema.specs.Slot.{SlotHolds}
use Rattle.walk.specs.Answers.{collection_detail}
use Rattle.walk.specs.declared.answer.CollectionFault.{CollectionFault}
use Rattle.scope.specs.Scopes.{ScopeAt}
use Rattle.scope.specs.declared.binder.Scope.{Scope}
use Rattle.message.specs.Tell.{field_sentence, tell_collection_text, tell_collection}
use Rattle.defect_walk.specs.CollectionTellings.{CollectIs}
use Rattle.defect_walk.specs.declared.collection_telling.CollectionTelling.{CollectionTelling}

pub record FieldLaid (sheet words : List ℕ) (behind : Text) (fault : CollectionFault) (at k : ℕ) (before after : List ℕ) (o next : ℕ) : Type 0 where
  pub lays : (f : Field) → SlotHolds sheet words k f → at ≤ length behind
      → Laid before after o (field_sentence (collection_detail fault) (split (drop at behind)).first f) next

pub record CollectLaid (sheet words : List ℕ) (text behind : Text) (telling : CollectionTelling) (before after : List ℕ) (o next : ℕ) : Type 0 where
  pub lays : (x : Option Text) → CollectIs sheet words text behind telling x → Laid before after o (get_or x []) next

pub record TextLaid (sheet rule words : List ℕ) (scope : Scope) (text : Text) (before after : List ℕ) (o next : ℕ) : Type 0 where
  pub lays : (setting : Setting) (tree : Schema) (env : Environment) → ScopeAt sheet rule words scope setting tree env
      → Laid before after o (get_or (tell_collection_text tree env text) []) next

pub record CollectionLaid (sheet rule words : List ℕ) (scope : Scope) (i : ℕ) (before after : List ℕ) (o next : ℕ) : Type 0 where
  pub lays : (setting : Setting) (tree : Schema) (env : Environment) (v : Value) → ScopeAt sheet rule words scope setting tree env → ValueAt rule words i v
      → Laid before after o (get_or (tell_collection tree env v) []) next
