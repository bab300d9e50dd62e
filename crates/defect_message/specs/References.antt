-- What is said of a reference, laid into a buffer.
use Rattle.std.specs.Prelude.{ℕ, ◌≤◌, List, [], ◌++◌, ◌≡◌, length, drop}
use Rattle.std.proofs.Math.Option.{Option, get_or}
use Rattle.text.specs.Ascii.{ascii}
use Rattle.buffer.specs.Laid.{Laid}
use Rattle.definition.specs.Tree.{Text, Schema}
use Rattle.reference.specs.Path.{split}
use Rattle.reference.specs.Setting.{Setting}
use Rattle.reference.specs.Reference.{Environment}
use Rattle.scope.specs.Names.{name_is}
use Rattle.scope.specs.Scopes.{ScopeAt}
use Rattle.scope.specs.declared.name.Name.{Name}
use Rattle.scope.specs.declared.binder.Scope.{Scope}
use Rattle.message.specs.Words.{noun_of}
use Rattle.message.specs.Tell.{unknown_root, tell_reference}
use Rattle.defect_walk.specs.Tellings.{TellIs}
use Rattle.defect_walk.specs.declared.telling.Telling.{Telling}

pub record UnknownLaid (text : Text) (name : Name) (at : ℕ) (before after : List ℕ) (o next : ℕ) : Type 0 where
  pub lays : at ≤ length text → Laid before after o (unknown_root (noun_of (name_is name)) (split (drop at text)).first) next

pub record TellingLaid (sheet words : List ℕ) (kind : ℕ) (text : Text) (telling : Telling) (before after : List ℕ) (o next : ℕ) : Type 0 where
  pub lays : (x : Option Text) → TellIs sheet words kind text telling x → Laid before after o (get_or x []) next

pub record ReferenceLaid (sheet rule words : List ℕ) (scope : Scope) (kind : ℕ) (text : Text) (before after : List ℕ) (o next : ℕ) : Type 0 where
  pub lays : (setting : Setting) (tree : Schema) (env : Environment) (t : Text) → text ≡ ascii "$" ++ t → ScopeAt sheet rule words scope setting tree env
      → Laid before after o (get_or (tell_reference kind setting tree env t) []) next
