-- The message of a defect, laid into a buffer.
use Rattle.std.specs.Prelude.{ℕ, ◌+◌, ◌≤◌, ◌<◌, List, [], ◌++◌, ◌≡◌}
use Rattle.std.proofs.Math.Option.{some, get_or}
use Rattle.text.specs.Ascii.{ascii}
use Rattle.buffer.specs.Laid.{Laid}
use Rattle.definition.specs.Tree.{Text, Schema, string, Rule}
use Rattle.definition.specs.Within.{rule_entries, RuleFrom}
use Rattle.reference.specs.Setting.{kernel, Setting}
use Rattle.reference.specs.Reference.{Environment}
use Rattle.rule.specs.Index.{ValueAt, RuleAt}
use Rattle.scope.specs.Scopes.{ScopeAt}
use Rattle.scope.specs.declared.binder.Scope.{Scope}
use Rattle.validation.specs.Check.{Check, checks}
use Rattle.validation.specs.Judge.{Failure, environment, fails_at, judge}
use Rattle.message.specs.Standing.{standing_at}
use Rattle.message.specs.Tell.{tell_reference}
use Rattle.message.specs.Message.{depth_in, message_of}

pub record ScopePlaced (sheet rule words : List ℕ) (scope : Scope) (place : ℕ) (r : Scope) : Type 0 where
  pub is : (setting : Setting) (tree : Schema) (env : Environment) (t : Rule)
      → ScopeAt sheet rule words scope setting tree []
      → scope.count ≡ 0
      → RuleAt rule words t
      → depth_in t ≤ 32
      → 2 ≤ place
      → place ≤ rule_entries t
      → environment tree (standing_at place t) ≡ some env
      → ScopeAt sheet rule words r setting tree env

pub record SaidLaid (sheet rule words : List ℕ) (scope : Scope) (kind i : ℕ) (before after : List ℕ) (o next : ℕ) : Type 0 where
  pub lays : (setting : Setting) (tree : Schema) (env : Environment) (e : ℕ) (t : Text) → ScopeAt sheet rule words scope setting tree env → ValueAt rule words i (string e (ascii "$" ++ t))
      → Laid before after o (get_or (tell_reference kind setting tree env t) []) next

-- of the check at which a verdict fails, for every rule or template that the words stand for
pub record MessageLaid (sheet rule words : List ℕ) (scope : Scope) (kind number detail place : ℕ) (before after : List ℕ) (o next : ℕ) : Type 0 where
  pub lays : (setting : Setting) (tree : Schema) (t : Rule) (passed : ℕ) (c : Check) (why : Failure)
      → ScopeAt sheet rule words scope setting tree []
      → scope.count ≡ 0
      → setting.reader ≡ kernel
      → RuleAt rule words t
      → RuleFrom 1 t
      → depth_in t ≤ 256
      → judge setting tree (checks setting t) ≡ fails_at passed c why
      → number ≡ c.number
      → detail ≡ why.detail
      → place ≡ c.place
      → Laid before after o (message_of kind setting tree t (fails_at passed c why)) next
