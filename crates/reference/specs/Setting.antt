-- What a call is set to: which names its kind may read, whether that is a kind of rule, and whether the semantics is service.
-- Kinds: 1 Invariant, 2 Precondition, 3 CreateTemplate, 4 OperationTemplate, 5 OutcomeSelector, 6 CreateSelector, 7 CreateSet,
-- 8 CreateOutcomeTemplate. Semantics: 1 kernel/1, 2 service/1, 3 service/2, 4 service/3.
use Rattle.std.specs.Prelude.{ℕ, Bool, true, false, not, cond, ◌||◌, List, [], ◌∷◌, eqb}
use Rattle.std.proofs.Math.Option.{Option, none, some}
use Rattle.text.specs.Ascii.{ascii}
use Rattle.text.specs.Order.{same_bytes}
use Rattle.definition.specs.Tree.{Text}

-- the nine names, in the order of docs/FORMAT.md
pub data Name : Type 0 where
  id entity version fields state to_state from_state args old_fields : Name

-- as they are spelled after the `$`
unfoldable pub spelling : Name → Text
spelling id = ascii "id"
spelling entity = ascii "entity"
spelling version = ascii "version"
spelling fields = ascii "fields"
spelling state = ascii "state"
spelling to_state = ascii "to_state"
spelling from_state = ascii "from_state"
spelling args = ascii "args"
spelling old_fields = ascii "old_fields"

unfoldable pub named : List Name → Text → Option Name
named [] t = none
named (n ∷ ns) t = cond (same_bytes (spelling n) t) (some n) (named ns t)

unfoldable pub name_of : Text → Option Name
name_of = named (id ∷ entity ∷ version ∷ fields ∷ state ∷ to_state ∷ from_state ∷ args ∷ old_fields ∷ [])

unfoldable pub one_of : ℕ → List ℕ → Bool
one_of k [] = false
one_of k (n ∷ ns) = eqb k n || one_of k ns

-- the stock table: which kinds may read which names
unfoldable pub stock : ℕ → Name → Bool
stock kind id = true
stock kind entity = true
stock kind version = true
stock kind fields = not (one_of kind (6 ∷ 7 ∷ []))
stock kind state = not (one_of kind (2 ∷ 5 ∷ 6 ∷ []))
stock kind to_state = not (one_of kind (1 ∷ 5 ∷ 6 ∷ []))
stock kind from_state = one_of kind (2 ∷ 4 ∷ 5 ∷ [])
stock kind args = one_of kind (2 ∷ 4 ∷ 5 ∷ 6 ∷ 7 ∷ 8 ∷ [])
stock kind old_fields = one_of kind (2 ∷ 4 ∷ [])

-- which walk will resolve a path: the kernel's, or that of a projection's key
pub data Reader : Type 0 where
  kernel projection : Reader

pub record Setting : Type 0 where
  pub may_read : Name → Bool
  pub reader : Reader
  pub is_rule_kind : Bool
  pub is_service : Bool

-- of a call, under a table's row
abbrev pub setting_with : (may_read : Name → Bool) (kind semantics : ℕ) → Setting
setting_with may_read kind semantics =
    record {
      may_read = may_read;
      reader = kernel;
      is_rule_kind = one_of kind (1 ∷ 2 ∷ 5 ∷ 6 ∷ []);
      is_service = not (eqb semantics 1);
    }

unfoldable pub setting_of : (kind semantics : ℕ) → Setting
setting_of kind semantics = setting_with (stock kind) kind semantics
