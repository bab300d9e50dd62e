-- What reading a schema sheet answers, and what it leaves in the scratch.
use Rattle.std.specs.Prelude.{ℕ, ◌+◌, ◌≤◌, List, ◌≡◌, length, Option as Optional, Some, None}
use Rattle.std.proofs.Math.Option.{Option, none, some}
use Rattle.sheet.specs.Entries.{HolderHead}
use Rattle.definition.specs.Tree as Tree
use Rattle.definition.specs.Decode.{holder_of, arguments_of, decode_schema}
use Rattle.definition.specs.Write.{count_of_members}
use Rattle.schema.specs.Index.{max_slots, below_members, MembersAt}
use Rattle.schema.specs.Kept.{Kept, OthersKept}
use Rattle.schema.specs.Slot.{HolderAt}
use Rattle.schema.specs.Fields.{ahead, Moved}
use Rattle.schema.specs.declared.index.Holder.{Holder}
use Rattle.schema.specs.declared.field.Cursor.{Cursor}
use Rattle.schema.specs.declared.read.Schema.{Schema}

-- there are arguments in the index exactly if there are some in the tree
abbrev pub ArgumentsAt : (Holder → Tree.Holder → Type 0) → Optional Holder → Option Tree.Holder → Type 0
ArgumentsAt Here None none = Unit {0}
ArgumentsAt Here None (some t) = ⊥
ArgumentsAt Here (Some h) none = ⊥
ArgumentsAt Here (Some h) (some t) = Here h t

-- the index of a schema
pub record SchemaAt (sheet words : List ℕ) (s : Schema) (t : Tree.Schema) : Type 0 where
  pub fields : HolderAt sheet words s.fields t.fields
  pub arguments : ArgumentsAt (HolderAt sheet words) s.arguments t.arguments

pub record SchemaGood (sheet words : List ℕ) (s : Schema) : Type 0 where
  pub tree : Tree.Schema
  pub reads : decode_schema sheet ≡ some tree
  pub indexed : SchemaAt sheet words s tree

-- A schema: refused exactly if it is not well formed

abbrev pub SchemaIs : (sheet after : List ℕ) → Optional Schema → Type 0
SchemaIs sheet after None = decode_schema sheet ≡ none
SchemaIs sheet after (Some s) = SchemaGood sheet after s

pub record SchemaAnswer (sheet before after : List ℕ) (r : Optional Schema) : Type 0 where
  pub kept : Kept before after
  pub answer : SchemaIs sheet after r

-- The record or the arguments, in the slots after those in use

pub record HolderPlaced (sheet words : List ℕ) (h : Holder) (t : Tree.Holder) : Type 0 where
  pub marked : h.opened ≡ t.is_open
  pub counted : count_of_members t.members ≡ h.count
  pub indexed : MembersAt sheet words h.first (h.first + h.count) t.members
  pub room : h.first + (h.count + below_members t.members) ≤ max_slots

pub record HolderGood (s before after : List ℕ) (h : HolderHead) (from : Cursor) (holder : Holder) (to : Cursor) : Type 0 where
  pub tree : Tree.Holder
  pub reads : holder_of h (ahead s from) ≡ some (tree, ahead s to)
  pub placed : holder.first ≡ from.used
  pub indexed : HolderPlaced s after holder tree
  pub others : OthersKept before after 0 0 from.used to.used
  pub moved : Moved s from to 0 (holder.count + below_members tree.members)

abbrev pub HolderIs : (s before after : List ℕ) (h : HolderHead) (from : Cursor) → Optional (Holder × Cursor) → Type 0
HolderIs s before after h from None = holder_of h (ahead s from) ≡ none
HolderIs s before after h from (Some (holder, to)) = HolderGood s before after h from holder to

pub record HolderAnswer (s before after : List ℕ) (h : HolderHead) (from : Cursor) (r : Optional (Holder × Cursor)) : Type 0 where
  pub kept : Kept before after
  pub answer : HolderIs s before after h from r

pub record ArgumentsGood (s before after : List ℕ) (h : Option HolderHead) (from : Cursor) (arguments : Optional Holder) (to : Cursor) : Type 0 where
  pub tree : Option Tree.Holder
  pub reads : arguments_of h (ahead s from) ≡ some (tree, ahead s to)
  pub indexed : ArgumentsAt (HolderPlaced s after) arguments tree
  pub others : OthersKept before after 0 0 from.used to.used
  pub within : to.at ≤ length s

abbrev pub ArgumentsIs : (s before after : List ℕ) (h : Option HolderHead) (from : Cursor) → Optional (Optional Holder × Cursor) → Type 0
ArgumentsIs s before after h from None = arguments_of h (ahead s from) ≡ none
ArgumentsIs s before after h from (Some (arguments, to)) = ArgumentsGood s before after h from arguments to

pub record ArgumentsAnswer (s before after : List ℕ) (h : Option HolderHead) (from : Cursor) (r : Optional (Optional Holder × Cursor)) : Type 0 where
  pub kept : Kept before after
  pub answer : ArgumentsIs s before after h from r
