-- Fields one after another in a sheet, each with all that is below it, by their entries' heads alone.
use Rattle.std.specs.Prelude.{ℕ, suc, ◌+◌, ◌≤◌, List, [], ◌≡◌, length, drop}
use Rattle.std.proofs.Math.Option.{some}
use Rattle.sheet.specs.Entries.{FieldHead, field_head}
use Rattle.definition.specs.Decode.{to_count}

-- the bytes begin with so many fields, in so many entries, and `rest` follows
pub data Fields : (pending entries : ℕ) (bytes rest : List ℕ) → Type 0 where
  passed : {rest : List ℕ} → Fields 0 0 rest rest
  entered : {pending n : ℕ} {bytes rest : List ℕ} (h : FieldHead) (others : List ℕ)
      → field_head bytes ≡ some (h, others)
      → Fields (pending + (to_count h.has_items + h.count)) n others rest
      → Fields (suc pending) (suc n) bytes rest

-- the field at `at` ends at `next`
pub record SkippedTo (s : List ℕ) (at next : ℕ) : Type 0 where
  pub skips : (n : ℕ) (rest : List ℕ) → Fields 1 n (drop at s) rest → drop next s ≡ rest
  pub within : next ≤ length s

-- from `start` on there are so many entries, up to the end of the bytes
pub record EntriesAre (s : List ℕ) (start n : ℕ) : Type 0 where
  pub counts : (p m : ℕ) → Fields p m (drop start s) [] → n ≡ m
  pub few : n ≤ length s
