-- What the readers of the operand of `compare` answer: of one member, and of all three.
use Rattle.std.specs.Prelude.{ℕ, ◌+◌, ◌≤◌, List, [], ◌++◌, ◌≡◌, length, drop, Option, Some, None}
use Rattle.std.proofs.Math.Option.{none}
use Rattle.text.specs.Reader.{Reader, ◌>>=◌}
use Rattle.text.specs.ReadAt.{ReadsTo, Refuses}
use Rattle.definition.specs.Tree.{Value, Condition, comparison}
use Rattle.definition.specs.Write.{write_value}
use Rattle.buffer.specs.Laid.{Laid}
use Rattle.json_text.specs.Json.{Text}
use Rattle.json_text.specs.Grammar.{unspaced, comma_or, value}
use Rattle.json_text.specs.BetweenAt.{MoreAt, EndAt}
use Rattle.json_text.proofs.ShapedMembers.{members_as}
use Rattle.json_rule.specs.Shape.{Part, left, which, right, which_of, comparison_part, comparison_from}
use Rattle.json_rule.specs.Streamed.{asked}
use Rattle.json_sheet.specs.Places.{part_of}
use Rattle.json_sheet.specs.declared.comparison.Member.{Member}
use Rattle.json_sheet.specs.declared.comparison.Operand.{Operand}

-- a member, and all of them behind the opening bracket
abbrev pub compared_member : ℕ → Text → Reader (List ℕ) Part
compared_member d key = value d >>= asked (comparison_part key)

abbrev pub compared : ℕ → Reader (List ℕ) Condition
compared d = members_as (compared_member d) >>= asked comparison_from

-- the string that names a comparison, however deep a value may nest there
abbrev pub OperatorIs : List ℕ → ℕ → Option (ℕ × ℕ) → Type 0
OperatorIs s at (Some (n, next)) = ((d : ℕ) → ReadsTo (value d >>= asked which_of) s at (which n) next) × (n ≤ 6)
OperatorIs s at None = (d : ℕ) → Refuses (value d >>= asked which_of) s at

-- a part, which of the three it is (1, 2 or 4, so that only one of each makes 7), the number of its comparison, and its entries
pub data Seen : Part → (kind n : ℕ) → List ℕ → Type 0 where
  is-left : (v : Value) → Seen (left v) 1 0 (write_value v)
  is-op : (n : ℕ) → Seen (which n) 2 n []
  is_right : (v : Value) → Seen (right v) 4 0 (write_value v)

pub record GivenPart (d : ℕ) (s : List ℕ) (at : ℕ) (before after : List ℕ) (o kind n next end : ℕ) : Type 0 where
  pub part : Part
  pub bytes : List ℕ
  pub seen : Seen part kind n bytes
  pub few : n ≤ 6
  pub read : ReadsTo (part_of (compared_member d)) s at part next
  pub lies : Laid before after o bytes end

abbrev pub PartIs : ℕ → List ℕ → ℕ → List ℕ → List ℕ → ℕ → Option Member → Type 0
PartIs d s at before after o (Some m) = GivenPart d s at before after o m.kind m.op m.next m.end
PartIs d s at before after o None = Refuses (part_of (compared_member d)) s at

-- a part and what stands behind it
pub record Followed (behind : List ℕ → ℕ → ℕ → Type 0) (d : ℕ) (s : List ℕ) (at : ℕ) (before after : List ℕ) (o kind n next end : ℕ) : Type 0 where
  pub stop : ℕ
  pub given : GivenPart d s at before after o kind n stop end
  pub goes : behind s stop next

-- no part, or nothing that may stand behind it, or the other of a comma and the bracket
pub data Unfollowed (other : List ℕ → ℕ → ℕ → Type 0) (d : ℕ) (s : List ℕ) (at : ℕ) : Type 0 where
  unread : Refuses (part_of (compared_member d)) s at → Unfollowed other d s at
  alone : (a : Part) (stop : ℕ) → ReadsTo (part_of (compared_member d)) s at a stop → comma_or 0x7D (unspaced (drop stop s)) ≡ none → Unfollowed other d s at
  instead : (a : Part) (stop next : ℕ) → ReadsTo (part_of (compared_member d)) s at a stop → other s stop next → Unfollowed other d s at

abbrev pub NextIs : ℕ → List ℕ → ℕ → List ℕ → List ℕ → ℕ → Option Member → Type 0
NextIs d s at before after o (Some m) = Followed (MoreAt 0x7D) d s at before after o m.kind m.op m.next m.end
NextIs d s at before after o None = Unfollowed (EndAt 0x7D) d s at

abbrev pub LastIs : ℕ → List ℕ → ℕ → List ℕ → List ℕ → ℕ → Option Member → Type 0
LastIs d s at before after o (Some m) = Followed (EndAt 0x7D) d s at before after o m.kind m.op m.next m.end
LastIs d s at before after o None = Unfollowed (MoreAt 0x7D) d s at

-- both values, of which those from `middle` on belong in front
pub record Compared (d : ℕ) (s : List ℕ) (at : ℕ) (before after : List ℕ) (o next end middle n : ℕ) : Type 0 where
  pub lower : Value
  pub upper : Value
  pub read : ReadsTo (compared d) s at (comparison 0 n lower upper) next
  pub xs : List ℕ
  pub ys : List ℕ
  pub lies : Laid before after o (xs ++ ys) end
  pub between : o + length (xs ++ ys) ≤ length before → middle ≡ o + length xs
  pub turned : ys ++ xs ≡ write_value lower ++ write_value upper

abbrev pub ThreeIs : ℕ → List ℕ → ℕ → List ℕ → List ℕ → ℕ → Option Operand → Type 0
ThreeIs d s at before after o (Some r) = Compared d s at before after o r.next r.end r.middle r.op
ThreeIs d s at before after o None = Refuses (compared d) s at
