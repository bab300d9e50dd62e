-- What the readers of a quantifier's members answer: of one member, and of all three.
use Rattle.std.specs.Prelude.{ℕ, ◌+◌, ◌≤◌, Bool, false, cond, List, ◌++◌, ◌≡◌, eqb, length, drop, Option, Some, None}
use Rattle.std.proofs.Math.Option.{none}
use Rattle.text.specs.Reader.{Reader, ◌>>=◌}
use Rattle.text.specs.ReadAt.{ReadsTo, Refuses}
use Rattle.sheet.specs.Write.{write_operator}
use Rattle.definition.specs.Tree.{Value, Condition}
use Rattle.definition.specs.Write.{write_value, write_condition}
use Rattle.buffer.specs.Laid.{Laid}
use Rattle.json_text.specs.Json.{Text}
use Rattle.json_text.specs.Grammar.{unspaced, comma_or, value}
use Rattle.json_text.specs.BetweenAt.{MoreAt, EndAt}
use Rattle.json_text.proofs.ShapedMembers.{members_as}
use Rattle.json_rule.specs.Shape.{Part, over, bound, body, bound_of, quantifier_from}
use Rattle.json_rule.specs.Streamed.{asked, streamed, quantifier_member}
use Rattle.json_sheet.specs.Places.{part_of}

-- a member, and all of them behind the opening bracket
abbrev pub quantified_member : ℕ → Text → Reader (List ℕ) Part
quantified_member d = quantifier_member (value d) (streamed d)

abbrev pub quantified : (op depth : ℕ) → Reader (List ℕ) Condition
quantified op d = members_as (quantified_member d) >>= asked (quantifier_from op)

-- the string that is bound, however deep a value may nest there, and the head
pub record GivenBound (op : ℕ) (s : List ℕ) (at : ℕ) (before after : List ℕ) (o next end : ℕ) : Type 0 where
  pub name : Text
  pub read : (d : ℕ) → ReadsTo (value d >>= asked bound_of) s at (bound name) next
  pub lies : Laid before after o (write_operator op (length name) name) end

abbrev pub BoundIs : ℕ → List ℕ → ℕ → List ℕ → List ℕ → ℕ → Option (ℕ × ℕ) → Type 0
BoundIs op s at before after o (Some (next, end)) = GivenBound op s at before after o next end
BoundIs op s at before after o None = (d : ℕ) → Refuses (value d >>= asked bound_of) s at

-- a part, which of the three it is (1, 2 or 4, so that only one of each makes 7), and its entries
pub data Seen (op : ℕ) : Part → ℕ → List ℕ → Type 0 where
  is-over : (v : Value) → Seen op (over v) 1 (write_value v)
  is-bound : (name : Text) → Seen op (bound name) 2 (write_operator op (length name) name)
  is_body : (c : Condition) → Seen op (body c) 4 (write_condition c)

pub record GivenPart (op d : ℕ) (s : List ℕ) (at : ℕ) (before after : List ℕ) (o kind next end : ℕ) : Type 0 where
  pub part : Part
  pub bytes : List ℕ
  pub seen : Seen op part kind bytes
  pub read : ReadsTo (part_of (quantified_member d)) s at part next
  pub lies : Laid before after o bytes end

abbrev pub PartIs : (op depth : ℕ) → List ℕ → ℕ → List ℕ → List ℕ → ℕ → Option (ℕ × ℕ × ℕ) → Type 0
PartIs op d s at before after o (Some (kind, next, end)) = GivenPart op d s at before after o kind next end
PartIs op d s at before after o None = Refuses (part_of (quantified_member d)) s at

-- a part and what stands behind it
pub record Followed (behind : List ℕ → ℕ → ℕ → Type 0) (op d : ℕ) (s : List ℕ) (at : ℕ) (before after : List ℕ) (o kind next end : ℕ) : Type 0 where
  pub stop : ℕ
  pub given : GivenPart op d s at before after o kind stop end
  pub goes : behind s stop next

-- no part, or nothing that may stand behind it, or the other of a comma and the bracket
pub data Unfollowed (other : List ℕ → ℕ → ℕ → Type 0) (d : ℕ) (s : List ℕ) (at : ℕ) : Type 0 where
  unread : Refuses (part_of (quantified_member d)) s at → Unfollowed other d s at
  alone : (a : Part) (stop : ℕ) → ReadsTo (part_of (quantified_member d)) s at a stop → comma_or 0x7D (unspaced (drop stop s)) ≡ none → Unfollowed other d s at
  instead : (a : Part) (stop next : ℕ) → ReadsTo (part_of (quantified_member d)) s at a stop → other s stop next → Unfollowed other d s at

abbrev pub NextIs : (op depth : ℕ) → List ℕ → ℕ → List ℕ → List ℕ → ℕ → Option (ℕ × ℕ × ℕ) → Type 0
NextIs op d s at before after o (Some (kind, next, end)) = Followed (MoreAt 0x7D) op d s at before after o kind next end
NextIs op d s at before after o None = Unfollowed (EndAt 0x7D) d s at

abbrev pub LastIs : (op depth : ℕ) → List ℕ → ℕ → List ℕ → List ℕ → ℕ → Option (ℕ × ℕ × ℕ) → Type 0
LastIs op d s at before after o (Some (kind, next, end)) = Followed (EndAt 0x7D) op d s at before after o kind next end
LastIs op d s at before after o None = Unfollowed (MoreAt 0x7D) d s at

-- whether the second of two parts belongs in front of the first: `as` after `in`, `in` after `that`
unfoldable pub turns_pair : (first second : ℕ) → Bool
turns_pair first second = cond (eqb first 1) (eqb second 2) (cond (eqb first 4) (eqb second 1) false)

-- where the third belongs
unfoldable pub arranged : (first last : ℕ) → (x y z : List ℕ) → List ℕ
arranged first last x y z = cond (eqb last 2) (z ++ (x ++ y)) (cond (eqb last 1) (cond (eqb first 2) (x ++ (z ++ y)) (y ++ (z ++ x))) ((x ++ y) ++ z))

-- the third of three parts that were laid is there
pub record Arranged (first last : ℕ) (before after : List ℕ) (o e f end : ℕ) : Type 0 where
  pub len : length after ≡ length before
  pub lies : (start x y z : List ℕ) → Laid start before o ((x ++ y) ++ z) end
      → (o + length ((x ++ y) ++ z) ≤ length start → (f ≡ o + length (x ++ y)) × (last ≡ 1 → e ≡ o + length x))
      → Laid start after o (arranged first last x y z) end
