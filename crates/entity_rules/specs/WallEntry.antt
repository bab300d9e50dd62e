-- What `rulecheck_wall` answers, and what its three buffers hold after it (docs/FORMAT.md, "The C interface").
use Rattle.std.specs.Prelude.{ℕ, List, [], ◌∷◌, ◌≡◌}
use Rattle.validation.specs.Result.{Answer, path_bytes}
use Rattle.call.specs.Call.{Reply, free_if_told}
use Rattle.wall.specs.Wall.{WallCall, pages_left, wall_answer, wall_numbers}
use Rattle.wall.specs.Pages.{pages_of}
use Rattle.wall.specs.WallGrowth.{WallFares}
use Rattle.host_numbers.specs.Counts.{InEightBytes, counts_after}
use Rattle.entity_rules.specs.Entry.{Handed}
use Rattle.entity_rules.specs.BookEntry.{book_call_for}
use Rattle.std.proofs.lemmas.List.Edits.{sets}
use Rattle.widening.specs.Widening.{Level}

-- two numbers of eight bytes
abbrev pub wall_bytes : ℕ
wall_bytes = 16

unfoldable pub wall_call_for : (kind semantics : ℕ) (label table schema book : List ℕ) (path_length page_length result_length : ℕ) → WallCall
wall_call_for kind semantics label table schema book path_length page_length result_length =
    record { run = book_call_for wall_bytes kind semantics label table schema book path_length result_length; pages = page_length }

unfoldable pub wall_entry_answer : (kind semantics : ℕ) (label table schema book : List ℕ) (path_length page_length result_length : ℕ) → Reply (List Answer)
wall_entry_answer kind semantics label table schema book path_length page_length result_length =
    wall_answer (wall_call_for kind semantics label table schema book path_length page_length result_length)

-- what is returned, and the buffers; since the numbers are of 64 bits, they can be read back (WallEntryLaws, `count-of-wall`)
abbrev pub WallAnswered : (answer : Reply (List Answer)) (path_before path_now pages_before pages_now result_before result_now : List ℕ) (r : ℕ) → Type 0
WallAnswered answer path_before path_now pages_before pages_now result_before result_now r =
    Handed answer (wall_numbers answer) counts_after InEightBytes (free_if_told path_bytes answer ∷ pages_left answer ∷ [])
    (record { before = path_before; after = path_now } ∷ record { before = pages_before; after = pages_now } ∷ []) result_before result_now r

pub record WallsFare (l : Level) (c c' : WallCall) (pages pages_now pages' pages_now' : List ℕ) : Type 0 where
  pub answers : List Answer
  pub answers' : List Answer
  pub printed : pages_now ≡ sets pages 0 (pages_of answers)
  pub printed' : pages_now' ≡ sets pages' 0 (pages_of answers')
  pub fares : WallFares l c c' answers answers'
