-- The promise about what lent buffers held, applied to wall sheets that differ in them as far as they may: a premise more would break its instance here.
use Prim.Native.Nat.{ℕ}
use native.Mathlib.Omega.{arith}
use mathlib.Core.List.{List, []}
use mathlib.Core.Path.{◌≡◌, refl}
use lib.ListN.{replicate, length-replicate}
use Rattle.text.specs.Ascii.{ascii}
use Rattle.validation.specs.Result.{Answer, path_bytes, scratch_words}
use Rattle.validation.proofs.Edges.{empty}
use Rattle.call.specs.Call.{Reply, free_if_told, Run}
use Rattle.call.proofs.CallLaws.{least, least-left}
use Rattle.wall.specs.Wall.{WallCall, pages_left, wall_answer, wall_numbers, MeetsWall}
use Rattle.wall.specs.WallLaws.{any-buffers, lean-buffers}
use Rattle.wall.specs.Printing.{wall_run_of}

-- a page of zeros, for a book of one empty sheet
abbrev pages : List ℕ
pages = replicate 4860 0

module _ (path words value : ℕ) where
  abbrev asking : (r path_now pages_now scratch_now : List ℕ) → Run WallCall
  asking = wall_run_of 1 2 (ascii "r") [] empty (ascii "0,") (replicate path value) pages (replicate words value)

  unfoldable reply : Reply (List Answer)
  reply = wall_answer (asking [] [] [] []).call

  unfoldable printed : List ℕ
  printed = least (pages_left reply) pages

  meets : MeetsWall (asking (wall_numbers reply) (least (free_if_told path_bytes reply) (replicate path value)) printed (least (free_if_told scratch_words reply) (replicate words value)))
  unfolding reply printed
  meets =
      record {
        result = refl;
        buffers = (
          least-left (free_if_told path_bytes reply) (replicate path value),
          (least-left (pages_left reply) pages, (least-left (free_if_told scratch_words reply) (replicate words value), tt)),
        );
      }

-- a scratch of 4,096 zeros, and one of 8,192 sevens with a longer path buffer
lean : (wall_numbers (reply 32768 4096 0) ≡ wall_numbers (reply 40000 8192 7)) × (printed 32768 4096 0 ≡ printed 40000 8192 7)
lean =
    lean-buffers 1 2 (ascii "r") [] empty (ascii "0,") pages (meets 32768 4096 0) (meets 40000 8192 7)
    (omega (arith, length-replicate {A = ℕ} 32768 0))
    (omega (arith, length-replicate {A = ℕ} 4096 0))
    (omega (arith, length-replicate {A = ℕ} 40000 7))
    (omega (arith, length-replicate {A = ℕ} 8192 7))

-- two that are both too short
short : (wall_numbers (reply 32768 4095 0) ≡ wall_numbers (reply 0 8192 7)) × (printed 32768 4095 0 ≡ printed 0 8192 7)
short = any-buffers 1 2 (ascii "r") [] empty (ascii "0,") pages (meets 32768 4095 0) (meets 0 8192 7) refl
