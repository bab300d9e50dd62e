-- The promise about what lent buffers held, applied to tallies that differ in them as far as they may: a premise more would break its instance here.
use Prim.Native.Nat.{ℕ}
use native.Mathlib.Omega.{arith}
use mathlib.Core.List.{List, []}
use mathlib.Core.Path.{◌≡◌, refl}
use lib.ListN.{replicate, length-replicate}
use Rattle.text.specs.Ascii.{ascii}
use Rattle.validation.specs.Result.{path_bytes, scratch_words}
use Rattle.validation.proofs.Edges.{empty}
use Rattle.call.specs.Call.{Reply, free_if_told, Run}
use Rattle.call.proofs.CallLaws.{least, least-left}
use Rattle.rule_book.specs.Tally.{BookCall, Tally, book_answer, tally_numbers, MeetsBook}
use Rattle.rule_book.proofs.TallyLaws.{any-buffers, lean-buffers}
use Rattle.rule_book.specs.Tallying.{book_run_of}

module _ (path words value : ℕ) where
  abbrev asking : (r path_now scratch_now : List ℕ) → Run BookCall
  asking = book_run_of 1 2 (ascii "r") [] empty [] (replicate path value) (replicate words value)

  unfoldable reply : Reply Tally
  reply = book_answer (asking [] [] []).call

  meets : MeetsBook (asking (tally_numbers reply) (least (free_if_told path_bytes reply) (replicate path value)) (least (free_if_told scratch_words reply) (replicate words value)))
  unfolding reply
  meets =
      record {
        result = refl;
        buffers = (
          least-left (free_if_told path_bytes reply) (replicate path value),
          (least-left (free_if_told scratch_words reply) (replicate words value), tt),
        );
      }

-- a scratch of 4,096 zeros, and one of 8,192 sevens with a longer path buffer
lean : tally_numbers (reply 32768 4096 0) ≡ tally_numbers (reply 40000 8192 7)
lean =
    lean-buffers 1 2 (ascii "r") [] empty [] (meets 32768 4096 0) (meets 40000 8192 7)
    (omega (arith, length-replicate {A = ℕ} 32768 0))
    (omega (arith, length-replicate {A = ℕ} 4096 0))
    (omega (arith, length-replicate {A = ℕ} 40000 7))
    (omega (arith, length-replicate {A = ℕ} 8192 7))

-- two that are both too short
short : tally_numbers (reply 32768 4095 0) ≡ tally_numbers (reply 0 8192 7)
short = any-buffers 1 2 (ascii "r") [] empty [] (meets 32768 4095 0) (meets 0 8192 7) refl
