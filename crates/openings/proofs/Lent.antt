-- The promise about what lent buffers held, applied to calls that differ in them as far as they may: a premise more would break its instance here.
use Prim.Native.Nat.{ℕ}
use native.Mathlib.Omega.{arith}
use mathlib.Core.List.{List, []}
use mathlib.Core.Option.{Option}
use mathlib.Core.Path.{◌≡◌, refl}
use lib.ListN.{replicate, length-replicate}
use Rattle.text.specs.Ascii.{ascii}
use Rattle.validation.specs.Result.{path_bytes}
use Rattle.call.specs.Call.{Reply, free_if_told, Run}
use Rattle.call.proofs.CallLaws.{least, least-left}
use Rattle.openings.specs.Call.{OpenCall, list_left, scratch_left, open_answer, open_numbers, MeetsOpen}
use Rattle.openings.proofs.CallLaws.{any-buffers, lean-buffers}
use Rattle.openings.specs.Runs.{open_run_of}

-- a closed record, and a template that reads a field which it does not have
unfoldable shut : List ℕ
shut = ascii "H,0,0,-,0\n"

unfoldable reads : List ℕ
reads = ascii "T\nV,5,9,$fields.x\n"

abbrev list : List ℕ
list = replicate 4100 0

module _ (path words value : ℕ) where
  abbrev asking : (r path_now list_now scratch_now : List ℕ) → Run OpenCall
  asking = open_run_of 1 2 [] shut reads (replicate path value) list (replicate words value)

  unfoldable reply : Reply (Option (List ℕ))
  reply = open_answer (asking [] [] [] []).call

  unfoldable listed : List ℕ
  listed = least (list_left reply) list

  meets : MeetsOpen (asking (open_numbers reply) (least (free_if_told path_bytes reply) (replicate path value)) listed (least (scratch_left reply) (replicate words value)))
  unfolding reply listed
  meets =
      record {
        result = refl;
        buffers = (
          least-left (free_if_told path_bytes reply) (replicate path value),
          (least-left (list_left reply) list, (least-left (scratch_left reply) (replicate words value), tt)),
        );
      }

-- a scratch of 4,096 zeros, and one of 8,192 sevens with a longer path buffer
lean : (open_numbers (reply 32768 4096 0) ≡ open_numbers (reply 40000 8192 7)) × (listed 32768 4096 0 ≡ listed 40000 8192 7)
lean =
    lean-buffers 1 2 [] shut reads list (meets 32768 4096 0) (meets 40000 8192 7)
    (omega (arith, length-replicate {A = ℕ} 32768 0))
    (omega (arith, length-replicate {A = ℕ} 4096 0))
    (omega (arith, length-replicate {A = ℕ} 40000 7))
    (omega (arith, length-replicate {A = ℕ} 8192 7))

-- two that are both too short
short : (open_numbers (reply 32768 4095 0) ≡ open_numbers (reply 0 8192 7)) × (listed 32768 4095 0 ≡ listed 0 8192 7)
short = any-buffers 1 2 [] shut reads list (meets 32768 4095 0) (meets 0 8192 7) refl
