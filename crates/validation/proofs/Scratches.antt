-- The promises about what the scratch held, applied once each to calls that differ in it as far as they may: a premise more in one of them would break its
-- instance here.
use Prim.Native.Nat.{ℕ}
use native.Mathlib.Omega.{arith}
use mathlib.Core.List.{[]}
use mathlib.Core.Path.{◌≡◌, refl, ap}
use lib.ListN.{replicate, length-replicate}
use Rattle.text.specs.Ascii.{ascii}
use Rattle.widening.specs.Widening.{kept}
use Rattle.validation.specs.Result.{Call, numbers_of, result_of, path_after, Run, call_of, Meets}
use Rattle.validation.proofs.Demands.{Demand1Scratch, demand-1-scratch, lean-scratch}
use Rattle.validation.specs.KeyPath.{key_result_of, KeyRun, key_call_of, MeetsKey}
use Rattle.validation.proofs.KeyDemands.{key-demand-1-scratch}
use Rattle.validation.proofs.Calls.{lending}
use Rattle.validation.proofs.Edges.{empty}
use Rattle.validation.proofs.Bounds.{met}
use Rattle.validation.proofs.KeyEdges.{mill, keyed}

-- A scratch of 4,096 zeros and one of 8,192 sevens.

unfoldable with : (words : ℕ) → Call
unfolding lending
with words = lending (ascii "r") 32768 words 1 2 empty met

-- the run that gives what the definitions say, whose scratch held that value
unfoldable filled : (words value : ℕ) → Run
filled words value =
    record {
      asked = (with words).asked;
      table = [];
      schema = empty;
      path_before = replicate 32768 0;
      scratch_before = replicate words value;
      marks_lent = 8192;
      result = numbers_of (result_of (with words));
      path = path_after (result_of (with words)) (replicate 32768 0);
      scratch = replicate words value;
    }

call-filled : (words value : ℕ) → with words ≡ call_of (filled words value)
unfolding with call_of filled
call-filled words value = rw (length-replicate {A = ℕ} 32768 0, length-replicate {A = ℕ} words value) refl

filled-meets : (words value : ℕ) → Meets (filled words value)
unfolding filled
filled-meets words value =
    record {
      result = ap (λ (c : Call). numbers_of (result_of c)) (call-filled words value);
      path = ap (λ (c : Call). path_after (result_of c) (replicate 32768 0)) (call-filled words value);
      scratch = record { size = refl; kept = refl };
    }

lean : Demand1Scratch (filled 4096 0) (filled 8192 7)
unfolding filled with
lean =
    lean-scratch (filled 4096 0) (filled 8192 7)
    (record { asked = refl; table = refl; schema = refl; path_before = refl; marks_lent = refl })
    (omega (arith, length-replicate {A = ℕ} 4096 0))
    (omega (arith, length-replicate {A = ℕ} 8192 7))
    (filled-meets 4096 0)
    (filled-meets 8192 7)

-- and two that are both too short
short : Demand1Scratch (filled 4095 0) (filled 0 7)
unfolding filled with
short =
    demand-1-scratch (filled 4095 0) (filled 0 7)
    (record { asked = refl; table = refl; schema = refl; path_before = refl; marks_lent = refl })
    refl
    (filled-meets 4095 0)
    (filled-meets 0 7)

-- The same for a path of `$fields`.

unfoldable key_filled : (words value : ℕ) → KeyRun
key_filled words value =
    record {
      semantics = 2;
      reader = 2;
      path = ascii "name.count";
      schema = mill;
      scratch_before = replicate words value;
      result = numbers_of (key_result_of (keyed 2 2 (ascii "name.count") mill words));
      scratch = replicate words value;
    }

key-filled-meets : (words value : ℕ) → MeetsKey (key_filled words value)
unfolding key_filled key_call_of keyed
key-filled-meets words value =
    record { result = rw (length-replicate {A = ℕ} words value) refl; scratch = record { size = refl; kept = refl } }

key-lean : (key_filled 4096 0).result ≡ (key_filled 8192 7).result
unfolding key_filled
key-lean =
    key-demand-1-scratch (key_filled 4096 0) (key_filled 8192 7)
    (record {
      semantics = refl;
      reader = refl;
      path = refl;
      schema = refl;
      room = refl;
    })
    (key-filled-meets 4096 0)
    (key-filled-meets 8192 7)

key-short : (key_filled 4095 0).result ≡ (key_filled 0 7).result
unfolding key_filled
key-short =
    key-demand-1-scratch (key_filled 4095 0) (key_filled 0 7)
    (record { semantics = refl; reader = refl; path = refl; schema = refl; room = refl })
    (key-filled-meets 4095 0)
    (key-filled-meets 0 7)
