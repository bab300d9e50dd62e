-- What a caller reads off a run: which refusals are heard, and what the list holds after each answer.
use Rattle.std.specs.Prelude.{ℕ, true, ◌≡◌, eqb, get_or}
use Rattle.std.proofs.Common.{arith, ap, ◌∙◌, eqb-true}
use mathlib.Core.List.{List, [], ◌∷◌}
use Rattle.std.proofs.Math.Option.{Option, none, some}
use Rattle.std.proofs.Math.Path.{refl}
use Rattle.std.proofs.Math.Seq.{sets}
use Rattle.text.specs.CaseLaws.{by-test}
use Rattle.buffer.specs.Bytes.{bytes_of, InFourBytes, no_more, one_more}
use Rattle.buffer.specs.BytesLaws.{field-written, past-written}
use Rattle.reference.specs.Setting.{one_of}
use Rattle.validation.specs.Openings.{max_marks}
use Rattle.call.specs.Call.{Reply, refused_by, told, if_told, numbers_with}
use Rattle.call.proofs.CallLaws.{AllWithin}
use Rattle.openings.specs.Call.{OpenCall, open_refusal_numbers, open_heard_numbers, opens, nothing_helps, open_figures, or_no_marks, open_answer, MeetsOpen}
use Rattle.openings.proofs.CallLaws.{open-refusal-listed, never-2, refused-spares, set-fits}
use Rattle.openings.specs.Runs.{open_run_of, open_call_of}
use Rattle.openings.specs.FewestCalls.{ListStands}

-- The refusals: of those that are tried (`open-tries`), all but 2, which an empty label never meets.

but-2 : (n : ℕ) → one_of n open_refusal_numbers ≡ true → (n ≡ 2 → ⊥) → one_of n open_heard_numbers ≡ true
unfolding one_of open_refusal_numbers open_heard_numbers
but-2 n listed other = by-test (eqb n 2) (λ e. absurd (other (eqb-true n 2 e))) (λ e. rw e at listed)

-- a refusal is one of 1, 3, 36, 37, 38, 4 and 5
pub open-refusal-heard : (c : OpenCall) (n : ℕ) → open_answer c ≡ refused_by n → one_of n open_heard_numbers ≡ true
open-refusal-heard c n e = but-2 n (open-refusal-listed c n e) (λ same. never-2 c (e ∙ ap refused_by same))

-- The list after the call.

pub small-marks : (ns : List ℕ) → AllWithin max_marks ns → InFourBytes ns
small-marks [] h = no_more
small-marks (n ∷ ns) h = one_more {n = n} (omega (arith, h.0)) (small-marks ns h.1)

module _ (kind semantics : ℕ) (table schema rule path list scratch : List ℕ) {r path_now list_now scratch_now : List ℕ}
    (m : MeetsOpen (open_run_of kind semantics table schema rule path list scratch r path_now list_now scratch_now)) where
  pub list-stands : (set : List ℕ) → open_answer (open_call_of kind semantics table schema rule path list scratch) ≡ opens set → ListStands set r list list_now
  unfolding numbers_with open_figures if_told or_no_marks
  list-stands set e =
      let fits = set-fits (open_call_of kind semantics table schema rule path list scratch) set e in
      let written : list_now ≡ sets list 0 (bytes_of set) = rw e at m.buffers.1.0 in
      record {
        count = rw (m.result, e) refl;
        reads = λ i less. rw written (field-written set list fits.room i less (small-marks set fits.low));
        past = rw written (past-written set list fits.room);
      }

  -- after none all elements keep their values, as after a refusal (`refused-spares`)
  pub none_kept : open_answer (open_call_of kind semantics table schema rule path list scratch) ≡ nothing_helps → list_now ≡ list
  unfolding if_told or_no_marks bytes_of
  none_kept e = rw e at m.buffers.1.0

  -- by the numbers of the result: its second is 1 exactly where there is a set
  pub no-set-kept : get_or r 1 0 ≡ 0 → list_now ≡ list
  unfolding numbers_with open_figures
  no-set-kept e = by (open_answer (open_call_of kind semantics table schema rule path list scratch)) refl
    where
      by : (a : Reply (Option (List ℕ))) → open_answer (open_call_of kind semantics table schema rule path list scratch) ≡ a → list_now ≡ list
      by (refused_by n) f = (refused-spares kind semantics table schema rule path list scratch n m f).1
      by (told (some set)) f = absurd (omega (arith, rw (m.result, f) at e))
      by (told none) f = none_kept f

  pub set-stands : get_or r 1 0 ≡ 1 → (set : List ℕ) × (open_answer (open_call_of kind semantics table schema rule path list scratch) ≡ opens set) × ListStands set r list list_now
  unfolding numbers_with open_figures
  set-stands e = by (open_answer (open_call_of kind semantics table schema rule path list scratch)) refl
    where
      by : (a : Reply (Option (List ℕ))) → open_answer (open_call_of kind semantics table schema rule path list scratch) ≡ a
          → (set : List ℕ) × (open_answer (open_call_of kind semantics table schema rule path list scratch) ≡ opens set) × ListStands set r list list_now
      by (refused_by n) f = absurd (omega (arith, rw (m.result, f) at e))
      by (told (some set)) f = (set, f, list-stands set f)
      by (told none) f = absurd (omega (arith, rw (m.result, f) at e))
