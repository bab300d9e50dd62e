-- What a host may rely on where it asks for the fewest marks: `rulecheck_field` gives the three numbers of the answer, and the marks in the list; elements past
-- the set keep their values, all of them after none or a refusal; and a refusal is one of 1, 3, 36, 37, 38, 4 and 5.
use Rattle.std.specs.Prelude.{ℕ, ◌*◌, ◌≤◌, ◌<◌, true, List, ◌≡◌, refl, drop}
use Rattle.std.proofs.Common.{arith, ◌∙◌, le-leb}
use Rattle.std.proofs.Math.Option.{Option}
use Rattle.std.proofs.Math.Path.{ap, sym}
use Rattle.std.proofs.Math.ListN.{length, get_or}
use Rattle.buffer.specs.Bytes.{bytes_of, field_at}
use Rattle.buffer.specs.BytesLaws.{field-written, past-written}
use Rattle.reference.specs.Setting.{one_of}
use Rattle.validation.specs.Result.{path_bytes}
use Rattle.call.specs.Call.{Reply, refused_by, if_told, is_written}
use Rattle.call.proofs.CallLaws.{if-told-written, left-alike}
use Rattle.openings.proofs.CallLaws.{lending, lending-same, three-numbers, set-fits}
use Rattle.openings.specs.Call.{open_heard_numbers, opens, nothing_helps, or_no_marks, list_left, open_numbers}
use Rattle.openings.proofs.ListLaws.{open-refusal-heard, small-marks}
use Rattle.entity_rules.specs.Entry.{HasRoom, numbers_after}
use Rattle.entity_rules.specs.HandedLaws.{returned-refused, returned-among, returned-alike, room-wide}
use Rattle.entity_rules.specs.OpenEntry.{open_bytes, open_call_for, open_entry_answer, OpenAnswered}

-- a number of the result
pub field-of-openings : {answer : Reply (Option (List ℕ))} {path_before path_now list_before list_now result_before result_now : List ℕ} {r : ℕ}
    → OpenAnswered answer path_before path_now list_before list_now result_before result_now r
    → (i : ℕ)
    → i < 3
    → open_bytes ≤ length result_before
    → field_at i result_now ≡ get_or (open_numbers answer) i 0
unfolding numbers_after
field-of-openings {answer} {result_before = result_before} a i less room =
    let three = three-numbers answer in
    let fits : 4 * length (open_numbers answer) ≤ length result_before = omega arith in
    rw (a.result, le-leb (4 * length (open_numbers answer)) (length result_before) fits) (field-written (open_numbers answer) result_before fits i (omega arith) a.small)

-- a refusal leaves path buffer and list as they were
pub openings-refused : {answer : Reply (Option (List ℕ))} {path_before path_now list_before list_now result_before result_now : List ℕ} {r n : ℕ}
    → OpenAnswered answer path_before path_now list_before list_now result_before result_now r
    → answer ≡ refused_by n
    → (path_now ≡ path_before) × (list_now ≡ list_before)
unfolding if_told
openings-refused a e = let left = rw e at a.buffers in (left.0, left.1.0)

-- a mark of the set
module _ (kind semantics : ℕ) (table schema rule : List ℕ) {path_before path_now list_before list_now result_before result_now : List ℕ} {r : ℕ}
    (a : OpenAnswered (open_entry_answer kind semantics table schema rule (length path_before) (length list_before) (length result_before)) path_before path_now list_before list_now result_before result_now r) where
  pub mark-of-openings : (set : List ℕ)
      → open_entry_answer kind semantics table schema rule (length path_before) (length list_before) (length result_before) ≡ opens set
      → (i : ℕ)
      → i < length set
      → field_at i list_now ≡ get_or set i 0
  unfolding open_entry_answer open_call_for if_told or_no_marks
  mark-of-openings set is i less =
      let fits = set-fits (open_call_for kind semantics table schema rule (length path_before) (length list_before) (length result_before)) set is in
      ap (field_at i) (rw is at a.buffers.1.0)
      ∙ field-written set list_before fits.room i less (small-marks set fits.low)

  -- the elements past the set
  pub past_of-openings : (set : List ℕ)
      → open_entry_answer kind semantics table schema rule (length path_before) (length list_before) (length result_before) ≡ opens set
      → drop (4 * length set) list_now ≡ drop (4 * length set) list_before
  unfolding open_entry_answer open_call_for if_told or_no_marks
  past_of-openings set is =
      let fits = set-fits (open_call_for kind semantics table schema rule (length path_before) (length list_before) (length result_before)) set is in
      ap (drop (4 * length set)) (rw is at a.buffers.1.0)
      ∙ past-written set list_before fits.room

  -- all of them after none
  pub kept-after-none : open_entry_answer kind semantics table schema rule (length path_before) (length list_before) (length result_before) ≡ nothing_helps → list_now ≡ list_before
  unfolding if_told or_no_marks bytes_of
  kept-after-none is = rw is at a.buffers.1.0

  -- and after a refusal, which is what is returned where that is not 0
  pub kept-after-refusal : (r ≡ 0 → ⊥) → list_now ≡ list_before
  kept-after-refusal other = (openings-refused a (returned-refused a other)).1

  pub returned-listed : (r ≡ 0 → ⊥) → one_of r open_heard_numbers ≡ true
  unfolding open_entry_answer
  returned-listed =
      returned-among a open_heard_numbers (open-refusal-heard (open_call_for kind semantics table schema rule (length path_before) (length list_before) (length result_before)))

-- With room, path buffer and result may be of any length, and what they held never matters.

module _ (kind semantics : ℕ) (table schema rule list : List ℕ) where
  openings-roomy : (path result : List ℕ)
      → HasRoom open_bytes path result
      → open_entry_answer kind semantics table schema rule (length path) (length list) (length result) ≡ open_entry_answer kind semantics table schema rule path_bytes (length list) open_bytes
  unfolding open_entry_answer open_call_for lending
  openings-roomy path result room =
      lending-same (open_call_for kind semantics table schema rule path_bytes (length list) open_bytes) _ (room-wide open_bytes path result room)

  pub openings-any-buffers : {path path_now list_now result result_now path' path_now' list_now' result' result_now' : List ℕ} {r r' : ℕ}
      → OpenAnswered (open_entry_answer kind semantics table schema rule (length path) (length list) (length result)) path path_now list list_now result result_now r
      → OpenAnswered (open_entry_answer kind semantics table schema rule (length path') (length list) (length result')) path' path_now' list list_now' result' result_now' r'
      → HasRoom open_bytes path result
      → HasRoom open_bytes path' result'
      → (r ≡ r') × (list_now ≡ list_now') × ((i : ℕ) → i < 3 → field_at i result_now ≡ field_at i result_now')
  unfolding is_written
  openings-any-buffers {path = path} {result = result} {path' = path'} {result' = result'} a a' room room' =
      let same = openings-roomy path result room ∙ sym (openings-roomy path' result' room') in (
        returned-alike a a' same,
        left-alike list_left (if-told-written _ (λ marks. refl)) list same a.buffers.1.0 a'.buffers.1.0,
        λ i less.
            field-of-openings a i less room.fits
            ∙ ap (λ (x : Reply (Option (List ℕ))). get_or (open_numbers x) i 0) same
            ∙ sym (field-of-openings a' i less room'.fits),
      )
