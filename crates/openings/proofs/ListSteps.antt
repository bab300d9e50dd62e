-- The list of marks: after each entry it has those that are marked so far.
use Prim.Native.Nat.{ℕ, suc, ◌+◌, ◌≤◌, ◌<◌}
use native.Mathlib.Omega.{arith}
use mathlib.Core.List.{List, [], ◌∷◌, ◌++◌}
use mathlib.Core.Path.{◌≡◌, refl, ap, ◌∙◌}
use lib.ListN.{length, get_or, length-append}
use Rattle.buffer.specs.Bytes.{little_endian, bytes_of}
use Rattle.buffer.specs.BytesLaws.{bytes-append, bytes-of-one}
use Rattle.buffer.specs.Wrote.{Wrote}
use Rattle.buffer.specs.WroteLaws.{wrote_nothing, wrote_then}
use Rattle.validation.specs.Openings.{max_marks, rising_to}
use Rattle.validation.proofs.RisingLaws.{rising-takes, rising-skips}
use Rattle.openings.specs.Rounds.{is_marked, ListedIn}
use Rattle.openings.proofs.RoundSteps.{has-mark, no-mark}

pub record Listing (marks before list : List ℕ) (count at e : ℕ) : Type 0 where
  pub few : e ≤ max_marks
  pub fewer : count ≤ e
  pub written : Wrote before list 0 (bytes_of (rising_to e (is_marked marks))) at
  pub counted : count ≡ length (rising_to e (is_marked marks))

pub listing-starts : (marks list : List ℕ) → Listing marks list list 0 0 0
unfolding bytes_of rising_to
listing-starts marks list = record { few = omega arith; fewer = omega arith; written = wrote_nothing list 0; counted = refl }

next-entry : (e : ℕ) → e + 1 ≡ suc e
next-entry e = omega arith

module _ (marks : List ℕ) (e : ℕ) where
  marked_next : (get_or marks e 0 ≡ 0 → ⊥) → rising_to (e + 1) (is_marked marks) ≡ rising_to e (is_marked marks) ++ (e ∷ [])
  marked_next h = ap (λ (n : ℕ). rising_to n (is_marked marks)) (next-entry e) ∙ rising-takes e (is_marked marks) (has-mark marks e h)

  other-next : get_or marks e 0 ≡ 0 → rising_to (e + 1) (is_marked marks) ≡ rising_to e (is_marked marks)
  other-next h = ap (λ (n : ℕ). rising_to n (is_marked marks)) (next-entry e) ∙ rising-skips e (is_marked marks) (no-mark marks e h)

module _ {marks before list : List ℕ} {count at e : ℕ} (l : Listing marks before list count at e) (low : e < max_marks) where
  pub listing-marked : {after : List ℕ} {next : ℕ} → (get_or marks e 0 ≡ 0 → ⊥) → Wrote list after at (little_endian e) next → Listing marks before after (count + 1) next (e + 1)
  listing-marked h w =
      let more = marked_next marks e h in
      let bytes : bytes_of (rising_to (e + 1) (is_marked marks)) ≡ bytes_of (rising_to e (is_marked marks)) ++ little_endian e = ap bytes_of more ∙ bytes-append (rising_to e (is_marked marks)) (e ∷ []) ∙ ap (λ (b : List ℕ). bytes_of (rising_to e (is_marked marks)) ++ b) (bytes-of-one e) in
      record {
        few = omega arith;
        fewer = omega (arith, l.fewer);
        written = rw bytes (wrote_then l.written w);
        counted = omega (arith, l.counted, ap length more, length-append (rising_to e (is_marked marks)) (e ∷ []));
      }

  pub listing-other : get_or marks e 0 ≡ 0 → Listing marks before list count at (e + 1)
  listing-other h = let same = other-next marks e h in record { few = omega arith; fewer = omega (arith, l.fewer); written = rw same l.written; counted = rw same l.counted }

-- after the last
pub listing-ends : {marks before list : List ℕ} {count at e : ℕ} → Listing marks before list count at e → max_marks ≤ e → ListedIn marks before list count
listing-ends {marks} {e = e} l h =
    let all : e ≡ max_marks = omega (arith, l.few) in
    record { written = rw all at l.written.stands; counted = rw all at l.counted }
