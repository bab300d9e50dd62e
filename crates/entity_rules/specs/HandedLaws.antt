-- What holds of every C function that hands a reply over: it returns the refusal's number, or 0 where something is told; and calls with one reply return the same.
use Rattle.std.specs.Prelude.{ℕ, true, List, ◌↔◌, ◌≡◌, length}
use Rattle.std.proofs.Common.{arith, ◌∙◌, le-leb}
use Rattle.std.proofs.Math.Path.{ap, sym}
use Rattle.reference.specs.Setting.{one_of}
use Rattle.validation.specs.Result.{are_wide, path_bytes, scratch_words}
use Rattle.validation.proofs.RefusalLaws.{are-wide}
use Rattle.call.specs.Call.{Reply, refused_by, told, number_of, Buffer, Left}
use Rattle.entity_rules.specs.Entry.{path_lent, HasRoom, Handed}

module _ {A : Type 0} {reply : Reply A} {numbers : List ℕ} {write : (numbers before : List ℕ) → List ℕ} {Fits : List ℕ → Type 0} {left : List Left} {lent : List Buffer} {result_before result_now : List ℕ} {r : ℕ}
    (h : Handed reply numbers write Fits left lent result_before result_now r) where
  -- what is returned, where it is not 0, is the refusal that is heard
  pub returned-refused : (r ≡ 0 → ⊥) → reply ≡ refused_by r
  unfolding number_of
  returned-refused other = by reply h.number
    where
      by : (x : Reply A) → r ≡ number_of x → x ≡ refused_by r
      by (refused_by n) e = ap refused_by (sym e)
      by (told a) e = absurd (other e)

  -- a number other than 0 is returned exactly where it is the refusal that is heard
  pub returned-heard : (n : ℕ) → (n ≡ 0 → ⊥) → (r ≡ n) ↔ (reply ≡ refused_by n)
  unfolding number_of
  returned-heard n other = (λ e. returned-refused (λ z. other (sym e ∙ z)) ∙ ap refused_by e, λ e. h.number ∙ ap number_of e)

  -- so what is true of every refusal that is heard is true of what is returned
  pub returned-among : (ns : List ℕ) → ((n : ℕ) → reply ≡ refused_by n → one_of n ns ≡ true) → (r ≡ 0 → ⊥) → one_of r ns ≡ true
  returned-among ns listed other = listed r (returned-refused other)

  pub returned-alike : {reply' : Reply A} {numbers' : List ℕ} {left' : List Left} {lent' : List Buffer} {result_before' result_now' : List ℕ} {r' : ℕ}
      → Handed reply' numbers' write Fits left' lent' result_before' result_now' r'
      → reply ≡ reply'
      → r ≡ r'
  unfolding number_of
  returned-alike h' same = h.number ∙ ap number_of same ∙ sym h'.number

-- what a call lends that has room is as wide as the least that it may lend
pub room-wide : (need : ℕ) (path result : List ℕ)
    → HasRoom need path result
    → are_wide (record { path = path_lent need (length path) (length result); scratch = scratch_words }) ≡ are_wide (record { path = path_lent need path_bytes need; scratch = scratch_words })
unfolding path_lent
room-wide need path result h =
    rw (le-leb need (length result) h.fits, le-leb need need (omega arith))
    (are-wide (record { path = length path; scratch = scratch_words }) h.wide (omega arith)
    ∙ sym (are-wide (record { path = path_bytes; scratch = scratch_words }) (omega arith) (omega arith)))
