-- What is read as a byte, or as so many bytes, is what was written, and is read back.
use Rattle.std.specs.Prelude.{ℕ, List, [], ◌∷◌, ◌++◌, ◌≡◌, refl, leb, eqb, length, take, drop}
use Rattle.std.proofs.Math.Option.{none-ne-some, some-injective}
use Rattle.std.proofs.Common.{sym, ap, arith, take-append-drop, length-append, length-take-le, leb-true, le-leb, eqb-true, eq-eqb}
use Rattle.std.proofs.Math.Seq.{take-append_seam, drop-append_seam}
use Rattle.text.specs.ByteReaders.{byte, bytes}
use Rattle.text.specs.ReaderLaws.{Reads}
use Rattle.text.specs.CaseLaws.{by-test}

pub byte-sound : (b : ℕ) (s : List ℕ) (a : Unit {0}) (t : List ℕ) → Reads (byte b) s a t → s ≡ b ∷ t
unfolding byte
byte-sound b [] a t e = absurd (none-ne-some _ e)
byte-sound b (x ∷ s) a t e =
    by-test (eqb x b)
    (λ q.
    rw (eqb-true x b q)
    (ap (λ (r : Unit {0} × List ℕ). b ∷ r.1) (some-injective (tt, s) (a, t) (rw q at e))))
    (λ q. absurd (none-ne-some (a, t) (rw q at e)))

pub byte-complete : (b : ℕ) (t : List ℕ) → Reads (byte b) (b ∷ t) tt t
unfolding byte
byte-complete b t = rw (eq-eqb b b refl)

pub bytes-sound : (n : ℕ) (s x t : List ℕ) → Reads (bytes n) s x t → (s ≡ x ++ t) × (length x ≡ n)
unfolding bytes
bytes-sound n s x t e =
    by-test (leb n (length s))
    (λ q.
    let r = some-injective (take n s, drop n s) (x, t) (rw q at e) in
    let q₀ = ap (λ (r : List ℕ × List ℕ). r.0) r in
    let q₁ = ap (λ (r : List ℕ × List ℕ). r.1) r in
    rw (← q₀, ← q₁) (sym (take-append-drop n s), length-take-le n s (leb-true n (length s) q)))
    (λ q. absurd (none-ne-some (x, t) (rw q at e)))

pub bytes-complete : (x t : List ℕ) → Reads (bytes (length x)) (x ++ t) x t
unfolding bytes
bytes-complete x t =
    rw (le-leb (length x) (length (x ++ t)) (simp length-append (omega arith)), take-append_seam x t, drop-append_seam x t)
