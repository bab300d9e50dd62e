-- Message buffers, by computation: how long one must be, what it holds afterwards, and what stands beside it.
use Prim.Native.Nat.{ℕ}
use mathlib.Core.Bool.{cond}
use mathlib.Core.List.{List, [], ◌∷◌, ◌++◌}
use mathlib.Core.Path.{◌≡◌, refl}
use lib.ListN.{length, replicate}
use lib.Seq.{sets}
use Rattle.text.specs.Ascii.{ascii}
use Rattle.definition.specs.Tree.{Text}
use Rattle.validation.proofs.Calls.{ask, heard}
use Rattle.message.specs.Explaining.{message_in, unless_refused, message_by, fits}
use Rattle.message.proofs.Sentences.{says, every_kind}

-- 39 or 0, the message's length, and what a buffer of so many sevens holds
unfoldable into : (room : ℕ) → Text → ℕ × ℕ × List ℕ
unfolding fits
into room m = (cond (fits m (replicate room 7)) 0 39, length m, cond (fits m (replicate room 7)) (sets (replicate room 7) 0 m) (replicate room 7))

-- under `unfolding told` it computes
unfoldable told : (room kind semantics : ℕ) (sheet : List ℕ) → ℕ × ℕ × List ℕ
unfolding says heard message_in unless_refused message_by into every_kind
told room kind semantics sheet = into room (message_by (ask kind semantics every_kind sheet))

-- under kernel/1 the operator is missing
unfoldable truthy : List ℕ
truthy = ascii "R,-,-,\nC,19,0,\nV,1,0,\n"

-- the operand of `starts_with` is an array of a string with the byte 1
unfoldable control : List ℕ
control = ascii "R,-,-,\nC,16,0,\nV,5,1,a\nV,6,1,\nV,5,1," ++ (1 ∷ ascii "\n")

pub record Edges : Type 0 where
  one-short : told 5 2 1 truthy ≡ (39, 6, replicate 5 7)
  exact : told 6 2 1 truthy ≡ (0, 6, ascii "truthy")
  more : told 8 2 1 truthy ≡ (0, 6, ascii "truthy" ++ (7 ∷ 7 ∷ []))
  no_room : told 0 2 1 truthy ≡ (39, 6, [])
  -- an empty bind is a message of no bytes
  empty-bind : told 0 2 2 (ascii "R,-,-,\nC,20,0,\nV,5,9,$fields.a\nC,1,1,\n") ≡ (0, 0, [])
  control-byte : told 200 2 2 control
      ≡ into 200 (ascii "[\"\\u0001\"] is not a string, so the rule would be false at every evaluation; quote it if it is meant as text")
  -- under kernel/1 a quantifier is missing, whatever its body holds
  kernel-body : told 7 2 1 (ascii "R,-,-,\nC,20,1,q\nV,5,9,$fields.a\nC,19,0,\nV,5,4,$q.t\n") ≡ (0, 7, ascii "for_all")
  service-body : told 80 2 2 (ascii "R,-,-,\nC,20,1,q\nV,5,9,$fields.a\nC,19,0,\nV,5,4,$q.t\n")
      ≡ into 80 (ascii "'$q.t' cannot resolve: '$q' is a string field, so 't' resolves to nothing")
  -- accepted, and refused
  accepted : told 3 2 2 (ascii "R,-,-,\nC,5,0,\nV,5,9,$fields.a\n") ≡ (0, 0, replicate 3 7)
  refused : told 3 9 2 truthy ≡ (0, 0, replicate 3 7)
  malformed : told 3 2 2 [] ≡ (0, 0, replicate 3 7)

pub edges : Edges
unfolding told truthy control
edges =
    record {
      one-short = refl;
      exact = refl;
      more = refl;
      no_room = refl;
      empty-bind = refl;
      control-byte = refl;
      kernel-body = refl;
      service-body = refl;
      accepted = refl;
      refused = refl;
      malformed = refl;
    }
