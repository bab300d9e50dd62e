-- What is printed, by what the code answers: the parts of the file as it places them, and a call's run.
use Rattle.std.specs.Prelude.{ℕ, ◌≤◌, List, [], ◌≡◌, refl, length, take}
use Rattle.std.proofs.Math.Option.{Option, none, some, map}
use Rattle.std.proofs.Common.{sym, ap, ◌∙◌, arith}
use Rattle.buffer.specs.WroteLaws.{sets-front}
use Rattle.validation.specs.Result.{Answer, refused, accepted, defect, result_of, numbers_of, path_after, Run, call_of, Meets}
use Rattle.validation.proofs.RefusalLaws.{capped, capped_same}
use Rattle.check_file.specs.File.{Parts, taken_apart}
use Rattle.check_file.specs.Line.{line_of}
use Rattle.check_file.specs.Places.{too_large, parts_at, answerable}
use Rattle.check_file.specs.Output.{call_for, path_in, answered, printed, output_of}
use Rattle.check_file.specs.declared.file.Placed.{Placed}

-- a setting that is too large may stand for a larger one
answerable-same : (p : Parts) → result_of (call_for (answerable p)) ≡ result_of (call_for p)
unfolding call_for answerable capped
answerable-same p = capped_same too_large (call_for p) (omega arith)

printed-answerable : (o : Option Parts) → printed (map answerable o) ≡ printed o
unfolding printed
printed-answerable none = refl
printed-answerable (some p) = ap answered (answerable-same p)

-- A file is taken apart, or nothing is printed.

pub output-apart : (file : List ℕ) (p : Placed) → map answerable (taken_apart file) ≡ some (parts_at file p)
    → output_of file ≡ answered (result_of (call_for (parts_at file p)))
unfolding output_of printed
output-apart file p e = sym (printed-answerable (taken_apart file)) ∙ ap printed e

pub output-other : (file : List ℕ) → taken_apart file ≡ none → output_of file ≡ []
unfolding output_of printed
output-other file e = rw e

-- What a run leaves is the line that is printed, where the path fits.

path-kept : (a : Answer) (before : List ℕ) → length (path_in a) ≤ length before
    → take (numbers_of a).path_length (path_after a before) ≡ path_in a
unfolding numbers_of path_after path_in
path-kept (refused n) before fits = refl
path-kept (accepted n) before fits = refl
path-kept (defect d) before fits = sets-front d.path before fits

pub answered-run : (p : Parts) (r : Run) → call_of r ≡ call_for p → Meets r → length (path_in (result_of (call_for p))) ≤ length r.path_before
    → answered (result_of (call_for p)) ≡ line_of r.result (take r.result.path_length r.path)
unfolding answered
answered-run p r e m fits =
    let result-is = rw e at m.result in
    let path-is = rw e at m.path in
    rw (result-is, path-is, path-kept (result_of (call_for p)) r.path_before fits)
