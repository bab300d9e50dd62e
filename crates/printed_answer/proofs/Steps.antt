-- Each way through the code, as a law: what is in the lent bytes is the output.
use Prim.Native.Nat.{ℕ, ◌<◌, ◌^◌}
use mathlib.Core.List.{List, []}
use mathlib.Core.Option.{none, some, map}
use mathlib.Core.Path.{◌≡◌}
use native.Mathlib.Omega.{arith}
use lib.ListN.{length, take}
use Rattle.text.specs.Parts.{part_of}
use Rattle.buffer.specs.Wrote.{Wrote}
use Rattle.buffer.specs.WroteLaws.{wrote_nothing}
use Rattle.validation.specs.Result.{path_bytes, scratch_words, result_of, numbers_of, call_of, Meets}
use Rattle.single_check.specs.Outcomes.{numbers_by}
use Rattle.single_check.specs.Sheets.{takes_of}
use Rattle.single_check.specs.Runs.{run_of}
use Rattle.single_check.specs.declared.outcome.Outcome.{Outcome}
use Rattle.single_check.specs.declared.sheets.Takes.TheVariants.{Any}
use Rattle.check_file.specs.File.{Parts, taken_apart}
use Rattle.check_file.specs.Places.{answerable, parts_at}
use Rattle.check_file.specs.declared.file.Placed.{Placed}
use Rattle.check_file.specs.Line.{line_of, numbers}
use Rattle.check_file.specs.LineLaws.{line-length}
use Rattle.check_file.specs.Output.{call_for, path_in, answered, output_of}
use Rattle.check_file.specs.OutputLaws.{output-apart, output-other, answered-run}
use Rattle.printed_answer.specs.Printed.{Printed}
use Rattle.printed_answer.specs.PrintedLaws.{path-fits}

-- a run's line is the output of its call
module _ (p : Parts) (o : Outcome) (path_before scratch_before path scratch : List ℕ) where
  pub printed-run : {before after : List ℕ} {next : ℕ}
      → length path_before ≡ path_bytes
      → length scratch_before ≡ scratch_words
      → Meets (run_of Any p.kind p.semantics p.label [] p.schema p.rule path_before scratch_before o path scratch)
      → Wrote before after 0 (line_of (numbers o.number o.family o.detail o.place o.over_place o.passed o.path_length) (take o.path_length path)) next
      → o.number < 2 ^ 32
      → o.family < 2 ^ 32
      → o.detail < 2 ^ 32
      → o.place < 2 ^ 32
      → o.over_place < 2 ^ 32
      → o.passed < 2 ^ 32
      → Printed (answered (result_of (call_for p))) before after next
  unfolding takes_of call_of call_for answered
  printed-run e f m w h1 h2 h3 h4 h5 h6 =
      let run = run_of Any p.kind p.semantics p.label [] p.schema p.rule path_before scratch_before o path scratch in
      let call : call_of run ≡ call_for p = rw (e, f) in
      let fits = path-fits (call_for p) in
      let line = answered-run p run call m (rw e fits) in
      let result-is : numbers_by o ≡ numbers_of (result_of (call_for p)) = rw call at m.result in
      let short =
      line-length o.number o.family o.detail o.place o.over_place o.passed o.path_length (path_in (result_of (call_for p))) h1 h2 h3 h4 h5 h6 in
      record { wrote = rw line w; short = rw (← result-is) (omega arith) }

pub printed-none : (file before : List ℕ) → taken_apart file ≡ none → Printed (output_of file) before before 0
printed-none file before e = rw (output-other file e) (record { wrote = wrote_nothing before 0; short = omega arith })

pub printed-apart : (file : List ℕ) (p : Placed) {label schema rule before after : List ℕ} {next : ℕ}
    → map answerable (taken_apart file) ≡ some (parts_at file p)
    → label ≡ part_of file p.label
    → schema ≡ part_of file p.schema
    → rule ≡ part_of file p.rule
    → Printed (answered (result_of (call_for (record { kind = p.kind; semantics = p.semantics; label = label; schema = schema; rule = rule })))) before after next
    → Printed (output_of file) before after next
unfolding parts_at
printed-apart file p e l s r w = rw (output-apart file p e, ← l, ← s, ← r) w
