-- What `rulecheck_version` answers: the version of the C functions (docs/FORMAT.md, "The C interface").
use Rattle.std.specs.Prelude.{ℕ, ◌+◌, ◌*◌}

abbrev pub major : ℕ
major = 0

abbrev pub minor : ℕ
minor = 3

abbrev pub patch : ℕ
patch = 0

-- all three in one number
abbrev pub version : ℕ
version = (major * 256 + minor) * 256 + patch
